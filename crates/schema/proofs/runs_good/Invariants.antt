-- `schema::runs_good` meets its contract. The invariant: the runs passed begin at running totals, the last of which is `total`.
use mathlib.Core.Path.{◌≡◌}
use Prim.Native.Nat.{ℕ, ◌+◌, ◌*◌, ◌≤◌}
use mathlib.Core.Bool.{true}
use mathlib.Core.List.{List}
use lib.ListN.{drop}
use Rattle.definitions.specs.declared.Span.{Span}
use Rattle.definitions.specs.Basics.{all}
use Rattle.definitions.specs.Image as spec
use Rattle.definitions.specs.Image.{span_of}
use Rattle.laws.proofs.Tests.{begins}
use Rattle.schema.proofs.runs_good.Given as goal

-- the run at an index
abbrev pub at-index : List ℕ → ℕ → ℕ → Span
at-index image at i = span_of (drop (at + 3 * i) image)

pub record Passed (f : ℕ → Span) (count i total : ℕ) : Type 0 where
  pub below : i ≤ count
  pub small : total ≤ 4095 * i
  pub sum : total ≡ spec.total f i
  pub good : all i (begins f) ≡ true

abbrev pub invariant-loop-i : goal.invariant-loop-i
invariant-loop-i l = Passed (at-index l.image l.at) l.count l.i l.total
