-- `distinct::all_distinct` meets its contract. The invariant: the runs passed are distinct.
use Rattle.std.proofs.Common.{◌≡◌, ℕ, Bool, true, List}
use Rattle.definitions.specs.declared.Span.{Span}
use Rattle.definitions.specs.Basics.{all}
use Rattle.definitions.specs.Image.{distinct}
use Rattle.distinct.specs.Seen.{agree}
use Rattle.distinct.proofs.all_distinct.Given as goal

abbrev pub apart : (ℕ → List ℕ) → (ℕ → ℕ) → (ℕ → Span) → ℕ → Bool
apart name number run i = distinct (agree name number) (run i)

abbrev pub invariant-loop-i : goal.invariant-loop-i
invariant-loop-i g l = all l.i (apart (g.T.Table.name_of l.table) (g.T.Table.number_of l.table) (g.T.Table.run_of l.table)) ≡ true
