-- `strings::decode` meets its contract. The invariant: what is decoded and stored so far, and the rest to decode, make the whole,
-- whatever the pool held before the plain bytes were put there.
use mathlib.Core.Path.{◌≡◌}
use mathlib.Core.List.{List}
use Prim.Native.Nat.{ℕ}
use lib.ListN.{length, take}
use lib.Seq.{sets}
use Rattle.strings.proofs.Pieces.{Turn}
use Rattle.strings.proofs.decode.Given as goal

abbrev pub invariant-loop-b : goal.invariant-loop-b
invariant-loop-b l = (start : List ℕ) → l.initial.pool ≡ sets start l.at (take l.plain l.raw) → Turn l.raw start l.at l.pool l.u l.n l.rest

abbrev pub decreases-loop-b : goal.decreases-loop-b
decreases-loop-b l = length l.rest
