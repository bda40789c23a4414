-- `fronts::end` meets its contract. The invariant: the bytes from `i` on pass as far as those from the start.
use Rattle.std.proofs.Common.{◌≡◌, ◌+◌, ℕ, Bool, drop}
use Rattle.definitions.specs.Integers.{front}
use Rattle.fronts.proofs.end.Given as goal

abbrev pub invariant-loop-i : goal.invariant-loop-i
invariant-loop-i g l = (p : ℕ → Bool) → ((b : ℕ) (r : Bool) → goal.P-post g l.passes b r → r ≡ p b) → l.i + front p (drop l.i l.s) ≡ l.at + front p (drop l.at l.s)
