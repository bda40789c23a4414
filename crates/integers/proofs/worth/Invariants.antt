-- `integers::worth` meets its contract. The invariant: what is read so far, with the digits left, is worth the whole, and fits.
use Rattle.integers.proofs.Digits.{Reading}
use Rattle.integers.proofs.worth.Given as goal

abbrev pub invariant-loop-b : goal.invariant-loop-b
invariant-loop-b l = Reading l.base l.digits l.n l.b-index
