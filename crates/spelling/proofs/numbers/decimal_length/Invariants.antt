-- `spelling::numbers::decimal_length` meets its contract. The invariant: those counted, and those to come, are the number's.
use Rattle.spelling.proofs.ValueLaws.{Counted}
use Rattle.spelling.proofs.numbers.decimal_length.Given as goal

abbrev pub invariant-loop-left : goal.invariant-loop-left
invariant-loop-left l = Counted l.n l.more l.left

abbrev pub decreases-loop-left : goal.decreases-loop-left
decreases-loop-left l = l.left
