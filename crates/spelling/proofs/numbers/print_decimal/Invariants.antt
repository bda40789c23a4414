-- `spelling::numbers::print_decimal` meets its contract. The invariant: the digits to come, put where they belong, give what all of them give.
use Rattle.spelling.proofs.ValueLaws.{Digits}
use Rattle.spelling.proofs.numbers.print_decimal.Given as goal

abbrev pub invariant-loop-left : goal.invariant-loop-left
invariant-loop-left l = Digits l.n l.initial.buffer l.at l.buffer l.k l.left

abbrev pub decreases-loop-left : goal.decreases-loop-left
decreases-loop-left l = l.left
