-- `lexer::tokens::integer_end` meets its contract, by its first digit.
use Prim.Native.Nat.{◌+◌}
use native.Mathlib.Omega.{arith}
use lib.ListN.{drop}
use Rattle.lexer.proofs.Laws.{decimal}
use Rattle.lexer.proofs.tokens.integer_end.Goals as goal

pub returns-then-first-eq48 : goal.returns-then-first-eq48
returns-then-first-eq48 c = rw c.if-first-eq48.true c.zero_end.ensures

pub returns : goal.returns
returns c = omega (arith, c.digits_end.ensures, decimal c.args.first (drop (c.args.at + 1) c.args.text.now) c.if-first-eq48.false)
