-- `lexer::tokens::zero_end` meets its contract, by what follows the `0`.
use Prim.Native.Nat.{◌+◌}
use native.Mathlib.Omega.{arith}
use Rattle.std.proofs.Common.{rules}
use Rattle.definitions.specs.Integers.{hex_digit}
use Rattle.lexer.proofs.Laws.{zero-hex, zero-alone, zero-octal, zero-last}
use Rattle.lexer.proofs.tokens.zero_end.Goals as goal

pub returns-then-text-x : goal.returns-then-text-x
returns-then-text-x c = omega (arith, zero-last c.args.text.now (c.args.at + 1) c.if-text-x.true)

pub returns-then-end-digits : goal.returns-then-end-digits
returns-then-end-digits c = omega (arith, c.end-end.ensures hex_digit (λ b r h. search rules), zero-alone c.args.text.now (c.args.at + 1) c.if-text-x.false c.in-120.is (omega (arith, c.end-end.ensures hex_digit (λ b r h. search rules))))

pub returns-else-end-digits : goal.returns-else-end-digits
returns-else-end-digits c = omega (arith, c.end-end.ensures hex_digit (λ b r h. search rules), zero-hex c.args.text.now (c.args.at + 1) c.if-text-x.false c.in-120.is (omega (arith, c.end-end.ensures hex_digit (λ b r h. search rules))))

pub returns-in_default : goal.returns-in_default
returns-in_default c = omega (arith, c.digits_end.ensures, zero-octal c.args.text.now (c.args.at + 1) c.if-text-x.false (λ z. omega arith))
