-- `spelling::numbers::print_decimal` meets its contract. The invariant: the digits to come, put where they belong, give what all of them give.
use mathlib.Core.Path.{◌∙◌}
use native.Mathlib.Omega.{arith}
use Rattle.laws.proofs.Decimal.{decimal-some}
use Rattle.spelling.proofs.Texts.{text-passed, written-length}
use Rattle.spelling.proofs.ValueLaws.{digits-start, digits-room, digits-length, digits-some, digits_more, digits_last}
use Rattle.spelling.proofs.numbers.print_decimal.Goals as goal

pub overflow_add-end : goal.overflow_add-end
overflow_add-end c = omega (arith, c.decimal_length.ensures, c.requires.fits)

pub returns-then-buffer-at : goal.returns-then-buffer-at
returns-then-buffer-at c = rw c.decimal_length.ensures (text-passed _ _ _ c.if-buffer-at.true)

pub overflow_sub-k : goal.overflow_sub-k
overflow_sub-k c = omega (arith, c.decimal_length.ensures, decimal-some c.args.n)

pub loop-left-init : goal.loop-left-init
loop-left-init c = rw c.decimal_length.ensures (digits-start _ _ _)

pub put_byte-requires : goal.put_byte-requires
put_byte-requires c = digits-room c.loop-left.invariant c.requires

pub overflow_sub-k-in-loop-left : goal.overflow_sub-k-in-loop-left
overflow_sub-k-in-loop-left c = digits-some c.loop-left.invariant c.loop-left-test.true

pub loop-left-preserved : goal.loop-left-preserved
loop-left-preserved c = digits_more c.loop-left.invariant c.loop-left-test.true c.put_byte.ensures

pub put_byte-requires-2 : goal.put_byte-requires-2
put_byte-requires-2 c = digits-room c.loop-left.invariant c.requires

pub shape_of-buffer : goal.shape_of-buffer
shape_of-buffer c = written-length c.put_byte-2.ensures ∙ digits-length c.loop-left.invariant

pub returns : goal.returns
returns c = rw c.decimal_length.ensures (digits_last c.loop-left.invariant c.loop-left-test.false c.put_byte-2.ensures)
