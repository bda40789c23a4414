-- `spelling::numbers::print_signed` meets its contract.
use mathlib.Core.Path.{sym}
use Rattle.laws.proofs.Ranges.{signed_decimal-plain}
use Rattle.spelling.proofs.ValueLaws.{signed_parts}
use Rattle.spelling.proofs.Texts.{as_written, as_room, then-written, room-first, room-then}
use Rattle.spelling.proofs.numbers.print_signed.Goals as goal

pub print_decimal-requires : goal.print_decimal-requires
print_decimal-requires c = as_room (signed_decimal-plain _ c.if-n-lt9223372036854775808.true) c.requires

pub returns-then-n-lt9223372036854775808 : goal.returns-then-n-lt9223372036854775808
returns-then-n-lt9223372036854775808 c = as_written (sym (signed_decimal-plain _ c.if-n-lt9223372036854775808.true)) c.print_decimal.ensures

pub put_byte-signed-requires : goal.put_byte-signed-requires
put_byte-signed-requires c = room-first _ _ (as_room (signed_parts _ c.if-n-lt9223372036854775808.false c.ranges.n.fits) c.requires)

pub print_decimal-requires-2 : goal.print_decimal-requires-2
print_decimal-requires-2 c = room-then _ _ (as_room (signed_parts _ c.if-n-lt9223372036854775808.false c.ranges.n.fits) c.requires) c.put_byte-signed.ensures

pub returns : goal.returns
returns c = as_written (sym (signed_parts _ c.if-n-lt9223372036854775808.false c.ranges.n.fits)) (then-written c.put_byte-signed.ensures c.print_decimal-2.ensures)
