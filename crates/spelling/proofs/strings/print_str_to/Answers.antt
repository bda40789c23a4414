-- `spelling::strings::print_str_to` meets its contract. The invariant: the quote and the bytes passed are written.
use borrow.Author.Rules.{rules}
use Rattle.spelling.proofs.Texts.{written-length}
use Rattle.spelling.proofs.ValueLaws.{quoted-none, quoted-more, quoted-end, quoted-room-first, quoted-room, quoted-room-last}
use Rattle.spelling.proofs.strings.print_str_to.Goals as goal

pub put_byte-after-requires : goal.put_byte-after-requires
put_byte-after-requires c = quoted-room-first _ c.requires

pub loop-b-init : goal.loop-b-init
loop-b-init c = (search rules, quoted-none _ c.args.s.now _)

pub quote_byte_to-after-requires : goal.quote_byte_to-after-requires
quote_byte_to-after-requires c = quoted-room _ _ c.loop-b-test.true c.requires c.put_byte-after.ensures c.loop-b.invariant.1

pub loop-b-preserved : goal.loop-b-preserved
loop-b-preserved c = (search rules, quoted-more _ _ c.loop-b-test.true c.loop-b.invariant.1 c.quote_byte_to-after.ensures)

pub put_byte-requires : goal.put_byte-requires
put_byte-requires c = quoted-room-last _ c.loop-b.b-index c.requires c.put_byte-after.ensures c.loop-b.invariant.1

pub shape_of-buffer : goal.shape_of-buffer
shape_of-buffer c = written-length (quoted-end _ _ c.loop-b-test.false c.put_byte-after.ensures c.loop-b.invariant.1 c.put_byte.ensures)

pub returns : goal.returns
returns c = quoted-end _ _ c.loop-b-test.false c.put_byte-after.ensures c.loop-b.invariant.1 c.put_byte.ensures
