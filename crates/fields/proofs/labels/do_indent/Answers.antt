-- `fields::labels::do_indent` meets its contract. The invariant: the levels passed are written.
use mathlib.Core.Path.{sym}
use Rattle.spelling.proofs.Texts.{as_written, none_written, written-length}
use Rattle.fields.proofs.FieldLaws.{indent-none, indent-written, indent-room, indent-all}
use Rattle.fields.proofs.labels.do_indent.Goals as goal

pub loop-level-init : goal.loop-level-init
loop-level-init c = as_written (sym indent-none) (none_written _ _)

pub put_slice-after-requires : goal.put_slice-after-requires
put_slice-after-requires c = indent-room _ _ c.loop-level-test.true c.requires c.loop-level.invariant

pub loop-level-preserved : goal.loop-level-preserved
loop-level-preserved c = indent-written _ c.loop-level.invariant c.put_slice-after.ensures

pub shape_of-buffer : goal.shape_of-buffer
shape_of-buffer c = written-length c.loop-level.invariant

pub returns : goal.returns
returns c = indent-all _ _ c.loop-level.auto._level-end c.loop-level-test.false c.loop-level.invariant
