-- `fields::labels::print_closing` meets its contract.
use Rattle.definitions.specs.Print.{closing}
use Rattle.spelling.proofs.Texts.{then-written}
use Rattle.fields.proofs.labels.print_closing.Goals as goal
use Rattle.fields.proofs.labels.print_closing.Goals.{in-Compact, in-Pretty}

pub returns : goal.returns
unfolding closing
returns c =
    elim c.match-style.branch [
      | in-Compact w ↦ rw (w.in-Compact.is) (rw (w.buffer-is, w.after-is) at c.put_byte.ensures)
      | in-Pretty w ↦ rw (w.in-Pretty.is) (then-written w.do_indent-after.ensures (rw (w.buffer-is, w.after-is) at c.put_byte.ensures))
    ]
