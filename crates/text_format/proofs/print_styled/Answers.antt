-- `text_format::print_styled` meets its contract: barred, too long for the buffer, or printed.
use mathlib.Core.Path.{◌∙◌}
use Rattle.fields.specs.Fields.{styled}
use Rattle.text_format.proofs.Opened.{passed_on}
use Rattle.text_format.proofs.Prints.{empty-part, print-barred, print-short, print-made}
use Rattle.text_format.proofs.print_styled.Goals as goal

pub returns-in_err-schema : goal.returns-in_err-schema
returns-in_err-schema c = let w = print-barred _ (styled c.args.style) _ _ _ _ c.in_err-schema.ensures in record { answer = passed_on _ _ c.from_residual.ensures.1 ∙ w.answer; bytes = w.bytes }

pub print_text-n-requires : goal.print_text-n-requires
print_text-n-requires c = (rw c.in_ok-schema.ensures.rooted.same c.in_ok-schema.ensures.rooted.below, rw c.in_ok-schema.ensures.rooted.same c.in_ok-schema.ensures.valued)

pub returns-then-buffer-n : goal.returns-then-buffer-n
returns-then-buffer-n c = let w = print-short _ _ _ _ _ _ c.in_ok-schema.ensures _ _ _ _ (rw c.in_ok-schema.ensures.rooted.same at c.print_text-n.ensures) (empty-part c.print_text-n.new.buffer c.args.buffer.now c.print_text-n.auto.buffer) c.unplaced.ensures c.if-buffer-n.true in record { answer = w.answer; bytes = w.bytes }

pub print_text-requires : goal.print_text-requires
print_text-requires c = (rw c.in_ok-schema.ensures.rooted.same c.in_ok-schema.ensures.rooted.below, rw c.in_ok-schema.ensures.rooted.same c.in_ok-schema.ensures.valued)

pub returns : goal.returns
returns c = let w = print-made _ _ _ _ _ _ c.in_ok-schema.ensures _ _ _ _ (rw c.in_ok-schema.ensures.rooted.same at c.print_text-n.ensures) (empty-part c.print_text-n.new.buffer c.args.buffer.now c.print_text-n.auto.buffer) c.if-buffer-n.false _ _ (rw c.in_ok-schema.ensures.rooted.same at c.print_text.ensures) in record { answer = w.answer; bytes = w.bytes }
