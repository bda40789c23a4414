-- `fields::values::print_value` meets its contract.
use mathlib.Core.Path.{sym, ap, ◌∙◌}
use Rattle.definitions.specs.Print.{quoted, number_text}
use Rattle.spelling.proofs.Texts.{as_written, as_room, then-written, room-then}
use Rattle.fields.proofs.FieldLaws.{plain-first, plain-run, plain-number}
use Rattle.fields.proofs.values.print_value.Goals as goal

pub put_slice-after-requires : goal.put_slice-after-requires
put_slice-after-requires c = plain-first _ _ _ _ c.requires.0.flat c.requires.1

pub run-requires : goal.run-requires
run-requires c = c.requires.0.inside (sym c.is_run.ensures ∙ c.if-is_run.true)

pub print_str_to-requires : goal.print_str_to-requires
print_str_to-requires c = as_room (sym (ap quoted c.run.ensures)) (room-then _ _ (as_room (plain-run _ _ _ _ (sym c.is_run.ensures ∙ c.if-is_run.true)) c.requires.1) c.put_slice-after.ensures)

pub returns-then-is_run : goal.returns-then-is_run
returns-then-is_run c = as_written (sym (plain-run _ _ _ _ (sym c.is_run.ensures ∙ c.if-is_run.true))) (then-written c.put_slice-after.ensures (as_written (ap quoted c.run.ensures) c.print_str_to.ensures))

pub print_number-requires : goal.print_number-requires
print_number-requires c = (c.requires.0.counted, as_room (sym (ap (number_text _ _ _) c.number.ensures)) (room-then _ _ (as_room (plain-number _ _ _ _ c.requires.0.flat (sym c.is_run.ensures ∙ c.if-is_run.false)) c.requires.1) c.put_slice-after.ensures))

pub returns : goal.returns
returns c = as_written (sym (plain-number _ _ _ _ c.requires.0.flat (sym c.is_run.ensures ∙ c.if-is_run.false))) (then-written c.put_slice-after.ensures (as_written (ap (number_text _ _ _) c.number.ensures) c.print_number.ensures))
