-- `fields::labels::print_label` meets its contract.
use mathlib.Core.Path.{sym, ◌∙◌}
use Rattle.spelling.proofs.Texts.{as_written, as_room}
use Rattle.fields.proofs.FieldLaws.{label-unknown, label-field, label-key, label-value, named-field}
use Rattle.fields.proofs.labels.print_label.Goals as goal

pub print_decimal-requires : goal.print_decimal-requires
print_decimal-requires c = as_room (label-unknown _ _ _ c.if-rank-ge-FIRST_UNKNOWN.true) c.requires.2

pub returns-then-rank-ge-FIRST_UNKNOWN : goal.returns-then-rank-ge-FIRST_UNKNOWN
returns-then-rank-ge-FIRST_UNKNOWN c = as_written (sym (label-unknown _ _ _ c.if-rank-ge-FIRST_UNKNOWN.true)) c.print_decimal.ensures

pub field_name-requires : goal.field_name-requires
field_name-requires c = named-field _ _ _ c.args.schema.now.known c.requires.0 c.requires.1 c.if-rank-ge-FIRST_UNKNOWN.false c.if-w-ne-ENTRY.true

pub put_slice-requires : goal.put_slice-requires
put_slice-requires c = as_room (label-field _ _ _ c.if-rank-ge-FIRST_UNKNOWN.false c.if-w-ne-ENTRY.true ∙ sym c.field_name.ensures) c.requires.2

pub returns-then-w-ne-ENTRY : goal.returns-then-w-ne-ENTRY
returns-then-w-ne-ENTRY c = as_written (sym (label-field _ _ _ c.if-rank-ge-FIRST_UNKNOWN.false c.if-w-ne-ENTRY.true ∙ sym c.field_name.ensures)) c.put_slice.ensures

pub put_slice-requires-then-rank-eq0 : goal.put_slice-requires-then-rank-eq0
put_slice-requires-then-rank-eq0 c = as_room (label-key _ _ _ c.if-rank-ge-FIRST_UNKNOWN.false c.if-w-ne-ENTRY.false c.if-rank-eq0.true) c.requires.2

pub returns-then-rank-eq0 : goal.returns-then-rank-eq0
returns-then-rank-eq0 c = as_written (sym (label-key _ _ _ c.if-rank-ge-FIRST_UNKNOWN.false c.if-w-ne-ENTRY.false c.if-rank-eq0.true)) c.put_slice-then-rank-eq0.ensures

pub put_slice-requires-2 : goal.put_slice-requires-2
put_slice-requires-2 c = as_room (label-value _ _ _ c.if-rank-ge-FIRST_UNKNOWN.false c.if-w-ne-ENTRY.false c.if-rank-eq0.false) c.requires.2

pub returns : goal.returns
returns c = as_written (sym (label-value _ _ _ c.if-rank-ge-FIRST_UNKNOWN.false c.if-w-ne-ENTRY.false c.if-rank-eq0.false)) c.put_slice-2.ensures
