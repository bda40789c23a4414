-- `fields::labels::print_start_field` meets its contract.
use Rattle.spelling.proofs.Texts.{then-written, room-first, room-then}
use Rattle.fields.proofs.labels.print_start_field.Goals as goal

pub print_lead-after-requires : goal.print_lead-after-requires
print_lead-after-requires c = room-first _ _ c.requires.2

pub print_label-requires : goal.print_label-requires
print_label-requires c = (c.requires.0, c.requires.1, room-then _ _ c.requires.2 c.print_lead-after.ensures)

pub returns : goal.returns
returns c = then-written c.print_lead-after.ensures c.print_label.ensures
