-- `fields::values::print_enum` meets its contract.
use mathlib.Core.Path.{sym, ◌∙◌}
use Rattle.spelling.proofs.Texts.{as_written, as_room, then-written, room-first, room-then}
use Rattle.fields.proofs.FieldLaws.{named-member, member-named, member-unnamed}
use Rattle.fields.proofs.values.print_enum.Goals as goal

pub put_slice-after-requires : goal.put_slice-after-requires
put_slice-after-requires c = room-first _ _ (as_room (member-unnamed _ _ _ (sym c.in-None.is ∙ c.find_number.ensures)) c.requires.1)

pub print_signed-requires : goal.print_signed-requires
print_signed-requires c = room-then _ _ (as_room (member-unnamed _ _ _ (sym c.in-None.is ∙ c.find_number.ensures)) c.requires.1) c.put_slice-after.ensures

pub returns-in-None : goal.returns-in-None
returns-in-None c = as_written (sym (member-unnamed _ _ _ (sym c.in-None.is ∙ c.find_number.ensures))) (then-written c.put_slice-after.ensures c.print_signed.ensures)

pub member_name-requires : goal.member_name-requires
member_name-requires c = named-member _ _ _ _ c.args.schema.now.known c.requires.0 (sym c.in-Some.is ∙ c.find_number.ensures)

pub put_slice-requires : goal.put_slice-requires
put_slice-requires c = as_room (member-named _ _ _ _ (sym c.in-Some.is ∙ c.find_number.ensures) ∙ sym c.member_name.ensures) c.requires.1

pub returns-in-Some : goal.returns-in-Some
returns-in-Some c = as_written (sym (member-named _ _ _ _ (sym c.in-Some.is ∙ c.find_number.ensures) ∙ sym c.member_name.ensures)) c.put_slice.ensures
