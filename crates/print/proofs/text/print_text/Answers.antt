-- `print::text::print_text` meets its contract.
use Rattle.spelling.proofs.Texts.{as_written}
use Rattle.print.proofs.Whole.{whole_room, whole-text, whole-printable, whole-fits}
use Rattle.print.proofs.text.print_text.Goals as goal

pub table_end-requires : goal.table_end-requires
table_end-requires c = whole_room _ _ _ _ c.requires.1

pub invariant_of-body : goal.invariant_of-body
invariant_of-body c = record { printable = whole-printable _ _ _ _ c.requires.1 _ _ c.root_want.ensures c.table_end.ensures c.args.schema.now.known.good c.requires.0 }

pub print_to_internal-requires : goal.print_to_internal-requires
print_to_internal-requires c = whole-fits _ _ _ _ c.requires.1 _ _ c.root_want.ensures c.table_end.ensures _ (λ i. (c.type_inv.pool i).fits) (λ i. (c.type_inv.nodes i).fits)

pub returns : goal.returns
returns c = as_written (whole-text _ _ _ _ c.requires.1 _ _ c.root_want.ensures c.table_end.ensures _) c.print_to_internal.ensures
