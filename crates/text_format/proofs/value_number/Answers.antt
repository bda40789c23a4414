-- `text_format::value_number` meets its contract.
use mathlib.Core.Path.{◌∙◌}
use Rattle.message.proofs.Lending.{valid-lendable}
use Rattle.text_format.proofs.Opened.{passed_on, value-barred}
use Rattle.text_format.proofs.Tables.{value-given, value_lacks}
use Rattle.text_format.proofs.value_number.Goals as goal

pub returns-in_err-open_table : goal.returns-in_err-open_table
returns-in_err-open_table c = passed_on _ _ c.from_residual.ensures.1 ∙ value-barred _ _ _ _ _ c.in_err-open_table.ensures

pub value_run-requires : goal.value_run-requires
value_run-requires c = (valid-lendable _ _ _ _ c.in_ok-open_table.ensures.valued).root

pub returns-then-is_none : goal.returns-then-is_none
returns-then-is_none c = value_lacks _ _ _ _ c.in_ok-open_table.ensures c.at.ensures _ (rw c.value_run.ensures at c.if-is_none.ensures)

pub returns : goal.returns
returns c = value-given _ _ _ _ c.in_ok-open_table.ensures _ (rw c.value_run.ensures at c.if-is_none.ensures)
