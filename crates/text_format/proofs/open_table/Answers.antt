-- `text_format::open_table` meets its contract.
use mathlib.Core.Path.{sym, ◌∙◌}
use Rattle.definitions.specs.Refusals.{bad_table}
use Rattle.text_format.proofs.Opened.{passed_on, bars-table, bar-table}
use Rattle.text_format.proofs.open_table.Goals as goal

pub returns-in_err-schema : goal.returns-in_err-schema
returns-in_err-schema c = rw (passed_on _ _ c.from_residual.ensures.1) (bars-table _ _ _ _ c.in_err-schema.ensures)

pub is_valid-requires : goal.is_valid-requires
is_valid-requires c = rw c.in_ok-schema.ensures.same c.in_ok-schema.ensures.below

pub returns-then-not-is_valid : goal.returns-then-not-is_valid
returns-then-not-is_valid c = record { why = bad_table; barring = bar-table _ _ _ _ c.in_ok-schema.ensures (rw c.in_ok-schema.ensures.same at (sym c.if-not-is_valid.true ∙ c.is_valid.ensures)); answer = c.at.ensures }

pub returns : goal.returns
returns c = record { rooted = c.in_ok-schema.ensures; valued = rw c.in_ok-schema.ensures.same at (sym (sym c.if-not-is_valid.false ∙ c.is_valid.ensures)) }
