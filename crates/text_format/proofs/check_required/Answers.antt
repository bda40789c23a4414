-- `text_format::check_required` meets its contract.
use mathlib.Core.Path.{sym, ◌∙◌}
use Rattle.text_format.proofs.Opened.{passed_on, required-barred}
use Rattle.text_format.proofs.Tables.{required-complete, required_lacks}
use Rattle.text_format.proofs.check_required.Goals as goal

pub returns-in_err-schema : goal.returns-in_err-schema
returns-in_err-schema c = passed_on _ _ c.from_residual.ensures.1 ∙ required-barred _ _ _ _ c.in_err-schema.ensures

pub has_required-requires : goal.has_required-requires
has_required-requires c = (rw c.in_ok-schema.ensures.rooted.same c.in_ok-schema.ensures.rooted.below, rw c.in_ok-schema.ensures.rooted.same c.in_ok-schema.ensures.valued)

pub returns-then-has_required : goal.returns-then-has_required
returns-then-has_required c = required-complete _ _ _ _ c.in_ok-schema.ensures (rw c.in_ok-schema.ensures.rooted.same at (sym c.if-has_required.true ∙ c.has_required.ensures))

pub returns : goal.returns
returns c = required_lacks _ _ _ _ c.in_ok-schema.ensures c.at.ensures (rw c.in_ok-schema.ensures.rooted.same at (sym c.if-has_required.false ∙ c.has_required.ensures))
