-- `survey::taken` meets its contract.
use mathlib.Core.Path.{sym, ◌∙◌}
use Rattle.survey.proofs.Tables.{taken-schema, taken-root, taken-table}
use Rattle.survey.proofs.taken.Goals as goal

pub returns-in_err-schema : goal.returns-in_err-schema
returns-in_err-schema c = rw c.from_residual.ensures (sym (taken-schema _ _ _ _ c.in_err-schema.ensures))

pub returns-then-message_count-root : goal.returns-then-message_count-root
returns-then-message_count-root c = let o = c.in_ok-schema.ensures in sym (taken-root _ _ _ _ o.0 (rw (c.message_count.ensures, o.1) at c.if-message_count-root.true))

pub returns-then-not-is_valid : goal.returns-then-not-is_valid
returns-then-not-is_valid c =
    let o = c.in_ok-schema.ensures in
    sym (taken-table _ _ _ _ o.0 (rw (c.message_count.ensures, o.1) at c.if-message_count-root.false)) ∙ (rw o.1 at (sym c.is_valid.ensures ∙ c.if-not-is_valid.true))

pub returns : goal.returns
returns c =
    let o = c.in_ok-schema.ensures in
    (sym (taken-table _ _ _ _ o.0 (rw (c.message_count.ensures, o.1) at c.if-message_count-root.false)) ∙ (rw o.1 at (sym c.is_valid.ensures ∙ c.if-not-is_valid.false)), o.1)
