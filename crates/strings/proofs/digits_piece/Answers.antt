-- `strings::digits_piece` meets its contract: what 64 bits do not hold, and what a byte does not, is refused.
use mathlib.Core.Path.{sym, ◌∙◌}
use Rattle.strings.proofs.Escaping.{digits-over, digits-past, digits_in}
use Rattle.strings.proofs.digits_piece.Goals as goal

pub returns-in_err-v : goal.returns-in_err-v
returns-in_err-v c = c.from_residual.ensures ∙ digits-over _ _ (sym c.worth.ensures ∙ c.in_err-v.was)

pub returns-then-v-gt255 : goal.returns-then-v-gt255
returns-then-v-gt255 c = digits-past _ _ _ (sym c.worth.ensures ∙ c.in_ok-v.was) c.if-v-gt255.true

pub returns : goal.returns
returns c = digits_in _ _ _ (sym c.worth.ensures ∙ c.in_ok-v.was) c.if-v-gt255.false
