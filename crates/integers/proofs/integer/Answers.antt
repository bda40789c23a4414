-- `integers::integer` meets its contract: what 64 bits hold is compared with the greatest magnitude, and takes its sign.
use mathlib.Core.Path.{sym, ◌∙◌}
use native.Mathlib.Omega.{arith}
use Rattle.integers.proofs.Digits.{narrow-over, narrow-past, narrow-worth}
use Rattle.integers.proofs.integer.Goals as goal

pub returns-in_err-v : goal.returns-in_err-v
returns-in_err-v c = c.from_residual.ensures ∙ narrow-over _ c.args.most _ (omega arith) (sym c.magnitude.ensures ∙ c.in_err-v.was)

pub returns-then-most-v : goal.returns-then-most-v
returns-then-most-v c = narrow-past _ _ _ _ (sym c.magnitude.ensures ∙ c.in_ok-v.was) c.if-most-v.true

pub returns : goal.returns
returns c = narrow-worth _ _ _ _ (sym c.magnitude.ensures ∙ c.in_ok-v.was) _ c.if-most-v.false c.signed.ensures
