-- `integers::worth` meets its contract. The invariant: what is read so far, with the digits left, is worth the whole, and fits.
use Rattle.std.proofs.Common.{ℕ, ◌∙◌, refl, get_or, arith}
use Rattle.integers.specs.Values.{greatest}
use Rattle.integers.proofs.Digits.{digit-sure, digit_value-le, reading-on, reading-over, reading-done}
use Rattle.integers.proofs.worth.Goals.{then-n-sure, else-n-sure+in_ok-checked_mul+in_ok-n}
use Rattle.integers.proofs.worth.Goals as goal

pub returns-in_err-checked_mul : goal.returns-in_err-checked_mul
returns-in_err-checked_mul c =
    let b : ℕ = get_or c.args.digits.now c.loop-b.b-index 0 in
    c.from_residual.ensures ∙ reading-over _ _ _ _ _ c.loop-b.invariant c.loop-b-test.true refl (omega (arith, digit_value-le b, c.type_inv.digits c.loop-b.b-index)) (omega (arith, c.in_err-checked_mul.ensures))

pub returns-in_err-n : goal.returns-in_err-n
returns-in_err-n c =
    c.from_residual-in_err-n.ensures ∙ reading-over _ _ _ _ _ c.loop-b.invariant c.loop-b-test.true c.digit_value.ensures (omega arith) (omega (arith, c.in_err-n.ensures, c.in_ok-checked_mul.ensures, c.from-d.ensures))

pub loop-b-preserved : goal.loop-b-preserved
loop-b-preserved c =
    let on = reading-on _ _ _ _ _ c.loop-b.invariant c.loop-b-test.true c.digit_value.ensures in
    elim c.if-n-sure.branch [
      | then-n-sure w ↦ on _ (omega arith) (omega (arith, digit-sure c.args.base c.requires greatest 255 c.digit_value.result c.loop-b.n (omega arith) (omega arith) (omega arith)))
      | else-n-sure+in_ok-checked_mul+in_ok-n w ↦ on _ (omega (arith, w.in_ok-n.ensures, w.in_ok-checked_mul.ensures)) (omega (arith, w.in_ok-n.ensures))
    ]

pub returns : goal.returns
returns c = reading-done _ _ _ _ c.loop-b.invariant c.loop-b-test.false
