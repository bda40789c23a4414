-- `scalars::read_colon` meets its contract: a bad token, no colon, a value.
use mathlib.Core.Path.{refl, ap}
use Rattle.std.specs.Prelude.{Err}
use Rattle.std.proofs.lemmas.Result.{err_from_is_err_and}
use Rattle.leaves.proofs.Returns.{no-answers, answers_by, answers-from}
use Rattle.leaves.proofs.Steps.{scanned, scanned-line, bad-answers, moved-fair, colon-bad, colon-other, colon-on}
use Rattle.scalars.proofs.read_colon.Goals as goal

pub returns-in_err-t : goal.returns-in_err-t
returns-in_err-t c =
    let p = err_from_is_err_and c.from_residual.result c.from_residual.ensures.1 in
    rw (p.1, p.2) (bad-answers _ _ _ _ _ _ _ _ _ c.in_err-t.ensures (colon-bad _ _ _ _))

pub returns-then-t-ne-COLON : goal.returns-then-t-ne-COLON
returns-then-t-ne-COLON c = no-answers _ _ _ _ _ _ _ _ _ (colon-other _ _ _ _ _ _ (scanned _ _ _ _ c.in_ok-t.ensures) c.if-t-ne-COLON.true) (ap Err c.at.ensures)

pub read_scalar-requires : goal.read_scalar-requires
read_scalar-requires c =
    rw c.moved.ensures (
      moved-fair _ _ _ _ c.requires.0 (scanned _ _ _ _ c.in_ok-t.ensures) (scanned-line _ _ _ _ c.in_ok-t.ensures),
      record { field = c.requires.1.field; node = c.requires.1.node; byte = c.requires.1.byte },
      c.requires.2,
    )

pub returns : goal.returns
returns c =
    answers_by _ _ _ _ _ _ _ _ (colon-on _ _ c.args.w c.args.here.spot _ _ (scanned _ _ _ _ c.in_ok-t.ensures) c.if-t-ne-COLON.false)
    (answers-from _ _ _ _ _ _ _ _ refl refl (rw c.moved.ensures at c.read_scalar.ensures))
