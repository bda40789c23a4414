-- `scalars::names::read_bool` meets its contract: a bad token, no name, `true`, `false`, another name.
use mathlib.Core.Path.{sym, ◌∙◌, ap}
use Rattle.std.specs.Prelude.{Err}
use Rattle.std.proofs.lemmas.Result.{err_from_is_err_and}
use Rattle.leaves.proofs.Returns.{no-answers, answers_by}
use Rattle.leaves.proofs.Steps.{scanned, scanned-line, bad-answers, reached, bool-bad, bool-other, bool-true, bool_false, bool-neither}
use Rattle.scalars.proofs.names.read_bool.Goals as goal

pub returns-in_err-t : goal.returns-in_err-t
returns-in_err-t c = λ f.
    let p = err_from_is_err_and c.from_residual.result c.from_residual.ensures.1 in
    rw (p.1, p.2) (bad-answers _ _ _ _ _ _ _ _ _ c.in_err-t.ensures (bool-bad _ _ _))

pub returns-then-t-ne-NAME : goal.returns-then-t-ne-NAME
returns-then-t-ne-NAME c = λ f. no-answers _ _ _ _ _ _ _ _ _ (bool-other _ _ _ _ _ (scanned _ _ _ _ c.in_ok-t.ensures) c.if-t-ne-NAME.true) (ap Err c.at.ensures)

pub bytes_of-name-requires : goal.bytes_of-name-requires
bytes_of-name-requires c = reached _ _ _ _ c.requires.0.inside (scanned _ _ _ _ c.in_ok-t.ensures)

pub returns-then-same : goal.returns-then-same
returns-then-same c = λ f.
    let t = rw c.bytes_of-name.ensures at (sym c.if-same.true ∙ c.same.ensures) in
    answers_by _ _ _ _ _ _ _ _ (bool-true _ c.args.w c.args.here.spot _ _ (scanned _ _ _ _ c.in_ok-t.ensures) c.if-t-ne-NAME.false t) (c.put_number.ensures _ (scanned-line _ _ _ _ c.in_ok-t.ensures) f)

pub returns-then-same-2 : goal.returns-then-same-2
returns-then-same-2 c = λ f.
    let t = rw c.bytes_of-name.ensures at (sym c.if-same.false ∙ c.same.ensures) in
    let u = rw c.bytes_of-name.ensures at (sym c.if-same-2.true ∙ c.same-2.ensures) in
    answers_by _ _ _ _ _ _ _ _ (bool_false _ c.args.w c.args.here.spot _ _ (scanned _ _ _ _ c.in_ok-t.ensures) c.if-t-ne-NAME.false t u) (c.put_number-then-same-2.ensures _ (scanned-line _ _ _ _ c.in_ok-t.ensures) f)

pub returns : goal.returns
returns c = λ f.
    let t = rw c.bytes_of-name.ensures at (sym c.if-same.false ∙ c.same.ensures) in
    let u = rw c.bytes_of-name.ensures at (sym c.if-same-2.false ∙ c.same-2.ensures) in
    no-answers _ _ _ _ _ _ _ _ _ (bool-neither _ c.args.w c.args.here.spot _ _ (scanned _ _ _ _ c.in_ok-t.ensures) c.if-t-ne-NAME.false t u) (ap Err c.at-2.ensures)
