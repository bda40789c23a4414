-- `numbers::read_unsigned` meets its contract: a bad token, or an integer's.
use Rattle.std.proofs.lemmas.Result.{err_from_is_err_and}
use mathlib.Core.Path.{◌∙◌, refl}
use Rattle.leaves.proofs.Returns.{answers_by}
use Rattle.leaves.proofs.Steps.{scanned, scanned-line, bad-answers, unsigned-bad, unsigned-on, reached}
use Rattle.numbers.proofs.read_unsigned.Goals as goal

pub returns-in_err-t : goal.returns-in_err-t
returns-in_err-t c = λ f.
    let p = err_from_is_err_and c.from_residual.result c.from_residual.ensures.1 in
    rw (p.1, p.2) (bad-answers _ _ _ _ _ _ _ _ _ (rw c.cursor.ensures at c.in_err-t.ensures) (unsigned-bad _ _ _ _))

pub read_integer-requires : goal.read_integer-requires
read_integer-requires c =
    let e = rw c.cursor.ensures at c.in_ok-t.ensures in
    (c.requires.1, reached _ _ _ _ c.requires.0.inside (scanned _ _ _ _ e), scanned-line _ _ _ _ e)

pub returns : goal.returns
returns c = λ f. answers_by _ _ _ _ _ _ _ _ (unsigned-on _ _ _ _ _ _ (scanned _ _ _ _ (rw c.cursor.ensures at c.in_ok-t.ensures)) ∙ rw c.most_unsigned-most.ensures refl) (c.read_integer.ensures f)
