-- `numbers::read_signed` meets its contract: an integer's token at once, or a minus and then an integer's.
use Rattle.std.proofs.lemmas.Result.{err_from_is_err_and}
use mathlib.Core.Path.{◌∙◌, refl}
use Rattle.leaves.proofs.Returns.{answers_by, answers-from}
use Rattle.leaves.proofs.Steps.{scanned, scanned-line, bad-answers, moved-fair, signed-bad, signed-plain, signed-minus, negated-bad, negated-on, reached}
use Rattle.numbers.proofs.read_signed.Goals as goal

pub returns-in_err-t : goal.returns-in_err-t
returns-in_err-t c = λ f.
    let p = err_from_is_err_and c.from_residual.result c.from_residual.ensures.1 in
    rw (p.1, p.2) (bad-answers _ _ _ _ _ _ _ _ _ (rw c.cursor.ensures at c.in_err-t.ensures) (signed-bad _ _ _ _))

pub read_integer-requires : goal.read_integer-requires
read_integer-requires c =
    let e = rw c.cursor.ensures at c.in_ok-t.ensures in
    (c.requires.1, reached _ _ _ _ c.requires.0.inside (scanned _ _ _ _ e), scanned-line _ _ _ _ e)

pub returns-then-t-ne-MINUS : goal.returns-then-t-ne-MINUS
returns-then-t-ne-MINUS c = λ f.
    let e = rw c.cursor.ensures at c.in_ok-t.ensures in
    answers_by _ _ _ _ _ _ _ _ (signed-plain _ _ _ _ _ _ (scanned _ _ _ _ e) c.if-t-ne-MINUS.true ∙ rw c.most_signed-most.ensures refl) (c.read_integer.ensures f)

pub next-requires-2 : goal.next-requires-2
next-requires-2 c =
    let e = rw c.cursor.ensures at c.in_ok-t.ensures in
    let f = moved-fair _ _ _ _ c.requires.0 (scanned _ _ _ _ e) (scanned-line _ _ _ _ e) in
    rw (c.cursor-2.ensures, c.moved-digits.ensures) (record { inside = f.inside; short = c.requires.2; line = f.line })

pub returns-in_err-d : goal.returns-in_err-d
returns-in_err-d c = λ f.
    let e = rw c.cursor.ensures at c.in_ok-t.ensures in
    let p = err_from_is_err_and c.from_residual-in_err-d.result c.from_residual-in_err-d.ensures.1 in
    rw (p.1, p.2) (bad-answers _ _ _ _ _ _ _ _ _ (rw (c.cursor-2.ensures, c.moved-digits.ensures) at c.in_err-d.ensures)
    (λ a h. signed-minus _ _ _ _ _ _ (scanned _ _ _ _ e) c.if-t-ne-MINUS.false ∙ negated-bad _ _ _ _ a h))

pub read_integer-requires-2 : goal.read_integer-requires-2
read_integer-requires-2 c =
    let e = rw c.cursor.ensures at c.in_ok-t.ensures in
    let f = moved-fair _ _ _ _ c.requires.0 (scanned _ _ _ _ e) (scanned-line _ _ _ _ e) in
    let d = rw (c.cursor-2.ensures, c.moved-digits.ensures) at c.in_ok-d.ensures in
    (rw c.moved-digits.ensures (record { field = c.requires.1.field; node = c.requires.1.node; byte = c.requires.1.byte }), reached _ _ _ _ f.inside (scanned _ _ _ _ d), scanned-line _ _ _ _ d)

pub returns : goal.returns
returns c = λ f.
    let e = rw c.cursor.ensures at c.in_ok-t.ensures in
    let d = rw (c.cursor-2.ensures, c.moved-digits.ensures) at c.in_ok-d.ensures in
    answers_by _ _ _ _ _ _ _ _
    (signed-minus _ _ _ _ _ _ (scanned _ _ _ _ e) c.if-t-ne-MINUS.false ∙ negated-on _ _ _ _ _ _ (scanned _ _ _ _ d) ∙ rw c.most_signed-most-2.ensures refl)
    (answers-from _ _ _ _ _ _ _ _ refl refl (rw c.moved-digits.ensures at (c.read_integer-2.ensures f)))
