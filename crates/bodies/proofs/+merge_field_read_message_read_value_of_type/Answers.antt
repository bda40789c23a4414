-- The cycle of message, field and value readers. The falling number is the text left, twice, and the levels left: a field takes its name
-- off the text, what lies inside a value takes the opener off the text and one level, and a field's value stands where the field does, so that
-- a field and a message count one more. The loop's invariant says what is read and stored so far.
use mathlib.Core.Path.{refl, sym, ap, ◌∙◌}
use native.Mathlib.Omega.{arith}
use Rattle.std.specs.Prelude.{Err}
use Rattle.std.proofs.lemmas.Result.{err_from_is_err_and}
use Rattle.definitions.specs.declared.Want.{Want}
use Rattle.definitions.specs.Reading.{field, under}
use Rattle.lexer.specs.Steps.{line_at}
use Rattle.records.proofs.Search.{option_some, option_none}
use Rattle.leaves.proofs.Returns.{no-answers, answers_by, answers-from}
use Rattle.leaves.proofs.Steps.{scanned, scanned-line, bad-answers, reached}
use Rattle.entries.proofs.Wants.{want-fits, want-field, scope-there, found_inside}
use Rattle.bodies.proofs.Turns.{named, begins, ends, rest-bad, rest-closed, rest-other, rest-unknown, rest-twice, falls as name-falls, fair-after, field-no, further, next-inside, goes_on, again-at}
use Rattle.bodies.proofs.Nested.{closed_at, nests-high, opener, field_plain, field-bad, field-other, field-deep, child-falls, child-fair, nested-no, nested-node, nested-put}
use Rattle.bodies.proofs.+merge_field_read_message_read_value_of_type.Goals as goal

pub merge_field-want-asked-requires : goal.merge_field-want-asked-requires
merge_field-want-asked-requires t c = (scope-there _ c.args.w c.requires.1 c.requires.3, c.requires.2)

pub merge_field-read_value_of_type-requires : goal.merge_field-read_value_of_type-requires
merge_field-read_value_of_type-requires t c =
    let g = c.args.source.now.schema.known.good in
    let n = want-field _ g c.args.w _ c.requires.1 c.requires.3 c.requires.2 in
    let x = want-fits _ g c.args.w _ c.requires.1 c.requires.3 c.requires.2 in
    let f = c.requires.0 in
    let short = c.args.source.now.short in
    (omega (arith, c.decreases), (f, record { field = rw c.want-asked.ensures n; node = omega (arith, f.nodes, f.inside, short); byte = omega (arith, f.bytes, f.inside, short) }, rw c.want-asked.ensures x))

pub merge_field-returns : goal.merge_field-returns
merge_field-returns t c =
    answers_by _ _ _ _ _ _ _ _
    (ap (λ (v : Want). field (under c.args.left c.args.source.now.schema.image.now c.args.source.now.text.now) c.args.source.now.schema.image.now c.args.source.now.text.now v c.args.here.spot) (sym c.want-asked.ensures))
    c.read_value_of_type.ensures

pub read_message-loop-t-init : goal.read_message-loop-t-init
read_message-loop-t-init t c = begins _ _ _ c.args.w _ _ _ _ c.requires.0

pub read_message-returns-in_err-t : goal.read_message-returns-in_err-t
read_message-returns-in_err-t t c =
    let p = err_from_is_err_and c.from_residual.result c.from_residual.ensures.1 in
    let i = c.loop-t.invariant in
    rw (p.1, p.2) (ends _ _ _ c.args.w _ _ _ _ _ _ _ _ _ _ i (bad-answers _ _ _ _ _ _ _ _ _ c.in_err-t.ensures (rest-bad _ _ _ c.args.w _ _ i.fair.inside)))

pub read_message-close_body-requires : goal.read_message-close_body-requires
read_message-close_body-requires t c =
    let f = c.loop-t.invariant.fair in
    let short = c.args.source.now.short in
    rw c.moved-here.ensures (c.requires.1, omega (arith, f.nodes, f.inside, short), omega (arith, f.bytes, f.inside, short))

pub read_message-returns-then-t-closer : goal.read_message-returns-then-t-closer
read_message-returns-then-t-closer t c =
    let i = c.loop-t.invariant in
    let a = rw c.moved-here.ensures at (c.close_body.ensures (line_at c.args.source.now.text.now)) in
    ends _ _ _ c.args.w _ _ _ _ _ _ _ _ _ _ i
    (answers_by _ _ _ _ _ _ _ _ (rest-closed _ _ _ c.args.w _ _ i.fair.inside _ _ (scanned _ _ _ _ c.in_ok-t.ensures) c.if-t-closer.true ∙ closed_at _ _ _ _ _ _ _)
    (answers-from _ _ _ _ _ _ _ _ refl refl (a (scanned-line _ _ _ _ c.in_ok-t.ensures) _)))

pub read_message-returns-then-t-ne-NAME : goal.read_message-returns-then-t-ne-NAME
read_message-returns-then-t-ne-NAME t c =
    let i = c.loop-t.invariant in
    ends _ _ _ c.args.w _ _ _ _ _ _ _ _ _ _ i
    (no-answers _ _ _ _ _ _ _ _ _ (rest-other _ _ _ c.args.w _ _ i.fair.inside _ _ (scanned _ _ _ _ c.in_ok-t.ensures) c.if-t-closer.false c.if-t-ne-NAME.true) (ap Err c.at.ensures))

pub read_message-bytes_of-name-requires : goal.read_message-bytes_of-name-requires
read_message-bytes_of-name-requires t c = reached _ _ _ _ c.loop-t.invariant.fair.inside (scanned _ _ _ _ c.in_ok-t.ensures)

pub read_message-returns-in_default : goal.read_message-returns-in_default
read_message-returns-in_default t c =
    let i = c.loop-t.invariant in
    let u = option_none _ (rw c.bytes_of-name.ensures at c.in_default.ensures) in
    ends _ _ _ c.args.w _ _ _ _ _ _ _ _ _ _ i
    (no-answers _ _ _ _ _ _ _ _ _ (rest-unknown _ _ _ c.args.w _ _ i.fair.inside _ _ (scanned _ _ _ _ c.in_ok-t.ensures) c.if-t-closer.false c.if-t-ne-NAME.false u) (ap Err c.at-in_default.ensures))

pub read_message-returns-then-is_again : goal.read_message-returns-then-is_again
read_message-returns-then-is_again t c =
    let i = c.loop-t.invariant in
    let f = option_some _ (rw c.bytes_of-name.ensures at c.in-Some.ensures) in
    ends _ _ _ c.args.w _ _ _ _ _ _ _ _ _ _ i
    (no-answers _ _ _ _ _ _ _ _ _ (rest-twice _ _ _ c.args.w _ _ i.fair.inside _ _ (scanned _ _ _ _ c.in_ok-t.ensures) c.if-t-closer.false c.if-t-ne-NAME.false _ f (c.if-is_again.ensures ∙ again-at _ _ _ _ _)) (ap Err c.at-then-is_again.ensures))

pub read_message-merge_field-requires : goal.read_message-merge_field-requires
read_message-merge_field-requires t c =
    let d = named c.args.source.now.schema.image.now _ c.args.w _ c.loop-t.here.spot _ c.loop-t.entry _ _ _ _ c.in_ok-t.ensures c.if-t-closer.false c.if-t-ne-NAME.false c.bytes_of-name.ensures c.in-Some.ensures c.if-is_again.ensures in
    let i = c.loop-t.invariant in
    let lt = name-falls c.args.left _ _ c.args.w _ _ _ _ _ _ _ i _ _ _ d in
    let fa = fair-after c.args.left _ _ c.args.w _ _ _ _ _ _ _ i _ _ _ d (scanned-line _ _ _ _ c.in_ok-t.ensures) in
    rw c.moved-here.ensures (omega (arith, c.decreases, lt, i.on, fa.inside), (fa, c.requires.1, found_inside _ _ _ _ d.found, c.requires.2))

pub read_message-returns-in_err-here : goal.read_message-returns-in_err-here
read_message-returns-in_err-here t c =
    let p = err_from_is_err_and c.from_residual-in_err-here.result c.from_residual-in_err-here.ensures.1 in
    let d = named c.args.source.now.schema.image.now _ c.args.w _ c.loop-t.here.spot _ c.loop-t.entry _ _ _ _ c.in_ok-t.ensures c.if-t-closer.false c.if-t-ne-NAME.false c.bytes_of-name.ensures c.in-Some.ensures c.if-is_again.ensures in
    let i = c.loop-t.invariant in
    let m = rw c.moved-here.ensures at c.merge_field.ensures in
    let e = field-no _ _ _ c.args.w _ _ _ _ _ _ _ i _ _ _ d _ _ _ m _ c.in_err-here.was in
    rw (p.1, p.2) (ends _ _ _ c.args.w _ _ _ _ _ _ _ _ _ _ i (rw c.in_err-here.was at e))

pub read_message-loop-t-smaller : goal.read_message-loop-t-smaller
read_message-loop-t-smaller t c =
    let d = named c.args.source.now.schema.image.now _ c.args.w _ c.loop-t.here.spot _ c.loop-t.entry _ _ _ _ c.in_ok-t.ensures c.if-t-closer.false c.if-t-ne-NAME.false c.bytes_of-name.ensures c.in-Some.ensures c.if-is_again.ensures in
    let i = c.loop-t.invariant in
    let m = rw c.moved-here.ensures at c.merge_field.ensures in
    let lt = further _ _ _ c.args.w _ _ _ _ _ _ _ i _ _ _ d _ _ _ m _ c.in_ok-here.was in
    let n = next-inside _ _ _ c.args.w _ _ _ _ _ _ _ i _ _ _ d _ _ _ m _ c.in_ok-here.was in
    omega (arith, lt, n)

pub read_message-loop-t-preserved : goal.read_message-loop-t-preserved
read_message-loop-t-preserved t c =
    let d = named c.args.source.now.schema.image.now _ c.args.w _ c.loop-t.here.spot _ c.loop-t.entry _ _ _ _ c.in_ok-t.ensures c.if-t-closer.false c.if-t-ne-NAME.false c.bytes_of-name.ensures c.in-Some.ensures c.if-is_again.ensures in
    let m = rw c.moved-here.ensures at c.merge_field.ensures in
    goes_on _ _ _ c.args.w _ _ _ _ _ _ _ c.loop-t.invariant _ _ _ d _ _ _ m _ c.in_ok-here.was c.merge_field.auto.nodes c.merge_field.auto.pool _ (c.with-entry.ensures _ _)

pub read_value_of_type-returns-then-w-lt-MESSAGE : goal.read_value_of_type-returns-then-w-lt-MESSAGE
read_value_of_type-returns-then-w-lt-MESSAGE t c = answers_by _ _ _ _ _ _ _ _ (field_plain _ _ _ _ _ c.if-w-lt-MESSAGE.true) c.read_colon.ensures

pub read_value_of_type-returns-in_err-t : goal.read_value_of_type-returns-in_err-t
read_value_of_type-returns-in_err-t t c =
    let p = err_from_is_err_and c.from_residual.result c.from_residual.ensures.1 in
    rw (p.1, p.2) (bad-answers _ _ _ _ _ _ _ _ _ c.in_err-t.ensures (field-bad _ _ _ _ _ c.if-w-lt-MESSAGE.false c.requires.2.most))

pub read_value_of_type-returns-in_default : goal.read_value_of_type-returns-in_default
read_value_of_type-returns-in_default t c = no-answers _ _ _ _ _ _ _ _ _ (field-other _ _ _ _ _ c.if-w-lt-MESSAGE.false c.requires.2.most _ _ (scanned _ _ _ _ c.in_ok-t.ensures) c.in_default.ensures) (ap Err c.at.ensures)

pub read_value_of_type-returns-then-left-eq0 : goal.read_value_of_type-returns-then-left-eq0
read_value_of_type-returns-then-left-eq0 t c = no-answers _ _ _ _ _ _ _ _ _ (field-deep _ _ _ _ _ c.if-w-lt-MESSAGE.false c.requires.2.most _ _ (scanned _ _ _ _ c.in_ok-t.ensures) _ c.in-Some.ensures c.if-left-eq0.true) (ap Err c.at-then-left-eq0.ensures)

pub read_value_of_type-read_message-requires : goal.read_value_of_type-read_message-requires
read_value_of_type-read_message-requires t c =
    let o = opener c.args.left c.args.source.now.schema.image.now c.args.source.now.text.now c.args.w c.args.here.spot _ _ _ c.if-w-lt-MESSAGE.false c.requires.2.most c.in_ok-t.ensures c.in-Some.ensures c.if-left-eq0.false c.requires.0 in
    let lt = child-falls c.args.left c.args.source.now.schema.image.now c.args.source.now.text.now c.args.w c.args.here.spot _ _ _ o in
    let fa = child-fair c.args.left c.args.source.now.schema.image.now c.args.source.now.text.now c.args.w c.args.here.spot _ _ _ o (scanned-line _ _ _ _ c.in_ok-t.ensures) in
    rw c.moved-inside.ensures (omega (arith, c.decreases, lt, fa.inside), (fa, c.requires.2, nests-high _ c.if-w-lt-MESSAGE.false c.requires.2.most))

pub read_value_of_type-returns-in_err-next : goal.read_value_of_type-returns-in_err-next
read_value_of_type-returns-in_err-next t c =
    let p = err_from_is_err_and c.from_residual-in_err-next.result c.from_residual-in_err-next.ensures.1 in
    let o = opener c.args.left c.args.source.now.schema.image.now c.args.source.now.text.now c.args.w c.args.here.spot _ _ _ c.if-w-lt-MESSAGE.false c.requires.2.most c.in_ok-t.ensures c.in-Some.ensures c.if-left-eq0.false c.requires.0 in
    let m = rw c.moved-inside.ensures at c.read_message.ensures in
    let e = nested-no _ _ _ c.args.w c.args.here.spot _ _ _ o _ _ _ _ _ m _ c.in_err-next.was in
    rw (p.1, p.2) (rw c.in_err-next.was at e)

pub read_value_of_type-put_body-requires : goal.read_value_of_type-put_body-requires
read_value_of_type-put_body-requires t c =
    let o = opener c.args.left c.args.source.now.schema.image.now c.args.source.now.text.now c.args.w c.args.here.spot _ _ _ c.if-w-lt-MESSAGE.false c.requires.2.most c.in_ok-t.ensures c.in-Some.ensures c.if-left-eq0.false c.requires.0 in
    let m = rw c.moved-inside.ensures at c.read_message.ensures in
    let z = nested-node _ _ _ c.args.w c.args.here.spot _ _ _ o _ _ _ _ _ m _ c.in_ok-next.was c.args.source.now.short in
    (c.requires.1.field, omega (arith, z))

pub read_value_of_type-returns : goal.read_value_of_type-returns
read_value_of_type-returns t c =
    let o = opener c.args.left c.args.source.now.schema.image.now c.args.source.now.text.now c.args.w c.args.here.spot _ _ _ c.if-w-lt-MESSAGE.false c.requires.2.most c.in_ok-t.ensures c.in-Some.ensures c.if-left-eq0.false c.requires.0 in
    let m = rw c.moved-inside.ensures at c.read_message.ensures in
    nested-put _ _ _ c.args.w c.args.here.spot _ _ _ o _ _ _ _ _ m _ c.in_ok-next.was c.read_message.auto.nodes _ c.put_body.ensures
