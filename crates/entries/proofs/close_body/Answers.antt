-- `entries::close_body` meets its contract: a message is closed at once; an entry gets what it lacks, key first.
use mathlib.Core.Path.{refl}
use mathlib.Core.List.{[]}
use native.Mathlib.Omega.{arith}
use Rattle.leaves.proofs.Returns.{done-answers}
use Rattle.entries.proofs.Wants.{want-fits, want-field, scope-there, entry-inside, nests-entry}
use Rattle.entries.proofs.Joins.{closed-message, key-next, key-line, value_there, value-deep, value_made}
use Rattle.entries.proofs.close_body.Goals as goal

pub returns-then-w-ne-ENTRY : goal.returns-then-w-ne-ENTRY
returns-then-w-ne-ENTRY c = λ s g f. done-answers _ _ _ _ _ _ _ [] [] (closed-message _ _ c.args.w _ c.args.here.spot _ c.if-w-ne-ENTRY.true) (λ _ _. (refl, refl)) g

pub want-key-requires : goal.want-key-requires
want-key-requires c = (scope-there _ c.args.w c.requires.0 (nests-entry c.args.w c.if-w-ne-ENTRY.false), entry-inside _ c.args.w 0 c.if-w-ne-ENTRY.false (omega arith))

pub put_missing-next-requires : goal.put_missing-next-requires
put_missing-next-requires c =
    let k = entry-inside c.args.schema.now.image.now c.args.w 0 c.if-w-ne-ENTRY.false (omega arith) in
    let n = nests-entry c.args.w c.if-w-ne-ENTRY.false in
    let g = c.args.schema.now.known.good in
    (record { field = rw c.want-key.ensures (want-field _ g c.args.w 0 c.requires.0 n k); node = omega (arith, c.requires.1); byte = c.requires.2 }, rw c.want-key.ensures (want-fits _ g c.args.w 0 c.requires.0 n k))

pub want-value-requires : goal.want-value-requires
want-value-requires c = (scope-there _ c.args.w c.requires.0 (nests-entry c.args.w c.if-w-ne-ENTRY.false), entry-inside _ c.args.w 1 c.if-w-ne-ENTRY.false (omega arith))

pub returns-then-entry : goal.returns-then-entry
returns-then-entry c = λ s g f. value_there _ _ c.args.w _ c.args.here.spot c.args.entry c.if-w-ne-ENTRY.false s _ _ f _ c.want-key.ensures _ (c.put_missing-next.ensures s g f) c.put_missing-next.auto.nodes c.if-entry.true

pub returns-then-is_too_deep : goal.returns-then-is_too_deep
returns-then-is_too_deep c = λ s g f.
    let d = value-deep _ _ c.args.w c.args.at c.args.here.spot c.args.entry c.if-w-ne-ENTRY.false s _ _ f _ c.want-key.ensures _ (c.put_missing-next.ensures s g f) c.put_missing-next.auto.nodes c.if-entry.false _ c.want-value.ensures c.if-is_too_deep.ensures in
    rw c.at.ensures d

pub put_default-requires : goal.put_default-requires
put_default-requires c =
    let k = entry-inside c.args.schema.now.image.now c.args.w 1 c.if-w-ne-ENTRY.false (omega arith) in
    let n = nests-entry c.args.w c.if-w-ne-ENTRY.false in
    let g = c.args.schema.now.known.good in
    let x = key-next c.args.deep _ c.args.w c.args.at c.args.here.spot c.args.entry c.if-w-ne-ENTRY.false (λ _. c.args.here.line) _ _ [] _ c.want-key.ensures _ (c.put_missing-next.ensures (λ _. c.args.here.line) refl []) c.put_missing-next.auto.nodes in
    (record { field = rw c.want-value.ensures (want-field _ g c.args.w 1 c.requires.0 n k); node = omega (arith, c.requires.1, x.0); byte = omega (arith, c.requires.2, x.1) }, rw c.want-value.ensures (want-fits _ g c.args.w 1 c.requires.0 n k))

pub returns : goal.returns
returns c = λ s g f.
    let l = key-line c.args.deep _ c.args.w c.args.at c.args.here.spot c.args.entry c.if-w-ne-ENTRY.false s _ _ f _ c.want-key.ensures _ (c.put_missing-next.ensures s g f) c.put_missing-next.auto.nodes in
    value_made _ _ c.args.w _ c.args.here.spot c.args.entry c.if-w-ne-ENTRY.false s _ _ f _ c.want-key.ensures _ (c.put_missing-next.ensures s g f) c.put_missing-next.auto.nodes c.if-entry.false _ c.want-value.ensures c.if-is_too_deep.ensures _ _ (c.put_default.ensures s l f)
