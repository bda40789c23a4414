-- `entries::find_in` meets its contract: a message's field, or an entry's `key` or `value`.
use mathlib.Core.Path.{◌∙◌, refl}
use Rattle.definitions.specs.Scope.{find_in}
use Rattle.leaves.proofs.Steps.{tested-same}
use Rattle.entries.proofs.Wants.{within-entry, within-message, nests-message, find-key, find-value, find-neither}
use Rattle.entries.proofs.find_in.Goals as goal

pub find_field-requires : goal.find_field-requires
find_field-requires c = c.requires.0.messages (nests-message c.args.w c.requires.1 c.if-w-ne-ENTRY.true)

pub returns-then-w-ne-ENTRY : goal.returns-then-w-ne-ENTRY
unfolding find_in
returns-then-w-ne-ENTRY c = c.find_field.ensures ∙ rw (within-message c.args.w c.if-w-ne-ENTRY.true) refl

pub returns-then-eq : goal.returns-then-eq
returns-then-eq c =
    let t = tested-same _ _ _ _ _ c.if-eq.ensures refl c.as_slice.ensures in
    rw (within-entry c.args.w c.if-w-ne-ENTRY.false, find-key c.args.schema.now.image.now c.args.w.reference c.args.name.now t) refl

pub returns-then-eq-2 : goal.returns-then-eq-2
returns-then-eq-2 c =
    let t = tested-same _ _ _ _ _ c.if-eq.ensures refl c.as_slice.ensures in
    let u = tested-same _ _ _ _ _ c.if-eq-2.ensures refl c.as_slice-2.ensures in
    rw (within-entry c.args.w c.if-w-ne-ENTRY.false, find-value c.args.schema.now.image.now c.args.w.reference c.args.name.now t u) refl

pub returns : goal.returns
returns c =
    let t = tested-same _ _ _ _ _ c.if-eq.ensures refl c.as_slice.ensures in
    let u = tested-same _ _ _ _ _ c.if-eq-2.ensures refl c.as_slice-2.ensures in
    rw (within-entry c.args.w c.if-w-ne-ENTRY.false, find-neither c.args.schema.now.image.now c.args.w.reference c.args.name.now t u) refl
