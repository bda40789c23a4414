-- `entries::Entry::with` meets its contract.
use mathlib.Core.Path.{◌≡◌, refl}
use Prim.Native.Nat.{ℕ}
use mathlib.Core.Bool.{Bool, ◌||◌}
use lib.Dec.{eqb}
use Rattle.definitions.specs.declared.Want.{Want}
use Rattle.definitions.specs.Scope.{map_entry}
use Rattle.definitions.specs.Reading.{noted}
use Rattle.entries.specs.declared.Entry.{Entry}
use Rattle.entries.specs.Noted.{Noted}
use Rattle.entries.proofs.Wants.{within-entry, within-message}
use Rattle.entries.proofs.Entry.with.Goals as goal
use Rattle.entries.proofs.Entry.with.Goals.{then-self, else-self}

noted-entry : (w : Want) (i : ℕ) (e : Entry) (key value : Bool) → w.kind ≡ map_entry → key ≡ (e.key || eqb i 0) → value ≡ (e.value || eqb i 1) → Noted w i e (record { key = key; value = value })
unfolding noted
noted-entry w i e key value h k v = λ q p. rw (within-entry w h, k, v) refl

pub returns-then-w-ne-ENTRY : goal.returns-then-w-ne-ENTRY
unfolding noted
returns-then-w-ne-ENTRY c = λ q p. rw (within-message c.args.w c.if-w-ne-ENTRY.true) refl

pub returns-then-self-2 : goal.returns-then-self-2
returns-then-self-2 c =
    noted-entry c.args.w c.args.i c.args.self _ _ c.if-w-ne-ENTRY.false
    (elim c.if-self.branch [ then-self w ↦ rw (w.result-is, w.if-self.true) refl | else-self w ↦ rw (w.result-is, w.if-self.false) refl ])
    (rw c.if-self-2.true refl)

pub returns-else-self-2 : goal.returns-else-self-2
returns-else-self-2 c =
    noted-entry c.args.w c.args.i c.args.self _ _ c.if-w-ne-ENTRY.false
    (elim c.if-self.branch [ then-self w ↦ rw (w.result-is, w.if-self.true) refl | else-self w ↦ rw (w.result-is, w.if-self.false) refl ])
    (rw c.if-self-2.false refl)
