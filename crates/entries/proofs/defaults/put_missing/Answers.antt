-- `entries::defaults::put_missing` meets its contract.
use mathlib.Core.List.{[]}
use mathlib.Core.Path.{refl}
use Rattle.leaves.proofs.Returns.{done-answers, answers_by}
use Rattle.entries.proofs.defaults.put_missing.Goals as goal

pub returns-then-there : goal.returns-then-there
returns-then-there c = λ s g f. done-answers _ _ _ _ _ _ _ [] [] (rw c.if-there.true refl) (λ _ _. (refl, refl)) g

pub returns : goal.returns
returns c = λ s g f. answers_by _ _ _ _ _ _ _ _ (rw c.if-there.false refl) (c.put_default.ensures s g f)
