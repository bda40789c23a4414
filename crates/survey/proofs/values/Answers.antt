-- `survey::values` meets its contract: all that lies below the root of a table that is taken.
use native.Mathlib.Omega.{arith}
use mathlib.Core.Path.{refl, ap, ◌∙◌}
use Rattle.definitions.specs.Scope.{within}
use Rattle.nodes.proofs.Scopes.{within-root, there-root}
use Rattle.validity.proofs.Root.{root-parts}
use Rattle.validity.proofs.Values.{valid-root}
use Rattle.live.proofs.Sounds.{sound-valid}
use Rattle.survey.proofs.Counts.{count-below}
use Rattle.survey.proofs.Tables.{taken-parts, values-none, values-some}
use Rattle.survey.proofs.values.Goals as goal

pub returns-in_default : goal.returns-in_default
returns-in_default c = values-none _ _ _ _ c.in_default.ensures

pub table_end-requires : goal.table_end-requires
table_end-requires c = let r = root-parts _ (valid-root _ _ _ _ (taken-parts _ _ _ _ c.in-Some.ensures.0).valued) in omega (arith, r.some, r.room)

pub count-requires : goal.count-requires
count-requires c =
    let k = taken-parts _ _ _ _ c.in-Some.ensures.0 in
    rw c.in-Some.ensures.1
    (there-root _ _ _ c.root_want.ensures k.rooted, rw (c.root_want.ensures, within-root _, c.table_end.ensures) (sound-valid _ _ _ _ k.valued))

pub returns : goal.returns
returns c =
    (rw c.in-Some.ensures.1 at c.count.ensures.amount)
    ∙ count-below _ _ _ _ _ (ap within c.root_want.ensures ∙ within-root _) (rw c.root_want.ensures refl) _ c.table_end.ensures
    ∙ values-some _ _ _ _ c.in-Some.ensures.0
