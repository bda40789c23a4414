-- `survey::missing` meets its contract: all that lies below the root of a table that is taken.
use native.Mathlib.Omega.{arith}
use mathlib.Core.Path.{ap, ◌∙◌}
use Rattle.definitions.specs.Scope.{within}
use Rattle.records.specs.Known.{option_of}
use Rattle.nodes.proofs.Scopes.{within-root, there-root}
use Rattle.validity.proofs.Root.{root-parts}
use Rattle.validity.proofs.Values.{valid-root}
use Rattle.live.proofs.Sounds.{sound-valid}
use Rattle.survey.proofs.Lackings.{lacking-below}
use Rattle.survey.proofs.Tables.{taken-parts, missing-none, missing-some}
use Rattle.survey.proofs.missing.Goals as goal

pub returns-in_err-schema : goal.returns-in_err-schema
returns-in_err-schema c = c.from_residual.ensures ∙ ap option_of (missing-none _ _ _ _ c.in_err-schema.ensures)

pub table_end-requires : goal.table_end-requires
table_end-requires c = let r = root-parts _ (valid-root _ _ _ _ (taken-parts _ _ _ _ c.in_ok-schema.ensures.0).valued) in omega (arith, r.some, r.room)

pub lacking-requires : goal.lacking-requires
lacking-requires c =
    let k = taken-parts _ _ _ _ c.in_ok-schema.ensures.0 in
    rw c.in_ok-schema.ensures.1
    (there-root _ _ _ c.root_want.ensures k.rooted, rw (c.root_want.ensures, within-root _, c.table_end.ensures) (sound-valid _ _ _ _ k.valued))

pub returns : goal.returns
returns c =
    (rw c.in_ok-schema.ensures.1 at c.lacking.ensures)
    ∙ ap option_of (lacking-below _ _ _ _ _ (ap within c.root_want.ensures ∙ within-root _) _ c.table_end.ensures ∙ missing-some _ _ _ _ c.in_ok-schema.ensures.0)
