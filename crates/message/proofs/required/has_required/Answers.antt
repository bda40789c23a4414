-- `message::required::has_required` meets its contract: all that lies below the root of a valid table.
use native.Mathlib.Omega.{arith}
use mathlib.Core.Path.{ap, ◌∙◌}
use Rattle.definitions.specs.Scope.{within}
use Rattle.nodes.proofs.Scopes.{within-root, there-root}
use Rattle.validity.proofs.Root.{root-parts}
use Rattle.validity.proofs.Values.{valid-root}
use Rattle.live.proofs.Sounds.{sound-valid}
use Rattle.message.proofs.Requires.{meaning-below}
use Rattle.message.proofs.required.has_required.Goals as goal

pub table_end-requires : goal.table_end-requires
table_end-requires c = let r = root-parts _ (valid-root _ _ _ _ c.requires.1) in omega (arith, r.some, r.room)

pub is_complete-requires : goal.is_complete-requires
is_complete-requires c = (
  there-root _ _ _ c.root_want.ensures c.requires.0,
  rw (c.root_want.ensures, within-root _, c.table_end.ensures) (sound-valid _ _ _ _ c.requires.1),
)

pub returns : goal.returns
returns c = c.is_complete.ensures ∙ meaning-below _ _ _ _ _ (ap within c.root_want.ensures ∙ within-root _) _ c.table_end.ensures
