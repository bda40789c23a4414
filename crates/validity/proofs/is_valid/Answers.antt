-- `validity::is_valid` meets its contract: the root, then what lies below it.
use native.Mathlib.Omega.{arith}
use mathlib.Core.Path.{sym, ap, ◌∙◌}
use Rattle.definitions.specs.Scope.{within}
use Rattle.nodes.proofs.Scopes.{within-root, there-root}
use Rattle.validity.proofs.Root.{root-parts, valid-no, valid-span}
use Rattle.validity.proofs.is_valid.Goals as goal

pub table_end-requires : goal.table_end-requires
table_end-requires c = let r = root-parts _ (sym c.root_good.ensures ∙ c.if-root_good.true) in omega (arith, r.some, r.room)

pub span_good-requires : goal.span_good-requires
span_good-requires c =
    let r = root-parts _ (sym c.root_good.ensures ∙ c.if-root_good.true) in
    (there-root _ _ _ c.root_want.ensures c.requires, omega (arith, r.some, c.table_end.ensures), omega (arith, r.room, c.table_end.ensures))

pub returns-then-root_good : goal.returns-then-root_good
returns-then-root_good c =
    c.span_good.ensures
    ∙ valid-span _ _ _ _ (sym c.root_good.ensures ∙ c.if-root_good.true) _ (ap within c.root_want.ensures ∙ within-root _) _ c.table_end.ensures

pub returns-else-root_good : goal.returns-else-root_good
returns-else-root_good c = c.if-root_good.false ∙ valid-no _ _ _ _ (sym c.root_good.ensures ∙ c.if-root_good.false)
