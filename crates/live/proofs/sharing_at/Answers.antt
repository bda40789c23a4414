-- `live::sharing_at` meets its contract, label by label.
use native.Mathlib.Omega.{arith}
use mathlib.Core.Path.{sym, ap, ◌∙◌}
use Rattle.live.specs.Live.{sharing_of}
use Rattle.nodes.proofs.Scopes.{inside-message, inside-small}
use Rattle.validity.proofs.Checks.{fits-known}
use Rattle.live.proofs.Lives.{sharing-entry, sharing-unknown, sharing-repeated, sharing-map, sharing-single}
use Rattle.live.proofs.sharing_at.Goals as goal

pub returns-then-w-eq-ENTRY : goal.returns-then-w-eq-ENTRY
returns-then-w-eq-ENTRY c = ap sharing_of (sharing-entry _ _ _ c.if-w-eq-ENTRY.true)

pub returns-then-is_unknown : goal.returns-then-is_unknown
returns-then-is_unknown c = ap sharing_of (sharing-unknown _ _ _ c.if-w-eq-ENTRY.false (sym c.is_unknown.ensures ∙ c.if-is_unknown.true))

pub field-requires : goal.field-requires
field-requires c = inside-message _ c.args.schema.now.known.good _ _ c.if-w-eq-ENTRY.false c.requires.0 (fits-known _ _ _ c.requires.1 (sym c.is_unknown.ensures ∙ c.if-is_unknown.false)).0

pub returns-in-2 : goal.returns-in-2
returns-in-2 c =
    let l = inside-small _ c.args.schema.now.known.good _ _ c.if-w-eq-ENTRY.false c.requires.0 (fits-known _ _ _ c.requires.1 (sym c.is_unknown.ensures ∙ c.if-is_unknown.false)).0 in
    ap sharing_of (sharing-repeated _ _ _ c.if-w-eq-ENTRY.false (sym c.is_unknown.ensures ∙ c.if-is_unknown.false) l _ c.field.ensures c.in-2.is)

pub returns-in-3 : goal.returns-in-3
returns-in-3 c =
    let l = inside-small _ c.args.schema.now.known.good _ _ c.if-w-eq-ENTRY.false c.requires.0 (fits-known _ _ _ c.requires.1 (sym c.is_unknown.ensures ∙ c.if-is_unknown.false)).0 in
    ap sharing_of (sharing-map _ _ _ c.if-w-eq-ENTRY.false (sym c.is_unknown.ensures ∙ c.if-is_unknown.false) l _ c.field.ensures (λ z. omega arith) c.in-3.is)

pub returns-in_default : goal.returns-in_default
returns-in_default c =
    let l = inside-small _ c.args.schema.now.known.good _ _ c.if-w-eq-ENTRY.false c.requires.0 (fits-known _ _ _ c.requires.1 (sym c.is_unknown.ensures ∙ c.if-is_unknown.false)).0 in
    ap sharing_of (sharing-single _ _ _ c.if-w-eq-ENTRY.false (sym c.is_unknown.ensures ∙ c.if-is_unknown.false) l _ c.field.ensures (λ z. omega arith) (λ z. omega arith))
