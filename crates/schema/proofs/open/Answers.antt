-- `schema::open` meets its contract: the header decides first, then the records.
use Rattle.std.proofs.Common.{◌≡◌, refl, sym, ◌∙◌, true, false, List, ℕ}
use Rattle.definitions.specs.Image.{header_good, records_good, accepted}
use Rattle.records.proofs.Accepted.{header-parts}
use Rattle.schema.proofs.open.Goals as goal

module _ (s : List ℕ) where
  no_header : header_good s ≡ false → accepted s ≡ false
  unfolding accepted
  no_header e = rw e refl

  by-records : header_good s ≡ true → accepted s ≡ records_good s
  unfolding accepted
  by-records e = rw e refl

pub returns-then-not-header_good : goal.returns-then-not-header_good
returns-then-not-header_good c = no_header c.args.image.now (sym c.header_good.ensures ∙ c.if-not-header_good.true)

pub layout_of-layout-requires : goal.layout_of-layout-requires
layout_of-layout-requires c = (header-parts c.args.image.now (sym c.header_good.ensures ∙ c.if-not-header_good.false)).long

pub invariant_of-records_good : goal.invariant_of-records_good
invariant_of-records_good c = record { placed = record { right = c.layout_of-layout.ensures; whole = (header-parts c.args.image.now (sym c.header_good.ensures ∙ c.if-not-header_good.false)).whole } }

pub returns-then-not-records_good : goal.returns-then-not-records_good
returns-then-not-records_good c = by-records c.args.image.now (sym c.header_good.ensures ∙ c.if-not-header_good.false) ∙ sym c.records_good.ensures ∙ c.if-not-records_good.true

pub invariant_of-result : goal.invariant_of-result
invariant_of-result c = record { known = record { right = c.layout_of-layout.ensures; good = by-records c.args.image.now (sym c.header_good.ensures ∙ c.if-not-header_good.false) ∙ sym c.records_good.ensures ∙ c.if-not-records_good.false } }
