-- `schema::enums_filled` meets its contract: each enum is tested.
use Rattle.std.proofs.Common.{rules, ◌∙◌, ap, ℕ, Bool, leb}
use Rattle.definitions.specs.Basics.{all}
use Rattle.definitions.specs.Image.{enumeration}
use Rattle.records.proofs.Search.{all-range}
use Rattle.schema.proofs.enums_filled.Goals as goal

pub returns : goal.returns
returns c =
    let filled : ℕ → Bool = λ i. leb 1 (enumeration c.args.tables.now.image.now i).count in
    all-range c.enum_count.result filled c.all.ensures.ran (λ x q k. search rules) (λ x q k. search rules) ∙ ap (λ (n : ℕ). all n filled) c.enum_count.ensures
