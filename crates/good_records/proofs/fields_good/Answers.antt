-- `good_records::fields_good` meets its contract: each record of the table is tested.
use Rattle.std.proofs.Common.{rules, ◌∙◌, ap, ℕ}
use Rattle.definitions.specs.Basics.{all}
use Rattle.definitions.specs.Image.{field_good}
use Rattle.records.proofs.Search.{all-range}
use Rattle.good_records.proofs.fields_good.Goals as goal

pub returns : goal.returns
returns c =
    let good = field_good c.args.tables.now.image.now in
    all-range c.field_count.result good c.all.ensures.ran (λ x q k. search rules) (λ x q k. search rules) ∙ ap (λ (n : ℕ). all n good) c.field_count.ensures
