-- `good_records::words` meets its contract: each byte is tested.
use Rattle.std.proofs.Common.{rules}
use Rattle.definitions.specs.Image.{word}
use Rattle.records.proofs.Search.{all-slice}
use Rattle.good_records.proofs.words.Goals as goal

pub returns : goal.returns
returns c = all-slice c.args.text.now word c.iter.ensures.rest c.all.ensures.ran (λ x q k. search rules) (λ x q k. search rules)
