-- `words::bad_end` meets its contract: the token is its first byte and what goes on it.
use Rattle.std.proofs.Common.{rules, tests, ◌∙◌}
use lib.ListN.{get_or}
use Rattle.words.specs.Words.{goes_with}
use Rattle.words.proofs.Words.{bad-is}
use Rattle.words.proofs.bad_end.Goals as goal

pub returns : goal.returns
returns c = c.end.ensures (goes_with (get_or c.args.text.now c.args.at 0)) (λ b r k. search (rules, tests)) ∙ bad-is _ _ c.requires
