-- `words::word_range` meets its contract, by the token that the scanner finds.
use mathlib.Core.Path.{sym, ◌∙◌}
use Rattle.words.proofs.Words.{token-part, bad-part, bad-inside}
use Rattle.words.proofs.word_range.Goals as goal

pub bad_end-requires : goal.bad_end-requires
bad_end-requires c = bad-inside _ _ c.requires.0 _ (sym c.next.ensures ∙ c.in-Err.is)

pub returns-in-Ok : goal.returns-in-Ok
returns-in-Ok c = token-part _ _ _ c.next.ensures _ c.in-Ok.is

pub returns-in-Err : goal.returns-in-Err
returns-in-Err c = bad-part _ _ _ c.next.ensures _ _ c.in-Err.is c.bad_end.ensures
