-- `words::word` meets its contract: a part of the text, or none of it.
use mathlib.Core.Logic.{inl, inr}
use Prim.Native.Nat.{◌≤◌}
use lib.ListN.{length}
use Rattle.words.proofs.Words.{word-long, word-past, word-inside, word-there}
use Rattle.words.proofs.word.Goals.{After-word_range-range}
use Rattle.words.proofs.word.Goals as goal

-- the word lies inside the text
inside : (c : After-word_range-range) → (c.word_range-range.result.start ≤ c.word_range-range.result.end) × (c.word_range-range.result.end ≤ length c.args.text.now)
inside c = word-inside _ _ c.word_range-range.ensures.0 c.word_range-range.ensures.1 c.if-text-at.false

pub returns-then-text-gt-MOST_TEXT : goal.returns-then-text-gt-MOST_TEXT
returns-then-text-gt-MOST_TEXT c = elim c.then-text-gt-MOST_TEXT.either [ inl k ↦ word-long _ _ k | inr k ↦ word-past _ _ k.0 k.1 ]

pub slice_bounds-result-count : goal.slice_bounds-result-count
slice_bounds-result-count c = (inside c).0

pub slice_bounds-result-start : goal.slice_bounds-result-start
slice_bounds-result-start c = (inside c).0

pub slice_bounds-result-end-2 : goal.slice_bounds-result-end-2
slice_bounds-result-end-2 c = (inside c).1

pub returns : goal.returns
returns c = word-there _ _ c.word_range-range.ensures.0 c.word_range-range.ensures.1 c.if-text-at.false c.if-text-gt-MOST_TEXT.false
