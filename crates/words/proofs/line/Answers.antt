-- `words::line` meets its contract: a part of the text, or none of it.
use Prim.Native.Nat.{◌≤◌}
use lib.ListN.{length}
use Rattle.words.proofs.Lines.{line-past, line-inside, line-there}
use Rattle.words.proofs.line.Goals.{After-line_end}
use Rattle.words.proofs.line.Goals as goal

pub returns-then-text-at : goal.returns-then-text-at
returns-then-text-at c = line-past _ _ c.if-text-at.true

-- the line lies inside the text
inside : (c : After-line_end) → (c.line_first.result ≤ c.line_end.result) × (c.line_end.result ≤ length c.args.text.now)
inside c = line-inside _ _ c.line_first.ensures c.line_end.ensures c.if-text-at.false

pub slice_bounds-result-count : goal.slice_bounds-result-count
slice_bounds-result-count c = (inside c).0

pub slice_bounds-result-start : goal.slice_bounds-result-start
slice_bounds-result-start c = (inside c).0

pub slice_bounds-result-end-2 : goal.slice_bounds-result-end-2
slice_bounds-result-end-2 c = (inside c).1

pub returns : goal.returns
returns c = line-there _ _ c.line_first.ensures c.line_end.ensures c.if-text-at.false
