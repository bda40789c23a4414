-- `words::line_first` meets its contract. The invariant: the line of `i` begins where the line of the offset begins.
use mathlib.Core.Path.{◌≡◌}
use Rattle.words.specs.Words.{line_first}
use Rattle.words.proofs.line_first.Given as goal

abbrev pub invariant-loop-i : goal.invariant-loop-i
invariant-loop-i l = line_first l.text l.i ≡ line_first l.text l.at
