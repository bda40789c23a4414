-- `words::line_at` meets its contract. The invariant: `line` is the line of `i`.
use mathlib.Core.Path.{◌≡◌}
use Rattle.lexer.specs.Steps.{line_at}
use Rattle.words.proofs.line_at.Given as goal

abbrev pub invariant-loop-i : goal.invariant-loop-i
invariant-loop-i l = l.line ≡ line_at l.text l.i
