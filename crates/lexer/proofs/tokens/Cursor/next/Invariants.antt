-- `lexer::tokens::Cursor::next` meets its contract. The invariant: what is skipped from `at` on is what is skipped from the start, and
-- `line` is the line of `at`.
use mathlib.Core.Path.{◌≡◌}
use Prim.Native.Nat.{◌-◌}
use lib.ListN.{length}
use Rattle.definitions.specs.Tokens.{skip}
use Rattle.lexer.specs.Steps.{Located}
use Rattle.lexer.proofs.tokens.Cursor.next.Given as goal

abbrev pub invariant-loop-at : goal.invariant-loop-at
invariant-loop-at l = (skip l.text l.at ≡ skip l.text l.initial.at) × Located l.text (record { at = l.at; line = l.line })

abbrev pub decreases-loop-at : goal.decreases-loop-at
decreases-loop-at l = length l.text - l.at
