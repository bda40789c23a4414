-- `lexer::tokens::string_end` meets its contract. The invariant: the string is closed from `i` on where it is closed from the start.
use mathlib.Core.Path.{◌≡◌}
use mathlib.Core.Bool.{false}
use Prim.Native.Nat.{◌-◌}
use lib.ListN.{length}
use Rattle.lexer.proofs.Laws.{close_at}
use Rattle.lexer.proofs.tokens.string_end.Given as goal

abbrev pub invariant-loop-i : goal.invariant-loop-i
invariant-loop-i l = close_at l.quote false l.text l.i ≡ close_at l.quote false l.text l.at

abbrev pub decreases-loop-i : goal.decreases-loop-i
decreases-loop-i l = length l.text - l.i
