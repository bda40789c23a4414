-- `lexer::tokens::runs_on` meets its contract, by the byte at the place, if there is one.
use mathlib.Core.Bool.{or-true, or-false}
use borrow.Author.Tests.{eq-eqb, ne_eqb}
use Rattle.lexer.proofs.Laws.{runs-end, runs-at}
use Rattle.lexer.proofs.tokens.runs_on.Goals as goal

pub returns-then-text-at : goal.returns-then-text-at
returns-then-text-at c = runs-end _ _ c.if-text-at.true

pub returns-then-b-eq46 : goal.returns-then-b-eq46
returns-then-b-eq46 c = rw (runs-at _ _ c.if-text-at.false) (simp (eq-eqb _ _ c.if-b-eq46.true, or-true))

pub returns-else-b-eq46 : goal.returns-else-b-eq46
returns-else-b-eq46 c = rw (runs-at _ _ c.if-text-at.false) (simp (ne_eqb _ _ c.if-b-eq46.false, or-false, c.class.ensures.0))
