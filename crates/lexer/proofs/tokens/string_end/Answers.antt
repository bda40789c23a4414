-- `lexer::tokens::string_end` meets its contract. The invariant: the string is closed from `i` on where it is closed from the start.
use mathlib.Core.Path.{sym, ◌∙◌, subst}
use mathlib.Core.Bool.{false, true}
use Prim.Native.Nat.{ℕ, ◌≤◌}
use Rattle.lexer.proofs.Laws.{close-end, close-break, string-closed, string-plain, string-other, string-slash, string-taken}
use Rattle.lexer.proofs.tokens.string_end.Goals.{then-text-i-via-then-text-i, then-text-i-via-else-text-i+then-breaks-2}
use Rattle.lexer.proofs.tokens.string_end.Goals as goal

pub returns-then-b-quote : goal.returns-then-b-quote
returns-then-b-quote c = string-closed _ c.requires _ _ c.loop-i-test.true c.if-b-quote.true ∙ c.loop-i.invariant

pub returns-then-breaks : goal.returns-then-breaks
returns-then-breaks c = close-break _ false _ _ c.loop-i-test.true (sym c.breaks.ensures ∙ c.if-breaks.true) ∙ c.loop-i.invariant

pub returns-then-text-i : goal.returns-then-text-i
returns-then-text-i c =
    (elim c.then-text-i.branch [ then-text-i-via-then-text-i w ↦ close-end _ true _ _ w.if-text-i.true | then-text-i-via-else-text-i+then-breaks-2 w ↦ close-break _ true _ _ w.if-text-i.false (sym w.breaks-else-text-i.ensures ∙ w.if-breaks-2.true) ])
    ∙ string-slash _ c.requires _ _ c.loop-i-test.true (sym c.breaks.ensures ∙ c.if-breaks.false) c.if-b-quote.false c.if-b-eq92.true
    ∙ c.loop-i.invariant

pub loop-i-preserved-then-b-eq92 : goal.loop-i-preserved-then-b-eq92
loop-i-preserved-then-b-eq92 c =
    string-taken _ c.requires _ _ c.if-text-i.false (sym c.breaks-else-text-i.ensures ∙ c.if-breaks-2.false)
    ∙ string-slash _ c.requires _ _ c.loop-i-test.true (sym c.breaks.ensures ∙ c.if-breaks.false) c.if-b-quote.false c.if-b-eq92.true
    ∙ c.loop-i.invariant

pub loop-i-preserved-else-b-eq92 : goal.loop-i-preserved-else-b-eq92
loop-i-preserved-else-b-eq92 c = string-other _ c.requires _ _ c.loop-i-test.true (sym c.breaks.ensures ∙ c.if-breaks.false) c.if-b-quote.false c.if-b-eq92.false ∙ c.loop-i.invariant

pub loop-i-preserved : goal.loop-i-preserved
loop-i-preserved c = string-plain _ c.requires _ _ c.loop-i-test.true (subst (λ (n : ℕ). 5 ≤ n) c.class.ensures.0 c.if-class-lt-SPACE.false) ∙ c.loop-i.invariant

pub returns : goal.returns
returns c = close-end _ false _ _ c.loop-i-test.false ∙ c.loop-i.invariant
