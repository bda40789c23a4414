-- `words::line_at` meets its contract. The invariant: `line` is the line of `i`.
use mathlib.Core.Path.{sym, ◌∙◌, ap}
use native.Mathlib.Omega.{arith}
use Rattle.lexer.specs.declared.tokens.Line.{Line}
use Rattle.lexer.proofs.Lines.{line-first, line_on, line-next, line_small}
use Rattle.words.proofs.line_at.Goals.{then-text-i-eq10, else-text-i-eq10}
use Rattle.words.proofs.line_at.Goals as goal

pub loop-i-init : goal.loop-i-init
loop-i-init c = line-first _

pub next-line-requires : goal.next-line-requires
next-line-requires c = (omega (arith, (line_small c.args.text.now c.loop-i.i).0, ap (λ (l : Line). l.number) c.loop-i.invariant), omega arith)

pub loop-i-preserved : goal.loop-i-preserved
loop-i-preserved c =
    elim c.if-text-i-eq10.branch [
      | then-text-i-eq10 w ↦ w.line-is ∙ w.next-line.ensures ∙ rw c.loop-i.invariant (sym (line-next _ _ (omega arith) w.if-text-i-eq10.true))
      | else-text-i-eq10 w ↦ w.line-is ∙ c.loop-i.invariant ∙ sym (line_on _ _ (omega arith) w.if-text-i-eq10.false)
    ]
