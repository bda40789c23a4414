-- `words::line_first` meets its contract. The invariant: the line of `i` begins where the line of the offset begins.
use mathlib.Core.Path.{◌≡◌, refl, ◌∙◌}
use native.Mathlib.Omega.{arith}
use Rattle.words.proofs.Lines.{first_past, first-zero, first_next, first_on}
use Rattle.words.proofs.line_first.Goals as goal

pub returns-then-text-at : goal.returns-then-text-at
returns-then-text-at c = first_past _ _ c.if-text-at.true

pub loop-i-init : goal.loop-i-init
loop-i-init c = refl

pub returns-then-text-i-eq10 : goal.returns-then-text-i-eq10
returns-then-text-i-eq10 c = first_next _ _ c.loop-i-test.true (omega arith) c.if-text-i-eq10.true ∙ c.loop-i.invariant

pub loop-i-preserved : goal.loop-i-preserved
loop-i-preserved c = first_on _ _ c.loop-i-test.true (omega arith) c.if-text-i-eq10.false ∙ c.loop-i.invariant

pub returns : goal.returns
returns c =
    let z : c.loop-i.i ≡ 0 = omega arith in
    first-zero c.args.text.now ∙ rw z at c.loop-i.invariant
