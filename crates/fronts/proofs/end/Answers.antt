-- `fronts::end` meets its contract. The invariant: the bytes from `i` on pass as far as those from the start.
use Rattle.std.proofs.Common.{refl, sym, ◌∙◌}
use Rattle.laws.proofs.Tests.{front-on, front-stop}
use Rattle.fronts.proofs.First.{front-whole}
use Rattle.fronts.proofs.end.Goals as goal

pub loop-i-init : goal.loop-i-init
loop-i-init g c = λ p h. refl

pub returns-then-not-passes : goal.returns-then-not-passes
returns-then-not-passes g c = λ p h. front-stop p _ _ c.loop-i-test.true (sym (h _ _ c.passes.ensures) ∙ c.if-not-passes.true) ∙ c.loop-i.invariant p h

pub loop-i-preserved : goal.loop-i-preserved
loop-i-preserved g c = λ p h. front-on p _ _ c.loop-i-test.true (sym (h _ _ c.passes.ensures) ∙ c.if-not-passes.false) ∙ c.loop-i.invariant p h

pub returns : goal.returns
returns g c = λ p h. c.max.ensures ∙ front-whole p _ _ c.loop-i.i c.loop-i-test.false c.loop-i.auto.i-end (c.loop-i.invariant p h)
