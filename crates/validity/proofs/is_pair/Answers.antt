-- `validity::is_pair` meets its contract: none, one, two or more children.
use native.Mathlib.Omega.{arith}
use Rattle.validity.proofs.Spans.{pair-none, pair_one, pair-more, pair-key, pair-value, pair-other}
use Rattle.validity.proofs.is_pair.Goals as goal

pub returns-then-e-i : goal.returns-then-e-i
returns-then-e-i c = pair-none _ _ _ c.requires.0 c.if-e-i.true

pub returns-then-e-next : goal.returns-then-e-next
returns-then-e-next c = pair_one _ _ _ c.requires.0 c.if-e-i.false _ c.node-a.ensures c.if-e-next.true

pub returns-then-b-e : goal.returns-then-b-e
returns-then-b-e c = pair-more _ _ _ c.requires.0 c.if-e-i.false _ c.node-a.ensures c.if-e-next.false _ c.node-b.ensures c.if-b-e.true

pub returns-in-0 : goal.returns-in-0
returns-in-0 c = pair-key _ _ _ c.requires.0 c.if-e-i.false _ c.node-a.ensures c.if-e-next.false _ c.node-b.ensures c.if-b-e.false c.in-0.is

pub returns-in-1 : goal.returns-in-1
returns-in-1 c = pair-value _ _ _ c.requires.0 c.if-e-i.false _ c.node-a.ensures c.if-e-next.false _ c.node-b.ensures c.if-b-e.false c.in-1.is

pub returns-in_default : goal.returns-in_default
returns-in_default c = pair-other _ _ _ c.requires.0 c.if-e-i.false _ c.node-a.ensures c.if-e-next.false _ c.node-b.ensures c.if-b-e.false (λ z. omega arith) (λ z. omega arith)
