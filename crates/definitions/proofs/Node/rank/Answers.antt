-- `definitions::Node::rank` meets its contract.
use Rattle.std.proofs.Common.{sym, ◌∙◌}
use Rattle.definitions.specs.Live.{rank_of}
use Rattle.definitions.proofs.Node.rank.Goals as goal

pub returns-then-is_unknown : goal.returns-then-is_unknown
unfolding rank_of
returns-then-is_unknown c = simp (sym c.is_unknown.ensures ∙ c.if-is_unknown.true)

pub returns-else-is_unknown : goal.returns-else-is_unknown
unfolding rank_of
returns-else-is_unknown c = simp (sym c.is_unknown.ensures ∙ c.if-is_unknown.false)
