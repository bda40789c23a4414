-- `live::key` meets its contract: an entry has two children.
use native.Mathlib.Omega.{arith}
use mathlib.Core.Path.{◌∙◌}
use Rattle.live.proofs.Entries.{entry_first, entry-second, key-first, key-second}
use Rattle.live.proofs.key.Goals as goal

pub overflow_add-i : goal.overflow_add-i
overflow_add-i c = omega (arith, entry_first _ _ c.requires, c.requires.room, c.well_formed)

pub node-first-requires : goal.node-first-requires
node-first-requires c = omega (arith, entry_first _ _ c.requires, c.requires.room)

pub returns-then-first-eq0 : goal.returns-then-first-eq0
returns-then-first-eq0 c = key-first _ _ _ c.node-first.ensures c.if-first-eq0.true

pub node-requires : goal.node-requires
node-requires c = omega (arith, entry-second _ _ c.requires _ c.node-first.ensures, c.requires.room)

pub returns : goal.returns
returns c = c.node.ensures ∙ key-second _ _ _ c.node-first.ensures c.if-first-eq0.false
