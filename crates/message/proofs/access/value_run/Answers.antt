-- `message::access::value_run` meets its contract.
use native.Mathlib.Omega.{arith}
use mathlib.Core.Path.{sym, ◌∙◌}
use Rattle.validity.proofs.Root.{root-parts}
use Rattle.message.proofs.Lending.{value-past, value-at, value-other}
use Rattle.message.proofs.access.value_run.Goals as goal

pub table_end-requires : goal.table_end-requires
table_end-requires c = let r = root-parts _ c.requires in omega (arith, r.some, r.room)

pub returns-then-table_end-i : goal.returns-then-table_end-i
returns-then-table_end-i c = value-past _ _ (omega (arith, c.table_end.ensures, c.if-table_end-i.true))

pub node-n-requires : goal.node-n-requires
node-n-requires c = let r = root-parts _ c.requires in omega (arith, r.room, c.table_end.ensures, c.if-table_end-i.false)

pub returns-then-not-is_run : goal.returns-then-not-is_run
returns-then-not-is_run c = value-other _ _ (omega (arith, c.table_end.ensures, c.if-table_end-i.false)) _ c.node-n.ensures (sym c.is_run.ensures ∙ c.if-not-is_run.true)

pub returns : goal.returns
returns c = value-at _ _ (omega (arith, c.table_end.ensures, c.if-table_end-i.false)) _ c.node-n.ensures (sym c.is_run.ensures ∙ c.if-not-is_run.false)
