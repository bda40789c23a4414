-- `distinct::all_distinct` meets its contract. The invariant: the runs passed are distinct.
use Rattle.std.proofs.Common.{sym, arith}
use Rattle.laws.proofs.Lists.{all-fails}
use Rattle.laws.proofs.Tests.{all_start, all_more}
use Rattle.distinct.proofs.all_distinct.Goals as goal
use Rattle.distinct.proofs.all_distinct.Invariants.{apart}

pub loop-i-init : goal.loop-i-init
loop-i-init g c = all_start (apart (g.T.Table.name_of c.args.table.now) (g.T.Table.number_of c.args.table.now) (g.T.Table.run_of c.args.table.now))

pub returns-then-not-run_distinct : goal.returns-then-not-run_distinct
returns-then-not-run_distinct g c = sym (all-fails _ (apart (g.T.Table.name_of c.args.table.now) (g.T.Table.number_of c.args.table.now) (g.T.Table.run_of c.args.table.now)) c.loop-i.i (omega (arith, c.runs-i-end.ensures)) (cc))

pub loop-i-preserved : goal.loop-i-preserved
loop-i-preserved g c = all_more c.loop-i.i (apart (g.T.Table.name_of c.args.table.now) (g.T.Table.number_of c.args.table.now) (g.T.Table.run_of c.args.table.now)) c.loop-i.invariant (cc)
