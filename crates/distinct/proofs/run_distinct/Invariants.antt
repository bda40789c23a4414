-- `distinct::run_distinct` meets its contract. The invariant: those passed are new, and their marks and greatest number are kept.
use Rattle.std.proofs.Common.{◌≡◌, true}
use Rattle.definitions.specs.Basics.{all}
use Rattle.distinct.specs.Seen.{Seen, new}
use Rattle.distinct.proofs.run_distinct.Given as goal

abbrev pub invariant-loop-j : goal.invariant-loop-j
invariant-loop-j g l =
    (all l.j (new (g.T.Table.name_of l.table) (g.T.Table.number_of l.table) l.run.first) ≡ true)
    × Seen (g.T.Table.name_of l.table) (g.T.Table.number_of l.table) l.run.first l.j l.kept.marks l.kept.most
