-- `distinct::apart` meets its contract. The invariant: none of those passed agrees.
use Rattle.std.proofs.Common.{◌≡◌, true}
use Rattle.definitions.specs.Basics.{all}
use Rattle.distinct.specs.Seen.{differs}
use Rattle.distinct.proofs.apart.Given as goal

abbrev pub invariant-loop-i : goal.invariant-loop-i
invariant-loop-i g l = all l.i (differs (g.T.Table.name_of l.table) (g.T.Table.number_of l.table) l.first l.index) ≡ true
