-- `live::has_key` meets its contract. The invariant: an entry with the key stands from the sibling that the walk has come to on, if one stands there at all.
use mathlib.Core.Path.{◌≡◌}
use Rattle.live.proofs.Seeks.{Seek}
use Rattle.live.proofs.has_key.Given as goal

abbrev pub invariant-loop-j : goal.invariant-loop-j
invariant-loop-j l =
    (goal.iterator-loop-j).can_next l.j-iterator
    × (goal.iterator-loop-j).is_finite l.j-iterator
    × (l.j-iterator.nodes.now ≡ l.nodes)
    × (l.j-iterator.end ≡ l.to)
    × Seek l.pool l.nodes l.rank l.i l.from l.to l.j-iterator.at
