-- `distinct::run_distinct` meets its contract: what is kept tells that a record is new, else the comparisons do.
use Rattle.std.proofs.Common.{◌≡◌, ℕ, true, List, sym, ◌∙◌, arith}
use Rattle.definitions.specs.Image.{distinct}
use Rattle.distinct.specs.Seen.{new}
use Rattle.laws.proofs.Lists.{all-fails}
use Rattle.laws.proofs.Tests.{all_start, all_more, all_done}
use Rattle.distinct.proofs.Marks.{seen_start, kept-next, new-lacked}
use Rattle.distinct.proofs.run_distinct.Goals as goal
use Rattle.distinct.proofs.run_distinct.Goals.{else-not-lacks-via-then-not-lacks+else-not-apart, else-not-lacks-via-else-not-lacks}

pub loop-j-init : goal.loop-j-init
loop-j-init g c = (all_start (new (g.T.Table.name_of c.args.table.now) (g.T.Table.number_of c.args.table.now) c.args.run.first), seen_start (g.T.Table.name_of c.args.table.now) (g.T.Table.number_of c.args.table.now) c.args.run.first)

pub returns-then-not-apart : goal.returns-then-not-apart
unfolding distinct
returns-then-not-apart g c =
    sym (all-fails c.args.run.count (new (g.T.Table.name_of c.args.table.now) (g.T.Table.number_of c.args.table.now) c.args.run.first) c.loop-j.j c.loop-j-test.true (sym c.apart.ensures ∙ c.if-not-apart.true))

pub loop-j-preserved : goal.loop-j-preserved
loop-j-preserved g c =
    let name : ℕ → List ℕ = g.T.Table.name_of c.args.table.now in
    let number : ℕ → ℕ = g.T.Table.number_of c.args.table.now in
    let first : ℕ = c.args.run.first in
    let here : new name number first c.loop-j.j ≡ true =
    elim c.else-not-lacks.branch [
      | else-not-lacks-via-then-not-lacks+else-not-apart w ↦ sym w.apart.ensures ∙ w.if-not-apart.false
      | else-not-lacks-via-else-not-lacks w ↦ new-lacked name number first c.loop-j.j c.loop-j.kept.marks c.loop-j.kept.most c.loop-j.invariant.1 (cc)
    ] in (
      all_more c.loop-j.j (new name number first) c.loop-j.invariant.0 here,
      kept-next name number first c.loop-j.j c.loop-j.kept.marks c.loop-j.kept.most c.loop-j.invariant.1 c.with-kept.result _ _ c.with-kept.ensures c.name-text.ensures c.number-number.ensures,
    )

pub returns : goal.returns
unfolding distinct
returns g c = all_done (new (g.T.Table.name_of c.args.table.now) (g.T.Table.number_of c.args.table.now) c.args.run.first) (omega arith) c.loop-j.invariant.0
