-- `distinct::apart` meets its contract. The invariant: none of those passed agrees.
use Rattle.std.proofs.Common.{◌≡◌, ℕ, Bool, false, sym, ◌∙◌}
use Rattle.distinct.specs.Seen.{differs}
use Rattle.laws.proofs.Lists.{all-fails}
use borrow.Author.Tests.{ne_eqb}
use Rattle.laws.proofs.Tests.{all_start, all_more}
use Rattle.distinct.proofs.Marks.{same-number, same-name, both-differ}
use Rattle.distinct.proofs.apart.Goals as goal
use Rattle.distinct.proofs.apart.Goals.{then-number-own-via-then-number-own, then-number-own-via-else-number-own+then-same}

pub returns-then-number-own : goal.returns-then-number-own
returns-then-number-own g c =
    let p : ℕ → Bool = differs (g.T.Table.name_of c.args.table.now) (g.T.Table.number_of c.args.table.now) c.args.first c.args.index in
    let e : p c.loop-i.i ≡ false =
    elim c.then-number-own.branch [
      | then-number-own-via-then-number-own w ↦ same-number _ _ _ _ (sym c.number.ensures ∙ w.if-number-own.true ∙ c.number-own.ensures)
      | then-number-own-via-else-number-own+then-same w ↦ same-name _ _ _ _ (cc)
    ] in
    sym (all-fails c.args.index p c.loop-i.i c.loop-i-test.true e)

pub loop-i-init : goal.loop-i-init
loop-i-init g c = all_start (differs (g.T.Table.name_of c.args.table.now) (g.T.Table.number_of c.args.table.now) c.args.first c.args.index)

pub loop-i-preserved : goal.loop-i-preserved
loop-i-preserved g c =
    let p : ℕ → Bool = differs (g.T.Table.name_of c.args.table.now) (g.T.Table.number_of c.args.table.now) c.args.first c.args.index in
    all_more c.loop-i.i p c.loop-i.invariant (both-differ _ _ _ _ (ne_eqb _ _ (λ e. c.if-number-own.false (c.number.ensures ∙ e ∙ sym c.number-own.ensures))) (cc))
