-- `numbers::read_integer` meets its contract: an integer over the most, and one that is worth something.
use mathlib.Core.Path.{sym, ◌∙◌, ap}
use Rattle.std.specs.Prelude.{Err}
use Rattle.leaves.proofs.Returns.{no-answers, answers_by}
use Rattle.leaves.proofs.Steps.{integer-over, integer-worth}
use Rattle.numbers.proofs.read_integer.Goals as goal

pub returns-in_default : goal.returns-in_default
returns-in_default c = λ f.
    let o = integer-over _ c.args.w _ _ c.args.q c.args.t _ c.if-t-ne-INTEGER.false (sym c.in_default.is ∙ c.integer.ensures) in
    no-answers _ _ _ _ _ _ _ _ _ o (ap Err c.at-in_default.ensures)

pub returns : goal.returns
returns c = λ f. answers_by _ _ _ _ _ _ _ _ (integer-worth _ c.args.w _ _ c.args.q c.args.t _ c.if-t-ne-INTEGER.false _ (sym c.in-Some.is ∙ c.integer.ensures)) (c.put_number.ensures _ c.requires.2 f)
