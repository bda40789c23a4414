-- `scalars::names::read_enum` meets its contract: a bad token, no name, a name that the enum has not, and one that it has.
use mathlib.Core.Path.{◌∙◌, refl, ap}
use Rattle.std.specs.Prelude.{Err}
use Rattle.std.proofs.lemmas.Result.{err_from_is_err_and}
use Rattle.records.proofs.Accepted.{member-found}
use Rattle.records.proofs.Search.{option_some, option_none}
use Rattle.leaves.proofs.Returns.{no-answers, answers_by}
use Rattle.leaves.proofs.Steps.{scanned, scanned-line, bad-answers, reached, enum-bad, enum-other, enum-unknown, enum_known}
use Rattle.scalars.proofs.names.read_enum.Goals as goal

pub returns-in_err-t : goal.returns-in_err-t
returns-in_err-t c = λ f.
    let p = err_from_is_err_and c.from_residual.result c.from_residual.ensures.1 in
    rw (p.1, p.2) (bad-answers _ _ _ _ _ _ _ _ _ c.in_err-t.ensures (enum-bad _ _ _ _))

pub returns-then-t-ne-NAME : goal.returns-then-t-ne-NAME
returns-then-t-ne-NAME c = λ f. no-answers _ _ _ _ _ _ _ _ _ (enum-other _ _ _ _ _ _ (scanned _ _ _ _ c.in_ok-t.ensures) c.if-t-ne-NAME.true) (ap Err c.at.ensures)

pub bytes_of-name-requires : goal.bytes_of-name-requires
bytes_of-name-requires c = reached _ _ _ _ c.requires.0.inside (scanned _ _ _ _ c.in_ok-t.ensures)

pub find_member-requires : goal.find_member-requires
find_member-requires c = c.requires.2.enums c.requires.3

pub returns-in_default : goal.returns-in_default
returns-in_default c = λ f.
    let u = enum-unknown _ _ c.args.w c.args.here.spot _ _ (scanned _ _ _ _ c.in_ok-t.ensures) c.if-t-ne-NAME.false (option_none _ (rw c.bytes_of-name.ensures at c.in_default.ensures)) in
    no-answers _ _ _ _ _ _ _ _ _ u (ap Err c.at-in_default.ensures)

pub member-m-requires : goal.member-m-requires
member-m-requires c = (member-found _ c.args.source.now.schema.known.good _ _ (c.requires.2.enums c.requires.3) _ (option_some _ c.in-Some.ensures)).0.below

pub returns : goal.returns
returns c = λ f.
    let k = enum_known _ _ c.args.w c.args.here.spot _ _ (scanned _ _ _ _ c.in_ok-t.ensures) c.if-t-ne-NAME.false _ (option_some _ (rw c.bytes_of-name.ensures at c.in-Some.ensures)) in
    answers_by _ _ _ _ _ _ _ _ (k ∙ rw (c.widened-v.ensures, c.member-m.ensures) refl) (c.put_number.ensures _ (scanned-line _ _ _ _ c.in_ok-t.ensures) f)
