-- `lookup::find_member` meets its contract: the first value of the run that has the name.
use Rattle.std.proofs.Common.{rules, ◌≡◌, ◌<◌, ℕ, Bool, true, false, arith, ◌∙◌, ap, refl}
use Rattle.std.proofs.lemmas.Iterator.{serves_from_Range, first_from_Range}
use Rattle.definitions.specs.declared.Span.{Span}
use Rattle.definitions.specs.Basics.{find, same}
use Rattle.definitions.specs.Image.{member_name, value_count, find_member}
use Rattle.records.specs.Known.{option_of}
use Rattle.records.proofs.Room.{value_count-lt}
use Rattle.records.proofs.Accepted.{known-enumeration}
use Rattle.records.proofs.Search.{first-found}
use Rattle.lookup.proofs.find_member.Goals as goal

pub overflow_add-end : goal.overflow_add-end
overflow_add-end c = omega (arith, value_count-lt c.args.schema.now.image.now, known-enumeration c.args.schema.now.known c.args.index c.requires c.enumeration-run.ensures)

pub find-requires-clause-callable : goal.find-requires-clause-callable
find-requires-clause-callable c = serves_from_Range (λ x q k. search rules) (λ x a b. let h : x < value_count c.args.schema.now.image.now = omega (arith, known-enumeration c.args.schema.now.known c.args.index c.requires c.enumeration-run.ensures) in search rules)

pub returns : goal.returns
unfolding find_member
returns c =
    let p : ℕ → Bool = λ i. same (member_name c.args.schema.now.image.now i) c.args.name.now in
    let h = first_from_Range _ _ _ _ (λ i. p i ≡ true) (λ i. p i ≡ false) c.find.ensures.ran (λ x q k. search rules) (λ x q k. search rules) in
    first-found p _ _ _ _ refl h ∙ ap (λ (r : Span). option_of (find p r.first r.count)) c.enumeration-run.ensures
