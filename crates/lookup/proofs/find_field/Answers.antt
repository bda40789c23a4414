-- `lookup::find_field` meets its contract: a guess of that name is the field found, as names stand apart; else the first field of the run
-- that has the name.
use Rattle.std.proofs.Common.{rules, ◌≡◌, ◌<◌, ℕ, Bool, true, false, arith, ◌∙◌, ap, refl, sym, List}
use Rattle.std.proofs.lemmas.Iterator.{serves_from_Range, first_from_Range}
use Rattle.definitions.specs.declared.Span.{Span}
use Rattle.definitions.specs.Basics.{find, same}
use Rattle.definitions.specs.Image.{field_name, field_count, find_field}
use Rattle.records.specs.Known.{option_of}
use Rattle.records.proofs.Room.{field_count-lt}
use Rattle.records.proofs.Accepted.{known-message, field-own}
use Rattle.records.proofs.Search.{first-found}
use Rattle.lookup.proofs.find_field.Goals as goal

pub overflow_add-end : goal.overflow_add-end
overflow_add-end c = omega (arith, field_count-lt c.args.schema.now.image.now, known-message c.args.schema.now.known c.args.index c.requires c.message-run.ensures)

pub field_name-requires : goal.field_name-requires
field_name-requires c = omega (arith, known-message c.args.schema.now.known c.args.index c.requires c.message-run.ensures)

pub returns-then-same : goal.returns-then-same
returns-then-same c = ap option_of (sym (field-own c.args.schema.now.image.now c.args.schema.now.known.good c.args.index c.requires c.args.name.now c.args.guess (rw (← c.message-run.ensures) c.if-run-guess.true) (rw (← c.message-run.ensures) c.if-guess-end.true) (ap (λ (t : List ℕ). same t c.args.name.now) (sym c.field_name.ensures) ∙ sym c.same.ensures ∙ c.if-same.true)))

pub find-requires-clause-callable : goal.find-requires-clause-callable
find-requires-clause-callable c = serves_from_Range (λ x q k. search rules) (λ x a b. let h : x < field_count c.args.schema.now.image.now = omega (arith, known-message c.args.schema.now.known c.args.index c.requires c.message-run.ensures) in search rules)

pub returns : goal.returns
unfolding find_field
returns c =
    let p : ℕ → Bool = λ i. same (field_name c.args.schema.now.image.now i) c.args.name.now in
    let h = first_from_Range _ _ _ _ (λ i. p i ≡ true) (λ i. p i ≡ false) c.find.ensures.ran (λ x q k. search rules) (λ x q k. search rules) in
    first-found p _ _ _ _ refl h ∙ ap (λ (r : Span). option_of (find p r.first r.count)) c.message-run.ensures
