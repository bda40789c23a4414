-- `required::lacking_in` meets its contract: the first of the message's fields that is not given.
use Rattle.std.proofs.Common.{rules, ◌<◌, ◌≡◌, ℕ, Bool, true, false, arith, refl, sym, ap, ◌∙◌}
use borrow.Author.Tests.{tests}
use Rattle.std.proofs.lemmas.Iterator.{serves_from_Range, first_from_Range}
use Rattle.definitions.specs.Image.{field_count}
use Rattle.definitions.specs.Nodes.{forest}
use Rattle.definitions.specs.Live.{tree_of}
use Rattle.records.specs.Known.{option_of}
use Rattle.records.proofs.Accepted.{known-message}
use Rattle.records.proofs.Room.{field_count-lt}
use Rattle.records.proofs.Search.{first-found}
use Rattle.nodes.proofs.Scopes.{there-message}
use Rattle.message.proofs.Requires.{given}
use Rattle.survey.specs.Survey.{lacks}
use Rattle.survey.proofs.Lackings.{lacks_given, lacking-entry, lacking-own}
use Rattle.survey.proofs.required.lacking_in.Goals as goal

pub returns-then-w-eq-ENTRY : goal.returns-then-w-eq-ENTRY
returns-then-w-eq-ENTRY c = λ pool. lacking-entry _ _ _ c.if-w-eq-ENTRY.true

pub message-run-requires : goal.message-run-requires
message-run-requires c = there-message _ _ c.if-w-eq-ENTRY.false c.requires.0

pub overflow_add-end : goal.overflow_add-end
overflow_add-end c =
    omega (arith, field_count-lt c.args.schema.now.image.now, known-message c.args.schema.now.known c.args.w.reference (there-message _ _ c.if-w-eq-ENTRY.false c.requires.0) c.message-run.ensures)

pub find-requires-clause-callable : goal.find-requires-clause-callable
find-requires-clause-callable c =
    serves_from_Range (λ x q k. search rules)
    (λ x a b.
    let h : x < field_count c.args.schema.now.image.now =
    omega (arith, known-message c.args.schema.now.known c.args.w.reference (there-message _ _ c.if-w-eq-ENTRY.false c.requires.0) c.message-run.ensures) in
    search rules)

pub returns : goal.returns
returns c = λ pool.
    let g : ℕ → Bool = given c.args.schema.now.image.now (tree_of pool (forest c.args.nodes.now c.args.from c.args.to)) in
    let p : ℕ → Bool = lacks c.args.schema.now.image.now (tree_of pool (forest c.args.nodes.now c.args.from c.args.to)) in
    let h = first_from_Range _ _ _ _ (λ i. p i ≡ true) (λ i. p i ≡ false) c.find.ensures.ran
    (λ x q k. let e : g x ≡ false = search (rules, tests) in lacks_given _ _ x false e)
    (λ x q k. let e : g x ≡ true = search (rules, tests) in (search (rules, tests), lacks_given _ _ x true e)) in
    first-found p _ _ _ _ refl h ∙ ap option_of (sym (lacking-own _ _ _ c.if-w-eq-ENTRY.false _ c.message-run.ensures))
