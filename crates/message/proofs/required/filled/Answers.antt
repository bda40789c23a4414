-- `message::required::filled` meets its contract: each of the message's fields is not required, or has a value.
use Rattle.std.proofs.Common.{rules, ◌<◌, ◌≡◌, ℕ, Bool, true, false, arith, refl}
use borrow.Author.Tests.{tests}
use Rattle.std.proofs.lemmas.Iterator.{serves_from_Range, cases_from_all, YieldsList-from_range}
use Rattle.definitions.specs.Image.{field_count}
use Rattle.definitions.specs.Nodes.{forest}
use Rattle.definitions.specs.Live.{tree_of}
use Rattle.records.proofs.Accepted.{known-message}
use Rattle.records.proofs.Room.{field_count-lt}
use Rattle.nodes.proofs.Scopes.{there-message}
use Rattle.message.proofs.Requires.{given, all-over, filled-entry, filled-all}
use Rattle.message.proofs.required.filled.Goals as goal

pub returns-then-w-eq-ENTRY : goal.returns-then-w-eq-ENTRY
returns-then-w-eq-ENTRY c = λ pool. filled-entry _ _ _ c.if-w-eq-ENTRY.true

pub message-run-requires : goal.message-run-requires
message-run-requires c = there-message _ _ c.if-w-eq-ENTRY.false c.requires.0

pub overflow_add-end : goal.overflow_add-end
overflow_add-end c =
    omega (arith, field_count-lt c.args.schema.now.image.now, known-message c.args.schema.now.known c.args.w.reference (there-message _ _ c.if-w-eq-ENTRY.false c.requires.0) c.message-run.ensures)

pub all-requires-clause-callable : goal.all-requires-clause-callable
all-requires-clause-callable c =
    serves_from_Range (λ x q k. search rules)
    (λ x a b.
    let h : x < field_count c.args.schema.now.image.now =
    omega (arith, known-message c.args.schema.now.known c.args.w.reference (there-message _ _ c.if-w-eq-ENTRY.false c.requires.0) c.message-run.ensures) in
    search rules)

pub returns : goal.returns
returns c = λ pool.
    let p : ℕ → Bool = given c.args.schema.now.image.now (tree_of pool (forest c.args.nodes.now c.args.from c.args.to)) in
    filled-all _ _ _ c.if-w-eq-ENTRY.false _ c.message-run.ensures _
    (all-over p _ _ _
    (cases_from_all _ _ _ (λ i. p i ≡ true) (λ i. p i ≡ false) c.all.ensures.ran (YieldsList-from_range c.message-run.result.first _ c.message-run.result.count refl (omega arith)) (λ x q k. search (rules, tests)) (λ x q k. search (rules, tests))))
