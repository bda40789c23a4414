-- `nodes::want` meets its contract.
use mathlib.Core.Path.{sym, ap, ◌∙◌}
use Rattle.definitions.specs.Scope.{want_in, want_of}
use Rattle.nodes.proofs.Scopes.{there-entry, inside-message, want_entry, want-message}
use Rattle.nodes.proofs.want.Goals as goal

pub field-requires : goal.field-requires
field-requires c = there-entry _ _ c.if-w-eq-ENTRY.true c.requires.0

pub returns-then-w-eq-ENTRY : goal.returns-then-w-eq-ENTRY
returns-then-w-eq-ENTRY c = c.want_in.ensures ∙ ap (λ f. want_in f c.args.i) c.field.ensures ∙ sym (want_entry _ _ _ c.if-w-eq-ENTRY.true)

pub field-requires-2 : goal.field-requires-2
field-requires-2 c = inside-message _ c.args.schema.now.known.good _ _ c.if-w-eq-ENTRY.false c.requires.0 c.requires.1

pub returns : goal.returns
returns c = c.want_of.ensures ∙ ap (want_of c.args.i) c.field-2.ensures ∙ sym (want-message _ _ _ c.if-w-eq-ENTRY.false)
