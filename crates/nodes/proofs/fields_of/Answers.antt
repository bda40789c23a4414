-- `nodes::fields_of` meets its contract.
use Rattle.nodes.proofs.Scopes.{there-message, fields-entry, fields-message}
use Rattle.nodes.proofs.fields_of.Goals as goal

pub returns-then-w-eq-ENTRY : goal.returns-then-w-eq-ENTRY
returns-then-w-eq-ENTRY c = fields-entry _ _ c.if-w-eq-ENTRY.true

pub message-requires : goal.message-requires
message-requires c = there-message _ _ c.if-w-eq-ENTRY.false c.requires

pub returns : goal.returns
returns c = fields-message _ _ c.if-w-eq-ENTRY.false _ c.message.ensures
