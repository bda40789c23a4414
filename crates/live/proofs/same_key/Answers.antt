-- `live::same_key` meets its contract.
use mathlib.Core.Path.{ap, ap₂, ◌∙◌}
use Rattle.definitions.specs.Live.{value_of, same_val}
use Rattle.live.proofs.same_key.Goals as goal

pub key-requires : goal.key-requires
key-requires c = c.requires.1.children

pub key-requires-2 : goal.key-requires-2
key-requires-2 c = c.requires.0.children

pub same_value-requires : goal.same_value-requires
same_value-requires c = (rw c.key.ensures c.requires.1.kept, rw c.key-2.ensures c.requires.0.kept)

pub returns : goal.returns
returns c = c.same_value.ensures ∙ ap₂ same_val (ap (value_of _) c.key.ensures ∙ c.requires.1.key) (ap (value_of _) c.key-2.ensures ∙ c.requires.0.key)
