-- `message::access::value_bytes` meets its contract: a part of the pool, or none of it.
use native.Mathlib.Omega.{arith}
use mathlib.Core.Path.{sym, ◌∙◌}
use Rattle.message.proofs.Lending.{lent_none, lent-part, lent-inside}
use Rattle.message.proofs.access.value_bytes.Goals as goal

pub value_run-requires : goal.value_run-requires
value_run-requires c = c.requires.root

pub returns-in_default : goal.returns-in_default
returns-in_default c = lent_none _ _ _ (sym c.value_run.ensures ∙ c.in_default.is)

pub overflow_add-result : goal.overflow_add-result
overflow_add-result c = omega (arith, lent-inside _ _ _ _ (sym c.value_run.ensures ∙ c.in-Some.is) c.requires, c.well_formed)

pub slice_bounds-result-end-2 : goal.slice_bounds-result-end-2
slice_bounds-result-end-2 c = let x = lent-inside _ _ _ _ (sym c.value_run.ensures ∙ c.in-Some.is) c.requires in omega arith

pub returns : goal.returns
returns c = lent-part _ _ _ _ (sym c.value_run.ensures ∙ c.in-Some.is)
