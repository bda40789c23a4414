-- `text_format::open_root` meets its contract.
use Rattle.definitions.specs.Refusals.{bad_schema, no_message}
use Rattle.text_format.proofs.Opened.{bar-schema, bar-root}
use Rattle.text_format.proofs.open_root.Goals as goal

pub returns-in_default : goal.returns-in_default
returns-in_default c = record { why = bad_schema; barring = bar-schema _ _ c.in_default.ensures; answer = c.at.ensures }

pub returns-then-message_count-root : goal.returns-then-message_count-root
returns-then-message_count-root c = record { why = no_message; barring = bar-root _ _ c.in-Some.ensures.0 (rw (c.message_count.ensures, c.in-Some.ensures.1) at c.if-message_count-root.true); answer = c.at-then-message_count-root.ensures }

pub returns : goal.returns
returns c = record { same = c.in-Some.ensures.1; good = c.in-Some.ensures.0; below = rw (c.message_count.ensures, c.in-Some.ensures.1) at c.if-message_count-root.false }
