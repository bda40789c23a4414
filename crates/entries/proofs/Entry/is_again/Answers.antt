-- `entries::Entry::is_again` meets its contract.
use borrow.Author.Tests.{eq-eqb, ne_eqb}
use Rattle.definitions.specs.Reading.{again}
use Rattle.entries.proofs.Wants.{within-entry, within-message}
use Rattle.entries.proofs.Entry.is_again.Goals as goal

pub returns-then-w-ne-ENTRY : goal.returns-then-w-ne-ENTRY
unfolding again
returns-then-w-ne-ENTRY c = rw (within-message c.args.w c.if-w-ne-ENTRY.true)

pub returns-then-i-eq0 : goal.returns-then-i-eq0
unfolding again
returns-then-i-eq0 c = rw (within-entry c.args.w c.if-w-ne-ENTRY.false, eq-eqb c.args.i 0 c.if-i-eq0.true)

pub returns-else-i-eq0 : goal.returns-else-i-eq0
unfolding again
returns-else-i-eq0 c = rw (within-entry c.args.w c.if-w-ne-ENTRY.false, ne_eqb c.args.i 0 c.if-i-eq0.false)
