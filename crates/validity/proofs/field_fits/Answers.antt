-- `validity::field_fits` meets its contract.
use mathlib.Core.Path.{sym, ap, ◌∙◌}
use lib.Dec.{eqb}
use borrow.Author.Tests.{lt-leb, eq-eqb}
use Rattle.validity.proofs.Checks.{unknown-entry, unknown-zero, unknown-message, fits-before, fits-past, fits-in, fits-kind}
use Rattle.validity.proofs.field_fits.Goals as goal

pub returns-then-i-ge1 : goal.returns-then-i-ge1
returns-then-i-ge1 c = unknown-message _ _ _ (sym c.is_unknown.ensures ∙ c.if-is_unknown.true) c.if-w-ne-ENTRY.true c.if-i-ge1.true

pub returns-else-i-ge1 : goal.returns-else-i-ge1
returns-else-i-ge1 c = lt-leb _ _ c.if-i-ge1.false ∙ unknown-zero _ _ _ (sym c.is_unknown.ensures ∙ c.if-is_unknown.true) c.if-w-ne-ENTRY.true c.if-i-ge1.false

pub returns-else-w-ne-ENTRY : goal.returns-else-w-ne-ENTRY
returns-else-w-ne-ENTRY c = rw (eq-eqb _ _ c.if-w-ne-ENTRY.false) (unknown-entry _ _ _ (sym c.is_unknown.ensures ∙ c.if-is_unknown.true) c.if-w-ne-ENTRY.false)

pub want-requires : goal.want-requires
want-requires c = (c.requires.0, fits-in _ _ c.args.n _ c.requires.1 (sym c.is_unknown.ensures ∙ c.if-is_unknown.false) c.if-own-i.true c.if-i-own.true)

pub returns-then-i-own : goal.returns-then-i-own
returns-then-i-own c =
    ap (eqb c.args.n.kind) c.from.ensures
    ∙ fits-kind _ _ _ _ c.requires.1 (sym c.is_unknown.ensures ∙ c.if-is_unknown.false) c.if-own-i.true c.if-i-own.true _ c.want.ensures

pub returns-else-i-own : goal.returns-else-i-own
returns-else-i-own c = fits-past _ _ _ _ c.requires.1 (sym c.is_unknown.ensures ∙ c.if-is_unknown.false) c.if-own-i.true c.if-i-own.false

pub returns-else-own-i : goal.returns-else-own-i
returns-else-own-i c = fits-before _ _ _ _ c.requires.1 (sym c.is_unknown.ensures ∙ c.if-is_unknown.false) c.if-own-i.false
