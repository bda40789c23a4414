-- `integers::magnitude` meets its contract: the definition's rule picks the base.
use Rattle.std.proofs.Common.{◌∙◌, sym, ap, false, Some, arith}
use Rattle.integers.specs.Values.{greatest, integer_of}
use Rattle.integers.proofs.Digits.{value_none, within, unsigned, value-decimal, value-hex, value-octal}
use Rattle.integers.proofs.magnitude.Goals as goal

pub returns-in_default : goal.returns-in_default
returns-in_default c = rw (value_none _ c.in_default.ensures.cases) (sym (within false greatest 0 (omega arith) ∙ ap Some (unsigned 0)))

pub returns-then-first-ne48 : goal.returns-then-first-ne48
returns-then-first-ne48 c = c.worth.ensures ∙ ap (integer_of false greatest) (sym (value-decimal _ _ _ c.in-Some.ensures.cases.0 c.if-first-ne48.true))

pub returns-then-hex_ahead : goal.returns-then-hex_ahead
returns-then-hex_ahead c = c.worth-then-hex_ahead.ensures ∙ ap (integer_of false greatest) (sym (value-hex _ _ _ c.in-Some.ensures.cases.0 c.if-first-ne48.false (sym c.hex_ahead.ensures.test ∙ c.if-hex_ahead.true)))

pub returns : goal.returns
returns c = c.worth-2.ensures ∙ ap (integer_of false greatest) (sym (value-octal _ _ _ c.in-Some.ensures.cases.0 c.if-first-ne48.false (sym c.hex_ahead.ensures.test ∙ c.if-hex_ahead.false)))
