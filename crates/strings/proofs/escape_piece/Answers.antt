-- `strings::escape_piece` meets its contract: each `return` has its law.
use Rattle.std.proofs.Common.{◌∙◌, sym, ap, rules, tests}
use borrow.Author.Tests.{eqb-true, eqb-false}
use Rattle.definitions.specs.Integers.{octal_digit, hex_digit}
use Rattle.strings.specs.Values.{told}
use Rattle.strings.proofs.Escaping.{escape_end, escape-octal, escape_none, escape-hex, escape-letter}
use Rattle.strings.proofs.escape_piece.Goals as goal

pub returns-in_err-first : goal.returns-in_err-first
returns-in_err-first c = c.from_residual.ensures ∙ ap told (sym (escape_end _ c.in_err-first.ensures.cases))

pub returns-then-octal_digit : goal.returns-then-octal_digit
returns-then-octal_digit c =
    let octal = sym c.octal_digit.ensures ∙ c.if-octal_digit.true in
    c.digits_piece.ensures ∙ ap told (sym (escape-octal _ _ _ c.in_ok-first.ensures.cases.0 _ octal (c.digits-octal.ensures octal_digit (λ b r k. search (rules, tests)))))

pub returns-then-is_empty : goal.returns-then-is_empty
returns-then-is_empty c =
    let other = sym c.octal_digit.ensures ∙ c.if-octal_digit.false in
    ap told (sym (escape_none _ _ _ c.in_ok-first.ensures.cases.0 other _ c.if-first-eq120.true (c.digits-hex.ensures hex_digit (λ b r k. search (rules, tests))) (eqb-true _ _ (sym c.is_empty.ensures ∙ c.if-is_empty.true))))

pub returns-then-first-eq120 : goal.returns-then-first-eq120
returns-then-first-eq120 c =
    let other = sym c.octal_digit.ensures ∙ c.if-octal_digit.false in
    c.digits_piece-then-first-eq120.ensures ∙ ap told (sym (escape-hex _ _ _ c.in_ok-first.ensures.cases.0 other _ c.if-first-eq120.true (c.digits-hex.ensures hex_digit (λ b r k. search (rules, tests))) (eqb-false _ _ (sym c.is_empty.ensures ∙ c.if-is_empty.false))))

pub returns : goal.returns
returns c = c.piece.ensures ∙ ap told (sym (escape-letter _ _ _ c.in_ok-first.ensures.cases.0 (sym c.octal_digit.ensures ∙ c.if-octal_digit.false) c.if-first-eq120.false))
