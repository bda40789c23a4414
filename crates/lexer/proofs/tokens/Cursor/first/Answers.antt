-- `lexer::tokens::Cursor::first` meets its contract, by the class of the token's first byte.
use mathlib.Core.Path.{◌≡◌, sym, ◌∙◌, ap}
use Prim.Native.Nat.{ℕ}
use native.Mathlib.Omega.{arith}
use lib.ListN.{drop}
use Rattle.laws.proofs.ClassTable.{class-most}
use Rattle.definitions.specs.Tokens.{token_of, name_token, scan_from}
use Rattle.lexer.specs.Steps.{place_at, on_line}
use Rattle.lexer.proofs.Laws.{integer-bad, integer-good, string-bad, string-good, from-letter, from-digit, from-quote, from-symbol, from-none}
use Rattle.lexer.proofs.tokens.Cursor.first.Goals.{After-token, then-sort-gt-DIGIT, else-sort-gt-DIGIT+then-sort-gt-SYMBOL+else-runs_on, else-sort-gt-DIGIT+else-sort-gt-SYMBOL+then-sort-eq-SYMBOL, else-sort-gt-DIGIT+else-sort-gt-SYMBOL+else-sort-eq-SYMBOL+then-sort-eq-QUOTE+in-Some}
use Rattle.lexer.proofs.tokens.Cursor.first.Goals as goal

-- a token of that kind up to that end is the one that begins here
found : (c : After-token) → token_of c.if-sort-gt-DIGIT.kind.0 (place_at c.args.self) c.if-sort-gt-DIGIT.kind.1 ≡ scan_from (place_at c.args.self) (drop c.args.self.at c.args.text.now)
found c =
    let made = λ (k : ℕ × ℕ). token_of k.0 (place_at c.args.self) k.1 in
    elim c.if-sort-gt-DIGIT.branch [
      | then-sort-gt-DIGIT w ↦
          ap made w.kind-is
          ∙ ap (token_of name_token (place_at c.args.self)) w.name_end.ensures
          ∙ from-letter _ _ _ c.requires.0 c.requires.1 (omega (arith, w.if-sort-gt-DIGIT.true, c.requires.1, class-most c.args.b))
      | else-sort-gt-DIGIT+then-sort-gt-SYMBOL+else-runs_on w ↦
          ap made w.kind-is
          ∙ integer-good _ (place_at c.args.self) _ w.integer_end-end.ensures (sym w.runs_on.ensures ∙ w.if-runs_on.false)
          ∙ from-digit _ _ _ c.requires.0 c.requires.1 (omega (arith, w.if-sort-gt-DIGIT.false, w.if-sort-gt-SYMBOL.true))
      | else-sort-gt-DIGIT+else-sort-gt-SYMBOL+then-sort-eq-SYMBOL w ↦
          ap made w.kind-is
          ∙ from-symbol _ _ _ c.requires.0 c.requires.1 w.if-sort-eq-SYMBOL.true
      | else-sort-gt-DIGIT+else-sort-gt-SYMBOL+else-sort-eq-SYMBOL+then-sort-eq-QUOTE+in-Some w ↦
          ap made w.kind-is
          ∙ string-good c.args.b c.args.text.now (place_at c.args.self) _ (sym w.string_end.ensures ∙ w.in-Some.is)
          ∙ from-quote _ _ _ c.requires.0 c.requires.1 w.if-sort-eq-QUOTE.true
    ]

pub returns : goal.returns
returns c = c.token.ensures ∙ ap (on_line c.args.self.line) (found c)

pub returns-then-runs_on : goal.returns-then-runs_on
returns-then-runs_on c =
    c.bad.ensures
    ∙ ap (on_line c.args.self.line) (integer-bad _ (place_at c.args.self) _ c.integer_end-end.ensures (sym c.runs_on.ensures ∙ c.if-runs_on.true) ∙ from-digit _ _ _ c.requires.0 c.requires.1 (omega arith))

pub returns-in_default : goal.returns-in_default
returns-in_default c =
    c.bad-in_default.ensures
    ∙ ap (on_line c.args.self.line) (string-bad c.args.b c.args.text.now (place_at c.args.self) (sym c.string_end.ensures ∙ c.in_default.is) ∙ from-quote _ _ _ c.requires.0 c.requires.1 c.if-sort-eq-QUOTE.true)

pub returns-else-sort-eq-QUOTE : goal.returns-else-sort-eq-QUOTE
returns-else-sort-eq-QUOTE c =
    c.bad-else-sort-eq-QUOTE.ensures
    ∙ ap (on_line c.args.self.line) (from-none _ _ _ c.requires.0 c.requires.1 (λ z. omega arith) (λ z. omega arith) (λ z. omega arith) (λ z. omega arith))
