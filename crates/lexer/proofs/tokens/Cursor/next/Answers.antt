-- `lexer::tokens::Cursor::next` meets its contract. The invariant: what is skipped from `at` on is what is skipped from the start, and
-- `line` is the line of `at`.
use mathlib.Core.Path.{◌≡◌, refl, sym, ◌∙◌, ap}
use native.Mathlib.Omega.{arith}
use Rattle.definitions.specs.Basics.{between}
use Rattle.definitions.specs.Classes.{class, classes, newline_class, comment_class}
use Rattle.lexer.specs.Steps.{place_at, on_line}
use Rattle.lexer.proofs.Laws.{skip-end, skip_stop, skip-comment, skip-blank, from_end}
use Rattle.lexer.proofs.Lines.{newline-byte, other_byte, placed, met, numbered, located-on, located-next, located-comment, scanned-on}
use Rattle.lexer.proofs.tokens.Cursor.next.Goals as goal

pub loop-at-init : goal.loop-at-init
loop-at-init c = (refl, c.requires)

pub first-requires : goal.first-requires
first-requires c = (met c.loop-at.invariant.1 c.loop-at-test.true, c.class-class.ensures.0)

pub returns-else-class-eq-COMMENT : goal.returns-else-class-eq-COMMENT
returns-else-class-eq-COMMENT c =
    let other : c.class-class.result ≡ newline_class → ⊥ = λ e. c.if-b-eq10.false (newline-byte _ (sym c.class-class.ensures.0 ∙ e)) in
    c.first.ensures
    ∙ scanned-on _ c.loop-at.invariant.1 (skip_stop _ _ c.loop-at-test.true c.class-class.ensures.0 c.if-class-eq-SPACE.false other c.if-class-eq-COMMENT.false ∙ c.loop-at.invariant.0)

pub loop-at-preserved-then-class-eq-SPACE : goal.loop-at-preserved-then-class-eq-SPACE
loop-at-preserved-then-class-eq-SPACE c = (
  skip-blank _ _ c.loop-at-test.true c.class-class.ensures.0 (ap (between newline_class comment_class) c.if-class-eq-SPACE.true) (λ z. omega arith) ∙ c.loop-at.invariant.0,
  located-on c.loop-at.invariant.1 c.loop-at-test.true (other_byte _ c.class-class.ensures.0 (λ z. omega arith)),
)

pub next-line-requires : goal.next-line-requires
next-line-requires c = (numbered c.loop-at.invariant.1 c.loop-at-test.true, omega (arith, c.loop-at.invariant.1.short))

pub loop-at-preserved-then-b-eq10 : goal.loop-at-preserved-then-b-eq10
unfolding class classes
loop-at-preserved-then-b-eq10 c =
    let byte = c.if-b-eq10.true in
    let sort : c.class-class.result ≡ newline_class = c.class-class.ensures.0 ∙ ap class byte in (
      skip-blank _ _ c.loop-at-test.true c.class-class.ensures.0 (ap (between newline_class comment_class) sort) (λ z. omega (arith, sort)) ∙ c.loop-at.invariant.0,
      rw c.next-line.ensures (located-next c.loop-at.invariant.1 c.loop-at-test.true byte),
    )

pub loop-at-preserved : goal.loop-at-preserved
loop-at-preserved c =
    rw c.comment_end-at.ensures (
      skip-comment _ _ c.loop-at-test.true c.class-class.ensures.0 c.if-class-eq-COMMENT.true ∙ c.loop-at.invariant.0,
      located-comment c.loop-at.invariant.1 c.loop-at-test.true (other_byte _ c.class-class.ensures.0 (λ z. omega arith)),
    )

pub token-requires : goal.token-requires
token-requires c = placed c.loop-at.invariant.1

pub returns : goal.returns
returns c =
    c.token.ensures
    ∙ ap (on_line c.loop-at.line) (from_end c.args.text.now (place_at (record { at = c.loop-at.at; line = c.loop-at.line })) c.loop-at-test.false)
    ∙ scanned-on _ c.loop-at.invariant.1 (skip-end _ _ c.loop-at-test.false ∙ c.loop-at.invariant.0)
