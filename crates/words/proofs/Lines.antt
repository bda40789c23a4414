-- Lines: where the line of an offset begins, by the byte before it, and that it lies inside the text.
use mathlib.Core.Path.{◌≡◌, sym, ◌∙◌, ap}
use Prim.Native.Nat.{ℕ, ◌+◌, ◌-◌, ◌≤◌, ◌<◌}
use mathlib.Core.Bool.{not}
use mathlib.Core.List.{List, []}
use native.Mathlib.Omega.{arith}
use lib.Dec.{eqb}
use lib.ListN.{length, get_or, drop, length-drop}
use borrow.Author.Tests.{le-leb, lt-leb}
use Rattle.definitions.specs.Basics.{part}
use Rattle.definitions.specs.Places.{newline}
use Rattle.laws.proofs.Lists.{front-le}
use Rattle.lexer.specs.declared.tokens.Line.{Line}
use Rattle.lexer.specs.Steps.{line_at}
use Rattle.lexer.proofs.Lines.{line-first, line_on, line-next, line_small}
use Rattle.words.specs.Words.{line_first, line_end, line}

-- ---- where a line begins

module _ (s : List ℕ) where
  first-is : (at : ℕ) → at ≤ length s → (line_at s at).began ≡ line_first s at
  unfolding line_at line_first
  first-is at h = simp (le-leb at (length s) h)

  pub first_past : (at : ℕ) → length s < at → at ≡ line_first s at
  unfolding line_first
  first_past at h = simp (lt-leb at (length s) h)

  pub first-zero : 0 ≡ line_first s 0
  first-zero = ap (λ (l : Line). l.began) (line-first s) ∙ first-is 0 (omega arith)

  -- by the byte before
  module _ (i : ℕ) (p : 0 < i) (h : i ≤ length s) where
    back : i - 1 + 1 ≡ i
    back = omega arith

    pub first_next : get_or s (i - 1) 0 ≡ newline → i - 1 + 1 ≡ line_first s i
    first_next e = back ∙ sym (rw back at (ap (λ (l : Line). l.began) (line-next s (i - 1) (omega arith) e))) ∙ first-is i h

    pub first_on : (get_or s (i - 1) 0 ≡ newline → ⊥) → line_first s (i - 1) ≡ line_first s i
    first_on f =
        sym (first-is (i - 1) (omega arith))
        ∙ sym (rw back at (ap (λ (l : Line). l.began) (line_on s (i - 1) (omega arith) f)))
        ∙ first-is i h

-- ---- the line

module _ (s : List ℕ) (at : ℕ) where
  pub line-past : length s < at → [] ≡ line s at
  unfolding line
  line-past h = simp (lt-leb at (length s) h)

  -- from the offset a up to the offset e
  module _ {a e : ℕ} (p : a ≡ line_first s at) (q : e ≡ line_end s at) (h : at ≤ length s) where
    -- a line lies inside the text
    pub line-inside : (a ≤ e) × (e ≤ length s)
    unfolding line_end
    line-inside =
        let k : line_first s at ≤ at = rw (first-is s at h) at (line_small s at).1 in
        (omega arith, omega (arith, front-le (λ b. not (eqb b newline)) (drop at s), length-drop at s))

    pub line-there : part s a e ≡ line s at
    unfolding line
    line-there = rw (p, q) (simp (le-leb at (length s) h))
