-- Laws of what is kept of the records passed: a mark stays when another is added, and what has none of them is new.
use mathlib.Core.Path.{◌≡◌, sym, ◌∙◌, ap}
use mathlib.Core.Logic.{⊎_elim}
use Prim.Native.Nat.{ℕ, ◌+◌, ◌/◌, ◌%◌, ◌^◌, max, ◌≤◌, ◌<◌}
use mathlib.Core.Bool.{true, false, not, ◌&&◌}
use mathlib.Core.List.{List}
use native.Mathlib.Omega.{arith}
use native.Mathlib.Nat.{div_self, eq-or-lt_of_le}
use lib.Bits.{bit_or, or_shr, or_step}
use lib.Dec.{eqb, ltb}
use lib.Pow.{pow_pos}
use borrow.Author.Tests.{eq-eqb, ne_eqb, eqb-true, ltb-true}
use Rattle.definitions.specs.Basics.{same}
use Rattle.distinct.specs.Seen.{mark_of, Seen, agree, new}
use Rattle.distinct.specs.declared.kept.Kept.{Kept}
use Rattle.laws.proofs.Lists.{ne_same, all_made, and_parts}
use Rattle.laws.proofs.Tests.{agree-first, agree-second, agree-neither}

pub mark-lt : (s : List ℕ) → mark_of s < 64
unfolding mark_of
mark-lt s = omega arith

-- a bit of two words joined is the greater of their bits
bit-or : (a b k : ℕ) → bit_or a b / 2 ^ k % 2 ≡ max (a / 2 ^ k % 2) (b / 2 ^ k % 2)
bit-or a b k = rw (or_shr, or_step (a / 2 ^ k) (b / 2 ^ k)) (omega arith)

bit_kept : (a b k : ℕ) → a / 2 ^ k % 2 ≡ 1 → bit_or a b / 2 ^ k % 2 ≡ 1
bit_kept a b k h = bit-or a b k ∙ omega arith

bit-set : (a k : ℕ) → bit_or a (2 ^ k) / 2 ^ k % 2 ≡ 1
bit-set a k =
    let e : 2 ^ k / 2 ^ k ≡ 1 = div_self (pow_pos k) in
    bit-or a (2 ^ k) k ∙ rw e (omega arith)

module _ (name : ℕ → List ℕ) (number : ℕ → ℕ) (i j : ℕ) where
  pub same-number : number i ≡ number j → not (agree name number i j) ≡ false
  unfolding agree
  same-number e = agree-second (same (name i) (name j)) (eqb (number i) (number j)) (eq-eqb _ _ e)

  pub same-name : same (name i) (name j) ≡ true → not (agree name number i j) ≡ false
  unfolding agree
  same-name e = agree-first (same (name i) (name j)) (eqb (number i) (number j)) e

  pub both-differ : eqb (number i) (number j) ≡ false → same (name i) (name j) ≡ false → not (agree name number i j) ≡ true
  unfolding agree
  both-differ d e = agree-neither (same (name i) (name j)) (eqb (number i) (number j)) e d

module _ (name : ℕ → List ℕ) (number : ℕ → ℕ) (first : ℕ) where
  pub seen_start : Seen name number first 0 0 0
  seen_start = record { marks = λ i h. absurd (omega arith); numbers = λ i h. absurd (omega arith) }

  module _ (n seen most : ℕ) (p : Seen name number first n seen most) where
    marks-next : (i : ℕ) → i < n + 1 → bit_or seen (2 ^ mark_of (name (first + n))) / 2 ^ mark_of (name (first + i)) % 2 ≡ 1
    marks-next i h =
        ⊎_elim
        (λ e. rw e (bit-set seen (mark_of (name (first + n)))))
        (λ l. bit_kept seen (2 ^ mark_of (name (first + n))) (mark_of (name (first + i))) (p.marks i l))
        (eq-or-lt_of_le (omega arith))

    numbers-next : (i : ℕ) → i < n + 1 → number (first + i) ≤ max most (number (first + n))
    numbers-next i h = ⊎_elim (λ e. rw e (omega arith)) (λ l. omega (arith, p.numbers i l)) (eq-or-lt_of_le (omega arith))

    seen_next : Seen name number first (n + 1) (bit_or seen (2 ^ mark_of (name (first + n)))) (max most (number (first + n)))
    seen_next = record { marks = marks-next; numbers = numbers-next }

    new-name : seen / 2 ^ mark_of (name (first + n)) % 2 ≡ 0 → (i : ℕ) → i < n → same (name (first + i)) (name (first + n)) ≡ false
    new-name z i h =
        ne_same (name (first + i)) (name (first + n))
        (λ e. let m : seen / 2 ^ mark_of (name (first + n)) % 2 ≡ 1 = ap (λ (t : List ℕ). seen / 2 ^ mark_of t % 2) (sym e) ∙ p.marks i h in omega arith)

    new-number : most < number (first + n) → (i : ℕ) → i < n → eqb (number (first + i)) (number (first + n)) ≡ false
    new-number l i h = ne_eqb (number (first + i)) (number (first + n)) (λ e. omega (arith, p.numbers i h))

    -- what is kept, with the record after those passed
    pub kept-next : (kept : Kept) (text : List ℕ) (value : ℕ) → kept ≡ record { marks = bit_or seen (2 ^ mark_of text); most = max most value } → text ≡ name (first + n) → value ≡ number (first + n) → Seen name number first (n + 1) kept.marks kept.most
    kept-next kept text value h e f = rw (h, e, f) seen_next

    -- a record that lacks both is new
    pub new-lacked : (ltb most (number (first + n)) && eqb (seen / 2 ^ mark_of (name (first + n)) % 2) 0) ≡ true → new name number first n ≡ true
    new-lacked e =
        let h = and_parts (ltb most (number (first + n))) (eqb (seen / 2 ^ mark_of (name (first + n)) % 2) 0) e in
        all_made n _ (λ i l. both-differ name number (first + i) (first + n) (new-number (ltb-true _ _ h.0) i l) (new-name (eqb-true _ _ h.1) i l))
