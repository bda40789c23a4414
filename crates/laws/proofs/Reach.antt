-- How far a token reaches: it begins at or after the place asked, ends inside the text, and is not empty unless it is the end.
-- A bad token begins inside the text.
use mathlib.Core.Path.{◌≡◌, refl, sym, ◌∙◌}
use mathlib.Core.Logic.{◌⊎◌, inl, inr}
use Prim.Native.Nat.{ℕ, suc, ◌+◌, ◌≤◌, ◌<◌}
use mathlib.Core.Bool.{Bool, true, false, ◌&&◌, ◌||◌, not}
use mathlib.Core.List.{List, [], ◌∷◌}
use mathlib.Core.Option.{Option, none, some}
use native.Mathlib.Omega.{arith}
use lib.Dec.{eqb, leb, ltb}
use lib.ListN.{length, drop, length-drop}
use borrow.Author.Tests.{eqb-true, leb-true, eq-eqb, ltb-true, ltb-false}
use Rattle.definitions.specs.declared.Token.{Token}
use Rattle.definitions.specs.declared.Place.{Place}
use Rattle.definitions.specs.Basics.{when◌then◌otherwise◌, between, all}
use Rattle.definitions.specs.Places.{place_of}
use Rattle.definitions.specs.Image.{digit}
use Rattle.definitions.specs.Classes.{class, classes, is_symbol, goes_on, symbol_class, digit_class, letter_class, quote_class, space_class, newline_class, comment_class}
use Rattle.definitions.specs.Integers.{front, octal_digit, hex_digit, hex_ahead, integer_length, runs_on}
use Rattle.laws.proofs.Lists.{and_parts, front-le}
use Rattle.laws.proofs.ClassTable.{symbol-class, byte-test, class-past}
use Rattle.definitions.specs.Tokens.{Scan, token, bad, gap, inside, one_more, token_of, integer_scan, string_scan, scan_from, skip, scan, end_of_text, name_token, integer_token, string_token}

-- a choice, by cases
pub by-test : {A : Type 0} (P : A → Type 0) (t : Bool) (a b : Unit {0} → A) → (t ≡ true → P (a tt)) → (t ≡ false → P (b tt))
    → P (when t then a otherwise b)
by-test P true a b h i = h refl
by-test P false a b h i = i refl

-- ---- the runs of bytes that tokens are made of

pub gap-le : (comment : Bool) (bs : List ℕ) → gap comment bs ≤ length bs
unfolding gap
gap-le comment [] = omega arith
gap-le true (b ∷ bs) = omega (arith, gap-le (not (eqb b 10)) bs)
gap-le false (b ∷ bs) =
    by-test (λ (n : ℕ). n ≤ suc (length bs)) (eqb (class b) space_class || eqb (class b) newline_class) _ _
    (λ _. omega (arith, gap-le false bs)) (λ _.
    by-test (λ (n : ℕ). n ≤ suc (length bs)) (eqb (class b) comment_class) _ _
    (λ _. omega (arith, gap-le true bs)) (λ _. omega arith))

pub inside-lt : (quote : ℕ) (slashed : Bool) (bs : List ℕ) (n : ℕ) → inside quote slashed bs ≡ some n → n < length bs
unfolding inside
inside-lt quote slashed [] n e = let z : ◌≡◌ {A = ℕ} 0 1 = cc in absurd (omega arith)
inside-lt quote slashed (b ∷ bs) n e =
    by-test (λ (o : Option ℕ). o ≡ some n → n < suc (length bs)) (eqb b 10 || eqb b 0) _ _
    (λ _ e. let z : ◌≡◌ {A = ℕ} 0 1 = cc in absurd (omega arith)) (λ _.
    by-test (λ (o : Option ℕ). o ≡ some n → n < suc (length bs)) (not slashed && eqb b quote) _ _
    (λ _ e. let z : 0 ≡ n = cc in omega arith) (λ _.
    further (inside quote (not slashed && eqb b 92) bs) (inside-lt quote (not slashed && eqb b 92) bs)))
    e
  where
    further : (o : Option ℕ) → ((m : ℕ) → o ≡ some m → m < length bs) → one_more o ≡ some n → n < suc (length bs)
    further none ih e = let z : ◌≡◌ {A = ℕ} 0 1 = cc in absurd (omega arith)
    further (some m) ih e = let z : suc m ≡ n = cc in omega (arith, ih m refl)

-- `x` and a digit after it
hex_ahead-two : (bs : List ℕ) → hex_ahead bs ≡ true → 2 ≤ length bs
unfolding hex_ahead
hex_ahead-two [] e = let z : ◌≡◌ {A = ℕ} 0 1 = cc in absurd (omega arith)
hex_ahead-two (x ∷ []) e = let z : ◌≡◌ {A = ℕ} 0 1 = cc in absurd (omega arith)
hex_ahead-two (x ∷ d ∷ bs) e = omega arith

pub integer_length-pos : (b : ℕ) (bs : List ℕ) → 1 ≤ integer_length b bs
unfolding integer_length
integer_length-pos b bs =
    by-test (λ (n : ℕ). 1 ≤ n) (eqb b 48) _ _
    (λ _. by-test (λ (n : ℕ). 1 ≤ n) (hex_ahead bs) _ _ (λ _. omega arith) (λ _. omega arith)) (λ _. omega arith)

pub integer_length-le : (b : ℕ) (bs : List ℕ) → integer_length b bs ≤ suc (length bs)
unfolding integer_length
integer_length-le b bs =
    by-test (λ (n : ℕ). n ≤ suc (length bs)) (eqb b 48) _ _
    (λ _.
    by-test (λ (n : ℕ). n ≤ suc (length bs)) (hex_ahead bs) _ _
    (λ e. omega (arith, hex_ahead-two bs e, front-le hex_digit (drop 1 bs), length-drop 1 bs))
    (λ _. omega (arith, front-le octal_digit bs)))
    (λ _. omega (arith, front-le digit bs))

-- ---- where a token begins

pub skip-ge : (s : List ℕ) (at : ℕ) → at ≤ skip s at
unfolding skip
skip-ge s at = omega arith

pub skip-le : (s : List ℕ) (at : ℕ) → at ≤ length s → skip s at ≤ length s
unfolding skip
skip-le s at h = omega (arith, gap-le false (drop at s), length-drop at s)

-- ---- the kinds: 0 to 3, or a symbol's byte

pub symbol-is : (b : ℕ) → class b ≡ symbol_class → is_symbol b ≡ true
symbol-is b e = sym (symbol-class b) ∙ eq-eqb (class b) symbol_class e

-- the least symbol is `,` and the greatest `}`
pub symbol-range : (b : ℕ) → class b ≡ symbol_class → (44 ≤ b) × (b ≤ 125)
unfolding all class classes
symbol-range b e = go (ltb b 256) refl
  where
    go : (t : Bool) → ltb b 256 ≡ t → (44 ≤ b) × (b ≤ 125)
    go true h =
        let k = byte-test (λ b. not (eqb (class b) symbol_class) || between 44 125 b) refl b (ltb-true b 256 h) in
        let i : between 44 125 b ≡ true = rw (eq-eqb (class b) symbol_class e) at k in
        let z = and_parts (leb 44 b) (leb b 125) i in
        (leb-true 44 b z.0, leb-true b 125 z.1)
    go false h = let z = class-past b (ltb-false b 256 h) in absurd (omega arith)

-- ---- tokens

-- a token t with the place n after it, from the place `at` on
pub record Reach (s : List ℕ) (at : ℕ) (t : Token) (n : ℕ) : Type 0 where
  pub from : at ≤ t.start.offset
  pub start : t.start.offset ≤ n
  pub within : n ≤ length s
  pub falls : (t.kind ≡ end_of_text → ⊥) → t.start.offset < n
  pub ends : t.kind ≡ end_of_text → (t.start.offset ≡ length s) × (n ≡ length s)
  pub quotes : t.kind ≡ string_token → t.start.offset + 2 ≤ n
  pub kind : (t.kind ≤ string_token) ⊎ (is_symbol t.kind ≡ true)
  pub small : t.kind ≤ 125

-- a bad token's first byte, from the place `at` on
pub record Bad (s : List ℕ) (at : ℕ) (p : Place) : Type 0 where
  pub from : at ≤ p.offset
  pub within : p.offset < length s

-- either
record Reaches (s : List ℕ) (at : ℕ) (r : Scan) : Type 0 where
  good : (t : Token) (n : ℕ) → r ≡ token t n → Reach s at t n
  poor : (p : Place) → r ≡ bad p → Bad s at p

reaches-token : {s : List ℕ} {at : ℕ} {t : Token} {n : ℕ} → Reach s at t n → Reaches s at (token t n)
reaches-token {t = t₁} {n = n₁} r = record {
  good = λ t n e. let et : t₁ ≡ t = cc in let en : n₁ ≡ n = cc in rw (← et, ← en) r;
  poor = λ p e. let z : ◌≡◌ {A = ℕ} 0 1 = cc in absurd (omega arith);
}

reaches-bad : {s : List ℕ} {at : ℕ} {p : Place} → Bad s at p → Reaches s at (bad p)
reaches-bad {p = p₁} r = record {
  good = λ t n e. let z : ◌≡◌ {A = ℕ} 0 1 = cc in absurd (omega arith);
  poor = λ p e. let ep : p₁ ≡ p = cc in rw (← ep) r;
}

-- from the place p of the text s, before the byte b and the bytes bs
module _ (s : List ℕ) (at : ℕ) (p : Place) (lo : at ≤ p.offset) (b : ℕ) (bs : List ℕ) (hi : p.offset + suc (length bs) ≡ length s) where
  bad-here : Reaches s at (bad p)
  bad-here = reaches-bad (record { from = lo; within = omega arith })

  -- a token of so many bytes
  token-here : (kind size : ℕ) → 1 ≤ size → size ≤ suc (length bs) → (kind ≡ end_of_text → ⊥) → (kind ≡ string_token → 2 ≤ size)
      → (kind ≤ string_token) ⊎ (is_symbol kind ≡ true) → kind ≤ 125 → Reaches s at (token_of kind p (p.offset + size))
  token-here kind size h i k₀ k₃ k c =
      reaches-token
      (record {
        from = lo;
        start = omega arith;
        within = omega arith;
        falls = λ x. omega arith;
        ends = λ x. absurd (k₀ x);
        quotes = λ x. omega (arith, k₃ x);
        kind = k;
        small = c;
      })

  name-here : Reaches s at (token_of name_token p (p.offset + 1 + front goes_on bs))
  name-here =
      let e : p.offset + 1 + front goes_on bs ≡ p.offset + (1 + front goes_on bs) = omega arith in
      rw e
      (token-here name_token (1 + front goes_on bs) (omega arith) (omega (arith, front-le goes_on bs))
      (λ x. omega arith) (λ x. absurd (omega arith)) (inl (omega arith)) (omega arith))

  integer-here : Reaches s at (integer_scan p b bs)
  unfolding integer_scan
  integer-here =
      by-test (Reaches s at) (runs_on (drop (integer_length b bs) (b ∷ bs))) _ _ (λ _. bad-here)
      (λ _.
      token-here integer_token (integer_length b bs) (integer_length-pos b bs) (integer_length-le b bs)
      (λ x. omega arith) (λ x. absurd (omega arith)) (inl (omega arith)) (omega arith))

  string-here : (o : Option ℕ) → ((n : ℕ) → o ≡ some n → n < length bs) → Reaches s at (string_scan p o)
  string-here none h = bad-here
  string-here (some n) h =
      let e : p.offset + n + 2 ≡ p.offset + (n + 2) = omega arith in
      rw e
      (token-here string_token (n + 2) (omega arith) (omega (arith, h n refl))
      (λ x. omega arith) (λ x. omega arith) (inl (omega arith)) (omega arith))

  symbol-here : class b ≡ symbol_class → Reaches s at (token_of b p (p.offset + 1))
  symbol-here e =
      let r = symbol-range b e in
      token-here b 1 (omega arith) (omega arith)
      (λ x. omega (arith, r.0)) (λ x. absurd (omega (arith, r.0))) (inr (symbol-is b e)) r.1

  cons-here : Reaches s at (scan_from p (b ∷ bs))
  unfolding scan_from
  cons-here =
      by-test (Reaches s at) (eqb (class b) letter_class) _ _ (λ _. name-here) (λ _.
      by-test (Reaches s at) (eqb (class b) digit_class) _ _ (λ _. integer-here) (λ _.
      by-test (Reaches s at) (eqb (class b) quote_class) _ _ (λ _. string-here (inside b false bs) (inside-lt b false bs)) (λ _.
      by-test (Reaches s at) (eqb (class b) symbol_class) _ _ (λ e. symbol-here (eqb-true (class b) symbol_class e)) (λ _. bad-here))))

scan_from-reaches : (s : List ℕ) (at : ℕ) (p : Place) → at ≤ p.offset → (bs : List ℕ) → p.offset + length bs ≡ length s → Reaches s at (scan_from p bs)
unfolding scan_from
scan_from-reaches s at p lo [] hi =
    reaches-token
    (record {
      from = lo;
      start = omega arith;
      within = omega arith;
      falls = λ x. absurd (x refl);
      ends = λ x. (omega arith, omega arith);
      quotes = λ x. absurd (omega arith);
      kind = inl (omega arith);
      small = omega arith;
    })
scan_from-reaches s at p lo (b ∷ bs) hi = cons-here s at p lo b bs hi

scan-reaches : (s : List ℕ) (at : ℕ) → at ≤ length s → Reaches s at (scan s at)
unfolding scan
scan-reaches s at h =
    scan_from-reaches s at (place_of s (skip s at)) (skip-ge s at) (drop (skip s at) s)
    (omega (arith, skip-le s at h, length-drop (skip s at) s))

pub reach : (s : List ℕ) (at : ℕ) (t : Token) (n : ℕ) → at ≤ length s → scan s at ≡ token t n → Reach s at t n
reach s at t n h e = (scan-reaches s at h).good t n e

pub reach-bad : (s : List ℕ) (at : ℕ) (p : Place) → at ≤ length s → scan s at ≡ bad p → Bad s at p
reach-bad s at p h e = (scan-reaches s at h).poor p e

-- what is made of the token at a place, by cases
pub by-scan : {A : Type 0} (P : A → Type 0) (s : List ℕ) (at : ℕ) → at ≤ length s → (f : Scan → A)
    → ((p : Place) → Bad s at p → P (f (bad p))) → ((t : Token) (n : ℕ) → Reach s at t n → P (f (token t n))) → P (f (scan s at))
by-scan P s at h f poor good = go (scan s at) (scan-reaches s at h)
  where
    go : (r : Scan) → Reaches s at r → P (f r)
    go (bad p) x = poor p (x.poor p refl)
    go (token t n) x = good t n (x.good t n refl)
