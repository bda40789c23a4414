-- What digits are worth: one more digit, growth, the rule that picks the base, and a value within the greatest magnitude.
use mathlib.Core.Path.{◌≡◌, sym, ◌∙◌, refl, ap}
use mathlib.Core.Bool.{Bool, true, false, ◌||◌, ◌&&◌}
use mathlib.Core.List.{List, [], ◌∷◌}
use Prim.Native.Nat.{ℕ, ◌≤◌, ◌<◌, ◌-◌, ◌+◌, ◌*◌, ◌/◌}
use native.Mathlib.Omega.{arith}
use native.Mathlib.Numerals.{add-one}
use native.Mathlib.Nat.{mul-zero, le-mul_of_pos_right, le-div_iff_mul-le}
use lib.Dec.{leb, eqb}
use lib.ListN.{length, get_or, take, drop, drop_of_length-le}
use lib.Seq.{drop-cons}
use Rattle.std.proofs.lemmas.List.{take_rest}
use borrow.Author.Tests.{le-leb, lt-leb, eq-eqb, ne_eqb, leb-false}
use Rattle.definitions.specs.Basics.{when◌then◌otherwise◌}
use Rattle.definitions.specs.Integers.{digit_value, hex_digit, hex_ahead, worth, integer_value, signed}
use Rattle.std.specs.Prelude.{Option, Some, None}
use Rattle.integers.specs.Values.{greatest, integer_of}

-- ---- `x` and a hex digit ahead

module _ (s : List ℕ) where
  pub ahead-short : length s < 2 → hex_ahead s ≡ false
  unfolding hex_ahead
  ahead-short h = go s h
    where
      go : (t : List ℕ) → length t < 2 → hex_ahead t ≡ false
      go [] k = refl
      go (x ∷ []) k = refl
      go (x ∷ d ∷ bs) k = absurd (omega arith)

  pub ahead : 2 ≤ length s → hex_ahead s ≡ ((eqb (get_or s 0 0) 120 || eqb (get_or s 0 0) 88) && hex_digit (get_or s 1 0))
  unfolding hex_ahead
  ahead h = go s h
    where
      go : (t : List ℕ) → 2 ≤ length t → hex_ahead t ≡ ((eqb (get_or t 0 0) 120 || eqb (get_or t 0 0) 88) && hex_digit (get_or t 1 0))
      go [] k = absurd (omega arith)
      go (x ∷ []) k = absurd (omega arith)
      go (x ∷ d ∷ bs) k = refl

-- ---- digits

-- a digit is worth no more than its byte
pub digit_value-le : (b : ℕ) → digit_value b ≤ b
unfolding digit_value
digit_value-le b = go (leb 97 b) (leb 65 b)
  where
    go : (lower letter : Bool) → (when lower then (λ _. b - 87) otherwise λ _. when letter then (λ _. b - 55) otherwise λ _. b - 48) ≤ b
    go true letter = omega arith
    go false true = omega arith
    go false false = omega arith

module _ (base : ℕ) where
  module _ (s : List ℕ) (i n : ℕ) where
    worth-more : i < length s → worth base n (drop i s) ≡ worth base (n * base + digit_value (get_or s i 0)) (drop (i + 1) s)
    unfolding worth
    worth-more h = rw (add-one, drop-cons s i 0 h) refl

    worth-end : length s ≤ i → worth base n (drop i s) ≡ n
    unfolding worth
    worth-end h = rw (drop_of_length-le s h) refl

  module _ (pos : 0 < base) where
    worth-grows : (bs : List ℕ) (n : ℕ) → n ≤ worth base n bs
    unfolding worth
    worth-grows [] n = omega arith
    worth-grows (b ∷ bs) n = omega (arith, le-mul_of_pos_right n pos, worth-grows bs (n * base + digit_value b))

    -- a digit more fits below a bound if what is there fits below the bound less the digit, divided
    digit-fits : (m d n : ℕ) → d ≤ m → n ≤ (m - d) / base → n * base + d ≤ m
    digit-fits m d n h k = omega (arith, (le-div_iff_mul-le {x = n} {y = m - d} pos).0 k)

    -- what fits with the greatest digit fits with each
    pub digit-sure : (m g d n : ℕ) → g ≤ m → d ≤ g → n ≤ (m - g) / base → n * base + d ≤ m
    digit-sure m g d n h k l = omega (arith, digit-fits m g n h l)

-- ---- the base

pub value_none : (s : List ℕ) → length s ≡ 0 → integer_value s ≡ 0
unfolding integer_value
value_none [] h = refl
value_none (b ∷ bs) h = absurd (omega arith)

module _ (b : ℕ) (bs s : List ℕ) (parts : s ≡ b ∷ bs) where
  pub value-decimal : (b ≡ 48 → ⊥) → integer_value s ≡ worth 10 0 s
  unfolding integer_value
  value-decimal h = rw parts (simp (ne_eqb b 48 h))

  pub value-hex : b ≡ 48 → hex_ahead bs ≡ true → integer_value s ≡ worth 16 0 (take (length s - 2) (drop 2 s))
  unfolding integer_value
  value-hex h k = rw (take_rest s 2, parts) (simp (eq-eqb b 48 h, k))

  pub value-octal : b ≡ 48 → hex_ahead bs ≡ false → integer_value s ≡ worth 8 0 bs
  unfolding integer_value
  value-octal h k = rw parts (simp (eq-eqb b 48 h, k))

-- ---- within the greatest magnitude

module _ (negative : Bool) (most v : ℕ) where
  pub within : v ≤ most → integer_of negative most v ≡ Some (signed negative v)
  unfolding integer_of
  within h = simp (le-leb v most h)

  pub over : most < v → integer_of negative most v ≡ None
  unfolding integer_of
  over h = simp (lt-leb v most h)

  pub told_over : integer_of negative most v ≡ None → most < v
  unfolding integer_of
  told_over e = go (leb v most) refl e
    where
      go : (t : Bool) → leb v most ≡ t → (when t then (λ _. Some (signed negative v)) otherwise λ _. None) ≡ None → most < v
      go true h r = let z : ◌≡◌ {A = ℕ} 0 1 = cc in absurd (omega arith)
      go false h r = leb-false v most h

  told-worth : (w : ℕ) → integer_of negative most v ≡ Some w → w ≡ signed negative v
  unfolding integer_of
  told-worth w e = go (leb v most) e
    where
      go : (t : Bool) → (when t then (λ _. Some (signed negative v)) otherwise λ _. None) ≡ Some w → w ≡ signed negative v
      go true r = cc
      go false r = let z : ◌≡◌ {A = ℕ} 0 1 = cc in absurd (omega arith)

pub unsigned : (v : ℕ) → signed false v ≡ v
unfolding signed
unsigned v = refl

-- what 64 bits hold of a value is the value
pub held : (v w : ℕ) → integer_of false greatest v ≡ Some w → w ≡ v
held v w e = told-worth false greatest v w e ∙ unsigned v

-- a value that 64 bits do not hold is over any greatest magnitude; one that they hold is compared with it
module _ (negative : Bool) (most v : ℕ) where
  pub narrow-over : most ≤ greatest → integer_of false greatest v ≡ None → None ≡ integer_of negative most v
  narrow-over h e = sym (over negative most v (omega (arith, told_over false greatest v e)))

  module _ (w : ℕ) (e : integer_of false greatest v ≡ Some w) where
    pub narrow-past : most < w → None ≡ integer_of negative most v
    narrow-past h = sym (over negative most v (omega (arith, held v w e)))

    pub narrow-worth : (x : ℕ) → w ≤ most → x ≡ signed negative w → Some x ≡ integer_of negative most v
    narrow-worth x h k = ap Some (k ∙ ap (signed negative) (held v w e)) ∙ sym (within negative most v (omega (arith, held v w e)))

-- ---- a loop over digits: what is read so far, with the digits left, is worth the whole, and fits

module _ (base : ℕ) (raw : List ℕ) where
  pub record Reading (n i : ℕ) : Type 0 where
    pub left : worth base n (drop i raw) ≡ worth base 0 raw
    pub fits : n ≤ greatest

  abbrev answer : Option ℕ
  answer = integer_of false greatest (worth base 0 raw)

  pub reading-done : (n i : ℕ) → Reading n i → length raw ≤ i → Some n ≡ answer
  reading-done n i r h =
      let e : n ≡ worth base 0 raw = sym (worth-end base raw i n h) ∙ r.left in
      rw (← e) (sym (within false greatest n r.fits ∙ ap Some (unsigned n)))

  module _ (n i d : ℕ) (r : Reading n i) (h : i < length raw) (e : d ≡ digit_value (get_or raw i 0)) where
    more : worth base (n * base + d) (drop (i + 1) raw) ≡ worth base 0 raw
    more = rw e (sym (worth-more base raw i n h)) ∙ r.left

    pub reading-on : (m : ℕ) → m ≡ n * base + d → m ≤ greatest → Reading m (i + 1)
    reading-on m q l = record { left = rw q more; fits = l }

    -- in a base of none the digit alone is left
    pub reading-over : d < 256 → greatest < n * base + d → None ≡ answer
    reading-over small l =
        let none : base ≡ 0 → ⊥ = λ z. let w : n * base ≡ 0 = rw z (mul-zero n) in omega (arith, l, w, small) in
        sym (over false greatest (worth base 0 raw) (omega (arith, l, worth-grows base (omega (arith, none)) (drop (i + 1) raw) (n * base + d), more)))
