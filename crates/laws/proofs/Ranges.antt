-- Integer ranges, once over the width: which magnitudes are read, which numbers they make as 64 bits in two's complement, and that print
-- gives the sign and the magnitude back. A width of at most 64 is all that is asked.
use Prim.Native.Nat.{ℕ, zero, suc, ◌+◌, ◌-◌, ◌*◌, ◌/◌, ◌^◌, ◌≤◌, ◌<◌}
use native.Mathlib.Omega.{arith}
use native.Mathlib.Nat.{mod-eq_of_lt, div-add-mod'}
use mathlib.Core.Bool.{Bool, true, false, ◌&&◌}
use mathlib.Core.Logic.{◌⊎◌, inl, inr}
use mathlib.Core.Path.{◌≡◌, refl, ap, ◌∙◌}
use mathlib.Core.List.{List, ◌∷◌}
use lib.Dec.{ltb, eqb}
use lib.Pow.{pow_pos, pow_mono}
use borrow.Author.Tests.{ltb-true, ltb-false, lt-ltb, le-ltb, eqb-true, eq-eqb}
use Rattle.definitions.specs.declared.Node.{Node}
use Rattle.definitions.specs.declared.Want.{Want}
use Rattle.definitions.specs.Basics.{when◌then◌otherwise◌}
use Rattle.definitions.specs.Scope.{i32, i64, u32, u64, enum}
use Rattle.definitions.specs.Nodes.{half, word32, word64, number_of, high_of, low_of, widen}
use Rattle.definitions.specs.Validity.{in_range}
use Rattle.definitions.specs.Integers.{most_unsigned, most_signed, signed}
use Rattle.definitions.specs.Print.{decimal, signed_decimal, number_text}

-- ---- which magnitudes are read

pub most_unsigned-lt : (w v : ℕ) → v ≤ most_unsigned w → v < 2 ^ w
unfolding most_unsigned
most_unsigned-lt w v h = omega (arith, pow_pos w)

pub lt-most_unsigned : (w v : ℕ) → v < 2 ^ w → v ≤ most_unsigned w
unfolding most_unsigned
lt-most_unsigned w v h = omega arith

pub most_signed-lt : (w v : ℕ) → v ≤ most_signed w false → v < 2 ^ (w - 1)
unfolding most_signed
most_signed-lt w v h = omega (arith, pow_pos (w - 1))

pub lt-most_signed : (w v : ℕ) → v < 2 ^ (w - 1) → v ≤ most_signed w false
unfolding most_signed
lt-most_signed w v h = omega arith

pub most_signed-minus : (w : ℕ) → most_signed w true ≡ 2 ^ (w - 1)
unfolding most_signed
most_signed-minus w = refl

-- half of a width's numbers are at most half of the 64 bits
pub half-most : (w : ℕ) → w ≤ 64 → 2 ^ (w - 1) ≤ word64 / 2
half-most w h = pow_mono {i = w - 1} {j = 63} (omega arith)

-- ---- which numbers they make

-- the numbers of a width in two's complement, as 64 bits: from 0 up, and from the top down
abbrev pub SignedIn : ℕ → ℕ → Type 0
SignedIn w n = (n < 2 ^ (w - 1)) ⊎ ((word64 - 2 ^ (w - 1) ≤ n) × (n < word64))

pub signed-plain : (v : ℕ) → signed false v ≡ v
unfolding signed
signed-plain v = refl

pub signed-minus : (v : ℕ) → 0 < v → signed true v ≡ word64 - v
unfolding signed
signed-minus v h = mod-eq_of_lt (omega arith)

pub signed-minus-zero : signed true 0 ≡ 0
unfolding signed
signed-minus-zero = refl

pub signed-in : (w : ℕ) (negative : Bool) (v : ℕ) → v ≤ most_signed w negative → SignedIn w (signed negative v)
unfolding signed
signed-in w false v k = inl (most_signed-lt w v k)
signed-in w true zero k = inl (pow_pos (w - 1))
signed-in w true (suc v) k = inr (rw (signed-minus (suc v) (omega arith)) (omega (arith, most_signed-minus w), omega arith))

-- 64 bits hold them all
pub signed_in-lt : (w n : ℕ) → w ≤ 64 → SignedIn w n → n < word64
signed_in-lt w n h (inl k) = omega (arith, half-most w h)
signed_in-lt w n h (inr k) = k.1

pub signed_lt : (w : ℕ) (negative : Bool) (v : ℕ) → w ≤ 64 → v ≤ most_signed w negative → signed negative v < word64
signed_lt w negative v h k = signed_in-lt w (signed negative v) h (signed-in w negative v k)

pub unsigned-lt : (w v : ℕ) → w ≤ 64 → v ≤ most_unsigned w → v < word64
unsigned-lt w v h k = let less = pow_mono {i = w} {j = 64} h in omega (arith, most_unsigned-lt w v k)

-- any 64 bits are a number of 64 bits
pub signed_in-64 : (n : ℕ) → n < word64 → SignedIn 64 n
signed_in-64 n h = go (ltb n (2 ^ 63)) refl
  where
    go : (t : Bool) → ltb n (2 ^ 63) ≡ t → SignedIn 64 n
    go true e = inl (ltb-true n (2 ^ 63) e)
    go false e = inr (ltb-false n (2 ^ 63) e, h)

-- ---- print gives the sign and the magnitude back

pub signed_decimal-plain : (n : ℕ) → n < word64 / 2 → signed_decimal n ≡ decimal n
unfolding signed_decimal
signed_decimal-plain n h = rw (lt-ltb n (word64 / 2) h)

pub signed_decimal-minus : (n : ℕ) → word64 / 2 ≤ n → signed_decimal n ≡ 45 ∷ decimal (word64 - n)
unfolding signed_decimal
signed_decimal-minus n h = rw (le-ltb n (word64 / 2) h)

-- a sign and a magnitude as print has them: 0 has no minus
abbrev pub sign_text : Bool → ℕ → List ℕ
sign_text negative v = when negative && ltb 0 v then (λ _. 45 ∷ decimal v) otherwise λ _. decimal v

pub signed_decimal-signed : (w : ℕ) (negative : Bool) (v : ℕ) → w ≤ 64 → v ≤ most_signed w negative → signed_decimal (signed negative v) ≡ sign_text negative v
signed_decimal-signed w false v h k =
    rw signed-plain (signed_decimal-plain v (omega (arith, half-most w h, most_signed-lt w v k)))
signed_decimal-signed w true zero h k = rw signed-minus-zero (signed_decimal-plain 0 (omega arith))
signed_decimal-signed w true (suc v) h k =
    let most = half-most w h in
    let magnitude : suc v ≤ 2 ^ (w - 1) = rw (most_signed-minus w) at k in
    rw (signed-minus (suc v) (omega arith), lt-ltb 0 (suc v) (omega arith))
    (signed_decimal-minus (word64 - suc v) (omega arith) ∙ ap (λ (n : ℕ). 45 ∷ decimal n) (omega arith))

-- a number of a width, as print has it, is read back: as itself, or as a minus and a magnitude
pub data Printed (w n : ℕ) : Type 0 where
  printed_plain : signed_decimal n ≡ decimal n → n ≤ most_signed w false → signed false n ≡ n → Printed w n
  printed_minus : (v : ℕ) → signed_decimal n ≡ 45 ∷ decimal v → v ≤ most_signed w true → signed true v ≡ n → Printed w n

pub signed_in-printed : (w n : ℕ) → w ≤ 64 → SignedIn w n → Printed w n
signed_in-printed w n h (inl k) =
    printed_plain (signed_decimal-plain n (omega (arith, half-most w h))) (lt-most_signed w n k) (signed-plain n)
signed_in-printed w n h (inr k) =
    let most = half-most w h in
    printed_minus (word64 - n) (signed_decimal-minus n (omega arith)) (rw (most_signed-minus w) (omega arith))
    (signed-minus (word64 - n) (omega arith) ∙ omega arith)

-- the kinds
module _ (s : List ℕ) (w : Want) (n : ℕ) where
  pub number_text-i32 : number_text s w i32 n ≡ signed_decimal n
  unfolding number_text
  number_text-i32 = refl

  pub number_text-i64 : number_text s w i64 n ≡ signed_decimal n
  unfolding number_text
  number_text-i64 = refl

  pub number_text-u32 : number_text s w u32 n ≡ decimal n
  unfolding number_text
  number_text-u32 = refl

  pub number_text-u64 : number_text s w u64 n ≡ decimal n
  unfolding number_text
  number_text-u64 = refl

-- ---- a number in the words of a node

pub words-number : (n : ℕ) → high_of n * word32 + low_of n ≡ n
words-number n = div-add-mod' n word32

pub high_of-lt : (n : ℕ) → n < word64 → high_of n < word32
high_of-lt n h = omega arith

pub low_of-lt : (n : ℕ) → low_of n < word32
low_of-lt n = omega arith

pub number_of-words : (m : Node) (n : ℕ) → m.high ≡ high_of n → m.low ≡ low_of n → number_of m ≡ n
unfolding number_of
number_of-words m n h l = rw (h, l) (words-number n)

pub number_of-lt : (m : Node) → m.high < word32 → m.low < word32 → number_of m < word64
unfolding number_of
number_of-lt m h l = omega arith

-- and back
pub high_of-number : (m : Node) → m.low < word32 → high_of (number_of m) ≡ m.high
unfolding number_of
high_of-number m l = omega arith

pub low_of-number : (m : Node) → m.low < word32 → low_of (number_of m) ≡ m.low
unfolding number_of
low_of-number m l = omega arith

-- in range: i32 and enum are 32 bits sign-extended, u32 lies below 2^32, i64 and u64 are any
module _ (m : Node) (n : ℕ) (h : m.high ≡ high_of n) (l : m.low ≡ low_of n) where
  pub signed_in-extended : SignedIn 32 n → eqb m.high (when ltb m.low half then (λ _. 0) otherwise λ _. word32 - 1) ≡ true
  signed_in-extended (inl k) =
      rw (h, l, lt-ltb (low_of n) half (omega arith)) (eq-eqb (high_of n) 0 (omega arith))
  signed_in-extended (inr k) =
      rw (h, l, le-ltb (low_of n) half (omega arith)) (eq-eqb (high_of n) (word32 - 1) (omega arith))

  pub in_range-i32 : SignedIn 32 n → in_range i32 m ≡ true
  unfolding in_range
  in_range-i32 k = signed_in-extended k

  pub in_range-enum : SignedIn 32 n → in_range enum m ≡ true
  unfolding in_range
  in_range-enum k = signed_in-extended k

  pub in_range-u32 : n < word32 → in_range u32 m ≡ true
  unfolding in_range
  in_range-u32 k = rw h (eq-eqb (high_of n) 0 (omega arith))

pub in_range-i64 : (m : Node) → in_range i64 m ≡ true
unfolding in_range
in_range-i64 m = refl

pub in_range-u64 : (m : Node) → in_range u64 m ≡ true
unfolding in_range
in_range-u64 m = refl

-- and back: the number of a node that is in range
pub in-in_range-i32 : (m : Node) → m.low < word32 → in_range i32 m ≡ true → SignedIn 32 (number_of m)
unfolding in_range number_of
in-in_range-i32 m l e = go (ltb m.low half) refl
  where
    go : (t : Bool) → ltb m.low half ≡ t → SignedIn 32 (number_of m)
    go true h = let high = eqb-true m.high 0 (rw h at e) in inl (omega (arith, ltb-true m.low half h))
    go false h = let high = eqb-true m.high (word32 - 1) (rw h at e) in inr (omega (arith, ltb-false m.low half h), omega arith)

pub in-in_range-u32 : (m : Node) → m.low < word32 → in_range u32 m ≡ true → number_of m < word32
unfolding in_range number_of
in-in_range-u32 m l e = omega (arith, eqb-true m.high 0 e)

-- ---- an enum's number, sign-extended from 32 bits

pub widen_in : (v : ℕ) → v < word32 → SignedIn 32 (widen v)
unfolding widen
widen_in v h = go (ltb v half) refl
  where
    go : (t : Bool) → ltb v half ≡ t → SignedIn 32 (widen v)
    go true e = rw (e, widen) (inl (ltb-true v half e))
    go false e = rw (e, widen) (inr (omega (arith, ltb-false v half e), omega arith))

pub low_of-widen : (v : ℕ) → v < word32 → low_of (widen v) ≡ v
unfolding widen
low_of-widen v h = go (ltb v half) refl
  where
    go : (t : Bool) → ltb v half ≡ t → low_of (widen v) ≡ v
    go true e = rw (e, widen) (omega arith)
    go false e = rw (e, widen) (omega arith)

pub widen-low_of : (n : ℕ) → SignedIn 32 n → widen (low_of n) ≡ n
unfolding widen
widen-low_of n (inl h) = rw (lt-ltb (low_of n) half (omega arith)) (omega arith)
widen-low_of n (inr h) = rw (le-ltb (low_of n) half (omega arith)) (omega arith)
