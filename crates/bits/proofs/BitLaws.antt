-- Laws of bit fields: two fields side by side, a field's bound, a byte, a part of a list, a field cut out of a wider one.
use mathlib.Core.Path.{◌≡◌, refl, ap, sym, ◌∙◌}
use Prim.Native.Nat.{ℕ, zero, suc, ◌+◌, ◌-◌, ◌*◌, ◌/◌, ◌%◌, ◌^◌, ◌≤◌, ◌<◌}
use mathlib.Core.List.{List}
use native.Mathlib.Omega.{arith}
use native.Mathlib.Nat.{pow-suc, mod-lt, add-suc, add_assoc, add-zero, mul_assoc, pow-zero, div-div-eq-div-mul, lt_of_lt_of_le, one-mul}
use lib.ListN.{get_or, drop}
use lib.Seq.{get_or-drop}
use lib.Pow as pow
use Rattle.definitions.specs.Bits.{bit, bits}

-- a bit is 0 or 1
pub bit-lt : (s : List ℕ) (i : ℕ) → bit s i < 2
unfolding bit
bit-lt s i = mod-lt (get_or s (i / 8) 0 / 2 ^ (7 - i % 8)) (omega arith)

-- two fields side by side are one
pub bits-add : (s : List ℕ) (i w v : ℕ) → bits s i (w + v) ≡ bits s i w * 2 ^ v + bits s (i + w) v
unfolding bits
bits-add s i w zero = rw (add-zero, pow-zero) (omega arith)
bits-add s i w (suc v) = add-bit (bits-add s i w v)
  where
    add-bit : bits s i (w + v) ≡ bits s i w * 2 ^ v + bits s (i + w) v → bits s i (w + suc v) ≡ bits s i w * 2 ^ suc v + bits s (i + w) (suc v)
    add-bit h = rw (add-suc, pow-suc, ← mul_assoc, add_assoc) (omega (arith, h))

-- a field is below the power of two of its width
pub bits-lt : (s : List ℕ) (i w : ℕ) → bits s i w < 2 ^ w
unfolding bits
bits-lt s i zero = omega arith
bits-lt s i (suc w) = rw pow-suc (omega (arith, bits-lt s i w, bit-lt s (i + w)))

-- bit k of the byte at a
pub bit_at : (s : List ℕ) (a k : ℕ) → k < 8 → bit s (8 * a + k) ≡ get_or s a 0 / 2 ^ (7 - k) % 2
unfolding bit
bit_at s a k h =
    let e : (8 * a + k) / 8 ≡ a = omega arith in
    let f : (8 * a + k) % 8 ≡ k = omega arith in
    rw (e, f)

-- one bit more of the front of a number
front-more : (b d : ℕ) → 2 * (b / 2 ^ suc d) + b / 2 ^ d % 2 ≡ b / 2 ^ d
front-more b d = rw (pow-suc, ← div-div-eq-div-mul) (omega arith)

-- the first bits of a byte
bits-front : (s : List ℕ) (a : ℕ) → get_or s a 0 < 256 → (k : ℕ) → k ≤ 8 → bits s (8 * a) k ≡ get_or s a 0 / 2 ^ (8 - k)
unfolding bits
bits-front s a h zero l = omega arith
bits-front s a h (suc k) l =
    let e : 8 - k ≡ suc (7 - k) = omega arith in
    let f : 8 - suc k ≡ 7 - k = omega arith in
    rw (bits-front s a h k (omega arith), bit_at s a k (omega arith), e, f) (front-more (get_or s a 0) (7 - k))

-- the eight bits of a byte
pub bits-byte : (s : List ℕ) (a : ℕ) → get_or s a 0 < 256 → bits s (8 * a) 8 ≡ get_or s a 0
bits-byte s a h = omega (arith, bits-front s a h 8 (omega arith))

-- a bit of what is left of a list from a byte on
pub bit-drop : (s : List ℕ) (a i : ℕ) → bit (drop a s) i ≡ bit s (8 * a + i)
unfolding bit
bit-drop s a i =
    let e : (8 * a + i) / 8 ≡ a + i / 8 = omega arith in
    let f : (8 * a + i) % 8 ≡ i % 8 = omega arith in
    rw (e, f, get_or-drop)

-- a field of what is left of a list from a byte on
pub bits-drop : (s : List ℕ) (a i w : ℕ) → bits (drop a s) i w ≡ bits s (8 * a + i) w
unfolding bits
bits-drop s a i zero = refl
bits-drop s a i (suc w) = rw (bits-drop s a i w, bit-drop, add_assoc)

-- a field stands in a wider one, w bits above the lowest t
pub bits-cut : (s : List ℕ) (i o w t : ℕ) → bits s i (o + w + t) / 2 ^ t % 2 ^ w ≡ bits s (i + o) w
bits-cut s i o w t =
    ap (λ (n : ℕ). n / 2 ^ t % 2 ^ w) (bits-add s i (o + w) t)
    ∙ ap (λ (n : ℕ). n % 2 ^ w) (pow.high (bits s i (o + w)) t (bits-lt s (i + (o + w)) t))
    ∙ ap (λ (n : ℕ). n % 2 ^ w) (bits-add s i o w)
    ∙ pow.low (bits s i o) w (bits-lt s (i + o) w)

-- the same, of a field at bit j in one of n bits
pub bits-within : (s : List ℕ) (i o w t n j : ℕ) → o + w + t ≡ n → i + o ≡ j → bits s i n / 2 ^ t % 2 ^ w ≡ bits s j w
bits-within s i o w t n j e f = rw (← e, ← f) (bits-cut s i o w t)

-- a field of a record that stands at a byte, cut out of the record's first n bits
pub bits-record : (s : List ℕ) (a o w t n : ℕ) → o + w + t ≡ n → bits s (8 * a) n / 2 ^ t % 2 ^ w ≡ bits (drop a s) o w
bits-record s a o w t n e = rw bits-drop (bits-within s (8 * a) o w t n (8 * a + o) e refl)

-- one byte more
pub bits-more : (s : List ℕ) (a k : ℕ) → get_or s (a + k) 0 < 256 → bits s (8 * a) (8 * (k + 1)) ≡ bits s (8 * a) (8 * k) * 256 + get_or s (a + k) 0
bits-more s a k h =
    let e : 8 * (k + 1) ≡ 8 * k + 8 = omega arith in
    let f : 8 * a + 8 * k ≡ 8 * (a + k) = omega arith in
    rw (e, bits-add, f, bits-byte s (a + k) h)

-- a field of at most so many bits is below that power of two
pub bits_below : (s : List ℕ) (i w v : ℕ) → w ≤ v → bits s i w < 2 ^ v
bits_below s i w v h = lt_of_lt_of_le (bits-lt s i w) (pow.pow_mono h)

-- what `load` and `cut` ensure, together: a field of the record at a byte a, whose n bits were loaded from byte b on, p bits into it
pub bits-loaded : {v r : ℕ} (s : List ℕ) (a b o w t n p : ℕ) → o + w + t ≡ n → 8 * b ≡ 8 * a + p → v ≡ bits s (8 * b) n → r ≡ v / 2 ^ t % 2 ^ w → r ≡ bits (drop a s) (p + o) w
bits-loaded s a b o w t n p e f h k =
    let g : 8 * b + o ≡ 8 * a + (p + o) = omega arith in
    k ∙ ap (λ (x : ℕ). x / 2 ^ t % 2 ^ w) h ∙ bits-within s (8 * b) o w t n (8 * a + (p + o)) e g ∙ sym (bits-drop s a (p + o) w)

-- the same, of what is loaded from the record's own first byte on
pub bits-first : {v r : ℕ} (s : List ℕ) (a o w t n : ℕ) → o + w + t ≡ n → v ≡ bits s (8 * a) n → r ≡ v / 2 ^ t % 2 ^ w → r ≡ bits (drop a s) o w
bits-first s a o w t n e h k = k ∙ ap (λ (x : ℕ). x / 2 ^ t % 2 ^ w) h ∙ bits-record s a o w t n e

-- a one moved up inside a word
pub one_shifted : (k : ℕ) → k < 64 → 1 * 2 ^ k % 2 ^ 64 ≡ 2 ^ k
one_shifted k h = pow.shl_exact {a = 1} 1 k 64 (omega arith) (omega arith) ∙ one-mul (2 ^ k)
