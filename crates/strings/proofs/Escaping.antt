-- The pieces of a string, case by case: digits, an escape and a plain byte.
use mathlib.Core.Path.{◌≡◌, sym, ◌∙◌, refl, ap}
use mathlib.Core.Bool.{Bool, true, false}
use mathlib.Core.List.{List, [], ◌∷◌}
use Prim.Native.Nat.{ℕ, zero, suc, ◌≤◌, ◌<◌, ◌+◌, min}
use native.Mathlib.Omega.{arith}
use native.Mathlib.Nat.{zero-min, min-zero, suc-min-suc}
use lib.ListN.{length, take}
use lib.Seq.{length-take-le}
use borrow.Author.Tests.{lt-ltb, le-ltb, eq-eqb, ne_eqb}
use Rattle.definitions.specs.Basics.{when◌then◌otherwise◌}
use Rattle.laws.proofs.Lists.{front-le}
use Rattle.definitions.specs.Integers.{front, octal_digit, hex_digit, worth}
use Rattle.definitions.specs.Strings.{piece, bad_piece, find_escape, up_to, piece_of, octal_piece, hex_piece, letter_piece, escape_piece, first_piece}
use Rattle.std.specs.Prelude.{Some, None}
use Rattle.integers.specs.Values.{greatest, integer_of}
use Rattle.strings.specs.Values.{told}
use Rattle.integers.proofs.Digits.{told_over, held}
use Rattle.strings.proofs.Decoding.{up_to-le}

-- ---- digits at the front

front-take : (p : ℕ → Bool) (n : ℕ) (s : List ℕ) → front p (take n s) ≡ min n (front p s)
unfolding front
front-take p zero s = sym (zero-min _)
front-take p (suc n) [] = sym (min-zero _)
front-take p (suc n) (b ∷ bs) = go (p b) (front-take p n bs)
  where
    go : (t : Bool) → front p (take n bs) ≡ min n (front p bs)
        → (when t then (λ _. suc (front p (take n bs))) otherwise λ _. 0) ≡ min (suc n) (when t then (λ _. suc (front p bs)) otherwise λ _. 0)
    go true e = ap suc e ∙ sym (suc-min-suc _ _)
    go false e = sym (min-zero _)

-- as many as are looked at, of which there are no more than bytes
pub few-taken : (p : ℕ → Bool) (most m n : ℕ) (s : List ℕ) → m ≡ min most (length s) → n ≡ front p (take m s) → take n s ≡ take (up_to most p s) s
few-taken p most m n s l e =
    let q : n ≡ up_to most p s = omega (arith, l, e, front-take p m s, front-le p s) in
    rw q refl

taken-length : (n : ℕ) (p : ℕ → Bool) (s d : List ℕ) → d ≡ take (up_to n p s) s → length d ≡ up_to n p s
taken-length n p s d e = rw e (length-take-le (up_to n p s) s (up_to-le n p s))

-- ---- digits: a value over 255 is refused

module _ (v count : ℕ) where
  piece-in : v ≤ 255 → piece_of v count ≡ piece v count
  piece-in h = simp (lt-ltb v 256 (omega arith))

  piece-over : 255 < v → piece_of v count ≡ bad_piece
  piece-over h = simp (le-ltb v 256 (omega arith))

  pub digits-over : integer_of false greatest v ≡ None → None ≡ told (piece_of v count)
  digits-over e = sym (ap told (piece-over (omega (arith, told_over false greatest v e))))

  module _ (w : ℕ) (e : integer_of false greatest v ≡ Some w) where
    pub digits-past : 255 < w → None ≡ told (piece_of v count)
    digits-past h = sym (ap told (piece-over (omega (arith, held v w e))))

    pub digits_in : w ≤ 255 → Some (record { byte = w; count = count }) ≡ told (piece_of v count)
    digits_in h = rw (held v w e) (sym (ap told (piece-in (omega (arith, held v w e)))))

-- ---- an escape, from the byte after its backslash on

pub escape_end : (s : List ℕ) → length s ≡ 0 → escape_piece s ≡ bad_piece
unfolding escape_piece
escape_end [] h = refl
escape_end (b ∷ bs) h = absurd (omega arith)

module _ (b : ℕ) (bs s : List ℕ) (parts : s ≡ b ∷ bs) where
  module _ (d : List ℕ) (octal : octal_digit b ≡ true) (e : d ≡ take (up_to 3 octal_digit s) s) where
    pub escape-octal : escape_piece s ≡ piece_of (worth 8 0 d) (1 + length d)
    unfolding escape_piece octal_piece
    escape-octal =
        let n = taken-length 3 octal_digit s d e in
        rw (n, e, parts, octal) refl

  module _ (other : octal_digit b ≡ false) where
    module _ (d : List ℕ) (x : b ≡ 120) (e : d ≡ take (up_to 2 hex_digit bs) bs) where
      pub escape_none : length d ≡ 0 → escape_piece s ≡ bad_piece
      unfolding escape_piece hex_piece
      escape_none z =
          let n : up_to 2 hex_digit bs ≡ 0 = sym (taken-length 2 hex_digit bs d e) ∙ z in
          rw (parts, other, eq-eqb _ _ x, n) refl

      pub escape-hex : (length d ≡ 0 → ⊥) → escape_piece s ≡ piece_of (worth 16 0 d) (2 + length d)
      unfolding escape_piece hex_piece
      escape-hex z =
          let n = taken-length 2 hex_digit bs d e in
          let k : up_to 2 hex_digit bs ≡ 0 → ⊥ = λ q. z (n ∙ q) in
          rw (n, e, parts, other, eq-eqb _ _ x, ne_eqb _ _ k) refl

    pub escape-letter : (b ≡ 120 → ⊥) → escape_piece s ≡ letter_piece (find_escape b)
    unfolding escape_piece
    escape-letter k = rw (parts, other, ne_eqb _ _ k) refl

-- ---- the first piece

module _ (b : ℕ) (bs : List ℕ) where
  pub first-escape : b ≡ 92 → first_piece b bs ≡ escape_piece bs
  unfolding first_piece
  first-escape e = simp (eq-eqb _ _ e)

  pub first_plain : (b ≡ 92 → ⊥) → first_piece b bs ≡ piece b 1
  unfolding first_piece
  first_plain e = simp (ne_eqb _ _ e)
