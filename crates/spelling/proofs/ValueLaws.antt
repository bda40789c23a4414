-- The texts of values case by case, as the code takes them apart.
use mathlib.Core.Path.{◌≡◌, refl, sym, ap, ◌∙◌}
use mathlib.Core.Logic.{◌⊎◌, inl, inr}
use Prim.Native.Nat.{ℕ, ◌+◌, ◌-◌, ◌/◌, ◌%◌, ◌≤◌, ◌<◌, ◌^◌}
use mathlib.Core.List.{List, [], ◌∷◌, ◌++◌, append-nil}
use native.Mathlib.Omega.{arith}
use native.Mathlib.Numerals.{add-one}
use lib.ListN.{length, take, drop, get_or, set, length-append, take-append-drop}
use lib.Seq.{sets, length-sets, take-suc, take_all, drop-cons}
use borrow.Author.Tests.{ne_eqb, le-leb, lt-leb}
use Rattle.definitions.specs.Print.{slashed, quote_byte, quote_bytes, quoted, decimal, signed_decimal}
use Rattle.spelling.specs.Written.{Written, Room}
use Rattle.laws.proofs.Stores.{sets_last}
use Rattle.spelling.proofs.Texts.{then-written, as_written, none_written}
use Rattle.laws.proofs.Decimal.{decimal-small, decimal_step, decimal-some, decimal-length}
use Rattle.laws.proofs.Ranges.{signed_decimal-minus}
use Rattle.laws.proofs.Quoting.{quote_bytes-append}

-- ---- one quoted byte

pub quote-newline : (b : ℕ) → b ≡ 10 → quote_byte b ≡ slashed 110
unfolding quote_byte
quote-newline b h = rw h

pub quote-return : (b : ℕ) → b ≡ 13 → quote_byte b ≡ slashed 114
unfolding quote_byte
quote-return b h = rw h

pub quote-tab : (b : ℕ) → b ≡ 9 → quote_byte b ≡ slashed 116
unfolding quote_byte
quote-tab b h = rw h

pub quote-self : (b : ℕ) → (b ≡ 34) ⊎ ((b ≡ 39) ⊎ (b ≡ 92)) → quote_byte b ≡ slashed b
unfolding quote_byte
quote-self b (inl h) = rw h
quote-self b (inr (inl h)) = rw h
quote-self b (inr (inr h)) = rw h

module _ (b : ℕ) (newline : b ≡ 10 → ⊥) (return : b ≡ 13 → ⊥) (tab : b ≡ 9 → ⊥) (self : (b ≡ 34) ⊎ ((b ≡ 39) ⊎ (b ≡ 92)) → ⊥) where
  pub quote-plain : 32 ≤ b → b < 127 → quote_byte b ≡ b ∷ []
  unfolding quote_byte
  quote-plain low high =
      rw (ne_eqb b 10 newline, ne_eqb b 13 return, ne_eqb b 9 tab, ne_eqb b 39 (λ h. self (inr (inl h))), ne_eqb b 34 (λ h. self (inl h)), ne_eqb b 92 (λ h. self (inr (inr h))), le-leb 32 b low, le-leb b 126 (omega arith))

  pub quote-octal : (b < 32) ⊎ (127 ≤ b) → quote_byte b ≡ 92 ∷ (48 + b / 64) ∷ (48 + b / 8 % 8) ∷ (48 + b % 8) ∷ []
  unfolding quote_byte
  quote-octal (inl h) =
      rw (ne_eqb b 10 newline, ne_eqb b 13 return, ne_eqb b 9 tab, ne_eqb b 39 (λ h. self (inr (inl h))), ne_eqb b 34 (λ h. self (inl h)), ne_eqb b 92 (λ h. self (inr (inr h))), lt-leb 32 b h)
  quote-octal (inr h) =
      rw (ne_eqb b 10 newline, ne_eqb b 13 return, ne_eqb b 9 tab, ne_eqb b 39 (λ h. self (inr (inl h))), ne_eqb b 34 (λ h. self (inl h)), ne_eqb b 92 (λ h. self (inr (inr h))), le-leb 32 b (omega arith), lt-leb b 126 (omega arith))

-- ---- a quoted run

-- one byte more of it
pub quote_bytes-more : (s : List ℕ) (i : ℕ) → i < length s → quote_bytes (take (i + 1) s) ≡ quote_bytes (take i s) ++ quote_byte (get_or s i 0)
unfolding quote_bytes
quote_bytes-more s i h =
    rw (add-one i, take-suc s i 0 h)
    (quote_bytes-append (take i s) (get_or s i 0 ∷ [])
    ∙ ap (λ (l : List ℕ). quote_bytes (take i s) ++ l) (append-nil (quote_byte (get_or s i 0))))

-- what is left of it, from a byte on
quote_bytes-from : (s : List ℕ) (i : ℕ) → i < length s → quote_bytes (drop i s) ≡ quote_byte (get_or s i 0) ++ quote_bytes (drop (i + 1) s)
unfolding quote_bytes
quote_bytes-from s i h = rw (add-one i, drop-cons s i 0 h)

-- written so far: nothing, one byte more, all of it
pub quoted-none : (b s : List ℕ) (at : ℕ) → Written b at (quote_bytes (take 0 s)) b at
unfolding quote_bytes
quoted-none b s at = none_written b at

pub quoted-more : {a b c : List ℕ} {at p r : ℕ} (s : List ℕ) (i : ℕ) → i < length s
    → Written a at (quote_bytes (take i s)) b p → Written b p (quote_byte (get_or s i 0)) c r → Written a at (quote_bytes (take (i + 1) s)) c r
quoted-more s i h f g = as_written (sym (quote_bytes-more s i h)) (then-written f g)

pub quoted-end : {a b c d : List ℕ} {at p q r : ℕ} (s : List ℕ) (i : ℕ) → length s ≤ i
    → Written a at (34 ∷ []) b p → Written b p (quote_bytes (take i s)) c q → Written c q (34 ∷ []) d r → Written a at (quoted s) d r
unfolding quoted
quoted-end s i h f g k =
    as_written (ap (λ (l : List ℕ). 34 ∷ (quote_bytes l ++ (34 ∷ []))) (take_all i s h)) (then-written (then-written f g) k)

-- and the room for it
quoted-parts : (s : List ℕ) (i : ℕ) → quote_bytes s ≡ quote_bytes (take i s) ++ quote_bytes (drop i s)
quoted-parts s i = ap quote_bytes (sym (take-append-drop i s)) ∙ quote_bytes-append (take i s) (drop i s)

quoted-counts : (s : List ℕ) (i : ℕ) → length (quoted s) ≡ 2 + (length (quote_bytes (take i s)) + length (quote_bytes (drop i s)))
unfolding quoted
quoted-counts s i =
    omega (arith, length-append (quote_bytes s) (34 ∷ []), ap length (quoted-parts s i), length-append (quote_bytes (take i s)) (quote_bytes (drop i s)))

pub quoted-room-first : {at : ℕ} (s : List ℕ) → Room at (quoted s) → Room at (34 ∷ [])
quoted-room-first s r = record { fits = omega (arith, r.fits, quoted-counts s 0) }

pub quoted-room : {a b c : List ℕ} {at p q : ℕ} (s : List ℕ) (i : ℕ) → i < length s → Room at (quoted s)
    → Written a at (34 ∷ []) b p → Written b p (quote_bytes (take i s)) c q → Room q (quote_byte (get_or s i 0))
quoted-room s i h r f g =
    record {
      fits =
          omega (
            arith,
            r.fits,
            f.ends,
            g.ends,
            quoted-counts s i,
            ap length (quote_bytes-from s i h),
            length-append (quote_byte (get_or s i 0)) (quote_bytes (drop (i + 1) s)),
          );
    }

pub quoted-room-last : {a b c : List ℕ} {at p q : ℕ} (s : List ℕ) (i : ℕ) → Room at (quoted s)
    → Written a at (34 ∷ []) b p → Written b p (quote_bytes (take i s)) c q → Room q (34 ∷ [])
quoted-room-last s i r f g = record { fits = omega (arith, r.fits, f.ends, g.ends, quoted-counts s i) }

-- ---- how many decimal digits a number has

counted-more : (n : ℕ) → 10 ≤ n → length (decimal n) ≡ length (decimal (n / 10)) + 1
counted-more n h = rw (decimal_step n h) (length-append (decimal (n / 10)) ((48 + n % 10) ∷ []))

pub counted-one : (n : ℕ) → n < 10 → length (decimal n) ≡ 1
counted-one n h = rw (decimal-small n h) refl

pub counted-two : (n : ℕ) → 10 ≤ n → n < 100 → length (decimal n) ≡ 2
counted-two n h k = omega (arith, counted-more n h, counted-one (n / 10) (omega arith))

pub counted-three : (n : ℕ) → 100 ≤ n → n < 1000 → length (decimal n) ≡ 3
counted-three n h k = omega (arith, counted-more n (omega arith), counted-two (n / 10) (omega arith) (omega arith))

pub counted-four : (n : ℕ) → 1000 ≤ n → n < 10000 → length (decimal n) ≡ 4
counted-four n h k = omega (arith, counted-more n (omega arith), counted-three (n / 10) (omega arith) (omega arith))

-- four digits off the end
counted-off : (n : ℕ) → 10000 ≤ n → length (decimal n) ≡ length (decimal (n / 10000)) + 4
counted-off n h =
    let same : n / 10 / 10 / 10 / 10 ≡ n / 10000 = omega arith in
    omega (
      arith,
      counted-more n (omega arith),
      counted-more (n / 10) (omega arith),
      counted-more (n / 10 / 10) (omega arith),
      counted-more (n / 10 / 10 / 10) (omega arith),
      ap (λ (m : ℕ). length (decimal m)) same,
    )

-- so many are counted, and those of `left` are to come
pub record Counted (n more left : ℕ) : Type 0 where
  pub split : length (decimal n) ≡ more + length (decimal left)
  pub few : length (decimal n) ≤ 20

pub counted_start : (n : ℕ) → n < 2 ^ 64 → Counted n 0 n
counted_start n h = record { split = omega arith; few = decimal-length 19 n (omega arith) }

pub counted-on : {n more left : ℕ} → Counted n more left → 10000 ≤ left → Counted n (more + 4) (left / 10000)
counted-on {n} {more} {left} d h = record { split = omega (arith, d.split, counted-off left h); few = d.few }

-- ---- decimal digits, the last one first: those of `left` are to come, up to place k

pub record Digits (n : ℕ) (before : List ℕ) (at : ℕ) (after : List ℕ) (k left : ℕ) : Type 0 where
  pub place : k + 1 ≡ at + length (decimal left)
  pub short : length (decimal left) ≤ length (decimal n)
  pub holds : sets after at (decimal left) ≡ sets before at (decimal n)

pub digits-start : (n : ℕ) (before : List ℕ) (at : ℕ) → Digits n before at before (at + length (decimal n) - 1) n
digits-start n before at = record { place = omega (arith, decimal-some n); short = omega arith; holds = refl }

module _ {n at k left : ℕ} {before after : List ℕ} (d : Digits n before at after k left) where
  pub digits-room : {x : ℕ} → Room at (decimal n) → Room k (x ∷ [])
  digits-room r = record { fits = omega (arith, d.place, d.short, r.fits) }

  pub digits-length : length after ≡ length before
  digits-length = sym (length-sets after at (decimal left)) ∙ ap length d.holds ∙ length-sets before at (decimal n)

  -- one digit more
  module _ (h : 10 ≤ left) where
    one_less : length (decimal left) ≡ length (decimal (left / 10)) + 1
    one_less = counted-more left h

    pub digits-some : 1 ≤ k
    digits-some = omega (arith, d.place, one_less, decimal-some (left / 10))

    pub digits_more : {into : List ℕ} {r : ℕ} → Written after k ((48 + left % 10) ∷ []) into r → Digits n before at into (k - 1) (left / 10)
    digits_more f =
        let here : k ≡ at + length (decimal (left / 10)) = omega (arith, d.place, one_less) in
        record {
          place = omega (arith, here, digits-some);
          short = omega (arith, d.short, one_less);
          holds =
              rw f.holds (sym (sets_last (decimal (left / 10)) after at k (48 + left % 10) here))
              ∙ ap (sets after at) (sym (decimal_step left h))
              ∙ d.holds;
        }

  -- and the first
  pub digits_last : {into : List ℕ} {r : ℕ} → left < 10 → Written after k ((48 + left) ∷ []) into r → Written before at (decimal n) into (at + length (decimal n))
  digits_last h f =
      let here : k ≡ at = omega (arith, d.place, counted-one left h) in
      record {
        ends = refl;
        holds =
            f.holds
            ∙ ap (λ (j : ℕ). set after j (48 + left)) here
            ∙ ap (sets after at) (sym (decimal-small left h))
            ∙ d.holds;
      }

-- the sign, and the magnitude as the code finds it inside 64 bits
pub signed_parts : (n : ℕ) → 2 ^ 63 ≤ n → n < 2 ^ 64 → signed_decimal n ≡ (45 ∷ []) ++ decimal (18446744073709551615 - n + 1)
signed_parts n h k = signed_decimal-minus n h ∙ ap (λ (m : ℕ). 45 ∷ decimal m) (omega arith)
