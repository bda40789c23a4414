-- Decimal digits: how they are made, whatever the fuel, and that they read back: as digits, as a number, as a token.
use Prim.Native.Nat.{ℕ, zero, suc, ◌+◌, ◌*◌, ◌/◌, ◌%◌, ◌^◌, ◌≤◌, ◌<◌}
use native.Mathlib.Omega.{arith}
use native.Mathlib.Nat.{div-lt_iff_lt-mul}
use mathlib.Core.Bool.{Bool, true, false, ◌&&◌, ◌||◌}
use mathlib.Core.Path.{◌≡◌, refl, sym, ap, ◌∙◌}
use mathlib.Core.List.{List, [], ◌∷◌, ◌++◌}
use lib.Dec.{ltb, leb, eqb}
use lib.ListN.{length, length-append}
use lib.Seq.{drop-append_seam}
use borrow.Author.Tests.{ltb-true, ltb-false, lt-ltb, le-ltb, leb-true, le-leb, eqb-true, ne_eqb}
use Rattle.definitions.specs.declared.Place.{Place}
use Rattle.definitions.specs.Basics.{each, all}
use Rattle.definitions.specs.Image.{letter, digit}
use Rattle.definitions.specs.Classes.{class, goes_on, digit_class}
use Rattle.definitions.specs.Integers.{front, octal_digit, hex_digit, hex_ahead, digit_value, worth, integer_value, integer_length, runs_on}
use Rattle.definitions.specs.Tokens.{token_of, integer_token, integer_scan, scan_from}
use Rattle.definitions.specs.Print.{digits, decimal}
use Rattle.laws.proofs.Lists.{and_parts, and-made, or_parts, true-false, never_true, all-at, each_append, Stops, front-stops, front-each}
use Rattle.laws.proofs.ClassTable.{digit-class, goes_on-word}

-- ---- how they are made

-- the fuel does not matter, once it is enough
fuel : (f g n : ℕ) → n ≤ f → n ≤ g → digits f n ≡ digits g n
unfolding digits
fuel zero zero n h k = refl
fuel zero (suc g) n h k = rw (lt-ltb n 10 (omega arith))
fuel (suc f) zero n h k = rw (lt-ltb n 10 (omega arith))
fuel (suc f) (suc g) n h k = go (fuel f g (n / 10)) (ltb n 10) refl
  where
    go : (n / 10 ≤ f → n / 10 ≤ g → digits f (n / 10) ≡ digits g (n / 10)) → (t : Bool) → ltb n 10 ≡ t → digits (suc f) n ≡ digits (suc g) n
    go ih true e = rw (e, digits)
    go ih false e = let big = ltb-false n 10 e in rw (e, digits, ih (omega arith) (omega arith))

pub decimal-small : (n : ℕ) → n < 10 → decimal n ≡ (48 + n) ∷ []
unfolding decimal digits
decimal-small zero h = refl
decimal-small (suc n) h = rw (lt-ltb (suc n) 10 h)

pub decimal_step : (n : ℕ) → 10 ≤ n → decimal n ≡ decimal (n / 10) ++ ((48 + n % 10) ∷ [])
unfolding decimal digits
decimal_step zero h = absurd (omega arith)
decimal_step (suc n) h = rw (le-ltb (suc n) 10 h, fuel n (suc n / 10) (suc n / 10) (omega arith) (omega arith))

-- by which a fact of every number's digits is proved: of the small ones, and of one more digit
pub decimal-induction : (P : ℕ → List ℕ → Type 0) → ((n : ℕ) → n < 10 → P n ((48 + n) ∷ []))
    → ((n : ℕ) → 10 ≤ n → (ds : List ℕ) → P (n / 10) ds → P n (ds ++ ((48 + n % 10) ∷ [])))
    → (n : ℕ) → P n (decimal n)
decimal-induction P small more n = below (suc n) n (omega arith)
  where
    below : (f n : ℕ) → n < f → P n (decimal n)
    below zero n h = absurd (omega arith)
    below (suc f) n h = go (below f (n / 10)) (ltb n 10) refl
      where
        go : (n / 10 < f → P (n / 10) (decimal (n / 10))) → (t : Bool) → ltb n 10 ≡ t → P n (decimal n)
        go ih true e = let less = ltb-true n 10 e in rw (decimal-small n less) (small n less)
        go ih false e = let big = ltb-false n 10 e in rw (decimal_step n big) (more n big (decimal (n / 10)) (ih (omega arith)))

-- ---- read back as digits

digit-made : (d : ℕ) → d < 10 → digit (48 + d) ≡ true
unfolding all
digit-made = all-at 10 (λ d. digit (48 + d)) refl

pub decimal-digits : (n : ℕ) → each digit (decimal n) ≡ true
unfolding each
decimal-digits =
    decimal-induction (λ n ds. each digit ds ≡ true)
    (λ n h. and-made (digit (48 + n)) true (digit-made n h) refl)
    (λ n h ds ih. each_append digit ds ((48 + n % 10) ∷ []) ih (and-made (digit (48 + n % 10)) true (digit-made (n % 10) (omega arith)) refl))

pub front-decimal : (n : ℕ) (r : List ℕ) → Stops digit r → front digit (decimal n ++ r) ≡ length (decimal n)
front-decimal n r s = front-each digit (decimal n) r (decimal-digits n) s

-- the first digit, which is no 0 but for the number 0, and those after it
pub record Begins (n : ℕ) (ds : List ℕ) : Type 0 where
  pub first : ℕ
  pub rest : List ℕ
  pub is : ds ≡ first ∷ rest
  pub nonzero : 0 < n → first ≡ 48 → ⊥

pub decimal-begins : (n : ℕ) → Begins n (decimal n)
decimal-begins =
    decimal-induction Begins
    (λ n h. record { first = 48 + n; rest = []; is = refl; nonzero = λ p e. omega arith })
    (λ n h ds ih.
    record {
      first = ih.first;
      rest = ih.rest ++ ((48 + n % 10) ∷ []);
      is = ap (λ (l : List ℕ). l ++ ((48 + n % 10) ∷ [])) ih.is;
      nonzero = λ p. ih.nonzero (omega arith);
    })

pub decimal-zero : decimal 0 ≡ 48 ∷ []
decimal-zero = decimal-small 0 (omega arith)

pub decimal-nonzero : (n b : ℕ) (bs : List ℕ) → 0 < n → decimal n ≡ b ∷ bs → b ≡ 48 → ⊥
decimal-nonzero n b bs h e q =
    let begins = decimal-begins n in
    let first : begins.first ≡ b = cc in
    begins.nonzero h (first ∙ q)

pub decimal-some : (n : ℕ) → 1 ≤ length (decimal n)
decimal-some n = let b = decimal-begins n in omega (arith, ap length b.is)

-- at most so many digits
pub decimal-length : (k n : ℕ) → n < 10 ^ suc k → length (decimal n) ≤ suc k
decimal-length zero n h = rw (decimal-small n (omega arith)) (omega arith)
decimal-length (suc k) n h = go (decimal-length k (n / 10)) (ltb n 10) refl
  where
    go : (n / 10 < 10 ^ suc k → length (decimal (n / 10)) ≤ suc k) → (t : Bool) → ltb n 10 ≡ t → length (decimal n) ≤ suc (suc k)
    go ih true e = rw (decimal-small n (ltb-true n 10 e)) (omega arith)
    go ih false e = rw (decimal_step n (ltb-false n 10 e), length-append) (omega (arith, ih ((div-lt_iff_lt-mul (omega arith)).1 (omega arith))))

-- ---- read back as a number

pub worth-append : (base n : ℕ) (xs ys : List ℕ) → worth base n (xs ++ ys) ≡ worth base (worth base n xs) ys
unfolding worth
worth-append base n [] ys = refl
worth-append base n (x ∷ xs) ys = worth-append base (n * base + digit_value x) xs ys

digit_value-made : (d : ℕ) → d < 10 → digit_value (48 + d) ≡ d
unfolding all digit_value
digit_value-made d h = eqb-true (digit_value (48 + d)) d (all-at 10 (λ d. eqb (digit_value (48 + d)) d) refl d h)

pub worth-decimal : (n : ℕ) → worth 10 0 (decimal n) ≡ n
unfolding worth
worth-decimal =
    decimal-induction (λ n ds. worth 10 0 ds ≡ n)
    (λ n h. omega (arith, digit_value-made n h))
    (λ n h ds ih. worth-append 10 0 ds ((48 + n % 10) ∷ []) ∙ rw (ih, digit_value-made (n % 10) (omega arith)) (omega arith))

pub integer_value-decimal : (n : ℕ) → integer_value (decimal n) ≡ n
unfolding integer_value worth hex_ahead
integer_value-decimal zero = rw decimal-zero
integer_value-decimal (suc n) = go (decimal-begins (suc n))
  where
    go : Begins (suc n) (decimal (suc n)) → integer_value (decimal (suc n)) ≡ suc n
    go b =
        rw (b.is, integer_value, ne_eqb b.first 48 (b.nonzero (omega arith)))
        (ap (worth 10 0) (sym b.is) ∙ worth-decimal (suc n))

-- ---- read back as a token

-- what does not run on begins with no letter and no digit
runs_on-word : (b : ℕ) (bs : List ℕ) → runs_on (b ∷ bs) ≡ false → (letter b ≡ false) × (digit b ≡ false)
unfolding runs_on
runs_on-word b bs e = or_parts (letter b) (digit b) (sym (goes_on-word b) ∙ (or_parts (goes_on b) (eqb b 46) e).0)

pub runs_on-digit : (r : List ℕ) → runs_on r ≡ false → Stops digit r
runs_on-digit [] e = tt
runs_on-digit (b ∷ bs) e = (runs_on-word b bs e).1

octal-digit : (b : ℕ) → octal_digit b ≡ true → digit b ≡ true
octal-digit b e =
    let h = and_parts (leb 48 b) (leb b 55) e in
    let less = leb-true b 55 h.1 in
    and-made (leb 48 b) (leb b 57) h.0 (le-leb b 57 (omega arith))

pub runs_on-octal : (r : List ℕ) → runs_on r ≡ false → Stops octal_digit r
runs_on-octal [] e = tt
runs_on-octal (b ∷ bs) e = never_true (octal_digit b) (λ o. true-false (digit b) (octal-digit b o) (runs_on-word b bs e).1)

x-letter : (x : ℕ) → eqb x 120 || eqb x 88 ≡ true → letter x ≡ true
x-letter x e = go (eqb x 120) refl
  where
    go : (t : Bool) → eqb x 120 ≡ t → letter x ≡ true
    go true h = rw (eqb-true x 120 h)
    go false h = rw (eqb-true x 88 (rw h at e))

pub runs_on-hex : (r : List ℕ) → runs_on r ≡ false → hex_ahead r ≡ false
unfolding hex_ahead
runs_on-hex [] e = refl
runs_on-hex (x ∷ []) e = refl
runs_on-hex (x ∷ d ∷ bs) e =
    never_true ((eqb x 120 || eqb x 88) && hex_digit d)
    (λ h. true-false (letter x) (x-letter x (and_parts (eqb x 120 || eqb x 88) (hex_digit d) h).0) (runs_on-word x (d ∷ bs) e).0)

-- the digits of a number, up to what does not run on, are one integer
pub integer_length-decimal : (n : ℕ) (b : ℕ) (bs r : List ℕ) → decimal n ≡ b ∷ bs → runs_on r ≡ false → integer_length b (bs ++ r) ≡ suc (length bs)
unfolding integer_length each
integer_length-decimal zero b bs r e h =
    let one : b ∷ bs ≡ 48 ∷ [] = sym e ∙ decimal-zero in
    let first : b ≡ 48 = cc in
    let rest : bs ≡ [] = cc in
    rw (first, rest, runs_on-hex r h, front-stops octal_digit r (runs_on-octal r h))
integer_length-decimal (suc n) b bs r e h =
    let all_digits : digit b && each digit bs ≡ true = rw e at (decimal-digits (suc n)) in
    rw (ne_eqb b 48 (decimal-nonzero (suc n) b bs (omega arith) e), front-each digit bs r (and_parts (digit b) (each digit bs) all_digits).1 (runs_on-digit r h))
    (omega arith)

pub scan-decimal : (p : Place) (n : ℕ) (r : List ℕ) → runs_on r ≡ false → scan_from p (decimal n ++ r) ≡ token_of integer_token p (p.offset + length (decimal n))
unfolding scan_from integer_scan each
scan-decimal p n r h = go (decimal-begins n)
  where
    go : Begins n (decimal n) → scan_from p (decimal n ++ r) ≡ token_of integer_token p (p.offset + length (decimal n))
    go b =
        let all_digits : digit b.first && each digit b.rest ≡ true = rw b.is at (decimal-digits n) in
        let of-digits : class b.first ≡ digit_class =
        eqb-true (class b.first) digit_class (digit-class b.first ∙ (and_parts (digit b.first) (each digit b.rest) all_digits).0) in
        let long : integer_length b.first (b.rest ++ r) ≡ suc (length b.rest) = integer_length-decimal n b.first b.rest r b.is h in
        rw (b.is, scan_from, of-digits, integer_scan, long, drop-append_seam (b.first ∷ b.rest) r, h)
