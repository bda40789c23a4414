-- What the scanner's loops go by: each definition at a place of the text, one byte on or stopped, and the classes that a test tells.
use mathlib.Core.Path.{◌≡◌, sym, ◌∙◌, refl, ap}
use Prim.Native.Nat.{ℕ, zero, suc, ◌+◌, ◌≤◌, ◌<◌}
use mathlib.Core.Bool.{Bool, true, false, ◌&&◌, ◌||◌, not, and-false}
use mathlib.Core.Logic.{◌⊎◌, inl, inr}
use mathlib.Core.List.{List, [], ◌∷◌}
use native.Mathlib.Omega.{arith}
use native.Mathlib.Numerals.{add-one}
use native.Mathlib.Nat.{not-suc-le-zero}
use mathlib.Core.Option.{Option, none, some}
use lib.Dec.{ltb, leb, eqb}
use lib.ListN.{length, get_or, drop, drop_of_length-le}
use lib.Seq.{drop-cons, drop-drop}
use borrow.Author.Tests.{eq-eqb, ne_eqb, eqb-true, eqb-false, lt-ltb, leb-true}
use Rattle.definitions.specs.Basics.{when◌then◌otherwise◌, between}
use Rattle.definitions.specs.declared.Place.{Place}
use Rattle.definitions.specs.Places.{newline}
use Rattle.definitions.specs.Image.{digit}
use Rattle.definitions.specs.Classes.{classes, class, goes_on, quote_class, newline_class, space_class, comment_class, symbol_class, digit_class, letter_class}
use Rattle.definitions.specs.Integers.{front, octal_digit, hex_digit, hex_ahead, integer_length, runs_on}
use Rattle.definitions.specs.Tokens.{bad, end_of_text, gap, inside, integer_scan, integer_token, name_token, one_more, scan_from, skip, string_scan, string_token, token_of}
use Rattle.laws.proofs.Lists.{and_parts, true-false}
use Rattle.lexer.specs.declared.tokens.Cursor.{Cursor}
use Rattle.std.specs.Prelude.{Some, None}
use Rattle.std.specs.Prelude as answer
use Rattle.lexer.specs.Steps.{Met, place_at, in_line, breaks, closing_of}

-- ---- what separates, from a place on

-- a comment is its rest of the line and the separators after it, the newline first
gap-comment : (l : List ℕ) → gap true l ≡ front in_line l + gap false (drop (front in_line l) l)
unfolding gap front class classes
gap-comment [] = refl
gap-comment (b ∷ bs) = go (eqb b newline) refl (gap-comment bs)
  where
    go : (t : Bool) → eqb b newline ≡ t → gap true bs ≡ front in_line bs + gap false (drop (front in_line bs) bs)
        → gap true (b ∷ bs) ≡ front in_line (b ∷ bs) + gap false (drop (front in_line (b ∷ bs)) (b ∷ bs))
    go true e h = rw (eqb-true b newline e) (omega arith)
    go false e h = rw (e, gap, front) (omega arith)

gap-rest : (s : List ℕ) (i : ℕ) → gap true (drop i s) ≡ front in_line (drop i s) + gap false (drop (i + front in_line (drop i s)) s)
gap-rest s i = gap-comment (drop i s) ∙ ap (λ (l : List ℕ). front in_line (drop i s) + gap false l) (drop-drop (front in_line (drop i s)) i s)

pub skip-end : (s : List ℕ) (i : ℕ) → length s ≤ i → i ≡ skip s i
unfolding skip gap
skip-end s i h = rw (drop_of_length-le s h) (omega arith)

module _ (s : List ℕ) (i : ℕ) (h : i < length s) {c : ℕ} (e : c ≡ class (get_or s i 0)) where
  -- the classes 4, 5 and 6 are what separates
  pub skip_stop : (c ≡ space_class → ⊥) → (c ≡ newline_class → ⊥) → (c ≡ comment_class → ⊥) → i ≡ skip s i
  unfolding skip gap
  skip_stop f g k = rw (drop-cons s i 0) (simp (← e, ne_eqb _ _ f, ne_eqb _ _ g, ne_eqb _ _ k) (omega arith))

  pub skip-stays : between newline_class comment_class c ≡ false → i ≡ skip s i
  skip-stays l = skip_stop (λ f. refuted (rw f refl)) (λ g. refuted (rw g refl)) (λ k. refuted (rw k refl))
    where
      refuted : between newline_class comment_class c ≡ true → ⊥
      refuted t = true-false (between newline_class comment_class c) t l

  pub skip-comment : c ≡ comment_class → skip s (i + 1 + front in_line (drop (i + 1) s)) ≡ skip s i
  unfolding skip gap
  skip-comment k = rw (drop-cons s i 0) (simp (← e, k, add-one) (omega (arith, gap-rest s (suc i))))

  bounds : between newline_class comment_class c ≡ true → (newline_class ≤ c) × (c ≤ comment_class)
  bounds t = let z = and_parts (leb newline_class c) (leb c comment_class) t in (leb-true newline_class c z.0, leb-true c comment_class z.1)

  blank : newline_class ≤ c → c ≤ comment_class → (c ≡ comment_class → ⊥) → (eqb c space_class || eqb c newline_class) ≡ true
  blank l u k = go (eqb c space_class) refl
    where
      four : (c ≡ space_class → ⊥) → c ≡ newline_class
      four f = omega arith

      go : (t : Bool) → eqb c space_class ≡ t → (t || eqb c newline_class) ≡ true
      go true p = refl
      go false p = eq-eqb c newline_class (four (eqb-false c space_class p))

  pub skip-blank : between newline_class comment_class c ≡ true → (c ≡ comment_class → ⊥) → skip s (i + 1) ≡ skip s i
  unfolding skip gap
  skip-blank t k = rw (drop-cons s i 0) (simp (← e, blank (bounds t).0 (bounds t).1 k, add-one) (omega arith))

  -- what separates, and is neither a space nor a newline, begins a comment: for who tells what separates by the range of its classes
  pub comment-left : between newline_class comment_class c ≡ true → (c ≡ space_class → ⊥) → (c ≡ newline_class → ⊥) → c ≡ comment_class
  comment-left t f g = omega (arith, (bounds t).0, (bounds t).1)

-- ---- integers

-- hex digits stand after an `x` if there is one at least
hex-ahead : (x : ℕ) (ds : List ℕ) → hex_ahead (x ∷ ds) ≡ (eqb x 120 || eqb x 88) && ltb 0 (front hex_digit ds)
unfolding hex_ahead front
hex-ahead x [] = sym (and-false (eqb x 120 || eqb x 88))
hex-ahead x (d ∷ bs) = go (hex_digit d)
  where
    go : (t : Bool) → ((eqb x 120 || eqb x 88) && t) ≡ (eqb x 120 || eqb x 88) && ltb 0 (when t then (λ _. suc (front hex_digit bs)) otherwise λ _. 0)
    go true = simp (lt-ltb 0 (suc (front hex_digit bs)) (omega arith))
    go false = refl

-- `X` or `x`
abbrev IsX : ℕ → Type 0
IsX b = (b ≡ 88) ⊎ (b ≡ 120)

is_x : (b : ℕ) → IsX b → ((eqb b 120 || eqb b 88) ≡ true) × (octal_digit b ≡ false)
is_x b (inl e) = rw e (refl, refl)
is_x b (inr e) = rw e (refl, refl)

no-x : (b : ℕ) → (IsX b → ⊥) → (eqb b 120 || eqb b 88) ≡ false
no-x b f = simp (ne_eqb b 120 (λ e. f (inr e)), ne_eqb b 88 (λ e. f (inl e)))

-- what follows a `0`, from the place i on
module _ (s : List ℕ) (i : ℕ) (h : i < length s) where
  pub zero-hex : IsX (get_or s i 0) → 0 < front hex_digit (drop (i + 1) s) → integer_length 48 (drop i s) ≡ 2 + front hex_digit (drop (i + 1) s)
  unfolding integer_length
  zero-hex e f = rw (add-one, drop-cons s i 0) (simp (hex-ahead, (is_x _ e).0, lt-ltb _ _ (rw add-one at f)))

  pub zero-alone : IsX (get_or s i 0) → front hex_digit (drop (i + 1) s) ≡ 0 → integer_length 48 (drop i s) ≡ 1
  unfolding integer_length front
  zero-alone e f = rw (drop-cons s i 0) (simp (hex-ahead, rw add-one at f, and-false, (is_x _ e).1))

  pub zero-octal : (IsX (get_or s i 0) → ⊥) → integer_length 48 (drop i s) ≡ 1 + front octal_digit (drop i s)
  unfolding integer_length
  zero-octal f = rw (drop-cons s i 0) (simp (hex-ahead, no-x _ f))

pub zero-last : (s : List ℕ) (i : ℕ) → length s ≤ i → integer_length 48 (drop i s) ≡ 1
unfolding integer_length hex_ahead front
zero-last s i h = rw (drop_of_length-le s h)

pub decimal : (b : ℕ) (bs : List ℕ) → (b ≡ 48 → ⊥) → integer_length b bs ≡ 1 + front digit bs
unfolding integer_length
decimal b bs f = simp (ne_eqb _ _ f)

pub runs-end : (s : List ℕ) (i : ℕ) → length s ≤ i → false ≡ runs_on (drop i s)
unfolding runs_on
runs-end s i h = rw (drop_of_length-le s h)

pub runs-at : (s : List ℕ) (i : ℕ) → i < length s → runs_on (drop i s) ≡ (goes_on (get_or s i 0) || eqb (get_or s i 0) 46)
unfolding runs_on
runs-at s i h = rw (drop-cons s i 0)

-- an integer is one byte long at least
not-empty : (b : ℕ) (bs : List ℕ) → 0 < integer_length b bs
unfolding integer_length
not-empty b bs = go (eqb b 48) (hex_ahead bs)
  where
    go : (t u : Bool)
        → 0 < (when t then (λ _. when u then (λ _. 2 + front hex_digit (drop 1 bs)) otherwise λ _. 1 + front octal_digit bs) otherwise λ _. 1 + front digit bs)
    go true true = omega arith
    go true false = omega arith
    go false u = omega arith

-- what is left of the text after n bytes from the place i on, of which the first is b
rest-after : (b : ℕ) (s : List ℕ) (i n : ℕ) → 0 < n → drop n (b ∷ drop (i + 1) s) ≡ drop (i + n) s
rest-after b s i zero h = absurd (not-suc-le-zero h)
rest-after b s i (suc n) h =
    let e : i + 1 + n ≡ i + suc n = omega arith in
    drop-drop n (i + 1) s ∙ ap (λ (k : ℕ). drop k s) e

module _ (s : List ℕ) (i : Place) (b : ℕ) {e : ℕ} (p : e ≡ i.offset + integer_length b (drop (i.offset + 1) s)) where
  rest : drop (integer_length b (drop (i.offset + 1) s)) (b ∷ drop (i.offset + 1) s) ≡ drop e s
  rest = rest-after b s i.offset _ (not-empty b (drop (i.offset + 1) s)) ∙ ap (λ (k : ℕ). drop k s) (sym p)

  pub integer-bad : runs_on (drop e s) ≡ true → bad i ≡ integer_scan i b (drop (i.offset + 1) s)
  unfolding integer_scan
  integer-bad r = simp (rest, r)

  pub integer-good : runs_on (drop e s) ≡ false → token_of integer_token i e ≡ integer_scan i b (drop (i.offset + 1) s)
  unfolding integer_scan
  integer-good r = simp (rest, ← p, r)

-- ---- strings: where one is closed whose bytes go on at a place, after a backslash or not

abbrev pub close_at : ℕ → Bool → List ℕ → ℕ → answer.Option ℕ
close_at quote slashed s i = closing_of i (inside quote slashed (drop i s))

closing-one_more : (i : ℕ) (o : Option ℕ) → closing_of (i + 1) o ≡ closing_of i (one_more o)
closing-one_more i none = refl
closing-one_more i (some n) = ap Some (omega arith)

pub close-end : (quote : ℕ) (slashed : Bool) (s : List ℕ) (i : ℕ) → length s ≤ i → None ≡ close_at quote slashed s i
unfolding inside
close-end quote slashed s i h = rw (drop_of_length-le s h)

module _ (quote : ℕ) (slashed : Bool) (s : List ℕ) (i : ℕ) (h : i < length s) where
  pub close-break : breaks (get_or s i 0) ≡ true → None ≡ close_at quote slashed s i
  unfolding inside
  close-break r = rw (drop-cons s i 0) (simp r)

  inside_on : breaks (get_or s i 0) ≡ false → (not slashed && eqb (get_or s i 0) quote) ≡ false
      → one_more (inside quote (not slashed && eqb (get_or s i 0) 92) (drop (i + 1) s)) ≡ inside quote slashed (drop i s)
  unfolding inside
  inside_on r q = rw (add-one, drop-cons s i 0) (simp (r, q))

  -- a byte that neither breaks nor closes the string
  pub close-on : breaks (get_or s i 0) ≡ false → (not slashed && eqb (get_or s i 0) quote) ≡ false
      → close_at quote (not slashed && eqb (get_or s i 0) 92) s (i + 1) ≡ close_at quote slashed s i
  close-on r q = closing-one_more i (inside quote (not slashed && eqb (get_or s i 0) 92) (drop (i + 1) s)) ∙ ap (closing_of i) (inside_on r q)

  inside-quote : breaks (get_or s i 0) ≡ false → (not slashed && eqb (get_or s i 0) quote) ≡ true → some 0 ≡ inside quote slashed (drop i s)
  unfolding inside
  inside-quote r q = rw (drop-cons s i 0) (simp (r, q))

  pub close-quote : breaks (get_or s i 0) ≡ false → (not slashed && eqb (get_or s i 0) quote) ≡ true
      → Some (i + 1) ≡ close_at quote slashed s i
  close-quote r q = ap Some (omega arith) ∙ ap (closing_of i) (inside-quote r q)

-- a byte of another class is another byte
other : (b k : ℕ) → (class b ≡ class k → ⊥) → eqb b k ≡ false
other b k f = ne_eqb b k (λ e. f (ap class e))

quote-whole : (b : ℕ) → class b ≡ quote_class → breaks b ≡ false
unfolding class classes
quote-whole b e = simp (other b 10 (λ f. omega arith), other b 0 (λ f. omega arith))

plain-whole : (b : ℕ) → space_class ≤ class b → breaks b ≡ false
unfolding class classes
plain-whole b l = simp (other b 10 (λ f. omega arith), other b 0 (λ f. omega arith))

plain-alone : (b : ℕ) → space_class ≤ class b → eqb b 92 ≡ false
unfolding class classes
plain-alone b l = other b 92 (λ f. omega arith)

-- the bytes of a string, by class: its quote is of the class of quotes, and from the class of spaces on a byte is plain
module _ (quote : ℕ) (q : class quote ≡ quote_class) (s : List ℕ) (i : ℕ) (h : i < length s) where
  pub string-closed : get_or s i 0 ≡ quote → Some (i + 1) ≡ close_at quote false s i
  string-closed e = close-quote quote false s i h (quote-whole _ (ap class e ∙ q)) (eq-eqb _ _ e)

  pub string-plain : space_class ≤ class (get_or s i 0) → close_at quote false s (i + 1) ≡ close_at quote false s i
  string-plain l = ap (λ (t : Bool). close_at quote t s (i + 1)) (sym (plain-alone _ l)) ∙ close-on quote false s i h (plain-whole _ l) (other (get_or s i 0) quote (λ f. omega arith))

  pub string-other : breaks (get_or s i 0) ≡ false → (get_or s i 0 ≡ quote → ⊥) → (get_or s i 0 ≡ 92 → ⊥)
      → close_at quote false s (i + 1) ≡ close_at quote false s i
  string-other r f g = ap (λ (t : Bool). close_at quote t s (i + 1)) (sym (ne_eqb _ _ g)) ∙ close-on quote false s i h r (ne_eqb _ _ f)

  pub string-slash : breaks (get_or s i 0) ≡ false → (get_or s i 0 ≡ quote → ⊥) → get_or s i 0 ≡ 92
      → close_at quote true s (i + 1) ≡ close_at quote false s i
  string-slash r f g = ap (λ (t : Bool). close_at quote t s (i + 1)) (sym (eq-eqb _ _ g)) ∙ close-on quote false s i h r (ne_eqb _ _ f)

  pub string-taken : breaks (get_or s i 0) ≡ false → close_at quote false s (i + 1) ≡ close_at quote true s i
  string-taken r = close-on quote true s i h r refl

scan-bad : (i : Place) (o : Option ℕ) → closing_of (i.offset + 1) o ≡ None → bad i ≡ string_scan i o
scan-bad i none e = refl
scan-bad i (some n) e = let z : ◌≡◌ {A = ℕ} 0 1 = cc in absurd (omega arith)

scan_good : (i : Place) (n : ℕ) (o : Option ℕ) → closing_of (i.offset + 1) o ≡ Some n → token_of string_token i n ≡ string_scan i o
scan_good i n none e = let z : ◌≡◌ {A = ℕ} 0 1 = cc in absurd (omega arith)
scan_good i n (some m) e = let z : i.offset + 1 + m + 1 ≡ n = cc in ap (token_of string_token i) (omega arith)

module _ (quote : ℕ) (s : List ℕ) (i : Place) where
  pub string-bad : close_at quote false s (i.offset + 1) ≡ None → bad i ≡ string_scan i (inside quote false (drop (i.offset + 1) s))
  string-bad e = scan-bad i (inside quote false (drop (i.offset + 1) s)) e

  pub string-good : (n : ℕ) → close_at quote false s (i.offset + 1) ≡ Some n
      → token_of string_token i n ≡ string_scan i (inside quote false (drop (i.offset + 1) s))
  string-good n e = scan_good i n (inside quote false (drop (i.offset + 1) s)) e

-- ---- the token that begins at a place

pub from_end : (s : List ℕ) (p : Place) → length s ≤ p.offset → token_of end_of_text p p.offset ≡ scan_from p (drop p.offset s)
unfolding scan_from
from_end s p h = rw (drop_of_length-le s h)

-- by the class k of the byte that is met
module _ (s : List ℕ) (c : Cursor) (b : ℕ) {k : ℕ} (m : Met s c b) (e : k ≡ class b) where
  here : drop c.at s ≡ b ∷ drop (c.at + 1) s
  here = rw add-one (drop-cons s c.at 0 m.inside ∙ ap (λ (b : ℕ). b ∷ drop (suc c.at) s) (sym m.byte))

  pub from-letter : k ≡ letter_class → token_of name_token (place_at c) (c.at + 1 + front goes_on (drop (c.at + 1) s)) ≡ scan_from (place_at c) (drop c.at s)
  unfolding scan_from
  from-letter l = rw here (simp (← e, l))

  pub from-digit : k ≡ digit_class → integer_scan (place_at c) b (drop (c.at + 1) s) ≡ scan_from (place_at c) (drop c.at s)
  unfolding scan_from
  from-digit l = rw here (simp (← e, l))

  pub from-quote : k ≡ quote_class → string_scan (place_at c) (inside b false (drop (c.at + 1) s)) ≡ scan_from (place_at c) (drop c.at s)
  unfolding scan_from
  from-quote l = rw here (simp (← e, l))

  pub from-symbol : k ≡ symbol_class → token_of b (place_at c) (c.at + 1) ≡ scan_from (place_at c) (drop c.at s)
  unfolding scan_from
  from-symbol l = rw here (simp (← e, l))

  pub from-none : (k ≡ letter_class → ⊥) → (k ≡ digit_class → ⊥) → (k ≡ quote_class → ⊥) → (k ≡ symbol_class → ⊥) → bad (place_at c) ≡ scan_from (place_at c) (drop c.at s)
  unfolding scan_from
  from-none l d q y = rw here (simp (← e, ne_eqb _ _ l, ne_eqb _ _ d, ne_eqb _ _ q, ne_eqb _ _ y))
