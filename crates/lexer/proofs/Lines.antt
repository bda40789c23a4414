-- Lines: the line of an offset is what it was at an earlier one, if no newline stands between; it is the next one right behind a newline.
-- No good token holds a newline, so a token's end is on the line of its start. All that is proved of lines stands here.
use mathlib.Core.Path.{◌≡◌, sym, ◌∙◌, refl, ap}
use Prim.Native.Nat.{ℕ, zero, suc, ◌+◌, ◌-◌, ◌≤◌, ◌<◌}
use mathlib.Core.Bool.{Bool, true, false, ◌&&◌, ◌||◌, not}
use mathlib.Core.List.{List, [], ◌∷◌, ◌++◌}
use mathlib.Core.Option.{Option, none, some}
use native.Mathlib.Omega.{arith}
use native.Mathlib.Numerals.{add-one}
use lib.Dec.{eqb}
use lib.ListN.{length, get_or, take, drop, length-drop, length-take}
use lib.Seq.{drop-cons, length-take-le, take-suc}
use borrow.Author.Tests.{eq-eqb, ne_eqb, eqb-true, eqb-false}
use Rattle.definitions.specs.declared.Place.{Place}
use Rattle.definitions.specs.Basics.{when◌then◌otherwise◌}
use Rattle.definitions.specs.Refusals.{most_text}
use Rattle.definitions.specs.Image.{digit}
use Rattle.definitions.specs.Classes.{class, classes, goes_on, newline_class, quote_class, symbol_class, digit_class, letter_class}
use Rattle.definitions.specs.Integers.{front, octal_digit, hex_digit, hex_ahead, integer_length, runs_on}
use Rattle.definitions.specs.Places.{newline, newlines, behind, place_of}
use Rattle.definitions.specs.Tokens.{Scan, inside, one_more, token_of, integer_scan, string_scan, scan_from, skip, scan, colon, name_token, integer_token, string_token}
use Rattle.laws.proofs.Lists.{true-false, and_parts, front-le}
use Rattle.laws.proofs.ClassTable.{newline-class}
use Rattle.laws.proofs.Reach.{by-test, inside-lt, integer_length-le}
use Rattle.lexer.proofs.Laws.{skip-stays, from-symbol}
use Rattle.lexer.specs.declared.tokens.Line.{Line}
use Rattle.lexer.specs.declared.tokens.Cursor.{Cursor}
use Rattle.lexer.specs.Steps.{line_at, place_at, Located, Met, Placed, on_line, step_of, in_line}

-- ---- newlines among bytes

newlines-append : (xs ys : List ℕ) → newlines (xs ++ ys) ≡ newlines xs + newlines ys
unfolding newlines
newlines-append [] ys = omega arith
newlines-append (x ∷ xs) ys = go (eqb x newline) (newlines-append xs ys)
  where
    go : (t : Bool) → newlines (xs ++ ys) ≡ newlines xs + newlines ys
        → (when t then (λ _. suc (newlines (xs ++ ys))) otherwise λ _. newlines (xs ++ ys))
        ≡ (when t then (λ _. suc (newlines xs)) otherwise λ _. newlines xs) + newlines ys
    go true h = omega arith
    go false h = h

behind-append : (n : ℕ) (xs ys : List ℕ) → behind n (xs ++ ys) ≡ behind (behind n xs) ys
unfolding behind
behind-append n [] ys = refl
behind-append n (x ∷ xs) ys = go (eqb x newline) (behind-append 0 xs ys) (behind-append (suc n) xs ys)
  where
    go : (t : Bool) → behind 0 (xs ++ ys) ≡ behind (behind 0 xs) ys → behind (suc n) (xs ++ ys) ≡ behind (behind (suc n) xs) ys
        → (when t then (λ _. behind 0 (xs ++ ys)) otherwise λ _. behind (suc n) (xs ++ ys))
        ≡ behind (when t then (λ _. behind 0 xs) otherwise λ _. behind (suc n) xs) ys
    go true h k = h
    go false h k = k

newlines-le : (bs : List ℕ) → newlines bs ≤ length bs
unfolding newlines
newlines-le [] = omega arith
newlines-le (b ∷ bs) =
    by-test (λ (n : ℕ). n ≤ suc (length bs)) (eqb b newline) _ _ (λ _. omega (arith, newlines-le bs)) (λ _. omega (arith, newlines-le bs))

behind-le : (n : ℕ) (bs : List ℕ) → behind n bs ≤ n + length bs
unfolding behind
behind-le n [] = omega arith
behind-le n (b ∷ bs) =
    by-test (λ (k : ℕ). k ≤ n + suc (length bs)) (eqb b newline) _ _
    (λ _. omega (arith, behind-le 0 bs)) (λ _. omega (arith, behind-le (suc n) bs))

-- bytes with no newline: each takes a column
calm-behind : (n : ℕ) (bs : List ℕ) → newlines bs ≡ 0 → behind n bs ≡ n + length bs
unfolding newlines behind
calm-behind n [] h = omega arith
calm-behind n (b ∷ bs) h = go (calm-behind (suc n) bs) (eqb b newline) refl
  where
    go : (newlines bs ≡ 0 → behind (suc n) bs ≡ suc n + length bs) → (t : Bool) → eqb b newline ≡ t → behind n (b ∷ bs) ≡ n + suc (length bs)
    go ih true e = let z : suc (newlines bs) ≡ 0 = (rw (e, newlines) at h) in absurd (omega arith)
    go ih false e =
        let z : newlines bs ≡ 0 = (rw (e, newlines) at h) in
        let k : behind (suc n) bs ≡ n + suc (length bs) = omega (arith, ih z) in
        rw (e, behind) k

-- ---- the line of an offset

line_made : (a b c d : ℕ) → a ≡ c → b ≡ d → ◌≡◌ {A = Line} (record { number = a; began = b }) (record { number = c; began = d })
line_made a b c d p q = rw (p, q) refl

-- the first n bytes behind an offset
take_more : (s : List ℕ) (i n : ℕ) → i ≤ length s → take (i + n) s ≡ take i s ++ take n (drop i s)
take_more s zero n h = let e : zero + n ≡ n = omega arith in rw e refl
take_more [] (suc i) n h = absurd (omega arith)
take_more (x ∷ xs) (suc i) n h =
    let e : suc i + n ≡ suc (i + n) = omega arith in
    rw e (ap (λ (l : List ℕ). x ∷ l) (take_more xs i n (omega arith)))

pub line-steady : (s : List ℕ) (i n : ℕ) → i + n ≤ length s → newlines (take n (drop i s)) ≡ 0 → line_at s (i + n) ≡ line_at s i
unfolding line_at
line-steady s i n h c =
    let t = take_more s i n (omega arith) in
    let a : newlines (take (i + n) s) ≡ newlines (take i s) = rw t (newlines-append (take i s) (take n (drop i s)) ∙ omega (arith, c)) in
    let l : length (take n (drop i s)) ≡ n = length-take-le n (drop i s) (omega (arith, length-drop i s)) in
    let b : behind 0 (take (i + n) s) ≡ behind 0 (take i s) + n =
    rw t (behind-append 0 (take i s) (take n (drop i s)) ∙ calm-behind (behind 0 (take i s)) (take n (drop i s)) c ∙ omega (arith, l)) in
    line_made _ _ _ _ (omega (arith, a)) (omega (arith, b))

-- one byte on
pub line_on : (s : List ℕ) (i : ℕ) → i < length s → (get_or s i 0 ≡ newline → ⊥) → line_at s (i + 1) ≡ line_at s i
unfolding newlines
line_on s i h e = line-steady s i 1 (omega arith) (rw (drop-cons s i 0) (simp (ne_eqb _ _ e)))

pub line-next : (s : List ℕ) (i : ℕ) → i < length s → get_or s i 0 ≡ newline
    → line_at s (i + 1) ≡ record { number = (line_at s i).number + 1; began = i + 1 }
unfolding line_at newlines behind
line-next s i h e =
    let t : take (i + 1) s ≡ take i s ++ (newline ∷ []) = rw add-one (take-suc s i 0 h ∙ ap (λ (b : ℕ). take i s ++ (b ∷ [])) e) in
    let a : newlines (take (i + 1) s) ≡ newlines (take i s) + 1 = rw t (newlines-append (take i s) (newline ∷ [])) in
    let b : behind 0 (take (i + 1) s) ≡ 0 = rw t (behind-append 0 (take i s) (newline ∷ [])) in
    line_made _ _ _ _ (omega (arith, a)) (omega (arith, b))

-- the beginning of a text
pub line-first : (s : List ℕ) → record { number = 1; began = 0 } ≡ line_at s 0
unfolding line_at newlines behind
line-first s = refl

-- its numbers are small
pub line_small : (s : List ℕ) (i : ℕ) → ((line_at s i).number ≤ i + 1) × ((line_at s i).began ≤ i)
unfolding line_at
line_small s i = (omega (arith, newlines-le (take i s), length-take i s), omega arith)

-- a cursor on its line stands at the place of its offset
pub place_is : (s : List ℕ) (c : Cursor) → c.line ≡ line_at s c.at → place_at c ≡ place_of s c.at
unfolding line_at
place_is s c e =
    let l : behind 0 (take c.at s) ≤ c.at = omega (arith, behind-le 0 (take c.at s), length-take c.at s) in
    let k : c.at - (c.at + 1 - (1 + behind 0 (take c.at s))) + 1 ≡ 1 + behind 0 (take c.at s) = omega arith in
    rw (e, k) refl

-- ---- no token holds a newline

calm-cons : (b : ℕ) (bs : List ℕ) → (b ≡ newline → ⊥) → newlines bs ≡ 0 → newlines (b ∷ bs) ≡ 0
unfolding newlines
calm-cons b bs e h = rw (ne_eqb _ _ e) h

calm-front : (p : ℕ → Bool) → p newline ≡ false → (bs : List ℕ) → newlines (take (front p bs) bs) ≡ 0
unfolding front newlines
calm-front p h [] = refl
calm-front p h (b ∷ bs) = go (p b) refl (calm-front p h bs)
  where
    go : (t : Bool) → p b ≡ t → newlines (take (front p bs) bs) ≡ 0 → newlines (take (front p (b ∷ bs)) (b ∷ bs)) ≡ 0
    go true e k = rw (e, front) (calm-cons b (take (front p bs) bs) (λ z. true-false (p b) e (ap p z ∙ h)) k)
    go false e k = rw (e, front) refl

-- a comment runs up to its newline
pub line-comment : (s : List ℕ) (i : ℕ) → i ≤ length s → line_at s (i + front in_line (drop i s)) ≡ line_at s i
line-comment s i h = line-steady s i (front in_line (drop i s)) (omega (arith, front-le in_line (drop i s), length-drop i s)) (calm-front in_line refl (drop i s))

-- a byte of the class of newlines is no other
pub other-class : (b c : ℕ) → class b ≡ c → (c ≡ class newline → ⊥) → b ≡ newline → ⊥
other-class b c e f z = f (sym e ∙ ap class z)

calm-word : (bs : List ℕ) → newlines (take (front goes_on bs) bs) ≡ 0
unfolding class classes
calm-word bs = calm-front goes_on refl bs

calm-hex : (b : ℕ) (bs : List ℕ) → (b ≡ newline → ⊥) → hex_ahead bs ≡ true → newlines (take (2 + front hex_digit (drop 1 bs)) (b ∷ bs)) ≡ 0
unfolding hex_ahead
calm-hex b [] f e = true-false false e refl
calm-hex b (x ∷ []) f e = true-false false e refl
calm-hex b (x ∷ d ∷ ds) f e =
    let k : 2 + front hex_digit (d ∷ ds) ≡ suc (suc (front hex_digit (d ∷ ds))) = omega arith in
    rw k
    (calm-cons b (x ∷ take (front hex_digit (d ∷ ds)) (d ∷ ds)) f
    (calm-cons x (take (front hex_digit (d ∷ ds)) (d ∷ ds)) (λ z. true-false _ (and_parts (eqb x 120 || eqb x 88) (hex_digit d) e).0 (rw z refl))
    (calm-front hex_digit refl (d ∷ ds))))

-- a byte and the front of those behind it
calm_more : (p : ℕ → Bool) → p newline ≡ false → (b : ℕ) (bs : List ℕ) → (b ≡ newline → ⊥) → newlines (take (1 + front p bs) (b ∷ bs)) ≡ 0
calm_more p h b bs f =
    let k : 1 + front p bs ≡ suc (front p bs) = omega arith in
    rw k (calm-cons b (take (front p bs) bs) f (calm-front p h bs))

calm-integer : (b : ℕ) (bs : List ℕ) → (b ≡ newline → ⊥) → newlines (take (integer_length b bs) (b ∷ bs)) ≡ 0
unfolding integer_length
calm-integer b bs f =
    by-test (λ (n : ℕ). newlines (take n (b ∷ bs)) ≡ 0) (eqb b 48) _ _
    (λ _. by-test (λ (n : ℕ). newlines (take n (b ∷ bs)) ≡ 0) (hex_ahead bs) _ _ (λ e. calm-hex b bs f e) (λ _. calm_more octal_digit refl b bs f))
    (λ _. calm_more digit refl b bs f)

calm-inside : (quote : ℕ) (slashed : Bool) (bs : List ℕ) (n : ℕ) → inside quote slashed bs ≡ some n → newlines (take (n + 1) bs) ≡ 0
unfolding inside newlines
calm-inside quote slashed [] n e = let z : ◌≡◌ {A = ℕ} 0 1 = cc in absurd (omega arith)
calm-inside quote slashed (b ∷ bs) n e = go (calm-inside quote (not slashed && eqb b 92) bs) (eqb b newline) refl
  where
    whole : ((m : ℕ) → inside quote (not slashed && eqb b 92) bs ≡ some m → newlines (take (m + 1) bs) ≡ 0) → eqb b newline ≡ false → newlines (take (n + 1) (b ∷ bs)) ≡ 0
    whole ih f =
        by-test (λ (o : Option ℕ). o ≡ some n → newlines (take (n + 1) (b ∷ bs)) ≡ 0) (eqb b newline || eqb b 0) _ _
        (λ _ e. let z : ◌≡◌ {A = ℕ} 0 1 = cc in absurd (omega arith)) (λ _.
        by-test (λ (o : Option ℕ). o ≡ some n → newlines (take (n + 1) (b ∷ bs)) ≡ 0) (not slashed && eqb b quote) _ _
        (λ _ e. let z : 0 ≡ n = cc in rw (← z, f) refl) (λ _.
        further (inside quote (not slashed && eqb b 92) bs) ih))
        e
      where
        further : (o : Option ℕ) → ((m : ℕ) → o ≡ some m → newlines (take (m + 1) bs) ≡ 0) → one_more o ≡ some n → newlines (take (n + 1) (b ∷ bs)) ≡ 0
        further none ih e = let z : ◌≡◌ {A = ℕ} 0 1 = cc in absurd (omega arith)
        further (some m) ih e =
            let z : suc m ≡ n = cc in
            let k : n + 1 ≡ suc (m + 1) = omega arith in
            rw k (calm-cons b (take (m + 1) bs) (eqb-false b newline f) (ih m refl))

    go : ((m : ℕ) → inside quote (not slashed && eqb b 92) bs ≡ some m → newlines (take (m + 1) bs) ≡ 0) → (t : Bool) → eqb b newline ≡ t → newlines (take (n + 1) (b ∷ bs)) ≡ 0
    go ih true f = let z : none ≡ some n = (rw (f, inside) at e) in let y : ◌≡◌ {A = ℕ} 0 1 = cc in absurd (omega arith)
    go ih false f = whole ih f

-- ---- a scan on the line of its start

abbrev Steady : List ℕ → Line → Scan → Type 0
Steady s l r = on_line l r ≡ step_of s r

module _ (s : List ℕ) (p : Place) (b : ℕ) (bs : List ℕ) (d : drop p.offset s ≡ b ∷ bs) where
  size : p.offset + suc (length bs) ≡ length s
  size = let l : length (drop p.offset s) ≡ suc (length bs) = ap length d in omega (arith, l, length-drop p.offset s)

  steady-token : (kind n : ℕ) → n ≤ suc (length bs) → newlines (take n (b ∷ bs)) ≡ 0 → Steady s (line_at s p.offset) (token_of kind p (p.offset + n))
  steady-token kind n h c = rw (line-steady s p.offset n (omega (arith, size)) (rw d c)) refl

  steady-integer : (b ≡ newline → ⊥) → Steady s (line_at s p.offset) (integer_scan p b bs)
  unfolding integer_scan
  steady-integer f =
      by-test (Steady s (line_at s p.offset)) (runs_on (drop (integer_length b bs) (b ∷ bs))) _ _ (λ _. refl)
      (λ _. steady-token integer_token (integer_length b bs) (integer_length-le b bs) (calm-integer b bs f))

  steady-string : (b ≡ newline → ⊥) → (o : Option ℕ) → ((n : ℕ) → o ≡ some n → (n < length bs) × (newlines (take (n + 1) bs) ≡ 0))
      → Steady s (line_at s p.offset) (string_scan p o)
  steady-string f none h = refl
  steady-string f (some n) h =
      let e : p.offset + n + 2 ≡ p.offset + suc (n + 1) = omega arith in
      rw e (steady-token string_token (suc (n + 1)) (omega (arith, (h n refl).0)) (calm-cons b (take (n + 1) bs) f (h n refl).1))

  steady-name : (b ≡ newline → ⊥) → Steady s (line_at s p.offset) (token_of name_token p (p.offset + 1 + front goes_on bs))
  steady-name f =
      let e : p.offset + 1 + front goes_on bs ≡ p.offset + suc (front goes_on bs) = omega arith in
      rw e (steady-token name_token (suc (front goes_on bs)) (omega (arith, front-le goes_on bs)) (calm-cons b (take (front goes_on bs) bs) f (calm-word bs)))

  steady-symbol : (b ≡ newline → ⊥) → Steady s (line_at s p.offset) (token_of b p (p.offset + 1))
  unfolding newlines
  steady-symbol f = steady-token b 1 (omega arith) (calm-cons b [] f refl)

  steady-cons : Steady s (line_at s p.offset) (scan_from p (b ∷ bs))
  unfolding scan_from class classes
  steady-cons =
      let l = line_at s p.offset in
      by-test (Steady s l) (eqb (class b) letter_class) _ _ (λ e. steady-name (other-class b letter_class (eqb-true _ _ e) (λ z. omega arith))) (λ _.
      by-test (Steady s l) (eqb (class b) digit_class) _ _ (λ e. steady-integer (other-class b digit_class (eqb-true _ _ e) (λ z. omega arith))) (λ _.
      by-test (Steady s l) (eqb (class b) quote_class) _ _
      (λ e. steady-string (other-class b quote_class (eqb-true _ _ e) (λ z. omega arith)) (inside b false bs) (λ n h. (inside-lt b false bs n h, calm-inside b false bs n h))) (λ _.
      by-test (Steady s l) (eqb (class b) symbol_class) _ _ (λ e. steady-symbol (other-class b symbol_class (eqb-true _ _ e) (λ z. omega arith))) (λ _. refl))))

-- the law of the scanner: a cursor that goes on from a token on the line of its start is on its line
pub steady : (s : List ℕ) (p : Place) (bs : List ℕ) → drop p.offset s ≡ bs → on_line (line_at s p.offset) (scan_from p bs) ≡ step_of s (scan_from p bs)
unfolding scan_from
steady s p [] d = refl
steady s p (b ∷ bs) d = steady-cons s p b bs d

-- ---- the newline by its class

pub newline-byte : (b : ℕ) → class b ≡ newline_class → b ≡ newline
newline-byte b e = eqb-true b newline (sym (newline-class b) ∙ eq-eqb (class b) newline_class e)

pub other_byte : (b : ℕ) {c : ℕ} → c ≡ class b → (c ≡ newline_class → ⊥) → b ≡ newline → ⊥
other_byte b e f z = f (e ∙ eqb-true (class b) newline_class (newline-class b ∙ eq-eqb b newline z))

-- ---- a cursor on its line

-- its numbers are small
pub placed : {s : List ℕ} {c : Cursor} → Located s c → Placed c
placed {s = s} {c = c} l = (omega (arith, l.inside, l.short), rw l.line (line_small s c.at).1)

-- a scan from the place behind what separates, as the cursor answers it
pub scanned-on : {s : List ℕ} {c : Cursor} (at : ℕ) → Located s c → c.at ≡ skip s at → on_line c.line (scan_from (place_at c) (drop c.at s)) ≡ step_of s (scan s at)
unfolding scan
scanned-on {s = s} {c = c} at l k = rw (place_is s c l.line, l.line, k) (steady s (place_of s (skip s at)) (drop (skip s at) s) refl)

-- at a byte
module _ {s : List ℕ} {c : Cursor} (l : Located s c) (h : c.at < length s) where
  pub met : Met s c (get_or s c.at 0)
  met = record { inside = h; byte = refl; placed = placed l }

  -- one byte on
  pub located-on : (get_or s c.at 0 ≡ newline → ⊥) → Located s (record { at = c.at + 1; line = c.line })
  located-on f = record { inside = omega arith; short = l.short; line = l.line ∙ sym (line_on s c.at h f) }

  pub located-next : get_or s c.at 0 ≡ newline → Located s (record { at = c.at + 1; line = record { number = c.line.number + 1; began = c.at + 1 } })
  located-next e = record { inside = omega arith; short = l.short; line = rw l.line (sym (line-next s c.at h e)) }

  -- behind a comment that begins with it
  pub located-comment : (get_or s c.at 0 ≡ newline → ⊥) → Located s (record { at = c.at + 1 + front in_line (drop (c.at + 1) s); line = c.line })
  located-comment f =
      record {
        inside = omega (arith, front-le in_line (drop (c.at + 1) s), length-drop (c.at + 1) s);
        short = l.short;
        line = (located-on f).line ∙ sym (line-comment s (c.at + 1) (omega arith));
      }

  -- the next line has a number
  pub numbered : c.line.number ≤ most_text
  numbered = omega (arith, l.short, (line_small s c.at).0, ap (λ (l : Line). l.number) l.line)

  -- a colon right here is the token that a scan finds
  pub colon-on : get_or s c.at 0 ≡ colon → on_line c.line (token_of colon (place_at c) (c.at + 1)) ≡ step_of s (scan s c.at)
  unfolding class classes
  colon-on e =
      let k : symbol_class ≡ class (get_or s c.at 0) = sym (ap class e) in
      ap (on_line c.line) (from-symbol s c colon (record { inside = h; byte = sym e; placed = placed l }) refl refl)
      ∙ scanned-on c.at l (skip-stays s c.at h k refl)
