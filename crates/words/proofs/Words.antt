-- Words: how long a bad token is; where a token begins and how far its word reaches, as the scanner answers it.
use mathlib.Core.Path.{◌≡◌, refl, sym, ◌∙◌, ap}
use Prim.Native.Nat.{ℕ, ◌+◌, ◌≤◌, ◌<◌}
use mathlib.Core.Bool.{false}
use mathlib.Core.List.{List, [], ◌∷◌}
use mathlib.Core.Option.{Option, none, some}
use native.Mathlib.Omega.{arith}
use native.Mathlib.Numerals.{add-one}
use lib.Dec.{eqb}
use lib.ListN.{length, get_or, drop, length-drop}
use lib.Seq.{drop-cons}
use borrow.Author.Tests.{le-leb, lt-leb}
use Rattle.std.specs.Prelude.{Result, Ok, Err}
use Rattle.definitions.specs.declared.Refused.{Refused}
use Rattle.definitions.specs.declared.Place.{Place}
use Rattle.definitions.specs.declared.Token.{Token}
use Rattle.definitions.specs.Basics.{part}
use Rattle.definitions.specs.Classes.{class, quote_class, symbol_class, digit_class, letter_class}
use Rattle.definitions.specs.Integers.{front, integer_length, runs_on}
use Rattle.definitions.specs.Places.{place_of}
use Rattle.definitions.specs.Refusals.{most_text, bad_token}
use Rattle.definitions.specs.Refused.{refused_as}
use Rattle.definitions.specs.Tokens.{Scan, token, bad, inside, integer_scan, string_scan, scan_from, skip, scan}
use Rattle.laws.proofs.Lists.{front-le}
use Rattle.laws.proofs.Reach.{by-test, by-scan}
use Rattle.lexer.specs.declared.tokens.Cursor.{Cursor}
use Rattle.lexer.specs.Steps.{step_of}
use Rattle.words.specs.Words.{goes_with, bad_length, token_end, word_end, word}

-- ---- a bad token

-- a bad token is its first byte and what goes on it
pub bad-is : (s : List ℕ) (i : ℕ) → i < length s → i + 1 + front (goes_with (get_or s i 0)) (drop (i + 1) s) ≡ i + bad_length (drop i s)
unfolding bad_length
bad-is s i h = rw (drop-cons s i 0) (simp add-one (omega arith))

bad-le : (bs : List ℕ) → bad_length bs ≤ length bs
unfolding bad_length
bad-le [] = omega arith
bad-le (b ∷ bs) = omega (arith, front-le (goes_with b) bs)

-- ---- where a token begins

abbrev start_of : Scan → ℕ
start_of (token t next) = t.start.offset
start_of (bad p) = p.offset

abbrev Begins : Place → Scan → Type 0
Begins p r = start_of r ≡ p.offset

begins-string : (p : Place) (o : Option ℕ) → Begins p (string_scan p o)
begins-string p none = refl
begins-string p (some n) = refl

begins : (p : Place) (bs : List ℕ) → Begins p (scan_from p bs)
unfolding scan_from integer_scan
begins p [] = refl
begins p (b ∷ bs) =
    by-test (Begins p) (eqb (class b) letter_class) _ _ (λ _. refl) (λ _.
    by-test (Begins p) (eqb (class b) digit_class) _ _
    (λ _. by-test (Begins p) (runs_on (drop (integer_length b bs) (b ∷ bs))) _ _ (λ _. refl) (λ _. refl)) (λ _.
    by-test (Begins p) (eqb (class b) quote_class) _ _ (λ _. begins-string p (inside b false bs)) (λ _.
    by-test (Begins p) (eqb (class b) symbol_class) _ _ (λ _. refl) (λ _. refl))))

starts : (s : List ℕ) (at : ℕ) → start_of (scan s at) ≡ skip s at
unfolding scan
starts s at = begins (place_of s (skip s at)) (drop (skip s at) s)

-- ---- as the scanner answers it

-- the places of a step's word
abbrev step_from : Result (Token × Cursor) Refused → ℕ
step_from (Ok t) = t.0.start.offset
step_from (Err r) = r.at.offset

abbrev step_to : List ℕ → Result (Token × Cursor) Refused → ℕ
step_to s (Ok t) = t.1.at
step_to s (Err r) = r.at.offset + bad_length (drop r.at.offset s)

module _ (s : List ℕ) (at : ℕ) where
  step_places : (step_from (step_of s (scan s at)) ≡ skip s at) × (step_to s (step_of s (scan s at)) ≡ word_end s at)
  unfolding word_end token_end
  step_places = go (scan s at) (starts s at)
    where
      go : (r : Scan) → start_of r ≡ skip s at → (step_from (step_of s r) ≡ skip s at) × (step_to s (step_of s r) ≡ token_end s r)
      go (token t n) h = (h, refl)
      go (bad p) h = (h, refl)

  module _ (st : Result (Token × Cursor) Refused) (e : st ≡ step_of s (scan s at)) where
    pub token-part : (t : Token × Cursor) → st ≡ Ok t → (t.0.start.offset ≡ skip s at) × (t.1.at ≡ word_end s at)
    token-part t g = (ap step_from (sym g ∙ e) ∙ step_places.0, ap (step_to s) (sym g ∙ e) ∙ step_places.1)

    pub bad-part : (r : Refused) (end : ℕ) → st ≡ Err r → end ≡ r.at.offset + bad_length (drop r.at.offset s) → (r.at.offset ≡ skip s at) × (end ≡ word_end s at)
    bad-part r end g k = (ap step_from (sym g ∙ e) ∙ step_places.0, k ∙ ap (step_to s) (sym g ∙ e) ∙ step_places.1)

  module _ (h : at ≤ length s) where
    -- a bad token's first byte is there
    pub bad-inside : (r : Refused) → step_of s (scan s at) ≡ Err r → r.at.offset < length s
    bad-inside r =
        by-scan (λ (st : Result (Token × Cursor) Refused). st ≡ Err r → r.at.offset < length s) s at h (step_of s)
        (λ p x e. let z : refused_as bad_token p ≡ r = cc in rw (← z) x.within)
        (λ t n x e. cc)

    -- a word lies inside the text
    word-within : (skip s at ≤ word_end s at) × (word_end s at ≤ length s)
    unfolding word_end token_end
    word-within =
        let z =
        by-scan (λ (r : Scan). (start_of r ≤ token_end s r) × (token_end s r ≤ length s)) s at h (λ r. r)
        (λ p x. (omega arith, omega (arith, x.within, bad-le (drop p.offset s), length-drop p.offset s)))
        (λ t n x. (x.start, x.within)) in
        (rw (starts s at) at z.0, z.1)

-- ---- the word

module _ (s : List ℕ) (at : ℕ) where
  pub word-long : most_text < length s → [] ≡ word s at
  unfolding word
  word-long h = simp (lt-leb (length s) most_text h)

  pub word-past : length s ≤ most_text → length s < at → [] ≡ word s at
  unfolding word
  word-past h k = simp (le-leb (length s) most_text h, lt-leb at (length s) k)

  -- from the offset a up to the offset e
  module _ {a e : ℕ} (p : a ≡ skip s at) (q : e ≡ word_end s at) (k : at ≤ length s) where
    pub word-inside : (a ≤ e) × (e ≤ length s)
    word-inside = rw (p, q) (word-within s at k)

    pub word-there : length s ≤ most_text → part s a e ≡ word s at
    unfolding word
    word-there h = rw (p, q) (simp (le-leb (length s) most_text h, le-leb at (length s) k))
