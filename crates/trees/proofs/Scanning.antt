-- Scanning a text that goes on with what print writes: blanks, names, symbols, and what a token leaves.
use Prim.Native.Nat.{ℕ, suc, ◌+◌, ◌-◌}
use native.Mathlib.Omega.{arith}
use mathlib.Core.Path.{◌≡◌, refl, sym, ap, ◌∙◌}
use mathlib.Core.Bool.{Bool, true, false, ◌||◌}
use mathlib.Core.List.{List, [], ◌∷◌, ◌++◌}
use lib.Dec.{eqb}
use lib.ListN.{length, drop}
use lib.Seq.{drop-drop, drop-append_seam, take-append_seam}
use borrow.Author.Tests.{eqb-true}
use Rattle.definitions.specs.declared.Place.{Place}
use Rattle.definitions.specs.Basics.{each, part}
use Rattle.definitions.specs.Image.{letter, word, identifier}
use Rattle.definitions.specs.Classes.{class, classes, goes_on, letter_class}
use Rattle.definitions.specs.Integers.{front, runs_on}
use Rattle.definitions.specs.Places.{place_of}
use Rattle.definitions.specs.Tokens.{token_of, gap, skip, scan, scan_from, name_token, end_of_text}
use Rattle.laws.proofs.Lists.{and_parts, and-made, or_parts, Stops, front-each}
use Rattle.laws.proofs.ClassTable.{letter-class, goes_on-word}

-- ---- what stands before a token: spaces and newlines

abbrev pub blank : ℕ → Bool
blank b = eqb b 32 || eqb b 10

blank-one : (b : ℕ) → blank b ≡ true → (eqb (class b) 5 || eqb (class b) 4) ≡ true
unfolding class classes
blank-one b e = go (eqb b 32) refl
  where
    go : (t : Bool) → eqb b 32 ≡ t → (eqb (class b) 5 || eqb (class b) 4) ≡ true
    go true q = rw (eqb-true b 32 q)
    go false q = rw (eqb-true b 10 (rw q at e))

pub gap-blanks : (g r : List ℕ) → each blank g ≡ true → gap false r ≡ 0 → gap false (g ++ r) ≡ length g
unfolding each gap
gap-blanks [] r e z = z
gap-blanks (b ∷ g) r e z =
    let h = and_parts (blank b) (each blank g) e in
    rw (blank-one b h.0, gap) (ap suc (gap-blanks g r h.1 z))

-- ---- from a place on

pub drop-on : (s p r : List ℕ) (at : ℕ) → drop at s ≡ p ++ r → drop (at + length p) s ≡ r
drop-on s p r at e = sym (drop-drop (length p) at s) ∙ ap (drop (length p)) e ∙ drop-append_seam p r

pub scan-past : (s g r : List ℕ) (at : ℕ) → drop at s ≡ g ++ r → each blank g ≡ true → gap false r ≡ 0
    → scan s at ≡ scan_from (place_of s (at + length g)) r
unfolding scan skip
scan-past s g r at e b z =
    let n : gap false (drop at s) ≡ length g = ap (gap false) e ∙ gap-blanks g r b z in
    rw (n, drop-on s g r at e)

pub part-is : (s p r : List ℕ) (at : ℕ) → drop at s ≡ p ++ r → part s at (at + length p) ≡ p
part-is s p r at e =
    let n : at + length p - at ≡ length p = omega arith in
    rw (n, e) (take-append_seam p r)

-- ---- tokens

-- what follows neither goes on a name nor runs on an integer
pub stops-name : (r : List ℕ) → runs_on r ≡ false → Stops goes_on r
unfolding runs_on
stops-name [] e = tt
stops-name (b ∷ r) e = (or_parts (goes_on b) (eqb b 46) e).0

each-goes-on : (bs : List ℕ) → each word bs ≡ true → each goes_on bs ≡ true
unfolding each
each-goes-on [] e = refl
each-goes-on (b ∷ bs) e =
    let h = and_parts (word b) (each word bs) e in
    and-made (goes_on b) (each goes_on bs) (goes_on-word b ∙ h.0) (each-goes-on bs h.1)

pub scan-name : (p : Place) (n r : List ℕ) → identifier n ≡ true → runs_on r ≡ false
    → scan_from p (n ++ r) ≡ token_of name_token p (p.offset + length n)
unfolding identifier scan_from
scan-name p [] r i e = let z : ◌≡◌ {A = ℕ} 0 1 = cc in absurd (omega arith)
scan-name p (b ∷ bs) r i e =
    let h = and_parts (letter b) (each word bs) i in
    let c : class b ≡ letter_class = eqb-true (class b) letter_class (letter-class b ∙ h.0) in
    let f : front goes_on (bs ++ r) ≡ length bs = front-each goes_on bs r (each-goes-on bs h.1) (stops-name r e) in
    let n : p.offset + 1 + length bs ≡ p.offset + suc (length bs) = omega arith in
    rw (c, f, n)

pub gap-name : (n r : List ℕ) → identifier n ≡ true → gap false (n ++ r) ≡ 0
unfolding identifier gap
gap-name [] r i = let z : ◌≡◌ {A = ℕ} 0 1 = cc in absurd (omega arith)
gap-name (b ∷ bs) r i =
    let h = and_parts (letter b) (each word bs) i in
    let c : class b ≡ letter_class = eqb-true (class b) letter_class (letter-class b ∙ h.0) in
    rw c

-- a name, with blanks before it
pub name-at : (s g n r : List ℕ) (at : ℕ) → drop at s ≡ g ++ (n ++ r) → each blank g ≡ true → identifier n ≡ true → runs_on r ≡ false
    → scan s at ≡ token_of name_token (place_of s (at + length g)) (at + length g + length n)
name-at s g n r at e b i k = scan-past s g (n ++ r) at e b (gap-name n r i) ∙ scan-name (place_of s (at + length g)) n r i k

-- a symbol of print, with blanks before it
pub symbol-at : (s g r : List ℕ) (at c : ℕ) → drop at s ≡ g ++ (c ∷ r) → each blank g ≡ true → class c ≡ 8
    → scan s at ≡ token_of c (place_of s (at + length g)) (at + length g + 1)
unfolding gap scan_from
symbol-at s g r at c e b h = scan-past s g (c ∷ r) at e b (rw h) ∙ rw h

-- the end, with blanks before it
pub end-at : (s g : List ℕ) (at : ℕ) → drop at s ≡ g ++ [] → each blank g ≡ true
    → scan s at ≡ token_of end_of_text (place_of s (at + length g)) (at + length g)
unfolding gap scan_from
end-at s g at e b = scan-past s g [] at e b refl
