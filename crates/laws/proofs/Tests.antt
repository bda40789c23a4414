-- Laws of the tests that loops go by: two tests and five, each number below a bound, the first that passes, running totals, each element from a
-- place on, how many elements from a place on pass.
use mathlib.Core.Path.{◌≡◌, refl, sym}
use Prim.Native.Nat.{ℕ, zero, suc, ◌+◌, ◌-◌, ◌≤◌, ◌<◌}
use mathlib.Core.Bool.{Bool, true, false, ◌&&◌, ◌||◌, not}
use mathlib.Core.List.{List}
use mathlib.Core.Option.{none, some}
use native.Mathlib.Omega.{arith}
use native.Mathlib.Numerals.{add-one}
use lib.Dec.{eqb}
use lib.ListN.{length, get_or, drop, drop_of_length-le}
use lib.Seq.{drop-cons}
use borrow.Author.Tests.{ne_eqb, eqb-true}
use mathlib.Core.Logic.{⊎_elim}
use native.Mathlib.Nat.{eq-or-lt_of_le, le_refl}
use Rattle.definitions.specs.Basics.{each, all, find}
use Rattle.definitions.specs.Integers.{front}
use Rattle.definitions.specs.declared.Span.{Span}
use Rattle.definitions.specs.Image.{total, running}
use Rattle.laws.proofs.Lists.{and_parts, and-made, all-at, all-fails}

-- ---- a truth value

pub and_left : (a b : Bool) → (a && b) ≡ true → a ≡ true
and_left a b e = (and_parts a b e).0

pub and_right : (a b : Bool) → (a && b) ≡ true → b ≡ true
and_right a b e = (and_parts a b e).1

pub and-false-right : (a b : Bool) → b ≡ false → (a && b) ≡ false
and-false-right true b e = e
and-false-right false b e = refl

pub and-false-left : (a b : Bool) → a ≡ false → (a && b) ≡ false
and-false-left a b e = rw e refl

-- five tests: one fails, or all but the last pass
module _ (a b c d e : Bool) where
  pub five-first : a ≡ false → (a && b && c && d && e) ≡ false
  five-first h = rw h refl

  pub five-second : b ≡ false → (a && b && c && d && e) ≡ false
  five-second h = rw (and-false-right a b h) refl

  pub five-third : c ≡ false → (a && b && c && d && e) ≡ false
  five-third h = rw (and-false-right (a && b) c h) refl

  pub five-fourth : d ≡ false → (a && b && c && d && e) ≡ false
  five-fourth h = rw (and-false-right (a && b && c) d h) refl

  pub five-last : a ≡ true → b ≡ true → c ≡ true → d ≡ true → e ≡ (a && b && c && d && e)
  five-last p q r t = rw (p, q, r, t) refl

-- ---- a test at each number below a bound

pub all_start : (p : ℕ → Bool) → all 0 p ≡ true
unfolding all
all_start p = refl

pub all_more : (i : ℕ) (p : ℕ → Bool) → all i p ≡ true → p i ≡ true → all (i + 1) p ≡ true
unfolding all
all_more i p e f = rw add-one (and-made (all i p) (p i) e f)

pub all_done : {n i : ℕ} (p : ℕ → Bool) → i ≡ n → all i p ≡ true → true ≡ all n p
all_done p e h = rw (← e) (sym h)

-- ---- the first number that passes, of those from i up to an end

pub find-hit : (p : ℕ → Bool) (i end : ℕ) → i < end → p i ≡ true → find p i (end - i) ≡ some i
unfolding find
find-hit p i end h e =
    let l : end - i ≡ suc (end - (i + 1)) = omega arith in
    rw (l, e) refl

pub find-miss : (p : ℕ → Bool) (i end : ℕ) → i < end → p i ≡ false → find p (i + 1) (end - (i + 1)) ≡ find p i (end - i)
unfolding find
find-miss p i end h e =
    let l : end - i ≡ suc (end - (i + 1)) = omega arith in
    rw (l, e) refl

pub find-end : (p : ℕ → Bool) (i end : ℕ) → end ≤ i → find p i (end - i) ≡ none
unfolding find
find-end p i end h =
    let l : end - i ≡ 0 = omega arith in
    rw l refl

-- ---- running totals

pub total-step : (f : ℕ → Span) (i : ℕ) → total f (i + 1) ≡ total f i + (f i).count
unfolding total
total-step f i = rw add-one refl

total-last : (f : ℕ → Span) (i n : ℕ) → (i < n → total f i + (f i).count ≤ total f n) → i < suc n → total f i + (f i).count ≤ total f n + (f n).count
total-last f i n h l = ⊎_elim (λ e. rw e (le_refl _)) (λ k. omega (arith, h k)) (eq-or-lt_of_le (omega arith))

pub total_inside : (f : ℕ → Span) (n i : ℕ) → i < n → total f i + (f i).count ≤ total f n
unfolding total
total_inside f zero i h = absurd (omega arith)
total_inside f (suc n) i h = total-last f i n (total_inside f n i) h

pub running-inside : (f : ℕ → Span) (n size : ℕ) → running f n size ≡ true → (i : ℕ) → i < n → (f i).first + (f i).count ≤ size
unfolding running
running-inside f n size e i h =
    let p : (f i).first ≡ total f i = eqb-true (f i).first (total f i) (all-at n (λ j. eqb (f j).first (total f j)) (and_left (all n (λ j. eqb (f j).first (total f j))) (eqb (total f n) size) e) i h) in
    let q : total f n ≡ size = eqb-true (total f n) size (and_right (all n (λ j. eqb (f j).first (total f j))) (eqb (total f n) size) e) in
    omega (arith, total_inside f n i h)

module _ (f : ℕ → Span) where
  -- the runs before i begin at running totals
  abbrev pub begins : ℕ → Bool
  begins i = eqb (f i).first (total f i)

  pub running-fails : (n size i : ℕ) → i < n → ((f i).first ≡ total f i → ⊥) → running f n size ≡ false
  unfolding running
  running-fails n size i h d = rw (all-fails n begins i h (ne_eqb (f i).first (total f i) d)) refl

  pub running-done : (n size t : ℕ) → all n begins ≡ true → t ≡ total f n → eqb t size ≡ running f n size
  unfolding running
  running-done n size t e h = rw (e, h) refl

-- ---- a test at each element, from a place on

module _ (p : ℕ → Bool) (s : List ℕ) (i : ℕ) where
  pub each_next : i < length s → p (get_or s i 0) ≡ true → each p (drop (i + 1) s) ≡ each p (drop i s)
  unfolding each
  each_next h e = rw (add-one, drop-cons s i 0) (simp e)

  pub each-fails : i < length s → p (get_or s i 0) ≡ false → each p (drop i s) ≡ false
  unfolding each
  each-fails h e = rw (drop-cons s i 0) (simp e)

  pub each-end : length s ≤ i → each p (drop i s) ≡ true
  unfolding each
  each-end h = rw (drop_of_length-le s h) refl

-- ---- two records agree in one way or another, or in none

module _ (a b : Bool) where
  pub agree-first : a ≡ true → not (a || b) ≡ false
  agree-first h = rw h refl

  pub agree-second : b ≡ true → not (a || b) ≡ false
  agree-second h = go a
    where
      go : (x : Bool) → not (x || b) ≡ false
      go true = refl
      go false = rw h refl

  pub agree-neither : a ≡ false → b ≡ false → not (a || b) ≡ true
  agree-neither h k = rw (h, k) refl

-- ---- how many elements from a place on pass

pub front-on : (p : ℕ → Bool) (s : List ℕ) (i : ℕ) → i < length s → p (get_or s i 0) ≡ true
    → i + 1 + front p (drop (i + 1) s) ≡ i + front p (drop i s)
unfolding front
front-on p s i h e = rw (drop-cons s i 0) (simp (e, add-one) (omega arith))

pub front-stop : (p : ℕ → Bool) (s : List ℕ) (i : ℕ) → i < length s → p (get_or s i 0) ≡ false → i ≡ i + front p (drop i s)
unfolding front
front-stop p s i h e = rw (drop-cons s i 0) (simp e (omega arith))

pub front-end : (p : ℕ → Bool) (s : List ℕ) (i : ℕ) → length s ≤ i → i ≡ i + front p (drop i s)
unfolding front
front-end p s i h = rw (drop_of_length-le s h) (omega arith)
