-- Runs of stores in a lent room: one after another, one more at the end, the last made first, below others, and where there is no room.
use mathlib.Core.Path.{◌≡◌, refl, sym, ap, ◌∙◌}
use Prim.Native.Nat.{ℕ, suc, ◌+◌, ◌≤◌, ◌<◌}
use mathlib.Core.List.{List, [], ◌∷◌, ◌++◌}
use native.Mathlib.Omega.{arith}
use native.Mathlib.Nat.{add-zero}
use lib.ListN.{length, drop, set}
use lib.Seq.{sets, sets-eq, set_out, set_comm}

-- a run of stores, and then the next
pub sets-append : (a b e : List ℕ) (i : ℕ) → sets e i (a ++ b) ≡ sets (sets e i a) (i + length a) b
sets-append [] b e i = rw add-zero refl
sets-append (x ∷ a) b e i =
    let q : suc i + length a ≡ i + suc (length a) = omega arith in
    sets-append a b (set e i x) (suc i) ∙ rw q refl

pub sets-snoc : (a e : List ℕ) (i x : ℕ) → sets e i (a ++ (x ∷ [])) ≡ set (sets e i a) (i + length a) x
sets-snoc a e i x = sets-append a (x ∷ []) e i

-- a store past a run of stores, before it or after
set-sets : (a e : List ℕ) (i j x : ℕ) → i + length a ≤ j → sets (set e j x) i a ≡ set (sets e i a) j x
set-sets [] e i j x h = refl
set-sets (y ∷ a) e i j x h =
    ap (λ (l : List ℕ). sets l (suc i) a) (set_comm e j i x y (λ q. omega (arith, q, h))) ∙ set-sets a (set e i y) (suc i) j x (omega (arith, h))

-- a run of stores whose last is made first
pub sets_last : (a e : List ℕ) (i j x : ℕ) → j ≡ i + length a → sets e i (a ++ (x ∷ [])) ≡ sets (set e j x) i a
sets_last a e i j x q = sets-append a (x ∷ []) e i ∙ rw q (sym (set-sets a e i (i + length a) x (omega arith)))

-- a store below a run of stores, before it or after
set_below : (v e : List ℕ) (i j a : ℕ) → i < j → set (sets e j v) i a ≡ sets (set e i a) j v
set_below [] e i j a h = refl
set_below (x ∷ v) e i j a h = set_below v (set e j x) i (suc j) a (omega arith) ∙ rw (set_comm e j i x a (λ q. omega arith)) refl

-- what is stored below may come first or last
pub sets_below : (n v e : List ℕ) (i j : ℕ) → i + length n ≤ j → sets (sets e j v) i n ≡ sets (sets e i n) j v
sets_below [] v e i j h = refl
sets_below (a ∷ n) v e i j h = rw (set_below v e i j a (omega arith)) (sets_below n v (set e i a) (suc i) j (omega arith))

-- where there is no room
pub sets-out : (a e : List ℕ) (i : ℕ) → length e ≤ i → sets e i a ≡ e
sets-out [] e i h = refl
sets-out (x ∷ a) e i h = rw (set_out e i x h) (sets-out a e (suc i) (omega arith))

-- a run of stores from the front on: it, and then what was there
pub sets-front : (l v : List ℕ) → length v ≤ length l → sets l 0 v ≡ v ++ drop (length v) l
sets-front l v h = let z : 0 + length v ≡ length v = omega arith in sets-eq v l 0 (omega arith) ∙ rw z refl
