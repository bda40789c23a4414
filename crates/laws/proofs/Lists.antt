-- Small laws of tests and lists: two tests at once, lists that are the same, a test over a range or a list, the first index that passes,
-- how many elements of the front pass.
use Prim.Native.Nat.{ℕ, zero, suc, ◌+◌, ◌-◌, ◌≤◌, ◌<◌}
use native.Mathlib.Omega.{arith}
use mathlib.Core.Bool.{Bool, true, false, ◌&&◌, ◌||◌}
use mathlib.Core.Path.{◌≡◌, refl, sym, ap, ap₂, ◌∙◌, subst}
use mathlib.Core.List.{List, [], ◌∷◌, ◌++◌}
use mathlib.Core.Option.{Option, none, some}
use lib.Dec.{eqb, ltb}
use lib.ListN.{length, take, drop, get_or}
use lib.Seq.{get_or-drop, drop-append_seam, take_at}
use borrow.Author.Tests.{ltb-true, ltb-false, eqb-true, eqb-false, eq-eqb}
use Rattle.definitions.specs.Basics.{same, each, all, any, find, part}
use Rattle.definitions.specs.Integers.{front}

-- ---- tests

pub and_parts : (a b : Bool) → a && b ≡ true → (a ≡ true) × (b ≡ true)
and_parts true b e = (refl, e)
and_parts false b e = (cc, cc)

pub and-made : (a b : Bool) → a ≡ true → b ≡ true → a && b ≡ true
and-made a b p q = rw (p, q)

pub or_parts : (a b : Bool) → a || b ≡ false → (a ≡ false) × (b ≡ false)
or_parts true b e = (cc, cc)
or_parts false b e = (refl, e)

pub or-made : (a b : Bool) → a ≡ false → b ≡ false → a || b ≡ false
or-made a b p q = rw (p, q)

pub true-false : {A : Type 0} (a : Bool) → a ≡ true → a ≡ false → A
true-false a p q = let z : ◌≡◌ {A = ℕ} 0 1 = cc in absurd (omega arith)

-- a test that can't be true is false
pub never_true : (a : Bool) → (a ≡ true → ⊥) → a ≡ false
never_true true h = absurd (h refl)
never_true false h = refl

-- ---- `same` is equality

pub same_true : (xs ys : List ℕ) → same xs ys ≡ true → xs ≡ ys
unfolding same
same_true [] [] e = refl
same_true [] (y ∷ ys) e = cc
same_true (x ∷ xs) [] e = cc
same_true (x ∷ xs) (y ∷ ys) e =
    let h = and_parts (eqb x y) (same xs ys) e in
    ap₂ ◌∷◌ (eqb-true x y h.0) (same_true xs ys h.1)

pub same_refl : (xs : List ℕ) → same xs xs ≡ true
unfolding same
same_refl [] = refl
same_refl (x ∷ xs) = and-made (eqb x x) (same xs xs) (eq-eqb x x refl) (same_refl xs)

pub eq-same : (xs ys : List ℕ) → xs ≡ ys → same xs ys ≡ true
eq-same xs ys e = subst (λ (l : List ℕ). same xs l ≡ true) e (same_refl xs)

pub same_false : (xs ys : List ℕ) → same xs ys ≡ false → xs ≡ ys → ⊥
same_false xs ys e q = true-false (same xs ys) (eq-same xs ys q) e

pub ne_same : (xs ys : List ℕ) → (xs ≡ ys → ⊥) → same xs ys ≡ false
ne_same xs ys h = never_true (same xs ys) (λ e. h (same_true xs ys e))

-- ---- `all`: a test passes at each number below n

pub all-at : (n : ℕ) (p : ℕ → Bool) → all n p ≡ true → (k : ℕ) → k < n → p k ≡ true
unfolding all
all-at zero p e k h = absurd (omega arith)
all-at (suc n) p e k h = go (all-at n p (and_parts (all n p) (p n) e).0 k) (eqb k n) refl
  where
    go : (k < n → p k ≡ true) → (t : Bool) → eqb k n ≡ t → p k ≡ true
    go ih true q = rw (eqb-true k n q) (and_parts (all n p) (p n) e).1
    go ih false q = let ne = eqb-false k n q in ih (omega arith)

pub all_made : (n : ℕ) (p : ℕ → Bool) → ((k : ℕ) → k < n → p k ≡ true) → all n p ≡ true
unfolding all
all_made zero p h = refl
all_made (suc n) p h = and-made (all n p) (p n) (all_made n p (λ k l. h k (omega arith))) (h n (omega arith))

-- where it fails, it fails at one of them: at any counterexample
pub all-fails : (n : ℕ) (p : ℕ → Bool) (k : ℕ) → k < n → p k ≡ false → all n p ≡ false
all-fails n p k h e = never_true (all n p) (λ t. true-false (p k) (all-at n p t k h) e)

-- ---- `any`: a test passes at some number below n

pub any_at : (n : ℕ) (p : ℕ → Bool) → any n p ≡ false → (k : ℕ) → k < n → p k ≡ false
unfolding any
any_at zero p e k h = absurd (omega arith)
any_at (suc n) p e k h = go (any_at n p (or_parts (any n p) (p n) e).0 k) (eqb k n) refl
  where
    go : (k < n → p k ≡ false) → (t : Bool) → eqb k n ≡ t → p k ≡ false
    go ih true q = rw (eqb-true k n q) (or_parts (any n p) (p n) e).1
    go ih false q = let ne = eqb-false k n q in ih (omega arith)

pub any_none : (n : ℕ) (p : ℕ → Bool) → ((k : ℕ) → k < n → p k ≡ false) → any n p ≡ false
unfolding any
any_none zero p h = refl
any_none (suc n) p h = or-made (any n p) (p n) (any_none n p (λ k l. h k (omega arith))) (h n (omega arith))

pub any_some : (n : ℕ) (p : ℕ → Bool) → any n p ≡ true → (k : ℕ) × (k < n) × (p k ≡ true)
unfolding any
any_some zero p e = absurd (true-false false e refl)
any_some (suc n) p e = go (any_some n p) (any n p) refl
  where
    go : (any n p ≡ true → (k : ℕ) × (k < n) × (p k ≡ true)) → (t : Bool) → any n p ≡ t → (k : ℕ) × (k < suc n) × (p k ≡ true)
    go ih true q = let f = ih q in (f.0, omega arith, f.2)
    go ih false q = (n, omega arith, rw q at e)

pub any-made : (n : ℕ) (p : ℕ → Bool) (k : ℕ) → k < n → p k ≡ true → any n p ≡ true
any-made n p k h e = go (any n p) refl
  where
    go : (t : Bool) → any n p ≡ t → any n p ≡ true
    go true q = q
    go false q = true-false (p k) e (any_at n p q k h)

-- ---- `find`: the first of n indices from i on that passes

pub record Found (p : ℕ → Bool) (i n k : ℕ) : Type 0 where
  pub from : i ≤ k
  pub below : k < i + n
  pub passes : p k ≡ true
  pub before : (j : ℕ) → i ≤ j → j < k → p j ≡ false

pub none-some : {A : Type 0} (k : ℕ) → ◌≡◌ {A = Option ℕ} none (some k) → A
none-some k e = let z : ◌≡◌ {A = ℕ} 0 1 = cc in absurd (omega arith)

pub find-some : (p : ℕ → Bool) (i n k : ℕ) → find p i n ≡ some k → Found p i n k
unfolding find
find-some p i zero k e = none-some k e
find-some p i (suc n) k e = go (p i) refl (find-some p (i + 1) n k)
  where
    go : (t : Bool) → p i ≡ t → (find p (i + 1) n ≡ some k → Found p (i + 1) n k) → Found p i (suc n) k
    go true q ih =
        let here : i ≡ k = cc (rw (q, find) at e) in
        record { from = omega arith; below = omega arith; passes = rw (← here) q; before = λ j l h. absurd (omega arith) }
    go false q ih =
        let f = ih (rw (q, find) at e) in
        record { from = omega (arith, f.from); below = omega (arith, f.below); passes = f.passes; before = λ j l h. past f j l h (eqb j i) refl }
      where
        past : Found p (i + 1) n k → (j : ℕ) → i ≤ j → j < k → (t : Bool) → eqb j i ≡ t → p j ≡ false
        past f j l h true s = rw (eqb-true j i s) q
        past f j l h false s = let ne = eqb-false j i s in f.before j (omega arith) h

pub find_none : (p : ℕ → Bool) (i n : ℕ) → find p i n ≡ none → (j : ℕ) → i ≤ j → j < i + n → p j ≡ false
unfolding find
find_none p i zero e j l h = absurd (omega arith)
find_none p i (suc n) e j l h = go (p i) refl (find_none p (i + 1) n)
  where
    go : (t : Bool) → p i ≡ t → (find p (i + 1) n ≡ none → (j : ℕ) → i + 1 ≤ j → j < i + 1 + n → p j ≡ false) → p j ≡ false
    go true q ih = none-some i (sym (rw (q, find) at e))
    go false q ih = past (eqb j i) refl
      where
        past : (t : Bool) → eqb j i ≡ t → p j ≡ false
        past true s = rw (eqb-true j i s) q
        past false s = let ne = eqb-false j i s in ih (rw (q, find) at e) j (omega arith) (omega arith)

-- and back: the first that passes is found
pub found-find : (p : ℕ → Bool) (i n k : ℕ) → Found p i n k → find p i n ≡ some k
found-find p i n k f = go (find p i n) refl
  where
    go : (o : Option ℕ) → find p i n ≡ o → find p i n ≡ some k
    go none e = true-false (p k) f.passes (find_none p i n e k f.from f.below)
    go (some j) e = meet (find-some p i n j e) (eqb j k) refl
      where
        meet : Found p i n j → (t : Bool) → eqb j k ≡ t → find p i n ≡ some k
        meet g true s = e ∙ ap some (eqb-true j k s)
        meet g false s = apart g (ltb j k) refl
          where
            apart : Found p i n j → (t : Bool) → ltb j k ≡ t → find p i n ≡ some k
            apart g true h = true-false (p j) g.passes (f.before j g.from (ltb-true j k h))
            apart g false h =
                let ne = eqb-false j k s in
                let le = ltb-false j k h in
                true-false (p k) f.passes (g.before k f.from (omega arith))

pub find-not : (p : ℕ → Bool) (i n : ℕ) → ((j : ℕ) → i ≤ j → j < i + n → p j ≡ false) → find p i n ≡ none
find-not p i n h = go (find p i n) refl
  where
    go : (o : Option ℕ) → find p i n ≡ o → find p i n ≡ none
    go none e = e
    go (some k) e = let f = find-some p i n k e in true-false (p k) f.passes (h k f.from f.below)

-- ---- `each`: a test passes at each element

pub each_append : (p : ℕ → Bool) (xs ys : List ℕ) → each p xs ≡ true → each p ys ≡ true → each p (xs ++ ys) ≡ true
unfolding each
each_append p [] ys h k = k
each_append p (x ∷ xs) ys h k =
    let e = and_parts (p x) (each p xs) h in
    and-made (p x) (each p (xs ++ ys)) e.0 (each_append p xs ys e.1 k)

pub each_at : (p : ℕ → Bool) (xs : List ℕ) → each p xs ≡ true → (k : ℕ) → k < length xs → p (get_or xs k 0) ≡ true
unfolding each
each_at p [] e k h = absurd (omega arith)
each_at p (x ∷ xs) e zero h = (and_parts (p x) (each p xs) e).0
each_at p (x ∷ xs) e (suc k) h = each_at p xs (and_parts (p x) (each p xs) e).1 k (omega arith)

pub each-made : (p : ℕ → Bool) (xs : List ℕ) → ((k : ℕ) → k < length xs → p (get_or xs k 0) ≡ true) → each p xs ≡ true
unfolding each
each-made p [] h = refl
each-made p (x ∷ xs) h = and-made (p x) (each p xs) (h 0 (omega arith)) (each-made p xs (λ k l. h (suc k) (omega arith)))

-- a weaker test passes too
pub each_map : (p q : ℕ → Bool) → ((b : ℕ) → p b ≡ true → q b ≡ true) → (xs : List ℕ) → each p xs ≡ true → each q xs ≡ true
unfolding each
each_map p q h [] e = refl
each_map p q h (x ∷ xs) e =
    let f = and_parts (p x) (each p xs) e in
    and-made (q x) (each q xs) (h x f.0) (each_map p q h xs f.1)

-- ---- `front`: how many elements at the front pass

pub front-le : (p : ℕ → Bool) (xs : List ℕ) → front p xs ≤ length xs
unfolding front
front-le p [] = omega arith
front-le p (x ∷ xs) = go (p x) refl (front-le p xs)
  where
    go : (t : Bool) → p x ≡ t → front p xs ≤ length xs → front p (x ∷ xs) ≤ suc (length xs)
    go true e h = rw (e, front) (omega arith)
    go false e h = rw (e, front) (omega arith)

-- a list that is empty or begins with an element that fails
abbrev pub Stops : (ℕ → Bool) → List ℕ → Type 0
Stops p [] = Unit {0}
Stops p (x ∷ xs) = p x ≡ false

pub front-stops : (p : ℕ → Bool) (r : List ℕ) → Stops p r → front p r ≡ 0
unfolding front
front-stops p [] s = refl
front-stops p (b ∷ bs) s = rw (s, front)

-- elements that all pass, up to one that fails
pub front-each : (p : ℕ → Bool) (xs r : List ℕ) → each p xs ≡ true → Stops p r → front p (xs ++ r) ≡ length xs
unfolding front each
front-each p [] [] h s = refl
front-each p [] (b ∷ bs) h s = rw (s, front)
front-each p (x ∷ xs) r h s =
    let e = and_parts (p x) (each p xs) h in
    rw (e.0, front) (ap suc (front-each p xs r e.1 s))

-- the front is what passes
pub front-passes : (p : ℕ → Bool) (s : List ℕ) → each p (take (front p s) s) ≡ true
unfolding front each
front-passes p [] = refl
front-passes p (b ∷ bs) = go (p b) refl (front-passes p bs)
  where
    go : (t : Bool) → p b ≡ t → each p (take (front p bs) bs) ≡ true → each p (take (front p (b ∷ bs)) (b ∷ bs)) ≡ true
    go true e h = rw (e, front) (and-made (p b) (each p (take (front p bs) bs)) e h)
    go false e h = rw (e, front) refl

-- ---- bytes: each element is below 256, as what is known of a slice of bytes says it

abbrev pub AreBytes : List ℕ → Type 0
AreBytes xs = (i : ℕ) → get_or xs i 0 < 256

pub bytes-head : (b : ℕ) (bs : List ℕ) → AreBytes (b ∷ bs) → b < 256
bytes-head b bs h = h 0

pub bytes-tail : (b : ℕ) (bs : List ℕ) → AreBytes (b ∷ bs) → AreBytes bs
bytes-tail b bs h i = h (suc i)

pub bytes-nil : AreBytes []
bytes-nil i = omega arith

pub bytes-cons : (b : ℕ) (bs : List ℕ) → b < 256 → AreBytes bs → AreBytes (b ∷ bs)
bytes-cons b bs h k zero = h
bytes-cons b bs h k (suc i) = k i

pub bytes_drop : (n : ℕ) (bs : List ℕ) → AreBytes bs → AreBytes (drop n bs)
bytes_drop n bs h i = rw get_or-drop (h (n + i))

pub bytes-append : (xs ys : List ℕ) → AreBytes xs → AreBytes ys → AreBytes (xs ++ ys)
bytes-append [] ys h k = k
bytes-append (x ∷ xs) ys h k = bytes-cons x (xs ++ ys) (bytes-head x xs h) (bytes-append xs ys (bytes-tail x xs h) k)

-- ---- `part`: from one place up to another

-- a list between two others
pub part-middle : (a m r : List ℕ) → part (a ++ (m ++ r)) (length a) (length a + length m) ≡ m
part-middle a m r = rw (drop-append_seam a (m ++ r)) (take_at m r (length a + length m - length a) (omega arith))
