-- What the library's searches over a range find, and its tests over all of a range, in the words of the definitions.
use mathlib.Core.List.{List, [], ◌∷◌}
use mathlib.Core.Path.{◌≡◌, refl, sym, ◌∙◌, ap, subst}
use Prim.Native.Nat.{ℕ, zero, suc, ◌+◌, ◌≤◌, ◌<◌}
use mathlib.Core.Bool.{Bool, true, false}
use mathlib.Core.Option.{Option, none, some}
use native.Mathlib.Omega.{arith}
use Rattle.definitions.specs.Basics.{find, all, each}
use Rattle.records.specs.Known.{option_of}
use Rattle.std.specs.Prelude as code
use Rattle.std.specs.Prelude.{MatchOption, get_or, length}
use Rattle.std.proofs.lemmas.Iterator.{cases_from_all, YieldsList-from_range, YieldsList-from_slice}
use Rattle.std.proofs.lemmas.List.FromFn.{length-range_with_len, get_or-range_with_len}
use Rattle.std.proofs.iter.Yields.{nat_range_steps, fronts}
use Rattle.std.specs.Bool.{MatchBool}
use Rattle.std.specs.Fn.{Called}
use Rattle.std.specs.Iterator.{YieldsThen}
use Rattle.std.specs.List.{range_with_len, FoldsTo, AllWithin, HoldsAt}
use Rattle.std.specs.declared.ops.Range.{Range}
use Rattle.std.proofs.Common.{Iter}
use Rattle.std.specs.Slice.Iter.{iter_rest}
use denote.Param.Members.{Mut}
use denote.Ref.{Bor}
use Rattle.laws.proofs.Lists.{found-find, find-not, all_made, all-fails, and-made}
use Rattle.laws.proofs.Tests.{and-false-left, and-false-right}

-- the first index of a range that passes, or none, is what `find` finds
pub first-found : (p : ℕ → Bool) (first count end : ℕ) (r : code.Option ℕ) → end ≡ first + count
    → MatchOption r ((k : ℕ) → first ≤ k → k < end → p k ≡ false) (λ i. (first ≤ i) × (i < end) × (p i ≡ true) × ((k : ℕ) → first ≤ k → k < i → p k ≡ false))
    → r ≡ option_of (find p first count)
first-found p first count end code.None e h = ap option_of (sym (find-not p first count (λ k a b. h k a (omega arith))))
first-found p first count end (code.Some i) e h = ap option_of (sym (found-find p first count i (record { from = h.0; below = omega (arith, h.1); passes = h.2; before = h.3 })))

-- what a lookup's answer says of its definition
pub option_some : {i : ℕ} (o : Option ℕ) → code.Some i ≡ option_of o → o ≡ some i
option_some none e = let z : ◌≡◌ {A = ℕ} 0 1 = cc in absurd (omega arith)
option_some (some k) e = cc

pub option_none : (o : Option ℕ) → ◌≡◌ {A = code.Option ℕ} code.None (option_of o) → o ≡ none
option_none none e = refl
option_none (some k) e = let z : ◌≡◌ {A = ℕ} 0 1 = cc in absurd (omega arith)

-- a test of each number below n, by the library's `all`, is `all`
pub all-range : {F : Type 0} {g : Mut F (ℕ × Unit {0}) Bool} {u : Range ℕ} {f : F} {r : Bool} (n : ℕ) (p : ℕ → Bool)
    → (xs : List ℕ) × (o : code.Option ℕ) × (j : F) × YieldsThen nat_range_steps (record { start = 0; end = n }) xs o u × FoldsTo (λ q x t. Called g q (x, tt) true t) f xs j × MatchOption o (r ≡ true) (λ x. (r ≡ false) × ((h : F) × Called g j (x, tt) false h))
    → ((x : ℕ) (q : F) → Called g f (x, tt) true q → (q ≡ f) × (p x ≡ true)) → ((x : ℕ) (q : F) → Called g f (x, tt) false q → p x ≡ false)
    → r ≡ all n p
all-range {F} {g} {u} {f} {r} n p d passed failed = by r (cases_from_all u f r (λ x. p x ≡ true) (λ x. p x ≡ false) d (YieldsList-from_range 0 n n refl (omega arith)) passed failed)
  where
    items : List ℕ
    items = range_with_len 0 n

    long : length items ≡ n
    long = length-range_with_len 0 n

    here : (k : ℕ) → k < n → get_or items k 0 ≡ k
    here k h = get_or-range_with_len 0 n k 0 h ∙ omega arith

    by : (t : Bool) → MatchBool t (AllWithin (λ x. p x ≡ true) items 0 (length items)) ((k : ℕ) × (k < length items) × HoldsAt (λ x. p x ≡ false) items k) → t ≡ all n p
    by true h = sym (all_made n p (λ k a. subst (λ x. p x ≡ true) (here k a) (h k 0 (omega arith) (omega (arith, long)))))
    by false h =
        let k = h.0 in
        let a : k < n = omega (arith, long, h.1) in
        sym (all-fails n p k a (subst (λ x. p x ≡ false) (here k a) (h.2 0)))

-- a test of each element of a slice, by the library's `all`, is `each`
pub each_made : (p : ℕ → Bool) (xs : List ℕ) → AllWithin (λ x. p x ≡ true) xs 0 (length xs) → each p xs ≡ true
unfolding each
each_made p [] h = refl
each_made p (x ∷ xs) h = and-made (p x) (each p xs) (h 0 0 (omega arith) (omega arith)) (each_made p xs (λ k d a b. h (suc k) d (omega arith) (omega arith)))

pub each-fails : (p : ℕ → Bool) (xs : List ℕ) (k : ℕ) → k < length xs → p (get_or xs k 0) ≡ false → each p xs ≡ false
unfolding each
each-fails p [] k h e = absurd (omega arith)
each-fails p (x ∷ xs) zero h e = and-false-left (p x) (each p xs) e
each-fails p (x ∷ xs) (suc k) h e = and-false-right (p x) (each p xs) (each-fails p xs k (omega arith) e)

pub all-slice : {F : Type 0} {g : Mut F (Bor ℕ × Unit {0}) Bool} {s u : Iter ℕ} {f : F} {r : Bool} (items : List ℕ) (p : ℕ → Bool) → iter_rest s ≡ items
    → (xs : List (Bor ℕ)) × (o : code.Option (Bor ℕ)) × (j : F) × YieldsThen fronts s xs o u × FoldsTo (λ q x t. Called g q (x, tt) true t) f xs j × MatchOption o (r ≡ true) (λ x. (r ≡ false) × ((h : F) × Called g j (x, tt) false h))
    → ((x : Bor ℕ) (q : F) → Called g f (x, tt) true q → (q ≡ f) × (p x.now ≡ true)) → ((x : Bor ℕ) (q : F) → Called g f (x, tt) false q → p x.now ≡ false)
    → r ≡ each p items
all-slice {F} {g} {s} {u} {f} {r} items p e d passed failed = by r (cases_from_all u f r (λ x. p x ≡ true) (λ x. p x ≡ false) d (YieldsList-from_slice items e) passed failed)
  where
    by : (t : Bool) → MatchBool t (AllWithin (λ x. p x ≡ true) items 0 (length items)) ((k : ℕ) × (k < length items) × HoldsAt (λ x. p x ≡ false) items k) → t ≡ each p items
    by true h = sym (each_made p items h)
    by false h = sym (each-fails p items h.0 h.1 (h.2 0))
