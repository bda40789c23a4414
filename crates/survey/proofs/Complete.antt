-- Nothing lacks exactly where the required check grants (`missing-complete`, `complete-missing`).
use Prim.Native.Nat.{ℕ, ◌+◌, ◌-◌}
use native.Mathlib.Omega.{arith}
use mathlib.Core.Bool.{Bool, true, false, ◌&&◌, ◌||◌, not}
use mathlib.Core.Path.{◌≡◌, refl, sym, ap, ap₂, ◌∙◌}
use mathlib.Core.List.{List}
use mathlib.Core.Option.{Option, none, some}
use Rattle.definitions.specs.Basics.{when◌then◌otherwise◌, all, find}
use Rattle.definitions.specs.Image.{message, field, is_required}
use Rattle.definitions.specs.Scope.{Scope, in_message, in_entry, want, within, nests}
use Rattle.definitions.specs.Validity.{below}
use Rattle.definitions.specs.Live.{Tree, nil, node, tree_of, has, sharing, replaced, canon, meaning}
use Rattle.definitions.specs.Required.{filled, filled_in, complete}
use Rattle.laws.proofs.Lists.{all_made, all-fails, find-some, find_none, true-false}
use Rattle.laws.proofs.Canon.{filled_at, live_below, complete-canon}
use Rattle.survey.specs.Survey.{taken, lacks, lacking_in, ◌or_else◌, lacking_below, lacking, missing_field}
use Rattle.survey.proofs.Tables.{missing-some}

abbrev is_none : Option ℕ → Bool
is_none none = true
is_none (some i) = false

none_is : (o : Option ℕ) → is_none o ≡ true → o ≡ none
none_is none h = refl
none_is (some i) h = true-false false h refl

none_both : (a : Option ℕ) (b : Option ℕ) → is_none (a or_else λ _. b) ≡ (is_none a && is_none b)
none_both none b = refl
none_both (some i) b = refl

-- ---- a message's own fields

-- a field that lacks nothing is not required, or has a value
given-lacks : (a b : Bool) (l : Bool) → (a && not b) ≡ l → (not a || b) ≡ not l
given-lacks true true l h = rw (← h)
given-lacks true false l h = rw (← h)
given-lacks false b l h = rw (← h)

abbrev given : List ℕ → Tree → (first i : ℕ) → Bool
given s t first i = not (is_required (field s (first + i))) || has (first + i) t

given_is : (s : List ℕ) (t : Tree) (first i : ℕ) (l : Bool) → lacks s t (first + i) ≡ l → given s t first i ≡ not l
unfolding lacks
given_is s t first i l h = given-lacks (is_required (field s (first + i))) (has (first + i) t) l h

none_filled : (s : List ℕ) (t : Tree) (first count : ℕ) → is_none (find (lacks s t) first count) ≡ all count (given s t first)
none_filled s t first count = go (find (lacks s t) first count) refl
  where
    go : (o : Option ℕ) → find (lacks s t) first count ≡ o → is_none o ≡ all count (given s t first)
    go none e =
        sym (all_made count (given s t first)
        (λ i l. given_is s t first i false (find_none (lacks s t) first count e (first + i) (omega arith) (omega arith))))
    go (some k) e =
        let f = find-some (lacks s t) first count k e in
        let z : first + (k - first) ≡ k = omega (arith, f.from) in
        sym (all-fails count (given s t first) (k - first) (omega (arith, f.from, f.below)) (given_is s t first (k - first) true (rw z f.passes)))

none_in : (s : List ℕ) (c : Scope) (t : Tree) → is_none (lacking_in s c t) ≡ filled_in s c t
unfolding lacking_in filled_in filled
none_in s (in_message m) t = none_filled s t (message s m).first (message s m).count
none_in s (in_entry g) t = refl

-- ---- what lies below

-- of one value: what lacks in it, if it is a message or an entry that no later sibling replaces
abbrev in_one : List ℕ → Scope → (r k : ℕ) → (gone : Bool) → (kids : Tree) → Option ℕ
in_one s c r k gone kids =
    when nests k && not gone then (λ _. lacking_in s (within (want s c r)) kids or_else λ _. lacking_below s (within (want s c r)) kids) otherwise λ _. none

none-one : (s : List ℕ) (c : Scope) (r k : ℕ) (gone : Bool) (kids : Tree)
    → is_none (lacking_below s (within (want s c r)) kids) ≡ live_below s (within (want s c r)) kids
    → is_none (in_one s c r k gone kids) ≡ (when gone then (λ _. true) otherwise λ _. filled_at s c r k (canon s (within (want s c r)) kids))
none-one s c r k gone kids ih = go (nests k) refl gone
  where
    inner : is_none (lacking_in s (within (want s c r)) kids or_else λ _. lacking_below s (within (want s c r)) kids)
        ≡ complete s (within (want s c r)) (canon s (within (want s c r)) kids)
    inner =
        none_both (lacking_in s (within (want s c r)) kids) (lacking_below s (within (want s c r)) kids)
        ∙ ap₂ ◌&&◌ (none_in s (within (want s c r)) kids) ih
        ∙ sym (complete-canon s (within (want s c r)) kids)

    go : (n : Bool) → nests k ≡ n → (g : Bool)
        → is_none (in_one s c r k g kids) ≡ (when g then (λ _. true) otherwise λ _. filled_at s c r k (canon s (within (want s c r)) kids))
    go true e true = rw e
    go true e false = rw e inner
    go false e true = rw e
    go false e false = rw e

none_below : (s : List ℕ) (c : Scope) (t : Tree) → is_none (lacking_below s c t) ≡ live_below s c t
unfolding lacking_below live_below
none_below s c nil = refl
none_below s c (node r k v kids rest) =
    none_both (in_one s c r k (replaced (sharing s c r) r kids rest) kids) (lacking_below s c rest)
    ∙ ap₂ ◌&&◌ (none-one s c r k (replaced (sharing s c r) r kids rest) kids (none_below s (within (want s c r)) kids)) (none_below s c rest)

pub none-complete : (s : List ℕ) (c : Scope) (t : Tree) → is_none (lacking s c t) ≡ complete s c (canon s c t)
unfolding lacking
none-complete s c t =
    none_both (lacking_in s c t) (lacking_below s c t) ∙ ap₂ ◌&&◌ (none_in s c t) (none_below s c t) ∙ sym (complete-canon s c t)

-- ---- the whole table

module _ (s : List ℕ) (root : ℕ) (w pool : List ℕ) (h : taken s root w pool ≡ true) where
  told : is_none (missing_field s root w pool) ≡ complete s (in_message root) (meaning s root w pool)
  unfolding meaning
  told = ap is_none (sym (missing-some s root w pool h)) ∙ none-complete s (in_message root) (tree_of pool (below w))

  pub missing-complete : missing_field s root w pool ≡ none → complete s (in_message root) (meaning s root w pool) ≡ true
  missing-complete e = sym told ∙ ap is_none e

  pub complete-missing : complete s (in_message root) (meaning s root w pool) ≡ true → missing_field s root w pool ≡ none
  complete-missing e = none_is (missing_field s root w pool) (told ∙ e)
