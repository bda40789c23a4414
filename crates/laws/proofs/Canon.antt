-- The live values of a tree (`canon`): a rank has a value there if it has one at all (`has-canon`), and what holds of every live
-- message and entry below holds of those that no later sibling replaces, in any order (`filled_below-canon`, `complete-canon`).
use Prim.Native.Nat.{ℕ, zero, suc, ◌+◌}
use mathlib.Core.Bool.{Bool, true, false, ◌&&◌, ◌||◌, not}
use mathlib.Core.Path.{◌≡◌, refl, sym, ap, ap₂, ◌∙◌}
use mathlib.Core.List.{List}
use lib.Dec.{eqb, leb}
use borrow.Author.Tests.{eqb-true}
use Rattle.definitions.specs.Basics.{when◌then◌otherwise◌, all}
use Rattle.definitions.specs.Image.{message, field, is_required}
use Rattle.definitions.specs.Scope.{Scope, in_message, in_entry, want, within, nests}
use Rattle.definitions.specs.Live.{Val, Tree, nil, node, has, key_of, has_key, sharing, replaced, insert, canon}
use Rattle.definitions.specs.Required.{filled, filled_in, filled_below, complete}
use Rattle.laws.proofs.Lists.{true-false}

or_swap : (a b c : Bool) → (a || (b || c)) ≡ (b || (a || c))
or_swap true true c = refl
or_swap true false c = refl
or_swap false b c = refl

or-either : (a b : Bool) → (b ≡ true → a ≡ true) → b || a ≡ a
or-either a true h = sym (h refl)
or-either a false h = refl

and-swap : (a b c : Bool) → (a && (b && c)) ≡ (b && (a && c))
and-swap true b c = refl
and-swap false true c = refl
and-swap false false c = refl

-- ---- a rank has a value

has_key-has : (r : ℕ) (key : Val) (t : Tree) → has_key r key t ≡ true → has r t ≡ true
unfolding has_key has
has_key-has r key nil h = h
has_key-has r key (node q k v kids rest) h = go (eqb q r) refl (has_key-has r key rest)
  where
    go : (b : Bool) → eqb q r ≡ b → (has_key r key rest ≡ true → has r rest ≡ true) → eqb q r || has r rest ≡ true
    go true e ih = rw e
    go false e ih = rw e (ih (rw e at h))

-- what replaces a value has its rank
pub replaced-has : (how r : ℕ) (kids rest : Tree) → replaced how r kids rest ≡ true → has r rest ≡ true
unfolding replaced
replaced-has how r kids rest h = go (eqb how 0) refl (eqb how 1) refl
  where
    go : (a : Bool) → eqb how 0 ≡ a → (b : Bool) → eqb how 1 ≡ b → has r rest ≡ true
    go true p b q = rw (p, replaced) at h
    go false p true q = has_key-has r (key_of kids) rest (rw (p, q, replaced) at h)
    go false p false q = true-false false (rw (p, q, replaced) at h) refl

pub has-insert : (r q k : ℕ) (v : Val) (kids t : Tree) → has r (insert q k v kids t) ≡ (eqb q r || has r t)
unfolding has insert
has-insert r q k v kids nil = refl
has-insert r q k v kids (node p j u s rest) = go (leb q p) refl (has-insert r q k v kids rest)
  where
    go : (b : Bool) → leb q p ≡ b → has r (insert q k v kids rest) ≡ (eqb q r || has r rest)
        → has r (insert q k v kids (node p j u s rest)) ≡ (eqb q r || (eqb p r || has r rest))
    go true e ih = rw (e, insert)
    go false e ih = rw (e, insert) (rw ih (or_swap (eqb p r) (eqb q r) (has r rest)))

pub has-canon : (s : List ℕ) (c : Scope) (r : ℕ) (t : Tree) → has r (canon s c t) ≡ has r t
unfolding canon has
has-canon s c r nil = refl
has-canon s c r (node q k v kids rest) = go (replaced (sharing s c q) q kids rest) refl (has-canon s c r rest)
  where
    go : (b : Bool) → replaced (sharing s c q) q kids rest ≡ b → has r (canon s c rest) ≡ has r rest
        → has r (canon s c (node q k v kids rest)) ≡ (eqb q r || has r rest)
    go true e ih =
        rw (e, canon)
        (ih ∙ sym (or-either (has r rest) (eqb q r) (λ z. rw (← eqb-true q r z) (replaced-has (sharing s c q) q kids rest e))))
    go false e ih = rw (e, canon) (has-insert r q k v (canon s (within (want s c q)) kids) (canon s c rest) ∙ rw ih)

-- ---- required fields

all_alike : (n : ℕ) (p q : ℕ → Bool) → ((i : ℕ) → p i ≡ q i) → all n p ≡ all n q
unfolding all
all_alike zero p q h = refl
all_alike (suc n) p q h = ap₂ ◌&&◌ (all_alike n p q h) (h n)

pub filled_in-canon : (s : List ℕ) (c d : Scope) (t : Tree) → filled_in s d (canon s c t) ≡ filled_in s d t
unfolding filled_in filled
filled_in-canon s c (in_message m) t =
    all_alike (message s m).count (λ i. not (is_required (field s ((message s m).first + i))) || has ((message s m).first + i) (canon s c t))
    (λ i. not (is_required (field s ((message s m).first + i))) || has ((message s m).first + i) t)
    (λ i. rw (has-canon s c ((message s m).first + i) t))
filled_in-canon s c (in_entry g) t = refl

-- what is asked of one value: of a message or an entry, its required fields and those below
abbrev pub filled_at : List ℕ → Scope → (r k : ℕ) → (kids : Tree) → Bool
filled_at s c r k kids = when nests k then (λ _. complete s (within (want s c r)) kids) otherwise λ _. true

-- the same of every value that no later sibling replaces, of its live values
unfoldable pub live_below : List ℕ → Scope → Tree → Bool
live_below s c nil = true
live_below s c (node r k v kids rest) =
    (when replaced (sharing s c r) r kids rest then (λ _. true) otherwise λ _. filled_at s c r k (canon s (within (want s c r)) kids)) && live_below s c rest

filled_below-insert : (s : List ℕ) (c : Scope) (r k : ℕ) (v : Val) (kids t : Tree)
    → filled_below s c (insert r k v kids t) ≡ (filled_at s c r k kids && filled_below s c t)
unfolding filled_below insert complete
filled_below-insert s c r k v kids nil = refl
filled_below-insert s c r k v kids (node p j u below rest) = go (leb r p) refl (filled_below-insert s c r k v kids rest)
  where
    go : (b : Bool) → leb r p ≡ b → filled_below s c (insert r k v kids rest) ≡ (filled_at s c r k kids && filled_below s c rest)
        → filled_below s c (insert r k v kids (node p j u below rest)) ≡ (filled_at s c r k kids && (filled_at s c p j below && filled_below s c rest))
    go true e ih = rw (e, insert)
    go false e ih = rw (e, insert) (rw ih (and-swap (filled_at s c p j below) (filled_at s c r k kids) (filled_below s c rest)))

pub filled_below-canon : (s : List ℕ) (c : Scope) (t : Tree) → filled_below s c (canon s c t) ≡ live_below s c t
unfolding filled_below canon live_below
filled_below-canon s c nil = refl
filled_below-canon s c (node r k v kids rest) = go (replaced (sharing s c r) r kids rest) refl (filled_below-canon s c rest)
  where
    go : (b : Bool) → replaced (sharing s c r) r kids rest ≡ b → filled_below s c (canon s c rest) ≡ live_below s c rest
        → filled_below s c (canon s c (node r k v kids rest)) ≡ live_below s c (node r k v kids rest)
    go true e ih = rw (e, canon, live_below) ih
    go false e ih =
        rw (e, canon, live_below)
        (filled_below-insert s c r k v (canon s (within (want s c r)) kids) (canon s c rest)
        ∙ ap (λ (x : Bool). filled_at s c r k (canon s (within (want s c r)) kids) && x) ih)

pub complete-canon : (s : List ℕ) (c : Scope) (t : Tree) → complete s c (canon s c t) ≡ (filled_in s c t && live_below s c t)
unfolding complete
complete-canon s c t = ap₂ ◌&&◌ (filled_in-canon s c c t) (filled_below-canon s c t)
