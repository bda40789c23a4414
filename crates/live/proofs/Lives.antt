-- Live, node by node: how values of a field share, when two values are the same, and when a later sibling takes a node's place.
use Prim.Native.Nat.{ℕ, ◌+◌, ◌<◌}
use native.Mathlib.Omega.{arith}
use mathlib.Core.Bool.{Bool, true, false, not}
use mathlib.Core.Path.{◌≡◌, refl, sym, ◌∙◌}
use mathlib.Core.List.{List}
use lib.Dec.{eqb, leb}
use borrow.Author.Tests.{eqb-true, eq-eqb, ne_eqb, le-leb, lt-leb, leb-false}
use Rattle.definitions.specs.declared.Node.{Node}
use Rattle.definitions.specs.declared.Want.{Want}
use Rattle.definitions.specs.declared.Field.{Field}
use Rattle.definitions.specs.Basics.{when◌then◌otherwise◌, same}
use Rattle.definitions.specs.Image.{field, is_map, is_repeated}
use Rattle.definitions.specs.Scope.{Scope, in_message, in_entry, want, within, nests, map_entry}
use Rattle.definitions.specs.Nodes.{node_at, is_run, is_unknown, run_of, number_of, forest}
use Rattle.definitions.specs.Validity.{field_fits}
use Rattle.definitions.specs.Live.{number, run, inside, Tree, rank_of, value_of, tree_of, same_val, has, has_key, sharing, replaced, first_unknown}
use Rattle.laws.proofs.Forest.{end_of}
use Rattle.nodes.specs.Span.{Sound}
use Rattle.live.specs.declared.Sharing.TheVariants as share
use Rattle.live.specs.Live.{Entry, Mapped, sharing_of, key_in, live_at}
use Rattle.nodes.proofs.Scopes.{within-entry, within-message}
use Rattle.validity.proofs.Checks.{fits-known}
use Rattle.nodes.proofs.Ranks.{rank-known, rank-unknown}
use Rattle.live.proofs.Sounds.{sound-tree, sound-rest, sound-entry}
use Rattle.live.proofs.Trees.{replaced-all, replaced-last, replaced-key}

-- ---- sharing

module _ (s : List ℕ) (w : Want) (n : Node) where
  pub sharing-entry : w.kind ≡ map_entry → 0 ≡ sharing s (within w) (rank_of n)
  unfolding sharing
  sharing-entry h = rw (within-entry w h)

  module _ (h : w.kind ≡ map_entry → ⊥) where
    pub sharing-unknown : is_unknown n.kind ≡ true → 2 ≡ sharing s (within w) (rank_of n)
    unfolding sharing
    sharing-unknown k =
        rw (within-message w h, rank-unknown n k, le-leb 4096 (4096 + n.field) (omega arith))

    module _ (k : is_unknown n.kind ≡ false) (l : n.field < 4096) (f : Field) (e : f ≡ field s n.field) where
      known-sharing : sharing s (within w) (rank_of n) ≡ (when is_repeated f then (λ _. 2) otherwise λ _. when is_map f then (λ _. 1) otherwise λ _. 0)
      unfolding sharing
      known-sharing = rw (within-message w h, rank-known n k, lt-leb 4096 n.field l, e)

      pub sharing-repeated : f.label ≡ 2 → 2 ≡ sharing s (within w) (rank_of n)
      sharing-repeated z = rw (known-sharing, eq-eqb f.label 2 z)

      pub sharing-map : (f.label ≡ 2 → ⊥) → f.label ≡ 3 → 1 ≡ sharing s (within w) (rank_of n)
      sharing-map y z = rw (known-sharing, ne_eqb f.label 2 y, eq-eqb f.label 3 z)

      pub sharing-single : (f.label ≡ 2 → ⊥) → (f.label ≡ 3 → ⊥) → 0 ≡ sharing s (within w) (rank_of n)
      sharing-single y z = rw (known-sharing, ne_eqb f.label 2 y, ne_eqb f.label 3 z)

-- the number behind how values share
module _ (n : ℕ) where
  by_number : (P : Type 0) → (n ≡ 0 → sharing_of n ≡ share.Last → P) → (n ≡ 1 → sharing_of n ≡ share.LastOfKey → P) → (sharing_of n ≡ share.All → P) → P
  by_number P f g h = go (eqb n 0) refl (eqb n 1) refl
    where
      go : (a : Bool) → eqb n 0 ≡ a → (b : Bool) → eqb n 1 ≡ b → P
      go true p b q = f (eqb-true n 0 p) (rw p)
      go false p true q = g (eqb-true n 1 q) (rw (p, q))
      go false p false q = h (rw (p, q))

  pub sharing-last : sharing_of n ≡ share.Last → n ≡ 0
  sharing-last h = by_number (n ≡ 0) (λ z _. z) (λ _ e. cc) (λ e. cc)

  pub sharing-key : sharing_of n ≡ share.LastOfKey → n ≡ 1
  sharing-key h = by_number (n ≡ 1) (λ _ e. cc) (λ z _. z) (λ e. cc)

-- where keys count, a field is a map's
pub sharing-one : (s : List ℕ) (c : Scope) (r : ℕ) → sharing s c r ≡ 1 → (r < first_unknown) × ((want s c r).kind ≡ map_entry)
unfolding sharing want
sharing-one s (in_entry g) r h = absurd (omega arith)
sharing-one s (in_message m) r h = go (leb first_unknown r) refl (is_repeated (field s r)) refl (is_map (field s r)) refl
  where
    go : (a : Bool) → leb first_unknown r ≡ a → (b : Bool) → is_repeated (field s r) ≡ b → (d : Bool) → is_map (field s r) ≡ d
        → (r < first_unknown) × ((want s (in_message m) r).kind ≡ map_entry)
    go true p b q d t = let z : ◌≡◌ {A = ℕ} 2 1 = rw (p, sharing) at h in absurd (omega arith)
    go false p true q d t = let z : ◌≡◌ {A = ℕ} 2 1 = rw (p, q, sharing) at h in absurd (omega arith)
    go false p false q true t = (leb-false first_unknown r p, rw t)
    go false p false q false t = let z : ◌≡◌ {A = ℕ} 0 1 = rw (p, q, t, sharing) at h in absurd (omega arith)

-- ---- values

module _ (pool : List ℕ) (n : Node) where
  value-run : is_run n.kind ≡ true → value_of pool n ≡ run (run_of pool n)
  unfolding value_of
  value-run h = simp h

  value-inside : is_run n.kind ≡ false → nests n.kind ≡ true → value_of pool n ≡ inside
  unfolding value_of
  value-inside h k = simp (h, k)

  value-number : is_run n.kind ≡ false → nests n.kind ≡ false → value_of pool n ≡ number (number_of n)
  unfolding value_of
  value-number h k = simp (h, k)

module _ (pool : List ℕ) (a b : Node) where
  pub same_runs : is_run a.kind ≡ true → is_run b.kind ≡ true → same (run_of pool a) (run_of pool b) ≡ same_val (value_of pool a) (value_of pool b)
  unfolding same_val
  same_runs h k = rw (value-run pool a h, value-run pool b k)

  module _ (h : is_run b.kind ≡ false) where
    not-run : (v : List ℕ) → false ≡ same_val (run v) (value_of pool b)
    unfolding same_val
    not-run v = go (nests b.kind) refl
      where
        go : (t : Bool) → nests b.kind ≡ t → false ≡ same_val (run v) (value_of pool b)
        go true e = rw (value-inside pool b h e)
        go false e = rw (value-number pool b h e)

    pub same-run-other : is_run a.kind ≡ true → false ≡ same_val (value_of pool a) (value_of pool b)
    same-run-other k = rw (value-run pool a k) (not-run (run_of pool a))

  module _ (h : is_run a.kind ≡ false) where
    pub same-other-run : is_run b.kind ≡ true → false ≡ same_val (value_of pool a) (value_of pool b)
    unfolding same_val
    same-other-run k = go (nests a.kind) refl
      where
        go : (t : Bool) → nests a.kind ≡ t → false ≡ same_val (value_of pool a) (value_of pool b)
        go true e = rw (value-inside pool a h e, value-run pool b k)
        go false e = rw (value-number pool a h e, value-run pool b k)

    module _ (k : is_run b.kind ≡ false) where
      pub same-inside : nests a.kind ≡ true → nests b.kind ≡ same_val (value_of pool a) (value_of pool b)
      unfolding same_val
      same-inside e = go (nests b.kind) refl
        where
          go : (t : Bool) → nests b.kind ≡ t → t ≡ same_val (value_of pool a) (value_of pool b)
          go true q = rw (value-inside pool a h e, value-inside pool b k q)
          go false q = rw (value-inside pool a h e, value-number pool b k q)

      pub same-number-inside : nests a.kind ≡ false → nests b.kind ≡ true → false ≡ same_val (value_of pool a) (value_of pool b)
      unfolding same_val
      same-number-inside e q = rw (value-number pool a h e, value-inside pool b k q)

      pub same_numbers : nests a.kind ≡ false → nests b.kind ≡ false → eqb (number_of a) (number_of b) ≡ same_val (value_of pool a) (value_of pool b)
      unfolding same_val
      same_numbers e q = rw (value-number pool a h e, value-number pool b k q)

-- ---- the later siblings of node i, as a tree

-- what lies inside a node, and what stands from a node on, as trees
abbrev pub kids_of : List ℕ → List ℕ → ℕ → Tree
kids_of pool w i = tree_of pool (forest w (i + 1) (end_of w i))

abbrev pub from_on : List ℕ → List ℕ → ℕ → ℕ → Tree
from_on pool w j e = tree_of pool (forest w j e)

-- a node of a map's rank is an entry
pub rank-entry : (s : List ℕ) (c : Scope) (n : Node) (r : ℕ) → field_fits s c n ≡ true → rank_of n ≡ r → r < first_unknown → (want s c r).kind ≡ map_entry
    → n.kind ≡ map_entry
rank-entry s c n r f e l k = go (is_unknown n.kind) refl
  where
    go : (t : Bool) → is_unknown n.kind ≡ t → n.kind ≡ map_entry
    go true q = absurd (omega (arith, rank-unknown n q))
    go false q =
        let z : n.field ≡ r = sym (rank-known n q) ∙ e in
        (fits-known s c n f q).1 ∙ rw z k

-- ---- whether a later sibling takes the place of node i

module _ (s pool : List ℕ) (c : Scope) (w : List ℕ) (i e : ℕ) (x : Sound s pool c w i e) (h : i < e) (n : Node) (en : n ≡ node_at w i) where
  pub live-fits : field_fits s c n ≡ true
  live-fits = rw en (sound-tree s pool c w i e x h).fits

  pub live-after : Sound s pool c w n.end e
  live-after = rw en (sound-rest s pool c w i e x h)

  live-is : (b : Bool) → replaced (sharing s c (rank_of n)) (rank_of n) (kids_of pool w i) (from_on pool w n.end e) ≡ b → not b ≡ live_at s pool c w i e
  unfolding live_at
  live-is b q = rw (← q, en)

  pub live_all : sharing_of (sharing s c (rank_of n)) ≡ share.All → true ≡ live_at s pool c w i e
  live_all z = live-is false (replaced-all (sharing s c (rank_of n)) (rank_of n) (kids_of pool w i) (from_on pool w n.end e) z)

  pub live_last : sharing_of (sharing s c (rank_of n)) ≡ share.Last → (b : Bool) → b ≡ has (rank_of n) (from_on pool w n.end e) → not b ≡ live_at s pool c w i e
  live_last z b q =
      live-is b (replaced-last (sharing s c (rank_of n)) (rank_of n) (kids_of pool w i) (from_on pool w n.end e) (sharing-last (sharing s c (rank_of n)) z) ∙ sym q)

  module _ (z : sharing_of (sharing s c (rank_of n)) ≡ share.LastOfKey) where
    mapped : (rank_of n < first_unknown) × ((want s c (rank_of n)).kind ≡ map_entry)
    mapped = sharing-one s c (rank_of n) (sharing-key (sharing s c (rank_of n)) z)

    pub live-entry : Entry w pool i
    live-entry =
        sound-entry s pool c w i e x h
        (rank-entry s c (node_at w i) (rank_of n) (rw en at live-fits) (rw en) mapped.0 mapped.1)

    pub live-mapped : Mapped pool w (rank_of n) n.end e
    live-mapped = record { image = s; scope = c; known = mapped.0; map = mapped.1; sound = live-after }

    pub live_key : (b : Bool) → b ≡ has_key (rank_of n) (key_in w pool i) (from_on pool w n.end e) → not b ≡ live_at s pool c w i e
    unfolding key_in
    live_key b q =
        live-is b
        (replaced-key (sharing s c (rank_of n)) (rank_of n) (kids_of pool w i) (from_on pool w n.end e) (sharing-key (sharing s c (rank_of n)) z) ∙ sym q)
