-- A sound span of siblings, by its first node: what lies under it and its next siblings are sound, its field is one of the scope's,
-- and an entry has a key.
use Prim.Native.Nat.{ℕ, ◌+◌, ◌<◌}
use native.Mathlib.Omega.{arith}
use mathlib.Core.Bool.{Bool, true, false}
use mathlib.Core.Path.{◌≡◌, refl, sym, ◌∙◌}
use mathlib.Core.List.{List}
use lib.Dec.{eqb}
use borrow.Author.Tests.{eqb-true, eqb-false, eq-eqb, ne_eqb}
use Rattle.definitions.specs.Basics.{when◌then◌otherwise◌}
use Rattle.definitions.specs.Scope.{Scope, in_message, in_entry, want, within, map_entry}
use Rattle.definitions.specs.Nodes.{node_at, table_end, is_unknown, forest}
use Rattle.definitions.specs.Validity.{is_pair, valid}
use Rattle.definitions.specs.Live.{node, value_of, tree_of, key_of}
use Rattle.laws.proofs.Forest.{end_of, Tiled, tiles-parts, forest-some}
use Rattle.nodes.specs.Span.{Sound}
use Rattle.live.specs.Live.{Kept, Entry, key_at, key_in}
use Rattle.nodes.proofs.Ranks.{rank-known}
use Rattle.nodes.proofs.Scopes.{within-entry}
use Rattle.validity.proofs.Checks.{fits-known, entry_known}
use Rattle.validity.proofs.Spans.{TreeGood, tree-parts, entry-pair, pair-some, pair-next, pair-sum}
use Rattle.validity.proofs.Values.{valid-root, valid-below, good-run}
use Rattle.validity.proofs.Root.{root-parts}
use Rattle.live.proofs.Trees.{tree-some}

-- all that lies below the root of a valid table
pub sound-valid : (s : List ℕ) (root : ℕ) (w pool : List ℕ) → valid s root w pool ≡ true → Sound s pool (in_message root) w 1 (table_end w)
sound-valid s root w pool v =
    let b = valid-below s root w pool v in
    record { tiled = b.tiled; good = b.good; room = (root-parts w (valid-root s root w pool v)).room }

module _ (s pool : List ℕ) (c : Scope) (w : List ℕ) (i e : ℕ) (g : Sound s pool c w i e) (h : i < e) where
  pub sound-tiled : Tiled w i e
  sound-tiled = tiles-parts w i e h g.tiled

  pub sound-tree : TreeGood s pool c (node_at w i) (forest w (i + 1) (end_of w i)) (forest w (end_of w i) e)
  sound-tree = tree-parts s pool c (node_at w i) (forest w (i + 1) (end_of w i)) (forest w (end_of w i) e) (rw (forest-some w i e h g.tiled) at g.good)

  pub sound-rest : Sound s pool c w (end_of w i) e
  sound-rest = record { tiled = sound-tiled.rest; good = sound-tree.after; room = g.room }

  pub sound-kids : Sound s pool (within (want s c (node_at w i).field)) w (i + 1) (end_of w i)
  sound-kids = record { tiled = sound-tiled.kids; good = sound-tree.below; room = let k = sound-tiled.inside in omega (arith, g.room) }

  pub sound-kept : Kept pool (node_at w i)
  sound-kept = record { inside = λ r. good-run pool (node_at w i) r sound-tree.value }

-- ---- the children of an entry

module _ (s pool : List ℕ) (g : ℕ) (w : List ℕ) (i e : ℕ) (x : Sound s pool (in_entry g) w i e) (p : is_pair (forest w i e) ≡ true) where
  first-known : is_unknown (node_at w i).kind ≡ false
  first-known = entry_known s g (node_at w i) (sound-tree s pool (in_entry g) w i e x (pair-some w i e x.tiled p)).fits

  second-sound : Sound s pool (in_entry g) w (end_of w i) e
  second-sound = sound-rest s pool (in_entry g) w i e x (pair-some w i e x.tiled p)

  second-known : is_unknown (node_at w (end_of w i)).kind ≡ false
  second-known = entry_known s g (node_at w (end_of w i)) (sound-tree s pool (in_entry g) w (end_of w i) e second-sound (pair-next w i e x.tiled p)).fits

  pair-tree : tree_of pool (forest w i e)
      ≡ node (node_at w i).field (node_at w i).kind (value_of pool (node_at w i)) (tree_of pool (forest w (i + 1) (end_of w i)))
      (node (node_at w (end_of w i)).field (node_at w (end_of w i)).kind (value_of pool (node_at w (end_of w i)))
      (tree_of pool (forest w (end_of w i + 1) (end_of w (end_of w i)))) (tree_of pool (forest w (end_of w (end_of w i)) e)))
  pair-tree =
      rw (tree-some pool w i e (pair-some w i e x.tiled p) x.tiled, tree-some pool w (end_of w i) e (pair-next w i e x.tiled p) second-sound.tiled, rank-known (node_at w i) first-known, rank-known (node_at w (end_of w i)) second-known)

  pub first_key : (node_at w i).field ≡ 0 → value_of pool (node_at w i) ≡ key_of (tree_of pool (forest w i e))
  unfolding key_of
  first_key z = rw (pair-tree, eq-eqb (node_at w i).field 0 z)

  pub second_key : ((node_at w i).field ≡ 0 → ⊥) → value_of pool (node_at w (end_of w i)) ≡ key_of (tree_of pool (forest w i e))
  unfolding key_of
  second_key z = rw (pair-tree, ne_eqb (node_at w i).field 0 z, eq-eqb (node_at w (end_of w i)).field 0 (second-zero z))
    where
      second-zero : ((node_at w i).field ≡ 0 → ⊥) → (node_at w (end_of w i)).field ≡ 0
      second-zero z = let q = pair-sum w i e x.tiled p in omega arith

  first-kept : Kept pool (node_at w i)
  first-kept = sound-kept s pool (in_entry g) w i e x (pair-some w i e x.tiled p)

  second-kept : Kept pool (node_at w (end_of w i))
  second-kept = sound-kept s pool (in_entry g) w (end_of w i) e second-sound (pair-next w i e x.tiled p)

  -- the child that is the key
  abbrev key_child : ℕ
  key_child = when eqb (node_at w i).field 0 then (λ _. i) otherwise λ _. end_of w i

  pub pair-key-is : (value_of pool (node_at w key_child) ≡ key_of (tree_of pool (forest w i e))) × Kept pool (node_at w key_child)
  pair-key-is = go (eqb (node_at w i).field 0) refl
    where
      go : (t : Bool) → eqb (node_at w i).field 0 ≡ t → (value_of pool (node_at w key_child) ≡ key_of (tree_of pool (forest w i e))) × Kept pool (node_at w key_child)
      go true q = rw q (first_key (eqb-true (node_at w i).field 0 q), first-kept)
      go false q = rw q (second_key (eqb-false (node_at w i).field 0 q), second-kept)

-- ---- an entry where it stands

module _ (s pool : List ℕ) (c : Scope) (w : List ℕ) (i e : ℕ) (x : Sound s pool c w i e) (h : i < e) (k : (node_at w i).kind ≡ map_entry) where
  entry-want : (want s c (node_at w i).field).kind ≡ map_entry
  entry-want =
      let known : is_unknown (node_at w i).kind ≡ false = rw k in
      sym (fits-known s c (node_at w i) (sound-tree s pool c w i e x h).fits known).1 ∙ k

  entry-sound : Sound s pool (in_entry (want s c (node_at w i).field).reference) w (i + 1) (end_of w i)
  entry-sound = rw (within-entry (want s c (node_at w i).field) entry-want) at (sound-kids s pool c w i e x h)

  entry-is-pair : is_pair (forest w (i + 1) (end_of w i)) ≡ true
  entry-is-pair = entry-pair (node_at w i) (forest w (i + 1) (end_of w i)) (forest w (end_of w i) e) (sound-tree s pool c w i e x h).entry k

  pub sound-entry : Entry w pool i
  unfolding key_at key_in
  sound-entry =
      let key-is = pair-key-is s pool (want s c (node_at w i).field).reference w (i + 1) (end_of w i) entry-sound entry-is-pair in
      record {
        children = record { tiled = entry-sound.tiled; pair = entry-is-pair; room = entry-sound.room };
        key = key-is.0;
        kept = key-is.1;
      }
