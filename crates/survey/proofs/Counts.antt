-- The live scalars of a span, node by node.
use Prim.Native.Nat.{ℕ, ◌+◌, ◌-◌, ◌≤◌, ◌<◌}
use native.Mathlib.Omega.{arith}
use mathlib.Core.Bool.{Bool, true, false, ◌&&◌}
use mathlib.Core.Path.{◌≡◌, refl, sym, ap, ◌∙◌}
use mathlib.Core.List.{List}
use lib.Dec.{eqb, leb}
use borrow.Author.Tests.{not-true, not-false}
use Rattle.definitions.specs.declared.Node.{Node}
use Rattle.definitions.specs.declared.Want.{Want}
use Rattle.definitions.specs.Basics.{when◌then◌otherwise◌}
use Rattle.definitions.specs.Image.{accepted}
use Rattle.definitions.specs.Scope.{Scope, in_message, want, within, has_field, nests, map_entry}
use Rattle.definitions.specs.Nodes.{node_at, table_end, forest}
use Rattle.definitions.specs.Validity.{below}
use Rattle.definitions.specs.Live.{Val, Tree, nil, node, rank_of, tree_of, sharing, replaced, insert, canon, meaning}
use Rattle.laws.proofs.Forest.{end_of, tiles-le}
use Rattle.nodes.specs.Span.{There, Sound}
use Rattle.nodes.proofs.Scopes.{there-want, nests-known}
use Rattle.nodes.proofs.Ranks.{rank-known}
use Rattle.validity.proofs.Checks.{fits-known}
use Rattle.live.specs.Live.{live_at}
use Rattle.live.proofs.Sounds.{sound-tiled, sound-tree, sound-rest, sound-kids}
use Rattle.live.proofs.Trees.{tree-none, tree-some}
use Rattle.live.proofs.Lives.{kids_of, from_on}
use Rattle.survey.specs.Survey.{weight, count}

-- ---- what a scalar counts for

pub weight-le : (b : Bool) (r a : ℕ) → a ≡ weight b r → a ≤ 1
unfolding weight
weight-le b r a h = go (b && eqb r 0) refl
  where
    go : (t : Bool) → (b && eqb r 0) ≡ t → a ≤ 1
    go true q = let z : a ≡ 0 = rw (q, weight) at h in omega arith
    go false q = let z : a ≡ 1 = rw (q, weight) at h in omega arith

-- ---- the live values of a tree

-- what one value counts for
abbrev pub counted : Bool → (r k : ℕ) → (kids : Tree) → ℕ
counted b r k kids = when nests k then (λ _. count (eqb k map_entry) kids) otherwise λ _. weight b r

-- the same of every value that no later sibling replaces, of its live values
unfoldable pub live_count : List ℕ → Scope → Bool → Tree → ℕ
live_count s c b nil = 0
live_count s c b (node r k v kids rest) =
    (when replaced (sharing s c r) r kids rest then (λ _. 0) otherwise λ _. counted b r k (canon s (within (want s c r)) kids)) + live_count s c b rest

none_more : (a : ℕ) → 0 + a ≡ a
none_more a = omega arith

sum-swap : (a b c : ℕ) → a + (b + c) ≡ b + (a + c)
sum-swap a b c = omega arith

count-insert : (b : Bool) (r k : ℕ) (v : Val) (kids t : Tree) → count b (insert r k v kids t) ≡ counted b r k kids + count b t
unfolding count insert
count-insert b r k v kids nil = refl
count-insert b r k v kids (node p j u below rest) = go (leb r p) refl (count-insert b r k v kids rest)
  where
    go : (t : Bool) → leb r p ≡ t → count b (insert r k v kids rest) ≡ counted b r k kids + count b rest
        → count b (insert r k v kids (node p j u below rest)) ≡ counted b r k kids + (counted b p j below + count b rest)
    go true e ih = rw (e, insert)
    go false e ih = rw (e, insert) (rw ih (sum-swap (counted b p j below) (counted b r k kids) (count b rest)))

pub count-canon : (s : List ℕ) (c : Scope) (b : Bool) (t : Tree) → count b (canon s c t) ≡ live_count s c b t
unfolding count canon live_count
count-canon s c b nil = refl
count-canon s c b (node r k v kids rest) = go (replaced (sharing s c r) r kids rest) refl (count-canon s c b rest)
  where
    go : (t : Bool) → replaced (sharing s c r) r kids rest ≡ t → count b (canon s c rest) ≡ live_count s c b rest
        → count b (canon s c (node r k v kids rest)) ≡ live_count s c b (node r k v kids rest)
    go true e ih = rw (e, canon, live_count) (ih ∙ sym (none_more (live_count s c b rest)))
    go false e ih =
        rw (e, canon, live_count)
        (count-insert b r k v (canon s (within (want s c r)) kids) (canon s c rest)
        ∙ ap (λ (x : ℕ). counted b r k (canon s (within (want s c r)) kids) + x) ih)

-- ---- the walk over a span: what is counted so far, at most one a node, and the rest to count

-- a later sibling takes the place of node i
abbrev replaced_at : (s pool : List ℕ) → Scope → (w : List ℕ) → (i e : ℕ) → Bool
replaced_at s pool c w i e = replaced (sharing s c (rank_of (node_at w i))) (rank_of (node_at w i)) (kids_of pool w i) (from_on pool w (end_of w i) e)

pub record Tally (s pool : List ℕ) (c : Scope) (b : Bool) (w : List ℕ) (from to i sum : ℕ) : Type 0 where
  pub inside : i ≤ to
  pub small : from + sum ≤ i
  pub sound : Sound s pool c w i to
  pub alike : count b (canon s c (from_on pool w from to)) ≡ sum + live_count s c b (from_on pool w i to)

module _ (s pool : List ℕ) (c : Scope) (b : Bool) (w : List ℕ) (from to : ℕ) where
  pub tally-start : Sound s pool c w from to → Tally s pool c b w from to from 0
  tally-start g = record {
    inside = tiles-le w from to g.tiled;
    small = omega arith;
    sound = g;
    alike = count-canon s c b (from_on pool w from to) ∙ sym (none_more (live_count s c b (from_on pool w from to)));
  }

  module _ (i sum : ℕ) (x : Tally s pool c b w from to i sum) where
    pub tally-end : to ≤ i → sum ≡ count b (canon s c (from_on pool w from to))
    unfolding live_count
    tally-end h = rw (x.alike, tree-none pool w i to h) (omega arith)

    module _ (h : i < to) (n : Node) (e : n ≡ node_at w i) where
      tally-some : live_count s c b (from_on pool w i to)
          ≡ ((when replaced_at s pool c w i to
          then (λ _. 0)
          otherwise λ _. counted b (rank_of (node_at w i)) (node_at w i).kind (canon s (within (want s c (rank_of (node_at w i)))) (kids_of pool w i)))
          + live_count s c b (from_on pool w (end_of w i) to))
      unfolding live_count
      tally-some = rw (tree-some pool w i to h x.sound.tiled)

      pub tally-on : i < n.end
      tally-on = rw e (sound-tiled s pool c w i to x.sound h).on

      pub tally-kids : Sound s pool (within (want s c n.field)) w (i + 1) n.end
      tally-kids = rw e (sound-kids s pool c w i to x.sound h)

      pub tally-room : n.end ≤ to
      tally-room = rw e (sound-tiled s pool c w i to x.sound h).inside

      -- the node's part is counted
      tally-next : (a : ℕ) → i + a ≤ n.end → live_count s c b (from_on pool w i to) ≡ a + live_count s c b (from_on pool w (end_of w i) to)
          → Tally s pool c b w from to n.end (sum + a)
      tally-next a l q = record {
        inside = tally-room;
        small = omega (arith, x.small);
        sound = rw e (sound-rest s pool c w i to x.sound h);
        alike = x.alike ∙ rw (q, e) (omega arith);
      }

      -- a value that is replaced
      pub tally-gone : live_at s pool c w i to ≡ false → Tally s pool c b w from to n.end sum
      unfolding live_at
      tally-gone l =
          let y = tally-next 0 (omega (arith, tally-on)) (tally-some ∙ rw (not-false (replaced_at s pool c w i to) l)) in
          let z : sum + 0 ≡ sum = omega arith in
          rw z at y

      -- a scalar
      pub tally-scalar : live_at s pool c w i to ≡ true → nests n.kind ≡ false → (a : ℕ) → a ≡ weight b (rank_of n) → Tally s pool c b w from to n.end (sum + a)
      unfolding live_at
      tally-scalar l k a ea =
          let plain : nests (node_at w i).kind ≡ false = rw e at k in
          let o = tally-on in
          tally-next a (omega (arith, weight-le b (rank_of n) a ea)) (tally-some ∙ rw (not-true (replaced_at s pool c w i to) l, plain, ea, e))

      module _ (k : nests n.kind ≡ true) where
        nested : nests (node_at w i).kind ≡ true
        nested = rw e at k

        pub tally-field : (has_field s c n.field ≡ true) × (n.kind ≡ (want s c n.field).kind)
        tally-field = rw e (fits-known s c (node_at w i) (sound-tree s pool c w i to x.sound h).fits (nests-known (node_at w i).kind nested))

        pub tally-there : accepted s ≡ true → There s c → There s (within (want s c n.field))
        tally-there good t = there-want s good c n.field t tally-field.0 (rw tally-field.1 at k)

        -- a message or an entry
        pub tally-inner : live_at s pool c w i to ≡ true → (a : ℕ) → a ≤ n.end - (i + 1)
            → a ≡ count (eqb (want s c n.field).kind map_entry) (canon s (within (want s c n.field)) (tree_of pool (forest w (i + 1) n.end)))
            → Tally s pool c b w from to n.end (sum + a)
        unfolding live_at
        tally-inner l a small ea =
            let kind : (node_at w i).kind ≡ (want s c (node_at w i).field).kind = rw e at tally-field.1 in
            let o = tally-on in
            tally-next a (omega arith)
            (tally-some
            ∙ rw (not-true (replaced_at s pool c w i to) l, rank-known (node_at w i) (nests-known (node_at w i).kind nested), nested, ea, e, ← kind))

-- ---- the whole table

pub count-below : (s : List ℕ) (root : ℕ) (w pool : List ℕ) (v : Want) → within v ≡ in_message root → eqb v.kind map_entry ≡ false → (e : ℕ) → e ≡ table_end w
    → count (eqb v.kind map_entry) (canon s (within v) (from_on pool w 1 e)) ≡ count false (meaning s root w pool)
unfolding meaning below
count-below s root w pool v ec eb e ee = rw (ec, eb, ee)
