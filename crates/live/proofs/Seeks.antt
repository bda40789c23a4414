-- The walk over siblings in search of a rank, or of a rank and a key: what is left of them has it if and only if all of them do.
use Prim.Native.Nat.{ℕ, ◌≤◌, ◌<◌}
use mathlib.Core.Bool.{Bool, true, false}
use mathlib.Core.Path.{◌≡◌, refl, ◌∙◌, sym}
use mathlib.Core.List.{List, [], ◌∷◌}
use Rattle.std.specs.Prelude.{Option, Some, None}
use Rattle.std.specs.Fn.{Called}
use Rattle.std.specs.Iterator.{YieldsThen}
use Rattle.std.specs.List.{FoldsTo}
use Rattle.std.specs.Option.{MatchOption}
use denote.Param.Members.{Mut}
use Rattle.nodes.specs.declared.walk.Siblings.{Siblings}
use Rattle.nodes.specs.Walk.{Steps}
use borrow.Author.Tests.{eq-eqb, ne_eqb}
use Rattle.definitions.specs.declared.Node.{Node}
use Rattle.definitions.specs.Nodes.{node_at, tiles}
use Rattle.definitions.specs.Live.{rank_of, same_val, has, has_key}
use Rattle.live.specs.Live.{Entry, Mapped, key_in}
use Rattle.live.proofs.Sounds.{sound-tree, sound-rest, sound-entry}
use Rattle.live.proofs.Trees.{tree-none, tree-some}
use Rattle.live.proofs.Lives.{from_on, rank-entry}

-- ---- a rank

module _ (w : List ℕ) (r i to : ℕ) where
  pub has-none : to ≤ i → (pool : List ℕ) → has r (from_on pool w i to) ≡ false
  unfolding has
  has-none h pool = rw (tree-none pool w i to h)

  module _ (t : tiles w i to ≡ true) (h : i < to) (n : Node) (e : n ≡ node_at w i) where
    pub has-here : rank_of n ≡ r → (pool : List ℕ) → has r (from_on pool w i to) ≡ true
    unfolding has
    has-here q pool =
        let z : rank_of (node_at w i) ≡ r = rw e at q in
        rw (tree-some pool w i to h t, eq-eqb (rank_of (node_at w i)) r z)

    pub has-past : (rank_of n ≡ r → ⊥) → (pool : List ℕ) → has r (from_on pool w i to) ≡ has r (from_on pool w n.end to)
    unfolding has
    has-past q pool = rw (tree-some pool w i to h t, ne_eqb (rank_of (node_at w i)) r (λ z. q (rw e z)), e)

-- one step of the walk
abbrev steps : Siblings → Option (ℕ × Node) → Siblings → Type 0
steps s r t = Steps s.nodes.now s.at s.end r t.nodes.now t.at t.end

-- what `any` over siblings answers, where the closure tells a rank
pub any-has : {F : Type 0} {g : Mut F ((ℕ × Node) × Unit {0}) Bool} (r : ℕ) (pool : List ℕ) (s u : Siblings) (f : F) (b : Bool)
    → (xs : List (ℕ × Node)) × (o : Option (ℕ × Node)) × (j : F) × YieldsThen steps s xs o u × FoldsTo (λ p x q. Called g p (x, tt) false q) f xs j × MatchOption o (b ≡ false) (λ x. (b ≡ true) × ((h : F) × Called g j (x, tt) true h))
    → ((x : ℕ × Node) (q : F) → Called g f (x, tt) true q → rank_of x.1 ≡ r) → ((x : ℕ × Node) (q : F) → Called g f (x, tt) false q → (q ≡ f) × (rank_of x.1 ≡ r → ⊥))
    → b ≡ has r (from_on pool s.nodes.now s.at s.end)
any-has {F} {g} r pool s u f b d hit miss = go d.0 s d.1 d.2 d.3 d.4 d.5
  where
    go : (xs : List (ℕ × Node)) (s : Siblings) (o : Option (ℕ × Node)) (j : F) → YieldsThen steps s xs o u → FoldsTo (λ p x q. Called g p (x, tt) false q) f xs j → MatchOption o (b ≡ false) (λ x. (b ≡ true) × ((h : F) × Called g j (x, tt) true h))
        → b ≡ has r (from_on pool s.nodes.now s.at s.end)
    go [] s None j y z m = rw y.1 (m ∙ sym (has-none y.0.nodes.now r y.0.at y.0.end y.2.2.0 pool))
    go [] s (Some x) j y z m =
        rw y.1 (m.0 ∙ sym (has-here y.0.nodes.now r y.0.at y.0.end y.0.tiled y.2.2.0 x.1 y.2.2.2 (hit x m.1.0 (rw (← z) at m.1.1)) pool))
    go (x ∷ xs) s o j y z m =
        let k = y.1.1 in
        let p = miss x z.0 z.1 in
        let ih = go xs y.1.0 o j (y.0, y.1.2, y.2) (rw p.0 at z.2) m in
        (rw (k.0, k.1, k.2.3) at ih) ∙ sym (has-past s.nodes.now r s.at s.end s.tiled k.2.0 x.1 k.2.2 p.1 pool)

-- ---- a rank and a key

pub record Seek (pool w : List ℕ) (r k from to i : ℕ) : Type 0 where
  pub mapped : Mapped pool w r i to
  pub alike : has_key r (key_in w pool k) (from_on pool w from to) ≡ has_key r (key_in w pool k) (from_on pool w i to)

module _ (pool w : List ℕ) (r k from to : ℕ) where
  pub seek-start : Mapped pool w r from to → Seek pool w r k from to from
  seek-start m = record { mapped = m; alike = refl }

  module _ (i : ℕ) (x : Seek pool w r k from to i) where
    pub seek-end : to ≤ i → false ≡ has_key r (key_in w pool k) (from_on pool w from to)
    unfolding has_key
    seek-end h = rw (x.alike, tree-none pool w i to h)

    module _ (h : i < to) (n : Node) (e : n ≡ node_at w i) where
      onward : has_key r (key_in w pool k) (from_on pool w i to) ≡ has_key r (key_in w pool k) (from_on pool w n.end to) → Seek pool w r k from to n.end
      onward q = record {
        mapped = record {
          image = x.mapped.image;
          scope = x.mapped.scope;
          known = x.mapped.known;
          map = x.mapped.map;
          sound = rw e (sound-rest x.mapped.image pool x.mapped.scope w i to x.mapped.sound h);
        };
        alike = x.alike ∙ q;
      }

      pub seek-other : (rank_of n ≡ r → ⊥) → Seek pool w r k from to n.end
      unfolding has_key
      seek-other q = onward (rw (tree-some pool w i to h x.mapped.sound.tiled, ne_eqb (rank_of (node_at w i)) r (λ z. q (rw e z)), e))

      module _ (q : rank_of n ≡ r) where
        ranked : rank_of (node_at w i) ≡ r
        ranked = rw e at q

        pub seek-entry : Entry w pool i
        seek-entry =
            let f = (sound-tree x.mapped.image pool x.mapped.scope w i to x.mapped.sound h).fits in
            sound-entry x.mapped.image pool x.mapped.scope w i to x.mapped.sound h
            (rank-entry x.mapped.image x.mapped.scope (node_at w i) r f ranked x.mapped.known x.mapped.map)

        pub seek_found : same_val (key_in w pool i) (key_in w pool k) ≡ true → true ≡ has_key r (key_in w pool k) (from_on pool w from to)
        unfolding has_key key_in
        seek_found v = rw (x.alike, tree-some pool w i to h x.mapped.sound.tiled, eq-eqb (rank_of (node_at w i)) r ranked, v)

        pub seek-unlike : same_val (key_in w pool i) (key_in w pool k) ≡ false → Seek pool w r k from to n.end
        unfolding has_key key_in
        seek-unlike v = onward (rw (tree-some pool w i to h x.mapped.sound.tiled, eq-eqb (rank_of (node_at w i)) r ranked, v, e))
