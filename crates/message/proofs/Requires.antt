-- The required check, node by node: whether a message's required fields have a value, and the walk over the live messages and entries
-- of a span.
use Prim.Native.Nat.{ℕ, ◌+◌, ◌≤◌, ◌<◌}
use native.Mathlib.Omega.{arith}
use mathlib.Core.Bool.{Bool, true, false, ◌&&◌, ◌||◌, not}
use mathlib.Core.Path.{◌≡◌, refl, sym, ◌∙◌}
use mathlib.Core.List.{List}
use borrow.Author.Tests.{not-true, not-false}
use Rattle.std.proofs.Common.{length}
use Rattle.std.specs.Bool.{MatchBool}
use Rattle.std.specs.List.{AllWithin, HoldsAt, range_with_len}
use Rattle.std.proofs.lemmas.List.FromFn.{length-range_with_len, get_or-range_with_len}
use Rattle.definitions.specs.declared.Node.{Node}
use Rattle.definitions.specs.declared.Want.{Want}
use Rattle.definitions.specs.declared.Span.{Span}
use Rattle.definitions.specs.Basics.{when◌then◌otherwise◌, all}
use Rattle.definitions.specs.Image.{message, field, is_required, accepted}
use Rattle.definitions.specs.Scope.{Scope, in_message, want, within, has_field, nests, map_entry}
use Rattle.definitions.specs.Nodes.{node_at, table_end, forest}
use Rattle.definitions.specs.Validity.{below}
use Rattle.definitions.specs.Live.{Tree, rank_of, tree_of, has, sharing, replaced, canon, meaning}
use Rattle.definitions.specs.Required.{filled, filled_in, complete}
use Rattle.laws.proofs.Lists.{all_made, all-fails}
use Rattle.laws.proofs.Forest.{end_of, tiles-le}
use Rattle.laws.proofs.Canon.{filled_at, live_below, complete-canon}
use Rattle.nodes.specs.Span.{There, Sound}
use Rattle.live.specs.Live.{live_at}
use Rattle.nodes.proofs.Scopes.{within-entry, within-message, there-want, nests-known}
use Rattle.validity.proofs.Checks.{fits-known}
use Rattle.nodes.proofs.Ranks.{rank-known}
use Rattle.live.proofs.Sounds.{sound-tiled, sound-tree, sound-rest, sound-kids}
use Rattle.live.proofs.Trees.{tree-none, tree-some}
use Rattle.live.proofs.Lives.{kids_of, from_on}

-- ---- the required fields of a message

-- the field is not required, or has a value
abbrev pub given : List ℕ → Tree → ℕ → Bool
given s t i = not (is_required (field s i)) || has i t

-- a test that passes at all numbers of a range, or fails at one
pub all-over : (p : ℕ → Bool) (first count : ℕ) (r : Bool)
    → MatchBool r (AllWithin (λ i. p i ≡ true) (range_with_len first count) 0 (length (range_with_len first count))) ((k : ℕ) × (k < length (range_with_len first count)) × HoldsAt (λ i. p i ≡ false) (range_with_len first count) k)
    → r ≡ all count (λ k. p (first + k))
all-over p first count true h =
    sym (all_made count (λ k. p (first + k))
    (λ k l. rw (get_or-range_with_len first count k 0 l) at (h k 0 (omega arith) (omega (arith, length-range_with_len first count)))))
all-over p first count false h =
    let l : h.0 < count = omega (arith, length-range_with_len first count, h.1) in
    sym (all-fails count (λ k. p (first + k)) h.0 l (rw (get_or-range_with_len first count h.0 0 l) at (h.2 0)))

module _ (s : List ℕ) (w : Want) (t : Tree) where
  pub filled-entry : w.kind ≡ map_entry → true ≡ filled_in s (within w) t
  unfolding filled_in
  filled-entry h = rw (within-entry w h)

  pub filled-all : (w.kind ≡ map_entry → ⊥) → (run : Span) → run ≡ message s w.reference → (r : Bool) → r ≡ all run.count (λ k. given s t (run.first + k)) → r ≡ filled_in s (within w) t
  unfolding filled_in filled
  filled-all h run e r q = rw (within-message w h, ← e) q

-- ---- the live messages and entries of a span

-- a later sibling takes the place of node i
abbrev replaced_at : (s pool : List ℕ) → Scope → (w : List ℕ) → (i e : ℕ) → Bool
replaced_at s pool c w i e = replaced (sharing s c (rank_of (node_at w i))) (rank_of (node_at w i)) (kids_of pool w i) (from_on pool w (end_of w i) e)

pub record Walk (s pool : List ℕ) (c : Scope) (w : List ℕ) (from to i : ℕ) : Type 0 where
  pub on : from ≤ i
  pub inside : i ≤ to
  pub sound : Sound s pool c w i to
  pub alike : complete s c (canon s c (from_on pool w from to)) ≡ live_below s c (from_on pool w i to)

module _ (s pool : List ℕ) (c : Scope) (w : List ℕ) (from to : ℕ) (g : Sound s pool c w from to) where
  pub walk-not : filled_in s c (from_on pool w from to) ≡ false → false ≡ complete s c (canon s c (from_on pool w from to))
  walk-not h = rw (complete-canon s c (from_on pool w from to), h)

  pub walk_start : filled_in s c (from_on pool w from to) ≡ true → Walk s pool c w from to from
  walk_start h = record {
    on = omega arith;
    inside = tiles-le w from to g.tiled;
    sound = g;
    alike = rw (complete-canon s c (from_on pool w from to), h);
  }

module _ (s pool : List ℕ) (c : Scope) (w : List ℕ) (from to i : ℕ) (x : Walk s pool c w from to i) where
  pub walk_end : to ≤ i → true ≡ complete s c (canon s c (from_on pool w from to))
  unfolding live_below
  walk_end h = rw (x.alike, tree-none pool w i to h)

  module _ (h : i < to) (n : Node) (e : n ≡ node_at w i) where
    walk-some : live_below s c (from_on pool w i to)
        ≡ ((when replaced_at s pool c w i to
        then (λ _. true)
        otherwise λ _. filled_at s c (rank_of (node_at w i)) (node_at w i).kind (canon s (within (want s c (rank_of (node_at w i)))) (kids_of pool w i)))
        && live_below s c (from_on pool w (end_of w i) to))
    unfolding live_below
    walk-some = rw (tree-some pool w i to h x.sound.tiled)

    pub walk-on : i < n.end
    walk-on = rw e (sound-tiled s pool c w i to x.sound h).on

    pub walk-kids : Sound s pool (within (want s c n.field)) w (i + 1) n.end
    walk-kids = rw e (sound-kids s pool c w i to x.sound h)

    pub walk-room : n.end ≤ to
    walk-room = rw e (sound-tiled s pool c w i to x.sound h).inside

    walk-next : live_below s c (from_on pool w i to) ≡ live_below s c (from_on pool w (end_of w i) to) → Walk s pool c w from to n.end
    walk-next q = record {
      on = let l = walk-on in omega (arith, x.on);
      inside = walk-room;
      sound = rw e (sound-rest s pool c w i to x.sound h);
      alike = x.alike ∙ rw e q;
    }

    -- a value that holds no nodes
    pub walk-value : nests n.kind ≡ false → Walk s pool c w from to n.end
    walk-value k = walk-next (walk-some ∙ go (replaced_at s pool c w i to) refl)
      where
        plain : nests (node_at w i).kind ≡ false
        plain = rw e at k

        go : (b : Bool) → replaced_at s pool c w i to ≡ b
            → ((when replaced_at s pool c w i to
            then (λ _. true)
            otherwise λ _. filled_at s c (rank_of (node_at w i)) (node_at w i).kind (canon s (within (want s c (rank_of (node_at w i)))) (kids_of pool w i)))
            && live_below s c (from_on pool w (end_of w i) to))
            ≡ live_below s c (from_on pool w (end_of w i) to)
        go true q = rw q
        go false q = rw (q, plain)

    -- one that is replaced
    pub walk-gone : live_at s pool c w i to ≡ false → Walk s pool c w from to n.end
    unfolding live_at
    walk-gone l = walk-next (walk-some ∙ rw (not-false (replaced_at s pool c w i to) l))

    module _ (k : nests n.kind ≡ true) where
      nested : nests (node_at w i).kind ≡ true
      nested = rw e at k

      pub walk_field : (has_field s c n.field ≡ true) × (n.kind ≡ (want s c n.field).kind)
      walk_field = rw e (fits-known s c (node_at w i) (sound-tree s pool c w i to x.sound h).fits (nests-known (node_at w i).kind nested))

      pub walk-there : accepted s ≡ true → There s c → There s (within (want s c n.field))
      walk-there good t = there-want s good c n.field t walk_field.0 (rw walk_field.1 at k)

      walk-inner : live_at s pool c w i to ≡ true
          → live_below s c (from_on pool w i to)
          ≡ (complete s (within (want s c n.field)) (canon s (within (want s c n.field)) (tree_of pool (forest w (i + 1) n.end)))
          && live_below s c (from_on pool w (end_of w i) to))
      unfolding live_at
      walk-inner l = walk-some ∙ rw (not-true (replaced_at s pool c w i to) l, rank-known (node_at w i) (nests-known (node_at w i).kind nested), nested, e)

      module _ (l : live_at s pool c w i to ≡ true) where
        pub walk-live : complete s (within (want s c n.field)) (canon s (within (want s c n.field)) (tree_of pool (forest w (i + 1) n.end))) ≡ true
            → Walk s pool c w from to n.end
        walk-live d = walk-next (walk-inner l ∙ rw d)

        pub walk-missing : complete s (within (want s c n.field)) (canon s (within (want s c n.field)) (tree_of pool (forest w (i + 1) n.end))) ≡ false
            → false ≡ complete s c (canon s c (from_on pool w from to))
        walk-missing d = sym (x.alike ∙ walk-inner l ∙ rw d)

-- ---- the whole table

pub meaning-below : (s : List ℕ) (root : ℕ) (w pool : List ℕ) (c : Scope) → c ≡ in_message root → (e : ℕ) → e ≡ table_end w
    → complete s c (canon s c (from_on pool w 1 e)) ≡ complete s (in_message root) (meaning s root w pool)
unfolding meaning below
meaning-below s root w pool c ec e ee = rw (ec, ee)
