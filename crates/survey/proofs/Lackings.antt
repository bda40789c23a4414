-- The first required field that lacks: of a message's own fields, and in the walk over the live messages and entries of a span.
use Prim.Native.Nat.{ℕ, ◌+◌, ◌≤◌, ◌<◌}
use native.Mathlib.Omega.{arith}
use mathlib.Core.Bool.{Bool, true, false, ◌&&◌, ◌||◌, not}
use mathlib.Core.Path.{◌≡◌, refl, sym, ap, ◌∙◌}
use mathlib.Core.List.{List}
use mathlib.Core.Option.{Option, none, some}
use Rattle.std.specs.Prelude.{None, is_some}
use Rattle.std.specs.Prelude as code
use borrow.Author.Tests.{not-true, not-false}
use Rattle.definitions.specs.declared.Node.{Node}
use Rattle.definitions.specs.declared.Want.{Want}
use Rattle.definitions.specs.declared.Span.{Span}
use Rattle.definitions.specs.Basics.{when◌then◌otherwise◌, find}
use Rattle.definitions.specs.Image.{message, field, is_required, accepted}
use Rattle.definitions.specs.Scope.{Scope, in_message, want, within, has_field, nests, map_entry}
use Rattle.definitions.specs.Nodes.{node_at, table_end, forest}
use Rattle.definitions.specs.Validity.{below}
use Rattle.definitions.specs.Live.{Tree, rank_of, tree_of, has, sharing, replaced}
use Rattle.laws.proofs.Forest.{end_of, tiles-le}
use Rattle.nodes.specs.Span.{There, Sound}
use Rattle.nodes.proofs.Scopes.{within-entry, within-message, there-want, nests-known}
use Rattle.nodes.proofs.Ranks.{rank-known}
use Rattle.validity.proofs.Checks.{fits-known}
use Rattle.live.specs.Live.{live_at}
use Rattle.live.proofs.Sounds.{sound-tiled, sound-tree, sound-rest, sound-kids}
use Rattle.live.proofs.Trees.{tree-none, tree-some}
use Rattle.live.proofs.Lives.{kids_of, from_on}
use Rattle.records.specs.Known.{option_of}
use Rattle.message.proofs.Requires.{given}
use Rattle.survey.specs.Survey.{lacks, lacking_in, ◌or_else◌, lacking_below, lacking}

-- ---- the first of two, by the code's answer for the first

module _ (o : Option ℕ) (r : code.Option ℕ) (e : r ≡ option_of o) where
  pub first-none : is_some r ≡ false → o ≡ none
  first-none h = go o e
    where
      go : (o : Option ℕ) → r ≡ option_of o → o ≡ none
      go none e = refl
      go (some i) e = cc (rw e at h)

  pub first-some : (p : Unit {0} → Option ℕ) → is_some r ≡ true → r ≡ option_of (o or_else p)
  first-some p h = go o e
    where
      go : (o : Option ℕ) → r ≡ option_of o → r ≡ option_of (o or_else p)
      go none e = cc (rw e at h)
      go (some i) e = e

-- ---- a message's own fields

-- a field that lacks is one that is not given
pub lacks_given : (s : List ℕ) (t : Tree) (i : ℕ) (b : Bool) → given s t i ≡ b → lacks s t i ≡ not b
unfolding lacks
lacks_given s t i b e = rw (← e) (go (is_required (field s i)) (has i t))
  where
    go : (a b : Bool) → (a && not b) ≡ not (not a || b)
    go true true = refl
    go true false = refl
    go false b = refl

module _ (s : List ℕ) (v : Want) (t : Tree) where
  pub lacking-entry : v.kind ≡ map_entry → None ≡ option_of (lacking_in s (within v) t)
  unfolding lacking_in
  lacking-entry h = rw (within-entry v h)

  pub lacking-own : (v.kind ≡ map_entry → ⊥) → (run : Span) → run ≡ message s v.reference → lacking_in s (within v) t ≡ find (lacks s t) run.first run.count
  unfolding lacking_in
  lacking-own h run e = rw (within-message v h, e)

-- ---- the live messages and entries of a span

-- a later sibling takes the place of node i
abbrev replaced_at : (s pool : List ℕ) → Scope → (w : List ℕ) → (i e : ℕ) → Bool
replaced_at s pool c w i e = replaced (sharing s c (rank_of (node_at w i))) (rank_of (node_at w i)) (kids_of pool w i) (from_on pool w (end_of w i) e)

pub record Walk (s pool : List ℕ) (c : Scope) (w : List ℕ) (from to i : ℕ) : Type 0 where
  pub on : from ≤ i
  pub inside : i ≤ to
  pub sound : Sound s pool c w i to
  pub alike : lacking s c (from_on pool w from to) ≡ lacking_below s c (from_on pool w i to)

module _ (s pool : List ℕ) (c : Scope) (w : List ℕ) (from to : ℕ) where
  module _ (r : code.Option ℕ) (e : r ≡ option_of (lacking_in s c (from_on pool w from to))) where
    pub walk-own : is_some r ≡ true → r ≡ option_of (lacking s c (from_on pool w from to))
    unfolding lacking
    walk-own h = first-some (lacking_in s c (from_on pool w from to)) r e (λ _. lacking_below s c (from_on pool w from to)) h

    pub walk_start : Sound s pool c w from to → is_some r ≡ false → Walk s pool c w from to from
    unfolding lacking
    walk_start g h = record {
      on = omega arith;
      inside = tiles-le w from to g.tiled;
      sound = g;
      alike = rw (first-none (lacking_in s c (from_on pool w from to)) r e h);
    }

module _ (s pool : List ℕ) (c : Scope) (w : List ℕ) (from to i : ℕ) (x : Walk s pool c w from to i) where
  pub walk_end : to ≤ i → None ≡ option_of (lacking s c (from_on pool w from to))
  unfolding lacking_below
  walk_end h = rw (x.alike, tree-none pool w i to h)

  module _ (h : i < to) (n : Node) (e : n ≡ node_at w i) where
    walk-some : lacking_below s c (from_on pool w i to)
        ≡ ((when nests (node_at w i).kind && not (replaced_at s pool c w i to)
        then (λ _. lacking s (within (want s c (rank_of (node_at w i)))) (kids_of pool w i))
        otherwise λ _. none)
        or_else λ _. lacking_below s c (from_on pool w (end_of w i) to))
    unfolding lacking_below lacking
    walk-some = rw (tree-some pool w i to h x.sound.tiled)

    pub walk-on : i < n.end
    walk-on = rw e (sound-tiled s pool c w i to x.sound h).on

    pub walk-kids : Sound s pool (within (want s c n.field)) w (i + 1) n.end
    walk-kids = rw e (sound-kids s pool c w i to x.sound h)

    pub walk-room : n.end ≤ to
    walk-room = rw e (sound-tiled s pool c w i to x.sound h).inside

    walk-next : lacking_below s c (from_on pool w i to) ≡ lacking_below s c (from_on pool w (end_of w i) to) → Walk s pool c w from to n.end
    walk-next q = record {
      on = let l = walk-on in omega (arith, x.on);
      inside = walk-room;
      sound = rw e (sound-rest s pool c w i to x.sound h);
      alike = x.alike ∙ rw e q;
    }

    -- a value that holds no nodes
    pub walk-value : nests n.kind ≡ false → Walk s pool c w from to n.end
    walk-value k =
        let plain : nests (node_at w i).kind ≡ false = rw e at k in
        walk-next (walk-some ∙ rw plain)

    module _ (k : nests n.kind ≡ true) where
      nested : nests (node_at w i).kind ≡ true
      nested = rw e at k

      -- one that is replaced
      pub walk-gone : live_at s pool c w i to ≡ false → Walk s pool c w from to n.end
      unfolding live_at
      walk-gone l = walk-next (walk-some ∙ rw (nested, not-false (replaced_at s pool c w i to) l))

      pub walk_field : (has_field s c n.field ≡ true) × (n.kind ≡ (want s c n.field).kind)
      walk_field = rw e (fits-known s c (node_at w i) (sound-tree s pool c w i to x.sound h).fits (nests-known (node_at w i).kind nested))

      pub walk-there : accepted s ≡ true → There s c → There s (within (want s c n.field))
      walk-there good t = there-want s good c n.field t walk_field.0 (rw walk_field.1 at k)

      walk-inner : live_at s pool c w i to ≡ true
          → lacking_below s c (from_on pool w i to)
          ≡ (lacking s (within (want s c n.field)) (tree_of pool (forest w (i + 1) n.end))
          or_else λ _. lacking_below s c (from_on pool w (end_of w i) to))
      unfolding live_at
      walk-inner l = walk-some ∙ rw (nested, not-true (replaced_at s pool c w i to) l, rank-known (node_at w i) (nests-known (node_at w i).kind nested), e)

      module _ (l : live_at s pool c w i to ≡ true) where
        module _ (r : code.Option ℕ) (d : r ≡ option_of (lacking s (within (want s c n.field)) (tree_of pool (forest w (i + 1) n.end)))) where
          pub walk-live : is_some r ≡ false → Walk s pool c w from to n.end
          walk-live h = walk-next (walk-inner l ∙ rw (first-none (lacking s (within (want s c n.field)) (tree_of pool (forest w (i + 1) n.end))) r d h))

          pub walk-found : is_some r ≡ true → r ≡ option_of (lacking s c (from_on pool w from to))
          walk-found h =
              first-some (lacking s (within (want s c n.field)) (tree_of pool (forest w (i + 1) n.end))) r d (λ _. lacking_below s c (from_on pool w (end_of w i) to)) h
              ∙ ap option_of (sym (x.alike ∙ walk-inner l))

-- ---- the whole table

pub lacking-below : (s : List ℕ) (root : ℕ) (w pool : List ℕ) (c : Scope) → c ≡ in_message root → (e : ℕ) → e ≡ table_end w
    → lacking s c (from_on pool w 1 e) ≡ lacking s (in_message root) (tree_of pool (below w))
unfolding below
lacking-below s root w pool c ec e ee = rw (ec, ee)
