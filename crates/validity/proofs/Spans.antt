-- A span of nodes, node by node: what a good one is, and what its first node and its next siblings have to do with it.
use Prim.Native.Nat.{ℕ, suc, ◌+◌, ◌-◌, ◌≤◌, ◌<◌, max}
use native.Mathlib.Omega.{arith}
use mathlib.Core.Bool.{Bool, true, false, ◌&&◌}
use mathlib.Core.Path.{◌≡◌, refl, sym, ◌∙◌}
use mathlib.Core.List.{List}
use lib.Dec.{eqb, ltb, leb}
use borrow.Author.Tests.{ltb-true, ltb-false, leb-true, eqb-true, eqb-false, le-leb, eq-eqb, ne_eqb}
use Rattle.definitions.specs.declared.Node.{Node}
use Rattle.definitions.specs.Scope.{Scope, want, within, nests, map_entry}
use Rattle.definitions.specs.Nodes.{node_at, Forest, tree, forest, tiles, depth}
use Rattle.definitions.specs.Validity.{field_fits, value_good, is_nil, is_pair, leaf_good, entry_good, forest_good}
use Rattle.laws.proofs.Lists.{and_parts, true-false, never_true}
use Rattle.laws.proofs.Forest.{end_of, Tiled, tiles-none, tiles-parts, tiles-made, forest-none, forest-some}
use Rattle.nodes.specs.Span.{node_good, span_good}
use Rattle.validity.proofs.Checks.{NodeGood, node-parts, node_made, entry_other}

-- two tests that pass alike are the same
pub alike : (a b : Bool) → (a ≡ true → b ≡ true) → (b ≡ true → a ≡ true) → a ≡ b
alike true b h k = sym (h refl)
alike false true h k = k refl
alike false false h k = refl

eqb-alike : (a b c d : ℕ) → (a ≡ b → c ≡ d) → (c ≡ d → a ≡ b) → eqb a b ≡ eqb c d
eqb-alike a b c d h k = alike (eqb a b) (eqb c d) (λ t. eq-eqb c d (h (eqb-true a b t))) (λ t. eq-eqb a b (k (eqb-true c d t)))

-- ---- an entry's children

module _ (w : List ℕ) (i e : ℕ) (t : tiles w i e ≡ true) where
  pub pair-none : e ≤ i → false ≡ is_pair (forest w i e)
  unfolding is_pair
  pair-none h = rw (forest-none w i e h)

  module _ (h : i < e) (a : Node) (ea : a ≡ node_at w i) where
    first : forest w i e ≡ tree a (forest w (i + 1) a.end) (forest w a.end e)
    first = rw ea (forest-some w i e h t)

    rest : tiles w a.end e ≡ true
    rest = rw ea (tiles-parts w i e h t).rest

    pub pair_one : e ≤ a.end → false ≡ is_pair (forest w i e)
    unfolding is_pair
    pair_one k = rw (first, forest-none w a.end e k)

    module _ (k : a.end < e) (b : Node) (eb : b ≡ node_at w a.end) where
      second : forest w a.end e ≡ tree b (forest w (a.end + 1) b.end) (forest w b.end e)
      second = rw eb (forest-some w a.end e k rest)

      pub pair-more : b.end < e → false ≡ is_pair (forest w i e)
      unfolding is_pair
      pair-more l =
          let after : tiles w b.end e ≡ true = rw eb (tiles-parts w a.end e k rest).rest in
          rw (first, second, forest-some w b.end e l after)

      pub pair-two : e ≤ b.end → eqb (a.field + b.field) 1 ≡ is_pair (forest w i e)
      unfolding is_pair
      pair-two l = rw (first, second, forest-none w b.end e l)

      pub pair-key : e ≤ b.end → a.field ≡ 0 → eqb b.field 1 ≡ is_pair (forest w i e)
      pair-key l z = eqb-alike b.field 1 (a.field + b.field) 1 (λ q. omega arith) (λ q. omega arith) ∙ pair-two l

      pub pair-value : e ≤ b.end → a.field ≡ 1 → eqb b.field 0 ≡ is_pair (forest w i e)
      pair-value l z = eqb-alike b.field 0 (a.field + b.field) 1 (λ q. omega arith) (λ q. omega arith) ∙ pair-two l

      pub pair-other : e ≤ b.end → (a.field ≡ 0 → ⊥) → (a.field ≡ 1 → ⊥) → false ≡ is_pair (forest w i e)
      pair-other l y z = sym (ne_eqb (a.field + b.field) 1 (λ q. out q)) ∙ pair-two l
        where
          out : a.field + b.field ≡ 1 → ⊥
          out q = go (eqb a.field 0) refl
            where
              go : (v : Bool) → eqb a.field 0 ≡ v → ⊥
              go true g = y (eqb-true a.field 0 g)
              go false g = let x = eqb-false a.field 0 g in z (omega arith)

-- where the two children of an entry stand
module _ (w : List ℕ) (i e : ℕ) (t : tiles w i e ≡ true) (p : is_pair (forest w i e) ≡ true) where
  pub pair-some : i < e
  pair-some = go (ltb i e) refl
    where
      go : (b : Bool) → ltb i e ≡ b → i < e
      go true q = ltb-true i e q
      go false q = true-false (is_pair (forest w i e)) p (sym (pair-none w i e t (ltb-false i e q)))

  pub pair-next : end_of w i < e
  pair-next = go (ltb (end_of w i) e) refl
    where
      go : (b : Bool) → ltb (end_of w i) e ≡ b → end_of w i < e
      go true q = ltb-true (end_of w i) e q
      go false q =
          true-false (is_pair (forest w i e)) p (sym (pair_one w i e t pair-some (node_at w i) refl (ltb-false (end_of w i) e q)))

  pub pair_end : e ≤ end_of w (end_of w i)
  pair_end = go (ltb (end_of w (end_of w i)) e) refl
    where
      go : (b : Bool) → ltb (end_of w (end_of w i)) e ≡ b → e ≤ end_of w (end_of w i)
      go true q =
          true-false (is_pair (forest w i e)) p
          (sym
          (pair-more w i e t pair-some (node_at w i) refl pair-next (node_at w (end_of w i)) refl (ltb-true (end_of w (end_of w i)) e q)))
      go false q = ltb-false (end_of w (end_of w i)) e q

  pub pair-sum : (node_at w i).field + (node_at w (end_of w i)).field ≡ 1
  pair-sum =
      eqb-true ((node_at w i).field + (node_at w (end_of w i)).field) 1
      (pair-two w i e t pair-some (node_at w i) refl pair-next (node_at w (end_of w i)) refl pair_end ∙ p)

-- ---- a good forest, by its first node

pub record TreeGood (s pool : List ℕ) (c : Scope) (n : Node) (kids rest : Forest) : Type 0 where
  pub fits : field_fits s c n ≡ true
  pub value : value_good pool n ≡ true
  pub leaf : leaf_good n.kind kids ≡ true
  pub entry : entry_good n.kind kids ≡ true
  pub below : forest_good s pool (within (want s c n.field)) kids ≡ true
  pub after : forest_good s pool c rest ≡ true

module _ (s pool : List ℕ) (c : Scope) (n : Node) (kids rest : Forest) where
  pub tree-parts : forest_good s pool c (tree n kids rest) ≡ true → TreeGood s pool c n kids rest
  unfolding forest_good
  tree-parts h =
      let ff = field_fits s c n in
      let vg = value_good pool n in
      let lg = leaf_good n.kind kids in
      let eg = entry_good n.kind kids in
      let fk = forest_good s pool (within (want s c n.field)) kids in
      let fr = forest_good s pool c rest in
      let p₅ = and_parts (ff && vg && lg && eg && fk) fr h in
      let p₄ = and_parts (ff && vg && lg && eg) fk p₅.0 in
      let p₃ = and_parts (ff && vg && lg) eg p₄.0 in
      let p₂ = and_parts (ff && vg) lg p₃.0 in
      let p₁ = and_parts ff vg p₂.0 in
      record { fits = p₁.0; value = p₁.1; leaf = p₂.1; entry = p₃.1; below = p₄.1; after = p₅.1 }

  pub tree-made : TreeGood s pool c n kids rest → forest_good s pool c (tree n kids rest) ≡ true
  unfolding forest_good
  tree-made g = rw (g.fits, g.value, g.leaf, g.entry, g.below, g.after)

-- ---- a good span

pub record GoodSpan (s pool : List ℕ) (c : Scope) (left : ℕ) (w : List ℕ) (i e : ℕ) : Type 0 where
  pub tiled : tiles w i e ≡ true
  pub good : forest_good s pool c (forest w i e) ≡ true
  pub shallow : depth (forest w i e) ≤ left

module _ (s pool : List ℕ) (c : Scope) (left : ℕ) (w : List ℕ) (i e : ℕ) where
  pub span-parts : span_good s pool c left w i e ≡ true → GoodSpan s pool c left w i e
  unfolding span_good
  span-parts h = go (tiles w i e) refl
    where
      go : (t : Bool) → tiles w i e ≡ t → GoodSpan s pool c left w i e
      go true t =
          let p = and_parts (forest_good s pool c (forest w i e)) (leb (depth (forest w i e)) left) (rw (t, span_good) at h) in
          record { tiled = t; good = p.0; shallow = leb-true (depth (forest w i e)) left p.1 }
      go false t = true-false false (rw (t, span_good) at h) refl

  pub span-made : GoodSpan s pool c left w i e → span_good s pool c left w i e ≡ true
  unfolding span_good
  span-made g = rw (g.tiled, g.good, le-leb (depth (forest w i e)) left g.shallow)

-- the first node of a good span, with what lies under it
pub record Head (s pool : List ℕ) (c : Scope) (left : ℕ) (w : List ℕ) (i : ℕ) : Type 0 where
  pub fits : field_fits s c (node_at w i) ≡ true
  pub value : value_good pool (node_at w i) ≡ true
  pub deep : nests (node_at w i).kind ≡ true → 0 < left
  pub inner : nests (node_at w i).kind ≡ true → span_good s pool (within (want s c (node_at w i).field)) (left - 1) w (i + 1) (end_of w i) ≡ true
  pub entry : entry_good (node_at w i).kind (forest w (i + 1) (end_of w i)) ≡ true
  pub leaf : nests (node_at w i).kind ≡ false → end_of w i ≤ i + 1

module _ (n : Node) (kids rest : Forest) where
  depth-nests : nests n.kind ≡ true → depth (tree n kids rest) ≡ max (suc (depth kids)) (depth rest)
  unfolding depth
  depth-nests h = simp h

  depth-leaf : nests n.kind ≡ false → depth (tree n kids rest) ≡ depth rest
  unfolding depth
  depth-leaf h = simp h

  pub entry-pair : entry_good n.kind kids ≡ true → n.kind ≡ map_entry → is_pair kids ≡ true
  entry-pair h k = simp (eq-eqb n.kind map_entry k) at h

  leaf-nil : nests n.kind ≡ false → leaf_good n.kind kids ≡ true → is_nil kids ≡ true
  leaf-nil h k = rw h at k

is_nil-none : (w : List ℕ) (i e : ℕ) → tiles w i e ≡ true → is_nil (forest w i e) ≡ true → e ≤ i
unfolding is_nil
is_nil-none w i e t h = go (ltb i e) refl
  where
    go : (b : Bool) → ltb i e ≡ b → e ≤ i
    go true q = true-false false (rw (forest-some w i e (ltb-true i e q) t) at h) refl
    go false q = ltb-false i e q

module _ (s pool : List ℕ) (c : Scope) (left : ℕ) (w : List ℕ) where
  pub span_none : (i : ℕ) → span_good s pool c left w i i ≡ true
  unfolding forest_good depth
  span_none i =
      span-made s pool c left w i i
      record { tiled = tiles-none w i; good = rw (forest-none w i i (omega arith)); shallow = rw (forest-none w i i (omega arith)) (omega arith) }

  pub span-end : (i e : ℕ) → i ≤ e → e ≤ i → true ≡ span_good s pool c left w i e
  span-end i e h k = let q : e ≡ i = omega arith in rw q (sym (span_none i))

  module _ (i e : ℕ) (h : i < e) (g : GoodSpan s pool c left w i e) where
    pub first-tiled : Tiled w i e
    first-tiled = tiles-parts w i e h g.tiled

    first-tree : forest w i e ≡ tree (node_at w i) (forest w (i + 1) (end_of w i)) (forest w (end_of w i) e)
    first-tree = forest-some w i e h g.tiled

    first_good : TreeGood s pool c (node_at w i) (forest w (i + 1) (end_of w i)) (forest w (end_of w i) e)
    first_good = tree-parts s pool c (node_at w i) (forest w (i + 1) (end_of w i)) (forest w (end_of w i) e) (rw first-tree at g.good)

    first-depth : depth (tree (node_at w i) (forest w (i + 1) (end_of w i)) (forest w (end_of w i) e)) ≤ left
    first-depth = rw first-tree at g.shallow

    nested-depth : nests (node_at w i).kind ≡ true → max (suc (depth (forest w (i + 1) (end_of w i)))) (depth (forest w (end_of w i) e)) ≤ left
    nested-depth n = rw (depth-nests (node_at w i) (forest w (i + 1) (end_of w i)) (forest w (end_of w i) e) n) at first-depth

    rest-depth : depth (forest w (end_of w i) e) ≤ left
    rest-depth = go (nests (node_at w i).kind) refl
      where
        go : (t : Bool) → nests (node_at w i).kind ≡ t → depth (forest w (end_of w i) e) ≤ left
        go true n = let d = nested-depth n in omega arith
        go false n = rw (depth-leaf (node_at w i) (forest w (i + 1) (end_of w i)) (forest w (end_of w i) e) n) at first-depth

    pub first_rest : span_good s pool c left w (end_of w i) e ≡ true
    first_rest =
        span-made s pool c left w (end_of w i) e record { tiled = first-tiled.rest; good = first_good.after; shallow = rest-depth }

    pub first_head : Head s pool c left w i
    first_head = record {
      fits = first_good.fits;
      value = first_good.value;
      deep = λ n. let d = nested-depth n in omega arith;
      inner = λ n.
          let d = nested-depth n in
          span-made s pool (within (want s c (node_at w i).field)) (left - 1) w (i + 1) (end_of w i)
          record { tiled = first-tiled.kids; good = first_good.below; shallow = omega arith };
      entry = first_good.entry;
      leaf = λ n.
          is_nil-none w (i + 1) (end_of w i) first-tiled.kids
          (leaf-nil (node_at w i) (forest w (i + 1) (end_of w i)) (forest w (end_of w i) e) n first_good.leaf);
    }

  module _ (i e : ℕ) (a : i < end_of w i) (b : end_of w i ≤ e) (x : Head s pool c left w i) (g : GoodSpan s pool c left w (end_of w i) e) where
    inner-good : nests (node_at w i).kind ≡ true → GoodSpan s pool (within (want s c (node_at w i).field)) (left - 1) w (i + 1) (end_of w i)
    inner-good n = span-parts s pool (within (want s c (node_at w i).field)) (left - 1) w (i + 1) (end_of w i) (x.inner n)

    no_kids : nests (node_at w i).kind ≡ false → end_of w i ≡ i + 1
    no_kids n = let l = x.leaf n in omega arith

    next-tiled : Tiled w i e
    next-tiled = record { on = a; inside = b; kids = go (nests (node_at w i).kind) refl; rest = g.tiled }
      where
        go : (t : Bool) → nests (node_at w i).kind ≡ t → tiles w (i + 1) (end_of w i) ≡ true
        go true n = (inner-good n).tiled
        go false n = rw (no_kids n) (tiles-none w (i + 1))

    next-forest : forest w i e ≡ tree (node_at w i) (forest w (i + 1) (end_of w i)) (forest w (end_of w i) e)
    next-forest = forest-some w i e (omega arith) (tiles-made w i e next-tiled)

    kids-good : forest_good s pool (within (want s c (node_at w i).field)) (forest w (i + 1) (end_of w i)) ≡ true
    unfolding forest_good
    kids-good = go (nests (node_at w i).kind) refl
      where
        go : (t : Bool) → nests (node_at w i).kind ≡ t → forest_good s pool (within (want s c (node_at w i).field)) (forest w (i + 1) (end_of w i)) ≡ true
        go true n = (inner-good n).good
        go false n = rw (forest-none w (i + 1) (end_of w i) (x.leaf n))

    kids-leaf : leaf_good (node_at w i).kind (forest w (i + 1) (end_of w i)) ≡ true
    unfolding is_nil
    kids-leaf = go (nests (node_at w i).kind) refl
      where
        go : (t : Bool) → nests (node_at w i).kind ≡ t → leaf_good (node_at w i).kind (forest w (i + 1) (end_of w i)) ≡ true
        go true n = rw n
        go false n = rw (n, forest-none w (i + 1) (end_of w i) (x.leaf n))

    next-depth : depth (tree (node_at w i) (forest w (i + 1) (end_of w i)) (forest w (end_of w i) e)) ≤ left
    next-depth = go (nests (node_at w i).kind) refl
      where
        go : (t : Bool) → nests (node_at w i).kind ≡ t → depth (tree (node_at w i) (forest w (i + 1) (end_of w i)) (forest w (end_of w i) e)) ≤ left
        go true n =
            let d = (inner-good n).shallow in
            let l = x.deep n in
            rw (depth-nests (node_at w i) (forest w (i + 1) (end_of w i)) (forest w (end_of w i) e) n) (omega (arith, g.shallow))
        go false n = rw (depth-leaf (node_at w i) (forest w (i + 1) (end_of w i)) (forest w (end_of w i) e) n) g.shallow

    pub next-good : span_good s pool c left w i e ≡ true
    next-good =
        span-made s pool c left w i e
        record {
          tiled = tiles-made w i e next-tiled;
          good = rw next-forest
              (tree-made s pool c (node_at w i) (forest w (i + 1) (end_of w i)) (forest w (end_of w i) e)
              record {
                fits = x.fits;
                value = x.value;
                leaf = kids-leaf;
                entry = x.entry;
                below = kids-good;
                after = g.good;
              });
          shallow = rw next-forest next-depth;
        }

-- ---- one turn of the walk over a span, at its first node

module _ (s pool : List ℕ) (c : Scope) (left : ℕ) (w : List ℕ) (i e : ℕ) (h : i < e) (n : Node) (en : n ≡ node_at w i) where
  -- a span that is not good, by what one that is good has
  refuted : (GoodSpan s pool c left w i e → ⊥) → false ≡ span_good s pool c left w i e
  refuted k = sym (never_true (span_good s pool c left w i e) (λ t. k (span-parts s pool c left w i e t)))

  first-node : GoodSpan s pool c left w i e → node_good s pool c i e (node_at w i) ≡ true
  first-node g =
      let t = first-tiled s pool c left w i e h g in
      let x = first_head s pool c left w i e h g in
      node_made s pool c i e (node_at w i) record { on = t.on; inside = t.inside; fits = x.fits; value = x.value; leaf = x.leaf }

  pub turn-bad : node_good s pool c i e n ≡ false → false ≡ span_good s pool c left w i e
  turn-bad k = refuted (λ g. true-false (node_good s pool c i e n) (rw en (first-node g)) k)

  pub turn-deep : nests n.kind ≡ true → left ≡ 0 → false ≡ span_good s pool c left w i e
  turn-deep k z = refuted (λ g. let l = (first_head s pool c left w i e h g).deep (rw en at k) in omega arith)

  pub turn-inner : nests n.kind ≡ true → span_good s pool (within (want s c n.field)) (left - 1) w (i + 1) n.end ≡ false
      → false ≡ span_good s pool c left w i e
  turn-inner k z =
      refuted (λ g. true-false (span_good s pool (within (want s c n.field)) (left - 1) w (i + 1) n.end) (rw en ((first_head s pool c left w i e h g).inner (rw en at k))) z)

  pub turn-entry : entry_good n.kind (forest w (i + 1) n.end) ≡ false → false ≡ span_good s pool c left w i e
  turn-entry z =
      refuted (λ g. true-false (entry_good n.kind (forest w (i + 1) n.end)) (rw en (first_head s pool c left w i e h g).entry) z)

  module _ (k : node_good s pool c i e n ≡ true) where
    node-is : NodeGood s pool c i e (node_at w i)
    node-is = rw en at (node-parts s pool c i e n k)

    onward : Head s pool c left w i → span_good s pool c left w i e ≡ span_good s pool c left w n.end e
    onward x =
        alike (span_good s pool c left w i e) (span_good s pool c left w n.end e)
        (λ t. rw en (first_rest s pool c left w i e h (span-parts s pool c left w i e t)))
        (λ t. next-good s pool c left w i e node-is.on node-is.inside x (span-parts s pool c left w (end_of w i) e (rw en at t)))

    pub turn-nests : nests n.kind ≡ true → 0 < left → span_good s pool (within (want s c n.field)) (left - 1) w (i + 1) n.end ≡ true
        → entry_good n.kind (forest w (i + 1) n.end) ≡ true → span_good s pool c left w i e ≡ span_good s pool c left w n.end e
    turn-nests m d y p =
        onward record {
          fits = node-is.fits;
          value = node-is.value;
          deep = λ q. d;
          inner = λ q. rw en at y;
          entry = rw en at p;
          leaf = node-is.leaf;
        }

    pub turn-value : nests n.kind ≡ false → span_good s pool c left w i e ≡ span_good s pool c left w n.end e
    turn-value m =
        onward record {
          fits = node-is.fits;
          value = node-is.value;
          deep = λ q. true-false (nests n.kind) (rw en q) m;
          inner = λ q. true-false (nests n.kind) (rw en q) m;
          entry = sym (entry_other (node_at w i).kind (forest w (i + 1) (end_of w i)) (λ q. true-false (nests n.kind) (entry-nests n.kind (rw en q)) m));
          leaf = node-is.leaf;
        }
      where
        entry-nests : (v : ℕ) → v ≡ map_entry → nests v ≡ true
        entry-nests v q = rw q
