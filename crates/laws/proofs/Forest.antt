-- The forest of a span of nodes and its tiling, in equations where the fuel no longer shows:
-- `tiles-none` and `tiles-some` (what a tiling of a span is), `tiles-parts` and `tiles-made` (its parts: `Tiled`), `tiles-le`;
-- `forest-none` (no node, no tree) and `forest-some` (of a tiled span: its first node, what lies under it, and its next siblings).
use Prim.Native.Nat.{ℕ, zero, suc, ◌+◌, ◌-◌, ◌≤◌, ◌<◌}
use native.Mathlib.Omega.{arith}
use mathlib.Core.Bool.{Bool, true, false, ◌&&◌}
use mathlib.Core.Path.{◌≡◌, refl, sym, ap₂, ◌∙◌}
use mathlib.Core.List.{List}
use lib.Dec.{eqb, ltb, leb}
use borrow.Author.Tests.{ltb-true, ltb-false, leb-true, lt-ltb, le-ltb, le-leb, eq-eqb, ne_eqb}
use Rattle.definitions.specs.Basics.{when◌then◌otherwise◌}
use Rattle.definitions.specs.Nodes.{node_at, empty, tree, grow, forest, tile_f, tiles}
use Rattle.laws.proofs.Lists.{and_parts, and-made, true-false, never_true}

-- the index just after a node's last descendant
abbrev pub end_of : List ℕ → ℕ → ℕ
end_of w i = (node_at w i).end

-- a node's end lies inside a span
abbrev pub end_fits : List ℕ → ℕ → ℕ → Bool
end_fits w i e = ltb i (end_of w i) && leb (end_of w i) e

-- a span that is not empty, with its first node's span and the span of its next siblings
pub record Tiled (w : List ℕ) (i e : ℕ) : Type 0 where
  pub on : i < end_of w i
  pub inside : end_of w i ≤ e
  pub kids : tiles w (i + 1) (end_of w i) ≡ true
  pub rest : tiles w (end_of w i) e ≡ true

module _ (w : List ℕ) where
  fits-parts : (i e : ℕ) → end_fits w i e ≡ true → (i < end_of w i) × (end_of w i ≤ e)
  fits-parts i e h =
      let p = and_parts (ltb i (end_of w i)) (leb (end_of w i) e) h in
      (ltb-true i (end_of w i) p.0, leb-true (end_of w i) e p.1)

  pub fits-made : (i e : ℕ) → i < end_of w i → end_of w i ≤ e → end_fits w i e ≡ true
  fits-made i e h k = and-made (ltb i (end_of w i)) (leb (end_of w i) e) (lt-ltb i (end_of w i) h) (le-leb (end_of w i) e k)

  -- ---- tilings

  tile_f-past : (g i e : ℕ) → e ≤ i → tile_f (suc g) w i e ≡ eqb i e
  unfolding tile_f
  tile_f-past g i e h = go (eqb i e) refl
    where
      out : end_fits w i e ≡ false
      out = never_true (end_fits w i e) (λ t. let p = fits-parts i e t in omega (arith, p.0, p.1))

      go : (t : Bool) → eqb i e ≡ t → tile_f (suc g) w i e ≡ t
      go true q = rw (q, tile_f)
      go false q = rw (q, out, tile_f)

  -- any two fuels that are enough tile alike
  tile_f-enough : (f g i e : ℕ) → e - i ≤ f → e - i ≤ g → tile_f f w i e ≡ tile_f g w i e
  unfolding tile_f
  tile_f-enough zero zero i e hf hg = refl
  tile_f-enough zero (suc g) i e hf hg = sym (tile_f-past g i e (omega arith))
  tile_f-enough (suc f) zero i e hf hg = tile_f-past f i e (omega arith)
  tile_f-enough (suc f) (suc g) i e hf hg = go (eqb i e) refl (end_fits w i e) refl (tile_f-enough f g)
    where
      go : (a : Bool) → eqb i e ≡ a → (b : Bool) → end_fits w i e ≡ b
          → ((j k : ℕ) → k - j ≤ f → k - j ≤ g → tile_f f w j k ≡ tile_f g w j k)
          → tile_f (suc f) w i e ≡ tile_f (suc g) w i e
      go true p b q ih = rw (p, tile_f)
      go false p true q ih =
          let x = fits-parts i e q in
          rw (p, q, tile_f)
          (ap₂ ◌&&◌ (ih (i + 1) (end_of w i) (omega (arith, x.0, x.1)) (omega (arith, x.0, x.1)))
          (ih (end_of w i) e (omega (arith, x.0, x.1)) (omega (arith, x.0, x.1))))
      go false p false q ih = rw (p, q, tile_f)

  pub tiles-none : (i : ℕ) → tiles w i i ≡ true
  unfolding tiles tile_f
  tiles-none i = tile_f-enough (i - i) 0 i i (omega arith) (omega arith) ∙ eq-eqb i i refl

  pub tiles-some : (i e : ℕ) → i < e
      → tiles w i e ≡ (when end_fits w i e then (λ _. tiles w (i + 1) (end_of w i) && tiles w (end_of w i) e) otherwise λ _. false)
  unfolding tiles tile_f
  tiles-some i e h =
      tile_f-enough (e - i) (suc (e - i)) i e (omega arith) (omega arith)
      ∙ rw (ne_eqb i e (λ q. omega arith), tile_f) (go (end_fits w i e) refl)
    where
      go : (b : Bool) → end_fits w i e ≡ b
          → ◌≡◌ {A = Bool}
          (when end_fits w i e then (λ _. tile_f (e - i) w (i + 1) (end_of w i) && tile_f (e - i) w (end_of w i) e) otherwise λ _. false)
          (when end_fits w i e then (λ _. tiles w (i + 1) (end_of w i) && tiles w (end_of w i) e) otherwise λ _. false)
      go true q =
          let x = fits-parts i e q in
          rw q
          (ap₂ ◌&&◌ (tile_f-enough (e - i) (end_of w i - (i + 1)) (i + 1) (end_of w i) (omega (arith, x.0, x.1)) (omega arith))
          (tile_f-enough (e - i) (e - end_of w i) (end_of w i) e (omega (arith, x.0, x.1)) (omega arith)))
      go false q = rw q

  -- nothing tiles backwards
  pub tiles-le : (i e : ℕ) → tiles w i e ≡ true → i ≤ e
  unfolding tiles tile_f
  tiles-le i e t = go (ltb e i) refl
    where
      go : (b : Bool) → ltb e i ≡ b → i ≤ e
      go true q =
          let h = ltb-true e i q in
          true-false (eqb i e) (sym (tile_f-enough (e - i) 0 i e (omega arith) (omega arith)) ∙ t) (ne_eqb i e (λ z. omega arith))
      go false q = ltb-false e i q

  pub tiles-parts : (i e : ℕ) → i < e → tiles w i e ≡ true → Tiled w i e
  tiles-parts i e h t = go (end_fits w i e) refl
    where
      go : (b : Bool) → end_fits w i e ≡ b → Tiled w i e
      go true q =
          let x = fits-parts i e q in
          let y = and_parts (tiles w (i + 1) (end_of w i)) (tiles w (end_of w i) e) (rw (tiles-some i e h, q) at t) in
          record { on = x.0; inside = x.1; kids = y.0; rest = y.1 }
      go false q = true-false (tiles w i e) t (rw (tiles-some i e h, q) refl)

  pub tiles-made : (i e : ℕ) → Tiled w i e → tiles w i e ≡ true
  tiles-made i e x =
      rw (tiles-some i e (omega (arith, x.on, x.inside)), fits-made i e x.on x.inside)
      (and-made (tiles w (i + 1) (end_of w i)) (tiles w (end_of w i) e) x.kids x.rest)

  -- ---- forests

  grow-past : (g i e : ℕ) → e ≤ i → grow g w i e ≡ empty
  unfolding grow
  grow-past zero i e h = refl
  grow-past (suc g) i e h = rw (le-ltb i e h, grow)

  -- any two fuels that are enough grow alike in a tiled span
  grow-enough : (f g i e : ℕ) → e - i ≤ f → e - i ≤ g → tiles w i e ≡ true → grow f w i e ≡ grow g w i e
  unfolding grow
  grow-enough zero g i e hf hg t = sym (grow-past g i e (omega arith))
  grow-enough (suc f) zero i e hf hg t = grow-past (suc f) i e (omega arith)
  grow-enough (suc f) (suc g) i e hf hg t = go (ltb i e) refl (grow-enough f g)
    where
      go : (b : Bool) → ltb i e ≡ b
          → ((j k : ℕ) → k - j ≤ f → k - j ≤ g → tiles w j k ≡ true → grow f w j k ≡ grow g w j k)
          → grow (suc f) w i e ≡ grow (suc g) w i e
      go true q ih =
          let x = tiles-parts i e (ltb-true i e q) t in
          rw (q, grow)
          (ap₂ (tree (node_at w i)) (ih (i + 1) (end_of w i) (omega (arith, x.on, x.inside)) (omega (arith, x.on, x.inside)) x.kids)
          (ih (end_of w i) e (omega (arith, x.on, x.inside)) (omega (arith, x.on, x.inside)) x.rest))
      go false q ih = rw (q, grow)

  pub forest-none : (i e : ℕ) → e ≤ i → forest w i e ≡ empty
  unfolding forest
  forest-none i e h = grow-past (e - i) i e h

  pub forest-some : (i e : ℕ) → i < e → tiles w i e ≡ true
      → forest w i e ≡ tree (node_at w i) (forest w (i + 1) (end_of w i)) (forest w (end_of w i) e)
  unfolding forest grow
  forest-some i e h t =
      let x = tiles-parts i e h t in
      grow-enough (e - i) (suc (e - i)) i e (omega arith) (omega arith) t
      ∙ rw (lt-ltb i e h, grow)
      (ap₂ (tree (node_at w i))
      (grow-enough (e - i) (end_of w i - (i + 1)) (i + 1) (end_of w i) (omega (arith, x.on, x.inside)) (omega arith) x.kids)
      (grow-enough (e - i) (e - end_of w i) (end_of w i) e (omega (arith, x.on, x.inside)) (omega arith) x.rest))
