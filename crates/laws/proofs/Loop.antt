-- A loop whose turns go forward: its equation, in which the count of turns no longer shows.
use mathlib.Core.Path.{◌≡◌, refl, ap}
use Prim.Native.Nat.{ℕ, zero, suc, ◌≤◌, ◌<◌, ◌-◌}
use mathlib.Core.List.{List}
use native.Mathlib.Omega.{arith}
use Rattle.definitions.specs.Loop.{Stand, Turn, stop, more, ahead, onward, turns, loop}

-- a turn that goes on from a stand inside a text of n bytes takes at least one of them, and stays inside
abbrev pub Forward : ℕ → (Stand → Turn) → Type 0
Forward n turn =
    (h k : Stand) (w b : List ℕ) → h.spot.at ≤ n → turn h ≡ more k w b → (h.spot.at < k.spot.at) × (k.spot.at ≤ n)

module _ (n : ℕ) (turn : Stand → Turn) (forward : Forward n turn) where
  -- any two counts of turns that are enough
  enough : (f g : ℕ) (h : Stand) → h.spot.at ≤ n → n - h.spot.at < f → n - h.spot.at < g → turns f turn h ≡ turns g turn h
  unfolding turns
  enough zero g h i hf hg = absurd (omega arith)
  enough (suc f) zero h i hf hg = absurd (omega arith)
  enough (suc f) (suc g) h i hf hg =
      go (turn h) refl (λ k x. enough f g k x.1 (omega (arith, x.0, x.1)) (omega (arith, x.0, x.1)))
    where
      go : (t : Turn) → turn h ≡ t
          → ((k : Stand) → (h.spot.at < k.spot.at) × (k.spot.at ≤ n) → turns f turn k ≡ turns g turn k)
          → onward (turns f turn) t ≡ onward (turns g turn) t
      go (stop o) e ih = refl
      go (more k w b) e ih = ap (ahead w b) (ih k (forward h k w b i e))

  pub loop-is : (h : Stand) → h.spot.at ≤ n → loop n turn h ≡ onward (loop n turn) (turn h)
  unfolding loop turns
  loop-is h i = go (turn h) refl
    where
      go : (t : Turn) → turn h ≡ t → onward (turns n turn) t ≡ onward (turns (suc n) turn) t
      go (stop o) e = refl
      go (more k w b) e =
          let x = forward h k w b i e in
          ap (ahead w b) (enough n (suc n) k x.1 (omega (arith, x.0, x.1)) (omega arith))
