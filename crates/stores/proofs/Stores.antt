-- A loop that stores bytes one after another.
use mathlib.Core.Path.{◌≡◌, ◌∙◌, refl, ap}
use mathlib.Core.List.{List}
use Prim.Native.Nat.{ℕ, ◌≤◌, ◌<◌, ◌+◌}
use native.Mathlib.Omega.{arith}
use native.Mathlib.Numerals.{add-one}
use lib.ListN.{length, get_or, set, take}
use lib.Seq.{sets, length-sets, take-suc, take_all, length-take-le}
use Rattle.laws.proofs.Stores.{sets-snoc}

-- ---- the first i bytes are stored

module _ (part start : List ℕ) (at : ℕ) where
  pub record Stored (pool : List ℕ) (i : ℕ) : Type 0 where
    pub holds : pool ≡ sets start at (take i part)

  pub stored-start : Stored start 0
  stored-start = record { holds = refl }

  module _ (pool : List ℕ) (i : ℕ) (t : Stored pool i) where
    pub stored-length : length pool ≡ length start
    stored-length = ap length t.holds ∙ length-sets start at (take i part)

    pub stored_on : (pool₁ : List ℕ) → i < length part → pool₁ ≡ set pool (at + i) (get_or part i 0) → Stored pool₁ (i + 1)
    stored_on pool₁ h e =
        let q : at + length (take i part) ≡ at + i = ap (λ (k : ℕ). at + k) (length-take-le i part (omega arith)) in
        record { holds = e ∙ rw (t.holds, add-one, take-suc part i 0 h, sets-snoc, q) refl }

    pub stored-all : length part ≤ i → pool ≡ sets start at part
    stored-all h = t.holds ∙ ap (sets start at) (take_all i part h)
