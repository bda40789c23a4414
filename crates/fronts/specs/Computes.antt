-- What a lent test computes.
use Rattle.std.specs.Prelude.{◌≡◌, ℕ, Bool}
use denote.Param.Members.{Shared}

-- each answer that the closure may give at a byte is the test's
abbrev pub Computes : {F : Type 0} → Shared F (ℕ × Unit {0}) Bool → F → (ℕ → Bool) → Type 0
Computes g f p = (b : ℕ) (r : Bool) → g.post f (b, tt) r → r ≡ p b
