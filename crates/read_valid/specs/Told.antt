-- Where a refusal points (02 §1).
--
-- A read that is refused 4 to 12 points into its text: the place has the line and the column of its offset, which is at most the text's
-- length. Every other refusal, of any call, has line 0 and column 0. Nothing is presumed.
use Rattle.std.specs.Prelude.{ℕ, ◌≤◌, ◌<◌, ◌≡◌, ◌⊎◌, List, length}
use Rattle.definitions.specs.declared.Place.{Place}
use Rattle.definitions.specs.Refusals.{Answer, given, denied, bad_token, too_deep}
use Rattle.definitions.specs.Places.{place_of}

-- a place of a text, or its end
pub record Points (s : List ℕ) (p : Place) : Type 0 where
  pub is : p ≡ place_of s p.offset
  pub inside : p.offset ≤ length s

-- no place in a text
pub record Bare (p : Place) : Type 0 where
  pub line : p.line ≡ 0
  pub column : p.column ≡ 0

-- a read's refusal: 4 to 12 point into the text, others do not
abbrev pub Told : {A : Type 0} → List ℕ → Answer A → Type 0
Told s (given a) = Unit {0}
Told s (denied why p) =
    ((bad_token ≤ why) × (why ≤ too_deep) × Points s p) ⊎ (((why < bad_token) ⊎ (too_deep < why)) × Bare p)

-- the refusal of a call that reads no text
abbrev pub Untold : {A : Type 0} → Answer A → Type 0
Untold (given a) = Unit {0}
Untold (denied why p) = Bare p
