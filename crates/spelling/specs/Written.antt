-- What a print function leaves in the buffer that it is lent.
use Rattle.std.specs.Prelude.{◌≡◌, ℕ, ◌+◌, ◌<◌, ◌^◌, List, length}
use Rattle.std.proofs.lemmas.List.Edits.{sets}

-- the text stands from the place on, as far as there is room, and the answer is the place after it
pub record Written (before : List ℕ) (at : ℕ) (text after : List ℕ) (next : ℕ) : Type 0 where
  pub ends : next ≡ at + length text
  pub holds : after ≡ sets before at text

-- the place after the text is a number of 64 bits
pub record Room (at : ℕ) (text : List ℕ) : Type 0 where
  pub fits : at + length text < 2 ^ 64
