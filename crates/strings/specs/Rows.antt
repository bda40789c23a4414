-- The table of escape letters, row by row.
use Rattle.std.specs.Prelude.{ℕ, List, [], ◌∷◌}

-- each letter with the byte after it
abbrev pub rows : List ℕ → List (ℕ × ℕ)
rows [] = []
rows (letter ∷ []) = []
rows (letter ∷ byte ∷ rest) = (letter, byte) ∷ rows rest
