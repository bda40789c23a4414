-- The place of an offset in a text (02 §1): its line and its column, both counted from 1. The newline, byte 10 and no other, ends a
-- line; every other byte takes one column. The end of the text is the place after its last byte.
use Rattle.std.specs.Prelude.{ℕ, suc, ◌+◌, List, [], ◌∷◌, eqb, take}
use Rattle.definitions.specs.declared.Place.{Place}
use Rattle.definitions.specs.Basics.{when◌then◌otherwise◌}

abbrev pub newline : ℕ
newline = 10

-- how many lines some bytes end
unfoldable pub newlines : List ℕ → ℕ
newlines [] = 0
newlines (b ∷ bs) = when eqb b newline then (λ _. suc (newlines bs)) otherwise λ _. newlines bs

-- how many bytes stand behind the last newline of some bytes; there were so many before them
unfoldable pub behind : ℕ → List ℕ → ℕ
behind n [] = n
behind n (b ∷ bs) = when eqb b newline then (λ _. behind 0 bs) otherwise λ _. behind (suc n) bs

abbrev pub place_of : List ℕ → ℕ → Place
place_of s at = record { offset = at; line = 1 + newlines (take at s); column = 1 + behind 0 (take at s) }
