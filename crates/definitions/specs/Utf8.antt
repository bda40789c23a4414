-- UTF-8, byte by byte (T; the well-formed sequences are those of the Unicode Standard, table 3-7: no surrogates, no overlong
-- forms, at most U+10FFFF).
use Rattle.std.specs.Prelude.{ℕ, ◌-◌, Bool, List, [], ◌∷◌, eqb, leb}
use Rattle.definitions.specs.declared.Utf8.{Utf8}
use Rattle.definitions.specs.Basics.{when◌then◌otherwise◌, between}

-- so many bytes are still to come, and the next one lies from low to high
abbrev pub await : ℕ → ℕ → ℕ → Utf8
await left low high = record { left = left; low = low; high = high }

-- between two letters
abbrev pub whole : Utf8
whole = await 0 128 191

-- a byte is awaited that no byte is, so what has gone wrong stays wrong
abbrev pub broken : Utf8
broken = await 1 1 0

-- after a letter's first byte
unfoldable pub lead : ℕ → Utf8
lead b =
    when leb b 127 then (λ _. whole) otherwise λ _.
    when between 194 223 b then (λ _. await 1 128 191) otherwise λ _.
    when eqb b 224 then (λ _. await 2 160 191) otherwise λ _.
    when between 225 236 b then (λ _. await 2 128 191) otherwise λ _.
    when eqb b 237 then (λ _. await 2 128 159) otherwise λ _.
    when between 238 239 b then (λ _. await 2 128 191) otherwise λ _.
    when eqb b 240 then (λ _. await 3 144 191) otherwise λ _.
    when between 241 243 b then (λ _. await 3 128 191) otherwise λ _.
    when eqb b 244 then (λ _. await 3 128 143) otherwise λ _.
    broken

unfoldable pub step : Utf8 → ℕ → Utf8
step u b =
    when eqb u.left 0 then (λ _. lead b) otherwise λ _.
    when between u.low u.high b then (λ _. await (u.left - 1) 128 191) otherwise λ _.
    broken

unfoldable pub steps : Utf8 → List ℕ → Utf8
steps u [] = u
steps u (b ∷ bs) = steps (step u b) bs

-- the bytes are whole letters
unfoldable pub utf8 : List ℕ → Bool
utf8 bs = eqb (steps whole bs).left 0
