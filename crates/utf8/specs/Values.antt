-- The letters that UTF-8 spells with one byte.
use Rattle.std.specs.Prelude.{ℕ, Bool, leb}

-- a letter of one byte
abbrev pub ascii : ℕ → Bool
ascii b = leb b 127
