-- Bit fields, most significant first (H, "Schema image").
use Rattle.std.specs.Prelude.{ℕ, zero, suc, ◌+◌, ◌-◌, ◌*◌, ◌/◌, ◌%◌, ◌^◌, List, get_or}

-- bit i of a list of bytes; bit 0 is the first byte's most significant
unfoldable pub bit : List ℕ → ℕ → ℕ
bit s i = get_or s (i / 8) 0 / 2 ^ (7 - i % 8) % 2

-- the field of so many bits that begins at bit i
unfoldable pub bits : List ℕ → ℕ → ℕ → ℕ
bits s i zero = 0
bits s i (suc w) = 2 * bits s i w + bit s (i + w)
