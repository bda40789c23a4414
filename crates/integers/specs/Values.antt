-- What an answer says of an integer: its value within the greatest magnitude of its type.
use Rattle.std.specs.Prelude.{ℕ, ◌-◌, Bool, leb, Option, Some, None}
use Rattle.definitions.specs.Basics.{when◌then◌otherwise◌}
use Rattle.definitions.specs.Nodes.{word64}
use Rattle.definitions.specs.Integers.{signed}

-- the greatest value of 64 bits
abbrev pub greatest : ℕ
greatest = word64 - 1

-- a magnitude up to the greatest is its 64 bits, with its sign; any other is over
unfoldable pub integer_of : Bool → ℕ → ℕ → Option ℕ
integer_of negative most v = when leb v most then (λ _. Some (signed negative v)) otherwise λ _. None
