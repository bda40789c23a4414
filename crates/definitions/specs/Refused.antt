-- Refusals by name for their numbers (H, "Refusal numbers"), and numbers for the names.
use Rattle.std.specs.Prelude.{ℕ, zero, suc}
use Rattle.definitions.specs.declared.Place.{Place}
use Rattle.definitions.specs.declared.Refused.{Refused}
use Rattle.definitions.specs.declared.refusals.Refusal.{Refusal}
use Rattle.definitions.specs.declared.refusals.Refusal.TheVariants as refusal
use Rattle.definitions.specs.Refusals.{bad_schema, no_message, text_too_long, bad_token, other_expected, unknown_field, unknown_value, twice, overflow, not_bool, bad_string, too_deep, nodes_short, pool_short, bad_table, buffer_short, required_missing, no_value}

abbrev pub number_of : Refusal → ℕ
number_of refusal.BadSchema = bad_schema
number_of refusal.NoMessage = no_message
number_of refusal.TextTooLong = text_too_long
number_of refusal.BadToken = bad_token
number_of refusal.OtherExpected = other_expected
number_of refusal.UnknownField = unknown_field
number_of refusal.UnknownValue = unknown_value
number_of refusal.Twice = twice
number_of refusal.Overflow = overflow
number_of refusal.NotBool = not_bool
number_of refusal.BadString = bad_string
number_of refusal.TooDeep = too_deep
number_of refusal.NodesShort = nodes_short
number_of refusal.PoolShort = pool_short
number_of refusal.BadTable = bad_table
number_of refusal.BufferShort = buffer_short
number_of refusal.RequiredMissing = required_missing
number_of refusal.NoValue = no_value

-- the refusal of a number, from 1 up (a pattern takes no numeral); any other number stands for the last one
abbrev pub refusal_of : ℕ → Refusal
refusal_of (suc zero) = refusal.BadSchema
refusal_of (suc (suc zero)) = refusal.NoMessage
refusal_of (suc (suc (suc zero))) = refusal.TextTooLong
refusal_of (suc (suc (suc (suc zero)))) = refusal.BadToken
refusal_of (suc (suc (suc (suc (suc zero))))) = refusal.OtherExpected
refusal_of (suc (suc (suc (suc (suc (suc zero)))))) = refusal.UnknownField
refusal_of (suc (suc (suc (suc (suc (suc (suc zero))))))) = refusal.UnknownValue
refusal_of (suc (suc (suc (suc (suc (suc (suc (suc zero)))))))) = refusal.Twice
refusal_of (suc (suc (suc (suc (suc (suc (suc (suc (suc zero))))))))) = refusal.Overflow
refusal_of (suc (suc (suc (suc (suc (suc (suc (suc (suc (suc zero)))))))))) = refusal.NotBool
refusal_of (suc (suc (suc (suc (suc (suc (suc (suc (suc (suc (suc zero))))))))))) = refusal.BadString
refusal_of (suc (suc (suc (suc (suc (suc (suc (suc (suc (suc (suc (suc zero)))))))))))) = refusal.TooDeep
refusal_of (suc (suc (suc (suc (suc (suc (suc (suc (suc (suc (suc (suc (suc zero))))))))))))) = refusal.NodesShort
refusal_of (suc (suc (suc (suc (suc (suc (suc (suc (suc (suc (suc (suc (suc (suc zero)))))))))))))) = refusal.PoolShort
refusal_of (suc (suc (suc (suc (suc (suc (suc (suc (suc (suc (suc (suc (suc (suc (suc zero))))))))))))))) = refusal.BadTable
refusal_of (suc (suc (suc (suc (suc (suc (suc (suc (suc (suc (suc (suc (suc (suc (suc (suc zero)))))))))))))))) = refusal.BufferShort
refusal_of (suc (suc (suc (suc (suc (suc (suc (suc (suc (suc (suc (suc (suc (suc (suc (suc (suc zero))))))))))))))))) = refusal.RequiredMissing
refusal_of n = refusal.NoValue

abbrev pub refused_as : ℕ → Place → Refused
refused_as why place = record { why = refusal_of why; at = place }
