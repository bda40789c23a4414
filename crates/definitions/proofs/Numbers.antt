-- Refusals and their numbers tell each other.
use Prim.Native.Nat.{◌+◌}
use mathlib.Core.Bool.{true}
use mathlib.Core.Path.{◌≡◌, refl}
use Rattle.std.specs.Prelude.{eqb}
use Rattle.definitions.specs.Basics.{all}
use Rattle.definitions.specs.declared.refusals.Refusal.{Refusal}
use Rattle.definitions.specs.declared.refusals.Refusal.TheVariants as refusal
use Rattle.definitions.specs.Refused.{number_of, refusal_of}

-- a refusal's number gives the refusal back
pub named-by-number : (r : Refusal) → refusal_of (number_of r) ≡ r
named-by-number refusal.BadSchema = refl
named-by-number refusal.NoMessage = refl
named-by-number refusal.TextTooLong = refl
named-by-number refusal.BadToken = refl
named-by-number refusal.OtherExpected = refl
named-by-number refusal.UnknownField = refl
named-by-number refusal.UnknownValue = refl
named-by-number refusal.Twice = refl
named-by-number refusal.Overflow = refl
named-by-number refusal.NotBool = refl
named-by-number refusal.BadString = refl
named-by-number refusal.TooDeep = refl
named-by-number refusal.NodesShort = refl
named-by-number refusal.PoolShort = refl
named-by-number refusal.BadTable = refl
named-by-number refusal.BufferShort = refl
named-by-number refusal.RequiredMissing = refl
named-by-number refusal.NoValue = refl

-- and each of the numbers 1 to 18 comes back from its refusal
pub number-of-named : all 18 (λ i. eqb (number_of (refusal_of (1 + i))) (1 + i)) ≡ true
unfolding all
number-of-named = refl
