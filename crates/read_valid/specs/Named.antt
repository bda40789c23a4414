-- What refuses has a name (H, "Refusal numbers").
--
-- Code answers a refusal by its name, the definitions by its number, and any number but 1 to 18 stands for the last name. Nothing is lost
-- by it: whatever any call is refused with, its name gives the number back. Nothing is presumed.
use Rattle.std.specs.Prelude.{◌≡◌}
use Rattle.definitions.specs.Refusals.{Answer, given, denied}
use Rattle.definitions.specs.Refused.{number_of, refusal_of}

-- the refusal of any call has a name: its number comes back from the name
abbrev pub Named : {A : Type 0} → Answer A → Type 0
Named (given a) = Unit {0}
Named (denied why p) = number_of (refusal_of why) ≡ why
