-- What all calls have in common (H, "Refusal numbers"): a bad schema is refused first, then a root that is no message, then
-- what the call itself asks for; and a refused call changes nothing.
use Rattle.std.specs.Prelude.{ℕ, Bool, not, List}
use Rattle.std.proofs.Math.Option.{Option, none, some}
use Rattle.std.proofs.lemmas.List.Edits.{sets}
use Rattle.definitions.specs.Basics.{when◌then◌otherwise◌}
use Rattle.definitions.specs.Refusals.{Answer, given, denied, unplaced, bad_schema, no_message}
use Rattle.definitions.specs.Image.{accepted, is_message}

-- 1, 2, then the call's own first refusal, if its test fails
unfoldable pub barred : List ℕ → ℕ → (Unit {0} → Bool) → ℕ → Option ℕ
barred schema root test why =
    when not (accepted schema) then (λ _. some bad_schema) otherwise λ _.
    when not (is_message schema root) then (λ _. some no_message) otherwise λ _.
    when not (test tt) then (λ _. some why) otherwise λ _. none

abbrev pub unbarred : {A : Type 0} → Option ℕ → (Unit {0} → Answer A) → Answer A
unbarred (some why) rest = denied why (unplaced 0)
unbarred none rest = rest tt

-- what a lent room holds afterwards: what the call made, from the start on, the rest as it was; refused, all as it was
abbrev pub stored : {A : Type 0} → Answer A → List ℕ → (Unit {0} → List ℕ) → List ℕ
stored (denied why at) lent made = lent
stored (given a) lent made = sets lent 0 (made tt)
