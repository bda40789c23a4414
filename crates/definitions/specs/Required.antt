-- The required check (R, "Refusal numbers" 17): a required field missing in a live message, root included.
use Rattle.std.specs.Prelude.{ℕ, ◌+◌, Bool, true, ◌&&◌, ◌||◌, not, List}
use Rattle.definitions.specs.declared.Span.{Span}
use Rattle.definitions.specs.Basics.{when◌then◌otherwise◌, all}
use Rattle.definitions.specs.Refusals.{Answer, given, denied, unplaced, bad_table, required_missing}
use Rattle.definitions.specs.Image.{message, field, is_required}
use Rattle.definitions.specs.Scope.{Scope, in_message, in_entry, want, within, nests}
use Rattle.definitions.specs.Validity.{valid}
use Rattle.definitions.specs.Live.{Tree, nil, node, has, meaning}
use Rattle.definitions.specs.Calls.{barred, unbarred}

-- every required field of a run of fields has a value
unfoldable pub filled : List ℕ → Span → Tree → Bool
filled s r t = all r.count (λ i. not (is_required (field s (r.first + i))) || has (r.first + i) t)

unfoldable pub filled_in : List ℕ → Scope → Tree → Bool
filled_in s (in_message m) t = filled s (message s m) t
filled_in s (in_entry g) t = true

-- the same of every message and entry below
unfoldable pub filled_below : List ℕ → Scope → Tree → Bool
filled_below s c nil = true
filled_below s c (node r k v kids rest) =
    (when nests k
    then (λ _. filled_in s (within (want s c r)) kids && filled_below s (within (want s c r)) kids)
    otherwise λ _. true)
    && filled_below s c rest

-- of live values
unfoldable pub complete : List ℕ → Scope → Tree → Bool
complete s c t = filled_in s c t && filled_below s c t

-- 1, 2, 15, 17
unfoldable pub required_answer : (schema : List ℕ) (root : ℕ) (w pool : List ℕ) → Answer (Unit {0})
required_answer schema root w pool =
    unbarred (barred schema root (λ _. valid schema root w pool) bad_table)
    (λ _. when complete schema (in_message root) (meaning schema root w pool) then (λ _. given tt) otherwise λ _. denied required_missing (unplaced 0))
