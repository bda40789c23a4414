-- Access to a string or bytes value (H, "Refusal numbers" 18): one call gives the number, another lends the value's bytes.
use Rattle.std.specs.Prelude.{ℕ, Bool, ◌&&◌, List, [], ltb}
use Rattle.definitions.specs.Basics.{when◌then◌otherwise◌}
use Rattle.definitions.specs.Refusals.{Answer, given, denied, unplaced, bad_table, no_value}
use Rattle.definitions.specs.Nodes.{node_at, table_end, is_run, run_of}
use Rattle.definitions.specs.Validity.{valid}
use Rattle.definitions.specs.Calls.{barred, unbarred}

-- there is such a node, and its kind is 6, 7 or 13
unfoldable pub is_value : List ℕ → ℕ → Bool
is_value w i = ltb i (table_end w) && is_run (node_at w i).kind

-- 1, 2, 15, 18
unfoldable pub value_answer : (schema : List ℕ) (root : ℕ) (w pool : List ℕ) (i : ℕ) → Answer (List ℕ)
value_answer schema root w pool i =
    unbarred (barred schema root (λ _. valid schema root w pool) bad_table)
    (λ _. when is_value w i then (λ _. given (run_of pool (node_at w i))) otherwise λ _. denied no_value (unplaced 0))

-- the bytes that are lent, empty when refused
abbrev pub lent : Answer (List ℕ) → List ℕ
lent (given bs) = bs
lent (denied why at) = []

unfoldable pub value_bytes : (schema : List ℕ) (root : ℕ) (w pool : List ℕ) (i : ℕ) → List ℕ
value_bytes schema root w pool i = lent (value_answer schema root w pool i)
