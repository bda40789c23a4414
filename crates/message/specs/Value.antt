-- Access to a value of a valid table: the run of the pool that a node stands for.
use Rattle.std.specs.Prelude.{ℕ, ◌+◌, ◌≤◌, ◌≡◌, true, List, [], length, Option, Some, None}
use Rattle.definitions.specs.Basics.{when◌then◌otherwise◌}
use Rattle.definitions.specs.Nodes.{node_at, run_of}
use Rattle.definitions.specs.Validity.{root_good}
use Rattle.definitions.specs.Access.{is_value}
use Rattle.message.specs.declared.access.Run.{Run}

-- what a valid table has: a good root, and values that lie inside the pool
pub record Lendable (w pool : List ℕ) : Type 0 where
  pub root : root_good w ≡ true
  pub runs : (i : ℕ) → is_value w i ≡ true → (node_at w i).high + (node_at w i).low ≤ length pool

-- a value's start and length
unfoldable pub value_run : List ℕ → ℕ → Option Run
value_run w i = when is_value w i then (λ _. Some (record { start = (node_at w i).high; length = (node_at w i).low })) otherwise λ _. None

-- a value's bytes, none where there is no value
unfoldable pub lent_run : List ℕ → List ℕ → ℕ → List ℕ
lent_run w pool i = when is_value w i then (λ _. run_of pool (node_at w i)) otherwise λ _. []
