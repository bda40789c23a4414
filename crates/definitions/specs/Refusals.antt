-- Refusal numbers by name (H, "Refusal numbers"), the limits that some of them speak of, and what a call answers.
use Rattle.std.specs.Prelude.{ℕ}
use Rattle.definitions.specs.declared.Place.{Place}

-- no place in the text, but the number that goes with a refusal: line 0, column 0 (02 §1)
abbrev pub unplaced : ℕ → Place
unplaced n = record { offset = n; line = 0; column = 0 }

-- what is asked for, or a refusal's number with its place
pub data Answer (A : Type 0) : Type 0 where
  given : A → Answer A
  denied : (why : ℕ) → Place → Answer A

abbrev pub bad_schema : ℕ
bad_schema = 1

abbrev pub no_message : ℕ
no_message = 2

abbrev pub text_too_long : ℕ
text_too_long = 3

abbrev pub bad_token : ℕ
bad_token = 4

abbrev pub other_expected : ℕ
other_expected = 5

abbrev pub unknown_field : ℕ
unknown_field = 6

abbrev pub unknown_value : ℕ
unknown_value = 7

abbrev pub twice : ℕ
twice = 8

abbrev pub overflow : ℕ
overflow = 9

abbrev pub not_bool : ℕ
not_bool = 10

abbrev pub bad_string : ℕ
bad_string = 11

abbrev pub too_deep : ℕ
too_deep = 12

abbrev pub nodes_short : ℕ
nodes_short = 13

abbrev pub pool_short : ℕ
pool_short = 14

abbrev pub bad_table : ℕ
bad_table = 15

abbrev pub buffer_short : ℕ
buffer_short = 16

abbrev pub required_missing : ℕ
required_missing = 17

abbrev pub no_value : ℕ
no_value = 18

-- the longest text, in bytes (3)
abbrev pub most_text : ℕ
most_text = 1048576

-- the longest node table (13, 15)
abbrev pub most_nodes : ℕ
most_nodes = 65535

-- the deepest message or entry (12, 15)
abbrev pub most_depth : ℕ
most_depth = 32

-- the greatest field number ("Schema image", "Node table")
abbrev pub most_number : ℕ
most_number = 536870911
