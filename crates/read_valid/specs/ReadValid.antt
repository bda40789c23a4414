-- What is read is valid.
--
-- Whatever a text says, and whatever stood in the rooms lent for its nodes and its pool bytes: if the read is granted, then what the
-- rooms hold afterwards is a valid table of that schema and root. Nothing else is presumed, not even that the text is of bytes: that the
-- schema is accepted, the root a message, the text not too long and the rooms not too small is in the answer already.
-- So print, the required check and access take what was just read as it stands: none of them refuses it 15.
use Rattle.std.specs.Prelude.{ℕ, ◌≡◌, true, List, length}
use Rattle.std.proofs.Math.Option.{none}
use Rattle.definitions.specs.declared.Place.{Place}
use Rattle.definitions.specs.Refusals.{Answer, given, denied, bad_table}
use Rattle.definitions.specs.Validity.{valid}
use Rattle.definitions.specs.Calls.{barred}
use Rattle.definitions.specs.Reading.{Made, read_answer, read_nodes, read_pool}
use Rattle.definitions.specs.Print.{Style, print_answer}
use Rattle.definitions.specs.Required.{required_answer}
use Rattle.definitions.specs.Access.{value_answer}

-- a read is granted
abbrev pub Granted : (schema : List ℕ) (root : ℕ) (text nodes pool : List ℕ) → Made → Type 0
Granted schema root text nodes pool m = read_answer schema root text (length nodes) (length pool) ≡ given m

-- what the rooms lent hold afterwards
abbrev pub nodes_after : (schema : List ℕ) (root : ℕ) (text nodes pool : List ℕ) → List ℕ
nodes_after schema root text nodes pool = read_nodes schema root text nodes (length pool)

abbrev pub pool_after : (schema : List ℕ) (root : ℕ) (text nodes pool : List ℕ) → List ℕ
pool_after schema root text nodes pool = read_pool schema root text (length nodes) pool

-- whatever is read is valid
unfoldable pub ReadValid : (schema : List ℕ) (root : ℕ) (text nodes pool : List ℕ) → Type 0
ReadValid schema root text nodes pool =
    (m : Made) → Granted schema root text nodes pool m
    → valid schema root (nodes_after schema root text nodes pool) (pool_after schema root text nodes pool) ≡ true

-- an answer is not the refusal 15, at any place
abbrev pub NotBadTable : {A : Type 0} → Answer A → Type 0
NotBadTable a = (at : Place) → a ≡ denied bad_table at → ⊥

-- the calls that take a table let this one pass
pub record Usable (schema : List ℕ) (root : ℕ) (w pool : List ℕ) : Type 0 where
  pub passes : barred schema root (λ _. valid schema root w pool) bad_table ≡ none
  pub printed : (y : Style) (room : ℕ) → NotBadTable (print_answer schema y root w pool room)
  pub checked : NotBadTable (required_answer schema root w pool)
  pub accessed : (i : ℕ) → NotBadTable (value_answer schema root w pool i)

-- whatever is read is of use at once
unfoldable pub ReadUsable : (schema : List ℕ) (root : ℕ) (text nodes pool : List ℕ) → Type 0
ReadUsable schema root text nodes pool =
    (m : Made) → Granted schema root text nodes pool m
    → Usable schema root (nodes_after schema root text nodes pool) (pool_after schema root text nodes pool)
