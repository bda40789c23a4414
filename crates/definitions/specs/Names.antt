-- Live names (H, "Live"): that of a live value's field, or the enum's name for a live enum number; an entry's `key` and `value`
-- don't count. In print order, each with the message or enum that it belongs to.
use Rattle.std.specs.Prelude.{ℕ, ◌%◌, Bool, true, false, List, [], ◌∷◌, ◌++◌, ltb, eqb}
use Rattle.std.proofs.Math.Option.{Option, none, some}
use Rattle.definitions.specs.declared.Want.{Want}
use Rattle.definitions.specs.Basics.{when◌then◌otherwise◌}
use Rattle.definitions.specs.Image.{field_name, member_name, find_number, find_field, find_member}
use Rattle.definitions.specs.Scope.{Scope, in_message, in_entry, want, within, enum}
use Rattle.definitions.specs.Nodes.{word32}
use Rattle.definitions.specs.Live.{Val, number, run, inside, Tree, nil, node, first_unknown}

pub data Name : Type 0 where
  field_named : (message : ℕ) → List ℕ → Name
  value_named : (enum : ℕ) → List ℕ → Name

-- an unknown field has no name
unfoldable pub name_of : List ℕ → Scope → ℕ → List Name
name_of s (in_message m) r = when ltb r first_unknown then (λ _. field_named m (field_name s r) ∷ []) otherwise λ _. []
name_of s (in_entry g) r = []

-- an unnamed number has none
abbrev pub member_named : List ℕ → ℕ → Option ℕ → List Name
member_named s e none = []
member_named s e (some i) = value_named e (member_name s i) ∷ []

unfoldable pub value_names : List ℕ → Want → ℕ → Val → List Name
value_names s w kind (number n) =
    when eqb kind enum then (λ _. member_named s w.reference (find_number s w.reference (n % word32))) otherwise λ _. []
value_names s w kind (run bs) = []
value_names s w kind inside = []

-- of the live values of a scope
unfoldable pub names : List ℕ → Scope → Tree → List Name
names s c nil = []
names s c (node r k v kids rest) =
    name_of s c r ++ (value_names s (want s c r) k v ++ (names s (within (want s c r)) kids ++ names s c rest))

abbrev pub is_some : Option ℕ → Bool
is_some none = false
is_some (some i) = true

-- a schema has a name, in that message or enum
unfoldable pub knows : List ℕ → Name → Bool
knows s (field_named m name) = is_some (find_field s m name)
knows s (value_named e name) = is_some (find_member s e name)
