-- What a person is told of a table: how many live values it has, and the first required field that lacks.
use Rattle.std.specs.Prelude.{ℕ, ◌+◌, Bool, false, ◌&&◌, not, List, eqb}
use Rattle.std.proofs.Math.Option.{Option, none, some}
use Rattle.definitions.specs.Basics.{when◌then◌otherwise◌, find}
use Rattle.definitions.specs.Image.{message, field, is_required, is_message, accepted}
use Rattle.definitions.specs.Scope.{Scope, in_message, in_entry, want, within, nests, map_entry}
use Rattle.definitions.specs.Validity.{valid, below}
use Rattle.definitions.specs.Live.{Tree, nil, node, tree_of, has, sharing, replaced, meaning}

-- neither the schema nor the root nor the table is refused (1, 2, 15)
unfoldable pub taken : (s : List ℕ) (root : ℕ) (w pool : List ℕ) → Bool
taken s root w pool = accepted s && is_message s root && valid s root w pool

-- ---- how many values

-- a scalar counts 1, but an entry's key, of rank 0 there, for nothing
unfoldable pub weight : (entry : Bool) (r : ℕ) → ℕ
weight entry r = when entry && eqb r 0 then (λ _. 0) otherwise λ _. 1

-- the scalars among the values of a message, or of an entry: a message or an entry counts for what lies in it
unfoldable pub count : (entry : Bool) → Tree → ℕ
count entry nil = 0
count entry (node r k v kids rest) =
    (when nests k then (λ _. count (eqb k map_entry) kids) otherwise λ _. weight entry r) + count entry rest

-- of the live values of a table that is taken
unfoldable pub value_count : (s : List ℕ) (root : ℕ) (w pool : List ℕ) → ℕ
value_count s root w pool = when taken s root w pool then (λ _. count false (meaning s root w pool)) otherwise λ _. 0

-- ---- the first required field that lacks

-- a required field with no value
unfoldable pub lacks : List ℕ → Tree → ℕ → Bool
lacks s t i = is_required (field s i) && not (has i t)

-- the first one of a message's own fields, in table order; an entry asks for none
unfoldable pub lacking_in : List ℕ → Scope → Tree → Option ℕ
lacking_in s (in_message m) t = find (lacks s t) (message s m).first (message s m).count
lacking_in s (in_entry g) t = none

-- the first of two
infix 10 ◌or_else◌
abbrev pub ◌or_else◌ : Option ℕ → (Unit {0} → Option ℕ) → Option ℕ
some i or_else b = some i
none or_else b = b tt

-- the first one in a live message or entry below, in node order: its own fields, what lies below it, its next siblings
unfoldable pub lacking_below : List ℕ → Scope → Tree → Option ℕ
lacking_below s c nil = none
lacking_below s c (node r k v kids rest) =
    (when nests k && not (replaced (sharing s c r) r kids rest)
    then (λ _. lacking_in s (within (want s c r)) kids or_else λ _. lacking_below s (within (want s c r)) kids)
    otherwise λ _. none)
    or_else λ _. lacking_below s c rest

unfoldable pub lacking : List ℕ → Scope → Tree → Option ℕ
lacking s c t = lacking_in s c t or_else λ _. lacking_below s c t

-- of a table that is taken
unfoldable pub missing_field : (s : List ℕ) (root : ℕ) (w pool : List ℕ) → Option ℕ
missing_field s root w pool =
    when taken s root w pool then (λ _. lacking s (in_message root) (tree_of pool (below w))) otherwise λ _. none
