-- What the functions over a table presume of a scope, and what is good of a span of nodes.
use Rattle.std.specs.Prelude.{ℕ, ◌+◌, ◌*◌, ◌≤◌, ◌<◌, ◌≡◌, Bool, true, false, ◌&&◌, ◌||◌, List, ltb, leb, length}
use Rattle.definitions.specs.declared.Node.{Node}
use Rattle.definitions.specs.declared.Span.{Span}
use Rattle.definitions.specs.Basics.{when◌then◌otherwise◌}
use Rattle.definitions.specs.Image.{message_count, field_count}
use Rattle.definitions.specs.Scope.{Scope, in_message, in_entry, has_field, nests}
use Rattle.definitions.specs.Nodes.{forest, tiles, depth}
use Rattle.definitions.specs.Validity.{field_fits, value_good, forest_good}

-- the scope's message, or its map field, is one of the schema
unfoldable pub There : List ℕ → Scope → Type 0
There s (in_message m) = m < message_count s
There s (in_entry g) = g < field_count s

-- a field of the scope
abbrev pub Inside : List ℕ → Scope → ℕ → Type 0
Inside s c i = has_field s c i ≡ true

-- a run of all the scope's fields, and of no others
abbrev pub FieldsAre : List ℕ → Scope → Span → Type 0
FieldsAre s c run = (i : ℕ) → has_field s c i ≡ (leb run.first i && ltb i (run.first + run.count))

-- the nodes from one up to another tile the span and are good in a scope, messages and entries at most so deep
unfoldable pub span_good : (s pool : List ℕ) → Scope → (left : ℕ) → (w : List ℕ) → (i e : ℕ) → Bool
span_good s pool c left w i e =
    when tiles w i e then (λ _. forest_good s pool c (forest w i e) && leb (depth (forest w i e)) left) otherwise λ _. false

-- node i of a span up to e in a scope, but for what lies below it: its end lies in the span, its field and value are good, and
-- a node that is no message and no entry has none below it
unfoldable pub node_good : (s pool : List ℕ) → Scope → (i e : ℕ) → Node → Bool
node_good s pool c i e n =
    ltb i n.end
    && leb n.end e
    && field_fits s c n
    && value_good pool n
    && (nests n.kind || leb n.end (i + 1))

-- what a valid table has of a span of siblings: they tile it, they and what lies below are good, and the table reaches that far
pub record Sound (s pool : List ℕ) (c : Scope) (w : List ℕ) (i e : ℕ) : Type 0 where
  pub tiled : tiles w i e ≡ true
  pub good : forest_good s pool c (forest w i e) ≡ true
  pub room : 5 * e ≤ length w
