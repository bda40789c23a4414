-- What the print functions presume of a rank and of a value, and a value's text.
use Rattle.std.specs.Prelude.{ℕ, ◌+◌, ◌<◌, ◌≤◌, ◌≡◌, Bool, true, false, List, [], eqb, length}
use Rattle.definitions.specs.Basics.{when◌then◌otherwise◌, bytes}
use Rattle.definitions.specs.declared.Node.{Node}
use Rattle.definitions.specs.declared.Want.{Want}
use Rattle.definitions.specs.Image.{enum_count}
use Rattle.definitions.specs.Scope.{Scope, has_field, nests, enum}
use Rattle.definitions.specs.Nodes.{is_run}
use Rattle.definitions.specs.Live.{first_unknown, value_of}
use Rattle.definitions.specs.Print.{Style, compact, pretty, value_text}
use Rattle.fields.specs.declared.Style as code
use Rattle.fields.specs.declared.Style.TheVariants.{Compact, Pretty}

-- pretty where it is asked for
abbrev pub style_of : Bool → Style
style_of true = pretty
style_of false = compact

-- a style of the code
abbrev pub styled : code.Style → Style
styled Compact = compact
styled Pretty = pretty

-- a rank below those of unknown fields is a field of the scope
abbrev pub Ranked : List ℕ → Scope → ℕ → Type 0
Ranked s c r = r < first_unknown → has_field s c r ≡ true

abbrev pub bool_text : ℕ → List ℕ
bool_text n = when eqb n 0 then (λ _. bytes "false") otherwise λ _. bytes "true"

-- an enum's number is one of an enum of the schema
abbrev pub Counted : List ℕ → Want → ℕ → Type 0
Counted s w kind = kind ≡ enum → w.reference < enum_count s

-- a value that holds no nodes: a run of bytes lies inside the pool
pub record Plain (s pool : List ℕ) (w : Want) (n : Node) : Type 0 where
  pub flat : nests n.kind ≡ false
  pub inside : is_run n.kind ≡ true → n.high + n.low ≤ length pool
  pub counted : Counted s w n.kind

-- its text, which no style and no depth changes
abbrev pub plain_text : List ℕ → List ℕ → Want → Node → List ℕ
plain_text s pool w n = value_text s compact 0 w n.kind (value_of pool n) []
