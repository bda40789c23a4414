-- What the lists of examples are written in: schemas, and a reading, a call or an extension with its outcome.
use Prim.Native.Nat.{ℕ, ◌+◌, ◌*◌, ◌/◌, ◌%◌}
use mathlib.Core.Bool.{Bool}
use mathlib.Core.List.{List, [], ◌∷◌, ◌++◌}
use mathlib.Core.Option.{Option, none, some}
use Rattle.definitions.specs.Basics.{bytes}
use Rattle.definitions.specs.Refusals.{Answer, given, denied}
use Rattle.definitions.specs.Image.{accepted}
use Rattle.definitions.specs.Extending.{extends}
use Rattle.definitions.specs.Scope.{in_message}
use Rattle.definitions.specs.Tokens.{end_of_text}
use Rattle.definitions.specs.Loop.{Out, done, refused}
use Rattle.definitions.specs.Reading.{Made, whole, fitted, words_of, bytes_of, read_body, read_answer}
use Rattle.definitions.specs.Print.{compact, pretty, print_text}

-- schema E of document 01, with the type of `id`, which is 1 (i32) there
abbrev pub schema_e : ℕ → List ℕ
schema_e type =
    16 ∷ 16 ∷ 4 ∷ 0 ∷ 0 ∷ 0 ∷ 1 ∷ 16 ∷  -- header
    0 ∷ 0 ∷ 4 ∷  -- message 0
    0 ∷ 0 ∷ 8 ∷ 0 ∷ 0 ∷ 0 ∷ 32 ∷ 8 * type ∷ 0 ∷  -- id
    0 ∷ 2 ∷ 16 ∷ 0 ∷ 0 ∷ 0 ∷ 64 ∷ 48 ∷ 0 ∷  -- name
    0 ∷ 6 ∷ 24 ∷ 0 ∷ 0 ∷ 0 ∷ 123 ∷ 24 ∷ 0 ∷  -- limits
    0 ∷ 12 ∷ 20 ∷ 0 ∷ 0 ∷ 0 ∷ 128 ∷ 72 ∷ 0 ∷  -- child
    bytes "idnamelimitschild"

-- a schema with a required field, a map to messages and an enum: `q` i32 required, `m` message 0, `mm` map of i32 to message 0,
-- `e` enum 0 (ON 7, OFF 0, NEG -1), `b` bool, `y` bytes, `r` repeated u32; its first name's first letter is a parameter
abbrev pub schema_named : ℕ → List ℕ
schema_named letter =
    16 ∷ 16 ∷ 7 ∷ 1 ∷ 0 ∷ 48 ∷ 1 ∷ 0 ∷  -- header
    0 ∷ 0 ∷ 7 ∷  -- message 0
    0 ∷ 0 ∷ 4 ∷ 0 ∷ 0 ∷ 0 ∷ 40 ∷ 8 ∷ 0 ∷  -- q
    0 ∷ 1 ∷ 4 ∷ 0 ∷ 0 ∷ 0 ∷ 64 ∷ 72 ∷ 0 ∷  -- m
    0 ∷ 2 ∷ 8 ∷ 0 ∷ 0 ∷ 0 ∷ 120 ∷ 200 ∷ 0 ∷  -- mm
    0 ∷ 4 ∷ 4 ∷ 0 ∷ 0 ∷ 0 ∷ 128 ∷ 64 ∷ 0 ∷  -- e
    0 ∷ 5 ∷ 4 ∷ 0 ∷ 0 ∷ 0 ∷ 160 ∷ 40 ∷ 0 ∷  -- b
    0 ∷ 6 ∷ 4 ∷ 0 ∷ 0 ∷ 0 ∷ 192 ∷ 56 ∷ 0 ∷  -- y
    0 ∷ 7 ∷ 4 ∷ 0 ∷ 0 ∷ 0 ∷ 240 ∷ 24 ∷ 0 ∷  -- r
    0 ∷ 0 ∷ 3 ∷  -- enum 0
    0 ∷ 8 ∷ 8 ∷ 0 ∷ 0 ∷ 0 ∷ 28 ∷  -- ON
    0 ∷ 10 ∷ 12 ∷ 0 ∷ 0 ∷ 0 ∷ 0 ∷  -- OFF
    0 ∷ 13 ∷ 15 ∷ 255 ∷ 255 ∷ 255 ∷ 252 ∷  -- NEG
    letter ∷ bytes "mmmebyrONOFFNEG"

abbrev pub schema_x : List ℕ
schema_x = schema_named 113

-- ---- small schemas, each name one letter of `abcd`

abbrev pub field_of : (start number label key type reference : ℕ) → List ℕ
field_of start number label key type reference =
    0 ∷ start ∷ 4 ∷ 0 ∷ 0 ∷ 0 ∷ (32 * number + 8 * label + key / 2) ∷ (128 * (key % 2) + 8 * type) ∷ 8 * reference ∷ []

abbrev pub member_of : (start number : ℕ) → List ℕ
member_of start number = 0 ∷ start ∷ 4 ∷ 0 ∷ 0 ∷ 0 ∷ 4 * number ∷ []

-- message 0 with so many fields, message 1 with none, and enum 0 with so many values
abbrev pub schema_of : ℕ → List ℕ → ℕ → List ℕ → List ℕ
schema_of f fields v members =
    16 ∷ 32 ∷ f ∷ 1 ∷ 0 ∷ 16 * v ∷ 0 ∷ 64 ∷  -- header
    0 ∷ 0 ∷ f ∷ 0 ∷ 16 * f ∷ 0 ∷  -- messages
    (fields ++ (0 ∷ 0 ∷ v ∷ (members ++ bytes "abcd")))

-- an older schema is accepted, and the newer one extends it
abbrev pub judged : (newer older : List ℕ) → List Bool
judged newer older = accepted older ∷ extends newer older ∷ []

-- ---- a text read under message 0 with room enough, and printed again both ways

pub data Outcome : Type 0 where
  reads : (words pool compact_text pretty_text : List ℕ) → Outcome
  refuses : (why : ℕ) → (offset line column : ℕ) → Outcome

abbrev pub shown : List ℕ → List ℕ → List ℕ → Outcome
shown schema w pool = reads w pool (print_text schema compact 0 w pool) (print_text schema pretty 0 w pool)

abbrev pub outcome_of : List ℕ → List ℕ → Answer Made → Outcome
outcome_of schema s (denied why at) = refuses why at.offset at.line at.column
outcome_of schema s (given made) = shown schema (words_of (whole schema 0 s)) (bytes_of (whole schema 0 s))

pub record Case : Type 0 where
  pub schema : List ℕ
  pub text : List ℕ

abbrev pub outcome : Case → Outcome
outcome c = outcome_of c.schema c.text (read_answer c.schema 0 c.text 1000 1000)

-- ---- any call's refusal, or none

pub data Refusal : Type 0 where
  by : (why : ℕ) → (offset line column : ℕ) → Refusal
  granted : Refusal

abbrev pub refusal : {A : Type 0} → Answer A → Refusal
refusal (denied why at) = by why at.offset at.line at.column
refusal (given a) = granted

-- no text, read under message 0
abbrev pub schema_read : List ℕ → Refusal
schema_read schema = refusal (read_answer schema 0 [] 1000 1000)

-- a text read under message 0 with room enough, the schema known to be accepted
abbrev pub reading : List ℕ → List ℕ → Refusal
reading schema s = refusal (fitted 1000 1000 (whole schema 0 s))

-- what a body read is refused for
abbrev pub ended : Out → Refusal
ended (refused why at) = by why at.offset at.line at.column
ended (done q w b) = granted

-- a text read as the body of message 0, with so many levels left below it
abbrev pub levels : ℕ → List ℕ → List ℕ → Refusal
levels left schema s = ended (read_body left schema s (in_message 0) end_of_text (record { at = 0; node = 1; byte = 0 }))

-- a text of so many bytes, before it is looked at
abbrev pub of_length : Option ℕ → Refusal
of_length (some why) = by why 0 0 0
of_length none = granted
