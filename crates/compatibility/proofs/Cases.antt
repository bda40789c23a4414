-- What the examples are written in: schemas by their records, and what an older schema makes of a newer one's print.
use Prim.Native.Nat.{ℕ, zero, suc, ◌+◌, ◌*◌, ◌/◌, ◌%◌, ◌^◌}
use mathlib.Core.Bool.{Bool, true, false}
use mathlib.Core.List.{List, [], ◌∷◌, ◌++◌}
use lib.Dec.{ltb, leb}
use lib.ListN.{length}
use Rattle.definitions.specs.Basics.{bytes, each}
use Rattle.definitions.specs.Refusals.{Answer, given, denied, most_text}
use Rattle.definitions.specs.Image.{accepted, is_message}
use Rattle.definitions.specs.Extending.{extends}
use Rattle.definitions.specs.Scope.{in_message}
use Rattle.definitions.specs.Nodes.{word32}
use Rattle.definitions.specs.Validity.{valid}
use Rattle.definitions.specs.Live.{meaning}
use Rattle.definitions.specs.Names.{names}
use Rattle.definitions.specs.Reading.{Made, whole, words_of, bytes_of, read_answer}
use Rattle.definitions.specs.Print.{Style, compact, print_text}
use Rattle.compatibility.specs.Demand.{knows_all, all_named}

-- ---- images: a number in so many bytes, most significant first

abbrev pub big : ℕ → ℕ → List ℕ
big zero v = []
big (suc n) v = v / 256 ^ n % 256 ∷ big n v

abbrev pub header : (messages fields enums values names : ℕ) → List ℕ
header m f e v n = big 8 (((((1 * 2 ^ 8 + m) * 2 ^ 12 + f) * 2 ^ 8 + e) * 2 ^ 12 + v) * 2 ^ 16 * 2 ^ 4 + n * 2 ^ 4)

-- a message or an enum
abbrev pub span : (first count : ℕ) → List ℕ
span first count = big 3 (first * 2 ^ 12 + count)

abbrev pub field_as : (start count number label key kind reference : ℕ) → List ℕ
field_as start count number label key kind reference =
    big 9 ((((((start * 2 ^ 6 + count) * 2 ^ 29 + number) * 2 ^ 2 + label) * 2 ^ 4 + key) * 2 ^ 4 + kind) * 2 ^ 8 * 2 ^ 3 + reference * 2 ^ 3)

abbrev pub member_as : (start count number : ℕ) → List ℕ
member_as start count number = big 7 (((start * 2 ^ 6 + count) * 2 ^ 32 + number) * 2 ^ 2)

-- the names of all the schemas below: id 0, extra 2, mode 7, limits 11, child 17, total 22, raw 27, steps 30, hue 35, OFF 38, ON 41, ECO 43
abbrev pub names_text : List ℕ
names_text = bytes "idextramodelimitschildtotalrawstepshueOFFONECO"

-- message 0: `id` i32 1, `extra` repeated u32 6, `mode` enum 0 2, `limits` map of string to message 1 3, `child` message 0 4,
-- `total` i64 5, `raw` bytes 8; message 1: `steps` map of i32 to u32 1, `hue` enum 0 2; enum 0: OFF 0, ON 1, ECO 2
abbrev pub newer : List ℕ
newer =
    header 2 9 1 3 46 ++ (span 0 7 ++ (span 7 2
    ++ (field_as 0 2 1 0 0 1 0 ++ (field_as 2 5 6 2 0 3 0 ++ (field_as 7 4 2 0 0 8 0 ++ (field_as 11 6 3 3 6 9 1
    ++ (field_as 17 5 4 0 0 9 0 ++ (field_as 22 5 5 0 0 2 0 ++ (field_as 27 3 8 0 0 7 0
    ++ (field_as 30 5 1 3 1 3 0 ++ (field_as 35 3 2 0 0 8 0
    ++ (span 0 3 ++ (member_as 38 3 0 ++ (member_as 41 2 1 ++ (member_as 43 3 2
    ++ names_text)))))))))))))))

-- the same without `extra`, `hue` and ECO; the kind of `id` and the reference of `child` are parameters
abbrev pub older_with : (kind_of_id message_of_child : ℕ) → List ℕ
older_with kind child =
    header 2 7 1 2 46 ++ (span 0 6 ++ (span 6 1
    ++ (field_as 0 2 1 0 0 kind 0 ++ (field_as 7 4 2 0 0 8 0 ++ (field_as 11 6 3 3 6 9 1
    ++ (field_as 17 5 4 0 0 9 child ++ (field_as 22 5 5 0 0 2 0 ++ (field_as 27 3 8 0 0 7 0
    ++ (field_as 30 5 1 3 1 3 0
    ++ (span 0 2 ++ (member_as 38 3 0 ++ (member_as 41 2 1
    ++ names_text))))))))))))

abbrev pub older : List ℕ
older = older_with 1 0

-- one message with `extra` alone, of a label
abbrev pub extra_as : ℕ → List ℕ
extra_as label = header 1 1 0 0 5 ++ (span 0 1 ++ (field_as 0 5 6 label 0 3 0 ++ bytes "extra"))

-- one message with a field whose name is no identifier, and one with no field
abbrev pub digit_name : List ℕ
digit_name = header 1 1 0 0 1 ++ (span 0 1 ++ (field_as 0 1 1 0 0 3 0 ++ bytes "9"))

abbrev pub bare : List ℕ
bare = header 1 0 0 0 0 ++ span 0 0

-- one message with `id` alone
abbrev pub small : List ℕ
small = header 1 1 0 0 2 ++ (span 0 1 ++ (field_as 0 2 1 0 0 1 0 ++ bytes "id"))

-- one message with two fields, `a` and `b`, or `b` and `a`
abbrev pub in_order : List ℕ
in_order = header 1 2 0 0 2 ++ (span 0 2 ++ (field_as 0 1 1 0 0 3 0 ++ (field_as 1 1 2 0 0 3 0 ++ bytes "ab")))

abbrev pub turned : List ℕ
turned = header 1 2 0 0 2 ++ (span 0 2 ++ (field_as 1 1 2 0 0 3 0 ++ (field_as 0 1 1 0 0 3 0 ++ bytes "ab")))

-- ---- a table that is printed under one schema and read under another

pub record Trip : Type 0 where
  pub from : List ℕ
  pub to : List ℕ
  pub root : ℕ
  pub style : Style
  pub words : List ℕ
  pub pool : List ℕ

-- the table that a text makes under a schema
abbrev pub trip : (from to : List ℕ) → Style → List ℕ → Trip
trip from to style text =
    record { from = from; to = to; root = 0; style = style; words = words_of (whole from 0 text); pool = bytes_of (whole from 0 text) }

-- a root with one node more
abbrev pub trip_of : (from to : List ℕ) → (kind field high low : ℕ) → List ℕ → Trip
trip_of from to kind field high low pool =
    record { from = from; to = to; root = 0; style = compact; words = 9 ∷ 0 ∷ 0 ∷ 0 ∷ 2 ∷ kind ∷ field ∷ high ∷ low ∷ 2 ∷ []; pool = pool }

-- a root with nothing in it
abbrev pub trip_at : (from to : List ℕ) → ℕ → Trip
trip_at from to root = record { from = from; to = to; root = root; style = compact; words = 9 ∷ 0 ∷ 0 ∷ 0 ∷ 1 ∷ []; pool = [] }

-- ---- what comes of it

-- the text that the older schema prints of what it read, or its refusal
pub data Outcome : Type 0 where
  reads : List ℕ → Outcome
  refuses : (why : ℕ) → (offset line column : ℕ) → Outcome

abbrev pub outcome_of : List ℕ → ℕ → List ℕ → Answer Made → Outcome
outcome_of schema root text (given made) = reads (print_text schema compact root (words_of (whole schema root text)) (bytes_of (whole schema root text)))
outcome_of schema root text (denied why at) = refuses why at.offset at.line at.column

-- what the demand presumes, in the order of `Setting`; whether the older schema knows every live name; and what comes of it
pub record Result : Type 0 where
  pub presumed : List Bool
  pub knowing : Bool
  pub printed : List ℕ
  pub outcome : Outcome

abbrev pub result : Trip → Result
result c =
    record {
      presumed =
          accepted c.from
          ∷ accepted c.to
          ∷ extends c.from c.to
          ∷ is_message c.to c.root
          ∷ valid c.from c.root c.words c.pool
          ∷ each (λ x. ltb x word32) c.words
          ∷ each (λ b. ltb b 256) c.pool
          ∷ all_named c.from (in_message c.root) (meaning c.from c.root c.words c.pool)
          ∷ leb (length (print_text c.from c.style c.root c.words c.pool)) most_text
          ∷ [];
      knowing = knows_all c.to (names c.from (in_message c.root) (meaning c.from c.root c.words c.pool));
      printed = print_text c.from c.style c.root c.words c.pool;
      outcome =
          outcome_of c.to c.root (print_text c.from c.style c.root c.words c.pool)
          (read_answer c.to c.root (print_text c.from c.style c.root c.words c.pool) 1000 1000);
    }

-- n of them hold, then one does not, then m hold
abbrev pub holding : ℕ → List Bool → List Bool
holding zero rest = rest
holding (suc n) rest = true ∷ holding n rest

abbrev pub failing : ℕ → ℕ → List Bool
failing n m = holding n (false ∷ holding m [])
