-- A newer schema extends an older one (H, "Extending").
use Rattle.std.specs.Prelude.{ℕ, zero, suc, ◌+◌, Bool, true, ◌&&◌, List, leb, eqb}
use Rattle.definitions.specs.Basics.{when◌then◌otherwise◌, same, all, any}
use Rattle.definitions.specs.Image.{message_count, enum_count, message, enumeration, field, member, field_name, member_name}

-- equal name text, number, label, key type, type and reference
unfoldable pub same_field : (newer older : List ℕ) → ℕ → ℕ → Bool
same_field newer older i j =
    same (field_name newer i) (field_name older j)
    && eqb (field newer i).number (field older j).number
    && eqb (field newer i).label (field older j).label
    && eqb (field newer i).key (field older j).key
    && eqb (field newer i).kind (field older j).kind
    && eqb (field newer i).reference (field older j).reference

-- the `left` older fields from j on occur, in the same relative order, among the n newer ones from i on
unfoldable pub embedded : (newer older : List ℕ) → (i n j left : ℕ) → Bool
embedded newer older i zero j left = eqb left 0
embedded newer older i (suc n) j zero = true
embedded newer older i (suc n) j (suc left) =
    when same_field newer older i j then (λ _. embedded newer older (i + 1) n (j + 1) left) otherwise λ _. embedded newer older (i + 1) n j (suc left)

unfoldable pub message_extends : (newer older : List ℕ) → ℕ → Bool
message_extends newer older m =
    embedded newer older (message newer m).first (message newer m).count (message older m).first (message older m).count

-- every older value is there, same name and number
unfoldable pub same_member : (newer older : List ℕ) → ℕ → ℕ → Bool
same_member newer older i j = same (member_name newer i) (member_name older j) && eqb (member newer i).number (member older j).number

unfoldable pub enum_extends : (newer older : List ℕ) → ℕ → Bool
enum_extends newer older e =
    all (enumeration older e).count
    (λ j. any (enumeration newer e).count (λ i. same_member newer older ((enumeration newer e).first + i) ((enumeration older e).first + j)))

-- each older message and enum index exists in the newer
unfoldable pub extends : (newer older : List ℕ) → Bool
extends newer older =
    leb (message_count older) (message_count newer)
    && leb (enum_count older) (enum_count newer)
    && all (message_count older) (message_extends newer older)
    && all (enum_count older) (enum_extends newer older)
