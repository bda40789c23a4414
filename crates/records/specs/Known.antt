-- An image's layout, what is known of an image and its layout, and what a lookup finds.
use Rattle.std.specs.Prelude as code
use Rattle.std.specs.Prelude.{◌≡◌, ℕ, true, List, length}
use Rattle.std.proofs.Math.Option.{Option, none, some}
use Rattle.definitions.specs.Basics.{all}
use Rattle.definitions.specs.Image.{message_count, field_count, enum_count, value_count, fields_at, enums_at, values_at, names_at, image_length, message, enumeration, running, field_good, member_good, accepted}
use Rattle.records.specs.declared.Layout.{Layout}

unfoldable pub layout_of : List ℕ → Layout
layout_of s = record { fields = fields_at s; enums = enums_at s; values = values_at s; names = names_at s }

-- the layout is the image's, and the image is as long as its counts say
pub record Placed (s : List ℕ) (l : Layout) : Type 0 where
  pub right : l ≡ layout_of s
  pub whole : length s ≡ image_length s

-- besides, the fields of each message are good, and the values of each enum
pub record Fields (s : List ℕ) (l : Layout) : Type 0 where
  pub placed : Placed s l
  pub runs : running (message s) (message_count s) (field_count s) ≡ true
  pub good : all (field_count s) (field_good s) ≡ true

pub record Members (s : List ℕ) (l : Layout) : Type 0 where
  pub placed : Placed s l
  pub runs : running (enumeration s) (enum_count s) (value_count s) ≡ true
  pub good : all (value_count s) (member_good s) ≡ true

-- the layout is the image's, and the image is accepted
pub record Known (s : List ℕ) (l : Layout) : Type 0 where
  pub right : l ≡ layout_of s
  pub good : accepted s ≡ true

-- what the definitions find, as the code's Option
abbrev pub option_of : Option ℕ → code.Option ℕ
option_of none = code.None
option_of (some i) = code.Some i
