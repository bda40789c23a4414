-- How large a header's counts are, where the layout of an image says that its records begin, and that they lie inside it.
use mathlib.Core.Path.{◌≡◌, ap}
use Prim.Native.Nat.{ℕ, ◌+◌, ◌*◌, ◌^◌, ◌≤◌, ◌<◌}
use mathlib.Core.List.{List}
use native.Mathlib.Omega.{arith}
use lib.ListN.{length}
use Rattle.definitions.specs.Refusals.{most_number}
use Rattle.definitions.specs.Image.{field, field_at, message_count, field_count, enum_count, value_count, name_count, messages_at, fields_at, enums_at, values_at, names_at, image_length}
use Rattle.records.specs.declared.Layout.{Layout}
use Rattle.records.specs.Known.{layout_of, Placed}
use Rattle.bits.proofs.BitLaws.{bits_below}

module _ (s : List ℕ) where
  pub message_count-lt : message_count s < 256
  unfolding message_count
  message_count-lt = bits_below s 4 8 8 (omega arith)

  pub field_count-lt : field_count s < 4096
  unfolding field_count
  field_count-lt = bits_below s 12 12 12 (omega arith)

  pub enum_count-lt : enum_count s < 256
  unfolding enum_count
  enum_count-lt = bits_below s 24 8 8 (omega arith)

  pub value_count-lt : value_count s < 4096
  unfolding value_count
  value_count-lt = bits_below s 32 12 12 (omega arith)

  pub name_count-lt : name_count s < 65536
  unfolding name_count
  name_count-lt = bits_below s 44 16 16 (omega arith)

  pub ruleset counts_small = (message_count-lt, field_count-lt, enum_count-lt, value_count-lt)

  pub field_count_fits : field_count s < 2 ^ 64
  field_count_fits = omega (arith, field_count-lt)

  pub value_count_fits : value_count s < 2 ^ 64
  value_count_fits = omega (arith, value_count-lt)

  pub image_length_small : image_length s < 200000
  unfolding messages_at fields_at enums_at values_at names_at image_length
  image_length_small = omega (arith, message_count-lt, field_count-lt, enum_count-lt, value_count-lt, name_count-lt)

  -- a field's number has 29 bits
  pub field_number_most : (i : ℕ) → (field s i).number ≤ most_number
  unfolding field
  field_number_most i = omega (arith, bits_below (field_at s i) 22 29 29 (omega arith))

-- ---- an image that is as long as its counts say has its header and its messages

module _ (s : List ℕ) (whole : length s ≡ image_length s) where
  pub header-room : 8 ≤ length s
  unfolding messages_at fields_at enums_at values_at names_at image_length
  header-room = omega arith

  pub message-room : (i : ℕ) → i < message_count s → 8 + 3 * i + 3 ≤ length s
  unfolding messages_at fields_at enums_at values_at names_at image_length
  message-room i h = omega arith

  pub messages-room : 8 + 3 * message_count s ≤ length s
  unfolding messages_at fields_at enums_at values_at names_at image_length
  messages-room = omega arith

-- ---- and by its layout its other records and its name bytes

pub placed_header : {s : List ℕ} {l : Layout} → Placed s l → 8 ≤ length s
placed_header {s} p = header-room s p.whole

module _ (s : List ℕ) (l : Layout) (p : Placed s l) where
  pub fields-start : l.fields ≡ fields_at s
  unfolding layout_of
  fields-start = ap (λ (x : Layout). x.fields) p.right

  pub enums-start : l.enums ≡ enums_at s
  unfolding layout_of
  enums-start = ap (λ (x : Layout). x.enums) p.right

  pub values-start : l.values ≡ values_at s
  unfolding layout_of
  values-start = ap (λ (x : Layout). x.values) p.right

  pub names-start : l.names ≡ names_at s
  unfolding layout_of
  names-start = ap (λ (x : Layout). x.names) p.right

  pub field_room : (i : ℕ) → i < field_count s → l.fields + 9 * i + 9 ≤ length s
  unfolding enums_at values_at names_at image_length
  field_room i h = omega (arith, fields-start, p.whole)

  pub enum-room : (i : ℕ) → i < enum_count s → l.enums + 3 * i + 3 ≤ length s
  unfolding values_at names_at image_length
  enum-room i h = omega (arith, enums-start, p.whole)

  pub enums-room : l.enums + 3 * enum_count s ≤ length s
  unfolding values_at names_at image_length
  enums-room = omega (arith, enums-start, p.whole)

  pub value_room : (i : ℕ) → i < value_count s → l.values + 7 * i + 7 ≤ length s
  unfolding names_at image_length
  value_room i h = omega (arith, values-start, p.whole)

  pub name-room : (start count : ℕ) → start + count ≤ name_count s → l.names + start + count ≤ length s
  unfolding image_length
  name-room start count h = omega (arith, names-start, p.whole)

pub placed_message : {s : List ℕ} {l : Layout} → Placed s l → (i : ℕ) → i < message_count s → 8 + 3 * i + 3 ≤ length s
placed_message {s} p = message-room s p.whole

-- what the records and the names of an image ask
pub ruleset rooms = (placed_header, placed_message, field_room, enum-room, value_room, name-room)
