-- The texts around a value and of a number, case by case, as the code takes them apart; and what an accepted image has of a field that is printed.
use mathlib.Core.Path.{◌≡◌, refl, sym, ap}
use Prim.Native.Nat.{ℕ, ◌+◌, ◌-◌, ◌*◌, ◌≤◌, ◌<◌}
use mathlib.Core.Bool.{Bool, true, false}
use mathlib.Core.List.{List, [], ◌∷◌, ◌++◌}
use mathlib.Core.Option.{Option}
use native.Mathlib.Omega.{arith}
use lib.Dec.{eqb}
use lib.ListN.{length, replicate-append-replicate, length-replicate}
use borrow.Author.Tests.{eq-eqb, ne_eqb, lt-ltb, le-ltb}
use Rattle.definitions.specs.declared.Node.{Node}
use Rattle.definitions.specs.declared.Want.{Want}
use Rattle.definitions.specs.Image.{field_name, member, member_name, field_count, enum_count, value_count, enumeration, find_number}
use Rattle.definitions.specs.Scope.{within, name_in, key_name, value_name, nests}
use Rattle.definitions.specs.Nodes.{is_run, run_of, number_of}
use Rattle.definitions.specs.Live.{value_of}
use Rattle.definitions.specs.Print.{indent, label, decimal, signed_decimal, member_text, number_text, quoted}
use Rattle.laws.proofs.Lists.{find-some}
use Rattle.records.specs.declared.Layout.{Layout}
use Rattle.std.specs.Prelude.{Some, None}
use Rattle.records.proofs.Search.{option_some, option_none}
use Rattle.records.specs.Known.{Known, option_of}
use Rattle.records.proofs.Accepted.{enum-inside}
use Rattle.spelling.specs.Written.{Written, Room}
use Rattle.fields.specs.Fields.{Ranked, plain_text}
use Rattle.nodes.specs.Span.{There}
use Rattle.nodes.proofs.Scopes.{within-entry, within-message, inside-message}
use Rattle.spelling.proofs.Texts.{then-written, as_written, as_room, room-first}

-- ---- indents

pub indent-more : (l : ℕ) → indent (l + 1) ≡ indent l ++ (32 ∷ 32 ∷ [])
unfolding indent
indent-more l =
    let q : 2 * (l + 1) ≡ 2 * l + 2 = omega arith in
    rw q (sym (replicate-append-replicate (2 * l) 2 32))

pub indent-none : indent 0 ≡ []
unfolding indent
indent-none = refl

pub indent-count : (l : ℕ) → length (indent l) ≡ 2 * l
unfolding indent
indent-count l = length-replicate (2 * l) 32

pub indent-written : {a b c : List ℕ} {at p r : ℕ} (l : ℕ) → Written a at (indent l) b p → Written b p (32 ∷ 32 ∷ []) c r → Written a at (indent (l + 1)) c r
indent-written l f g = as_written (sym (indent-more l)) (then-written f g)

pub indent-room : {a b : List ℕ} {at p : ℕ} (l d : ℕ) → l < d → Room at (indent d) → Written a at (indent l) b p → Room p (32 ∷ 32 ∷ [])
indent-room l d h r f = record { fits = omega (arith, r.fits, f.ends, indent-count l, indent-count d) }

pub indent-all : {a b : List ℕ} {at r : ℕ} (l d : ℕ) → l ≤ d → d ≤ l → Written a at (indent l) b r → Written a at (indent d) b r
indent-all l d h k f = as_written (ap indent (omega arith)) f

-- ---- labels

module _ (s : List ℕ) (w : Want) (r : ℕ) where
  pub label-unknown : 4096 ≤ r → label s (within w) r ≡ decimal (r - 4096)
  unfolding label
  label-unknown h = rw (le-ltb r 4096 h)

  pub label-field : r < 4096 → (w.kind ≡ 10 → ⊥) → label s (within w) r ≡ field_name s r
  unfolding label name_in
  label-field h k = rw (lt-ltb r 4096 h, within-message w k)

  pub label-key : r < 4096 → w.kind ≡ 10 → r ≡ 0 → label s (within w) r ≡ key_name
  unfolding label name_in
  label-key h k z = rw (lt-ltb r 4096 h, within-entry w k, eq-eqb r 0 z)

  pub label-value : r < 4096 → w.kind ≡ 10 → (r ≡ 0 → ⊥) → label s (within w) r ≡ value_name
  unfolding label name_in
  label-value h k z = rw (lt-ltb r 4096 h, within-entry w k, ne_eqb r 0 z)

-- ---- names of an accepted image

pub named-field : {l : Layout} (s : List ℕ) (w : Want) (r : ℕ) → Known s l → There s (within w) → Ranked s (within w) r → r < 4096 → (w.kind ≡ 10 → ⊥) → r < field_count s
named-field s w r known t ranked h k = inside-message s known.good w r k t (ranked h)

pub named-member : {l : Layout} (s : List ℕ) (e n i : ℕ) → Known s l → e < enum_count s → Some i ≡ option_of (find_number s e n) → i < value_count s
unfolding find_number
named-member s e n i known h q =
    let f = find-some (λ i. eqb (member s i).number n) (enumeration s e).first (enumeration s e).count i (option_some (find_number s e n) q) in
    omega (arith, f.below, enum-inside s known.good e h)

module _ (s : List ℕ) (n : ℕ) where
  pub member-named : (o : Option ℕ) (i : ℕ) → Some i ≡ option_of o → member_text s n o ≡ member_name s i
  member-named o i q = rw (option_some o q)

  pub member-unnamed : (o : Option ℕ) → None ≡ option_of o → member_text s n o ≡ (58 ∷ 32 ∷ []) ++ signed_decimal n
  member-unnamed o q = rw (option_none o q)

-- ---- values that hold no nodes

module _ (s pool : List ℕ) (w : Want) (n : Node) where
  pub plain-run : is_run n.kind ≡ true → plain_text s pool w n ≡ (58 ∷ 32 ∷ []) ++ quoted (run_of pool n)
  unfolding value_of
  plain-run h = rw h

  pub plain-number : nests n.kind ≡ false → is_run n.kind ≡ false → plain_text s pool w n ≡ (58 ∷ 32 ∷ []) ++ number_text s w n.kind (number_of n)
  unfolding value_of
  plain-number h k = rw (k, h)

  pub plain-first : {at : ℕ} → nests n.kind ≡ false → Room at (plain_text s pool w n) → Room at (58 ∷ 32 ∷ [])
  plain-first {at} h r = go (is_run n.kind) refl
    where
      go : (t : Bool) → is_run n.kind ≡ t → Room at (58 ∷ 32 ∷ [])
      go true e = room-first (58 ∷ 32 ∷ []) _ (as_room (plain-run e) r)
      go false e = room-first (58 ∷ 32 ∷ []) _ (as_room (plain-number h e) r)
