-- What an accepted image has: its length, runs that lie inside their tables, and records that are good, one by one.
use mathlib.Core.Path.{◌≡◌, refl, sym, ◌∙◌, ap}
use Prim.Native.Nat.{ℕ, ◌+◌, ◌-◌, ◌≤◌, ◌<◌}
use mathlib.Core.Bool.{Bool, true, false, ◌&&◌, not}
use mathlib.Core.List.{List}
use mathlib.Core.Option.{Option, none, some}
use native.Mathlib.Omega.{arith}
use lib.Dec.{ltb, leb, eqb}
use lib.ListN.{length}
use borrow.Author.Tests.{eqb-true, leb-true, ltb-true, ltb-false, eqb-false, eq-eqb, ne_eqb, not-true}
use Rattle.definitions.specs.declared.Span.{Span}
use Rattle.definitions.specs.declared.Field.{Field}
use Rattle.definitions.specs.Basics.{when◌then◌otherwise◌, between, same, all}
use Rattle.definitions.specs.Bits.{bits}
use Rattle.definitions.specs.Refusals.{most_number}
use Rattle.definitions.specs.Image.{form, message_count, field_count, enum_count, value_count, name_count, image_length, message, enumeration, field, member, field_at, field_zero, member_at, member_zero, is_map, identifier, name_text, name_good, running, key_good, type_good, field_good, member_good, distinct, fields_agree, members_agree, header_good, records_good, accepted, field_name, member_name, find_field, find_member, find_number}
use Rattle.records.specs.declared.Layout.{Layout}
use Rattle.records.specs.Known.{Placed, Fields, Members, Known}
use Rattle.laws.proofs.Lists.{Found, find-some, find_none, same_true, eq-same, all-at, true-false}
use Rattle.laws.proofs.Tests.{and_left, and_right, running-inside}

-- ---- the parts of the rule

pub record Header (s : List ℕ) : Type 0 where
  pub long : 8 ≤ length s
  pub formed : form s ≡ 1
  pub zeros : bits s 60 4 ≡ 0
  pub rooted : 1 ≤ message_count s
  pub whole : length s ≡ image_length s

pub record Records (s : List ℕ) : Type 0 where
  pub messages : running (message s) (message_count s) (field_count s) ≡ true
  pub enums : running (enumeration s) (enum_count s) (value_count s) ≡ true
  pub filled : all (enum_count s) (λ i. leb 1 (enumeration s i).count) ≡ true
  pub fields : all (field_count s) (field_good s) ≡ true
  pub members : all (value_count s) (member_good s) ≡ true
  pub apart : all (message_count s) (λ i. distinct (fields_agree s) (message s i)) ≡ true
  pub values-apart : all (enum_count s) (λ i. distinct (members_agree s) (enumeration s i)) ≡ true

five : (a b c d e : Bool) → (a && b && c && d && e) ≡ true → (a ≡ true) × (b ≡ true) × (c ≡ true) × (d ≡ true) × (e ≡ true)
five a b c d e h =
    let h₄ : (a && b && c && d) ≡ true = and_left (a && b && c && d) e h in
    let h₃ : (a && b && c) ≡ true = and_left (a && b && c) d h₄ in
    let h₂ : (a && b) ≡ true = and_left (a && b) c h₃ in
    (and_left a b h₂, and_right a b h₂, and_right (a && b) c h₃, and_right (a && b && c) d h₄, and_right (a && b && c && d) e h)

pub header-parts : (s : List ℕ) → header_good s ≡ true → Header s
unfolding header_good
header-parts s e =
    let h = five (leb 8 (length s)) (eqb (form s) 1) (eqb (bits s 60 4) 0) (leb 1 (message_count s)) (eqb (length s) (image_length s)) e in
    record {
      long = leb-true 8 (length s) h.0;
      formed = eqb-true (form s) 1 h.1;
      zeros = eqb-true (bits s 60 4) 0 h.2;
      rooted = leb-true 1 (message_count s) h.3;
      whole = eqb-true (length s) (image_length s) h.4;
    }

pub records-parts : (s : List ℕ) → records_good s ≡ true → Records s
unfolding records_good
records-parts s e =
    let a = running (message s) (message_count s) (field_count s) in
    let b = running (enumeration s) (enum_count s) (value_count s) in
    let c = all (enum_count s) (λ i. leb 1 (enumeration s i).count) in
    let d = all (field_count s) (field_good s) in
    let f = all (value_count s) (member_good s) in
    let g = all (message_count s) (λ i. distinct (fields_agree s) (message s i)) in
    let h = all (enum_count s) (λ i. distinct (members_agree s) (enumeration s i)) in
    let e₆ : (a && b && c && d && f && g) ≡ true = and_left (a && b && c && d && f && g) h e in
    let p = five a b c d f (and_left (a && b && c && d && f) g e₆) in
    record {
      messages = p.0;
      enums = p.1;
      filled = p.2;
      fields = p.3;
      members = p.4;
      apart = and_right (a && b && c && d && f) g e₆;
      values-apart = and_right (a && b && c && d && f && g) h e;
    }

module _ (s : List ℕ) (good : accepted s ≡ true) where
  accepted-both : (header_good s ≡ true) × (records_good s ≡ true)
  unfolding accepted
  accepted-both = go (header_good s) good
    where
      go : (b : Bool) → (when b then (λ _. records_good s) otherwise λ _. false) ≡ true → (b ≡ true) × (records_good s ≡ true)
      go true e = (refl, e)
      go false e = true-false false e refl

  pub accepted-header : Header s
  accepted-header = header-parts s accepted-both.0

  pub accepted-records : Records s
  accepted-records = records-parts s accepted-both.1

  -- ---- runs

  pub message-inside : (m : ℕ) → m < message_count s → (message s m).first + (message s m).count ≤ field_count s
  message-inside = running-inside (message s) (message_count s) (field_count s) accepted-records.messages

  pub enum-inside : (e : ℕ) → e < enum_count s → (enumeration s e).first + (enumeration s e).count ≤ value_count s
  enum-inside = running-inside (enumeration s) (enum_count s) (value_count s) accepted-records.enums

  pub enum-filled : (e : ℕ) → e < enum_count s → 1 ≤ (enumeration s e).count
  enum-filled e h =
      leb-true 1 (enumeration s e).count (all-at (enum_count s) (λ i. leb 1 (enumeration s i).count) accepted-records.filled e h)

  pub field-good : (i : ℕ) → i < field_count s → field_good s i ≡ true
  field-good = all-at (field_count s) (field_good s) accepted-records.fields

  pub member-good : (i : ℕ) → i < value_count s → member_good s i ≡ true
  member-good = all-at (value_count s) (member_good s) accepted-records.members

-- ---- an accepted image with its layout

pub known-placed : {s : List ℕ} {l : Layout} → Known s l → Placed s l
known-placed {s} {l} k = record { right = k.right; whole = (accepted-header s k.good).whole }

pub known-header : {s : List ℕ} {l : Layout} → Known s l → 8 ≤ length s
known-header {s} k = (accepted-header s k.good).long

-- ---- a good name, field or value

pub record Name (s : List ℕ) (start count : ℕ) : Type 0 where
  pub inside : start + count ≤ name_count s
  pub spelt : identifier (name_text s start count) ≡ true

pub name-parts : (s : List ℕ) (start count : ℕ) → name_good s start count ≡ true → Name s start count
unfolding name_good
name-parts s start count e =
    record {
      inside = leb-true (start + count) (name_count s) (and_left (leb (start + count) (name_count s)) (identifier (name_text s start count)) e);
      spelt = and_right (leb (start + count) (name_count s)) (identifier (name_text s start count)) e;
    }

pub record Good (s : List ℕ) (i : ℕ) : Type 0 where
  pub name : Name s (field s i).start (field s i).length
  pub least : 1 ≤ (field s i).number
  pub most : (field s i).number ≤ most_number
  pub key : key_good (field s i) ≡ true
  pub type : type_good s (field s i) ≡ true
  pub zeros : field_zero (field_at s i) ≡ 0

pub field-parts : (s : List ℕ) (i : ℕ) → field_good s i ≡ true → Good s i
unfolding field_good
field-parts s i e =
    let f = field s i in
    let p = five (name_good s f.start f.length) (between 1 most_number f.number) (key_good f) (type_good s f) (eqb (field_zero (field_at s i)) 0) e in
    record {
      name = name-parts s f.start f.length p.0;
      least = leb-true 1 f.number (and_left (leb 1 f.number) (leb f.number most_number) p.1);
      most = leb-true f.number most_number (and_right (leb 1 f.number) (leb f.number most_number) p.1);
      key = p.2;
      type = p.3;
      zeros = eqb-true (field_zero (field_at s i)) 0 p.4;
    }

pub record GoodMember (s : List ℕ) (i : ℕ) : Type 0 where
  pub name : Name s (member s i).start (member s i).length
  pub zeros : member_zero (member_at s i) ≡ 0

pub member-parts : (s : List ℕ) (i : ℕ) → member_good s i ≡ true → GoodMember s i
unfolding member_good
member-parts s i e =
    let m = member s i in
    record {
      name = name-parts s m.start m.length (and_left (name_good s m.start m.length) (eqb (member_zero (member_at s i)) 0) e);
      zeros = eqb-true (member_zero (member_at s i)) 0 (and_right (name_good s m.start m.length) (eqb (member_zero (member_at s i)) 0) e);
    }

module _ (s : List ℕ) (good : accepted s ≡ true) where
  pub field-has : (i : ℕ) → i < field_count s → Good s i
  field-has i h = field-parts s i (field-good s good i h)

  pub member-has : (i : ℕ) → i < value_count s → GoodMember s i
  member-has i h = member-parts s i (member-good s good i h)

-- the name of a field and of an enum value lies inside the name bytes
pub known-field_name : {s : List ℕ} {l : Layout} → Known s l → (i : ℕ) → i < field_count s → (field s i).start + (field s i).length ≤ name_count s
known-field_name {s} k i h = (field-has s k.good i h).name.inside

pub known-member_name : {s : List ℕ} {l : Layout} → Known s l → (i : ℕ) → i < value_count s → (member s i).start + (member s i).length ≤ name_count s
known-member_name {s} k i h = (member-has s k.good i h).name.inside

-- ---- a good type and key

pub reference-enum : (s : List ℕ) (f : Field) → type_good s f ≡ true → f.kind ≡ 8 → f.reference < enum_count s
unfolding type_good
reference-enum s f e k = ltb-true f.reference (enum_count s) (simp (eq-eqb f.kind 8 k) at e)

pub reference-message : (s : List ℕ) (f : Field) → type_good s f ≡ true → f.kind ≡ 9 → f.reference < message_count s
unfolding type_good
reference-message s f e k =
    ltb-true f.reference (message_count s) (simp (ne_eqb f.kind 8 (λ z. omega arith), eq-eqb f.kind 9 k) at e)

plain_type : (s : List ℕ) (f : Field) → type_good s f ≡ true → (f.kind ≡ 8 → ⊥) → (f.kind ≡ 9 → ⊥) → (between 1 7 f.kind && eqb f.reference 0) ≡ true
unfolding type_good
plain_type s f e h k = simp (ne_eqb f.kind 8 h, ne_eqb f.kind 9 k) at e

pub reference-none : (s : List ℕ) (f : Field) → type_good s f ≡ true → f.kind ≤ 7 → f.reference ≡ 0
reference-none s f e k =
    eqb-true f.reference 0
    (and_right (between 1 7 f.kind) (eqb f.reference 0) (plain_type s f e (λ z. omega arith) (λ z. omega arith)))

pub kind-range : (s : List ℕ) (f : Field) → type_good s f ≡ true → (1 ≤ f.kind) × (f.kind ≤ 9)
kind-range s f e = go (eqb f.kind 8) refl (eqb f.kind 9) refl
  where
    go : (a : Bool) → eqb f.kind 8 ≡ a → (b : Bool) → eqb f.kind 9 ≡ b → (1 ≤ f.kind) × (f.kind ≤ 9)
    go true p b q = omega (arith, eqb-true f.kind 8 p)
    go false p true q = omega (arith, eqb-true f.kind 9 q)
    go false p false q =
        let t = and_left (between 1 7 f.kind) (eqb f.reference 0) (plain_type s f e (eqb-false f.kind 8 p) (eqb-false f.kind 9 q)) in
        omega (
          arith,
          leb-true 1 f.kind (and_left (leb 1 f.kind) (leb f.kind 7) t),
          leb-true f.kind 7 (and_right (leb 1 f.kind) (leb f.kind 7) t),
        )

pub key-range : (f : Field) → key_good f ≡ true → is_map f ≡ true → (1 ≤ f.key) × (f.key ≤ 6)
key-range f e m =
    let t : between 1 6 f.key ≡ true = simp m at e in
    (leb-true 1 f.key (and_left (leb 1 f.key) (leb f.key 6) t), leb-true f.key 6 (and_right (leb 1 f.key) (leb f.key 6) t))

pub key-none : (f : Field) → key_good f ≡ true → is_map f ≡ false → f.key ≡ 0
key-none f e m = eqb-true f.key 0 (simp m at e)

-- what is known of an accepted image
pub ruleset known_steps = (known-placed, known-field_name, known-member_name)

-- ---- a run that was read from an accepted image

pub known-message : {s : List ℕ} {l : Layout} → Known s l → (m : ℕ) → m < message_count s → {run : Span} → run ≡ message s m → run.first + run.count ≤ field_count s
known-message {s} k m h e = rw e (message-inside s k.good m h)

pub known-enumeration : {s : List ℕ} {l : Layout} → Known s l → (m : ℕ) → m < enum_count s → {run : Span} → run ≡ enumeration s m → run.first + run.count ≤ value_count s
known-enumeration {s} k m h e = rw e (enum-inside s k.good m h)

-- ---- before all of the rule is known

pub fields-name : {s : List ℕ} {l : Layout} → Fields s l → (i : ℕ) → i < field_count s → (field s i).start + (field s i).length ≤ name_count s
fields-name {s} p i h = (field-parts s i (all-at (field_count s) (field_good s) p.good i h)).name.inside

pub members-name : {s : List ℕ} {l : Layout} → Members s l → (i : ℕ) → i < value_count s → (member s i).start + (member s i).length ≤ name_count s
members-name {s} p i h = (member-parts s i (all-at (value_count s) (member_good s) p.good i h)).name.inside

pub fields-run : {s : List ℕ} {l : Layout} → Fields s l → (m : ℕ) → m < message_count s → (message s m).first + (message s m).count ≤ field_count s
fields-run {s} p = running-inside (message s) (message_count s) (field_count s) p.runs

pub members_run : {s : List ℕ} {l : Layout} → Members s l → (e : ℕ) → e < enum_count s → (enumeration s e).first + (enumeration s e).count ≤ value_count s
members_run {s} p = running-inside (enumeration s) (enum_count s) (value_count s) p.runs

pub ruleset parts_steps = (fields-name, members-name, fields-run, members_run)

-- ---- what a lookup finds

-- a record of the run, and so of the table
pub record Within (r : Span) (size i : ℕ) : Type 0 where
  pub low : r.first ≤ i
  pub high : i < r.first + r.count
  pub below : i < size

hit-within : {p : ℕ → Bool} {i : ℕ} (r : Span) (size : ℕ) → Found p r.first r.count i → r.first + r.count ≤ size → Within r size i
hit-within r size h l = record { low = h.from; high = h.below; below = omega (arith, h.below) }

module _ (s : List ℕ) (good : accepted s ≡ true) (i : ℕ) where
  pub field_found : (m : ℕ) → m < message_count s → (name : List ℕ) → find_field s m name ≡ some i → Within (message s m) (field_count s) i × (field_name s i ≡ name)
  unfolding find_field
  field_found m h name e =
      let k = find-some (λ j. same (field_name s j) name) (message s m).first (message s m).count i e in
      (hit-within (message s m) (field_count s) k (message-inside s good m h), same_true (field_name s i) name k.passes)

  pub member-found : (e : ℕ) → e < enum_count s → (name : List ℕ) → find_member s e name ≡ some i → Within (enumeration s e) (value_count s) i × (member_name s i ≡ name)
  unfolding find_member
  member-found e h name f =
      let k = find-some (λ j. same (member_name s j) name) (enumeration s e).first (enumeration s e).count i f in
      (hit-within (enumeration s e) (value_count s) k (enum-inside s good e h), same_true (member_name s i) name k.passes)

  pub number-found : (e : ℕ) → e < enum_count s → (n : ℕ) → find_number s e n ≡ some i → Within (enumeration s e) (value_count s) i × ((member s i).number ≡ n)
  unfolding find_number
  number-found e h n f =
      let k = find-some (λ j. eqb (member s j).number n) (enumeration s e).first (enumeration s e).count i f in
      (hit-within (enumeration s e) (value_count s) k (enum-inside s good e h), eqb-true (member s i).number n k.passes)

-- ---- a field's own name finds it

-- of two records of a run in which none agree, the first doesn't agree with the second
distinct_apart : (agree : ℕ → ℕ → Bool) (r : Span) → distinct agree r ≡ true → (i j : ℕ) → r.first ≤ i → i < j → j < r.first + r.count → agree i j ≡ false
unfolding distinct
distinct_apart agree r e i j a b c =
    let u : i ≡ r.first + (i - r.first) = omega arith in
    let v : j ≡ r.first + (j - r.first) = omega arith in
    let z =
    all-at (j - r.first) (λ x. not (agree (r.first + x) (r.first + (j - r.first))))
    (all-at r.count (λ y. all y (λ x. not (agree (r.first + x) (r.first + y)))) e (j - r.first) (omega arith)) (i - r.first)
    (omega arith) in
    not-true (agree i j) (rw (← u, ← v) at z)

module _ (s : List ℕ) (good : accepted s ≡ true) (m : ℕ) (here : m < message_count s) (name : List ℕ) where
  names_apart : (i j : ℕ) → (message s m).first ≤ i → i < j → j < (message s m).first + (message s m).count → field_name s i ≡ name → field_name s j ≡ name → ⊥
  unfolding fields_agree
  names_apart i j a b c p q =
      let t : same (field_name s i) (field_name s j) ≡ true = eq-same (field_name s i) (field_name s j) (p ∙ sym q) in
      let z =
      distinct_apart (fields_agree s) (message s m)
      (all-at (message_count s) (λ x. distinct (fields_agree s) (message s x)) (accepted-records s good).apart m here) i j a b c in
      true-false false (sym (rw t at z)) refl

  pub field-own : (i : ℕ) → (message s m).first ≤ i → i < (message s m).first + (message s m).count → same (field_name s i) name ≡ true → find_field s m name ≡ some i
  unfolding find_field
  field-own i a b e = go (find_field s m name) refl
    where
      meet : (j : ℕ) → find_field s m name ≡ some j → Within (message s m) (field_count s) j × (field_name s j ≡ name) → (x y : Bool) → ltb i j ≡ x → ltb j i ≡ y → find_field s m name ≡ some i
      meet j q f true y p r = absurd (names_apart i j a (ltb-true i j p) f.0.high (same_true (field_name s i) name e) f.1)
      meet j q f false true p r = absurd (names_apart j i f.0.low (ltb-true j i r) b f.1 (same_true (field_name s i) name e))
      meet j q f false false p r = let z : j ≡ i = omega (arith, ltb-false i j p, ltb-false j i r) in q ∙ ap some z

      go : (o : Option ℕ) → find_field s m name ≡ o → find_field s m name ≡ some i
      go none q = true-false _ e (find_none (λ j. same (field_name s j) name) (message s m).first (message s m).count q i a b)
      go (some j) q = meet j q (field_found s good j m here name q) (ltb i j) (ltb j i) refl refl
