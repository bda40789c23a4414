-- What an accepted schema is good for: its runs lie in its tables, its names are identifiers and stand apart, and a field's own name
-- finds it.
use Prim.Native.Nat.{ℕ, zero, suc, ◌+◌, ◌*◌, ◌^◌, ◌-◌, ◌≤◌, ◌<◌}
use native.Mathlib.Omega.{arith}
use native.Mathlib.Nat.{pow-succ'}
use mathlib.Core.Path.{◌≡◌, refl, sym}
use mathlib.Core.Bool.{Bool, true, false, ◌||◌, not}
use mathlib.Core.List.{List}
use mathlib.Core.Option.{some}
use lib.Dec.{ltb, leb, eqb}
use borrow.Author.Tests.{eqb-true, eqb-false, eq-eqb, ltb-true, not-true, ltb-false}
use Rattle.definitions.specs.declared.Span.{Span}
use Rattle.definitions.specs.Basics.{same, all}
use Rattle.definitions.specs.Bits.{bit, bits}
use Rattle.definitions.specs.Image.{message_count, field_count, enum_count, value_count, message, enumeration, field, member, member_at, field_name, member_name, identifier, name_good, name_count, field_zero, field_at, key_good, type_good, field_good, member_good, total, running, distinct, fields_agree, members_agree, header_good, records_good, accepted, find_field, find_member, find_number}
use Rattle.laws.proofs.Lists.{and_parts, true-false, all-at, same_true, same_refl, find-some, found-find}

pub or-true : (b : Bool) → b || true ≡ true
or-true true = refl
or-true false = refl

-- ---- runs

total-more : (f : ℕ → Span) (i n : ℕ) → i < n → total f i + (f i).count ≤ total f n
unfolding total
total-more f i zero h = absurd (omega arith)
total-more f i (suc n) h = go (total-more f i n) (eqb i n) refl
  where
    go : (i < n → total f i + (f i).count ≤ total f n) → (t : Bool) → eqb i n ≡ t → total f i + (f i).count ≤ total f n + (f n).count
    go ih true q = rw (eqb-true i n q) (omega arith)
    go ih false q = let ne = eqb-false i n q in let r = ih (omega arith) in omega arith

-- an index of a run is one of the table
pub run-within : (f : ℕ → Span) (n size m i : ℕ) → running f n size ≡ true → m < n → (f m).first ≤ i → i < (f m).first + (f m).count → i < size
unfolding running
run-within f n size m i e h a b =
    let r = and_parts (all n (λ j. eqb (f j).first (total f j))) (eqb (total f n) size) e in
    let p : (f m).first ≡ total f m = eqb-true _ _ (all-at n (λ j. eqb (f j).first (total f j)) r.0 m h) in
    let q : total f n ≡ size = eqb-true _ _ r.1 in
    let l = total-more f m n h in
    omega arith

-- two records of a run in which none agree are one
pub distinct-one : (agree : ℕ → ℕ → Bool) (r : Span) → distinct agree r ≡ true → (i j : ℕ) → r.first ≤ i → i < r.first + r.count → r.first ≤ j
    → j < r.first + r.count → agree i j ≡ true → agree j i ≡ true → i ≡ j
unfolding distinct
distinct-one agree r e i j a b c d p q = go (ltb i j) (ltb j i) refl refl
  where
    apart : (x y : ℕ) → r.first ≤ x → y < r.first + r.count → x < y → agree x y ≡ false
    apart x y g h k =
        let u : x ≡ r.first + (x - r.first) = omega arith in
        let v : y ≡ r.first + (y - r.first) = omega arith in
        let z =
        all-at (y - r.first) (λ i. not (agree (r.first + i) (r.first + (y - r.first))))
        (all-at r.count (λ j. all j (λ i. not (agree (r.first + i) (r.first + j)))) e (y - r.first) (omega arith)) (x - r.first)
        (omega arith) in
        not-true (agree x y) (rw (← u, ← v) at z)

    go : (s t : Bool) → ltb i j ≡ s → ltb j i ≡ t → i ≡ j
    go true t y z = true-false (agree i j) p (apart i j a d (ltb-true i j y))
    go false true y z = true-false (agree j i) q (apart j i c b (ltb-true j i z))
    go false false y z = omega (arith, ltb-false i j y, ltb-false j i z)

-- ---- an accepted schema

pub record Accepted (s : List ℕ) : Type 0 where
  pub fields_run : running (message s) (message_count s) (field_count s) ≡ true
  pub values_run : running (enumeration s) (enum_count s) (value_count s) ≡ true
  pub fields_good : all (field_count s) (field_good s) ≡ true
  pub values_good : all (value_count s) (member_good s) ≡ true
  pub fields_apart : all (message_count s) (λ i. distinct (fields_agree s) (message s i)) ≡ true
  pub values_apart : all (enum_count s) (λ i. distinct (members_agree s) (enumeration s i)) ≡ true

pub accepted-is : (s : List ℕ) → accepted s ≡ true → Accepted s
unfolding accepted records_good
accepted-is s e = go (header_good s) refl
  where
    go : (t : Bool) → header_good s ≡ t → Accepted s
    go false q = true-false false (rw q at e) refl
    go true q =
        let r₆ = and_parts _ _ (rw q at e) in
        let r₅ = and_parts _ _ r₆.0 in
        let r₄ = and_parts _ _ r₅.0 in
        let r₃ = and_parts _ _ r₄.0 in
        let r₂ = and_parts _ _ r₃.0 in
        let r₁ = and_parts _ _ r₂.0 in
        record { fields_run = r₁.0; values_run = r₁.1; fields_good = r₃.1; values_good = r₄.1; fields_apart = r₅.1; values_apart = r₆.1 }

-- the index lies in a run
abbrev pub In : Span → ℕ → Type 0
In r i = (r.first ≤ i) × (i < r.first + r.count)

bits_below : (s : List ℕ) (i w : ℕ) → bits s i w < 2 ^ w
unfolding bits bit
bits_below s i zero = omega arith
bits_below s i (suc w) =
    let h = bits_below s i w in
    let e : 2 ^ suc w ≡ 2 * 2 ^ w = pow-succ' 2 w in
    rw e (omega arith)

-- an enum value's number has 32 bits
pub member-number : (s : List ℕ) (i : ℕ) → (member s i).number < 2 ^ 32
unfolding member
member-number s i = bits_below (member_at s i) 22 32

module _ (s : List ℕ) (ok : Accepted s) where
  module _ (m : ℕ) (here : m < message_count s) where
    pub field-within : (i : ℕ) → In (message s m) i → i < field_count s
    field-within i h = run-within (message s) (message_count s) (field_count s) m i ok.fields_run here h.0 h.1

    -- a field's name is its own
    pub field-one : (i j : ℕ) → In (message s m) i → In (message s m) j → field_name s i ≡ field_name s j → i ≡ j
    unfolding fields_agree
    field-one i j h k e =
        let same-ij : same (field_name s i) (field_name s j) ≡ true = rw e (same_refl (field_name s j)) in
        let same-ji : same (field_name s j) (field_name s i) ≡ true = rw e (same_refl (field_name s j)) in
        distinct-one (fields_agree s) (message s m) (all-at (message_count s) (λ i. distinct (fields_agree s) (message s i)) ok.fields_apart m here) i
        j h.0 h.1 k.0 k.1 (rw same-ij) (rw same-ji)

    pub found-field : (name : List ℕ) (j : ℕ) → find_field s m name ≡ some j → In (message s m) j × (field_name s j ≡ name)
    unfolding find_field
    found-field name j e =
        let r = find-some (λ i. same (field_name s i) name) (message s m).first (message s m).count j e in
        ((r.from, r.below), same_true (field_name s j) name r.passes)

    -- and finds it
    pub find-own : (i : ℕ) → In (message s m) i → find_field s m (field_name s i) ≡ some i
    unfolding find_field
    find-own i h =
        found-find (λ j. same (field_name s j) (field_name s i)) (message s m).first (message s m).count i
        (record { from = h.0; below = h.1; passes = same_refl (field_name s i); before = other })
      where
        other : (k : ℕ) → (message s m).first ≤ k → k < i → same (field_name s k) (field_name s i) ≡ false
        other k a b = go (same (field_name s k) (field_name s i)) refl
          where
            go : (t : Bool) → same (field_name s k) (field_name s i) ≡ t → same (field_name s k) (field_name s i) ≡ false
            go false q = q
            go true q = let y = field-one k i (a, omega arith) h (same_true (field_name s k) (field_name s i) q) in absurd (omega arith)

  field-good : (i : ℕ) → i < field_count s → field_good s i ≡ true
  field-good i h = all-at (field_count s) (field_good s) ok.fields_good i h

  -- what a field's record is good for, one by one
  field-parts : (i : ℕ) → i < field_count s
      → (name_good s (field s i).start (field s i).length ≡ true) × (key_good (field s i) ≡ true) × (type_good s (field s i) ≡ true)
  unfolding field_good
  field-parts i h =
      let r₄ = and_parts _ (eqb (field_zero (field_at s i)) 0) (field-good i h) in
      let r₃ = and_parts _ (type_good s (field s i)) r₄.0 in
      let r₂ = and_parts _ (key_good (field s i)) r₃.0 in
      let r₁ = and_parts _ _ r₂.0 in
      (r₁.0, r₂.1, r₃.1)

  pub field-identifier : (i : ℕ) → i < field_count s → identifier (field_name s i) ≡ true
  unfolding name_good field_name
  field-identifier i h = (and_parts (leb ((field s i).start + (field s i).length) (name_count s)) _ (field-parts i h).0).1

  pub field-key : (i : ℕ) → i < field_count s → key_good (field s i) ≡ true
  field-key i h = (field-parts i h).1

  pub field-type : (i : ℕ) → i < field_count s → type_good s (field s i) ≡ true
  field-type i h = (field-parts i h).2

  -- a rank that is a field's is no unknown one's
  pub field-known : (i : ℕ) → i < field_count s → i < 4096
  unfolding field_count
  field-known i h = omega (arith, bits_below s 12 12)

  module _ (e : ℕ) (here : e < enum_count s) where
    pub member-within : (i : ℕ) → In (enumeration s e) i → i < value_count s
    member-within i h = run-within (enumeration s) (enum_count s) (value_count s) e i ok.values_run here h.0 h.1

    pub member-one : (i j : ℕ) → In (enumeration s e) i → In (enumeration s e) j → member_name s i ≡ member_name s j → i ≡ j
    unfolding members_agree
    member-one i j h k q =
        let same-ij : same (member_name s i) (member_name s j) ≡ true = rw q (same_refl (member_name s j)) in
        let same-ji : same (member_name s j) (member_name s i) ≡ true = rw q (same_refl (member_name s j)) in
        distinct-one (members_agree s) (enumeration s e)
        (all-at (enum_count s) (λ i. distinct (members_agree s) (enumeration s i)) ok.values_apart e here) i j h.0 h.1 k.0 k.1
        (rw same-ij) (rw same-ji)

    pub member-number-one : (i j : ℕ) → In (enumeration s e) i → In (enumeration s e) j → (member s i).number ≡ (member s j).number → i ≡ j
    unfolding members_agree
    member-number-one i j h k q =
        distinct-one (members_agree s) (enumeration s e)
        (all-at (enum_count s) (λ i. distinct (members_agree s) (enumeration s i)) ok.values_apart e here) i j h.0 h.1 k.0 k.1
        (rw (eq-eqb (member s i).number (member s j).number q) (or-true (same (member_name s i) (member_name s j))))
        (rw (eq-eqb (member s j).number (member s i).number (sym q)) (or-true (same (member_name s j) (member_name s i))))

    pub found-member : (name : List ℕ) (j : ℕ) → find_member s e name ≡ some j → In (enumeration s e) j × (member_name s j ≡ name)
    unfolding find_member
    found-member name j q =
        let r = find-some (λ i. same (member_name s i) name) (enumeration s e).first (enumeration s e).count j q in
        ((r.from, r.below), same_true (member_name s j) name r.passes)

    pub found_number : (n i : ℕ) → find_number s e n ≡ some i → In (enumeration s e) i × ((member s i).number ≡ n)
    unfolding find_number
    found_number n i q =
        let r = find-some (λ j. eqb (member s j).number n) (enumeration s e).first (enumeration s e).count i q in
        ((r.from, r.below), eqb-true (member s i).number n r.passes)

  pub member-identifier : (i : ℕ) → i < value_count s → identifier (member_name s i) ≡ true
  unfolding member_good name_good member_name
  member-identifier i h =
      let r₁ = and_parts (name_good s (member s i).start (member s i).length) _ (all-at (value_count s) (member_good s) ok.values_good i h) in
      (and_parts (leb ((member s i).start + (member s i).length) (name_count s)) _ r₁.0).1
