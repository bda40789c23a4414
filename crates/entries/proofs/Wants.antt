-- What a schema's fields ask for: lookup finds what is there, and what is wanted is there in the schema.
use mathlib.Core.Path.{◌≡◌, sym, refl}
use Prim.Native.Nat.{ℕ, ◌≤◌, ◌<◌, ◌+◌}
use mathlib.Core.Bool.{Bool, true, false}
use mathlib.Core.List.{List}
use mathlib.Core.Option.{Option, none, some}
use native.Mathlib.Omega.{arith}
use lib.Dec.{leb, ltb, eqb}
use borrow.Author.Tests.{eq-eqb, ne_eqb, ltb-true, le-leb, lt-ltb, eqb-true, eqb-false}
use Rattle.definitions.specs.declared.Want.{Want}
use Rattle.definitions.specs.Basics.{when◌then◌otherwise◌, same}
use Rattle.definitions.specs.Image.{accepted, field_count, message, field, is_map, find_field}
use Rattle.definitions.specs.Scope.{Scope, in_message, in_entry, key_name, value_name, want, within, nests, has_field, find_in, map_entry, body}
use Rattle.laws.proofs.Reach.{by-test}
use Rattle.laws.proofs.Lists.{find-some, and_parts}
use Rattle.records.proofs.Room.{field_count-lt}
use Rattle.records.proofs.Accepted.{Good, message-inside, field-has, reference-enum, reference-message, kind-range, key-range}
use Rattle.nodes.specs.Span.{There}
use Rattle.leaves.specs.Answers.{Fits, Inside}

-- ---- scopes

pub within-entry : (w : Want) → w.kind ≡ map_entry → within w ≡ in_entry w.reference
unfolding within
within-entry w h = simp (eq-eqb _ _ h)

pub within-message : (w : Want) → (w.kind ≡ map_entry → ⊥) → within w ≡ in_message w.reference
unfolding within
within-message w h = simp (ne_eqb _ _ h)

-- ---- lookup

field-inside : (image : List ℕ) (m : ℕ) (name : List ℕ) (i : ℕ) → find_field image m name ≡ some i → has_field image (in_message m) i ≡ true
unfolding find_field has_field
field-inside image m name i k =
    let z = find-some _ _ _ _ k in
    rw (le-leb _ _ z.from, lt-ltb _ _ z.below) refl

pub find-key : (image : List ℕ) (g : ℕ) (name : List ℕ) → true ≡ same key_name name → find_in image (in_entry g) name ≡ some 0
unfolding find_in
find-key image g name h = simp (sym h)

pub find-value : (image : List ℕ) (g : ℕ) (name : List ℕ) → false ≡ same key_name name → true ≡ same value_name name → find_in image (in_entry g) name ≡ some 1
unfolding find_in
find-value image g name h k = simp (sym h, sym k)

pub find-neither : (image : List ℕ) (g : ℕ) (name : List ℕ) → false ≡ same key_name name → false ≡ same value_name name → find_in image (in_entry g) name ≡ none
unfolding find_in
find-neither image g name h k = simp (sym h, sym k)

-- what is found is one of the scope's
pub found_inside : (image : List ℕ) (c : Scope) (name : List ℕ) (i : ℕ) → find_in image c name ≡ some i → has_field image c i ≡ true
unfolding find_in has_field
found_inside image (in_message m) name i k = field-inside image m name i k
found_inside image (in_entry g) name i k = go (same key_name name) (same value_name name) k
  where
    go : (a b : Bool) → ◌≡◌ {A = Option ℕ} (when a then (λ _. some 0) otherwise λ _. when b then (λ _. some 1) otherwise λ _. none) (some i) → has_field image (in_entry g) i ≡ true
    go true b e = let z : 0 ≡ i = cc in rw (← z) refl
    go false true e = let z : 1 ≡ i = cc in rw (← z) refl
    go false false e = let z : ◌≡◌ {A = ℕ} 0 1 = cc in absurd (omega arith)

-- ---- what is wanted

pub nests-message : (w : Want) → nests w.kind ≡ true → (w.kind ≡ map_entry → ⊥) → w.kind ≡ body
nests-message w h n = go (eqb w.kind body) refl
  where
    go : (b : Bool) → eqb w.kind body ≡ b → w.kind ≡ body
    go true e = eqb-true _ _ e
    go false e = let z : eqb w.kind map_entry ≡ true = rw e at h in absurd (n (eqb-true _ _ z))

pub inside-below : (image : List ℕ) (w : Want) (i : ℕ) → accepted image ≡ true → Fits image w → (w.kind ≡ map_entry → ⊥) → Inside image w i → w.kind ≡ body → i < field_count image
unfolding has_field
inside-below image w i a f n h b =
    let k : has_field image (in_message w.reference) i ≡ true = rw (within-message w n) at h in
    let z = and_parts (leb (message image w.reference).first i) (ltb i ((message image w.reference).first + (message image w.reference).count)) k in
    omega (arith, ltb-true i ((message image w.reference).first + (message image w.reference).count) z.1, message-inside image a w.reference (f.messages b))

-- the message or entry is the schema's
pub scope-there : (image : List ℕ) (w : Want) → Fits image w → nests w.kind ≡ true → There image (within w)
unfolding There
scope-there image w f n = go (eqb w.kind map_entry) refl
  where
    go : (b : Bool) → eqb w.kind map_entry ≡ b → There image (within w)
    go true e = let k = eqb-true w.kind map_entry e in rw (within-entry w k) (f.maps k).0
    go false e = let k = eqb-false w.kind map_entry e in rw (within-message w k) (f.messages (nests-message w n k))

pub nests-entry : (w : Want) → w.kind ≡ map_entry → nests w.kind ≡ true
nests-entry w h = rw h refl

pub entry-inside : (image : List ℕ) (w : Want) (i : ℕ) → w.kind ≡ map_entry → i < 2 → Inside image w i
unfolding has_field
entry-inside image w i h k = rw (within-entry w h) (lt-ltb i 2 k)

-- ---- what is wanted fits

module _ (image : List ℕ) (a : accepted image ≡ true) where
  -- an entry's key and value
  entry-fits : (g : ℕ) → g < field_count image → is_map (field image g) ≡ true → (i : ℕ) → Fits image (want image (in_entry g) i)
  unfolding want
  entry-fits g h m i = go (eqb i 0)
    where
      good : Good image g
      good = field-has image a g h

      kind : (1 ≤ (field image g).kind) × ((field image g).kind ≤ 9)
      kind = kind-range image (field image g) good.type

      key : (1 ≤ (field image g).key) × ((field image g).key ≤ 6)
      key = key-range (field image g) good.key m

      go : (b : Bool) → Fits image (when b then (λ _. record { kind = (field image g).key; reference = 0; field = 0 }) otherwise λ _. record { kind = (field image g).kind; reference = (field image g).reference; field = 1 })
      go true = record {
        least = key.0;
        most = omega (arith, key.1);
        enums = λ e. absurd (omega (arith, key.1, e));
        messages = λ e. absurd (omega (arith, key.1, e));
        maps = λ e. absurd (omega (arith, key.1, e));
      }
      go false = record {
        least = kind.0;
        most = omega (arith, kind.1);
        enums = λ e. reference-enum image (field image g) good.type e;
        messages = λ e. reference-message image (field image g) good.type e;
        maps = λ e. absurd (omega (arith, kind.1, e));
      }

  message-fits : (m i : ℕ) → i < field_count image → Fits image (want image (in_message m) i)
  unfolding want
  message-fits m i h = go (is_map (field image i)) refl
    where
      good : Good image i
      good = field-has image a i h

      kind : (1 ≤ (field image i).kind) × ((field image i).kind ≤ 9)
      kind = kind-range image (field image i) good.type

      go : (b : Bool) → is_map (field image i) ≡ b → Fits image (when b then (λ _. record { kind = map_entry; reference = i; field = i }) otherwise λ _. record { kind = (field image i).kind; reference = (field image i).reference; field = i })
      go true e = record {
        least = omega arith;
        most = omega arith;
        enums = λ z. absurd (omega (arith, z));
        messages = λ z. absurd (omega (arith, z));
        maps = λ z. (h, e);
      }
      go false e = record {
        least = kind.0;
        most = omega (arith, kind.1);
        enums = λ z. reference-enum image (field image i) good.type z;
        messages = λ z. reference-message image (field image i) good.type z;
        maps = λ z. absurd (omega (arith, kind.1, z));
      }

  pub want-fits : (w : Want) (i : ℕ) → Fits image w → nests w.kind ≡ true → Inside image w i → Fits image (want image (within w) i)
  want-fits w i f n h = go (eqb w.kind map_entry) refl
    where
      go : (b : Bool) → eqb w.kind map_entry ≡ b → Fits image (want image (within w) i)
      go true e = let k = eqb-true w.kind map_entry e in rw (within-entry w k) (entry-fits w.reference (f.maps k).0 (f.maps k).1 i)
      go false e =
          let k = eqb-false w.kind map_entry e in
          rw (within-message w k) (message-fits w.reference i (inside-below image w i a f k h (nests-message w n k)))

  -- the field word of what is wanted
  pub want-field : (w : Want) (i : ℕ) → Fits image w → nests w.kind ≡ true → Inside image w i → (want image (within w) i).field < 4096
  unfolding want
  want-field w i f n h = go (eqb w.kind map_entry) refl
    where
      go : (b : Bool) → eqb w.kind map_entry ≡ b → (want image (within w) i).field < 4096
      go true e = let k = eqb-true w.kind map_entry e in rw (within-entry w k) (by-test (λ (v : Want). v.field < 4096) (eqb i 0) _ _ (λ _. omega arith) (λ _. omega arith))
      go false e =
          let k = eqb-false w.kind map_entry e in
          let z = inside-below image w i a f k h (nests-message w n k) in
          rw (within-message w k) (by-test (λ (v : Want). v.field < 4096) (is_map (field image i)) _ _ (λ _. omega (arith, z, field_count-lt image)) (λ _. omega (arith, z, field_count-lt image)))
