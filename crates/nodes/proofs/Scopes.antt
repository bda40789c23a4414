-- The scope inside a message or an entry, as the code has it: what it is, that it is one of the schema, and what it asks for.
use Prim.Native.Nat.{ℕ, ◌+◌, ◌-◌, ◌≤◌, ◌<◌}
use native.Mathlib.Omega.{arith}
use mathlib.Core.Bool.{Bool, true, false}
use mathlib.Core.Logic.{◌⊎◌, inl, inr}
use mathlib.Core.Path.{◌≡◌, refl, sym}
use mathlib.Core.List.{List}
use lib.Dec.{eqb, ltb, leb}
use borrow.Author.Tests.{ltb-true, ltb-false, eqb-true, lt-ltb, le-ltb, le-leb, eq-eqb, ne_eqb}
use Rattle.definitions.specs.declared.Want.{Want}
use Rattle.definitions.specs.declared.Field.{Field}
use Rattle.definitions.specs.declared.Span.{Span}
use Rattle.definitions.specs.Image.{message_count, field_count, message, field, is_map, accepted, key_good, type_good}
use Rattle.definitions.specs.Scope.{Scope, in_message, in_entry, want, want_of, want_in, within, has_field, nests, body, map_entry}
use Rattle.definitions.specs.Nodes.{is_unknown}
use Rattle.definitions.specs.Reading.{root_want}
use Rattle.laws.proofs.Lists.{and_parts, true-false}
use Rattle.records.proofs.Room.{field_count-lt}
use Rattle.records.proofs.Accepted.{message-inside, field-has, reference-message, kind-range, key-range, key-none}
use Rattle.nodes.specs.Span.{There, Inside, FieldsAre}

-- ---- what lies inside

pub within-entry : (w : Want) → w.kind ≡ map_entry → within w ≡ in_entry w.reference
unfolding within
within-entry w h = simp (eq-eqb w.kind map_entry h)

pub within-message : (w : Want) → (w.kind ≡ map_entry → ⊥) → within w ≡ in_message w.reference
unfolding within
within-message w h = simp (ne_eqb w.kind map_entry h)

pub within-root : (root : ℕ) → within (root_want root) ≡ in_message root
within-root root = within-message (root_want root) (λ z. omega arith)

pub there-root : (s : List ℕ) (w : Want) (root : ℕ) → w ≡ root_want root → root < message_count s → There s (within w)
unfolding There
there-root s w root e h = rw (e, within-root root) h

pub there-entry : (s : List ℕ) (w : Want) → w.kind ≡ map_entry → There s (within w) → w.reference < field_count s
unfolding There
there-entry s w h t = rw (within-entry w h) at t

pub there-message : (s : List ℕ) (w : Want) → (w.kind ≡ map_entry → ⊥) → There s (within w) → w.reference < message_count s
unfolding There
there-message s w h t = rw (within-message w h) at t

-- ---- the fields of a scope

pub ltb-from : (a b i : ℕ) → a ≤ i → ltb (i - a) b ≡ ltb i (a + b)
ltb-from a b i h = go (ltb (i - a) b) refl
  where
    go : (t : Bool) → ltb (i - a) b ≡ t → t ≡ ltb i (a + b)
    go true e = let x = ltb-true (i - a) b e in sym (lt-ltb i (a + b) (omega arith))
    go false e = let x = ltb-false (i - a) b e in sym (le-ltb i (a + b) (omega arith))

pub fields-entry : (s : List ℕ) (w : Want) → w.kind ≡ map_entry → FieldsAre s (within w) (record { first = 0; count = 2 })
unfolding has_field
fields-entry s w h i = rw (within-entry w h, le-leb 0 i (omega arith))

pub fields-message : (s : List ℕ) (w : Want) → (w.kind ≡ map_entry → ⊥) → (run : Span) → run ≡ message s w.reference → FieldsAre s (within w) run
unfolding has_field
fields-message s w h run e i = rw (within-message w h, e)

module _ (s : List ℕ) (good : accepted s ≡ true) where
  -- a field of a message is one of the schema
  in-message : (m i : ℕ) → m < message_count s → has_field s (in_message m) i ≡ true → i < field_count s
  unfolding has_field
  in-message m i h k =
      let p = and_parts (leb (message s m).first i) (ltb i ((message s m).first + (message s m).count)) k in
      let x = ltb-true i ((message s m).first + (message s m).count) p.1 in
      let y = message-inside s good m h in
      omega arith

  pub inside-message : (w : Want) (i : ℕ) → (w.kind ≡ map_entry → ⊥) → There s (within w) → Inside s (within w) i → i < field_count s
  inside-message w i h t k = in-message w.reference i (there-message s w h t) (rw (within-message w h) at k)

  pub inside-small : (w : Want) (i : ℕ) → (w.kind ≡ map_entry → ⊥) → There s (within w) → Inside s (within w) i → i < 4096
  inside-small w i h t k = omega (arith, inside-message w i h t k, field_count-lt s)

-- ---- what a field asks for

pub want_entry : (s : List ℕ) (w : Want) (i : ℕ) → w.kind ≡ map_entry → want s (within w) i ≡ want_in (field s w.reference) i
unfolding want
want_entry s w i h = rw (within-entry w h)

pub want-message : (s : List ℕ) (w : Want) (i : ℕ) → (w.kind ≡ map_entry → ⊥) → want s (within w) i ≡ want_of i (field s i)
unfolding want
want-message s w i h = rw (within-message w h)

-- ---- what lies inside a field that holds nodes is one of the schema too

-- messages and entries
pub nests-which : (k : ℕ) → nests k ≡ true → (k ≡ body) ⊎ (k ≡ map_entry)
nests-which k h = go (eqb k body) refl
  where
    go : (t : Bool) → eqb k body ≡ t → (k ≡ body) ⊎ (k ≡ map_entry)
    go true e = inl (eqb-true k body e)
    go false e = inr (eqb-true k map_entry (rw e at h))

pub nests-known : (k : ℕ) → nests k ≡ true → is_unknown k ≡ false
nests-known k h = go (nests-which k h)
  where
    go : (k ≡ body) ⊎ (k ≡ map_entry) → is_unknown k ≡ false
    go (inl e) = rw e
    go (inr e) = rw e

module _ (s : List ℕ) (good : accepted s ≡ true) where
  -- a type's own reference
  there-type : (f : Field) (i : ℕ) → type_good s f ≡ true → nests f.kind ≡ true → There s (within record { kind = f.kind; reference = f.reference; field = i })
  unfolding There within
  there-type f i t n = go (nests-which f.kind n)
    where
      go : (f.kind ≡ body) ⊎ (f.kind ≡ map_entry) → There s (within record { kind = f.kind; reference = f.reference; field = i })
      go (inl e) = rw e (reference-message s f t e)
      go (inr e) = absurd (omega (arith, (kind-range s f t).1))

  -- a key is a number or a string
  key-plain : (f : Field) → key_good f ≡ true → f.key ≤ 6
  key-plain f k = go (is_map f) refl
    where
      go : (t : Bool) → is_map f ≡ t → f.key ≤ 6
      go true e = (key-range f k e).1
      go false e = omega (arith, key-none f k e)

  there-of : (i : ℕ) → i < field_count s → nests (want_of i (field s i)).kind ≡ true → There s (within (want_of i (field s i)))
  unfolding There within
  there-of i h n = go (is_map (field s i)) refl
    where
      go : (t : Bool) → is_map (field s i) ≡ t → There s (within (want_of i (field s i)))
      go true e = rw e h
      go false e = rw e (there-type (field s i) i (field-has s good i h).type (rw e at n))

  there-in : (g i : ℕ) → g < field_count s → nests (want_in (field s g) i).kind ≡ true → There s (within (want_in (field s g) i))
  unfolding There within
  there-in g i h n = go (eqb i 0) refl
    where
      small : (k : ℕ) → k ≤ 6 → nests k ≡ false
      small k l = simp (ne_eqb k body (λ z. omega arith), ne_eqb k map_entry (λ z. omega arith))

      go : (t : Bool) → eqb i 0 ≡ t → There s (within (want_in (field s g) i))
      go true e =
          true-false (nests (field s g).key) (rw e at n) (small (field s g).key (key-plain (field s g) (field-has s good g h).key))
      go false e = rw e (there-type (field s g) 1 (field-has s good g h).type (rw e at n))

  pub there-want : (c : Scope) (i : ℕ) → There s c → Inside s c i → nests (want s c i).kind ≡ true → There s (within (want s c i))
  unfolding want There
  there-want (in_message m) i t k n = there-of i (in-message s good m i t k) n
  there-want (in_entry g) i t k n = there-in g i t n
