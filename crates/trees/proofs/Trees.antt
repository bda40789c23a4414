-- Trees that print and read agree on: values that fit what is wanted of them, scopes of two schemas that go together, and what the
-- older schema wants of a field that it knows.
use Prim.Native.Nat.{ℕ, ◌+◌, ◌-◌, ◌%◌, ◌≤◌, ◌<◌}
use native.Mathlib.Omega.{arith}
use mathlib.Core.Path.{◌≡◌, refl, sym, ◌∙◌}
use mathlib.Core.Bool.{Bool, true, false}
use mathlib.Core.List.{List}
use mathlib.Core.Option.{some}
use lib.Dec.{ltb, leb, eqb}
use borrow.Author.Tests.{eqb-true, leb-true, ltb-true, le-leb, lt-ltb}
use Rattle.definitions.specs.declared.Field.{Field}
use Rattle.definitions.specs.declared.Want.{Want}
use Rattle.definitions.specs.Basics.{same, each}
use Rattle.definitions.specs.Image.{message_count, field_count, enum_count, message, field, identifier, is_map, key_good, type_good, find_number}
use Rattle.definitions.specs.Scope.{Scope, in_message, in_entry, want, within, has_field, name_in, find_in, nests, i32, i64, u32, u64, bool, string, byte_string, enum, body, map_entry}
use Rattle.definitions.specs.Nodes.{word32, word64}
use Rattle.definitions.specs.Utf8.{utf8}
use Rattle.definitions.specs.Live.{Val, number, run, inside, Tree, nil, node}
use Rattle.laws.proofs.Ranges.{SignedIn}
use Rattle.laws.proofs.Lists.{and_parts, and-made, true-false, AreBytes}
use Rattle.trees.proofs.Accepted.{Accepted, In, field-within, field-known, field-key, field-type, field-identifier}
use Rattle.trees.proofs.Extends.{Extends, SameField, known-field}

-- ---- values that fit

-- an entry has its key, then its value
abbrev pub Pair : Tree → Type 0
Pair nil = ⊥
Pair (node a k v t nil) = ⊥
Pair (node a k v t (node b l u s nil)) = (a ≡ 0) × (b ≡ 1)
Pair (node a k v t (node b l u s (node e m x y z))) = ⊥

-- a value, with what lies inside it, for what is wanted; so many levels are left below
pub data Sound (s : List ℕ) (left : ℕ) (w : Want) : Val → Tree → Type 0 where
  sound_i32 : {n : ℕ} → w.kind ≡ i32 → SignedIn 32 n → Sound s left w (number n) nil
  sound_i64 : {n : ℕ} → w.kind ≡ i64 → SignedIn 64 n → Sound s left w (number n) nil
  sound_u32 : {n : ℕ} → w.kind ≡ u32 → n < word32 → Sound s left w (number n) nil
  sound_u64 : {n : ℕ} → w.kind ≡ u64 → n < word64 → Sound s left w (number n) nil
  sound_bool : {n : ℕ} → w.kind ≡ bool → n ≤ 1 → Sound s left w (number n) nil
  sound_enum : {n : ℕ} → w.kind ≡ enum → (i : ℕ) → find_number s w.reference (n % word32) ≡ some i → SignedIn 32 n
      → Sound s left w (number n) nil
  sound_string : {bs : List ℕ} → w.kind ≡ string → AreBytes bs → utf8 bs ≡ true → Sound s left w (run bs) nil
  sound_bytes : {bs : List ℕ} → w.kind ≡ byte_string → AreBytes bs → Sound s left w (run bs) nil
  sound_body : {t : Tree} → w.kind ≡ body → 1 ≤ left → Sound s left w inside t
  sound_entry : {t : Tree} → w.kind ≡ map_entry → 1 ≤ left → Pair t → Sound s left w inside t

abbrev pub Fits : List ℕ → ℕ → Scope → Tree → Type 0
Fits s left c nil = Unit {0}
Fits s left c (node r k v kids rest) =
    (has_field s c r ≡ true) × (k ≡ (want s c r).kind) × Sound s left (want s c r) v kids × Fits s (left - 1) (within (want s c r)) kids
    × Fits s left c rest

-- ---- fields of a scope

pub has_in : (s : List ℕ) (m i : ℕ) → has_field s (in_message m) i ≡ true → In (message s m) i
unfolding has_field
has_in s m i e =
    let h = and_parts (leb (message s m).first i) (ltb i ((message s m).first + (message s m).count)) e in
    (leb-true _ _ h.0, ltb-true _ _ h.1)

pub in-has : (s : List ℕ) (m i : ℕ) → In (message s m) i → has_field s (in_message m) i ≡ true
unfolding has_field
in-has s m i h = and-made _ _ (le-leb _ _ h.0) (lt-ltb _ _ h.1)

-- ---- scopes of a newer and an older schema that go together

module _ (N O : List ℕ) where
  pub record SameEntry (g h : ℕ) : Type 0 where
    pub newer_in : g < field_count N
    pub older_in : h < field_count O
    pub older_map : is_map (field O h) ≡ true
    pub key : (field N g).key ≡ (field O h).key
    pub kind : (field N g).kind ≡ (field O h).kind
    pub reference : (field N g).reference ≡ (field O h).reference

  abbrev pub Together : Scope → Scope → Type 0
  Together (in_message m) (in_message l) = (m ≡ l) × (l < message_count O)
  Together (in_message m) (in_entry h) = ⊥
  Together (in_entry g) (in_message l) = ⊥
  Together (in_entry g) (in_entry h) = SameEntry g h

  -- what the two want of one field
  pub record Wants (w v : Want) : Type 0 where
    pub kind : v.kind ≡ w.kind
    pub member : w.kind ≡ enum → (v.reference ≡ w.reference) × (v.reference < enum_count O)
    pub inner : nests w.kind ≡ true → Together (within w) (within v)

-- a type that is accepted refers to what exists
enum-exists : (s : List ℕ) (f : Field) → type_good s f ≡ true → f.kind ≡ enum → f.reference < enum_count s
unfolding type_good
enum-exists s f e k = ltb-true _ _ (rw (k, type_good) at e)

pub body-exists : (s : List ℕ) (f : Field) → type_good s f ≡ true → f.kind ≡ body → f.reference < message_count s
unfolding type_good
body-exists s f e k = ltb-true _ _ (rw (k, type_good) at e)

-- no field's type is an entry's kind
pub not_entry : (s : List ℕ) (f : Field) → type_good s f ≡ true → f.kind ≡ map_entry → ⊥
unfolding type_good
not_entry s f e k = true-false false (rw (k, type_good) at e) refl

-- a map's key is neither an enum nor a message nor an entry
pub key-small : (f : Field) → is_map f ≡ true → key_good f ≡ true → f.key ≤ 6
key-small f m e = leb-true _ _ (and_parts (leb 1 f.key) (leb f.key 6) (rw m at e)).1

pub nests-is : (k : ℕ) → nests k ≡ true → (k ≡ map_entry → ⊥) → k ≡ body
nests-is k e h = go (eqb k body) refl
  where
    go : (t : Bool) → eqb k body ≡ t → k ≡ body
    go true q = eqb-true k body q
    go false q = absurd (h (eqb-true k map_entry (rw q at e)))

pub nests-small : (k : ℕ) → nests k ≡ true → k ≤ 6 → ⊥
nests-small k e h = go (eqb k body) refl
  where
    go : (t : Bool) → eqb k body ≡ t → ⊥
    go true q = let z = eqb-true k body q in omega arith
    go false q = let z = eqb-true k map_entry (rw q at e) in omega arith

-- a message that exists, or an entry
abbrev pub InScope : List ℕ → Scope → Type 0
InScope s (in_message m) = m < message_count s
InScope s (in_entry g) = Unit {0}

-- whose fields' ranks are no unknown ones'
pub rank-small : (s : List ℕ) → Accepted s → (c : Scope) (r : ℕ) → InScope s c → has_field s c r ≡ true → r < 4096
unfolding has_field
rank-small s ok (in_message m) r g has = field-known s ok r (field-within s ok m g r (has_in s m r has))
rank-small s ok (in_entry h) r g has = omega (arith, ltb-true r 2 has)

-- ---- what the older schema wants of a field that it knows

module _ (N O : List ℕ) (ok_n : Accepted N) (ok_o : Accepted O) (x : Extends N O) where
  pub scope-newer : (c d : Scope) → Together N O c d → InScope N c
  scope-newer (in_message m) (in_message l) g = omega (arith, g.0, g.1, x.messages)
  scope-newer (in_message m) (in_entry h) g = absurd g
  scope-newer (in_entry e) (in_message l) g = absurd g
  scope-newer (in_entry e) (in_entry h) g = tt

  pub scope-older : (c d : Scope) → Together N O c d → InScope O d
  scope-older (in_message m) (in_message l) g = g.1
  scope-older (in_message m) (in_entry h) g = absurd g
  scope-older (in_entry e) (in_message l) g = absurd g
  scope-older (in_entry e) (in_entry h) g = tt

  abbrev pub Known : (c d : Scope) → (r j : ℕ) → Type 0
  Known c d r j = Wants N O (want N c r) (want O d j) × (has_field O d j ≡ true) × ((want O d j).field ≡ j)

  known-plain : (m r j : ℕ) → In (message O m) j → j < field_count O → SameField N O r j → is_map (field O j) ≡ false → is_map (field N r) ≡ false
      → Known (in_message m) (in_message m) r j
  unfolding want within
  known-plain m r j i lt sf p q =
      rw (p, q) (
        record {
          kind = sym sf.kind;
          member = λ k. (sym sf.reference, enum-exists O (field O j) (field-type O ok_o j lt) (sym sf.kind ∙ k));
          inner = λ n. inner n;
        },
        in-has O m j i,
        refl,
      )
    where
      inner : nests (field N r).kind ≡ true
          → Together N O (within (record { kind = (field N r).kind; reference = (field N r).reference; field = r }))
          (within (record { kind = (field O j).kind; reference = (field O j).reference; field = j }))
      inner n =
          let type = field-type O ok_o j lt in
          let k : (field O j).kind ≡ body = nests-is (field O j).kind (rw sf.kind at n) (not_entry O (field O j) type) in
          rw (sf.kind, k) (sf.reference, body-exists O (field O j) type k)

  known_map : (m r j : ℕ) → In (message O m) j → r < field_count N → j < field_count O → SameField N O r j → is_map (field O j) ≡ true
      → is_map (field N r) ≡ true → Known (in_message m) (in_message m) r j
  unfolding want within
  known_map m r j i here lt sf p q =
      rw (p, q) (
        record {
          kind = refl;
          member = λ k. absurd (omega arith);
          inner = λ n. record { newer_in = here; older_in = lt; older_map = p; key = sf.key; kind = sf.kind; reference = sf.reference };
        },
        in-has O m j i,
        refl,
      )

  known-message : (m r j : ℕ) → m < message_count O → has_field N (in_message m) r ≡ true
      → find_in O (in_message m) (name_in N (in_message m) r) ≡ some j → Known (in_message m) (in_message m) r j
  unfolding find_in name_in
  known-message m r j here has e =
      let i = has_in N m r has in
      let f = known-field N O ok_n ok_o x m here r j i e in
      let lt = field-within O ok_o m here j f.0 in
      let ln = field-within N ok_n m (omega (arith, x.messages)) r i in
      go i f lt ln (is_map (field O j)) refl
    where
      go : In (message N m) r → In (message O m) j × SameField N O r j → j < field_count O → r < field_count N → (t : Bool) → is_map (field O j) ≡ t
          → Known (in_message m) (in_message m) r j
      go i f lt ln true q = known_map m r j f.0 ln lt f.1 q (rw f.1.label q)
      go i f lt ln false q = known-plain m r j f.0 lt f.1 q (rw f.1.label q)

  known-entry : (g h r j : ℕ) → SameEntry N O g h → has_field N (in_entry g) r ≡ true → find_in O (in_entry h) (name_in N (in_entry g) r) ≡ some j
      → Known (in_entry g) (in_entry h) r j
  unfolding find_in name_in has_field want same within
  known-entry g h r j se has e = go (eqb r 0) refl
    where
      go : (t : Bool) → eqb r 0 ≡ t → Known (in_entry g) (in_entry h) r j
      go true q =
          let z : some 0 ≡ some j = (rw (q, name_in) at e) in
          let y : 0 ≡ j = cc in
          let small = key-small (field O h) se.older_map (field-key O ok_o h se.older_in) in
          rw (q, ← y) (
            record {
              kind = sym se.key;
              member = λ k. absurd (omega (arith, se.key));
              inner = λ n. absurd (nests-small (field N g).key n (omega (arith, se.key)));
            },
            refl,
            refl,
          )
      go false q =
          let z : some 1 ≡ some j = (rw (q, name_in) at e) in
          let y : 1 ≡ j = cc in
          let type = field-type O ok_o h se.older_in in
          rw (q, ← y) (
            record {
              kind = sym se.kind;
              member = λ k. (sym se.reference, enum-exists O (field O h) type (sym se.kind ∙ k));
              inner = λ n.
                  let k : (field O h).kind ≡ body = nests-is (field O h).kind (rw se.kind at n) (not_entry O (field O h) type) in
                  rw (se.kind, k) (se.reference, body-exists O (field O h) type k);
            },
            refl,
            refl,
          )

  pub known : (c d : Scope) (r j : ℕ) → Together N O c d → has_field N c r ≡ true → find_in O d (name_in N c r) ≡ some j → Known c d r j
  known (in_message m) (in_message l) r j t has e = rw t.0 (known-message l r j t.1 (rw t.0 at has) (rw t.0 at e))
  known (in_message m) (in_entry h) r j t has e = absurd t
  known (in_entry g) (in_message l) r j t has e = absurd t
  known (in_entry g) (in_entry h) r j t has e = known-entry g h r j t has e

  -- a field's name is an identifier, an entry's `key` and `value` too
  pub name-good : (c d : Scope) (r : ℕ) → Together N O c d → has_field N c r ≡ true → identifier (name_in N c r) ≡ true
  unfolding name_in identifier each
  name-good (in_message m) (in_message l) r t has = field-identifier N ok_n r (field-within N ok_n m (omega (arith, x.messages)) r (has_in N m r has))
  name-good (in_message m) (in_entry h) r t has = absurd t
  name-good (in_entry g) (in_message l) r t has = absurd t
  name-good (in_entry g) (in_entry h) r t has = go (eqb r 0) refl
    where
      go : (b : Bool) → eqb r 0 ≡ b → identifier (name_in N (in_entry g) r) ≡ true
      go true q = rw (q, name_in)
      go false q = rw (q, name_in)
