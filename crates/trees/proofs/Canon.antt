-- The live values of live values are themselves: what canonical order is, that a canonical tree is its own `canon`, and that `canon`
-- gives one.
use Prim.Native.Nat.{ℕ, ◌+◌, ◌-◌, ◌≤◌, ◌<◌}
use native.Mathlib.Omega.{arith}
use mathlib.Core.Path.{◌≡◌, refl}
use mathlib.Core.Bool.{Bool, true, false, ◌&&◌, ◌||◌}
use mathlib.Core.List.{List}
use lib.Dec.{leb, eqb}
use borrow.Author.Tests.{eqb-true, eqb-false, ne_eqb, leb-true, leb-false, le-leb}
use Rattle.definitions.specs.declared.Want.{Want}
use Rattle.definitions.specs.Image.{field, is_map, is_repeated}
use Rattle.definitions.specs.Scope.{Scope, in_message, in_entry, want, within, has_field, i32, i64, u32, u64, bool, string, byte_string, enum, body, map_entry}
use Rattle.definitions.specs.Nodes.{word32, word64}
use Rattle.definitions.specs.Utf8.{utf8}
use Rattle.definitions.specs.Live.{Val, number, run, inside, Tree, nil, node, first_unknown, same_val, has, key_of, has_key, sharing, replaced, insert, canon}
use Rattle.laws.proofs.Ranges.{SignedIn}
use Rattle.laws.proofs.Lists.{or_parts, or-made, AreBytes}
use Rattle.trees.proofs.Trees.{Pair}

-- ---- in order, and nothing replaced

-- no rank is smaller
abbrev pub AtLeast : ℕ → Tree → Type 0
AtLeast r nil = Unit {0}
AtLeast r (node q k v kids rest) = (r ≤ q) × AtLeast r rest

abbrev pub Canonical : List ℕ → Scope → Tree → Type 0
Canonical s c nil = Unit {0}
Canonical s c (node r k v kids rest) =
    AtLeast r rest × (replaced (sharing s c r) r kids rest ≡ false) × Canonical s (within (want s c r)) kids × Canonical s c rest

insert-front : (r k : ℕ) (v : Val) (kids t : Tree) → AtLeast r t → insert r k v kids t ≡ node r k v kids t
unfolding insert
insert-front r k v kids nil h = refl
insert-front r k v kids (node q j u s rest) h = rw (le-leb r q h.0)

-- a canonical tree is its own live values
pub canon-id : (s : List ℕ) (c : Scope) (t : Tree) → Canonical s c t → canon s c t ≡ t
unfolding canon
canon-id s c nil h = refl
canon-id s c (node r k v kids rest) h =
    rw (h.1, canon-id s (within (want s c r)) kids h.2, canon-id s c rest h.3) (insert-front r k v kids rest h.0)

-- ---- values as a valid table has them, in any order

-- an entry has one key and one value
abbrev pub Both : Tree → Type 0
Both nil = ⊥
Both (node a k v t nil) = ⊥
Both (node a k v t (node b l u s nil)) = a + b ≡ 1
Both (node a k v t (node b l u s (node e m x y z))) = ⊥

pub data Rough (s : List ℕ) (left : ℕ) (w : Want) : Val → Tree → Type 0 where
  rough_i32 : {n : ℕ} → w.kind ≡ i32 → SignedIn 32 n → Rough s left w (number n) nil
  rough_i64 : {n : ℕ} → w.kind ≡ i64 → SignedIn 64 n → Rough s left w (number n) nil
  rough_u32 : {n : ℕ} → w.kind ≡ u32 → n < word32 → Rough s left w (number n) nil
  rough_u64 : {n : ℕ} → w.kind ≡ u64 → n < word64 → Rough s left w (number n) nil
  rough_bool : {n : ℕ} → w.kind ≡ bool → n ≤ 1 → Rough s left w (number n) nil
  rough_enum : {n : ℕ} → w.kind ≡ enum → SignedIn 32 n → Rough s left w (number n) nil
  rough_string : {bs : List ℕ} → w.kind ≡ string → AreBytes bs → utf8 bs ≡ true → Rough s left w (run bs) nil
  rough_bytes : {bs : List ℕ} → w.kind ≡ byte_string → AreBytes bs → Rough s left w (run bs) nil
  rough_body : {t : Tree} → w.kind ≡ body → 1 ≤ left → Rough s left w inside t
  rough_entry : {t : Tree} → w.kind ≡ map_entry → 1 ≤ left → Both t → Rough s left w inside t

-- an unknown field's value, or a field's that fits
pub data Standing (s : List ℕ) (left : ℕ) (c : Scope) (r k : ℕ) (v : Val) : Tree → Type 0 where
  strange : first_unknown ≤ r → Standing s left c r k v nil
  proper : {kids : Tree} → has_field s c r ≡ true → k ≡ (want s c r).kind → Rough s left (want s c r) v kids → Standing s left c r k v kids

abbrev pub Rugged : List ℕ → ℕ → Scope → Tree → Type 0
Rugged s left c nil = Unit {0}
Rugged s left c (node r k v kids rest) =
    Standing s left c r k v kids × Rugged s (left - 1) (within (want s c r)) kids × Rugged s left c rest

-- ---- an entry's key is the same among the live values

module _ (s : List ℕ) (g : ℕ) where
  -- key and value in either order: the live ones are both, key first
  pub both-sorted : (t : Tree) → Both t → Pair (canon s (in_entry g) t) × (key_of (canon s (in_entry g) t) ≡ key_of t)
  unfolding canon sharing replaced has insert key_of
  both-sorted nil p = absurd p
  both-sorted (node a k v t nil) p = absurd p
  both-sorted (node a k v t (node b l u z nil)) p = go (eqb a 0) refl
    where
      go : (o : Bool) → eqb a 0 ≡ o
          → Pair (canon s (in_entry g) (node a k v t (node b l u z nil)))
          × (key_of (canon s (in_entry g) (node a k v t (node b l u z nil))) ≡ key_of (node a k v t (node b l u z nil)))
      go true q =
          let x : a ≡ 0 = eqb-true a 0 q in
          let y : b ≡ 1 = omega arith in
          rw (x, y) ((refl, refl), refl)
      go false q =
          let n = eqb-false a 0 q in
          let x : a ≡ 1 = omega arith in
          let y : b ≡ 0 = omega arith in
          rw (x, y) ((refl, refl), refl)
  both-sorted (node a k v t (node b l u z (node e m x y o))) p = absurd p

-- ---- what is replaced

has_other : (a r k : ℕ) (v : Val) (kids t : Tree) → eqb r a ≡ false → has a t ≡ false → has a (insert r k v kids t) ≡ false
unfolding has insert
has_other a r k v kids nil n h = or-made (eqb r a) false n refl
has_other a r k v kids (node q j u z rest) n h = go (has_other a r k v kids rest n (or_parts (eqb q a) (has a rest) h).1) (leb r q) refl
  where
    go : has a (insert r k v kids rest) ≡ false → (b : Bool) → leb r q ≡ b → has a (insert r k v kids (node q j u z rest)) ≡ false
    go ih true e = rw (e, insert) (or-made (eqb r a) (eqb q a || has a rest) n h)
    go ih false e = rw (e, insert) (or-made (eqb q a) (has a (insert r k v kids rest)) (or_parts (eqb q a) (has a rest) h).0 ih)

key-other : (a : ℕ) (key : Val) (r k : ℕ) (v : Val) (kids t : Tree) → (eqb r a && same_val (key_of kids) key) ≡ false → has_key a key t ≡ false
    → has_key a key (insert r k v kids t) ≡ false
unfolding has_key insert
key-other a key r k v kids nil n h = or-made (eqb r a && same_val (key_of kids) key) false n refl
key-other a key r k v kids (node q j u z rest) n h =
    go (key-other a key r k v kids rest n (or_parts (eqb q a && same_val (key_of z) key) (has_key a key rest) h).1) (leb r q) refl
  where
    go : has_key a key (insert r k v kids rest) ≡ false → (b : Bool) → leb r q ≡ b → has_key a key (insert r k v kids (node q j u z rest)) ≡ false
    go ih true e = rw (e, insert) (or-made (eqb r a && same_val (key_of kids) key) ((eqb q a && same_val (key_of z) key) || has_key a key rest) n h)
    go ih false e =
        rw (e, insert)
        (or-made (eqb q a && same_val (key_of z) key) (has_key a key (insert r k v kids rest))
        (or_parts (eqb q a && same_val (key_of z) key) (has_key a key rest) h).0 ih)

-- a value that another rank's is put beside is replaced no more than before
replaced-other : (how a : ℕ) (mine : Tree) (r k : ℕ) (v : Val) (kids t : Tree) → eqb r a ≡ false → replaced how a mine t ≡ false
    → replaced how a mine (insert r k v kids t) ≡ false
unfolding replaced
replaced-other how a mine r k v kids t n h = go (eqb how 0) (eqb how 1) refl refl
  where
    go : (x y : Bool) → eqb how 0 ≡ x → eqb how 1 ≡ y → replaced how a mine (insert r k v kids t) ≡ false
    go true y p q = rw (p, replaced) (has_other a r k v kids t n (rw (p, replaced) at h))
    go false true p q = rw (p, q, replaced) (key-other a (key_of mine) r k v kids t (rw n refl) (rw (p, q, replaced) at h))
    go false false p q = rw (p, q, replaced) refl

replaced-tail : (how r : ℕ) (kids : Tree) (q j : ℕ) (u : Val) (z rest : Tree) → replaced how r kids (node q j u z rest) ≡ false
    → replaced how r kids rest ≡ false
unfolding replaced has has_key
replaced-tail how r kids q j u z rest h = go (eqb how 0) (eqb how 1) refl refl
  where
    go : (x y : Bool) → eqb how 0 ≡ x → eqb how 1 ≡ y → replaced how r kids rest ≡ false
    go true y a b = rw (a, replaced) (or_parts (eqb q r) (has r rest) (rw (a, replaced) at h)).1
    go false true a b =
        rw (a, b, replaced) (or_parts (eqb q r && same_val (key_of z) (key_of kids)) (has_key r (key_of kids) rest) (rw (a, b, replaced) at h)).1
    go false false a b = rw (a, b, replaced) refl

at-least-down : (r q : ℕ) (t : Tree) → r ≤ q → AtLeast q t → AtLeast r t
at-least-down r q nil h a = tt
at-least-down r q (node i k v kids rest) h a = (omega arith, at-least-down r q rest h a.1)

at-least-insert : (a r k : ℕ) (v : Val) (kids t : Tree) → a ≤ r → AtLeast a t → AtLeast a (insert r k v kids t)
unfolding insert
at-least-insert a r k v kids nil h l = (h, tt)
at-least-insert a r k v kids (node q j u z rest) h l = go (at-least-insert a r k v kids rest h l.1) (leb r q) refl
  where
    go : AtLeast a (insert r k v kids rest) → (b : Bool) → leb r q ≡ b → AtLeast a (insert r k v kids (node q j u z rest))
    go ih true e = rw (e, insert) (h, l)
    go ih false e = rw (e, insert) (l.0, ih)

insert-canonical : (s : List ℕ) (c : Scope) (r k : ℕ) (v : Val) (kids t : Tree) → replaced (sharing s c r) r kids t ≡ false
    → Canonical s (within (want s c r)) kids → Canonical s c t → Canonical s c (insert r k v kids t)
unfolding insert
insert-canonical s c r k v kids nil n ck ct = (tt, n, ck, tt)
insert-canonical s c r k v kids (node q j u z rest) n ck ct = go (insert-canonical s c r k v kids rest) (leb r q) refl
  where
    go :
        (replaced (sharing s c r) r kids rest ≡ false → Canonical s (within (want s c r)) kids → Canonical s c rest
        → Canonical s c (insert r k v kids rest))
        → (b : Bool) → leb r q ≡ b → Canonical s c (insert r k v kids (node q j u z rest))
    go ih true e = let l = leb-true r q e in rw (e, insert) ((l, at-least-down r q rest l ct.0), n, ck, ct)
    go ih false e =
        let l = leb-false r q e in
        rw (e, insert) (
          at-least-insert q r k v kids rest (omega arith) ct.0,
          replaced-other (sharing s c q) q z r k v kids rest (ne_eqb r q (λ i. omega arith)) ct.1,
          ct.2,
          ih (replaced-tail (sharing s c r) r kids q j u z rest n) ck ct.3,
        )

-- ---- a field that shares by key is a map

pub map-scope : (s : List ℕ) (c : Scope) (r : ℕ) → sharing s c r ≡ 1
    → (r < first_unknown) × ((want s c r).kind ≡ map_entry) × (within (want s c r) ≡ in_entry r)
unfolding sharing want within
map-scope s (in_entry g) r e = absurd (omega arith)
map-scope s (in_message m) r e = go (leb first_unknown r) (is_repeated (field s r)) (is_map (field s r)) refl refl refl
  where
    go : (x y z : Bool) → leb first_unknown r ≡ x → is_repeated (field s r) ≡ y → is_map (field s r) ≡ z
        → (r < first_unknown) × ((want s (in_message m) r).kind ≡ map_entry) × (within (want s (in_message m) r) ≡ in_entry r)
    go true y z a b d = let i : ◌≡◌ {A = ℕ} 2 1 = (rw (a, sharing) at e) in absurd (omega arith)
    go false true z a b d = let i : ◌≡◌ {A = ℕ} 2 1 = (rw (a, b, sharing) at e) in absurd (omega arith)
    go false false false a b d = let i : ◌≡◌ {A = ℕ} 0 1 = (rw (a, b, d, sharing) at e) in absurd (omega arith)
    go false false true a b d = (leb-false first_unknown r a, rw d refl, rw d refl)

module _ (s : List ℕ) where
  key-rough : (left g : ℕ) (w : Want) (v : Val) (kids : Tree) → w.kind ≡ map_entry → Rough s left w v kids
      → key_of (canon s (in_entry g) kids) ≡ key_of kids
  unfolding canon
  key-rough left g w v kids e (rough_i32 f h) = refl
  key-rough left g w v kids e (rough_i64 f h) = refl
  key-rough left g w v kids e (rough_u32 f h) = refl
  key-rough left g w v kids e (rough_u64 f h) = refl
  key-rough left g w v kids e (rough_bool f h) = refl
  key-rough left g w v kids e (rough_enum f h) = refl
  key-rough left g w v kids e (rough_string f h i) = refl
  key-rough left g w v kids e (rough_bytes f h) = refl
  key-rough left g w v kids e (rough_body f h) = absurd (omega arith)
  key-rough left g w v kids e (rough_entry {t = t} f h i) = (both-sorted s g t i).1

  -- an entry's key is that of its live values
  key-standing : (left : ℕ) (c : Scope) (r k : ℕ) (v : Val) (kids : Tree) → sharing s c r ≡ 1 → Standing s left c r k v kids
      → key_of (canon s (within (want s c r)) kids) ≡ key_of kids
  unfolding canon
  key-standing left c r k v kids e (strange h) = refl
  key-standing left c r k v kids e (proper {kids = t} h i j) = let m = map-scope s c r e in rw m.2 (key-rough left r (want s c r) v t m.1 j)

  has-live : (c : Scope) (a : ℕ) (t : Tree) → has a t ≡ false → has a (canon s c t) ≡ false
  unfolding has canon
  has-live c a nil h = refl
  has-live c a (node r k v kids rest) h =
      let p = or_parts (eqb r a) (has a rest) h in
      go p (has-live c a rest p.1) (replaced (sharing s c r) r kids rest) refl
    where
      go : (eqb r a ≡ false) × (has a rest ≡ false) → has a (canon s c rest) ≡ false → (b : Bool) → replaced (sharing s c r) r kids rest ≡ b
          → has a (canon s c (node r k v kids rest)) ≡ false
      go p ih true e = rw (e, canon) ih
      go p ih false e = rw (e, canon) (has_other a r k v _ (canon s c rest) p.0 ih)

  key_live : (left : ℕ) (c : Scope) (a : ℕ) (key : Val) (t : Tree) → sharing s c a ≡ 1 → Rugged s left c t → has_key a key t ≡ false
      → has_key a key (canon s c t) ≡ false
  unfolding has_key canon
  key_live left c a key nil sh rg h = refl
  key_live left c a key (node r k v kids rest) sh rg h =
      let p = or_parts (eqb r a && same_val (key_of kids) key) (has_key a key rest) h in
      go p (key_live left c a key rest sh rg.2 p.1) (replaced (sharing s c r) r kids rest) refl
    where
      mine : (eqb r a && same_val (key_of kids) key) ≡ false → (b : Bool) → eqb r a ≡ b
          → (eqb r a && same_val (key_of (canon s (within (want s c r)) kids)) key) ≡ false
      mine p false q = rw q refl
      mine p true q =
          let same_rank : r ≡ a = eqb-true r a q in
          let e = key-standing left c r k v kids (rw same_rank sh) rg.0 in
          rw e p

      go : ((eqb r a && same_val (key_of kids) key) ≡ false) × (has_key a key rest ≡ false) → has_key a key (canon s c rest) ≡ false → (b : Bool)
          → replaced (sharing s c r) r kids rest ≡ b → has_key a key (canon s c (node r k v kids rest)) ≡ false
      go p ih true e = rw (e, canon) ih
      go p ih false e = rw (e, canon) (key-other a key r k v (canon s (within (want s c r)) kids) (canon s c rest) (mine p.0 (eqb r a) refl) ih)

  replaced-live : (left : ℕ) (c : Scope) (r k : ℕ) (v : Val) (kids rest : Tree) → Standing s left c r k v kids → Rugged s left c rest
      → replaced (sharing s c r) r kids rest ≡ false
      → replaced (sharing s c r) r (canon s (within (want s c r)) kids) (canon s c rest) ≡ false
  unfolding replaced
  replaced-live left c r k v kids rest st rg h = go (eqb (sharing s c r) 0) (eqb (sharing s c r) 1) refl refl
    where
      go : (x y : Bool) → eqb (sharing s c r) 0 ≡ x → eqb (sharing s c r) 1 ≡ y
          → replaced (sharing s c r) r (canon s (within (want s c r)) kids) (canon s c rest) ≡ false
      go true y a b = rw (a, replaced) (has-live c r rest (rw (a, replaced) at h))
      go false true a b =
          let sh : sharing s c r ≡ 1 = eqb-true (sharing s c r) 1 b in
          let e = key-standing left c r k v kids sh st in
          rw (a, b, replaced, e) (key_live left c r (key_of kids) rest sh rg (rw (a, b, replaced) at h))
      go false false a b = rw (a, b, replaced) refl

  -- live values stand in canonical order
  pub canon-canonical : (left : ℕ) (c : Scope) (t : Tree) → Rugged s left c t → Canonical s c (canon s c t)
  unfolding canon
  canon-canonical left c nil rg = tt
  canon-canonical left c (node r k v kids rest) rg =
      go (canon-canonical (left - 1) (within (want s c r)) kids rg.1) (canon-canonical left c rest rg.2) (replaced (sharing s c r) r kids rest)
      refl
    where
      go : Canonical s (within (want s c r)) (canon s (within (want s c r)) kids) → Canonical s c (canon s c rest) → (b : Bool)
          → replaced (sharing s c r) r kids rest ≡ b → Canonical s c (canon s c (node r k v kids rest))
      go ik ir true e = rw (e, canon) ir
      go ik ir false e =
          rw (e, canon)
          (insert-canonical s c r k v (canon s (within (want s c r)) kids) (canon s c rest) (replaced-live left c r k v kids rest rg.0 rg.2 e)
          ik ir)

  pair-both : (t : Tree) → Pair t → Both t
  pair-both nil p = absurd p
  pair-both (node a k v t nil) p = absurd p
  pair-both (node a k v t (node b l u z nil)) p = omega arith
  pair-both (node a k v t (node b l u z (node e m x y o))) p = absurd p

  entry-both : (w : Want) (t : Tree) → w.kind ≡ map_entry → Both t → Both (canon s (within w) t)
  unfolding within
  entry-both w t e b = rw e (pair-both (canon s (in_entry w.reference) t) (both-sorted s w.reference t b).0)

  rough-canon : (left : ℕ) (w : Want) (v : Val) (kids : Tree) → Rough s left w v kids → Rough s left w v (canon s (within w) kids)
  unfolding canon
  rough-canon left w v kids (rough_i32 f h) = rough_i32 f h
  rough-canon left w v kids (rough_i64 f h) = rough_i64 f h
  rough-canon left w v kids (rough_u32 f h) = rough_u32 f h
  rough-canon left w v kids (rough_u64 f h) = rough_u64 f h
  rough-canon left w v kids (rough_bool f h) = rough_bool f h
  rough-canon left w v kids (rough_enum f h) = rough_enum f h
  rough-canon left w v kids (rough_string f h i) = rough_string f h i
  rough-canon left w v kids (rough_bytes f h) = rough_bytes f h
  rough-canon left w v kids (rough_body f h) = rough_body f h
  rough-canon left w v kids (rough_entry {t = t} f h i) = rough_entry f h (entry-both w t f i)

  standing-canon : (left : ℕ) (c : Scope) (r k : ℕ) (v : Val) (kids : Tree) → Standing s left c r k v kids
      → Standing s left c r k v (canon s (within (want s c r)) kids)
  unfolding canon
  standing-canon left c r k v kids (strange h) = strange h
  standing-canon left c r k v kids (proper {kids = t} h i j) = proper h i (rough-canon left (want s c r) v t j)

  insert-rugged : (left : ℕ) (c : Scope) (r k : ℕ) (v : Val) (kids t : Tree) → Standing s left c r k v kids
      → Rugged s (left - 1) (within (want s c r)) kids → Rugged s left c t → Rugged s left c (insert r k v kids t)
  unfolding insert
  insert-rugged left c r k v kids nil st rk rt = (st, rk, tt)
  insert-rugged left c r k v kids (node q j u z rest) st rk rt = go (insert-rugged left c r k v kids rest st rk rt.2) (leb r q) refl
    where
      go : Rugged s left c (insert r k v kids rest) → (b : Bool) → leb r q ≡ b → Rugged s left c (insert r k v kids (node q j u z rest))
      go ih true e = rw (e, insert) (st, rk, rt)
      go ih false e = rw (e, insert) (rt.0, rt.1, ih)

  pub canon-rugged : (left : ℕ) (c : Scope) (t : Tree) → Rugged s left c t → Rugged s left c (canon s c t)
  unfolding canon
  canon-rugged left c nil rg = tt
  canon-rugged left c (node r k v kids rest) rg =
      go (canon-rugged (left - 1) (within (want s c r)) kids rg.1) (canon-rugged left c rest rg.2) (replaced (sharing s c r) r kids rest) refl
    where
      go : Rugged s (left - 1) (within (want s c r)) (canon s (within (want s c r)) kids) → Rugged s left c (canon s c rest) → (b : Bool)
          → replaced (sharing s c r) r kids rest ≡ b → Rugged s left c (canon s c (node r k v kids rest))
      go ik ir true e = rw (e, canon) ir
      go ik ir false e =
          rw (e, canon)
          (insert-rugged left c r k v (canon s (within (want s c r)) kids) (canon s c rest) (standing-canon left c r k v kids rg.0) ik ir)
