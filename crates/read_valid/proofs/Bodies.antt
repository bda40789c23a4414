-- Every body that is read has fields of its scope, and an entry a key and a value, each once, in either order; not too deep.
use Prim.Native.Nat.{ℕ, zero, suc, ◌+◌, ◌-◌, ◌≤◌, ◌<◌}
use native.Mathlib.Omega.{arith}
use mathlib.Core.Path.{◌≡◌, refl, sym}
use mathlib.Core.Bool.{Bool, true, false, ◌&&◌, ◌||◌}
use mathlib.Core.List.{List}
use mathlib.Core.Option.{Option, none, some}
use lib.Dec.{eqb}
use lib.ListN.{length}
use borrow.Author.Tests.{eqb-true, eqb-false, ltb-true, lt-ltb}
use Rattle.definitions.specs.declared.Spot.{Spot}
use Rattle.definitions.specs.declared.Place.{Place}
use Rattle.definitions.specs.declared.Want.{Want}
use Rattle.definitions.specs.Basics.{when◌then◌otherwise◌, same, part}
use Rattle.definitions.specs.Image.{field, is_map}
use Rattle.definitions.specs.Scope.{Scope, in_message, in_entry, want, within, has_field, find_in, nests, key_name, value_name, body, map_entry}
use Rattle.definitions.specs.Live.{inside, Tree, nil, node}
use Rattle.definitions.specs.Tokens.{Scan, token, bad, scan, name_token}
use Rattle.definitions.specs.Loop.{Out, done, refused, Stand, Turn, onward, turns, loop}
use Rattle.definitions.specs.Reading.{moved, Child, opens, closer_of, opener_tok, opened, field as read_field, default, unless, default_value, closed, again, noted, turn_of, named, item_tok, item, start, fields, under, read_body}
use Rattle.laws.proofs.Reach.{by-test}
use Rattle.laws.proofs.Lists.{true-false, none-some}
use Rattle.trees.specs.Laying.{count}
use Rattle.trees.proofs.Accepted.{Accepted, field-key, field-type, found-field}
use Rattle.trees.proofs.Trees.{in-has, key-small, not_entry, nests-is}
use Rattle.trees.proofs.Canon.{Both}
use Rattle.trees.proofs.TableGood.{Right, Good, right-body, right-entry}
use Rattle.trees.proofs.Valid.{ScopeGood, want-good}
use Rattle.read_valid.proofs.Laid.{Lays, lays-refused, lays-map, beside, ahead-lays, joined-lays, stays-lays, One, one, Inside, nested-lays}
use Rattle.read_valid.proofs.Leaves.{Makes, after_name-lays, default-lays}

-- ---- a key and a value, each once

abbrev mark : Bool → ℕ
mark true = 1
mark false = 0

-- the ranks of values side by side, added up
unfoldable pub ranks : Tree → ℕ
ranks nil = 0
ranks (node r k v kids rest) = r + ranks rest

-- what an entry still lacks, when it has a key or a value: as many values as make it two, with ranks that add up to 1
abbrev pub Lacks : Scope → (key value : Bool) → Tree → Type 0
Lacks (in_message m) key value u = Unit {0}
Lacks (in_entry g) key value u = (count u + mark key + mark value ≡ 2) × (ranks u + mark value ≡ 1)

two-both : (u : Tree) → count u ≡ 2 → ranks u ≡ 1 → Both u
unfolding count ranks
two-both nil h r = omega arith
two-both (node a k v t nil) h r = omega arith
two-both (node a k v t (node b l x y nil)) h r = omega arith
two-both (node a k v t (node b l x y (node e m z o p))) h r = omega arith

-- one more: a key if there was none, or a value if there was none
lacks-more : (i : ℕ) (key value : Bool) (n r : ℕ) → i < 2 → (when eqb i 0 then (λ _. key) otherwise λ _. value) ≡ false
    → (n + mark (key || eqb i 0) + mark (value || eqb i 1) ≡ 2) × (r + mark (value || eqb i 1) ≡ 1)
    → (suc n + mark key + mark value ≡ 2) × (i + r + mark value ≡ 1)
lacks-more zero true value n r l e h = true-false true refl e
lacks-more zero false true n r l e h = (omega arith, omega arith)
lacks-more zero false false n r l e h = (omega arith, omega arith)
lacks-more (suc zero) key true n r l e h = true-false true refl e
lacks-more (suc zero) true false n r l e h = (omega arith, omega arith)
lacks-more (suc zero) false false n r l e h = (omega arith, omega arith)
lacks-more (suc (suc i)) key value n r l e h = absurd (omega arith)

-- ---- fields of a scope

want-field : (s : List ℕ) (c : Scope) (i : ℕ) → has_field s c i ≡ true → (want s c i).field ≡ i
unfolding want has_field
want-field s (in_message m) i h = by-test (λ (w : Want). w.field ≡ i) (is_map (field s i)) _ _ (λ _. refl) (λ _. refl)
want-field s (in_entry g) i h =
    let l = ltb-true i 2 h in
    by-test (λ (w : Want). w.field ≡ i) (eqb i 0) _ _ (λ y. sym (eqb-true i 0 y)) (λ y. let n = eqb-false i 0 y in omega arith)

found-has : (s : List ℕ) → Accepted s → (c : Scope) → ScopeGood s c → (name : List ℕ) (i : ℕ) → find_in s c name ≡ some i → has_field s c i ≡ true
unfolding find_in has_field
found-has s ok (in_message m) g name i e = in-has s m i (found-field s ok m g name i e).0
found-has s ok (in_entry g) h name i e =
    by-test (λ (o : Option ℕ). o ≡ some i → has_field s (in_entry g) i ≡ true) (same key_name name) _ _ (λ _ x. let z : 0 ≡ i = cc in is i (omega arith))
    (λ _.
    by-test (λ (o : Option ℕ). o ≡ some i → has_field s (in_entry g) i ≡ true) (same value_name name) _ _
    (λ _ x. let z : 1 ≡ i = cc in is i (omega arith)) (λ _ x. none-some i x))
    e
  where
    is : (i : ℕ) → i < 2 → has_field s (in_entry g) i ≡ true
    is i l = lt-ltb i 2 l

-- ---- the rest of a body

module _ (schema s : List ℕ) (ok : Accepted schema) (left : ℕ) where
  -- values of the scope, and all that an entry lacks
  abbrev pub Rest : Scope → (key value : Bool) → Tree → Type 0
  Rest c key value u = Good schema left c u × Lacks c key value u

  -- a value for a field, and the rest after it
  one-good : (c : Scope) (i : ℕ) (u t : Tree) → has_field schema c i ≡ true → One schema left (want schema c i) u → Good schema left c t
      → Good schema left c (beside u t)
  unfolding beside
  one-good c i u t has (one right kids) rest = rw (want-field schema c i has) (has, refl, right, kids, rest)

  -- in an entry: a key, or a value, that it lacked
  entry-rest : (g i : ℕ) (key value : Bool) (u t : Tree) → has_field schema (in_entry g) i ≡ true
      → (when eqb i 0 then (λ _. key) otherwise λ _. value) ≡ false → One schema left (want schema (in_entry g) i) u
      → Rest (in_entry g) (key || eqb i 0) (value || eqb i 1) t → Rest (in_entry g) key value (beside u t)
  unfolding beside count ranks has_field
  entry-rest g i key value u t has e (one right kids) r = (
    one-good (in_entry g) i u t has (one right kids) r.0,
    rw (want-field schema (in_entry g) i has) (lacks-more i key value (count t) (ranks t) (ltb-true i 2 has) e r.1),
  )

  one-rest : (c : Scope) (i : ℕ) (h : Stand) (q : Spot) (u t : Tree) → has_field schema c i ≡ true → again c i h ≡ false
      → One schema left (want schema c i) u → Rest c (noted c i h q).key (noted c i h q).value t → Rest c h.key h.value (beside u t)
  unfolding noted again
  one-rest (in_message m) i h q u t has e o r = (one-good (in_message m) i u t has o r.0, tt)
  one-rest (in_entry g) i h q u t has e o r = entry-rest g i h.key h.value u t has e o r

  -- ---- an entry's defaults

  -- nothing where the value stands already, else one
  data Filled (w : Want) : Bool → Tree → Type 0 where
    there : Filled w true nil
    made : {u : Tree} → One schema left w u → Filled w false u

  unless-lays : (w : Want) (has : Bool) (make : Spot → Out) (q : Spot) → Makes schema left w q (make q)
      → Lays (Filled w has) q.node q.byte (unless has make q)
  unless-lays w true make q g = stays-lays q there
  unless-lays w false make q g = lays-map (λ u o. made o) g

  value-rest : (g : ℕ) (value : Bool) (t : Tree) → Filled (want schema (in_entry g) 1) value t → Rest (in_entry g) true value t
  unfolding count ranks has_field beside
  value-rest g value t there = (tt, (refl, refl))
  value-rest g value t (made (one right kids)) = entry-rest g 1 true false t nil refl refl (one right kids) (tt, (refl, refl))

  filled-rest : (g : ℕ) (key value : Bool) (u t : Tree) → Filled (want schema (in_entry g) 0) key u → Filled (want schema (in_entry g) 1) value t
      → Rest (in_entry g) key value (beside u t)
  unfolding beside has_field
  filled-rest g key value u t there f = value-rest g value t f
  filled-rest g key true u t (made o) f = entry-rest g 0 false true u t refl refl o (value-rest g true t f)
  filled-rest g key false u t (made o) f = entry-rest g 0 false false u t refl refl o (value-rest g false t f)

  key-lays : (g : ℕ) → ScopeGood schema (in_entry g) → (q : Spot)
      → Makes schema left (want schema (in_entry g) 0) q (default schema (want schema (in_entry g) 0) q)
  unfolding want has_field
  key-lays g sg q =
      let small = key-small (field schema g) sg.1 (field-key schema ok g sg.0) in
      default-lays schema s left (want schema (in_entry g) 0) q (want-good schema ok (in_entry g) 0 sg refl).0 (λ e. omega arith) (λ e. absurd (omega arith))

  value-lays : (g : ℕ) → ScopeGood schema (in_entry g) → (at : Place) (q : Spot)
      → Makes schema left (want schema (in_entry g) 1) q (default_value (eqb left 0) at schema (want schema (in_entry g) 1) q)
  unfolding default_value want has_field
  value-lays g sg at q =
      let w : Want = want schema (in_entry g) 1 in
      by-test (Makes schema left w q) (eqb left 0 && eqb w.kind body) _ _ (λ _. lays-refused)
      (λ y.
      default-lays schema s left w q (want-good schema ok (in_entry g) 1 sg refl).0 (not_entry schema (field schema g) (field-type schema ok g sg.0))
      (λ e. level (eqb left 0) refl (rw e at y)))
    where
      level : (b : Bool) → eqb left 0 ≡ b → (b && eqb body body) ≡ false → 1 ≤ left
      level true q e = true-false true refl e
      level false q e = let n = eqb-false left 0 q in omega arith

  -- ---- turn by turn

  -- what a body's reading gives from a stand on
  abbrev pub Body : Scope → Stand → Out → Type 0
  Body c h o = Lays (Rest c h.key h.value) h.spot.node h.spot.byte o

  closed-lays : (c : Scope) → ScopeGood schema c → (at : Place) (n : ℕ) (h : Stand) → Body c h (closed (eqb left 0) schema c at n h)
  unfolding closed
  closed-lays (in_message m) sg at n h = stays-lays (moved n h.spot) (tt, tt)
  closed-lays (in_entry g) sg at n h =
      joined-lays
      (unless h.key (default schema (want schema (in_entry g) 0)) (moved n h.spot))
      (unless h.value (default_value (eqb left 0) at schema (want schema (in_entry g) 1)))
      (unless-lays (want schema (in_entry g) 0) h.key (default schema (want schema (in_entry g) 0)) (moved n h.spot)
      (key-lays g sg (moved n h.spot)))
      (λ q.
      unless-lays (want schema (in_entry g) 1) h.value (default_value (eqb left 0) at schema (want schema (in_entry g) 1)) q (value-lays g sg at q))
      (filled-rest g h.key h.value)

  -- a turn, and any reading that goes on from there
  abbrev Turns : Scope → Stand → Turn → Type 0
  Turns c h t = (rest : Stand → Out) → ((k : Stand) → Body c k (rest k)) → Body c h (onward rest t)

  -- what is noted stands where the value ends
  noted-spot : (c : Scope) (i : ℕ) (h : Stand) (p : Spot) (o : Out) → Body c (noted c i h p) o
      → Lays (Rest c (noted c i h p).key (noted c i h p).value) p.node p.byte o
  unfolding noted
  noted-spot (in_message m) i h p o g = g
  noted-spot (in_entry e) i h p o g = g

  turn_of-lays : (c : Scope) (i : ℕ) (h : Stand) (o : Out) → has_field schema c i ≡ true → again c i h ≡ false
      → Makes schema left (want schema c i) h.spot o → Turns c h (turn_of c i h o)
  turn_of-lays c i h (refused why at) has e g rest r = lays-refused
  turn_of-lays c i h (done p w v) has e g rest r =
      let l = g.laid p w v refl in
      ahead-lays (rest (noted c i h p)) l.0 l.1 (noted-spot c i h p (rest (noted c i h p)) (r (noted c i h p)))
      (λ t x. one-rest c i h p l.0 t has e l.2 x)

  -- what reads inside
  abbrev pub ChildLays : Child → Type 0
  ChildLays child =
      (w : Want) (at : Place) (closer : ℕ) (q : Spot) → nests w.kind ≡ true → ScopeGood schema (within w)
      → Lays (Inside schema left w) q.node q.byte (child w at closer q)

  module _ (child : Child) (ih : ChildLays child) where
    opened-lays : (w : Want) (q : Spot) → nests w.kind ≡ true → ScopeGood schema (within w)
        → Makes schema left w q (opened child s w q)
    unfolding opened
    opened-lays w q n sg = go (scan s q.at)
      where
        go : (r : Scan) → Makes schema left w q (opener_tok child w q r)
        go (bad p) = lays-refused
        go (token t n₁) =
            by-test (Makes schema left w q) (opens w.kind t.kind) _ _
            (λ _.
            nested-lays schema left w q.node q.byte
            (child w t.start (closer_of t.kind) (record { at = n₁; node = q.node + 1; byte = q.byte }))
            (ih w t.start (closer_of t.kind) (record { at = n₁; node = q.node + 1; byte = q.byte }) n sg))
            (λ _. lays-refused)

    field-lays : (c : Scope) (i : ℕ) → ScopeGood schema c → has_field schema c i ≡ true → (q : Spot)
        → Makes schema left (want schema c i) q (read_field child schema s (want schema c i) q)
    unfolding read_field
    field-lays c i sg has q =
        let w : Want = want schema c i in
        let g = want-good schema ok c i sg has in
        by-test (Makes schema left w q) (nests w.kind) _ _ (λ y. opened-lays w q y (g.1 y)) (λ y. after_name-lays schema s left w q g.0 y)

    named-lays : (c : Scope) (h : Stand) → ScopeGood schema c → (at : Place) (n : ℕ) (name : List ℕ) (o : Option ℕ) → find_in schema c name ≡ o
        → Turns c h (named child schema s c h at n o)
    named-lays c h sg at n name none e = λ rest r. lays-refused
    named-lays c h sg at n name (some i) e =
        by-test (Turns c h) (again c i h) _ _ (λ _ rest r. lays-refused)
        (λ y.
        let has = found-has schema ok c sg name i e in
        turn_of-lays c i h (read_field child schema s (want schema c i) (moved n h.spot)) has y (field-lays c i sg has (moved n h.spot)))

    item-lays : (c : Scope) (closer : ℕ) → ScopeGood schema c → (h : Stand) → Turns c h (item child (eqb left 0) schema s c closer h)
    unfolding item
    item-lays c closer sg h = go (scan s h.spot.at)
      where
        go : (r : Scan) → Turns c h (item_tok child (eqb left 0) schema s c closer h r)
        go (bad p) = λ rest r. lays-refused
        go (token t n) =
            by-test (Turns c h) (eqb t.kind closer) _ _ (λ _ rest r. closed-lays c sg t.start n h) (λ _.
            by-test (Turns c h) (eqb t.kind name_token) _ _
            (λ _. named-lays c h sg t.start n (part s t.start.offset n) (find_in schema c (part s t.start.offset n)) refl)
            (λ _ rest r. lays-refused))

    turns-lays : (c : Scope) (closer : ℕ) → ScopeGood schema c → (f : ℕ) (h : Stand)
        → Body c h (turns f (item child (eqb left 0) schema s c closer) h)
    unfolding turns
    turns-lays c closer sg zero h = lays-refused
    turns-lays c closer sg (suc f) h = item-lays c closer sg h (turns f (item child (eqb left 0) schema s c closer)) (turns-lays c closer sg f)

    pub fields-lays : (c : Scope) (closer : ℕ) → ScopeGood schema c → (q : Spot)
        → Lays (Rest c false false) q.node q.byte (fields child (eqb left 0) schema s c closer q)
    unfolding fields loop
    fields-lays c closer sg q = turns-lays c closer sg (suc (length s)) (start q)

-- ---- level by level

module _ (schema s : List ℕ) (ok : Accepted schema) where
  -- a body read with so many levels left lies inside a value that takes one more
  rest-inside : (left : ℕ) (w : Want) → nests w.kind ≡ true → (u : Tree) → Rest schema s ok left (within w) false false u
      → Inside schema (suc left) w u
  unfolding within
  rest-inside left w n u r = let z : suc left - 1 ≡ left = omega arith in (go (eqb w.kind map_entry) refl, rw z r.0)
    where
      go : (b : Bool) → eqb w.kind map_entry ≡ b → Right (suc left) w.kind inside u
      go true q =
          let l : Lacks (in_entry w.reference) false false u = (rw (q, within) at r.1) in
          rw (eqb-true w.kind map_entry q) (right-entry (suc left) u (omega arith) (two-both u (omega arith) (omega arith)))
      go false q = rw (nests-is w.kind n (eqb-false w.kind map_entry q)) (right-body (suc left) u (omega arith))

  pub under-lays : (left : ℕ) → ChildLays schema s ok left (under left schema s)
  unfolding under
  under-lays zero w at closer q n sg = lays-refused
  under-lays (suc left) w at closer q n sg =
      lays-map (rest-inside left w n)
      (fields-lays schema s ok left (under left schema s) (under-lays left) (within w) closer sg q)

  pub read_body-lays : (left : ℕ) (c : Scope) (closer : ℕ) → ScopeGood schema c → (q : Spot)
      → Lays (Rest schema s ok left c false false) q.node q.byte (read_body left schema s c closer q)
  unfolding read_body
  read_body-lays left c closer sg q = fields-lays schema s ok left (under left schema s) (under-lays left) c closer sg q
