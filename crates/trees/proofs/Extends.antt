-- Extending: every schema extends itself, extending is transitive, and what the older schema finds under a newer name.
use Prim.Native.Nat.{ℕ, zero, suc, ◌+◌, ◌-◌, ◌≤◌, ◌<◌}
use native.Mathlib.Omega.{arith}
use mathlib.Core.Path.{◌≡◌, refl, sym, ap, ◌∙◌}
use mathlib.Core.Bool.{Bool, true, false}
use mathlib.Core.List.{List}
use mathlib.Core.Option.{some}
use lib.Dec.{ltb, leb, eqb}
use borrow.Author.Tests.{eqb-true, eqb-false, eq-eqb, leb-true, ltb-true, ltb-false, le-leb}
use Rattle.definitions.specs.Basics.{when◌then◌otherwise◌, same, all}
use Rattle.definitions.specs.Image.{message_count, enum_count, message, enumeration, field, member, field_name, member_name, find_field, find_member}
use Rattle.definitions.specs.Extending.{same_field, embedded, message_extends, same_member, enum_extends, extends}
use Rattle.laws.proofs.Lists.{and_parts, and-made, all-at, all_made, any_some, any-made, same_true, same_refl}
use Rattle.trees.proofs.Accepted.{Accepted, In, field-one, found-field, member-one, found-member}

-- ---- the same field, the same value

pub record SameField (a b : List ℕ) (i j : ℕ) : Type 0 where
  pub name : field_name a i ≡ field_name b j
  pub number : (field a i).number ≡ (field b j).number
  pub label : (field a i).label ≡ (field b j).label
  pub key : (field a i).key ≡ (field b j).key
  pub kind : (field a i).kind ≡ (field b j).kind
  pub reference : (field a i).reference ≡ (field b j).reference

pub is-same-field : (a b : List ℕ) (i j : ℕ) → same_field a b i j ≡ true → SameField a b i j
unfolding same_field
is-same-field a b i j e =
    let r₅ = and_parts _ (eqb (field a i).reference (field b j).reference) e in
    let r₄ = and_parts _ (eqb (field a i).kind (field b j).kind) r₅.0 in
    let r₃ = and_parts _ (eqb (field a i).key (field b j).key) r₄.0 in
    let r₂ = and_parts _ (eqb (field a i).label (field b j).label) r₃.0 in
    let r₁ = and_parts (same (field_name a i) (field_name b j)) (eqb (field a i).number (field b j).number) r₂.0 in
    record {
      name = same_true _ _ r₁.0;
      number = eqb-true _ _ r₁.1;
      label = eqb-true _ _ r₂.1;
      key = eqb-true _ _ r₃.1;
      kind = eqb-true _ _ r₄.1;
      reference = eqb-true _ _ r₅.1;
    }

eqb-self : (n : ℕ) → eqb n n ≡ true
eqb-self n = eq-eqb n n refl

pub same-field-is : (a b : List ℕ) (i j : ℕ) → SameField a b i j → same_field a b i j ≡ true
unfolding same_field
same-field-is a b i j r =
    rw (r.name, r.number, r.label, r.key, r.kind, r.reference)
    (and-made _ _
    (and-made _ _
    (and-made _ _ (and-made _ _ (and-made _ _ (same_refl (field_name b j)) (eqb-self (field b j).number)) (eqb-self (field b j).label))
    (eqb-self (field b j).key))
    (eqb-self (field b j).kind))
    (eqb-self (field b j).reference))

same-field-trans : (a b c : List ℕ) (i j k : ℕ) → same_field a b i j ≡ true → same_field b c j k ≡ true → same_field a c i k ≡ true
same-field-trans a b c i j k p q =
    let r = is-same-field a b i j p in
    let t = is-same-field b c j k q in
    same-field-is a c i k
    (record {
      name = r.name ∙ t.name;
      number = r.number ∙ t.number;
      label = r.label ∙ t.label;
      key = r.key ∙ t.key;
      kind = r.kind ∙ t.kind;
      reference = r.reference ∙ t.reference;
    })

pub is-same-member : (a b : List ℕ) (i j : ℕ) → same_member a b i j ≡ true
    → (member_name a i ≡ member_name b j) × ((member a i).number ≡ (member b j).number)
unfolding same_member
is-same-member a b i j e =
    let r = and_parts (same (member_name a i) (member_name b j)) (eqb (member a i).number (member b j).number) e in
    (same_true _ _ r.0, eqb-true _ _ r.1)

same-member-is : (a b : List ℕ) (i j : ℕ) → member_name a i ≡ member_name b j → (member a i).number ≡ (member b j).number → same_member a b i j ≡ true
unfolding same_member
same-member-is a b i j p q = rw (p, q) (and-made _ _ (same_refl (member_name b j)) (eq-eqb (member b j).number (member b j).number refl))

-- ---- what extending says

pub record Extends (a b : List ℕ) : Type 0 where
  pub messages : message_count b ≤ message_count a
  pub enums : enum_count b ≤ enum_count a
  pub fields : (m : ℕ) → m < message_count b → message_extends a b m ≡ true
  pub members : (e : ℕ) → e < enum_count b → enum_extends a b e ≡ true

pub extends-is : (a b : List ℕ) → extends a b ≡ true → Extends a b
unfolding extends
extends-is a b e =
    let r₃ = and_parts _ (all (enum_count b) (enum_extends a b)) e in
    let r₂ = and_parts _ (all (message_count b) (message_extends a b)) r₃.0 in
    let r₁ = and_parts (leb (message_count b) (message_count a)) (leb (enum_count b) (enum_count a)) r₂.0 in
    record { messages = leb-true _ _ r₁.0; enums = leb-true _ _ r₁.1; fields = all-at _ _ r₂.1; members = all-at _ _ r₃.1 }

is-extends : (a b : List ℕ) → Extends a b → extends a b ≡ true
unfolding extends
is-extends a b x =
    and-made _ _
    (and-made _ _ (and-made _ _ (le-leb _ _ x.messages) (le-leb _ _ x.enums)) (all_made (message_count b) (message_extends a b) x.fields))
    (all_made (enum_count b) (enum_extends a b) x.members)

-- ---- every schema extends itself

embedded-self : (s : List ℕ) (i n : ℕ) → embedded s s i n i n ≡ true
unfolding embedded
embedded-self s i zero = refl
embedded-self s i (suc n) =
    rw (same-field-is s s i i (record { name = refl; number = refl; label = refl; key = refl; kind = refl; reference = refl }), embedded)
    (embedded-self s (i + 1) n)

pub extends-self : (s : List ℕ) → extends s s ≡ true
unfolding message_extends enum_extends
extends-self s =
    is-extends s s
    (record {
      messages = omega arith;
      enums = omega arith;
      fields = λ m h. embedded-self s (message s m).first (message s m).count;
      members =
          λ e h. all_made (enumeration s e).count _
          (λ j k. any-made (enumeration s e).count _ j k (same-member-is s s ((enumeration s e).first + j) ((enumeration s e).first + j) refl refl));
    })

-- ---- extending is transitive

module _ (a c : List ℕ) where
  -- one newer field more, given that one older field less is embedded too
  skip : (i n k l : ℕ) → ((i l : ℕ) → embedded a c i n k (suc l) ≡ true → embedded a c i n (k + 1) l ≡ true) → embedded a c (i + 1) n k l ≡ true
      → embedded a c i (suc n) k l ≡ true
  unfolding embedded
  skip i n k zero tail e = refl
  skip i n k (suc l) tail e = go (same_field a c i k) refl
    where
      go : (t : Bool) → same_field a c i k ≡ t → embedded a c i (suc n) k (suc l) ≡ true
      go true q = rw (q, embedded) (tail (i + 1) l e)
      go false q = rw (q, embedded) e

  tail : (n k i l : ℕ) → embedded a c i n k (suc l) ≡ true → embedded a c i n (k + 1) l ≡ true
  unfolding embedded
  tail zero k i l e = absurd (omega (arith, eqb-true (suc l) 0 e))
  tail (suc n) k i l e = go (tail n) (same_field a c i k) refl
    where
      go : ((k i l : ℕ) → embedded a c i n k (suc l) ≡ true → embedded a c i n (k + 1) l ≡ true) → (t : Bool) → same_field a c i k ≡ t
          → embedded a c i (suc n) (k + 1) l ≡ true
      go ih true q = skip i n (k + 1) l (ih (k + 1)) (rw (q, embedded) at e)
      go ih false q = skip i n (k + 1) l (ih (k + 1)) (ih k (i + 1) l (rw (q, embedded) at e))

module _ (a b c : List ℕ) where
  embedded-trans : (n i j m k l : ℕ) → embedded a b i n j m ≡ true → embedded b c j m k l ≡ true → embedded a c i n k l ≡ true
  unfolding embedded
  embedded-trans zero i j zero k l p q = q
  embedded-trans zero i j (suc m) k l p q = absurd (omega (arith, eqb-true (suc m) 0 p))
  embedded-trans (suc n) i j m k zero p q = refl
  embedded-trans (suc n) i j zero k (suc l) p q = absurd (omega (arith, eqb-true (suc l) 0 q))
  embedded-trans (suc n) i j (suc m) k (suc l) p q = go (embedded-trans n (i + 1)) (same_field a b i j) (same_field b c j k) refl refl
    where
      go : ((j m k l : ℕ) → embedded a b (i + 1) n j m ≡ true → embedded b c j m k l ≡ true → embedded a c (i + 1) n k l ≡ true)
          → (s t : Bool) → same_field a b i j ≡ s → same_field b c j k ≡ t → embedded a c i (suc n) k (suc l) ≡ true
      go ih true true x y = rw (same-field-trans a b c i j k x y, embedded) (ih (j + 1) m (k + 1) l (rw (x, embedded) at p) (rw (y, embedded) at q))
      go ih true false x y = skip a c i n k (suc l) (tail a c n k) (ih (j + 1) m k (suc l) (rw (x, embedded) at p) (rw (y, embedded) at q))
      go ih false t x y = skip a c i n k (suc l) (tail a c n k) (ih j (suc m) k (suc l) (rw (x, embedded) at p) q)

pub extends-trans : (a b c : List ℕ) → extends a b ≡ true → extends b c ≡ true → extends a c ≡ true
unfolding message_extends enum_extends
extends-trans a b c p q =
    let x = extends-is a b p in
    let y = extends-is b c q in
    is-extends a c
    (record {
      messages = omega arith;
      enums = omega arith;
      fields =
          λ m h. embedded-trans a b c (message a m).count (message a m).first (message b m).first (message b m).count (message c m).first
          (message c m).count (x.fields m (omega arith)) (y.fields m h);
      members = λ e h. all_made (enumeration c e).count _ (λ k l.
          let u = any_some (enumeration b e).count _ (all-at (enumeration c e).count _ (y.members e h) k l) in
          let v = any_some (enumeration a e).count _ (all-at (enumeration b e).count _ (x.members e (omega arith)) u.0 u.1) in
          let f = is-same-member b c _ _ u.2 in
          let g = is-same-member a b _ _ v.2 in
          any-made (enumeration a e).count _ v.0 v.1 (same-member-is a c _ _ (g.0 ∙ f.0) (g.1 ∙ f.1)));
    })

-- ---- where older fields stand among the newer

-- the newer field that the older field j + k is, where the `left` older ones from j on are embedded among the n newer ones from i on
unfoldable pub placed : (a b : List ℕ) → (i n j left k : ℕ) → ℕ
placed a b i zero j left k = 0
placed a b i (suc n) j zero k = 0
placed a b i (suc n) j (suc left) zero = when same_field a b i j then (λ _. i) otherwise λ _. placed a b (i + 1) n j (suc left) zero
placed a b i (suc n) j (suc left) (suc k) =
    when same_field a b i j then (λ _. placed a b (i + 1) n (j + 1) left k) otherwise λ _. placed a b (i + 1) n j (suc left) (suc k)

module _ (a b : List ℕ) where
  abbrev Placed : (i n j k p : ℕ) → Type 0
  Placed i n j k p = (i ≤ p) × (p < i + n) × (same_field a b p (j + k) ≡ true)

  further : (i n j k p : ℕ) → Placed (i + 1) n j k p → Placed i (suc n) j k p
  further i n j k p r = (omega arith, omega arith, r.2)

  later : (i n j k p : ℕ) → Placed (i + 1) n (j + 1) k p → Placed i (suc n) j (suc k) p
  later i n j k p r = let e : j + suc k ≡ j + 1 + k = omega arith in (omega arith, omega arith, rw e r.2)

  pub placed-is : (n i j left k : ℕ) → embedded a b i n j left ≡ true → k < left → Placed i n j k (placed a b i n j left k)
  unfolding embedded placed
  placed-is zero i j left k e h = absurd (omega (arith, eqb-true left 0 e))
  placed-is (suc n) i j zero k e h = absurd (omega arith)
  placed-is (suc n) i j (suc left) zero e h = go (placed-is n (i + 1)) (same_field a b i j) refl
    where
      go : ((j left k : ℕ) → embedded a b (i + 1) n j left ≡ true → k < left → Placed (i + 1) n j k (placed a b (i + 1) n j left k))
          → (t : Bool) → same_field a b i j ≡ t → Placed i (suc n) j zero (placed a b i (suc n) j (suc left) zero)
      go ih true q = let z : j + 0 ≡ j = omega arith in rw (q, placed) (omega arith, omega arith, rw z q)
      go ih false q = rw (q, placed) (further i n j zero _ (ih j (suc left) zero (rw (q, embedded) at e) (omega arith)))
  placed-is (suc n) i j (suc left) (suc k) e h = go (placed-is n (i + 1)) (same_field a b i j) refl
    where
      go : ((j left k : ℕ) → embedded a b (i + 1) n j left ≡ true → k < left → Placed (i + 1) n j k (placed a b (i + 1) n j left k))
          → (t : Bool) → same_field a b i j ≡ t → Placed i (suc n) j (suc k) (placed a b i (suc n) j (suc left) (suc k))
      go ih true q = rw (q, placed) (later i n j k _ (ih (j + 1) left k (rw (q, embedded) at e) (omega arith)))
      go ih false q = rw (q, placed) (further i n j (suc k) _ (ih j (suc left) (suc k) (rw (q, embedded) at e) (omega arith)))

  pub placed-order : (n i j left k l : ℕ) → embedded a b i n j left ≡ true → k < l → l < left → placed a b i n j left k < placed a b i n j left l
  unfolding embedded placed
  placed-order zero i j left k l e h m = absurd (omega (arith, eqb-true left 0 e))
  placed-order (suc n) i j zero k l e h m = absurd (omega arith)
  placed-order (suc n) i j (suc left) k zero e h m = absurd (omega arith)
  placed-order (suc n) i j (suc left) zero (suc l) e h m = go (placed-order n (i + 1)) (same_field a b i j) refl
    where
      go :
          ((j left k l : ℕ) → embedded a b (i + 1) n j left ≡ true → k < l → l < left → placed a b (i + 1) n j left k < placed a b (i + 1) n j left l)
          → (t : Bool) → same_field a b i j ≡ t → placed a b i (suc n) j (suc left) zero < placed a b i (suc n) j (suc left) (suc l)
      go ih true q = rw (q, placed) (omega (arith, (placed-is n (i + 1) (j + 1) left l (rw (q, embedded) at e) (omega arith)).0))
      go ih false q = rw (q, placed) (ih j (suc left) zero (suc l) (rw (q, embedded) at e) h m)
  placed-order (suc n) i j (suc left) (suc k) (suc l) e h m = go (placed-order n (i + 1)) (same_field a b i j) refl
    where
      go :
          ((j left k l : ℕ) → embedded a b (i + 1) n j left ≡ true → k < l → l < left → placed a b (i + 1) n j left k < placed a b (i + 1) n j left l)
          → (t : Bool) → same_field a b i j ≡ t → placed a b i (suc n) j (suc left) (suc k) < placed a b i (suc n) j (suc left) (suc l)
      go ih true q = rw (q, placed) (ih (j + 1) left k l (rw (q, embedded) at e) (omega arith) (omega arith))
      go ih false q = rw (q, placed) (ih j (suc left) (suc k) (suc l) (rw (q, embedded) at e) h m)

-- ---- what the older schema finds

module _ (N O : List ℕ) (ok_n : Accepted N) (ok_o : Accepted O) (x : Extends N O) where
  module _ (m : ℕ) (here : m < message_count O) where
    here_n : m < message_count N
    here_n = omega (arith, x.messages)

    place_of : ℕ → ℕ
    place_of j = placed N O (message N m).first (message N m).count (message O m).first (message O m).count (j - (message O m).first)

    place_is : (j : ℕ) → In (message O m) j → In (message N m) (place_of j) × SameField N O (place_of j) j
    unfolding message_extends place_of
    place_is j h =
        let r =
        placed-is N O (message N m).count (message N m).first (message O m).first (message O m).count (j - (message O m).first)
        (x.fields m here) (omega arith) in
        let e : (message O m).first + (j - (message O m).first) ≡ j = omega arith in
        ((r.0, r.1), is-same-field N O (place_of j) j (rw e at r.2))

    -- a newer field that the older schema finds is the older field's own
    place-back : (i j : ℕ) → In (message N m) i → find_field O m (field_name N i) ≡ some j → In (message O m) j × (place_of j ≡ i)
    place-back i j h e =
        let f = found-field O ok_o m here (field_name N i) j e in
        let r = place_is j f.0 in
        (f.0, field-one N ok_n m here_n (place_of j) i r.0 h (r.1.name ∙ f.1))

    pub known-field : (i j : ℕ) → In (message N m) i → find_field O m (field_name N i) ≡ some j → In (message O m) j × SameField N O i j
    known-field i j h e =
        let b = place-back i j h e in
        (b.0, rw b.1 at (place_is j b.0).1)

    -- older fields stand in the same relative order
    pub known-order : (i k j l : ℕ) → In (message N m) i → In (message N m) k → find_field O m (field_name N i) ≡ some j
        → find_field O m (field_name N k) ≡ some l → i < k → j < l
    unfolding message_extends place_of
    known-order i k j l hi hk ei ek lt =
        let b = place-back i j hi ei in
        let c = place-back k l hk ek in
        go b c (ltb j l) (eqb j l) refl refl
      where
        go : (In (message O m) j × (place_of j ≡ i)) → (In (message O m) l × (place_of l ≡ k)) → (s t : Bool) → ltb j l ≡ s → eqb j l ≡ t → j < l
        go b c true t p q = ltb-true j l p
        go b c false true p q = let y : i ≡ k = sym b.1 ∙ ap place_of (eqb-true j l q) ∙ c.1 in absurd (omega arith)
        go b c false false p q =
            let u = ltb-false j l p in
            let v = eqb-false j l q in
            let w : place_of l < place_of j =
            placed-order N O (message N m).count (message N m).first (message O m).first (message O m).count (l - (message O m).first)
            (j - (message O m).first) (x.fields m here) (omega arith) (omega arith) in
            absurd (omega (arith, b.1, c.1))

  -- an enum value that the older schema finds has its number
  pub known_member : (e : ℕ) → e < enum_count O → (i j : ℕ) → In (enumeration N e) i → find_member O e (member_name N i) ≡ some j
      → (member O j).number ≡ (member N i).number
  unfolding enum_extends
  known_member e here i j h q =
      let f = found-member O ok_o e here (member_name N i) j q in
      let u =
      any_some (enumeration N e).count _ (all-at (enumeration O e).count _ (x.members e here) (j - (enumeration O e).first) (omega arith)) in
      let j' : (enumeration O e).first + (j - (enumeration O e).first) ≡ j = omega arith in
      let g = is-same-member N O ((enumeration N e).first + u.0) ((enumeration O e).first + (j - (enumeration O e).first)) u.2 in
      let one =
      member-one N ok_n e (omega (arith, x.enums)) ((enumeration N e).first + u.0) i (omega arith, omega (arith, u.1)) h
      (g.0 ∙ ap (member_name O) j' ∙ f.1) in
      sym (g.1 ∙ ap (λ k. (member O k).number) j') ∙ ap (λ k. (member N k).number) one
