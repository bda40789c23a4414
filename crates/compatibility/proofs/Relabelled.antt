-- A canonical tree whose names the older schema knows, under the older schema's ranks: it is canonical there, as large, and says the
-- same by name.
use Prim.Native.Nat.{ℕ, ◌+◌, ◌-◌, ◌%◌, ◌≤◌, ◌<◌}
use native.Mathlib.Omega.{arith}
use mathlib.Core.Path.{◌≡◌, refl, sym, ap, ◌∙◌}
use mathlib.Core.Bool.{Bool, true, false, ◌&&◌, ◌||◌}
use mathlib.Core.List.{List, [], ◌∷◌, ◌++◌, map}
use mathlib.Core.Option.{Option, none, some}
use mathlib.Core.Logic.{◌⊎◌, inl, inr}
use lib.Dec.{ltb, eqb}
use borrow.Author.Tests.{eqb-true, eqb-false, eq-eqb, ne_eqb, ltb-true, ltb-false, lt-ltb, lt-leb}
use Rattle.definitions.specs.declared.Want.{Want}
use Rattle.definitions.specs.Basics.{same}
use Rattle.definitions.specs.Image.{enum_count, enumeration, member, field_name, member_name, find_field, find_member, find_number}
use Rattle.definitions.specs.Scope.{Scope, in_message, in_entry, want, within, has_field, name_in, find_in, nests, enum, map_entry}
use Rattle.definitions.specs.Nodes.{word32}
use Rattle.definitions.specs.Live.{Val, number, run, inside, Tree, nil, node, first_unknown, same_val, has, key_of, has_key, sharing, replaced}
use Rattle.definitions.specs.Names.{Name, field_named, value_named, name_of, member_named, value_names, names, knows, is_some}
use Rattle.definitions.specs.Print.{Style, member_text, number_text, label, opening, closing, value_text, render}
use Rattle.trees.specs.Laying.{found, rank_under, relabel, size, laid_bytes}
use Rattle.compatibility.specs.Demand.{by_name, Spelled, spelled_at, spelled, lacking, knows_all}
use Rattle.laws.proofs.Ranges.{SignedIn}
use Rattle.laws.proofs.Lists.{and_parts, and-made, true-false, find_none}
use Rattle.trees.proofs.Accepted.{Accepted, In, field-within, field-known, found-field, found-member, found_number, member-number-one}
use Rattle.trees.proofs.Extends.{Extends, known-field, known-order, known_member}
use Rattle.trees.proofs.Trees.{Pair, Sound, sound_i32, sound_i64, sound_u32, sound_u64, sound_bool, sound_enum, sound_string, sound_bytes, sound_body, sound_entry, Fits, Together, Wants, has_in, rank-small, scope-newer, scope-older, known}
use Rattle.trees.proofs.Canon.{AtLeast, Canonical, map-scope}
use Rattle.compatibility.proofs.Fitting.{kids-case}
use Rattle.compatibility.proofs.Fields.{value_names-enum, value_names-other}

-- ---- the names of a text are the names of its values

spelled_at-names : (p : ℕ) (ns : List Name) → map (λ (x : Spelled). x.name) (spelled_at p ns) ≡ ns
spelled_at-names p [] = refl
spelled_at-names p (n ∷ ns) = ap (n ∷◌) (spelled_at-names p ns)

map-append : (f : Spelled → Name) (xs ys : List Spelled) → map f (xs ++ ys) ≡ map f xs ++ map f ys
map-append f [] ys = refl
map-append f (x ∷ xs) ys = ap (f x ∷◌) (map-append f xs ys)

pub spelled-names : (s : List ℕ) (y : Style) (d : ℕ) (first : Bool) (c : Scope) (t : Tree) (at : ℕ)
    → map (λ (x : Spelled). x.name) (spelled s y d first c t at) ≡ names s c t
unfolding spelled names
spelled-names s y d first c nil at = refl
spelled-names s y d first c (node r k v kids rest) at =
    simp (map-append, spelled_at-names, spelled-names s y (d + 1) true (within (want s c r)) kids, spelled-names s y d false c rest)

-- none is lacking where all are known
pub lacking-none : (s : List ℕ) (xs : List Spelled) → knows_all s (map (λ (x : Spelled). x.name) xs) ≡ true → lacking s xs ≡ none
unfolding lacking knows_all
lacking-none s [] e = refl
lacking-none s (x ∷ xs) e =
    let h = and_parts (knows s x.name) (knows_all s (map (λ (x : Spelled). x.name) xs)) e in
    rw (h.0, lacking) (lacking-none s xs h.1)

-- and some is where they are not
pub lacking-some : (s : List ℕ) (xs : List Spelled) → knows_all s (map (λ (x : Spelled). x.name) xs) ≡ false → (x : Spelled) × (lacking s xs ≡ some x)
unfolding lacking knows_all
lacking-some s [] e = true-false true refl e
lacking-some s (x ∷ xs) e = go (lacking-some s xs) (knows s x.name) refl
  where
    go : (knows_all s (map (λ (x : Spelled). x.name) xs) ≡ false → (x : Spelled) × (lacking s xs ≡ some x)) → (b : Bool) → knows s x.name ≡ b
        → (z : Spelled) × (lacking s (x ∷ xs) ≡ some z)
    go ih true q = let r = ih (rw q at e) in (r.0, rw (q, lacking) r.1)
    go ih false q = (x, rw (q, lacking) refl)

knows_all-parts : (s : List ℕ) (xs ys : List Name) → knows_all s (xs ++ ys) ≡ true → (knows_all s xs ≡ true) × (knows_all s ys ≡ true)
unfolding knows_all
knows_all-parts s [] ys e = (refl, e)
knows_all-parts s (x ∷ xs) ys e =
    let h = and_parts (knows s x) (knows_all s (xs ++ ys)) e in
    let r = knows_all-parts s xs ys h.1 in
    (and-made (knows s x) (knows_all s xs) h.0 r.0, r.1)

-- ---- every name known

is_some-is : (o : Option ℕ) → is_some o ≡ true → o ≡ some (found o)
is_some-is none e = true-false false e refl
is_some-is (some i) e = refl

module _ (N O : List ℕ) (ok_n : Accepted N) (ok_o : Accepted O) (x : Extends N O) where
  abbrev pub AllKnown : Scope → Scope → Tree → Type 0
  AllKnown c d nil = Unit {0}
  AllKnown c d (node r k v kids rest) =
      (find_in O d (name_in N c r) ≡ some (rank_under N O c d r))
      × (knows_all O (value_names N (want N c r) k v) ≡ true)
      × AllKnown (within (want N c r)) (within (want O d (rank_under N O c d r))) kids
      × AllKnown c d rest

  name-known : (c d : Scope) (r : ℕ) → Together N O c d → has_field N c r ≡ true → knows_all O (name_of N c r) ≡ true
      → find_in O d (name_in N c r) ≡ some (rank_under N O c d r)
  unfolding name_of name_in find_in rank_under knows_all knows same
  name-known (in_message m) (in_message l) r t has e =
      let lt : r < 4096 = field-known N ok_n r (field-within N ok_n m (omega (arith, x.messages)) r (has_in N m r has)) in
      let h : knows_all O (field_named m (field_name N r) ∷ []) ≡ true = (rw (lt-ltb r 4096 lt) at e) in
      let g = and_parts (is_some (find_field O m (field_name N r))) true h in
      is_some-is (find_field O l (field_name N r)) (rw t.0 at g.0)
  name-known (in_message m) (in_entry h) r t has e = absurd t
  name-known (in_entry g) (in_message l) r t has e = absurd t
  name-known (in_entry g) (in_entry h) r t has e = go (eqb r 0) refl
    where
      go : (b : Bool) → eqb r 0 ≡ b → find_in O (in_entry h) (name_in N (in_entry g) r) ≡ some (rank_under N O (in_entry g) (in_entry h) r)
      go true q = rw (q, name_in) refl
      go false q = rw (q, name_in) refl

  pub all_known : (left : ℕ) (c d : Scope) (t : Tree) → Together N O c d → Fits N left c t → knows_all O (names N c t) ≡ true → AllKnown c d t
  unfolding names
  all_known left c d nil g f e = tt
  all_known left c d (node r k v kids rest) g f e =
      let w = want N c r in
      let a = knows_all-parts O (name_of N c r) (value_names N w k v ++ (names N (within w) kids ++ names N c rest)) e in
      let b = knows_all-parts O (value_names N w k v) (names N (within w) kids ++ names N c rest) a.1 in
      let i = knows_all-parts O (names N (within w) kids) (names N c rest) b.1 in
      let known-name = name-known c d r g f.0 a.0 in (
        known-name,
        b.0,
        go known-name (kids-case N left w v kids f.2)
            (λ tg. all_known (left - 1) (within w) (within (want O d (rank_under N O c d r))) kids tg f.3 i.0),
        all_known left c d rest g f.4 i.1,
      )
    where
      go : find_in O d (name_in N c r) ≡ some (rank_under N O c d r) → (kids ≡ nil) ⊎ (nests (want N c r).kind ≡ true)
          → (Together N O (within (want N c r)) (within (want O d (rank_under N O c d r)))
          → AllKnown (within (want N c r)) (within (want O d (rank_under N O c d r))) kids)
          → AllKnown (within (want N c r)) (within (want O d (rank_under N O c d r))) kids
      go kn (inl q) ih = rw q tt
      go kn (inr q) ih = ih ((known N O ok_n ok_o x c d r (rank_under N O c d r) g f.0 kn).0.inner q)

  -- ---- ranks keep their order

  rank-order : (c d : Scope) (r q j l : ℕ) → Together N O c d → has_field N c r ≡ true → has_field N c q ≡ true → find_in O d (name_in N c r) ≡ some j
      → find_in O d (name_in N c q) ≡ some l → r < q → j < l
  unfolding find_in name_in has_field same
  rank-order (in_message m) (in_message i) r q j l t hr hq er eq lt =
      known-order N O ok_n ok_o x i t.1 r q j l (has_in N i r (rw t.0 at hr)) (has_in N i q (rw t.0 at hq)) er eq lt
  rank-order (in_message m) (in_entry h) r q j l t hr hq er eq lt = absurd t
  rank-order (in_entry g) (in_message i) r q j l t hr hq er eq lt = absurd t
  rank-order (in_entry g) (in_entry h) r q j l t hr hq er eq lt =
      let q1 = ltb-true q 2 hq in
      let r0 : r ≡ 0 = omega arith in
      let q1' : q ≡ 1 = omega arith in
      let z : some 0 ≡ some j = (rw r0 at er) in
      let y : some 1 ≡ some l = (rw q1' at eq) in
      let jj : 0 ≡ j = cc in
      let ll : 1 ≡ l = cc in
      omega arith

  sharing-both : (c d : Scope) (r j : ℕ) → Together N O c d → has_field N c r ≡ true → find_in O d (name_in N c r) ≡ some j
      → sharing O d j ≡ sharing N c r
  unfolding sharing find_in name_in
  sharing-both (in_message m) (in_message l) r j t has e =
      let i = has_in N m r has in
      let f = known-field N O ok_n ok_o x l t.1 r j (rw t.0 at i) e in
      let lr : r < 4096 = field-known N ok_n r (field-within N ok_n m (omega (arith, x.messages)) r i) in
      let lj : j < 4096 = field-known O ok_o j (field-within O ok_o l t.1 j f.0) in
      rw (lt-leb first_unknown r lr, lt-leb first_unknown j lj, f.1.label)
  sharing-both (in_message m) (in_entry h) r j t has e = absurd t
  sharing-both (in_entry g) (in_message l) r j t has e = absurd t
  sharing-both (in_entry g) (in_entry h) r j t has e = refl

  -- an entry keeps its key
  key-pair : (a b : ℕ) (t : Tree) → Pair t → key_of (relabel N O (in_entry a) (in_entry b) t) ≡ key_of t
  unfolding relabel rank_under find_in name_in same key_of
  key-pair a b nil p = absurd p
  key-pair a b (node i k v t nil) p = absurd p
  key-pair a b (node i k v t (node j l u z nil)) p = rw p.0 refl
  key-pair a b (node i k v t (node j l u z (node e m q y o))) p = absurd p

  key-sound : (left a b : ℕ) (w : Want) (v : Val) (kids : Tree) → w.kind ≡ map_entry → Sound N left w v kids
      → key_of (relabel N O (in_entry a) (in_entry b) kids) ≡ key_of kids
  unfolding relabel
  key-sound left a b w v kids e (sound_i32 f h) = refl
  key-sound left a b w v kids e (sound_i64 f h) = refl
  key-sound left a b w v kids e (sound_u32 f h) = refl
  key-sound left a b w v kids e (sound_u64 f h) = refl
  key-sound left a b w v kids e (sound_bool f h) = refl
  key-sound left a b w v kids e (sound_enum f i h z) = refl
  key-sound left a b w v kids e (sound_string f h u) = refl
  key-sound left a b w v kids e (sound_bytes f h) = refl
  key-sound left a b w v kids e (sound_body f h) = absurd (omega arith)
  key-sound left a b w v kids e (sound_entry {t = t} f h p) = key-pair a b t p

  module _ (c d : Scope) (g : Together N O c d) where
    abbrev to : ℕ → ℕ
    to r = rank_under N O c d r

    -- a field of the scope that the older schema knows
    pub record Kept (r : ℕ) : Type 0 where
      pub here : has_field N c r ≡ true
      pub there : find_in O d (name_in N c r) ≡ some (rank_under N O c d r)

    mono : (r q : ℕ) → Kept r → Kept q → r < q → to r < to q
    mono r q a b lt = rank-order c d r q (to r) (to q) g a.here b.here a.there b.there lt

    pub mono-le : (r q : ℕ) → Kept r → Kept q → r ≤ q → to r ≤ to q
    mono-le r q a b le = go (eqb r q) refl
      where
        go : (t : Bool) → eqb r q ≡ t → to r ≤ to q
        go true e = rw (eqb-true r q e) (omega arith)
        go false e = let n = eqb-false r q e in let m = mono r q a b (omega arith) in omega arith

    -- and stay apart
    pub eqb-to : (r q : ℕ) → Kept r → Kept q → eqb (to r) (to q) ≡ eqb r q
    eqb-to r q a b = go (eqb r q) (ltb r q) refl refl
      where
        go : (s t : Bool) → eqb r q ≡ s → ltb r q ≡ t → eqb (to r) (to q) ≡ eqb r q
        go true t e f = rw (eqb-true r q e) (eq-eqb (to q) (to q) refl ∙ sym (eq-eqb q q refl))
        go false true e f = let m = mono r q a b (ltb-true r q f) in rw e (ne_eqb (to r) (to q) (λ i. omega arith))
        go false false e f =
            let n = eqb-false r q e in
            let l = ltb-false r q f in
            let m = mono q r b a (omega arith) in
            rw e (ne_eqb (to r) (to q) (λ i. omega arith))

    -- a field shares alike in both
    sharing-to : (r : ℕ) → Kept r → sharing O d (rank_under N O c d r) ≡ sharing N c r
    sharing-to r kp = sharing-both c d r (rank_under N O c d r) g kp.here kp.there

    key-to : (left r : ℕ) (v : Val) (kids : Tree) → Kept r → sharing N c r ≡ 1 → Sound N left (want N c r) v kids
        → key_of (relabel N O (within (want N c r)) (within (want O d (rank_under N O c d r))) kids) ≡ key_of kids
    key-to left r v kids kp sh sd =
        let a = map-scope N c r sh in
        let b = map-scope O d (rank_under N O c d r) (sharing-to r kp ∙ sh) in
        rw (a.2, b.2) (key-sound left r (rank_under N O c d r) (want N c r) v kids a.1 sd)

    has-to : (left r : ℕ) (t : Tree) → Kept r → Fits N left c t → AllKnown c d t → has (rank_under N O c d r) (relabel N O c d t) ≡ has r t
    unfolding has relabel
    has-to left r nil kp f a = refl
    has-to left r (node q k v kids rest) kp f a =
        let e = eqb-to q r (record { here = f.0; there = a.0 }) kp in
        rw (e, has-to left r rest kp f.4 a.3)

    has_key-to : (left r : ℕ) (key : Val) (t : Tree) → Kept r → sharing N c r ≡ 1 → Fits N left c t → AllKnown c d t
        → has_key (rank_under N O c d r) key (relabel N O c d t) ≡ has_key r key t
    unfolding has_key relabel
    has_key-to left r key nil kp sh f a = refl
    has_key-to left r key (node q k v kids rest) kp sh f a =
        let kq : Kept q = record { here = f.0; there = a.0 } in
        rw (eqb-to q r kq kp, has_key-to left r key rest kp sh f.4 a.3) (ap (λ (b : Bool). b || has_key r key rest) (mine kq (eqb q r) refl))
      where
        kids' : Tree
        kids' = relabel N O (within (want N c q)) (within (want O d (rank_under N O c d q))) kids

        mine : Kept q → (b : Bool) → eqb q r ≡ b → (eqb q r && same_val (key_of kids') key) ≡ (eqb q r && same_val (key_of kids) key)
        mine kq false e = rw e refl
        mine kq true e =
            let same_rank : q ≡ r = eqb-true q r e in
            let i = key-to left q v kids kq (rw same_rank sh) f.2 in
            rw (e, i) refl

    replaced-to : (left r : ℕ) (v : Val) (kids t : Tree) → Kept r → Sound N left (want N c r) v kids → Fits N left c t → AllKnown c d t
        → replaced (sharing O d (rank_under N O c d r)) (rank_under N O c d r)
        (relabel N O (within (want N c r)) (within (want O d (rank_under N O c d r))) kids) (relabel N O c d t)
        ≡ replaced (sharing N c r) r kids t
    unfolding replaced
    replaced-to left r v kids t kp sd f a = rw (sharing-to r kp) (go (eqb (sharing N c r) 0) (eqb (sharing N c r) 1) refl refl)
      where
        kids' : Tree
        kids' = relabel N O (within (want N c r)) (within (want O d (rank_under N O c d r))) kids

        go : (i j : Bool) → eqb (sharing N c r) 0 ≡ i → eqb (sharing N c r) 1 ≡ j
            → replaced (sharing N c r) (rank_under N O c d r) kids' (relabel N O c d t) ≡ replaced (sharing N c r) r kids t
        go true j p q = rw (p, replaced) (has-to left r t kp f a)
        go false true p q =
            let sh : sharing N c r ≡ 1 = eqb-true (sharing N c r) 1 q in
            rw (p, q, replaced, key-to left r v kids kp sh sd) (has_key-to left r (key_of kids) t kp sh f a)
        go false false p q = rw (p, q, replaced) refl

    at-least-to : (left r : ℕ) (t : Tree) → Kept r → Fits N left c t → AllKnown c d t → AtLeast r t
        → AtLeast (rank_under N O c d r) (relabel N O c d t)
    unfolding relabel
    at-least-to left r nil kp f a l = tt
    at-least-to left r (node q k v kids rest) kp f a l =
        (mono-le r q kp (record { here = f.0; there = a.0 }) l.0, at-least-to left r rest kp f.4 a.3 l.1)

  -- a field with something inside has scopes that go together
  inner-together : (left : ℕ) (c d : Scope) (r k : ℕ) (v : Val) (kids rest : Tree) → Together N O c d → Fits N left c (node r k v kids rest)
      → AllKnown c d (node r k v kids rest)
      → (kids ≡ nil) ⊎ Together N O (within (want N c r)) (within (want O d (rank_under N O c d r)))
  inner-together left c d r k v kids rest g f a = go (kids-case N left (want N c r) v kids f.2)
    where
      go : (kids ≡ nil) ⊎ (nests (want N c r).kind ≡ true)
          → (kids ≡ nil) ⊎ Together N O (within (want N c r)) (within (want O d (rank_under N O c d r)))
      go (inl q) = inl q
      go (inr q) = inr ((known N O ok_n ok_o x c d r (rank_under N O c d r) g f.0 a.0).0.inner q)

  -- in canonical order for the older schema
  pub relabel-canonical : (left : ℕ) (c d : Scope) (t : Tree) → Together N O c d → Fits N left c t → AllKnown c d t → Canonical N c t
      → Canonical O d (relabel N O c d t)
  unfolding relabel
  relabel-canonical left c d nil g f a h = tt
  relabel-canonical left c d (node r k v kids rest) g f a h =
      let kp : Kept c d g r = record { here = f.0; there = a.0 } in (
        at-least-to c d g left r rest kp f.4 a.3 h.0,
        replaced-to c d g left r v kids rest kp f.2 f.4 a.3 ∙ h.1,
        inner (inner-together left c d r k v kids rest g f a)
            (λ tg. relabel-canonical (left - 1) (within (want N c r)) (within (want O d (rank_under N O c d r))) kids tg f.3 a.2 h.2),
        relabel-canonical left c d rest g f.4 a.3 h.3,
      )
    where
      kids' : Tree
      kids' = relabel N O (within (want N c r)) (within (want O d (rank_under N O c d r))) kids

      inner : (kids ≡ nil) ⊎ Together N O (within (want N c r)) (within (want O d (rank_under N O c d r)))
          → (Together N O (within (want N c r)) (within (want O d (rank_under N O c d r))) → Canonical O (within (want O d (rank_under N O c d r))) kids')
          → Canonical O (within (want O d (rank_under N O c d r))) kids'
      inner (inl q) ih = rw q tt
      inner (inr q) ih = ih q

  -- ---- the same by name

  name-same : (c d : Scope) (r j : ℕ) → Together N O c d → has_field N c r ≡ true → find_in O d (name_in N c r) ≡ some j → name_in O d j ≡ name_in N c r
  unfolding find_in name_in same
  name-same (in_message m) (in_message l) r j t has e = (found-field O ok_o l t.1 (field_name N r) j e).1
  name-same (in_message m) (in_entry h) r j t has e = absurd t
  name-same (in_entry g) (in_message l) r j t has e = absurd t
  name-same (in_entry g) (in_entry h) r j t has e = go (eqb r 0) refl
    where
      go : (b : Bool) → eqb r 0 ≡ b → name_in O (in_entry h) j ≡ name_in N (in_entry g) r
      go true q =
          let z : some 0 ≡ some j = (rw (q, name_in) at e) in
          let i : 0 ≡ j = cc in
          rw (q, ← i, name_in) refl
      go false q =
          let z : some 1 ≡ some j = (rw (q, name_in) at e) in
          let i : 1 ≡ j = cc in
          rw (q, ← i, name_in) refl

  not_found : (e m : ℕ) → find_number O e m ≡ none → (j : ℕ) → In (enumeration O e) j → eqb (member O j).number m ≡ false
  unfolding find_number
  not_found e m q j h = find_none (λ i. eqb (member O i).number m) (enumeration O e).first (enumeration O e).count q j h.0 h.1

  -- the older schema names a number as the newer one does
  number_same : (e m i : ℕ) → e < enum_count O → find_number N e m ≡ some i
      → find_member O e (member_name N i) ≡ some (found (find_member O e (member_name N i)))
      → member_named O e (find_number O e m) ≡ value_named e (member_name N i) ∷ []
  number_same e m i here f g = go (find_number O e m) refl
    where
      j : ℕ
      j = found (find_member O e (member_name N i))

      go : (o : Option ℕ) → find_number O e m ≡ o → member_named O e (find_number O e m) ≡ value_named e (member_name N i) ∷ []
      go none q =
          let fm = found-member O ok_o e here (member_name N i) j g in
          let fn = found_number N ok_n e (omega (arith, x.enums)) m i f in
          let nj : (member O j).number ≡ m = known_member N O ok_n ok_o x e here i j fn.0 g ∙ fn.1 in
          true-false (eqb (member O j).number m) (eq-eqb _ _ nj) (not_found e m q j fm.0)
      go (some l) q =
          let fm = found-member O ok_o e here (member_name N i) j g in
          let fn = found_number N ok_n e (omega (arith, x.enums)) m i f in
          let fl = found_number O ok_o e here m l q in
          let nj : (member O j).number ≡ m = known_member N O ok_n ok_o x e here i j fn.0 g ∙ fn.1 in
          let one : l ≡ j = member-number-one O ok_o e here l j fl.0 fm.0 (fl.1 ∙ sym nj) in
          rw (q, one) (ap (λ (n : List ℕ). value_named e n ∷ []) fm.1)

  other-same : (w v : Want) (k : ℕ) (u : Val) → eqb k enum ≡ false → value_names O v k u ≡ value_names N w k u
  other-same w v k u e = value_names-other O v k u e ∙ sym (value_names-other N w k u e)

  enum_same : (w v : Want) (k n i : ℕ) → Wants N O w v → k ≡ w.kind → w.kind ≡ enum → find_number N w.reference (n % word32) ≡ some i
      → knows_all O (value_names N w k (number n)) ≡ true
      → value_names O v k (number n) ≡ value_names N w k (number n)
  unfolding value_names knows_all knows
  enum_same w v k n i wants ek e f a =
      let m = wants.member e in
      let ns = value_names-enum N w k n i (ek ∙ e) f in
      let kn : (is_some (find_member O w.reference (member_name N i)) && true) ≡ true = (rw ns at a) in
      let some_is =
      is_some-is (find_member O w.reference (member_name N i)) (and_parts (is_some (find_member O w.reference (member_name N i))) true kn).0 in
      rw (ek ∙ e, m.0, f) (number_same w.reference (n % word32) i (rw m.0 at m.1) f some_is)

  values_same : (left : ℕ) (w v : Want) (k : ℕ) (u : Val) (kids : Tree) → Wants N O w v → k ≡ w.kind → Sound N left w u kids
      → knows_all O (value_names N w k u) ≡ true → value_names O v k u ≡ value_names N w k u
  values_same left w v k u kids wants ek (sound_i32 {n = n} e h) a = other-same w v k (number n) (rw (ek ∙ e) refl)
  values_same left w v k u kids wants ek (sound_i64 {n = n} e h) a = other-same w v k (number n) (rw (ek ∙ e) refl)
  values_same left w v k u kids wants ek (sound_u32 {n = n} e h) a = other-same w v k (number n) (rw (ek ∙ e) refl)
  values_same left w v k u kids wants ek (sound_u64 {n = n} e h) a = other-same w v k (number n) (rw (ek ∙ e) refl)
  values_same left w v k u kids wants ek (sound_bool {n = n} e h) a = other-same w v k (number n) (rw (ek ∙ e) refl)
  values_same left w v k u kids wants ek (sound_enum {n = n} e i h b) a = enum_same w v k n i wants ek e h a
  values_same left w v k u kids wants ek (sound_string {bs = bs} e h b) a = other-same w v k (run bs) (rw (ek ∙ e) refl)
  values_same left w v k u kids wants ek (sound_bytes {bs = bs} e h) a = other-same w v k (run bs) (rw (ek ∙ e) refl)
  values_same left w v k u kids wants ek (sound_body e h) a = other-same w v k inside (rw (ek ∙ e) refl)
  values_same left w v k u kids wants ek (sound_entry e h b) a = other-same w v k inside (rw (ek ∙ e) refl)

  pub by_name-relabel : (left : ℕ) (c d : Scope) (t : Tree) → Together N O c d → Fits N left c t → AllKnown c d t
      → by_name O d (relabel N O c d t) ≡ by_name N c t
  unfolding by_name relabel
  by_name-relabel left c d nil g f a = refl
  by_name-relabel left c d (node r k v kids rest) g f a =
      let kn = known N O ok_n ok_o x c d r (rank_under N O c d r) g f.0 a.0 in
      rw (
        name-same c d r (rank_under N O c d r) g f.0 a.0,
        values_same left (want N c r) (want O d (rank_under N O c d r)) k v kids kn.0 f.1 f.2 a.1,
        inner (inner-together left c d r k v kids rest g f a)
            (λ tg. by_name-relabel (left - 1) (within (want N c r)) (within (want O d (rank_under N O c d r))) kids tg f.3 a.2),
        by_name-relabel left c d rest g f.4 a.3,
      )
    where
      v' : Scope
      v' = within (want O d (rank_under N O c d r))

      inner : (kids ≡ nil) ⊎ Together N O (within (want N c r)) v'
          → (Together N O (within (want N c r)) v' → by_name O v' (relabel N O (within (want N c r)) v' kids) ≡ by_name N (within (want N c r)) kids)
          → by_name O v' (relabel N O (within (want N c r)) v' kids) ≡ by_name N (within (want N c r)) kids
      inner (inl q) ih = rw q refl
      inner (inr q) ih = ih q

  -- ---- the same text

  label_same : (c d : Scope) (r j : ℕ) → Together N O c d → has_field N c r ≡ true → find_in O d (name_in N c r) ≡ some j → label O d j ≡ label N c r
  unfolding label
  label_same c d r j g has e =
      let kn = known N O ok_n ok_o x c d r j g has e in
      rw (
        lt-ltb r 4096 (rank-small N ok_n c r (scope-newer N O ok_n ok_o x c d g) has),
        lt-ltb j 4096 (rank-small O ok_o d j (scope-older N O ok_n ok_o x c d g) kn.1),
      )
      (name-same c d r j g has e)

  -- one name, and so one text
  only-name : (e : ℕ) (o : Option ℕ) (name : List ℕ) (n : ℕ) → member_named O e o ≡ value_named e name ∷ [] → member_text O n o ≡ name
  only-name e none name n h = let z : ◌≡◌ {A = ℕ} 0 1 = cc in absurd (omega arith)
  only-name e (some l) name n h = cc

  enum-text : (w v : Want) (k n i : ℕ) → Wants N O w v → k ≡ w.kind → w.kind ≡ enum → find_number N w.reference (n % word32) ≡ some i
      → knows_all O (value_names N w k (number n)) ≡ true → number_text O v k n ≡ number_text N w k n
  unfolding number_text value_names
  enum-text w v k n i wants ek e f a =
      let m = wants.member e in
      let ns = enum_same w v k n i wants ek e f a in
      let same_names : member_named O w.reference (find_number O w.reference (n % word32)) ≡ value_named w.reference (member_name N i) ∷ [] =
      (rw (ek ∙ e, m.0, f) at ns) in
      rw (ek ∙ e, m.0, f) (only-name w.reference (find_number O w.reference (n % word32)) (member_name N i) n same_names)

  plain-text : (w v : Want) (k n : ℕ) → eqb k enum ≡ false → number_text O v k n ≡ number_text N w k n
  unfolding number_text
  plain-text w v k n e = rw e refl

  value-text : (y : Style) (left dp : ℕ) (w v : Want) (k : ℕ) (u : Val) (kids : Tree) (a b : List ℕ) → Wants N O w v → k ≡ w.kind
      → Sound N left w u kids → knows_all O (value_names N w k u) ≡ true → a ≡ b
      → value_text O y dp v k u a ≡ value_text N y dp w k u b
  value-text y left dp w v k u kids a b wants ek (sound_i32 {n = n} e h) kn ab =
      ap (λ (l : List ℕ). 58 ∷ 32 ∷ l) (plain-text w v k n (rw (ek ∙ e) refl))
  value-text y left dp w v k u kids a b wants ek (sound_i64 {n = n} e h) kn ab =
      ap (λ (l : List ℕ). 58 ∷ 32 ∷ l) (plain-text w v k n (rw (ek ∙ e) refl))
  value-text y left dp w v k u kids a b wants ek (sound_u32 {n = n} e h) kn ab =
      ap (λ (l : List ℕ). 58 ∷ 32 ∷ l) (plain-text w v k n (rw (ek ∙ e) refl))
  value-text y left dp w v k u kids a b wants ek (sound_u64 {n = n} e h) kn ab =
      ap (λ (l : List ℕ). 58 ∷ 32 ∷ l) (plain-text w v k n (rw (ek ∙ e) refl))
  value-text y left dp w v k u kids a b wants ek (sound_bool {n = n} e h) kn ab =
      ap (λ (l : List ℕ). 58 ∷ 32 ∷ l) (plain-text w v k n (rw (ek ∙ e) refl))
  value-text y left dp w v k u kids a b wants ek (sound_enum {n = n} e i h z) kn ab =
      ap (λ (l : List ℕ). 58 ∷ 32 ∷ l) (enum-text w v k n i wants ek e h kn)
  value-text y left dp w v k u kids a b wants ek (sound_string e h z) kn ab = refl
  value-text y left dp w v k u kids a b wants ek (sound_bytes e h) kn ab = refl
  value-text y left dp w v k u kids a b wants ek (sound_body e h) kn ab = ap (λ (l : List ℕ). opening y ++ (l ++ closing y dp)) ab
  value-text y left dp w v k u kids a b wants ek (sound_entry e h z) kn ab = ap (λ (l : List ℕ). opening y ++ (l ++ closing y dp)) ab

  pub render-relabel : (y : Style) (left dp : ℕ) (first : Bool) (c d : Scope) (t : Tree) → Together N O c d → Fits N left c t → AllKnown c d t
      → render O y dp first d (relabel N O c d t) ≡ render N y dp first c t
  unfolding render relabel
  render-relabel y left dp first c d nil g f a = refl
  render-relabel y left dp first c d (node r k v kids rest) g f a =
      let kn = known N O ok_n ok_o x c d r (rank_under N O c d r) g f.0 a.0 in
      rw (
        label_same c d r (rank_under N O c d r) g f.0 a.0,
        value-text y left dp (want N c r) (want O d (rank_under N O c d r)) k v kids _ _ kn.0 f.1 f.2 a.1
            (inner (inner-together left c d r k v kids rest g f a)
            (λ tg. render-relabel y (left - 1) (dp + 1) true (within (want N c r)) (within (want O d (rank_under N O c d r))) kids tg f.3 a.2)),
        render-relabel y left dp false c d rest g f.4 a.3,
      ) refl
    where
      v' : Scope
      v' = within (want O d (rank_under N O c d r))

      inner : (kids ≡ nil) ⊎ Together N O (within (want N c r)) v'
          → (Together N O (within (want N c r)) v'
          → render O y (dp + 1) true v' (relabel N O (within (want N c r)) v' kids) ≡ render N y (dp + 1) true (within (want N c r)) kids)
          → render O y (dp + 1) true v' (relabel N O (within (want N c r)) v' kids) ≡ render N y (dp + 1) true (within (want N c r)) kids
      inner (inl q) ih = rw q refl
      inner (inr q) ih = ih q

  -- ---- and it fits the older schema

  pair-relabel : (a b : ℕ) (t : Tree) → Pair t → Pair (relabel N O (in_entry a) (in_entry b) t)
  unfolding relabel rank_under find_in name_in same
  pair-relabel a b nil p = absurd p
  pair-relabel a b (node i k v t nil) p = absurd p
  pair-relabel a b (node i k v t (node j l u z nil)) p = rw (p.0, p.1) (refl, refl)
  pair-relabel a b (node i k v t (node j l u z (node e m q y o))) p = absurd p

  pair-within : (w v : Want) (t : Tree) → w.kind ≡ map_entry → v.kind ≡ map_entry → Pair t → Pair (relabel N O (within w) (within v) t)
  unfolding within
  pair-within w v t e f p = rw (e, f) (pair-relabel w.reference v.reference t p)

  named_some : (e : ℕ) (o : Option ℕ) (name : Name) → member_named O e o ≡ name ∷ [] → o ≡ some (found o)
  named_some e none name h = let z : ◌≡◌ {A = ℕ} 0 1 = cc in absurd (omega arith)
  named_some e (some l) name h = refl

  enum-sound : (left : ℕ) (w v : Want) (k n i : ℕ) → Wants N O w v → k ≡ w.kind → w.kind ≡ enum
      → find_number N w.reference (n % word32) ≡ some i → SignedIn 32 n → knows_all O (value_names N w k (number n)) ≡ true
      → Sound O left v (number n) nil
  unfolding value_names
  enum-sound left w v k n i wants ek e f b a =
      let m = wants.member e in
      let ns = enum_same w v k n i wants ek e f a in
      let same_names : member_named O v.reference (find_number O v.reference (n % word32)) ≡ value_named w.reference (member_name N i) ∷ [] =
      (rw (ek ∙ e, f) at ns) in
      sound_enum (wants.kind ∙ e) (found (find_number O v.reference (n % word32)))
      (named_some v.reference (find_number O v.reference (n % word32)) (value_named w.reference (member_name N i)) same_names) b

  relabel-sound : (left : ℕ) (w v : Want) (k : ℕ) (u : Val) (kids : Tree) → Wants N O w v → k ≡ w.kind → Sound N left w u kids
      → knows_all O (value_names N w k u) ≡ true → Sound O left v u (relabel N O (within w) (within v) kids)
  unfolding relabel
  relabel-sound left w v k u kids wants ek (sound_i32 e h) a = sound_i32 (wants.kind ∙ e) h
  relabel-sound left w v k u kids wants ek (sound_i64 e h) a = sound_i64 (wants.kind ∙ e) h
  relabel-sound left w v k u kids wants ek (sound_u32 e h) a = sound_u32 (wants.kind ∙ e) h
  relabel-sound left w v k u kids wants ek (sound_u64 e h) a = sound_u64 (wants.kind ∙ e) h
  relabel-sound left w v k u kids wants ek (sound_bool e h) a = sound_bool (wants.kind ∙ e) h
  relabel-sound left w v k u kids wants ek (sound_enum {n = n} e i h b) a = enum-sound left w v k n i wants ek e h b a
  relabel-sound left w v k u kids wants ek (sound_string e h b) a = sound_string (wants.kind ∙ e) h b
  relabel-sound left w v k u kids wants ek (sound_bytes e h) a = sound_bytes (wants.kind ∙ e) h
  relabel-sound left w v k u kids wants ek (sound_body e h) a = sound_body (wants.kind ∙ e) h
  relabel-sound left w v k u kids wants ek (sound_entry {t = t} e h p) a = sound_entry (wants.kind ∙ e) h (pair-within w v t e (wants.kind ∙ e) p)

  pub relabel-fits : (left : ℕ) (c d : Scope) (t : Tree) → Together N O c d → Fits N left c t → AllKnown c d t → Fits O left d (relabel N O c d t)
  unfolding relabel
  relabel-fits left c d nil g f a = tt
  relabel-fits left c d (node r k v kids rest) g f a =
      let kn = known N O ok_n ok_o x c d r (rank_under N O c d r) g f.0 a.0 in (
        kn.1,
        f.1 ∙ sym kn.0.kind,
        relabel-sound left (want N c r) (want O d (rank_under N O c d r)) k v kids kn.0 f.1 f.2 a.1,
        inner (inner-together left c d r k v kids rest g f a)
            (λ tg. relabel-fits (left - 1) (within (want N c r)) (within (want O d (rank_under N O c d r))) kids tg f.3 a.2),
        relabel-fits left c d rest g f.4 a.3,
      )
    where
      v' : Scope
      v' = within (want O d (rank_under N O c d r))

      inner : (kids ≡ nil) ⊎ Together N O (within (want N c r)) v'
          → (Together N O (within (want N c r)) v' → Fits O (left - 1) v' (relabel N O (within (want N c r)) v' kids))
          → Fits O (left - 1) v' (relabel N O (within (want N c r)) v' kids)
      inner (inl q) ih = rw q tt
      inner (inr q) ih = ih q

-- ---- as large

pub size-relabel : (N O : List ℕ) (c d : Scope) (t : Tree) → size (relabel N O c d t) ≡ size t
unfolding size relabel
size-relabel N O c d nil = refl
size-relabel N O c d (node r k v kids rest) =
    rw (size-relabel N O (within (want N c r)) (within (want O d (rank_under N O c d r))) kids, size-relabel N O c d rest)

pub bytes-relabel : (N O : List ℕ) (c d : Scope) (t : Tree) → laid_bytes (relabel N O c d t) ≡ laid_bytes t
unfolding laid_bytes relabel
bytes-relabel N O c d nil = refl
bytes-relabel N O c d (node r k v kids rest) =
    rw (bytes-relabel N O (within (want N c r)) (within (want O d (rank_under N O c d r))) kids, bytes-relabel N O c d rest)
