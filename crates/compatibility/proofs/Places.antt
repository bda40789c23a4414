-- Every live name of a text stands at the offset that is given for it, and the offsets rise.
use Prim.Native.Nat.{ℕ, ◌+◌, ◌-◌, ◌%◌, ◌≤◌}
use native.Mathlib.Omega.{arith}
use mathlib.Core.Path.{◌≡◌, refl, ap, ◌∙◌}
use mathlib.Core.Bool.{Bool, true, false}
use mathlib.Core.List.{List, [], ◌∷◌, ◌++◌, append_assoc}
use mathlib.Core.Option.{Option, none, some}
use lib.Dec.{ltb, eqb}
use borrow.Author.Tests.{eqb-true}
use lib.ListN.{length, drop, length-append}
use Rattle.definitions.specs.declared.Want.{Want}
use Rattle.definitions.specs.Basics.{part}
use Rattle.definitions.specs.Image.{field_name, member_name, find_number}
use Rattle.definitions.specs.Scope.{Scope, in_message, in_entry, want, within, name_in, enum}
use Rattle.definitions.specs.Nodes.{word32}
use Rattle.definitions.specs.Live.{Val, number, run, inside, Tree, nil, node, first_unknown}
use Rattle.definitions.specs.Names.{Name, field_named, value_named, name_of, member_named, value_names, knows}
use Rattle.definitions.specs.Print.{Style, lead, trail, opening, closing, label, number_text, value_text, render}
use Rattle.compatibility.specs.Demand.{Spelled, spelling, spelled_at, spelled, lacking}
use Rattle.trees.proofs.Scanning.{drop-on, part-is}
use Rattle.trees.proofs.Styles.{render-on}
use Rattle.trees.proofs.Trees.{Sound, sound_i32, sound_i64, sound_u32, sound_u64, sound_bool, sound_enum, sound_string, sound_bytes, Fits}
use Rattle.compatibility.proofs.Fields.{number_text-enum}

-- ---- names that stand where they are said to

abbrev pub Stands : List ℕ → List Spelled → Type 0
Stands text [] = Unit {0}
Stands text (x ∷ xs) = (part text x.at (x.at + length (spelling x.name)) ≡ spelling x.name) × Stands text xs

stands-append : (text : List ℕ) (xs ys : List Spelled) → Stands text xs → Stands text ys → Stands text (xs ++ ys)
stands-append text [] ys h k = k
stands-append text (x ∷ xs) ys h k = (h.0, stands-append text xs ys h.1 k)

-- the first that a schema lacks is one of them
pub lacking-stands : (s text : List ℕ) (xs : List Spelled) (x : Spelled) → Stands text xs → lacking s xs ≡ some x
    → part text x.at (x.at + length (spelling x.name)) ≡ spelling x.name
unfolding lacking
lacking-stands s text [] x h e = let z : ◌≡◌ {A = ℕ} 0 1 = cc in absurd (omega arith)
lacking-stands s text (z ∷ xs) x h e = go (lacking-stands s text xs x h.1) (knows s z.name) refl
  where
    go : (lacking s xs ≡ some x → part text x.at (x.at + length (spelling x.name)) ≡ spelling x.name) → (b : Bool)
        → knows s z.name ≡ b → part text x.at (x.at + length (spelling x.name)) ≡ spelling x.name
    go ih true q = ih (rw (q, lacking) at e)
    go ih false q = let i : some z ≡ some x = (rw (q, lacking) at e) in let y : z ≡ x = cc in rw (← y) h.0

-- a name at a place where it stands
one-stands : (text : List ℕ) (p : ℕ) (n : Name) (k : List ℕ) → drop p text ≡ spelling n ++ k → Stands text (spelled_at p (n ∷ []))
one-stands text p n k e = (part-is text (spelling n) k p e, tt)

field-stands : (s text : List ℕ) (c : Scope) (r p : ℕ) (k : List ℕ) → drop p text ≡ label s c r ++ k → Stands text (spelled_at p (name_of s c r))
unfolding label name_of name_in
field-stands s text (in_message m) r p k e = go (ltb r first_unknown) refl
  where
    go : (b : Bool) → ltb r first_unknown ≡ b → Stands text (spelled_at p (name_of s (in_message m) r))
    go true q = rw (q, name_of) (one-stands text p (field_named m (field_name s r)) k (rw (q, label) at e))
    go false q = rw (q, name_of) tt
field-stands s text (in_entry g) r p k e = tt

value-stands : (s text : List ℕ) (y : Style) (d : ℕ) (w : Want) (kind : ℕ) (v : Val) (b : List ℕ) (p : ℕ) (k : List ℕ)
    → drop p text ≡ value_text s y d w kind v b ++ k → Stands text (spelled_at (p + 2) (value_names s w kind v))
unfolding value_names
value-stands s text y d w kind (number n) b p k e = go (eqb kind enum) refl
  where
    named : eqb kind enum ≡ true → (o : Option ℕ) → find_number s w.reference (n % word32) ≡ o
        → Stands text (spelled_at (p + 2) (member_named s w.reference (find_number s w.reference (n % word32))))
    named q none f = rw f tt
    named q (some i) f =
        let t : number_text s w kind n ≡ member_name s i = number_text-enum s w kind n i (eqb-true kind enum q) f in
        let e₂ : drop (p + 2) text ≡ member_name s i ++ k = drop-on text (58 ∷ 32 ∷ []) (member_name s i ++ k) p (rw t at e) in
        rw f (one-stands text (p + 2) (value_named w.reference (member_name s i)) k e₂)

    go : (o : Bool) → eqb kind enum ≡ o → Stands text (spelled_at (p + 2) (value_names s w kind (number n)))
    go true q = rw (q, value_names) (named q (find_number s w.reference (n % word32)) refl)
    go false q = rw (q, value_names) tt
value-stands s text y d w kind (run bs) b p k e = tt
value-stands s text y d w kind inside b p k e = tt

-- ---- over a body

pub number-leaf : (s : List ℕ) (left : ℕ) (w : Want) (n : ℕ) (kids : Tree) → Sound s left w (number n) kids → kids ≡ nil
number-leaf s left w n kids (sound_i32 e h) = refl
number-leaf s left w n kids (sound_i64 e h) = refl
number-leaf s left w n kids (sound_u32 e h) = refl
number-leaf s left w n kids (sound_u64 e h) = refl
number-leaf s left w n kids (sound_bool e h) = refl
number-leaf s left w n kids (sound_enum e i h b) = refl

pub run-leaf : (s : List ℕ) (left : ℕ) (w : Want) (bs : List ℕ) (kids : Tree) → Sound s left w (run bs) kids → kids ≡ nil
run-leaf s left w bs kids (sound_string e h u) = refl
run-leaf s left w bs kids (sound_bytes e h) = refl

module _ (s text : List ℕ) (y : Style) where
  abbrev StandsIn : Tree → Type 0
  StandsIn t =
      (left d : ℕ) (first : Bool) (c : Scope) (at : ℕ) (k : List ℕ) → Fits s left c t → drop at text ≡ render s y d first c t ++ k
      → Stands text (spelled s y d first c t at)

  inside-stands : (left d : ℕ) (w : Want) (kind : ℕ) (v : Val) (kids : Tree) (p : ℕ) (k : List ℕ) → Sound s left w v kids
      → Fits s (left - 1) (within w) kids → StandsIn kids
      → drop p text ≡ value_text s y d w kind v (render s y (d + 1) true (within w) kids) ++ k
      → Stands text (spelled s y (d + 1) true (within w) kids (p + length (opening y)))
  unfolding spelled
  inside-stands left d w kind (number n) kids p k sd f ih e = rw (number-leaf s left w n kids sd) tt
  inside-stands left d w kind (run bs) kids p k sd f ih e = rw (run-leaf s left w bs kids sd) tt
  inside-stands left d w kind inside kids p k sd f ih e =
      let R = render s y (d + 1) true (within w) kids in
      let e₁ : drop p text ≡ opening y ++ (R ++ (closing y d ++ k)) =
      e ∙ append_assoc (opening y) (R ++ closing y d) k ∙ ap (λ (l : List ℕ). opening y ++ l) (append_assoc R (closing y d) k) in
      ih (left - 1) (d + 1) true (within w) (p + length (opening y)) (closing y d ++ k) f (drop-on text (opening y) (R ++ (closing y d ++ k)) p e₁)

  pub spelled-stands : (t : Tree) → StandsIn t
  unfolding spelled
  spelled-stands nil left d first c at k f e = tt
  spelled-stands (node r kind v kids rest) left d first c at k f e =
      let w = want s c r in
      let R = render s y (d + 1) true (within w) kids in
      let VT = value_text s y d w kind v R in
      let Z : List ℕ = trail y ++ (render s y d false c rest ++ k) in
      let e₀ = e ∙ render-on s y d first c r kind v kids rest k in
      let e₁ = drop-on text (lead y d first) (label s c r ++ (VT ++ Z)) at e₀ in
      let e₂ = drop-on text (label s c r) (VT ++ Z) (at + length (lead y d first)) e₁ in
      let e₃ = drop-on text VT Z (at + length (lead y d first) + length (label s c r)) e₂ in
      let e₄ = drop-on text (trail y) (render s y d false c rest ++ k) (at + length (lead y d first) + length (label s c r) + length VT) e₃ in
      let p : ℕ = at + length (lead y d first) in
      let q : ℕ = p + length (label s c r) in
      let below = spelled s y (d + 1) true (within w) kids (q + length (opening y)) in
      let after = spelled s y d false c rest (q + length VT + length (trail y)) in
      stands-append text (spelled_at p (name_of s c r)) (spelled_at (q + 2) (value_names s w kind v) ++ (below ++ after))
      (field-stands s text c r p (VT ++ Z) e₁)
      (stands-append text (spelled_at (q + 2) (value_names s w kind v)) (below ++ after) (value-stands s text y d w kind v R q Z e₂)
      (stands-append text below after (inside-stands left d w kind v kids q Z f.2 f.3 (spelled-stands kids) e₂)
      (spelled-stands rest left d false c (q + length VT + length (trail y)) k f.4 e₄)))

-- ---- in the order of the text

-- offsets from a to b that never fall
abbrev pub Rising : (a b : ℕ) → List Spelled → Type 0
Rising a b [] = Unit {0}
Rising a b (x ∷ xs) = (a ≤ x.at) × (x.at ≤ b) × Rising x.at b xs

rising-wide : (a i b j : ℕ) (xs : List Spelled) → i ≤ a → b ≤ j → Rising a b xs → Rising i j xs
rising-wide a i b j [] h k r = tt
rising-wide a i b j (x ∷ xs) h k r = (omega arith, omega arith, rising-wide x.at x.at b j xs (omega arith) k r.2)

rising-append : (a m b : ℕ) (xs ys : List Spelled) → a ≤ m → m ≤ b → Rising a m xs → Rising m b ys → Rising a b (xs ++ ys)
rising-append a m b [] ys h k r q = rising-wide m a b b ys h (omega arith) q
rising-append a m b (x ∷ xs) ys h k r q = (r.0, omega arith, rising-append x.at m b xs ys r.1 k r.2 q)

rising-at : (a b p : ℕ) (ns : List Name) → a ≤ p → p ≤ b → Rising a b (spelled_at p ns)
rising-at a b p [] h k = tt
rising-at a b p (n ∷ ns) h k = (h, k, rising-at p b p ns (omega arith) k)

-- in a value, from behind its field's name on
inside-rise : (s : List ℕ) (y : Style) (left d : ℕ) (w : Want) (kind : ℕ) (v : Val) (kids : Tree) (q : ℕ) → Sound s left w v kids
    → Rising (q + length (opening y)) (q + length (opening y) + length (render s y (d + 1) true (within w) kids))
    (spelled s y (d + 1) true (within w) kids (q + length (opening y)))
    → Rising q (q + length (value_text s y d w kind v (render s y (d + 1) true (within w) kids)))
    (spelled_at (q + 2) (value_names s w kind v) ++ spelled s y (d + 1) true (within w) kids (q + length (opening y)))
unfolding spelled value_names
inside-rise s y left d w kind (number n) kids q sd h =
    let e : ℕ = q + length (value_text s y d w kind (number n) (render s y (d + 1) true (within w) nil)) in
    rw (number-leaf s left w n kids sd)
    (rising-append q e e (spelled_at (q + 2) (value_names s w kind (number n))) [] (omega arith) (omega arith)
    (rising-at q e (q + 2) (value_names s w kind (number n)) (omega arith) (omega arith)) tt)
inside-rise s y left d w kind (run bs) kids q sd h = rw (run-leaf s left w bs kids sd) tt
inside-rise s y left d w kind inside kids q sd h =
    let R = render s y (d + 1) true (within w) kids in
    rising-wide (q + length (opening y)) q (q + length (opening y) + length R) (q + length (opening y ++ (R ++ closing y d)))
    (spelled s y (d + 1) true (within w) kids (q + length (opening y)))
    (omega arith) (omega (arith, length-append (opening y) (R ++ closing y d), length-append R (closing y d))) h

pub names-rise : (s : List ℕ) (y : Style) (left d : ℕ) (first : Bool) (c : Scope) (t : Tree) (at : ℕ) → Fits s left c t
    → Rising at (at + length (render s y d first c t)) (spelled s y d first c t at)
unfolding spelled render
names-rise s y left d first c nil at f = tt
names-rise s y left d first c (node r kind v kids rest) at f =
    let w = want s c r in
    let R = render s y (d + 1) true (within w) kids in
    let VT = value_text s y d w kind v R in
    let p : ℕ = at + length (lead y d first) in
    let q : ℕ = p + length (label s c r) in
    let e : ℕ = q + length VT + length (trail y) in
    let Q = render s y d false c rest in
    let total : at + length (lead y d first ++ (label s c r ++ (VT ++ (trail y ++ Q)))) ≡ e + length Q =
    omega (
      arith,
      length-append (lead y d first) (label s c r ++ (VT ++ (trail y ++ Q))),
      length-append (label s c r) (VT ++ (trail y ++ Q)),
      length-append VT (trail y ++ Q),
      length-append (trail y) Q,
    )
    in
    let B = spelled_at (q + 2) (value_names s w kind v) in
    let C = spelled s y (d + 1) true (within w) kids (q + length (opening y)) in
    let D = spelled s y d false c rest e in
    let value =
    inside-rise s y left d w kind v kids q f.2 (names-rise s y (left - 1) (d + 1) true (within w) kids (q + length (opening y)) f.3) in
    let tail : Rising q (e + length Q) ((B ++ C) ++ D) =
    rising-append q e (e + length Q) (B ++ C) D (omega arith) (omega arith)
    (rising-wide q q (q + length VT) e (B ++ C) (omega arith) (omega arith) value) (names-rise s y left d false c rest e f.4) in
    rw total
    (rising-append at q (e + length Q) (spelled_at p (name_of s c r)) (B ++ (C ++ D)) (omega arith) (omega arith)
    (rising-at at q p (name_of s c r) (omega arith) (omega arith)) (rw append_assoc at tail))
