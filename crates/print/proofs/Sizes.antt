-- How long a print can be: a table of at most 65,535 nodes, each with a text below 2^35, has one below 2^56.
use Prim.Native.Nat.{ℕ, zero, suc, ◌+◌, ◌-◌, ◌*◌, ◌/◌, ◌%◌, ◌≤◌, ◌<◌, ◌^◌}
use native.Mathlib.Omega.{arith}
use mathlib.Core.Bool.{Bool, true, false, ◌||◌}
use mathlib.Core.Path.{◌≡◌, refl}
use mathlib.Core.List.{List, [], ◌∷◌, ◌++◌}
use mathlib.Core.Option.{Option, none, some}
use lib.Dec.{ltb, leb, eqb}
use lib.ListN.{length, take, drop, get_or, length-append, length-take, get_or-eq_default}
use lib.Seq.{get_or-drop, get_or-take}
use borrow.Author.Tests.{ltb-true, ltb-false}
use Rattle.definitions.specs.declared.Node.{Node}
use Rattle.definitions.specs.declared.Want.{Want}
use Rattle.definitions.specs.Basics.{when◌then◌otherwise◌, bytes}
use Rattle.definitions.specs.Image.{names_at, name_text, field_name, member_name, field, member, find_number, field_at, member_at}
use Rattle.definitions.specs.Scope.{Scope, in_message, in_entry, want, within, name_in, nests}
use Rattle.definitions.specs.Nodes.{node_at, table_end, word32, word64, number_of, run_of, is_run, is_unknown, tiles}
use Rattle.definitions.specs.Validity.{below}
use Rattle.definitions.specs.Live.{Val, number, run, inside, Tree, nil, node, rank_of, value_of, tree_of, sharing, replaced, insert, canon, meaning}
use Rattle.definitions.specs.Print.{Style, compact, pretty, decimal, signed_decimal, quoted, member_text, number_text, label, indent, lead, trail, opening, closing, value_text, render, print_text}
use Rattle.laws.proofs.Lists.{AreBytes, bytes_drop}
use Rattle.laws.proofs.Decimal.{decimal-length}
use Rattle.laws.proofs.Quoting.{quote_bytes-length, quoted-length}
use Rattle.laws.proofs.Forest.{end_of, tiles-parts, forest-none, forest-some}
use Rattle.bits.proofs.BitLaws.{bits_below}
use Rattle.print.specs.Order.{values}
use Rattle.fields.proofs.FieldLaws.{indent-count}

-- ---- values

abbrev SmallVal : Val → Type 0
SmallVal (number n) = n < 2 ^ 64
SmallVal (run bs) = (length bs < 2 ^ 32) × AreBytes bs
SmallVal inside = Unit {0}

-- every value of a tree, at any depth, and its rank
abbrev pub Small : Tree → Type 0
Small nil = Unit {0}
Small (node r k v kids rest) = (r < 2 ^ 64) × SmallVal v × Small kids × Small rest

unfoldable pub count : Tree → ℕ
count nil = 0
count (node r k v kids rest) = suc (count kids + count rest)

small-insert : (r k : ℕ) (v : Val) (kids t : Tree) → r < 2 ^ 64 → SmallVal v → Small kids → Small t → Small (insert r k v kids t)
unfolding insert
small-insert r k v kids nil a b c t = (a, b, c, t)
small-insert r k v kids (node q j u s rest) a b c t = go (leb r q) refl (small-insert r k v kids rest a b c t.3)
  where
    go : (x : Bool) → leb r q ≡ x → Small (insert r k v kids rest) → Small (insert r k v kids (node q j u s rest))
    go true e ih = rw (e, insert) (a, b, c, t)
    go false e ih = rw (e, insert) (t.0, t.1, t.2, ih)

small-canon : (s : List ℕ) (c : Scope) (t : Tree) → Small t → Small (canon s c t)
unfolding canon
small-canon s c nil h = tt
small-canon s c (node r k v kids rest) h =
    go (replaced (sharing s c r) r kids rest) refl (small-canon s (within (want s c r)) kids h.2) (small-canon s c rest h.3)
  where
    go : (x : Bool) → replaced (sharing s c r) r kids rest ≡ x → Small (canon s (within (want s c r)) kids) → Small (canon s c rest) → Small (canon s c (node r k v kids rest))
    go true e a b = rw (e, canon) b
    go false e a b = rw (e, canon) (small-insert r k v (canon s (within (want s c r)) kids) (canon s c rest) h.0 h.1 a b)

count-insert : (r k : ℕ) (v : Val) (kids t : Tree) → count (insert r k v kids t) ≡ suc (count kids + count t)
unfolding insert count
count-insert r k v kids nil = refl
count-insert r k v kids (node q j u s rest) = go (leb r q) refl (count-insert r k v kids rest)
  where
    go : (x : Bool) → leb r q ≡ x → count (insert r k v kids rest) ≡ suc (count kids + count rest)
        → count (insert r k v kids (node q j u s rest)) ≡ suc (count kids + suc (count s + count rest))
    go true e ih = rw (e, insert)
    go false e ih = rw (e, insert) (omega arith)

count-canon : (s : List ℕ) (c : Scope) (t : Tree) → count (canon s c t) ≤ count t
unfolding canon count
count-canon s c nil = omega arith
count-canon s c (node r k v kids rest) =
    go (replaced (sharing s c r) r kids rest) refl (count-canon s (within (want s c r)) kids) (count-canon s c rest)
  where
    go : (x : Bool) → replaced (sharing s c r) r kids rest ≡ x
        → count (canon s (within (want s c r)) kids) ≤ count kids → count (canon s c rest) ≤ count rest
        → count (canon s c (node r k v kids rest)) ≤ suc (count kids + count rest)
    go true e a b = rw (e, canon) (omega arith)
    go false e a b = rw (e, canon) (omega (arith, count-insert r k v (canon s (within (want s c r)) kids) (canon s c rest)))

-- ---- the parts of a field's text

name-length : (s : List ℕ) (start n : ℕ) → n < 64 → length (name_text s start n) ≤ 64
unfolding name_text
name-length s start n h = omega (arith, length-take n (drop (names_at s + start) s))

field-length : (s : List ℕ) (i : ℕ) → length (field_name s i) ≤ 64
unfolding field_name field
field-length s i = name-length s (field s i).start (field s i).length (bits_below (field_at s i) 16 6 6 (omega arith))

member-length : (s : List ℕ) (i : ℕ) → length (member_name s i) ≤ 64
unfolding member_name member
member-length s i = name-length s (member s i).start (member s i).length (bits_below (member_at s i) 16 6 6 (omega arith))

decimal-few : (n : ℕ) → n ≤ 2 ^ 64 → length (decimal n) ≤ 20
decimal-few n h = decimal-length 19 n (omega arith)

signed-few : (n : ℕ) → n < 2 ^ 64 → length (signed_decimal n) ≤ 21
unfolding signed_decimal
signed-few n h = go (ltb n (word64 / 2)) refl
  where
    go : (x : Bool) → ltb n (word64 / 2) ≡ x → length (signed_decimal n) ≤ 21
    go true e = rw (e, signed_decimal) (omega (arith, decimal-few n (omega arith)))
    go false e = rw (e, signed_decimal) (omega (arith, decimal-few (word64 - n) (omega arith)))

label-name : (s : List ℕ) (c : Scope) (r : ℕ) → length (name_in s c r) ≤ 64
unfolding name_in
label-name s (in_message m) r = field-length s r
label-name s (in_entry g) r = go (eqb r 0) refl
  where
    go : (x : Bool) → eqb r 0 ≡ x → length (name_in s (in_entry g) r) ≤ 64
    go true e = rw (e, name_in) (omega arith)
    go false e = rw (e, name_in) (omega arith)

label-length : (s : List ℕ) (c : Scope) (r : ℕ) → r < 2 ^ 64 → length (label s c r) ≤ 64
unfolding label
label-length s c r h = go (ltb r 4096) refl
  where
    go : (x : Bool) → ltb r 4096 ≡ x → length (label s c r) ≤ 64
    go true e = rw (e, label) (label-name s c r)
    go false e = rw (e, label) (omega (arith, decimal-few (r - 4096) (omega arith)))

member-text : (s : List ℕ) (n : ℕ) (o : Option ℕ) → n < 2 ^ 64 → length (member_text s n o) ≤ 64
member-text s n none h = omega (arith, length-append (bytes ": ") (signed_decimal n), signed-few n h)
member-text s n (some i) h = member-length s i

number-length : (s : List ℕ) (w : Want) (k n : ℕ) → n < 2 ^ 64 → length (number_text s w k n) ≤ 64
unfolding number_text
number-length s w k n h = signed (eqb k 1 || eqb k 2) refl
  where
    named : (x : Bool) → eqb k 8 ≡ x → length (when eqb k 8 then (λ _. member_text s n (find_number s w.reference (n % word32))) otherwise λ _. decimal n) ≤ 64
    named true e = rw e (member-text s n (find_number s w.reference (n % word32)) h)
    named false e = rw e (omega (arith, decimal-few n (omega arith)))

    zero_or_not : (x : Bool) → eqb n 0 ≡ x → length (when eqb n 0 then (λ _. bytes "false") otherwise λ _. bytes "true") ≤ 64
    zero_or_not true e = rw e (omega arith)
    zero_or_not false e = rw e (omega arith)

    truth : (x : Bool) → eqb k 5 ≡ x
        → length
        (when eqb k 5 then (λ _. when eqb n 0 then (λ _. bytes "false") otherwise λ _. bytes "true") otherwise λ _.
        when eqb k 8 then (λ _. member_text s n (find_number s w.reference (n % word32))) otherwise λ _. decimal n) ≤ 64
    truth true e = rw e (zero_or_not (eqb n 0) refl)
    truth false e = rw e (named (eqb k 8) refl)

    signed : (x : Bool) → eqb k 1 || eqb k 2 ≡ x → length (number_text s w k n) ≤ 64
    signed true e = rw (e, number_text) (omega (arith, signed-few n h))
    signed false e = rw (e, number_text) (truth (eqb k 5) refl)

-- the depth is no more than the nodes
module _ (d : ℕ) (deep : d ≤ 65536) where
  lead-length : (y : Style) (first : Bool) → length (lead y d first) ≤ 131072
  unfolding lead
  lead-length compact true = omega arith
  lead-length compact false = omega arith
  lead-length pretty first = omega (arith, indent-count d)

  closing-length : (y : Style) → length (closing y d) ≤ 131073
  unfolding closing
  closing-length compact = omega arith
  closing-length pretty = omega (arith, indent-count d, length-append (indent d) (125 ∷ []))

trail-length : (y : Style) → length (trail y) ≤ 1
unfolding trail
trail-length compact = omega arith
trail-length pretty = omega arith

opening-length : (y : Style) → length (opening y) ≤ 3
unfolding opening
opening-length compact = omega arith
opening-length pretty = omega arith

-- a value's text is that of what lies inside, and a bounded rest
value-length : (s : List ℕ) (y : Style) (d : ℕ) (w : Want) (k : ℕ) (v : Val) (text : List ℕ) → d ≤ 65536 → SmallVal v
    → length (value_text s y d w k v text) ≤ 17179869696 + length text
value-length s y d w k (number n) text deep h = omega (arith, length-append (bytes ": ") (number_text s w k n), number-length s w k n h)
value-length s y d w k (run bs) text deep h =
    omega (arith, h.0, length-append (bytes ": ") (quoted bs), quoted-length bs, quote_bytes-length bs h.1)
value-length s y d w k inside text deep h =
    omega (
      arith,
      length-append (opening y) (text ++ closing y d),
      length-append text (closing y d),
      opening-length y,
      closing-length d deep y,
    )

abbrev pub most : ℕ
most = 34359738368

pub render-length : (s : List ℕ) (y : Style) (d : ℕ) (first : Bool) (c : Scope) (t : Tree) → d + count t ≤ 65536 → Small t
    → length (render s y d first c t) ≤ most * count t
unfolding render count
render-length s y d first c nil h g = omega arith
render-length s y d first c (node r k v kids rest) h g =
    let inner = render s y (d + 1) true (within (want s c r)) kids in
    let more = render s y d false c rest in
    let value = value_text s y d (want s c r) k v inner in
    omega (
      arith,
      length-append (lead y d first) (label s c r ++ (value ++ (trail y ++ more))),
      length-append (label s c r) (value ++ (trail y ++ more)),
      length-append value (trail y ++ more),
      length-append (trail y) more,
      lead-length d (omega arith) y first,
      label-length s c r g.0,
      value-length s y d (want s c r) k v inner (omega arith) g.1,
      trail-length y,
      render-length s y (d + 1) true (within (want s c r)) kids (omega arith) g.2,
      render-length s y d false c rest (omega arith) g.3,
    )

-- ---- a table of words of 32 bits and a pool of bytes

abbrev pub AreWords : List ℕ → Type 0
AreWords w = (i : ℕ) → get_or w i 0 < 2 ^ 32

take-bytes : (n : ℕ) (bs : List ℕ) → AreBytes bs → AreBytes (take n bs)
take-bytes n bs h i = go (ltb i n) refl
  where
    go : (x : Bool) → ltb i n ≡ x → get_or (take n bs) i 0 < 256
    go true e = rw (get_or-take n bs i 0 (ltb-true i n e)) (h i)
    go false e = rw (get_or-eq_default (take n bs) 0 {n = i} (omega (arith, ltb-false i n e, length-take n bs))) (omega arith)

small-value : (pool : List ℕ) (n : Node) → AreBytes pool → n.high < 2 ^ 32 → n.low < 2 ^ 32 → SmallVal (value_of pool n)
unfolding value_of run_of number_of
small-value pool n b high low = go (is_run n.kind) refl (nests n.kind) refl
  where
    go : (x : Bool) → is_run n.kind ≡ x → (z : Bool) → nests n.kind ≡ z → SmallVal (value_of pool n)
    go true e z f =
        rw (e, value_of)
        (omega (arith, length-take n.low (drop n.high pool)), take-bytes n.low (drop n.high pool) (bytes_drop n.high pool b))
    go false e true f = rw (e, f, value_of) tt
    go false e false f = rw (e, f, value_of) (omega arith)

small-rank : (n : Node) → n.field < 2 ^ 32 → rank_of n < 2 ^ 64
unfolding rank_of
small-rank n h = go (is_unknown n.kind) refl
  where
    go : (x : Bool) → is_unknown n.kind ≡ x → rank_of n < 2 ^ 64
    go true e = rw (e, rank_of) (omega arith)
    go false e = rw (e, rank_of) (omega arith)

module _ (pool w : List ℕ) (b : AreBytes pool) (words : AreWords w) where
  word_at : (i j : ℕ) → get_or (drop (5 * i) w) j 0 < 2 ^ 32
  word_at i j = rw (get_or-drop (5 * i) w j 0) (words (5 * i + j))

  small-node : (i : ℕ) → (rank_of (node_at w i) < 2 ^ 64) × SmallVal (value_of pool (node_at w i))
  unfolding node_at
  small-node i = (small-rank (node_at w i) (word_at i 1), small-value pool (node_at w i) b (word_at i 2) (word_at i 3))

  small-span : (f i e : ℕ) → e - i ≤ f → tiles w i e ≡ true → Small (values pool w i e) × (count (values pool w i e) ≤ e - i)
  unfolding count tree_of
  small-span zero i e h t = rw (forest-none w i e (omega arith)) (tt, omega arith)
  small-span (suc f) i e h t = go (ltb i e) refl (small-span f)
    where
      go : (x : Bool) → ltb i e ≡ x → ((i e : ℕ) → e - i ≤ f → tiles w i e ≡ true → Small (values pool w i e) × (count (values pool w i e) ≤ e - i))
          → Small (values pool w i e) × (count (values pool w i e) ≤ e - i)
      go true q ih =
          let less = ltb-true i e q in
          let x = tiles-parts w i e less t in
          let on = x.on in
          let inside = x.inside in
          let n = small-node i in
          let kids = ih (i + 1) (end_of w i) (omega arith) x.kids in
          let rest = ih (end_of w i) e (omega arith) x.rest in
          rw (forest-some w i e less t) ((n.0, n.1, kids.0, rest.0), omega (arith, kids.1, rest.1))
      go false q ih = rw (forest-none w i e (ltb-false i e q)) (tt, omega arith)

  -- the print of a table of so many nodes
  pub print-small : (s : List ℕ) (y : Style) (root : ℕ) → tiles w 1 (table_end w) ≡ true → table_end w ≤ 65535 → length (print_text s y root w pool) < 2 ^ 56
  unfolding print_text meaning below
  print-small s y root t few =
      let g = small-span (table_end w - 1) 1 (table_end w) (omega arith) t in
      let tr = values pool w 1 (table_end w) in
      let less = count-canon s (in_message root) tr in
      let n = g.1 in
      let l = render-length s y 0 true (in_message root) (canon s (in_message root) tr) (omega arith) (small-canon s (in_message root) tr g.0) in
      omega arith
