-- Reading under the older schema what print wrote of a body: the nodes of its values under the older schema's ranks, or the refusal
-- of the first name that the older schema lacks. One induction on the tree.
use Prim.Native.Nat.{ℕ, zero, suc, ◌+◌, ◌-◌, ◌≤◌, ◌<◌}
use native.Mathlib.Omega.{arith}
use native.Mathlib.Nat.{suc-add}
use mathlib.Core.Path.{◌≡◌, refl, sym, ap, ◌∙◌}
use mathlib.Core.Bool.{Bool, true, false, ◌||◌}
use mathlib.Core.List.{List, [], ◌∷◌, ◌++◌, append_assoc, append-nil}
use mathlib.Core.Option.{Option, none, some}
use mathlib.Core.Logic.{inl, inr}
use lib.Dec.{eqb}
use lib.ListN.{length, drop, length-append, length-drop}
use borrow.Author.Tests.{ne_eqb, lt-ltb}
use Rattle.definitions.specs.declared.Spot.{Spot}
use Rattle.definitions.specs.declared.Place.{Place}
use Rattle.definitions.specs.declared.Want.{Want}
use Rattle.definitions.specs.Basics.{when◌then◌otherwise◌, each, same}
use Rattle.definitions.specs.Refusals.{unknown_field, most_depth}
use Rattle.definitions.specs.Image.{message_count, field_name, find_field}
use Rattle.definitions.specs.Classes.{class, classes}
use Rattle.definitions.specs.Scope.{Scope, in_message, in_entry, want, within, has_field, name_in, find_in, nests, enum, body, map_entry}
use Rattle.definitions.specs.Nodes.{words}
use Rattle.definitions.specs.Integers.{runs_on}
use Rattle.definitions.specs.Live.{Val, number, run, inside, Tree, nil, node}
use Rattle.definitions.specs.Names.{name_of, value_names, knows}
use Rattle.definitions.specs.Places.{place_of}
use Rattle.definitions.specs.Loop.{Out, done, refused, Stand, Turn, stop, ahead, onward, turns, loop}
use Rattle.definitions.specs.Reading.{moved, nested, field, opened, closed, again, noted, turn_of, named, item, start, fields, under, read_body, root_want, whole}
use Rattle.definitions.specs.Print.{Style, number_text, quoted, label, lead, trail, opening, closing, value_text, render}
use Rattle.trees.specs.Laying.{rank_under, relabel, size, count, high_in, low_in, bytes_in, laid_bytes, laid_words}
use Rattle.compatibility.specs.Demand.{Spelled, spelled_at, spelled, lacking}
use Rattle.laws.proofs.Lists.{each_append}
use Rattle.trees.proofs.Accepted.{Accepted}
use Rattle.trees.proofs.Extends.{Extends}
use Rattle.trees.proofs.Scanning.{blank, drop-on, part-is, name-at, symbol-at, end-at}
use Rattle.trees.proofs.Styles.{open_gap, close_gap, opening-is, closing-is, lead-blank, trail-blank, open_gap-blank, close_gap-blank, closing-stops, value-stops, rest-stops, render-on, inside_on, value-some}
use Rattle.trees.proofs.Trees.{Pair, Sound, sound_i32, sound_i64, sound_u32, sound_u64, sound_bool, sound_enum, sound_string, sound_bytes, sound_body, sound_entry, Fits, Together, Wants, rank-small, scope-newer, Known, known, name-good}
use Rattle.compatibility.proofs.Fields.{or_miss, or_else, miss-else, ahead-miss, nested-miss, lacking-append, field_done, over-i32, over-i64, over-u32, over-u64, over-bool, over-run, over-enum, value_names-other, space}

-- ---- an entry's marks: whether its key and its value have come

abbrev pub key_noted : Scope → ℕ → Bool → Bool
key_noted (in_message m) i b = b
key_noted (in_entry g) i b = b || eqb i 0

abbrev pub value_noted : Scope → ℕ → Bool → Bool
value_noted (in_message m) i b = b
value_noted (in_entry g) i b = b || eqb i 1

abbrev pub key_after : Scope → Tree → Bool → Bool
key_after d nil b = b
key_after d (node r k v kids rest) b = key_after d rest (key_noted d r b)

abbrev pub value_after : Scope → Tree → Bool → Bool
value_after d nil b = b
value_after d (node r k v kids rest) b = value_after d rest (value_noted d r b)

noted-is : (d : Scope) (i : ℕ) (h : Stand) (q : Spot)
    → noted d i h q ≡ record { spot = q; key = key_noted d i h.key; value = value_noted d i h.value }
unfolding noted
noted-is (in_message m) i h q = refl
noted-is (in_entry g) i h q = refl

-- no `key` or `value` a second time
abbrev Fresh : Scope → ℕ → Bool → Bool → Type 0
Fresh (in_message m) i kb vb = Unit {0}
Fresh (in_entry g) i kb vb = (when eqb i 0 then (λ _. kb) otherwise λ _. vb) ≡ false

abbrev pub Room : Scope → Tree → Bool → Bool → Type 0
Room d nil kb vb = Unit {0}
Room d (node r k v kids rest) kb vb = Fresh d r kb vb × Room d rest (key_noted d r kb) (value_noted d r vb)

fresh-again : (d : Scope) (i : ℕ) (h : Stand) → Fresh d i h.key h.value → again d i h ≡ false
unfolding again
fresh-again (in_message m) i h f = refl
fresh-again (in_entry g) i h f = f

pub room-message : (m : ℕ) (t : Tree) (kb vb : Bool) → Room (in_message m) t kb vb
room-message m nil kb vb = tt
room-message m (node r k v kids rest) kb vb = (tt, room-message m rest kb vb)

-- a body that may be closed: an entry has its key and its value
abbrev Full : Scope → Bool → Bool → Type 0
Full (in_message m) kb vb = Unit {0}
Full (in_entry g) kb vb = (kb ≡ true) × (vb ≡ true)

closes : (deep : Bool) (O : List ℕ) (d : Scope) (at : Place) (n : ℕ) (h : Stand) → Full d h.key h.value
    → closed deep O d at n h ≡ done (moved n h.spot) [] []
unfolding closed
closes deep O (in_message m) at n h f = refl
closes deep O (in_entry g) at n h f = rw (f.0, f.1)

-- an entry that has its key, then its value, is read as such
module _ (N O : List ℕ) (g h : ℕ) where
  rank-key : rank_under N O (in_entry g) (in_entry h) 0 ≡ 0
  unfolding rank_under find_in name_in same
  rank-key = refl

  rank-value : rank_under N O (in_entry g) (in_entry h) 1 ≡ 1
  unfolding rank_under find_in name_in same
  rank-value = refl

  room-entry : (t : Tree) → Pair t → Room (in_entry h) (relabel N O (in_entry g) (in_entry h) t) false false
  unfolding relabel
  room-entry nil p = absurd p
  room-entry (node a k v t nil) p = absurd p
  room-entry (node a k v t (node b l u s nil)) p = rw (p.0, p.1, rank-key, rank-value) (refl, (refl, tt))
  room-entry (node a k v t (node b l u s (node e i m n o))) p = absurd p

  full-entry : (t : Tree) → Pair t
      → (key_after (in_entry h) (relabel N O (in_entry g) (in_entry h) t) false ≡ true)
      × (value_after (in_entry h) (relabel N O (in_entry g) (in_entry h) t) false ≡ true)
  unfolding relabel
  full-entry nil p = absurd p
  full-entry (node a k v t nil) p = absurd p
  full-entry (node a k v t (node b l u s nil)) p = rw (p.0, p.1, rank-key, rank-value) (refl, refl)
  full-entry (node a k v t (node b l u s (node e i m n o))) p = absurd p

-- ---- outcomes

ahead-ahead : (w v b c : List ℕ) (o : Out) → ahead w b (ahead v c o) ≡ ahead (w ++ v) (b ++ c) o
ahead-ahead w v b c (done q u e) = rw (append_assoc w v u, append_assoc b c e) refl
ahead-ahead w v b c (refused why at) = refl

ahead_none : (o : Out) → o ≡ ahead [] [] o
ahead_none (done q v c) = refl
ahead_none (refused why at) = refl

turn-miss : (text : List ℕ) (d : Scope) (j : ℕ) (h : Stand) (rest : Stand → Out) (m : Option Spelled) (q : Spot) (w b : List ℕ)
    → onward rest (turn_of d j h (or_miss text m (done q w b))) ≡ or_miss text m (ahead w b (rest (noted d j h q)))
turn-miss text d j h rest none q w b = refl
turn-miss text d j h rest (some x) q w b = refl

else-assoc : (a b e : Option Spelled) → or_else a (or_else b e) ≡ or_else (or_else a b) e
else-assoc none b e = refl
else-assoc (some i) b e = refl

-- a body's fields take at least a byte each
count-render : (s : List ℕ) (y : Style) (d : ℕ) (first : Bool) (c : Scope) (t : Tree) → count t ≤ length (render s y d first c t)
unfolding count render
count-render s y d first c nil = omega arith
count-render s y d first c (node r k v kids rest) =
    let h = count-render s y d false c rest in
    let m = value-some s y d (want s c r) k v (render s y (d + 1) true (within (want s c r)) kids) in
    simp length-append (omega arith)

-- ---- reading on over a body

module _ (N O s : List ℕ) (y : Style) where
  abbrev pub turn : ℕ → ℕ → Scope → Stand → Turn
  turn left closer d = item (under left O s) (eqb left 0) O s d closer

  -- where reading stands after the values u, up to a place
  abbrev pub stand_after : Scope → Tree → Stand → ℕ → Stand
  stand_after d u h at =
      record {
        spot = record { at = at; node = h.spot.node + size u; byte = h.spot.byte + length (laid_bytes u) };
        key = key_after d u h.key;
        value = value_after d u h.value;
      }

  -- from h on over n fields that make the values u, unless m is lacking: reading goes on before what follows, k, and blanks;
  -- k begins at the place `at`
  pub record On (left : ℕ) (d : Scope) (closer : ℕ) (h : Stand) (n : ℕ) (u : Tree) (m : Option Spelled) (at : ℕ) (k : List ℕ) : Type 0 where
    pub end : ℕ
    pub gap : List ℕ
    pub blanks : each blank gap ≡ true
    pub follows : drop end s ≡ gap ++ k
    pub place : end + length gap ≡ at
    pub reading : (f : ℕ)
        → turns (n + f) (turn left closer d) h
        ≡ or_miss s m (ahead (laid_words u h.spot.node h.spot.byte) (laid_bytes u) (turns f (turn left closer d) (stand_after d u h end)))

  abbrev pub Body : Tree → Type 0
  Body t =
      (left dp : ℕ) (first : Bool) (c d : Scope) (closer : ℕ) (h : Stand) (g k : List ℕ)
      → Together N O c d → Fits N left c t → Room d (relabel N O c d t) h.key h.value → (1 ≡ closer → ⊥) → each blank g ≡ true
      → runs_on k ≡ false
      → drop h.spot.at s ≡ g ++ (render N y dp first c t ++ k)
      → On left d closer h (count t) (relabel N O c d t) (lacking O (spelled N y dp first c t (h.spot.at + length g)))
      (h.spot.at + length g + length (render N y dp first c t)) k

  nil-case : Body nil
  unfolding relabel size count laid_bytes laid_words render spelled lacking
  nil-case left dp first c d closer h g k t f r nc b st e =
      record {
        end = h.spot.at;
        gap = g;
        blanks = b;
        follows = e;
        place = omega arith;
        reading = λ f.
            let z : 0 + f ≡ f = omega arith in
            let n : h.spot.node + 0 ≡ h.spot.node = omega arith in
            let m : h.spot.byte + 0 ≡ h.spot.byte = omega arith in
            rw (z, n, m) (ahead_none (turns f (turn left closer d) h));
      }

  count_fits : (t : Tree) (dp : ℕ) (first : Bool) (c : Scope) (g k : List ℕ) (at : ℕ) → drop at s ≡ g ++ (render N y dp first c t ++ k)
      → count t ≤ length s
  count_fits t dp first c g k at e =
      let h = count-render N y dp first c t in
      let l : length s - at ≡ length g + (length (render N y dp first c t) + length k) = sym (length-drop at s) ∙ ap length e ∙ simp length-append in
      omega arith

  under_some : (left : ℕ) (w : Want) (at : Place) (closer : ℕ) (q : Spot) → 1 ≤ left
      → under left O s w at closer q ≡ turns (suc (length s)) (turn (left - 1) closer (within w)) (start q)
  unfolding under fields loop
  under_some zero w at closer q h = absurd (omega arith)
  under_some (suc left) w at closer q h = let e : suc left - 1 ≡ left = omega arith in rw e

  -- a body that is read and closed
  body-closes : (left dp : ℕ) (d : Scope) (h : Stand) (u : Tree) (m : Option Spelled) (at n : ℕ) (z : List ℕ)
      → On left d 125 h n u m at (close_gap y dp ++ (125 ∷ z)) → Full d (key_after d u h.key) (value_after d u h.value) → n ≤ length s
      → turns (suc (length s)) (turn left 125 d) h
      ≡ or_miss s m
      (done (record { at = at + length (close_gap y dp) + 1; node = h.spot.node + size u; byte = h.spot.byte + length (laid_bytes u) })
      (laid_words u h.spot.node h.spot.byte) (laid_bytes u))
  unfolding turns item class classes
  body-closes left dp d h u m at n z on full fits =
      let f : ℕ = length s - n in
      let e : suc (length s) ≡ n + suc f = omega arith in
      let ws = laid_words u h.spot.node h.spot.byte in
      let g = on.gap ++ close_gap y dp in
      let d₁ : drop on.end s ≡ (on.gap ++ close_gap y dp) ++ (125 ∷ z) = on.follows ∙ sym (append_assoc on.gap (close_gap y dp) (125 ∷ z)) in
      let tok = symbol-at s g z on.end 125 d₁ (each_append blank on.gap (close_gap y dp) on.blanks (close_gap-blank y dp)) refl in
      let p : on.end + length (on.gap ++ close_gap y dp) + 1 ≡ at + length (close_gap y dp) + 1 =
      omega (arith, on.place, length-append on.gap (close_gap y dp)) in
      let last : turns (suc f) (turn left 125 d) (stand_after d u h on.end)
      ≡ done (moved (at + length (close_gap y dp) + 1) (stand_after d u h on.end).spot) [] [] =
      rw (tok, p) (closes (eqb left 0) O d _ (at + length (close_gap y dp) + 1) (stand_after d u h on.end) full) in
      ap (λ (i : ℕ). turns i (turn left 125 d) h) e ∙ on.reading (suc f)
      ∙ ap (or_miss s m) (ap (ahead ws (laid_bytes u)) last ∙ rw (append-nil ws, append-nil (laid_bytes u)))

  abbrev Pairs : Scope → Tree → Type 0
  Pairs (in_message m) t = Unit {0}
  Pairs (in_entry g) t = Pair t

  room_within : (c d : Scope) (t : Tree) → Together N O c d → Pairs c t → Room d (relabel N O c d t) false false
  room_within (in_message m) (in_message l) t g p = room-message l (relabel N O (in_message m) (in_message l) t) false false
  room_within (in_message m) (in_entry h) t g p = absurd g
  room_within (in_entry g) (in_message l) t e p = absurd e
  room_within (in_entry g) (in_entry h) t e p = room-entry N O g h t p

  full-within : (c d : Scope) (t : Tree) → Together N O c d → Pairs c t
      → Full d (key_after d (relabel N O c d t) false) (value_after d (relabel N O c d t) false)
  full-within (in_message m) (in_message l) t g p = tt
  full-within (in_message m) (in_entry h) t g p = absurd g
  full-within (in_entry g) (in_message l) t e p = absurd e
  full-within (in_entry g) (in_entry h) t e p = full-entry N O g h t p

  -- what is read inside an opener, as a field
  nested-done : (v : Want) (q : Spot) (k r at : ℕ) (u : Tree) → v.kind ≡ k → v.field ≡ r
      → nested v
      (done (record { at = at; node = q.node + 1 + size u; byte = q.byte + length (laid_bytes u) }) (laid_words u (q.node + 1) q.byte)
      (laid_bytes u))
      ≡ field_done k r q at inside u
  nested-done v q k r at u e f = let z : q.byte + 0 ≡ q.byte = omega arith in rw (e, f, z)

  over-inside : (w v : Want) (kids : Tree) (q : Spot) (k r left dp : ℕ) (z : List ℕ)
      → Wants N O w v → k ≡ w.kind → v.field ≡ r → nests w.kind ≡ true → 1 ≤ left → Pairs (within w) kids → Fits N (left - 1) (within w) kids
      → Body kids
      → drop q.at s ≡ opening y ++ (render N y (dp + 1) true (within w) kids ++ closing y dp) ++ z
      → field (under left O s) O s v q
      ≡ or_miss s (lacking O (spelled N y (dp + 1) true (within w) kids (q.at + length (opening y))))
      (field_done k r q (q.at + length (opening y ++ (render N y (dp + 1) true (within w) kids ++ closing y dp))) inside
      (relabel N O (within w) (within v) kids))
  unfolding field opened class classes
  over-inside w v kids q k r left dp z wants ek er ns lv ps fits ih e =
      let R = render N y (dp + 1) true (within w) kids in
      let u = relabel N O (within w) (within v) kids in
      let q₂ : Spot = record { at = q.at + 1 + 1; node = q.node + 1; byte = q.byte } in
      let after : List ℕ = close_gap y dp ++ (125 ∷ z) in
      let e₀ : drop q.at s ≡ 32 ∷ 123 ∷ (open_gap y ++ (R ++ after)) = e ∙ inside_on y dp R z in
      let e₂ : drop (q.at + 1 + 1) s ≡ open_gap y ++ (R ++ after) =
      drop-on s (123 ∷ []) (open_gap y ++ (R ++ after)) (q.at + 1) (drop-on s (32 ∷ []) (123 ∷ (open_gap y ++ (R ++ after))) q.at e₀) in
      let tok = symbol-at s (32 ∷ []) (open_gap y ++ (R ++ after)) q.at 123 e₀ space refl in
      let together = wants.inner ns in
      let on =
      ih (left - 1) (dp + 1) true (within w) (within v) 125 (start q₂) (open_gap y) after together fits
      (room_within (within w) (within v) kids together ps) (λ i. absurd (omega arith)) (open_gap-blank y) (closing-stops y dp z) e₂ in
      let closed_is =
      body-closes (left - 1) dp (within v) (start q₂) u _ _ (count kids) z on (full-within (within w) (within v) kids together ps)
      (count_fits kids (dp + 1) true (within w) (open_gap y) after (q.at + 1 + 1) e₂) in
      let at₁ : q.at + 1 + 1 + length (open_gap y) ≡ q.at + length (opening y) = rw (opening-is y) (omega arith) in
      let at₂ : q.at + 1 + 1 + length (open_gap y) + length R + length (close_gap y dp) + 1 ≡ q.at + length (opening y ++ (R ++ closing y dp)) =
      omega (
        arith,
        length-append (opening y) (R ++ closing y dp),
        length-append R (closing y dp),
        ap length (opening-is y),
        ap length (closing-is y dp),
        length-append (close_gap y dp) (125 ∷ []),
      )
      in
      let first : field (under left O s) O s v q ≡ nested v (under left O s v (place_of s (q.at + 1)) 125 q₂) =
      rw (wants.kind, ns, tok) in
      first
      ∙ ap (nested v) (under_some left v (place_of s (q.at + 1)) 125 q₂ lv ∙ (rw (at₂, at₁) at closed_is))
      ∙ nested-miss s v (lacking O (spelled N y (dp + 1) true (within w) kids (q.at + length (opening y)))) _
      ∙ ap (or_miss s (lacking O (spelled N y (dp + 1) true (within w) kids (q.at + length (opening y)))))
      (nested-done v q k r (q.at + length (opening y ++ (R ++ closing y dp))) u (wants.kind ∙ sym ek) er)

  module _ (ok_n : Accepted N) (ok_o : Accepted O) (x : Extends N O) where
    -- what is lacking in a value and inside it, from behind its field's name on
    abbrev lacking_in : Want → (k : ℕ) → Val → Tree → (at dp : ℕ) → Option Spelled
    lacking_in w k u kids at dp =
        or_else (lacking O (spelled_at (at + 2) (value_names N w k u))) (lacking O (spelled N y (dp + 1) true (within w) kids (at + length (opening y))))

    -- none is lacking in a value that is neither an enum's nor a body
    lacking-leaf : (w : Want) (k : ℕ) (u : Val) (at dp : ℕ) → eqb k enum ≡ false → lacking_in w k u nil at dp ≡ none
    unfolding lacking spelled
    lacking-leaf w k u at dp e = rw (value_names-other N w k u e)

    leaf : (w v : Want) (u : Val) (q : Spot) (k r left dp : ℕ) (t : List ℕ) → eqb k enum ≡ false
        → field (under left O s) O s v q ≡ field_done k r q (q.at + length t) u nil
        → field (under left O s) O s v q
        ≡ or_miss s (lacking_in w k u nil q.at dp) (field_done k r q (q.at + length t) u (relabel N O (within w) (within v) nil))
    unfolding relabel
    leaf w v u q k r left dp t e h = rw (lacking-leaf w k u q.at dp e) h

    else-none : (m : Option Spelled) → m ≡ or_else m none
    else-none none = refl
    else-none (some x) = refl

    enum-case : (w v : Want) (n : ℕ) (q : Spot) (k r left dp : ℕ) (t : List ℕ)
        → field (under left O s) O s v q
        ≡ or_miss s (lacking O (spelled_at (q.at + 2) (value_names N w k (number n)))) (field_done k r q (q.at + length t) (number n) nil)
        → field (under left O s) O s v q
        ≡ or_miss s (lacking_in w k (number n) nil q.at dp) (field_done k r q (q.at + length t) (number n) (relabel N O (within w) (within v) nil))
    unfolding lacking spelled relabel
    enum-case w v n q k r left dp t h = rw (← else-none (lacking O (spelled_at (q.at + 2) (value_names N w k (number n))))) h

    inside-case : (w v : Want) (kids : Tree) (q : Spot) (k r left dp : ℕ) (t : List ℕ) (u : Tree) → eqb k enum ≡ false
        → field (under left O s) O s v q
        ≡ or_miss s (lacking O (spelled N y (dp + 1) true (within w) kids (q.at + length (opening y)))) (field_done k r q (q.at + length t) inside u)
        → field (under left O s) O s v q ≡ or_miss s (lacking_in w k inside kids q.at dp) (field_done k r q (q.at + length t) inside u)
    unfolding lacking
    inside-case w v kids q k r left dp t u e h = rw (value_names-other N w k inside e) h

    pairs-body : (w : Want) (t : Tree) → w.kind ≡ body → Pairs (within w) t
    unfolding within
    pairs-body w t e = rw e tt

    pairs-entry : (w : Want) (t : Tree) → w.kind ≡ map_entry → Pair t → Pairs (within w) t
    unfolding within
    pairs-entry w t e p = rw e p

    over-value : (w v : Want) (u : Val) (kids : Tree) (q : Spot) (k r left dp : ℕ) (z : List ℕ)
        → Wants N O w v → k ≡ w.kind → v.field ≡ r → Sound N left w u kids → Fits N (left - 1) (within w) kids → Body kids → runs_on z ≡ false
        → drop q.at s ≡ value_text N y dp w k u (render N y (dp + 1) true (within w) kids) ++ z
        → field (under left O s) O s v q
        ≡ or_miss s (lacking_in w k u kids q.at dp)
        (field_done k r q (q.at + length (value_text N y dp w k u (render N y (dp + 1) true (within w) kids))) u
        (relabel N O (within w) (within v) kids))
    over-value w v u kids q k r left dp z wants ek er (sound_i32 {n = n} e h) fits ih st d =
        leaf w v (number n) q k r left dp (58 ∷ 32 ∷ number_text N w k n) (rw (ek ∙ e) refl)
        (over-i32 N O s (under left O s) w v q k r z (wants.kind ∙ sym ek) er st n (ek ∙ e) h d)
    over-value w v u kids q k r left dp z wants ek er (sound_i64 {n = n} e h) fits ih st d =
        leaf w v (number n) q k r left dp (58 ∷ 32 ∷ number_text N w k n) (rw (ek ∙ e) refl)
        (over-i64 N O s (under left O s) w v q k r z (wants.kind ∙ sym ek) er st n (ek ∙ e) h d)
    over-value w v u kids q k r left dp z wants ek er (sound_u32 {n = n} e h) fits ih st d =
        leaf w v (number n) q k r left dp (58 ∷ 32 ∷ number_text N w k n) (rw (ek ∙ e) refl)
        (over-u32 N O s (under left O s) w v q k r z (wants.kind ∙ sym ek) er st n (ek ∙ e) h d)
    over-value w v u kids q k r left dp z wants ek er (sound_u64 {n = n} e h) fits ih st d =
        leaf w v (number n) q k r left dp (58 ∷ 32 ∷ number_text N w k n) (rw (ek ∙ e) refl)
        (over-u64 N O s (under left O s) w v q k r z (wants.kind ∙ sym ek) er st n (ek ∙ e) h d)
    over-value w v u kids q k r left dp z wants ek er (sound_bool {n = n} e h) fits ih st d =
        leaf w v (number n) q k r left dp (58 ∷ 32 ∷ number_text N w k n) (rw (ek ∙ e) refl)
        (over-bool N O s (under left O s) w v q k r z (wants.kind ∙ sym ek) er st n (ek ∙ e) h d)
    over-value w v u kids q k r left dp z wants ek er (sound_enum {n = n} e i f b) fits ih st d =
        enum-case w v n q k r left dp (58 ∷ 32 ∷ number_text N w k n)
        (over-enum N O s ok_n ok_o x (under left O s) w v q k r z wants ek er st n i (ek ∙ e) f b d)
    over-value w v u kids q k r left dp z wants ek er (sound_string {bs = bs} e b c) fits ih st d =
        leaf w v (run bs) q k r left dp (58 ∷ 32 ∷ quoted bs) (rw (ek ∙ e) refl)
        (over-run N O s (under left O s) w v q k r z (wants.kind ∙ sym ek) er st bs (inl (ek ∙ e)) b (rw (ek ∙ e, c) refl) d)
    over-value w v u kids q k r left dp z wants ek er (sound_bytes {bs = bs} e b) fits ih st d =
        leaf w v (run bs) q k r left dp (58 ∷ 32 ∷ quoted bs) (rw (ek ∙ e) refl)
        (over-run N O s (under left O s) w v q k r z (wants.kind ∙ sym ek) er st bs (inr (ek ∙ e)) b (rw (ek ∙ e) refl) d)
    over-value w v u kids q k r left dp z wants ek er (sound_body {t = t} e l) fits ih st d =
        inside-case w v t q k r left dp (opening y ++ (render N y (dp + 1) true (within w) t ++ closing y dp)) (relabel N O (within w) (within v) t)
        (rw (ek ∙ e) refl) (over-inside w v t q k r left dp z wants ek er (rw e refl) l (pairs-body w t e) fits ih d)
    over-value w v u kids q k r left dp z wants ek er (sound_entry {t = t} e l p) fits ih st d =
        inside-case w v t q k r left dp (opening y ++ (render N y (dp + 1) true (within w) t ++ closing y dp)) (relabel N O (within w) (within v) t)
        (rw (ek ∙ e) refl) (over-inside w v t q k r left dp z wants ek er (rw e refl) l (pairs-entry w t e p) fits ih d)

    -- ---- a field's name

    rank-known : (c d : Scope) (r : ℕ) → Together N O c d → has_field N c r ≡ true → r < 4096
    rank-known c d r t has = rank-small N ok_n c r (scope-newer N O ok_n ok_o x c d t) has

    label_is : (c d : Scope) (r : ℕ) → Together N O c d → has_field N c r ≡ true → label N c r ≡ name_in N c r
    unfolding label
    label_is c d r t has = rw (lt-ltb r 4096 (rank-known c d r t has))

    lacks-name : (c d : Scope) (r p : ℕ) → Together N O c d → has_field N c r ≡ true → find_in O d (name_in N c r) ≡ none
        → (m : Option Spelled) (o : Out)
        → or_miss s (or_else (lacking O (spelled_at p (name_of N c r))) m) o ≡ refused unknown_field (place_of s p)
    unfolding find_in name_in name_of lacking knows same
    lacks-name (in_message m) (in_message l) r p t has e a o =
        let f : find_field O m (field_name N r) ≡ none = (rw (← t.0) at e) in
        rw (lt-ltb r 4096 (rank-known (in_message m) (in_message l) r t has), f)
    lacks-name (in_message m) (in_entry h) r p t has e a o = absurd t
    lacks-name (in_entry g) (in_message l) r p t has e a o = absurd t
    lacks-name (in_entry g) (in_entry h) r p t has e a o = go (eqb r 0) refl
      where
        go : (b : Bool) → eqb r 0 ≡ b → or_miss s a o ≡ refused unknown_field (place_of s p)
        go true q = let z : ◌≡◌ {A = Option ℕ} (some 0) none = (rw (q, name_in) at e) in let i : ◌≡◌ {A = ℕ} 0 1 = cc in absurd (omega arith)
        go false q = let z : ◌≡◌ {A = Option ℕ} (some 1) none = (rw (q, name_in) at e) in let i : ◌≡◌ {A = ℕ} 0 1 = cc in absurd (omega arith)

    knows-name : (c d : Scope) (r j p : ℕ) → Together N O c d → has_field N c r ≡ true → find_in O d (name_in N c r) ≡ some j
        → lacking O (spelled_at p (name_of N c r)) ≡ none
    unfolding find_in name_in name_of lacking knows
    knows-name (in_message m) (in_message l) r j p t has e =
        let f : find_field O m (field_name N r) ≡ some j = (rw (← t.0) at e) in
        rw (lt-ltb r 4096 (rank-known (in_message m) (in_message l) r t has), f)
    knows-name (in_message m) (in_entry h) r j p t has e = absurd t
    knows-name (in_entry g) (in_message l) r j p t has e = absurd t
    knows-name (in_entry g) (in_entry h) r j p t has e = refl

    -- ---- a field, and the fields after it

    module _ (r k : ℕ) (u : Val) (kids rest : Tree) (left dp : ℕ) (first : Bool) (c d : Scope) (closer : ℕ) (h : Stand) (g z : List ℕ)
        (together : Together N O c d) (fits : Fits N left c (node r k u kids rest)) (no_name : 1 ≡ closer → ⊥) (blanks : each blank g ≡ true)
        (stops : runs_on z ≡ false)
        (text : drop h.spot.at s ≡ g ++ (render N y dp first c (node r k u kids rest) ++ z)) where
      abbrev w : Want
      w = want N c r

      abbrev T : Stand → Turn
      T = turn left closer d

      abbrev R : List ℕ
      R = render N y (dp + 1) true (within w) kids

      abbrev VT : List ℕ
      VT = value_text N y dp w k u R

      abbrev Z : List ℕ
      Z = trail y ++ (render N y dp false c rest ++ z)

      abbrev name : List ℕ
      name = name_in N c r

      -- where the name begins
      abbrev p : ℕ
      p = h.spot.at + length g + length (lead y dp first)

      abbrev W : Tree
      W = node r k u kids rest

      text-is : drop h.spot.at s ≡ (g ++ lead y dp first) ++ (name ++ (VT ++ Z))
      text-is =
          text
          ∙ ap (λ (l : List ℕ). g ++ l)
          (render-on N y dp first c r k u kids rest z ∙ ap (λ (l : List ℕ). lead y dp first ++ (l ++ (VT ++ Z))) (label_is c d r together fits.0))
          ∙ sym (append_assoc g (lead y dp first) (name ++ (VT ++ Z)))

      p-is : h.spot.at + length (g ++ lead y dp first) ≡ p
      p-is = omega (arith, length-append g (lead y dp first))

      at_name : drop p s ≡ name ++ (VT ++ Z)
      at_name = rw p-is at (drop-on s (g ++ lead y dp first) (name ++ (VT ++ Z)) h.spot.at text-is)

      after-name : drop (p + length name) s ≡ VT ++ Z
      after-name = drop-on s name (VT ++ Z) p at_name

      after-value : drop (p + length name + length VT) s ≡ Z
      after-value = drop-on s VT Z (p + length name) after-name

      item-is : T h ≡ named (under left O s) O s d h (place_of s p) (p + length name) (find_in O d name)
      unfolding item
      item-is =
          let tok =
          name-at s (g ++ lead y dp first) name (VT ++ Z) h.spot.at text-is
          (each_append blank g (lead y dp first) blanks (lead-blank y dp first)) (name-good N O ok_n ok_o x c d r together fits.0)
          (value-stops N y dp w k u R Z) in
          rw (tok, p-is, ne_eqb 1 closer no_name, part-is s name (VT ++ Z) p at_name)

      length-is : p + length name + length VT + length (trail y) + length (render N y dp false c rest)
          ≡ h.spot.at + length g + length (render N y dp first c W)
      unfolding render
      length-is = rw (← label_is c d r together fits.0) (simp length-append (omega arith))

      -- what is lacking in the rest
      abbrev lacking_rest : Option Spelled
      lacking_rest = lacking O (spelled N y dp false c rest (p + length name + length VT + length (trail y)))

      lacking-is : lacking O (spelled N y dp first c W (h.spot.at + length g))
          ≡ or_else (lacking O (spelled_at p (name_of N c r))) (or_else (lacking_in w k u kids (p + length name) dp) lacking_rest)
      unfolding spelled
      lacking-is =
          rw (label_is c d r together fits.0)
          (lacking-append O (spelled_at p (name_of N c r)) _
          ∙ ap (or_else (lacking O (spelled_at p (name_of N c r))))
          (lacking-append O (spelled_at (p + length name + 2) (value_names N w k u)) _
          ∙ ap (or_else (lacking O (spelled_at (p + length name + 2) (value_names N w k u))))
          (lacking-append O (spelled N y (dp + 1) true (within w) kids (p + length name + length (opening y))) _)
          ∙ else-assoc (lacking O (spelled_at (p + length name + 2) (value_names N w k u)))
          (lacking O (spelled N y (dp + 1) true (within w) kids (p + length name + length (opening y)))) lacking_rest))

      -- what follows the whole, where the name is lacking
      all-text : drop (h.spot.at + length g + length (render N y dp first c W)) s ≡ z
      all-text = drop-on s (render N y dp first c W) z (h.spot.at + length g) (drop-on s g (render N y dp first c W ++ z) h.spot.at text)

      lacking-case : find_in O d name ≡ none
          → On left d closer h (count W) (relabel N O c d W) (lacking O (spelled N y dp first c W (h.spot.at + length g)))
          (h.spot.at + length g + length (render N y dp first c W)) z
      unfolding count turns each
      lacking-case none_is =
          record {
            end = h.spot.at + length g + length (render N y dp first c W);
            gap = [];
            blanks = refl;
            follows = all-text;
            place = omega arith;
            reading = λ f. reading f;
          }
        where
          reading : (f : ℕ)
              → turns (suc (count rest) + f) T h
              ≡ or_miss s (lacking O (spelled N y dp first c W (h.spot.at + length g)))
              (ahead (laid_words (relabel N O c d W) h.spot.node h.spot.byte) (laid_bytes (relabel N O c d W))
              (turns f T (stand_after d (relabel N O c d W) h (h.spot.at + length g + length (render N y dp first c W)))))
          reading f =
              let it : T h ≡ stop (refused unknown_field (place_of s p)) = item-is ∙ rw none_is in
              let go : turns (suc (count rest + f)) T h ≡ refused unknown_field (place_of s p) = ap (onward (turns (count rest + f) T)) it in
              ap (λ (i : ℕ). turns i T h) (suc-add (count rest) f)
              ∙ go
              ∙ sym (rw lacking-is (lacks-name c d r p together fits.0 none_is (or_else (lacking_in w k u kids (p + length name) dp) lacking_rest) _))

      module _ (ih_kids : Body kids) (ih_rest : Body rest) (j : ℕ) (some_is : find_in O d name ≡ some j)
          (room : Room d (relabel N O c d W) h.key h.value) where
        abbrev v : Want
        v = want O d j

        abbrev kids' : Tree
        kids' = relabel N O (within w) (within v) kids

        abbrev rest' : Tree
        rest' = relabel N O c d rest

        -- where reading stands behind the name, and behind the value
        abbrev q₁ : Spot
        q₁ = moved (p + length name) h.spot

        abbrev q₂ : Spot
        q₂ =
            record
            { at = p + length name + length VT; node = h.spot.node + 1 + size kids'; byte = h.spot.byte + length (bytes_in u) + length (laid_bytes kids') }

        abbrev h₂ : Stand
        h₂ = record { spot = q₂; key = key_noted d j h.key; value = value_noted d j h.value }

        known_is : Known N O ok_n ok_o x c d r j
        known_is = known N O ok_n ok_o x c d r j together fits.0 some_is

        relabel-is : relabel N O c d W ≡ node j k u kids' rest'
        unfolding relabel rank_under
        relabel-is = rw some_is

        room-is : Fresh d j h.key h.value × Room d rest' (key_noted d j h.key) (value_noted d j h.value)
        room-is = rw relabel-is at room

        value-is : field (under left O s) O s v q₁
            ≡ or_miss s (lacking_in w k u kids (p + length name) dp) (field_done k j q₁ (p + length name + length VT) u kids')
        value-is =
            over-value w v u kids q₁ k j left dp Z known_is.0 fits.1 known_is.2 fits.2 fits.3 ih_kids (rest-stops N y dp c rest z stops)
            after-name

        on-rest : On left d closer h₂ (count rest) rest' lacking_rest
            (p + length name + length VT + length (trail y) + length (render N y dp false c rest)) z
        on-rest = ih_rest left dp false c d closer h₂ (trail y) z together fits.4 room-is.1 no_name (trail-blank y) stops after-value

        turn_is : T h ≡ turn_of d j h (field (under left O s) O s v q₁)
        turn_is = item-is ∙ rw (some_is, fresh-again d j h room-is.0)

        lacking-some : lacking O (spelled N y dp first c W (h.spot.at + length g)) ≡ or_else (lacking_in w k u kids (p + length name) dp) lacking_rest
        lacking-some = lacking-is ∙ rw (knows-name c d r j p together fits.0 some_is)

        stand-is : (e : ℕ) → stand_after d rest' h₂ e ≡ stand_after d (node j k u kids' rest') h e
        unfolding size laid_bytes
        stand-is e =
            let n : h.spot.node + 1 + size kids' + size rest' ≡ h.spot.node + suc (size kids' + size rest') = omega arith in
            let b : h.spot.byte + length (bytes_in u) + length (laid_bytes kids') + length (laid_bytes rest')
            ≡ h.spot.byte + length (bytes_in u ++ (laid_bytes kids' ++ laid_bytes rest')) =
            omega (arith, length-append (bytes_in u) (laid_bytes kids' ++ laid_bytes rest'), length-append (laid_bytes kids') (laid_bytes rest')) in
            rw (n, b)

        abbrev words₁ : List ℕ
        words₁ =
            words (record { kind = k; field = j; high = high_in u h.spot.byte; low = low_in u; end = h.spot.node + 1 + size kids' })
            ++ laid_words kids' (h.spot.node + 1) (h.spot.byte + length (bytes_in u))

        abbrev bytes₁ : List ℕ
        bytes₁ = bytes_in u ++ laid_bytes kids'

        -- the words and bytes of the field and of the rest are those of both
        laid-is : (o : Out)
            → ahead (words₁ ++ laid_words rest' q₂.node q₂.byte) (bytes₁ ++ laid_bytes rest') o
            ≡ ahead (laid_words (node j k u kids' rest') h.spot.node h.spot.byte) (laid_bytes (node j k u kids' rest')) o
        unfolding laid_words laid_bytes
        laid-is o = rw (append_assoc (bytes_in u) (laid_bytes kids') (laid_bytes rest'))

        reading-is : (f : ℕ) → turns (suc (count rest) + f) T h
            ≡ or_miss s (or_else (lacking_in w k u kids (p + length name) dp) lacking_rest)
            (ahead (laid_words (node j k u kids' rest') h.spot.node h.spot.byte) (laid_bytes (node j k u kids' rest'))
            (turns f T (stand_after d (node j k u kids' rest') h on-rest.end)))
        unfolding turns
        reading-is f =
            let m₂ = lacking_in w k u kids (p + length name) dp in
            let X : Out = turns f T (stand_after d rest' h₂ on-rest.end) in
            let step : turns (suc (count rest + f)) T h
            ≡ onward (turns (count rest + f) T) (turn_of d j h (or_miss s m₂ (field_done k j q₁ (p + length name + length VT) u kids'))) =
            ap (onward (turns (count rest + f) T)) (turn_is ∙ ap (turn_of d j h) value-is) in
            let tail : turns (count rest + f) T (noted d j h q₂)
            ≡ or_miss s lacking_rest (ahead (laid_words rest' q₂.node q₂.byte) (laid_bytes rest') X) =
            ap (turns (count rest + f) T) (noted-is d j h q₂) ∙ on-rest.reading f in
            ap (λ (i : ℕ). turns i T h) (suc-add (count rest) f)
            ∙ step
            ∙ turn-miss s d j h (turns (count rest + f) T) m₂ q₂ words₁ bytes₁
            ∙ ap (or_miss s m₂)
            (ap (ahead words₁ bytes₁) tail
            ∙ ahead-miss s words₁ bytes₁ lacking_rest _
            ∙ ap (or_miss s lacking_rest) (ahead-ahead words₁ (laid_words rest' q₂.node q₂.byte) bytes₁ (laid_bytes rest') X ∙ laid-is X))
            ∙ miss-else s m₂ lacking_rest _
            ∙ ap
            (λ (a : Stand). or_miss s (or_else m₂ lacking_rest)
            (ahead (laid_words (node j k u kids' rest') h.spot.node h.spot.byte) (laid_bytes (node j k u kids' rest')) (turns f T a)))
            (stand-is on-rest.end)

        known-case : On left d closer h (count W) (relabel N O c d W) (lacking O (spelled N y dp first c W (h.spot.at + length g)))
            (h.spot.at + length g + length (render N y dp first c W)) z
        unfolding count
        known-case =
            rw (relabel-is, lacking-some)
            (record {
              end = on-rest.end;
              gap = on-rest.gap;
              blanks = on-rest.blanks;
              follows = on-rest.follows;
              place = on-rest.place ∙ length-is;
              reading = reading-is;
            })

    node-case : (r k : ℕ) (u : Val) (kids rest : Tree) → Body kids → Body rest → Body (node r k u kids rest)
    node-case r k u kids rest ih_kids ih_rest left dp first c d closer h g z together fits room no_name blanks stops text =
        go (find_in O d (name_in N c r)) refl
      where
        go : (o : Option ℕ) → find_in O d (name_in N c r) ≡ o
            → On left d closer h (count (node r k u kids rest)) (relabel N O c d (node r k u kids rest))
            (lacking O (spelled N y dp first c (node r k u kids rest) (h.spot.at + length g)))
            (h.spot.at + length g + length (render N y dp first c (node r k u kids rest))) z
        go none e = lacking-case r k u kids rest left dp first c d closer h g z together fits no_name blanks stops text e
        go (some j) e = known-case r k u kids rest left dp first c d closer h g z together fits no_name blanks stops text ih_kids ih_rest j e room

    pub over-body : (t : Tree) → Body t
    over-body nil = nil-case
    over-body (node r k u kids rest) = node-case r k u kids rest (over-body kids) (over-body rest)

-- ---- the whole text

pub over-whole : (N O : List ℕ) (y : Style) → Accepted N → Accepted O → Extends N O → (root : ℕ) (t : Tree) → root < message_count O
    → Fits N most_depth (in_message root) t
    → let s = render N y 0 true (in_message root) t in
    let u = relabel N O (in_message root) (in_message root) t in
    whole O root s
    ≡ or_miss s (lacking O (spelled N y 0 true (in_message root) t 0))
    (done (record { at = length s; node = 1 + size u; byte = length (laid_bytes u) })
    (words (record { kind = body; field = 0; high = 0; low = 0; end = 1 + size u }) ++ laid_words u 1 0) (laid_bytes u))
unfolding whole read_body fields loop turns item each runs_on
over-whole N O y ok_n ok_o x root t here fits =
    let s = render N y 0 true (in_message root) t in
    let c : Scope = in_message root in
    let u = relabel N O c c t in
    let q₀ : Spot = record { at = 0; node = 1; byte = 0 } in
    let text : drop 0 s ≡ [] ++ (s ++ []) = sym (append-nil s) in
    let on =
    over-body N O s y ok_n ok_o x t most_depth 0 true c c 0 (start q₀) [] [] (refl, here) fits (room-message root u false false)
    (λ i. absurd (omega arith)) refl refl text in
    let n : ℕ = count t in
    let f : ℕ = length s - n in
    let e : suc (length s) ≡ n + suc f = omega (arith, count_fits N s s y t 0 true c [] [] 0 text) in
    let ws = laid_words u 1 0 in
    let p : on.end + length on.gap ≡ length s = omega (arith, on.place) in
    let T = turn N O s y most_depth 0 c in
    let z : 0 + length (laid_bytes u) ≡ length (laid_bytes u) = omega arith in
    let last : turns (suc f) T (stand_after N O s y c u (start q₀) on.end)
    ≡ done (record { at = length s; node = 1 + size u; byte = length (laid_bytes u) }) [] [] =
    rw (end-at s on.gap on.end on.follows on.blanks, p, z) (closes (eqb most_depth 0) O c _ (length s) _ tt) in
    let D : Out = done (record { at = length s; node = 1 + size u; byte = length (laid_bytes u) }) ws (laid_bytes u) in
    let ended : ahead ws (laid_bytes u) (turns (suc f) T (stand_after N O s y c u (start q₀) on.end)) ≡ D =
    ap (ahead ws (laid_bytes u)) last ∙ rw (append-nil ws, append-nil (laid_bytes u)) in
    let m = lacking O (spelled N y 0 true c t 0) in
    let body_is : turns (suc (length s)) T (start q₀) ≡ or_miss s m D =
    ap (λ (i : ℕ). turns i T (start q₀)) e ∙ on.reading (suc f) ∙ ap (or_miss s m) ended in
    ap (nested (root_want root)) body_is ∙ nested-miss s (root_want root) m D
