-- Why a refused read points into its text: every place that reading hands on is that of a token, and a token's place is the text's.
use mathlib.Core.Path.{◌≡◌, refl}
use Prim.Native.Nat.{ℕ, zero, suc, ◌+◌, ◌-◌, ◌≤◌, ◌<◌}
use mathlib.Core.Bool.{Bool, true, false, ◌&&◌, ◌||◌, not}
use mathlib.Core.List.{List, [], ◌∷◌}
use mathlib.Core.Option.{Option, none, some}
use native.Mathlib.Omega.{arith}
use lib.Dec.{leb, eqb}
use lib.ListN.{length, drop}
use Rattle.definitions.specs.declared.Place.{Place}
use Rattle.definitions.specs.declared.Spot.{Spot}
use Rattle.definitions.specs.declared.Token.{Token}
use Rattle.definitions.specs.declared.Want.{Want}
use Rattle.definitions.specs.Basics.{same, part}
use Rattle.definitions.specs.Refusals.{most_depth}
use Rattle.definitions.specs.Image.{find_member}
use Rattle.definitions.specs.Scope.{Scope, in_message, in_entry, want, within, find_in, nests, i32, i64, u32, u64, bool, string, byte_string, enum, body}
use Rattle.definitions.specs.Classes.{class, quote_class, symbol_class, digit_class, letter_class}
use Rattle.definitions.specs.Utf8.{utf8}
use Rattle.definitions.specs.Integers.{integer_length, runs_on, integer_value, most_unsigned, most_signed}
use Rattle.definitions.specs.Places.{place_of}
use Rattle.definitions.specs.Tokens.{Scan, token, bad, inside, integer_scan, string_scan, scan_from, skip, scan, end_of_text, name_token, integer_token, string_token, minus, colon}
use Rattle.definitions.specs.Strings.{decode}
use Rattle.definitions.specs.Loop.{Out, done, refused, Stand, Turn, stop, more, ahead, onward, turns, loop}
use Rattle.definitions.specs.Reading.{moved, nested, Child, opens, closer_of, integer_tok, unsigned, negated, signed_tok, signed_value, true_name, false_name, bool_tok, bool_value, member_found, enum_tok, enum_value, decoded, string_tok, string_value, scalar, colon_tok, after_name, opener_tok, opened, field, default, joined, unless, default_value, closed, again, turn_of, named, item_tok, item, start, fields, under, read_body, root_want, whole}
use Rattle.laws.proofs.Reach.{by-test, reach, skip-le}
use Rattle.laws.proofs.Loop.{Forward}
use Rattle.laws.proofs.Goes.{ChildGoes, under_goes, item-forward}
use Rattle.read_valid.specs.Told.{Points}

-- ---- the place of a token

abbrev Starts : Place → Scan → Type 0
Starts p (token t n) = t.start ≡ p
Starts p (bad q) = q ≡ p

integer-starts : (p : Place) (b : ℕ) (bs : List ℕ) → Starts p (integer_scan p b bs)
unfolding integer_scan
integer-starts p b bs = by-test (Starts p) (runs_on (drop (integer_length b bs) (b ∷ bs))) _ _ (λ _. refl) (λ _. refl)

string-starts : (p : Place) (o : Option ℕ) → Starts p (string_scan p o)
string-starts p none = refl
string-starts p (some n) = refl

starts : (p : Place) (bs : List ℕ) → Starts p (scan_from p bs)
unfolding scan_from
starts p [] = refl
starts p (b ∷ bs) =
    by-test (Starts p) (eqb (class b) letter_class) _ _ (λ _. refl) (λ _.
    by-test (Starts p) (eqb (class b) digit_class) _ _ (λ _. integer-starts p b bs) (λ _.
    by-test (Starts p) (eqb (class b) quote_class) _ _ (λ _. string-starts p (inside b false bs)) (λ _.
    by-test (Starts p) (eqb (class b) symbol_class) _ _ (λ _. refl) (λ _. refl))))

module _ (s : List ℕ) where
  points : (k : ℕ) (p : Place) → k ≤ length s → p ≡ place_of s k → Points s p
  points k p h e = rw e (record { is = refl; inside = h })

  -- what is made of the token at an offset, by cases
  by_place : {A : Type 0} (P : A → Type 0) (at : ℕ) → at ≤ length s → (f : Scan → A) → ((p : Place) → Points s p → P (f (bad p)))
      → ((t : Token) (n : ℕ) → n ≤ length s → Points s t.start → P (f (token t n))) → P (f (scan s at))
  unfolding scan
  by_place P at h f poor good = go (scan s at) refl (starts (place_of s (skip s at)) (drop (skip s at) s))
    where
      go : (r : Scan) → scan s at ≡ r → Starts (place_of s (skip s at)) r → P (f r)
      go (bad p) e x = poor p (points (skip s at) p (skip-le s at h) x)
      go (token t n) e x = good t n (reach s at t n h e).within (points (skip s at) t.start (skip-le s at h) x)

  -- ---- a fault of the text

  abbrev pub Faults : Out → Type 0
  Faults (done q w b) = Unit {0}
  Faults (refused why p) = (4 ≤ why) × (why ≤ 12) × Points s p

  -- ---- scalars

  integer-faults : (w : Want) (negative : Bool) (most : ℕ) (q : Spot) (t : Token) (n : ℕ) → Points s t.start → Faults (integer_tok s w negative most q (token t n))
  integer-faults w negative most q t n x =
      by-test Faults (eqb t.kind integer_token) _ _
      (λ _. by-test Faults (leb (integer_value (part s t.start.offset n)) most) _ _ (λ _. tt) (λ _. (omega arith, omega arith, x)))
      (λ _. (omega arith, omega arith, x))

  unsigned-faults : (w : Want) (width : ℕ) (q : Spot) → q.at ≤ length s → Faults (unsigned s w width q)
  unfolding unsigned
  unsigned-faults w width q h =
      by_place Faults q.at h (integer_tok s w false (most_unsigned width) q) (λ p x. (omega arith, omega arith, x))
      (λ t n l x. integer-faults w false (most_unsigned width) q t n x)

  negated-faults : (w : Want) (width : ℕ) (q : Spot) → q.at ≤ length s → Faults (negated s w width q)
  unfolding negated
  negated-faults w width q h =
      by_place Faults q.at h (integer_tok s w true (most_signed width true) q) (λ p x. (omega arith, omega arith, x))
      (λ t n l x. integer-faults w true (most_signed width true) q t n x)

  signed-faults : (w : Want) (width : ℕ) (q : Spot) → q.at ≤ length s → Faults (signed_value s w width q)
  unfolding signed_value
  signed-faults w width q h =
      by_place Faults q.at h (signed_tok s w width q) (λ p x. (omega arith, omega arith, x)) (λ t n l x.
      by-test Faults (eqb t.kind minus) _ _ (λ _. negated-faults w width (moved n q) l) (λ _. integer-faults w false (most_signed width false) q t n x))

  bool-faults : (w : Want) (q : Spot) → q.at ≤ length s → Faults (bool_value s w q)
  unfolding bool_value
  bool-faults w q h =
      by_place Faults q.at h (bool_tok s w q) (λ p x. (omega arith, omega arith, x)) (λ t n l x.
      by-test Faults (eqb t.kind name_token && same true_name (part s t.start.offset n)) _ _ (λ _. tt) (λ _.
      by-test Faults (eqb t.kind name_token && same false_name (part s t.start.offset n)) _ _ (λ _. tt) (λ _. (omega arith, omega arith, x))))

  member-faults : (schema : List ℕ) (w : Want) (q : Spot) (p : Place) (n : ℕ) (o : Option ℕ) → Points s p → Faults (member_found schema w q p n o)
  member-faults schema w q p n none x = (omega arith, omega arith, x)
  member-faults schema w q p n (some i) x = tt

  enum-faults : (schema : List ℕ) (w : Want) (q : Spot) → q.at ≤ length s → Faults (enum_value schema s w q)
  unfolding enum_value
  enum-faults schema w q h =
      by_place Faults q.at h (enum_tok schema s w q) (λ p x. (omega arith, omega arith, x)) (λ t n l x.
      by-test Faults (eqb t.kind name_token) _ _
      (λ _. member-faults schema w q t.start n (find_member schema w.reference (part s t.start.offset n)) x)
      (λ _. (omega arith, omega arith, x)))

  decoded-faults : (w : Want) (q : Spot) (p : Place) (n : ℕ) (o : Option (List ℕ)) → Points s p → Faults (decoded w q p n o)
  decoded-faults w q p n none x = (omega arith, omega arith, x)
  decoded-faults w q p n (some bs) x = by-test Faults (eqb w.kind string && not (utf8 bs)) _ _ (λ _. (omega arith, omega arith, x)) (λ _. tt)

  string-faults : (w : Want) (q : Spot) → q.at ≤ length s → Faults (string_value s w q)
  unfolding string_value
  string-faults w q h =
      by_place Faults q.at h (string_tok s w q) (λ p x. (omega arith, omega arith, x)) (λ t n l x.
      by-test Faults (eqb t.kind string_token) _ _
      (λ _. decoded-faults w q t.start n (decode (part s (t.start.offset + 1) (n - 1))) x)
      (λ _. (omega arith, omega arith, x)))

  scalar-faults : (schema : List ℕ) (w : Want) (q : Spot) → q.at ≤ length s → Faults (scalar schema s w q)
  unfolding scalar
  scalar-faults schema w q h =
      by-test Faults (eqb w.kind i32) _ _ (λ _. signed-faults w 32 q h) (λ _.
      by-test Faults (eqb w.kind i64) _ _ (λ _. signed-faults w 64 q h) (λ _.
      by-test Faults (eqb w.kind u32) _ _ (λ _. unsigned-faults w 32 q h) (λ _.
      by-test Faults (eqb w.kind u64) _ _ (λ _. unsigned-faults w 64 q h) (λ _.
      by-test Faults (eqb w.kind bool) _ _ (λ _. bool-faults w q h) (λ _.
      by-test Faults (eqb w.kind enum) _ _ (λ _. enum-faults schema w q h) (λ _. string-faults w q h))))))

  colon-faults : (schema : List ℕ) (w : Want) (q : Spot) → q.at ≤ length s → Faults (after_name schema s w q)
  unfolding after_name
  colon-faults schema w q h =
      by_place Faults q.at h (colon_tok schema s w q) (λ p x. (omega arith, omega arith, x)) (λ t n l x.
      by-test Faults (eqb t.kind colon) _ _ (λ _. scalar-faults schema w (moved n q) l) (λ _. (omega arith, omega arith, x)))

  -- ---- messages and entries

  abbrev ChildFaults : Child → Type 0
  ChildFaults child = (w : Want) (at : Place) (closer : ℕ) (q : Spot) → Points s at → q.at ≤ length s → Faults (child w at closer q)

  nested-faults : (w : Want) (o : Out) → Faults o → Faults (nested w o)
  nested-faults w (done q ws bs) x = tt
  nested-faults w (refused why p) x = x

  opened-faults : (child : Child) → ChildFaults child → (w : Want) (q : Spot) → q.at ≤ length s → Faults (opened child s w q)
  unfolding opened
  opened-faults child ih w q h =
      by_place Faults q.at h (opener_tok child w q) (λ p x. (omega arith, omega arith, x)) (λ t n l x.
      by-test Faults (opens w.kind t.kind) _ _
      (λ _.
      let p : Spot = record { at = n; node = q.node + 1; byte = q.byte } in
      nested-faults w (child w t.start (closer_of t.kind) p) (ih w t.start (closer_of t.kind) p x l))
      (λ _. (omega arith, omega arith, x)))

  field-faults : (child : Child) → ChildFaults child → (schema : List ℕ) (w : Want) (q : Spot) → q.at ≤ length s → Faults (field child schema s w q)
  unfolding field
  field-faults child ih schema w q h =
      by-test Faults (nests w.kind) _ _ (λ _. opened-faults child ih w q h) (λ _. colon-faults schema w q h)

  default-faults : (schema : List ℕ) (w : Want) (q : Spot) → Faults (default schema w q)
  unfolding default
  default-faults schema w q =
      by-test Faults (eqb w.kind string || eqb w.kind byte_string) _ _ (λ _. tt) (λ _.
      by-test Faults (eqb w.kind enum) _ _ (λ _. tt) (λ _. tt))

  value-faults : (deep : Bool) (p : Place) → Points s p → (schema : List ℕ) (w : Want) (q : Spot) → Faults (default_value deep p schema w q)
  unfolding default_value
  value-faults deep p x schema w q =
      by-test Faults (deep && eqb w.kind body) _ _ (λ _. (omega arith, omega arith, x)) (λ _. default-faults schema w q)

  unless-faults : (there : Bool) (make : Spot → Out) → ((q : Spot) → Faults (make q)) → (q : Spot) → Faults (unless there make q)
  unless-faults true make x q = tt
  unless-faults false make x q = x q

  ahead-faults : (w b : List ℕ) (o : Out) → Faults o → Faults (ahead w b o)
  ahead-faults w b (done q v c) x = tt
  ahead-faults w b (refused why p) x = x

  joined-faults : (o : Out) (rest : Spot → Out) → Faults o → ((q : Spot) → Faults (rest q)) → Faults (joined o rest)
  joined-faults (done q w b) rest x y = ahead-faults w b (rest q) (y q)
  joined-faults (refused why p) rest x y = x

  closed-faults : (deep : Bool) (schema : List ℕ) (c : Scope) (p : Place) (n : ℕ) (h : Stand) → Points s p → Faults (closed deep schema c p n h)
  unfolding closed
  closed-faults deep schema (in_message m) p n h x = tt
  closed-faults deep schema (in_entry g) p n h x =
      let key : Spot → Out = default schema (want schema (in_entry g) 0) in
      let value : Spot → Out = default_value deep p schema (want schema (in_entry g) 1) in
      joined-faults (unless h.key key (moved n h.spot)) (unless h.value value)
      (unless-faults h.key key (default-faults schema (want schema (in_entry g) 0)) (moved n h.spot))
      (unless-faults h.value value (value-faults deep p x schema (want schema (in_entry g) 1)))

  -- ---- turns

  abbrev Turned : Turn → Type 0
  Turned (stop o) = Faults o
  Turned (more h w b) = Unit {0}

  turn-faults : (c : Scope) (i : ℕ) (h : Stand) (o : Out) → Faults o → Turned (turn_of c i h o)
  turn-faults c i h (done q w b) x = tt
  turn-faults c i h (refused why p) x = x

  module _ (child : Child) (deep : Bool) (schema : List ℕ) (ih : ChildFaults child) (c : Scope) (closer : ℕ) where
    named-faults : (h : Stand) (p : Place) (n : ℕ) → n ≤ length s → Points s p → (o : Option ℕ) → Turned (named child schema s c h p n o)
    named-faults h p n l x none = (omega arith, omega arith, x)
    named-faults h p n l x (some i) =
        by-test Turned (again c i h) _ _ (λ _. (omega arith, omega arith, x))
        (λ _. turn-faults c i h (field child schema s (want schema c i) (moved n h.spot)) (field-faults child ih schema (want schema c i) (moved n h.spot) l))

    item-faults : (h : Stand) → h.spot.at ≤ length s → Turned (item child deep schema s c closer h)
    unfolding item
    item-faults h i =
        by_place Turned h.spot.at i (item_tok child deep schema s c closer h) (λ p x. (omega arith, omega arith, x)) (λ t n l x.
        by-test Turned (eqb t.kind closer) _ _ (λ _. closed-faults deep schema c t.start n h x) (λ _.
        by-test Turned (eqb t.kind name_token) _ _
        (λ _. named-faults h t.start n l x (find_in schema c (part s t.start.offset n)))
        (λ _. (omega arith, omega arith, x))))

  -- turns that go forward, as many as there is text for
  turns-faults : (turn : Stand → Turn) → Forward (length s) turn → ((h : Stand) → h.spot.at ≤ length s → Turned (turn h))
      → (f : ℕ) (h : Stand) → h.spot.at ≤ length s → length s - h.spot.at < f → Faults (turns f turn h)
  unfolding turns
  turns-faults turn on x zero h i l = absurd (omega arith)
  turns-faults turn on x (suc f) h i l =
      go (turn h) refl (x h i) (λ k y. turns-faults turn on x f k y.1 (omega (arith, y.0, y.1)))
    where
      go : (t : Turn) → turn h ≡ t → Turned t
          → ((k : Stand) → (h.spot.at < k.spot.at) × (k.spot.at ≤ length s) → Faults (turns f turn k))
          → Faults (onward (turns f turn) t)
      go (stop o) e y ih = y
      go (more k w b) e y ih = ahead-faults w b (turns f turn k) (ih k (on h k w b i e))

  fields-faults : (child : Child) (deep : Bool) (schema : List ℕ) → ChildGoes s child → ChildFaults child → (c : Scope) (closer : ℕ) (q : Spot)
      → q.at ≤ length s → Faults (fields child deep schema s c closer q)
  unfolding fields loop
  fields-faults child deep schema g ih c closer q h =
      turns-faults (item child deep schema s c closer) (item-forward child deep schema s g c closer) (item-faults child deep schema ih c closer)
      (suc (length s)) (start q) h (omega arith)

  under-faults : (left : ℕ) (schema : List ℕ) → ChildFaults (under left schema s)
  unfolding under
  under-faults zero schema w at closer q x h = (omega arith, omega arith, x)
  under-faults (suc left) schema w at closer q x h =
      fields-faults (under left schema s) (eqb left 0) schema (under_goes left schema s) (under-faults left schema) (within w) closer q h

  pub whole-faults : (schema : List ℕ) (root : ℕ) → Faults (whole schema root s)
  unfolding whole read_body
  whole-faults schema root =
      nested-faults (root_want root) (read_body most_depth schema s (in_message root) end_of_text (record { at = 0; node = 1; byte = 0 }))
      (fields-faults (under most_depth schema s) (eqb most_depth 0) schema (under_goes most_depth schema s) (under-faults most_depth schema)
      (in_message root) end_of_text (record { at = 0; node = 1; byte = 0 }) (omega arith))
