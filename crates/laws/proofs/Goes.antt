-- How far a reading goes: on in the text and inside it; its words and bytes add up to its counts, five words a node; and it
-- makes no more nodes and no more pool bytes than the text has bytes.
use mathlib.Core.Path.{◌≡◌, refl, sym, ◌∙◌}
use Prim.Native.Nat.{ℕ, zero, suc, ◌+◌, ◌-◌, ◌*◌, ◌≤◌, ◌<◌}
use mathlib.Core.Bool.{Bool, true, false, ◌&&◌, ◌||◌, not}
use mathlib.Core.List.{List, [], ◌++◌}
use mathlib.Core.Option.{Option, none, some}
use native.Mathlib.Omega.{arith}
use lib.Dec.{eqb, leb}
use lib.ListN.{length, drop, length-append, length-take}
use borrow.Author.Tests.{eqb-true}
use Rattle.definitions.specs.declared.Spot.{Spot}
use Rattle.definitions.specs.declared.Place.{Place}
use Rattle.definitions.specs.declared.Token.{Token}
use Rattle.definitions.specs.declared.Want.{Want}
use Rattle.definitions.specs.Basics.{same, part}
use Rattle.definitions.specs.Refusals.{most_depth}
use Rattle.definitions.specs.Image.{enumeration, member, find_member}
use Rattle.definitions.specs.Scope.{Scope, in_message, in_entry, want, within, find_in, nests, i32, i64, u32, u64, bool, string, byte_string, enum, body}
use Rattle.definitions.specs.Nodes.{high_of, low_of, widen}
use Rattle.definitions.specs.Utf8.{utf8}
use Rattle.definitions.specs.Integers.{integer_value, most_unsigned, most_signed, signed}
use Rattle.definitions.specs.Strings.{decode}
use Rattle.definitions.specs.Tokens.{token, end_of_text, name_token, integer_token, string_token, minus, colon, open_brace}
use Rattle.definitions.specs.Loop.{Out, done, refused, Stand, Turn, stop, more, ahead, onward, turns, loop}
use Rattle.definitions.specs.Reading.{moved, leaf, number_leaf, nested, integer_tok, unsigned, negated, signed_tok, signed_value, true_name, false_name, bool_tok, bool_value, member_found, enum_tok, enum_value, decoded, string_tok, string_value, scalar, colon_tok, after_name, Child, opens, closer_of, opener_tok, opened, field, default, joined, unless, default_value, closed, again, noted, turn_of, named, item_tok, item, start, fields, under, read_body, root_want, whole}
use Rattle.laws.proofs.Loop.{Forward, loop-is}
use Rattle.laws.proofs.Reach.{Reach, by-test, by-scan}
use Rattle.laws.proofs.Lists.{and_parts}
use Rattle.laws.proofs.Decoding.{decode-length}

-- ---- how far

-- from the spot q to the spot p, with the words w and the bytes v: at least `least` bytes of text are taken, and at most `spare`
-- nodes are made beyond the bytes taken
pub record Went (least spare : ℕ) (s : List ℕ) (q p : Spot) (w v : List ℕ) : Type 0 where
  pub on : q.at + least ≤ p.at
  pub inside : p.at ≤ length s
  pub words : length w + 5 * q.node ≡ 5 * p.node
  pub bytes : length v + q.byte ≡ p.byte
  pub few : p.node + q.at ≤ q.node + p.at + spare
  pub thin : p.byte + q.at ≤ q.byte + p.at

-- the same of what reading gives from the spot q on; a refusal says nothing
pub record Goes (least spare : ℕ) (s : List ℕ) (q : Spot) (o : Out) : Type 0 where
  pub went : (p : Spot) (w v : List ℕ) → o ≡ done p w v → Went least spare s q p w v

pub goes-refused : {k e : ℕ} {s : List ℕ} {q : Spot} {why : ℕ} {at : Place} → Goes k e s q (refused why at)
goes-refused = record { went = λ p w v x. let z : ◌≡◌ {A = ℕ} 0 1 = cc in absurd (omega arith) }

pub goes-done : {k e : ℕ} {s : List ℕ} {q p : Spot} {w v : List ℕ} → Went k e s q p w v → Goes k e s q (done p w v)
goes-done {p = p₁} {w = w₁} {v = v₁} g = record {
  went = λ p w v x.
      let ep : p₁ ≡ p = cc in
      let ew : w₁ ≡ w = cc in
      let ev : v₁ ≡ v = cc in
      rw (← ep, ← ew, ← ev) g;
}

-- from a spot before
pub earlier : {k e j d : ℕ} {s : List ℕ} {q : Spot} {o : Out} (n : ℕ) → q.at ≤ n → q.at + j ≤ n + k → q.at + e ≤ n + d
    → Goes k e s (moved n q) o → Goes j d s q o
earlier n h hk he g = record {
  went = λ p w v x.
      let i = g.went p w v x in
      record {
        on = omega (arith, i.on);
        inside = i.inside;
        words = i.words;
        bytes = i.bytes;
        few = omega (arith, i.few);
        thin = omega (arith, i.thin);
      };
}

-- less said
pub weaker : {k e j d : ℕ} {s : List ℕ} {q : Spot} {o : Out} → j ≤ k → e ≤ d → Goes k e s q o → Goes j d s q o
weaker {q = q} hj hd g = earlier q.at (omega arith) (omega arith) (omega arith) g

-- one after another
pub both : {j d k e : ℕ} {s : List ℕ} {q p r : Spot} {w x v y : List ℕ} → Went j d s q p w v → Went k e s p r x y
    → Went (j + k) (d + e) s q r (w ++ x) (v ++ y)
both {w = w} {x = x} {v = v} {y = y} g i =
    record {
      on = omega (arith, g.on, i.on);
      inside = i.inside;
      words = omega (arith, g.words, i.words, length-append w x);
      bytes = omega (arith, g.bytes, i.bytes, length-append v y);
      few = omega (arith, g.few, i.few);
      thin = omega (arith, g.thin, i.thin);
    }

pub ahead-goes : {j d k e : ℕ} {s : List ℕ} {q p : Spot} {w v : List ℕ} (o : Out) → Went j d s q p w v → Goes k e s p o
    → Goes (j + k) (d + e) s q (ahead w v o)
ahead-goes (refused why at) g h = goes-refused
ahead-goes (done r x y) g h = goes-done (both g (h.went r x y refl))

pub joined-goes : {k e j d : ℕ} {s : List ℕ} {q : Spot} (o : Out) (rest : Spot → Out) → Goes j d s q o
    → ((p : Spot) → p.at ≤ length s → Goes k e s p (rest p)) → Goes (j + k) (d + e) s q (joined o rest)
joined-goes (refused why at) rest g h = goes-refused
joined-goes (done p w v) rest g h = let i = g.went p w v refl in ahead-goes (rest p) i (h p i.inside)

-- a message or an entry, around what was read from the place n on
pub nested_goes : {k e j d : ℕ} {s : List ℕ} (w : Want) (q : Spot) (n : ℕ) (o : Out) → q.at ≤ n → q.at + j ≤ n + k → q.at + 1 + e ≤ n + d
    → Goes k e s (record { at = n; node = q.node + 1; byte = q.byte }) o → Goes j d s q (nested w o)
nested_goes w q n (refused why at) h hk he g = goes-refused
nested_goes w q n (done p x y) h hk he g =
    let i = g.went p x y refl in
    goes-done
    (record {
      on = omega (arith, i.on);
      inside = i.inside;
      words = omega (arith, i.words);
      bytes = i.bytes;
      few = omega (arith, i.few);
      thin = omega (arith, i.thin);
    })

-- a node with none below it, up to the place n
pub leaf-goes : {k e : ℕ} (s : List ℕ) (w : Want) (q : Spot) (n high low : ℕ) (pool : List ℕ)
    → q.at + k ≤ n → n ≤ length s → 1 + q.at ≤ n + e → length pool + q.at ≤ n → Goes k e s q (leaf w q n high low pool)
leaf-goes s w q n high low pool h i f t =
    goes-done (record { on = h; inside = i; words = omega arith; bytes = omega arith; few = omega arith; thin = omega arith })

-- ---- integers

number-goes : (s : List ℕ) (w : Want) (q : Spot) (n v : ℕ) → q.at < n → n ≤ length s → Goes 1 0 s q (number_leaf w q n v)
number-goes s w q n v h i = leaf-goes s w q n (high_of v) (low_of v) [] (omega arith) i (omega arith) (omega arith)

pub integer_tok-goes : (s : List ℕ) (w : Want) (negative : Bool) (most : ℕ) (q : Spot) (t : Token) (n : ℕ) → Reach s q.at t n
    → Goes 1 0 s q (integer_tok s w negative most q (token t n))
integer_tok-goes s w negative most q t n r =
    by-test (Goes 1 0 s q) (eqb t.kind integer_token) _ _
    (λ y. by-test (Goes 1 0 s q) (leb (integer_value (part s t.start.offset n)) most) _ _ (λ _. fits y) (λ _. goes-refused))
    (λ _. goes-refused)
  where
    fits : eqb t.kind integer_token ≡ true
        → Goes 1 0 s q (number_leaf w q n (signed negative (integer_value (part s t.start.offset n))))
    fits y =
        let k = eqb-true t.kind integer_token y in
        number-goes s w q n (signed negative (integer_value (part s t.start.offset n)))
        (omega (arith, r.from, r.falls (λ z. omega arith))) r.within

pub unsigned-goes : (s : List ℕ) (w : Want) (width : ℕ) (q : Spot) → q.at ≤ length s → Goes 1 0 s q (unsigned s w width q)
unfolding unsigned
unsigned-goes s w width q h =
    by-scan (Goes 1 0 s q) s q.at h (integer_tok s w false (most_unsigned width) q) (λ p _. goes-refused)
    (integer_tok-goes s w false (most_unsigned width) q)

pub negated-goes : (s : List ℕ) (w : Want) (width : ℕ) (q : Spot) → q.at ≤ length s → Goes 1 0 s q (negated s w width q)
unfolding negated
negated-goes s w width q h =
    by-scan (Goes 1 0 s q) s q.at h (integer_tok s w true (most_signed width true) q) (λ p _. goes-refused)
    (integer_tok-goes s w true (most_signed width true) q)

pub signed_value-goes : (s : List ℕ) (w : Want) (width : ℕ) (q : Spot) → q.at ≤ length s → Goes 1 0 s q (signed_value s w width q)
unfolding signed_value
signed_value-goes s w width q h = by-scan (Goes 1 0 s q) s q.at h (signed_tok s w width q) (λ p _. goes-refused) good
  where
    good : (t : Token) (n : ℕ) → Reach s q.at t n → Goes 1 0 s q (signed_tok s w width q (token t n))
    good t n r =
        let on : q.at ≤ n = omega (arith, r.from, r.start) in
        by-test (Goes 1 0 s q) (eqb t.kind minus) _ _
        (λ _. earlier n on (omega arith) (omega arith) (negated-goes s w width (moved n q) r.within))
        (λ _. integer_tok-goes s w false (most_signed width false) q t n r)

-- ---- bools and enums

-- a name token is not empty
name-falls : (s : List ℕ) (at : ℕ) (t : Token) (n : ℕ) → Reach s at t n → eqb t.kind name_token ≡ true → at < n
name-falls s at t n r y = let k = eqb-true t.kind name_token y in omega (arith, r.from, r.falls (λ z. omega arith))

pub bool_value-goes : (s : List ℕ) (w : Want) (q : Spot) → q.at ≤ length s → Goes 1 0 s q (bool_value s w q)
unfolding bool_value
bool_value-goes s w q h = by-scan (Goes 1 0 s q) s q.at h (bool_tok s w q) (λ p _. goes-refused) good
  where
    good : (t : Token) (n : ℕ) → Reach s q.at t n → Goes 1 0 s q (bool_tok s w q (token t n))
    good t n r =
        by-test (Goes 1 0 s q) (eqb t.kind name_token && same true_name (part s t.start.offset n)) _ _
        (λ y. number-goes s w q n 1 (name-falls s q.at t n r (and_parts _ _ y).0) r.within)
        (λ _.
        by-test (Goes 1 0 s q) (eqb t.kind name_token && same false_name (part s t.start.offset n)) _ _
        (λ y. number-goes s w q n 0 (name-falls s q.at t n r (and_parts _ _ y).0) r.within)
        (λ _. goes-refused))

pub enum_value-goes : (schema s : List ℕ) (w : Want) (q : Spot) → q.at ≤ length s → Goes 1 0 s q (enum_value schema s w q)
unfolding enum_value
enum_value-goes schema s w q h = by-scan (Goes 1 0 s q) s q.at h (enum_tok schema s w q) (λ p _. goes-refused) good
  where
    found : (t : Token) (n : ℕ) → q.at < n → n ≤ length s → (o : Option ℕ) → Goes 1 0 s q (member_found schema w q t.start n o)
    found t n h i none = goes-refused
    found t n h i (some m) = number-goes s w q n (widen (member schema m).number) h i

    good : (t : Token) (n : ℕ) → Reach s q.at t n → Goes 1 0 s q (enum_tok schema s w q (token t n))
    good t n r =
        by-test (Goes 1 0 s q) (eqb t.kind name_token) _ _
        (λ y.
        found t n (name-falls s q.at t n r y) r.within (find_member schema w.reference (part s t.start.offset n)))
        (λ _. goes-refused)

-- ---- strings and bytes

pub part-le : (s : List ℕ) (a e : ℕ) → length (part s a e) ≤ e - a
part-le s a e = omega (arith, length-take (e - a) (drop a s))

pub string_value-goes : (s : List ℕ) (w : Want) (q : Spot) → q.at ≤ length s → Goes 1 0 s q (string_value s w q)
unfolding string_value
string_value-goes s w q h = by-scan (Goes 1 0 s q) s q.at h (string_tok s w q) (λ p _. goes-refused) good
  where
    found : (t : Token) (n : ℕ) → q.at < n → n ≤ length s → (o : Option (List ℕ)) → ((x : List ℕ) → o ≡ some x → length x + q.at ≤ n)
        → Goes 1 0 s q (decoded w q t.start n o)
    found t n h i none f = goes-refused
    found t n h i (some x) f =
        by-test (Goes 1 0 s q) (eqb w.kind string && not (utf8 x)) _ _ (λ _. goes-refused)
        (λ _. leaf-goes s w q n q.byte (length x) x (omega arith) i (omega arith) (f x refl))

    good : (t : Token) (n : ℕ) → Reach s q.at t n → Goes 1 0 s q (string_tok s w q (token t n))
    good t n r =
        by-test (Goes 1 0 s q) (eqb t.kind string_token) _ _
        (λ y.
        let two = r.quotes (eqb-true t.kind string_token y) in
        let a : ℕ = t.start.offset + 1 in
        found t n (omega (arith, r.from)) r.within (decode (part s a (n - 1)))
        (λ x z. omega (arith, r.from, decode-length (part s a (n - 1)) x z, part-le s a (n - 1))))
        (λ _. goes-refused)

-- ---- scalars

pub scalar-goes : (schema s : List ℕ) (w : Want) (q : Spot) → q.at ≤ length s → Goes 1 0 s q (scalar schema s w q)
unfolding scalar
scalar-goes schema s w q h =
    by-test (Goes 1 0 s q) (eqb w.kind i32) _ _ (λ _. signed_value-goes s w 32 q h) (λ _.
    by-test (Goes 1 0 s q) (eqb w.kind i64) _ _ (λ _. signed_value-goes s w 64 q h) (λ _.
    by-test (Goes 1 0 s q) (eqb w.kind u32) _ _ (λ _. unsigned-goes s w 32 q h) (λ _.
    by-test (Goes 1 0 s q) (eqb w.kind u64) _ _ (λ _. unsigned-goes s w 64 q h) (λ _.
    by-test (Goes 1 0 s q) (eqb w.kind bool) _ _ (λ _. bool_value-goes s w q h) (λ _.
    by-test (Goes 1 0 s q) (eqb w.kind enum) _ _ (λ _. enum_value-goes schema s w q h) (λ _.
    string_value-goes s w q h))))))

-- the colon and a value
pub after_name-goes : (schema s : List ℕ) (w : Want) (q : Spot) → q.at ≤ length s → Goes 2 0 s q (after_name schema s w q)
unfolding after_name
after_name-goes schema s w q h = by-scan (Goes 2 0 s q) s q.at h (colon_tok schema s w q) (λ p _. goes-refused) good
  where
    good : (t : Token) (n : ℕ) → Reach s q.at t n → Goes 2 0 s q (colon_tok schema s w q (token t n))
    good t n r =
        by-test (Goes 2 0 s q) (eqb t.kind colon) _ _
        (λ y.
        let k = eqb-true t.kind colon y in
        let on : q.at < n = omega (arith, r.from, r.falls (λ z. omega arith)) in
        earlier n (omega arith) (omega arith) (omega arith) (scalar-goes schema s w (moved n q) r.within))
        (λ _. goes-refused)

-- ---- messages and entries

-- what reads inside takes its closer at least; an entry's defaults are one node more than the closer has bytes
abbrev pub ChildGoes : List ℕ → Child → Type 0
ChildGoes s child =
    (w : Want) (at : Place) (closer : ℕ) (q : Spot) → (closer ≡ end_of_text → ⊥) → q.at ≤ length s → Goes 1 1 s q (child w at closer q)

closer-some : (k : ℕ) → closer_of k ≡ end_of_text → ⊥
closer-some k = by-test (λ (n : ℕ). n ≡ end_of_text → ⊥) (eqb k open_brace) _ _ (λ _ e. omega arith) (λ _ e. omega arith)

opener-some : (kind k : ℕ) → opens kind k ≡ true → k ≡ end_of_text → ⊥
opener-some kind k h e = go (eqb kind body) (rw e at h)
  where
    go : (t : Bool) → t && false ≡ true → ⊥
    go true h = let z : ◌≡◌ {A = ℕ} 0 1 = cc in omega arith
    go false h = let z : ◌≡◌ {A = ℕ} 0 1 = cc in omega arith

pub opened-goes : (child : Child) (s : List ℕ) → ChildGoes s child → (w : Want) (q : Spot) → q.at ≤ length s
    → Goes 2 1 s q (opened child s w q)
unfolding opened
opened-goes child s ih w q h = by-scan (Goes 2 1 s q) s q.at h (opener_tok child w q) (λ p _. goes-refused) good
  where
    good : (t : Token) (n : ℕ) → Reach s q.at t n → Goes 2 1 s q (opener_tok child w q (token t n))
    good t n r =
        by-test (Goes 2 1 s q) (opens w.kind t.kind) _ _
        (λ y.
        let on : q.at < n = omega (arith, r.from, r.falls (opener-some w.kind t.kind y)) in
        let p : Spot = record { at = n; node = q.node + 1; byte = q.byte } in
        nested_goes w q n (child w t.start (closer_of t.kind) p) (omega arith) (omega arith) (omega arith)
        (ih w t.start (closer_of t.kind) p (closer-some t.kind) r.within))
        (λ _. goes-refused)

-- a field, after its name: a colon or an opener, and at least one byte more
pub field-goes : (child : Child) (schema s : List ℕ) → ChildGoes s child → (w : Want) (q : Spot) → q.at ≤ length s
    → Goes 2 1 s q (field child schema s w q)
unfolding field
field-goes child schema s ih w q h =
    by-test (Goes 2 1 s q) (nests w.kind) _ _ (λ _. opened-goes child s ih w q h)
    (λ _. weaker (omega arith) (omega arith) (after_name-goes schema s w q h))

-- ---- an entry's defaults

pub default-goes : (schema s : List ℕ) (w : Want) (q : Spot) → q.at ≤ length s → Goes 0 1 s q (default schema w q)
unfolding default
default-goes schema s w q h =
    by-test (Goes 0 1 s q) (eqb w.kind string || eqb w.kind byte_string) _ _ (λ _. made q.byte 0) (λ _.
    by-test (Goes 0 1 s q) (eqb w.kind enum) _ _ (λ _. made (high_of first) (low_of first)) (λ _. made (high_of 0) (low_of 0)))
  where
    first : ℕ
    first = widen (member schema (enumeration schema w.reference).first).number

    made : (high low : ℕ) → Goes 0 1 s q (leaf w q q.at high low [])
    made high low = leaf-goes s w q q.at high low [] (omega arith) h (omega arith) (omega arith)

pub default_value-goes : (deep : Bool) (at : Place) (schema s : List ℕ) (w : Want) (q : Spot) → q.at ≤ length s
    → Goes 0 1 s q (default_value deep at schema w q)
unfolding default_value
default_value-goes deep at schema s w q h =
    by-test (Goes 0 1 s q) (deep && eqb w.kind body) _ _ (λ _. goes-refused) (λ _. default-goes schema s w q h)

-- nothing is taken and nothing made
stays : (s : List ℕ) (q : Spot) → q.at ≤ length s → Goes 0 0 s q (done q [] [])
stays s q h =
    goes-done (record { on = omega arith; inside = h; words = omega arith; bytes = omega arith; few = omega arith; thin = omega arith })

unless-goes : (s : List ℕ) (there : Bool) (make : Spot → Out) (q : Spot) → q.at ≤ length s → Goes 0 1 s q (make q)
    → Goes 0 1 s q (unless there make q)
unless-goes s there make q h g = by-test (Goes 0 1 s q) there _ _ (λ _. weaker (omega arith) (omega arith) (stays s q h)) (λ _. g)

-- an entry is closed at the place n: up to two defaults
pub closed-goes : (deep : Bool) (schema s : List ℕ) (c : Scope) (at : Place) (n : ℕ) (h : Stand) → n ≤ length s
    → Goes 0 2 s (moved n h.spot) (closed deep schema c at n h)
unfolding closed
closed-goes deep schema s (in_message m) at n h i = weaker (omega arith) (omega arith) (stays s (moved n h.spot) i)
closed-goes deep schema s (in_entry g) at n h i =
    joined-goes
    (unless h.key (default schema (want schema (in_entry g) 0)) (moved n h.spot))
    (unless h.value (default_value deep at schema (want schema (in_entry g) 1)))
    (unless-goes s h.key (default schema (want schema (in_entry g) 0)) (moved n h.spot) i
    (default-goes schema s (want schema (in_entry g) 0) (moved n h.spot) i))
    (λ p x.
    unless-goes s h.value (default_value deep at schema (want schema (in_entry g) 1)) p x
    (default_value-goes deep at schema s (want schema (in_entry g) 1) p x))

-- a message has none
pub closed-message-goes : (deep : Bool) (schema s : List ℕ) (m : ℕ) (at : Place) (n : ℕ) (h : Stand) → n ≤ length s
    → Goes 0 0 s (moved n h.spot) (closed deep schema (in_message m) at n h)
unfolding closed
closed-message-goes deep schema s m at n h i = stays s (moved n h.spot) i

-- ---- a body

-- what a body takes at least, and makes at most beyond that, by where it stands and its closer: any body; one whose closer is
-- not the end of the text; and a message's, which has no defaults
pub data Closing : (least spare : ℕ) → Scope → (closer : ℕ) → Type 0 where
  any : {c : Scope} {closer : ℕ} → Closing 0 2 c closer
  byte : {c : Scope} {closer : ℕ} → (closer ≡ end_of_text → ⊥) → Closing 1 1 c closer
  plain : {m closer : ℕ} → Closing 0 0 (in_message m) closer

-- a turn that goes on takes a name and a field; one that stops has taken the closer
pub record Moves (least spare : ℕ) (s : List ℕ) (h : Stand) (t : Turn) : Type 0 where
  pub goes : (k : Stand) (w v : List ℕ) → t ≡ more k w v → Went 3 0 s h.spot k.spot w v
  pub ends : (o : Out) → t ≡ stop o → Goes least spare s h.spot o

moves-stop : {k e : ℕ} {s : List ℕ} {h : Stand} {o : Out} → Goes k e s h.spot o → Moves k e s h (stop o)
moves-stop {o = o₁} g = record {
  goes = λ i w v x. let z : ◌≡◌ {A = ℕ} 0 1 = cc in absurd (omega arith);
  ends = λ o x. let z : o₁ ≡ o = cc in rw (← z) g;
}

moves_more : {k e : ℕ} {s : List ℕ} {h i : Stand} {w v : List ℕ} → Went 3 0 s h.spot i.spot w v → Moves k e s h (more i w v)
moves_more {i = i₁} {w = w₁} {v = v₁} g = record {
  goes = λ i w v x.
      let ei : i₁ ≡ i = cc in
      let ew : w₁ ≡ w = cc in
      let ev : v₁ ≡ v = cc in
      rw (← ei, ← ew, ← ev) g;
  ends = λ o x. let z : ◌≡◌ {A = ℕ} 0 1 = cc in absurd (omega arith);
}

noted-spot : (c : Scope) (i : ℕ) (h : Stand) (q : Spot) → (noted c i h q).spot ≡ q
unfolding noted
noted-spot (in_message m) i h q = refl
noted-spot (in_entry g) i h q = refl

turn_of-moves : {k e : ℕ} {s : List ℕ} (c : Scope) (i : ℕ) (h : Stand) (o : Out) → Goes 3 0 s h.spot o → Moves k e s h (turn_of c i h o)
turn_of-moves c i h (refused why at) g = moves-stop goes-refused
turn_of-moves c i h (done p w v) g = moves_more (rw (noted-spot c i h p) (g.went p w v refl))

closing-goes : {k e : ℕ} (deep : Bool) (schema s : List ℕ) {c : Scope} {closer : ℕ} → Closing k e c closer
    → (h : Stand) (t : Token) (n : ℕ) → Reach s h.spot.at t n → t.kind ≡ closer
    → Goes k e s h.spot (closed deep schema c t.start n h)
closing-goes deep schema s {c} any h t n r x =
    let on : h.spot.at ≤ n = omega (arith, r.from, r.start) in
    earlier n on (omega arith) (omega arith) (closed-goes deep schema s c t.start n h r.within)
closing-goes deep schema s {c} (byte ne) h t n r x =
    let on : h.spot.at < n = omega (arith, r.from, r.falls (λ z. ne (sym x ∙ z))) in
    earlier n (omega arith) (omega arith) (omega arith) (closed-goes deep schema s c t.start n h r.within)
closing-goes deep schema s (plain {m = m}) h t n r x =
    let on : h.spot.at ≤ n = omega (arith, r.from, r.start) in
    earlier n on (omega arith) (omega arith) (closed-message-goes deep schema s m t.start n h r.within)

module _ (child : Child) (deep : Bool) (schema s : List ℕ) (ih : ChildGoes s child) where
  named-moves : {k e : ℕ} (c : Scope) (h : Stand) (at : Place) (n : ℕ) → h.spot.at < n → n ≤ length s → (o : Option ℕ)
      → Moves k e s h (named child schema s c h at n o)
  named-moves c h at n x y none = moves-stop goes-refused
  named-moves {k} {e} c h at n x y (some i) =
      by-test (Moves k e s h) (again c i h) _ _ (λ _. moves-stop goes-refused)
      (λ _.
      turn_of-moves c i h (field child schema s (want schema c i) (moved n h.spot))
      (earlier n (omega arith) (omega arith) (omega arith) (field-goes child schema s ih (want schema c i) (moved n h.spot) y)))

  pub item-goes : {k e : ℕ} (c : Scope) (closer : ℕ) → Closing k e c closer → (h : Stand) → h.spot.at ≤ length s
      → Moves k e s h (item child deep schema s c closer h)
  unfolding item
  item-goes {k} {e} c closer z h i =
      by-scan (Moves k e s h) s h.spot.at i (item_tok child deep schema s c closer h) (λ p _. moves-stop goes-refused) good
    where
      good : (t : Token) (n : ℕ) → Reach s h.spot.at t n → Moves k e s h (item_tok child deep schema s c closer h (token t n))
      good t n r =
          by-test (Moves k e s h) (eqb t.kind closer) _ _
          (λ y. moves-stop (closing-goes deep schema s z h t n r (eqb-true t.kind closer y))) (λ _.
          by-test (Moves k e s h) (eqb t.kind name_token) _ _
          (λ y.
          named-moves c h t.start n (name-falls s h.spot.at t n r y) r.within
          (find_in schema c (part s t.start.offset n)))
          (λ _. moves-stop goes-refused))

  pub item-forward : (c : Scope) (closer : ℕ) → Forward (length s) (item child deep schema s c closer)
  item-forward c closer h k w v i e = let g = (item-goes c closer any h i).goes k w v e in (omega (arith, g.on), g.inside)

turns-goes : (k e : ℕ) (s : List ℕ) (turn : Stand → Turn) → ((h : Stand) → h.spot.at ≤ length s → Moves k e s h (turn h))
    → (f : ℕ) (h : Stand) → h.spot.at ≤ length s → Goes k e s h.spot (turns f turn h)
unfolding turns
turns-goes k e s turn moves zero h i = goes-refused
turns-goes k e s turn moves (suc f) h i = go (turn h) (moves h i) (turns-goes k e s turn moves f)
  where
    go : (t : Turn) → Moves k e s h t → ((h : Stand) → h.spot.at ≤ length s → Goes k e s h.spot (turns f turn h))
        → Goes k e s h.spot (onward (turns f turn) t)
    go (stop o) m ih = m.ends o refl
    go (more j w v) m ih =
        let g = m.goes j w v refl in
        weaker (omega arith) (omega arith) (ahead-goes (turns f turn j) g (ih j g.inside))

pub loop-goes : (k e : ℕ) (s : List ℕ) (turn : Stand → Turn) → ((h : Stand) → h.spot.at ≤ length s → Moves k e s h (turn h))
    → (h : Stand) → h.spot.at ≤ length s → Goes k e s h.spot (loop (length s) turn h)
unfolding loop
loop-goes k e s turn moves h i = turns-goes k e s turn moves (suc (length s)) h i

-- the rest of a body, from a stand on
pub rest_goes : {k e : ℕ} (child : Child) (deep : Bool) (schema s : List ℕ) → ChildGoes s child
    → (c : Scope) (closer : ℕ) → Closing k e c closer → (h : Stand) → h.spot.at ≤ length s
    → Goes k e s h.spot (loop (length s) (item child deep schema s c closer) h)
rest_goes {k} {e} child deep schema s ih c closer z h i =
    loop-goes k e s (item child deep schema s c closer) (item-goes child deep schema s ih c closer z) h i

-- the same, turn by turn
pub rest-is : (child : Child) (deep : Bool) (schema s : List ℕ) → ChildGoes s child
    → (c : Scope) (closer : ℕ) (h : Stand) → h.spot.at ≤ length s
    → loop (length s) (item child deep schema s c closer) h
    ≡ onward (loop (length s) (item child deep schema s c closer)) (item child deep schema s c closer h)
rest-is child deep schema s ih c closer h i =
    loop-is (length s) (item child deep schema s c closer) (item-forward child deep schema s ih c closer) h i

pub fields-goes : {k e : ℕ} (child : Child) (deep : Bool) (schema s : List ℕ) → ChildGoes s child
    → (c : Scope) (closer : ℕ) → Closing k e c closer → (q : Spot) → q.at ≤ length s
    → Goes k e s q (fields child deep schema s c closer q)
unfolding fields
fields-goes child deep schema s ih c closer z q h = rest_goes child deep schema s ih c closer z (start q) h

pub under_goes : (left : ℕ) (schema s : List ℕ) → ChildGoes s (under left schema s)
unfolding under
under_goes zero schema s w at closer q ne h = goes-refused
under_goes (suc left) schema s w at closer q ne h =
    fields-goes (under left schema s) (eqb left 0) schema s (under_goes left schema s) (within w) closer (byte ne) q h

pub read_body-goes : {k e : ℕ} (left : ℕ) (schema s : List ℕ) (c : Scope) (closer : ℕ) → Closing k e c closer
    → (q : Spot) → q.at ≤ length s → Goes k e s q (read_body left schema s c closer q)
unfolding read_body
read_body-goes left schema s c closer z q h =
    fields-goes (under left schema s) (eqb left 0) schema s (under_goes left schema s) c closer z q h

-- ---- the whole text

pub whole-goes : (schema : List ℕ) (root : ℕ) (s : List ℕ) → Goes 0 1 s (record { at = 0; node = 0; byte = 0 }) (whole schema root s)
unfolding whole
whole-goes schema root s =
    nested_goes (root_want root) (record { at = 0; node = 0; byte = 0 }) 0
    (read_body most_depth schema s (in_message root) end_of_text (record { at = 0; node = 1; byte = 0 }))
    (omega arith) (omega arith) (omega arith)
    (read_body-goes most_depth schema s (in_message root) end_of_text plain (record { at = 0; node = 1; byte = 0 }) (omega arith))

-- the counts of a text that was read
pub record Counts (s : List ℕ) (q : Spot) (w v : List ℕ) : Type 0 where
  pub words : length w ≡ 5 * q.node
  pub bytes : length v ≡ q.byte
  pub nodes : q.node ≤ length s + 1
  pub pool : q.byte ≤ length s

pub whole-counts : (schema : List ℕ) (root : ℕ) (s : List ℕ) (q : Spot) (w v : List ℕ) → whole schema root s ≡ done q w v → Counts s q w v
whole-counts schema root s q w v e =
    let g = (whole-goes schema root s).went q w v e in
    record {
      words = omega (arith, g.words);
      bytes = omega (arith, g.bytes);
      nodes = omega (arith, g.few, g.inside);
      pool = omega (arith, g.thin, g.inside);
    }
