-- Every value that holds no others, read or a default, is one node that is right for its kind.
use Prim.Native.Nat.{ℕ, ◌+◌, ◌-◌, ◌≤◌}
use native.Mathlib.Omega.{arith}
use mathlib.Core.Path.{◌≡◌, refl}
use mathlib.Core.Bool.{Bool, true, false, ◌&&◌, not}
use mathlib.Core.List.{List, []}
use mathlib.Core.Logic.{inl}
use mathlib.Core.Option.{Option, none, some}
use lib.Dec.{eqb, leb}
use borrow.Author.Tests.{leb-true}
use Rattle.definitions.specs.declared.Spot.{Spot}
use Rattle.definitions.specs.declared.Token.{Token}
use Rattle.definitions.specs.declared.Want.{Want}
use Rattle.definitions.specs.Basics.{same, part}
use Rattle.definitions.specs.Image.{enumeration, member, find_member}
use Rattle.definitions.specs.Scope.{nests, i32, i64, u32, u64, bool, string, byte_string, enum, body, map_entry}
use Rattle.definitions.specs.Utf8.{utf8, steps}
use Rattle.definitions.specs.Nodes.{widen}
use Rattle.definitions.specs.Live.{number, run, inside, nil}
use Rattle.definitions.specs.Integers.{integer_value, most_unsigned, most_signed, signed}
use Rattle.definitions.specs.Tokens.{Scan, token, bad, scan, name_token, integer_token, string_token, minus, colon}
use Rattle.definitions.specs.Strings.{decode}
use Rattle.definitions.specs.Loop.{Out}
use Rattle.definitions.specs.Reading.{moved, integer_tok, unsigned, negated, signed_tok, signed_value, true_name, false_name, bool_tok, bool_value, member_found, enum_tok, enum_value, decoded, string_tok, string_value, scalar, colon_tok, after_name, default}
use Rattle.laws.proofs.Reach.{by-test}
use Rattle.laws.proofs.Ranges.{signed-plain, signed-in, most_unsigned-lt, widen_in}
use Rattle.laws.proofs.Lists.{true-false}
use Rattle.trees.proofs.Accepted.{member-number}
use Rattle.trees.proofs.TableGood.{Right, right-i32, right-i64, right-u32, right-u64, right-bool, right-enum, right-string, right-bytes, right-body}
use Rattle.trees.proofs.Valid.{KindOf, is_i32, is_i64, is_u32, is_u64, is_bool, is_string, is_bytes, is_enum, is_body, is_entry}
use Rattle.read_valid.proofs.Laid.{Lays, lays-refused, One, leaf-lays, number-lays, run-lays}

-- a reading from the spot q on makes one value for what is wanted, with so many levels left
abbrev pub Makes : List ℕ → (left : ℕ) → Want → Spot → Out → Type 0
Makes schema left w q o = Lays (One schema left w) q.node q.byte o

module _ (schema s : List ℕ) (left : ℕ) (w : Want) where
  -- ---- integers

  integer_tok-lays : (negative : Bool) (most : ℕ) (q : Spot) → ((n : ℕ) → n ≤ most → Right left w.kind (number (signed negative n)) nil)
      → (r : Scan) → Makes schema left w q (integer_tok s w negative most q r)
  integer_tok-lays negative most q f (bad p) = lays-refused
  integer_tok-lays negative most q f (token t n) =
      by-test (Makes schema left w q) (eqb t.kind integer_token) _ _
      (λ _.
      by-test (Makes schema left w q) (leb (integer_value (part s t.start.offset n)) most) _ _
      (λ y. number-lays schema left w q n _ (f _ (leb-true _ most y)))
      (λ _. lays-refused))
      (λ _. lays-refused)

  unsigned-lays : (width : ℕ) (q : Spot) → ((n : ℕ) → n ≤ most_unsigned width → Right left w.kind (number n) nil) → Makes schema left w q (unsigned s w width q)
  unfolding unsigned
  unsigned-lays width q f = integer_tok-lays false (most_unsigned width) q (λ n h. rw signed-plain (f n h)) (scan s q.at)

  signed_value-lays : (width : ℕ) (q : Spot)
      → ((negative : Bool) (n : ℕ) → n ≤ most_signed width negative → Right left w.kind (number (signed negative n)) nil)
      → Makes schema left w q (signed_value s w width q)
  unfolding signed_value negated
  signed_value-lays width q f = go (scan s q.at)
    where
      go : (r : Scan) → Makes schema left w q (signed_tok s w width q r)
      go (bad p) = lays-refused
      go (token t n) =
          by-test (Makes schema left w q) (eqb t.kind minus) _ _
          (λ _. integer_tok-lays true (most_signed width true) (moved n q) (f true) (scan s n))
          (λ _. integer_tok-lays false (most_signed width false) q (f false) (token t n))

  -- ---- bools and enums

  bool_value-lays : (q : Spot) → ((n : ℕ) → n ≤ 1 → Right left w.kind (number n) nil) → Makes schema left w q (bool_value s w q)
  unfolding bool_value
  bool_value-lays q f = go (scan s q.at)
    where
      go : (r : Scan) → Makes schema left w q (bool_tok s w q r)
      go (bad p) = lays-refused
      go (token t n) =
          by-test (Makes schema left w q) (eqb t.kind name_token && same true_name (part s t.start.offset n)) _ _
          (λ _. number-lays schema left w q n 1 (f 1 (omega arith)))
          (λ _.
          by-test (Makes schema left w q) (eqb t.kind name_token && same false_name (part s t.start.offset n)) _ _
          (λ _. number-lays schema left w q n 0 (f 0 (omega arith)))
          (λ _. lays-refused))

  enum_value-lays : (q : Spot) → ((i : ℕ) → Right left w.kind (number (widen (member schema i).number)) nil) → Makes schema left w q (enum_value schema s w q)
  unfolding enum_value
  enum_value-lays q f = go (scan s q.at)
    where
      found : (t : Token) (n : ℕ) (o : Option ℕ) → Makes schema left w q (member_found schema w q t.start n o)
      found t n none = lays-refused
      found t n (some i) = number-lays schema left w q n _ (f i)

      go : (r : Scan) → Makes schema left w q (enum_tok schema s w q r)
      go (bad p) = lays-refused
      go (token t n) =
          by-test (Makes schema left w q) (eqb t.kind name_token) _ _ (λ _. found t n (find_member schema w.reference (part s t.start.offset n)))
          (λ _. lays-refused)

  -- ---- strings and bytes

  string_value-lays : (q : Spot) → ((bs : List ℕ) → (eqb w.kind string && not (utf8 bs)) ≡ false → Right left w.kind (run bs) nil)
      → Makes schema left w q (string_value s w q)
  unfolding string_value
  string_value-lays q f = go (scan s q.at)
    where
      made : (t : Token) (n : ℕ) (o : Option (List ℕ)) → Makes schema left w q (decoded w q t.start n o)
      made t n none = lays-refused
      made t n (some bs) =
          by-test (Makes schema left w q) (eqb w.kind string && not (utf8 bs)) _ _ (λ _. lays-refused) (λ y. run-lays schema left w q n bs (f bs y))

      go : (r : Scan) → Makes schema left w q (string_tok s w q r)
      go (bad p) = lays-refused
      go (token t n) =
          by-test (Makes schema left w q) (eqb t.kind string_token) _ _ (λ _. made t n (decode (part s (t.start.offset + 1) (n - 1)))) (λ _. lays-refused)

-- ---- by what is wanted

not-false : (b : Bool) → not b ≡ false → b ≡ true
not-false true e = refl
not-false false e = true-false true refl e

-- any value of an enum has 32 bits, sign-extended
member_right : (schema : List ℕ) (left i : ℕ) → Right left enum (number (widen (member schema i).number)) nil
member_right schema left i = right-enum left _ (widen_in _ (member-number schema i))

module _ (schema s : List ℕ) (left : ℕ) (w : Want) where
  -- what is wanted, its kind spelled out
  abbrev of : ℕ → Want
  of k = record { kind = k; reference = w.reference; field = w.field }

  scalar-lays : (q : Spot) → KindOf w.kind → nests w.kind ≡ false → Makes schema left w q (scalar schema s w q)
  unfolding scalar
  scalar-lays q (is_i32 e) h = rw e (signed_value-lays schema s left (of i32) 32 q (λ negative n l. right-i32 left _ (signed-in 32 negative n l)))
  scalar-lays q (is_i64 e) h = rw e (signed_value-lays schema s left (of i64) 64 q (λ negative n l. right-i64 left _))
  scalar-lays q (is_u32 e) h = rw e (unsigned-lays schema s left (of u32) 32 q (λ n l. right-u32 left n (most_unsigned-lt 32 n l)))
  scalar-lays q (is_u64 e) h = rw e (unsigned-lays schema s left (of u64) 64 q (λ n l. right-u64 left n))
  scalar-lays q (is_bool e) h = rw e (bool_value-lays schema s left (of bool) q (right-bool left))
  scalar-lays q (is_string e) h = rw e (string_value-lays schema s left (of string) q (λ bs y. right-string left bs (not-false (utf8 bs) y)))
  scalar-lays q (is_bytes e) h = rw e (string_value-lays schema s left (of byte_string) q (λ bs y. right-bytes left bs))
  scalar-lays q (is_enum e) h = rw e (enum_value-lays schema s left (of enum) q (member_right schema left))
  scalar-lays q (is_body e) h = true-false true refl (rw e at h)
  scalar-lays q (is_entry e) h = true-false true refl (rw e at h)

  pub after_name-lays : (q : Spot) → KindOf w.kind → nests w.kind ≡ false → Makes schema left w q (after_name schema s w q)
  unfolding after_name
  after_name-lays q k h = go (scan s q.at)
    where
      go : (r : Scan) → Makes schema left w q (colon_tok schema s w q r)
      go (bad p) = lays-refused
      go (token t n) = by-test (Makes schema left w q) (eqb t.kind colon) _ _ (λ _. scalar-lays (moved n q) k h) (λ _. lays-refused)

  -- a default; a message takes a level as any other
  pub default-lays : (q : Spot) → KindOf w.kind → (w.kind ≡ map_entry → ⊥) → (w.kind ≡ body → 1 ≤ left)
      → Makes schema left w q (default schema w q)
  unfolding default utf8 steps
  default-lays q (is_i32 e) ne deep = rw e (number-lays schema left (of i32) q q.at 0 (right-i32 left 0 (inl (omega arith))))
  default-lays q (is_i64 e) ne deep = rw e (number-lays schema left (of i64) q q.at 0 (right-i64 left 0))
  default-lays q (is_u32 e) ne deep = rw e (number-lays schema left (of u32) q q.at 0 (right-u32 left 0 (omega arith)))
  default-lays q (is_u64 e) ne deep = rw e (number-lays schema left (of u64) q q.at 0 (right-u64 left 0))
  default-lays q (is_bool e) ne deep = rw e (number-lays schema left (of bool) q q.at 0 (right-bool left 0 (omega arith)))
  default-lays q (is_string e) ne deep = rw e (run-lays schema left (of string) q q.at [] (right-string left [] refl))
  default-lays q (is_bytes e) ne deep = rw e (run-lays schema left (of byte_string) q q.at [] (right-bytes left []))
  default-lays q (is_enum e) ne deep =
      rw e (number-lays schema left (of enum) q q.at _ (member_right schema left (enumeration schema w.reference).first))
  default-lays q (is_body e) ne deep = rw e (leaf-lays schema left (of body) q q.at inside (right-body left nil (deep e)))
  default-lays q (is_entry e) ne deep = absurd (ne e)
