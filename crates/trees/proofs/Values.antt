-- Reading a scalar value that print wrote: the node that it makes, from the blanks before it to its last byte.
use Prim.Native.Nat.{ℕ, suc, ◌+◌, ◌-◌, ◌≤◌}
use native.Mathlib.Omega.{arith}
use mathlib.Core.Path.{◌≡◌, refl, ap, ◌∙◌}
use mathlib.Core.Bool.{Bool, true, false, ◌&&◌, not}
use mathlib.Core.List.{List, [], ◌∷◌, ◌++◌, append_assoc}
use lib.Dec.{eqb}
use lib.ListN.{length, drop, length-append}
use borrow.Author.Tests.{eqb-true, le-leb}
use Rattle.definitions.specs.declared.Spot.{Spot}
use Rattle.definitions.specs.declared.Want.{Want}
use Rattle.definitions.specs.Basics.{same, each, part}
use Rattle.definitions.specs.Image.{digit, identifier, find_member}
use Rattle.definitions.specs.Classes.{class, classes, digit_class}
use Rattle.definitions.specs.Scope.{i32, i64, u32, u64, bool, string, byte_string, enum}
use Rattle.definitions.specs.Utf8.{utf8}
use Rattle.definitions.specs.Integers.{runs_on, integer_value, most_unsigned, most_signed, signed}
use Rattle.definitions.specs.Places.{place_of}
use Rattle.definitions.specs.Tokens.{token_of, gap, scan, integer_token}
use Rattle.definitions.specs.Reading.{number_leaf, run_leaf, moved, integer_tok, unsigned, negated, signed_value, bool_value, member_found, enum_value, string_value, scalar, true_name, false_name}
use Rattle.definitions.specs.Print.{decimal, signed_decimal, quote_bytes, quoted}
use Rattle.laws.proofs.Lists.{and_parts, AreBytes}
use Rattle.laws.proofs.ClassTable.{digit-class}
use Rattle.laws.proofs.Decimal.{Begins, decimal-begins, decimal-digits, scan-decimal, integer_value-decimal}
use Rattle.laws.proofs.Ranges.{SignedIn, Printed, printed_plain, printed_minus, signed_in-printed}
use Rattle.laws.proofs.Quoting.{scan-quoted, decode-quote_bytes}
use Rattle.trees.proofs.Scanning.{blank, drop-on, scan-past, part-is, name-at, symbol-at}

-- ---- integers

gap-decimal : (n : ℕ) (r : List ℕ) → gap false (decimal n ++ r) ≡ 0
unfolding gap each
gap-decimal n r = go (decimal-begins n)
  where
    go : Begins n (decimal n) → gap false (decimal n ++ r) ≡ 0
    go b =
        let all_digits : digit b.first && each digit b.rest ≡ true = rw b.is at (decimal-digits n) in
        let c : class b.first ≡ digit_class =
        eqb-true (class b.first) digit_class (digit-class b.first ∙ (and_parts (digit b.first) (each digit b.rest) all_digits).0) in
        rw (b.is, gap, c)

pub integer-scan : (s g k : List ℕ) (at n : ℕ) → each blank g ≡ true → drop at s ≡ g ++ (decimal n ++ k) → runs_on k ≡ false
    → scan s at ≡ token_of integer_token (place_of s (at + length g)) (at + length g + length (decimal n))
integer-scan s g k at n b e r = scan-past s g (decimal n ++ k) at e b (gap-decimal n k) ∙ scan-decimal (place_of s (at + length g)) n k r

integer-tok : (s : List ℕ) (w : Want) (k : List ℕ) (negative : Bool) (most n p : ℕ) (q : Spot) → drop p s ≡ decimal n ++ k → n ≤ most
    → integer_tok s w negative most q (token_of integer_token (place_of s p) (p + length (decimal n)))
    ≡ number_leaf w q (p + length (decimal n)) (signed negative n)
integer-tok s w k negative most n p q e h =
    let v : integer_value (part s p (p + length (decimal n))) ≡ n = ap integer_value (part-is s (decimal n) k p e) ∙ integer_value-decimal n in
    rw (v, le-leb n most h)

module _ (s : List ℕ) (w : Want) (g k : List ℕ) (blanks : each blank g ≡ true) (q : Spot) where
  pub reads-unsigned : (width n : ℕ) → drop q.at s ≡ g ++ (decimal n ++ k) → runs_on k ≡ false → n ≤ most_unsigned width
      → unsigned s w width q ≡ number_leaf w q (q.at + length g + length (decimal n)) n
  unfolding unsigned signed
  reads-unsigned width n e r h =
      rw (integer-scan s g k q.at n blanks e r)
      (integer-tok s w k false (most_unsigned width) n (q.at + length g) q (drop-on s g (decimal n ++ k) q.at e) h)

  signed-plus : (width n : ℕ) → drop q.at s ≡ g ++ (decimal n ++ k) → runs_on k ≡ false → n ≤ most_signed width false
      → signed_value s w width q ≡ number_leaf w q (q.at + length g + length (decimal n)) n
  unfolding signed_value signed
  signed-plus width n e r h =
      rw (integer-scan s g k q.at n blanks e r)
      (integer-tok s w k false (most_signed width false) n (q.at + length g) q (drop-on s g (decimal n ++ k) q.at e) h)

  signed-minus : (width v : ℕ) → drop q.at s ≡ g ++ (45 ∷ (decimal v ++ k)) → runs_on k ≡ false → v ≤ most_signed width true
      → signed_value s w width q ≡ number_leaf w q (q.at + length g + suc (length (decimal v))) (signed true v)
  unfolding signed_value negated class classes each
  signed-minus width v e r h =
      let d : drop (q.at + length g + 1) s ≡ decimal v ++ k =
      drop-on s (45 ∷ []) (decimal v ++ k) (q.at + length g) (drop-on s g (45 ∷ (decimal v ++ k)) q.at e) in
      let z : q.at + length g + 1 + 0 ≡ q.at + length g + 1 = omega arith in
      let n : q.at + length g + suc (length (decimal v)) ≡ q.at + length g + 1 + length (decimal v) = omega arith in
      rw (symbol-at s g (decimal v ++ k) q.at 45 e blanks refl, integer-scan s [] k (q.at + length g + 1) v refl d r, z, n)
      (integer-tok s w k true (most_signed width true) v (q.at + length g + 1) (moved (q.at + length g + 1) q) d h)

  pub reads-signed : (width n : ℕ) → width ≤ 64 → drop q.at s ≡ g ++ (signed_decimal n ++ k) → runs_on k ≡ false → SignedIn width n
      → signed_value s w width q ≡ number_leaf w q (q.at + length g + length (signed_decimal n)) n
  reads-signed width n h e r i = go (signed_in-printed width n h i)
    where
      go : Printed width n → signed_value s w width q ≡ number_leaf w q (q.at + length g + length (signed_decimal n)) n
      go (printed_plain p l z) = rw p (signed-plus width n (rw p at e) r l)
      go (printed_minus v p l z) = rw p (signed-minus width v (rw p at e) r l ∙ ap (number_leaf w q (q.at + length g + suc (length (decimal v)))) z)

  -- ---- names

  name-part : (n : List ℕ) → drop q.at s ≡ g ++ (n ++ k) → part s (q.at + length g) (q.at + length g + length n) ≡ n
  name-part n e = part-is s n k (q.at + length g) (drop-on s g (n ++ k) q.at e)

  pub reads-true : drop q.at s ≡ g ++ (true_name ++ k) → runs_on k ≡ false → bool_value s w q ≡ number_leaf w q (q.at + length g + 4) 1
  unfolding bool_value identifier each same
  reads-true e r = rw (name-at s g true_name k q.at e blanks refl r, name-part true_name e)

  pub reads-false : drop q.at s ≡ g ++ (false_name ++ k) → runs_on k ≡ false → bool_value s w q ≡ number_leaf w q (q.at + length g + 5) 0
  unfolding bool_value identifier each same
  reads-false e r = rw (name-at s g false_name k q.at e blanks refl r, name-part false_name e)

  -- what comes of an enum value's name is what comes of looking it up
  pub reads-member : (schema n : List ℕ) → drop q.at s ≡ g ++ (n ++ k) → runs_on k ≡ false → identifier n ≡ true
      → enum_value schema s w q
      ≡ member_found schema w q (place_of s (q.at + length g)) (q.at + length g + length n) (find_member schema w.reference n)
  unfolding enum_value
  reads-member schema n e r i = rw (name-at s g n k q.at e blanks i r, name-part n e)

  -- ---- strings and bytes

  between-quotes : (bs : List ℕ) (p : ℕ) → drop p s ≡ quoted bs ++ k → part s (p + 1) (p + length (quoted bs) - 1) ≡ quote_bytes bs
  unfolding quoted
  between-quotes bs p e =
      let d : drop (p + 1) s ≡ quote_bytes bs ++ (34 ∷ k) =
      drop-on s (34 ∷ []) (quote_bytes bs ++ (34 ∷ k)) p (e ∙ ap (34 ∷◌) (append_assoc (quote_bytes bs) (34 ∷ []) k)) in
      let n : p + suc (length (quote_bytes bs ++ (34 ∷ []))) - 1 ≡ p + 1 + length (quote_bytes bs) =
      omega (arith, length-append (quote_bytes bs) (34 ∷ [])) in
      rw n (part-is s (quote_bytes bs) (34 ∷ k) (p + 1) d)

  gap-quoted : (bs : List ℕ) → gap false (quoted bs ++ k) ≡ 0
  unfolding gap quoted class classes
  gap-quoted bs = refl

  pub reads-string : (bs : List ℕ) → drop q.at s ≡ g ++ (quoted bs ++ k) → AreBytes bs → (eqb w.kind string && not (utf8 bs)) ≡ false
      → string_value s w q ≡ run_leaf w q (q.at + length g + length (quoted bs)) bs
  unfolding string_value
  reads-string bs e b u =
      let d = drop-on s g (quoted bs ++ k) q.at e in
      rw (
        scan-past s g (quoted bs ++ k) q.at e blanks (gap-quoted bs),
        scan-quoted (place_of s (q.at + length g)) bs k b,
        between-quotes bs (q.at + length g) d,
        decode-quote_bytes bs b,
        u,
      )

-- ---- which value is read, by the kind

module _ (schema s : List ℕ) (w : Want) (q : Spot) where
  pub scalar-i32 : w.kind ≡ i32 → scalar schema s w q ≡ signed_value s w 32 q
  unfolding scalar
  scalar-i32 e = rw e

  pub scalar-i64 : w.kind ≡ i64 → scalar schema s w q ≡ signed_value s w 64 q
  unfolding scalar
  scalar-i64 e = rw e

  pub scalar-u32 : w.kind ≡ u32 → scalar schema s w q ≡ unsigned s w 32 q
  unfolding scalar
  scalar-u32 e = rw e

  pub scalar-u64 : w.kind ≡ u64 → scalar schema s w q ≡ unsigned s w 64 q
  unfolding scalar
  scalar-u64 e = rw e

  pub scalar-bool : w.kind ≡ bool → scalar schema s w q ≡ bool_value s w q
  unfolding scalar
  scalar-bool e = rw e

  pub scalar-enum : w.kind ≡ enum → scalar schema s w q ≡ enum_value schema s w q
  unfolding scalar
  scalar-enum e = rw e

  pub scalar-string : w.kind ≡ string → scalar schema s w q ≡ string_value s w q
  unfolding scalar
  scalar-string e = rw e

  pub scalar-bytes : w.kind ≡ byte_string → scalar schema s w q ≡ string_value s w q
  unfolding scalar
  scalar-bytes e = rw e
