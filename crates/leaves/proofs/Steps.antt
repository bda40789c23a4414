-- What each way through a reader gives, from the token that it met: one law for each `return`.
use mathlib.Core.Path.{◌≡◌, sym, ◌∙◌, refl, ap}
use Prim.Native.Nat.{ℕ, ◌≤◌, ◌<◌, ◌-◌, ◌+◌}
use mathlib.Core.Bool.{Bool, true, false, ◌&&◌, ◌||◌, not}
use mathlib.Core.List.{List, [], ◌∷◌}
use Rattle.std.specs.Cmp.Lexicographic.{pointwise}
use Rattle.std.specs.Prelude.{nat_eq}
use mathlib.Core.Option.{Option, none, some}
use native.Mathlib.Omega.{arith}
use lib.ListN.{length}
use lib.Dec.{leb, eqb}
use borrow.Author.Tests.{eq-eqb, ne_eqb, eqb-true, eqb-false}
use Rattle.definitions.specs.declared.Place.{Place}
use Rattle.definitions.specs.declared.Spot.{Spot}
use Rattle.definitions.specs.declared.Token.{Token}
use Rattle.definitions.specs.declared.Want.{Want}
use Rattle.definitions.specs.Basics.{when◌then◌otherwise◌, same, part}
use Rattle.definitions.specs.Refusals.{most_text, bad_token, other_expected, unknown_value, overflow, not_bool, bad_string}
use Rattle.definitions.specs.Image.{member, enumeration, find_member}
use Rattle.definitions.specs.Scope.{i32, i64, u32, u64, bool, string, byte_string, enum}
use Rattle.definitions.specs.Nodes.{widen}
use Rattle.definitions.specs.Utf8.{utf8}
use Rattle.definitions.specs.Integers.{integer_value, most_unsigned, most_signed, signed}
use Rattle.definitions.specs.Tokens.{Scan, token, bad, scan, name_token, integer_token, string_token, minus, colon}
use Rattle.definitions.specs.Strings.{decode}
use Rattle.definitions.specs.Loop.{Out, refused}
use Rattle.definitions.specs.Reading.{moved, number_leaf, run_leaf, integer_tok, unsigned, negated, signed_value, true_name, false_name, bool_value, enum_value, string_value, scalar, after_name, default}
use Rattle.lexer.specs.declared.tokens.Line.{Line}
use Rattle.lexer.specs.declared.tokens.Cursor.{Cursor}
use Rattle.std.specs.Prelude as maybe
use Rattle.strings.specs.declared.Decoded.{Decoded}
use Rattle.leaves.specs.declared.Position.{Position}
use Rattle.definitions.specs.declared.Refused.{Refused}
use Rattle.std.specs.Prelude.{Ok, Err}
use Rattle.lexer.specs.Steps.{cursor_at, step_of}
use Rattle.integers.specs.Values.{integer_of}
use Rattle.strings.specs.Values.{decoded_of}
use Rattle.laws.proofs.Reach.{reach}
use Rattle.laws.proofs.Decoding.{decode-length}
use Rattle.laws.proofs.Goes.{part-le}
use Rattle.leaves.proofs.Returns.{no-answers}
use Rattle.leaves.specs.Answers.{Answers, Reached, OnLine, Fair, signed_width, unsigned_width}

-- ---- what an answer of a leaf says of the definition

same-pair : (t u : Token) (c d : Cursor) → ◌≡◌ {A = Token × Cursor} (t, c) (u, d) → (t ≡ u) × (c ≡ d)
same-pair t u c d e = (ap (λ (x : Token × Cursor). x.0) e, ap (λ (x : Token × Cursor). x.1) e)

pub scanned : (s : List ℕ) (sc : Scan) (t : Token) (c : Cursor) → Ok (t, c) ≡ step_of s sc → sc ≡ token t c.at
scanned s (token t₁ n) t c e = let z = same-pair t t₁ c (cursor_at s n) cc in rw (z.0, z.1) refl
scanned s (bad p) t c e = cc

-- the cursor behind a token is on its line
pub scanned-line : (s : List ℕ) (sc : Scan) (t : Token) (c : Cursor) → Ok (t, c) ≡ step_of s sc → OnLine s c
scanned-line s (token t₁ n) t c e = let z = same-pair t t₁ c (cursor_at s n) cc in rw z.1 refl
scanned-line s (bad p) t c e = cc

-- a reader that passes a bad token on
pub bad-answers : {on : ℕ → Line} (e x f y : List ℕ) (q : Spot) (o : Out) (s : List ℕ) (sc : Scan) (r : Refused) → Err r ≡ step_of s sc
    → ((p : Place) → sc ≡ bad p → o ≡ refused bad_token p) → Answers on e x f y q o (Err r)
bad-answers e x f y q o s (token t n) r h k = cc
bad-answers e x f y q o s (bad p) r h k = no-answers e x f y q o (Err r) bad_token p (k p refl) cc

pub over-is : (negative : Bool) (most v : ℕ) → ◌≡◌ {A = maybe.Option ℕ} maybe.None (integer_of negative most v) → leb v most ≡ false
unfolding integer_of
over-is negative most v e = go (leb v most) refl e
  where
    go : (b : Bool) → leb v most ≡ b → ◌≡◌ {A = maybe.Option ℕ} maybe.None (when b then (λ _. maybe.Some (signed negative v)) otherwise λ _. maybe.None) → leb v most ≡ false
    go true h k = cc
    go false h k = h

pub worth-is : (negative : Bool) (most v x : ℕ) → maybe.Some x ≡ integer_of negative most v → (leb v most ≡ true) × (x ≡ signed negative v)
unfolding integer_of
worth-is negative most v x e = go (leb v most) refl e
  where
    go : (b : Bool) → leb v most ≡ b → maybe.Some x ≡ (when b then (λ _. maybe.Some (signed negative v)) otherwise λ _. maybe.None) → (leb v most ≡ true) × (x ≡ signed negative v)
    go true h k = (h, cc)
    go false h k = cc

pub undecoded-is : (o : Option (List ℕ)) → ◌≡◌ {A = maybe.Option Decoded} maybe.None (decoded_of o) → o ≡ none
undecoded-is none e = refl
undecoded-is (some bs) e = cc

pub decoded-is : (o : Option (List ℕ)) (d : Decoded) → maybe.Some d ≡ decoded_of o → (bs : List ℕ) × (o ≡ some bs) × (d.count ≡ length bs) × (d.utf8 ≡ utf8 bs)
decoded-is none d e = cc
decoded-is (some bs) d e =
    let i : d ≡ record { count = length bs; utf8 = utf8 bs } = cc in
    (bs, refl, ap (λ (x : Decoded). x.count) i, ap (λ (x : Decoded). x.utf8) i)

eqb-swap : (x y : ℕ) → eqb x y ≡ eqb y x
eqb-swap x y = go (eqb x y) refl
  where
    go : (b : Bool) → eqb x y ≡ b → eqb x y ≡ eqb y x
    go true e = let z = eqb-true x y e in rw z refl
    go false e = e ∙ sym (ne_eqb y x (λ z. eqb-false x y e (sym z)))

-- `==` of two slices is `same`, from the other side
eq-same : (xs ys : List ℕ) → pointwise nat_eq xs ys ≡ same ys xs
unfolding same
eq-same [] [] = refl
eq-same [] (y ∷ ys) = refl
eq-same (x ∷ xs) [] = refl
eq-same (x ∷ xs) (y ∷ ys) = rw (eqb-swap x y, eq-same xs ys) refl

pub tested-same : (r : Bool) (xs ys name word : List ℕ) → r ≡ pointwise nat_eq xs ys → xs ≡ name → ys ≡ word → r ≡ same word name
tested-same r xs ys name word e h k = rw (← h, ← k) (e ∙ eq-same xs ys)

-- a token that was met lies inside the text
pub reached : (s : List ℕ) (at : ℕ) (t : Token) (n : ℕ) → at ≤ length s → scan s at ≡ token t n → Reached s t n
reached s at t n h e = let z = reach s at t n h e in record { forward = z.start; inside = z.within }

pub broken-by : (r k u v : Bool) → r ≡ (k && not u) → u ≡ v → r ≡ (k && not v)
broken-by r k u v h e = h ∙ ap (λ (x : Bool). k && not x) e

-- ---- integers

module _ (s : List ℕ) (w : Want) (negative : Bool) (most : ℕ) (q : Spot) (t : Token) (n : ℕ) where
  pub integer-over : t.kind ≡ integer_token → ◌≡◌ {A = maybe.Option ℕ} maybe.None (integer_of negative most (integer_value (part s t.start.offset n))) → integer_tok s w negative most q (token t n) ≡ refused overflow t.start
  integer-over h e = simp (eq-eqb _ _ h, over-is negative most _ e)

  pub integer-worth : t.kind ≡ integer_token → (v : ℕ) → maybe.Some v ≡ integer_of negative most (integer_value (part s t.start.offset n)) → integer_tok s w negative most q (token t n) ≡ number_leaf w q n v
  integer-worth h v e = let z = worth-is negative most _ v e in simp (eq-eqb _ _ h, z.0, z.1)

module _ (s : List ℕ) (w : Want) (width : ℕ) (q : Spot) where
  pub unsigned-bad : (p : Place) → scan s q.at ≡ bad p → unsigned s w width q ≡ refused bad_token p
  unfolding unsigned
  unsigned-bad p e = rw e

  pub unsigned-on : (t : Token) (n : ℕ) → scan s q.at ≡ token t n → unsigned s w width q ≡ integer_tok s w false (most_unsigned width) q (token t n)
  unfolding unsigned
  unsigned-on t n e = rw e

  pub signed-bad : (p : Place) → scan s q.at ≡ bad p → signed_value s w width q ≡ refused bad_token p
  unfolding signed_value
  signed-bad p e = rw e

  pub signed-plain : (t : Token) (n : ℕ) → scan s q.at ≡ token t n → (t.kind ≡ minus → ⊥) → signed_value s w width q ≡ integer_tok s w false (most_signed width false) q (token t n)
  unfolding signed_value
  signed-plain t n e h = rw (e, ne_eqb _ _ h)

  pub signed-minus : (t : Token) (n : ℕ) → scan s q.at ≡ token t n → t.kind ≡ minus → signed_value s w width q ≡ negated s w width (moved n q)
  unfolding signed_value
  signed-minus t n e h = rw (e, eq-eqb _ _ h)

  pub negated-bad : (p : Place) → scan s q.at ≡ bad p → negated s w width q ≡ refused bad_token p
  unfolding negated
  negated-bad p e = rw e

  pub negated-on : (t : Token) (n : ℕ) → scan s q.at ≡ token t n → negated s w width q ≡ integer_tok s w true (most_signed width true) q (token t n)
  unfolding negated
  negated-on t n e = rw e

-- ---- bool

module _ (s : List ℕ) (w : Want) (q : Spot) where
  pub bool-bad : (p : Place) → scan s q.at ≡ bad p → bool_value s w q ≡ refused bad_token p
  unfolding bool_value
  bool-bad p e = rw e

  module _ (t : Token) (n : ℕ) (e : scan s q.at ≡ token t n) where
    pub bool-other : (t.kind ≡ name_token → ⊥) → bool_value s w q ≡ refused not_bool t.start
    unfolding bool_value
    bool-other h = simp (e, ne_eqb _ _ h)

    pub bool-true : t.kind ≡ name_token → true ≡ same true_name (part s t.start.offset n) → bool_value s w q ≡ number_leaf w q n 1
    unfolding bool_value
    bool-true h g = simp (e, eq-eqb _ _ h, sym g)

    pub bool_false : t.kind ≡ name_token → false ≡ same true_name (part s t.start.offset n) → true ≡ same false_name (part s t.start.offset n) → bool_value s w q ≡ number_leaf w q n 0
    unfolding bool_value
    bool_false h g k = simp (e, eq-eqb _ _ h, sym g, sym k)

    pub bool-neither : t.kind ≡ name_token → false ≡ same true_name (part s t.start.offset n) → false ≡ same false_name (part s t.start.offset n) → bool_value s w q ≡ refused not_bool t.start
    unfolding bool_value
    bool-neither h g k = simp (e, eq-eqb _ _ h, sym g, sym k)

-- ---- enums

module _ (image s : List ℕ) (w : Want) (q : Spot) where
  pub enum-bad : (p : Place) → scan s q.at ≡ bad p → enum_value image s w q ≡ refused bad_token p
  unfolding enum_value
  enum-bad p e = rw e

  module _ (t : Token) (n : ℕ) (e : scan s q.at ≡ token t n) where
    pub enum-other : (t.kind ≡ name_token → ⊥) → enum_value image s w q ≡ refused other_expected t.start
    unfolding enum_value
    enum-other h = simp (e, ne_eqb _ _ h)

    pub enum-unknown : t.kind ≡ name_token → find_member image w.reference (part s t.start.offset n) ≡ none → enum_value image s w q ≡ refused unknown_value t.start
    unfolding enum_value
    enum-unknown h k = simp (e, eq-eqb _ _ h, k)

    pub enum_known : t.kind ≡ name_token → (i : ℕ) → find_member image w.reference (part s t.start.offset n) ≡ some i → enum_value image s w q ≡ number_leaf w q n (widen (member image i).number)
    unfolding enum_value
    enum_known h i k = simp (e, eq-eqb _ _ h, k)

-- ---- strings and bytes

module _ (s : List ℕ) (w : Want) (q : Spot) where
  pub string-bad : (p : Place) → scan s q.at ≡ bad p → string_value s w q ≡ refused bad_token p
  unfolding string_value
  string-bad p e = rw e

  module _ (t : Token) (n : ℕ) (e : scan s q.at ≡ token t n) where
    pub string-other : (t.kind ≡ string_token → ⊥) → string_value s w q ≡ refused other_expected t.start
    unfolding string_value
    string-other h = simp (e, ne_eqb _ _ h)

    pub string-undecoded : t.kind ≡ string_token → decode (part s (t.start.offset + 1) (n - 1)) ≡ none → string_value s w q ≡ refused bad_string t.start
    unfolding string_value
    string-undecoded h k = simp (e, eq-eqb _ _ h, k)

    module _ (h : t.kind ≡ string_token) (bs : List ℕ) (k : decode (part s (t.start.offset + 1) (n - 1)) ≡ some bs) where
      pub string-broken : true ≡ (eqb w.kind string && not (utf8 bs)) → string_value s w q ≡ refused bad_string t.start
      unfolding string_value
      string-broken i = simp (e, eq-eqb _ _ h, k, sym i)

      pub string-fine : false ≡ (eqb w.kind string && not (utf8 bs)) → string_value s w q ≡ run_leaf w q n bs
      unfolding string_value
      string-fine i = simp (e, eq-eqb _ _ h, k, sym i)

-- what a string stands for has room among the bytes of the text
pub string-room : (s : List ℕ) (p : Position) (t : Token) (n : ℕ) (bs : List ℕ) → Fair s p → length s ≤ most_text → scan s p.spot.at ≡ token t n → t.kind ≡ string_token
    → decode (part s (t.start.offset + 1) (n - 1)) ≡ some bs → p.spot.byte + length bs ≤ most_text
string-room s p t n bs f short e h k =
    let z = reach s p.spot.at t n f.inside e in
    omega (arith, z.from, z.quotes h, z.within, f.bytes, short, decode-length _ bs k, part-le s (t.start.offset + 1) (n - 1))

-- ---- scalars

module _ (image s : List ℕ) (w : Want) (q : Spot) where
  pub scalar_signed : 1 ≤ w.kind → w.kind < 3 → scalar image s w q ≡ signed_value s w (signed_width w.kind) q
  unfolding scalar
  scalar_signed h k = go (eqb w.kind i32) refl
    where
      go : (b : Bool) → eqb w.kind i32 ≡ b → scalar image s w q ≡ signed_value s w (signed_width w.kind) q
      go true e = simp e
      go false e = let n = eqb-false w.kind i32 e in let x : w.kind ≡ i64 = omega arith in simp (e, eq-eqb w.kind i64 x)

  pub scalar_unsigned : 3 ≤ w.kind → w.kind < 5 → scalar image s w q ≡ unsigned s w (unsigned_width w.kind) q
  unfolding scalar
  scalar_unsigned h k = go (eqb w.kind u32) refl
    where
      one : eqb w.kind i32 ≡ false
      one = ne_eqb w.kind i32 (λ z. omega arith)

      two : eqb w.kind i64 ≡ false
      two = ne_eqb w.kind i64 (λ z. omega arith)

      go : (b : Bool) → eqb w.kind u32 ≡ b → scalar image s w q ≡ unsigned s w (unsigned_width w.kind) q
      go true e = simp (one, two, e)
      go false e = let n = eqb-false w.kind u32 e in let x : w.kind ≡ u64 = omega arith in simp (one, two, e, eq-eqb w.kind u64 x)

  pub scalar-bool : w.kind ≡ bool → scalar image s w q ≡ bool_value s w q
  unfolding scalar
  scalar-bool h = rw h refl

  pub scalar-enum : w.kind ≡ enum → scalar image s w q ≡ enum_value image s w q
  unfolding scalar
  scalar-enum h = rw h refl

  pub scalar-string : 5 ≤ w.kind → (w.kind ≡ bool → ⊥) → (w.kind ≡ enum → ⊥) → scalar image s w q ≡ string_value s w q
  unfolding scalar
  scalar-string h b c =
      simp (ne_eqb w.kind i32 (λ z. omega arith), ne_eqb w.kind i64 (λ z. omega arith), ne_eqb w.kind u32 (λ z. omega arith), ne_eqb w.kind u64 (λ z. omega arith), ne_eqb _ _ b, ne_eqb _ _ c)

  pub colon-bad : (p : Place) → scan s q.at ≡ bad p → after_name image s w q ≡ refused bad_token p
  unfolding after_name
  colon-bad p e = rw e

  pub colon-other : (t : Token) (n : ℕ) → scan s q.at ≡ token t n → (t.kind ≡ colon → ⊥) → after_name image s w q ≡ refused other_expected t.start
  unfolding after_name
  colon-other t n e h = rw (e, ne_eqb _ _ h)

  pub colon-on : (t : Token) (n : ℕ) → scan s q.at ≡ token t n → t.kind ≡ colon → after_name image s w q ≡ scalar image s w (moved n q)
  unfolding after_name
  colon-on t n e h = rw (e, eq-eqb _ _ h)

-- a fair position moved to the end of a token
pub moved-fair : (s : List ℕ) (p : Position) (t : Token) (c : Cursor) → Fair s p → scan s p.spot.at ≡ token t c.at → OnLine s c → Fair s (record { spot = moved c.at p.spot; line = c.line })
moved-fair s p t c f e g =
    let z = reach s p.spot.at t c.at f.inside e in
    record { inside = z.within; nodes = omega (arith, z.from, z.start, f.nodes); bytes = omega (arith, z.from, z.start, f.bytes); line = g }

-- ---- what an entry lacks

module _ (image : List ℕ) (w : Want) (q : Spot) where
  pub default-run : true ≡ (eqb w.kind string || eqb w.kind byte_string) → default image w q ≡ run_leaf w q q.at []
  unfolding default
  default-run h = simp (sym h)

  pub default-enum : false ≡ (eqb w.kind string || eqb w.kind byte_string) → w.kind ≡ enum → default image w q ≡ number_leaf w q q.at (widen (member image (enumeration image w.reference).first).number)
  unfolding default
  default-enum h k = simp (sym h, eq-eqb _ _ k)

  pub default-zero : false ≡ (eqb w.kind string || eqb w.kind byte_string) → (w.kind ≡ enum → ⊥) → default image w q ≡ number_leaf w q q.at 0
  unfolding default
  default-zero h k = simp (sym h, ne_eqb _ _ k)
