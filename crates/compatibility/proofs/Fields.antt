-- Reading under the older schema what print wrote of one field, from behind its name: the node of its value, or the refusal of the
-- first name inside that the older schema lacks.
use Prim.Native.Nat.{ℕ, suc, ◌+◌, ◌%◌, ◌≤◌, ◌<◌}
use native.Mathlib.Omega.{arith}
use mathlib.Core.Path.{◌≡◌, refl, sym, ap, ◌∙◌}
use mathlib.Core.Bool.{Bool, true, false, ◌&&◌, not}
use mathlib.Core.List.{List, [], ◌∷◌, ◌++◌, append-nil}
use mathlib.Core.Option.{Option, none, some}
use mathlib.Core.Logic.{◌⊎◌, inl, inr}
use lib.Dec.{eqb}
use lib.ListN.{length, drop}
use borrow.Author.Tests.{eqb-true, eqb-false}
use Rattle.definitions.specs.declared.Spot.{Spot}
use Rattle.definitions.specs.declared.Want.{Want}
use Rattle.definitions.specs.Basics.{each}
use Rattle.definitions.specs.Image.{enum_count, enumeration, member, member_name, find_member, find_number}
use Rattle.definitions.specs.Classes.{class, classes}
use Rattle.definitions.specs.Scope.{nests, i32, i64, u32, u64, bool, string, byte_string, enum}
use Rattle.definitions.specs.Nodes.{words, widen, word32, word64}
use Rattle.definitions.specs.Utf8.{utf8}
use Rattle.definitions.specs.Integers.{runs_on, most_unsigned}
use Rattle.definitions.specs.Live.{Val, number, run, inside, Tree, nil}
use Rattle.definitions.specs.Names.{value_named, value_names, knows}
use Rattle.definitions.specs.Places.{place_of}
use Rattle.definitions.specs.Loop.{Out, done, refused, ahead}
use Rattle.definitions.specs.Reading.{Child, moved, number_leaf, run_leaf, nested, member_found, after_name, scalar, string_value, true_name, false_name, field}
use Rattle.definitions.specs.Print.{decimal, signed_decimal, quoted, number_text}
use Rattle.trees.specs.Laying.{size, high_in, low_in, bytes_in, laid_bytes, laid_words}
use Rattle.compatibility.specs.Demand.{Spelled, spelled_at, lacking, refusal_of}
use Rattle.laws.proofs.Ranges.{SignedIn, widen-low_of, number_text-i32, number_text-i64, number_text-u32, number_text-u64}
use Rattle.laws.proofs.Lists.{AreBytes}
use Rattle.trees.proofs.Accepted.{Accepted, In, found_number, member-within, member-identifier}
use Rattle.trees.proofs.Extends.{Extends, known_member}
use Rattle.trees.proofs.Scanning.{blank, drop-on, symbol-at}
use Rattle.trees.proofs.Values.{reads-unsigned, reads-signed, reads-true, reads-false, reads-member, reads-string, scalar-i32, scalar-i64, scalar-u32, scalar-u64, scalar-bool, scalar-enum, scalar-string, scalar-bytes}
use Rattle.trees.proofs.Trees.{Wants}

-- ---- a refusal, or what comes else

-- the refusal of a lacking name at its place in the text, or what comes else
abbrev pub or_miss : (text : List ℕ) → Option Spelled → Out → Out
or_miss text none o = o
or_miss text (some x) o = refused (refusal_of x.name) (place_of text x.at)

abbrev pub or_else : Option Spelled → Option Spelled → Option Spelled
or_else none o = o
or_else (some x) o = some x

pub miss-else : (text : List ℕ) (a b : Option Spelled) (o : Out) → or_miss text a (or_miss text b o) ≡ or_miss text (or_else a b) o
miss-else text none b o = refl
miss-else text (some x) b o = refl

pub ahead-miss : (text w b : List ℕ) (m : Option Spelled) (o : Out) → ahead w b (or_miss text m o) ≡ or_miss text m (ahead w b o)
ahead-miss text w b none o = refl
ahead-miss text w b (some x) o = refl

pub nested-miss : (text : List ℕ) (w : Want) (m : Option Spelled) (o : Out) → nested w (or_miss text m o) ≡ or_miss text m (nested w o)
nested-miss text w none o = refl
nested-miss text w (some x) o = refl

pub lacking-append : (s : List ℕ) (xs ys : List Spelled) → lacking s (xs ++ ys) ≡ or_else (lacking s xs) (lacking s ys)
unfolding lacking
lacking-append s [] ys = refl
lacking-append s (x ∷ xs) ys = go (lacking-append s xs ys) (knows s x.name) refl
  where
    go : lacking s (xs ++ ys) ≡ or_else (lacking s xs) (lacking s ys) → (t : Bool) → knows s x.name ≡ t
        → lacking s (x ∷ (xs ++ ys)) ≡ or_else (lacking s (x ∷ xs)) (lacking s ys)
    go ih true q = rw (q, lacking) ih
    go ih false q = rw (q, lacking)

-- ---- a field that is read: a value of a kind and rank, with what lies inside it, up to the place `at`

abbrev pub field_done : (kind rank : ℕ) → Spot → ℕ → Val → Tree → Out
field_done k r q at v kids =
    done
    (record { at = at; node = q.node + 1 + size kids; byte = q.byte + length (bytes_in v) + length (laid_bytes kids) })
    (words (record { kind = k; field = r; high = high_in v q.byte; low = low_in v; end = q.node + 1 + size kids })
    ++ laid_words kids (q.node + 1) (q.byte + length (bytes_in v)))
    (bytes_in v ++ laid_bytes kids)

number-done : (w : Want) (q : Spot) (at n k r : ℕ) → w.kind ≡ k → w.field ≡ r → number_leaf w q at n ≡ field_done k r q at (number n) nil
unfolding size laid_bytes laid_words
number-done w q at n k r e f =
    let z : q.node + 1 + 0 ≡ q.node + 1 = omega arith in
    let b : q.byte + 0 + 0 ≡ q.byte + 0 = omega arith in
    rw (e, f, z, b)

run-done : (w : Want) (q : Spot) (at : ℕ) (bs : List ℕ) (k r : ℕ) → w.kind ≡ k → w.field ≡ r → run_leaf w q at bs ≡ field_done k r q at (run bs) nil
unfolding size laid_bytes laid_words
run-done w q at bs k r e f =
    let z : q.node + 1 + 0 ≡ q.node + 1 = omega arith in
    let b : q.byte + length bs + 0 ≡ q.byte + length bs = omega arith in
    rw (e, f, z, b, append-nil bs)

-- ---- scalars

module _ (child : Child) (schema s : List ℕ) (w : Want) (q : Spot) where
  pub field-scalar : nests w.kind ≡ false → (r : List ℕ) → drop q.at s ≡ 58 ∷ r
      → field child schema s w q ≡ scalar schema s w (moved (q.at + 1) q)
  unfolding field after_name class classes each
  field-scalar e r d =
      let z : q.at + 0 + 1 ≡ q.at + 1 = omega arith in
      rw (e, symbol-at s [] r q.at 58 d refl refl, z)

  -- a number's node, from the scalar that was read behind the colon and a space
  number-field : (n r : ℕ) (t k : List ℕ) → nests w.kind ≡ false → drop q.at s ≡ 58 ∷ 32 ∷ (t ++ k) → w.field ≡ r
      → scalar schema s w (moved (q.at + 1) q) ≡ number_leaf w (moved (q.at + 1) q) (q.at + 1 + 1 + length t) n
      → field child schema s w q ≡ field_done w.kind r q (q.at + suc (suc (length t))) (number n) nil
  number-field n r t k e d f h =
      let z : q.at + 1 + 1 + length t ≡ q.at + suc (suc (length t)) = omega arith in
      field-scalar e (32 ∷ (t ++ k)) d ∙ h ∙ rw z (number-done w q (q.at + suc (suc (length t))) n w.kind r refl f)

  run-field : (bs : List ℕ) (r : ℕ) (t k : List ℕ) → nests w.kind ≡ false → drop q.at s ≡ 58 ∷ 32 ∷ (t ++ k) → w.field ≡ r
      → scalar schema s w (moved (q.at + 1) q) ≡ run_leaf w (moved (q.at + 1) q) (q.at + 1 + 1 + length t) bs
      → field child schema s w q ≡ field_done w.kind r q (q.at + suc (suc (length t))) (run bs) nil
  run-field bs r t k e d f h =
      let z : q.at + 1 + 1 + length t ≡ q.at + suc (suc (length t)) = omega arith in
      field-scalar e (32 ∷ (t ++ k)) d ∙ h ∙ rw z (run-done w q (q.at + suc (suc (length t))) bs w.kind r refl f)

-- behind the colon
past-colon : (s r : List ℕ) (at : ℕ) → drop at s ≡ 58 ∷ r → drop (at + 1) s ≡ r
past-colon s r at d = drop-on s (58 ∷ []) r at d

pub space : each blank (32 ∷ []) ≡ true
unfolding each
space = refl

module _ (N O s : List ℕ) (child : Child) (w v : Want) (q : Spot) (k r : ℕ) (z : List ℕ) (same_kind : v.kind ≡ k) (same_rank : v.field ≡ r)
    (stops : runs_on z ≡ false) where
  over_plain : (n : ℕ) (t : List ℕ) → number_text N w k n ≡ t → nests k ≡ false → drop q.at s ≡ 58 ∷ 32 ∷ (number_text N w k n ++ z)
      → (drop (q.at + 1) s ≡ 32 ∷ (t ++ z) → scalar O s v (moved (q.at + 1) q) ≡ number_leaf v (moved (q.at + 1) q) (q.at + 1 + 1 + length t) n)
      → field child O s v q ≡ field_done k r q (q.at + suc (suc (length (number_text N w k n)))) (number n) nil
  over_plain n t e nk d h =
      let d' : drop q.at s ≡ 58 ∷ 32 ∷ (t ++ z) = (rw e at d) in
      rw (e, ← same_kind) (number-field child O s v q n r t z (rw same_kind nk) d' same_rank (h (past-colon s (32 ∷ (t ++ z)) q.at d')))

  abbrev pub Text : Val → ℕ → Type 0
  Text x n =
      drop q.at s ≡ 58 ∷ 32 ∷ (number_text N w k n ++ z)
      → field child O s v q ≡ field_done k r q (q.at + suc (suc (length (number_text N w k n)))) x nil

  pub over-i32 : (n : ℕ) → k ≡ i32 → SignedIn 32 n → Text (number n) n
  over-i32 n e h d =
      over_plain n (signed_decimal n) (rw e (number_text-i32 N w n)) (rw e refl) d
      (λ f. scalar-i32 O s v (moved (q.at + 1) q) (same_kind ∙ e) ∙ reads-signed s v (32 ∷ []) z space (moved (q.at + 1) q) 32 n (omega arith) f stops h)

  pub over-i64 : (n : ℕ) → k ≡ i64 → SignedIn 64 n → Text (number n) n
  over-i64 n e h d =
      over_plain n (signed_decimal n) (rw e (number_text-i64 N w n)) (rw e refl) d
      (λ f. scalar-i64 O s v (moved (q.at + 1) q) (same_kind ∙ e) ∙ reads-signed s v (32 ∷ []) z space (moved (q.at + 1) q) 64 n (omega arith) f stops h)

  pub over-u32 : (n : ℕ) → k ≡ u32 → n < word32 → Text (number n) n
  unfolding most_unsigned
  over-u32 n e h d =
      over_plain n (decimal n) (rw e (number_text-u32 N w n)) (rw e refl) d
      (λ f. scalar-u32 O s v (moved (q.at + 1) q) (same_kind ∙ e)
      ∙ reads-unsigned s v (32 ∷ []) z space (moved (q.at + 1) q) 32 n f stops (omega arith))

  pub over-u64 : (n : ℕ) → k ≡ u64 → n < word64 → Text (number n) n
  unfolding most_unsigned
  over-u64 n e h d =
      over_plain n (decimal n) (rw e (number_text-u64 N w n)) (rw e refl) d
      (λ f. scalar-u64 O s v (moved (q.at + 1) q) (same_kind ∙ e)
      ∙ reads-unsigned s v (32 ∷ []) z space (moved (q.at + 1) q) 64 n f stops (omega arith))

  pub over-bool : (n : ℕ) → k ≡ bool → n ≤ 1 → Text (number n) n
  unfolding number_text
  over-bool n e h d = go (eqb n 0) refl
    where
      go : (t : Bool) → eqb n 0 ≡ t → field child O s v q ≡ field_done k r q (q.at + suc (suc (length (number_text N w k n)))) (number n) nil
      go true p =
          let n0 : n ≡ 0 = eqb-true n 0 p in
          over_plain n false_name (rw (e, n0)) (rw e refl) d
          (λ f. rw n0 (scalar-bool O s v (moved (q.at + 1) q) (same_kind ∙ e) ∙ reads-false s v (32 ∷ []) z space (moved (q.at + 1) q) f stops))
      go false p =
          let ne = eqb-false n 0 p in
          let n1 : n ≡ 1 = omega arith in
          over_plain n true_name (rw (e, n1)) (rw e refl) d
          (λ f. rw n1 (scalar-bool O s v (moved (q.at + 1) q) (same_kind ∙ e) ∙ reads-true s v (32 ∷ []) z space (moved (q.at + 1) q) f stops))

  pub over-run : (bs : List ℕ) → (k ≡ string) ⊎ (k ≡ byte_string) → AreBytes bs → (eqb k string && not (utf8 bs)) ≡ false
      → drop q.at s ≡ 58 ∷ 32 ∷ (quoted bs ++ z)
      → field child O s v q ≡ field_done k r q (q.at + suc (suc (length (quoted bs)))) (run bs) nil
  over-run bs e b u d =
      rw (← same_kind)
      (run-field child O s v q bs r (quoted bs) z (rw same_kind (no-nest e)) d same_rank
      (kinds e ∙ reads-string s v (32 ∷ []) z space (moved (q.at + 1) q) bs (past-colon s (32 ∷ (quoted bs ++ z)) q.at d) b (rw same_kind u)))
    where
      no-nest : (k ≡ string) ⊎ (k ≡ byte_string) → nests k ≡ false
      no-nest (inl p) = rw p refl
      no-nest (inr p) = rw p refl

      kinds : (k ≡ string) ⊎ (k ≡ byte_string) → scalar O s v (moved (q.at + 1) q) ≡ string_value s v (moved (q.at + 1) q)
      kinds (inl p) = scalar-string O s v (moved (q.at + 1) q) (same_kind ∙ p)
      kinds (inr p) = scalar-bytes O s v (moved (q.at + 1) q) (same_kind ∙ p)

-- ---- enum values: read, or refused as the older schema lacks the name

pub number_text-enum : (s : List ℕ) (w : Want) (k n i : ℕ) → k ≡ enum → find_number s w.reference (n % word32) ≡ some i
    → number_text s w k n ≡ member_name s i
unfolding number_text
number_text-enum s w k n i e f = rw (e, f)

pub value_names-enum : (s : List ℕ) (w : Want) (k n i : ℕ) → k ≡ enum → find_number s w.reference (n % word32) ≡ some i
    → value_names s w k (number n) ≡ value_named w.reference (member_name s i) ∷ []
unfolding value_names
value_names-enum s w k n i e f = rw (e, f)

pub value_names-other : (s : List ℕ) (w : Want) (k : ℕ) (v : Val) → eqb k enum ≡ false → value_names s w k v ≡ []
unfolding value_names
value_names-other s w k (number n) e = rw e
value_names-other s w k (run bs) e = refl
value_names-other s w k inside e = refl

module _ (N O s : List ℕ) (ok_n : Accepted N) (ok_o : Accepted O) (x : Extends N O) (child : Child) (w v : Want) (q : Spot) (k r : ℕ) (z : List ℕ)
    (wants : Wants N O w v) (kind-is : k ≡ w.kind) (same_rank : v.field ≡ r) (stops : runs_on z ≡ false) where
  pub over-enum : (n i : ℕ) → k ≡ enum → find_number N w.reference (n % word32) ≡ some i → SignedIn 32 n
      → drop q.at s ≡ 58 ∷ 32 ∷ (number_text N w k n ++ z)
      → field child O s v q
      ≡ or_miss s (lacking O (spelled_at (q.at + 2) (value_names N w k (number n))))
      (field_done k r q (q.at + suc (suc (length (number_text N w k n)))) (number n) nil)
  unfolding lacking knows
  over-enum n i e f b d =
      let m = wants.member (sym kind-is ∙ e) in
      let here : w.reference < enum_count N = omega (arith, m.0, m.1, x.enums) in
      let fn = found_number N ok_n w.reference here (n % word32) i f in
      let name = member_name N i in
      let t : number_text N w k n ≡ member_name N i = number_text-enum N w k n i e f in
      let d' : drop q.at s ≡ 58 ∷ 32 ∷ (member_name N i ++ z) = (rw t at d) in
      let d₁ = past-colon s (32 ∷ (member_name N i ++ z)) q.at d' in
      let vk : v.kind ≡ enum = wants.kind ∙ sym kind-is ∙ e in
      let ident = member-identifier N ok_n i (member-within N ok_n w.reference here i fn.0) in
      let start : field child O s v q
      ≡ member_found O v (moved (q.at + 1) q) (place_of s (q.at + 1 + 1)) (q.at + 1 + 1 + length (member_name N i))
      (find_member O v.reference (member_name N i)) =
      field-scalar child O s v q (rw vk refl) (32 ∷ (member_name N i ++ z)) d' ∙ scalar-enum O s v (moved (q.at + 1) q) vk
      ∙ reads-member s v (32 ∷ []) z space (moved (q.at + 1) q) O (member_name N i) d₁ stops ident in
      rw (t, value_names-enum N w k n i e f) (start ∙ split m fn (find_member O v.reference (member_name N i)) refl)
    where
      split : (v.reference ≡ w.reference) × (v.reference < enum_count O)
          → In (enumeration N w.reference) i × ((member N i).number ≡ n % word32) → (o : Option ℕ)
          → find_member O v.reference (member_name N i) ≡ o
          → member_found O v (moved (q.at + 1) q) (place_of s (q.at + 1 + 1)) (q.at + 1 + 1 + length (member_name N i))
          (find_member O v.reference (member_name N i))
          ≡ or_miss s (lacking O (spelled_at (q.at + 2) (value_named w.reference (member_name N i) ∷ [])))
          (field_done k r q (q.at + suc (suc (length (member_name N i)))) (number n) nil)
      split m fn none p =
          let y : q.at + 1 + 1 ≡ q.at + 2 = omega arith in
          let g : find_member O w.reference (member_name N i) ≡ none = (rw m.0 at p) in
          rw (p, g, y)
      split m fn (some j) p =
          let y : q.at + 1 + 1 + length (member_name N i) ≡ q.at + suc (suc (length (member_name N i))) = omega arith in
          let g : find_member O w.reference (member_name N i) ≡ some j = (rw m.0 at p) in
          let same_number = known_member N O ok_n ok_o x w.reference (rw m.0 at m.1) i j fn.0 g in
          let nn : widen (member O j).number ≡ n = ap widen (same_number ∙ fn.1) ∙ widen-low_of n b in
          rw (p, g, y, nn) (number-done v q (q.at + suc (suc (length (member_name N i)))) n k r (wants.kind ∙ sym kind-is) same_rank)
