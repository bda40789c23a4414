-- A valid table of 32-bit words, with a pool of bytes, gives values that fit their fields, not too deep.
use Prim.Native.Nat.{ℕ, zero, suc, ◌+◌, ◌*◌, ◌-◌, ◌≤◌, ◌<◌, max}
use native.Mathlib.Omega.{arith}
use mathlib.Core.Path.{◌≡◌, refl, ◌∙◌}
use mathlib.Core.Bool.{Bool, true, false, ◌&&◌}
use mathlib.Core.List.{List, [], ◌∷◌}
use lib.Dec.{ltb, leb, eqb}
use lib.ListN.{length, take, drop, get_or, get_or-eq_default}
use lib.Seq.{get_or-drop}
use borrow.Author.Tests.{eqb-true, ne_eqb, leb-true, ltb-true}
use Rattle.definitions.specs.declared.Node.{Node}
use Rattle.definitions.specs.declared.Field.{Field}
use Rattle.definitions.specs.declared.Want.{Want}
use Rattle.definitions.specs.Basics.{between, each}
use Rattle.definitions.specs.Refusals.{most_depth}
use Rattle.definitions.specs.Image.{message_count, field_count, field, is_map, type_good}
use Rattle.definitions.specs.Scope.{Scope, in_message, in_entry, want, within, has_field, nests, i32, i64, u32, u64, bool, string, byte_string, enum, body, map_entry}
use Rattle.definitions.specs.Nodes.{node_at, table_end, tiles, number_of, run_of, is_run, is_unknown, Forest, empty, tree, grow, forest, depth, word32}
use Rattle.definitions.specs.Utf8.{utf8}
use Rattle.definitions.specs.Validity.{in_range, run_good, value_good, is_nil, leaf_good, unknown_good, field_fits, is_pair, entry_good, forest_good, root_good, below, valid}
use Rattle.definitions.specs.Live.{number, run, inside, nil, rank_of, value_of, tree_of}
use Rattle.laws.proofs.Ranges.{SignedIn, signed_in-64, number_of-lt, in-in_range-i32, in-in_range-u32}
use Rattle.laws.proofs.Lists.{and_parts, true-false, AreBytes, bytes-nil, bytes-cons, bytes-head, bytes-tail, bytes_drop}
use Rattle.trees.proofs.Accepted.{Accepted, field-within, field-key, field-type}
use Rattle.trees.proofs.Trees.{has_in, body-exists, not_entry, nests-is, nests-small}
use Rattle.trees.proofs.Canon.{Both, Rough, rough_i32, rough_i64, rough_u32, rough_u64, rough_bool, rough_enum, rough_string, rough_bytes, rough_body, rough_entry, Standing, strange, proper, Rugged}

-- ---- bytes and words

bytes_take : (n : ℕ) (bs : List ℕ) → AreBytes bs → AreBytes (take n bs)
bytes_take zero bs h = bytes-nil
bytes_take (suc n) [] h = bytes-nil
bytes_take (suc n) (b ∷ bs) h = bytes-cons b (take n bs) (bytes-head b bs h) (bytes_take n bs (bytes-tail b bs h))

-- a test that passes at each element and at 0 passes wherever one looks
get_d-each : (p : ℕ → Bool) (xs : List ℕ) → each p xs ≡ true → p 0 ≡ true → (i : ℕ) → p (get_or xs i 0) ≡ true
unfolding each
get_d-each p [] e z i = rw (get_or-eq_default {A = ℕ} [] 0 {n = i} (omega arith)) z
get_d-each p (x ∷ xs) e z zero = (and_parts (p x) (each p xs) e).0
get_d-each p (x ∷ xs) e z (suc i) = get_d-each p xs (and_parts (p x) (each p xs) e).1 z i

pub are-bytes : (xs : List ℕ) → each (λ b. ltb b 256) xs ≡ true → AreBytes xs
are-bytes xs e i = ltb-true (get_or xs i 0) 256 (get_d-each (λ b. ltb b 256) xs e refl i)

-- every node's words are 32 bits
abbrev pub Fine : Forest → Type 0
Fine empty = Unit {0}
Fine (tree n kids rest) = (n.high < word32) × (n.low < word32) × Fine kids × Fine rest

pub grow-fine : (w : List ℕ) → each (λ x. ltb x word32) w ≡ true → (f i e : ℕ) → Fine (grow f w i e)
unfolding grow node_at
grow-fine w h zero i e = tt
grow-fine w h (suc f) i e = go (grow-fine w h f) (ltb i e) refl
  where
    word : (j : ℕ) → get_or (drop (5 * i) w) j 0 < word32
    word j = rw get_or-drop (ltb-true _ word32 (get_d-each (λ x. ltb x word32) w h refl (5 * i + j)))

    go : ((i e : ℕ) → Fine (grow f w i e)) → (b : Bool) → ltb i e ≡ b → Fine (grow (suc f) w i e)
    go ih true q = rw (q, grow) (word 2, word 3, ih (i + 1) _, ih _ e)
    go ih false q = rw (q, grow) tt

-- ---- kinds

pub data KindOf (k : ℕ) : Type 0 where
  is_i32 : k ≡ i32 → KindOf k
  is_i64 : k ≡ i64 → KindOf k
  is_u32 : k ≡ u32 → KindOf k
  is_u64 : k ≡ u64 → KindOf k
  is_bool : k ≡ bool → KindOf k
  is_string : k ≡ string → KindOf k
  is_bytes : k ≡ byte_string → KindOf k
  is_enum : k ≡ enum → KindOf k
  is_body : k ≡ body → KindOf k
  is_entry : k ≡ map_entry → KindOf k

kind-of : (k : ℕ) → 1 ≤ k → k ≤ 10 → KindOf k
kind-of zero a b = absurd (omega arith)
kind-of (suc zero) a b = is_i32 refl
kind-of (suc (suc zero)) a b = is_i64 refl
kind-of (suc (suc (suc zero))) a b = is_u32 refl
kind-of (suc (suc (suc (suc zero)))) a b = is_u64 refl
kind-of (suc (suc (suc (suc (suc zero))))) a b = is_bool refl
kind-of (suc (suc (suc (suc (suc (suc zero)))))) a b = is_string refl
kind-of (suc (suc (suc (suc (suc (suc (suc zero))))))) a b = is_bytes refl
kind-of (suc (suc (suc (suc (suc (suc (suc (suc zero)))))))) a b = is_enum refl
kind-of (suc (suc (suc (suc (suc (suc (suc (suc (suc zero))))))))) a b = is_body refl
kind-of (suc (suc (suc (suc (suc (suc (suc (suc (suc (suc zero)))))))))) a b = is_entry refl
kind-of (suc (suc (suc (suc (suc (suc (suc (suc (suc (suc (suc n))))))))))) a b = absurd (omega arith)

abbrev pub ScopeGood : List ℕ → Scope → Type 0
ScopeGood s (in_message m) = m < message_count s
ScopeGood s (in_entry g) = (g < field_count s) × (is_map (field s g) ≡ true)

type-range : (s : List ℕ) (f : Field) → type_good s f ≡ true → (1 ≤ f.kind) × (f.kind ≤ 9)
unfolding type_good
type-range s f e = go (eqb f.kind 8) (eqb f.kind 9) refl refl
  where
    go : (a b : Bool) → eqb f.kind 8 ≡ a → eqb f.kind 9 ≡ b → (1 ≤ f.kind) × (f.kind ≤ 9)
    go true b p q = let z = eqb-true f.kind 8 p in (omega arith, omega arith)
    go false true p q = let z = eqb-true f.kind 9 q in (omega arith, omega arith)
    go false false p q =
        let r = and_parts (between 1 7 f.kind) (eqb f.reference 0) (rw (p, q, type_good) at e) in
        let t = and_parts (leb 1 f.kind) (leb f.kind 7) r.0 in
        let u = leb-true 1 f.kind t.0 in
        let v = leb-true f.kind 7 t.1 in
        (omega arith, omega arith)

abbrev WantGood : List ℕ → Want → Type 0
WantGood s w = KindOf w.kind × (nests w.kind ≡ true → ScopeGood s (within w))

-- what is wanted of an accepted schema's field
want-plain : (s : List ℕ) (f : Field) (i : ℕ) → type_good s f ≡ true → WantGood s (record { kind = f.kind; reference = f.reference; field = i })
unfolding within
want-plain s f i e =
    let r = type-range s f e in
    (kind-of f.kind r.0 (omega arith), λ n. let k : f.kind ≡ body = nests-is f.kind n (not_entry s f e) in rw k (body-exists s f e k))

pub want-good : (s : List ℕ) → Accepted s → (c : Scope) (r : ℕ) → ScopeGood s c → has_field s c r ≡ true → WantGood s (want s c r)
unfolding want within
want-good s ok (in_message m) r g has = go (is_map (field s r)) refl
  where
    lt : r < field_count s
    lt = field-within s ok m g r (has_in s m r has)

    go : (b : Bool) → is_map (field s r) ≡ b → WantGood s (want s (in_message m) r)
    go true q = rw q (is_entry refl, λ n. (lt, q))
    go false q = rw q (want-plain s (field s r) r (field-type s ok r lt))
want-good s ok (in_entry h) r g has = go (eqb r 0) refl
  where
    go : (b : Bool) → eqb r 0 ≡ b → WantGood s (want s (in_entry h) r)
    go true q =
        let t : between 1 6 (field s h).key ≡ true = (rw g.1 at (field-key s ok h g.0)) in
        let u = and_parts (leb 1 (field s h).key) (leb (field s h).key 6) t in
        let a = leb-true 1 (field s h).key u.0 in
        let b = leb-true (field s h).key 6 u.1 in
        rw q (kind-of (field s h).key a (omega arith), λ n. absurd (nests-small (field s h).key n b))
    go false q = rw q (want-plain s (field s h) 1 (field-type s ok h g.0))

-- ---- numbers in range

enum-range : (n : Node) → n.low < word32 → in_range enum n ≡ true → SignedIn 32 (number_of n)
unfolding in_range
enum-range n low h = in-in_range-i32 n low h

bool-range : (n : Node) → in_range bool n ≡ true → number_of n ≤ 1
unfolding in_range number_of
bool-range n h =
    let a = and_parts (eqb n.high 0) (leb n.low 1) h in
    omega (arith, eqb-true n.high 0 a.0, leb-true n.low 1 a.1)

-- ---- values

module _ (s pool : List ℕ) (ok : Accepted s) (bytes : AreBytes pool) where
  leaf-nil : (k : ℕ) (kids : Forest) → nests k ≡ false → leaf_good k kids ≡ true → tree_of pool kids ≡ nil
  unfolding is_nil tree_of
  leaf-nil k empty e h = refl
  leaf-nil k (tree n kids rest) e h = true-false false (rw e at h) refl

  number-value : (n : Node) → is_run n.kind ≡ false → nests n.kind ≡ false → value_of pool n ≡ number (number_of n)
  unfolding value_of
  number-value n a b = rw (a, b) refl

  run_value : (n : Node) → is_run n.kind ≡ true → value_of pool n ≡ run (run_of pool n)
  unfolding value_of
  run_value n a = rw a refl

  inside-value : (n : Node) → is_run n.kind ≡ false → nests n.kind ≡ true → value_of pool n ≡ inside
  unfolding value_of
  inside-value n a b = rw (a, b) refl

  value-range : (n : Node) → is_run n.kind ≡ false → nests n.kind ≡ false → value_good pool n ≡ true → in_range n.kind n ≡ true
  unfolding value_good
  value-range n a b h = rw (b, a, value_good) at h

  range-of : (n : Node) (k : ℕ) → n.kind ≡ k → is_run k ≡ false → nests k ≡ false → value_good pool n ≡ true → in_range k n ≡ true
  unfolding in_range
  range-of n k e a b h = rw e at (value-range n (rw e a) (rw e b) h)

  run-bytes : (n : Node) → AreBytes (run_of pool n)
  unfolding run_of
  run-bytes n = bytes_take n.low (drop n.high pool) (bytes_drop n.high pool bytes)

  run-utf8 : (n : Node) → n.kind ≡ string → value_good pool n ≡ true → utf8 (run_of pool n) ≡ true
  unfolding value_good run_good run_of
  run-utf8 n e h = (and_parts (leb (n.high + n.low) (length pool)) (utf8 (run_of pool n)) (rw (e, value_good, run_good) at h)).1

  -- nodes of an entry have the ranks of their fields
  entry-rank : (g : ℕ) (n : Node) (kids rest : Forest) → forest_good s pool (in_entry g) (tree n kids rest) ≡ true
      → (rank_of n ≡ n.field) × (forest_good s pool (in_entry g) rest ≡ true)
  unfolding forest_good field_fits unknown_good rank_of
  entry-rank g n kids rest e =
      let a = and_parts _ (forest_good s pool (in_entry g) rest) e in
      let b = and_parts _ (forest_good s pool (within (want s (in_entry g) n.field)) kids) a.0 in
      let c = and_parts _ (entry_good n.kind kids) b.0 in
      let d = and_parts _ (leaf_good n.kind kids) c.0 in
      let f = and_parts (field_fits s (in_entry g) n) (value_good pool n) d.0 in
      (go (is_unknown n.kind) refl f.0, a.1)
    where
      go : (b : Bool) → is_unknown n.kind ≡ b → field_fits s (in_entry g) n ≡ true → rank_of n ≡ n.field
      go true q h = true-false false (rw (q, field_fits) at h) refl
      go false q h = rw (q, rank_of) refl

  both_of : (g : ℕ) (kids : Forest) → forest_good s pool (in_entry g) kids ≡ true → is_pair kids ≡ true → Both (tree_of pool kids)
  unfolding is_pair tree_of
  both_of g empty e h = true-false false h refl
  both_of g (tree a ka empty) e h = true-false false h refl
  both_of g (tree a ka (tree b kb empty)) e h =
      let ra = entry-rank g a ka (tree b kb empty) e in
      let rb = entry-rank g b kb empty ra.1 in
      rw (ra.0, rb.0) (eqb-true (a.field + b.field) 1 h)
  both_of g (tree a ka (tree b kb (tree d kd rest))) e h = true-false false h refl

  rough-of : (left : ℕ) (w : Want) (n : Node) (kids : Forest) → n.high < word32 → n.low < word32 → n.kind ≡ w.kind → KindOf w.kind
      → value_good pool n ≡ true → leaf_good n.kind kids ≡ true → entry_good n.kind kids ≡ true → forest_good s pool (within w) kids ≡ true
      → (nests n.kind ≡ true → 1 ≤ left)
      → Rough s left w (value_of pool n) (tree_of pool kids)
  unfolding within
  rough-of left w n kids hi lo ek (is_i32 e) vg lg eg fg d =
      let k : n.kind ≡ i32 = ek ∙ e in
      rw (number-value n (rw k refl) (rw k refl), leaf-nil n.kind kids (rw k refl) lg)
      (rough_i32 e (in-in_range-i32 n lo (range-of n i32 k refl refl vg)))
  rough-of left w n kids hi lo ek (is_i64 e) vg lg eg fg d =
      let k : n.kind ≡ i64 = ek ∙ e in
      rw (number-value n (rw k refl) (rw k refl), leaf-nil n.kind kids (rw k refl) lg) (rough_i64 e (signed_in-64 (number_of n) (number_of-lt n hi lo)))
  rough-of left w n kids hi lo ek (is_u32 e) vg lg eg fg d =
      let k : n.kind ≡ u32 = ek ∙ e in
      rw (number-value n (rw k refl) (rw k refl), leaf-nil n.kind kids (rw k refl) lg)
      (rough_u32 e (in-in_range-u32 n lo (range-of n u32 k refl refl vg)))
  rough-of left w n kids hi lo ek (is_u64 e) vg lg eg fg d =
      let k : n.kind ≡ u64 = ek ∙ e in
      rw (number-value n (rw k refl) (rw k refl), leaf-nil n.kind kids (rw k refl) lg) (rough_u64 e (number_of-lt n hi lo))
  rough-of left w n kids hi lo ek (is_bool e) vg lg eg fg d =
      let k : n.kind ≡ bool = ek ∙ e in
      rw (number-value n (rw k refl) (rw k refl), leaf-nil n.kind kids (rw k refl) lg)
      (rough_bool e (bool-range n (range-of n bool k refl refl vg)))
  rough-of left w n kids hi lo ek (is_string e) vg lg eg fg d =
      let k : n.kind ≡ string = ek ∙ e in
      rw (run_value n (rw k refl), leaf-nil n.kind kids (rw k refl) lg) (rough_string e (run-bytes n) (run-utf8 n k vg))
  rough-of left w n kids hi lo ek (is_bytes e) vg lg eg fg d =
      let k : n.kind ≡ byte_string = ek ∙ e in
      rw (run_value n (rw k refl), leaf-nil n.kind kids (rw k refl) lg) (rough_bytes e (run-bytes n))
  rough-of left w n kids hi lo ek (is_enum e) vg lg eg fg d =
      let k : n.kind ≡ enum = ek ∙ e in
      rw (number-value n (rw k refl) (rw k refl), leaf-nil n.kind kids (rw k refl) lg)
      (rough_enum e (enum-range n lo (range-of n enum k refl refl vg)))
  rough-of left w n kids hi lo ek (is_body e) vg lg eg fg d =
      let k : n.kind ≡ body = ek ∙ e in
      rw (inside-value n (rw k refl) (rw k refl)) (rough_body e (d (rw k refl)))
  rough-of left w n kids hi lo ek (is_entry e) vg lg eg fg d =
      let k : n.kind ≡ map_entry = ek ∙ e in
      rw (inside-value n (rw k refl) (rw k refl)) (rough_entry e (d (rw k refl)) (both_of w.reference kids (rw e at fg) (rw k at eg)))

  -- a node's place among its fields, and what is wanted inside it
  pub record Placed (left : ℕ) (c : Scope) (n : Node) (kids rest : Forest) : Type 0 where
    pub fits : field_fits s c n ≡ true
    pub value : value_good pool n ≡ true
    pub leaf : leaf_good n.kind kids ≡ true
    pub entry : entry_good n.kind kids ≡ true
    pub kids_good : forest_good s pool (within (want s c n.field)) kids ≡ true
    pub rest_good : forest_good s pool c rest ≡ true
    pub kids_deep : nests n.kind ≡ true → suc (depth kids) ≤ left
    pub rest_deep : depth rest ≤ left

  placed : (left : ℕ) (c : Scope) (n : Node) (kids rest : Forest) → forest_good s pool c (tree n kids rest) ≡ true
      → depth (tree n kids rest) ≤ left → Placed left c n kids rest
  unfolding forest_good depth
  placed left c n kids rest e d =
      let r₅ = and_parts _ (forest_good s pool c rest) e in
      let r₄ = and_parts _ (forest_good s pool (within (want s c n.field)) kids) r₅.0 in
      let r₃ = and_parts _ (entry_good n.kind kids) r₄.0 in
      let r₂ = and_parts _ (leaf_good n.kind kids) r₃.0 in
      let r₁ = and_parts (field_fits s c n) (value_good pool n) r₂.0 in
      record {
        fits = r₁.0;
        value = r₁.1;
        leaf = r₂.1;
        entry = r₃.1;
        kids_good = r₄.1;
        rest_good = r₅.1;
        kids_deep = λ h. kids-deep h;
        rest_deep = rest-deep (nests n.kind) refl;
      }
    where
      kids-deep : nests n.kind ≡ true → suc (depth kids) ≤ left
      kids-deep h = let z : max (suc (depth kids)) (depth rest) ≤ left = (rw (h, depth) at d) in omega arith

      rest-deep : (b : Bool) → nests n.kind ≡ b → depth rest ≤ left
      rest-deep true h = let z : max (suc (depth kids)) (depth rest) ≤ left = (rw (h, depth) at d) in omega arith
      rest-deep false h = rw (h, depth) at d

  unknown-leaf : (k : ℕ) → is_unknown k ≡ true → nests k ≡ false
  unknown-leaf k e =
      let a = and_parts (leb 11 k) (leb k 13) e in
      let l = leb-true 11 k a.0 in
      rw (ne_eqb k body (λ i. omega arith), ne_eqb k map_entry (λ i. omega arith)) refl

  standing-of : (left : ℕ) (c : Scope) (n : Node) (kids rest : Forest) → ScopeGood s c → n.high < word32 → n.low < word32
      → Placed left c n kids rest
      → Standing s left c (rank_of n) n.kind (value_of pool n) (tree_of pool kids)
  unfolding field_fits rank_of
  standing-of left c n kids rest sg hi lo p = go (is_unknown n.kind) refl
    where
      go : (b : Bool) → is_unknown n.kind ≡ b → Standing s left c (rank_of n) n.kind (value_of pool n) (tree_of pool kids)
      go true q = rw (q, rank_of, leaf-nil n.kind kids (unknown-leaf n.kind q) p.leaf) (strange (omega arith))
      go false q =
          let f = and_parts (has_field s c n.field) (eqb n.kind (want s c n.field).kind) (rw (q, field_fits) at p.fits) in
          let ek = eqb-true n.kind (want s c n.field).kind f.1 in
          let wg = want-good s ok c n.field sg f.0 in
          rw (q, rank_of)
          (proper f.0 ek
          (rough-of left (want s c n.field) n kids hi lo ek wg.0 p.value p.leaf p.entry p.kids_good
          (λ h. omega (arith, p.kids_deep h))))

  abbrev Ruggeds : Forest → Type 0
  Ruggeds F = (left : ℕ) (c : Scope) → ScopeGood s c → forest_good s pool c F ≡ true → depth F ≤ left → Rugged s left c (tree_of pool F)

  kids-rugged : (left : ℕ) (c : Scope) (n : Node) (kids rest : Forest) → ScopeGood s c → Placed left c n kids rest → Ruggeds kids
      → Rugged s (left - 1) (within (want s c (rank_of n))) (tree_of pool kids)
  unfolding field_fits rank_of
  kids-rugged left c n kids rest sg p ih = go (nests n.kind) (is_unknown n.kind) refl refl
    where
      go : (a b : Bool) → nests n.kind ≡ a → is_unknown n.kind ≡ b → Rugged s (left - 1) (within (want s c (rank_of n))) (tree_of pool kids)
      go false b q u = rw (leaf-nil n.kind kids q p.leaf) tt
      go true true q u = true-false (nests n.kind) q (unknown-leaf n.kind u)
      go true false q u =
          let f = and_parts (has_field s c n.field) (eqb n.kind (want s c n.field).kind) (rw (u, field_fits) at p.fits) in
          let ek = eqb-true n.kind (want s c n.field).kind f.1 in
          let wg = want-good s ok c n.field sg f.0 in
          rw (u, rank_of) (ih (left - 1) (within (want s c n.field)) (wg.1 (rw ek at q)) p.kids_good (omega (arith, p.kids_deep q)))

  pub rugged-of : (F : Forest) → Fine F → Ruggeds F
  unfolding tree_of
  rugged-of empty fn left c sg e d = tt
  rugged-of (tree n kids rest) fn left c sg e d =
      let p = placed left c n kids rest e d in (
        standing-of left c n kids rest sg fn.0 fn.1 p,
        kids-rugged left c n kids rest sg p (rugged-of kids fn.2),
        rugged-of rest fn.3 left c sg p.rest_good p.rest_deep,
      )

-- ---- a valid table

pub valid-rugged : (s : List ℕ) (root : ℕ) (w pool : List ℕ) → Accepted s → root < message_count s → valid s root w pool ≡ true
    → each (λ x. ltb x word32) w ≡ true → each (λ b. ltb b 256) pool ≡ true
    → Rugged s most_depth (in_message root) (tree_of pool (below w))
unfolding valid below forest
valid-rugged s root w pool ok here v hw hp = go (root_good w && tiles w 1 (table_end w)) refl
  where
    go : (b : Bool) → (root_good w && tiles w 1 (table_end w)) ≡ b
        → Rugged s most_depth (in_message root) (tree_of pool (grow (table_end w - 1) w 1 (table_end w)))
    go false q = true-false false (rw q at v) refl
    go true q =
        let h =
        and_parts (forest_good s pool (in_message root) (grow (table_end w - 1) w 1 (table_end w)))
        (leb (depth (grow (table_end w - 1) w 1 (table_end w))) most_depth) (rw q at v) in
        rugged-of s pool ok (are-bytes pool hp) (grow (table_end w - 1) w 1 (table_end w)) (grow-fine w hw (table_end w - 1) 1 (table_end w)) most_depth
        (in_message root) here h.0 (leb-true _ most_depth h.1)
