-- The table that values make, laid down, is valid: what validity asks of them, that values which fit have it, and the table.
use Prim.Native.Nat.{ℕ, ◌+◌, ◌*◌, ◌-◌, ◌/◌, ◌%◌, ◌≤◌, ◌<◌}
use native.Mathlib.Omega.{arith}
use mathlib.Core.Path.{◌≡◌, refl, ap, ◌∙◌}
use mathlib.Core.Bool.{Bool, true, false}
use mathlib.Core.List.{List, ◌++◌}
use lib.Dec.{leb, eqb}
use lib.ListN.{length, drop, length-append}
use lib.Seq.{take-append_seam}
use borrow.Author.Tests.{eq-eqb, le-leb}
use Rattle.definitions.specs.declared.Node.{Node}
use Rattle.definitions.specs.declared.Want.{Want}
use Rattle.definitions.specs.Basics.{when◌then◌otherwise◌, between}
use Rattle.definitions.specs.Refusals.{most_depth, most_nodes}
use Rattle.definitions.specs.Scope.{Scope, in_message, want, within, has_field, nests, i32, i64, u32, u64, bool, string, byte_string, enum, body, map_entry}
use Rattle.definitions.specs.Nodes.{node_at, table_end, run_of, is_unknown, grow, forest, tile_f, tiles, depth, high_of, low_of, word32}
use Rattle.definitions.specs.Utf8.{utf8}
use Rattle.definitions.specs.Validity.{in_range, run_good, value_good, is_nil, leaf_good, field_fits, is_pair, entry_good, forest_good, root_good, below, valid}
use Rattle.definitions.specs.Live.{Val, number, run, inside, Tree, nil, node}
use Rattle.trees.specs.Laying.{size, bytes_in, laid_bytes, node_laid, laid_words, table_over, planted}
use Rattle.laws.proofs.Ranges.{SignedIn, in_range-i32, in_range-u32, in_range-enum}
use Rattle.laws.proofs.Lists.{and-made, true-false}
use Rattle.trees.proofs.Accepted.{or-true}
use Rattle.trees.proofs.Trees.{Pair, Sound, sound_i32, sound_i64, sound_u32, sound_u64, sound_bool, sound_enum, sound_string, sound_bytes, sound_body, sound_entry, Fits}
use Rattle.trees.proofs.Canon.{Both}
use Rattle.trees.proofs.Tables.{ShapedVal, own-bytes, kids-bytes, rest-bytes, grow-planted, tile-planted, length-laid}

-- ---- what validity asks

-- a number, in the words of a node
abbrev pub numbered : ℕ → Node
numbered n = record { kind = 0; field = 0; high = high_of n; low = low_of n; end = 0 }

-- a number in its kind's range, a string that is UTF-8
abbrev pub Valued : ℕ → Val → Type 0
Valued k (number n) = in_range k (numbered n) ≡ true
Valued k (run bs) = (nests k ≡ false) × (eqb k string ≡ true → utf8 bs ≡ true)
Valued k inside = Unit {0}

-- a value of a kind, with what lies inside it: nothing, unless it is a message or an entry, which takes one of the levels left; and a
-- key and a value, in either order, if it is an entry
pub record Right (left k : ℕ) (v : Val) (kids : Tree) : Type 0 where
  pub shaped : ShapedVal k v
  pub value : Valued k v
  pub leaf : nests k ≡ false → kids ≡ nil
  pub level : nests k ≡ true → 1 ≤ left
  pub entry : eqb k map_entry ≡ true → Both kids

abbrev pub Good : List ℕ → ℕ → Scope → Tree → Type 0
Good s left c nil = Unit {0}
Good s left c (node r k v kids rest) =
    (has_field s c r ≡ true) × (k ≡ (want s c r).kind) × Right left k v kids × Good s (left - 1) (within (want s c r)) kids × Good s left c rest

-- ---- kind by kind

right-leaf : (left k : ℕ) (v : Val) → nests k ≡ false → ShapedVal k v → Valued k v → Right left k v nil
right-leaf left k v e h i = record {
  shaped = h;
  value = i;
  leaf = λ _. refl;
  level = λ q. true-false (nests k) q e;
  entry = λ q. let z : nests k ≡ true = rw q (or-true (eqb k body)) in true-false (nests k) z e;
}

module _ (left : ℕ) where
  pub right-i32 : (n : ℕ) → SignedIn 32 n → Right left i32 (number n) nil
  right-i32 n h = right-leaf left i32 (number n) refl (refl, refl, refl) (in_range-i32 (numbered n) n refl refl h)

  pub right-i64 : (n : ℕ) → Right left i64 (number n) nil
  unfolding in_range
  right-i64 n = right-leaf left i64 (number n) refl (refl, refl, refl) refl

  pub right-u32 : (n : ℕ) → n < word32 → Right left u32 (number n) nil
  right-u32 n h = right-leaf left u32 (number n) refl (refl, refl, refl) (in_range-u32 (numbered n) n refl refl h)

  pub right-u64 : (n : ℕ) → Right left u64 (number n) nil
  unfolding in_range
  right-u64 n = right-leaf left u64 (number n) refl (refl, refl, refl) refl

  pub right-bool : (n : ℕ) → n ≤ 1 → Right left bool (number n) nil
  unfolding in_range
  right-bool n h =
      right-leaf left bool (number n) refl (refl, refl, refl)
      (and-made _ _ (eq-eqb (n / word32) 0 (omega arith)) (le-leb (n % word32) 1 (omega arith)))

  pub right-enum : (n : ℕ) → SignedIn 32 n → Right left enum (number n) nil
  right-enum n h = right-leaf left enum (number n) refl (refl, refl, refl) (in_range-enum (numbered n) n refl refl h)

  pub right-string : (bs : List ℕ) → utf8 bs ≡ true → Right left string (run bs) nil
  right-string bs u = right-leaf left string (run bs) refl (refl, refl) (refl, λ _. u)

  pub right-bytes : (bs : List ℕ) → Right left byte_string (run bs) nil
  right-bytes bs = right-leaf left byte_string (run bs) refl (refl, refl) (refl, λ q. true-false false q refl)

  pub right-body : (t : Tree) → 1 ≤ left → Right left body inside t
  right-body t h = record {
    shaped = (refl, refl, refl);
    value = tt;
    leaf = λ q. true-false true refl q;
    level = λ _. h;
    entry = λ q. true-false false q refl;
  }

  pub right-entry : (t : Tree) → 1 ≤ left → Both t → Right left map_entry inside t
  right-entry t h b = record { shaped = (refl, refl, refl); value = tt; leaf = λ q. true-false true refl q; level = λ _. h; entry = λ _. b }

-- ---- values that fit

pair-both : (t : Tree) → Pair t → Both t
pair-both nil p = absurd p
pair-both (node a k v t nil) p = absurd p
pair-both (node a k v t (node b l u z nil)) p = omega arith
pair-both (node a k v t (node b l u z (node e m x y o))) p = absurd p

sound-right : (s : List ℕ) (left : ℕ) (w : Want) (k : ℕ) (v : Val) (kids : Tree) → k ≡ w.kind → Sound s left w v kids → Right left k v kids
sound-right s left w k v kids ek (sound_i32 {n = n} e h) = rw (ek ∙ e) (right-i32 left n h)
sound-right s left w k v kids ek (sound_i64 {n = n} e h) = rw (ek ∙ e) (right-i64 left n)
sound-right s left w k v kids ek (sound_u32 {n = n} e h) = rw (ek ∙ e) (right-u32 left n h)
sound-right s left w k v kids ek (sound_u64 {n = n} e h) = rw (ek ∙ e) (right-u64 left n)
sound-right s left w k v kids ek (sound_bool {n = n} e h) = rw (ek ∙ e) (right-bool left n h)
sound-right s left w k v kids ek (sound_enum {n = n} e j f h) = rw (ek ∙ e) (right-enum left n h)
sound-right s left w k v kids ek (sound_string {bs = bs} e h u) = rw (ek ∙ e) (right-string left bs u)
sound-right s left w k v kids ek (sound_bytes {bs = bs} e h) = rw (ek ∙ e) (right-bytes left bs)
sound-right s left w k v kids ek (sound_body {t = t} e h) = rw (ek ∙ e) (right-body left t h)
sound-right s left w k v kids ek (sound_entry {t = t} e h p) = rw (ek ∙ e) (right-entry left t h (pair-both t p))

pub fits-good : (s : List ℕ) (left : ℕ) (c : Scope) (u : Tree) → Fits s left c u → Good s left c u
fits-good s left c nil f = tt
fits-good s left c (node r k v kids rest) f = (
  f.0,
  f.1,
  sound-right s left (want s c r) k v kids f.1 f.2,
  fits-good s (left - 1) (within (want s c r)) kids f.3,
  fits-good s left c rest f.4,
)

-- ---- a value's node

module _ (s pool : List ℕ) where
  value-good : (r k : ℕ) (v : Val) (kids : Tree) (i b : ℕ) (more : List ℕ) → ShapedVal k v → Valued k v → drop b pool ≡ bytes_in v ++ more
      → b + length (bytes_in v) ≤ length pool → value_good pool (node_laid r k v kids i b) ≡ true
  unfolding value_good run_good run_of in_range
  value-good r k (number n) kids i b more h e d l = rw (h.1, h.0) e
  value-good r k inside kids i b more h e d l = rw h.1 refl
  value-good r k (run bs) kids i b more h e d l =
      rw (e.0, h.0) (and-made _ _ (le-leb (b + length bs) (length pool) l) (go (eqb k string) refl))
    where
      go : (o : Bool) → eqb k string ≡ o → (when eqb k string then (λ _. utf8 (run_of pool (node_laid r k (run bs) kids i b))) otherwise λ _. true) ≡ true
      go true q = rw (q, d, take-append_seam bs more) (e.1 q)
      go false q = rw q refl

  -- ---- what lies inside

  leaf-good : (k : ℕ) (kids : Tree) (i b : ℕ) → (nests k ≡ false → kids ≡ nil) → leaf_good k (planted kids i b) ≡ true
  unfolding is_nil planted
  leaf-good k kids i b h = go (nests k) refl
    where
      go : (o : Bool) → nests k ≡ o → leaf_good k (planted kids i b) ≡ true
      go true q = rw q refl
      go false q = rw (h q) (or-true (nests k))

  pair-good : (kids : Tree) (i b : ℕ) → Both kids → is_pair (planted kids i b) ≡ true
  unfolding is_pair planted
  pair-good nil i b p = absurd p
  pair-good (node a k v t nil) i b p = absurd p
  pair-good (node a k v t (node c l u z nil)) i b p = eq-eqb (a + c) 1 p
  pair-good (node a k v t (node c l u z (node e m x y o))) i b p = absurd p

  entry-good : (k : ℕ) (kids : Tree) (i b : ℕ) → (eqb k map_entry ≡ true → Both kids) → entry_good k (planted kids i b) ≡ true
  entry-good k kids i b h = go (eqb k map_entry) refl
    where
      go : (o : Bool) → eqb k map_entry ≡ o → entry_good k (planted kids i b) ≡ true
      go true q = rw q (pair-good kids i b (h q))
      go false q = rw q refl

  known-kind : (k : ℕ) (v : Val) → ShapedVal k v → is_unknown k ≡ false
  known-kind k (number n) h = h.2
  known-kind k (run bs) h = h.1
  known-kind k inside h = h.2

  field-good : (c : Scope) (r k : ℕ) (v : Val) (kids : Tree) (i b : ℕ) → has_field s c r ≡ true → k ≡ (want s c r).kind → ShapedVal k v
      → field_fits s c (node_laid r k v kids i b) ≡ true
  unfolding field_fits
  field-good c r k v kids i b has ek h = rw (known-kind k v h) (and-made _ _ has (eq-eqb k (want s c r).kind ek))

  forest-good : (left : ℕ) (c : Scope) (u : Tree) (i b : ℕ) (after : List ℕ) → Good s left c u → drop b pool ≡ laid_bytes u ++ after
      → b + length (laid_bytes u) ≤ length pool → forest_good s pool c (planted u i b) ≡ true
  unfolding forest_good planted laid_bytes
  forest-good left c nil i b after f d l = refl
  forest-good left c (node r k v kids rest) i b after f d l =
      let lk : length (bytes_in v ++ (laid_bytes kids ++ laid_bytes rest)) ≡ length (bytes_in v) + (length (laid_bytes kids) + length (laid_bytes rest)) =
      length-append (bytes_in v) (laid_bytes kids ++ laid_bytes rest)
      ∙ ap (λ (n : ℕ). length (bytes_in v) + n) (length-append (laid_bytes kids) (laid_bytes rest)) in
      and-made _ _
      (and-made _ _
      (and-made _ _
      (and-made _ _
      (and-made _ _ (field-good c r k v kids i b f.0 f.1 f.2.shaped)
      (value-good r k v kids i b (laid_bytes kids ++ (laid_bytes rest ++ after)) f.2.shaped f.2.value (own-bytes pool v kids rest b after d)
      (omega arith)))
      (leaf-good k kids (i + 1) (b + length (bytes_in v)) f.2.leaf))
      (entry-good k kids (i + 1) (b + length (bytes_in v)) f.2.entry))
      (forest-good (left - 1) (within (want s c r)) kids (i + 1) (b + length (bytes_in v)) (laid_bytes rest ++ after) f.3
      (kids-bytes pool v kids rest b after d) (omega arith)))
      (forest-good left c rest (i + 1 + size kids) (b + length (bytes_in v) + length (laid_bytes kids)) after f.4
      (rest-bytes pool v kids rest b after d) (omega arith))

  -- ---- not too deep

  depth-good : (left : ℕ) (c : Scope) (u : Tree) (i b : ℕ) → Good s left c u → depth (planted u i b) ≤ left
  unfolding depth planted
  depth-good left c nil i b f = omega arith
  depth-good left c (node r k v kids rest) i b f =
      go (depth-good (left - 1) (within (want s c r)) kids (i + 1) (b + length (bytes_in v)) f.3)
      (depth-good left c rest (i + 1 + size kids) (b + length (bytes_in v) + length (laid_bytes kids)) f.4) (nests k) refl
    where
      go : depth (planted kids (i + 1) (b + length (bytes_in v))) ≤ left - 1
          → depth (planted rest (i + 1 + size kids) (b + length (bytes_in v) + length (laid_bytes kids))) ≤ left
          → (o : Bool) → nests k ≡ o → depth (planted (node r k v kids rest) i b) ≤ left
      go a d false q = rw (q, depth) d
      go a d true q = let h = f.2.level q in rw (q, depth) (omega arith)

-- ---- the whole table, whatever follows it

root-good : (u : Tree) (more : List ℕ) → 1 + size u ≤ most_nodes → root_good (table_over u ++ more) ≡ true
unfolding root_good table_end node_at
root-good u more h =
    and-made (between 1 most_nodes (1 + size u)) (leb (5 * (1 + size u)) (length (table_over u ++ more)))
    (and-made _ _ (le-leb 1 (1 + size u) (omega arith)) (le-leb (1 + size u) most_nodes h))
    (le-leb (5 * (1 + size u)) (length (table_over u ++ more)) (omega (arith, length-append (laid_words u 1 0) more, length-laid u 1 0)))

end_is : (u : Tree) (more : List ℕ) → table_end (table_over u ++ more) ≡ 1 + size u
unfolding table_end node_at
end_is u more = refl

pub table-valid : (s : List ℕ) (root : ℕ) (u : Tree) (more after : List ℕ) → Good s most_depth (in_message root) u → 1 + size u ≤ most_nodes
    → valid s root (table_over u ++ more) (laid_bytes u ++ after) ≡ true
unfolding valid below forest tiles
table-valid s root u more after f h =
    let w : List ℕ = table_over u ++ more in
    let pool : List ℕ = laid_bytes u ++ after in
    let e : table_end w ≡ 1 + size u = end_is u more in
    let tiled : tile_f (table_end w - 1) w 1 (table_end w) ≡ true = rw e (tile-planted w u (1 + size u - 1) 1 0 more (omega arith) refl) in
    let grown : grow (table_end w - 1) w 1 (table_end w) ≡ planted u 1 0 = rw e (grow-planted w u (1 + size u - 1) 1 0 more (omega arith) refl) in
    rw (root-good u more h, tiled, grown)
    (and-made _ _ (forest-good s pool most_depth (in_message root) u 1 0 after f refl (omega (arith, length-append (laid_bytes u) after)))
    (le-leb (depth (planted u 1 0)) most_depth (depth-good s pool most_depth (in_message root) u 1 0 f)))
