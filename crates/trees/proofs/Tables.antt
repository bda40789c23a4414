-- A tree laid down as node words and pool bytes, whatever follows them, is that tree again.
use Prim.Native.Nat.{ℕ, zero, suc, ◌+◌, ◌*◌, ◌-◌, ◌≤◌, ◌<◌}
use native.Mathlib.Omega.{arith}
use mathlib.Core.Path.{◌≡◌, refl, ap, ◌∙◌}
use mathlib.Core.Bool.{true, false}
use mathlib.Core.List.{List, ◌++◌, append_assoc}
use lib.ListN.{length, drop, length-append}
use lib.Seq.{take-append_seam}
use borrow.Author.Tests.{lt-ltb, le-ltb, le-leb, eq-eqb, ne_eqb}
use Rattle.definitions.specs.declared.Node.{Node}
use Rattle.definitions.specs.declared.Want.{Want}
use Rattle.definitions.specs.Scope.{Scope, want, within, nests}
use Rattle.definitions.specs.Nodes.{words, node_at, number_of, run_of, is_run, is_unknown, empty, tree, grow, tile_f}
use Rattle.definitions.specs.Live.{Val, number, run, inside, Tree, nil, node, rank_of, value_of, tree_of}
use Rattle.laws.proofs.Ranges.{words-number}
use Rattle.trees.specs.Laying.{relabel, rank_under, size, high_in, low_in, bytes_in, laid_bytes, node_laid, laid_words, planted}
use Rattle.trees.proofs.Scanning.{drop-on}
use Rattle.trees.proofs.Trees.{Sound, sound_i32, sound_i64, sound_u32, sound_u64, sound_bool, sound_enum, sound_string, sound_bytes, sound_body, sound_entry, Fits}

-- ---- kinds that go with their values

abbrev pub ShapedVal : ℕ → Val → Type 0
ShapedVal k (number n) = (is_run k ≡ false) × (nests k ≡ false) × (is_unknown k ≡ false)
ShapedVal k (run bs) = (is_run k ≡ true) × (is_unknown k ≡ false)
ShapedVal k inside = (is_run k ≡ false) × (nests k ≡ true) × (is_unknown k ≡ false)

abbrev pub Shaped : Tree → Type 0
Shaped nil = Unit {0}
Shaped (node r k v kids rest) = ShapedVal k v × Shaped kids × Shaped rest

pub sound-shaped : (s : List ℕ) (left : ℕ) (w : Want) (k : ℕ) (v : Val) (kids : Tree) → k ≡ w.kind → Sound s left w v kids → ShapedVal k v
sound-shaped s left w k v kids ek (sound_i32 e h) = rw (ek ∙ e) (refl, refl, refl)
sound-shaped s left w k v kids ek (sound_i64 e h) = rw (ek ∙ e) (refl, refl, refl)
sound-shaped s left w k v kids ek (sound_u32 e h) = rw (ek ∙ e) (refl, refl, refl)
sound-shaped s left w k v kids ek (sound_u64 e h) = rw (ek ∙ e) (refl, refl, refl)
sound-shaped s left w k v kids ek (sound_bool e h) = rw (ek ∙ e) (refl, refl, refl)
sound-shaped s left w k v kids ek (sound_enum e i h b) = rw (ek ∙ e) (refl, refl, refl)
sound-shaped s left w k v kids ek (sound_string e h b) = rw (ek ∙ e) (refl, refl)
sound-shaped s left w k v kids ek (sound_bytes e h) = rw (ek ∙ e) (refl, refl)
sound-shaped s left w k v kids ek (sound_body e h) = rw (ek ∙ e) (refl, refl, refl)
sound-shaped s left w k v kids ek (sound_entry e h p) = rw (ek ∙ e) (refl, refl, refl)

pub fits-shaped : (N O : List ℕ) (left : ℕ) (c d : Scope) (t : Tree) → Fits N left c t → Shaped (relabel N O c d t)
unfolding relabel
fits-shaped N O left c d nil f = tt
fits-shaped N O left c d (node r k v kids rest) f = (
  sound-shaped N left (want N c r) k v kids f.1 f.2,
  fits-shaped N O (left - 1) (within (want N c r)) (within (want O d (rank_under N O c d r))) kids f.3,
  fits-shaped N O left c d rest f.4,
)

-- ---- words

pub length-laid : (u : Tree) (i b : ℕ) → length (laid_words u i b) ≡ 5 * size u
unfolding laid_words size
length-laid nil i b = refl
length-laid (node r k v kids rest) i b =
    let h = length-laid kids (i + 1) (b + length (bytes_in v)) in
    let g = length-laid rest (i + 1 + size kids) (b + length (bytes_in v) + length (laid_bytes kids)) in
    omega (
      arith,
      length-append (laid_words kids (i + 1) (b + length (bytes_in v)))
          (laid_words rest (i + 1 + size kids) (b + length (bytes_in v) + length (laid_bytes kids))),
    )

-- a value from its two words
value-laid : (pool : List ℕ) (k r b e : ℕ) (v : Val) (more : List ℕ) → ShapedVal k v → drop b pool ≡ bytes_in v ++ more
    → value_of pool (record { kind = k; field = r; high = high_in v b; low = low_in v; end = e }) ≡ v
unfolding value_of number_of run_of
value-laid pool k r b e (number n) more h d = rw (h.0, h.1) (ap number (words-number n))
value-laid pool k r b e (run bs) more h d = rw (h.0, d) (ap run (take-append_seam bs more))
value-laid pool k r b e inside more h d = rw (h.0, h.1) refl

rank-laid : (k r hi lo e : ℕ) (v : Val) → ShapedVal k v → rank_of (record { kind = k; field = r; high = hi; low = lo; end = e }) ≡ r
unfolding rank_of
rank-laid k r hi lo e (number n) h = rw h.2 refl
rank-laid k r hi lo e (run bs) h = rw h.1 refl
rank-laid k r hi lo e inside h = rw h.2 refl

-- the pool bytes of a value and of what lies inside and after it, each from its place on
module _ (pool : List ℕ) (v : Val) (kids rest : Tree) (b : ℕ) (after : List ℕ)
    (d : drop b pool ≡ bytes_in v ++ (laid_bytes kids ++ laid_bytes rest) ++ after) where
  pub own-bytes : drop b pool ≡ bytes_in v ++ (laid_bytes kids ++ (laid_bytes rest ++ after))
  own-bytes =
      d ∙ append_assoc (bytes_in v) (laid_bytes kids ++ laid_bytes rest) after
      ∙ ap (λ (a : List ℕ). bytes_in v ++ a) (append_assoc (laid_bytes kids) (laid_bytes rest) after)

  pub kids-bytes : drop (b + length (bytes_in v)) pool ≡ laid_bytes kids ++ (laid_bytes rest ++ after)
  kids-bytes = drop-on pool (bytes_in v) (laid_bytes kids ++ (laid_bytes rest ++ after)) b own-bytes

  pub rest-bytes : drop (b + length (bytes_in v) + length (laid_bytes kids)) pool ≡ laid_bytes rest ++ after
  rest-bytes = drop-on pool (laid_bytes kids) (laid_bytes rest ++ after) (b + length (bytes_in v)) kids-bytes

-- a forest that was laid down is the tree
pub planted-tree : (pool : List ℕ) (u : Tree) (i b : ℕ) (after : List ℕ) → Shaped u → drop b pool ≡ laid_bytes u ++ after
    → tree_of pool (planted u i b) ≡ u
unfolding tree_of planted laid_bytes
planted-tree pool nil i b after h d = refl
planted-tree pool (node r k v kids rest) i b after h d =
    rw (
      rank-laid k r (high_in v b) (low_in v) (i + 1 + size kids) v h.0,
      value-laid pool k r b (i + 1 + size kids) v (laid_bytes kids ++ (laid_bytes rest ++ after)) h.0 (own-bytes pool v kids rest b after d),
      planted-tree pool kids (i + 1) (b + length (bytes_in v)) (laid_bytes rest ++ after) h.1 (kids-bytes pool v kids rest b after d),
      planted-tree pool rest (i + 1 + size kids) (b + length (bytes_in v) + length (laid_bytes kids)) after h.2
          (rest-bytes pool v kids rest b after d),
    ) refl

module _ (w : List ℕ) where
  pub node-laid : (i : ℕ) (n : Node) (more : List ℕ) → drop (5 * i) w ≡ words n ++ more → node_at w i ≡ n
  unfolding node_at
  node-laid i n more e = rw e refl

  -- the node words of a value and of what lies inside and after it, each from its place on
  module _ (r k : ℕ) (v : Val) (kids rest : Tree) (i b : ℕ) (more : List ℕ) (e : drop (5 * i) w ≡ laid_words (node r k v kids rest) i b ++ more) where
    abbrev words_kids : List ℕ
    words_kids = laid_words kids (i + 1) (b + length (bytes_in v))

    abbrev words_rest : List ℕ
    words_rest = laid_words rest (i + 1 + size kids) (b + length (bytes_in v) + length (laid_bytes kids))

    own-node : node_at w i ≡ node_laid r k v kids i b
    unfolding laid_words
    own-node = node-laid i (node_laid r k v kids i b) ((words_kids ++ words_rest) ++ more) e

    kids-words : drop (5 * (i + 1)) w ≡ words_kids ++ (words_rest ++ more)
    unfolding laid_words
    kids-words =
        let a : 5 * (i + 1) ≡ 5 * i + 5 = omega arith in
        ap (λ (n : ℕ). drop n w) a ∙ drop-on w (words (node_laid r k v kids i b)) ((words_kids ++ words_rest) ++ more) (5 * i) e
        ∙ append_assoc words_kids words_rest more

    rest-words : drop (5 * (i + 1 + size kids)) w ≡ words_rest ++ more
    rest-words =
        let a : 5 * (i + 1 + size kids) ≡ 5 * (i + 1) + length words_kids = omega (arith, length-laid kids (i + 1) (b + length (bytes_in v))) in
        ap (λ (n : ℕ). drop n w) a ∙ drop-on w words_kids (words_rest ++ more) (5 * (i + 1)) kids-words

  grow-node : (f i e : ℕ) (n : Node) → i < e → node_at w i ≡ n → grow (suc f) w i e ≡ tree n (grow f w (i + 1) n.end) (grow f w n.end e)
  unfolding grow
  grow-node f i e n l h = rw (lt-ltb i e l, h) refl

  grow-none : (f i : ℕ) → grow f w i (i + 0) ≡ empty
  unfolding grow
  grow-none zero i = refl
  grow-none (suc f) i = rw (le-ltb i (i + 0) (omega arith)) refl

  -- what is grown where u was laid down
  pub grow-planted : (u : Tree) (f i b : ℕ) (more : List ℕ) → size u ≤ f → drop (5 * i) w ≡ laid_words u i b ++ more
      → grow f w i (i + size u) ≡ planted u i b
  unfolding size planted
  grow-planted nil f i b more l e = grow-none f i
  grow-planted (node r k v kids rest) zero i b more l e = absurd (omega arith)
  grow-planted (node r k v kids rest) (suc f) i b more l e =
      let j : ℕ = i + 1 + size kids in
      let z : i + suc (size kids + size rest) ≡ j + size rest = omega arith in
      let grown = grow-node f i (i + suc (size kids + size rest)) (node_laid r k v kids i b) (omega arith) (own-node r k v kids rest i b more e) in
      rw (
        grown,
        z,
        grow-planted kids f (i + 1) (b + length (bytes_in v)) _ (omega arith) (kids-words r k v kids rest i b more e),
        grow-planted rest f j (b + length (bytes_in v) + length (laid_bytes kids)) more (omega arith) (rest-words r k v kids rest i b more e),
      ) refl

  -- and it tiles its span
  pub tile-planted : (u : Tree) (f i b : ℕ) (more : List ℕ) → size u ≤ f → drop (5 * i) w ≡ laid_words u i b ++ more → tile_f f w i (i + size u) ≡ true
  unfolding size tile_f
  tile-planted nil zero i b more l e = eq-eqb i (i + 0) (omega arith)
  tile-planted nil (suc f) i b more l e = rw (eq-eqb i (i + 0) (omega arith)) refl
  tile-planted (node r k v kids rest) zero i b more l e = absurd (omega arith)
  tile-planted (node r k v kids rest) (suc f) i b more l e =
      let j : ℕ = i + 1 + size kids in
      let z : i + suc (size kids + size rest) ≡ j + size rest = omega arith in
      rw (
        ne_eqb i (i + suc (size kids + size rest)) (λ q. omega arith),
        own-node r k v kids rest i b more e,
        z,
        lt-ltb i j (omega arith),
        le-leb j (j + size rest) (omega arith),
        tile-planted kids f (i + 1) (b + length (bytes_in v)) _ (omega arith) (kids-words r k v kids rest i b more e),
        tile-planted rest f j (b + length (bytes_in v) + length (laid_bytes kids)) more (omega arith) (rest-words r k v kids rest i b more e),
      ) refl
