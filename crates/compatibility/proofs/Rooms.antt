-- Room enough: a table's live values take no more nodes than the table has, and no more pool bytes than their text.
use Prim.Native.Nat.{ℕ, zero, suc, ◌+◌, ◌*◌, ◌-◌, ◌≤◌, ◌<◌}
use native.Mathlib.Omega.{arith}
use mathlib.Core.Path.{◌≡◌, refl}
use mathlib.Core.Bool.{Bool, true, false, ◌&&◌}
use mathlib.Core.List.{List, [], ◌∷◌, ◌++◌}
use lib.Dec.{ltb, leb, eqb}
use lib.ListN.{length, length-append}
use borrow.Author.Tests.{eqb-true, leb-true, ltb-true, lt-ltb, le-ltb}
use Rattle.definitions.specs.declared.Want.{Want}
use Rattle.definitions.specs.Basics.{all, between}
use Rattle.definitions.specs.Refusals.{most_nodes}
use Rattle.definitions.specs.Scope.{Scope, in_message, want, within, body}
use Rattle.definitions.specs.Nodes.{node_at, table_end, grow, forest, tile_f, tiles}
use Rattle.definitions.specs.Validity.{root_good, below, valid}
use Rattle.definitions.specs.Live.{Val, number, run, inside, Tree, nil, node, tree_of, sharing, replaced, insert, canon, meaning}
use Rattle.definitions.specs.Print.{Style, quote_byte, quote_bytes, quoted, opening, closing, value_text, render}
use Rattle.trees.specs.Laying.{size, laid_bytes, bytes_in}
use Rattle.laws.proofs.Lists.{and_parts, true-false, AreBytes, bytes-head, bytes-tail}
use Rattle.laws.proofs.ClassTable.{byte-test}
use Rattle.trees.proofs.Trees.{Sound, sound_string, sound_bytes, Fits}
use Rattle.compatibility.proofs.Places.{number-leaf, run-leaf}

-- ---- nodes

size-insert : (r k : ℕ) (v : Val) (kids t : Tree) → size (insert r k v kids t) ≡ suc (size kids + size t)
unfolding size insert
size-insert r k v kids nil = refl
size-insert r k v kids (node q j u z rest) = go (size-insert r k v kids rest) (leb r q) refl
  where
    go : size (insert r k v kids rest) ≡ suc (size kids + size rest) → (b : Bool) → leb r q ≡ b
        → size (insert r k v kids (node q j u z rest)) ≡ suc (size kids + suc (size z + size rest))
    go ih true e = rw (e, insert) refl
    go ih false e = rw (e, insert) (omega arith)

pub size-canon : (s : List ℕ) (c : Scope) (t : Tree) → size (canon s c t) ≤ size t
unfolding size canon
size-canon s c nil = omega arith
size-canon s c (node r k v kids rest) = go (size-canon s (within (want s c r)) kids) (size-canon s c rest) (replaced (sharing s c r) r kids rest) refl
  where
    go : size (canon s (within (want s c r)) kids) ≤ size kids → size (canon s c rest) ≤ size rest → (b : Bool)
        → replaced (sharing s c r) r kids rest ≡ b → size (canon s c (node r k v kids rest)) ≤ suc (size kids + size rest)
    go ik ir true e = rw (e, canon) (omega arith)
    go ik ir false e = rw (e, canon) (omega (arith, size-insert r k v (canon s (within (want s c r)) kids) (canon s c rest)))

-- a span that is tiled has as many values as nodes
size-grown : (w pool : List ℕ) (f i e : ℕ) → tile_f f w i e ≡ true → size (tree_of pool (grow f w i e)) ≡ e - i
unfolding size grow tile_f tree_of
size-grown w pool zero i e h = omega (arith, eqb-true i e h)
size-grown w pool (suc f) i e h = go (size-grown w pool f) (eqb i e) (ltb i (node_at w i).end && leb (node_at w i).end e) refl refl
  where
    go : ((i e : ℕ) → tile_f f w i e ≡ true → size (tree_of pool (grow f w i e)) ≡ e - i) → (a b : Bool) → eqb i e ≡ a
        → (ltb i (node_at w i).end && leb (node_at w i).end e) ≡ b
        → size (tree_of pool (grow (suc f) w i e)) ≡ e - i
    go ih true b p q = let z = eqb-true i e p in rw (le-ltb i e (omega arith), grow) (omega arith)
    go ih false false p q = true-false false (rw (p, q, tile_f) at h) refl
    go ih false true p q =
        let l = and_parts (ltb i (node_at w i).end) (leb (node_at w i).end e) q in
        let a = ltb-true i (node_at w i).end l.0 in
        let b = leb-true (node_at w i).end e l.1 in
        let t = and_parts (tile_f f w (i + 1) (node_at w i).end) (tile_f f w (node_at w i).end e) (rw (p, q, tile_f) at h) in
        let x = ih (i + 1) (node_at w i).end t.0 in
        let y = ih (node_at w i).end e t.1 in
        rw (lt-ltb i e (omega arith), grow) (omega arith)

root-end : (w : List ℕ) → root_good w ≡ true → (1 ≤ table_end w) × (table_end w ≤ most_nodes)
unfolding root_good
root-end w e =
    let zeros = eqb (node_at w 0).kind body && eqb (node_at w 0).field 0 && eqb (node_at w 0).high 0 && eqb (node_at w 0).low 0 in
    let g = and_parts (zeros && between 1 most_nodes (table_end w)) (leb (5 * table_end w) (length w)) e in
    let f = and_parts zeros (between 1 most_nodes (table_end w)) g.0 in
    let b = and_parts (leb 1 (table_end w)) (leb (table_end w) most_nodes) f.1 in
    (leb-true 1 (table_end w) b.0, leb-true (table_end w) most_nodes b.1)

-- the live values of a valid table, and the root, are at most its nodes
pub size-meaning : (s : List ℕ) (root : ℕ) (w pool : List ℕ) → valid s root w pool ≡ true
    → (suc (size (meaning s root w pool)) ≤ table_end w) × (table_end w ≤ most_nodes)
unfolding valid meaning below forest tiles
size-meaning s root w pool v = go (root_good w && tiles w 1 (table_end w)) refl
  where
    go : (b : Bool) → (root_good w && tiles w 1 (table_end w)) ≡ b → (suc (size (meaning s root w pool)) ≤ table_end w) × (table_end w ≤ most_nodes)
    go false q = true-false false (rw q at v) refl
    go true q =
        let h = and_parts (root_good w) (tiles w 1 (table_end w)) q in
        let r = root-end w h.0 in
        let t = size-grown w pool (table_end w - 1) 1 (table_end w) h.1 in
        let c = size-canon s (in_message root) (tree_of pool (grow (table_end w - 1) w 1 (table_end w))) in
        (omega arith, r.1)

-- ---- bytes

quote-some : (b : ℕ) → b < 256 → 1 ≤ length (quote_byte b)
unfolding all quote_byte
quote-some b h = leb-true 1 (length (quote_byte b)) (byte-test (λ b. leb 1 (length (quote_byte b))) refl b h)

quote-long : (bs : List ℕ) → AreBytes bs → length bs ≤ length (quote_bytes bs)
unfolding quote_bytes
quote-long [] h = omega arith
quote-long (b ∷ bs) h =
    let i = quote-long bs (bytes-tail b bs h) in let j = quote-some b (bytes-head b bs h) in omega
    (arith, length-append (quote_byte b) (quote_bytes bs))

run-bytes : (s : List ℕ) (left : ℕ) (w : Want) (bs : List ℕ) (kids : Tree) → Sound s left w (run bs) kids → AreBytes bs
run-bytes s left w bs kids (sound_string e h u) = h
run-bytes s left w bs kids (sound_bytes e h) = h

value-long : (s : List ℕ) (y : Style) (left d : ℕ) (w : Want) (kind : ℕ) (v : Val) (kids : Tree) (b : List ℕ) → Sound s left w v kids
    → length (laid_bytes kids) ≤ length b → length (bytes_in v) + length (laid_bytes kids) ≤ length (value_text s y d w kind v b)
unfolding laid_bytes quoted
value-long s y left d w kind (number n) kids b sd h = rw (number-leaf s left w n kids sd) (omega arith)
value-long s y left d w kind (run bs) kids b sd h =
    rw (run-leaf s left w bs kids sd) (omega (arith, quote-long bs (run-bytes s left w bs kids sd), length-append (quote_bytes bs) (34 ∷ [])))
value-long s y left d w kind inside kids b sd h = omega (arith, length-append (opening y) (b ++ closing y d), length-append b (closing y d))

pub bytes-render : (s : List ℕ) (y : Style) (left d : ℕ) (first : Bool) (c : Scope) (t : Tree) → Fits s left c t
    → length (laid_bytes t) ≤ length (render s y d first c t)
unfolding laid_bytes render
bytes-render s y left d first c nil f = omega arith
bytes-render s y left d first c (node r k v kids rest) f =
    let w = want s c r in
    let a = bytes-render s y (left - 1) (d + 1) true (within w) kids f.3 in
    let b = bytes-render s y left d false c rest f.4 in
    let e = value-long s y left d w k v kids (render s y (d + 1) true (within w) kids) f.2 a in
    simp length-append (omega arith)
