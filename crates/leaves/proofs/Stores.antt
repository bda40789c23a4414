-- Stores in a node table: a node's where there is room, and a parent's after its children's.
use mathlib.Core.Path.{◌≡◌, sym, ◌∙◌, refl}
use Prim.Native.Nat.{ℕ, ◌≤◌, ◌<◌, ◌+◌, ◌*◌, ◌/◌}
use mathlib.Core.List.{List, ◌++◌}
use native.Mathlib.Omega.{arith}
use native.Mathlib.Numerals.{towards_suc}
use lib.ListN.{length, set}
use lib.Seq.{sets}
use borrow.Author.Tests.{lt-ltb, le-ltb}
use Rattle.definitions.specs.declared.Node.{Node}
use Rattle.definitions.specs.Nodes.{words}
use Rattle.laws.proofs.Stores.{sets-append, sets_below}
use Rattle.leaves.specs.Answers.{put_at}

-- five stores in a row are the words of a node
pub five-sets : (e : List ℕ) (i : ℕ) (n : Node) → set (set (set (set (set e i n.kind) (i + 1) n.field) (i + 2) n.high) (i + 3) n.low) (i + 4) n.end ≡ sets e i (words n)
five-sets e i n = simp towards_suc

pub put-fits : (e : List ℕ) (k : ℕ) (w : List ℕ) → k < length e / 5 → put_at e k w ≡ sets e (5 * k) w
unfolding put_at
put-fits e k w h = simp (lt-ltb _ _ h)

pub put-past : (e : List ℕ) (k : ℕ) (w : List ℕ) → length e / 5 ≤ k → put_at e k w ≡ e
unfolding put_at
put-past e k w h = simp (le-ltb _ _ h)

pub put_five : (e : List ℕ) (k : ℕ) (n : Node) → k < length e / 5
    → set (set (set (set (set e (k * 5) n.kind) (k * 5 + 1) n.field) (k * 5 + 2) n.high) (k * 5 + 3) n.low) (k * 5 + 4) n.end ≡ put_at e k (words n)
put_five e k n h =
    let q : k * 5 ≡ 5 * k = omega arith in
    rw q (five-sets e (5 * k) n ∙ sym (put-fits e k (words n) h))

-- a node's words stored after those of its children
pub parent-after : (e v : List ℕ) (k : ℕ) (n : Node) → sets (sets e (5 * (k + 1)) v) (5 * k) (words n) ≡ sets e (5 * k) (words n ++ v)
parent-after e v k n =
    let q : 5 * k + 5 ≡ 5 * (k + 1) = omega arith in
    sets_below (words n) v e (5 * k) (5 * (k + 1)) (omega arith) ∙ sym (sets-append (words n) v e (5 * k) ∙ rw q refl)

pub parent-put : (e x y v : List ℕ) (k : ℕ) (n : Node) → x ≡ sets e (5 * (k + 1)) v → k < length x / 5 → y ≡ put_at x k (words n) → y ≡ sets e (5 * k) (words n ++ v)
parent-put e x y v k n hx hk hy = hy ∙ put-fits x k (words n) hk ∙ rw hx (parent-after e v k n)
