-- The values of a valid table: each node's value is good, so a string or bytes value lies inside the pool.
use Prim.Native.Nat.{ℕ, zero, suc, ◌+◌, ◌-◌, ◌≤◌, ◌<◌}
use native.Mathlib.Omega.{arith}
use mathlib.Core.Bool.{Bool, true, false}
use mathlib.Core.Path.{◌≡◌, refl, sym, ◌∙◌}
use mathlib.Core.List.{List}
use lib.Dec.{eqb, ltb, leb}
use lib.ListN.{length}
use borrow.Author.Tests.{ltb-true, ltb-false, leb-true, eqb-true, eqb-false}
use Rattle.definitions.specs.declared.Node.{Node}
use Rattle.definitions.specs.Basics.{when◌then◌otherwise◌}
use Rattle.definitions.specs.Scope.{Scope, in_message, want, within, nests, body, map_entry, string}
use Rattle.definitions.specs.Refusals.{most_depth}
use Rattle.definitions.specs.Nodes.{node_at, table_end, is_run, run_of}
use Rattle.definitions.specs.Validity.{run_good, value_good, root_good, valid}
use Rattle.definitions.specs.Utf8.{utf8}
use Rattle.laws.proofs.Lists.{and_parts, true-false}
use Rattle.laws.proofs.Forest.{end_of}
use Rattle.validity.proofs.Spans.{GoodSpan, Head, span-parts, first-tiled, first_head, first_rest}
use Rattle.validity.proofs.Root.{valid-no, valid-span}

-- ---- each node of a good span has a good value

module _ (s pool : List ℕ) (w : List ℕ) where
  value_in : (f : ℕ) (c : Scope) (left i e : ℕ) → e - i ≤ f → GoodSpan s pool c left w i e
      → (j : ℕ) → i ≤ j → j < e → value_good pool (node_at w j) ≡ true
  value_in zero c left i e hf g j a b = absurd (omega arith)
  value_in (suc f) c left i e hf g j a b = at_first (eqb j i) refl (value_in f)
    where
      head_of : Head s pool c left w i
      head_of = first_head s pool c left w i e (omega arith) g

      Below : Type 0
      Below = (c : Scope) (left i e : ℕ) → e - i ≤ f → GoodSpan s pool c left w i e → (j : ℕ) → i ≤ j → j < e → value_good pool (node_at w j) ≡ true

      inner : Below → i < j → j < end_of w i → (t : Bool) → nests (node_at w i).kind ≡ t → value_good pool (node_at w j) ≡ true
      inner ih l m true n =
          ih (within (want s c (node_at w i).field)) (left - 1) (i + 1) (end_of w i)
          (let q = (first-tiled s pool c left w i e (omega arith) g).inside in omega arith)
          (span-parts s pool (within (want s c (node_at w i).field)) (left - 1) w (i + 1) (end_of w i) (head_of.inner n))
          j
          (omega arith)
          m
      inner ih l m false n = let q = head_of.leaf n in absurd (omega arith)

      after : Below → i < j → (t : Bool) → ltb j (end_of w i) ≡ t → value_good pool (node_at w j) ≡ true
      after ih l true q = inner ih l (ltb-true j (end_of w i) q) (nests (node_at w i).kind) refl
      after ih l false q =
          ih c left (end_of w i) e
          (let m = (first-tiled s pool c left w i e (omega arith) g).on in omega arith)
          (span-parts s pool c left w (end_of w i) e (first_rest s pool c left w i e (omega arith) g))
          j
          (ltb-false j (end_of w i) q)
          b

      at_first : (t : Bool) → eqb j i ≡ t → Below → value_good pool (node_at w j) ≡ true
      at_first true q ih = rw (eqb-true j i q) head_of.value
      at_first false q ih = let ne = eqb-false j i q in after ih (omega arith) (ltb j (end_of w i)) refl

-- a kind that stands for a run is neither a message nor an entry
run-plain : (k : ℕ) → is_run k ≡ true → nests k ≡ false
run-plain k h = go (eqb k body) refl (eqb k map_entry) refl
  where
    go : (a : Bool) → eqb k body ≡ a → (b : Bool) → eqb k map_entry ≡ b → nests k ≡ false
    go true p b q = true-false false (rw (eqb-true k body p) at h) refl
    go false p true q = true-false false (rw (eqb-true k map_entry q) at h) refl
    go false p false q = rw (p, q)

pub good-run : (pool : List ℕ) (n : Node) → is_run n.kind ≡ true → value_good pool n ≡ true → n.high + n.low ≤ length pool
unfolding value_good run_good
good-run pool n h v =
    let g : run_good pool n ≡ true = rw (run-plain n.kind h, h) at v in
    leb-true (n.high + n.low) (length pool)
    (and_parts (leb (n.high + n.low) (length pool)) (when eqb n.kind string then (λ _. utf8 (run_of pool n)) otherwise λ _. true) g).0

-- ---- a valid table

module _ (s : List ℕ) (root : ℕ) (w pool : List ℕ) (v : valid s root w pool ≡ true) where
  pub valid-root : root_good w ≡ true
  unfolding valid
  valid-root = go (root_good w) refl
    where
      go : (t : Bool) → root_good w ≡ t → root_good w ≡ true
      go true e = e
      go false e = true-false (valid s root w pool) v (sym (valid-no s root w pool e))

  pub valid-below : GoodSpan s pool (in_message root) most_depth w 1 (table_end w)
  valid-below =
      span-parts s pool (in_message root) most_depth w 1 (table_end w)
      (valid-span s root w pool valid-root (in_message root) refl (table_end w) refl ∙ v)

  pub valid-value : (i : ℕ) → 1 ≤ i → i < table_end w → value_good pool (node_at w i) ≡ true
  valid-value i h k = value_in s pool w (table_end w - 1) (in_message root) most_depth 1 (table_end w) (omega arith) valid-below i h k
