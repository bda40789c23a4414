-- A value's bytes, lent from the pool: in a valid table each run lies inside the pool.
use Prim.Native.Nat.{ℕ, zero, suc, ◌+◌, ◌-◌, ◌≤◌, ◌<◌}
use native.Mathlib.Omega.{arith}
use mathlib.Core.Bool.{Bool, true, false}
use mathlib.Core.Path.{◌≡◌, refl, ◌∙◌}
use mathlib.Core.List.{List, []}
use Rattle.std.specs.Prelude.{Some, None}
use lib.Dec.{ltb}
use lib.ListN.{length, take, drop}
use borrow.Author.Tests.{ltb-true, lt-ltb, le-ltb}
use Rattle.definitions.specs.declared.Node.{Node}
use Rattle.definitions.specs.Scope.{body}
use Rattle.definitions.specs.Nodes.{node_at, table_end, is_run}
use Rattle.definitions.specs.Validity.{valid}
use Rattle.definitions.specs.Access.{is_value}
use Rattle.laws.proofs.Lists.{and_parts, true-false}
use Rattle.nodes.proofs.Words.{run-part}
use Rattle.validity.proofs.Root.{root-parts}
use Rattle.validity.proofs.Values.{good-run, valid-root, valid-value}
use Rattle.message.specs.declared.access.Run.{Run}
use Rattle.message.specs.Value.{Lendable, value_run, lent_run}

pub valid-lendable : (s : List ℕ) (root : ℕ) (w pool : List ℕ) → valid s root w pool ≡ true → Lendable w pool
unfolding is_value
valid-lendable s root w pool v = record { root = valid-root s root w pool v; runs = runs }
  where
    runs : (i : ℕ) → is_value w i ≡ true → (node_at w i).high + (node_at w i).low ≤ length pool
    runs zero h =
        true-false (is_run body)
        (rw (root-parts w (valid-root s root w pool v)).kind at (and_parts (ltb zero (table_end w)) (is_run (node_at w zero).kind) h).1) refl
    runs (suc i) h =
        let p = and_parts (ltb (suc i) (table_end w)) (is_run (node_at w (suc i)).kind) h in
        good-run pool (node_at w (suc i)) p.1 (valid-value s root w pool v (suc i) (omega arith) (ltb-true (suc i) (table_end w) p.0))

-- ---- a value's run

module _ (w : List ℕ) (i : ℕ) where
  pub value-past : table_end w ≤ i → None ≡ value_run w i
  unfolding value_run is_value
  value-past h = simp (le-ltb i (table_end w) h)

  module _ (h : i < table_end w) (n : Node) (e : n ≡ node_at w i) where
    pub value-at : is_run n.kind ≡ true → Some (record { start = n.high; length = n.low }) ≡ value_run w i
    unfolding value_run is_value
    value-at k = let q : is_run (node_at w i).kind ≡ true = rw e at k in rw e (simp (lt-ltb i (table_end w) h, q))

    pub value-other : is_run n.kind ≡ false → None ≡ value_run w i
    unfolding value_run is_value
    value-other k = let q : is_run (node_at w i).kind ≡ false = rw e at k in simp (lt-ltb i (table_end w) h, q)

  module _ (pool : List ℕ) where
    pub lent_none : value_run w i ≡ None → [] ≡ lent_run w pool i
    unfolding value_run lent_run
    lent_none h = go (is_value w i) refl
      where
        go : (t : Bool) → is_value w i ≡ t → [] ≡ lent_run w pool i
        go true e = cc (rw (e, value_run) at h)
        go false e = simp e

    module _ (r : Run) (h : value_run w i ≡ Some r) where
      pub lent_at : (is_value w i ≡ true) × (r ≡ record { start = (node_at w i).high; length = (node_at w i).low })
      unfolding value_run
      lent_at = go (is_value w i) refl
        where
          go : (t : Bool) → is_value w i ≡ t → (is_value w i ≡ true) × (r ≡ record { start = (node_at w i).high; length = (node_at w i).low })
          go true e = let x = rw (e, value_run) at h in (e, cc x)
          go false e = cc (rw (e, value_run) at h)

      pub lent-part : take (r.start + r.length - r.start) (drop r.start pool) ≡ lent_run w pool i
      unfolding lent_run
      lent-part = rw lent_at.1 (run-part pool (node_at w i) ∙ simp lent_at.0)

      pub lent-inside : Lendable w pool → r.start + r.length ≤ length pool
      lent-inside l = rw lent_at.1 (l.runs i lent_at.0)
