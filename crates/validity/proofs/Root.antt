-- The root of a table, and a whole table: it is valid if its root is good and what lies below is a good span.
use Prim.Native.Nat.{ℕ, ◌*◌, ◌≤◌}
use mathlib.Core.Bool.{true, false, ◌&&◌}
use mathlib.Core.Path.{◌≡◌}
use mathlib.Core.List.{List}
use lib.Dec.{eqb, leb}
use lib.ListN.{length}
use borrow.Author.Tests.{leb-true, eqb-true}
use Rattle.definitions.specs.declared.Node.{Node}
use Rattle.definitions.specs.Basics.{between}
use Rattle.definitions.specs.Refusals.{most_nodes, most_depth}
use Rattle.definitions.specs.Scope.{Scope, in_message, body}
use Rattle.definitions.specs.Nodes.{node_at, table_end}
use Rattle.definitions.specs.Validity.{root_good, below, valid}
use Rattle.laws.proofs.Lists.{and_parts}
use Rattle.nodes.specs.Span.{span_good}

pub record Root (w : List ℕ) : Type 0 where
  pub kind : (node_at w 0).kind ≡ body
  pub field : (node_at w 0).field ≡ 0
  pub high : (node_at w 0).high ≡ 0
  pub low : (node_at w 0).low ≡ 0
  pub some : 1 ≤ table_end w
  pub few : table_end w ≤ most_nodes
  pub room : 5 * table_end w ≤ length w

module _ (w : List ℕ) where
  pub root-parts : root_good w ≡ true → Root w
  unfolding root_good
  root-parts h =
      let a = eqb (node_at w 0).kind body in
      let b = eqb (node_at w 0).field 0 in
      let d = eqb (node_at w 0).high 0 in
      let f = eqb (node_at w 0).low 0 in
      let g = between 1 most_nodes (table_end w) in
      let p₅ = and_parts (a && b && d && f && g) (leb (5 * table_end w) (length w)) h in
      let p₄ = and_parts (a && b && d && f) g p₅.0 in
      let p₃ = and_parts (a && b && d) f p₄.0 in
      let p₂ = and_parts (a && b) d p₃.0 in
      let p₁ = and_parts a b p₂.0 in
      let q = and_parts (leb 1 (table_end w)) (leb (table_end w) most_nodes) p₄.1 in
      record {
        kind = eqb-true (node_at w 0).kind body p₁.0;
        field = eqb-true (node_at w 0).field 0 p₁.1;
        high = eqb-true (node_at w 0).high 0 p₂.1;
        low = eqb-true (node_at w 0).low 0 p₃.1;
        some = leb-true 1 (table_end w) q.0;
        few = leb-true (table_end w) most_nodes q.1;
        room = leb-true (5 * table_end w) (length w) p₅.1;
      }

  module _ (n : Node) (e : n ≡ node_at w 0) where
    pub root-end : n.end ≡ table_end w
    unfolding table_end
    root-end = rw e

-- ---- a whole table

module _ (s : List ℕ) (root : ℕ) (w pool : List ℕ) where
  pub valid-no : root_good w ≡ false → false ≡ valid s root w pool
  unfolding valid
  valid-no h = simp h

  pub valid-span : root_good w ≡ true → (c : Scope) → c ≡ in_message root → (e : ℕ) → e ≡ table_end w → span_good s pool c most_depth w 1 e ≡ valid s root w pool
  unfolding valid span_good below
  valid-span h c ec e ee = rw (ec, ee) (simp h)
