-- Tables that are taken, and what is told of those that are not.
use Prim.Native.Nat.{ℕ, ◌≤◌, ◌<◌}
use mathlib.Core.Bool.{true, false, ◌&&◌}
use mathlib.Core.Path.{◌≡◌}
use mathlib.Core.List.{List}
use mathlib.Core.Option.{none}
use borrow.Author.Tests.{lt-ltb, le-ltb, ltb-true}
use Rattle.definitions.specs.Image.{accepted, is_message, message_count}
use Rattle.definitions.specs.Scope.{in_message}
use Rattle.definitions.specs.Validity.{valid, below}
use Rattle.definitions.specs.Live.{tree_of, meaning}
use Rattle.laws.proofs.Lists.{and_parts}
use Rattle.survey.specs.Survey.{taken, count, value_count, lacking, missing_field}

module _ (s : List ℕ) (root : ℕ) (w pool : List ℕ) where
  pub taken-schema : accepted s ≡ false → false ≡ taken s root w pool
  unfolding taken
  taken-schema h = rw h

  module _ (a : accepted s ≡ true) where
    pub taken-root : message_count s ≤ root → false ≡ taken s root w pool
    unfolding taken is_message
    taken-root h = rw (a, le-ltb root (message_count s) h)

    pub taken-table : root < message_count s → valid s root w pool ≡ taken s root w pool
    unfolding taken is_message
    taken-table h = rw (a, lt-ltb root (message_count s) h)

  pub record Taken : Type 0 where
    pub good : accepted s ≡ true
    pub rooted : root < message_count s
    pub valued : valid s root w pool ≡ true

  pub taken-parts : taken s root w pool ≡ true → Taken
  unfolding taken is_message
  taken-parts h =
      let p = and_parts (accepted s && is_message s root) (valid s root w pool) h in
      let q = and_parts (accepted s) (is_message s root) p.0 in
      record { good = q.0; rooted = ltb-true root (message_count s) q.1; valued = p.1 }

  -- ---- what is told

  pub values-none : taken s root w pool ≡ false → 0 ≡ value_count s root w pool
  unfolding value_count
  values-none h = rw h

  pub values-some : taken s root w pool ≡ true → count false (meaning s root w pool) ≡ value_count s root w pool
  unfolding value_count
  values-some h = rw h

  pub missing-none : taken s root w pool ≡ false → none ≡ missing_field s root w pool
  unfolding missing_field
  missing-none h = rw h

  pub missing-some : taken s root w pool ≡ true → lacking s (in_message root) (tree_of pool (below w)) ≡ missing_field s root w pool
  unfolding missing_field
  missing-some h = rw h
