-- The first byte that does not pass a test stands after the bytes at the front that do. Past the end there are none.
use Rattle.std.proofs.Common.{◌≡◌, ℕ, suc, ◌+◌, ◌≤◌, List, length, drop, drop_of_length-le, sym, ◌∙◌, refl, Bool, true, false, cond, ltb, leb, max, not, arith, Some, None}
use borrow.Author.Tests.{ltb-false, leb-true, leb-false}
use Rattle.std.specs.Option.{unwrap_or}
use Rattle.std.specs.List.{position_or_len}
use Rattle.std.proofs.lemmas.List.Recursion.{is_position_or_len}
use Rattle.std.proofs.lemmas.List.Sums.{prefix_len-le-length}
use Rattle.definitions.specs.Basics.{when◌then◌otherwise◌}
use Rattle.definitions.specs.Integers.{front}

module _ (p : ℕ → Bool) where
  abbrev fails : ℕ → Bool
  fails b = not (p b)

  front-position : (s : List ℕ) → front p s ≡ position_or_len fails s
  unfolding front
  front-position = is_position_or_len (front p) fails refl (λ b s. go (p b) (front p s))
    where
      go : (t : Bool) (n : ℕ) → (when t then (λ _. suc n) otherwise λ _. 0) ≡ cond (not t) 0 (1 + n)
      go true n = omega arith
      go false n = refl

  pub front-first : (s : List ℕ) → unwrap_or (cond (ltb (position_or_len fails s) (length s)) (Some (position_or_len fails s)) None) (length s) ≡ front p s
  front-first s = go (ltb (position_or_len fails s) (length s)) refl ∙ sym (front-position s)
    where
      go : (t : Bool) → ltb (position_or_len fails s) (length s) ≡ t → unwrap_or (cond t (Some (position_or_len fails s)) None) (length s) ≡ position_or_len fails s
      go true e = refl
      go false e = omega (arith, ltb-false _ _ e, prefix_len-le-length (λ b. not (fails b)) s)

  pub front-past : (s : List ℕ) (at : ℕ) → length s ≤ at → at ≡ at + front p (drop at s)
  unfolding front
  front-past s at h = rw (drop_of_length-le s h, front) (omega arith)

  -- where all from a place on pass, which may lie past the end
  pub front-whole : (s : List ℕ) (at i : ℕ) → length s ≤ i → (at ≤ length s → i ≤ length s) → i + front p (drop i s) ≡ at + front p (drop at s)
      → max at (length s) ≡ at + front p (drop at s)
  front-whole s at i h k e = go (leb at (length s)) refl
    where
      go : (t : Bool) → leb at (length s) ≡ t → max at (length s) ≡ at + front p (drop at s)
      go true l = let z = k (leb-true at (length s) l) in omega (arith, front-past s i h, leb-true at (length s) l)
      go false l = omega (arith, leb-false at (length s) l, front-past s at (omega (arith, leb-false at (length s) l)))
