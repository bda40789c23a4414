-- `leaves::ranges::most_signed` meets its contract, by computing at each width.
use mathlib.Core.Path.{◌≡◌, refl}
use mathlib.Core.Bool.{Bool, true, false}
use Prim.Native.Nat.{ℕ, ◌+◌, ◌-◌, ◌^◌}
use mir.Val.{bool_byte}
use native.Mathlib.Omega.{arith}
use borrow.Author.Tests.{eq-eqb, ne_eqb}
use Rattle.definitions.specs.Integers.{most_signed}
use Rattle.leaves.proofs.ranges.most_signed.Goals as goal
use Rattle.leaves.proofs.ranges.most_signed.Goals.{then-kind-eq-I32, else-kind-eq-I32}

one-more : (width m : ℕ) (negative : Bool) → m + 1 ≡ 2 ^ (width - 1) → m + bool_byte negative ≡ most_signed width negative
unfolding most_signed
one-more width m true h = h
one-more width m false h = omega arith

pub returns : goal.returns
returns c =
    elim c.if-kind-eq-I32.branch [
      | then-kind-eq-I32 w ↦ simp (eq-eqb _ _ w.if-kind-eq-I32.true, w.most-is, c.from.ensures) (one-more 32 2147483647 c.args.negative refl)
      | else-kind-eq-I32 w ↦ simp (ne_eqb _ _ w.if-kind-eq-I32.false, w.most-is, c.from.ensures) (one-more 64 9223372036854775807 c.args.negative refl)
    ]
