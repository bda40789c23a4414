-- `records::names::same` meets its contract. The invariant: the bytes passed agree.
use mathlib.Core.Path.{◌≡◌, sym, ap}
use mathlib.Core.Logic.{⊎_elim}
use Prim.Native.Nat.{ℕ, ◌+◌, ◌-◌, ◌≤◌, ◌<◌}
use mathlib.Core.List.{List}
use native.Mathlib.Omega.{arith}
use native.Mathlib.Nat.{eq-or-lt_of_le}
use lib.ListN.{length, get_or}
use lib.Seq.{ext_get_or}
use borrow.Author.Count.{below_more}
use Rattle.laws.proofs.Lists.{eq-same, ne_same}
use Rattle.records.proofs.names.same.Goals as goal

unlike : (a b : List ℕ) (i : ℕ) → (get_or a i 0 ≡ get_or b i 0 → ⊥) → a ≡ b → ⊥
unlike a b i h e = h (ap (λ (l : List ℕ). get_or l i 0) e)

alike : (a b : List ℕ) (last : ℕ) → length a ≡ length b → length a ≡ last + 1 → ((k : ℕ) → k < last → get_or a k 0 ≡ get_or b k 0) → get_or a last 0 ≡ get_or b last 0 → a ≡ b
alike a b last e n h g = ext_get_or 0 a b e (λ i l. ⊎_elim (λ q. rw q g) (h i) (eq-or-lt_of_le (omega arith)))

pub returns-then-a-b : goal.returns-then-a-b
returns-then-a-b c = sym (ne_same c.args.a.now c.args.b.now (λ e. c.if-a-b.true (ap length e)))

pub returns-then-a-eq0 : goal.returns-then-a-eq0
returns-then-a-eq0 c = sym (eq-same c.args.a.now c.args.b.now (ext_get_or 0 c.args.a.now c.args.b.now c.if-a-b.false (λ i l. absurd (omega arith))))

pub returns-then-a-last : goal.returns-then-a-last
returns-then-a-last c = sym (ne_same c.args.a.now c.args.b.now (unlike c.args.a.now c.args.b.now (length c.args.a.now - 1) c.if-a-last.true))

pub loop-i-init : goal.loop-i-init
loop-i-init c = λ k h. absurd (omega arith)

pub returns-then-a-i : goal.returns-then-a-i
returns-then-a-i c = sym (ne_same c.args.a.now c.args.b.now (unlike c.args.a.now c.args.b.now c.loop-i.i c.if-a-i.true))

pub loop-i-preserved : goal.loop-i-preserved
loop-i-preserved c = below_more _ _ c.loop-i.invariant c.if-a-i.false

pub returns : goal.returns
returns c =
    let a = c.args.a.now in
    let b = c.args.b.now in
    let n : length a - 1 ≤ c.loop-i.i = c.loop-i-test.false in
    sym (eq-same a b (alike a b (length a - 1) c.if-a-b.false (omega arith) (λ k h. c.loop-i.invariant k (omega arith)) c.if-a-last.false))
