-- `schema::runs_good` meets its contract. The invariant: the runs passed begin at running totals, the last of which is `total`.
use mathlib.Core.Path.{◌≡◌, refl, sym, ◌∙◌, ap}
use Prim.Native.Nat.{ℕ, ◌+◌, ◌*◌, ◌<◌}
use mathlib.Core.List.{List}
use native.Mathlib.Omega.{arith}
use lib.ListN.{drop}
use borrow.Author.Tests.{eq-eqb}
use Rattle.definitions.specs.declared.Span.{Span}
use Rattle.definitions.specs.Image as spec
use Rattle.definitions.specs.Image.{span_of}
use Rattle.bits.proofs.BitLaws.{bits_below}
use Rattle.laws.proofs.Tests.{begins, all_start, all_more, total-step, running-fails, running-done}
use Rattle.schema.proofs.runs_good.Goals as goal
use Rattle.schema.proofs.runs_good.Invariants.{at-index, Passed}

start : (f : ℕ → Span) (count : ℕ) → Passed f count 0 0
unfolding spec.total
start f count = record { below = omega arith; small = omega arith; sum = refl; good = all_start (begins f) }

next : (f : ℕ → Span) (count i total : ℕ) (run : Span) → Passed f count i total → i < count → run ≡ f i → run.count < 4096 → run.first ≡ total → Passed f count (i + 1) (total + run.count)
next f count i total run p h e l g =
    record {
      below = omega arith;
      small = omega (arith, p.small);
      sum = sums;
      good = all_more i (begins f) p.good (eq-eqb (f i).first (spec.total f i) (ap (λ (r : Span). r.first) (sym e) ∙ g ∙ p.sum));
    }
  where
    sums : total + run.count ≡ spec.total f (i + 1)
    sums = rw (e, total-step f i, p.sum) refl

few : (s : List ℕ) (a : ℕ) (run : Span) → run ≡ span_of (drop a s) → run.count < 4096
few s a run e = rw e (bits_below (drop a s) 12 12 12 (omega arith))

pub loop-i-init : goal.loop-i-init
loop-i-init c = start (at-index c.args.image.now c.args.at) c.args.count

pub returns-then-run-total : goal.returns-then-run-total
returns-then-run-total c = sym (running-fails (at-index c.args.image.now c.args.at) c.args.count c.args.size c.loop-i.i c.loop-i-test.true (λ z. c.if-run-total.true (ap (λ (r : Span). r.first) c.span_at-run.ensures ∙ z ∙ sym c.loop-i.invariant.sum)))

pub overflow_add-total : goal.overflow_add-total
overflow_add-total c = omega (arith, c.loop-i.invariant.small, few c.args.image.now (c.args.at + 3 * c.loop-i.i) c.span_at-run.result c.span_at-run.ensures)

pub loop-i-preserved : goal.loop-i-preserved
loop-i-preserved c = next (at-index c.args.image.now c.args.at) c.args.count c.loop-i.i c.loop-i.total c.span_at-run.result c.loop-i.invariant c.loop-i-test.true c.span_at-run.ensures (few c.args.image.now (c.args.at + 3 * c.loop-i.i) c.span_at-run.result c.span_at-run.ensures) c.if-run-total.false

pub returns : goal.returns
returns c =
    let e : c.loop-i.i ≡ c.args.count = omega (arith, c.loop-i.invariant.below, c.loop-i-test.false) in
    running-done (at-index c.args.image.now c.args.at) c.args.count c.args.size c.loop-i.total (rw (← e) c.loop-i.invariant.good) (rw (← e) c.loop-i.invariant.sum)
