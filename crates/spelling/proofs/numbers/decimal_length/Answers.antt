-- `spelling::numbers::decimal_length` meets its contract. The invariant: those counted, and those to come, are the number's.
use native.Mathlib.Omega.{arith}
use Rattle.spelling.proofs.ValueLaws.{counted_start, counted-on, counted-one, counted-two, counted-three, counted-four}
use Rattle.spelling.proofs.numbers.decimal_length.Goals as goal

pub loop-left-init : goal.loop-left-init
loop-left-init c = counted_start _ c.ranges.n.fits

pub overflow_add-more : goal.overflow_add-more
overflow_add-more c = omega (arith, c.loop-left.invariant.split, c.loop-left.invariant.few)

pub loop-left-preserved : goal.loop-left-preserved
loop-left-preserved c = counted-on c.loop-left.invariant c.loop-left-test.true

pub overflow_add-result : goal.overflow_add-result
overflow_add-result c = omega (arith, c.loop-left.invariant.split, c.loop-left.invariant.few)

pub returns-then-left-lt10 : goal.returns-then-left-lt10
returns-then-left-lt10 c = omega (arith, c.loop-left.invariant.split, counted-one _ c.if-left-lt10.true)

pub overflow_add-result-then-left-lt100 : goal.overflow_add-result-then-left-lt100
overflow_add-result-then-left-lt100 c = omega (arith, c.loop-left.invariant.split, c.loop-left.invariant.few)

pub returns-then-left-lt100 : goal.returns-then-left-lt100
returns-then-left-lt100 c = omega (arith, c.loop-left.invariant.split, counted-two _ c.if-left-lt10.false c.if-left-lt100.true)

pub overflow_add-result-then-left-lt1000 : goal.overflow_add-result-then-left-lt1000
overflow_add-result-then-left-lt1000 c = omega (arith, c.loop-left.invariant.split, c.loop-left.invariant.few)

pub returns-then-left-lt1000 : goal.returns-then-left-lt1000
returns-then-left-lt1000 c = omega (arith, c.loop-left.invariant.split, counted-three _ c.if-left-lt100.false c.if-left-lt1000.true)

pub overflow_add-result-2 : goal.overflow_add-result-2
overflow_add-result-2 c = omega (arith, c.loop-left.invariant.split, c.loop-left.invariant.few)

pub returns : goal.returns
returns c = omega (arith, c.loop-left.invariant.split, counted-four _ c.if-left-lt1000.false c.loop-left-test.false)
