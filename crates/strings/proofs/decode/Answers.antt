-- `strings::decode` meets its contract. The invariant: what is decoded and stored so far, and the rest to decode, make the whole,
-- whatever the pool held before the plain bytes were put there.
use Rattle.std.proofs.Common.{rules, tests, ◌∙◌, sym, arith}
use Rattle.strings.specs.Values.{plain}
use Rattle.strings.proofs.Pieces.{plain-count, turn-start, turn-done, turn-bad, turn-takes, turn-smaller, turn_on}
use Rattle.strings.proofs.decode.Goals as goal

pub put_run-requires : goal.put_run-requires
put_run-requires c = omega (arith, plain-count _ _ (c.front-plain.ensures.passed plain (λ b r k. search (rules, tests))))

pub loop-b-init : goal.loop-b-init
loop-b-init c = λ start w. turn-start _ start _ _ _ (c.front-plain.ensures.passed plain (λ b r k. search (rules, tests))) w

pub returns-in_err-piece : goal.returns-in_err-piece
returns-in_err-piece c =
    let w = turn-bad _ _ _ _ _ _ _ (c.loop-b.invariant _ c.put_run.ensures) _ _ c.in-Some.ensures.cases.0 (sym c.first_piece.ensures ∙ c.in_err-piece.was) in
    record { answer = c.from_residual.ensures ∙ w.0; stored = w.1 }

pub slice_bounds-rest-count-in-Some : goal.slice_bounds-rest-count-in-Some
slice_bounds-rest-count-in-Some c = (turn-takes _ _ _ _ _ _ _ (c.loop-b.invariant _ c.put_run.ensures) _ _ c.in-Some.ensures.cases.0 _ (sym c.first_piece.ensures ∙ c.in_ok-piece.was)).1

pub slice_bounds-rest-start-in-Some : goal.slice_bounds-rest-start-in-Some
slice_bounds-rest-start-in-Some c =
    let t = turn-takes _ _ _ _ _ _ _ (c.loop-b.invariant _ c.put_run.ensures) _ _ c.in-Some.ensures.cases.0 _ (sym c.first_piece.ensures ∙ c.in_ok-piece.was) in
    search (rules, t)

pub loop-b-smaller : goal.loop-b-smaller
loop-b-smaller c = turn-smaller _ _ _ _ _ _ _ (c.loop-b.invariant _ c.put_run.ensures) _ _ c.in-Some.ensures.cases.0 _ (sym c.first_piece.ensures ∙ c.in_ok-piece.was)

pub loop-b-preserved : goal.loop-b-preserved
loop-b-preserved c =
    λ start w. turn_on _ start _ _ _ _ _ (c.loop-b.invariant start w) _ _ c.in-Some.ensures.cases.0 _ (sym c.first_piece.ensures ∙ c.in_ok-piece.was) _ _ c.put.ensures c.step-u.ensures

pub returns : goal.returns
returns c = let w = turn-done _ _ _ _ _ _ _ (c.loop-b.invariant _ c.put_run.ensures) c.in_default.ensures.cases in record { answer = w.0; stored = w.1 }
