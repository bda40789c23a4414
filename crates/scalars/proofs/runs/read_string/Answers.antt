-- `scalars::runs::read_string` meets its contract: a bad token, no string, a bad escape, a string that is not UTF-8, and one that is stored.
use lib.Dec.{eqb}
use Rattle.definitions.specs.Scope.{string}
use Prim.Native.Nat.{◌+◌, ◌-◌}
use mathlib.Core.Path.{ap}
use native.Mathlib.Omega.{arith}
use Rattle.std.specs.Prelude.{Err}
use Rattle.std.proofs.lemmas.Result.{err_from_is_err_and}
use Rattle.laws.proofs.Reach.{reach}
use Rattle.laws.proofs.Goes.{part-le}
use Rattle.leaves.proofs.Returns.{no-answers, answers_by, run-answers}
use Rattle.leaves.proofs.Steps.{scanned, scanned-line, bad-answers, undecoded-is, decoded-is, string-bad, string-other, string-undecoded, string-broken, string-fine, string-room, broken-by}
use Rattle.strings.proofs.Decoding.{decoded_front-all}
use Rattle.scalars.proofs.runs.read_string.Goals as goal

pub returns-in_err-t : goal.returns-in_err-t
returns-in_err-t c =
    let p = err_from_is_err_and c.from_residual.result c.from_residual.ensures.1 in
    rw (p.1, p.2) (bad-answers _ _ _ _ _ _ _ _ _ c.in_err-t.ensures (string-bad _ _ _))

pub returns-then-t-ne-STRING : goal.returns-then-t-ne-STRING
returns-then-t-ne-STRING c = no-answers _ _ _ _ _ _ _ _ _ (string-other _ _ _ _ _ (scanned _ _ _ _ c.in_ok-t.ensures) c.if-t-ne-STRING.true) (ap Err c.at.ensures)

pub overflow_add-from : goal.overflow_add-from
overflow_add-from c = let z = reach _ _ _ _ c.requires.0.inside (scanned _ _ _ _ c.in_ok-t.ensures) in omega (arith, z.quotes c.if-t-ne-STRING.false, z.within, c.args.source.now.short)

pub overflow_sub-to : goal.overflow_sub-to
overflow_sub-to c = let z = reach _ _ _ _ c.requires.0.inside (scanned _ _ _ _ c.in_ok-t.ensures) in omega (arith, z.quotes c.if-t-ne-STRING.false, z.within)

pub slice_bounds-decode-count : goal.slice_bounds-decode-count
slice_bounds-decode-count c = let z = reach _ _ _ _ c.requires.0.inside (scanned _ _ _ _ c.in_ok-t.ensures) in omega (arith, z.quotes c.if-t-ne-STRING.false, z.within)

pub slice_bounds-decode-start : goal.slice_bounds-decode-start
slice_bounds-decode-start c = let z = reach _ _ _ _ c.requires.0.inside (scanned _ _ _ _ c.in_ok-t.ensures) in omega (arith, z.quotes c.if-t-ne-STRING.false, z.within)

pub slice_bounds-decode-end : goal.slice_bounds-decode-end
slice_bounds-decode-end c = let z = reach _ _ _ _ c.requires.0.inside (scanned _ _ _ _ c.in_ok-t.ensures) in omega (arith, z.quotes c.if-t-ne-STRING.false, z.within)

pub decode-requires : goal.decode-requires
decode-requires c =
    let z = reach _ _ _ _ c.requires.0.inside (scanned _ _ _ _ c.in_ok-t.ensures) in
    let p = part-le c.args.source.now.text.now (c.in_ok-t.t.start.offset + 1) (c.in_ok-t.after.at - 1) in
    omega (arith, p, z.quotes c.if-t-ne-STRING.false, z.within, c.args.source.now.short, c.requires.1.byte)

pub returns-in_default : goal.returns-in_default
returns-in_default c =
    let u = string-undecoded _ _ _ _ _ (scanned _ _ _ _ c.in_ok-t.ensures) c.if-t-ne-STRING.false (undecoded-is _ c.in_default.ensures.answer) in
    no-answers _ _ _ _ _ _ _ _ _ u (ap Err c.at-in_default.ensures)

pub returns-then-is_broken : goal.returns-then-is_broken
returns-then-is_broken c =
    let d = decoded-is _ _ c.in-Some.ensures.answer in
    no-answers _ _ _ _ _ _ _ _ _ (string-broken _ _ _ _ _ (scanned _ _ _ _ c.in_ok-t.ensures) c.if-t-ne-STRING.false d.0 d.1 (broken-by _ (eqb c.args.w.kind string) _ _ c.if-is_broken.ensures d.3)) (ap Err c.at-then-is_broken.ensures)

pub overflow_cast-string : goal.overflow_cast-string
overflow_cast-string c =
    let d = decoded-is _ _ c.in-Some.ensures.answer in
    let room = string-room _ _ _ _ d.0 c.requires.0 c.args.source.now.short (scanned _ _ _ _ c.in_ok-t.ensures) c.if-t-ne-STRING.false d.1 in
    omega (arith, room, d.2)

pub overflow_add-result : goal.overflow_add-result
overflow_add-result c =
    let d = decoded-is _ _ c.in-Some.ensures.answer in
    let room = string-room _ _ _ _ d.0 c.requires.0 c.args.source.now.short (scanned _ _ _ _ c.in_ok-t.ensures) c.if-t-ne-STRING.false d.1 in
    omega (arith, room, d.2)

pub returns : goal.returns
returns c =
    let d = decoded-is _ _ c.in-Some.ensures.answer in
    answers_by _ _ _ _ _ _ _ _ (string-fine _ c.args.w c.args.here.spot _ _ (scanned _ _ _ _ c.in_ok-t.ensures) c.if-t-ne-STRING.false d.0 d.1 (broken-by _ (eqb c.args.w.kind string) _ _ c.if-is_broken.ensures d.3))
    (run-answers _ _ _ _ c.args.w c.args.here.spot _ _ d.0 _ d.2 (rw c.from.ensures at c.put.ensures) c.in-Some.ensures.stored (decoded_front-all _ _ d.1) (scanned-line _ _ _ _ c.in_ok-t.ensures))
