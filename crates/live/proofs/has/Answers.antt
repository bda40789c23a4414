-- `live::has` meets its contract: a sibling of the rank is told by `any`.
use Rattle.std.proofs.Common.{rules}
use borrow.Author.Tests.{tests}
use Rattle.live.proofs.Seeks.{any-has}
use Rattle.live.proofs.has.Goals as goal

pub returns : goal.returns
returns c = λ pool.
    let o = c.of.ensures in
    rw (o.0, o.1, o.2) at (any-has c.args.rank pool c.of.result c.any.new.self _ _ c.any.ensures.ran (λ x q k. search (rules, tests)) (λ x q k. (search (rules, tests), search (rules, tests))))
