-- `fronts::front` meets its contract: the first byte that does not pass, or the end.
use Rattle.std.proofs.Common.{rules, tests, ◌∙◌, not}
use Rattle.std.proofs.lemmas.Iterator.{YieldsList-from_slice}
use Rattle.std.proofs.lemmas.Iterator.Search.{position_from_yields_List}
use Rattle.fronts.proofs.First.{front-first}
use Rattle.fronts.proofs.front.Goals as goal

pub returns-clause-passed : goal.returns-clause-passed
returns-clause-passed g c = λ p h.
    let found = position_from_yields_List (λ b. not (p b)) _ _ c.position.result c.position.ensures.ran (YieldsList-from_slice c.args.s.now cc) (λ x b q k. search (rules, tests, h)) in
    c.unwrap_or.ensures ∙ rw found (front-first p c.args.s.now)
