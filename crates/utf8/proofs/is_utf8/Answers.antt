-- `utf8::is_utf8` meets its contract: the state is stepped through what follows the letters of one byte at the front.
use Rattle.std.proofs.Common.{rules, tests, ◌≡◌, drop, ◌∙◌}
use Rattle.std.specs.List.{fold}
use Rattle.std.proofs.lemmas.List.{take_rest}
use Rattle.std.proofs.lemmas.Iterator.{YieldsList-from_slice}
use Rattle.std.proofs.lemmas.Iterator.Consumers.{fold_from_yields_List}
use Rattle.definitions.specs.Utf8.{whole, step}
use Rattle.utf8.specs.Values.{ascii}
use Rattle.utf8.proofs.Letters.{utf8-folded}
use Rattle.utf8.proofs.is_utf8.Goals as goal

pub returns : goal.returns
returns c =
    let rest = c.iter.ensures.rest ∙ take_rest c.args.s.now c.front-plain.result in
    let end : c.fold-end.result ≡ fold step whole (drop c.front-plain.result c.args.s.now) = fold_from_yields_List _ step _ c.fold-end.result c.fold-end.ensures.ran (YieldsList-from_slice _ rest) (λ u b v q k. search (rules, tests)) in
    utf8-folded _ _ _ (c.front-plain.ensures.passed ascii (λ b r k. search (rules, tests))) end
