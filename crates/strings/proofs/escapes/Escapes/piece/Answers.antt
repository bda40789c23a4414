-- `strings::escapes::Escapes::piece` meets its contract: the row that is found is the letter's.
use Rattle.std.proofs.Common.{◌∙◌, rules, tests}
use Rattle.std.proofs.lemmas.Iterator.{YieldsList-from_slice}
use Rattle.std.proofs.lemmas.Iterator.Search.{find_from_yields_List}
use Rattle.strings.proofs.Letters.{is_its, found_none, found_row}
use Rattle.strings.proofs.escapes.Escapes.piece.Goals as goal

pub returns-in_err-row : goal.returns-in_err-row
returns-in_err-row c =
    let e = find_from_yields_List (is_its c.args.letter) _ _ c.find.result c.find.ensures.ran (YieldsList-from_slice c.args.self.now.table c.iter.ensures.rest) (λ x b q k. search (rules, tests)) in
    c.from_residual.ensures ∙ found_none c.args.letter _ c.find.result c.args.self.now.kept e c.in_err-row.was

pub returns : goal.returns
returns c =
    let e = find_from_yields_List (is_its c.args.letter) _ _ c.find.result c.find.ensures.ran (YieldsList-from_slice c.args.self.now.table c.iter.ensures.rest) (λ x b q k. search (rules, tests)) in
    found_row c.args.letter _ c.find.result _ c.args.self.now.kept e c.in_ok-row.was
