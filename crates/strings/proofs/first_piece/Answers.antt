-- `strings::first_piece` meets its contract: an escape after a backslash, else the byte.
use Rattle.std.proofs.Common.{◌∙◌, sym, ap}
use Rattle.strings.specs.Values.{told}
use Rattle.strings.proofs.Escaping.{first-escape, first_plain}
use Rattle.strings.proofs.first_piece.Goals as goal

pub returns-then-b-eq92 : goal.returns-then-b-eq92
returns-then-b-eq92 c = c.escape_piece.ensures ∙ ap told (sym (first-escape _ _ c.if-b-eq92.true))

pub returns : goal.returns
returns c = ap told (sym (first_plain _ _ c.if-b-eq92.false))
