-- `lexer::tokens::Cursor::colon` meets its contract: a colon right here is what a scan finds.
use mathlib.Core.Path.{◌∙◌}
use Rattle.std.proofs.Common.{rules}
use Rattle.lexer.proofs.Lines.{placed, colon-on}
use Rattle.lexer.proofs.tokens.Cursor.colon.Goals as goal

pub token-requires : goal.token-requires
token-requires c = placed c.requires

pub returns-then-eq : goal.returns-then-eq
returns-then-eq c = c.token.ensures ∙ colon-on c.requires (search rules) (search rules)
