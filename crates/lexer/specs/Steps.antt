-- The scanner's answers, from those of the definitions: the line of an offset, a step for a scan, the closing of a string.
use Rattle.std.specs.Prelude.{◌≡◌, ℕ, ◌+◌, ◌-◌, ◌≤◌, ◌<◌, Bool, ◌||◌, not, List, eqb, length, get_or, Option, Some, None, Result, Ok, Err}
use Rattle.std.proofs.Math.Option as maybe
use Rattle.std.proofs.Math.Option.{none, some}
use Rattle.definitions.specs.declared.Place.{Place}
use Rattle.definitions.specs.declared.Token.{Token}
use Rattle.definitions.specs.declared.Refused.{Refused}
use Rattle.definitions.specs.Refusals.{most_text, bad_token}
use Rattle.definitions.specs.Refused.{refused_as}
use Rattle.definitions.specs.Places.{newline, place_of}
use Rattle.definitions.specs.Tokens.{Scan, token, bad}
use Rattle.lexer.specs.declared.tokens.Line.{Line}
use Rattle.lexer.specs.declared.tokens.Cursor.{Cursor}

-- the line of an offset: its number, and where it began
unfoldable pub line_at : List ℕ → ℕ → Line
line_at s n = record { number = (place_of s n).line; began = n + 1 - (place_of s n).column }

abbrev pub cursor_at : List ℕ → ℕ → Cursor
cursor_at s n = record { at = n; line = line_at s n }

-- a cursor inside a text of lawful length, on the line that it stands on
pub record Located (s : List ℕ) (c : Cursor) : Type 0 where
  pub inside : c.at ≤ length s
  pub short : length s ≤ most_text
  pub line : c.line ≡ line_at s c.at

-- a cursor's numbers are small, and it stands on its line
abbrev pub Placed : Cursor → Type 0
Placed c = (c.at ≤ most_text) × (c.line.began ≤ c.at)

-- such a cursor stands at the byte b
pub record Met (s : List ℕ) (c : Cursor) (b : ℕ) : Type 0 where
  pub inside : c.at < length s
  pub byte : b ≡ get_or s c.at 0
  pub placed : Placed c

-- the place where a cursor stands
abbrev pub place_at : Cursor → Place
place_at c = record { offset = c.at; line = c.line.number; column = c.at - c.line.began + 1 }

-- a scan as the cursor answers it, on one line throughout
abbrev pub on_line : Line → Scan → Result (Token × Cursor) Refused
on_line l (token t next) = Ok (t, record { at = next; line = l })
on_line l (bad p) = Err (refused_as bad_token p)

-- a scan as the cursor answers it, on the line of its end
abbrev pub step_of : List ℕ → Scan → Result (Token × Cursor) Refused
step_of s (token t next) = Ok (t, cursor_at s next)
step_of s (bad p) = Err (refused_as bad_token p)

-- a byte other than the newline: a comment goes on with it
abbrev pub in_line : ℕ → Bool
in_line b = not (eqb b newline)

-- what a string may not hold, after a backslash either: the newline and the zero byte
abbrev pub breaks : ℕ → Bool
breaks b = eqb b 10 || eqb b 0

-- the place after the closing quote of a string whose bytes begin at p
abbrev pub closing_of : ℕ → maybe.Option ℕ → Option ℕ
closing_of p none = None
closing_of p (some n) = Some (p + n + 1)
