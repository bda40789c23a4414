-- What the readers presume and what they answer.
use Rattle.std.specs.Prelude.{◌≡◌, ℕ, ◌+◌, ◌*◌, ◌/◌, ◌≤◌, ◌<◌, true, List, ltb, eqb, length, Option, Some, None, Result, Ok, Err}
use Rattle.std.proofs.lemmas.List.Edits.{sets}
use Rattle.definitions.specs.declared.Spot.{Spot}
use Rattle.definitions.specs.declared.Token.{Token}
use Rattle.definitions.specs.declared.Refused.{Refused}
use Rattle.definitions.specs.declared.Want.{Want}
use Rattle.definitions.specs.Basics.{when◌then◌otherwise◌}
use Rattle.definitions.specs.Refusals.{most_text}
use Rattle.definitions.specs.Refused.{refused_as}
use Rattle.definitions.specs.Image.{message_count, field_count, enum_count, field, is_map}
use Rattle.definitions.specs.Scope.{i32, u32, enum, body, map_entry, within, has_field}
use Rattle.definitions.specs.Reading.{opens, closer_of}
use Rattle.definitions.specs.Loop.{Out, done, refused}
use Rattle.lexer.specs.declared.tokens.Line.{Line}
use Rattle.lexer.specs.declared.tokens.Cursor.{Cursor}
use Rattle.lexer.specs.Steps.{line_at}
use Rattle.leaves.specs.declared.Position.{Position}

-- ---- answers, with document 01's numbers

-- a reader's answer
abbrev pub Answer : Type 0
Answer = Result Position Refused

-- the spot after, with the line that it stands on, as offsets have lines
abbrev pub answer_of : (ℕ → Line) → Out → Answer
answer_of on (done q w b) = Ok (record { spot = q; line = on q.at })
answer_of on (refused why at) = Err (refused_as why at)

-- the bits of a signed type, and of an unsigned one
abbrev pub signed_width : ℕ → ℕ
signed_width kind = when eqb kind i32 then (λ _. 32) otherwise λ _. 64

abbrev pub unsigned_width : ℕ → ℕ
unsigned_width kind = when eqb kind u32 then (λ _. 32) otherwise λ _. 64

-- node k's words stored, where the table has room for them
unfoldable pub put_at : List ℕ → ℕ → List ℕ → List ℕ
put_at e k w = when ltb k (length e / 5) then (λ _. sets e (5 * k) w) otherwise λ _. e

-- ---- what is presumed

-- a cursor is on the line that it stands on
abbrev pub OnLine : List ℕ → Cursor → Type 0
OnLine s c = c.line ≡ line_at s c.at

-- a spot in a text and its line, with no more nodes and bytes than places passed
pub record Fair (s : List ℕ) (p : Position) : Type 0 where
  pub inside : p.spot.at ≤ length s
  pub nodes : p.spot.node ≤ p.spot.at + 1
  pub bytes : p.spot.byte ≤ p.spot.at
  pub line : p.line ≡ line_at s p.spot.at

-- a node's numbers fit its words
pub record Holds (w : Want) (q : Spot) : Type 0 where
  pub field : w.field < 4096
  pub node : q.node ≤ most_text + 2
  pub byte : q.byte ≤ most_text

-- what is wanted is there in the schema
pub record Fits (image : List ℕ) (w : Want) : Type 0 where
  pub least : 1 ≤ w.kind
  pub most : w.kind ≤ map_entry
  pub enums : w.kind ≡ enum → w.reference < enum_count image
  pub messages : w.kind ≡ body → w.reference < message_count image
  pub maps : w.kind ≡ map_entry → (w.reference < field_count image) × (is_map (field image w.reference) ≡ true)

-- a field is one of those of a message, or of an entry
abbrev pub Inside : List ℕ → Want → ℕ → Type 0
Inside image w i = has_field image (within w) i ≡ true

-- the closer that matches an opener; no other token has one
abbrev pub closer_for : ℕ → ℕ → Option ℕ
closer_for kind t = when opens kind t then (λ _. Some (closer_of t)) otherwise λ _. None

-- a token lies inside the text
pub record Reached (s : List ℕ) (t : Token) (n : ℕ) : Type 0 where
  pub forward : t.start.offset ≤ n
  pub inside : n ≤ length s

-- ---- what is answered

-- from e to x, and from f to y, what a reading gives was stored from the spot q on, if there is room for it
abbrev pub Wrote : (e x f y : List ℕ) → Spot → Out → Type 0
Wrote e x f y q (done p w b) = 5 * p.node ≤ length e → p.byte ≤ length f → (x ≡ sets e (5 * q.node) w) × (y ≡ sets f q.byte b)
Wrote e x f y q (refused why at) = Unit {0}

pub record Answers (on : ℕ → Line) (e x f y : List ℕ) (q : Spot) (o : Out) (r : Answer) : Type 0 where
  pub answer : r ≡ answer_of on o
  pub wrote : Wrote e x f y q o

-- nothing goes into the pool, whatever it holds
abbrev pub AnswersHere : (ℕ → Line) → (e x : List ℕ) → Spot → Out → Answer → Type 0
AnswersHere on e x q o r = (f : List ℕ) → Answers on e x f f q o r

-- the same, however offsets have lines, if the cursor at the end is on its own
abbrev pub AnswersUpTo : Cursor → (e x : List ℕ) → Spot → Out → Answer → Type 0
AnswersUpTo c e x q o r = (on : ℕ → Line) → c.line ≡ on c.at → AnswersHere on e x q o r
