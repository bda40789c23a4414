-- A table carried from a newer schema to an older one: one call that prints it under the newer and reads the text under the older.
--
-- For any arguments, the answer and what each lent room holds afterwards are those of the two calls, one after the other:
--   * the print is refused: its refusal, Print, and no room is changed;
--   * the text is printed and the read refused: its refusal, Read; the buffer holds the text, the nodes and bytes are as they were;
--   * both are granted: what reading made.
-- In the setting of demand 3, with a buffer that has room for the text:
--   * if the older schema knows every live name, and there is room for the live values, the nodes and bytes lent hold a valid table of
--     the older schema with the same live values under the same names, which prints the same;
--   * if not, the answer is 6 or 7 at the first live name of the text that the older schema lacks: its offset, line and column in the
--     text, where it stands in the buffer; and the nodes and bytes lent are as they were.
use Rattle.std.specs.Prelude.{ℕ, suc, ◌+◌, ◌≤◌, ◌≡◌, true, false, List, leb, length, take, Result, Ok, Err}
use Rattle.std.proofs.Math.Option.{some}
use Rattle.definitions.specs.Basics.{part}
use Rattle.definitions.specs.Refusals.{Answer, given, denied, most_text}
use Rattle.definitions.specs.Refused.{refused_as}
use Rattle.definitions.specs.Image.{accepted, is_message}
use Rattle.definitions.specs.Extending.{extends}
use Rattle.definitions.specs.Scope.{in_message}
use Rattle.definitions.specs.Validity.{valid}
use Rattle.definitions.specs.Live.{meaning}
use Rattle.definitions.specs.Names.{names}
use Rattle.definitions.specs.Places.{place_of}
use Rattle.definitions.specs.Reading.{Made, read_answer, read_nodes, read_pool}
use Rattle.definitions.specs.Print.{Style, print_text, print_answer}
use Rattle.trees.specs.Laying.{size, laid_bytes}
use Rattle.compatibility.specs.Demand.{by_name, Spelled, spelling, spelled, lacking, knows_all, refusal_of, all_named, Room}
use Rattle.parse.specs.declared.Made as code
use Rattle.carry.specs.declared.NotCarried.{NotCarried}
use Rattle.carry.specs.declared.NotCarried.TheVariants as not_carried

-- ---- the answer and the rooms, for any arguments

-- document 01's numbers and values for each case of the answer: the read comes after a print that is granted
abbrev pub read_as : Answer Made → Result code.Made NotCarried
read_as (given m) = Ok (record { nodes = m.nodes; bytes = m.bytes })
read_as (denied why at) = Err (not_carried.Read (refused_as why at))

abbrev pub carried_of : Answer ℕ → (Unit {0} → Answer Made) → Result code.Made NotCarried
carried_of (given n) next = read_as (next tt)
carried_of (denied why at) next = Err (not_carried.Print (refused_as why at))

-- what a room that is lent to the read holds afterwards
abbrev pub after : Answer ℕ → List ℕ → (Unit {0} → List ℕ) → List ℕ
after (given n) lent next = next tt
after (denied why at) lent next = lent

unfoldable pub carry_answer : (newer older : List ℕ) (y : Style) (root : ℕ) (w pool : List ℕ) (room count size : ℕ) → Result code.Made NotCarried
carry_answer newer older y root w pool room count size =
    carried_of (print_answer newer y root w pool room) (λ _. read_answer older root (print_text newer y root w pool) count size)

unfoldable pub carry_nodes : (newer older : List ℕ) (y : Style) (root : ℕ) (w pool : List ℕ) (room : ℕ) (nodes : List ℕ) (size : ℕ) → List ℕ
carry_nodes newer older y root w pool room nodes size =
    after (print_answer newer y root w pool room) nodes (λ _. read_nodes older root (print_text newer y root w pool) nodes size)

unfoldable pub carry_pool : (newer older : List ℕ) (y : Style) (root : ℕ) (w pool : List ℕ) (room count : ℕ) (bytes : List ℕ) → List ℕ
carry_pool newer older y root w pool room count bytes =
    after (print_answer newer y root w pool room) bytes (λ _. read_pool older root (print_text newer y root w pool) count bytes)

-- ---- demand 3, said of the lent rooms

-- the demand's setting (compatibility, `Setting`), less that words have 32 bits and bytes 8, which slices of code have; and a buffer
-- that has room for the text
pub record Carriable (newer older : List ℕ) (root : ℕ) (w pool : List ℕ) (y : Style) (room : ℕ) : Type 0 where
  pub newer_good : accepted newer ≡ true
  pub older_good : accepted older ≡ true
  pub extending : extends newer older ≡ true
  pub root_good : is_message older root ≡ true
  pub table_good : valid newer root w pool ≡ true
  pub named : all_named newer (in_message root) (meaning newer root w pool) ≡ true
  pub short : leb (length (print_text newer y root w pool)) most_text ≡ true
  pub fits : length (print_text newer y root w pool) ≤ room

-- read: what the nodes and bytes lent hold after the call, `nodes` and `bytes`
pub record Same (newer older : List ℕ) (root : ℕ) (w pool : List ℕ) (r : Result code.Made NotCarried) (nodes bytes : List ℕ) : Type 0 where
  pub answer : r ≡ Ok (record { nodes = suc (size (meaning newer root w pool)); bytes = length (laid_bytes (meaning newer root w pool)) })
  pub good : valid older root nodes bytes ≡ true
  pub same :
      by_name older (in_message root) (meaning older root nodes bytes)
      ≡ by_name newer (in_message root) (meaning newer root w pool)
  pub printed : (z : Style) → print_text older z root nodes bytes ≡ print_text newer z root w pool

-- refused: the first live name of the text that the older schema lacks, where it stands in the buffer, 6 or 7 at its place in the text,
-- and no word or byte changed
pub record Lacks
    (newer older : List ℕ) (root : ℕ) (w pool : List ℕ) (y : Style) (r : Result code.Made NotCarried) (buffer before nodes held bytes : List ℕ) : Type 0 where
  pub first : Spelled
  pub lacks : lacking older (spelled newer y 0 true (in_message root) (meaning newer root w pool) 0) ≡ some first
  pub stands : part buffer first.at (first.at + length (spelling first.name)) ≡ spelling first.name
  pub answer : r ≡ Err (not_carried.Read (refused_as (refusal_of first.name) (place_of (print_text newer y root w pool) first.at)))
  pub nodes_kept : nodes ≡ before
  pub bytes_kept : bytes ≡ held

-- the answer r, the buffer afterwards, and the nodes and bytes lent: `before` and `held` at first, `nodes` and `bytes` afterwards
pub record Carries
    (newer older : List ℕ) (root : ℕ) (w pool : List ℕ) (y : Style) (r : Result code.Made NotCarried) (buffer before nodes held bytes : List ℕ) : Type 0 where
  pub text : take (length (print_text newer y root w pool)) buffer ≡ print_text newer y root w pool
  pub known :
      knows_all older (names newer (in_message root) (meaning newer root w pool)) ≡ true
      → Room (meaning newer root w pool) before held
      → Same newer older root w pool r nodes bytes
  pub unknown :
      knows_all older (names newer (in_message root) (meaning newer root w pool)) ≡ false
      → Lacks newer older root w pool y r buffer before nodes held bytes
