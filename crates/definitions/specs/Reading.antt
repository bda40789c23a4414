-- Reading a text (R, T, H, "Tokens and grammar"): node words and pool bytes as the text makes them, or the first fault with its
-- place. One production to a definition; `X s q` looks at the token at the spot q, and `XTok` says what comes of it.
-- Nesting is recursion in how many levels are left, through the parameter `child`.
use Rattle.std.specs.Prelude.{ℕ, zero, suc, ◌+◌, ◌-◌, ◌/◌, min, Bool, true, false, ◌&&◌, ◌||◌, not, List, [], ◌++◌, ltb, leb, eqb, length}
use Rattle.std.proofs.Math.Option.{Option, none, some}
use Rattle.definitions.specs.declared.Spot.{Spot}
use Rattle.definitions.specs.declared.Place.{Place}
use Rattle.definitions.specs.declared.Want.{Want}
use Rattle.definitions.specs.Basics.{when◌then◌otherwise◌, bytes, same, part}
use Rattle.definitions.specs.Refusals.{Answer, given, denied, unplaced, text_too_long, bad_token, other_expected, unknown_field, unknown_value, twice, overflow, not_bool, bad_string, too_deep, nodes_short, pool_short, most_text, most_nodes, most_depth}
use Rattle.definitions.specs.Image.{enumeration, member, find_member}
use Rattle.definitions.specs.Calls.{barred, unbarred, stored}
use Rattle.definitions.specs.Scope.{Scope, in_message, in_entry, want, within, find_in, nests, i32, i64, u32, u64, bool, string, byte_string, enum, body}
use Rattle.definitions.specs.Nodes.{words, high_of, low_of, widen}
use Rattle.definitions.specs.Utf8.{utf8}
use Rattle.definitions.specs.Integers.{integer_value, most_unsigned, most_signed, signed}
use Rattle.definitions.specs.Tokens.{Scan, token, bad, scan, end_of_text, name_token, integer_token, string_token, minus, colon, open_brace, close_brace, open_angle, close_angle}
use Rattle.definitions.specs.Strings.{decode}
use Rattle.definitions.specs.Loop.{Out, done, refused, Stand, Turn, stop, more, ahead, loop}

-- ---- spots and nodes

abbrev pub moved : ℕ → Spot → Spot
moved at q = record { at = at; node = q.node; byte = q.byte }

-- a node with none below it, for what is wanted, from the spot q to the place `at`
abbrev pub leaf : Want → Spot → ℕ → (high low : ℕ) → List ℕ → Out
leaf w q at high low pool =
    done
    (record { at = at; node = q.node + 1; byte = q.byte + length pool })
    (words (record { kind = w.kind; field = w.field; high = high; low = low; end = q.node + 1 }))
    pool

abbrev pub number_leaf : Want → Spot → ℕ → ℕ → Out
number_leaf w q at v = leaf w q at (high_of v) (low_of v) []

-- strings and bytes: start and length in the pool, laid end to end by reading
abbrev pub run_leaf : Want → Spot → ℕ → List ℕ → Out
run_leaf w q at pool = leaf w q at q.byte (length pool) pool

-- a message or an entry, around what was read inside
abbrev pub nested : Want → Out → Out
nested w (done q ws bs) = done q (words (record { kind = w.kind; field = w.field; high = 0; low = 0; end = q.node }) ++ ws) bs
nested w (refused why at) = refused why at

-- ---- integers: an integer of at most `most` is worth `v`, as 64 bits in two's complement after a minus

abbrev pub integer_tok : List ℕ → Want → Bool → ℕ → Spot → Scan → Out
integer_tok s w negative most q (bad p) = refused bad_token p
integer_tok s w negative most q (token t n) =
    when eqb t.kind integer_token
    then (λ _.
    when leb (integer_value (part s t.start.offset n)) most
    then (λ _. number_leaf w q n (signed negative (integer_value (part s t.start.offset n))))
    otherwise λ _. refused overflow t.start)
    otherwise λ _. refused other_expected t.start

unfoldable pub unsigned : List ℕ → Want → ℕ → Spot → Out
unsigned s w width q = integer_tok s w false (most_unsigned width) q (scan s q.at)

-- after the minus, which may stand apart from its digits
unfoldable pub negated : List ℕ → Want → ℕ → Spot → Out
negated s w width q = integer_tok s w true (most_signed width true) q (scan s q.at)

abbrev pub signed_tok : List ℕ → Want → ℕ → Spot → Scan → Out
signed_tok s w width q (bad p) = refused bad_token p
signed_tok s w width q (token t n) =
    when eqb t.kind minus
    then (λ _. negated s w width (moved n q))
    otherwise λ _. integer_tok s w false (most_signed width false) q (token t n)

-- only i32 and i64 take `-`
unfoldable pub signed_value : List ℕ → Want → ℕ → Spot → Out
signed_value s w width q = signed_tok s w width q (scan s q.at)

-- ---- bool: `true` or `false`

abbrev pub true_name : List ℕ
true_name = bytes "true"

abbrev pub false_name : List ℕ
false_name = bytes "false"

abbrev pub bool_tok : List ℕ → Want → Spot → Scan → Out
bool_tok s w q (bad p) = refused bad_token p
bool_tok s w q (token t n) =
    when eqb t.kind name_token && same true_name (part s t.start.offset n) then (λ _. number_leaf w q n 1) otherwise λ _.
    when eqb t.kind name_token && same false_name (part s t.start.offset n) then (λ _. number_leaf w q n 0) otherwise λ _.
    refused not_bool t.start

unfoldable pub bool_value : List ℕ → Want → Spot → Out
bool_value s w q = bool_tok s w q (scan s q.at)

-- ---- an enum is a name

abbrev pub member_found : List ℕ → Want → Spot → Place → ℕ → Option ℕ → Out
member_found schema w q at n none = refused unknown_value at
member_found schema w q at n (some i) = number_leaf w q n (widen (member schema i).number)

abbrev pub enum_tok : List ℕ → List ℕ → Want → Spot → Scan → Out
enum_tok schema s w q (bad p) = refused bad_token p
enum_tok schema s w q (token t n) =
    when eqb t.kind name_token
    then (λ _. member_found schema w q t.start n (find_member schema w.reference (part s t.start.offset n)))
    otherwise λ _. refused other_expected t.start

unfoldable pub enum_value : List ℕ → List ℕ → Want → Spot → Out
enum_value schema s w q = enum_tok schema s w q (scan s q.at)

-- ---- strings and bytes

-- a bad escape, or a string that is not UTF-8, is refused at the quote
abbrev pub decoded : Want → Spot → Place → ℕ → Option (List ℕ) → Out
decoded w q at n none = refused bad_string at
decoded w q at n (some bs) =
    when eqb w.kind string && not (utf8 bs) then (λ _. refused bad_string at) otherwise λ _. run_leaf w q n bs

abbrev pub string_tok : List ℕ → Want → Spot → Scan → Out
string_tok s w q (bad p) = refused bad_token p
string_tok s w q (token t n) =
    when eqb t.kind string_token
    then (λ _. decoded w q t.start n (decode (part s (t.start.offset + 1) (n - 1))))
    otherwise λ _. refused other_expected t.start

unfoldable pub string_value : List ℕ → Want → Spot → Out
string_value s w q = string_tok s w q (scan s q.at)

-- ---- scalars: name, `:`, value

unfoldable pub scalar : List ℕ → List ℕ → Want → Spot → Out
scalar schema s w q =
    when eqb w.kind i32 then (λ _. signed_value s w 32 q) otherwise λ _.
    when eqb w.kind i64 then (λ _. signed_value s w 64 q) otherwise λ _.
    when eqb w.kind u32 then (λ _. unsigned s w 32 q) otherwise λ _.
    when eqb w.kind u64 then (λ _. unsigned s w 64 q) otherwise λ _.
    when eqb w.kind bool then (λ _. bool_value s w q) otherwise λ _.
    when eqb w.kind enum then (λ _. enum_value schema s w q) otherwise λ _.
    string_value s w q

abbrev pub colon_tok : List ℕ → List ℕ → Want → Spot → Scan → Out
colon_tok schema s w q (bad p) = refused bad_token p
colon_tok schema s w q (token t n) =
    when eqb t.kind colon then (λ _. scalar schema s w (moved n q)) otherwise λ _. refused other_expected t.start

unfoldable pub after_name : List ℕ → List ℕ → Want → Spot → Out
after_name schema s w q = colon_tok schema s w q (scan s q.at)

-- ---- messages and entries: name, then `{` or `<`, no colon, and the matching closer; an entry takes `{` only

-- what reads inside: what is wanted, the opener's place, the closer, the spot after the opener
abbrev pub Child : Type 0
Child = Want → Place → ℕ → Spot → Out

abbrev pub opens : ℕ → ℕ → Bool
opens kind t = eqb t open_brace || (eqb kind body && eqb t open_angle)

abbrev pub closer_of : ℕ → ℕ
closer_of t = when eqb t open_brace then (λ _. close_brace) otherwise λ _. close_angle

abbrev pub opener_tok : Child → Want → Spot → Scan → Out
opener_tok child w q (bad p) = refused bad_token p
opener_tok child w q (token t n) =
    when opens w.kind t.kind
    then (λ _. nested w (child w t.start (closer_of t.kind) (record { at = n; node = q.node + 1; byte = q.byte })))
    otherwise λ _. refused other_expected t.start

unfoldable pub opened : Child → List ℕ → Want → Spot → Out
opened child s w q = opener_tok child w q (scan s q.at)

-- ---- a field, after its name

unfoldable pub field : Child → List ℕ → List ℕ → Want → Spot → Out
field child schema s w q = when nests w.kind then (λ _. opened child s w q) otherwise λ _. after_name schema s w q

-- ---- a missing key or value of an entry, as its default: 0, false, empty, the enum's first value, an empty message

unfoldable pub default : List ℕ → Want → Spot → Out
default schema w q =
    when eqb w.kind string || eqb w.kind byte_string then (λ _. run_leaf w q q.at []) otherwise λ _.
    when eqb w.kind enum then (λ _. number_leaf w q q.at (widen (member schema (enumeration schema w.reference).first).number)) otherwise λ _.
    number_leaf w q q.at 0

-- one after the other
abbrev pub joined : Out → (Spot → Out) → Out
joined (refused why at) rest = refused why at
joined (done q w b) rest = ahead w b (rest q)

abbrev pub unless : Bool → (Spot → Out) → Spot → Out
unless there make q = when there then (λ _. done q [] []) otherwise λ _. make q

-- a default message too counts as a level: it is refused at the entry's closer
unfoldable pub default_value : (deep : Bool) → Place → List ℕ → Want → Spot → Out
default_value deep at schema w q =
    when deep && eqb w.kind body then (λ _. refused too_deep at) otherwise λ _. default schema w q

-- an entry is closed: what is missing is appended, key first
unfoldable pub closed : (deep : Bool) → List ℕ → Scope → Place → ℕ → Stand → Out
closed deep schema (in_message m) at n h = done (moved n h.spot) [] []
closed deep schema (in_entry g) at n h =
    joined
    (unless h.key (default schema (want schema (in_entry g) 0)) (moved n h.spot))
    (unless h.value (default_value deep at schema (want schema (in_entry g) 1)))

-- ---- a body is fields until its closer

-- `key` and `value` each at most once
unfoldable pub again : Scope → ℕ → Stand → Bool
again (in_message m) i h = false
again (in_entry g) i h = when eqb i 0 then (λ _. h.key) otherwise λ _. h.value

unfoldable pub noted : Scope → ℕ → Stand → Spot → Stand
noted (in_message m) i h q = record { spot = q; key = h.key; value = h.value }
noted (in_entry g) i h q = record { spot = q; key = h.key || eqb i 0; value = h.value || eqb i 1 }

abbrev pub turn_of : Scope → ℕ → Stand → Out → Turn
turn_of c i h (done q w b) = more (noted c i h q) w b
turn_of c i h (refused why at) = stop (refused why at)

abbrev pub named : Child → List ℕ → List ℕ → Scope → Stand → Place → ℕ → Option ℕ → Turn
named child schema s c h at n none = stop (refused unknown_field at)
named child schema s c h at n (some i) =
    when again c i h then (λ _. stop (refused twice at)) otherwise λ _.
    turn_of c i h (field child schema s (want schema c i) (moved n h.spot))

abbrev pub item_tok : Child → (deep : Bool) → List ℕ → List ℕ → Scope → (closer : ℕ) → Stand → Scan → Turn
item_tok child deep schema s c closer h (bad p) = stop (refused bad_token p)
item_tok child deep schema s c closer h (token t n) =
    when eqb t.kind closer then (λ _. stop (closed deep schema c t.start n h)) otherwise λ _.
    when eqb t.kind name_token then (λ _. named child schema s c h t.start n (find_in schema c (part s t.start.offset n))) otherwise λ _.
    stop (refused other_expected t.start)

unfoldable pub item : Child → (deep : Bool) → List ℕ → List ℕ → Scope → (closer : ℕ) → Stand → Turn
item child deep schema s c closer h = item_tok child deep schema s c closer h (scan s h.spot.at)

abbrev pub start : Spot → Stand
start q = record { spot = q; key = false; value = false }

unfoldable pub fields : Child → (deep : Bool) → List ℕ → List ℕ → Scope → (closer : ℕ) → Spot → Out
fields child deep schema s c closer q = loop (length s) (item child deep schema s c closer) (start q)

-- what is wanted, inside its opener; there are so many levels left, its own counted
unfoldable pub under : ℕ → List ℕ → List ℕ → Child
under zero schema s w at closer q = refused too_deep at
under (suc left) schema s w at closer q = fields (under left schema s) (eqb left 0) schema s (within w) closer q

-- a body with so many levels left below it
unfoldable pub read_body : ℕ → List ℕ → List ℕ → Scope → (closer : ℕ) → Spot → Out
read_body left schema s c closer q = fields (under left schema s) (eqb left 0) schema s c closer q

-- ---- the whole text: the root's words first

abbrev pub root_want : ℕ → Want
root_want root = record { kind = body; reference = root; field = 0 }

unfoldable pub whole : List ℕ → ℕ → List ℕ → Out
whole schema root s = nested (root_want root) (read_body most_depth schema s (in_message root) end_of_text (record { at = 0; node = 1; byte = 0 }))

-- ---- the answer: 1, 2, 3, the first fault in reading order, 13, 14

-- the nodes and pool bytes that reading made
pub record Made : Type 0 where
  pub nodes : ℕ
  pub bytes : ℕ

-- before a text of so many bytes is looked at
unfoldable pub read_barred : List ℕ → ℕ → ℕ → Option ℕ
read_barred schema root size = barred schema root (λ _. leb size most_text) text_too_long

-- the nodes that so many words hold
abbrev pub node_room : ℕ → ℕ
node_room count = min (count / 5) most_nodes

-- with room for so many words and so many bytes
abbrev pub fitted : ℕ → ℕ → Out → Answer Made
fitted count size (refused why at) = denied why at
fitted count size (done q w b) =
    when ltb (node_room count) q.node then (λ _. denied nodes_short (unplaced q.node)) otherwise λ _.
    when ltb size q.byte then (λ _. denied pool_short (unplaced q.byte)) otherwise λ _.
    given (record { nodes = q.node; bytes = q.byte })

unfoldable pub read_answer : (schema : List ℕ) (root : ℕ) (s : List ℕ) (count size : ℕ) → Answer Made
read_answer schema root s count size = unbarred (read_barred schema root (length s)) (λ _. fitted count size (whole schema root s))

-- what is lent holds afterwards: on success what reading made, from the start on; else what it held
abbrev pub words_of : Out → List ℕ
words_of (done q w b) = w
words_of (refused why at) = []

abbrev pub bytes_of : Out → List ℕ
bytes_of (done q w b) = b
bytes_of (refused why at) = []

unfoldable pub read_nodes : (schema : List ℕ) (root : ℕ) (s nodes : List ℕ) (size : ℕ) → List ℕ
read_nodes schema root s nodes size =
    stored (read_answer schema root s (length nodes) size) nodes (λ _. words_of (whole schema root s))

unfoldable pub read_pool : (schema : List ℕ) (root : ℕ) (s : List ℕ) (count : ℕ) (pool : List ℕ) → List ℕ
read_pool schema root s count pool =
    stored (read_answer schema root s count (length pool)) pool (λ _. bytes_of (whole schema root s))
