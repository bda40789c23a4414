-- What is read is valid (read-valid), and so the calls that take a table let it pass (read-usable).
use Prim.Native.Nat.{ℕ, ◌+◌, ◌≤◌, ◌<◌}
use native.Mathlib.Omega.{arith}
use mathlib.Core.Path.{◌≡◌, refl, sym}
use mathlib.Core.Bool.{Bool, true, false}
use mathlib.Core.List.{List, ◌++◌}
use mathlib.Core.Option.{Option, none, some}
use lib.Dec.{ltb, leb}
use lib.ListN.{length, drop}
use lib.Seq.{sets}
use borrow.Author.Tests.{ltb-true, ltb-false}
use Rattle.definitions.specs.declared.Spot.{Spot}
use Rattle.definitions.specs.declared.Place.{Place}
use Rattle.definitions.specs.declared.Node.{Node}
use Rattle.definitions.specs.Basics.{when◌then◌otherwise◌}
use Rattle.definitions.specs.Refusals.{Answer, given, denied, unplaced, bad_schema, no_message, text_too_long, bad_table, buffer_short, required_missing, no_value, most_text, most_depth}
use Rattle.definitions.specs.Image.{accepted, is_message, message_count}
use Rattle.definitions.specs.Scope.{in_message, body}
use Rattle.definitions.specs.Nodes.{words, node_at, run_of}
use Rattle.definitions.specs.Validity.{valid}
use Rattle.definitions.specs.Live.{Tree, meaning}
use Rattle.definitions.specs.Tokens.{end_of_text}
use Rattle.definitions.specs.Calls.{barred, unbarred}
use Rattle.definitions.specs.Loop.{Out, done, refused}
use Rattle.definitions.specs.Reading.{Made, node_room, nested, root_want, read_body, whole, fitted, read_barred, read_answer, read_nodes, read_pool}
use Rattle.definitions.specs.Print.{print_text, print_fitted, print_answer}
use Rattle.definitions.specs.Required.{complete, required_answer}
use Rattle.definitions.specs.Access.{is_value, value_answer}
use Rattle.laws.proofs.Reach.{by-test}
use Rattle.laws.proofs.Lists.{none-some}
use Rattle.laws.proofs.Stores.{sets-front}
use Rattle.trees.specs.Laying.{size, laid_bytes, table_over}
use Rattle.trees.proofs.Accepted.{Accepted, accepted-is}
use Rattle.trees.proofs.Tables.{length-laid}
use Rattle.trees.proofs.TableGood.{Good, table-valid}
use Rattle.read_valid.specs.ReadValid.{ReadValid, ReadUsable, Usable, NotBadTable}
use Rattle.read_valid.proofs.Laid.{Laid, Lays}
use Rattle.read_valid.proofs.Bodies.{Rest, read_body-lays}

-- ---- the whole text

-- the words w and bytes v, up to the spot p, are the table over the tree u
record Table (p : Spot) (w v : List ℕ) (u : Tree) : Type 0 where
  words : w ≡ table_over u
  bytes : v ≡ laid_bytes u
  nodes : p.node ≡ 1 + size u
  pool : p.byte ≡ length (laid_bytes u)

-- the root's node, before what lies inside
abbrev root_node : ℕ → Node
root_node n = record { kind = body; field = 0; high = 0; low = 0; end = n }

over : (q : Spot) (ws bs : List ℕ) (u : Tree) → Laid 1 0 q ws bs u → Table q (words (root_node q.node) ++ ws) bs u
over q ws bs u l = record { words = rw (l.words, l.nodes) refl; bytes = l.bytes; nodes = l.nodes; pool = omega (arith, l.pool) }

module _ (schema : List ℕ) (ok : Accepted schema) (root : ℕ) (here : root < message_count schema) (s : List ℕ) where
  whole-table : (p : Spot) (w v : List ℕ) → whole schema root s ≡ done p w v → (u : Tree) × Table p w v u × Good schema most_depth (in_message root) u
  unfolding whole
  whole-table p w v e =
      go (read_body most_depth schema s (in_message root) end_of_text from)
      (read_body-lays schema s ok most_depth (in_message root) end_of_text here from) e
    where
      from : Spot
      from = record { at = 0; node = 1; byte = 0 }

      go : (o : Out) → Lays (Rest schema s ok most_depth (in_message root) false false) 1 0 o → nested (root_want root) o ≡ done p w v
          → (u : Tree) × Table p w v u × Good schema most_depth (in_message root) u
      go (refused why at) g x = let z : ◌≡◌ {A = ℕ} 0 1 = cc in absurd (omega arith)
      go (done q ws bs) g x =
          let l = g.laid q ws bs refl in
          let ep : q ≡ p = cc in
          let ew : words (root_node q.node) ++ ws ≡ w = cc in
          let ev : bs ≡ v = cc in
          (l.0, rw (← ep, ← ew, ← ev) (over q ws bs l.0 l.1), l.2.0)

-- ---- granted

-- what is given of a reading, there was room for
record Fitted (count room : ℕ) (o : Out) : Type 0 where
  spot : Spot
  words : List ℕ
  bytes : List ℕ
  is : o ≡ done spot words bytes
  nodes_fit : spot.node ≤ node_room count
  bytes_fit : spot.byte ≤ room

denied-given : {A B : Type 0} (why : ℕ) (at : Place) (a : A) → denied why at ≡ given a → B
denied-given why at a e = let z : ◌≡◌ {A = ℕ} 0 1 = cc in absurd (omega arith)

fitted-given : (count room : ℕ) (o : Out) (m : Made) → fitted count room o ≡ given m → Fitted count room o
fitted-given count room (refused why at) m e = denied-given why at m e
fitted-given count room (done q w v) m e =
    by-test (λ (a : Answer Made). a ≡ given m → Fitted count room (done q w v)) (ltb (node_room count) q.node) _ _ (λ _. denied-given _ _ m)
    (λ x.
    by-test (λ (a : Answer Made). a ≡ given m → Fitted count room (done q w v)) (ltb room q.byte) _ _ (λ _. denied-given _ _ m)
    (λ y _.
    record {
      spot = q;
      words = w;
      bytes = v;
      is = refl;
      nodes_fit = ltb-false (node_room count) q.node x;
      bytes_fit = ltb-false room q.byte y;
    }))
    e

-- a call that is not barred has an accepted schema and a root that is a message
barred-none : (schema : List ℕ) (root : ℕ) (test : Unit {0} → Bool) (why : ℕ) → barred schema root test why ≡ none
    → (accepted schema ≡ true) × (is_message schema root ≡ true)
unfolding barred
barred-none schema root test why e = go (accepted schema) (is_message schema root) refl refl
  where
    go : (a b : Bool) → accepted schema ≡ a → is_message schema root ≡ b → (accepted schema ≡ true) × (is_message schema root ≡ true)
    go true true x y = (x, y)
    go true false x y = none-some no_message (sym (rw (x, y, barred) at e))
    go false b x y = none-some bad_schema (sym (rw (x, barred) at e))

not-barred : {A : Type 0} (o : Option ℕ) (rest : Unit {0} → Answer A) (a : A) → unbarred o rest ≡ given a → (o ≡ none) × (rest tt ≡ given a)
not-barred none rest a e = (refl, e)
not-barred (some why) rest a e = denied-given why (unplaced 0) a e

-- ---- the theorem

module _ (schema : List ℕ) (root : ℕ) (text nodes pool : List ℕ) (m : Made)
    (e : read_answer schema root text (length nodes) (length pool) ≡ given m) where
  granted : (read_barred schema root (length text) ≡ none) × (fitted (length nodes) (length pool) (whole schema root text) ≡ given m)
  unfolding read_answer
  granted = not-barred (read_barred schema root (length text)) (λ _. fitted (length nodes) (length pool) (whole schema root text)) m e

  called : (accepted schema ≡ true) × (is_message schema root ≡ true)
  unfolding read_barred
  called = barred-none schema root (λ _. leb (length text) most_text) text_too_long granted.0

  here : root < message_count schema
  unfolding is_message
  here = ltb-true root (message_count schema) called.1

  is-valid : valid schema root (read_nodes schema root text nodes (length pool)) (read_pool schema root text (length nodes) pool) ≡ true
  unfolding read_nodes read_pool
  is-valid = go (fitted-given (length nodes) (length pool) (whole schema root text) m granted.1)
    where
      laid : (p : Spot) (w v : List ℕ) (u : Tree) → Table p w v u → Good schema most_depth (in_message root) u → p.node ≤ node_room (length nodes)
          → p.byte ≤ length pool → valid schema root (sets nodes 0 w) (sets pool 0 v) ≡ true
      laid p w v u l g hn hb =
          rw (
            l.words,
            l.bytes,
            sets-front nodes (table_over u) (omega (arith, l.nodes, length-laid u 1 0)),
            sets-front pool (laid_bytes u) (omega (arith, l.pool)),
          )
          (table-valid schema root u (drop (length (table_over u)) nodes) (drop (length (laid_bytes u)) pool) g (omega (arith, l.nodes)))

      go : Fitted (length nodes) (length pool) (whole schema root text)
          → valid schema root (read_nodes schema root text nodes (length pool)) (read_pool schema root text (length nodes) pool) ≡ true
      go f =
          let t = whole-table schema (accepted-is schema called.0) root here text f.spot f.words f.bytes f.is in
          rw (e, f.is) (laid f.spot f.words f.bytes t.0 t.1 t.2 f.nodes_fit f.bytes_fit)

  passed :
      barred schema root
      (λ _. valid schema root (read_nodes schema root text nodes (length pool)) (read_pool schema root text (length nodes) pool)) bad_table
      ≡ none
  unfolding barred
  passed = rw (called.0, called.1, is-valid) refl

pub read-valid : (schema : List ℕ) (root : ℕ) (text nodes pool : List ℕ) → ReadValid schema root text nodes pool
unfolding ReadValid
read-valid schema root text nodes pool m e = is-valid schema root text nodes pool m e

-- ---- no refusal 15 over what was read

given-good : {A : Type 0} (a : A) → NotBadTable (given a)
given-good a at e = denied-given bad_table at a (sym e)

denied-good : {A : Type 0} (why : ℕ) (p : Place) → (why ≡ bad_table → ⊥) → NotBadTable {A = A} (denied why p)
denied-good why p n at e = let z : why ≡ bad_table = cc in n z

-- given, or refused by another number
either-good : {A : Type 0} (b : Bool) (a : A) (why : ℕ) (p : Place) → (why ≡ bad_table → ⊥)
    → NotBadTable (when b then (λ _. given a) otherwise λ _. denied why p)
either-good true a why p n = given-good a
either-good false a why p n = denied-good why p n

room-good : (room count : ℕ) → NotBadTable (print_fitted room count)
room-good room count =
    by-test NotBadTable (ltb room count) _ _ (λ _. denied-good buffer_short (unplaced count) (λ z. omega arith)) (λ _. given-good count)

pub usable : (schema : List ℕ) (root : ℕ) (w pool : List ℕ) → barred schema root (λ _. valid schema root w pool) bad_table ≡ none
    → Usable schema root w pool
unfolding print_answer required_answer value_answer
usable schema root w pool b = record {
  passes = b;
  printed = λ y room. rw b (room-good room (length (print_text schema y root w pool)));
  checked =
      rw b (either-good (complete schema (in_message root) (meaning schema root w pool)) tt required_missing (unplaced 0) (λ z. omega arith));
  accessed = λ i. rw b (either-good (is_value w i) (run_of pool (node_at w i)) no_value (unplaced 0) (λ z. omega arith));
}

pub read-usable : (schema : List ℕ) (root : ℕ) (text nodes pool : List ℕ) → ReadUsable schema root text nodes pool
unfolding ReadUsable
read-usable schema root text nodes pool m e =
    usable schema root (read_nodes schema root text nodes (length pool)) (read_pool schema root text (length nodes) pool)
    (passed schema root text nodes pool m e)
