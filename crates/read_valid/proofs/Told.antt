-- Where the refusals of each call point: of a read 4 to 12 into the text, all others nowhere.
use mathlib.Core.Path.{refl}
use mathlib.Core.Logic.{inl, inr}
use Prim.Native.Nat.{ℕ, ◌<◌}
use mathlib.Core.Bool.{Bool, true, false, not}
use mathlib.Core.List.{List}
use mathlib.Core.Option.{Option, none, some}
use native.Mathlib.Omega.{arith}
use lib.Dec.{ltb, leb}
use lib.ListN.{length}
use Rattle.definitions.specs.Basics.{when◌then◌otherwise◌}
use Rattle.definitions.specs.Refusals.{Answer, given, denied, unplaced, bad_table, buffer_short, required_missing, no_value, most_text}
use Rattle.definitions.specs.Image.{accepted, is_message}
use Rattle.definitions.specs.Scope.{in_message}
use Rattle.definitions.specs.Validity.{valid}
use Rattle.definitions.specs.Live.{meaning}
use Rattle.definitions.specs.Calls.{barred, unbarred}
use Rattle.definitions.specs.Loop.{Out, done, refused}
use Rattle.definitions.specs.Reading.{whole, read_barred, node_room, fitted, read_answer}
use Rattle.definitions.specs.Nodes.{node_at, run_of}
use Rattle.definitions.specs.Print.{Style, print_text, print_fitted, print_answer}
use Rattle.definitions.specs.Required.{complete, required_answer}
use Rattle.definitions.specs.Access.{is_value, value_answer}
use Rattle.laws.proofs.Reach.{by-test}
use Rattle.read_valid.specs.Told.{Bare, Told, Untold}
use Rattle.read_valid.proofs.Points.{Faults, whole-faults}

bare : (n : ℕ) → Bare (unplaced n)
bare n = record { line = refl; column = refl }

-- ---- a read

-- what bars a read is 1, 2 or 3
abbrev Low : Option ℕ → Type 0
Low none = Unit {0}
Low (some why) = why < 4

barred-low : (schema : List ℕ) (root size : ℕ) → Low (read_barred schema root size)
unfolding read_barred barred
barred-low schema root size =
    by-test Low (not (accepted schema)) _ _ (λ _. omega arith) (λ _.
    by-test Low (not (is_message schema root)) _ _ (λ _. omega arith) (λ _.
    by-test Low (not (leb size most_text)) _ _ (λ _. omega arith) (λ _. tt)))

module _ (s : List ℕ) where
  fitted-told : (count size : ℕ) (o : Out) → Faults s o → Told s (fitted count size o)
  fitted-told count size (refused why p) x = inl x
  fitted-told count size (done q w b) x =
      by-test (Told s) (ltb (node_room count) q.node) _ _ (λ _. inr (inr (omega arith), bare q.node)) (λ _.
      by-test (Told s) (ltb size q.byte) _ _ (λ _. inr (inr (omega arith), bare q.byte)) (λ _. tt))

  unbarred-told : {A : Type 0} (o : Option ℕ) (rest : Unit {0} → Answer A) → Low o → Told s (rest tt) → Told s (unbarred o rest)
  unbarred-told none rest l x = x
  unbarred-told (some why) rest l x = inr (inl l, bare 0)

-- whatever is read, and whatever the room
pub read_told : (schema : List ℕ) (root : ℕ) (s : List ℕ) (count size : ℕ) → Told s (read_answer schema root s count size)
unfolding read_answer
read_told schema root s count size =
    unbarred-told s (read_barred schema root (length s)) _ (barred-low schema root (length s)) (fitted-told s count size (whole schema root s) (whole-faults s schema root))

-- ---- the other calls

unbarred-bare : {A : Type 0} (o : Option ℕ) (rest : Unit {0} → Answer A) → Untold (rest tt) → Untold (unbarred o rest)
unbarred-bare none rest x = x
unbarred-bare (some why) rest x = bare 0

fitted-bare : (room count : ℕ) → Untold {A = ℕ} (print_fitted room count)
fitted-bare room count = go (ltb room count)
  where
    go : (b : Bool) → Untold {A = ℕ} (when b then (λ _. denied buffer_short (unplaced count)) otherwise λ _. given count)
    go true = bare count
    go false = tt

either-bare : {A : Type 0} (b : Bool) (a : A) (why : ℕ) → Untold {A = A} (when b then (λ _. given a) otherwise λ _. denied why (unplaced 0))
either-bare true a why = tt
either-bare false a why = bare 0

pub print-untold : (schema : List ℕ) (y : Style) (root : ℕ) (w pool : List ℕ) (room : ℕ) → Untold {A = ℕ} (print_answer schema y root w pool room)
unfolding print_answer
print-untold schema y root w pool room =
    unbarred-bare {A = ℕ} (barred schema root (λ _. valid schema root w pool) bad_table) (λ _. print_fitted room (length (print_text schema y root w pool)))
    (fitted-bare room (length (print_text schema y root w pool)))

pub required-untold : (schema : List ℕ) (root : ℕ) (w pool : List ℕ) → Untold {A = Unit {0}} (required_answer schema root w pool)
unfolding required_answer
required-untold schema root w pool =
    unbarred-bare {A = Unit {0}} (barred schema root (λ _. valid schema root w pool) bad_table)
    (λ _. when complete schema (in_message root) (meaning schema root w pool) then (λ _. given tt) otherwise λ _. denied required_missing (unplaced 0))
    (either-bare (complete schema (in_message root) (meaning schema root w pool)) tt required_missing)

pub value-untold : (schema : List ℕ) (root : ℕ) (w pool : List ℕ) (i : ℕ) → Untold {A = List ℕ} (value_answer schema root w pool i)
unfolding value_answer
value-untold schema root w pool i =
    unbarred-bare {A = List ℕ} (barred schema root (λ _. valid schema root w pool) bad_table)
    (λ _. when is_value w i then (λ _. given (run_of pool (node_at w i))) otherwise λ _. denied no_value (unplaced 0))
    (either-bare (is_value w i) (run_of pool (node_at w i)) no_value)
