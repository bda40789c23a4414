-- What any call is refused with has a name: of a read a fault is 4 to 12, and every other refusal is one of the numbers 1 to 18.
use mathlib.Core.Path.{◌≡◌, refl, subst}
use Prim.Native.Nat.{ℕ, ◌+◌, ◌-◌, ◌≤◌}
use mathlib.Core.Bool.{Bool, not}
use mathlib.Core.List.{List}
use mathlib.Core.Option.{Option, none, some}
use native.Mathlib.Omega.{arith}
use lib.Dec.{ltb, leb, eqb}
use lib.ListN.{length}
use borrow.Author.Tests.{eqb-true}
use Rattle.definitions.specs.Basics.{when◌then◌otherwise◌}
use Rattle.definitions.specs.Refusals.{Answer, given, denied, unplaced, text_too_long, bad_table, buffer_short, required_missing, no_value, most_text}
use Rattle.definitions.specs.Refused.{number_of, refusal_of}
use Rattle.definitions.specs.Image.{accepted, is_message}
use Rattle.definitions.specs.Scope.{in_message}
use Rattle.definitions.specs.Validity.{valid}
use Rattle.definitions.specs.Live.{meaning}
use Rattle.definitions.specs.Calls.{barred, unbarred}
use Rattle.definitions.specs.Loop.{Out, done, refused}
use Rattle.definitions.specs.Reading.{whole, read_barred, node_room, fitted, read_answer}
use Rattle.definitions.specs.Nodes.{node_at, run_of}
use Rattle.definitions.specs.Print.{Style, print_text, print_fitted, print_answer}
use Rattle.definitions.specs.Required.{complete, required_answer}
use Rattle.definitions.specs.Access.{is_value, value_answer}
use Rattle.definitions.proofs.Numbers.{number-of-named}
use Rattle.laws.proofs.Lists.{all-at}
use Rattle.laws.proofs.Reach.{by-test}
use Rattle.read_valid.specs.Named.{Named}
use Rattle.read_valid.proofs.Points.{Faults, whole-faults}

-- a number that its name gives back
abbrev Kept : ℕ → Type 0
Kept why = number_of (refusal_of why) ≡ why

pub between-named : (n : ℕ) → 1 ≤ n → n ≤ 18 → number_of (refusal_of n) ≡ n
between-named n h i =
    let e : 1 + (n - 1) ≡ n = omega arith in
    subst Kept e
    (eqb-true (number_of (refusal_of (1 + (n - 1)))) (1 + (n - 1))
    (all-at 18 (λ i. eqb (number_of (refusal_of (1 + i))) (1 + i)) number-of-named (n - 1) (omega arith)))

-- ---- what bars a call

abbrev Bar : Option ℕ → Type 0
Bar none = Unit {0}
Bar (some why) = Kept why

-- 1, 2, or the call's own
barred-named : (schema : List ℕ) (root : ℕ) (test : Unit {0} → Bool) (why : ℕ) → Kept why → Bar (barred schema root test why)
unfolding barred
barred-named schema root test why k =
    by-test Bar (not (accepted schema)) _ _ (λ _. refl) (λ _.
    by-test Bar (not (is_message schema root)) _ _ (λ _. refl) (λ _.
    by-test Bar (not (test tt)) _ _ (λ _. k) (λ _. tt)))

unbarred-named : {A : Type 0} (o : Option ℕ) (rest : Unit {0} → Answer A) → Bar o → Named (rest tt) → Named (unbarred o rest)
unbarred-named none rest k x = x
unbarred-named (some why) rest k x = k

-- ---- a read

fitted-named : (s : List ℕ) (count size : ℕ) (o : Out) → Faults s o → Named (fitted count size o)
fitted-named s count size (refused why p) x = between-named why (omega (arith, x.0)) (omega (arith, x.1))
fitted-named s count size (done q w b) x =
    by-test Named (ltb (node_room count) q.node) _ _ (λ _. refl) (λ _.
    by-test Named (ltb size q.byte) _ _ (λ _. refl) (λ _. tt))

-- whatever is read, and whatever the room
pub read-named : (schema : List ℕ) (root : ℕ) (s : List ℕ) (count size : ℕ) → Named (read_answer schema root s count size)
unfolding read_answer read_barred
read-named schema root s count size =
    unbarred-named (barred schema root (λ _. leb (length s) most_text) text_too_long) (λ _. fitted count size (whole schema root s))
    (barred-named schema root (λ _. leb (length s) most_text) text_too_long refl)
    (fitted-named s count size (whole schema root s) (whole-faults s schema root))

-- ---- the other calls

-- of a table
table-named : {A : Type 0} (schema : List ℕ) (root : ℕ) (w pool : List ℕ) (rest : Unit {0} → Answer A) → Named (rest tt)
    → Named (unbarred (barred schema root (λ _. valid schema root w pool) bad_table) rest)
table-named schema root w pool rest x =
    unbarred-named (barred schema root (λ _. valid schema root w pool) bad_table) rest
    (barred-named schema root (λ _. valid schema root w pool) bad_table refl) x

pub print-named : (schema : List ℕ) (y : Style) (root : ℕ) (w pool : List ℕ) (room : ℕ) → Named {A = ℕ} (print_answer schema y root w pool room)
unfolding print_answer
print-named schema y root w pool room =
    let count : ℕ = length (print_text schema y root w pool) in
    table-named {A = ℕ} schema root w pool (λ _. print_fitted room count)
    (by-test (Named {A = ℕ}) (ltb room count) (λ _. denied buffer_short (unplaced count)) (λ _. given count) (λ _. refl) (λ _. tt))

pub required-named : (schema : List ℕ) (root : ℕ) (w pool : List ℕ) → Named {A = Unit {0}} (required_answer schema root w pool)
unfolding required_answer
required-named schema root w pool =
    table-named {A = Unit {0}} schema root w pool
    (λ _. when complete schema (in_message root) (meaning schema root w pool) then (λ _. given tt) otherwise λ _. denied required_missing (unplaced 0))
    (by-test (Named {A = Unit {0}}) (complete schema (in_message root) (meaning schema root w pool)) (λ _. given tt)
    (λ _. denied required_missing (unplaced 0)) (λ _. tt) (λ _. refl))

pub value-named : (schema : List ℕ) (root : ℕ) (w pool : List ℕ) (i : ℕ) → Named {A = List ℕ} (value_answer schema root w pool i)
unfolding value_answer
value-named schema root w pool i =
    table-named {A = List ℕ} schema root w pool
    (λ _. when is_value w i then (λ _. given (run_of pool (node_at w i))) otherwise λ _. denied no_value (unplaced 0))
    (by-test (Named {A = List ℕ}) (is_value w i) (λ _. given (run_of pool (node_at w i))) (λ _. denied no_value (unplaced 0)) (λ _. tt) (λ _. refl))
