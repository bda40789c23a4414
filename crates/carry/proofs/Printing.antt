-- What a print leaves: where it is granted, its text is the buffer's front; and the bytes of the text stand in the buffer where they
-- stand in the text.
use Prim.Native.Nat.{ℕ, ◌+◌, ◌-◌, ◌≤◌}
use native.Mathlib.Omega.{arith}
use mathlib.Core.Path.{◌≡◌, refl, ap, ◌∙◌}
use mathlib.Core.Bool.{Bool, true, false}
use mathlib.Core.List.{List, ◌++◌}
use mathlib.Core.Option.{Option, none, some}
use lib.Dec.{ltb, leb}
use lib.ListN.{length, take, drop, length-take, length-drop}
use lib.Seq.{sets-eq, take_at, take-append-le, drop-append-le}
use borrow.Author.Tests.{ltb-false, leb-true, leb-false}
use Rattle.definitions.specs.Basics.{part}
use Rattle.std.specs.Prelude.{Result, Ok, Err}
use Rattle.definitions.specs.declared.Refused.{Refused}
use Rattle.definitions.specs.Reading.{Made}
use Rattle.definitions.specs.Refusals.{Answer, given, denied, bad_table}
use Rattle.definitions.specs.Validity.{valid}
use Rattle.definitions.specs.Calls.{barred, unbarred}
use Rattle.definitions.specs.Print.{Style, print_text, print_fitted, print_answer, print_buffer}
use Rattle.fields.specs.Fields.{style_of}
use Rattle.text_format.specs.Answers.{printed_of}
use Rattle.text_format.proofs.Prints.{Prints}
use Rattle.carry.specs.declared.NotCarried.TheVariants as not_carried
use Rattle.carry.specs.Carry.{carried_of, after}

-- ---- the style that is asked for

pub styled : (b c : Bool) → c ≡ b → (image : List ℕ) (root : ℕ) (w pool e : List ℕ) (r : Result ℕ Refused) (x : List ℕ)
    → Prints image (style_of b) root w pool e r x → Prints image (style_of c) root w pool e r x
styled b c h image root w pool e r x p = rw h p

-- ---- an answer by its case

pub refused-carried : (a : Answer ℕ) (u : Refused) → Err u ≡ printed_of a → (next : Unit {0} → Answer Made) → Err (not_carried.Print u) ≡ carried_of a next
refused-carried (given n) u e next = cc
refused-carried (denied why at) u e next = cc

pub refused-after : (a : Answer ℕ) (u : Refused) → Err u ≡ printed_of a → (lent : List ℕ) (next : Unit {0} → List ℕ) → lent ≡ after a lent next
refused-after (given n) u e lent next = cc
refused-after (denied why at) u e lent next = refl

pub printed-length : (a : Answer ℕ) (n : ℕ) → Ok n ≡ printed_of a → a ≡ given n
printed-length (given m) n e = cc
printed-length (denied v p) n e = cc

-- ---- a print that is granted

fitted-given : (room k n : ℕ) → print_fitted room k ≡ given n → (k ≡ n) × (k ≤ room)
fitted-given room k n = go (ltb room k) refl
  where
    go : (b : Bool) → ltb room k ≡ b → print_fitted room k ≡ given n → (k ≡ n) × (k ≤ room)
    go true q e = let e' = rw q at e in let z : ◌≡◌ {A = ℕ} 0 1 = cc in absurd (omega arith)
    go false q e = let e' = rw q at e in (cc, ltb-false room k q)

unbarred-given : (o : Option ℕ) (room k n : ℕ) → unbarred o (λ _. print_fitted room k) ≡ given n → (k ≡ n) × (k ≤ room)
unbarred-given none room k n e = fitted-given room k n e
unbarred-given (some why) room k n e = let z : ◌≡◌ {A = ℕ} 0 1 = cc in absurd (omega arith)

module _ (s : List ℕ) (y : Style) (root : ℕ) (w pool buffer : List ℕ) where
  pub print-given : (n : ℕ) → print_answer s y root w pool (length buffer) ≡ given n
      → (length (print_text s y root w pool) ≡ n) × (length (print_text s y root w pool) ≤ length buffer)
  unfolding print_answer
  print-given n e =
      unbarred-given (barred s root (λ _. valid s root w pool) bad_table) (length buffer) (length (print_text s y root w pool)) n e

  module _ (n : ℕ) (g : print_answer s y root w pool (length buffer) ≡ given n) where
    -- the text, and the rest as it was
    pub buffer-is : print_buffer s y root w pool buffer ≡ print_text s y root w pool ++ drop (length (print_text s y root w pool)) buffer
    unfolding print_buffer
    buffer-is =
        let z : 0 + length (print_text s y root w pool) ≡ length (print_text s y root w pool) = omega arith in
        rw g (sets-eq (print_text s y root w pool) buffer 0 (omega (arith, (print-given n g).1)) ∙ rw z refl)

    pub front-is : take n (print_buffer s y root w pool buffer) ≡ print_text s y root w pool
    front-is = ap (take n) buffer-is ∙ take_at (print_text s y root w pool) _ n (print-given n g).0

-- ---- a part of the front

pub part-front : (text rest v : List ℕ) (a : ℕ) → part text a (a + length v) ≡ v → part (text ++ rest) a (a + length v) ≡ v
part-front text rest v a e = go (leb (a + length v) (length text)) refl
  where
    n-is : (a + length v) - a ≡ length v
    n-is = omega arith

    go : (b : Bool) → leb (a + length v) (length text) ≡ b → part (text ++ rest) a (a + length v) ≡ v
    go true q =
        let h = leb-true (a + length v) (length text) q in
        ap (take ((a + length v) - a)) (drop-append-le a text rest (omega arith))
        ∙ take-append-le ((a + length v) - a) (drop a text) rest (omega (arith, length-drop a text))
        ∙ e
    go false q =
        let h = leb-false (a + length v) (length text) q in
        let l : length (part text a (a + length v)) ≡ length v = ap length e in
        let z : (a + length v) - a ≡ 0 = omega (arith, l, length-take ((a + length v) - a) (drop a text), length-drop a text) in
        let f = rw z at e in
        rw z f
