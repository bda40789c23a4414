-- UTF-8 by its step: over two parts, after a fault, the bounds of the state, and ASCII text.
use Prim.Native.Nat.{ℕ, zero, suc, ◌-◌, ◌≤◌, ◌<◌}
use native.Mathlib.Omega.{arith}
use mathlib.Core.Bool.{Bool, true, false, and-false}
use mathlib.Core.Path.{◌≡◌, refl, ap, ◌∙◌}
use mathlib.Core.List.{List, [], ◌∷◌, ◌++◌}
use lib.Dec.{leb, eqb, leb-suc-zero}
use borrow.Author.Tests.{eqb-true}
use Rattle.definitions.specs.declared.Utf8.{Utf8}
use Rattle.definitions.specs.Basics.{when◌then◌otherwise◌, between, each}
use Rattle.definitions.specs.Utf8.{await, whole, broken, lead, step, steps, utf8}
use Rattle.laws.proofs.Lists.{and_parts}

-- ---- one part after the other

pub steps-append : (u : Utf8) (a b : List ℕ) → steps u (a ++ b) ≡ steps (steps u a) b
unfolding steps
steps-append u [] b = refl
steps-append u (x ∷ a) b = steps-append (step u x) a b

-- ---- what has gone wrong stays wrong

nothing-between : (b : ℕ) → between 1 0 b ≡ false
nothing-between zero = refl
nothing-between (suc b) = rw (leb-suc-zero b) (and-false (leb 1 (suc b)))

pub step-broken : (b : ℕ) → step broken b ≡ broken
unfolding step
step-broken b = rw nothing-between

pub steps-broken : (bs : List ℕ) → steps broken bs ≡ broken
unfolding steps
steps-broken [] = refl
steps-broken (b ∷ bs) = ap (λ (u : Utf8). steps u bs) (step-broken b) ∙ steps-broken bs

-- ---- the state: at most three bytes are awaited, its bounds are bytes, and with none awaited it is the one between two letters

pub record Fine (u : Utf8) : Type 0 where
  pub left : u.left ≤ 3
  pub low : u.low < 256
  pub high : u.high < 256
  pub ends : u.left ≡ 0 → u ≡ whole

fine-if : (t : Bool) (u v : Utf8) → Fine u → Fine v → Fine (when t then (λ _. u) otherwise λ _. v)
fine-if true u v h k = h
fine-if false u v h k = k

fine-await : (left low high : ℕ) → left < 3 → low < 256 → high < 256 → Fine (await (suc left) low high)
fine-await left low high h k l = record { left = h; low = k; high = l; ends = λ e. absurd (omega arith) }

pub fine-whole : Fine whole
fine-whole = record { left = omega arith; low = omega arith; high = omega arith; ends = λ e. refl }

pub fine-broken : Fine broken
fine-broken = fine-await 0 1 0 (omega arith) (omega arith) (omega arith)

pub lead-fine : (b : ℕ) → Fine (lead b)
unfolding lead
lead-fine b =
    fine-if (leb b 127) _ _ fine-whole
    (fine-if (between 194 223 b) _ _ (fine-await 0 128 191 (omega arith) (omega arith) (omega arith))
    (fine-if (eqb b 224) _ _ (fine-await 1 160 191 (omega arith) (omega arith) (omega arith))
    (fine-if (between 225 236 b) _ _ (fine-await 1 128 191 (omega arith) (omega arith) (omega arith))
    (fine-if (eqb b 237) _ _ (fine-await 1 128 159 (omega arith) (omega arith) (omega arith))
    (fine-if (between 238 239 b) _ _ (fine-await 1 128 191 (omega arith) (omega arith) (omega arith))
    (fine-if (eqb b 240) _ _ (fine-await 2 144 191 (omega arith) (omega arith) (omega arith))
    (fine-if (between 241 243 b) _ _ (fine-await 2 128 191 (omega arith) (omega arith) (omega arith))
    (fine-if (eqb b 244) _ _ (fine-await 2 128 143 (omega arith) (omega arith) (omega arith))
    fine-broken))))))))

fine-next : (left : ℕ) → left ≤ 3 → Fine (await (left - 1) 128 191)
fine-next left h =
    record { left = omega arith; low = omega arith; high = omega arith; ends = λ e. ap (λ (n : ℕ). await n 128 191) e }

pub step-fine : (u : Utf8) (b : ℕ) → Fine u → Fine (step u b)
unfolding step
step-fine u b h =
    fine-if (eqb u.left 0) _ _ (lead-fine b)
    (fine-if (between u.low u.high b) _ _ (fine-next u.left h.left) fine-broken)

pub steps-fine : (u : Utf8) (bs : List ℕ) → Fine u → Fine (steps u bs)
unfolding steps
steps-fine u [] h = h
steps-fine u (b ∷ bs) h = steps-fine (step u b) bs (step-fine u b h)

-- ---- whole letters

pub utf8-whole : (bs : List ℕ) → utf8 bs ≡ true → steps whole bs ≡ whole
unfolding utf8
utf8-whole bs e = (steps-fine whole bs fine-whole).ends (eqb-true (steps whole bs).left 0 e)

pub whole-utf8 : (bs : List ℕ) → steps whole bs ≡ whole → utf8 bs ≡ true
unfolding utf8
whole-utf8 bs e = rw e

-- a string of whole letters changes nothing for what follows it
pub utf8_append : (a b : List ℕ) → utf8 a ≡ true → utf8 (a ++ b) ≡ utf8 b
unfolding utf8
utf8_append a b e = rw (steps-append, utf8-whole a e)

-- ASCII text
pub ascii-step : (b : ℕ) → leb b 127 ≡ true → step whole b ≡ whole
unfolding step lead
ascii-step b e = rw (e, lead)

pub ascii-steps : (bs : List ℕ) → each (λ b. leb b 127) bs ≡ true → steps whole bs ≡ whole
unfolding steps each
ascii-steps [] e = refl
ascii-steps (b ∷ bs) e =
    let h = and_parts (leb b 127) (each (λ b. leb b 127) bs) e in
    ap (λ (u : Utf8). steps u bs) (ascii-step b h.0) ∙ ascii-steps bs h.1

pub ascii-utf8 : (bs : List ℕ) → each (λ b. leb b 127) bs ≡ true → utf8 bs ≡ true
ascii-utf8 bs e = whole-utf8 bs (ascii-steps bs e)
