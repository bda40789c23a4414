-- What the two styles put around fields: blanks, braces, and nothing that goes on a name or an integer.
use Prim.Native.Nat.{ℕ, zero, suc, ◌+◌, ◌*◌, ◌≤◌}
use native.Mathlib.Omega.{arith}
use mathlib.Core.Path.{◌≡◌, refl, ap}
use mathlib.Core.Bool.{Bool, true, false}
use mathlib.Core.List.{List, [], ◌∷◌, ◌++◌, append_assoc}
use lib.ListN.{length, replicate}
use Rattle.definitions.specs.declared.Want.{Want}
use Rattle.definitions.specs.Basics.{each}
use Rattle.definitions.specs.Classes.{class, classes}
use Rattle.definitions.specs.Integers.{runs_on}
use Rattle.definitions.specs.Scope.{Scope, want, within}
use Rattle.definitions.specs.Live.{Val, number, run, inside, Tree, nil, node}
use Rattle.definitions.specs.Print.{Style, compact, pretty, indent, lead, trail, opening, closing, label, value_text, render}
use Rattle.trees.proofs.Scanning.{blank}

-- what follows an opening brace, and what stands before a closing one
abbrev pub open_gap : Style → List ℕ
open_gap compact = []
open_gap pretty = 10 ∷ []

abbrev pub close_gap : Style → ℕ → List ℕ
close_gap compact d = []
close_gap pretty d = indent d

pub opening-is : (y : Style) → opening y ≡ 32 ∷ 123 ∷ open_gap y
unfolding opening
opening-is compact = refl
opening-is pretty = refl

pub closing-is : (y : Style) (d : ℕ) → closing y d ≡ close_gap y d ++ (125 ∷ [])
unfolding closing
closing-is compact d = refl
closing-is pretty d = refl

-- ---- blanks

spaces : (n : ℕ) → each blank (replicate n 32) ≡ true
unfolding each
spaces zero = refl
spaces (suc n) = spaces n

pub lead-blank : (y : Style) (d : ℕ) (first : Bool) → each blank (lead y d first) ≡ true
unfolding lead indent each
lead-blank compact d true = refl
lead-blank compact d false = refl
lead-blank pretty d first = spaces (2 * d)

pub trail-blank : (y : Style) → each blank (trail y) ≡ true
unfolding trail each
trail-blank compact = refl
trail-blank pretty = refl

pub open_gap-blank : (y : Style) → each blank (open_gap y) ≡ true
unfolding each
open_gap-blank compact = refl
open_gap-blank pretty = refl

pub close_gap-blank : (y : Style) (d : ℕ) → each blank (close_gap y d) ≡ true
unfolding indent each
close_gap-blank compact d = refl
close_gap-blank pretty d = spaces (2 * d)

-- ---- nothing that runs on

spaces-stop : (n : ℕ) (k : List ℕ) → runs_on k ≡ false → runs_on (replicate n 32 ++ k) ≡ false
unfolding runs_on class classes
spaces-stop zero k e = e
spaces-stop (suc n) k e = refl

pub closing-stops : (y : Style) (d : ℕ) (k : List ℕ) → runs_on (close_gap y d ++ (125 ∷ k)) ≡ false
unfolding runs_on class classes indent
closing-stops compact d k = refl
closing-stops pretty d k = spaces-stop (2 * d) (125 ∷ k) refl

pub value-stops : (s : List ℕ) (y : Style) (d : ℕ) (w : Want) (kind : ℕ) (v : Val) (b k : List ℕ) → runs_on (value_text s y d w kind v b ++ k) ≡ false
unfolding runs_on class classes opening
value-stops s y d w kind (number n) b k = refl
value-stops s y d w kind (run bs) b k = refl
value-stops s compact d w kind inside b k = refl
value-stops s pretty d w kind inside b k = refl

-- after a value stand a newline, a space, or what follows all
pub rest-stops : (s : List ℕ) (y : Style) (d : ℕ) (c : Scope) (t : Tree) (k : List ℕ) → runs_on k ≡ false
    → runs_on (trail y ++ (render s y d false c t ++ k)) ≡ false
unfolding trail render lead runs_on class classes
rest-stops s compact d c nil k e = e
rest-stops s compact d c (node r kind v kids rest) k e = refl
rest-stops s pretty d c t k e = refl

-- ---- what print writes, with what follows

pub render-on : (s : List ℕ) (y : Style) (d : ℕ) (first : Bool) (c : Scope) (r k : ℕ) (v : Val) (kids rest : Tree) (z : List ℕ)
    → render s y d first c (node r k v kids rest) ++ z
    ≡ lead y d first
    ++ (label s c r
    ++ (value_text s y d (want s c r) k v (render s y (d + 1) true (within (want s c r)) kids) ++ (trail y ++ (render s y d false c rest ++ z))))
unfolding render
render-on s y d first c r k v kids rest z = simp append_assoc

regroup : (g b e z : List ℕ) → (g ++ (b ++ (e ++ (125 ∷ [])))) ++ z ≡ g ++ (b ++ (e ++ (125 ∷ z)))
regroup g b e z = simp append_assoc

pub inside_on : (y : Style) (d : ℕ) (b z : List ℕ)
    → opening y ++ (b ++ closing y d) ++ z ≡ 32 ∷ 123 ∷ (open_gap y ++ (b ++ (close_gap y d ++ (125 ∷ z))))
inside_on y d b z = rw (opening-is y, closing-is y d) (ap (λ (l : List ℕ). 32 ∷ 123 ∷ l) (regroup (open_gap y) b (close_gap y d) z))

-- a field is at least one byte
pub value-some : (s : List ℕ) (y : Style) (d : ℕ) (w : Want) (kind : ℕ) (v : Val) (b : List ℕ) → 1 ≤ length (value_text s y d w kind v b)
unfolding opening
value-some s y d w kind (number n) b = omega arith
value-some s y d w kind (run bs) b = omega arith
value-some s compact d w kind inside b = omega arith
value-some s pretty d w kind inside b = omega arith
