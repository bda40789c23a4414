-- The state after some bytes: step by step, and after letters of one byte.
use mathlib.Core.Path.{◌≡◌, refl, sym, ap, ◌∙◌}
use Prim.Native.Nat.{ℕ}
use mathlib.Core.List.{List, [], ◌∷◌}
use Rattle.std.specs.List.{fold}
use lib.Dec.{eqb}
use lib.ListN.{take, drop, take-append-drop}
use Rattle.definitions.specs.declared.Utf8.{Utf8}
use Rattle.definitions.specs.Integers.{front}
use Rattle.definitions.specs.Utf8.{whole, step, steps, utf8}
use Rattle.laws.proofs.Utf8Laws.{steps-append, ascii-steps}
use Rattle.utf8.specs.Values.{ascii}
use Rattle.laws.proofs.Lists.{front-passes}

steps-fold : (s : List ℕ) (u : Utf8) → steps u s ≡ fold step u s
unfolding steps
steps-fold [] u = refl
steps-fold (b ∷ s) u = steps-fold s (step u b)

-- letters of one byte at the front change nothing for what follows them
steps_front : (s : List ℕ) → steps whole (drop (front ascii s) s) ≡ steps whole s
steps_front s =
    let n : ℕ = front ascii s in
    ap (λ (u : Utf8). steps u (drop n s)) (sym (ascii-steps (take n s) (front-passes ascii s)))
    ∙ sym (steps-append whole (take n s) (drop n s))
    ∙ ap (steps whole) (take-append-drop n s)

-- so it is stepped through what follows them
pub utf8-folded : (s : List ℕ) (n : ℕ) (u : Utf8) → n ≡ front ascii s → u ≡ fold step whole (drop n s) → eqb u.left 0 ≡ utf8 s
unfolding utf8
utf8-folded s n u e f =
    let w : steps whole (drop n s) ≡ steps whole s = rw e (steps_front s) in
    ap (λ (v : Utf8). eqb v.left 0) (f ∙ sym (steps-fold (drop n s) whole) ∙ w)
