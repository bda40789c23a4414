-- What an equation determines: two values that are both what a definition says are one value.
use mathlib.Core.Path.{◌≡◌, sym, ◌∙◌}

pub once : {A : Type 0} {x a b : A} → a ≡ x → b ≡ x → a ≡ b
once e f = e ∙ sym f
