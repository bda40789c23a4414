-- What the print functions presume of a span of nodes.
use Rattle.std.specs.Prelude.{ℕ, ◌+◌, ◌-◌, ◌<◌, ◌^◌, ◌≡◌, true, List}
use native.Mathlib.Bridge.{le_prop}
use Rattle.definitions.specs.declared.Want.{Want}
use Rattle.definitions.specs.Image.{accepted}
use Rattle.definitions.specs.Scope.{Scope, in_message, in_entry, within}
use Rattle.nodes.specs.Span.{There, Sound}

-- what is printed: a span of nodes of a valid table, at a depth, in the scope inside q
pub record Printable (s pool w : List ℕ) (q : Want) (d i e : ℕ) : Type 0 where
  pub good : accepted s ≡ true
  pub there : There s (within q)
  pub sound : Sound s pool (within q) w i e
  pub deep : d + (e - i) < 2 ^ 64

-- where a scope stands is a fact, with one proof at most
pub there-prop : (s : List ℕ) (c : Scope) → IsProp (There s c)
unfolding There
there-prop s (in_message m) = le_prop
there-prop s (in_entry g) = le_prop
