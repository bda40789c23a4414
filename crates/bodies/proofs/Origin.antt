-- Where the reading of a text begins: at its first byte, with the root's node to come, in a message of the schema.
use Prim.Native.Nat.{ℕ, ◌<◌}
use native.Mathlib.Omega.{arith}
use mathlib.Core.List.{List}
use Rattle.definitions.specs.declared.Spot.{Spot}
use Rattle.definitions.specs.Image.{message_count}
use Rattle.definitions.specs.Reading.{root_want}
use Rattle.lexer.proofs.Lines.{line-first}
use Rattle.leaves.specs.Answers.{Fair, Fits}

abbrev pub origin : Spot
origin = record { at = 0; node = 1; byte = 0 }

pub origin-fair : (s : List ℕ) → Fair s (record { spot = origin; line = record { number = 1; began = 0 } })
origin-fair s = record { inside = omega arith; nodes = omega arith; bytes = omega arith; line = line-first s }

pub root-fits : (image : List ℕ) (root : ℕ) → root < message_count image → Fits image (root_want root)
root-fits image root h = record {
  least = omega arith;
  most = omega arith;
  enums = λ e. absurd (omega (arith, e));
  messages = λ e. h;
  maps = λ e. absurd (omega (arith, e));
}
