-- Siblings: one generic loop. A turn looks at where reading stands and ends the loop, or goes on from further in the text.
use Rattle.std.specs.Prelude.{ℕ, zero, suc, Bool, List, ◌++◌}
use Rattle.definitions.specs.declared.Spot.{Spot}
use Rattle.definitions.specs.declared.Place.{Place}
use Rattle.definitions.specs.Refusals.{unplaced}

-- what reading gives: the spot after, with the node words and pool bytes made on the way; or a refusal with its place
pub data Out : Type 0 where
  done : Spot → (words bytes : List ℕ) → Out
  refused : (why : ℕ) → Place → Out

-- where a body's reading stands; an entry knows whether it has a key and a value so far
pub record Stand : Type 0 where
  pub spot : Spot
  pub key : Bool
  pub value : Bool

pub data Turn : Type 0 where
  stop : Out → Turn
  more : Stand → (words bytes : List ℕ) → Turn

abbrev pub ahead : List ℕ → List ℕ → Out → Out
ahead w b (done q v c) = done q (w ++ v) (b ++ c)
ahead w b (refused why at) = refused why at

abbrev pub onward : (Stand → Out) → Turn → Out
onward rest (stop o) = o
onward rest (more h w b) = ahead w b (rest h)

-- at most so many turns
unfoldable pub turns : ℕ → (Stand → Turn) → Stand → Out
turns zero turn h = refused 0 (unplaced 0)
turns (suc f) turn h = onward (turns f turn) (turn h)

-- over a text of n bytes, of which each turn that goes on takes at least one
unfoldable pub loop : ℕ → (Stand → Turn) → Stand → Out
loop n turn h = turns (suc n) turn h
