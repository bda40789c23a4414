-- What the field of a node asks for, and what the print of a part of a span leaves.
use Rattle.std.specs.Prelude.{ℕ, ◌≡◌, Bool, ◌&&◌, List}
use Rattle.definitions.specs.Basics.{when◌then◌otherwise◌}
use Rattle.definitions.specs.declared.Node.{Node}
use Rattle.definitions.specs.declared.Want.{Want}
use Rattle.definitions.specs.Scope.{want, within}
use Rattle.definitions.specs.Nodes.{is_unknown}
use Rattle.print.specs.declared.body.Next.{Next}
use Rattle.spelling.specs.Written.{Written}

-- what the field of a node asks for in the scope inside w; an unknown field asks for nothing, and w stands in for it
abbrev pub asked_of : List ℕ → Want → Node → Want
asked_of s w n = when is_unknown n.kind then (λ _. w) otherwise λ _. want s (within w) n.field

-- what the print of part of a span leaves: its text, and whether there was none of it and none before it
pub record Gone (before : List ℕ) (at : ℕ) (first : Bool) (text : List ℕ) (none : Bool) (after : List ℕ) (r : Next) : Type 0 where
  pub wrote : Written before at text after r.at
  pub still : r.first ≡ first && none
