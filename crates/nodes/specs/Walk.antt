-- A walk over the siblings of a span, step by step.
use Rattle.std.specs.Prelude.{ℕ, ◌≤◌, ◌<◌, ◌≡◌, List, Option, MatchOption}
use Rattle.definitions.specs.declared.Node.{Node}
use Rattle.definitions.specs.Nodes.{node_at}

-- at the end nothing comes; before it a sibling with its index, and the walk goes on where that one ends
abbrev pub Steps : (w : List ℕ) (i e : ℕ) → Option (ℕ × Node) → (v : List ℕ) (j d : ℕ) → Type 0
Steps w i e r v j d =
    (v ≡ w) × (d ≡ e) × MatchOption r ((e ≤ i) × (j ≡ i)) (λ x. (i < e) × (x.0 ≡ i) × (x.1 ≡ node_at w i) × (j ≡ x.1.end))
