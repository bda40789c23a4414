-- What is noted of an entry of a map while it is read, and the number that a default is.
use Rattle.std.specs.Prelude.{◌≡◌, ℕ, List}
use Rattle.definitions.specs.declared.Spot.{Spot}
use Rattle.definitions.specs.declared.Want.{Want}
use Rattle.definitions.specs.Scope.{within}
use Rattle.definitions.specs.Loop.{Stand}
use Rattle.definitions.specs.Reading.{default, noted, number_leaf}
use Rattle.entries.specs.declared.Entry.{Entry}

-- where reading stands, with what the entry has
abbrev pub standing : Spot → Entry → Stand
standing q e = record { spot = q; key = e.key; value = e.value }

-- r is what an entry e has once the field i is read too, wherever reading stands
abbrev pub Noted : Want → ℕ → Entry → Entry → Type 0
Noted w i e r = (q p : Spot) → standing p r ≡ noted (within w) i (standing q e) p

-- a default is a node with this number, at each spot with so many bytes before it
abbrev pub Defaults : List ℕ → Want → ℕ → ℕ → Type 0
Defaults image w byte v = (q : Spot) → q.byte ≡ byte → default image w q ≡ number_leaf w q q.at v
