-- The whole text of an accepted schema, within the limits: what reading answers, and what nodes and pool hold afterwards.
use Rattle.std.specs.Prelude.{ℕ, List, length, Result, Ok, Err}
use Rattle.definitions.specs.declared.Refused.{Refused}
use Rattle.definitions.specs.Refusals.{given, denied}
use Rattle.definitions.specs.Refusals as refusals
use Rattle.definitions.specs.Refused.{refused_as}
use Rattle.definitions.specs.Calls.{stored}
use Rattle.definitions.specs.Reading as reading
use Rattle.definitions.specs.Reading.{whole, fitted, words_of, bytes_of}
use Rattle.parse.specs.declared.Made.{Made}

-- document 01's refusals and values for each case of the answer
abbrev pub read_of : refusals.Answer reading.Made → Result Made Refused
read_of (given m) = Ok (record { nodes = m.nodes; bytes = m.bytes })
read_of (denied why at) = Err (refused_as why at)

unfoldable pub fitted_read : (image : List ℕ) (root : ℕ) (s : List ℕ) (count size : ℕ) → refusals.Answer reading.Made
fitted_read image root s count size = fitted count size (whole image root s)

unfoldable pub fitted_nodes : (image : List ℕ) (root : ℕ) (s nodes : List ℕ) (size : ℕ) → List ℕ
fitted_nodes image root s nodes size = stored (fitted_read image root s (length nodes) size) nodes (λ _. words_of (whole image root s))

unfoldable pub fitted_pool : (image : List ℕ) (root : ℕ) (s : List ℕ) (count : ℕ) (pool : List ℕ) → List ℕ
fitted_pool image root s count pool = stored (fitted_read image root s count (length pool)) pool (λ _. bytes_of (whole image root s))
