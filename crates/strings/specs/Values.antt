-- What an answer says of a string: of a piece of it, and of the whole.
use Rattle.std.specs.Prelude.{ℕ, zero, suc, Bool, ◌&&◌, not, List, [], ◌∷◌, eqb, length, drop, Option, Some, None}
use Rattle.std.proofs.Math.Option as math
use Rattle.std.proofs.Math.Option.{none, some}
use Rattle.definitions.specs.Strings.{Piece, piece, bad_piece, first_piece}
use Rattle.definitions.specs.Utf8.{utf8}
use Rattle.utf8.specs.Values.{ascii}
use Rattle.strings.specs.declared.escapes.Piece as answered
use Rattle.strings.specs.declared.Decoded.{Decoded}

-- a letter of one byte that stands for itself: no backslash
abbrev pub plain : ℕ → Bool
plain b = ascii b && not (eqb b 92)

-- a piece as the code answers it
abbrev pub told : Piece → Option answered.Piece
told (piece b n) = Some (record { byte = b; count = n })
told bad_piece = None

-- a decoded string as the code answers it
abbrev pub decoded_of : math.Option (List ℕ) → Option Decoded
decoded_of none = None
decoded_of (some bs) = Some (record { count = length bs; utf8 = utf8 bs })

abbrev pub ahead : Piece → (ℕ → List ℕ) → List ℕ
ahead bad_piece rest = []
ahead (piece b n) rest = b ∷ rest n

-- the bytes of the pieces before the first bad one, of a string of at most so many bytes
unfoldable pub front_f : ℕ → List ℕ → List ℕ
front_f zero bs = []
front_f (suc f) [] = []
front_f (suc f) (b ∷ bs) = ahead (first_piece b bs) (λ n. front_f f (drop n (b ∷ bs)))

unfoldable pub decoded_front : List ℕ → List ℕ
decoded_front bs = front_f (length bs) bs
