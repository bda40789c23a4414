-- What is kept of the records of a run that were passed, to tell that the next one is new: the marks of their names and their greatest number.
use Rattle.std.specs.Prelude.{◌≡◌, ℕ, ◌+◌, ◌-◌, ◌*◌, ◌/◌, ◌%◌, ◌^◌, ◌≤◌, ◌<◌, Bool, ◌||◌, not, eqb, List, length, get_or}
use Rattle.definitions.specs.Basics.{same, all}

-- one of 64 marks, by a name's length and its outer bytes
unfoldable pub mark_of : List ℕ → ℕ
mark_of s = (length s % 64 + 7 * get_or s 0 0 + 11 * get_or s (length s - 1) 0) % 64

-- of the first n records from a record on: `seen` has the bit of each name's mark, and no number is above `most`
pub record Seen (name : ℕ → List ℕ) (number : ℕ → ℕ) (first n seen most : ℕ) : Type 0 where
  pub marks : (i : ℕ) → i < n → seen / 2 ^ mark_of (name (first + i)) % 2 ≡ 1
  pub numbers : (i : ℕ) → i < n → number (first + i) ≤ most

-- two records agree that have one name or one number
unfoldable pub agree : (ℕ → List ℕ) → (ℕ → ℕ) → ℕ → ℕ → Bool
agree name number i j = same (name i) (name j) || eqb (number i) (number j)

-- of the records from the first on: the n-th differs from the i-th, and from all before it
abbrev pub differs : (ℕ → List ℕ) → (ℕ → ℕ) → ℕ → ℕ → ℕ → Bool
differs name number first n i = not (agree name number (first + i) (first + n))

abbrev pub new : (ℕ → List ℕ) → (ℕ → ℕ) → ℕ → ℕ → Bool
new name number first n = all n (differs name number first n)
