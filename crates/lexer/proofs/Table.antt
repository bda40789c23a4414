-- A byte's class, read from a lent table.
use mathlib.Core.Path.{◌≡◌, ◌∙◌, refl, ap}
use mathlib.Core.List.{List, [], ◌∷◌}
use Prim.Native.Nat.{ℕ, zero, suc, ◌<◌}
use native.Mathlib.Nat.{le_of_suc-le-suc, not-suc-le-zero}
use lib.ListN.{length, get_or}
use Rattle.definitions.specs.Classes.{classes, class, other_class}

-- inside a list no default is read
get_d_any : (s : List ℕ) (i d e : ℕ) → i < length s → get_or s i d ≡ get_or s i e
get_d_any [] i d e h = absurd (not-suc-le-zero h)
get_d_any (b ∷ bs) zero d e h = refl
get_d_any (b ∷ bs) (suc i) d e h = get_d_any bs i d e (le_of_suc-le-suc h)

pub class-read : (table : List ℕ) (b : ℕ) → table ≡ classes → b < 256 → get_or table b 0 ≡ class b
unfolding class classes
class-read table b e h = ap (λ (t : List ℕ). get_or t b 0) e ∙ get_d_any classes b 0 other_class h
