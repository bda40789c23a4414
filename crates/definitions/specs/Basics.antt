-- Words that the definitions are written in: a choice, text as bytes, tests over lists and ranges, the first index of a range.
use Rattle.std.specs.Prelude.{ℕ, zero, suc, ◌+◌, ◌-◌, Bool, true, false, ◌&&◌, ◌||◌, List, [], ◌∷◌, eqb, leb, take, drop}
use Prim.Native.String as text
use Prim.Native.String.{String}
use Prim.Native.Char.{code}
use Rattle.std.proofs.Math.Option.{Option, none, some}

-- one of two, and only that one is computed
infix 10 when◌then◌otherwise◌
abbrev pub when◌then◌otherwise◌ : {A : Type 0} → Bool → (Unit {0} → A) → (Unit {0} → A) → A
when true then a otherwise b = a tt
when false then a otherwise b = b tt

-- the bytes of an ASCII text
abbrev pub bytes : String → List ℕ
bytes text.[] = []
bytes (text.◌∷◌ c s) = code c ∷ bytes s

-- from low to high, both counted
abbrev pub between : ℕ → ℕ → ℕ → Bool
between low high n = leb low n && leb n high

-- two lists are the same, element by element
unfoldable pub same : List ℕ → List ℕ → Bool
same [] [] = true
same [] (y ∷ ys) = false
same (x ∷ xs) [] = false
same (x ∷ xs) (y ∷ ys) = eqb x y && same xs ys

-- a test passes at each element
unfoldable pub each : (ℕ → Bool) → List ℕ → Bool
each p [] = true
each p (x ∷ xs) = p x && each p xs

-- a test passes at each number below n
unfoldable pub all : ℕ → (ℕ → Bool) → Bool
all zero p = true
all (suc n) p = all n p && p n

-- a test passes at some number below n
unfoldable pub any : ℕ → (ℕ → Bool) → Bool
any zero p = false
any (suc n) p = any n p || p n

-- the first of n indices from i on that passes a test
unfoldable pub find : (ℕ → Bool) → ℕ → ℕ → Option ℕ
find p i zero = none
find p i (suc n) = when p i then (λ _. some i) otherwise λ _. find p (i + 1) n

-- a list from the place a up to the place e
abbrev pub part : List ℕ → ℕ → ℕ → List ℕ
part s a e = take (e - a) (drop a s)
