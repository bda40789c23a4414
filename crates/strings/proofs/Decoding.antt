-- How far a piece of a string reaches, and decoding piece after piece, where the fuel no longer shows.
use mathlib.Core.Path.{◌≡◌, sym, ◌∙◌, refl, ap}
use mathlib.Core.Bool.{Bool}
use mathlib.Core.List.{List, [], ◌∷◌}
use mathlib.Core.Option.{Option, none, some}
use Prim.Native.Nat.{ℕ, zero, suc, ◌≤◌}
use native.Mathlib.Omega.{arith}
use native.Mathlib.Nat.{min-le_right}
use lib.ListN.{length, drop, length-drop}
use Rattle.definitions.specs.Integers.{front}
use Rattle.definitions.specs.Strings.{Piece, piece, bad_piece, up_to, first_piece, before, follow, decode_f, decode}
use Rattle.laws.proofs.Lists.{front-le}
use Rattle.laws.proofs.Decoding.{piece-taken}
use Rattle.strings.specs.Values.{ahead, front_f, decoded_front}

-- ---- a piece takes at least one byte, and no more than there are

pub up_to-le : (n : ℕ) (p : ℕ → Bool) (bs : List ℕ) → up_to n p bs ≤ length bs
up_to-le n p bs = omega (arith, min-le_right n (front p bs), front-le p bs)

-- the piece p, if it is one, takes from one byte to all n
abbrev pub Reaches : ℕ → Piece → Type 0
Reaches n p = (c k : ℕ) → p ≡ piece c k → (1 ≤ k) × (k ≤ n)

pub reaches-first : (b : ℕ) (bs : List ℕ) → Reaches (suc (length bs)) (first_piece b bs)
reaches-first b bs c k e = let z = piece-taken b bs c k e in (z.some-taken, z.within)

-- ---- piece after piece, with any answer

module _
    {A : Type 0}
    (run : ℕ → List ℕ → A)
    (stop : A)
    (go_on : Piece → (ℕ → A) → A)
    (nil : (f : ℕ) → run f [] ≡ stop)
    (cons : (f b : ℕ) (bs : List ℕ) → run (suc f) (b ∷ bs) ≡ go_on (first_piece b bs) (λ n. run f (drop n (b ∷ bs))))
    (alike : (p : Piece) (r s : ℕ → A) → ((c n : ℕ) → p ≡ piece c n → r n ≡ s n) → go_on p r ≡ go_on p s)
  where
    left_le : (b n f : ℕ) (bs : List ℕ) → 1 ≤ n → suc (length bs) ≤ suc f → length (drop n (b ∷ bs)) ≤ f
    left_le b n f bs h k = simp length-drop (omega arith)

    -- more fuel than bytes says nothing more
    fuel : (f g : ℕ) (s : List ℕ) → length s ≤ f → length s ≤ g → run f s ≡ run g s
    fuel zero g [] h k = nil zero ∙ sym (nil g)
    fuel zero g (b ∷ bs) h k = absurd (omega arith)
    fuel (suc f) zero [] h k = nil (suc f) ∙ sym (nil zero)
    fuel (suc f) zero (b ∷ bs) h k = absurd (omega arith)
    fuel (suc f) (suc g) [] h k = nil (suc f) ∙ sym (nil (suc g))
    fuel (suc f) (suc g) (b ∷ bs) h k =
        cons f b bs
        ∙ alike (first_piece b bs) _ _ (λ c n e. let lo = (reaches-first b bs c n e).0 in fuel f g (drop n (b ∷ bs)) (left_le b n f bs lo h) (left_le b n g bs lo k))
        ∙ sym (cons g b bs)

    unrolled : (b : ℕ) (bs : List ℕ) → run (length (b ∷ bs)) (b ∷ bs) ≡ go_on (first_piece b bs) (λ n. run (length (drop n (b ∷ bs))) (drop n (b ∷ bs)))
    unrolled b bs =
        cons (length bs) b bs
        ∙ alike (first_piece b bs) _ _ (λ c n e. let lo = (reaches-first b bs c n e).0 in fuel (length bs) (length (drop n (b ∷ bs))) (drop n (b ∷ bs)) (left_le b n (length bs) bs lo (omega arith)) (omega arith))

ahead-alike : (p : Piece) (r s : ℕ → List ℕ) → ((c n : ℕ) → p ≡ piece c n → r n ≡ s n) → ahead p r ≡ ahead p s
ahead-alike bad_piece r s h = refl
ahead-alike (piece c n) r s h = ap (λ (l : List ℕ). c ∷ l) (h c n refl)

front_f-nil : (f : ℕ) → front_f f [] ≡ []
unfolding front_f
front_f-nil zero = refl
front_f-nil (suc f) = refl

pub decoded_front-nil : decoded_front [] ≡ []
unfolding decoded_front front_f
decoded_front-nil = refl

pub decoded_front-cons : (b : ℕ) (bs : List ℕ) → decoded_front (b ∷ bs) ≡ ahead (first_piece b bs) (λ n. decoded_front (drop n (b ∷ bs)))
unfolding decoded_front front_f
decoded_front-cons = unrolled front_f [] ahead front_f-nil (λ f b bs. refl) ahead-alike

-- ---- a string that decodes: its front is all of it

-- what a piece brings to both, from what the rest brings
front-step : (p : Piece) (r : ℕ → Option (List ℕ)) (s : ℕ → List ℕ) (ds : List ℕ) → ((n : ℕ) (es : List ℕ) → r n ≡ some es → s n ≡ es) → follow p r ≡ some ds → ahead p s ≡ ds
front-step bad_piece r s ds h e = let z : ◌≡◌ {A = ℕ} 0 1 = cc in absurd (omega arith)
front-step (piece c n) r s ds h e = go (r n) (h n) e
  where
    go : (o : Option (List ℕ)) → ((es : List ℕ) → o ≡ some es → s n ≡ es) → before c o ≡ some ds → c ∷ s n ≡ ds
    go none k q = let z : ◌≡◌ {A = ℕ} 0 1 = cc in absurd (omega arith)
    go (some es) k q = let w : c ∷ es ≡ ds = cc in rw (k es refl) w

fronts : (f : ℕ) (s ds : List ℕ) → decode_f f s ≡ some ds → front_f f s ≡ ds
unfolding decode_f front_f
fronts zero [] ds e = cc
fronts zero (b ∷ bs) ds e = let z : ◌≡◌ {A = ℕ} 0 1 = cc in absurd (omega arith)
fronts (suc f) [] ds e = cc
fronts (suc f) (b ∷ bs) ds e = front-step (first_piece b bs) _ _ ds (λ n es q. fronts f (drop n (b ∷ bs)) es q) e

pub decoded_front-all : (s ds : List ℕ) → decode s ≡ some ds → decoded_front s ≡ ds
unfolding decode decoded_front
decoded_front-all s ds e = fronts (length s) s ds e
