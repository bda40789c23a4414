-- Escapes piece by piece: what a piece takes and stands for, and decoding as its first piece and the rest, whatever the fuel.
use Prim.Native.Nat.{ℕ, zero, suc, ◌+◌, ◌*◌, ◌≤◌, ◌<◌}
use native.Mathlib.Omega.{arith}
use mathlib.Core.Bool.{Bool, true, false}
use mathlib.Core.Path.{◌≡◌, refl, sym, ap, ◌∙◌}
use mathlib.Core.List.{List, [], ◌∷◌}
use mathlib.Core.Option.{Option, none, some}
use lib.Dec.{ltb, eqb}
use lib.ListN.{length, take, drop, get_or, length-drop}
use lib.Seq.{drop-cons, drop-drop}
use native.Mathlib.Numerals.{add-one}
use borrow.Author.Tests.{ltb-true, eqb-true}
use Rattle.definitions.specs.Basics.{all}
use Rattle.definitions.specs.Integers.{octal_digit, hex_digit, worth}
use Rattle.definitions.specs.Strings.{escapes, find_escape, Piece, piece, bad_piece, up_to, piece_of, octal_piece, hex_piece, letter_piece, escape_piece, first_piece, before, follow, decode_f, decode}
use Rattle.laws.proofs.Lists.{all-at, find-some, front-le, AreBytes, bytes-head, bytes-cons, bytes_drop}

-- ---- a piece

-- what a piece that stands for v and takes n of the bytes says: at least one, at most all, and v is a byte if they are
pub record Taken (bs : List ℕ) (v n : ℕ) : Type 0 where
  pub some-taken : 1 ≤ n
  pub within : n ≤ length bs
  pub byte : AreBytes bs → v < 256

-- a piece, or none, of the bytes
abbrev pub Fair : List ℕ → Piece → Type 0
Fair bs bad_piece = Unit {0}
Fair bs (piece v n) = Taken bs v n

fair-piece_of : (bs : List ℕ) (v n : ℕ) → 1 ≤ n → n ≤ length bs → Fair bs (piece_of v n)
fair-piece_of bs v n h k = go (ltb v 256) refl
  where
    go : (t : Bool) → ltb v 256 ≡ t → Fair bs (piece_of v n)
    go true e = rw e (record { some-taken = h; within = k; byte = λ _. ltb-true v 256 e })
    go false e = rw e tt

fair-octal : (bs : List ℕ) → Fair (92 ∷ bs) (octal_piece bs)
unfolding octal_piece
fair-octal bs =
    fair-piece_of (92 ∷ bs) (worth 8 0 (take (up_to 3 octal_digit bs) bs)) (1 + up_to 3 octal_digit bs)
    (omega arith) (omega (arith, front-le octal_digit bs))

fair-hex : (bs : List ℕ) → Fair (92 ∷ 120 ∷ bs) (hex_piece bs)
unfolding hex_piece
fair-hex bs = go (eqb (up_to 2 hex_digit bs) 0) refl
  where
    go : (t : Bool) → eqb (up_to 2 hex_digit bs) 0 ≡ t → Fair (92 ∷ 120 ∷ bs) (hex_piece bs)
    go true e = rw (e, hex_piece) tt
    go false e =
        rw (e, hex_piece)
        (fair-piece_of (92 ∷ 120 ∷ bs) (worth 16 0 (take (up_to 2 hex_digit bs) bs)) (2 + up_to 2 hex_digit bs)
        (omega arith) (omega (arith, front-le hex_digit bs)))

escape-byte : (i : ℕ) → i < 11 → get_or escapes (2 * i + 1) 0 < 256
unfolding all escapes
escape-byte i h = ltb-true _ 256 (all-at 11 (λ i. ltb (get_or escapes (2 * i + 1) 0) 256) refl i h)

fair-letter : (b : ℕ) (bs : List ℕ) → Fair (92 ∷ b ∷ bs) (letter_piece (find_escape b))
unfolding find_escape
fair-letter b bs = go (find_escape b) refl
  where
    go : (o : Option ℕ) → find_escape b ≡ o → Fair (92 ∷ b ∷ bs) (letter_piece (find_escape b))
    go none e = rw e tt
    go (some i) e =
        let f = find-some (λ i. eqb (get_or escapes (2 * i) 0) b) 0 11 i e in
        rw e (record { some-taken = omega arith; within = omega arith; byte = λ _. escape-byte i (omega (arith, f.below)) })

fair-escape : (bs : List ℕ) → Fair (92 ∷ bs) (escape_piece bs)
unfolding escape_piece
fair-escape [] = tt
fair-escape (b ∷ bs) = go (octal_digit b) refl (eqb b 120) refl
  where
    go : (t : Bool) → octal_digit b ≡ t → (u : Bool) → eqb b 120 ≡ u → Fair (92 ∷ b ∷ bs) (escape_piece (b ∷ bs))
    go true e u d = rw (e, escape_piece) (fair-octal (b ∷ bs))
    go false e true d = rw (e, d, eqb-true b 120 d, escape_piece) (fair-hex bs)
    go false e false d = rw (e, d, escape_piece) (fair-letter b bs)

fair-first : (b : ℕ) (bs : List ℕ) → Fair (b ∷ bs) (first_piece b bs)
unfolding first_piece
fair-first b bs = go (eqb b 92) refl
  where
    go : (t : Bool) → eqb b 92 ≡ t → Fair (b ∷ bs) (first_piece b bs)
    go true e = rw (e, eqb-true b 92 e, first_piece) (fair-escape bs)
    go false e = rw (e, first_piece) (record { some-taken = omega arith; within = omega arith; byte = λ h. bytes-head b bs h })

pub piece-taken : (b : ℕ) (bs : List ℕ) (v n : ℕ) → first_piece b bs ≡ piece v n → Taken (b ∷ bs) v n
piece-taken b bs v n e = rw e at (fair-first b bs)

-- ---- decoding: the fuel does not matter, once it is enough

-- after a piece there is less
drop-shorter : (b : ℕ) (bs : List ℕ) (n : ℕ) → 1 ≤ n → length (drop n (b ∷ bs)) ≤ length bs
drop-shorter b bs n h = rw length-drop (omega arith)

follow-same : (q : Piece) (f g : ℕ → Option (List ℕ)) → ((v n : ℕ) → q ≡ piece v n → f n ≡ g n) → follow q f ≡ follow q g
follow-same bad_piece f g h = refl
follow-same (piece v n) f g h = ap (before v) (h v n refl)

fuel : (f g : ℕ) (bs : List ℕ) → length bs ≤ f → length bs ≤ g → decode_f f bs ≡ decode_f g bs
unfolding decode_f
fuel zero zero [] h k = refl
fuel zero (suc g) [] h k = refl
fuel (suc f) zero [] h k = refl
fuel (suc f) (suc g) [] h k = refl
fuel zero zero (b ∷ bs) h k = refl
fuel zero (suc g) (b ∷ bs) h k = absurd (omega arith)
fuel (suc f) zero (b ∷ bs) h k = absurd (omega arith)
fuel (suc f) (suc g) (b ∷ bs) h k =
    follow-same (first_piece b bs) (λ n. decode_f f (drop n (b ∷ bs))) (λ n. decode_f g (drop n (b ∷ bs)))
    (λ v n e.
    let less = drop-shorter b bs n (piece-taken b bs v n e).some-taken in
    fuel f g (drop n (b ∷ bs)) (omega arith) (omega arith))

-- more fuel than bytes changes nothing
pub decode_f-is : (f : ℕ) (bs : List ℕ) → length bs ≤ f → decode_f f bs ≡ decode bs
unfolding decode
decode_f-is f bs h = fuel f (length bs) bs h (omega arith)

pub decode-nil : decode [] ≡ some []
unfolding decode decode_f
decode-nil = refl

pub decode_is : (b : ℕ) (bs : List ℕ) → decode (b ∷ bs) ≡ follow (first_piece b bs) (λ n. decode (drop n (b ∷ bs)))
unfolding decode decode_f
decode_is b bs =
    follow-same (first_piece b bs) (λ n. decode_f (length bs) (drop n (b ∷ bs))) (λ n. decode (drop n (b ∷ bs)))
    (λ v n e. decode_f-is (length bs) (drop n (b ∷ bs)) (drop-shorter b bs n (piece-taken b bs v n e).some-taken))

-- the same by what the first piece is
pub decode-piece : (b : ℕ) (bs : List ℕ) (v n : ℕ) → first_piece b bs ≡ piece v n → decode (b ∷ bs) ≡ before v (decode (drop n (b ∷ bs)))
decode-piece b bs v n e = decode_is b bs ∙ rw e

pub decode-bad : (b : ℕ) (bs : List ℕ) → first_piece b bs ≡ bad_piece → decode (b ∷ bs) ≡ none
decode-bad b bs e = decode_is b bs ∙ rw e

-- the same at a place inside a list
pub decode-at : (l : List ℕ) (i : ℕ) → i < length l → decode (drop i l) ≡ follow (first_piece (get_or l i 0) (drop (i + 1) l)) (λ n. decode (drop (i + n) l))
decode-at l i h =
    ap decode here
    ∙ decode_is (get_or l i 0) (drop (i + 1) l)
    ∙ follow-same (first_piece (get_or l i 0) (drop (i + 1) l)) (λ n. decode (drop n (get_or l i 0 ∷ drop (i + 1) l))) (λ n. decode (drop (i + n) l))
    (λ v n e. ap (λ k. decode (drop n k)) (sym here) ∙ ap decode (drop-drop n i l))
  where
    here : drop i l ≡ get_or l i 0 ∷ drop (i + 1) l
    here = rw add-one (drop-cons l i 0 h)

-- ---- what decoding gives is no longer than the bytes, and bytes again

abbrev Sound : List ℕ → Option (List ℕ) → Type 0
Sound bs none = Unit {0}
Sound bs (some r) = (length r ≤ length bs) × (AreBytes bs → AreBytes r)

sound-before : (b : ℕ) (bs : List ℕ) (v n : ℕ) → Taken (b ∷ bs) v n → (o : Option (List ℕ)) → Sound (drop n (b ∷ bs)) o → Sound (b ∷ bs) (before v o)
sound-before b bs v n t none s = tt
sound-before b bs v n t (some r) s =
    let less = drop-shorter b bs n t.some-taken in
    (omega arith, λ h. bytes-cons v r (t.byte h) (s.1 (bytes_drop n (b ∷ bs) h)))

sound_f : (f : ℕ) (bs : List ℕ) → Sound bs (decode_f f bs)
unfolding decode_f
sound_f zero [] = (omega arith, λ h. h)
sound_f zero (b ∷ bs) = tt
sound_f (suc f) [] = (omega arith, λ h. h)
sound_f (suc f) (b ∷ bs) = go (first_piece b bs) refl (λ n. sound_f f (drop n (b ∷ bs)))
  where
    go : (q : Piece) → first_piece b bs ≡ q → ((n : ℕ) → Sound (drop n (b ∷ bs)) (decode_f f (drop n (b ∷ bs)))) → Sound (b ∷ bs) (decode_f (suc f) (b ∷ bs))
    go bad_piece e ih = rw (e, decode_f) tt
    go (piece v n) e ih = rw (e, decode_f) (sound-before b bs v n (piece-taken b bs v n e) (decode_f f (drop n (b ∷ bs))) (ih n))

sound : (bs r : List ℕ) → decode bs ≡ some r → Sound bs (some r)
unfolding decode
sound bs r e = rw e at (sound_f (length bs) bs)

pub decode-length : (bs r : List ℕ) → decode bs ≡ some r → length r ≤ length bs
decode-length bs r e = (sound bs r e).0

pub decode-bytes : (bs r : List ℕ) → decode bs ≡ some r → AreBytes bs → AreBytes r
decode-bytes bs r e = (sound bs r e).1
