-- Quoted bytes read back: each of the 256 by one computed test, a string of them by induction. The printer writes an octal escape with
-- all its three digits, so a digit that follows never joins it.
use Prim.Native.Nat.{ℕ, suc, ◌+◌, ◌-◌, ◌*◌, ◌≤◌, ◌<◌}
use native.Mathlib.Omega.{arith}
use native.Mathlib.Nat.{suc-add}
use mathlib.Core.Bool.{Bool, true, false, ◌&&◌, ◌||◌, not}
use mathlib.Core.Path.{◌≡◌, refl, sym, ap, ap₂, ◌∙◌}
use mathlib.Core.List.{List, [], ◌∷◌, ◌++◌, append_assoc}
use mathlib.Core.Option.{Option, none, some}
use lib.Dec.{leb, eqb}
use lib.ListN.{length, length-append}
use lib.Seq.{drop-append_seam, drop-append-add, take_at}
use borrow.Author.Tests.{leb-true, eqb-true, not-true}
use Rattle.definitions.specs.declared.Place.{Place}
use Rattle.definitions.specs.Basics.{between, each, all, find, part}
use Rattle.definitions.specs.Classes.{class, classes}
use Rattle.definitions.specs.Integers.{front, octal_digit, digit_value, worth}
use Rattle.definitions.specs.Strings.{escapes, find_escape, Piece, piece, bad_piece, up_to, piece_of, octal_piece, letter_piece, escape_piece, first_piece, before, decode}
use Rattle.definitions.specs.Tokens.{token_of, string_token, one_more, inside, scan_from}
use Rattle.definitions.specs.Print.{quote_byte, quote_bytes, quoted}
use Rattle.laws.proofs.Lists.{and_parts, each_append, AreBytes, bytes-head, bytes-tail}
use Rattle.laws.proofs.ClassTable.{byte-test}
use Rattle.laws.proofs.Decoding.{decode-nil, decode-piece}

-- ---- decoded again

is_piece : ℕ → ℕ → Piece → Bool
is_piece v n bad_piece = false
is_piece v n (piece w m) = eqb w v && eqb m n

is_piece-true : (v n : ℕ) (q : Piece) → is_piece v n q ≡ true → q ≡ piece v n
unfolding is_piece
is_piece-true v n bad_piece e = cc
is_piece-true v n (piece w m) e =
    let h = and_parts (eqb w v) (eqb m n) e in
    ap₂ piece (eqb-true w v h.0) (eqb-true m n h.1)

-- bytes that are one piece for b, whatever follows: a plain byte, an escape letter, or three octal digits
stands_for : ℕ → List ℕ → Bool
stands_for b [] = false
stands_for b (x ∷ []) = eqb x b && not (eqb x 92)
stands_for b (x ∷ y ∷ []) = eqb x 92 && (not (octal_digit y) && (not (eqb y 120) && is_piece b 2 (letter_piece (find_escape y))))
stands_for b (x ∷ y ∷ z ∷ []) = false
stands_for b (x ∷ y ∷ z ∷ w ∷ []) =
    eqb x 92 && (octal_digit y && (octal_digit z && (octal_digit w && is_piece b 4 (piece_of (worth 8 0 (y ∷ z ∷ w ∷ [])) 4))))
stands_for b (x ∷ y ∷ z ∷ w ∷ u ∷ t) = false

quote-stands : (b : ℕ) → b < 256 → stands_for b (quote_byte b) ≡ true
unfolding all stands_for is_piece quote_byte find_escape find escapes worth digit_value
quote-stands = byte-test (λ b. stands_for b (quote_byte b)) refl

-- three octal digits are all that an octal escape takes
octal-three : (y z w : ℕ) (r : List ℕ) → octal_digit y ≡ true → octal_digit z ≡ true → octal_digit w ≡ true
    → octal_piece (y ∷ z ∷ w ∷ r) ≡ piece_of (worth 8 0 (y ∷ z ∷ w ∷ [])) 4
unfolding octal_piece front
octal-three y z w r hy hz hw =
    let three : up_to 3 octal_digit (y ∷ z ∷ w ∷ r) ≡ 3 = rw (hy, hz, hw) (omega arith) in
    rw three

stands-piece : (b : ℕ) (x : ℕ) (q r : List ℕ) → stands_for b (x ∷ q) ≡ true → first_piece x (q ++ r) ≡ piece b (length (x ∷ q))
unfolding stands_for first_piece escape_piece
stands-piece b x [] r e =
    let h = and_parts (eqb x b) (not (eqb x 92)) e in
    rw (not-true (eqb x 92) h.1, eqb-true x b h.0)
stands-piece b x (y ∷ []) r e =
    let h = and_parts (eqb x 92) (not (octal_digit y) && (not (eqb y 120) && is_piece b 2 (letter_piece (find_escape y)))) e in
    let k = and_parts (not (octal_digit y)) (not (eqb y 120) && is_piece b 2 (letter_piece (find_escape y))) h.1 in
    let l = and_parts (not (eqb y 120)) (is_piece b 2 (letter_piece (find_escape y))) k.1 in
    rw (h.0, not-true (octal_digit y) k.0, not-true (eqb y 120) l.0) (is_piece-true b 2 (letter_piece (find_escape y)) l.1)
stands-piece b x (y ∷ z ∷ []) r e = cc
stands-piece b x (y ∷ z ∷ w ∷ []) r e =
    let v = piece_of (worth 8 0 (y ∷ z ∷ w ∷ [])) 4 in
    let h = and_parts (eqb x 92) (octal_digit y && (octal_digit z && (octal_digit w && is_piece b 4 v))) e in
    let k = and_parts (octal_digit y) (octal_digit z && (octal_digit w && is_piece b 4 v)) h.1 in
    let l = and_parts (octal_digit z) (octal_digit w && is_piece b 4 v) k.1 in
    let m = and_parts (octal_digit w) (is_piece b 4 v) l.1 in
    rw (h.0, k.0) (octal-three y z w r k.0 l.0 m.0 ∙ is_piece-true b 4 v m.1)
stands-piece b x (y ∷ z ∷ w ∷ u ∷ t) r e = cc

stands-decode : (b : ℕ) (q r : List ℕ) → stands_for b q ≡ true → decode (q ++ r) ≡ before b (decode r)
unfolding stands_for
stands-decode b [] r e = cc
stands-decode b (x ∷ q) r e =
    decode-piece x (q ++ r) b (length (x ∷ q)) (stands-piece b x q r e)
    ∙ ap (λ (l : List ℕ). before b (decode l)) (drop-append_seam (x ∷ q) r)

pub decode-quote_byte : (b : ℕ) (r : List ℕ) → b < 256 → decode (quote_byte b ++ r) ≡ before b (decode r)
decode-quote_byte b r h = stands-decode b (quote_byte b) r (quote-stands b h)

pub decode-quote_bytes : (bs : List ℕ) → AreBytes bs → decode (quote_bytes bs) ≡ some bs
unfolding quote_bytes
decode-quote_bytes [] h = decode-nil
decode-quote_bytes (b ∷ bs) h =
    decode-quote_byte b (quote_bytes bs) (bytes-head b bs h) ∙ ap (before b) (decode-quote_bytes bs (bytes-tail b bs h))

-- ---- scanned again

-- bytes inside a string in `"` that neither end it nor spoil it, nor leave a backslash waiting; after a backslash, or not
plain_run : Bool → List ℕ → Bool
plain_run slashed [] = not slashed
plain_run slashed (b ∷ bs) =
    not (eqb b 10 || eqb b 0) && (not (not slashed && eqb b 34) && plain_run (not slashed && eqb b 92) bs)

-- so many bytes more
abbrev pub further : ℕ → Option ℕ → Option ℕ
further n none = none
further n (some k) = some (n + k)

further-one : (n : ℕ) (o : Option ℕ) → one_more (further n o) ≡ further (suc n) o
further-one n none = refl
further-one n (some k) = ap some (sym (suc-add n k))

further-none : (o : Option ℕ) → o ≡ further 0 o
further-none none = refl
further-none (some k) = ap some (omega arith)

inside-run : (s : Bool) (q r : List ℕ) → plain_run s q ≡ true → inside 34 s (q ++ r) ≡ further (length q) (inside 34 false r)
unfolding plain_run inside
inside-run true [] r e = cc
inside-run false [] r e = further-none (inside 34 false r)
inside-run s (b ∷ q) r e =
    let h = and_parts (not (eqb b 10 || eqb b 0)) (not (not s && eqb b 34) && plain_run (not s && eqb b 92) q) e in
    let k = and_parts (not (not s && eqb b 34)) (plain_run (not s && eqb b 92) q) h.1 in
    rw (not-true (eqb b 10 || eqb b 0) h.0, not-true (not s && eqb b 34) k.0)
    (ap one_more (inside-run (not s && eqb b 92) q r k.1) ∙ further-one (length q) (inside 34 false r))

quote-runs : (b : ℕ) → b < 256 → plain_run false (quote_byte b) ≡ true
unfolding all plain_run quote_byte
quote-runs = byte-test (λ b. plain_run false (quote_byte b)) refl

pub inside-quote_byte : (b : ℕ) (r : List ℕ) → b < 256 → inside 34 false (quote_byte b ++ r) ≡ further (length (quote_byte b)) (inside 34 false r)
inside-quote_byte b r h = inside-run false (quote_byte b) r (quote-runs b h)

pub inside-quote_bytes : (bs r : List ℕ) → AreBytes bs → inside 34 false (quote_bytes bs ++ (34 ∷ r)) ≡ some (length (quote_bytes bs))
unfolding quote_bytes inside
inside-quote_bytes [] r h = refl
inside-quote_bytes (b ∷ bs) r h =
    ap (inside 34 false) (append_assoc (quote_byte b) (quote_bytes bs) (34 ∷ r))
    ∙ inside-quote_byte b (quote_bytes bs ++ (34 ∷ r)) (bytes-head b bs h)
    ∙ ap (further (length (quote_byte b))) (inside-quote_bytes bs r (bytes-tail b bs h))
    ∙ ap some (sym (length-append (quote_byte b) (quote_bytes bs)))

pub quoted-length : (bs : List ℕ) → length (quoted bs) ≡ length (quote_bytes bs) + 2
unfolding quoted
quoted-length bs = omega (arith, length-append (quote_bytes bs) (34 ∷ []))

pub scan-quoted : (p : Place) (bs r : List ℕ) → AreBytes bs → scan_from p (quoted bs ++ r) ≡ token_of string_token p (p.offset + length (quoted bs))
unfolding scan_from quoted class classes
scan-quoted p bs r h =
    rw (append_assoc (quote_bytes bs) (34 ∷ []) r, inside-quote_bytes bs r h)
    (ap (token_of string_token p) (omega (arith, quoted-length bs)))

-- what stands between the quotes
pub part-quoted : (a bs r : List ℕ) → part (a ++ (quoted bs ++ r)) (length a + 1) (length a + length (quoted bs) - 1) ≡ quote_bytes bs
unfolding quoted
part-quoted a bs r =
    rw (quoted-length bs, append_assoc (quote_bytes bs) (34 ∷ []) r, drop-append-add a (34 ∷ (quote_bytes bs ++ (34 ∷ r))) 1)
    (take_at (quote_bytes bs) (34 ∷ r) (length a + (length (quote_bytes bs) + 2) - 1 - (length a + 1)) (omega arith))

-- ---- how they are made

pub quote_bytes-append : (a b : List ℕ) → quote_bytes (a ++ b) ≡ quote_bytes a ++ quote_bytes b
unfolding quote_bytes
quote_bytes-append [] b = refl
quote_bytes-append (x ∷ a) b =
    ap (λ (l : List ℕ). quote_byte x ++ l) (quote_bytes-append a b) ∙ sym (append_assoc (quote_byte x) (quote_bytes a) (quote_bytes b))

-- at most four for each
pub quote_byte-length : (b : ℕ) → b < 256 → length (quote_byte b) ≤ 4
unfolding all quote_byte
quote_byte-length b h = leb-true (length (quote_byte b)) 4 (byte-test (λ b. leb (length (quote_byte b)) 4) refl b h)

pub quote_bytes-length : (bs : List ℕ) → AreBytes bs → length (quote_bytes bs) ≤ 4 * length bs
unfolding quote_bytes
quote_bytes-length [] h = omega arith
quote_bytes-length (b ∷ bs) h =
    omega (arith, length-append (quote_byte b) (quote_bytes bs), quote_byte-length b (bytes-head b bs h), quote_bytes-length bs (bytes-tail b bs h))

-- all of them from 32 to 126
pub quote_byte-seen : (b : ℕ) → b < 256 → each (between 32 126) (quote_byte b) ≡ true
unfolding all each quote_byte
quote_byte-seen = byte-test (λ b. each (between 32 126) (quote_byte b)) refl

pub quote_bytes-seen : (bs : List ℕ) → AreBytes bs → each (between 32 126) (quote_bytes bs) ≡ true
unfolding quote_bytes each
quote_bytes-seen [] h = refl
quote_bytes-seen (b ∷ bs) h =
    each_append (between 32 126) (quote_byte b) (quote_bytes bs) (quote_byte-seen b (bytes-head b bs h)) (quote_bytes-seen bs (bytes-tail b bs h))
