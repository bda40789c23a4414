-- A letter's row is found among the rows as it is by its index.
use Rattle.std.proofs.Common.{◌≡◌, refl, sym, ◌∙◌, ap, ℕ, ◌+◌, ◌*◌, Bool, true, false, cond, eqb, List, [], ◌∷◌, length, get_or, drop, arith, Option, Some, None}
use Rattle.std.proofs.Math.Option as math
use Rattle.std.proofs.Math.Option.{some}
use Rattle.std.specs.Option.{option_map}
use Rattle.std.specs.List as lists
use Rattle.std.proofs.lemmas.List.{get_or-drop}
use lib.Seq.{drop-drop}
use Rattle.definitions.specs.Basics.{when◌then◌otherwise◌, find}
use Rattle.definitions.specs.Strings.{escapes, find_escape, letter_piece}
use Rattle.strings.specs.declared.escapes.Piece.{Piece}
use Rattle.strings.specs.Rows.{rows}
use Rattle.strings.specs.Values.{told}
use denote.Bor.{Bor}

-- the table's bytes, row after row
abbrev flat : List (ℕ × ℕ) → List ℕ
flat [] = []
flat (r ∷ rs) = r.0 ∷ r.1 ∷ flat rs

module _ (letter : ℕ) where
  abbrev row : ℕ → Bool
  row i = eqb (get_or escapes (2 * i) 0) letter

  abbrev pub is_its : ℕ × ℕ → Bool
  is_its r = eqb r.0 letter

  abbrev piece_in : ℕ × ℕ → Piece
  piece_in r = record { byte = r.1; count = 2 }

  choose : (t : Bool) (i : ℕ) (r : ℕ × ℕ) (o : math.Option ℕ) (q : Option (ℕ × ℕ)) → get_or escapes (2 * i + 1) 0 ≡ r.1 → told (letter_piece o) ≡ option_map piece_in q
      → told (letter_piece (when t then (λ _. some i) otherwise λ _. o)) ≡ option_map piece_in (cond t (Some r) q)
  choose true i r o q e k = rw e
  choose false i r o q e k = k

  from : (rest : List (ℕ × ℕ)) (i : ℕ) → drop (2 * i) escapes ≡ flat rest → told (letter_piece (find row i (length rest))) ≡ option_map piece_in (lists.find is_its rest)
  unfolding find
  from [] i e = refl
  from (r ∷ rest) i e =
      let first : get_or escapes (2 * i) 0 ≡ r.0 = (let z : 2 * i ≡ 2 * i + 0 = omega arith in ap (λ (n : ℕ). get_or escapes n 0) z) ∙ sym (get_or-drop (2 * i) escapes 0 0) ∙ ap (λ (l : List ℕ). get_or l 0 0) e in
      let second : get_or escapes (2 * i + 1) 0 ≡ r.1 = sym (get_or-drop (2 * i) escapes 1 0) ∙ ap (λ (l : List ℕ). get_or l 1 0) e in
      let later : drop (2 * (i + 1)) escapes ≡ flat rest = (let n : 2 * (i + 1) ≡ 2 * i + 2 = omega arith in rw (n, ← drop-drop 2 (2 * i) escapes)) ∙ ap (drop 2) e in
      rw first (choose (eqb r.0 letter) i r (find row (i + 1) (length rest)) (lists.find is_its rest) second (from rest (i + 1) later))

  -- the table as the code holds it, and the row that it lends
  module _ (table : List (ℕ × ℕ)) (r : Option (Bor (ℕ × ℕ))) where
    abbrev view : Option (Bor (ℕ × ℕ)) → Option Piece
    view q = option_map piece_in (option_map (λ x. x.now) q)

    found : table ≡ rows escapes → option_map (λ x. x.now) r ≡ lists.find is_its table → view r ≡ told (letter_piece (find_escape letter))
    unfolding find_escape escapes
    found kept e = ap (option_map piece_in) (e ∙ ap (lists.find is_its) kept) ∙ sym (from (rows escapes) 0 refl)

    pub found_none : table ≡ rows escapes → option_map (λ x. x.now) r ≡ lists.find is_its table → r ≡ None → None ≡ told (letter_piece (find_escape letter))
    found_none kept e n = ap view (sym n) ∙ found kept e

    pub found_row : (x : Bor (ℕ × ℕ)) → table ≡ rows escapes → option_map (λ x. x.now) r ≡ lists.find is_its table → r ≡ Some x → Some (piece_in x.now) ≡ told (letter_piece (find_escape letter))
    found_row x kept e n = ap view (sym n) ∙ found kept e
