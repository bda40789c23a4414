-- The turns of decoding: the bytes that are decoded and stored so far, and the rest that is left to decode.
use mathlib.Core.Path.{◌≡◌, sym, ◌∙◌, refl, ap}
use mathlib.Core.Bool.{true, not}
use mathlib.Core.List.{List, [], ◌∷◌, ◌++◌, append-nil}
use mathlib.Core.Option.{Option, none, some}
use Prim.Native.Nat.{ℕ, ◌≤◌, ◌<◌, ◌+◌, ◌-◌}
use Rattle.std.proofs.lemmas.List.{take_rest}
use native.Mathlib.Omega.{arith}
use lib.Dec.{eqb}
use lib.ListN.{length, set, take, drop, length-append, length-drop, take-append-drop}
use lib.Seq.{sets, length-sets, length-take-le, append_snoc}
use borrow.Author.Tests.{eqb-false, not-true}
use Rattle.definitions.specs.Basics.{each}
use Rattle.definitions.specs.Integers.{front}
use Rattle.definitions.specs.declared.Utf8.{Utf8}
use Rattle.definitions.specs.Utf8.{whole, step, steps, utf8}
use Rattle.definitions.specs.Strings.{Piece, piece, bad_piece, first_piece, before, decode}
use Rattle.std.specs.Prelude as std
use Rattle.std.specs.Prelude.{Some, None}
use Rattle.strings.specs.declared.escapes.Piece as answered
use Rattle.strings.specs.declared.Decoded.{Decoded}
use Rattle.utf8.specs.Values.{ascii}
use Rattle.strings.specs.Values.{plain, told, decoded_of, decoded_front}
use Rattle.laws.proofs.Lists.{and_parts, each_map, front-le}
use Rattle.laws.proofs.Utf8Laws.{ascii-steps}
use Rattle.laws.proofs.Decoding.{decode_is, decode-nil}
use Rattle.laws.proofs.Lists.{front-passes}
use Rattle.strings.proofs.Decoding.{reaches-first, decoded_front-nil, decoded_front-cons}
use Rattle.strings.proofs.Escaping.{first_plain}
use Rattle.laws.proofs.Stores.{sets-snoc}

-- ---- what a piece was, of what was told of it

told-some : (p : Piece) (a : answered.Piece) → told p ≡ Some a → p ≡ piece a.byte a.count
told-some (piece c m) a e = cc
told-some bad_piece a e = let z : ◌≡◌ {A = ℕ} 0 1 = cc in absurd (omega arith)

told-bad : (p : Piece) → told p ≡ None → p ≡ bad_piece
told-bad (piece c m) e = let z : ◌≡◌ {A = ℕ} 0 1 = cc in absurd (omega arith)
told-bad bad_piece e = refl

empty : (s : List ℕ) → length s ≡ 0 → s ≡ []
empty [] h = refl
empty (b ∷ bs) h = absurd (omega arith)

-- ---- one byte more at the end

steps-snoc : (xs : List ℕ) (u : Utf8) (b : ℕ) → steps u (xs ++ (b ∷ [])) ≡ step (steps u xs) b
unfolding steps
steps-snoc [] u b = refl
steps-snoc (x ∷ xs) u b = steps-snoc xs (step u x) b

-- bytes before what is decoded
abbrev joined : List ℕ → Option (List ℕ) → Option (List ℕ)
joined xs none = none
joined xs (some ys) = some (xs ++ ys)

joined-nil : (o : Option (List ℕ)) → joined [] o ≡ o
joined-nil none = refl
joined-nil (some ys) = refl

joined-before : (xs : List ℕ) (b : ℕ) (o : Option (List ℕ)) → joined (xs ++ (b ∷ [])) o ≡ joined xs (before b o)
joined-before xs b none = refl
joined-before xs b (some ys) = ap some (append_snoc xs b ys)

joined-cons : (b : ℕ) (xs : List ℕ) (o : Option (List ℕ)) → joined (b ∷ xs) o ≡ before b (joined xs o)
joined-cons b xs none = refl
joined-cons b xs (some ys) = refl

-- ---- plain bytes before what is decoded

plain-first : (b : ℕ) (bs : List ℕ) → plain b ≡ true → first_piece b bs ≡ piece b 1
plain-first b bs e = first_plain b bs (eqb-false b 92 (not-true (eqb b 92) (and_parts (ascii b) (not (eqb b 92)) e).1))

decode-plain : (xs s : List ℕ) → each plain xs ≡ true → joined xs (decode s) ≡ decode (xs ++ s)
unfolding each
decode-plain [] s e = joined-nil (decode s)
decode-plain (b ∷ xs) s e =
    let h = and_parts (plain b) (each plain xs) e in
    joined-cons b xs (decode s)
    ∙ ap (before b) (decode-plain xs s h.1)
    ∙ sym (decode_is b (xs ++ s) ∙ rw (plain-first b (xs ++ s) h.0) refl)

front-plain : (xs s : List ℕ) → each plain xs ≡ true → xs ++ decoded_front s ≡ decoded_front (xs ++ s)
unfolding each
front-plain [] s e = refl
front-plain (b ∷ xs) s e =
    let h = and_parts (plain b) (each plain xs) e in
    ap (λ (l : List ℕ). b ∷ l) (front-plain xs s h.1)
    ∙ sym (decoded_front-cons b (xs ++ s) ∙ rw (plain-first b (xs ++ s) h.0) refl)

plain-whole : (xs : List ℕ) → each plain xs ≡ true → steps whole xs ≡ whole
plain-whole xs e = ascii-steps xs (each_map plain ascii (λ b h. (and_parts (ascii b) (not (eqb b 92)) h).0) xs e)

-- as many bytes as are plain at the front
module _ (raw : List ℕ) (n : ℕ) (e : n ≡ front plain raw) where
  pub plain-within : n ≤ length raw
  plain-within = rw e (front-le plain raw)

  pub plain-count : n ≡ length (take n raw)
  plain-count = sym (length-take-le n raw plain-within)

-- ---- the first piece of what is left

module _ (b : ℕ) (after rest : List ℕ) (parts : rest ≡ b ∷ after) where
  decode-bad : first_piece b after ≡ bad_piece → decode rest ≡ none
  decode-bad e = rw parts (decode_is b after ∙ rw e refl)

  front-bad : first_piece b after ≡ bad_piece → decoded_front rest ≡ []
  front-bad e = rw parts (decoded_front-cons b after ∙ rw e refl)

  module _ (c n : ℕ) (e : first_piece b after ≡ piece c n) where
    decode-piece : decode rest ≡ before c (decode (drop n rest))
    decode-piece = rw parts (decode_is b after ∙ rw e refl)

    front-piece : decoded_front rest ≡ c ∷ decoded_front (drop n rest)
    front-piece = rw parts (decoded_front-cons b after ∙ rw e refl)

-- ---- decoded so far, and what is left

module _ (raw start : List ℕ) (at : ℕ) where
  pub record Turn (pool : List ℕ) (u : Utf8) (n : ℕ) (rest : List ℕ) : Type 0 where
    pub done : List ℕ
    pub all : joined done (decode rest) ≡ decode raw
    pub front : done ++ decoded_front rest ≡ decoded_front raw
    pub count : n ≡ length done
    pub state : u ≡ steps whole done
    pub stored : pool ≡ sets start at done
    pub few : n + length rest ≤ length raw

  abbrev Answers : std.Option Decoded → List ℕ → Type 0
  Answers r pool = (r ≡ decoded_of (decode raw)) × (pool ≡ sets start at (decoded_front raw))

  -- the plain bytes at the front are their own decoding
  pub turn-start : (pool : List ℕ) (n : ℕ) → n ≡ front plain raw → pool ≡ sets start at (take n raw) → Turn pool whole n (take (length raw - n) (drop n raw))
  turn-start pool n e w =
      let p : each plain (take n raw) ≡ true = rw e (front-passes plain raw) in
      rw (take_rest raw n)
      (record {
        done = take n raw;
        all = decode-plain (take n raw) (drop n raw) p ∙ ap decode (take-append-drop n raw);
        front = front-plain (take n raw) (drop n raw) p ∙ ap decoded_front (take-append-drop n raw);
        count = plain-count raw n e;
        state = sym (plain-whole (take n raw) p);
        stored = w;
        few = omega (arith, plain-within raw n e, length-drop n raw);
      })

  module _ (pool : List ℕ) (u : Utf8) (n : ℕ) (rest : List ℕ) (t : Turn pool u n rest) where
    pub turn-length : length pool ≡ length start
    turn-length = ap length t.stored ∙ length-sets start at t.done

    pub turn-done : length rest ≡ 0 → Answers (Some (record { count = n; utf8 = eqb u.left 0 })) pool
    unfolding utf8
    turn-done h =
        let end : rest ≡ [] = empty rest h in
        let d : decode raw ≡ some t.done = sym t.all ∙ rw (end, decode-nil, append-nil) refl in
        let f : decoded_front raw ≡ t.done = sym t.front ∙ rw (end, decoded_front-nil, append-nil) refl in
        (rw (d, t.count, t.state) refl, rw f t.stored)

    module _ (b : ℕ) (after : List ℕ) (parts : rest ≡ b ∷ after) where
      pub turn-bad : told (first_piece b after) ≡ None → Answers None pool
      turn-bad e =
          let q = told-bad (first_piece b after) e in
          let d : decode raw ≡ none = sym t.all ∙ rw (decode-bad b after rest parts q) refl in
          let f : decoded_front raw ≡ t.done = sym t.front ∙ rw (front-bad b after rest parts q, append-nil) refl in
          (rw d refl, rw f t.stored)

      module _ (a : answered.Piece) (e : told (first_piece b after) ≡ Some a) where
        p : first_piece b after ≡ piece a.byte a.count
        p = told-some (first_piece b after) a e

        pub turn-takes : (1 ≤ a.count) × (a.count ≤ length rest)
        turn-takes = rw parts (reaches-first b after a.byte a.count p)

        pub turn-smaller : length (take (length rest - a.count) (drop a.count rest)) < length rest
        turn-smaller = rw (take_rest rest a.count) (omega (arith, turn-takes, length-drop a.count rest))

        pub turn_on : (pool₁ : List ℕ) (u₁ : Utf8) → pool₁ ≡ set pool (at + n) a.byte → u₁ ≡ step u a.byte
            → Turn pool₁ u₁ (n + 1) (take (length rest - a.count) (drop a.count rest))
        turn_on pool₁ u₁ w v =
            rw (take_rest rest a.count)
            (record {
              done = t.done ++ (a.byte ∷ []);
              all = joined-before t.done a.byte (decode (drop a.count rest)) ∙ rw (← decode-piece b after rest parts a.byte a.count p) t.all;
              front = append_snoc t.done a.byte (decoded_front (drop a.count rest)) ∙ rw (← front-piece b after rest parts a.byte a.count p) t.front;
              count = omega (arith, t.count, length-append t.done (a.byte ∷ []));
              state = v ∙ rw t.state (sym (steps-snoc t.done whole a.byte));
              stored = w ∙ rw (t.stored, t.count) (sym (sets-snoc t.done start at a.byte));
              few = omega (arith, t.few, turn-takes, length-drop a.count rest);
            })
