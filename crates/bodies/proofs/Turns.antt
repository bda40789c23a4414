-- The fields of a body, turn by turn: what is read and stored so far, and what one turn more gives.
use mathlib.Core.Path.{◌≡◌, sym, ◌∙◌, refl, ap}
use Prim.Native.Nat.{ℕ, ◌≤◌, ◌<◌, ◌*◌}
use mathlib.Core.Bool.{true, false}
use mathlib.Core.List.{List, [], ◌++◌}
use mathlib.Core.Option.{none, some}
use native.Mathlib.Omega.{arith}
use lib.Dec.{eqb}
use lib.ListN.{length}
use lib.Seq.{sets}
use borrow.Author.Tests.{eq-eqb, ne_eqb}
use Rattle.definitions.specs.declared.Place.{Place}
use Rattle.definitions.specs.declared.Spot.{Spot}
use Rattle.definitions.specs.declared.Token.{Token}
use Rattle.definitions.specs.declared.Want.{Want}
use Rattle.definitions.specs.Basics.{part}
use Rattle.definitions.specs.Refusals.{bad_token, other_expected, unknown_field, twice}
use Rattle.definitions.specs.Scope.{Scope, in_message, in_entry, want, within, find_in}
use Rattle.definitions.specs.Tokens.{token, bad, scan, name_token}
use Rattle.definitions.specs.Loop.{Out, done, refused, Stand, ahead, onward, loop}
use Rattle.definitions.specs.Reading.{moved, field, closed, again, noted, turn_of, item, start, fields, under, read_body}
use Rattle.laws.proofs.Reach.{reach}
use Rattle.laws.proofs.Goes.{Went, any, under_goes, field-goes, rest_goes, rest-is}
use Rattle.lexer.specs.declared.tokens.Line.{Line}
use Rattle.lexer.specs.declared.tokens.Cursor.{Cursor}
use Rattle.lexer.specs.Steps.{line_at, step_of}
use Rattle.records.specs.Known.{option_of}
use Rattle.records.proofs.Search.{option_some}
use Rattle.leaves.proofs.Steps.{scanned}
use Rattle.definitions.specs.declared.Refused.{Refused}
use Rattle.std.specs.Prelude.{Some, Ok, Err}
use Rattle.leaves.specs.declared.Position.{Position}
use Rattle.leaves.specs.Answers.{Answer, Fair, Answers}
use Rattle.entries.specs.declared.Entry.{Entry}
use Rattle.entries.specs.Noted.{standing}
use Rattle.leaves.proofs.Returns.{no-answers, answers_by, answer-done, answer-line, answer-no, wrote-done}
use Rattle.entries.proofs.Joins.{Laid, ahead_none, ahead-ahead, laid_both, then-stored, join}

noted-spot : (c : Scope) (i : ℕ) (h : Stand) (p : Spot) → (noted c i h p).spot ≡ p
unfolding noted
noted-spot (in_message m) i h p = refl
noted-spot (in_entry g) i h p = refl

-- whether a name stands a second time does not depend on where reading stands
pub again-at : (c : Scope) (i : ℕ) (q p : Spot) (e : Entry) → again c i (standing q e) ≡ again c i (standing p e)
unfolding again
again-at (in_message m) i q p e = refl
again-at (in_entry g) i q p e = refl

module _ (image s : List ℕ) (w : Want) (closer : ℕ) where
  -- a field's name is met, and the field may stand there
  pub record Named (h : Stand) (t : Token) (n j : ℕ) : Type 0 where
    pub met : scan s h.spot.at ≡ token t n
    pub goes : t.kind ≡ closer → ⊥
    pub name : t.kind ≡ name_token
    pub found : find_in image (within w) (part s t.start.offset n) ≡ some j
    pub first : false ≡ again (within w) j h

  -- from what the scanner, the lookup and the entry answered
  pub named : (q o : Spot) (e : Entry) (t : Token) (c : Cursor) (name : List ℕ) (j : ℕ) → Ok (t, c) ≡ step_of s (scan s q.at) → (t.kind ≡ closer → ⊥) → t.kind ≡ name_token
      → name ≡ part s t.start.offset c.at → Some j ≡ option_of (find_in image (within w) name) → false ≡ again (within w) j (standing o e) → Named (standing q e) t c.at j
  named q o e t c name j st k m hn f a = record {
    met = scanned s (scan s q.at) t c st;
    goes = k;
    name = m;
    found = option_some (find_in image (within w) (part s t.start.offset c.at)) (f ∙ ap (λ (l : List ℕ). option_of (find_in image (within w) l)) hn);
    first = a ∙ again-at (within w) j o q e;
  }

module _ (left : ℕ) (image s : List ℕ) (w : Want) (closer : ℕ) where
  -- what is read from a stand on
  abbrev pub rest : Stand → Out
  rest h = loop (length s) (item (under left image s) (eqb left 0) image s (within w) closer) h

  pub body-rest : (q : Spot) → read_body left image s (within w) closer q ≡ rest (start q)
  unfolding read_body fields
  body-rest q = refl

  rest-on : (h : Stand) → h.spot.at ≤ length s → rest h ≡ onward rest (item (under left image s) (eqb left 0) image s (within w) closer h)
  rest-on h i = rest-is (under left image s) (eqb left 0) image s (under_goes left image s) (within w) closer h i

  rest-laid : (h : Stand) → h.spot.at ≤ length s → (z : Spot) (v c : List ℕ) → rest h ≡ done z v c → Laid h.spot z v c
  rest-laid h i z v c e =
      let g = (rest_goes (under left image s) (eqb left 0) image s (under_goes left image s) (within w) closer any h i).went z v c e in
      record { words = g.words; bytes = g.bytes }

  -- ---- one law for each way out of a turn

  module _ (h : Stand) (i : h.spot.at ≤ length s) where
    pub rest-bad : (p : Place) → scan s h.spot.at ≡ bad p → rest h ≡ refused bad_token p
    unfolding item
    rest-bad p e = rest-on h i ∙ rw e

    module _ (t : Token) (n : ℕ) (e : scan s h.spot.at ≡ token t n) where
      pub rest-closed : t.kind ≡ closer → rest h ≡ closed (eqb left 0) image (within w) t.start n h
      unfolding item
      rest-closed k = rest-on h i ∙ simp (e, eq-eqb t.kind closer k)

      module _ (k : t.kind ≡ closer → ⊥) where
        pub rest-other : (t.kind ≡ name_token → ⊥) → rest h ≡ refused other_expected t.start
        unfolding item
        rest-other m = rest-on h i ∙ simp (e, ne_eqb t.kind closer k, ne_eqb t.kind name_token m)

        module _ (m : t.kind ≡ name_token) where
          pub rest-unknown : find_in image (within w) (part s t.start.offset n) ≡ none → rest h ≡ refused unknown_field t.start
          unfolding item
          rest-unknown f = rest-on h i ∙ simp (e, ne_eqb t.kind closer k, eq-eqb t.kind name_token m, f)

          module _ (j : ℕ) (f : find_in image (within w) (part s t.start.offset n) ≡ some j) where
            pub rest-twice : true ≡ again (within w) j h → rest h ≡ refused twice t.start
            unfolding item
            rest-twice a = rest-on h i ∙ simp (e, ne_eqb t.kind closer k, eq-eqb t.kind name_token m, f, sym a)

            pub rest-field : false ≡ again (within w) j h → rest h ≡ onward rest (turn_of (within w) j h (field (under left image s) image s (want image (within w) j) (moved n h.spot)))
            unfolding item
            rest-field a = rest-on h i ∙ simp (e, ne_eqb t.kind closer k, eq-eqb t.kind name_token m, f, sym a)

  -- ---- so far

  -- the stand's spot is on a line
  pub record Rest (q : Spot) (h : Stand) (l : Line) (e x f y : List ℕ) : Type 0 where
    pub words : List ℕ
    pub bytes : List ℕ
    pub laid : Laid q h.spot words bytes
    pub on : q.at ≤ h.spot.at
    pub fair : Fair s (record { spot = h.spot; line = l })
    pub long : length x ≡ length e
    pub wide : length y ≡ length f
    pub reading : read_body left image s (within w) closer q ≡ ahead words bytes (rest h)
    pub stored : 5 * h.spot.node ≤ length e → h.spot.byte ≤ length f → (x ≡ sets e (5 * q.node) words) × (y ≡ sets f q.byte bytes)

  pub begins : {l : Line} (q : Spot) (e f : List ℕ) → Fair s (record { spot = q; line = l }) → Rest q (start q) l e e f f
  begins q e f h = record {
    words = [];
    bytes = [];
    laid = record { words = omega arith; bytes = omega arith };
    on = omega arith;
    fair = h;
    long = refl;
    wide = refl;
    reading = body-rest q ∙ sym (ahead_none (rest (start q)));
    stored = λ _ _. (refl, refl);
  }

  -- what is read from here on, after what is read so far
  pub ends : {l : Line} {on : ℕ → Line} (q : Spot) (h : Stand) (e x z f y u : List ℕ) (r : Answer) → Rest q h l e x f y → Answers on x z y u h.spot (rest h) r
      → Answers on e z f u q (read_body left image s (within w) closer q) r
  ends q h e x z f y u r i a =
      answers_by e z f u q _ _ r i.reading
      (join q h.spot e x z f y u i.words i.bytes r (rest h) i.laid i.long i.wide i.stored (rest-laid h i.fair.inside) a)

  -- ---- one field more

  module _ (q : Spot) (h : Stand) {l : Line} (e x f y : List ℕ) (so : Rest q h l e x f y) (t : Token) (n j : ℕ) (d : Named image s w closer h t n j) where
    pub falls : h.spot.at < n
    falls = let z = reach s h.spot.at t n so.fair.inside d.met in omega (arith, z.from, z.falls (λ o. omega (arith, d.name, o)))

    pub fair-after : {m : Line} → m ≡ line_at s n → Fair s (record { spot = moved n h.spot; line = m })
    fair-after g =
        let z = reach s h.spot.at t n so.fair.inside d.met in
        record { inside = z.within; nodes = omega (arith, falls, so.fair.nodes); bytes = omega (arith, falls, so.fair.bytes); line = g }

    module _ (z u : List ℕ) (r : Answer) (b : Answers (line_at s) x z y u (moved n h.spot) (field (under left image s) image s (want image (within w) j) (moved n h.spot)) r) where
      pub field-no : (err : Refused) → r ≡ Err err → Answers (line_at s) x z y u h.spot (rest h) r
      field-no err i =
          let o = answer-no (line_at s) (field (under left image s) image s (want image (within w) j) (moved n h.spot)) err (sym i ∙ b.answer) in
          no-answers x z y u h.spot _ r o.why o.at (rest-field h so.fair.inside t n d.met d.goes d.name j d.found d.first ∙ ap (λ (v : Out). onward rest (turn_of (within w) j h v)) o.out) (i ∙ ap Err o.is)

      module _ (p : Position) (i : r ≡ Ok p) where
        out : (v : List ℕ) × (c : List ℕ) × (field (under left image s) image s (want image (within w) j) (moved n h.spot) ≡ done p.spot v c)
        out = answer-done (line_at s) (field (under left image s) image s (want image (within w) j) (moved n h.spot)) p (sym i ∙ b.answer)

        gone : Went 2 1 s (moved n h.spot) p.spot out.0 out.1
        gone = (field-goes (under left image s) image s (under_goes left image s) (want image (within w) j) (moved n h.spot) (fair-after refl).inside).went p.spot out.0 out.1 out.2

        pub further : h.spot.at < p.spot.at
        further = omega (arith, falls, gone.on)

        pub next-inside : p.spot.at ≤ length s
        next-inside = gone.inside

        next-laid : Laid h.spot p.spot out.0 out.1
        next-laid = record { words = gone.words; bytes = gone.bytes }

        next-fair : Fair s p
        next-fair = record {
          inside = gone.inside;
          nodes = omega (arith, falls, gone.few, so.fair.nodes);
          bytes = omega (arith, falls, gone.thin, so.fair.bytes);
          line = answer-line (line_at s) (field (under left image s) image s (want image (within w) j) (moved n h.spot)) p (sym i ∙ b.answer);
        }

        next-reading : rest h ≡ ahead out.0 out.1 (rest (noted (within w) j h p.spot))
        next-reading = rest-field h so.fair.inside t n d.met d.goes d.name j d.found d.first ∙ rw out.2 refl

        next-stored : 5 * p.spot.node ≤ length x → p.spot.byte ≤ length y → (z ≡ sets x (5 * h.spot.node) out.0) × (u ≡ sets y h.spot.byte out.1)
        next-stored = wrote-done x z y u (moved n h.spot) _ p.spot out.0 out.1 out.2 b.wrote

        pub goes_on : length z ≡ length x → length u ≡ length y → (g : Stand) → g ≡ noted (within w) j h p.spot → Rest q g p.line e z f u
        goes_on lz lu g eg =
            let sp : g.spot ≡ p.spot = ap (λ (v : Stand). v.spot) eg ∙ noted-spot (within w) j h p.spot in
            record {
              words = so.words ++ out.0;
              bytes = so.bytes ++ out.1;
              laid = rw sp (laid_both q h.spot p.spot so.words out.0 so.bytes out.1 so.laid next-laid);
              on = rw sp (omega (arith, so.on, further));
              fair = rw sp next-fair;
              long = lz ∙ so.long;
              wide = lu ∙ so.wide;
              reading = so.reading ∙ ap (ahead so.words so.bytes) next-reading ∙ ahead-ahead so.words out.0 so.bytes out.1 (rest (noted (within w) j h p.spot)) ∙ rw eg refl;
              stored = rw sp (then-stored q h.spot p.spot e x z f y u so.words out.0 so.bytes out.1 so.laid next-laid so.long so.wide so.stored next-stored);
            }
