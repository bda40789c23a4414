-- Answers made and taken apart: a refusal, a leaf, and the words and bytes behind an answer that is done.
use mathlib.Core.Path.{◌≡◌, ◌∙◌, refl, ap}
use Prim.Native.Nat.{ℕ, ◌≤◌, ◌+◌, ◌*◌, ◌/◌, ◌%◌}
use mathlib.Core.List.{List, []}
use native.Mathlib.Omega.{arith}
use lib.ListN.{length}
use lib.Seq.{sets}
use Rattle.definitions.specs.declared.Node.{Node}
use Rattle.definitions.specs.declared.Place.{Place}
use Rattle.definitions.specs.declared.Spot.{Spot}
use Rattle.definitions.specs.declared.Want.{Want}
use Rattle.definitions.specs.declared.Refused.{Refused}
use Rattle.std.specs.Prelude.{Ok, Err}
use Rattle.definitions.specs.Nodes.{words, high_of, low_of}
use Rattle.definitions.specs.Loop.{Out, done, refused}
use Rattle.definitions.specs.Reading.{number_leaf, run_leaf}
use Rattle.lexer.specs.declared.tokens.Line.{Line}
use Rattle.leaves.specs.declared.Position.{Position}
use Rattle.definitions.specs.Refused.{refused_as}
use Rattle.leaves.specs.Answers.{Answer, answer_of, put_at, Wrote, Answers, AnswersHere}
use Rattle.leaves.proofs.Stores.{put-fits}

pub no-answers : {on : ℕ → Line} (e x f y : List ℕ) (q : Spot) (o : Out) (r : Answer) (why : ℕ) (at : Place) → o ≡ refused why at → r ≡ Err (refused_as why at) → Answers on e x f y q o r
no-answers e x f y q o r why at h i = rw (h, i) (record { answer = refl; wrote = tt })

pub done-answers : {on : ℕ → Line} {l : Line} (e x f y : List ℕ) (q : Spot) (o : Out) (p : Spot) (w b : List ℕ) → o ≡ done p w b
    → (5 * p.node ≤ length e → p.byte ≤ length f → (x ≡ sets e (5 * q.node) w) × (y ≡ sets f q.byte b)) → l ≡ on p.at
    → Answers on e x f y q o (Ok (record { spot = p; line = l }))
done-answers e x f y q o p w b h i g = rw (h, g) (record { answer = refl; wrote = i })

-- the same reading, by another name
pub answers_by : {on : ℕ → Line} (e x f y : List ℕ) (q : Spot) (o o' : Out) (r : Answer) → o ≡ o' → Answers on e x f y q o' r → Answers on e x f y q o r
answers_by e x f y q o o' r h a = rw h a

-- the same reading, from a spot with the same counts
pub answers-from : {on : ℕ → Line} (e x f y : List ℕ) (q q' : Spot) (o : Out) (r : Answer) → q'.node ≡ q.node → q'.byte ≡ q.byte → Answers on e x f y q' o r → Answers on e x f y q o r
answers-from e x f y q q' o r hn hb a = record { answer = a.answer; wrote = go o a.wrote }
  where
    go : (o : Out) → Wrote e x f y q' o → Wrote e x f y q o
    go (refused why at) v = tt
    go (done p w b) v = λ m n. (rw (← hn) (v m n).0, rw (← hb) (v m n).1)

-- the words and bytes behind an answer that is done, and the refusal behind one that is not
pub answer-done : (on : ℕ → Line) (o : Out) (p : Position) → Ok p ≡ answer_of on o → (w : List ℕ) × (b : List ℕ) × (o ≡ done p.spot w b)
answer-done on (refused why at) p e = cc
answer-done on (done q w b) p e = let i : p ≡ record { spot = q; line = on q.at } = cc in (w, b, rw i refl)

-- and the line of the spot after
pub answer-line : (on : ℕ → Line) (o : Out) (p : Position) → Ok p ≡ answer_of on o → p.line ≡ on p.spot.at
answer-line on (refused why at) p e = cc
answer-line on (done q w b) p e = let i : p ≡ record { spot = q; line = on q.at } = cc in rw i refl

-- a number is the refusal's, and the place too
pub record Denies (o : Out) (e : Refused) : Type 0 where
  pub why : ℕ
  pub at : Place
  pub out : o ≡ refused why at
  pub is : e ≡ refused_as why at

pub answer-no : (on : ℕ → Line) (o : Out) (e : Refused) → Err e ≡ answer_of on o → Denies o e
answer-no on (done q w b) e h = cc
answer-no on (refused why at) e h = record { why = why; at = at; out = refl; is = cc }

pub wrote-done : (e x f y : List ℕ) (q : Spot) (o : Out) (p : Spot) (w b : List ℕ) → o ≡ done p w b → Wrote e x f y q o
    → 5 * p.node ≤ length e → p.byte ≤ length f → (x ≡ sets e (5 * q.node) w) × (y ≡ sets f q.byte b)
wrote-done e x f y q o p w b h v = rw h at v

-- a number's node
abbrev pub number_node : Want → Spot → ℕ → Node
number_node w q v = record { kind = w.kind; field = w.field; high = high_of v; low = low_of v; end = q.node + 1 }

-- a number's node is put where there is room
pub number-answers : (e x : List ℕ) (w : Want) (q : Spot) (at v : ℕ) → x ≡ put_at e q.node (words (number_node w q v))
    → (on : ℕ → Line) {l : Line} → l ≡ on at → AnswersHere on e x q (number_leaf w q at v) (Ok (record { spot = record { at = at; node = q.node + 1; byte = q.byte }; line = l }))
number-answers e x w q at v h on g f =
    let z : q.byte + 0 ≡ q.byte = omega arith in
    done-answers e x f f q _ (record { at = at; node = q.node + 1; byte = q.byte }) (words (number_node w q v)) [] (rw z refl)
    (λ m n. (h ∙ put-fits e q.node (words (number_node w q v)) (omega arith), refl)) g

-- a run's node
abbrev pub run_node : Want → Spot → ℕ → Node
run_node w q count = record { kind = w.kind; field = w.field; high = q.byte; low = count; end = q.node + 1 }

-- a run's node is put, and its bytes are stored, where there is room
pub run-answers : {on : ℕ → Line} {l : Line} (e x f y : List ℕ) (w : Want) (q : Spot) (at count : ℕ) (bs front : List ℕ) → count ≡ length bs → x ≡ put_at e q.node (words (run_node w q count)) → y ≡ sets f q.byte front → front ≡ bs → l ≡ on at
    → Answers on e x f y q (run_leaf w q at bs) (Ok (record { spot = record { at = at; node = q.node + 1; byte = q.byte + count }; line = l }))
run-answers e x f y w q at count bs front n h k i g =
    done-answers e x f y q _ (record { at = at; node = q.node + 1; byte = q.byte + count }) (words (run_node w q count)) bs (rw n refl)
    (λ m j. (h ∙ put-fits e q.node (words (run_node w q count)) (omega arith), k ∙ ap (λ (l : List ℕ). sets f q.byte l) i)) g

-- an empty run is the number whose high word is the run's start
pub empty-run : (w : Want) (q : Spot) (at : ℕ) → run_leaf w q at [] ≡ number_leaf w q at (q.byte * 4294967296)
empty-run w q at =
    let h : q.byte * 4294967296 / 4294967296 ≡ q.byte = omega arith in
    let l : q.byte * 4294967296 % 4294967296 ≡ 0 = omega arith in
    rw (h, l) refl
