-- The whole text: the pass that counts, and the pass that stores.
use mathlib.Core.Path.{◌≡◌, sym, ◌∙◌, refl, ap, subst}
use Prim.Native.Nat.{ℕ, ◌≤◌, ◌<◌, ◌+◌}
use mathlib.Core.List.{List, [], ◌∷◌, ◌++◌}
use native.Mathlib.Omega.{arith}
use lib.ListN.{length}
use lib.Seq.{sets}
use borrow.Author.Tests.{lt-ltb, le-ltb}
use Rattle.definitions.specs.declared.Place.{Place}
use Rattle.definitions.specs.Refusals.{given, nodes_short, pool_short, most_text, most_nodes, most_depth, unplaced}
use Rattle.definitions.specs.Scope.{in_message, within, body}
use Rattle.definitions.specs.Nodes.{words}
use Rattle.definitions.specs.Loop.{done}
use Rattle.definitions.specs.Reading.{root_want, read_body, nested, whole, node_room, fitted}
use Rattle.laws.proofs.Goes.{Went, plain, read_body-goes}
use Rattle.definitions.specs.declared.Refused.{Refused}
use Rattle.definitions.specs.Refused.{refused_as}
use Rattle.std.specs.Prelude.{Result, Ok, Err}
use Rattle.leaves.specs.declared.Position.{Position}
use Rattle.parse.specs.declared.Made.{Made}
use Rattle.lexer.specs.declared.tokens.Line.{Line}
use Rattle.leaves.specs.Answers.{Answer, put_at, Answers}
use Rattle.parse.specs.Whole.{read_of, fitted_read, fitted_nodes, fitted_pool}
use Rattle.bodies.proofs.Origin.{origin}
use Rattle.leaves.proofs.Stores.{parent-put}
use Rattle.leaves.proofs.Returns.{answer-done, answer-no, wrote-done}

-- a lent part of length 0 holds nothing
pub empty-part : (p e : List ℕ) → length p ≡ 0 → p ++ e ≡ e
empty-part [] e h = refl
empty-part (x ∷ p) e h = absurd (omega arith)

-- the answer, the table and the pool of a text
abbrev pub Ends : (image : List ℕ) (root : ℕ) (s e f : List ℕ) → Result Made Refused → List ℕ → List ℕ → Type 0
Ends image root s e f r x y =
    (r ≡ read_of (fitted_read image root s (length e) (length f))) × ((x ≡ fitted_nodes image root s e (length f)) × (y ≡ fitted_pool image root s (length e) f))

module _ (image : List ℕ) (root : ℕ) (s e f : List ℕ) where
  -- all is known of the answer: what it is, and that nothing or all was stored
  ends-denied : (why : ℕ) (at : Place) → fitted (length e) (length f) (whole image root s) ≡ Rattle.definitions.specs.Refusals.denied why at → (x y : List ℕ) → x ≡ e → y ≡ f → Ends image root s e f (Err (refused_as why at)) x y
  unfolding fitted_read fitted_nodes fitted_pool
  ends-denied why at h x y ex ey = (sym (ap read_of h), (ex ∙ sym (rw h refl), ey ∙ sym (rw h refl)))

  module _ {on : ℕ → Line} (p₁ p₂ p₃ p₄ : List ℕ) (r : Answer) (a : Answers on p₁ p₂ p₃ p₄ origin (read_body 32 image s (within (root_want root)) 0 origin) r) (x y : List ℕ) (ex : x ≡ e) (ey : y ≡ f) where
    whole_is : whole image root s ≡ nested (root_want root) (read_body 32 image s (within (root_want root)) 0 origin)
    unfolding whole within
    whole_is = refl

    pub ends-no : (err : Refused) → r ≡ Err err → Ends image root s e f (Err err) x y
    ends-no err er =
        let d = answer-no on (read_body 32 image s (within (root_want root)) 0 origin) err (sym er ∙ a.answer) in
        let h : fitted (length e) (length f) (whole image root s) ≡ Rattle.definitions.specs.Refusals.denied d.why d.at = ap (fitted (length e) (length f)) (whole_is ∙ ap (nested (root_want root)) d.out) in
        subst (λ (v : Refused). Ends image root s e f (Err v) x y) (sym d.is) (ends-denied d.why d.at h x y ex ey)

    module _ (p : Position) (er : r ≡ Ok p) where
      out : (w : List ℕ) × (b : List ℕ) × (read_body 32 image s (within (root_want root)) 0 origin ≡ done p.spot w b)
      out = answer-done on (read_body 32 image s (within (root_want root)) 0 origin) p (sym er ∙ a.answer)

      whole-done : whole image root s ≡ done p.spot (words (record { kind = body; field = 0; high = 0; low = 0; end = p.spot.node }) ++ out.0) out.1
      whole-done = whole_is ∙ rw out.2 refl

      gone : Went 0 0 s origin p.spot out.0 out.1
      unfolding within
      gone = (read_body-goes 32 image s (in_message root) 0 plain origin (omega arith)).went p.spot out.0 out.1 out.2

      pub counted-node : length s ≤ most_text → p.spot.node ≤ most_text + 1
      counted-node h = omega (arith, gone.few, gone.inside)

      pub ends-nodes : (room : ℕ) → room ≡ node_room (length x) → room < p.spot.node → Ends image root s e f (Err (refused_as nodes_short (unplaced p.spot.node))) x y
      ends-nodes room hr lt =
          let lt' : node_room (length e) < p.spot.node = rw (hr, ex) at lt in
          ends-denied nodes_short (unplaced p.spot.node) (rw whole-done (simp (lt-ltb _ _ lt'))) x y ex ey

      module _ (room : ℕ) (hr : room ≡ node_room (length x)) (le : p.spot.node ≤ room) where
        fits : p.spot.node ≤ node_room (length e)
        fits = rw (hr, ex) at le

        pub ends-bytes : length y < p.spot.byte → Ends image root s e f (Err (refused_as pool_short (unplaced p.spot.byte))) x y
        ends-bytes lt =
            let lt' : length f < p.spot.byte = rw ey at lt in
            ends-denied pool_short (unplaced p.spot.byte) (rw whole-done (simp (le-ltb _ _ fits, lt-ltb _ _ lt'))) x y ex ey

        pub ends-made : p.spot.byte ≤ length y → (x₂ y₂ : List ℕ) (r₂ : Answer) → Answers on x x₂ y y₂ origin (read_body 32 image s (within (root_want root)) 0 origin) r₂ → length x₂ ≡ length x
            → (z : List ℕ) → z ≡ put_at x₂ 0 (words (record { kind = body; field = 0; high = 0; low = 0; end = p.spot.node })) → Ends image root s e f (Ok (record { nodes = p.spot.node; bytes = p.spot.byte })) z y₂
        unfolding fitted_read fitted_nodes fitted_pool
        ends-made lb x₂ y₂ r₂ a₂ lx z hz =
            let in_f : p.spot.byte ≤ length f = rw ey at lb in
            let len : length x ≡ length e = ap length ex in
            let st = wrote-done x x₂ y y₂ origin (read_body 32 image s (within (root_want root)) 0 origin) p.spot out.0 out.1 out.2 a₂.wrote (omega (arith, fits)) lb in
            let g = gone in
            let tz = parent-put x x₂ z out.0 0 (record { kind = body; field = 0; high = 0; low = 0; end = p.spot.node }) st.0 (omega (arith, fits, g.words)) hz in
            let ok : fitted (length e) (length f) (whole image root s) ≡ given (record { nodes = p.spot.node; bytes = p.spot.byte }) = rw whole-done (simp (le-ltb _ _ fits, le-ltb _ _ in_f)) in (
              sym (ap read_of ok),
              (
                tz ∙ ap (λ (l : List ℕ). sets l 0 (words (record { kind = body; field = 0; high = 0; low = 0; end = p.spot.node }) ++ out.0)) ex ∙ sym (rw (ok, whole-done) refl),
                st.1 ∙ ap (λ (l : List ℕ). sets l 0 out.1) ey ∙ sym (rw (ok, whole-done) refl),
              ),
            )
