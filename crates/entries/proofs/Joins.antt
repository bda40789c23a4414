-- One reading after another: what the first stored and what the second stored is what both store.
use mathlib.Core.Path.{◌≡◌, sym, ◌∙◌, refl, ap}
use Prim.Native.Nat.{ℕ, ◌≤◌, ◌+◌, ◌*◌}
use mathlib.Core.Bool.{Bool, true, false, ◌&&◌, ◌||◌}
use mathlib.Core.List.{List, [], ◌++◌, append_assoc}
use native.Mathlib.Omega.{arith}
use lib.Dec.{eqb}
use lib.ListN.{length, replicate, length-replicate, length-append}
use lib.Seq.{sets}
use Rattle.definitions.specs.declared.Place.{Place}
use Rattle.definitions.specs.declared.Spot.{Spot}
use Rattle.definitions.specs.declared.Want.{Want}
use Rattle.definitions.specs.Refusals.{too_deep}
use Rattle.definitions.specs.Scope.{want, within, string, byte_string, enum, map_entry, body}
use Rattle.definitions.specs.Loop.{Out, done, refused, ahead}
use Rattle.definitions.specs.Reading.{leaf, default, default_value, unless, joined, closed}
use Rattle.laws.proofs.Reach.{by-test}
use Rattle.laws.proofs.Goes.{default-goes}
use Rattle.lexer.specs.declared.tokens.Line.{Line}
use Rattle.definitions.specs.Refused.{refused_as}
use Rattle.std.specs.Prelude.{Ok, Err}
use Rattle.leaves.specs.declared.Position.{Position}
use Rattle.leaves.specs.Answers.{Answer, Answers}
use Rattle.entries.specs.declared.Entry.{Entry}
use Rattle.entries.specs.Noted.{standing}
use Rattle.laws.proofs.Stores.{sets-append}
use Rattle.leaves.proofs.Returns.{answer-done, answer-line, wrote-done, answers_by}
use Rattle.entries.proofs.Wants.{within-entry, within-message}

-- five words a node, and each byte in the pool
pub record Laid (q p : Spot) (w b : List ℕ) : Type 0 where
  pub words : length w + 5 * q.node ≡ 5 * p.node
  pub bytes : length b + q.byte ≡ p.byte

pub ahead_none : (o : Out) → ahead [] [] o ≡ o
ahead_none (done q v c) = refl
ahead_none (refused why at) = refl

pub ahead-ahead : (w v b c : List ℕ) (o : Out) → ahead w b (ahead v c o) ≡ ahead (w ++ v) (b ++ c) o
ahead-ahead w v b c (done q u d) = rw (append_assoc w v u, append_assoc b c d) refl
ahead-ahead w v b c (refused why at) = refl

pub laid_both : (q p r : Spot) (w v b c : List ℕ) → Laid q p w b → Laid p r v c → Laid q r (w ++ v) (b ++ c)
laid_both q p r w v b c i j = record {
  words = simp length-append (omega (arith, i.words, j.words));
  bytes = simp length-append (omega (arith, i.bytes, j.bytes));
}

-- stores one after another
pub then-stored : (q p r : Spot) (e x y f g h w v b c : List ℕ) → Laid q p w b → Laid p r v c → length x ≡ length e → length g ≡ length f
    → (5 * p.node ≤ length e → p.byte ≤ length f → (x ≡ sets e (5 * q.node) w) × (g ≡ sets f q.byte b))
    → (5 * r.node ≤ length x → r.byte ≤ length g → (y ≡ sets x (5 * p.node) v) × (h ≡ sets g p.byte c))
    → 5 * r.node ≤ length e → r.byte ≤ length f → (y ≡ sets e (5 * q.node) (w ++ v)) × (h ≡ sets f q.byte (b ++ c))
then-stored q p r e x y f g h w v b c m n le lf i j hn hb =
    let one = i (omega (arith, n.words)) (omega (arith, n.bytes)) in
    let two = j (omega arith) (omega arith) in
    let wn : 5 * q.node + length w ≡ 5 * p.node = omega (arith, m.words) in
    let wb : q.byte + length b ≡ p.byte = omega (arith, m.bytes) in
    (two.0 ∙ rw (one.0, ← wn) (sym (sets-append w v e (5 * q.node))), two.1 ∙ rw (one.1, ← wb) (sym (sets-append b c f q.byte)))

-- a reading after what is read and stored so far
pub join : {on : ℕ → Line} (q p : Spot) (e x y f g h w b : List ℕ) (r : Answer) (o : Out) → Laid q p w b → length x ≡ length e → length g ≡ length f
    → (5 * p.node ≤ length e → p.byte ≤ length f → (x ≡ sets e (5 * q.node) w) × (g ≡ sets f q.byte b))
    → ((z : Spot) (v c : List ℕ) → o ≡ done z v c → Laid p z v c) → Answers on x y g h p o r → Answers on e y f h q (ahead w b o) r
join q p e x y f g h w b r (refused why at) l le lf st k a = record { answer = a.answer; wrote = tt }
join q p e x y f g h w b r (done z v c) l le lf st k a = record {
  answer = a.answer;
  wrote = then-stored q p z e x y f g h w v b c l (k z v c refl) le lf st a.wrote;
}

-- ---- an entry's closer

default-laid : (image : List ℕ) (w : Want) (q p : Spot) (v c : List ℕ) → default image w q ≡ done p v c → Laid q p v c
default-laid image w q p v c e =
    let s = replicate {A = ℕ} q.at 0 in
    let n : length s ≡ q.at = length-replicate {A = ℕ} q.at 0 in
    let z = (default-goes image s w q (omega (arith, n))).went p v c e in
    record { words = z.words; bytes = z.bytes }

unless-laid : (there : Bool) (image : List ℕ) (w : Want) (q p : Spot) (v c : List ℕ) → unless there (default image w) q ≡ done p v c → Laid q p v c
unless-laid true image w q p v c e =
    let i : q ≡ p = cc in
    let j : [] ≡ v = cc in
    let k : [] ≡ c = cc in
    rw (← i, ← j, ← k) (record { words = omega arith; bytes = omega arith })
unless-laid false image w q p v c e = default-laid image w q p v c e

-- a default is one node, and no byte
abbrev Next : Spot → Out → Type 0
Next q o = (p : Spot) (v c : List ℕ) → o ≡ done p v c → (p.node ≤ q.node + 1) × (p.byte ≡ q.byte)

leaf-next : (w : Want) (q : Spot) (at high low : ℕ) → Next q (leaf w q at high low [])
leaf-next w q at high low p v c e =
    let i : record { at = at; node = q.node + 1; byte = q.byte + 0 } ≡ p = cc in
    rw (← i) (omega arith, omega arith)

default-next : (image : List ℕ) (w : Want) (q : Spot) → Next q (default image w q)
unfolding default
default-next image w q =
    by-test (Next q) (eqb w.kind string || eqb w.kind byte_string) _ _ (λ _. leaf-next w q _ _ _) (λ _.
    by-test (Next q) (eqb w.kind enum) _ _ (λ _. leaf-next w q _ _ _) (λ _. leaf-next w q _ _ _))

unless-next : (there : Bool) (image : List ℕ) (w : Want) (q : Spot) → Next q (unless there (default image w) q)
unless-next true image w q p v c e = let i : q ≡ p = cc in rw (← i) (omega arith, refl)
unless-next false image w q p v c e = default-next image w q p v c e

module _ (deep : Bool) (image : List ℕ) (w : Want) (at : Place) (q : Spot) (entry : Entry) where
  pub closed-message : (w.kind ≡ map_entry → ⊥) → closed deep image (within w) at q.at (standing q entry) ≡ done q [] []
  unfolding closed
  closed-message h = rw (within-message w h) refl

  module _ (h : w.kind ≡ map_entry) where
    closed-entry : closed deep image (within w) at q.at (standing q entry)
        ≡ joined (unless entry.key (default image (want image (within w) 0)) q) (unless entry.value (default_value deep at image (want image (within w) 1)))
    unfolding closed
    closed-entry = rw (within-entry w h) refl

    module _ (on : ℕ → Line) (e x f : List ℕ) (k : Want) (hk : k ≡ want image (within w) 0) (p : Position) (a : Answers on e x f f q (unless entry.key (default image k) q) (Ok p)) (lx : length x ≡ length e) where
      first : Answers on e x f f q (unless entry.key (default image (want image (within w) 0)) q) (Ok p)
      first = rw (← hk) a

      out : (v : List ℕ) × (c : List ℕ) × (unless entry.key (default image (want image (within w) 0)) q ≡ done p.spot v c)
      out = answer-done on _ p first.answer

      pub key-line : p.line ≡ on p.spot.at
      key-line = answer-line on (unless entry.key (default image (want image (within w) 0)) q) p first.answer

      closed_after : closed deep image (within w) at q.at (standing q entry) ≡ ahead out.0 out.1 (unless entry.value (default_value deep at image (want image (within w) 1)) p.spot)
      closed_after = closed-entry ∙ rw out.2 refl

      pub key-next : (p.spot.node ≤ q.node + 1) × (p.spot.byte ≡ q.byte)
      key-next = unless-next entry.key image (want image (within w) 0) q p.spot out.0 out.1 out.2

      after : (y : List ℕ) (r₂ : Answer) (o : Out) → o ≡ unless entry.value (default_value deep at image (want image (within w) 1)) p.spot → ((z : Spot) (v c : List ℕ) → o ≡ done z v c → Laid p.spot z v c)
          → Answers on x y f f p.spot o r₂ → Answers on e y f f q (closed deep image (within w) at q.at (standing q entry)) r₂
      after y r₂ o eo lo b =
          answers_by e y f f q _ _ r₂ (closed_after ∙ ap (ahead out.0 out.1) (sym eo))
          (join q p.spot e x y f f f out.0 out.1 r₂ o (unless-laid entry.key image (want image (within w) 0) q p.spot out.0 out.1 out.2) lx refl
          (wrote-done e x f f q _ p.spot out.0 out.1 out.2 first.wrote) lo b)

      pub value_there : entry.value ≡ true → Answers on e x f f q (closed deep image (within w) at q.at (standing q entry)) (Ok p)
      value_there v =
          after x (Ok p) (done p.spot [] []) (rw v refl)
          (λ z v c n. let i : p.spot ≡ z = cc in let j : [] ≡ v = cc in let k : [] ≡ c = cc in rw (← i, ← j, ← k) (record { words = omega arith; bytes = omega arith }))
          (record { answer = ap (λ (l : Line). Ok (record { spot = p.spot; line = l })) key-line; wrote = λ _ _. (refl, refl) })

      module _ (v : entry.value ≡ false) (u : Want) (hu : u ≡ want image (within w) 1) where
        pub value-deep : true ≡ (deep && eqb u.kind body) → Answers on e x f f q (closed deep image (within w) at q.at (standing q entry)) (Err (refused_as too_deep at))
        unfolding default_value
        value-deep d =
            after x (Err (refused_as too_deep at)) (refused too_deep at) (rw (v, ← hu, ← d) refl)
            (λ z v c n. cc)
            (record { answer = refl; wrote = tt })

        pub value_made : false ≡ (deep && eqb u.kind body) → (y : List ℕ) (r₂ : Answer) → Answers on x y f f p.spot (default image u p.spot) r₂
            → Answers on e y f f q (closed deep image (within w) at q.at (standing q entry)) r₂
        unfolding default_value
        value_made d y r₂ b = after y r₂ (default image u p.spot) (rw (v, ← hu, ← d) refl) (λ z v c n. default-laid image u p.spot z v c n) b
