-- A message or an entry behind its opener: its children's words, and then its own.
use mathlib.Core.Path.{◌≡◌, sym, ◌∙◌, refl, ap}
use Prim.Native.Nat.{ℕ, zero, suc, ◌≤◌, ◌<◌, ◌-◌, ◌+◌}
use mathlib.Core.Bool.{Bool, true, false, ◌&&◌, ◌||◌}
use mathlib.Core.List.{List, ◌++◌}
use native.Mathlib.Omega.{arith}
use lib.Dec.{eqb}
use lib.ListN.{length}
use borrow.Author.Tests.{eq-eqb, ne_eqb}
use Rattle.definitions.specs.declared.Place.{Place}
use Rattle.definitions.specs.declared.Spot.{Spot}
use Rattle.definitions.specs.declared.Token.{Token}
use Rattle.definitions.specs.declared.Want.{Want}
use Rattle.definitions.specs.Basics.{when◌then◌otherwise◌}
use Rattle.definitions.specs.Refusals.{bad_token, other_expected, too_deep, most_text}
use Rattle.definitions.specs.Scope.{Scope, in_message, in_entry, within, nests, body, map_entry}
use Rattle.definitions.specs.Nodes.{words}
use Rattle.definitions.specs.Tokens.{token, bad, scan, end_of_text}
use Rattle.definitions.specs.Loop.{done, refused}
use Rattle.definitions.specs.Reading.{moved, nested, opens, closer_of, opened, after_name, field, closed, under, read_body}
use Rattle.laws.proofs.Reach.{reach}
use Rattle.laws.proofs.Goes.{Went, any, read_body-goes}
use Rattle.lexer.specs.declared.tokens.Line.{Line}
use Rattle.lexer.specs.declared.tokens.Cursor.{Cursor}
use Rattle.lexer.specs.Steps.{line_at, step_of}
use Rattle.leaves.proofs.Steps.{scanned}
use Rattle.definitions.specs.declared.Refused.{Refused}
use Rattle.std.specs.Prelude.{Option, Some, None, Ok, Err}
use Rattle.leaves.specs.declared.Position.{Position}
use Rattle.leaves.specs.Answers.{Answer, put_at, Fair, Answers, closer_for}
use Rattle.entries.specs.declared.Entry.{Entry}
use Rattle.entries.specs.Noted.{standing}
use Rattle.leaves.proofs.Stores.{parent-put}
use Rattle.leaves.proofs.Returns.{no-answers, done-answers, answer-done, answer-line, answer-no, wrote-done}

-- a closer looks at the spot only as it is moved
pub closed_at : (deep : Bool) (image : List ℕ) (c : Scope) (at : Place) (n : ℕ) (q : Spot) (e : Entry)
    → closed deep image c at n (standing q e) ≡ closed deep image c at n (standing (moved n q) e)
unfolding closed
closed_at deep image (in_message m) at n q e = refl
closed_at deep image (in_entry g) at n q e = refl

-- ---- openers

pub closer-none : (kind t : ℕ) → ◌≡◌ {A = Option ℕ} None (closer_for kind t) → opens kind t ≡ false
closer-none kind t h = go (opens kind t) refl h
  where
    go : (b : Bool) → opens kind t ≡ b → ◌≡◌ {A = Option ℕ} None (when b then (λ _. Some (closer_of t)) otherwise λ _. None) → opens kind t ≡ false
    go true e k = cc
    go false e k = e

pub closer-some : (kind t c : ℕ) → Some c ≡ closer_for kind t → (opens kind t ≡ true) × (c ≡ closer_of t)
closer-some kind t c h = go (opens kind t) refl h
  where
    go : (b : Bool) → opens kind t ≡ b → ◌≡◌ {A = Option ℕ} (Some c) (when b then (λ _. Some (closer_of t)) otherwise λ _. None) → (opens kind t ≡ true) × (c ≡ closer_of t)
    go true e k = (e, cc)
    go false e k = cc

pub nests-high : (kind : ℕ) → 9 ≤ kind → kind ≤ 10 → nests kind ≡ true
nests-high kind lo hi = go (eqb kind body) refl
  where
    go : (b : Bool) → eqb kind body ≡ b → nests kind ≡ true
    go true e = rw e refl
    go false e = let n : kind ≡ body → ⊥ = λ z. (let k : ◌≡◌ {A = Bool} true false = sym (eq-eqb kind body z) ∙ e in let o : ◌≡◌ {A = ℕ} 0 1 = cc in omega arith) in
        let m : kind ≡ map_entry = omega arith in
        rw (e, eq-eqb kind map_entry m) refl

nests-low : (kind : ℕ) → kind < 9 → nests kind ≡ false
nests-low kind h = rw (ne_eqb kind body (λ z. omega arith), ne_eqb kind map_entry (λ z. omega arith)) refl

-- the end of the text opens nothing
opens-end : (kind t : ℕ) → opens kind t ≡ true → t ≡ end_of_text → ⊥
opens-end kind t h z =
    let k : opens kind 0 ≡ true = rw z at h in
    go (eqb kind body) k
  where
    go : (b : Bool) → (false || (b && false)) ≡ true → ⊥
    go true k = let o : ◌≡◌ {A = ℕ} 0 1 = cc in omega arith
    go false k = let o : ◌≡◌ {A = ℕ} 0 1 = cc in omega arith

under_some : (left : ℕ) (image s : List ℕ) (w : Want) (at : Place) (c : ℕ) (q : Spot) → (left ≡ 0 → ⊥) → under left image s w at c q ≡ read_body (left - 1) image s (within w) c q
unfolding under read_body
under_some zero image s w at c q h = absurd (h refl)
under_some (suc left) image s w at c q h = let e : suc left - 1 ≡ left = omega arith in rw e refl

module _ (left : ℕ) (image s : List ℕ) (w : Want) (q : Spot) where
  pub field_plain : w.kind < 9 → field (under left image s) image s w q ≡ after_name image s w q
  unfolding field
  field_plain h = simp (nests-low w.kind h)

  module _ (lo : 9 ≤ w.kind) (hi : w.kind ≤ 10) where
    field-opened : field (under left image s) image s w q ≡ opened (under left image s) s w q
    unfolding field
    field-opened = simp (nests-high w.kind lo hi)

    pub field-bad : (p : Place) → scan s q.at ≡ bad p → field (under left image s) image s w q ≡ refused bad_token p
    unfolding opened
    field-bad p e = field-opened ∙ rw e

    module _ (t : Token) (n : ℕ) (e : scan s q.at ≡ token t n) where
      pub field-other : ◌≡◌ {A = Option ℕ} None (closer_for w.kind t.kind) → field (under left image s) image s w q ≡ refused other_expected t.start
      unfolding opened
      field-other h = field-opened ∙ simp (e, closer-none w.kind t.kind h)

      module _ (c : ℕ) (hc : Some c ≡ closer_for w.kind t.kind) where
        some : (opens w.kind t.kind ≡ true) × (c ≡ closer_of t.kind)
        some = closer-some w.kind t.kind c hc

        field-under : field (under left image s) image s w q ≡ nested w (under left image s w t.start c (record { at = n; node = q.node + 1; byte = q.byte }))
        unfolding opened
        field-under = field-opened ∙ simp (e, some.0, sym some.1)

        pub field-deep : left ≡ 0 → field (under left image s) image s w q ≡ refused too_deep t.start
        unfolding under
        field-deep z = field-under ∙ rw z refl

  -- an opener is met, there is a level left, and the spot is fair
  pub record Opener (l : Line) (t : Token) (n c : ℕ) : Type 0 where
    pub least : 9 ≤ w.kind
    pub most : w.kind ≤ 10
    pub met : scan s q.at ≡ token t n
    pub closer : Some c ≡ closer_for w.kind t.kind
    pub deeper : left ≡ 0 → ⊥
    pub fair : Fair s (record { spot = q; line = l })

  pub opener : {l : Line} (t : Token) (d : Cursor) (c : ℕ) → 9 ≤ w.kind → w.kind ≤ 10 → Ok (t, d) ≡ step_of s (scan s q.at) → Some c ≡ closer_for w.kind t.kind → (left ≡ 0 → ⊥)
      → Fair s (record { spot = q; line = l }) → Opener l t d.at c
  opener t d c lo hi st hc z f = record { least = lo; most = hi; met = scanned s (scan s q.at) t d st; closer = hc; deeper = z; fair = f }

  module _ {l : Line} (t : Token) (n c : ℕ) (o : Opener l t n c) where
    field-inside : field (under left image s) image s w q ≡ nested w (read_body (left - 1) image s (within w) c (record { at = n; node = q.node + 1; byte = q.byte }))
    field-inside = field-under o.least o.most t n o.met c o.closer ∙ ap (nested w) (under_some left image s w t.start c (record { at = n; node = q.node + 1; byte = q.byte }) o.deeper)

    pub child-falls : q.at < n
    child-falls =
        let r = reach s q.at t n o.fair.inside o.met in
        omega (arith, r.from, r.falls (λ e. opens-end w.kind t.kind (closer-some w.kind t.kind c o.closer).0 e))

    pub child-fair : {m : Line} → m ≡ line_at s n → Fair s (record { spot = record { at = n; node = q.node + 1; byte = q.byte }; line = m })
    child-fair g =
        let r = reach s q.at t n o.fair.inside o.met in
        record { inside = r.within; nodes = omega (arith, child-falls, o.fair.nodes); bytes = omega (arith, child-falls, o.fair.bytes); line = g }

    module _ (a x b y : List ℕ) (r : Answer) (an : Answers (line_at s) a x b y (record { at = n; node = q.node + 1; byte = q.byte }) (read_body (left - 1) image s (within w) c (record { at = n; node = q.node + 1; byte = q.byte })) r) where
      pub nested-no : (err : Refused) → r ≡ Err err → Answers (line_at s) a x b y q (field (under left image s) image s w q) r
      nested-no err i =
          let d = answer-no (line_at s) (read_body (left - 1) image s (within w) c (record { at = n; node = q.node + 1; byte = q.byte })) err (sym i ∙ an.answer) in
          no-answers a x b y q _ r d.why d.at (field-inside ∙ ap (nested w) d.out) (i ∙ ap Err d.is)

      module _ (p : Position) (i : r ≡ Ok p) where
        kids : (v : List ℕ) × (d : List ℕ) × (read_body (left - 1) image s (within w) c (record { at = n; node = q.node + 1; byte = q.byte }) ≡ done p.spot v d)
        kids = answer-done (line_at s) (read_body (left - 1) image s (within w) c (record { at = n; node = q.node + 1; byte = q.byte })) p (sym i ∙ an.answer)

        gone : Went 0 2 s (record { at = n; node = q.node + 1; byte = q.byte }) p.spot kids.0 kids.1
        gone = (read_body-goes (left - 1) image s (within w) c any (record { at = n; node = q.node + 1; byte = q.byte }) (child-fair refl).inside).went p.spot kids.0 kids.1 kids.2

        pub nested-node : length s ≤ most_text → p.spot.node ≤ most_text + 3
        nested-node short = omega (arith, gone.few, gone.inside, (child-fair refl).nodes, short)

        pub nested-put : length x ≡ length a → (u : List ℕ) → u ≡ put_at x q.node (words (record { kind = w.kind; field = w.field; high = 0; low = 0; end = p.spot.node }))
            → Answers (line_at s) a u b y q (field (under left image s) image s w q) (Ok p)
        nested-put lx u hu =
            done-answers a u b y q _ p.spot (words (record { kind = w.kind; field = w.field; high = 0; low = 0; end = p.spot.node }) ++ kids.0) kids.1 (field-inside ∙ rw kids.2 refl)
            (λ hn hb.
            let st = wrote-done a x b y (record { at = n; node = q.node + 1; byte = q.byte }) _ p.spot kids.0 kids.1 kids.2 an.wrote hn hb in
            (parent-put a x u kids.0 q.node (record { kind = w.kind; field = w.field; high = 0; low = 0; end = p.spot.node }) st.0 (omega (arith, gone.words)) hu, st.1))
            (answer-line (line_at s) (read_body (left - 1) image s (within w) c (record { at = n; node = q.node + 1; byte = q.byte })) p (sym i ∙ an.answer))
