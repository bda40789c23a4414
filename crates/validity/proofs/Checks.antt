-- A node alone, case by case: its number, its run of the pool, its value and its field.
use Prim.Native.Nat.{ℕ, ◌+◌, ◌-◌, ◌≤◌, ◌<◌}
use mathlib.Core.Bool.{Bool, true, false, ◌&&◌, ◌||◌}
use mathlib.Core.Path.{◌≡◌, refl, sym, ◌∙◌}
use mathlib.Core.List.{List}
use lib.Dec.{eqb, ltb, leb}
use borrow.Author.Tests.{ltb-true, leb-true, eqb-true, lt-ltb, le-leb, lt-leb, ne_eqb, le-ltb}
use Rattle.definitions.specs.declared.Node.{Node}
use Rattle.definitions.specs.declared.Want.{Want}
use Rattle.definitions.specs.declared.Span.{Span}
use Rattle.definitions.specs.Scope.{Scope, in_entry, want, within, has_field, nests, map_entry}
use Rattle.definitions.specs.Nodes.{is_unknown, Forest}
use Rattle.definitions.specs.Validity.{value_good, unknown_good, field_fits, entry_good}
use Rattle.definitions.specs.Refusals.{most_number}
use Rattle.laws.proofs.Lists.{and_parts, true-false}
use Rattle.nodes.specs.Span.{FieldsAre, node_good}
use Rattle.nodes.proofs.Scopes.{within-entry, within-message, ltb-from}

-- ---- fields

module _ (s : List ℕ) (w : Want) (n : Node) where
  pub unknown-entry : is_unknown n.kind ≡ true → w.kind ≡ map_entry → false ≡ field_fits s (within w) n
  unfolding field_fits unknown_good
  unknown-entry h k = rw (within-entry w k) (simp h)

  pub unknown-zero : is_unknown n.kind ≡ true → (w.kind ≡ map_entry → ⊥) → n.field < 1 → false ≡ field_fits s (within w) n
  unfolding field_fits unknown_good
  unknown-zero h k l = rw (within-message w k) (simp (h, lt-leb 1 n.field l))

  pub unknown-message : is_unknown n.kind ≡ true → (w.kind ≡ map_entry → ⊥) → 1 ≤ n.field → leb n.field most_number ≡ field_fits s (within w) n
  unfolding field_fits unknown_good
  unknown-message h k l = rw (within-message w k) (simp (h, le-leb 1 n.field l))

-- a field that is not one of all the scope's, and the kind of one that is
module _ (s : List ℕ) (c : Scope) (n : Node) (own : Span) (f : FieldsAre s c own) (k : is_unknown n.kind ≡ false) where
  pub fits-before : n.field < own.first → leb own.first n.field ≡ field_fits s c n
  unfolding field_fits
  fits-before h = simp (k, f n.field, lt-leb own.first n.field h)

  module _ (h : own.first ≤ n.field) where
    has-within : ltb (n.field - own.first) own.count ≡ has_field s c n.field
    has-within = ltb-from own.first own.count n.field h ∙ sym (f n.field ∙ simp (le-leb own.first n.field h))

    pub fits-past : own.count ≤ n.field - own.first → ltb (n.field - own.first) own.count ≡ field_fits s c n
    unfolding field_fits
    fits-past l = let e = le-ltb (n.field - own.first) own.count l in rw e (simp (k, sym has-within ∙ e))

    pub fits-in : n.field - own.first < own.count → has_field s c n.field ≡ true
    fits-in l = sym has-within ∙ lt-ltb (n.field - own.first) own.count l

    pub fits-kind : n.field - own.first < own.count → (a : Want) → a ≡ want s c n.field → eqb n.kind a.kind ≡ field_fits s c n
    unfolding field_fits
    fits-kind l a e = simp (k, fits-in l, ← e)

-- a kind that isn't unknown is what its field asks for
pub fits-known : (s : List ℕ) (c : Scope) (n : Node) → field_fits s c n ≡ true → is_unknown n.kind ≡ false
    → (has_field s c n.field ≡ true) × (n.kind ≡ (want s c n.field).kind)
unfolding field_fits
fits-known s c n f k =
    let p = and_parts (has_field s c n.field) (eqb n.kind (want s c n.field).kind) (rw k at f) in
    (p.0, eqb-true n.kind (want s c n.field).kind p.1)

-- an entry has no unknown fields
pub entry_known : (s : List ℕ) (g : ℕ) (n : Node) → field_fits s (in_entry g) n ≡ true → is_unknown n.kind ≡ false
unfolding field_fits unknown_good
entry_known s g n f = go (is_unknown n.kind) refl
  where
    go : (t : Bool) → is_unknown n.kind ≡ t → is_unknown n.kind ≡ false
    go true e = true-false false (rw e at f) refl
    go false e = e

-- ---- an entry's children

module _ (kind : ℕ) (kids : Forest) where
  pub entry_other : (kind ≡ map_entry → ⊥) → true ≡ entry_good kind kids
  entry_other h = simp (ne_eqb kind map_entry h)

-- ---- a node, but for what lies below it

pub record NodeGood (s pool : List ℕ) (c : Scope) (i e : ℕ) (n : Node) : Type 0 where
  pub on : i < n.end
  pub inside : n.end ≤ e
  pub fits : field_fits s c n ≡ true
  pub value : value_good pool n ≡ true
  pub leaf : nests n.kind ≡ false → n.end ≤ i + 1

module _ (s pool : List ℕ) (c : Scope) (i e : ℕ) (n : Node) where
  pub node-parts : node_good s pool c i e n ≡ true → NodeGood s pool c i e n
  unfolding node_good
  node-parts h =
      let a = ltb i n.end in
      let b = leb n.end e in
      let ff = field_fits s c n in
      let vg = value_good pool n in
      let p₄ = and_parts (a && b && ff && vg) (nests n.kind || leb n.end (i + 1)) h in
      let p₃ = and_parts (a && b && ff) vg p₄.0 in
      let p₂ = and_parts (a && b) ff p₃.0 in
      let p₁ = and_parts a b p₂.0 in
      record {
        on = ltb-true i n.end p₁.0;
        inside = leb-true n.end e p₁.1;
        fits = p₂.1;
        value = p₃.1;
        leaf = λ q. leb-true n.end (i + 1) (rw q at p₄.1);
      }

  pub node_made : NodeGood s pool c i e n → node_good s pool c i e n ≡ true
  unfolding node_good
  node_made g = go (nests n.kind) refl
    where
      go : (t : Bool) → nests n.kind ≡ t → node_good s pool c i e n ≡ true
      go true h = simp (lt-ltb i n.end g.on, le-leb n.end e g.inside, g.fits, g.value, h)
      go false h = simp (lt-ltb i n.end g.on, le-leb n.end e g.inside, g.fits, g.value, h, le-leb n.end (i + 1) (g.leaf h))
