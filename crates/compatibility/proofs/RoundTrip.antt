-- The round trip under one schema, as the demand at a schema and itself; and that to mean the same is an equivalence.
use Prim.Native.Nat.{ℕ, ◌-◌, ◌%◌, ◌<◌}
use native.Mathlib.Omega.{arith}
use mathlib.Core.Path.{◌≡◌, refl, sym, ◌∙◌}
use mathlib.Core.Bool.{Bool, true, false}
use mathlib.Core.List.{List, [], ◌∷◌, ◌++◌}
use mathlib.Core.Option.{Option, none, some}
use mathlib.Core.Logic.{◌⊎◌, inl, inr}
use lib.Dec.{ltb, leb, eqb}
use lib.ListN.{length}
use borrow.Author.Tests.{lt-ltb, ltb-true, eqb-true, eqb-false}
use Rattle.definitions.specs.declared.Want.{Want}
use Rattle.definitions.specs.Basics.{same, each}
use Rattle.definitions.specs.Refusals.{most_depth, most_text}
use Rattle.definitions.specs.Image.{accepted, is_message, enum_count, enumeration, member_name, find_member}
use Rattle.definitions.specs.Scope.{Scope, in_message, in_entry, want, within, has_field, name_in, find_in, nests, enum}
use Rattle.definitions.specs.Nodes.{word32}
use Rattle.definitions.specs.Validity.{valid}
use Rattle.definitions.specs.Live.{Val, number, run, inside, Tree, nil, node, first_unknown, meaning, MeanSame}
use Rattle.definitions.specs.Names.{Name, name_of, value_names, names, knows, is_some}
use Rattle.definitions.specs.Reading.{read_nodes, read_pool}
use Rattle.definitions.specs.Print.{Style, print_text}
use Rattle.trees.specs.Laying.{rank_under, relabel}
use Rattle.compatibility.specs.Demand.{Setting, Room, RoundTrip, knows_all, all_named}
use Rattle.laws.proofs.Lists.{and_parts, and-made, true-false, same_refl, find_none}
use Rattle.trees.proofs.Accepted.{Accepted, In, field-within, field-known, find-own, found_number}
use Rattle.trees.proofs.Extends.{Extends, extends-self}
use Rattle.trees.proofs.Trees.{Sound, sound_i32, sound_i64, sound_u32, sound_u64, sound_bool, sound_enum, sound_string, sound_bytes, sound_body, sound_entry, Fits, Together, has_in, known}
use Rattle.compatibility.proofs.Fields.{value_names-enum, value_names-other}
use Rattle.compatibility.proofs.Fitting.{kids-case}
use Rattle.compatibility.proofs.Demand.{fits, ok_n, ext, here, reads, meaning-read}

-- ---- to mean the same is an equivalence

pub same_self : (s : List ℕ) (root : ℕ) (w pool : List ℕ) → MeanSame s root w pool w pool
same_self s root w pool = refl

pub same_back : (s : List ℕ) (root : ℕ) (w pool v bytes : List ℕ) → MeanSame s root w pool v bytes → MeanSame s root v bytes w pool
same_back s root w pool v bytes e = sym e

pub same-on : (s : List ℕ) (root : ℕ) (w pool v bytes x more : List ℕ) → MeanSame s root w pool v bytes → MeanSame s root v bytes x more
    → MeanSame s root w pool x more
same-on s root w pool v bytes x more e f = e ∙ f

-- ---- a schema finds its own names

module _ (s : List ℕ) (ok : Accepted s) (x : Extends s s) where
  own_name : (c : Scope) (r : ℕ) → Together s s c c → has_field s c r ≡ true → find_in s c (name_in s c r) ≡ some r
  unfolding find_in name_in has_field same
  own_name (in_message m) r g has = find-own s ok m g.1 r (has_in s m r has)
  own_name (in_entry h) r g has = go (eqb r 0) refl
    where
      go : (b : Bool) → eqb r 0 ≡ b → find_in s (in_entry h) (name_in s (in_entry h) r) ≡ some r
      go true q = let z = eqb-true r 0 q in rw z refl
      go false q =
          let n = eqb-false r 0 q in
          let l = ltb-true r 2 has in
          let z : r ≡ 1 = omega arith in
          rw z refl

  own-rank : (c : Scope) (r : ℕ) → Together s s c c → has_field s c r ≡ true → rank_under s s c c r ≡ r
  unfolding rank_under
  own-rank c r g has = rw (own_name c r g has) refl

  -- what lies inside a field's value
  own-inner : (left : ℕ) (c : Scope) (r k : ℕ) (v : Val) (kids rest : Tree) → Together s s c c → Fits s left c (node r k v kids rest)
      → (kids ≡ nil) ⊎ Together s s (within (want s c r)) (within (want s c r))
  own-inner left c r k v kids rest g f = go (kids-case s left (want s c r) v kids f.2)
    where
      go : (kids ≡ nil) ⊎ (nests (want s c r).kind ≡ true) → (kids ≡ nil) ⊎ Together s s (within (want s c r)) (within (want s c r))
      go (inl q) = inl q
      go (inr q) = inr ((known s s ok ok x c c r r g f.0 (own_name c r g f.0)).0.inner q)

  -- and under its own ranks a tree is itself
  pub relabel-self : (left : ℕ) (c : Scope) (t : Tree) → Together s s c c → Fits s left c t → relabel s s c c t ≡ t
  unfolding relabel
  relabel-self left c nil g f = refl
  relabel-self left c (node r k v kids rest) g f =
      rw (
        own-rank c r g f.0,
        inner (own-inner left c r k v kids rest g f) (λ h. relabel-self (left - 1) (within (want s c r)) kids h f.3),
        relabel-self left c rest g f.4,
      )
      refl
    where
      inner : (kids ≡ nil) ⊎ Together s s (within (want s c r)) (within (want s c r))
          → (Together s s (within (want s c r)) (within (want s c r)) → relabel s s (within (want s c r)) (within (want s c r)) kids ≡ kids)
          → relabel s s (within (want s c r)) (within (want s c r)) kids ≡ kids
      inner (inl q) ih = rw q refl
      inner (inr q) ih = ih q

  -- ---- and knows every name

  knows-append : (xs ys : List Name) → knows_all s xs ≡ true → knows_all s ys ≡ true → knows_all s (xs ++ ys) ≡ true
  unfolding knows_all
  knows-append [] ys h k = k
  knows-append (n ∷ xs) ys h k =
      let p = and_parts (knows s n) (knows_all s xs) h in
      and-made (knows s n) (knows_all s (xs ++ ys)) p.0 (knows-append xs ys p.1 k)

  knows-field : (c : Scope) (r : ℕ) → Together s s c c → has_field s c r ≡ true → knows_all s (name_of s c r) ≡ true
  unfolding name_of knows_all knows
  knows-field (in_message m) r g has =
      let i = has_in s m r has in
      rw (lt-ltb r first_unknown (field-known s ok r (field-within s ok m g.1 r i)), find-own s ok m g.1 r i) refl
  knows-field (in_entry h) r g has = refl

  knows-member : (e i : ℕ) → In (enumeration s e) i → is_some (find_member s e (member_name s i)) ≡ true
  unfolding find_member
  knows-member e i h = go (find_member s e (member_name s i)) refl
    where
      go : (o : Option ℕ) → find_member s e (member_name s i) ≡ o → is_some (find_member s e (member_name s i)) ≡ true
      go (some j) q = rw q refl
      go none q =
          true-false (same (member_name s i) (member_name s i)) (same_refl (member_name s i))
          (find_none (λ j. same (member_name s j) (member_name s i)) (enumeration s e).first (enumeration s e).count q i h.0 h.1)

  other : (w : Want) (k : ℕ) (v : Val) → eqb k enum ≡ false → knows_all s (value_names s w k v) ≡ true
  unfolding knows_all
  other w k v e = rw (value_names-other s w k v e) refl

  knows_value : (left : ℕ) (w : Want) (k : ℕ) (v : Val) (kids : Tree) → k ≡ w.kind → (w.kind ≡ enum → w.reference < enum_count s)
      → Sound s left w v kids → knows_all s (value_names s w k v) ≡ true
  unfolding knows_all knows
  knows_value left w k v kids ek r (sound_i32 {n = n} e h) = other w k (number n) (rw (ek ∙ e) refl)
  knows_value left w k v kids ek r (sound_i64 {n = n} e h) = other w k (number n) (rw (ek ∙ e) refl)
  knows_value left w k v kids ek r (sound_u32 {n = n} e h) = other w k (number n) (rw (ek ∙ e) refl)
  knows_value left w k v kids ek r (sound_u64 {n = n} e h) = other w k (number n) (rw (ek ∙ e) refl)
  knows_value left w k v kids ek r (sound_bool {n = n} e h) = other w k (number n) (rw (ek ∙ e) refl)
  knows_value left w k v kids ek r (sound_enum {n = n} e i h b) =
      rw (value_names-enum s w k n i (ek ∙ e) h, knows-member w.reference i (found_number s ok w.reference (r e) (n % word32) i h).0) refl
  knows_value left w k v kids ek r (sound_string {bs = bs} e h u) = other w k (run bs) (rw (ek ∙ e) refl)
  knows_value left w k v kids ek r (sound_bytes {bs = bs} e h) = other w k (run bs) (rw (ek ∙ e) refl)
  knows_value left w k v kids ek r (sound_body e h) = other w k inside (rw (ek ∙ e) refl)
  knows_value left w k v kids ek r (sound_entry e h p) = other w k inside (rw (ek ∙ e) refl)

  pub knows-self : (left : ℕ) (c : Scope) (t : Tree) → Together s s c c → Fits s left c t → knows_all s (names s c t) ≡ true
  unfolding names knows_all
  knows-self left c nil g f = refl
  knows-self left c (node r k v kids rest) g f =
      let w = want s c r in
      let kn = (known s s ok ok x c c r r g f.0 (own_name c r g f.0)).0 in
      knows-append (name_of s c r) _ (knows-field c r g f.0)
      (knows-append (value_names s w k v) _ (knows_value left w k v kids f.1 (λ e. (kn.member e).1) f.2)
      (knows-append (names s (within w) kids) _ (inner (own-inner left c r k v kids rest g f) (λ h. knows-self (left - 1) (within w) kids h f.3))
      (knows-self left c rest g f.4)))
    where
      inner : (kids ≡ nil) ⊎ Together s s (within (want s c r)) (within (want s c r))
          → (Together s s (within (want s c r)) (within (want s c r)) → knows_all s (names s (within (want s c r)) kids) ≡ true)
          → knows_all s (names s (within (want s c r)) kids) ≡ true
      inner (inl q) ih = rw q refl
      inner (inr q) ih = ih q

-- ---- the round trip

-- what the demand presumes, of one schema
pub one-schema : (s : List ℕ) (root : ℕ) (w pool : List ℕ) (y : Style) → accepted s ≡ true → is_message s root ≡ true → valid s root w pool ≡ true
    → each (λ x. ltb x word32) w ≡ true → each (λ b. ltb b 256) pool ≡ true
    → all_named s (in_message root) (meaning s root w pool) ≡ true → leb (length (print_text s y root w pool)) most_text ≡ true
    → Setting s s root w pool y
one-schema s root w pool y a r v hw hp n l =
    record
    { newer_good = a; older_good = a; extending = extends-self s; root_good = r; table_good = v; words_good = hw; pool_good = hp; named = n; short = l }

pub round_trip : (s : List ℕ) (root : ℕ) (w pool : List ℕ) (y : Style) → Setting s s root w pool y → (nodes bytes : List ℕ)
    → Room (meaning s root w pool) nodes bytes → RoundTrip s root w pool (print_text s y root w pool) nodes bytes
round_trip s root w pool y g nodes bytes room =
    let f = fits s s root w pool y g in
    let ok = ok_n s s root w pool y g in
    let x = ext s s root w pool y g in
    let together : Together s s (in_message root) (in_message root) = (refl, here s s root w pool y g) in
    let kn = knows-self s ok x most_depth (in_message root) (meaning s root w pool) together f in
    let m : meaning s root (read_nodes s root (print_text s y root w pool) nodes (length bytes)) (read_pool s root (print_text s y root w pool) (length nodes) bytes)
    ≡ meaning s root w pool =
    meaning-read s s root w pool y g kn nodes bytes room ∙ relabel-self s ok x most_depth (in_message root) (meaning s root w pool) together f in
    record {
      answer = (reads s s root w pool y g kn nodes bytes room).answer;
      good = (reads s s root w pool y g kn nodes bytes room).good;
      same = m;
      printed = (reads s s root w pool y g kn nodes bytes room).printed;
    }
