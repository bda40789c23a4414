-- Live values of a valid table, none unknown or unnamed, fit what print and read agree on.
use Prim.Native.Nat.{ℕ, ◌-◌, ◌%◌, ◌≤◌, ◌<◌}
use native.Mathlib.Omega.{arith}
use mathlib.Core.Path.{◌≡◌, refl, ◌∙◌}
use mathlib.Core.Bool.{true, false, ◌&&◌}
use mathlib.Core.List.{List}
use mathlib.Core.Option.{Option, none, some}
use mathlib.Core.Logic.{◌⊎◌, inl, inr}
use lib.Dec.{ltb}
use borrow.Author.Tests.{ltb-true}
use Rattle.definitions.specs.declared.Want.{Want}
use Rattle.definitions.specs.Image.{find_number}
use Rattle.definitions.specs.Scope.{Scope, want, within, has_field, nests, enum}
use Rattle.definitions.specs.Nodes.{word32}
use Rattle.definitions.specs.Live.{Val, number, Tree, nil, node, first_unknown}
use Rattle.definitions.specs.Names.{is_some}
use Rattle.compatibility.specs.Demand.{has_name, all_named}
use Rattle.laws.proofs.Ranges.{SignedIn}
use Rattle.laws.proofs.Lists.{and_parts, true-false}
use Rattle.trees.proofs.Trees.{Pair, Sound, sound_i32, sound_i64, sound_u32, sound_u64, sound_bool, sound_enum, sound_string, sound_bytes, sound_body, sound_entry, Fits}
use Rattle.trees.proofs.Canon.{Canonical, Both, Rough, rough_i32, rough_i64, rough_u32, rough_u64, rough_bool, rough_enum, rough_string, rough_bytes, rough_body, rough_entry, Standing, strange, proper, Rugged}

-- a value has something inside only if it is a message or an entry
pub kids-case : (s : List ℕ) (left : ℕ) (w : Want) (v : Val) (kids : Tree) → Sound s left w v kids → (kids ≡ nil) ⊎ (nests w.kind ≡ true)
kids-case s left w v kids (sound_i32 e h) = inl refl
kids-case s left w v kids (sound_i64 e h) = inl refl
kids-case s left w v kids (sound_u32 e h) = inl refl
kids-case s left w v kids (sound_u64 e h) = inl refl
kids-case s left w v kids (sound_bool e h) = inl refl
kids-case s left w v kids (sound_enum e i h b) = inl refl
kids-case s left w v kids (sound_string e h u) = inl refl
kids-case s left w v kids (sound_bytes e h) = inl refl
kids-case s left w v kids (sound_body e h) = inr (rw e refl)
kids-case s left w v kids (sound_entry e h p) = inr (rw e refl)

both-pair : (s : List ℕ) (c : Scope) (t : Tree) → Both t → Canonical s c t → Pair t
both-pair s c nil b h = absurd b
both-pair s c (node a k v t nil) b h = absurd b
both-pair s c (node a k v t (node d l u z nil)) b h = let o : a ≤ d = h.0.0 in (omega arith, omega arith)
both-pair s c (node a k v t (node d l u z (node e m x y o))) b h = absurd b

named-enum : (s : List ℕ) (left : ℕ) (w : Want) (k n : ℕ) → w.kind ≡ enum → k ≡ w.kind → SignedIn 32 n
    → has_name s w k (number n) ≡ true → Sound s left w (number n) nil
unfolding has_name
named-enum s left w k n e ek b h = go (find_number s w.reference (n % word32)) refl
  where
    some_is : is_some (find_number s w.reference (n % word32)) ≡ true
    some_is = rw (ek ∙ e, has_name) at h

    go : (o : Option ℕ) → find_number s w.reference (n % word32) ≡ o → Sound s left w (number n) nil
    go none q = true-false false (rw q at some_is) refl
    go (some i) q = sound_enum e i q b

rough-sound : (s : List ℕ) (left : ℕ) (w : Want) (k : ℕ) (v : Val) (kids : Tree) → Rough s left w v kids → k ≡ w.kind → has_name s w k v ≡ true
    → Canonical s (within w) kids → Sound s left w v kids
rough-sound s left w k v kids (rough_i32 e h) ek n c = sound_i32 e h
rough-sound s left w k v kids (rough_i64 e h) ek n c = sound_i64 e h
rough-sound s left w k v kids (rough_u32 e h) ek n c = sound_u32 e h
rough-sound s left w k v kids (rough_u64 e h) ek n c = sound_u64 e h
rough-sound s left w k v kids (rough_bool e h) ek n c = sound_bool e h
rough-sound s left w k v kids (rough_enum {n = i} e b) ek n c = named-enum s left w k i e ek b n
rough-sound s left w k v kids (rough_string e h u) ek n c = sound_string e h u
rough-sound s left w k v kids (rough_bytes e h) ek n c = sound_bytes e h
rough-sound s left w k v kids (rough_body e h) ek n c = sound_body e h
rough-sound s left w k v kids (rough_entry {t = t} e h b) ek n c = sound_entry e h (both-pair s (within w) t b c)

standing-sound : (s : List ℕ) (left : ℕ) (c : Scope) (r k : ℕ) (v : Val) (kids : Tree) → Standing s left c r k v kids → r < first_unknown
    → has_name s (want s c r) k v ≡ true → Canonical s (within (want s c r)) kids
    → (has_field s c r ≡ true) × (k ≡ (want s c r).kind) × Sound s left (want s c r) v kids
standing-sound s left c r k v kids (strange h) lt n cn = absurd (omega arith)
standing-sound s left c r k v kids (proper {kids = t} h i j) lt n cn = (h, i, rough-sound s left (want s c r) k v t j i n cn)

pub rugged-fits : (s : List ℕ) (left : ℕ) (c : Scope) (t : Tree) → Rugged s left c t → Canonical s c t → all_named s c t ≡ true → Fits s left c t
unfolding all_named
rugged-fits s left c nil rg cn e = tt
rugged-fits s left c (node r k v kids rest) rg cn e =
    let a = and_parts (ltb r first_unknown && has_name s (want s c r) k v && all_named s (within (want s c r)) kids) (all_named s c rest) e in
    let b = and_parts (ltb r first_unknown && has_name s (want s c r) k v) (all_named s (within (want s c r)) kids) a.0 in
    let d = and_parts (ltb r first_unknown) (has_name s (want s c r) k v) b.0 in
    let f = standing-sound s left c r k v kids rg.0 (ltb-true r first_unknown d.0) d.1 cn.2 in
    (f.0, f.1, f.2, rugged-fits s (left - 1) (within (want s c r)) kids rg.1 cn.2 b.1, rugged-fits s left c rest rg.2 cn.3 a.1)
