-- Texts in the lent buffer: none, one after another, one that has no room; and the room that each has.
use mathlib.Core.Path.{◌≡◌, refl, sym, ap, ◌∙◌}
use Prim.Native.Nat.{ℕ, ◌+◌, ◌≤◌}
use mathlib.Core.List.{List, [], ◌++◌}
use native.Mathlib.Omega.{arith}
use lib.ListN.{length, length-append}
use lib.Seq.{length-sets}
use Rattle.laws.proofs.Stores.{sets-append, sets-out}
use Rattle.spelling.specs.Written.{Written, Room}

pub none_written : (b : List ℕ) (at : ℕ) → Written b at [] b at
none_written b at = record { ends = omega arith; holds = refl }

pub then-written : {a b c t u : List ℕ} {at p r : ℕ} → Written a at t b p → Written b p u c r → Written a at (t ++ u) c r
then-written {a} {b} {c} {t} {u} {at} {p} {r} f g =
    record {
      ends = omega (arith, f.ends, g.ends, length-append t u);
      holds = g.holds ∙ rw (f.holds, f.ends) (sym (sets-append t u a at));
    }

-- the same text in other words
pub as_written : {a b t u : List ℕ} {at r : ℕ} → t ≡ u → Written a at t b r → Written a at u b r
as_written e f = rw e at f

-- a text where there is no room
pub text-passed : (b t : List ℕ) (at : ℕ) → length b ≤ at → Written b at t b (at + length t)
text-passed b t at h = record { ends = refl; holds = sym (sets-out t b at h) }

-- the buffer keeps its length
pub written-length : {a b t : List ℕ} {at r : ℕ} → Written a at t b r → length b ≡ length a
written-length {a} {b} {t} {at} f = ap length f.holds ∙ length-sets a at t

-- ---- room

pub as_room : {at : ℕ} {t u : List ℕ} → t ≡ u → Room at t → Room at u
as_room e h = rw e at h

pub room-first : {at : ℕ} (t u : List ℕ) → Room at (t ++ u) → Room at t
room-first t u h = record { fits = omega (arith, h.fits, length-append t u) }

pub room-then : {a b : List ℕ} {at p : ℕ} (t u : List ℕ) → Room at (t ++ u) → Written a at t b p → Room p u
room-then t u h f = record { fits = omega (arith, h.fits, f.ends, length-append t u) }
