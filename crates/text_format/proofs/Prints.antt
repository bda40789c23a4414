-- How a print ends: barred, too long for the buffer, or printed.
use mathlib.Core.Path.{◌≡◌, sym, ◌∙◌, refl, ap}
use Prim.Native.Nat.{ℕ, ◌≤◌, ◌<◌}
use mathlib.Core.List.{List, [], ◌∷◌, ◌++◌}
use native.Mathlib.Omega.{arith}
use lib.ListN.{length}
use lib.Seq.{sets}
use borrow.Author.Tests.{lt-ltb, le-ltb}
use Rattle.std.specs.Prelude.{Result, Ok, Err}
use Rattle.definitions.specs.declared.Refused.{Refused}
use Rattle.definitions.specs.Refusals.{buffer_short, unplaced}
use Rattle.definitions.specs.Refused.{refused_as}
use Rattle.definitions.specs.Print.{Style, print_text, print_answer, print_buffer}
use Rattle.records.specs.declared.schema.Schema.{Schema}
use Rattle.spelling.specs.Written.{Written}
use Rattle.text_format.specs.Answers.{table_barred, printed_of}
use Rattle.text_format.specs.Opened.{Barred, Free}
use Rattle.text_format.proofs.Opened.{unbarred-is}

-- the answer and the buffer of a print
pub record Prints (image : List ℕ) (y : Style) (root : ℕ) (w pool e : List ℕ) (r : Result ℕ Refused) (x : List ℕ) : Type 0 where
  pub answer : r ≡ printed_of (print_answer image y root w pool (length e))
  pub bytes : x ≡ print_buffer image y root w pool e

-- a lent part of length 0 holds nothing
pub empty-part : (p e : List ℕ) → length p ≡ 0 → p ++ e ≡ e
empty-part [] e h = refl
empty-part (x ∷ p) e h = absurd (omega arith)

module _ (image : List ℕ) (y : Style) (root : ℕ) (w pool e : List ℕ) where
  pub print-barred : {f : Refused} → Barred (table_barred image root w pool) f → Prints image y root w pool e (Err f) e
  unfolding print_answer print_buffer table_barred
  print-barred b = record { answer = rw (b.answer, b.barring) refl; bytes = rw b.barring refl }

  module _ {l : Schema} (f : Free image root w pool l) (n : ℕ) (p q x : List ℕ) (c : Written p 0 (print_text image y root w pool) q n) (ex : x ≡ e) where
    counted : n ≡ length (print_text image y root w pool)
    counted = omega (arith, c.ends)

    pub print-short : {u : Refused} → u ≡ refused_as buffer_short (unplaced n) → length x < n → Prints image y root w pool e (Err u) x
    unfolding print_answer print_buffer table_barred
    print-short h lt =
        let lt' : length e < length (print_text image y root w pool) = rw (ex, counted) at lt in
        record {
          answer = rw h (simp (unbarred-is image root w pool f, lt-ltb _ _ lt', counted));
          bytes = ex ∙ sym (simp (unbarred-is image root w pool f, lt-ltb _ _ lt'));
        }

    pub print-made : n ≤ length x → (z : List ℕ) (m : ℕ) → Written x 0 (print_text image y root w pool) z m → Prints image y root w pool e (Ok n) z
    unfolding print_answer print_buffer table_barred
    print-made le z m s =
        let le' : length (print_text image y root w pool) ≤ length e = rw (ex, counted) at le in
        record {
          answer = simp (unbarred-is image root w pool f, le-ltb _ _ le', counted);
          bytes = s.holds ∙ ap (λ (l : List ℕ). sets l 0 (print_text image y root w pool)) ex ∙ sym (simp (unbarred-is image root w pool f, le-ltb _ _ le'));
        }
