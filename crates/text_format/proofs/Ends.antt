-- How a read ends: barred by schema, root or length, or as the readers end.
use mathlib.Core.Path.{◌≡◌, ◌∙◌, refl}
use Prim.Native.Nat.{ℕ, ◌≤◌, ◌<◌}
use mathlib.Core.List.{List}
use mathlib.Core.Option.{none, some}
use lib.ListN.{length}
use borrow.Author.Tests.{lt-ltb, le-leb, lt-leb}
use Rattle.std.specs.Prelude.{Result, Err}
use Rattle.definitions.specs.declared.Refused.{Refused}
use Rattle.definitions.specs.Refusals.{text_too_long, most_text}
use Rattle.definitions.specs.Image.{is_message, message_count}
use Rattle.definitions.specs.Calls.{barred}
use Rattle.definitions.specs.Reading.{read_barred, read_answer, read_nodes, read_pool}
use Rattle.parse.specs.declared.Made.{Made}
use Rattle.parse.specs.Whole.{read_of, fitted_read, fitted_nodes, fitted_pool}
use Rattle.records.specs.declared.schema.Schema.{Schema}
use Rattle.text_format.specs.Opened.{Barred, Rooted}

-- the answer, the table and the pool of a read
pub record Ends (image : List ℕ) (root : ℕ) (s e f : List ℕ) (r : Result Made Refused) (x y : List ℕ) : Type 0 where
  pub answer : r ≡ read_of (read_answer image root s (length e) (length f))
  pub table : x ≡ read_nodes image root s e (length f)
  pub bytes : y ≡ read_pool image root s (length e) f

module _ (image : List ℕ) (root : ℕ) (s e f : List ℕ) where
  pub ends-barred : {g : Refused} → Barred (read_barred image root (length s)) g → Ends image root s e f (Err g) e f
  unfolding read_answer read_nodes read_pool
  ends-barred b = record { answer = rw (b.answer, b.barring) refl; table = rw b.barring refl; bytes = rw b.barring refl }

  module _ {l : Schema} (o : Rooted image root l) where
    pub bar-long : most_text < length s → read_barred image root (length s) ≡ some text_too_long
    unfolding read_barred barred is_message
    bar-long h = simp (o.good, lt-ltb root (message_count image) o.below, lt-leb (length s) most_text h)

    module _ (h : length s ≤ most_text) where
      unbarred-is : read_barred image root (length s) ≡ none
      unfolding read_barred barred is_message
      unbarred-is = simp (o.good, lt-ltb root (message_count image) o.below, le-leb (length s) most_text h)

      pub ends_read : (r : Result Made Refused) (x y : List ℕ) → r ≡ read_of (fitted_read image root s (length e) (length f)) → x ≡ fitted_nodes image root s e (length f) → y ≡ fitted_pool image root s (length e) f → Ends image root s e f r x y
      unfolding read_answer read_nodes read_pool fitted_read fitted_nodes fitted_pool
      ends_read r x y hr hx hy = record { answer = hr ∙ rw unbarred-is refl; table = hx ∙ rw unbarred-is refl; bytes = hy ∙ rw unbarred-is refl }
