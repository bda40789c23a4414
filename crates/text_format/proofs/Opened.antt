-- What bars a call, and how a call over a table answers that is barred.
use mathlib.Core.Path.{◌≡◌, sym, ap, ◌∙◌, refl}
use Prim.Native.Nat.{ℕ, ◌≤◌}
use mathlib.Core.Bool.{Bool, true, false}
use mathlib.Core.List.{List, []}
use mathlib.Core.Option.{none, some}
use borrow.Author.Tests.{lt-ltb, le-ltb}
use Rattle.std.specs.Prelude.{Result, Err, IsErrAnd}
use Rattle.std.proofs.lemmas.Result.{err_from_is_err_and}
use Rattle.definitions.specs.declared.Refused.{Refused}
use Rattle.definitions.specs.Refusals.{bad_schema, no_message, bad_table}
use Rattle.definitions.specs.Image.{accepted, is_message, message_count}
use Rattle.definitions.specs.Validity.{valid}
use Rattle.definitions.specs.Calls.{barred}
use Rattle.definitions.specs.Reading.{read_barred}
use Rattle.definitions.specs.Required.{required_answer}
use Rattle.definitions.specs.Access.{value_answer, value_bytes}
use Rattle.records.specs.declared.schema.Schema.{Schema}
use Rattle.text_format.specs.Answers.{table_barred, checked_of, valued_of}
use Rattle.text_format.specs.Opened.{root_barred, Barred, Rooted, Free}

-- a refusal that is passed on is the one that came
pub passed_on : {A E : Type 0} (r : Result A E) (e : E) → IsErrAnd r (λ f. f ≡ e) → r ≡ Err e
passed_on r e h = let p = err_from_is_err_and r h in p.1 ∙ ap Err p.2

module _ (image : List ℕ) (root : ℕ) where
  pub bar-schema : accepted image ≡ false → root_barred image root ≡ some bad_schema
  unfolding root_barred barred
  bar-schema h = simp h

  pub bar-root : accepted image ≡ true → message_count image ≤ root → root_barred image root ≡ some no_message
  unfolding root_barred barred is_message
  bar-root a h = simp (a, le-ltb root (message_count image) h)

  -- what bars every call bars each
  bars-each : (test : Unit {0} → Bool) (other why : ℕ) → root_barred image root ≡ some why → barred image root test other ≡ some why
  unfolding root_barred barred
  bars-each test other why h = go (accepted image) refl (is_message image root) refl
    where
      go : (a : Bool) → accepted image ≡ a → (m : Bool) → is_message image root ≡ m → barred image root test other ≡ some why
      go false a m q = let k = rw a at h in rw a k
      go true a false q = let k = rw (a, q) at h in rw (a, q) k
      go true a true q = let k = rw (a, q) at h in cc

  pub bars_read : {e : Refused} (size : ℕ) → Barred (root_barred image root) e → Barred (read_barred image root size) e
  unfolding read_barred
  bars_read size b = record { why = b.why; barring = bars-each _ _ b.why b.barring; answer = b.answer }

  module _ (w pool : List ℕ) where
    pub bars-table : {e : Refused} → Barred (root_barred image root) e → Barred (table_barred image root w pool) e
    unfolding table_barred
    bars-table b = record { why = b.why; barring = bars-each _ _ b.why b.barring; answer = b.answer }

    pub bar-table : {l : Schema} → Rooted image root l → false ≡ valid image root w pool → table_barred image root w pool ≡ some bad_table
    unfolding table_barred barred is_message
    bar-table r h = simp (r.good, lt-ltb root (message_count image) r.below, sym h)

    pub unbarred-is : {l : Schema} → Free image root w pool l → table_barred image root w pool ≡ none
    unfolding table_barred barred is_message
    unbarred-is f = simp (f.rooted.good, lt-ltb root (message_count image) f.rooted.below, f.valued)

    pub required-barred : {e : Refused} → Barred (table_barred image root w pool) e → Err e ≡ checked_of (required_answer image root w pool)
    unfolding required_answer table_barred
    required-barred b = rw (b.answer, b.barring) refl

    pub value-barred : {e : Refused} (i : ℕ) → Barred (table_barred image root w pool) e → Err e ≡ valued_of (value_answer image root w pool i)
    unfolding value_answer table_barred
    value-barred i b = rw (b.answer, b.barring) refl

    pub bytes-barred : {e : Refused} (i : ℕ) → Barred (table_barred image root w pool) e → [] ≡ value_bytes image root w pool i
    unfolding value_bytes value_answer table_barred
    bytes-barred i b = rw b.barring refl
