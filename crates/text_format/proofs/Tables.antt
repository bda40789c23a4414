-- How calls over a table answer where nothing bars them.
use mathlib.Core.Path.{◌≡◌, sym, ◌∙◌, refl}
use Prim.Native.Nat.{ℕ}
use mathlib.Core.Bool.{Bool, true, false}
use mathlib.Core.List.{List, []}
use native.Mathlib.Omega.{arith}
use Rattle.std.specs.Prelude.{Ok, Err, is_some}
use Rattle.definitions.specs.Basics.{when◌then◌otherwise◌}
use Rattle.definitions.specs.declared.Refused.{Refused}
use Rattle.definitions.specs.Refusals.{required_missing, no_value, unplaced}
use Rattle.definitions.specs.Refused.{refused_as}
use Rattle.definitions.specs.Scope.{in_message}
use Rattle.definitions.specs.Nodes.{node_at, run_of}
use Rattle.definitions.specs.Live.{meaning}
use Rattle.definitions.specs.Required.{complete, required_answer}
use Rattle.definitions.specs.Access.{is_value, value_answer, value_bytes}
use Rattle.message.specs.Value.{value_run, lent_run}
use Rattle.records.specs.declared.schema.Schema.{Schema}
use Rattle.text_format.specs.Answers.{table_barred, checked_of, valued_of}
use Rattle.text_format.specs.Opened.{Free}
use Rattle.text_format.proofs.Opened.{unbarred-is}

module _ (image : List ℕ) (root : ℕ) (w pool : List ℕ) {l : Schema} (f : Free image root w pool l) where
  pub required-complete : true ≡ complete image (in_message root) (meaning image root w pool) → Ok tt ≡ checked_of (required_answer image root w pool)
  unfolding required_answer table_barred
  required-complete h = simp (unbarred-is image root w pool f, sym h)

  pub required_lacks : {e : Refused} → e ≡ refused_as required_missing (unplaced 0) → false ≡ complete image (in_message root) (meaning image root w pool) → Err e ≡ checked_of (required_answer image root w pool)
  unfolding required_answer table_barred
  required_lacks q h = rw q (simp (unbarred-is image root w pool f, sym h))

  pub value-given : (i : ℕ) → is_some (value_run w i) ≡ true → Ok tt ≡ valued_of (value_answer image root w pool i)
  unfolding value_answer table_barred value_run
  value-given i h = go (is_value w i) refl
    where
      go : (b : Bool) → is_value w i ≡ b → Ok tt ≡ valued_of (value_answer image root w pool i)
      go true v = simp (unbarred-is image root w pool f, v)
      go false v = let k = rw v at h in cc

  pub value_lacks : {e : Refused} → e ≡ refused_as no_value (unplaced 0) → (i : ℕ) → is_some (value_run w i) ≡ false → Err e ≡ valued_of (value_answer image root w pool i)
  unfolding value_answer table_barred value_run
  value_lacks q i h = rw q (go (is_value w i) refl)
    where
      go : (b : Bool) → is_value w i ≡ b → Err (refused_as no_value (unplaced 0)) ≡ valued_of (value_answer image root w pool i)
      go true v = let k = rw v at h in cc
      go false v = simp (unbarred-is image root w pool f, v)

  pub bytes-lent : (i : ℕ) (r : List ℕ) → r ≡ lent_run w pool i → r ≡ value_bytes image root w pool i
  unfolding value_bytes value_answer table_barred lent_run
  bytes-lent i r h = h ∙ go (is_value w i) refl
    where
      go : (b : Bool) → is_value w i ≡ b → (when b then (λ _. run_of pool (node_at w i)) otherwise λ _. []) ≡ value_bytes image root w pool i
      go true v = sym (simp (unbarred-is image root w pool f, v))
      go false v = sym (simp (unbarred-is image root w pool f, v))
