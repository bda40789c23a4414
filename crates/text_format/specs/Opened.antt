-- What a call knows once nothing bars it, and what bars it.
use Rattle.std.specs.Prelude.{ℕ, ◌≡◌, ◌<◌, true, List}
use Rattle.std.proofs.Math.Option.{Option, some}
use Rattle.definitions.specs.declared.Refused.{Refused}
use Rattle.definitions.specs.Refusals.{unplaced}
use Rattle.definitions.specs.Refused.{refused_as}
use Rattle.definitions.specs.Image.{accepted, message_count}
use Rattle.definitions.specs.Validity.{valid}
use Rattle.definitions.specs.Calls.{barred}
use Rattle.records.specs.declared.schema.Schema.{Schema}

-- what bars every call
unfoldable pub root_barred : (image : List ℕ) (root : ℕ) → Option ℕ
root_barred image root = barred image root (λ _. true) 0

-- a refusal before the call itself asks for anything: it has no place
pub record Barred (bar : Option ℕ) (e : Refused) : Type 0 where
  pub why : ℕ
  pub barring : bar ≡ some why
  pub answer : e ≡ refused_as why (unplaced 0)

-- a schema of the image, which has such a message
pub record Rooted (image : List ℕ) (root : ℕ) (s : Schema) : Type 0 where
  pub same : s.image.now ≡ image
  pub good : accepted image ≡ true
  pub below : root < message_count image

-- and the table is valid
pub record Free (image : List ℕ) (root : ℕ) (w pool : List ℕ) (s : Schema) : Type 0 where
  pub rooted : Rooted image root s
  pub valued : valid image root w pool ≡ true
