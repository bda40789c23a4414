-- `hints::scene::walked` is safe and ends: the cursor behind a token is on its line, inside the text. Assumes nothing.
use Rattle.std.proofs.Common.{ℕ, List, length, ◌≤◌, ◌≡◌, refl, ap, arith}
use Rattle.std.specs.Prelude.{Ok}
use Rattle.definitions.specs.Refusals.{most_text}
use Rattle.definitions.specs.Tokens.{Scan, token, bad, scan}
use Rattle.definitions.specs.declared.Token.{Token}
use Rattle.laws.proofs.Reach.{reach}
use Rattle.lexer.specs.declared.tokens.Cursor.{Cursor}
use Rattle.lexer.specs.Steps.{Located, cursor_at, step_of}
use Rattle.lexer.proofs.Lines.{line-first}
use Rattle.hints.proofs.scene.walked.Goals as goal

located-behind : (s : List ℕ) (at : ℕ) (t : Token) (c : Cursor) → at ≤ length s → length s ≤ most_text
    → Ok (t, c) ≡ step_of s (scan s at) → Located s c
located-behind s at t c inside short e = go (scan s at) refl e
  where
    go : (r : Scan) → scan s at ≡ r → Ok (t, c) ≡ step_of s r → Located s c
    go (token u n) f e =
        let pair : ◌≡◌ {A = Token × Cursor} (t, c) (u, cursor_at s n) = cc in
        let k : c ≡ cursor_at s n = ap (λ (x : Token × Cursor). x.1) pair in
        rw k (record { inside = (reach s at u n inside f).within; short = short; line = refl })
    go (bad p) f e = cc

pub loop-init : goal.loop-init
loop-init c = record { inside = omega arith; short = c.requires; line = line-first _ }

pub loop-preserved : goal.loop-preserved
loop-preserved c = located-behind _ _ _ _ c.loop.invariant.inside c.loop.invariant.short c.in-Ok.ensures
