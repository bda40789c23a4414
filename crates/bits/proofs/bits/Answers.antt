-- `bits::bits` meets its contract: the field is cut out of the bytes that hold it.
use mathlib.Core.Path.{◌∙◌, ap}
use Prim.Native.Nat.{ℕ, ◌+◌, ◌*◌, ◌/◌, ◌%◌, ◌-◌, ◌^◌}
use native.Mathlib.Omega.{arith}
use Rattle.bits.proofs.BitLaws.{bits-within}
use Rattle.bits.proofs.bits.Goals as goal

pub returns : goal.returns
returns c =
    let s = c.args.s.now in
    let at = c.args.at in
    let w = c.args.width in
    let n = 8 * ((at % 8 + w + 7) / 8) in
    let t = n - at % 8 - w in
    c.cut.ensures ∙ ap (λ (v : ℕ). v / 2 ^ t % 2 ^ w) c.load.ensures ∙ bits-within s (8 * (at / 8)) (at % 8) w t n at (omega arith) (omega arith)
