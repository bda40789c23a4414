-- `entries::defaults::default_bits` meets its contract: an empty run, the enum's first value, or 0.
use mathlib.Core.Path.{◌≡◌, ◌∙◌, refl}
use Prim.Native.Nat.{◌*◌, ◌%◌}
use native.Mathlib.Omega.{arith}
use Rattle.records.proofs.Accepted.{enum-inside, enum-filled}
use Rattle.leaves.proofs.Returns.{empty-run}
use Rattle.leaves.proofs.Steps.{default-run, default-enum, default-zero}
use Rattle.entries.proofs.defaults.default_bits.Goals as goal

pub returns-then-is_run : goal.returns-then-is_run
returns-then-is_run c = λ q h.
    let m : c.args.byte * 4294967296 % 18446744073709551616 ≡ q.byte * 4294967296 = omega (arith, h, c.requires.1) in
    default-run _ c.args.w q c.if-is_run.ensures ∙ empty-run c.args.w q q.at ∙ rw m refl

pub enumeration-e-requires : goal.enumeration-e-requires
enumeration-e-requires c = c.requires.0.enums c.if-w-eq-ENUM.true

pub member-m-requires : goal.member-m-requires
member-m-requires c =
    let e = c.requires.0.enums c.if-w-eq-ENUM.true in
    let g = c.args.schema.now.known.good in
    omega (arith, rw (← c.enumeration-e.ensures) at (enum-inside _ g _ e), rw (← c.enumeration-e.ensures) at (enum-filled _ g _ e))

pub returns-then-w-eq-ENUM : goal.returns-then-w-eq-ENUM
returns-then-w-eq-ENUM c = λ q h. default-enum _ c.args.w q c.if-is_run.ensures c.if-w-eq-ENUM.true ∙ rw (c.widened.ensures, c.member-m.ensures, c.enumeration-e.ensures) refl

pub returns : goal.returns
returns c = λ q h. default-zero _ c.args.w q c.if-is_run.ensures c.if-w-eq-ENUM.false
