-- `records::records::field_at` meets its contract, field by field.
use mathlib.Core.Path.{refl}
use Prim.Native.Nat.{◌+◌}
use native.Mathlib.Omega.{arith}
use Rattle.bits.proofs.BitLaws.{bits-first, bits-loaded}
use Rattle.records.proofs.records.field_at.Goals as goal

pub returns : goal.returns
returns c =
    let s = c.args.image.now in
    let at = c.args.at in
    cc (
      bits-first s at 0 16 48 64 refl c.load-word.ensures c.cut.ensures,
      bits-first s at 16 6 42 64 refl c.load-word.ensures c.cut-2.ensures,
      bits-first s at 22 29 13 64 refl c.load-word.ensures c.cut-3.ensures,
      bits-first s at 51 2 11 64 refl c.load-word.ensures c.cut-4.ensures,
      bits-first s at 53 4 7 64 refl c.load-word.ensures c.cut-5.ensures,
      bits-first s at 57 4 3 64 refl c.load-word.ensures c.cut-6.ensures,
      bits-loaded s at (at + 7) 5 8 3 16 56 refl (omega arith) c.load.ensures c.cut-7.ensures,
    )
