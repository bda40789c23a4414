-- `records::records::field_zero` meets its contract: the lowest bits of the record's last byte.
use mathlib.Core.Path.{refl}
use Prim.Native.Nat.{◌+◌}
use native.Mathlib.Omega.{arith}
use Rattle.bits.proofs.BitLaws.{bits-loaded}
use Rattle.records.proofs.records.field_zero.Goals as goal

pub returns : goal.returns
returns c = bits-loaded c.args.image.now c.args.at (c.args.at + 8) 5 3 0 8 64 refl (omega arith) c.load.ensures c.cut.ensures
