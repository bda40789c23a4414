-- `bits::load` meets its contract. The invariant: the bytes passed are one field.
use Rattle.std.proofs.Common.{◌≡◌, ◌*◌}
use Rattle.definitions.specs.Bits.{bits}
use Rattle.bits.proofs.load.Given as goal

abbrev pub invariant-loop-byte : goal.invariant-loop-byte
invariant-loop-byte l = l.value ≡ bits l.fn.s (8 * l.at) (8 * l.byte-index)
