-- `bits::load` meets its contract. The invariant: the bytes passed are one field.
use Rattle.std.proofs.Common.{◌≡◌, refl, sym, ◌∙◌, ℕ, ◌+◌, ◌-◌, ◌*◌, ◌<◌, List, length, take, drop, get_or, arith}
use Rattle.std.proofs.lemmas.Grind.{common_steps}
use Rattle.definitions.specs.Bits.{bits}
use Rattle.bits.proofs.BitLaws.{bits-more, bits_below}
use Rattle.bits.proofs.load.Goals as goal

-- a byte of the part is one of the whole
few : (s : List ℕ) (at n i : ℕ) → i < length (take (at + n - at) (drop at s)) → i < n
few s at n i h = grind (arith, common_steps)

byte-of : (s : List ℕ) (at n i : ℕ) → i < length (take (at + n - at) (drop at s)) → get_or (take (at + n - at) (drop at s)) i 0 ≡ get_or s (at + i) 0
byte-of s at n i h = grind (arith, common_steps)

pub loop-byte-init : goal.loop-byte-init
unfolding bits
loop-byte-init c = refl

pub overflow_mul-value : goal.overflow_mul-value
overflow_mul-value c = omega (arith, c.loop-byte.invariant, few c.args.s.now c.args.at c.args.count c.loop-byte.byte-index c.loop-byte-test.true, bits_below c.args.s.now (8 * c.args.at) (8 * c.loop-byte.byte-index) 56 (omega (arith, few c.args.s.now c.args.at c.args.count c.loop-byte.byte-index c.loop-byte-test.true)))

pub overflow_add-value : goal.overflow_add-value
overflow_add-value c =
    let l = few c.args.s.now c.args.at c.args.count c.loop-byte.byte-index c.loop-byte-test.true in
    let e = c.from.ensures ∙ byte-of c.args.s.now c.args.at c.args.count c.loop-byte.byte-index c.loop-byte-test.true in
    omega (arith, c.loop-byte.invariant, l, e, c.type_inv.s (c.args.at + c.loop-byte.byte-index), bits_below c.args.s.now (8 * c.args.at) (8 * c.loop-byte.byte-index) 56 (omega (arith, l)))

pub loop-byte-preserved : goal.loop-byte-preserved
loop-byte-preserved c =
    let i = c.loop-byte.byte-index in
    let e = c.from.ensures ∙ byte-of c.args.s.now c.args.at c.args.count i c.loop-byte-test.true in
    rw (e, c.loop-byte.invariant) (sym (bits-more c.args.s.now c.args.at i (c.type_inv.s (c.args.at + i)).fits))
