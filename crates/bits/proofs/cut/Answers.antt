-- `bits::cut` meets its contract: the mask of `width` ones takes the remainder by its power of two.
use Rattle.std.proofs.Common.{◌∙◌, ap, ℕ, ◌/◌, ◌-◌, ◌^◌}
use lib.Bits.{bit_and, and_mask}
use Rattle.bits.proofs.BitLaws.{one_shifted}
use Rattle.bits.proofs.cut.Goals as goal

pub returns : goal.returns
returns c = ap (λ (m : ℕ). bit_and (c.args.value / 2 ^ c.args.right) (m - 1)) (one_shifted c.args.width c.requires.1) ∙ and_mask (c.args.value / 2 ^ c.args.right) c.args.width
