-- `strings::digits` meets its contract: of the bytes that are looked at, those at the front.
use Rattle.std.proofs.Common.{arith}
use Rattle.strings.proofs.Escaping.{few-taken}
use Rattle.strings.proofs.digits.Goals as goal

pub returns : goal.returns
returns g c = λ p h. few-taken p c.args.most _ _ c.args.raw.now (omega (arith, c.min-most.ensures)) (c.front-count.ensures.passed p h)
