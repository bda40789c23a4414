-- `spelling::strings::put_slashed` meets its contract.
use Rattle.spelling.proofs.Texts.{then-written}
use Rattle.spelling.proofs.strings.put_slashed.Goals as goal

pub returns : goal.returns
returns c = then-written c.put_byte-after.ensures c.put_byte.ensures
