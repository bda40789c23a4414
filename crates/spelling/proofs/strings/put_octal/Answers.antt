-- `spelling::strings::put_octal` meets its contract.
use Rattle.spelling.proofs.Texts.{then-written}
use Rattle.spelling.proofs.strings.put_octal.Goals as goal

pub returns : goal.returns
returns c = then-written (then-written (then-written c.put_byte-first.ensures c.put_byte-second.ensures) c.put_byte-third.ensures) c.put_byte.ensures
