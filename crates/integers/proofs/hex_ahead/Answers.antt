-- `integers::hex_ahead` meets its contract: fewer than two bytes, or the tests of both.
use Rattle.std.proofs.Common.{sym, arith}
use Rattle.integers.proofs.Digits.{ahead-short}
use Rattle.integers.proofs.hex_ahead.Goals as goal

pub returns-in_default-clause-test : goal.returns-in_default-clause-test
returns-in_default-clause-test c = sym (ahead-short c.args.s.now (omega arith))
