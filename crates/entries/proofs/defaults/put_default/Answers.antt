-- `entries::defaults::put_default` meets its contract.
use mathlib.Core.Path.{refl}
use Rattle.leaves.proofs.Returns.{answers_by}
use Rattle.entries.proofs.defaults.put_default.Goals as goal

pub returns : goal.returns
returns c = λ s g f. answers_by _ _ _ _ _ _ _ _ (c.default_bits-bits.ensures c.args.here.spot refl) (rw c.cursor.ensures at (c.put_number.ensures s (rw c.cursor.ensures g) f))
