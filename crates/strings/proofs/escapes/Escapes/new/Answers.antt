-- `strings::escapes::Escapes::new` keeps the type's word: the constant is the definitions' table, row by row.
use Rattle.std.proofs.Common.{refl}
use Rattle.definitions.specs.Strings.{escapes}
use Rattle.strings.proofs.escapes.Escapes.new.Goals as goal

pub invariant_of-result : goal.invariant_of-result
unfolding escapes
invariant_of-result c = record { kept = refl }
