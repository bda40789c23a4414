-- `lexer::classes::ClassTable::new` keeps the type's word: the constant is the definitions' table.
use mathlib.Core.Path.{refl}
use Rattle.definitions.specs.Classes.{classes}
use Rattle.lexer.proofs.classes.ClassTable.new.Goals as goal

pub invariant_of-result : goal.invariant_of-result
unfolding classes
invariant_of-result c = record { kept = refl }
