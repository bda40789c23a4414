-- `lexer::classes::ClassTable::class` meets its contract: a byte lies inside the table, which keeps the rule.
use mathlib.Core.Path.{◌≡◌, ◌∙◌, ap}
use Prim.Native.Nat.{ℕ}
use native.Mathlib.Omega.{arith}
use lib.ListN.{get_or}
use Rattle.definitions.specs.Classes.{class}
use Rattle.laws.proofs.ClassTable.{class-rule}
use Rattle.lexer.proofs.Table.{class-read}
use Rattle.lexer.proofs.classes.ClassTable.class.Goals as goal

pub returns : goal.returns
returns c =
    let read : get_or c.args.self.now.table c.from.result 0 ≡ class c.args.b =
    ap (λ (b : ℕ). get_or c.args.self.now.table b 0) c.from.ensures ∙ class-read c.args.self.now.table c.args.b c.args.self.now.kept (omega arith) in
    (read, read ∙ class-rule c.args.b (omega arith))
