-- `fields::labels::do_indent` meets its contract. The invariant: the levels passed are written.
use Rattle.definitions.specs.Print.{indent}
use Rattle.spelling.specs.Written.{Written}
use Rattle.fields.proofs.labels.do_indent.Given as goal

abbrev pub invariant-loop-level : goal.invariant-loop-level
invariant-loop-level l = Written l.initial.buffer l.at (indent l._level) l.buffer l.after
