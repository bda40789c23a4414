-- `carry::print_as` meets its contract: pretty where that is asked for, and else compact.
use mathlib.Core.Bool.{true, false}
use Rattle.carry.proofs.Printing.{styled}
use Rattle.carry.proofs.print_as.Goals as goal

pub returns-then-pretty : goal.returns-then-pretty
returns-then-pretty c =
    let w = styled true _ c.if-pretty.true _ _ _ _ _ _ _ (record { answer = c.print_pretty.ensures.answer; bytes = c.print_pretty.ensures.bytes }) in
    record { answer = w.answer; bytes = w.bytes }

pub returns : goal.returns
returns c =
    let w = styled false _ c.if-pretty.false _ _ _ _ _ _ _ (record { answer = c.print.ensures.answer; bytes = c.print.ensures.bytes }) in
    record { answer = w.answer; bytes = w.bytes }
