-- `spelling::strings::print_str_to` meets its contract. The invariant: the quote and the bytes passed are written.
use Prim.Native.Nat.{◌≤◌}
use lib.ListN.{length, take}
use Rattle.definitions.specs.Print.{quote_bytes}
use Rattle.spelling.specs.Written.{Written}
use Rattle.spelling.proofs.strings.print_str_to.Given as goal

abbrev pub invariant-loop-b : goal.invariant-loop-b
invariant-loop-b l = (l.b-index ≤ length l.s) × Written l.initial.buffer l.initial.after (quote_bytes (take l.b-index l.s)) l.buffer l.after
