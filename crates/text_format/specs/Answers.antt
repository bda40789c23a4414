-- Document 01's numbers and values for each case of the entry points' answers.
use Rattle.std.specs.Prelude.{ℕ, List, Result, Ok, Err}
use Rattle.std.proofs.Math.Option.{Option}
use Rattle.definitions.specs.declared.Refused.{Refused}
use Rattle.definitions.specs.Refusals.{Answer, given, denied, bad_table}
use Rattle.definitions.specs.Refused.{refused_as}
use Rattle.definitions.specs.Validity.{valid}
use Rattle.definitions.specs.Calls.{barred}

unfoldable pub table_barred : (image : List ℕ) (root : ℕ) (w pool : List ℕ) → Option ℕ
table_barred image root w pool = barred image root (λ _. valid image root w pool) bad_table

abbrev pub printed_of : Answer ℕ → Result ℕ Refused
printed_of (given n) = Ok n
printed_of (denied why at) = Err (refused_as why at)

abbrev pub checked_of : Answer (Unit {0}) → Result (Unit {0}) Refused
checked_of (given u) = Ok tt
checked_of (denied why at) = Err (refused_as why at)

abbrev pub valued_of : Answer (List ℕ) → Result (Unit {0}) Refused
valued_of (given bs) = Ok tt
valued_of (denied why at) = Err (refused_as why at)
