-- `spelling::strings::quote_byte_to` meets its contract.
use mathlib.Core.Path.{sym}
use native.Mathlib.Omega.{arith}
use mathlib.Core.Logic.{inl, inr}
use Rattle.spelling.proofs.Texts.{as_written, as_room}
use Rattle.spelling.proofs.ValueLaws.{quote-newline, quote-return, quote-tab, quote-self, quote-plain, quote-octal}
use Rattle.spelling.proofs.strings.quote_byte_to.Goals as goal
use Rattle.spelling.proofs.strings.quote_byte_to.Goals.{in_default-via-then-byte-lt32, in_default-via-else-byte-lt32+else-byte-lt127}

pub put_slashed-requires : goal.put_slashed-requires
put_slashed-requires c = as_room (quote-newline _ c.in-10.is) c.requires

pub put_slashed-requires-in-13 : goal.put_slashed-requires-in-13
put_slashed-requires-in-13 c = as_room (quote-return _ c.in-13.is) c.requires

pub put_slashed-requires-in-9 : goal.put_slashed-requires-in-9
put_slashed-requires-in-9 c = as_room (quote-tab _ c.in-9.is) c.requires

pub put_slashed-requires-in-34 : goal.put_slashed-requires-in-34
put_slashed-requires-in-34 c = as_room (quote-self _ c.in-34.is) c.requires

pub put_byte-requires : goal.put_byte-requires
put_byte-requires c = as_room (quote-plain _ c.in-32-to-126.in_default-own.rest.0.0.0.1 c.in-32-to-126.in_default-own.rest.0.0.1 c.in-32-to-126.in_default-own.rest.0.1 c.in-32-to-126.in_default-own.rest.1 (omega arith) (omega arith)) c.requires

pub put_octal-requires : goal.put_octal-requires
put_octal-requires c = elim c.in_default.branch [
  | in_default-via-then-byte-lt32 w ↦ as_room (quote-octal _ c.in_default-1.rest.0.0.0.1 c.in_default-1.rest.0.0.1 c.in_default-1.rest.0.1 c.in_default-1.rest.1 (inl (omega arith))) c.requires
  | in_default-via-else-byte-lt32+else-byte-lt127 w ↦ as_room (quote-octal _ c.in_default-1.rest.0.0.0.1 c.in_default-1.rest.0.0.1 c.in_default-1.rest.0.1 c.in_default-1.rest.1 (inr (omega arith))) c.requires
]

pub returns-in-10 : goal.returns-in-10
returns-in-10 c = as_written (sym (quote-newline _ c.in-10.is)) c.put_slashed.ensures

pub returns-in-13 : goal.returns-in-13
returns-in-13 c = as_written (sym (quote-return _ c.in-13.is)) c.put_slashed-in-13.ensures

pub returns-in-9 : goal.returns-in-9
returns-in-9 c = as_written (sym (quote-tab _ c.in-9.is)) c.put_slashed-in-9.ensures

pub returns-in-34 : goal.returns-in-34
returns-in-34 c = as_written (sym (quote-self _ c.in-34.is)) c.put_slashed-in-34.ensures

pub returns-in-32-to-126 : goal.returns-in-32-to-126
returns-in-32-to-126 c = as_written (sym (quote-plain _ c.in-32-to-126.in_default-own.rest.0.0.0.1 c.in-32-to-126.in_default-own.rest.0.0.1 c.in-32-to-126.in_default-own.rest.0.1 c.in-32-to-126.in_default-own.rest.1 (omega arith) (omega arith))) c.put_byte.ensures

pub returns-in_default : goal.returns-in_default
returns-in_default c = elim c.in_default.branch [
  | in_default-via-then-byte-lt32 w ↦ as_written (sym (quote-octal _ c.in_default-1.rest.0.0.0.1 c.in_default-1.rest.0.0.1 c.in_default-1.rest.0.1 c.in_default-1.rest.1 (inl (omega arith)))) c.put_octal.ensures
  | in_default-via-else-byte-lt32+else-byte-lt127 w ↦ as_written (sym (quote-octal _ c.in_default-1.rest.0.0.0.1 c.in_default-1.rest.0.0.1 c.in_default-1.rest.0.1 c.in_default-1.rest.1 (inr (omega arith)))) c.put_octal.ensures
]
