-- No second answer fits. Of each entry point: two answers, each with what the lent rooms hold afterwards, that both meet the contract for the
-- same arguments are equal, and so are the rooms. `Post` is the contract of src/lib.rt as the prover states it, so nothing is said here that
-- the contract does not say; each is one law, since the contract is an equation for the answer and for every lent room.
use mathlib.Core.Path.{◌≡◌}
use contract.Lifetimes.{Lfts}
use borrow.Fn.World.{ArgsD, ResD}
use borrow.Fn.Kinds.{ended_of}
use denote.Triple.Clauses.{AtExit}
use Rattle.laws.proofs.Once.{once}
use Rattle.text_format.specs.contracts.read as read
use Rattle.text_format.proofs.read.Kinds as read-kinds
use Rattle.text_format.proofs.read.Reads as read-contract
use Rattle.text_format.specs.contracts.print as print
use Rattle.text_format.proofs.print.Kinds as print-kinds
use Rattle.text_format.proofs.print.Reads as print-contract
use Rattle.text_format.specs.contracts.print_pretty as print-pretty
use Rattle.text_format.proofs.print_pretty.Kinds as print-pretty-kinds
use Rattle.text_format.proofs.print_pretty.Reads as print-pretty-contract
use Rattle.text_format.specs.contracts.print_styled as print-styled
use Rattle.text_format.proofs.print_styled.Kinds as print-styled-kinds
use Rattle.text_format.proofs.print_styled.Reads as print-styled-contract
use Rattle.text_format.specs.contracts.check_required as check-required
use Rattle.text_format.proofs.check_required.Kinds as check-required-kinds
use Rattle.text_format.proofs.check_required.Reads as check-required-contract
use Rattle.text_format.specs.contracts.value_number as value-number
use Rattle.text_format.proofs.value_number.Kinds as value-number-kinds
use Rattle.text_format.proofs.value_number.Reads as value-number-contract
use Rattle.text_format.specs.contracts.value_bytes as value-bytes
use Rattle.text_format.proofs.value_bytes.Kinds as value-bytes-kinds
use Rattle.text_format.proofs.value_bytes.Reads as value-bytes-contract

pub read-once :
    (κs : Lfts 4) (a : ArgsD read.signature κs) (r q : ResD read.signature κs) (s t : AtExit (ended_of 4 read-kinds.ps read-kinds.r) κs)
    → read-contract.Post κs a r s → read-contract.Post κs a q t → (r ≡ q) × (s.1.1.1.0.now ≡ t.1.1.1.0.now) × (s.1.1.1.1.0.now ≡ t.1.1.1.1.0.now)
read-once κs a r q s t x y = (once x.0 y.0, once x.1.0 y.1.0, once x.1.1 y.1.1)

pub print-once :
    (κs : Lfts 4) (a : ArgsD print.signature κs) (r q : ResD print.signature κs) (s t : AtExit (ended_of 4 print-kinds.ps print-kinds.r) κs)
    → print-contract.Post κs a r s → print-contract.Post κs a q t → (r ≡ q) × (s.1.1.1.1.0.now ≡ t.1.1.1.1.0.now)
print-once κs a r q s t x y = (once x.0 y.0, once x.1 y.1)

pub print-pretty-once :
    (κs : Lfts 4) (a : ArgsD print-pretty.signature κs) (r q : ResD print-pretty.signature κs) (s t : AtExit (ended_of 4 print-pretty-kinds.ps print-pretty-kinds.r) κs)
    → print-pretty-contract.Post κs a r s → print-pretty-contract.Post κs a q t → (r ≡ q) × (s.1.1.1.1.0.now ≡ t.1.1.1.1.0.now)
print-pretty-once κs a r q s t x y = (once x.0 y.0, once x.1 y.1)

pub print-styled-once :
    (κs : Lfts 4) (a : ArgsD print-styled.signature κs) (r q : ResD print-styled.signature κs) (s t : AtExit (ended_of 4 print-styled-kinds.ps print-styled-kinds.r) κs)
    → print-styled-contract.Post κs a r s → print-styled-contract.Post κs a q t → (r ≡ q) × (s.1.1.1.1.1.0.now ≡ t.1.1.1.1.1.0.now)
print-styled-once κs a r q s t x y = (once x.0 y.0, once x.1 y.1)

pub check-required-once :
    (κs : Lfts 3) (a : ArgsD check-required.signature κs) (r q : ResD check-required.signature κs) (s t : AtExit (ended_of 3 check-required-kinds.ps check-required-kinds.r) κs)
    → check-required-contract.Post κs a r s → check-required-contract.Post κs a q t → (r ≡ q)
check-required-once κs a r q s t x y = once x y

pub value-number-once :
    (κs : Lfts 3) (a : ArgsD value-number.signature κs) (r q : ResD value-number.signature κs) (s t : AtExit (ended_of 3 value-number-kinds.ps value-number-kinds.r) κs)
    → value-number-contract.Post κs a r s → value-number-contract.Post κs a q t → (r ≡ q)
value-number-once κs a r q s t x y = once x y

pub value-bytes-once :
    (κs : Lfts 3) (a : ArgsD value-bytes.signature κs) (r q : ResD value-bytes.signature κs) (s t : AtExit (ended_of 3 value-bytes-kinds.ps value-bytes-kinds.r) κs)
    → value-bytes-contract.Post κs a r s → value-bytes-contract.Post κs a q t → (r.now ≡ q.now)
value-bytes-once κs a r q s t x y = once x y
