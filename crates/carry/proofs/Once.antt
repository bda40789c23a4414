-- No second answer fits: two answers of `carry`, each with what the buffer, the table and the pool hold afterwards, that both meet the contract
-- for the same arguments are equal, and so are the rooms. `Post` is the contract of src/lib.rt as the prover states it.
use mathlib.Core.Path.{◌≡◌}
use contract.Lifetimes.{Lfts}
use borrow.Fn.World.{ArgsD, ResD}
use borrow.Fn.Kinds.{ended_of}
use denote.Triple.Clauses.{AtExit}
use Rattle.laws.proofs.Once.{once}
use Rattle.carry.specs.contracts.carry as carry
use Rattle.carry.proofs.carry.Kinds as carry-kinds
use Rattle.carry.proofs.carry.Reads as carry-contract

pub carry-once :
    (κs : Lfts 7) (a : ArgsD carry.signature κs) (r q : ResD carry.signature κs) (s t : AtExit (ended_of 7 carry-kinds.ps carry-kinds.r) κs)
    → carry-contract.Post κs a r s → carry-contract.Post κs a q t
    → (r ≡ q) × (s.1.1.1.1.1.1.0.now ≡ t.1.1.1.1.1.1.0.now) × (s.1.1.1.1.1.1.1.0.now ≡ t.1.1.1.1.1.1.1.0.now)
    × (s.1.1.1.1.1.1.1.1.0.now ≡ t.1.1.1.1.1.1.1.1.0.now)
carry-once κs a r q s t x y =
    (once x.0 y.0, once x.1.0 y.1.0, once x.1.1.0 y.1.1.0, once x.1.1.1.0 y.1.1.1.0)
