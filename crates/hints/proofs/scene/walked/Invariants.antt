-- `hints::scene::walked` is safe and ends: the cursor stays on its line. Assumes nothing.
use Rattle.lexer.specs.Steps.{Located}
use Rattle.hints.proofs.scene.walked.Given as goal

abbrev pub invariant-loop : goal.invariant-loop
invariant-loop l = Located l.text l.next
