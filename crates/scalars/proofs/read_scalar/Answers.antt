-- `scalars::read_scalar` meets its contract: one reader for each kind of value.
use Rattle.leaves.proofs.Returns.{answers_by}
use Rattle.leaves.proofs.Steps.{scalar_signed, scalar_unsigned, scalar-bool, scalar-enum, scalar-string}
use Rattle.scalars.proofs.read_scalar.Goals as goal

pub returns-then-w-lt-U32 : goal.returns-then-w-lt-U32
returns-then-w-lt-U32 c = answers_by _ _ _ _ _ _ _ _ (scalar_signed _ _ _ _ c.requires.2.least c.if-w-lt-U32.true) (c.read_signed.ensures _)

pub returns-then-w-lt-BOOL : goal.returns-then-w-lt-BOOL
returns-then-w-lt-BOOL c = answers_by _ _ _ _ _ _ _ _ (scalar_unsigned _ _ _ _ c.if-w-lt-U32.false c.if-w-lt-BOOL.true) (c.read_unsigned.ensures _)

pub returns-then-w-eq-BOOL : goal.returns-then-w-eq-BOOL
returns-then-w-eq-BOOL c = answers_by _ _ _ _ _ _ _ _ (scalar-bool _ _ _ _ c.if-w-eq-BOOL.true) (c.read_bool.ensures _)

pub returns-then-w-eq-ENUM : goal.returns-then-w-eq-ENUM
returns-then-w-eq-ENUM c = answers_by _ _ _ _ _ _ _ _ (scalar-enum _ _ _ _ c.if-w-eq-ENUM.true) (c.read_enum.ensures _)

pub returns : goal.returns
returns c = answers_by _ _ _ _ _ _ _ _ (scalar-string _ _ _ _ c.if-w-lt-BOOL.false c.if-w-eq-BOOL.false c.if-w-eq-ENUM.false) c.read_string.ensures
