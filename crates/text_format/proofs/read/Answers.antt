-- `text_format::read` meets its contract: barred by schema, root or length, or as the readers end.
use mathlib.Core.Path.{◌∙◌}
use Rattle.definitions.specs.Refusals.{text_too_long}
use Rattle.text_format.proofs.Opened.{passed_on, bars_read}
use Rattle.text_format.proofs.Ends.{ends-barred, bar-long, ends_read}
use Rattle.text_format.proofs.read.Goals as goal

pub returns-in_err-schema : goal.returns-in_err-schema
returns-in_err-schema c = let w = ends-barred _ _ c.args.text.now c.args.nodes.now c.args.pool.now (bars_read _ _ _ c.in_err-schema.ensures) in record { answer = passed_on _ _ c.from_residual.ensures.1 ∙ w.answer; table = w.table; bytes = w.bytes }

pub returns-then-text-gt-MOST_TEXT : goal.returns-then-text-gt-MOST_TEXT
returns-then-text-gt-MOST_TEXT c = let w = ends-barred c.args.image.now c.args.root c.args.text.now c.args.nodes.now c.args.pool.now (record { why = text_too_long; barring = bar-long _ _ _ c.args.nodes.now c.args.pool.now c.in_ok-schema.ensures c.if-text-gt-MOST_TEXT.true; answer = c.at.ensures }) in record { answer = w.answer; table = w.table; bytes = w.bytes }

pub read_text-requires : goal.read_text-requires
read_text-requires c = (rw c.in_ok-schema.ensures.same c.in_ok-schema.ensures.below, c.if-text-gt-MOST_TEXT.false)

pub returns : goal.returns
returns c = let w = ends_read _ _ _ _ _ c.in_ok-schema.ensures c.if-text-gt-MOST_TEXT.false _ _ _ (rw c.in_ok-schema.ensures.same at c.read_text.ensures.answer) (rw c.in_ok-schema.ensures.same at c.read_text.ensures.table) (rw c.in_ok-schema.ensures.same at c.read_text.ensures.bytes) in record { answer = w.answer; table = w.table; bytes = w.bytes }
