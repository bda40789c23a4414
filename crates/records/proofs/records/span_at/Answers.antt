-- `records::records::span_at` meets its contract, field by field.
use mathlib.Core.Path.{refl}
use Rattle.bits.proofs.BitLaws.{bits-first}
use Rattle.records.proofs.records.span_at.Goals as goal

pub returns : goal.returns
returns c =
    let s = c.args.image.now in
    let at = c.args.at in
    cc (
      bits-first s at 0 12 12 24 refl c.load-word.ensures c.cut.ensures,
      bits-first s at 12 12 0 24 refl c.load-word.ensures c.cut-2.ensures,
    )
