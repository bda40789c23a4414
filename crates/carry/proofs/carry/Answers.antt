-- `carry::carry` meets its contract: the print is refused, or its text is read.
use mathlib.Core.Path.{sym, ap, ◌∙◌}
use lib.Seq.{length-take-le}
use Rattle.std.specs.Prelude.{Err}
use Rattle.fields.specs.Fields.{style_of}
use Rattle.text_format.proofs.Opened.{passed_on}
use Rattle.carry.proofs.Carrying.{printed-refused, printed_made, promised, ends-refused, ends_read, length-fits}
use Rattle.carry.proofs.carry.Goals as goal

pub returns-in_err-n : goal.returns-in_err-n
returns-in_err-n c =
    let x = printed-refused c.print_as.result c.map_err.result _ c.map_err.ensures.cases c.in_err-n.was in
    let w = promised c.args.newer.now c.args.older.now (style_of c.args.pretty) c.args.root c.args.nodes.now c.args.pool.now c.args.buffer.now c.args.into.now c.args.bytes.now _ _ _ _ (λ i. (c.type_inv.nodes i).fits) (λ i. (c.type_inv.pool i).fits) (ends-refused c.args.newer.now c.args.older.now (style_of c.args.pretty) c.args.root c.args.nodes.now c.args.pool.now c.args.buffer.now c.args.into.now c.args.bytes.now c.print_as.result c.print_as.ensures.answer c.print_as.new.buffer c.print_as.ensures.bytes _ x.1.0) in
    let e = passed_on c.from_residual.result _ c.from_residual.ensures.1 ∙ ap Err x.1.1 in
    record { answer = e ∙ w.0; buffer = w.1.0; into = w.1.1.0; bytes = w.1.1.1.0; demand = rw e w.1.1.1.1 }

pub slice_bounds-read-end : goal.slice_bounds-read-end
slice_bounds-read-end c = length-fits c.args.newer.now c.args.older.now (style_of c.args.pretty) c.args.root c.args.nodes.now c.args.pool.now c.args.buffer.now c.args.into.now c.args.bytes.now c.print_as.result c.print_as.ensures.answer c.print_as.new.buffer c.print_as.ensures.bytes _ (printed_made c.print_as.result c.map_err.result _ c.map_err.ensures.cases c.in_ok-n.was)

pub slice_bounds-read-end-2 : goal.slice_bounds-read-end-2
slice_bounds-read-end-2 c = sym (length-take-le _ _ (length-fits c.args.newer.now c.args.older.now (style_of c.args.pretty) c.args.root c.args.nodes.now c.args.pool.now c.args.buffer.now c.args.into.now c.args.bytes.now c.print_as.result c.print_as.ensures.answer c.print_as.new.buffer c.print_as.ensures.bytes _ (printed_made c.print_as.result c.map_err.result _ c.map_err.ensures.cases c.in_ok-n.was)))

pub returns : goal.returns
returns c =
    let w = promised c.args.newer.now c.args.older.now (style_of c.args.pretty) c.args.root c.args.nodes.now c.args.pool.now c.args.buffer.now c.args.into.now c.args.bytes.now _ _ _ _ (λ i. (c.type_inv.nodes i).fits) (λ i. (c.type_inv.pool i).fits) (ends_read c.args.newer.now c.args.older.now (style_of c.args.pretty) c.args.root c.args.nodes.now c.args.pool.now c.args.buffer.now c.args.into.now c.args.bytes.now c.print_as.result c.print_as.ensures.answer c.print_as.new.buffer c.print_as.ensures.bytes _ (printed_made c.print_as.result c.map_err.result _ c.map_err.ensures.cases c.in_ok-n.was) c.read.result _ _ c.read.ensures.answer c.read.ensures.table c.read.ensures.bytes _ c.map_err-2.ensures.cases) in
    record { answer = w.0; buffer = w.1.0; into = w.1.1.0; bytes = w.1.1.1.0; demand = w.1.1.1.1 }
