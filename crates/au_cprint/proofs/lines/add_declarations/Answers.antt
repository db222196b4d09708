use Rattle.std.proofs.Common.{ap, ◌++◌, ◌∙◌}
use Rattle.au_cprint.specs.Programs.{declare_line}
use Rattle.au_cprint.proofs.NumberedLemmas.{line_put, lines_end}
use Rattle.au_cprint.proofs.lines.add_declarations.Goals as goal

pub loop-index-preserved : goal.loop-index-preserved
loop-index-preserved c =
    line_put declare_line c.args.all.now c.loop-index.index c.index-all-index.result c.index-all-index.is
    c.loop-index-test.true c.args.text.now.items c.loop-index.text.items c.add_number_line.new.text.items
    c.loop-index.invariant (c.in_ok-add_number_line.ensures)

pub returns : goal.returns
returns c =
    lines_end declare_line c.args.all.now c.loop-index.index c.loop-index-test.false c.args.text.now.items
    c.loop-index.text.items c.loop-index.invariant
