use Rattle.std.proofs.Common.{◌+◌, ◌-◌, ◌++◌, ◌∙◌, ap}
use Rattle.au_format.specs.Gaps.{indent}
use Rattle.au_format.proofs.GapLemmas.{indent_more}
use Rattle.au_format.proofs.adding.add_indent.Goals as goal

pub loop-preserved : goal.loop-preserved
loop-preserved c =
    ap (λ t. t ++ indent (c.args.levels - (c.loop.counter + 1))) c.in_ok-add.ensures
    ∙ indent_more c.loop.text.items (c.args.text.now.items ++ indent c.args.levels) c.args.levels c.loop.counter
    c.loop-test.true c.loop.invariant
