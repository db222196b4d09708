-- At first nothing is laid out, and in the end the whole file is.
use Rattle.std.proofs.Common.{rules, sym, subst}
use Rattle.au_format.specs.Layout.{IsLayout}
use Rattle.au_format.proofs.LayingLemmas.{laid_begin, laid_end}
use Rattle.au_format.proofs.laying.lay_out.Goals as goal

pub loop-place-init : goal.loop-place-init
loop-place-init c = laid_begin c.args.file c.args.bytes.now c.args.tokens.now _ _ c.requires (search rules) (search rules)

pub returns : goal.returns
returns c =
    subst (IsLayout c.args.bytes.now) (sym c.in_ok-add_end.ensures)
    (laid_end c.args.bytes.now c.args.tokens.now c.loop-place.text.items c.loop-place.place c.loop-place.invariant
    c.loop-place-test.false)
