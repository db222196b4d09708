use Rattle.std.proofs.Common.{subst, sym}
use Rattle.au_cprint.specs.Told.{IsToldInstruction}
use Rattle.au_told.specs.Names.{IsPlainInstruction}
use Rattle.au_told.proofs.ToldLemmas.{all_index, all_more, all_taken}
use Rattle.au_told.proofs.codes.instructions_are_told.Goals as goal

pub loop-one-preserved : goal.loop-one-preserved
loop-one-preserved c =
    λ plain. all_more IsToldInstruction c.args.all.now c.loop-one.one-index c.one-item.result c.one-item.is
    c.loop-one-test.true (c.loop-one.invariant plain)
    (c.instruction_is_told.ensures
    (subst IsPlainInstruction (sym c.one-item.is)
    (all_index IsPlainInstruction c.args.all.now c.loop-one.one-index c.one-item.result c.loop-one-test.true
    plain)))

pub returns : goal.returns
returns c =
    λ plain. all_taken IsToldInstruction c.args.all.now c.loop-one.one-index c.loop-one-test.false
    (c.loop-one.invariant plain)
