use Rattle.std.proofs.Common.{arith}
use Rattle.au_syntax.specs.Views.{written, written_all}
use Rattle.au_syntax.proofs.TypeLemmas.{snoc_types, named_written, reference_written, written_push}
use Rattle.au_mapping.proofs.WalkLemmas.{all_walked, walked_more}
use Rattle.au_mapping.proofs.types.+copy_type.Goals as goal

pub copy_type-returns-in_ok-arguments-in-Named : goal.copy_type-returns-in_ok-arguments-in-Named
copy_type-returns-in_ok-arguments-in-Named t c = grind (arith, named_written)

pub copy_type-returns-in_ok-region-in-Reference : goal.copy_type-returns-in_ok-region-in-Reference
copy_type-returns-in_ok-region-in-Reference t c = grind (arith, reference_written)

pub copy_types-loop-one-preserved : goal.copy_types-loop-one-preserved
copy_types-loop-one-preserved t c =
    walked_more written_all written_all snoc_types written written written_push written_push
    c.loop-one.copies.items c.push.new.self.items c.deref-one-items.result.now c.loop-one.one-index
    c.one-item.result c.in_ok-copy.copy
    c.loop-one.invariant c.loop-one-test.true c.one-item.is c.in_ok-push.ensures.items c.in_ok-copy.ensures

pub copy_types-returns : goal.copy_types-returns
copy_types-returns t c =
    all_walked written_all written_all c.loop-one.copies.items c.deref-one-items.result.now
    c.args.types.now.items c.loop-one.one-index
    c.loop-one.invariant c.deref-one-items.ensures.value c.loop-one-test.false
