use Rattle.std.proofs.Common.{arith}
use Rattle.au_syntax.specs.Views.{written, written_all}
use Rattle.au_syntax.proofs.TypeLemmas.{snoc_types, named_written, reference_written, written_push}
use Rattle.au_sights.proofs.CopyLemmas.{all_copied, copied_more}
use Rattle.au_sights.proofs.texts.+copy_text.Goals as goal

pub copy_text_of_type-returns-in_ok-arguments-in-Named : goal.copy_text_of_type-returns-in_ok-arguments-in-Named
copy_text_of_type-returns-in_ok-arguments-in-Named t c = grind (arith, named_written)

pub copy_text_of_type-returns-in_ok-region-in-Reference : goal.copy_text_of_type-returns-in_ok-region-in-Reference
copy_text_of_type-returns-in_ok-region-in-Reference t c = grind (arith, reference_written)

pub copy_texts-loop-one-preserved : goal.copy_texts-loop-one-preserved
copy_texts-loop-one-preserved t c =
    copied_more written_all snoc_types written written_push c.loop-one.copies.items c.push.new.self.items
    c.deref-one-items.result.now c.loop-one.one-index c.one-item.result c.in_ok-copy.copy
    c.loop-one.invariant c.loop-one-test.true c.one-item.is c.in_ok-push.ensures.items c.in_ok-copy.ensures

pub copy_texts-returns : goal.copy_texts-returns
copy_texts-returns t c =
    all_copied written_all c.loop-one.copies.items c.deref-one-items.result.now c.args.types.now.items
    c.loop-one.one-index
    c.loop-one.invariant c.deref-one-items.ensures.value c.loop-one-test.false
