use Rattle.std.proofs.Common.{sym, ◌∙◌}
use Rattle.au_type_texts.specs.Views.{closed_meaning, closed_meanings}
use Rattle.au_type_texts.proofs.SameLemmas.{not_named, not_reads, not_writes, same_unequal}
use Rattle.au_type_texts.proofs.comparing.+same_closed.Goals as goal

pub is_named-returns-in_default : goal.is_named-returns-in_default
is_named-returns-in_default t c =
    sym (not_named c.args.at (closed_meanings c.args.args.now.items) c.args.of.now c.in_default.not-Named)

pub is_read-returns-in_default : goal.is_read-returns-in_default
is_read-returns-in_default t c = sym (not_reads (closed_meaning c.args.to.now) c.args.of.now c.in_default.not-Read)

pub is_write-returns-in_default : goal.is_write-returns-in_default
is_write-returns-in_default t c = sym (not_writes (closed_meaning c.args.to.now) c.args.of.now c.in_default.not-Write)

-- lists of two lengths
pub same_lists-returns-then-len : goal.same_lists-returns-then-len
same_lists-returns-then-len t c =
    let one = c.args.list.now in
    let other = c.args.others.now in
    sym (same_unequal one.items other.items
    (λ e. c.if-len.true (c.len.ensures ∙ one.ok.0 ∙ e ∙ sym other.ok.0 ∙ sym c.len-2.ensures)))
