use Rattle.std.proofs.Common.{sym, ◌∙◌}
use Rattle.au_types.specs.Views.{meaning, argument_all}
use Rattle.au_matching.proofs.WalkLemmas.{not_named, not_reads, not_writes, matched_unequal}
use Rattle.au_matching.proofs.matching.+type_matched.Goals as goal

pub named_matched-returns-in_default : goal.named_matched-returns-in_default
named_matched-returns-in_default t c =
    sym (not_named c.args.of (argument_all c.args.args.now.items) c.args.target.now c.args.s.now
    c.in_default.not-Named)

pub read_matched-returns-in_default : goal.read_matched-returns-in_default
read_matched-returns-in_default t c =
    sym (not_reads (meaning c.args.to.now) c.args.region.now c.args.target.now c.args.s.now
    c.in_default.not-Read)

pub write_matched-returns-in_default : goal.write_matched-returns-in_default
write_matched-returns-in_default t c =
    sym (not_writes (meaning c.args.to.now) c.args.region.now c.args.target.now c.args.s.now
    c.in_default.not-Write)

-- lists of two lengths
pub arguments_matched-returns-then-len : goal.arguments_matched-returns-then-len
arguments_matched-returns-then-len t c =
    let one = c.args.args.now in
    let other = c.args.others.now in
    sym (matched_unequal one.items other.items c.args.s.now
    (λ e. c.if-len.true (c.len.ensures ∙ one.ok.0 ∙ e ∙ sym other.ok.0 ∙ sym c.len-2.ensures)))
