use Rattle.std.proofs.Common.{sym, ap, ◌∙◌}
use Rattle.au_types.specs.Views.{meaning}
use Rattle.au_matching.specs.Matched.{only_if}
use Rattle.au_matching.proofs.MatchedLemmas.{matched_makes, matched_least, matched_refused}
use Rattle.au_matching.proofs.matching.match_types.Goals as goal

pub returns-then-branch-clause-sound : goal.returns-then-branch-clause-sound
returns-then-branch-clause-sound c =
    let s = c.type_matched.new.s in
    matched_makes (meaning c.args.pattern.now) (meaning c.args.target.now) c.args.so_far s
    (sym c.in_ok-type_matched.ensures ∙ ap (λ fits. only_if fits s) c.if-branch.true)

pub returns-then-branch-clause-least : goal.returns-then-branch-clause-least
returns-then-branch-clause-least c = λ r h.
    let s = c.type_matched.new.s in
    matched_least (meaning c.args.pattern.now) (meaning c.args.target.now) c.args.so_far s r
    (sym c.in_ok-type_matched.ensures ∙ ap (λ fits. only_if fits s) c.if-branch.true) h

pub returns-else-branch-clause-refused : goal.returns-else-branch-clause-refused
returns-else-branch-clause-refused c = λ r h.
    let s = c.type_matched.new.s in
    matched_refused (meaning c.args.pattern.now) (meaning c.args.target.now) c.args.so_far r
    (sym c.in_ok-type_matched.ensures ∙ ap (λ fits. only_if fits s) c.if-branch.false) h
