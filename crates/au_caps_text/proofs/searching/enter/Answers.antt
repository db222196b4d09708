use Rattle.std.proofs.Common.{ℕ, Bool, true, List, [], ◌∷◌, get_or, set, ap, sym, subst, ◌∙◌}
use Rattle.au_graphs.specs.Marks.{Entered}
use Rattle.au_graphs.proofs.SearchLemmas.{entered_new, entered_seen}
use Rattle.au_caps_text.proofs.searching.enter.Goals as goal

pub returns : goal.returns
returns c =
    let seen = c.args.seen.now.items in
    let work = c.args.work.now.items in
    let node = c.args.node in
    let new = sym (ap (λ (marks : List Bool). get_or marks node true) c.deref.ensures.value)
    ∙ sym c.is_marked.ensures.marked ∙ c.if-is_marked.false in
    subst (λ (list : List ℕ). Entered (node ∷ []) seen work (set seen node true) list)
    (sym c.in_ok-push.ensures.items) (entered_new seen work node new)

pub returns-then-is_marked : goal.returns-then-is_marked
returns-then-is_marked c =
    let node = c.args.node in
    let known = sym (ap (λ (marks : List Bool). get_or marks node true) c.deref.ensures.value)
    ∙ sym c.is_marked.ensures.marked ∙ c.if-is_marked.true in
    entered_seen c.args.seen.now.items c.args.work.now.items node known
