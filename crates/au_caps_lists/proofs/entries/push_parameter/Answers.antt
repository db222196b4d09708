use Rattle.std.proofs.Common.{◌≡◌, [], ◌∷◌, ◌++◌, sym, ap, subst, ◌∙◌}
use Rattle.std.specs.Prelude.{OnOk, if◌then◌else◌}
use Rattle.std.proofs.lemmas.List.{append-nil}
use Rattle.au_caps_text.specs.Views.{texts_in}
use Rattle.au_caps_lists.proofs.entries.push_parameter.Goals as goal

pub returns-then-may_stand : goal.returns-then-may_stand
returns-then-may_stand c =
    let start = texts_in c.args.made.now.items in
    let new = texts_in c.push_text.new.made.items in
    let name = c.args.name.now in
    subst (λ b. OnOk c.push_text.result (new ≡ start ++ (if b then name ∷ [] else [])))
    (sym c.if-may_stand.true ∙ c.may_stand.ensures)
    (subst (λ n. OnOk c.push_text.result (new ≡ start ++ n ∷ [])) c.as_bytes.ensures.bytes c.push_text.ensures)

pub returns : goal.returns
returns c =
    let start = texts_in c.args.made.now.items in
    let name = c.args.name.now in
    sym
    (ap (λ b. start ++ (if b then name ∷ [] else [])) (sym c.may_stand.ensures ∙ c.if-may_stand.false)
    ∙ append-nil start)
