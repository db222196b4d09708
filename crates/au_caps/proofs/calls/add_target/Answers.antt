use Rattle.std.proofs.Common.{◌≡◌, ◌++◌, map, sym, ap, subst, ◌∙◌}
use Rattle.std.specs.Prelude.{OnOk}
use Rattle.std.proofs.lemmas.List.{append-nil}
use Rattle.au_modules.specs.Slots as slots
use Rattle.au_sights.specs.Views.{note}
use Rattle.au_caps.specs.Calls.{standing_leads}
use Rattle.au_caps.specs.Views.{callee_said}
use Rattle.au_caps.proofs.calls.add_target.Goals as goal

pub returns-in-None : goal.returns-in-None
returns-in-None c =
    let program = slots.modules c.args.program.now in
    let start = map callee_said c.args.found.now.items in
    sym
    (ap (λ o. start ++ standing_leads program (note c.args.of.now) c.args.target.now o)
    (sym c.in-None.ensures)
    ∙ append-nil start)

pub returns-in-Some : goal.returns-in-Some
returns-in-Some c =
    let program = slots.modules c.args.program.now in
    let start = map callee_said c.args.found.now.items in
    subst (λ o. OnOk c.add_declared.result (map callee_said c.add_declared.new.found.items
    ≡ start ++ standing_leads program (note c.args.of.now) c.args.target.now o)) c.in-Some.ensures
    c.add_declared.ensures
