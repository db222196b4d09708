use Rattle.std.proofs.Common.{◌≡◌, ◌++◌, map, subst}
use Rattle.std.specs.Prelude.{OnOk}
use Rattle.au_caps.specs.Calls.{method_leads}
use Rattle.au_caps.specs.Views.{callee_said}
use Rattle.au_caps.proofs.calls.add_method.Goals as goal

pub returns-in-None : goal.returns-in-None
returns-in-None c =
    subst (λ o. OnOk c.add_every.result (map callee_said c.add_every.new.found.items
    ≡ map callee_said c.args.found.now.items ++ method_leads c.args.target.now o)) c.in-None.ensures
    c.add_every.ensures

pub returns-in-Some : goal.returns-in-Some
returns-in-Some c =
    subst (λ o. OnOk c.add_instance.result (map callee_said c.add_instance.new.found.items
    ≡ map callee_said c.args.found.now.items ++ method_leads c.args.target.now o)) c.in-Some.ensures
    c.add_instance.ensures
