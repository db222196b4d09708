use Rattle.std.proofs.Common.{◌≡◌, ◌++◌, map, sym, subst, ◌∙◌}
use Rattle.std.specs.Prelude.{OnOk}
use Rattle.au_sights.specs.Views.{note}
use Rattle.au_caps.specs.Calls.{function_leads}
use Rattle.au_caps.specs.Views.{callee_said}
use Rattle.au_caps.proofs.calls.add_function.Goals as goal

pub returns-then-is_birth : goal.returns-then-is_birth
returns-then-is_birth c =
    subst (λ b. OnOk c.add_birth.result (map callee_said c.add_birth.new.found.items
    ≡ map callee_said c.args.found.now.items ++ function_leads b (note c.args.of.now) c.args.target.now))
    (sym c.if-is_birth.true ∙ c.is_birth.ensures) c.add_birth.ensures

pub returns : goal.returns
returns c =
    subst (λ b. OnOk c.add_called.result (map callee_said c.add_called.new.found.items
    ≡ map callee_said c.args.found.now.items ++ function_leads b (note c.args.of.now) c.args.target.now))
    (sym c.if-is_birth.false ∙ c.is_birth.ensures) c.add_called.ensures
