use Rattle.std.proofs.Common.{◌≡◌, ◌++◌, map, ap, subst, ◌∙◌}
use Rattle.std.specs.Prelude.{OnOk}
use Rattle.au_modules.specs.Slots as slots
use Rattle.au_sights.specs.Views.{note}
use Rattle.au_types.specs.Tables.{find}
use Rattle.au_caps.specs.Calls.{target_leads}
use Rattle.au_caps.specs.Views.{callee_said}
use Rattle.au_caps.proofs.calls.SightFinder.add.Goals as goal

pub returns : goal.returns
returns c =
    let sight = c.args.self.now in
    subst (λ o. OnOk c.add_found.result (map callee_said c.add_found.new.found.items
    ≡ map callee_said c.args.found.now.items ++ target_leads (slots.modules sight.program.now)
    (note c.args.of.now) o))
    (c.get-target.ensures ∙ ap (λ n. find n sight.names.now.callables) c.as_bytes.ensures.bytes)
    c.add_found.ensures
