use Rattle.std.proofs.Common.{ap, sym, ◌∙◌, Some}
use Rattle.std.specs.Option.{option_map}
use Rattle.au_shipped.specs.Calls as calls
use Rattle.au_type_texts.specs.Views.{closed_meaning}
use Rattle.au_modules.specs.Slots as slots
use Rattle.au_closing.specs.Leading as spec
use Rattle.au_closing.proofs.shipped.shipped_method.Goals as goal

pub returns-in-Some : goal.returns-in-Some
returns-in-Some c =
    let t = closed_meaning c.args.of.now in
    let home = spec.module_name (slots.modules c.args.program.now) c.args.place in
    ap Some c.at_type.ensures
    ∙ ap (option_map (spec.at_type t))
    (sym c.in-Some.is ∙ c.shipped_call.ensures ∙ ap (calls.prim_of home c.args.name.now) c.kind_of.ensures)

pub returns-in-None : goal.returns-in-None
returns-in-None c =
    let t = closed_meaning c.args.of.now in
    let home = spec.module_name (slots.modules c.args.program.now) c.args.place in
    ap (option_map (spec.at_type t))
    (sym c.in-None.is ∙ c.shipped_call.ensures ∙ ap (calls.prim_of home c.args.name.now) c.kind_of.ensures)
