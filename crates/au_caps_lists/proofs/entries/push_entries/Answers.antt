use Rattle.std.proofs.Common.{◌≡◌, ◌++◌, sym, subst}
use Rattle.std.specs.Prelude.{OnOk}
use Rattle.au_modules.specs.Slots as slots
use Rattle.au_caps_text.specs.Views.{texts_in}
use Rattle.au_caps_lists.specs.Entries.{entries_in, heads_at}
use Rattle.au_caps_lists.specs.Views.{mention_said}
use Rattle.au_caps_lists.proofs.entries.push_entries.Goals as goal

pub returns-in-Declared : goal.returns-in-Declared
returns-in-Declared c =
    let program = slots.modules c.args.program.now in
    let r = c.args.reaching.now in
    let start = texts_in c.args.made.now.items in
    let new = texts_in c.push_heads.new.made.items in
    subst (λ m. OnOk c.push_heads.result (new ≡ start ++ entries_in program r c.args.params.now (mention_said m)))
    (sym c.in-Declared.is)
    (subst (λ places. OnOk c.push_heads.result (new ≡ start ++ heads_at program r places)) c.places.ensures
    c.push_heads.ensures)

pub returns-in-Parameter : goal.returns-in-Parameter
returns-in-Parameter c =
    let program = slots.modules c.args.program.now in
    let r = c.args.reaching.now in
    let start = texts_in c.args.made.now.items in
    let new = texts_in c.push_parameter.new.made.items in
    subst
    (λ m. OnOk c.push_parameter.result (new ≡ start ++ entries_in program r c.args.params.now (mention_said m)))
    (sym c.in-Parameter.is) c.push_parameter.ensures
