use Rattle.std.proofs.Common.{◌≡◌, Some, ap, sym, ◌∙◌, subst}
use Rattle.std.specs.Prelude.{slice_get}
use Rattle.std.proofs.lemmas.Result.{on_ok_weaker}
use Rattle.au_types.specs.Tables.{with_all}
use Rattle.au_modules.specs.Programs.{ModuleParts}
use Rattle.au_modules.specs.Seen.{interface_tree, tree_seen}
use Rattle.au_modules.specs.Slots as slots
use Rattle.au_names.specs.Along.{AreAlong}
use Rattle.au_names.specs.Exporting.{declarations_seen, members_at}
use Rattle.au_names.proofs.AlongLemmas.{along_again, along_file, along_more, along_same, was_among}
use Rattle.au_names.proofs.imports.put_once.Goals as goal

-- what has come along before
pub returns-then-not-fresh : goal.returns-then-not-fresh
returns-then-not-fresh c =
    let program = slots.modules c.args.modules.now in
    let among = was_among c.args.at c.args.done.now c.in_ok-fresh.fresh c.in_ok-fresh.ensures.fresh
    c.if-not-fresh.true in
    record {
      members = λ m here. along_again program c.args.done.now c.args.table.now
          c.args.at m c.requires.done among here;
      done = along_same program c.args.at c.args.done.now c.put.new.self c.args.table.now
          c.requires.done among c.in_ok-fresh.ensures.places;
    }

-- what has not
pub returns : goal.returns
returns c =
    let program = slots.modules c.args.modules.now in
    let more = members_at c.args.at.«module» c.args.at.decl
    (declarations_seen (tree_seen c.interface-file.result)) in
    let those = λ (m : ModuleParts) (here : slice_get program c.args.at.«module»
    ≡ Some m). along_file c.args.at m (tree_seen c.interface-file.result) (c.interface-file.ensures
    ∙ ap interface_tree here) in
    record {
      members = λ m here. on_ok_weaker c.put_members_in.result
          (λ put. put ∙ ap (with_all c.args.table.now) (those m here)) c.put_members_in.ensures;
      done = on_ok_weaker c.put_members_in.result
          (λ put. subst (λ some. AreAlong program some c.put_members_in.new.table)
          (sym c.in_ok-fresh.ensures.places)
          (along_more program c.args.done.now c.args.at c.args.table.now c.put_members_in.new.table
          more c.requires.done put those)) c.put_members_in.ensures;
    }
