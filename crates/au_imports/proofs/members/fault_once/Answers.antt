use Rattle.std.proofs.Common.{◌≡◌, Some, ap, sym, ◌∙◌, subst}
use Rattle.std.specs.Prelude.{slice_get}
use Rattle.au_modules.specs.Programs.{ModuleParts}
use Rattle.au_modules.specs.Seen.{interface_tree, tree_seen}
use Rattle.au_names.proofs.AlongLemmas.{along_file, was_among}
use Rattle.au_imports.specs.Choices.{first_of}
use Rattle.au_imports.specs.Importers.{AllPass, IsOf, fault_in, program_of}
use Rattle.au_imports.proofs.PassLemmas.{pass_more, pass_same}
use Rattle.au_imports.proofs.members.fault_once.Goals as goal

-- what has come along before
pub returns-then-not-fresh : goal.returns-then-not-fresh
returns-then-not-fresh c =
    let among = was_among c.args.at c.args.passed.now c.in_ok-fresh.fresh c.in_ok-fresh.ensures.fresh
    c.if-not-fresh.true in
    record {
      fault = λ m other this here. sym (c.requires.passed c.args.at m other c.args.stands among this here);
      passed = λ e. pass_same c.args.importer.now c.args.at c.args.passed.now
          c.put.new.self c.requires.passed among c.in_ok-fresh.ensures.places;
    }

-- what has not
pub returns : goal.returns
returns c =
    let one = c.args.importer.now in
    let those = λ (m other : ModuleParts) (this : IsOf one m)
    (here : slice_get (program_of one) c.args.at.«module» ≡ Some other). c.in_ok-fault.ensures
    m other this
    ∙ ap (first_of (fault_in one m c.args.at.«module» other c.args.stands))
    (along_file c.args.at other (tree_seen c.interface-file.result) (c.interface-file.ensures
    ∙ ap interface_tree here)) in
    record {
      fault = those;
      passed = λ e. subst (AllPass one) (sym c.in_ok-fresh.ensures.places)
          (pass_more one c.args.passed.now c.args.at c.args.stands c.requires.passed
          (λ m other this here. sym (those m other this here) ∙ e));
    }
