use Rattle.std.proofs.Common.{[], ◌∷◌, ap, subst, sym, ◌∙◌}
use Rattle.au_modules.specs.Slots as slots
use Rattle.au_noting_programs.specs.Said.{modules_said}
use Rattle.au_graphs.specs.Reached.{Lists}
use Rattle.au_type_texts.specs.GivenViews.{given_said}
use Rattle.au_closing.specs.Entries.{begins}
use Rattle.au_closing.specs.Closes.{calls_of}
use Rattle.au_closing.specs.Instances.{same_instance}
use Rattle.au_closed_programs.specs.Views.{program_said}
use Rattle.au_closed_programs.proofs.AnswerLemmas.{closes_within}
use Rattle.au_closed_programs.proofs.closing.closed_from.Goals as goal

pub returns-clause-answers : goal.returns-clause-answers
returns-clause-answers c owner name here =
    let program = slots.modules c.args.bodies.now.program.now in
    let noted = modules_said c.args.bodies.now.modules.now in
    let entry = c.args.begin.of in
    let all = c.in-Ok.reached in
    let made = c.in-Ok-closed_program in
    closes_within program noted owner name entry all (program_said made.made)
    (here ∙ ap (begins entry) (sym made.ensures.root))
    (subst (λ given. Lists same_instance (calls_of program noted)
    (record { of = entry; given = given_said given } ∷ []) all)
    c.new.ensures.items c.in-Ok.ensures.lists)
    c.in-Ok.ensures.within made.ensures.functions made.ensures.types
