use Rattle.au_syntax.specs.declared.modules.Part.TheVariants.{Body}
use Rattle.au_types.specs.declared.spaces.Space.TheVariants.{Callables, Values}
use Rattle.au_modules.specs.Slots as slots
use Rattle.au_names.specs.Meanings.{declared_by}
use Rattle.au_typing.specs.Written.{seen_in}
use Rattle.au_closed_programs.proofs.KnownLemmas.{known_at}
use Rattle.au_closed_programs.proofs.calls.sight_at.Goals as goal

pub returns-clause-names : goal.returns-clause-names
returns-clause-names c =
    let program = slots.modules c.args.bodies.now.program.now in
    known_at program c.args.place c.names.result.now.callables (seen_in Callables program c.args.place Body)
    c.requires c.names.ensures.callables

pub returns-clause-values : goal.returns-clause-values
returns-clause-values c =
    let program = slots.modules c.args.bodies.now.program.now in
    known_at program c.args.place c.names.result.now.values
    (λ m. declared_by (seen_in Values program c.args.place Body m)) c.requires c.names.ensures.values
