use Rattle.std.proofs.Common.{Some, ap, ◌∙◌}
use Rattle.std.specs.Option.{option_map}
use Rattle.au_types.specs.Tables.{find}
use Rattle.au_types.specs.Types.{named}
use Rattle.au_types.proofs.TypeLemmas.{named_means}
use Rattle.au_modules.specs.Slots as slots
use Rattle.au_names.specs.Standing.{standing}
use Rattle.au_typing.specs.Called.{as_arguments}
use Rattle.au_sights.proofs.StandingLemmas.{number_seen}
use Rattle.au_sights.proofs.makers.type_itself.Goals as goal

pub returns-in-None : goal.returns-in-None
returns-in-None c =
    ap (option_map (λ at. named at (as_arguments c.args.params.now)))
    (c.in-None.ensures
    ∙ ap (λ n. find n c.types_seen.result.now) c.as_bytes.ensures.bytes
    ∙ ap (find c.args.name.now) c.types_seen.ensures
    ∙ number_seen (slots.modules c.args.program.now) (standing c.args.found.now) c.args.name.now
    c.args.found.now.part c.requires.stands c.requires.named)

pub returns-in_ok-args-in-Some : goal.returns-in_ok-args-in-Some
returns-in_ok-args-in-Some c =
    ap Some (named_means c.in-Some.at.now c.in_ok-args-in-Some.args)
    ∙ ap (λ args. Some (named c.in-Some.at.now args)) c.in_ok-args-in-Some.ensures
    ∙ ap (option_map (λ at. named at (as_arguments c.args.params.now)))
    (c.in-Some.ensures
    ∙ ap (λ n. find n c.types_seen.result.now) c.as_bytes.ensures.bytes
    ∙ ap (find c.args.name.now) c.types_seen.ensures
    ∙ number_seen (slots.modules c.args.program.now) (standing c.args.found.now) c.args.name.now
    c.args.found.now.part c.requires.stands c.requires.named)
