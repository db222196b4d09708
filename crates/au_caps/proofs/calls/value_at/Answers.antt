use Rattle.std.proofs.Common.{Some, sym, ap, ◌∙◌}
use Rattle.std.specs.Option.{option_and_then}
use Rattle.au_matching.specs.Bindings.{Bindings, value_of}
use Rattle.au_types.specs.Views.{argument}
use Rattle.au_types.proofs.TypeLemmas.{region_argument_means, type_argument_means}
use Rattle.au_caps.specs.Calls.{type_in}
use Rattle.au_caps.proofs.calls.value_at.Goals as goal

pub returns-in-Some-Of : goal.returns-in-Some-Of
returns-in-Some-Of c =
    sym
    (ap (option_and_then (λ (s : Bindings). type_in (value_of c.args.param.now s))) c.in-Some.is
    ∙ ap type_in (c.in-Some-Of.ensures ∙ ap (λ a. Some (argument a)) c.in-Some-Of.field-0-is)
    ∙ ap (λ a. type_in (Some a)) (type_argument_means c.in-Some-Of.of))

pub returns-in-Some-In : goal.returns-in-Some-In
returns-in-Some-In c =
    sym
    (ap (option_and_then (λ (s : Bindings). type_in (value_of c.args.param.now s))) c.in-Some.is
    ∙ ap type_in (c.in-Some-In.ensures ∙ ap (λ a. Some (argument a)) c.in-Some-In.field-0-is)
    ∙ ap (λ a. type_in (Some a)) (region_argument_means c.in-Some-In.field-0-0))
