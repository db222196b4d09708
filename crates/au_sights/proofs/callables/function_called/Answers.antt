use Rattle.std.proofs.Common.{◌≡◌, ap, ◌∙◌}
use Rattle.std.specs.Option.{option_map}
use Rattle.std.proofs.lemmas.Result.{IfOk-weaker}
use Rattle.au_modules.specs.Slots as slots
use Rattle.au_names.specs.Standing.{standing}
use Rattle.au_judged_types.specs.Meanings.{generics_meant}
use Rattle.au_typing.specs.Called.{function_called}
use Rattle.au_typing.specs.Written.{types_at}
use Rattle.au_names.specs.HeadsOf.{heads_of}
use Rattle.au_promises.specs.Written.{generics_of, header_of}
use Rattle.au_sights.specs.Sights.{callable_said}
use Rattle.au_sights.proofs.callables.function_called.Goals as goal

pub returns : goal.returns
returns c =
    let program = slots.modules c.args.program.now in
    let d = standing c.args.found.now in
    let h = header_of c.args.one.now in
    let given = generics_of c.args.generics.now.items in
    IfOk-weaker c.by_generics.result
    (λ made. option_map callable_said made ≡ function_called program d h c.in_ok-meant.meant)
    (λ made. option_map callable_said made ≡ function_called program d h
    (generics_meant (types_at program d.place d.part) (heads_of program) given))
    (λ made is.
    is
    ∙ ap (function_called program d h)
    (c.in_ok-meant.ensures
    ∙ ap (λ all. generics_meant c.types_seen-visible.result.now c.heads_ref.result.now (generics_of all))
    c.deref.ensures.value
    ∙ ap (λ names. generics_meant names c.heads_ref.result.now given) c.types_seen-visible.ensures
    ∙ ap (λ heads. generics_meant (types_at program d.place d.part) heads given) c.heads_ref.ensures))
    c.by_generics.ensures
