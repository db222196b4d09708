use Rattle.std.proofs.Common.{◌≡◌, subst, sym}
use Rattle.std.specs.Prelude.{IfOk}
use Rattle.std.specs.Option.{option_map}
use Rattle.au_modules.specs.Slots as slots
use Rattle.au_typing.specs.Called.{callable_standing}
use Rattle.au_sights.specs.Sights.{callable_said}
use Rattle.au_sights.proofs.callables.callable_at.Goals as goal

pub declared_callable-requires : goal.declared_callable-requires
declared_callable-requires c = sym c.in-Some.ensures

pub returns-in-Some : goal.returns-in-Some
returns-in-Some c =
    subst (λ found. IfOk c.declared_callable.result
    (λ made. option_map callable_said made ≡ callable_standing (slots.modules c.args.program.now)
    c.args.target.now found)) c.in-Some.ensures c.declared_callable.ensures
