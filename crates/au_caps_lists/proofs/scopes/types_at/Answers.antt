use Rattle.au_syntax.specs.declared.modules.Part.TheVariants.{Body}
use Rattle.au_types.specs.declared.spaces.Space.TheVariants.{Types}
use Rattle.au_modules.specs.Slots as slots
use Rattle.au_names.specs.Meanings.{declared_by}
use Rattle.au_typing.specs.Written.{seen_in}
use Rattle.au_caps_lists.proofs.KnownLemmas.{known_at}
use Rattle.au_caps_lists.proofs.scopes.types_at.Goals as goal

pub returns : goal.returns
returns c =
    let program = slots.modules c.args.program.now in
    known_at program c.args.place c.names.result.now.types
    (λ m. declared_by (seen_in Types program c.args.place Body m)) c.requires c.names.ensures.types
