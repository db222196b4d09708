use Rattle.std.proofs.Common.{◌≡◌, [], ap, slice_get, sym, ◌∙◌}
use Rattle.std.specs.Prelude.{unwrap_or}
use Rattle.au_formed.specs.Said.{spot_said}
use Rattle.au_explain.proofs.DeclarationLemmas.{declaration_kept}
use Rattle.au_explain.specs.Programs.{declaration_lives, owner_of}
use Rattle.au_explain.proofs.PutLemmas as puts
use Rattle.au_modules.specs.Seen.{name_of}
use Rattle.au_modules.specs.Slots as slots
use Rattle.au_typing.specs.Outsides.{outside_of}
use Rattle.au_syntax.specs.contracts.parsed.ParsedPhase.TheImpl.{ghosts as parsed}
use Rattle.au_syntax.specs.Views.{declaration}
use Rattle.au_explain.proofs.programs.push_spot.Goals as goal

pub returns : goal.returns
returns c =
    let program = slots.modules c.args.resolved.now in
    let s = spot_said c.args.spot.now in
    let says = declaration parsed c.args.spot.now.decl.now in
    let outside = outside_of program s.at.«module» s.part in
    let named : owner_of program s ≡ c.name.result.now =
    ap (λ found. unwrap_or found [])
    (ap (λ all. name_of (slice_get (slots.modules all) s.at.«module»)) (sym c.modules.ensures.kept)
    ∙ c.name.ensures) in
    puts.put_as c.push_declaration.result c.args.made.now.items c.push_declaration.new.made.items _ _
    (ap (declaration_lives outside (owner_of program s)) (declaration_kept says)
    ∙ ap (λ owner. declaration_lives outside owner says) named
    ∙ ap (λ seen. declaration_lives seen c.name.result.now says) (sym c.sight-outside.ensures))
    c.push_declaration.ensures
