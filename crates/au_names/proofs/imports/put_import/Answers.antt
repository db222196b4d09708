use Rattle.std.proofs.Common.{get_or, sym, ap, ◌∙◌, arith, ◌<◌}
use Rattle.std.proofs.lemmas.Option.{slice_get-get_or}
use Rattle.std.proofs.lemmas.Result.{on_ok_weaker}
use Rattle.au_syntax.specs.contracts.parsed.ParsedPhase.TheImpl.{ghosts as parsed}
use Rattle.au_syntax.specs.Plain.{plain_importing}
use Rattle.au_syntax.specs.Sizes.{joined}
use Rattle.au_syntax.specs.Views.{importing}
use Rattle.au_types.specs.Tables.{with_all}
use Rattle.au_names.specs.Sources.{modules_of}
use Rattle.au_names.proofs.ExportLemmas.{nothing}
use Rattle.au_names.proofs.ImportLemmas.{brings_nothing, brings_later, brings_earlier, nothing_put}
use Rattle.au_names.proofs.imports.put_import.Goals as goal

pub returns-in-None-clause-import : goal.returns-in-None-clause-import
returns-in-None-clause-import c =
    let program = modules_of c.args.source.now in
    let one = plain_importing parsed.name_bytes (importing parsed c.args.import.now) in
    nothing_put c.args.table.now _ (brings_nothing c.args.space program c.args.place one
    (sym (c.requires.made.places (joined one.from)) ∙ sym c.in_ok-found.ensures ∙ c.in-None.is))

pub put_items-requires : goal.put_items-requires
put_items-requires c =
    let less : c.in-Some.other < c.args.place = c.if-other-place.true in
    record { within = omega (arith, c.requires.within, less); made = c.requires.made; done = c.requires.done }

pub returns-then-other-place-clause-import : goal.returns-then-other-place-clause-import
returns-then-other-place-clause-import c =
    let program = modules_of c.args.source.now in
    let one = plain_importing parsed.name_bytes (importing parsed c.args.import.now) in
    let other = c.in-Some.other in
    let less : other < c.args.place = c.if-other-place.true in
    let here = slice_get-get_or program other nothing (omega (arith, c.requires.within, less)) in
    on_ok_weaker c.put_items.result
    (λ put. put
    ∙ sym (ap (with_all c.args.table.now) (brings_earlier c.args.space program c.args.place other one
    (get_or program other nothing)
    (sym (c.requires.made.places (joined one.from)) ∙ sym c.in_ok-found.ensures ∙ c.in-Some.is) less here)))
    (c.put_items.ensures.items (get_or program other nothing) here)

pub returns-else-other-place-clause-import : goal.returns-else-other-place-clause-import
returns-else-other-place-clause-import c =
    let program = modules_of c.args.source.now in
    let one = plain_importing parsed.name_bytes (importing parsed c.args.import.now) in
    nothing_put c.args.table.now _ (brings_later c.args.space program c.args.place c.in-Some.other one
    (sym (c.requires.made.places (joined one.from)) ∙ sym c.in_ok-found.ensures
    ∙ c.in-Some.is) c.if-other-place.false)
