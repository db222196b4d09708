use Rattle.std.proofs.Common.{◌≡◌, ap, ◌∙◌, sym}
use Rattle.std.specs.Prelude.{position}
use Rattle.std.proofs.lemmas.Result.{IfOk-weaker}
use Rattle.au_syntax.specs.contracts.parsed.ParsedPhase.TheImpl.{ghosts as parsed}
use Rattle.au_syntax.specs.Plain.{plain_variant}
use Rattle.au_syntax.specs.Views.{variant}
use Rattle.au_sights.specs.Views.{note as note_said}
use Rattle.au_typing.specs.Called.{is_case}
use Rattle.au_sights.specs.Steps.{variants_of}
use Rattle.au_type_texts.specs.GivenViews.{given_said}
use Rattle.au_closing.specs.Leading as spec
use Rattle.au_closing.specs.ClosingViews.{lead_said}
use Rattle.au_closing.proofs.ClosingPlaceLemmas.{place_seen}
use Rattle.au_closing.proofs.leading.case_leads.Goals as goal

pub returns-in-None : goal.returns-in-None
returns-in-None c =
    ap (spec.case_leads (given_said c.args.given.now) (note_said c.args.note.now))
    (sym c.in-None.is
    ∙ c.case_place.ensures
    ∙ place_seen (plain_variant parsed.name_bytes) (variant parsed) (is_case c.args.target.now.name)
    c.args.cases.now.items)

pub returns-in-Some : goal.returns-in-Some
returns-in-Some c =
    let leads = spec.case_leads (given_said c.args.given.now) (note_said c.args.note.now) in
    let found = position (is_case c.args.target.now.name) (variants_of c.args.cases.now.items) in
    IfOk-weaker c.maker_leads.result
    (λ lead. lead_said lead
    ≡ spec.maker_leads (given_said c.args.given.now) (note_said c.args.note.now) c.in-Some.place)
    (λ lead. lead_said lead ≡ leads found)
    (λ lead is. is
    ∙ ap leads
    (sym c.in-Some.is
    ∙ c.case_place.ensures
    ∙ place_seen (plain_variant parsed.name_bytes) (variant parsed) (is_case c.args.target.now.name)
    c.args.cases.now.items))
    c.maker_leads.ensures
