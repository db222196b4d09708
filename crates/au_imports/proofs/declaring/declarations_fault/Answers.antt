use Rattle.std.proofs.Common.{◌≡◌, ◌==◌, IfOk, map, refl, subst}
use Rattle.au_syntax.specs.contracts.parsed.ParsedPhase.TheImpl.{ghosts as parsed}
use Rattle.au_syntax.specs.Plain.{plain_declaration}
use Rattle.au_syntax.specs.Views.{declaration}
use Rattle.au_imports.specs.Judging.{program_of}
use Rattle.au_imports.specs.declared.declaring.Site.{Site}
use Rattle.au_imports.proofs.DeclaringLemmas.{IsSite, faults_same, first_offers}
use Rattle.au_imports.proofs.declaring.declarations_fault.Goals as goal

pub returns : goal.returns
returns c = λ m there.
    let program = program_of c.args.judged.now in
    let place = c.args.judged.now.place in
    let part = c.args.part in
    let site : Site = record {
      part = part;
      first = place == 0;
      pervasive = c.index.result;
      interface = c.args.judged.now.interface;
      body = c.args.judged.now.body;
      names = record { ref_ptr = (0, 0); now = c.names-names.result.now.types };
      heads = c.heads_ref.result;
    } in
    let made : IsSite program place m part site = record {
      the_part = refl;
      is_first = refl;
      pervasive = first_offers program c.args.judged.now.offers.now.exports.interfaces.items
          c.index.result.now place c.requires.made.exports.interfaces c.requires.within c.index.ensures;
      interface = c.requires.by_interface m there;
      body = c.requires.by_body m there;
      names = c.names-names.ensures.types m there;
      heads = c.heads_ref.ensures;
    } in
    subst (λ r. IfOk c.first_fault.result (λ found. found ≡ r))
    (faults_same program place m part site made (map (plain_declaration parsed.name_bytes)
    (map (declaration parsed) c.args.declarations.now.items)))
    c.first_fault.ensures
