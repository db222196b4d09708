use Rattle.std.proofs.Common.{◌≤◌, length, ◌∙◌, sym, ap, arith, refl}
use Rattle.std.specs.Prelude.{slice_get}
use Rattle.std.proofs.lemmas.Option.{slice_get_read}
use Rattle.std.proofs.lemmas.Result.{on_ok_weaker}
use Rattle.au_syntax.specs.Plain.{plain_declaration}
use Rattle.au_syntax.specs.Views.{declaration}
use Rattle.au_syntax.specs.contracts.parsed.ParsedPhase.TheImpl.{ghosts as parsed}
use Rattle.au_names.proofs.ImportLemmas.{members_past, members_there}
use Rattle.au_names.proofs.members.put_members_at.Goals as goal

pub returns-in-None : goal.returns-in-None
returns-in-None c =
    let past : length c.args.declarations.now.items ≤ c.args.at.decl =
    omega (arith, c.in-None.ensures.lookup.3, ap length c.deref.ensures.value) in
    members_past (plain_declaration parsed.name_bytes) (declaration parsed) c.args.table.now
    c.args.at.«module» c.args.at.decl c.args.declarations.now.items past

pub returns-in-Some : goal.returns-in-Some
returns-in-Some c =
    let xs = c.deref.result.now in
    let one = c.in-Some.decl.now in
    let number = c.args.at.decl in
    on_ok_weaker c.put_members.result
    (members_there (plain_declaration parsed.name_bytes) (declaration parsed) c.args.table.now
    c.put_members.new.table c.args.at.«module» number c.args.declarations.now.items one
    (sym (ap (λ r. slice_get r number) c.deref.ensures.value)
    ∙ slice_get_read xs (length xs) number one refl (c.in-Some.ensures.lookup.3).0
    c.in-Some.ensures.lookup.1))
    c.put_members.ensures
