use Rattle.std.proofs.Common.{◌≡◌, ◌<◌, IfOk, length, refl, ap, subst, sym, ◌∙◌}
use Rattle.std.specs.Prelude.{Some, position, slice_get}
use Rattle.std.proofs.lemmas.Option.{slice_get_read, slice_get_within}
use Rattle.au_modules.specs.Seen.{body_tree}
use Rattle.au_modules.specs.Slots as slots
use Rattle.au_names.specs.Exporting.{declarations_seen}
use Rattle.au_promises.specs.Defining.{AreDefinitions}
use Rattle.au_promises.specs.Promises.{defines}
use Rattle.au_promises.specs.Written.{declared_of, sight_in}
use Rattle.au_closing.specs.Bodies.{defining_in}
use Rattle.au_closed_programs.proofs.FindingLemmas.{there}
use Rattle.au_closed_programs.proofs.defining.promised_index.Goals as goal

pub returns-in-Some : goal.returns-in-Some
returns-in-Some c =
    let program = slots.modules c.args.program.now in
    let place = c.args.place in
    let says = declared_of c.args.decl.now in
    let xs = c.deref.result.now in
    let found = c.in-Some.definitions.now in
    let here : slice_get c.args.all.now.items place ≡ Some found =
    sym (ap (λ r. slice_get r place) c.deref.ensures.value)
    ∙ slice_get_read xs (length xs) place found refl (c.in-Some.ensures.lookup.3).0 c.in-Some.ensures.lookup.1 in
    let within : place < length program =
    subst (λ n. place < n) c.requires.many (slice_get_within c.args.all.now.items place found here) in
    let m = there program place within in
    let all = declarations_seen (body_tree (Some m.0)) in
    let sight = sight_in c.sight_at-sight.result in
    let same = c.sight_at-sight.ensures m.0 m.1 in
    let answer =
    subst (λ s. AreDefinitions s all found
    → IfOk c.index_in.result (λ index. index ≡ position (defines s says) all))
    same (c.index_in.ensures all) (c.requires.each place found here m.0 m.1) in
    subst (λ o. IfOk c.index_in.result (λ index. index ≡ defining_in program place o says)) (sym m.1) answer
