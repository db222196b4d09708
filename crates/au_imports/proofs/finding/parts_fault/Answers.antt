use Rattle.std.proofs.Common.{◌≡◌, sym, ap, ◌∙◌, subst}
use Rattle.std.specs.Prelude.{IfOk}
use Rattle.std.specs.Option.{option_or}
use Rattle.au_syntax.specs.declared.modules.Part.TheVariants.{Body}
use Rattle.au_imports.specs.Judging.{program_of}
use Rattle.au_imports.specs.NameFaults.{part_fault}
use Rattle.au_imports.proofs.finding.parts_fault.Goals as goal

pub returns-in-None : goal.returns-in-None
returns-in-None c = λ m here.
    let body = part_fault (program_of c.args.judged.now) c.args.judged.now.place m Body in
    subst (λ z. IfOk c.part_fault-in-None.result (λ found. found ≡ z))
    (sym (ap (λ o. option_or o body) (sym (c.in_ok-first.ensures m here) ∙ c.in-None.is)))
    (c.part_fault-in-None.ensures m here)
