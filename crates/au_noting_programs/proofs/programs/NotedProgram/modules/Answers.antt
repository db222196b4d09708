use Rattle.std.proofs.Common.{◌∙◌, Ok, sym, ap}
use Rattle.au_modules.specs.declared.modules.Modules.{Modules}
use Rattle.au_modules.specs.Slots as slots
use Rattle.au_noting_programs.specs.Faults.{noting_of}
use Rattle.au_noting_programs.specs.Said.{modules_said}
use Rattle.au_noting_programs.proofs.DerivedLemmas.{found_derived}
use Rattle.au_noting_programs.proofs.programs.NotedProgram.modules.Goals as goal

pub returns-clause-derived : goal.returns-clause-derived
returns-clause-derived c =
    found_derived (slots.modules c.args.self.now) (modules_said c.as_slice.result.now)
    (ap (λ (m : Modules). noting_of (slots.modules m)) (sym c.self.view_is)
    ∙ c.self.invariant.found
    ∙ ap (λ all. Ok (modules_said all)) (sym c.as_slice.ensures.value))
