use Rattle.au_judged_programs.proofs.FoundLemmas.{found_entry}
use Rattle.au_judged_programs.proofs.sound.found_entries_have_the_form.Goals as goal

pub returns : goal.returns
returns c = λ program noted checked owner name target root found.
    found_entry program noted checked owner name target root found
