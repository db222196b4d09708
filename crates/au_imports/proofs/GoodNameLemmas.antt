-- Names are refused for nothing exactly where they are good by the rules.
use Rattle.std.proofs.Common.{◌≡◌, ℕ, List, None}
use Rattle.au_base.proofs.OptionLemmas.{or_first, or_second, or_neither}
use Rattle.au_modules.specs.Programs.{ModuleParts}
use Rattle.au_syntax.specs.declared.modules.Part.{Part}
use Rattle.au_syntax.specs.declared.modules.Part.TheVariants.{Interface, Body}
use Rattle.au_imports.specs.NameFaults.{part_fault, module_fault, faults_from, name_fault}
use Rattle.au_imports.specs.Good.{AllNamesAreGood}
use Rattle.au_names.proofs.AmongLemmas.{nothing_all, nothing_at}
use Rattle.au_imports.proofs.FindingLemmas.{faults_cons, faults_none}
use Rattle.au_imports.proofs.FreeLemmas.{IsFree, free_from, free_to}
use Rattle.au_imports.proofs.RuleLemmas.{good_of_free, free_of_good}

-- ---- the two parts of a module

part_from : (program : List ModuleParts) (place : ℕ) (m : ModuleParts)
    → module_fault program place m ≡ None → (part : Part) → part_fault program place m part ≡ None
part_from program place m h Interface = or_first (part_fault program place m Interface)
    (part_fault program place m Body) h
part_from program place m h Body = or_second (part_fault program place m Interface)
    (part_fault program place m Body) h

-- ---- all

pub good_from : (program : List ModuleParts) → name_fault program ≡ None → AllNamesAreGood program
good_from program h place m part here =
    let none : module_fault program place m ≡ None =
    nothing_at (module_fault program) (faults_from program) (faults_none program) (faults_cons program)
    program h place m here in
    good_of_free program place m (λ one. free_from program place m one (part_from program place m none one))
    part

pub good_accepted : (program : List ModuleParts) → AllNamesAreGood program → name_fault program ≡ None
good_accepted program h =
    nothing_all (module_fault program) (faults_from program) (faults_none program) (faults_cons program)
    program
    (λ place m here.
    let free : (part : Part) → IsFree program place m part = free_of_good program place m
    (λ part. h place m part here) in
    or_neither (part_fault program place m Interface) (part_fault program place m Body)
    (free_to program place m Interface (free Interface)) (free_to program place m Body (free Body)))
