-- The first fault of a program, module by module.
use Rattle.std.proofs.Common.{
  ◌≡◌,
  ℕ,
  ◌+◌,
  ◌≤◌,
  List,
  [],
  ◌∷◌,
  length,
  drop,
  Option,
  None,
  Some,
  refl,
  sym,
  ap,
  ◌∙◌,
}
use Rattle.std.specs.Prelude.{slice_get}
use Rattle.std.specs.Option.{option_or}
use Rattle.std.proofs.lemmas.List.{drop_all}
use Rattle.std.proofs.lemmas.Option.{none-some, same_Some}
use Rattle.au_base.proofs.ListLemmas.{drop_at}
use Rattle.au_syntax.specs.declared.modules.Part.{Part}
use Rattle.au_syntax.specs.Plain.{PlainModule}
use Rattle.au_modules.specs.Programs.{Entry, ModuleParts}
use Rattle.au_names.specs.Meanings.{part_of}
use Rattle.au_imports.specs.declared.name_faults.NameFault.{NameFault}
use Rattle.au_imports.specs.Choices.{first_of}
use Rattle.au_imports.specs.NameFaults.{
  declaration_fault,
  faults_from,
  file_fault,
  import_fault,
  module_fault,
  part_fault,
}
use Rattle.au_imports.specs.Parts.{tree_of}

-- a part that is there is refused for its imports or else for its declarations
pub part_there : (program : List ModuleParts) (place : ℕ) (m : ModuleParts) (part : Part) (tree : PlainModule)
    → Some tree ≡ tree_of (part_of part m)
    → option_or (first_of (import_fault program place m part) tree.imports)
    (first_of (declaration_fault program place m part) tree.declarations)
    ≡ part_fault program place m part
part_there program place m part tree h = by (part_of part m) h
  where
    by : (o : Option Entry) → Some tree ≡ tree_of o
        → option_or (first_of (import_fault program place m part) tree.imports)
        (first_of (declaration_fault program place m part) tree.declarations)
        ≡ file_fault program place m part o
    by None k = absurd (none-some tree (sym k))
    by (Some e) k = ap (λ t. option_or (first_of (import_fault program place m part) t.imports)
        (first_of (declaration_fault program place m part) t.declarations)) (same_Some tree e.tree k)

-- one that isn't is refused for nothing
pub part_nowhere : (program : List ModuleParts) (place : ℕ) (m : ModuleParts) (part : Part)
    → None ≡ tree_of (part_of part m) → None ≡ part_fault program place m part
part_nowhere program place m part h = by (part_of part m) h
  where
    by : (o : Option Entry) → None ≡ tree_of o → None ≡ file_fault program place m part o
    by None k = refl
    by (Some e) k = absurd (none-some e.tree k)

module _ (program : List ModuleParts) where
  pub faults_cons : (place : ℕ) (m : ModuleParts) (ms : List ModuleParts)
      → faults_from program place (m ∷ ms) ≡ option_or (module_fault program place m)
      (faults_from program (place + 1) ms)
  unfolding faults_from
  faults_cons place m ms = refl

  pub faults_none : (place : ℕ) → faults_from program place [] ≡ None
  unfolding faults_from
  faults_none place = refl

  -- the first of the modules from a place on is that of the one there, or else of the others
  faults_there : (place : ℕ) (m : ModuleParts) → slice_get program place ≡ Some m
      → faults_from program place (drop place program) ≡ option_or (module_fault program place m)
      (faults_from program (place + 1) (drop (place + 1) program))
  faults_there place m here = ap (faults_from program place) (drop_at program place m here)
      ∙ faults_cons place m (drop (place + 1) program)

module _ (program : List ModuleParts) (goal : Option NameFault) where
  -- one more module is refused for nothing
  pub faults_step : (place : ℕ) (m : ModuleParts) → slice_get program place ≡ Some m
      → None ≡ module_fault program place m → faults_from program place (drop place program) ≡ goal
      → faults_from program (place + 1) (drop (place + 1) program) ≡ goal
  faults_step place m here nothing old =
      ap (λ o. option_or o (faults_from program (place + 1) (drop (place + 1) program))) nothing
      ∙ sym (faults_there program place m here) ∙ old

  -- what a module is refused for comes first
  pub faults_found : (place : ℕ) (m : ModuleParts) (fault : NameFault) → slice_get program place ≡ Some m
      → Some fault ≡ module_fault program place m
      → faults_from program place (drop place program) ≡ goal → Some fault ≡ goal
  faults_found place m fault here found old =
      ap (λ o. option_or o (faults_from program (place + 1) (drop (place + 1) program))) found
      ∙ sym (faults_there program place m here) ∙ old

  -- none is left
  pub faults_end : (place : ℕ) → length program ≤ place → faults_from program place (drop place program)
      ≡ goal → None ≡ goal
  faults_end place past old = sym (ap (faults_from program place) (drop_all place program past)
      ∙ faults_none program place) ∙ old
