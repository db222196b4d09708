-- What the modules of a program come to.
use Rattle.std.proofs.Common.{◌≡◌, ℕ, List, [], ◌∷◌, ◌++◌, map, Option, Some, None, Err, Result, ap, ◌∙◌, sym}
use Rattle.std.proofs.Common.{refl, subst, ◌⊎◌}
use Rattle.std.specs.Option.{option_or}
use Rattle.au_classes.specs.declared.faults.ClassFault.{ClassFault}
use Rattle.au_classes.specs.declared.faults.ClassFault.TheVariants as classes
use Rattle.au_classes.specs.Faults.{instance_fault}
use Rattle.au_imports.specs.declared.faults.ImportFault.{ImportFault}
use Rattle.au_imports.specs.declared.faults.ImportFault.TheVariants as imports
use Rattle.au_imports.specs.Importing as importing
use Rattle.au_modules.specs.declared.faults.ModuleFault.{ModuleFault}
use Rattle.au_modules.specs.declared.faults.ModuleFault.TheVariants as modules
use Rattle.au_modules.specs.Programs as programs
use Rattle.au_modules.specs.Programs.{Entry, ModuleParts, entry, modules_of}
use Rattle.au_sights.specs.declared.faults.TypeFault.{TypeFault}
use Rattle.au_sights.specs.declared.faults.TypeFault.TheVariants as typing
use Rattle.au_explain.specs.Faults.{type_fault}
use Rattle.au_program_lives.specs.declared.faults.LinearFault.{LinearFault}
use Rattle.au_program_lives.specs.declared.faults.LinearFault.TheVariants as lives
use Rattle.au_program_lives.specs.LinearFaults.{linear_fault}
use Rattle.au_rules.specs.declared.faults.DeclFault.{DeclFault}
use Rattle.au_rules.specs.declared.faults.DeclFault.TheVariants as rules
use Rattle.au_rules.specs.DeclFaults.{decl_fault}
use Rattle.au_shipped.specs.Shipped.{file_says, shipped_files}
use Rattle.au_syntax.specs.declared.wholes.FileTree.{FileTree}
use Rattle.au_syntax.specs.Plain.{PlainModule}
use Rattle.au_outcomes.specs.Halts.{Says, known_or_memory}
use Rattle.au_outcomes.specs.Programs.{AreJudgedAs, bodies_outcome, class_outcome, declaration_outcome}
use Rattle.au_outcomes.specs.Programs.{import_outcome, judged_by}
use Rattle.au_outcomes.specs.Programs.{life_outcome, module_outcome, modules_outcome, program_outcome}
use Rattle.au_accepted.specs.Programs.{shipped_entries}
use Rattle.au_outcomes.specs.Programs.{type_outcome}
use Rattle.au_outcomes.specs.declared.halts.Halt.{Halt}
use Rattle.au_outcomes.specs.declared.outcomes.Outcome.{Outcome}
use Rattle.au_outcomes.proofs.FaultLemmas.{judged_says, of_declarations, of_imports, of_instances, of_lives}
use Rattle.au_outcomes.proofs.FaultLemmas.{of_modules, of_types}

-- ---- files

-- what files come to that aren't those of modules
files_known : (files : List Entry) (x : Outcome) → judged_by module_outcome (programs.refusal_of files)
    ≡ Some x → program_outcome files ≡ Some x
unfolding program_outcome
files_known files x h = ap (λ o. option_or o (modules_outcome (modules_of files))) h

-- the same of files that were given
pub gather_halts : {T : Type 0} (given files : List Entry) (e : ModuleFault) (G : T → Type 0) → given ≡ files
    → (e ≡ modules.Memory) ⊎ (programs.refusal_of given ≡ Some e)
    → Says {T = T} (Err (known_or_memory (module_outcome e))) G (λ x. program_outcome files ≡ Some x)
gather_halts given files e G same h =
    judged_says module_outcome modules.Memory of_modules e (programs.refusal_of files) G _
    (subst (λ l. (e ≡ modules.Memory) ⊎ (programs.refusal_of l ≡ Some e)) same h) (files_known files)

-- what files come to that are those of modules
files_judged : (files : List Entry) → programs.refusal_of files ≡ None → program_outcome files
    ≡ modules_outcome (modules_of files)
unfolding program_outcome
files_judged files none = ap (λ r. option_or (judged_by module_outcome r) (modules_outcome (modules_of files))) none

pub program_is : (given files : List Entry) (parts : List ModuleParts) → given ≡ files →
    parts ≡ modules_of given → programs.refusal_of given ≡ None → program_outcome files ≡ modules_outcome parts
program_is given files parts same are none =
    files_judged files (subst (λ l. programs.refusal_of l ≡ None) same none)
    ∙ ap modules_outcome (sym (are ∙ ap modules_of same))

pub program_says : {T : Type 0} (held : T → List ModuleParts) (given files : List Entry) (parts : List ModuleParts)
    (r : Result T Halt) → given ≡ files → parts ≡ modules_of given → programs.refusal_of given ≡ None
    → Says r (λ n. (modules_outcome parts ≡ None) × (held n ≡ parts)) (λ x. modules_outcome parts ≡ Some x)
    → Says r (λ n. AreJudgedAs files (held n)) (λ x. program_outcome files ≡ Some x)
program_says held given files parts r same are none h =
    subst (λ p. Says r (λ n. (program_outcome files ≡ None) × (held n ≡ p)) (λ x. program_outcome files ≡ Some x))
    (are ∙ ap modules_of same)
    (subst (λ o. Says r (λ n. (o ≡ None) × (held n ≡ parts)) (λ x. o ≡ Some x))
    (sym (program_is given files parts same are none)) h)

-- ---- modules

module _ (parts : List ModuleParts) where
  -- what is judged behind names and promises
  behind : Option Outcome
  behind = option_or (judged_by declaration_outcome (decl_fault parts)) (bodies_outcome parts)

  names_known : (x : Outcome) → judged_by import_outcome (importing.refusal_of parts) ≡ Some x →
      modules_outcome parts ≡ Some x
  unfolding modules_outcome behind
  names_known x h = ap (λ o. option_or o behind) h

  names_judged : importing.refusal_of parts ≡ None → modules_outcome parts ≡ behind
  unfolding modules_outcome behind
  names_judged none = ap (λ r. option_or (judged_by import_outcome r) behind) none

  declarations_known : (x : Outcome) → judged_by declaration_outcome (decl_fault parts) ≡ Some x → behind ≡ Some x
  unfolding behind
  declarations_known x h = ap (λ o. option_or o (bodies_outcome parts)) h

  declarations_judged : decl_fault parts ≡ None → behind ≡ bodies_outcome parts
  unfolding behind
  declarations_judged none = ap (λ r. option_or (judged_by declaration_outcome r) (bodies_outcome parts)) none

  pub resolve_halts : {T : Type 0} (e : ImportFault) (G : T → Type 0)
      → (e ≡ imports.Memory) ⊎ (importing.refusal_of parts ≡ Some e)
      → Says {T = T} (Err (known_or_memory (import_outcome e))) G (λ x. modules_outcome parts ≡ Some x)
  resolve_halts e G h =
      judged_says import_outcome imports.Memory of_imports e (importing.refusal_of parts) G _ h names_known

  pub declarations_halt : {T : Type 0} (e : DeclFault) (G : T → Type 0) → importing.refusal_of parts ≡ None
      → (e ≡ rules.Memory) ⊎ (decl_fault parts ≡ Some e)
      → Says {T = T} (Err (known_or_memory (declaration_outcome e))) G (λ x. modules_outcome parts ≡ Some x)
  declarations_halt e G good h =
      judged_says declaration_outcome rules.Memory of_declarations e (decl_fault parts) G _ h
      (λ x k. names_judged good ∙ declarations_known x k)

  -- names and declarations are good
  pub modules_are : importing.refusal_of parts ≡ None → decl_fault parts ≡ None
      → modules_outcome parts ≡ bodies_outcome parts
  modules_are good declared = names_judged good ∙ declarations_judged declared

  pub modules_say : {T : Type 0} (Held : T → Type 0) (r : Result T Halt) → importing.refusal_of parts ≡ None
      → decl_fault parts ≡ None
      → Says r (λ n. (bodies_outcome parts ≡ None) × Held n) (λ x. bodies_outcome parts ≡ Some x)
      → Says r (λ n. (modules_outcome parts ≡ None) × Held n) (λ x. modules_outcome parts ≡ Some x)
  modules_say Held r good declared h =
      subst (λ o. Says r (λ n. (o ≡ None) × Held n) (λ x. o ≡ Some x)) (sym (modules_are good declared)) h

  -- ---- bodies

  -- what is judged behind instances
  typed : Option Outcome
  typed = option_or (judged_by type_outcome (type_fault parts)) (judged_by life_outcome (linear_fault parts))

  instances_known : (x : Outcome) → judged_by class_outcome (instance_fault parts) ≡ Some x
      → bodies_outcome parts ≡ Some x
  unfolding bodies_outcome typed
  instances_known x h = ap (λ o. option_or o typed) h

  instances_judged : instance_fault parts ≡ None → bodies_outcome parts ≡ typed
  unfolding bodies_outcome typed
  instances_judged none = ap (λ r. option_or (judged_by class_outcome r) typed) none

  types_known : (x : Outcome) → judged_by type_outcome (type_fault parts) ≡ Some x → typed ≡ Some x
  unfolding typed
  types_known x h = ap (λ o. option_or o (judged_by life_outcome (linear_fault parts))) h

  types_judged : type_fault parts ≡ None → typed ≡ judged_by life_outcome (linear_fault parts)
  unfolding typed
  types_judged none =
      ap (λ r. option_or (judged_by type_outcome r) (judged_by life_outcome (linear_fault parts))) none

  pub instances_halt : {T : Type 0} (e : ClassFault) (G : T → Type 0)
      → (e ≡ classes.Memory) ⊎ (instance_fault parts ≡ Some e)
      → Says {T = T} (Err (known_or_memory (class_outcome e))) G (λ x. bodies_outcome parts ≡ Some x)
  instances_halt e G h =
      judged_says class_outcome classes.Memory of_instances e (instance_fault parts) G _ h instances_known

  pub types_halt : {T : Type 0} (e : TypeFault) (G : T → Type 0) → instance_fault parts ≡ None
      → (e ≡ typing.Memory) ⊎ (type_fault parts ≡ Some e)
      → Says {T = T} (Err (known_or_memory (type_outcome e))) G (λ x. bodies_outcome parts ≡ Some x)
  types_halt e G instances h =
      judged_says type_outcome typing.Memory of_types e (type_fault parts) G _ h
      (λ x k. instances_judged instances ∙ types_known x k)

  pub lives_halt : {T : Type 0} (e : LinearFault) (G : T → Type 0) → instance_fault parts ≡ None
      → type_fault parts ≡ None → (e ≡ lives.Memory) ⊎ (linear_fault parts ≡ Some e)
      → Says {T = T} (Err (known_or_memory (life_outcome e))) G (λ x. bodies_outcome parts ≡ Some x)
  lives_halt e G instances types h =
      judged_says life_outcome lives.Memory of_lives e (linear_fault parts) G _ h
      (λ x k. instances_judged instances ∙ types_judged types ∙ k)

  -- what stands in bodies is good
  pub bodies_good : instance_fault parts ≡ None → type_fault parts ≡ None → linear_fault parts ≡ None
      → bodies_outcome parts ≡ None
  bodies_good instances types none =
      instances_judged instances ∙ types_judged types ∙ ap (judged_by life_outcome) none

-- the shipped files, and those of the user
entries_of : (files : List FileTree) →
    map entry files ≡ map (λ (f : ℕ × PlainModule). record { file = f.0; tree = f.1 }) (map file_says files)
entries_of [] = refl
entries_of (f ∷ files) = ap (λ l. entry f ∷ l) (entries_of files)

entries_of_both : (first rest : List FileTree) → map entry (first ++ rest) ≡ map entry first ++ map entry rest
entries_of_both [] rest = refl
entries_of_both (f ∷ first) rest = ap (λ l. entry f ∷ l) (entries_of_both first rest)

-- files that say what a list does, and others behind them
listed_first : (list : List (ℕ × PlainModule)) (first own all : List FileTree) → map file_says first ≡ list →
    all ≡ first ++ own → map entry all ≡ map (λ (f : ℕ × PlainModule). record { file = f.0; tree = f.1 }) list
    ++ map entry own
listed_first list first own all are same =
    ap (map entry) same ∙ entries_of_both first own
    ∙ ap (λ l. l ++ map entry own)
    (entries_of first ∙ ap (map (λ (f : ℕ × PlainModule). record { file = f.0; tree = f.1 })) are)

pub shipped_first : (first own all : List FileTree) → map file_says first ≡ shipped_files → all ≡ first
    ++ own → map entry all ≡ shipped_entries ++ map entry own
unfolding shipped_entries
shipped_first first own all are same = listed_first shipped_files first own all are same
