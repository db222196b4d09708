-- What the faults of the steps that judge a program come to.
use Rattle.std.proofs.Common.{◌≡◌, Bool, true, false, Option, Some, None, Err, ap, ◌∙◌, refl, sym, subst, ◌⊎◌, inl, inr}
use Rattle.std.specs.Option.{option_or}
use Rattle.au_classes.specs.declared.faults.ClassFault.TheVariants as classes
use Rattle.au_imports.specs.declared.faults.ImportFault.TheVariants as imports
use Rattle.au_modules.specs.declared.faults.ModuleFault.TheVariants as modules
use Rattle.au_sights.specs.declared.faults.TypeFault.TheVariants as typing
use Rattle.au_program_lives.specs.declared.faults.LinearFault.TheVariants as lives
use Rattle.au_rules.specs.declared.faults.DeclFault.TheVariants as rules
use Rattle.au_outcomes.specs.Outcomes.{is_behind}
use Rattle.au_outcomes.specs.Halts.{Says, is_read_halt, known_or_memory}
use Rattle.au_outcomes.specs.Programs.{class_outcome, declaration_outcome, import_outcome, judged_by, life_outcome}
use Rattle.au_outcomes.specs.Programs.{module_outcome, type_outcome}
use Rattle.au_outcomes.specs.declared.outcomes.Outcome.{Outcome}
use Rattle.au_outcomes.specs.declared.outcomes.Outcome.TheVariants as outcome
use Rattle.au_outcomes.proofs.HaltLemmas.{is_of_files}

-- ---- one of two, or neither

pub or_some : {A : Type 0} (o p : Option A) (x : A) → option_or o p ≡ Some x → (o ≡ Some x) ⊎ (p ≡ Some x)
or_some None p x h = inr h
or_some (Some y) p x h = inl h

-- whether an outcome is a refusal or a limit that is passed
abbrev pub is_early : Outcome → Bool
is_early (outcome.Passes limit) = true
is_early (outcome.Refused refusal) = true
is_early other = false

pub early_before : (x : Outcome) → is_early x ≡ true → is_behind x ≡ false
early_before (outcome.Passes limit) h = refl
early_before (outcome.Refused refusal) h = refl
early_before outcome.NoJob h = refl
early_before (outcome.Missing name) h = refl
early_before outcome.Accepted h = absurd (let e : false ≡ true = h in cc)
early_before (outcome.Explained lives) h = absurd (let e : false ≡ true = h in cc)
early_before (outcome.Laid text) h = refl
early_before (outcome.Reported report) h = absurd (let e : false ≡ true = h in cc)
early_before (outcome.Runs program) h = absurd (let e : false ≡ true = h in cc)
early_before (outcome.Compiles program) h = absurd (let e : false ≡ true = h in cc)

-- ---- what a kind of faults comes to

-- Only want of memory is no cause, and what any other fault comes to is a cause of the files, told before it is seen
-- what is asked.
pub record AreCauses {F : Type 0} (outcome_of : F → Option Outcome) (memory : F) : Type 0 where
  pub unknown : outcome_of memory ≡ None
  pub only : (e : F) → outcome_of e ≡ None → e ≡ memory
  pub before : (e : F) (x : Outcome) → outcome_of e ≡ Some x → is_early x ≡ true
  pub found : (e : F) (x : Outcome) → outcome_of e ≡ Some x → is_of_files x ≡ true

before_as : (o x : Outcome) → is_early o ≡ true → Some o ≡ Some x → is_early x ≡ true
before_as o x h e = let same : o ≡ x = cc in subst (λ z. is_early z ≡ true) same h

found_as : (o x : Outcome) → is_of_files o ≡ true → Some o ≡ Some x → is_of_files x ≡ true
found_as o x h e = let same : o ≡ x = cc in subst (λ z. is_of_files z ≡ true) same h

pub of_modules : AreCauses module_outcome modules.Memory
of_modules = record { unknown = refl; only = only; before = before; found = found }
  where
    only : (e : _) → module_outcome e ≡ None → e ≡ modules.Memory
    only (modules.TwiceGiven name) h = cc
    only (modules.NoBody name) h = cc
    only (modules.Unsafe at) h = cc
    only (modules.Limit limit) h = cc
    only modules.Memory h = refl

    before : (e : _) (x : Outcome) → module_outcome e ≡ Some x → is_early x ≡ true
    before (modules.TwiceGiven name) x h = before_as _ x refl h
    before (modules.NoBody name) x h = before_as _ x refl h
    before (modules.Unsafe at) x h = before_as _ x refl h
    before (modules.Limit limit) x h = before_as _ x refl h
    before modules.Memory x h = cc

    found : (e : _) (x : Outcome) → module_outcome e ≡ Some x → is_of_files x ≡ true
    found (modules.TwiceGiven name) x h = found_as _ x refl h
    found (modules.NoBody name) x h = found_as _ x refl h
    found (modules.Unsafe at) x h = found_as _ x refl h
    found (modules.Limit limit) x h = found_as _ x refl h
    found modules.Memory x h = cc

pub of_imports : AreCauses import_outcome imports.Memory
of_imports = record { unknown = refl; only = only; before = before; found = found }
  where
    only : (e : _) → import_outcome e ≡ None → e ≡ imports.Memory
    only (imports.NoModule at name) h = cc
    only (imports.Late at name) h = cc
    only (imports.NotVisible at name) h = cc
    only (imports.NameTwice at name) h = cc
    only (imports.NotDefined at name) h = cc
    only (imports.Differs at other name) h = cc
    only imports.Memory h = refl

    before : (e : _) (x : Outcome) → import_outcome e ≡ Some x → is_early x ≡ true
    before (imports.NoModule at name) x h = before_as _ x refl h
    before (imports.Late at name) x h = before_as _ x refl h
    before (imports.NotVisible at name) x h = before_as _ x refl h
    before (imports.NameTwice at name) x h = before_as _ x refl h
    before (imports.NotDefined at name) x h = before_as _ x refl h
    before (imports.Differs at other name) x h = before_as _ x refl h
    before imports.Memory x h = cc

    found : (e : _) (x : Outcome) → import_outcome e ≡ Some x → is_of_files x ≡ true
    found (imports.NoModule at name) x h = found_as _ x refl h
    found (imports.Late at name) x h = found_as _ x refl h
    found (imports.NotVisible at name) x h = found_as _ x refl h
    found (imports.NameTwice at name) x h = found_as _ x refl h
    found (imports.NotDefined at name) x h = found_as _ x refl h
    found (imports.Differs at other name) x h = found_as _ x refl h
    found imports.Memory x h = cc

pub of_declarations : AreCauses declaration_outcome rules.Memory
of_declarations = record { unknown = refl; only = only; before = before; found = found }
  where
    only : (e : _) → declaration_outcome e ≡ None → e ≡ rules.Memory
    only (rules.Again at name) h = cc
    only (rules.Malformed at) h = cc
    only (rules.EmptyUnion at) h = cc
    only (rules.UniverseBelow at) h = cc
    only (rules.Infinite at) h = cc
    only rules.Memory h = refl

    before : (e : _) (x : Outcome) → declaration_outcome e ≡ Some x → is_early x ≡ true
    before (rules.Again at name) x h = before_as _ x refl h
    before (rules.Malformed at) x h = before_as _ x refl h
    before (rules.EmptyUnion at) x h = before_as _ x refl h
    before (rules.UniverseBelow at) x h = before_as _ x refl h
    before (rules.Infinite at) x h = before_as _ x refl h
    before rules.Memory x h = cc

    found : (e : _) (x : Outcome) → declaration_outcome e ≡ Some x → is_of_files x ≡ true
    found (rules.Again at name) x h = found_as _ x refl h
    found (rules.Malformed at) x h = found_as _ x refl h
    found (rules.EmptyUnion at) x h = found_as _ x refl h
    found (rules.UniverseBelow at) x h = found_as _ x refl h
    found (rules.Infinite at) x h = found_as _ x refl h
    found rules.Memory x h = cc

pub of_instances : AreCauses class_outcome classes.Memory
of_instances = record { unknown = refl; only = only; before = before; found = found }
  where
    only : (e : _) → class_outcome e ≡ None → e ≡ classes.Memory
    only (classes.BadHead at) h = cc
    only (classes.Orphan at) h = cc
    only (classes.Overlap at other) h = cc
    only (classes.MethodDiffers at) h = cc
    only classes.Memory h = refl

    before : (e : _) (x : Outcome) → class_outcome e ≡ Some x → is_early x ≡ true
    before (classes.BadHead at) x h = before_as _ x refl h
    before (classes.Orphan at) x h = before_as _ x refl h
    before (classes.Overlap at other) x h = before_as _ x refl h
    before (classes.MethodDiffers at) x h = before_as _ x refl h
    before classes.Memory x h = cc

    found : (e : _) (x : Outcome) → class_outcome e ≡ Some x → is_of_files x ≡ true
    found (classes.BadHead at) x h = found_as _ x refl h
    found (classes.Orphan at) x h = found_as _ x refl h
    found (classes.Overlap at other) x h = found_as _ x refl h
    found (classes.MethodDiffers at) x h = found_as _ x refl h
    found classes.Memory x h = cc

pub of_types : AreCauses type_outcome typing.Memory
of_types = record { unknown = refl; only = only; before = before; found = found }
  where
    only : (e : _) → type_outcome e ≡ None → e ≡ typing.Memory
    only (typing.Statement at why) h = cc
    only (typing.Limit limit) h = cc
    only typing.Memory h = refl

    before : (e : _) (x : Outcome) → type_outcome e ≡ Some x → is_early x ≡ true
    before (typing.Statement at why) x h = before_as _ x refl h
    before (typing.Limit limit) x h = before_as _ x refl h
    before typing.Memory x h = cc

    found : (e : _) (x : Outcome) → type_outcome e ≡ Some x → is_of_files x ≡ true
    found (typing.Statement at why) x h = found_as _ x refl h
    found (typing.Limit limit) x h = found_as _ x refl h
    found typing.Memory x h = cc

pub of_lives : AreCauses life_outcome lives.Memory
of_lives = record { unknown = refl; only = only; before = before; found = found }
  where
    only : (e : _) → life_outcome e ≡ None → e ≡ lives.Memory
    only (lives.Life function variable at kind path) h = cc
    only (lives.InLoop variable at) h = cc
    only (lives.InPart variable at) h = cc
    only lives.Memory h = refl

    before : (e : _) (x : Outcome) → life_outcome e ≡ Some x → is_early x ≡ true
    before (lives.Life function variable at kind path) x h = before_as _ x refl h
    before (lives.InLoop variable at) x h = before_as _ x refl h
    before (lives.InPart variable at) x h = before_as _ x refl h
    before lives.Memory x h = cc

    found : (e : _) (x : Outcome) → life_outcome e ≡ Some x → is_of_files x ≡ true
    found (lives.Life function variable at kind path) x h = found_as _ x refl h
    found (lives.InLoop variable at) x h = found_as _ x refl h
    found (lives.InPart variable at) x h = found_as _ x refl h
    found lives.Memory x h = cc

-- ---- what is judged by such faults

-- what is known isn't that the shelf failed, and neither is want of memory
pub unread : (T : Type 0) (o : Option Outcome) → is_read_halt {T = T} (Err (known_or_memory o)) ≡ false
unread T (Some x) = refl
unread T None = refl

module _ {F : Type 0} (outcome_of : F → Option Outcome) (memory : F) (causes : AreCauses outcome_of memory) where
  pub judged_none : (r : Option F) → (r ≡ Some memory → ⊥) → judged_by outcome_of r ≡ None → r ≡ None
  judged_none None unwanted h = refl
  judged_none (Some e) unwanted h = absurd (unwanted (ap Some (causes.only e h)))

  pub judged_before : (r : Option F) (x : Outcome) → judged_by outcome_of r ≡ Some x → is_early x ≡ true
  judged_before None x h = cc
  judged_before (Some e) x h = causes.before e x h

  pub judged_found : (r : Option F) (x : Outcome) → judged_by outcome_of r ≡ Some x → is_of_files x ≡ true
  judged_found None x h = cc
  judged_found (Some e) x h = causes.found e x h

  -- a fault that is found is known to be what the program comes to, unless it is want of memory
  caused : (e : F) (r : Option F) (x : Outcome) → (e ≡ memory) ⊎ (r ≡ Some e) → outcome_of e ≡ Some x →
      judged_by outcome_of r ≡ Some x
  caused e r x (inl p) h =
      let never : None ≡ Some x = sym (ap outcome_of p ∙ causes.unknown) ∙ h in cc
  caused e r x (inr p) h = ap (judged_by outcome_of) p ∙ h

  says_by : {T : Type 0} (e : F) (r : Option F) (G : T → Type 0) (B : Outcome → Type 0) (o : Option Outcome)
      → outcome_of e ≡ o → (e ≡ memory) ⊎ (r ≡ Some e)
      → ((x : Outcome) → judged_by outcome_of r ≡ Some x → B x)
      → Says {T = T} (Err (known_or_memory o)) G B
  says_by e r G B None same either known = tt
  says_by e r G B (Some x) same either known = known x (caused e r x either same)

  pub judged_says : {T : Type 0} (e : F) (r : Option F) (G : T → Type 0) (B : Outcome → Type 0)
      → (e ≡ memory) ⊎ (r ≡ Some e)
      → ((x : Outcome) → judged_by outcome_of r ≡ Some x → B x)
      → Says {T = T} (Err (known_or_memory (outcome_of e))) G B
  judged_says e r G B either known = says_by e r G B (outcome_of e) refl either known
