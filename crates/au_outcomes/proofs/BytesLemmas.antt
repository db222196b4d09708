-- The bytes of files come to one thing.
use Rattle.std.proofs.Common.{◌≡◌, ℕ, true, List, [], ◌∷◌, ◌++◌, Option, Some, None, ap, ap₂, ◌∙◌, sym, refl, subst}
use Rattle.std.proofs.Common.{◌⊎◌, inl, inr}
use Rattle.au_format.proofs.LawLemmas.{one_layout}
use Rattle.au_classes.specs.declared.faults.ClassFault.TheVariants as classes
use Rattle.au_classes.specs.Faults.{instance_fault}
use Rattle.au_imports.specs.declared.faults.ImportFault.TheVariants as imports
use Rattle.au_imports.specs.Importing as importing
use Rattle.au_modules.specs.declared.faults.ModuleFault.TheVariants as modules
use Rattle.au_modules.specs.Programs as programs
use Rattle.au_modules.specs.Programs.{Entry, ModuleParts, modules_of}
use Rattle.au_sights.specs.declared.faults.TypeFault.TheVariants as typing
use Rattle.au_explain.specs.Faults.{type_fault}
use Rattle.au_program_lives.specs.declared.faults.LinearFault.TheVariants as lives
use Rattle.au_program_lives.specs.LinearFaults.{linear_fault}
use Rattle.au_rules.specs.declared.faults.DeclFault.TheVariants as rules
use Rattle.au_rules.specs.DeclFaults.{decl_fault}
use Rattle.au_outcomes.specs.Layouts.{AreLaid, LaidCome}
use Rattle.au_outcomes.specs.Outcomes.{AskedCome, BytesCome}
use Rattle.au_outcomes.specs.Programs.{AcceptedCome, AreOne, CompileComes, ReadsCome, ReportComes, RunComes}
use Rattle.au_outcomes.specs.Programs.{bodies_outcome, class_outcome, declaration_outcome, import_outcome, judged_by}
use Rattle.au_accepted.specs.Programs.{program_files, program_modules}
use Rattle.au_outcomes.specs.Programs.{life_outcome, module_outcome, modules_outcome}
use Rattle.au_outcomes.specs.Programs.{program_outcome, type_outcome}
use Rattle.au_accepted.specs.Trees.{ReadFile}
use Rattle.au_outcomes.specs.declared.outcomes.Aim.{Aim}
use Rattle.au_outcomes.specs.declared.outcomes.Aim.TheVariants as aims
use Rattle.au_outcomes.specs.declared.outcomes.Outcome.{Outcome}
use Rattle.au_outcomes.specs.declared.outcomes.Outcome.TheVariants as outcome
use Rattle.au_outcomes.specs.declared.refusals.Refusal.TheVariants as refusal
use Rattle.au_outcomes.proofs.ReportLemmas.{reports_same}
use Rattle.au_outcomes.proofs.FaultLemmas.{judged_found, of_declarations, of_imports, of_instances, of_lives}
use Rattle.au_outcomes.proofs.FaultLemmas.{of_modules, of_types, or_some}
use Rattle.au_outcomes.proofs.HaltLemmas.{is_of_files, are_read_same, first_found, first_halts_or_read}
use Rattle.au_outcomes.proofs.HaltLemmas.{first_halts_same}

-- ---- two outcomes are one

one_self : (x : Outcome) → AreOne x x
one_self outcome.NoJob = refl
one_self (outcome.Missing name) = refl
one_self (outcome.Passes limit) = refl
one_self (outcome.Refused refusal) = refl
one_self outcome.Accepted = refl
one_self (outcome.Explained lives) = refl
one_self (outcome.Laid text) = refl
one_self (outcome.Reported report) = refl
one_self (outcome.Runs program) = refl
one_self (outcome.Compiles program) = refl

pub are_one : (x y : Outcome) → x ≡ y → AreOne x y
are_one x y same = subst (λ z. AreOne x z) same (one_self x)

-- what is judged is one thing
one_some : {A : Type 0} (o : Option A) (x y : A) → o ≡ Some x → o ≡ Some y → x ≡ y
one_some o x y a b = let e : Some x ≡ Some y = sym a ∙ b in cc

some_or_none : {A : Type 0} (o : Option A) (x : A) → o ≡ Some x → o ≡ None → ⊥
some_or_none o x a b = let e : Some x ≡ None = sym a ∙ b in cc

-- ---- files that were read

-- what an accepted program comes to that is asked to run is one thing
run_same : (reads : List ReadFile) (x y : Outcome) → RunComes reads x → RunComes reads y → AreOne x y
run_same reads (outcome.Runs program) (outcome.Runs other) a b = a ∙ sym b
run_same reads (outcome.Runs program) other a b = absurd b
run_same reads other y a b = absurd a

-- and what one comes to that is asked to be compiled
compile_same : (reads : List ReadFile) (x y : Outcome) → CompileComes reads x → CompileComes reads y
    → AreOne x y
compile_same reads (outcome.Compiles program) (outcome.Compiles other) a b = a ∙ sym b
compile_same reads (outcome.Compiles program) other a b = absurd b
compile_same reads other y a b = absurd a

-- and what one comes to that is asked what it can do with capabilities
report_same : (program : List ModuleParts) (x y : Outcome) → ReportComes program x → ReportComes program y → AreOne x y
report_same program (outcome.Reported report) (outcome.Reported other) a b =
    are_one (outcome.Reported report) (outcome.Reported other)
    (ap outcome.Reported (reports_same program a.0 b.0 report other a.1 b.1 a.2 b.2))
report_same program (outcome.Reported report) other a b = absurd b
report_same program other y a b = absurd a

-- what accepted files come to is one thing
accepted_same : (aim : Aim) (reads : List ReadFile) (x y : Outcome) → AcceptedCome aim reads x
    → AcceptedCome aim reads y → AreOne x y
accepted_same aims.Run reads x y a b = run_same reads x y a b
accepted_same aims.Compile reads x y a b = compile_same reads x y a b
accepted_same aims.Check reads x y a b = are_one x y (a ∙ sym b)
accepted_same aims.Explain reads x y a b = are_one x y (a ∙ sym b)
accepted_same aims.Format reads x y a b = are_one x y (a ∙ sym b)
accepted_same aims.Caps reads x y a b = report_same (program_modules reads) x y a b

-- files that were read come to one thing
reads_same : (aim : Aim) (reads : List ReadFile) (x y : Outcome) → ReadsCome aim reads x → ReadsCome aim reads y
    → AreOne x y
reads_same aim reads x y a b =
    let judged = program_outcome (program_files reads) in
    elim a [
      | inl p ↦ elim b [
        | inl q ↦ are_one x y (one_some judged x y p q)
        | inr q ↦ absurd (some_or_none judged x p q.0)
      ]
      | inr p ↦ elim b [
        | inl q ↦ absurd (some_or_none judged y q p.0)
        | inr q ↦ accepted_same aim reads x y p.1 q.1
      ]
    ]

-- what files come to that are laid out is one thing
layouts_same : (all : List (List ℕ)) (x y : List ℕ) → AreLaid all x → AreLaid all y → x ≡ y
layouts_same [] x y a b = a ∙ sym b
layouts_same (bytes ∷ all) x y a b =
    let first : a.0 ≡ b.0 = one_layout bytes a.0 b.0 a.2 b.2 in
    let rest : a.1 ≡ b.1 = layouts_same all a.1 b.1 a.3 b.3 in
    a.4 ∙ ap₂ (λ one other. one ++ other) first rest ∙ sym b.4

laid_same : (all : List (List ℕ)) (x y : Outcome) → LaidCome all x → LaidCome all y → AreOne x y
laid_same all (outcome.Laid text) (outcome.Laid other) a b =
    are_one (outcome.Laid text) (outcome.Laid other) (ap outcome.Laid (layouts_same all text other a b))
laid_same all (outcome.Laid text) other a b = absurd b
laid_same all other y a b = absurd a

-- files that were read come to one thing, whatever is asked
asked_same : (aim : Aim) (all : List (List ℕ)) (reads : List ReadFile) (x y : Outcome) → AskedCome aim all reads x
    → AskedCome aim all reads y → AreOne x y
asked_same aims.Run all reads x y a b = reads_same aims.Run reads x y a b
asked_same aims.Compile all reads x y a b = reads_same aims.Compile reads x y a b
asked_same aims.Check all reads x y a b = reads_same aims.Check reads x y a b
asked_same aims.Explain all reads x y a b = reads_same aims.Explain reads x y a b
asked_same aims.Format all reads x y a b = laid_same all x y a b
asked_same aims.Caps all reads x y a b = reads_same aims.Caps reads x y a b

-- the bytes of files come to one thing
pub bytes_same : (aim : Aim) (all : List (List ℕ)) (x y : Outcome) → BytesCome aim all x → BytesCome aim all y
    → AreOne x y
bytes_same aim all x y a b = elim a [
  | inl p ↦ elim b [
    | inl q ↦ are_one x y (first_halts_same 0 all x y p q)
    | inr q ↦ absurd (first_halts_or_read 0 all x q.0 p q.1)
  ]
  | inr p ↦ elim b [
    | inl q ↦ absurd (first_halts_or_read 0 all y p.0 q p.1)
    | inr q ↦
        asked_same aim all p.0 x y p.2
        (subst (λ rs. AskedCome aim all rs y) (are_read_same 0 all q.0 p.0 q.1 p.1) q.2)
  ]
]

-- ---- what comes from the bytes of files

bodies_found : (parts : List ModuleParts) (x : Outcome) → bodies_outcome parts ≡ Some x → is_of_files x ≡ true
unfolding bodies_outcome
bodies_found parts x h = elim (or_some (judged_by class_outcome (instance_fault parts)) _ x h) [
  | inl p ↦ judged_found class_outcome classes.Memory of_instances (instance_fault parts) x p
  | inr p ↦ elim (or_some (judged_by type_outcome (type_fault parts)) _ x p) [
    | inl q ↦ judged_found type_outcome typing.Memory of_types (type_fault parts) x q
    | inr q ↦ judged_found life_outcome lives.Memory of_lives (linear_fault parts) x q
  ]
]

modules_found : (parts : List ModuleParts) (x : Outcome) → modules_outcome parts ≡ Some x → is_of_files x ≡ true
unfolding modules_outcome
modules_found parts x h = elim (or_some (judged_by import_outcome (importing.refusal_of parts)) _ x h) [
  | inl p ↦ judged_found import_outcome imports.Memory of_imports (importing.refusal_of parts) x p
  | inr p ↦ elim (or_some (judged_by declaration_outcome (decl_fault parts)) _ x p) [
    | inl q ↦ judged_found declaration_outcome rules.Memory of_declarations (decl_fault parts) x q
    | inr q ↦ bodies_found parts x q
  ]
]

program_found : (files : List Entry) (x : Outcome) → program_outcome files ≡ Some x → is_of_files x ≡ true
unfolding program_outcome
program_found files x h = elim (or_some (judged_by module_outcome (programs.refusal_of files)) _ x h) [
  | inl p ↦ judged_found module_outcome modules.Memory of_modules (programs.refusal_of files) x p
  | inr p ↦ modules_found (modules_of files) x p
]

run_found : (reads : List ReadFile) (x : Outcome) → RunComes reads x → is_of_files x ≡ true
run_found reads (outcome.Runs program) h = refl
run_found reads other h = absurd h

compile_found : (reads : List ReadFile) (x : Outcome) → CompileComes reads x → is_of_files x ≡ true
compile_found reads (outcome.Compiles program) h = refl
compile_found reads other h = absurd h

report_found : (program : List ModuleParts) (x : Outcome) → ReportComes program x → is_of_files x ≡ true
report_found program (outcome.Reported report) h = refl
report_found program other h = absurd h

accepted_found : (aim : Aim) (reads : List ReadFile) (x : Outcome) → AcceptedCome aim reads x
    → is_of_files x ≡ true
accepted_found aims.Run reads x h = run_found reads x h
accepted_found aims.Compile reads x h = compile_found reads x h
accepted_found aims.Check reads x h = ap is_of_files h
accepted_found aims.Explain reads x h = ap is_of_files h
accepted_found aims.Format reads x h = ap is_of_files h
accepted_found aims.Caps reads x h = report_found (program_modules reads) x h

reads_found : (aim : Aim) (reads : List ReadFile) (x : Outcome) → ReadsCome aim reads x → is_of_files x ≡ true
reads_found aim reads x h = elim h [
  | inl p ↦ program_found (program_files reads) x p
  | inr p ↦ accepted_found aim reads x p.1
]

laid_found : (all : List (List ℕ)) (x : Outcome) → LaidCome all x → is_of_files x ≡ true
laid_found all (outcome.Laid text) h = refl
laid_found all other h = absurd h

asked_found : (aim : Aim) (all : List (List ℕ)) (reads : List ReadFile) (x : Outcome) → AskedCome aim all reads x
    → is_of_files x ≡ true
asked_found aims.Run all reads x h = reads_found aims.Run reads x h
asked_found aims.Compile all reads x h = reads_found aims.Compile reads x h
asked_found aims.Check all reads x h = reads_found aims.Check reads x h
asked_found aims.Explain all reads x h = reads_found aims.Explain reads x h
asked_found aims.Format all reads x h = laid_found all x h
asked_found aims.Caps all reads x h = reads_found aims.Caps reads x h

pub bytes_found : (aim : Aim) (all : List (List ℕ)) (x : Outcome) → BytesCome aim all x → is_of_files x ≡ true
bytes_found aim all x h = elim h [
  | inl p ↦ first_found 0 all x p
  | inr p ↦ asked_found aim all p.0 x p.2
]
