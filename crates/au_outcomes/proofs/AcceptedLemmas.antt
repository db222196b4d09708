-- Files come to something behind the steps that judge whether they are accepted exactly where they are.
use Rattle.std.proofs.Common.{◌≡◌, ℕ, ◌+◌, Bool, true, false, List, [], ◌∷◌, ◌++◌, length, map, Option, Some}
use Rattle.std.proofs.Common.{None, ap, ◌∙◌, sym, refl, subst, inl, inr}
use Rattle.std.specs.Prelude.{if◌then◌else◌}
use Rattle.std.specs.Option.{option_map, option_or}
use Rattle.au_base.specs.declared.limits.Limit.{Limit as Passed}
use Rattle.au_base.specs.declared.places.Pos.{Pos}
use Rattle.au_base.specs.Outside.{Files}
use Rattle.au_base.proofs.BoolLemmas.{never_both}
use Rattle.au_base.proofs.OptionLemmas.{or_first, or_second}
use Rattle.au_classes.specs.declared.faults.ClassFault.TheVariants as classes
use Rattle.au_classes.specs.Faults.{instance_fault}
use Rattle.au_classes.specs.Good.{InstancesAreGood}
use Rattle.au_classes.proofs.AcceptedLemmas as standing
use Rattle.au_imports.specs.declared.faults.ImportFault.TheVariants as imports
use Rattle.au_imports.specs.Good.{IsGood}
use Rattle.au_imports.specs.Importing as importing
use Rattle.au_imports.specs.Importing.{of_names, of_promises}
use Rattle.au_imports.proofs.GoodLemmas.{good_accepted, good_from}
use Rattle.au_modules.specs.Accepted.{IsProgram}
use Rattle.au_modules.specs.declared.faults.ModuleFault.{ModuleFault}
use Rattle.au_modules.specs.declared.faults.ModuleFault.TheVariants as modules
use Rattle.au_modules.specs.declared.parts.Given.{Given}
use Rattle.au_modules.specs.Programs as programs
use Rattle.au_modules.specs.Programs.{Entry, ModuleParts, body_fault, fault_in, first_again, first_bodiless}
use Rattle.au_modules.specs.Programs.{first_fault, given, is_again, is_shipped, lacks_body, modules_of}
use Rattle.au_modules.specs.Programs.{pragma_fault}
use Rattle.au_modules.proofs.ProgramLemmas.{program_accepted, program_from}
use Rattle.au_imports.specs.declared.name_faults.NameFault.{NameFault}
use Rattle.au_imports.specs.declared.name_faults.NameFault.TheVariants as names
use Rattle.au_imports.specs.NameFaults.{name_fault}
use Rattle.au_promises.specs.declared.faults.PromiseFault.{PromiseFault}
use Rattle.au_promises.specs.declared.faults.PromiseFault.TheVariants as promises
use Rattle.au_promises.specs.Promises.{promise_fault}
use Rattle.au_typing.specs.Trees.{NotedParts}
use Rattle.au_sights.specs.declared.faults.TypeFault.TheVariants as types
use Rattle.au_explain.specs.Faults.{IsDerived, type_fault}
use Rattle.au_explain.proofs.AcceptedLemmas as typing
use Rattle.au_program_lives.specs.declared.faults.LinearFault.TheVariants as lives
use Rattle.au_program_lives.specs.Good.{AllLivesAreGood}
use Rattle.au_program_lives.specs.LinearFaults.{linear_fault}
use Rattle.au_program_lives.proofs.AcceptedLemmas as living
use Rattle.au_program_lives.proofs.GoodLemmas as living_well
use Rattle.au_rules.specs.declared.faults.DeclFault.TheVariants as rules
use Rattle.au_rules.specs.DeclFaults.{decl_fault}
use Rattle.au_rules.specs.Good.{AllDeclarationsAreGood}
use Rattle.au_rules.proofs.AcceptedLemmas as declaring
use Rattle.au_accepted.specs.Accepted.{Accepted, AreAcceptedAs}
use Rattle.au_outcomes.specs.Outcomes.{AskedCome, BytesCome, Comes, IsFirst, is_behind, judges}
use Rattle.au_outcomes.specs.Halts.{IsUnhad}
use Rattle.au_outcomes.specs.Layouts.{LaidCome}
use Rattle.au_outcomes.specs.Programs.{AcceptedCome, CompileComes, ReadsCome, ReportComes, RunComes, bodies_outcome}
use Rattle.au_outcomes.specs.Programs.{class_outcome, declaration_outcome, import_outcome, judged_by, life_outcome}
use Rattle.au_accepted.specs.Programs.{program_files, program_modules}
use Rattle.au_outcomes.specs.Programs.{module_outcome, modules_outcome}
use Rattle.au_outcomes.specs.Programs.{program_outcome, type_outcome}
use Rattle.au_accepted.specs.Trees.{AreRead, ReadFile}
use Rattle.au_outcomes.specs.Trees.{FirstHalts, Halts}
use Rattle.au_outcomes.specs.declared.outcomes.Aim.{Aim}
use Rattle.au_outcomes.specs.declared.outcomes.Aim.TheVariants as aims
use Rattle.au_outcomes.specs.declared.outcomes.Outcome.{Outcome}
use Rattle.au_outcomes.specs.declared.outcomes.Outcome.TheVariants as outcome
use Rattle.au_outcomes.specs.declared.refusals.Refusal.TheVariants as refusal
use Rattle.au_syntax.specs.Plain.{Bytes}
use Rattle.au_outcomes.proofs.FetchLemmas.{few_had, files_few}
use Rattle.au_outcomes.proofs.HaltLemmas.{are_read_same, first_halts_or_read}
use Rattle.au_outcomes.proofs.FaultLemmas as causes
use Rattle.au_outcomes.proofs.FaultLemmas.{judged_none, of_declarations, of_imports, of_instances, of_lives, of_modules}
use Rattle.au_outcomes.proofs.FaultLemmas.{early_before, is_early, of_types, or_some}
use Rattle.au_outcomes.proofs.JudgeLemmas.{bodies_good, modules_are, program_is}
use Rattle.au_outcomes.proofs.NameLemmas.{files_same, first_or_files, many_or_few}
use Rattle.au_outcomes.proofs.BytesLemmas.{bytes_found}

-- ---- files and modules are never refused for want of memory

alone_unwanted : (shipped : Bool) (pragma : Option Pos) (limit : Option Passed) →
    option_or (pragma_fault shipped pragma) (option_map modules.Limit limit) ≡ Some modules.Memory → ⊥
alone_unwanted true pragma None h = cc
alone_unwanted true pragma (Some limit) h = cc
alone_unwanted false None None h = cc
alone_unwanted false None (Some limit) h = cc
alone_unwanted false (Some at) limit h = cc

first_unwanted : (files : List Entry) → first_fault files ≡ Some modules.Memory → ⊥
first_unwanted [] h = cc
first_unwanted (e ∷ files) h = elim (or_some (fault_in e) (first_fault files) modules.Memory h) [
  | inl p ↦ alone_unwanted (is_shipped e) e.tree.pragma _ p
  | inr p ↦ first_unwanted files p
]

given_twice : (b : Bool) (name : Bytes) (o : Option ModuleFault) →
    (if b then Some (modules.TwiceGiven name) else o) ≡ Some modules.Memory → o ≡ Some modules.Memory
given_twice true name o h = cc
given_twice false name o h = h

again_unwanted : (before rest : List Given) → first_again before rest ≡ Some modules.Memory → ⊥
again_unwanted before [] h = cc
again_unwanted before (g ∷ rest) h = again_unwanted (before ++ g ∷ []) rest
    (given_twice (is_again before g) g.name (first_again (before ++ g ∷ []) rest) h)

bodiless_unwanted : (found : Option Given) → option_map body_fault found ≡ Some modules.Memory → ⊥
bodiless_unwanted None h = cc
bodiless_unwanted (Some g) h = cc

modules_unwanted : (files : List Entry) → programs.refusal_of files ≡ Some modules.Memory → ⊥
modules_unwanted files h = elim (or_some (first_fault files) _ modules.Memory h) [
  | inl p ↦ first_unwanted files p
  | inr p ↦ elim (or_some (first_again [] (map given files)) _ modules.Memory p) [
    | inl q ↦ again_unwanted [] (map given files) q
    | inr q ↦ bodiless_unwanted _ q
  ]
]

names_unwanted : (n : Option NameFault) (p : Option PromiseFault) →
    option_or (option_map of_names n) (option_map of_promises p) ≡ Some imports.Memory → ⊥
names_unwanted None None h = cc
names_unwanted None (Some (promises.NotDefined at name)) h = cc
names_unwanted None (Some (promises.Differs at other name)) h = cc
names_unwanted (Some (names.NoModule at name)) p h = cc
names_unwanted (Some (names.Late at name)) p h = cc
names_unwanted (Some (names.NotVisible at name)) p h = cc
names_unwanted (Some (names.NameTwice at name)) p h = cc

-- ---- a program that comes to nothing before it is seen what is asked

-- all that is judged of what stands in the bodies of a program
record AreGoodInside (parts : List ModuleParts) : Type 0 where
  instances : InstancesAreGood parts
  noted : List NotedParts
  derives : IsDerived parts noted
  lives : AllLivesAreGood parts

-- all that is judged of its modules
record AreGood (parts : List ModuleParts) : Type 0 where
  names : IsGood parts
  declared : AllDeclarationsAreGood parts
  inside : AreGoodInside parts

typed_inside : (parts : List ModuleParts) → InstancesAreGood parts → type_fault parts ≡ None
    → linear_fault parts ≡ None → AreGoodInside parts
typed_inside parts good types none =
    let found = typing.good_from parts types in
    record {
      instances = good;
      noted = found.0;
      derives = found.1;
      lives = living_well.good_from parts none;
    }

bodies_judged : (parts : List ModuleParts) → bodies_outcome parts ≡ None → AreGoodInside parts
unfolding bodies_outcome
bodies_judged parts h =
    let behind = or_second (judged_by class_outcome (instance_fault parts)) _ h in
    typed_inside parts
    (standing.good_from parts (judged_none class_outcome classes.Memory of_instances (instance_fault parts)
    (standing.unwanted parts) (or_first (judged_by class_outcome (instance_fault parts)) _ h)))
    (judged_none type_outcome types.Memory of_types (type_fault parts) (typing.unwanted parts)
    (or_first (judged_by type_outcome (type_fault parts)) _ behind))
    (judged_none life_outcome lives.Memory of_lives (linear_fault parts) (living.unwanted parts)
    (or_second (judged_by type_outcome (type_fault parts)) _ behind))

modules_judged : (parts : List ModuleParts) → modules_outcome parts ≡ None → AreGood parts
unfolding modules_outcome
modules_judged parts h =
    let behind = or_second (judged_by import_outcome (importing.refusal_of parts)) _ h in
    record {
      names =
          good_from parts (judged_none import_outcome imports.Memory of_imports (importing.refusal_of parts)
          (names_unwanted (name_fault parts) (promise_fault parts))
          (or_first (judged_by import_outcome (importing.refusal_of parts)) _ h));
      declared =
          declaring.good_from parts (judged_none declaration_outcome rules.Memory of_declarations (decl_fault parts)
          (declaring.unwanted parts) (or_first (judged_by declaration_outcome (decl_fault parts)) _ behind));
      inside =
          bodies_judged parts (or_second (judged_by declaration_outcome (decl_fault parts)) _ behind);
    }

good_judged : (files : List Entry) → program_outcome files ≡ None → IsProgram files × AreGood (modules_of files)
unfolding program_outcome
good_judged files h =
    let first = or_first (judged_by module_outcome (programs.refusal_of files)) _ h in
    let second = or_second (judged_by module_outcome (programs.refusal_of files)) _ h in (
      program_from files (judged_none module_outcome modules.Memory of_modules (programs.refusal_of files)
          (modules_unwanted files) first),
      modules_judged (modules_of files) second,
    )

inside_accepted : (parts : List ModuleParts) → AreGoodInside parts → bodies_outcome parts ≡ None
inside_accepted parts good =
    bodies_good parts (standing.good_accepted parts good.instances)
    (typing.good_accepted parts (good.noted, good.derives))
    (living_well.good_accepted parts good.lives)

judged_accepted : (files : List Entry) → IsProgram files → AreGood (modules_of files) → program_outcome files ≡ None
judged_accepted files program good =
    program_is files files (modules_of files) refl refl (program_accepted files program)
    ∙ modules_are (modules_of files) (good_accepted (modules_of files) good.names)
    (declaring.good_accepted (modules_of files) good.declared)
    ∙ inside_accepted (modules_of files) good.inside

-- ---- what comes before, and what comes behind

halts_before : (file : ℕ) (bytes : List ℕ) (x : Outcome) → Halts file bytes x → is_behind x ≡ false
halts_before file bytes (outcome.Passes limit) h = refl
halts_before file bytes (outcome.Refused (refusal.Byte at)) h = refl
halts_before file bytes (outcome.Refused (refusal.Syntax at)) h = refl
halts_before file bytes other h = absurd h

first_halts_before : (file : ℕ) (all : List (List ℕ)) (x : Outcome) → FirstHalts file all x → is_behind x ≡ false
first_halts_before file [] x h = absurd h
first_halts_before file (bytes ∷ all) x h = elim h [
  | inl p ↦ halts_before file bytes x p
  | inr p ↦ first_halts_before (file + 1) all x p.1
]

unhad_before : (files : Files) (name : List ℕ) (x : Outcome) → IsUnhad files name x → is_behind x ≡ false
unhad_before files name (outcome.Missing other) h = refl
unhad_before files name (outcome.Passes limit) h = refl
unhad_before files name other h = absurd h

first_unhad_before : (files : Files) (names : List (List ℕ)) (x : Outcome) →
    IsFirst (λ one. IsUnhad files one x) files names → is_behind x ≡ false
first_unhad_before files [] x h = absurd h
first_unhad_before files (name ∷ names) x h = elim h [
  | inl p ↦ unhad_before files name x p
  | inr p ↦ first_unhad_before files names x p.1
]

bodies_before : (parts : List ModuleParts) (x : Outcome) → bodies_outcome parts ≡ Some x → is_early x ≡ true
unfolding bodies_outcome
bodies_before parts x h = elim (or_some (judged_by class_outcome (instance_fault parts)) _ x h) [
  | inl p ↦ causes.judged_before class_outcome classes.Memory of_instances (instance_fault parts) x p
  | inr p ↦ elim (or_some (judged_by type_outcome (type_fault parts)) _ x p) [
    | inl q ↦ causes.judged_before type_outcome types.Memory of_types (type_fault parts) x q
    | inr q ↦ causes.judged_before life_outcome lives.Memory of_lives (linear_fault parts) x q
  ]
]

modules_before : (parts : List ModuleParts) (x : Outcome) → modules_outcome parts ≡ Some x → is_early x ≡ true
unfolding modules_outcome
modules_before parts x h = elim (or_some (judged_by import_outcome (importing.refusal_of parts)) _ x h) [
  | inl p ↦ causes.judged_before import_outcome imports.Memory of_imports (importing.refusal_of parts) x p
  | inr p ↦ elim (or_some (judged_by declaration_outcome (decl_fault parts)) _ x p) [
    | inl q ↦ causes.judged_before declaration_outcome rules.Memory of_declarations (decl_fault parts) x q
    | inr q ↦ bodies_before parts x q
  ]
]

pub judged_before : (files : List Entry) (x : Outcome) → program_outcome files ≡ Some x → is_early x ≡ true
unfolding program_outcome
judged_before files x h = elim (or_some (judged_by module_outcome (programs.refusal_of files)) _ x h) [
  | inl p ↦ causes.judged_before module_outcome modules.Memory of_modules (programs.refusal_of files) x p
  | inr p ↦ modules_before (modules_of files) x p
]

run_behind : (reads : List ReadFile) (x : Outcome) → RunComes reads x → is_behind x ≡ true
run_behind reads (outcome.Runs program) h = refl
run_behind reads other h = absurd h

compile_behind : (reads : List ReadFile) (x : Outcome) → CompileComes reads x → is_behind x ≡ true
compile_behind reads (outcome.Compiles program) h = refl
compile_behind reads other h = absurd h

report_behind : (program : List ModuleParts) (x : Outcome) → ReportComes program x → is_behind x ≡ true
report_behind program (outcome.Reported report) h = refl
report_behind program other h = absurd h

accepted_come_behind : (aim : Aim) (reads : List ReadFile) (x : Outcome) → AcceptedCome aim reads x
    → is_behind x ≡ true
accepted_come_behind aims.Run reads x h = run_behind reads x h
accepted_come_behind aims.Compile reads x h = compile_behind reads x h
accepted_come_behind aims.Check reads x h = ap is_behind h
accepted_come_behind aims.Explain reads x h = ap is_behind h
accepted_come_behind aims.Format reads x h = ap is_behind h
accepted_come_behind aims.Caps reads x h = report_behind (program_modules reads) x h

-- ---- accepted files

-- nothing is refused of them before it is seen what is asked
accepted_none : (files : Files) (names all : List (List ℕ)) (reads : List ReadFile) →
    AreAcceptedAs files names all reads → program_outcome (program_files reads) ≡ None
accepted_none files names all reads good =
    judged_accepted (program_files reads) good.program (record {
      names = record { names = good.named; promises = good.kept };
      declared = good.declared;
      inside = record {
        instances = good.instances;
        noted = good.noted;
        derives = good.derives;
        lives = good.lives;
      };
    })

-- files that are judged come to what is judged
judged_come : (aim : Aim) (all : List (List ℕ)) (reads : List ReadFile) (x : Outcome) → judges aim ≡ true
    → ReadsCome aim reads x → AskedCome aim all reads x
judged_come aims.Run all reads x judged h = h
judged_come aims.Compile all reads x judged h = h
judged_come aims.Check all reads x judged h = h
judged_come aims.Explain all reads x judged h = h
judged_come aims.Format all reads x judged h = absurd (let e : false ≡ true = judged in cc)
judged_come aims.Caps all reads x judged h = h

come_judged : (aim : Aim) (all : List (List ℕ)) (reads : List ReadFile) (x : Outcome) → judges aim ≡ true
    → AskedCome aim all reads x → ReadsCome aim reads x
come_judged aims.Run all reads x judged h = h
come_judged aims.Compile all reads x judged h = h
come_judged aims.Check all reads x judged h = h
come_judged aims.Explain all reads x judged h = h
come_judged aims.Format all reads x judged h = absurd (let e : false ≡ true = judged in cc)
come_judged aims.Caps all reads x judged h = h

-- they come to what is asked
pub asked_comes : (aim : Aim) (files : Files) (names all : List (List ℕ)) (reads : List ReadFile) (x : Outcome)
    → judges aim ≡ true → AreAcceptedAs files names all reads → AcceptedCome aim reads x → Comes aim files names x
asked_comes aim files names all reads x judged good h =
    let bytes : BytesCome aim all x =
    inr (reads, good.read, judged_come aim all reads x judged (inr (accepted_none files names all reads good, h))) in
    inr (good.few, files_few aim files names all x good.had bytes (bytes_found aim all x bytes))

none_or_some : (o : Option Outcome) (x : Outcome) → o ≡ None → o ≡ Some x → ⊥
none_or_some o x a b = let e : None ≡ Some x = sym a ∙ b in cc

read_asked : (aim : Aim) (reads : List ReadFile) (x : Outcome) → program_outcome (program_files reads) ≡ None
    → ReadsCome aim reads x → AcceptedCome aim reads x
read_asked aim reads x none h = elim h [
  | inl p ↦ absurd (none_or_some (program_outcome (program_files reads)) x none p)
  | inr p ↦ p.1
]

bytes_asked : (aim : Aim) (all : List (List ℕ)) (reads : List ReadFile) (x : Outcome) → judges aim ≡ true
    → AreRead 0 all reads → program_outcome (program_files reads) ≡ None → BytesCome aim all x
    → AcceptedCome aim reads x
bytes_asked aim all reads x judged read none h = elim h [
  | inl p ↦ absurd (first_halts_or_read 0 all x reads p read)
  | inr p ↦
      read_asked aim reads x none (come_judged aim all reads x judged
      (subst (λ rs. AskedCome aim all rs x) (are_read_same 0 all p.0 reads p.1 read) p.2))
]

pub comes_asked : (aim : Aim) (files : Files) (names all : List (List ℕ)) (reads : List ReadFile) (x : Outcome)
    → judges aim ≡ true → AreAcceptedAs files names all reads → Comes aim files names x → AcceptedCome aim reads x
comes_asked aim files names all reads x judged good h = elim h [
  | inl p ↦ absurd (many_or_few (length names) p.0 good.few)
  | inr p ↦ elim (few_had aim files names x p.1) [
    | inl q ↦ absurd (first_or_files files names all x q good.had)
    | inr q ↦
        bytes_asked aim all reads x judged good.read (accepted_none files names all reads good)
        (subst (λ l. BytesCome aim l x) (files_same files names q.0 all q.1 good.had) q.2)
  ]
]

-- ---- files that come to something behind

read_behind : (aim : Aim) (reads : List ReadFile) (x : Outcome) → ReadsCome aim reads x → is_behind x ≡ true
    → program_outcome (program_files reads) ≡ None
read_behind aim reads x h behind = elim h [
  | inl p ↦ never_both (is_behind x) behind (early_before x (judged_before (program_files reads) x p))
  | inr p ↦ p.0
]

laid_before : (all : List (List ℕ)) (x : Outcome) → LaidCome all x → is_behind x ≡ false
laid_before all (outcome.Laid text) h = refl
laid_before all other h = absurd h

asked_behind : (aim : Aim) (all : List (List ℕ)) (reads : List ReadFile) (x : Outcome) → AskedCome aim all reads x
    → is_behind x ≡ true → program_outcome (program_files reads) ≡ None
asked_behind aims.Run all reads x h behind = read_behind aims.Run reads x h behind
asked_behind aims.Compile all reads x h behind = read_behind aims.Compile reads x h behind
asked_behind aims.Check all reads x h behind = read_behind aims.Check reads x h behind
asked_behind aims.Explain all reads x h behind = read_behind aims.Explain reads x h behind
asked_behind aims.Format all reads x h behind = never_both (is_behind x) behind (laid_before all x h)
asked_behind aims.Caps all reads x h behind = read_behind aims.Caps reads x h behind

-- what of such files was read
IsReadSo : List (List ℕ) → List ReadFile → Type 0
IsReadSo all reads = AreRead 0 all reads × (program_outcome (program_files reads) ≡ None)

bytes_behind : (aim : Aim) (all : List (List ℕ)) (x : Outcome) → BytesCome aim all x → is_behind x ≡ true
    → (reads : List ReadFile) × IsReadSo all reads
unfolding IsReadSo
bytes_behind aim all x h behind = elim h [
  | inl p ↦ never_both (is_behind x) behind (first_halts_before 0 all x p)
  | inr p ↦ (p.0, (p.1, asked_behind aim all p.0 x p.2 behind))
]

pub behind_accepted : (aim : Aim) (files : Files) (names : List (List ℕ)) (x : Outcome) → Comes aim files names x
    → is_behind x ≡ true → Accepted files names
unfolding IsReadSo
behind_accepted aim files names x h behind = elim h [
  | inl p ↦ never_both (is_behind x) behind (ap is_behind p.1)
  | inr p ↦ elim (few_had aim files names x p.1) [
    | inl q ↦ never_both (is_behind x) behind (first_unhad_before files names x q)
    | inr q ↦
        let r = bytes_behind aim q.0 x q.2 behind in
        let good = good_judged (program_files r.0) r.1.1 in (
          q.0,
          r.0,
          record {
            few = p.0;
            had = q.1;
            read = r.1.0;
            program = good.0;
            named = good.1.names.names;
            kept = good.1.names.promises;
            declared = good.1.declared;
            instances = good.1.inside.instances;
            noted = good.1.inside.noted;
            derives = good.1.inside.derives;
            lives = good.1.inside.lives;
          },
        )
  ]
]

-- files that come to something behind are judged
asked_judged : (aim : Aim) (all : List (List ℕ)) (reads : List ReadFile) (x : Outcome) → AskedCome aim all reads x
    → is_behind x ≡ true → judges aim ≡ true
asked_judged aims.Run all reads x h behind = refl
asked_judged aims.Compile all reads x h behind = refl
asked_judged aims.Check all reads x h behind = refl
asked_judged aims.Explain all reads x h behind = refl
asked_judged aims.Format all reads x h behind = never_both (is_behind x) behind (laid_before all x h)
asked_judged aims.Caps all reads x h behind = refl

bytes_judged : (aim : Aim) (all : List (List ℕ)) (x : Outcome) → BytesCome aim all x → is_behind x ≡ true
    → judges aim ≡ true
bytes_judged aim all x h behind = elim h [
  | inl p ↦ never_both (is_behind x) behind (first_halts_before 0 all x p)
  | inr p ↦ asked_judged aim all p.0 x p.2 behind
]

pub behind_judges : (aim : Aim) (files : Files) (names : List (List ℕ)) (x : Outcome) → Comes aim files names x
    → is_behind x ≡ true → judges aim ≡ true
behind_judges aim files names x h behind = elim h [
  | inl p ↦ never_both (is_behind x) behind (ap is_behind p.1)
  | inr p ↦ elim (few_had aim files names x p.1) [
    | inl q ↦ never_both (is_behind x) behind (first_unhad_before files names x q)
    | inr q ↦ bytes_judged aim q.0 x q.2 behind
  ]
]

pub accepted_behind : (aim : Aim) (files : Files) (names : List (List ℕ)) (x : Outcome) → Comes aim files names x
    → judges aim ≡ true → Accepted files names → is_behind x ≡ true
accepted_behind aim files names x h judged good =
    accepted_come_behind aim good.1 x (comes_asked aim files names good.0 good.1 x judged good.2 h)

-- files of which no more is asked and that come to something behind are accepted
pub checked_accepted : (files : Files) (names : List (List ℕ)) (x : Outcome) → Comes aims.Check files names x
    → is_behind x ≡ true → x ≡ outcome.Accepted
checked_accepted files names x h behind =
    let good = behind_accepted aims.Check files names x h behind in
    comes_asked aims.Check files names good.0 good.1 x refl good.2 h
