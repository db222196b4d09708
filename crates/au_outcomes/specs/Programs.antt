-- What the files of a program come to once they are read: they are gathered into modules behind the shipped
-- ones, the names and promises of the modules are judged, then their declarations, then their instances, then
-- the types in bodies, and then the lives of variables. Where all of this is good the program is accepted.
use Rattle.std.specs.Prelude.{◌≡◌, ◌⊎◌, List, Option, None, Some}
use Rattle.std.specs.Option.{option_or}
use Rattle.au_explain.specs.declared.lists.Lives.{Lives}
use Rattle.au_modules.specs.declared.faults.ModuleFault.{ModuleFault}
use Rattle.au_modules.specs.declared.faults.ModuleFault.TheVariants as modules
use Rattle.au_modules.specs.Programs as programs
use Rattle.au_modules.specs.Programs.{Entry, ModuleParts, modules_of}
use Rattle.au_modules.specs.Slots as slots
use Rattle.au_classes.specs.declared.faults.ClassFault.{ClassFault}
use Rattle.au_classes.specs.declared.faults.ClassFault.TheVariants as classes
use Rattle.au_classes.specs.Faults.{instance_fault}
use Rattle.au_imports.specs.declared.faults.ImportFault.{ImportFault}
use Rattle.au_imports.specs.declared.faults.ImportFault.TheVariants as imports
use Rattle.au_imports.specs.Importing as importing
use Rattle.au_explain.specs.Programs.{program_lives}
use Rattle.au_sights.specs.declared.faults.TypeFault.{TypeFault}
use Rattle.au_sights.specs.declared.faults.TypeFault.TheVariants as typing
use Rattle.au_explain.specs.Faults.{IsDerived, type_fault}
use Rattle.au_caps.specs.Reports.{IsReportOf}
use Rattle.au_typing.specs.Trees.{NotedParts}
use Rattle.au_program_lives.specs.declared.faults.LinearFault.{LinearFault}
use Rattle.au_program_lives.specs.declared.faults.LinearFault.TheVariants as lives
use Rattle.au_program_lives.specs.LinearFaults.{linear_fault}
use Rattle.au_rules.specs.declared.faults.DeclFault.{DeclFault}
use Rattle.au_rules.specs.declared.faults.DeclFault.TheVariants as rules
use Rattle.au_rules.specs.DeclFaults.{decl_fault}
use Rattle.au_accepted.specs.Programs.{program_files, program_modules}
use Rattle.au_accepted.specs.Trees.{ReadFile}
use Rattle.au_outcomes.specs.declared.outcomes.Aim.{Aim}
use Rattle.au_outcomes.specs.declared.outcomes.Aim.TheVariants as aims
use Rattle.au_outcomes.specs.declared.outcomes.Outcome.{Outcome}
use Rattle.au_outcomes.specs.declared.outcomes.Outcome.TheVariants as outcome
use Rattle.au_outcomes.specs.declared.refusals.Refusal.TheVariants as refusal

-- what a program comes to whose files aren't those of modules: want of memory is no cause of the files
abbrev pub module_outcome : ModuleFault → Option Outcome
module_outcome (modules.Limit limit) = Some (outcome.Passes limit)
module_outcome modules.Memory = None
module_outcome fault = Some (outcome.Refused (refusal.Pair fault))

-- what a program comes to of which a name or a promise isn't good
abbrev pub import_outcome : ImportFault → Option Outcome
import_outcome imports.Memory = None
import_outcome fault = Some (outcome.Refused (refusal.Import fault))

-- what a program comes to of which a declaration isn't good
abbrev pub declaration_outcome : DeclFault → Option Outcome
declaration_outcome rules.Memory = None
declaration_outcome fault = Some (outcome.Refused (refusal.Declaration fault))

-- what a program comes to of which an instance isn't good
abbrev pub class_outcome : ClassFault → Option Outcome
class_outcome classes.Memory = None
class_outcome fault = Some (outcome.Refused (refusal.Instance fault))

-- what a program comes to of which a statement isn't well typed, or a noted type passes a limit
abbrev pub type_outcome : TypeFault → Option Outcome
type_outcome (typing.Limit limit) = Some (outcome.Passes limit)
type_outcome typing.Memory = None
type_outcome fault = Some (outcome.Refused (refusal.Typing fault))

-- what a program comes to of which a variable has no good life
abbrev pub life_outcome : LinearFault → Option Outcome
life_outcome lives.Memory = None
life_outcome fault = Some (outcome.Refused (refusal.Linear fault))

-- what is judged of the files of a program, the shipped ones first
abbrev pub judged_by : {F : Type 0} → (F → Option Outcome) → Option F → Option Outcome
judged_by outcome_of None = None
judged_by outcome_of (Some fault) = outcome_of fault

-- instances are good, and then types, and then lives, or the program comes to this
unfoldable pub bodies_outcome : List ModuleParts → Option Outcome
bodies_outcome program =
    option_or (judged_by class_outcome (instance_fault program))
    (option_or (judged_by type_outcome (type_fault program)) (judged_by life_outcome (linear_fault program)))

-- names and promises are good, and then declarations, and then what stands in bodies, or the program comes to
-- this
unfoldable pub modules_outcome : List ModuleParts → Option Outcome
modules_outcome program =
    option_or (judged_by import_outcome (importing.refusal_of program))
    (option_or (judged_by declaration_outcome (decl_fault program)) (bodies_outcome program))

-- the files are those of modules, which are good, or the program comes to this
unfoldable pub program_outcome : List Entry → Option Outcome
program_outcome files =
    option_or (judged_by module_outcome (programs.refusal_of files))
    (modules_outcome (modules_of files))

-- What an accepted program of files that were read comes to that is asked to run: it is to run.
abbrev pub RunComes : List ReadFile → Outcome → Type 0
RunComes reads (outcome.Runs program) = slots.modules program ≡ program_modules reads
RunComes reads other = ⊥

-- What one comes to that is asked to be compiled: it is to be compiled.
abbrev pub CompileComes : List ReadFile → Outcome → Type 0
CompileComes reads (outcome.Compiles program) = slots.modules program ≡ program_modules reads
CompileComes reads other = ⊥

-- What an accepted program comes to that is asked what it can do with capabilities: the rules of typing
-- derive its modules with some notes, and it comes to the report of the program with these.
abbrev pub ReportComes : List ModuleParts → Outcome → Type 0
ReportComes program (outcome.Reported report) =
    (noted : List NotedParts) × IsDerived program noted × IsReportOf program noted report
ReportComes program other = ⊥

-- Nothing is refused of files, and these are their modules.
abbrev pub AreJudgedAs : List Entry → List ModuleParts → Type 0
AreJudgedAs files parts = (program_outcome files ≡ None) × (parts ≡ modules_of files)

-- the lives of the variables of a program whose files were read
abbrev pub read_lives : List ReadFile → Lives
read_lives reads = program_lives (program_modules reads)

-- What accepted files come to: where no more is asked they are accepted, where they are explained they come
-- to the lives of their variables, where it is asked what they can do with capabilities they come to the
-- report on that, and where their program is to run or to be compiled that is what they come to. (Of files
-- that are laid out it isn't asked whether they are accepted.)
abbrev pub AcceptedCome : Aim → List ReadFile → Outcome → Type 0
AcceptedCome aims.Run reads arisen = RunComes reads arisen
AcceptedCome aims.Compile reads arisen = CompileComes reads arisen
AcceptedCome aims.Check reads arisen = arisen ≡ outcome.Accepted
AcceptedCome aims.Explain reads arisen = arisen ≡ outcome.Explained (read_lives reads)
AcceptedCome aims.Format reads arisen = arisen ≡ outcome.Accepted
AcceptedCome aims.Caps reads arisen = ReportComes (program_modules reads) arisen

-- What a program comes to whose files were read.
abbrev pub ReadsCome : Aim → List ReadFile → Outcome → Type 0
ReadsCome aim reads arisen =
    (program_outcome (program_files reads) ≡ Some arisen)
    ⊎ ((program_outcome (program_files reads) ≡ None) × AcceptedCome aim reads arisen)

-- Two outcomes are one: of programs that are to run, or to be compiled, their modules are.
abbrev pub AreOne : Outcome → Outcome → Type 0
AreOne (outcome.Runs one) (outcome.Runs other) = slots.modules one ≡ slots.modules other
AreOne (outcome.Compiles one) (outcome.Compiles other) = slots.modules one ≡ slots.modules other
AreOne one other = one ≡ other
