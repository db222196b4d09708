-- Which faults are refusals.
use Rattle.std.specs.Prelude.{Bool, true, false}
use Rattle.au_classes.specs.declared.faults.ClassFault.{ClassFault}
use Rattle.au_classes.specs.declared.faults.ClassFault.TheVariants as classes
use Rattle.au_imports.specs.declared.faults.ImportFault.{ImportFault}
use Rattle.au_imports.specs.declared.faults.ImportFault.TheVariants as imports
use Rattle.au_modules.specs.declared.faults.ModuleFault.{ModuleFault}
use Rattle.au_modules.specs.declared.faults.ModuleFault.TheVariants as modules
use Rattle.au_sights.specs.declared.faults.TypeFault.{TypeFault}
use Rattle.au_sights.specs.declared.faults.TypeFault.TheVariants as typing
use Rattle.au_program_lives.specs.declared.faults.LinearFault.{LinearFault}
use Rattle.au_program_lives.specs.declared.faults.LinearFault.TheVariants as lives
use Rattle.au_rules.specs.declared.faults.DeclFault.{DeclFault}
use Rattle.au_rules.specs.declared.faults.DeclFault.TheVariants as rules
use Rattle.au_outcomes.specs.declared.refusals.Refusal.{Refusal}
use Rattle.au_outcomes.specs.declared.refusals.Refusal.TheVariants.{Byte, Syntax}
use Rattle.au_outcomes.specs.declared.refusals.Refusal.TheVariants.{Pair, Import, Declaration, Instance}
use Rattle.au_outcomes.specs.declared.refusals.Refusal.TheVariants.{Typing, Linear, Entry}

-- whether files are refused for this: neither a limit that is passed nor want of memory is a refusal
abbrev pub is_module_refusal : ModuleFault → Bool
is_module_refusal (modules.TwiceGiven name) = true
is_module_refusal (modules.NoBody name) = true
is_module_refusal (modules.Unsafe at) = true
is_module_refusal (modules.Limit limit) = false
is_module_refusal modules.Memory = false

-- whether modules are refused for this
abbrev pub is_import_refusal : ImportFault → Bool
is_import_refusal (imports.NoModule at name) = true
is_import_refusal (imports.Late at name) = true
is_import_refusal (imports.NotVisible at name) = true
is_import_refusal (imports.NameTwice at name) = true
is_import_refusal (imports.NotDefined at name) = true
is_import_refusal (imports.Differs at other name) = true
is_import_refusal imports.Memory = false

-- whether declarations are refused for this
abbrev pub is_declaration_refusal : DeclFault → Bool
is_declaration_refusal (rules.Again at name) = true
is_declaration_refusal (rules.Malformed at) = true
is_declaration_refusal (rules.EmptyUnion at) = true
is_declaration_refusal (rules.UniverseBelow at) = true
is_declaration_refusal (rules.Infinite at) = true
is_declaration_refusal rules.Memory = false

-- whether instances are refused for this
abbrev pub is_class_refusal : ClassFault → Bool
is_class_refusal (classes.BadHead at) = true
is_class_refusal (classes.Orphan at) = true
is_class_refusal (classes.Overlap at other) = true
is_class_refusal (classes.MethodDiffers at) = true
is_class_refusal classes.Memory = false

-- whether statements are refused for this: neither a limit that is passed nor want of memory is a refusal
abbrev pub is_type_refusal : TypeFault → Bool
is_type_refusal (typing.Statement at why) = true
is_type_refusal (typing.Limit limit) = false
is_type_refusal typing.Memory = false

-- whether variables are refused for this
abbrev pub is_life_refusal : LinearFault → Bool
is_life_refusal (lives.Life function variable at kind path) = true
is_life_refusal (lives.InLoop variable at) = true
is_life_refusal (lives.InPart variable at) = true
is_life_refusal lives.Memory = false

-- whether it's a refusal: it holds no fault that is none
abbrev pub is_refusal : Refusal → Bool
is_refusal (Byte at) = true
is_refusal (Syntax at) = true
is_refusal (Pair fault) = is_module_refusal fault
is_refusal (Import fault) = is_import_refusal fault
is_refusal (Declaration fault) = is_declaration_refusal fault
is_refusal (Instance fault) = is_class_refusal fault
is_refusal (Typing fault) = is_type_refusal fault
is_refusal (Linear fault) = is_life_refusal fault
is_refusal (Entry entry) = true
