-- What a program is refused for in its declarations: the first fault, in the order of the text. Of one
-- declaration a name that is declared again comes first, then what isn't well formed, then a union without a
-- case, then a field above its universe, and last that its type is infinite.
use Rattle.std.specs.Prelude.{Bool, List, Option, None, Some}
use Rattle.std.specs.Option.{option_map, option_or}
use Rattle.au_syntax.specs.Plain.{Bytes, PlainDeclaration}
use Rattle.au_types.specs.declared.types.DeclAt.{DeclAt}
use Rattle.au_modules.specs.Programs.{ModuleParts}
use Rattle.au_names.specs.HeadsOf.{heads_of}
use Rattle.au_rules.specs.declared.doubles.Double.{Double}
use Rattle.au_rules.specs.Doubles.{first_double}
use Rattle.au_imports.specs.Choices.{first_of, where_so}
use Rattle.au_promises.specs.Promises.{declaration_place}
use Rattle.au_formed.specs.declared.faults.FormFault.{FormFault}
use Rattle.au_formed.specs.declared.faults.FormFault.TheVariants as form
use Rattle.au_formed.specs.Forms.{form_fault}
use Rattle.au_formed.specs.Infinite.{is_infinite}
use Rattle.au_formed.specs.Naming.{namings, type_of}
use Rattle.au_formed.specs.Text.{Spot, text, visible_at}
use Rattle.au_rules.specs.declared.faults.DeclFault.{DeclFault}
use Rattle.au_rules.specs.declared.faults.DeclFault.TheVariants as fault

-- a name that is declared again
abbrev pub of_double : Double → DeclFault
of_double d = fault.Again d.at d.name

-- what is wrong with the form of a declaration
abbrev pub of_form : FormFault → DeclFault
of_form (form.Malformed at) = fault.Malformed at
of_form (form.EmptyUnion at) = fault.EmptyUnion at
of_form (form.UniverseBelow at) = fault.UniverseBelow at

-- by a test of types for being infinite
module _ (infinite : DeclAt → Bool) where
  -- a declaration of this type, if it declares one
  abbrev pub type_fault : PlainDeclaration → Option DeclAt → Option DeclFault
  type_fault d None = None
  type_fault d (Some a) = where_so (infinite a) (fault.Infinite (declaration_place d))

  -- a declaration of a program
  abbrev pub fault_by : List ModuleParts → Spot → Option DeclFault
  fault_by program s =
      option_or (option_map of_double (first_double program s.at))
      (option_or (option_map of_form (form_fault (visible_at program s) (heads_of program) s.says))
      (type_fault s.says (type_of (visible_at program s) s.says)))

-- a declaration of a program
abbrev pub declaration_fault : List ModuleParts → Spot → Option DeclFault
declaration_fault program s = fault_by (is_infinite (namings program)) program s

-- a program
abbrev pub decl_fault : List ModuleParts → Option DeclFault
decl_fault program = first_of (declaration_fault program) (text program)
