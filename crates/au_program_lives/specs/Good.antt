-- In which programs every variable has a good life, by the rules alone.
use Rattle.std.specs.Prelude.{◌≡◌, List, Contains}
use Rattle.au_formed.specs.Text.{Spot, text}
use Rattle.au_lives.specs.Refusals.{GoodLives, IsFirstRefused, Refused}
use Rattle.au_modules.specs.Programs.{ModuleParts}
use Rattle.au_program_lives.specs.declared.faults.LinearFault.{LinearFault}
use Rattle.au_program_lives.specs.LinearFaults.{fault_told, function_variables, spot_types}
use Rattle.au_program_lives.specs.Scopes.{TypeScope}
use Rattle.au_syntax.specs.Modules.{Header, function_body, instance_body}
use Rattle.au_syntax.specs.Plain.{Bytes, PlainDeclaration, PlainMethod, PlainStatements}

-- each variable of a function has a good life
abbrev pub FunctionIsGood : Header Bytes → PlainStatements → TypeScope → Type 0
FunctionIsGood header body sc = GoodLives (function_variables header body sc)

-- so has each variable of every method
abbrev pub MethodsAreGood : List PlainMethod → TypeScope → Type 0
MethodsAreGood methods sc = (m : PlainMethod) → Contains methods m → FunctionIsGood m.header m.body sc

-- so has each variable of a declaration
abbrev pub DeclarationIsGood : PlainDeclaration → TypeScope → Type 0
DeclarationIsGood (function_body at generics header body stop) sc = FunctionIsGood header body sc
DeclarationIsGood (instance_body at generics class t methods) sc = MethodsAreGood methods sc
DeclarationIsGood other sc = Unit {0}

-- Each variable of every function and method of a program has a good life.
pub record AllLivesAreGood (program : List ModuleParts) : Type 0 where
  pub each : (s : Spot) → Contains (text program) s → DeclarationIsGood s.says (spot_types program s)

-- A function is refused for its first variable that has no good life, and told is what is wrong with it.
pub record IsRefused (header : Header Bytes) (body : PlainStatements) (sc : TypeScope) (e : LinearFault) :
    Type 0 where
  pub refused : Refused
  pub first : IsFirstRefused (function_variables header body sc) refused
  pub told : e ≡ fault_told header.name.name refused
