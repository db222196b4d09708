-- What is found wrong with the lives of a program is never want of memory.
use Rattle.std.proofs.Common.{◌≡◌, List, [], ◌∷◌, Option, Some, None}
use Rattle.std.specs.Option.{option_map, option_or}
use Rattle.au_base.specs.declared.places.Pos.{Pos}
use Rattle.au_formed.specs.Text.{text}
use Rattle.au_lives.specs.Refusals.{Refusal, in_loop, in_part, on_path, Refused, first_refused}
use Rattle.au_modules.specs.Programs.{ModuleParts}
use Rattle.au_imports.specs.Choices.{first_of}
use Rattle.au_program_lives.specs.declared.faults.LinearFault.{LinearFault}
use Rattle.au_program_lives.specs.declared.faults.LinearFault.TheVariants as fault
use Rattle.au_program_lives.specs.LinearFaults.{declaration_fault, declared_fault, fault_of, fault_told}
use Rattle.au_program_lives.specs.LinearFaults.{function_fault, function_variables, linear_fault}
use Rattle.au_program_lives.specs.LinearFaults.{method_fault, spot_types}
use Rattle.au_program_lives.specs.Scopes.{TypeScope}
use Rattle.au_syntax.specs.Modules.{Header, constant, opaque_type, record_type, union_type, function, class}
use Rattle.au_syntax.specs.Modules.{instance, constant_body, function_body, instance_body}
use Rattle.au_syntax.specs.Plain.{Bytes, PlainDeclaration, PlainStatements}

of_unwanted : (name variable : Bytes) (at : Pos) (why : Refusal) → Some (fault_of name variable at why)
    ≡ Some fault.Memory → ⊥
of_unwanted name variable at (in_loop place) h = cc
of_unwanted name variable at (in_part place) h = cc
of_unwanted name variable at (on_path kind path) h = cc

told_unwanted : (name : Bytes) (r : Option Refused) → option_map (fault_told name) r ≡ Some fault.Memory → ⊥
told_unwanted name None h = cc
told_unwanted name (Some r) h = of_unwanted name r.variable.scope.name.name r.variable.scope.name.at r.why h

function_unwanted : (header : Header Bytes) (body : PlainStatements) (sc : TypeScope) →
    function_fault header body sc ≡ Some fault.Memory → ⊥
function_unwanted header body sc h =
    told_unwanted header.name.name (first_refused (function_variables header body sc)) h

first_unwanted : {A : Type 0} (f : A → Option LinearFault) (xs : List A) → ((x : A) → f x ≡ Some fault.Memory → ⊥)
    → first_of f xs ≡ Some fault.Memory → ⊥
unfolding first_of
first_unwanted f [] never h = cc
first_unwanted f (x ∷ xs) never h = by (f x) (never x) (first_unwanted f xs never) h
  where
    by : (o : Option LinearFault) → (o ≡ Some fault.Memory → ⊥) → (first_of f xs ≡ Some fault.Memory → ⊥)
        → option_or o (first_of f xs) ≡ Some fault.Memory → ⊥
    by None one others all = others all
    by (Some y) one others all = one all

declared_unwanted : (d : PlainDeclaration) (sc : TypeScope) → declared_fault d sc ≡ Some fault.Memory → ⊥
declared_unwanted (constant at n t) sc h = cc
declared_unwanted (opaque_type at n ps u) sc h = cc
declared_unwanted (record_type at n ps u fields) sc h = cc
declared_unwanted (union_type at n ps u cases) sc h = cc
declared_unwanted (function at gs header) sc h = cc
declared_unwanted (class at n p headers) sc h = cc
declared_unwanted (instance at gs n t) sc h = cc
declared_unwanted (constant_body at n t e) sc h = cc
declared_unwanted (function_body at gs header body stop) sc h = function_unwanted header body sc h
declared_unwanted (instance_body at gs n t methods) sc h =
    first_unwanted (method_fault sc) methods (λ m. function_unwanted m.header m.body sc) h

pub unwanted : (program : List ModuleParts) → linear_fault program ≡ Some fault.Memory → ⊥
unwanted program h =
    first_unwanted (declaration_fault program) (text program) (λ s. declared_unwanted s.says (spot_types program s)) h
