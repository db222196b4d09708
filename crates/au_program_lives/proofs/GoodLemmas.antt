-- A program is refused for nothing exactly where every variable has a good life.
use Rattle.std.proofs.Common.{◌≡◌, List, Option, None, Some, refl, sym, ap}
use Rattle.std.specs.Option.{option_map}
use Rattle.au_base.proofs.OptionLemmas.{map_none}
use Rattle.au_formed.specs.Text.{text}
use Rattle.au_lives.specs.Refusals.{first_refused}
use Rattle.au_lives.proofs.RefusalLemmas.{all_good, none_refused, some_refused}
use Rattle.au_modules.specs.Programs.{ModuleParts}
use Rattle.au_names.proofs.AmongLemmas.{among, contains}
use Rattle.au_imports.proofs.ChoiceLemmas.{first_from, first_to}
use Rattle.au_program_lives.specs.declared.faults.LinearFault.{LinearFault}
use Rattle.au_program_lives.specs.Good.{AllLivesAreGood, DeclarationIsGood, FunctionIsGood, IsRefused}
use Rattle.au_program_lives.specs.LinearFaults.{declaration_fault, declared_fault, fault_told, function_fault}
use Rattle.au_program_lives.specs.LinearFaults.{function_variables, linear_fault, method_fault, spot_types}
use Rattle.au_program_lives.specs.Scopes.{TypeScope}
use Rattle.au_syntax.specs.Modules.{Header, constant, opaque_type, record_type, union_type, function, class}
use Rattle.au_syntax.specs.Modules.{instance, constant_body, function_body, instance_body}
use Rattle.au_syntax.specs.Plain.{Bytes, PlainDeclaration, PlainStatements}

-- ---- functions

map_some : {A B : Type 0} (f : A → B) (o : Option A) (y : B) → option_map f o ≡ Some y → (x : A)
    × (o ≡ Some x) × (y ≡ f x)
map_some f None y h = absurd cc
map_some f (Some x) y h = let e : f x ≡ y = cc in (x, refl, sym e)

module _ (header : Header Bytes) (body : PlainStatements) (sc : TypeScope) where
  function_from : function_fault header body sc ≡ None → FunctionIsGood header body sc
  function_from h =
      none_refused (function_variables header body sc)
      (map_none (fault_told header.name.name) (first_refused (function_variables header body sc)) h)

  function_to : FunctionIsGood header body sc → function_fault header body sc ≡ None
  function_to good = ap (option_map (fault_told header.name.name)) (all_good (function_variables header body sc) good)

  pub first_told : (e : LinearFault) → function_fault header body sc ≡ Some e → IsRefused header body sc e
  first_told e h =
      let found = map_some (fault_told header.name.name) (first_refused (function_variables header body sc)) e h in
      record {
        refused = found.0;
        first = some_refused (function_variables header body sc) found.0 found.1;
        told = found.2;
      }

-- ---- declarations

declared_from : (d : PlainDeclaration) (sc : TypeScope) → declared_fault d sc ≡ None → DeclarationIsGood d sc
declared_from (constant at n t) sc h = tt
declared_from (opaque_type at n ps u) sc h = tt
declared_from (record_type at n ps u fields) sc h = tt
declared_from (union_type at n ps u cases) sc h = tt
declared_from (function at gs header) sc h = tt
declared_from (class at n p headers) sc h = tt
declared_from (instance at gs n t) sc h = tt
declared_from (constant_body at n t e) sc h = tt
declared_from (function_body at gs header body stop) sc h = function_from header body sc h
declared_from (instance_body at gs n t methods) sc h =
    λ m there. function_from m.header m.body sc (first_from (method_fault sc) methods h m (among methods m there))

declared_to : (d : PlainDeclaration) (sc : TypeScope) → DeclarationIsGood d sc → declared_fault d sc ≡ None
declared_to (constant at n t) sc good = refl
declared_to (opaque_type at n ps u) sc good = refl
declared_to (record_type at n ps u fields) sc good = refl
declared_to (union_type at n ps u cases) sc good = refl
declared_to (function at gs header) sc good = refl
declared_to (class at n p headers) sc good = refl
declared_to (instance at gs n t) sc good = refl
declared_to (constant_body at n t e) sc good = refl
declared_to (function_body at gs header body stop) sc good = function_to header body sc good
declared_to (instance_body at gs n t methods) sc good =
    first_to (method_fault sc) methods (λ m there. function_to m.header m.body sc (good m (contains methods m there)))

-- ---- programs

pub good_from : (program : List ModuleParts) → linear_fault program ≡ None → AllLivesAreGood program
good_from program h = record {
  each = λ s there.
      declared_from s.says (spot_types program s)
      (first_from (declaration_fault program) (text program) h s (among (text program) s there));
}

pub good_accepted : (program : List ModuleParts) → AllLivesAreGood program → linear_fault program ≡ None
good_accepted program good =
    first_to (declaration_fault program) (text program)
    (λ s there. declared_to s.says (spot_types program s) (good.each s (contains (text program) s there)))
