-- The instances of a program as they are written, in the order of the text: modules by their places, in each
-- the instances of its interface before those of its body. An instance that an interface declares is one with
-- its definition, the first instance in the body of the same class and the same written type, and stands
-- where the interface declares it.
use Rattle.std.specs.Prelude.{ℕ, ◌+◌, Bool, List, [], ◌∷◌, ◌++◌, Option, None, Some, if◌then◌else◌}
use Rattle.std.specs.Prelude.{length, map, slice_get, unwrap_or}
use Rattle.au_base.specs.declared.places.Pos.{Pos}
use Rattle.au_syntax.specs.declared.modules.Part.{Part}
use Rattle.au_syntax.specs.declared.modules.Part.TheVariants.{Interface, Body}
use Rattle.au_syntax.specs.Modules.{Constrained, instance, instance_body}
use Rattle.au_syntax.specs.Names.{Placed}
use Rattle.au_syntax.specs.Plain.{Bytes, PlainDeclaration, PlainMethod}
use Rattle.au_syntax.specs.Types.{WrittenType}
use Rattle.au_types.specs.declared.types.DeclAt.{DeclAt}
use Rattle.au_modules.specs.Programs.{ModuleParts}
use Rattle.au_modules.specs.Seen.{interface_tree, body_tree}
use Rattle.au_names.specs.Exporting.{declarations_seen as declarations_of}
use Rattle.au_promises.specs.Agreeing.{Sight, scope_of, sight_of}
use Rattle.au_promises.specs.Promises.{instance_defined}
use Rattle.au_classes.specs.Indices.{first_index, is_among}

-- an instance
pub record InstanceText : Type 0 where
  -- the place of its first token
  pub at : Pos
  -- its declaration
  pub number : DeclAt
  -- the part of the module in which it is declared
  pub part : Part
  -- its type parameters, the name of its class and its type
  pub generics : List (Constrained Bytes)
  pub name : Placed Bytes
  pub of : WrittenType
  -- its methods; what is shipped has no definition, and none are written
  pub methods : Option (List PlainMethod)

-- the declaration of a number in the module at a place
abbrev pub declared_at : ℕ → ℕ → DeclAt
declared_at place number = record { «module» = place; decl = number }

-- ---- definitions

-- what a module sees, and the declarations of its body
module _ (sight : Sight) (body : List PlainDeclaration) where
  -- the index of the definition of what an interface declares, if that's an instance and has one
  abbrev pub definition_index : PlainDeclaration → Option ℕ
  definition_index (instance at generics name t) =
      first_index (instance_defined sight (scope_of generics) name t) body
  definition_index d = None

  -- those of all that it declares, in order
  abbrev pub definition_indices : List PlainDeclaration → List (Option ℕ)
  definition_indices interface = map definition_index interface

-- the methods that a declaration of the body has, if it's an instance
abbrev pub methods_in : Option PlainDeclaration → Option (List PlainMethod)
methods_in (Some (instance_body at generics name t methods)) = Some methods
methods_in found = None

-- the methods of the declaration of an index, if there is one
abbrev pub methods_at : List PlainDeclaration → Option ℕ → Option (List PlainMethod)
methods_at body None = None
methods_at body (Some index) = methods_in (slice_get body index)

-- the index of the definition of the declaration of a number, of those of all declarations of an interface
abbrev pub definition_at : List (Option ℕ) → ℕ → Option ℕ
definition_at definitions number = unwrap_or (slice_get definitions number) None

-- ---- the instances of a module

-- an instance that an interface declares, with these methods, if it is one
abbrev pub promised : DeclAt → Option (List PlainMethod) → PlainDeclaration → Option InstanceText
promised number methods (instance at generics name t) = Some (record {
  at = at;
  number = number;
  part = Interface;
  generics = generics;
  name = name;
  of = t;
  methods = methods;
})
promised number methods d = None

-- an instance that a body defines, if it is one
abbrev pub defined : DeclAt → PlainDeclaration → Option InstanceText
defined number (instance_body at generics name t methods) = Some (record {
  at = at;
  number = number;
  part = Body;
  generics = generics;
  name = name;
  of = t;
  methods = Some methods;
})
defined number d = None

-- an instance, if there is one, before others
abbrev pub put_before : Option InstanceText → List InstanceText → List InstanceText
put_before None others = others
put_before (Some one) others = one ∷ others

-- the instances of the declarations of an interface from one of this number on, over those of its body and
-- the indices of the definitions there
unfoldable pub promised_from : List PlainDeclaration → List (Option ℕ) → ℕ → ℕ → List PlainDeclaration →
    List InstanceText
promised_from body definitions place number [] = []
promised_from body definitions place number (d ∷ ds) =
    put_before (promised (declared_at place number) (methods_at body (definition_at definitions number)) d)
    (promised_from body definitions place (number + 1) ds)

-- an instance of a body, unless it is the definition of one of the interface
abbrev pub unless_promised : Bool → Option InstanceText → Option InstanceText
unless_promised b one = if b then None else one

-- The instances of the declarations of a body from one of this index on that don't define what the interface
-- declares. So many declarations stand before those of the body.
unfoldable pub defined_from : List (Option ℕ) → ℕ → ℕ → ℕ → List PlainDeclaration → List InstanceText
defined_from definitions place before index [] = []
defined_from definitions place before index (d ∷ ds) =
    put_before (unless_promised (is_among index definitions) (defined (declared_at place (before + index)) d))
    (defined_from definitions place before (index + 1) ds)

-- the instances of the interface and of the body of the module at a place
abbrev pub instances_in : Sight → ℕ → List PlainDeclaration → List PlainDeclaration → List InstanceText
instances_in sight place interface body =
    promised_from body (definition_indices sight body interface) place 0 interface
    ++ defined_from (definition_indices sight body interface) place (length interface) 0 body

-- ---- the instances of a program

-- the instances of the module at a place
abbrev pub module_instances : List ModuleParts → ℕ → ModuleParts → List InstanceText
module_instances program place m =
    instances_in (sight_of program place m) place (declarations_of (interface_tree (Some m)))
    (declarations_of (body_tree (Some m)))

-- those of the modules from a place on
unfoldable pub instances_from : List ModuleParts → ℕ → List ModuleParts → List InstanceText
instances_from program place [] = []
instances_from program place (m ∷ ms) =
    module_instances program place m ++ instances_from program (place + 1) ms

-- those of all modules
abbrev pub instances_of : List ModuleParts → List InstanceText
instances_of program = instances_from program 0 program
