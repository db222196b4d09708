-- What the interface of a module promises, and what its body is refused for: each constant, opaque type,
-- function and instance of the interface has a definition in the body, and the first of them agrees with it.
use Rattle.std.specs.Prelude.{◌+◌, ℕ, Bool, false, ◌&&◌, List, [], ◌∷◌, Option, None, Some, find}
use Rattle.std.specs.Prelude.{if◌then◌else◌}
use Rattle.std.specs.Option.{option_or}
use Rattle.std.specs.Str.{bytes_eq}
use Rattle.au_base.specs.declared.places.Pos.{Pos}
use Rattle.au_syntax.specs.declared.declarations.Universe.{Universe}
use Rattle.au_syntax.specs.Modules.{InUniverse, Constrained, Header, constant, opaque_type, record_type}
use Rattle.au_syntax.specs.Modules.{union_type, function, class, instance, constant_body, function_body}
use Rattle.au_syntax.specs.Modules.{instance_body}
use Rattle.au_syntax.specs.Names.{Placed}
use Rattle.au_syntax.specs.Plain.{Bytes, PlainDeclaration, PlainModule}
use Rattle.au_syntax.specs.Types.{WrittenType}
use Rattle.au_modules.specs.Programs.{ModuleParts}
use Rattle.au_modules.specs.Seen.{interface_tree, body_tree}
use Rattle.au_types.specs.declared.parameters.Parameter.{Parameter}
use Rattle.au_promises.specs.declared.faults.PromiseFault.{PromiseFault}
use Rattle.au_promises.specs.declared.faults.PromiseFault.TheVariants.{NotDefined, Differs}
use Rattle.au_promises.specs.Agreeing.{all_agree, same_class, same_function, same_generic, same_parameter}
use Rattle.au_promises.specs.Agreeing.{same_type, same_universe, scope_of, Sight, sight_of}
use Rattle.au_promises.specs.Wording.{same_written}

-- the place of a declaration's first token
abbrev pub declaration_place : PlainDeclaration → Pos
declaration_place (constant at name t) = at
declaration_place (opaque_type at name parameters universe) = at
declaration_place (record_type at name parameters universe fields) = at
declaration_place (union_type at name parameters universe cases) = at
declaration_place (function at generics header) = at
declaration_place (class at name parameter methods) = at
declaration_place (instance at generics name t) = at
declaration_place (constant_body at name t value) = at
declaration_place (function_body at generics header body stop) = at
declaration_place (instance_body at generics name t methods) = at

-- what is promised, if a declaration of an interface promises anything: records, unions and classes are
-- whole there
abbrev pub promised : PlainDeclaration → Option Bytes
promised (constant at name t) = Some name.name
promised (opaque_type at name parameters universe) = Some name.name
promised (function at generics header) = Some header.name.name
promised (instance at generics name t) = Some name.name
promised other = None

-- the name of the constant that a declaration of a body defines, if it defines one
abbrev pub constant_defined : PlainDeclaration → Option Bytes
constant_defined (constant_body at name t value) = Some name.name
constant_defined d = None

-- the name of the type that a declaration of a body defines, if it defines one: a record or a union
abbrev pub type_defined : PlainDeclaration → Option Bytes
type_defined (record_type at name parameters universe fields) = Some name.name
type_defined (union_type at name parameters universe cases) = Some name.name
type_defined d = None

-- the name of the function that a declaration of a body defines, if it defines one
abbrev pub function_defined : PlainDeclaration → Option Bytes
function_defined (function_body at generics header body stop) = Some header.name.name
function_defined d = None

-- a name is defined
abbrev pub is_name : Bytes → Option Bytes → Bool
is_name name None = false
is_name name (Some other) = bytes_eq name other

-- the type parameters and the universes of two types
abbrev pub same_heading : List (InUniverse Bytes) → Universe → List (InUniverse Bytes) → Universe → Bool
same_heading parameters universe others other = all_agree same_parameter parameters others
    && same_universe universe other

-- what defines an opaque type has its type parameters and its universe
abbrev pub keeps_type : List (InUniverse Bytes) → Universe → PlainDeclaration → Bool
keeps_type parameters universe (record_type at name others other fields) =
    same_heading parameters universe others other
keeps_type parameters universe (union_type at name others other cases) =
    same_heading parameters universe others other
keeps_type parameters universe d = false

module _ (sight : Sight) where
  -- an instance of the interface and one of the body are of one class and the same written type
  abbrev pub same_instance : List Parameter → Placed Bytes → WrittenType
      → List (Constrained Bytes) → Placed Bytes → WrittenType → Bool
  same_instance scope name t generics other u = same_class sight name other
      && same_written sight scope (scope_of generics) t u

  -- a declaration of the body defines an instance of this class for this written type
  abbrev pub instance_defined : List Parameter → Placed Bytes → WrittenType → PlainDeclaration → Bool
  instance_defined scope name t (instance_body at generics other u methods) =
      same_instance scope name t generics other u
  instance_defined scope name t d = false

  -- a declaration of the body defines what is promised: one of its sort and name, and for an
  -- instance one of its class and written type
  abbrev pub defines : PlainDeclaration → PlainDeclaration → Bool
  defines (constant at name t) d = is_name name.name (constant_defined d)
  defines (opaque_type at name parameters universe) d = is_name name.name (type_defined d)
  defines (function at generics header) d = is_name header.name.name (function_defined d)
  defines (instance at generics name t) d = instance_defined (scope_of generics) name t d
  defines promise d = false

  -- what defines a constant is of its type
  abbrev pub keeps_constant : WrittenType → PlainDeclaration → Bool
  keeps_constant t (constant_body at name u value) = same_type sight [] t [] u
  keeps_constant t d = false

  -- what defines a function has its type parameters, parameters and result
  abbrev pub keeps_function : List (Constrained Bytes) → Header Bytes → PlainDeclaration → Bool
  keeps_function generics header (function_body at others other body stop) =
      same_function sight generics header others other
  keeps_function generics header d = false

  -- what defines an instance has its type parameters
  abbrev pub keeps_instance : List (Constrained Bytes) → PlainDeclaration → Bool
  keeps_instance generics (instance_body at others name t methods) =
      all_agree (same_generic sight) generics others
  keeps_instance generics d = false

  -- what defines a promise agrees with it
  abbrev pub keeps : PlainDeclaration → PlainDeclaration → Bool
  keeps (constant at name t) d = keeps_constant t d
  keeps (opaque_type at name parameters universe) d = keeps_type parameters universe d
  keeps (function at generics header) d = keeps_function generics header d
  keeps (instance at generics name t) d = keeps_instance generics d
  keeps promise d = false

  -- a promise of this name, by the first declaration of the body that defines it, if there is one
  abbrev pub kept_by : Bytes → PlainDeclaration → Option PlainDeclaration → Option PromiseFault
  kept_by name promise None = Some (NotDefined (declaration_place promise) name)
  kept_by name promise (Some d) =
      if keeps promise d then None else Some (Differs (declaration_place promise) (declaration_place d) name)

  -- what is promised under a name, if anything is, over the declarations of the body
  abbrev pub fault_by_name : List PlainDeclaration → PlainDeclaration → Option Bytes → Option PromiseFault
  fault_by_name body promise None = None
  fault_by_name body promise (Some name) = kept_by name promise (find (defines promise) body)

  -- a declaration of the interface, over those of the body
  abbrev pub promise_fault_of : List PlainDeclaration → PlainDeclaration → Option PromiseFault
  promise_fault_of body promise = fault_by_name body promise (promised promise)

  -- the first of these declarations of the interface that isn't kept
  unfoldable pub unkept : List PlainDeclaration → List PlainDeclaration → Option PromiseFault
  unkept body [] = None
  unkept body (promise ∷ promises) = option_or (promise_fault_of body promise) (unkept body promises)

  -- the two parts of the module: what is shipped has no body and owes nothing
  abbrev pub parts_fault : Option PlainModule → Option PlainModule → Option PromiseFault
  parts_fault (Some interface) (Some body) = unkept body.declarations interface.declarations
  parts_fault interface body = None

-- the module at a place
abbrev pub module_fault : List ModuleParts → ℕ → ModuleParts → Option PromiseFault
module_fault program place m = parts_fault (sight_of program place m) (interface_tree (Some m))
    (body_tree (Some m))

-- the modules from a place on
unfoldable pub faults_from : List ModuleParts → ℕ → List ModuleParts → Option PromiseFault
faults_from program place [] = None
faults_from program place (m ∷ ms) = option_or (module_fault program place m)
    (faults_from program (place + 1) ms)

-- what a program is refused for: the first promise, modules by place, that isn't kept
abbrev pub promise_fault : List ModuleParts → Option PromiseFault
promise_fault program = faults_from program 0 program
