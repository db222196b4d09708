-- The rule on interfaces and bodies as it reads: each constant, opaque type, function and instance of an
-- interface has a definition in the body, which for an instance is one of the same class and written type,
-- and the first such definition has the same type parameters, parameters, types and universe.
use Rattle.std.specs.Prelude.{◌≡◌, ◌⊎◌, ℕ, List, [], ◌∷◌, ◌++◌, Option, None, Some, Contains, slice_get}
use Rattle.au_syntax.specs.declared.declarations.Universe.{Universe}
use Rattle.au_syntax.specs.Modules.{InUniverse, Constrained, Header, constant, opaque_type, record_type}
use Rattle.au_syntax.specs.Modules.{union_type, function, instance, constant_body, function_body}
use Rattle.au_syntax.specs.Modules.{instance_body}
use Rattle.au_syntax.specs.Names.{Placed}
use Rattle.au_syntax.specs.Plain.{Bytes, PlainDeclaration, PlainModule}
use Rattle.au_syntax.specs.Types.{WrittenType, WrittenTypes, named, reference, no_types, types, Labelled}
use Rattle.au_types.specs.Tables.{find}
use Rattle.au_types.specs.declared.parameters.Parameter.{Parameter}
use Rattle.au_types.specs.declared.types.DeclAt.{DeclAt}
use Rattle.au_types.specs.Types.{Meaning}
use Rattle.au_types.specs.Meant.{meant}
use Rattle.au_modules.specs.Programs.{Entry, ModuleParts}
use Rattle.au_promises.specs.Agreeing.{scope_of, Sight, sight_of}
use Rattle.au_promises.specs.Promises.{constant_defined, type_defined, function_defined, promised}
use Rattle.au_promises.specs.Wording.{declaration_meant}

-- items of two lists are related, each with that in its place, and there are as many
abbrev pub Each : {A B : Type 0} → (A → B → Type 0) → List A → List B → Type 0
Each R [] [] = Unit {0}
Each R (x ∷ xs) (y ∷ ys) = R x y × Each R xs ys
Each R xs ys = ⊥

-- Two names say the same, given the declarations that they mean, if they mean any: these are one, or there
-- are none and the names are written alike.
abbrev pub SayTheSame : Bytes → Bytes → Option DeclAt → Option DeclAt → Type 0
SayTheSame name other one its = (one ≡ its) × (one ≡ None → name ≡ other)

-- two type parameters have one name and one universe
abbrev pub SameParameter : InUniverse Bytes → InUniverse Bytes → Type 0
SameParameter a b = (a.name.name ≡ b.name.name) × (a.universe ≡ b.universe)

-- what is the same in the interface and in the body, as names mean there
module _ (sight : Sight) where
  -- two names are of one class
  abbrev pub SameClass : Placed Bytes → Placed Bytes → Type 0
  SameClass a b = SayTheSame a.name b.name (find a.name sight.interface) (find b.name sight.body)

  -- two type parameters behind `generic` have one name and one universe, and the same classes in order
  abbrev pub SameGeneric : Constrained Bytes → Constrained Bytes → Type 0
  SameGeneric a b = SameParameter a.parameter b.parameter × Each SameClass a.classes b.classes

  -- what is written with its type parameters in the interface, and with its own in the body
  module _ (scope other : List Parameter) where
    -- what a written type of the interface means
    abbrev pub promised_type : WrittenType → Option Meaning
    promised_type t = meant [] scope sight.interface sight.rows t

    -- what a written type of the body means
    abbrev pub defined_type : WrittenType → Option Meaning
    defined_type u = meant [] other sight.body sight.rows u

    -- two written types mean one type, or both mean none
    abbrev pub SameType : WrittenType → WrittenType → Type 0
    SameType t u = promised_type t ≡ defined_type u

    -- two words say the same
    abbrev pub SameWord : Bytes → Bytes → Type 0
    SameWord a b = SayTheSame a b (declaration_meant scope sight.interface sight.rows a)
        (declaration_meant other sight.body sight.rows b)

    abbrev mutual
      -- two written types are the same word for word
      pub SameWording : WrittenType → WrittenType → Type 0
      SameWording (named a args) (named b others) = SameWord a.name b.name × SameWordings args others
      SameWording (reference at kind t r) (reference by its u s) = (kind ≡ its)
          × SameWord r.name s.name × SameWording t u
      SameWording t u = ⊥

      -- so are arguments, each with that in its place
      pub SameWordings : WrittenTypes → WrittenTypes → Type 0
      SameWordings no_types no_types = Unit {0}
      SameWordings (types t rest) (types u others) = SameWording t u × SameWordings rest others
      SameWordings rest others = ⊥

    -- two written types of instances are the same: word for word, or both mean none
    abbrev pub SameWritten : WrittenType → WrittenType → Type 0
    SameWritten t u = SameWording t u ⊎ ((promised_type t ≡ None) × (defined_type u ≡ None))

    -- two parameters of functions have one name and the same type
    abbrev pub SameLabelled : Labelled Bytes → Labelled Bytes → Type 0
    SameLabelled a b = (a.name.name ≡ b.name.name) × SameType a.of b.of

    -- two functions have the same parameters and the same result
    abbrev pub SameSignature : Header Bytes → Header Bytes → Type 0
    SameSignature h k = Each SameLabelled h.parameters k.parameters × SameType h.result k.result

  -- a declaration of the body defines an instance of this class for this written type
  abbrev pub DefinesInstance : List Parameter → Placed Bytes → WrittenType → PlainDeclaration → Type 0
  DefinesInstance scope name t (instance_body at generics other u methods) =
      SameClass name other × SameWritten scope (scope_of generics) t u
  DefinesInstance scope name t d = ⊥

  -- A declaration of the body defines a promise: it is a definition of the sort and the name, and for an
  -- instance one of the same class and written type.
  abbrev pub Defines : PlainDeclaration → PlainDeclaration → Type 0
  Defines (constant at name t) d = constant_defined d ≡ Some name.name
  Defines (opaque_type at name parameters universe) d = type_defined d ≡ Some name.name
  Defines (function at generics header) d = function_defined d ≡ Some header.name.name
  Defines (instance at generics name t) d = DefinesInstance (scope_of generics) name t d
  Defines promise d = ⊥

  -- a definition has this type
  abbrev pub OfType : WrittenType → PlainDeclaration → Type 0
  OfType t (constant_body at name u value) = SameType [] [] t u
  OfType t d = ⊥

  -- a definition has these type parameters and this universe
  abbrev pub OfHeading : List (InUniverse Bytes) → Universe → PlainDeclaration → Type 0
  OfHeading parameters universe (record_type at name others its fields) =
      Each SameParameter parameters others × (universe ≡ its)
  OfHeading parameters universe (union_type at name others its cases) = Each SameParameter parameters others
      × (universe ≡ its)
  OfHeading parameters universe d = ⊥

  -- a definition has these type parameters, parameters and this result
  abbrev pub OfSignature : List (Constrained Bytes) → Header Bytes → PlainDeclaration → Type 0
  OfSignature generics header (function_body at others its body stop) = Each SameGeneric generics others
      × SameSignature (scope_of generics) (scope_of others) header its
  OfSignature generics header d = ⊥

  -- a definition has these type parameters
  abbrev pub OfGenerics : List (Constrained Bytes) → PlainDeclaration → Type 0
  OfGenerics generics (instance_body at others name t methods) = Each SameGeneric generics others
  OfGenerics generics d = ⊥

  -- a definition has the type parameters, parameters, types and universe that are promised
  abbrev pub Agrees : PlainDeclaration → PlainDeclaration → Type 0
  Agrees (constant at name t) d = OfType t d
  Agrees (opaque_type at name parameters universe) d = OfHeading parameters universe d
  Agrees (function at generics header) d = OfSignature generics header d
  Agrees (instance at generics name t) d = OfGenerics generics d
  Agrees promise d = ⊥

  -- the first definition of a promise among the declarations of the body: none before it is one
  pub record IsFirst (promise : PlainDeclaration) (body : List PlainDeclaration)
      (d : PlainDeclaration) : Type 0 where
    pub before : List PlainDeclaration
    pub after : List PlainDeclaration
    pub stands : body ≡ before ++ d ∷ after
    pub defines : Defines promise d
    pub none : (e : PlainDeclaration) → Contains before e → ¬ Defines promise e

  -- a promise has a definition in the body, and the first agrees with it
  abbrev pub IsKept : List PlainDeclaration → PlainDeclaration → Type 0
  IsKept body promise = (d : PlainDeclaration) × IsFirst promise body d × Agrees promise d

  -- A body fulfils an interface.
  abbrev pub Fulfils : PlainModule → PlainModule → Type 0
  Fulfils interface body =
      (promise : PlainDeclaration) (name : Bytes) → Contains interface.declarations promise
      → promised promise ≡ Some name
      → IsKept body.declarations promise

-- Every body of a program fulfils its interface, as names mean in the two parts of its module.
abbrev pub AllFulfil : List ModuleParts → Type 0
AllFulfil program =
    (place : ℕ) (m : ModuleParts) (interface body : Entry) → slice_get program place ≡ Some m
    → m.interface ≡ Some interface → m.body ≡ Some body
    → Fulfils (sight_of program place m) interface.tree body.tree
