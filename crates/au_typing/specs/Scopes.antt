-- What is in scope at a place of a function: what its part of a module sees outside of it, and what the
-- function itself has declared so far.
use Rattle.std.specs.Prelude.{Bool, List, Option}
use Rattle.au_types.specs.declared.types.DeclAt.{DeclAt}
use Rattle.au_types.specs.declared.headings.Head.{Head}
use Rattle.au_types.specs.Types.{Meaning}
use Rattle.au_syntax.specs.Plain.{Bytes}
use Rattle.au_names.specs.declared.targets.Target.{Target}
use Rattle.au_judged_types.specs.Bounds.{Bounded}
use Rattle.au_instances.specs.Rows.{Row}

-- a name with a type: a field, or a parameter
pub record Typed : Type 0 where
  pub name : Bytes
  pub of : Meaning

-- What is called: its type parameters with the classes that constrain them, its parameters in declared order,
-- and its result. A method has the type parameter of its class, and the class; a record or a case has the
-- type parameters of its type, its fields as parameters, and the type as its result.
pub record Callable : Type 0 where
  pub generics : List Bounded
  pub parameters : List Typed
  pub result : Meaning
  pub class : Option (Bytes × DeclAt)

-- a case of a union: the name that means it, and its fields, with the types that they have in the type that
-- is taken apart
pub record Case : Type 0 where
  pub target : Target
  pub fields : List Typed

-- What a part of a module sees outside of its functions: the type of the constant that a name means; what a
-- name means that is called; the case that a name means; the fields of a type, where it is a record that is
-- known there, and its cases, where it is a union that is known there; the names of types and classes; and
-- over the whole program the rows of declared types and those of instances.
pub record Outside : Type 0 where
  pub constant : Bytes → Option Meaning
  pub callable : Bytes → Option Callable
  pub target : Bytes → Option Target
  pub fields : Meaning → Option (List Typed)
  pub cases : Meaning → Option (List Case)
  pub visible : List (Bytes × DeclAt)
  pub heads : List (DeclAt × Head)
  pub instances : List Row

-- a variable: its name, its type, and whether it may be assigned to, which `var` declares
pub record Variable : Type 0 where
  pub name : Bytes
  pub of : Meaning
  pub assignable : Bool

-- What is in scope at a place of a function: what is outside of it, its type parameters, its result, the
-- regions of the borrow statements that are open, and the variables, each list with the innermost first.
pub record Scope : Type 0 where
  pub outside : Outside
  pub generics : List Bounded
  pub result : Meaning
  pub regions : List Bytes
  pub variables : List Variable
