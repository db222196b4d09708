-- What the meaning of a function's tree needs to know of the program round it. Generic trees and closed trees
-- have one meaning, over two views.
use Rattle.std.specs.Prelude.{ℕ, Bool, List, Option}
use Rattle.au_type_texts.specs.Types.{ClosedType}
use Rattle.au_shipped.specs.declared.prims.ShippedCall.{ShippedCall}
use Rattle.au_syntax.specs.Plain.{Bytes}
use Rattle.au_syntax.specs.Statements.{Statements}
use Rattle.au_meaning.specs.Worlds.{Value}

-- a field or a parameter with its closed type
pub record Field : Type 0 where
  pub name : Bytes
  pub of : ClosedType

-- What a call does: it calls a function or a method, which is an I; or it makes a value of a case of a type,
-- by its number, where the call stands in the text of a module; or it is a shipped call, with the type of
-- what is born, if it is a birth. A record is of case 0.
pub data Act (I : Type 0) : Type 0 where
  invokes : I → Act I
  makes : (of : ClosedType) (tag : ℕ) (home : Bytes) → Act I
  ships : ShippedCall → (born : Option ClosedType) → Act I

-- what is called: the names of its parameters in declared order, and what the call does
pub record Callee (I : Type 0) : Type 0 where
  pub parameters : List Bytes
  pub act : Act I

-- A view: what is known at a tree with a T noted at each expression and a C at each call besides. It says of
-- a note its closed type, if it has one, and whether the noted type is Free where the note stands; of a name
-- what its call does, and the value of the constant that it means; and of a closed type the number of its
-- case that a name means, the fields of its case of a number, and whether it is linear.
pub record View (I T C : Type 0) : Type 0 where
  pub type_of : T → Option ClosedType
  pub is_free : T → Bool
  pub callee : T → C → Bytes → Option (Callee I)
  pub constant : T → Bytes → Option Value
  pub tag : ClosedType → Bytes → Option ℕ
  pub fields : ClosedType → ℕ → Option (List Field)
  pub is_linear : ClosedType → Bool

-- A function as it is run: the view of its tree, its parameters, the number of its first name, and its body.
-- Names are numbered by their declarations, from the parameters on, in the order of the text; where functions
-- have first numbers that leave room, a number is one declaration of the program.
pub record Function (I T C : Type 0) : Type 0 where
  pub view : View I T C
  pub parameters : List Field
  pub first : ℕ
  pub body : Statements Bytes T C
