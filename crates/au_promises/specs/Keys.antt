-- Keys of instances, by which the instance of the body that an interface promises is looked up. Two written
-- types, one of the interface and one of the body, have one key exactly where they are the same word for
-- word.
use Rattle.std.specs.Prelude.{ℕ, ◌/◌, ◌%◌, List, [], ◌∷◌, ◌++◌, length, Option, None, Some}
use Rattle.au_syntax.specs.declared.types.Access.{Access}
use Rattle.au_syntax.specs.declared.types.Access.TheVariants as access
use Rattle.au_syntax.specs.Names.{Placed}
use Rattle.au_syntax.specs.Plain.{Bytes}
use Rattle.au_syntax.specs.Types.{WrittenType, WrittenTypes, named, reference, no_types, types}
use Rattle.au_types.specs.Tables.{find}
use Rattle.au_types.specs.declared.headings.Head.{Head}
use Rattle.au_types.specs.declared.parameters.Parameter.{Parameter}
use Rattle.au_types.specs.declared.types.DeclAt.{DeclAt}
use Rattle.au_promises.specs.Wording.{declaration_meant}

-- a number below 2 ^ 16, in two bytes
abbrev pub number_key : ℕ → Bytes
number_key n = n % 256 ∷ n / 256 ∷ []

-- a declaration: the place of its module, and its own in two halves
abbrev pub place_key : DeclAt → Bytes
place_key at = number_key at.«module» ++ number_key (at.decl % 65536) ++ number_key (at.decl / 65536)

-- a word: its bytes behind their number where it means no declaration, and the declaration where it means one
abbrev pub word_key : Bytes → Option DeclAt → Bytes
word_key name None = 0 ∷ length name ∷ name
word_key name (Some at) = 1 ∷ place_key at

-- the class of an instance
abbrev pub class_key : List (Bytes × DeclAt) → Placed Bytes → Bytes
class_key visible name = word_key name.name (find name.name visible)

-- the sign of a reference
abbrev pub access_key : Access → ℕ
access_key access.Read = 1
access_key access.Write = 2

-- what is written among type parameters, names and rows
module _ (scope : List Parameter) (visible : List (Bytes × DeclAt)) (rows : List (DeclAt × Head)) where
  -- a word of a type
  abbrev pub meant_key : Bytes → Bytes
  meant_key name = word_key name (declaration_meant scope visible rows name)

  abbrev mutual
    -- a written type, word for word
    pub wording_key : WrittenType → Bytes
    wording_key (named name args) = 0 ∷ meant_key name.name ++ wordings_key args
    wording_key (reference at kind t region) = access_key kind ∷ meant_key region.name ++ wording_key t

    -- arguments, each behind a 1, and a 0 behind them
    pub wordings_key : WrittenTypes → Bytes
    wordings_key no_types = 0 ∷ []
    wordings_key (types t rest) = 1 ∷ wording_key t ++ wordings_key rest

  -- an instance: its class and its written type
  abbrev pub instance_key : Placed Bytes → WrittenType → Bytes
  instance_key name t = class_key visible name ++ wording_key t
