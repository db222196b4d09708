-- The keys of instances: numbers from which an instance is told.
use Rattle.std.specs.Prelude.{ℕ, List, [], ◌∷◌, ◌++◌, length}
use Rattle.au_syntax.specs.Plain.{Bytes}
use Rattle.au_type_texts.specs.Types.{ClosedType}
use Rattle.au_type_texts.specs.Keys.{key_of}
use Rattle.au_type_texts.specs.Given.{Given}
use Rattle.au_closing.specs.Instances.{Instance}

-- a name: how many bytes it has, and they
abbrev pub name_key : Bytes → List ℕ
name_key name = length name ∷ name

-- a type parameter and what is given for it
abbrev pub pair_key : Bytes × ClosedType → List ℕ
pair_key one = name_key one.0 ++ key_of one.1

-- what is given, in order
abbrev pub given_key : Given → List ℕ
given_key [] = []
given_key (one ∷ given) = pair_key one ++ given_key given

-- an instance: of what it is one, and what is given
abbrev pub instance_key : Instance → List ℕ
instance_key one = one.of.at.«module» ∷ one.of.at.decl ∷ (name_key one.of.name ++ given_key one.given)
