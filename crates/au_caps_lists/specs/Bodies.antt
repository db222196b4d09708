-- The functions and methods of a program with notes that have bodies.
use Rattle.std.specs.Prelude.{ℕ, ◌+◌, List, [], ◌∷◌, ◌++◌, map, Option, None, Some}
use Rattle.std.specs.List.{flat_map}
use Rattle.au_syntax.specs.declared.modules.Part.TheVariants as parts
use Rattle.au_syntax.specs.Modules.{Constrained, Header, function_body, instance_body}
use Rattle.au_syntax.specs.Plain.{Bytes}
use Rattle.au_syntax.specs.Types.{WrittenType}
use Rattle.au_types.specs.declared.parameters.Parameter.{Parameter}
use Rattle.au_types.specs.Senses.{Sense, sense_of}
use Rattle.au_judged_types.specs.Meanings.{written_params}
use Rattle.au_modules.specs.Programs.{ModuleParts}
use Rattle.au_names.specs.HeadsOf.{heads_of}
use Rattle.au_typing.specs.Trees.{NotedDeclaration, NotedEntry, NotedMethod, NotedParts, NotedStatements}
use Rattle.au_typing.specs.Written.{types_at}

-- the instance that a method is of: its class as it is written, and the type that it is for
pub record Home : Type 0 where
  pub class : Bytes
  pub of : WrittenType

-- A function or method with its body, in the body of a module: the place of the module, the instance that
-- it is a method of, if it is one, its type parameters, which a method has of its instance, what is written
-- before its body, and its block.
pub record Bodied : Type 0 where
  pub place : ℕ
  pub home : Option Home
  pub generics : List (Constrained Bytes)
  pub header : Header Bytes
  pub block : NotedStatements

-- a method of an instance
abbrev pub method_bodied : ℕ → Home → List (Constrained Bytes) → NotedMethod → Bodied
method_bodied place home generics m = record {
  place = place;
  home = Some home;
  generics = generics;
  header = m.header;
  block = m.body;
}

-- those of a declaration
abbrev pub bodied_in : ℕ → NotedDeclaration → List Bodied
bodied_in place (function_body at generics header block stop) = record {
  place = place;
  home = None;
  generics = generics;
  header = header;
  block = block;
}
    ∷ []
bodied_in place (instance_body at generics class t methods) =
    map (method_bodied place (record { class = class.name; of = t }) generics) methods
bodied_in place other = []

-- those of a file, if it is there, in the order of its text
abbrev pub bodied_of_file : ℕ → Option NotedEntry → List Bodied
bodied_of_file place None = []
bodied_of_file place (Some file) = flat_map (bodied_in place) file.tree.declarations

-- those of modules in order, the first of which has this place
unfoldable pub all_bodied_from : ℕ → List NotedParts → List Bodied
all_bodied_from place [] = []
all_bodied_from place (m ∷ ms) = bodied_of_file place m.body ++ all_bodied_from (place + 1) ms

-- those of a program: modules by their places, and each in the order of the text. Interfaces have none.
abbrev pub all_bodied : List NotedParts → List Bodied
all_bodied noted = all_bodied_from 0 noted

-- ---- what names mean there

-- the type parameters of a body
abbrev pub params_of : Bodied → List Parameter
params_of b = written_params b.generics

-- what a name means among types there
abbrev pub sense_in : List ModuleParts → Bodied → Bytes → Option Sense
sense_in program b = sense_of [] (params_of b) (types_at program b.place parts.Body) (heads_of program)
