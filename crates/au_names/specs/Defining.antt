-- How what defines a type is found by its name, without a walk through the body of its module.
use Rattle.std.specs.Prelude.{◌≡◌, ℕ, ◌+◌, List, [], ◌∷◌, ◌++◌, map, Option, None, Some}
use Rattle.au_syntax.specs.Plain.{Bytes, PlainDeclaration}
use Rattle.au_types.specs.Tables.{with_all}
use Rattle.au_modules.specs.Programs.{ModuleParts}
use Rattle.au_names.specs.Methods.{AreMethods}
use Rattle.au_names.specs.Owned.{declarations_in}
use Rattle.au_names.specs.Standing.{whole_name}
use Rattle.au_names.specs.declared.definitions.Definitions.{Definitions}

-- a name with an index, if there is one
abbrev pub indexed : ℕ → Option Bytes → List (Bytes × ℕ)
indexed index None = []
indexed index (Some name) = (name, index) ∷ []

-- the names of the records and unions among declarations, with their indices, which count from here on
unfoldable pub wholes_from : ℕ → List PlainDeclaration → List (Bytes × ℕ)
wholes_from index [] = []
wholes_from index (d ∷ ds) = indexed index (whole_name d) ++ wholes_from (index + 1) ds

-- the table of the records and unions of a body: the first one of a name counts
abbrev pub wholes_of : ModuleParts → List (Bytes × ℕ)
wholes_of m = with_all [] (wholes_from 0 (declarations_in m.body))

-- the same, of a module that may be missing
abbrev pub wholes_at : Option ModuleParts → List (Bytes × ℕ)
wholes_at None = []
wholes_at (Some m) = wholes_of m

-- What is made for the modules of a program: the records and unions of each body, and the methods of each
-- declaration.
pub record AreDefinitions (definitions : Definitions) (program : List ModuleParts) : Type 0 where
  pub wholes : definitions.wholes.items ≡ map wholes_of program
  pub methods : AreMethods definitions.methods program
