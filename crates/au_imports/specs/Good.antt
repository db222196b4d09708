-- Which modules are a program of which names and promises are good.
--
-- The rules on names as they read: imports name modules that stand before and names that these offer, each
-- name that is written for a type, a class or a region means something, and no name means two different
-- declarations in one space of which at least one is imported or pervasive.
use Rattle.std.specs.Prelude.{◌≡◌, ◌≢◌, ◌<◌, ◌⊎◌, ◌++◌, ℕ, false, List, [], Some, Contains, IsTrue, is_some}
use Rattle.std.specs.Prelude.{slice_get}
use Rattle.au_base.specs.declared.places.Pos.{Pos}
use Rattle.au_syntax.specs.declared.modules.Part.{Part}
use Rattle.au_syntax.specs.Modules.{Importing}
use Rattle.au_syntax.specs.Names.{Renaming}
use Rattle.au_syntax.specs.Plain.{Bytes, PlainDeclaration}
use Rattle.au_syntax.specs.Sizes.{joined}
use Rattle.au_types.specs.declared.spaces.Space.{Space}
use Rattle.au_types.specs.declared.spaces.Space.TheVariants.{Types}
use Rattle.au_types.specs.Tables.{find, has_name}
use Rattle.au_modules.specs.Programs.{ModuleParts}
use Rattle.au_names.specs.HeadsOf.{heads_of}
use Rattle.au_names.specs.declared.targets.Target.{Target}
use Rattle.au_names.specs.Importing.{imported, place_of}
use Rattle.au_names.specs.Meanings.{declared_by, imports_in, part_of, pervasive, seen}
use Rattle.au_names.specs.Owned.{declarations_in, own}
use Rattle.au_types.specs.Senses.{built_in, sense_of}
use Rattle.au_promises.specs.declared.mentions.Mention.TheVariants.{Writes}
use Rattle.au_promises.specs.Mentions.{mentions, type_parameters}
use Rattle.au_promises.specs.Fulfilled.{AllFulfil}
use Rattle.au_imports.specs.Clashing.{is_offered}

-- An item names something that the interface of a module declares.
abbrev pub IsOffered : ModuleParts → Renaming Bytes → Type 0
IsOffered other item = (space : Space) × IsTrue (is_offered space other item.name.name)

-- An import names a module that stands before a place, and each of its items something that this declares in
-- its interface.
abbrev pub IsSourced : List ModuleParts → ℕ → Importing Bytes → Type 0
IsSourced program place i =
    (from : ℕ) × (other : ModuleParts) × (place_of program (joined i.from) ≡ Some from) × (from < place)
    × (slice_get program from ≡ Some other)
    × ((item : Renaming Bytes) → Contains i.items item → IsOffered other item)

module _ (program : List ModuleParts) (place : ℕ) (m : ModuleParts) (part : Part) where
  -- what the imports of the part bring
  abbrev pub brought : Space → List (Bytes × Target)
  brought space = imported space program place (imports_in (part_of part m))

  -- An import brings this under the name, or it is what is pervasive there: the first, where two declarations
  -- are. To the first module its own names are no others'.
  abbrev pub IsForeign : Space → Bytes → Target → Type 0
  IsForeign space name meaning =
      Contains (brought space) (name, meaning)
      ⊎ ((place ≢ 0) × (find name (pervasive space program) ≡ Some meaning))

  -- The names of a part of the module at a place are good.
  pub record NamesAreGood : Type 0 where
    pub imports : (i : Importing Bytes) → Contains (imports_in (part_of part m)) i → IsSourced program place i
    pub written : (d : PlainDeclaration) (name : Bytes) (at : Pos)
        → Contains (declarations_in (part_of part m)) d → Contains (mentions d) (Writes name at)
        → IsTrue (is_some (sense_of [] (type_parameters d) (declared_by (seen Types program place m part))
        (heads_of program) name))
    pub one : (space : Space) (name : Bytes) (meaning other : Target)
        → IsForeign space name meaning → Contains (own space place m ++ brought space) (name, other)
        → meaning ≡ other
    pub built_in : (name : Bytes) (meaning : Target)
        → Contains (own Types place m ++ brought Types) (name, meaning) → has_name name built_in ≡ false

-- The names of every part of a program are good.
abbrev pub AllNamesAreGood : List ModuleParts → Type 0
AllNamesAreGood program =
    (place : ℕ) (m : ModuleParts) (part : Part) → slice_get program place ≡ Some m
    → NamesAreGood program place m part

-- The names of every part of a program are good, and every body fulfils its interface.
pub record IsGood (program : List ModuleParts) : Type 0 where
  pub names : AllNamesAreGood program
  pub promises : AllFulfil program
