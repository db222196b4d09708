-- Which programs have good declarations, by the rules alone.
use Rattle.std.specs.Prelude.{◌≡◌, List, Some, Contains}
use Rattle.au_types.specs.declared.types.DeclAt.{DeclAt}
use Rattle.au_modules.specs.Programs.{ModuleParts}
use Rattle.au_names.specs.HeadsOf.{heads_of}
use Rattle.au_rules.specs.Once.{AllNamesAreOnce}
use Rattle.au_formed.specs.Good.{IsWellMade}
use Rattle.au_formed.specs.Infinite.{IsInfinite}
use Rattle.au_formed.specs.Naming.{namings, type_of}
use Rattle.au_formed.specs.Text.{Spot, text, visible_at}

-- A declaration of a program is good, beside the names that it declares: it is well made, and the type that
-- it declares, if it declares one, isn't infinite.
pub record DeclarationIsGood (program : List ModuleParts) (s : Spot) : Type 0 where
  pub made : IsWellMade (visible_at program s) (heads_of program) s.says
  pub finite : (a : DeclAt) → type_of (visible_at program s) s.says ≡ Some a
      → ¬ IsInfinite (namings program) a

-- All declarations of a program are good: no name is declared again, and each is good.
pub record AllDeclarationsAreGood (program : List ModuleParts) : Type 0 where
  pub once : AllNamesAreOnce program
  pub each : (s : Spot) → Contains (text program) s → DeclarationIsGood program s
