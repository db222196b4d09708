-- What written types mean while a program runs: `~` can't be written, and each name in what is meant is
-- that of a type parameter or of a region in scope.
use Rattle.std.specs.Prelude.{◌≡◌, ◌⊎◌, ℕ, true, List, Some, is_some}
use Rattle.std.specs.List.{list_any}
use Rattle.std.specs.Str.{bytes_eq}
use Rattle.au_syntax.specs.declared.declarations.Universe.TheVariants.{Region}
use Rattle.au_syntax.specs.Plain.{Bytes}
use Rattle.au_syntax.specs.Types.{WrittenType}
use Rattle.au_types.specs.declared.headings.Head.{Head}
use Rattle.au_types.specs.declared.parameters.Parameter.{Parameter}
use Rattle.au_types.specs.declared.types.DeclAt.{DeclAt}
use Rattle.au_types.specs.Meant.{meant}
use Rattle.au_types.specs.Types.{Meaning}
use Rattle.au_types.specs.Universes.{universe_in}
use Rattle.au_matching.specs.Substituted.{EachName}
use Rattle.au_matching.specs.Universes.{of_parameter}
use Rattle.au_running_types.specs.Running.{is_lasting}

-- a name is that of a type parameter which isn't a region
abbrev pub IsTypeName : List Parameter → List ℕ → Type 0
IsTypeName params name = is_some (of_parameter (universe_in params name)) ≡ true

-- a name is that of a region: of a borrow statement that is open, or of a type parameter
abbrev pub IsRegionName : List Bytes → List Parameter → List ℕ → Type 0
IsRegionName opened params name =
    (list_any (bytes_eq name) opened ≡ true) ⊎ (universe_in params name ≡ Some Region)

-- A type can be written where these regions are open, over these type parameters: `~` stands nowhere in it,
-- and each name in it is one that is in scope.
pub record IsWritten (opened : List Bytes) (params : List Parameter) (t : Meaning) : Type 0 where
  pub lasting : is_lasting t ≡ true
  pub names : EachName (IsTypeName params) (IsRegionName opened params) t

-- What a written type means can be written.
abbrev pub MeaningsAreWritten : Type 0
MeaningsAreWritten =
    (opened : List Bytes) (params : List Parameter) (visible : List (Bytes × DeclAt)) (heads : List (DeclAt
    × Head))
    (w : WrittenType) (t : Meaning) → meant opened params visible heads w ≡ Some t → IsWritten opened params t
