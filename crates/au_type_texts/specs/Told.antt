-- Where texts tell types apart: which rows and which types there must be.
use Rattle.std.specs.Prelude.{◌≡◌, ◌≢◌, ℕ, Bool, true, false, ◌==◌, ◌&&◌, ◌||◌, not, nat_le, List, [], ◌∷◌}
use Rattle.std.specs.Prelude.{Option, None, Some, codes, is_some, IsTrue}
use Rattle.std.specs.List.{list_all, list_any}
use Rattle.std.specs.Str.{bytes_eq}
use Rattle.au_syntax.specs.declared.declarations.Universe.TheVariants as universes
use Rattle.au_types.specs.declared.headings.Head.{Head}
use Rattle.au_types.specs.declared.parameters.Parameter.{Parameter}
use Rattle.au_types.specs.declared.types.DeclAt.{DeclAt}
use Rattle.au_types.specs.declared.types.Region.{Region}
use Rattle.au_types.specs.declared.types.Region.TheVariants as regions
use Rattle.au_types.specs.Rows.{head_of}
use Rattle.au_types.specs.Types.{Meaning, Argument, Arguments, unit, truth, integer, text, parameter, named}
use Rattle.au_types.specs.Types.{reads, writes, of_type, in_region, no_arguments, arguments}
use Rattle.au_type_texts.specs.Texts.{text_of}

-- a byte of a name: a letter, a digit or an underscore
abbrev pub is_name_byte : ℕ → Bool
is_name_byte byte =
    nat_le 65 byte && nat_le byte 90
    || nat_le 97 byte && nat_le byte 122
    || nat_le 48 byte && nat_le byte 57
    || byte == 95

abbrev pub is_colon : ℕ → Bool
is_colon byte = byte == 58

-- a byte of a declared type's text, where dots stand in the name of a module
abbrev pub is_word_byte : ℕ → Bool
is_word_byte byte = is_name_byte byte || byte == 46 || is_colon byte

-- a name that is none of these
abbrev pub is_name_beside : List (List ℕ) → List ℕ → Bool
is_name_beside taken [] = false
is_name_beside taken (first ∷ rest) =
    list_all is_name_byte (first ∷ rest) && not (list_any (bytes_eq (first ∷ rest)) taken)

-- the names of the types that are built in
abbrev pub type_names : List (List ℕ)
type_names =
    codes "Unit" ∷ codes "Bool" ∷ codes "Nat8" ∷ codes "Nat16" ∷ codes "Nat32" ∷ codes "Nat64"
    ∷ codes "Int8" ∷ codes "Int16" ∷ codes "Int32" ∷ codes "Int64" ∷ codes "Index" ∷ codes "Span" ∷ []

-- the name of the region that is built in
abbrev pub region_names : List (List ℕ)
region_names = codes "Static" ∷ []

-- the text of a declared type: a colon stands in it, and else names and dots
abbrev pub is_declared : List ℕ → Bool
is_declared bytes = list_any is_colon bytes && list_all is_word_byte bytes

-- the rows have texts of declared types, and different declarations have different ones
pub record AreTold (rows : List (DeclAt × Head)) : Type 0 where
  pub declared : (at : DeclAt) (head : Head) → head_of rows at ≡ Some head → is_declared head.text ≡ true
  pub apart : (a b : DeclAt) (head other : Head)
      → head_of rows a ≡ Some head → head_of rows b ≡ Some other
      → head.text ≡ other.text → a ≡ b

-- a region: one with a name hasn't the name of the one that is built in
abbrev pub IsRegion : Region → Type 0
IsRegion regions.Static = Unit {0}
IsRegion (regions.Named name) = IsTrue (is_name_beside region_names name)
IsRegion regions.Anonymous = Unit {0}

-- the type parameters of a declaration
abbrev pub params_of : Option Head → List Parameter
params_of None = []
params_of (Some head) = head.params

module _ (rows : List (DeclAt × Head)) where
  abbrev mutual
    -- The type stands over the rows: each declared type has a row there and arguments that fit it, and no
    -- type parameter has the name of a type that is built in.
    pub Stands : Meaning → Type 0
    Stands unit = Unit {0}
    Stands truth = Unit {0}
    Stands (integer kind) = Unit {0}
    Stands text = Unit {0}
    Stands (parameter name) = IsTrue (is_name_beside type_names name)
    Stands (named at args) = IsTrue (is_some (head_of rows at)) × Fit (params_of (head_of rows at)) args
    Stands (reads to region) = Stands to × IsRegion region
    Stands (writes to region) = Stands to × IsRegion region

    -- an argument is a region exactly where the type parameter is one
    pub FitsArgument : Parameter → Argument → Type 0
    FitsArgument one (of_type t) = (one.universe ≢ universes.Region) × Stands t
    FitsArgument one (in_region region) = (one.universe ≡ universes.Region) × IsRegion region

    -- there are as many arguments as type parameters, and each fits
    pub Fit : List Parameter → Arguments → Type 0
    Fit [] no_arguments = Unit {0}
    Fit (one ∷ others) (arguments first rest) = FitsArgument one first × Fit others rest
    Fit params args = ⊥

-- over such rows, two types with one text are one type
abbrev pub TextsTell : Type 0
TextsTell =
    (rows : List (DeclAt × Head)) → AreTold rows
    → (t u : Meaning) → Stands rows t → Stands rows u
    → text_of rows t ≡ text_of rows u → t ≡ u
