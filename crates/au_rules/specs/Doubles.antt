-- Which names are declared again, as a function of the text of a module: a name is judged by the marks before
-- it, of which the last stands first.
use Rattle.std.specs.Prelude.{ℕ, zero, suc, Bool, true, false, ◌&&◌, ◌||◌, if◌then◌else◌, List, [], ◌∷◌, ◌++◌}
use Rattle.std.specs.Prelude.{Option, None, Some, map, slice_get}
use Rattle.std.specs.List.{fold, list_any}
use Rattle.std.specs.Option.{option_map, option_or}
use Rattle.std.specs.Str.{bytes_eq}
use Rattle.au_syntax.specs.declared.modules.Part.TheVariants.{Interface, Body}
use Rattle.au_syntax.specs.Plain.{Bytes, PlainDeclaration}
use Rattle.au_types.specs.declared.types.DeclAt.{DeclAt}
use Rattle.au_modules.specs.Programs.{ModuleParts}
use Rattle.au_names.specs.Meanings.{part_of}
use Rattle.au_names.specs.Owned.{declarations_in}
use Rattle.au_rules.specs.declared.doubles.Double.{Double}
use Rattle.au_rules.specs.declared.marks.Kind.{Kind}
use Rattle.au_rules.specs.declared.marks.Kind.TheVariants.{Values, Callables, Types, Fields}
use Rattle.au_rules.specs.declared.marks.Mark.{Mark}
use Rattle.au_rules.specs.declared.marks.Mark.TheVariants.{Opens, Closes, Declares}
use Rattle.au_rules.specs.declared.marks.Role.{Role}
use Rattle.au_rules.specs.declared.marks.Role.TheVariants.{Local, Whole, Promise, Definition}
use Rattle.au_rules.specs.Marks.{marks}
use Rattle.au_rules.specs.Outside.{outside}

abbrev pub same_kind : Kind → Kind → Bool
same_kind Values Values = true
same_kind Callables Callables = true
same_kind Types Types = true
same_kind Fields Fields = true
same_kind kind other = false

abbrev pub same_role : Role → Role → Bool
same_role Local Local = true
same_role Whole Whole = true
same_role Promise Promise = true
same_role Definition Definition = true
same_role role other = false

-- a mark declares this name so
abbrev pub is_declaring : Role → Kind → Bytes → Mark → Bool
is_declaring role kind name (Declares its other same at) =
    same_role role its && (same_kind kind other && bytes_eq name same)
is_declaring role kind name mark = false

-- what the marks before a place say, the last first
module _ (before : List Mark) where
  -- a name is declared so
  abbrev pub stands : Role → Kind → Bytes → Bool
  stands role kind name = list_any (is_declaring role kind name) before

  -- at the top of the module
  abbrev pub is_top : Kind → Bytes → Bool
  is_top kind name = stands Whole kind name || (stands Promise kind name || stands Definition kind name)

  -- anywhere
  abbrev pub is_declared : Kind → Bytes → Bool
  is_declared kind name = stands Local kind name || is_top kind name

-- A local name is in scope behind marks, of which the last stands first, where some blocks are passed over:
-- those that end before the place and begin before the name.
unfoldable pub is_open : Kind → Bytes → ℕ → List Mark → Bool
is_open kind name passed [] = false
is_open kind name passed (Closes ∷ before) = is_open kind name (suc passed) before
is_open kind name zero (Opens ∷ before) = is_open kind name zero before
is_open kind name (suc passed) (Opens ∷ before) = is_open kind name passed before
is_open kind name zero (Declares role other same at ∷ before) =
    is_declaring Local kind name (Declares role other same at) || is_open kind name zero before
is_open kind name (suc passed) (Declares role other same at ∷ before) = is_open kind name (suc passed) before

-- names of each kind that are in scope in all of the module and come from elsewhere
module _ (foreign : Kind → Bytes → Bool) where
  -- A name is declared again behind marks. A local one is where it is in scope. One at the top of the module
  -- is where any mark declares it, since it is in scope before it too; but what is promised is defined once.
  abbrev pub is_name_again : List Mark → Role → Kind → Bytes → Bool
  is_name_again before Local kind name =
      foreign kind name || (is_top before kind name || is_open kind name zero before)
  is_name_again before Whole kind name = is_declared before kind name
  is_name_again before Promise kind name = is_declared before kind name
  is_name_again before Definition kind name =
      if stands before Promise kind name then stands before Definition kind name
      else is_declared before kind name

  -- what a mark declares again
  abbrev pub double_of : List Mark → Mark → Option Double
  double_of before Opens = None
  double_of before Closes = None
  double_of before (Declares role kind name at) =
      if is_name_again before role kind name then Some (record { name = name; at = at }) else None

  -- the first name of marks that is declared again, behind others
  unfoldable pub first_again : List Mark → List Mark → Option Double
  first_again before [] = None
  first_again before (m ∷ rest) = option_or (double_of before m) (first_again (m ∷ before) rest)

-- marks with more behind them, and with those of several declarations: the last stands first
abbrev pub marks_behind : List Mark → List Mark → List Mark
marks_behind before more = fold (λ marks m. m ∷ marks) before more

abbrev pub behind_all : List Mark → List (List Mark) → List Mark
behind_all before more = fold marks_behind before more

-- the first name of each of several declarations that is declared again, behind marks
unfoldable pub doubles_behind : (Kind → Bytes → Bool) → List Mark → List (List Mark) → List (Option Double)
doubles_behind foreign before [] = []
doubles_behind foreign before (d ∷ rest) =
    first_again foreign before d ∷ doubles_behind foreign (marks_behind before d) rest

-- the doubles of the declarations of an interface and of a body, by their numbers, given what comes from
-- elsewhere in each of the two: the interface stands before the body
abbrev pub text_doubles : (Kind → Bytes → Bool) → (Kind → Bytes → Bool) → List PlainDeclaration
    → List PlainDeclaration → List (Option Double)
text_doubles outer inner interface body =
    doubles_behind outer [] (map (marks Interface) interface)
    ++ doubles_behind inner (behind_all [] (map (marks Interface) interface)) (map (marks Body) body)

-- those of the module at a place
abbrev pub doubles_of : List ModuleParts → ℕ → ModuleParts → List (Option Double)
doubles_of program place m =
    text_doubles (outside program place m Interface) (outside program place m Body)
    (declarations_in (part_of Interface m)) (declarations_in (part_of Body m))

-- the double of a number among those of declarations
abbrev pub numbered_double : ℕ → Option (List (Option Double)) → Option Double
numbered_double number None = None
numbered_double number (Some doubles) = joined (slice_get doubles number)
  where
    joined : Option (Option Double) → Option Double
    joined None = None
    joined (Some found) = found

-- that of a declaration, given those of the modules by their places
abbrev pub double_at : List (List (Option Double)) → DeclAt → Option Double
double_at doubles at = numbered_double at.decl (slice_get doubles at.«module»)

-- The first name of a declaration that is declared again.
abbrev pub first_double : List ModuleParts → DeclAt → Option Double
first_double program at =
    numbered_double at.decl (option_map (doubles_of program at.«module») (slice_get program at.«module»))
