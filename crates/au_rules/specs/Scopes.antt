-- The tables that are kept while the text of a module is read, and how each mark changes them: for each kind
-- the names that are declared so far, by their roles, and the local names of the blocks that are open.
use Rattle.std.specs.Prelude.{ℕ, Bool, ◌||◌, if◌then◌else◌, List, [], ◌∷◌, Option, None, Some, slice_get}
use Rattle.std.specs.Prelude.{slice_index_or, slice_set}
use Rattle.std.specs.List.{fold}
use Rattle.std.specs.Option.{option_or}
use Rattle.au_syntax.specs.Plain.{Bytes}
use Rattle.au_types.specs.Tables.{has_name, with_pair}
use Rattle.au_rules.specs.declared.doubles.Double.{Double}
use Rattle.au_rules.specs.declared.marks.Kind.{Kind}
use Rattle.au_rules.specs.declared.marks.Kind.TheVariants.{Values, Callables, Types, Fields}
use Rattle.au_rules.specs.declared.marks.Mark.{Mark}
use Rattle.au_rules.specs.declared.marks.Mark.TheVariants.{Opens, Closes, Declares}
use Rattle.au_rules.specs.declared.marks.Role.{Role}
use Rattle.au_rules.specs.declared.marks.Role.TheVariants.{Local, Whole, Promise, Definition}
use Rattle.au_rules.specs.declared.scopes.Names.{Names}
use Rattle.au_rules.specs.Nests.{entered, left, with_name}

-- ---- one kind

abbrev pub no_names : Names
no_names = record { locals = []; wholes = []; promises = []; definitions = []; nest = ([], []) }

-- a name is declared so
abbrev pub noted : Role → Bytes → Names → Names
noted Local name t = record t { locals = with_pair t.locals name tt; nest = with_name name tt t.nest }
noted Whole name t = record t { wholes = with_pair t.wholes name tt }
noted Promise name t = record t { promises = with_pair t.promises name tt }
noted Definition name t = record t { definitions = with_pair t.definitions name tt }

-- a block begins, and the innermost one ends
abbrev pub opened : Names → Names
opened t = record t { nest = entered t.nest }

abbrev pub closed : Names → Names
closed t = record t { nest = left t.nest }

-- a name stands at the top of the module, and anywhere
abbrev pub is_top_in : Names → Bytes → Bool
is_top_in t name = has_name name t.wholes || (has_name name t.promises || has_name name t.definitions)

abbrev pub is_known_in : Names → Bytes → Bool
is_known_in t name = has_name name t.locals || is_top_in t name

-- a name is declared again, given whether it comes from elsewhere too
abbrev pub is_again_in : Bool → Names → Role → Bytes → Bool
is_again_in foreign t Local name = foreign || (is_top_in t name || has_name name t.nest.0)
is_again_in foreign t Whole name = is_known_in t name
is_again_in foreign t Promise name = is_known_in t name
is_again_in foreign t Definition name =
    if has_name name t.promises then has_name name t.definitions else is_known_in t name

-- ---- all kinds, in order

-- which of the kinds a kind is
abbrev pub number_of : Kind → ℕ
number_of Values = 0
number_of Callables = 1
number_of Types = 2
number_of Fields = 3

abbrev pub no_scopes : List Names
no_scopes = no_names ∷ no_names ∷ no_names ∷ no_names ∷ []

-- the names of one kind change
abbrev pub changed : Kind → (Names → Names) → List Names → List Names
changed kind f s = slice_set s (number_of kind) (f (slice_index_or s (number_of kind) no_names))

-- those of each kind do
abbrev pub changed_each : (Names → Names) → List Names → List Names
changed_each f s = changed Fields f (changed Types f (changed Callables f (changed Values f s)))

-- a name of a kind is declared again, given whether it comes from elsewhere too
abbrev pub is_again_of : Bool → Option Names → Role → Bytes → Bool
is_again_of foreign None role name = foreign
is_again_of foreign (Some t) role name = is_again_in foreign t role name

abbrev pub is_again_among : Bool → List Names → Role → Kind → Bytes → Bool
is_again_among foreign s role kind name = is_again_of foreign (slice_get s (number_of kind)) role name

-- the tables behind a mark, and behind several
abbrev pub after : List Names → Mark → List Names
after s Opens = changed_each opened s
after s Closes = changed_each closed s
after s (Declares role kind name at) = changed kind (noted role name) s

abbrev pub after_all : List Names → List Mark → List Names
after_all s marks = fold after s marks

module _ (foreign : Kind → Bytes → Bool) where
  -- what a mark declares again
  abbrev pub double_in : List Names → Mark → Option Double
  double_in s Opens = None
  double_in s Closes = None
  double_in s (Declares role kind name at) =
      if is_again_among (foreign kind name) s role kind name then Some (record { name = name; at = at }) else
      None

  -- the first name of marks that is declared again
  unfoldable pub first_in : List Names → List Mark → Option Double
  first_in s [] = None
  first_in s (m ∷ rest) = option_or (double_in s m) (first_in (after s m) rest)

  -- that of each of several declarations
  unfoldable pub doubles_in : List Names → List (List Mark) → List (Option Double)
  doubles_in s [] = []
  doubles_in s (d ∷ rest) = first_in s d ∷ doubles_in (after_all s d) rest
