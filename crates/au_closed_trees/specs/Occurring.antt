-- The closed declared types that occur in closed types, and in the fields of closed declared types.
use Rattle.std.specs.Prelude.{Bool, true, false, not, List, [], ◌∷◌, ◌++◌, if◌then◌else◌}
use Rattle.au_types.specs.declared.headings.Head.{Head}
use Rattle.au_types.specs.declared.types.DeclAt.{DeclAt}
use Rattle.au_modules.specs.Programs.{ModuleParts}
use Rattle.au_names.specs.HeadsOf.{heads_of}
use Rattle.au_formed.specs.Naming.{holder_in}
use Rattle.au_type_texts.specs.Types.{ClosedType, ClosedTypes, named, reads, writes, no_types, types}
use Rattle.au_closed_trees.specs.Parts.{ClosedCase, ClosedField, cases_of}

-- by of which declared types the arguments count
module _ (counts : DeclAt → Bool) where
  abbrev mutual
    -- the declared types that occur in a closed type
    pub occurring : ClosedType → List ClosedType
    occurring (named at args) = named at args ∷ (if counts at then all_occurring args else [])
    occurring (reads to) = occurring to
    occurring (writes to) = occurring to
    occurring t = []

    -- those that occur in closed types
    pub all_occurring : ClosedTypes → List ClosedType
    all_occurring no_types = []
    all_occurring (types t rest) = occurring t ++ all_occurring rest

  -- those that occur in the types of fields
  abbrev pub occurring_in_fields : List ClosedField → List ClosedType
  occurring_in_fields [] = []
  occurring_in_fields (f ∷ rest) = occurring f.of ++ occurring_in_fields rest

  -- those that occur in cases
  abbrev pub occurring_in_cases : List ClosedCase → List ClosedType
  occurring_in_cases [] = []
  occurring_in_cases (c ∷ rest) = occurring_in_fields c.fields ++ occurring_in_cases rest

-- whether the arguments of a declared type count: those of all types, or of all but boxes and buffers
abbrev pub counts_in : Bool → List (DeclAt × Head) → DeclAt → Bool
counts_in true heads at = true
counts_in false heads at = not (holder_in heads at)

-- the declared types that occur in the fields of a closed type, outside boxes and buffers
abbrev pub follows : List ModuleParts → ClosedType → List ClosedType
follows program t = occurring_in_cases (counts_in false (heads_of program)) (cases_of program t)
