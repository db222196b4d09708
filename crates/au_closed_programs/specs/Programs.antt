-- What a program closes to from an entry.
use Rattle.std.specs.Prelude.{◌≡◌, ℕ, Bool, true, List, [], ◌∷◌, ◌++◌, map}
use Rattle.std.specs.List.Sorted.{IsPermutation, IsSorted}
use Rattle.std.specs.Ordering.{nat_cmp, ordering_then}
use Rattle.std.specs.declared.cmp.Ordering.{Ordering}
use Rattle.std.specs.Cmp.Lexicographic.{slice_cmp}
use Rattle.au_syntax.specs.Plain.{Bytes}
use Rattle.au_types.specs.declared.headings.Head.{Head}
use Rattle.au_types.specs.declared.types.DeclAt.{DeclAt}
use Rattle.au_modules.specs.Programs.{ModuleParts}
use Rattle.au_names.specs.declared.targets.Target.{Target}
use Rattle.au_names.specs.HeadsOf.{heads_of}
use Rattle.au_typing.specs.Trees.{NotedParts}
use Rattle.au_matching.specs.Universes.{is_linear}
use Rattle.au_type_texts.specs.Same.{same}
use Rattle.au_type_texts.specs.ClosedTexts.{text_of}
use Rattle.au_type_texts.specs.Types.{ClosedType, named}
use Rattle.au_type_texts.specs.Keys.{key_of}
use Rattle.au_instances.specs.ClosedInstances.{closed_universe}
use Rattle.au_graphs.specs.Reached.{Lists}
use Rattle.au_closed_trees.specs.Occurring.{counts_in, follows, occurring, occurring_in_fields}
use Rattle.au_closed_trees.specs.Parts.{ClosedCase, cases_of}
use Rattle.au_closed_trees.specs.Types.{types_in_block}
use Rattle.au_closing.specs.Entries.{begins, entry_of}
use Rattle.au_closing.specs.Closes.{ClosedFunction, ClosesFunctions}
use Rattle.au_closing.specs.Instances.{Instance}
use Rattle.au_closing.specs.Leading.{module_name}

-- ---- the types

-- a closed declared type: its key, from which it is told, its text, the name of its module, whether it is
-- Linear, and its cases
pub record TypeRow : Type 0 where
  pub of : ClosedType
  pub key : List ℕ
  pub text : List ℕ
  pub home : Bytes
  pub linear : Bool
  pub cases : List ClosedCase

-- how two rows stand in their order: by the bytes of their texts, and by their keys where these are equal
abbrev pub row_cmp : TypeRow → TypeRow → Ordering
row_cmp one other =
    ordering_then (slice_cmp nat_cmp one.text other.text) (slice_cmp nat_cmp one.key other.key)

-- the declared types that occur in a function: in its parameters, its result and its notes
abbrev pub types_in_function : List (DeclAt × Head) → ClosedFunction → List ClosedType
types_in_function heads f =
    occurring_in_fields (counts_in true heads) f.parameters ++ occurring (counts_in true heads) f.result
    ++ types_in_block heads f.body

-- those that occur in functions
abbrev pub types_in_functions : List (DeclAt × Head) → List ClosedFunction → List ClosedType
types_in_functions heads [] = []
types_in_functions heads (f ∷ rest) = types_in_function heads f ++ types_in_functions heads rest

module _ (program : List ModuleParts) where
  -- the name of the module of a declared type
  abbrev pub home_of : ClosedType → Bytes
  home_of (named at args) = module_name program at.«module»
  home_of t = []

  -- a closed declared type of a program
  abbrev pub row_of : ClosedType → TypeRow
  row_of t = record {
    of = t;
    key = key_of t;
    text = text_of (heads_of program) t;
    home = home_of t;
    linear = is_linear (closed_universe (heads_of program) t);
    cases = cases_of program t;
  }

  -- Rows are those of the closed declared types that occur in functions, or in a field of such a type outside
  -- boxes and buffers: each stands there once, and they are in their order.
  pub record ClosesTypes (functions : List ClosedFunction) (rows : List TypeRow) : Type 0 where
    pub reached : List ClosedType
    pub lists : Lists same (follows program) (types_in_functions (heads_of program) functions) reached
    pub are_theirs : IsPermutation (map row_of reached) rows
    pub ordered : IsSorted row_cmp rows

-- ---- the program

-- a closed program: its functions by their numbers, its types, and whether the entry takes the root
pub record ClosedProgram : Type 0 where
  pub functions : List ClosedFunction
  pub types : List TypeRow
  pub root : Bool

-- a function without type parameters as an instance
abbrev pub plain_instance : Target → Instance
plain_instance target = record { of = target; given = [] }

-- A program with notes closes to this from the entry that is named by its module and its own name: the entry
-- has its form; the functions are the instances that are reached from it, breadth first; and the types are
-- those that occur.
pub record Closes (program : List ModuleParts) (noted : List NotedParts) (owner name : Bytes)
    (c : ClosedProgram) : Type 0 where
  pub entry : Target
  pub begins_there : entry_of program owner name ≡ begins entry c.root
  pub functions : ClosesFunctions program noted (plain_instance entry) c.functions
  pub types : ClosesTypes program c.functions c.types
