-- What stands in types: declared types and type parameters, in arguments and behind references too.
use Rattle.std.specs.Prelude.{List, [], ◌∷◌, ◌++◌, Option, None, Some}
use Rattle.std.specs.List.{flat_map}
use Rattle.au_syntax.specs.Plain.{Bytes}
use Rattle.au_syntax.specs.Types.{Bound, Labelled, WrittenType, WrittenTypes, named, reference, no_types}
use Rattle.au_syntax.specs.Types.{types}
use Rattle.au_types.specs.declared.types.DeclAt.{DeclAt}
use Rattle.au_types.specs.Senses as senses
use Rattle.au_types.specs.Senses.{Sense}
use Rattle.au_types.specs.Types as mean
use Rattle.au_types.specs.Types.{Meaning, Argument, Arguments}

-- what stands in a type: a declared type, or a type parameter
pub data Mention : Type 0 where
  declared : DeclAt → Mention
  generic : Bytes → Mention

unfoldable mutual
  -- what stands in a type
  pub mentions : Meaning → List Mention
  mentions mean.unit = []
  mentions mean.truth = []
  mentions (mean.integer kind) = []
  mentions mean.text = []
  mentions (mean.parameter name) = generic name ∷ []
  mentions (mean.named at args) = declared at ∷ mentions_in_all args
  mentions (mean.reads t region) = mentions t
  mentions (mean.writes t region) = mentions t

  -- in an argument
  pub mentions_in : Argument → List Mention
  mentions_in (mean.of_type t) = mentions t
  mentions_in (mean.in_region region) = []

  -- in arguments
  pub mentions_in_all : Arguments → List Mention
  mentions_in_all mean.no_arguments = []
  mentions_in_all (mean.arguments one rest) = mentions_in one ++ mentions_in_all rest

-- ---- written types

-- what a name with this sense is, if it is a declared type or a type parameter
abbrev pub mentions_of : Option Sense → List Mention
mentions_of None = []
mentions_of (Some (senses.a_type t)) = mentions t
mentions_of (Some senses.a_span) = []
mentions_of (Some (senses.a_region region)) = []
mentions_of (Some (senses.declared at expected)) = declared at ∷ []
mentions_of (Some (senses.a_class at)) = []

-- by what a name means among types
module _ (sense : Bytes → Option Sense) where
  unfoldable mutual
    -- what stands in a written type, in the order of the text
    pub written_mentions : WrittenType → List Mention
    written_mentions (named name args) = mentions_of (sense name.name) ++ all_written args
    written_mentions (reference at access target region) = written_mentions target

    -- in written types
    pub all_written : WrittenTypes → List Mention
    all_written no_types = []
    all_written (types t rest) = written_mentions t ++ all_written rest

  -- in the types of parameters
  abbrev pub field_mentions : List (Labelled Bytes) → List Mention
  field_mentions fields = flat_map (λ (f : Labelled Bytes). written_mentions f.of) fields

  -- in the types of bound names
  abbrev pub bind_mentions : List (Bound Bytes) → List Mention
  bind_mentions binds = flat_map (λ (one : Bound Bytes). written_mentions one.of) binds
