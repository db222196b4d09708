-- The limits on the types of a note.
use Rattle.std.specs.Prelude.{List, [], ◌∷◌, ◌++◌, Bool, Option, Some, None, is_none, option_to_list, Err}
use Rattle.std.specs.Option.{option_or}
use Rattle.au_base.specs.declared.limits.Limit.{Limit}
use Rattle.au_types.specs.Types.{Meaning}
use Rattle.au_instances.specs.Sizes.{depth_limit, nodes_limit}
use Rattle.au_typing.specs.Faults.{Noting, limit}
use Rattle.au_typing.specs.Notes.{Mode}

-- the first limit that one of the types passes
abbrev pub first_limit : (Meaning → Option Limit) → List Meaning → Option Limit
first_limit test [] = None
first_limit test (t ∷ types) = option_or (test t) (first_limit test types)

-- the limit that some types pass: the depth of each of them counts before the nodes of any
abbrev pub limit_among : List Meaning → Option Limit
limit_among types = option_or (first_limit depth_limit types) (first_limit nodes_limit types)

-- no type passes a limit
abbrev pub are_within : List Meaning → Bool
are_within types = is_none (limit_among types)

-- the types of a note in order: the wanted type, the type, and the values of type parameters
abbrev pub types_noted : Mode → Meaning → List Meaning → List Meaning
types_noted mode t values = option_to_list mode ++ t ∷ values

-- what follows, where there is no limit that is passed
abbrev pub unless_limit : {A : Type 0} → Option Limit → Noting A → Noting A
unless_limit None rest = rest
unless_limit (Some passed) rest = Err (limit passed)

-- what follows, where no type passes a limit
abbrev pub within : {A : Type 0} → List Meaning → Noting A → Noting A
within types rest = unless_limit (limit_among types) rest
