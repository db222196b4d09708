-- The limits of instances.
use Rattle.std.specs.Prelude.{ℕ, [], ◌∷◌, Option, None}
use Rattle.std.specs.Option.{option_or}
use Rattle.au_base.specs.declared.limits.Limit.{Limit}
use Rattle.au_base.specs.declared.limits.LimitKind.TheVariants.{Instances}
use Rattle.au_type_texts.specs.ClosedSizes.{depth_limit, nodes_limit}
use Rattle.au_type_texts.specs.Types.{ClosedType}
use Rattle.au_type_texts.specs.Given.{Given}
use Rattle.au_closing.specs.Instances.{Instance}

-- the most instances of a program
abbrev pub most_instances : ℕ
most_instances = 4096

-- what is told of one instance more
abbrev pub too_many : Limit
too_many = record { kind = Instances; count = 4097; most = 4096 }

-- what is told of the first type that is given and of which something is told
abbrev pub first_told : (ClosedType → Option Limit) → Given → Option Limit
first_told told [] = None
first_told told (one ∷ given) = option_or (told one.1) (first_told told given)

-- what is told of an instance by itself: of the depths of the types that are given, in order, and then of
-- their nodes
abbrev pub instance_told : Instance → Option Limit
instance_told one = option_or (first_told depth_limit one.given) (first_told nodes_limit one.given)
