-- The depth of a type and its nodes, as its text has them, and the limits of both.
use Rattle.std.specs.Prelude.{ℕ, ◌+◌, Option, None, Some, max, min, nat_le, if◌then◌else◌}
use Rattle.au_base.specs.declared.limits.Limit.{Limit}
use Rattle.au_base.specs.declared.limits.LimitKind.TheVariants.{TypeDepth, TypeNodes}
use Rattle.au_base.specs.Limits.{most_type_depth, most_type_nodes}
use Rattle.au_types.specs.Types.{Meaning, Argument, Arguments, unit, truth, integer, text, parameter, named}
use Rattle.au_types.specs.Types.{reads, writes, of_type, in_region, no_arguments, arguments}

abbrev mutual
  -- The depth of a type: a name alone is 1, and a reference or a type with arguments is one more than the
  -- deepest type or region in it. The type of texts has its arguments in its text.
  pub depth_of : Meaning → ℕ
  depth_of unit = 1
  depth_of truth = 1
  depth_of (integer kind) = 1
  depth_of text = 2
  depth_of (parameter name) = 1
  depth_of (named at args) = 1 + arguments_depth args
  depth_of (reads to region) = 1 + depth_of to
  depth_of (writes to region) = 1 + depth_of to

  pub argument_depth : Argument → ℕ
  argument_depth (of_type t) = depth_of t
  argument_depth (in_region region) = 1

  pub arguments_depth : Arguments → ℕ
  arguments_depth no_arguments = 0
  arguments_depth (arguments one rest) = max (argument_depth one) (arguments_depth rest)

abbrev mutual
  -- the nodes of a type: the names in its text, those of type parameters and regions among them, and each
  -- `~`, `&` and `&!`
  pub nodes_of : Meaning → ℕ
  nodes_of unit = 1
  nodes_of truth = 1
  nodes_of (integer kind) = 1
  nodes_of text = 3
  nodes_of (parameter name) = 1
  nodes_of (named at args) = 1 + arguments_nodes args
  nodes_of (reads to region) = 2 + nodes_of to
  nodes_of (writes to region) = 2 + nodes_of to

  pub argument_nodes : Argument → ℕ
  argument_nodes (of_type t) = nodes_of t
  argument_nodes (in_region region) = 1

  pub arguments_nodes : Arguments → ℕ
  arguments_nodes no_arguments = 0
  arguments_nodes (arguments one rest) = argument_nodes one + arguments_nodes rest

-- the greatest number that code counts to, 2^64 - 1
abbrev pub most_counted : ℕ
most_counted = 18446744073709551615

-- a number as code counts it: at the greatest one the count stands still
abbrev pub counted : ℕ → ℕ
counted n = min n most_counted

-- what is told of a type that is too deep: the first depth that is
abbrev pub depth_limit : Meaning → Option Limit
depth_limit t =
    if nat_le (depth_of t) most_type_depth then None
    else Some (record { kind = TypeDepth; count = most_type_depth + 1; most = most_type_depth })

-- what is told of a type that has too many nodes: how many it has
abbrev pub nodes_limit : Meaning → Option Limit
nodes_limit t =
    if nat_le (nodes_of t) most_type_nodes then None
    else Some (record { kind = TypeNodes; count = counted (nodes_of t); most = most_type_nodes })
