-- The depth of a closed type and its nodes, as its text has them, and the limits of both.
use Rattle.std.specs.Prelude.{ℕ, ◌+◌, Option, None, Some, max, nat_le, if◌then◌else◌}
use Rattle.au_base.specs.declared.limits.Limit.{Limit}
use Rattle.au_base.specs.declared.limits.LimitKind.TheVariants.{TypeDepth, TypeNodes}
use Rattle.au_base.specs.Limits.{most_type_depth, most_type_nodes}
use Rattle.au_type_texts.specs.Sizes.{counted}
use Rattle.au_type_texts.specs.Types.{ClosedType, ClosedTypes, unit, truth, integer, text, named, reads}
use Rattle.au_type_texts.specs.Types.{writes, no_types, types}

abbrev mutual
  -- The depth of a closed type: a name alone is 1, and a reference or a type with arguments is one more than
  -- the deepest type in it. The type of texts has its arguments in its text.
  pub depth_of : ClosedType → ℕ
  depth_of unit = 1
  depth_of truth = 1
  depth_of (integer kind) = 1
  depth_of text = 2
  depth_of (named at args) = 1 + list_depth args
  depth_of (reads to) = 1 + depth_of to
  depth_of (writes to) = 1 + depth_of to

  pub list_depth : ClosedTypes → ℕ
  list_depth no_types = 0
  list_depth (types one rest) = max (depth_of one) (list_depth rest)

abbrev mutual
  -- the nodes of a closed type: the names in its text, and each `&` and `&!`
  pub nodes_of : ClosedType → ℕ
  nodes_of unit = 1
  nodes_of truth = 1
  nodes_of (integer kind) = 1
  nodes_of text = 3
  nodes_of (named at args) = 1 + list_nodes args
  nodes_of (reads to) = 1 + nodes_of to
  nodes_of (writes to) = 1 + nodes_of to

  pub list_nodes : ClosedTypes → ℕ
  list_nodes no_types = 0
  list_nodes (types one rest) = nodes_of one + list_nodes rest

-- what is told of a closed type that is too deep: the first depth that is
abbrev pub depth_limit : ClosedType → Option Limit
depth_limit t =
    if nat_le (depth_of t) most_type_depth then None
    else Some (record { kind = TypeDepth; count = most_type_depth + 1; most = most_type_depth })

-- what is told of a closed type that has too many nodes: how many it has
abbrev pub nodes_limit : ClosedType → Option Limit
nodes_limit t =
    if nat_le (nodes_of t) most_type_nodes then None
    else Some (record { kind = TypeNodes; count = counted (nodes_of t); most = most_type_nodes })
