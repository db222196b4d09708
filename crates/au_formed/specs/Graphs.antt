-- The graph of records and unions by their indices: an edge leads to the first that declares a type which is
-- named.
use Rattle.std.specs.Prelude.{ℕ, ◌+◌, List, [], ◌∷◌, map, Option, None, Some, if◌then◌else◌}
use Rattle.std.specs.List.{filter_map}
use Rattle.std.specs.Map.{lookup}
use Rattle.au_types.specs.declared.types.DeclAt.{DeclAt}
use Rattle.au_types.specs.Rows.{same_place}
use Rattle.au_formed.specs.declared.namings.Naming.{Naming}

-- the index of the first record or union that declares a type, where the first of these has an index
abbrev pub declarer_from : ℕ → List Naming → DeclAt → Option ℕ
declarer_from index [] a = None
declarer_from index (n ∷ ns) a = if same_place a n.of then Some index else declarer_from (index + 1) ns a

abbrev pub declarer : List Naming → DeclAt → Option ℕ
declarer all a = declarer_from 0 all a

-- the index of a type in a table
abbrev pub index_at : List (DeclAt × ℕ) → DeclAt → Option ℕ
index_at table a = lookup (same_place a) table

-- the graph, by the index of each type
abbrev pub graph_by : (DeclAt → Option ℕ) → List Naming → List (List ℕ)
graph_by index all = map (λ n. filter_map index n.names) all

abbrev pub graph_of : List Naming → List (List ℕ)
graph_of all = graph_by (declarer all) all
