-- The limits that reading keeps, and which of them types pass.
use Rattle.std.specs.Prelude.{◌≡◌, ◌⊎◌, ℕ, ◌+◌, ◌<◌, List, [], ◌∷◌, ◌++◌, length, map}
use Rattle.std.specs.List.{flat_map}
use Rattle.au_base.specs.declared.limits.Limit.{Limit}
use Rattle.au_base.specs.declared.limits.LimitKind.TheVariants.{Nesting, TypeDepth, TypeNodes, NameBytes}
use Rattle.au_base.specs.Limits.{most_nesting, most_type_depth, most_type_nodes, most_name_bytes}
use Rattle.au_syntax.specs.Types.{WrittenType}
use Rattle.au_syntax.specs.Names.{Placed}
use Rattle.au_syntax.specs.Plain.{Bytes, PlainModule}
use Rattle.au_syntax.specs.Modules.{Importing}
use Rattle.au_syntax.specs.Depths.{module_depth}
use Rattle.au_syntax.specs.Sizes.{type_depth, type_nodes, declaration_types, joined}

-- how deeply expressions and statements are nested at most, how deep a type is and how many nodes it
-- has, and how many bytes a module's name has
pub record Bounds : Type 0 where
  pub nesting : ℕ
  pub depth : ℕ
  pub nodes : ℕ
  pub bytes : ℕ

-- the limits of the language
abbrev pub usual : Bounds
usual = record {
  nesting = most_nesting;
  depth = most_type_depth;
  nodes = most_type_nodes;
  bytes =
      most_name_bytes;
}

-- what is told of each limit that is passed
abbrev pub nesting_limit : Bounds → Limit
nesting_limit b = record { kind = Nesting; count = b.nesting + 1; most = b.nesting }

abbrev pub depth_limit : Bounds → Limit
depth_limit b = record { kind = TypeDepth; count = b.depth + 1; most = b.depth }

abbrev pub nodes_limit : Bounds → ℕ → Limit
nodes_limit b count = record { kind = TypeNodes; count = count; most = b.nodes }

abbrev pub bytes_limit : Bounds → Limit
bytes_limit b = record { kind = NameBytes; count = b.bytes + 1; most = b.bytes }

-- a type passes a limit: that of its depth, or that of its nodes, of which all are counted
abbrev pub TypePasses : Bounds → WrittenType → Limit → Type 0
TypePasses b t l =
    ((b.depth < type_depth t) × (l ≡ depth_limit b))
    ⊎ ((b.nodes < type_nodes t) × (l ≡ nodes_limit b (type_nodes t)))

-- one of some types passes a limit
abbrev pub SomeTypePasses : Bounds → List WrittenType → Limit → Type 0
SomeTypePasses b [] l = ⊥
SomeTypePasses b (t ∷ ts) l = TypePasses b t l ⊎ SomeTypePasses b ts l

-- a tree of this depth, with these types in it, passes a limit where so many levels are left
abbrev pub TreePasses : Bounds → ℕ → ℕ → List WrittenType → Limit → Type 0
TreePasses b left depth ts l = ((left < depth) × (l ≡ nesting_limit b)) ⊎ SomeTypePasses b ts l

-- one of some modules' names passes its limit
abbrev pub SomeNamePasses : Bounds → List (List (Placed Bytes)) → Limit → Type 0
SomeNamePasses b [] l = ⊥
SomeNamePasses b (name ∷ names) l =
    ((b.bytes < length (joined name)) × (l ≡ bytes_limit b)) ⊎ SomeNamePasses b names l

-- the names of modules in a file, in order
abbrev pub module_names : PlainModule → List (List (Placed Bytes))
module_names m = map (λ (one : Importing Bytes). one.from) m.imports ++ m.name ∷ []

-- a file passes a limit
abbrev pub ModulePasses : Bounds → PlainModule → Limit → Type 0
ModulePasses b m l =
    TreePasses b b.nesting (module_depth m) (flat_map declaration_types m.declarations) l
    ⊎ SomeNamePasses b (module_names m) l
