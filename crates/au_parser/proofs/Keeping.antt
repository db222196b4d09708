-- Trees that keep bounds: they pass no limit, those that keep the usual ones are within the limits, and
-- each tree keeps some bounds.
use Rattle.std.proofs.Common.{◌≡◌, ℕ, ◌≤◌, max, Bool, true, List, [], ◌∷◌, ◌++◌, length, map, arith, inl, inr, refl}
use Rattle.std.specs.List.{list_all, flat_map}
use Rattle.std.proofs.lemmas.Bool.{and_parts, and_from, leb-true, le-leb}
use Rattle.au_base.specs.declared.limits.Limit.{Limit}
use Rattle.au_base.specs.Limits.{most_nesting, most_type_depth, most_type_nodes, most_name_bytes}
use Rattle.au_syntax.specs.Depths.{module_depth, greatest}
use Rattle.au_syntax.specs.Modules.{Importing}
use Rattle.au_syntax.specs.Names.{Placed}
use Rattle.au_syntax.specs.Plain.{Bytes, PlainModule}
use Rattle.au_syntax.specs.Sizes.{type_depth, type_nodes, declaration_types, fits_type, joined, fits_name}
use Rattle.au_syntax.specs.Sizes.{names_fit, types_fit, fits}
use Rattle.au_syntax.specs.Types.{WrittenType}
use Rattle.au_read_expressions.specs.Bounds.{Bounds, usual, SomeTypePasses, SomeNamePasses, module_names, ModulePasses}
use Rattle.au_read_expressions.proofs.Limits.{TypesFit}
use Rattle.au_parser.proofs.FileForm.{NamesFit, ModuleFits}

-- the types that are written in a file
abbrev pub module_types : PlainModule → List WrittenType
module_types m = flat_map declaration_types m.declarations

-- ---- what keeps bounds passes no limit

no_type_passes : (b : Bounds) (l : Limit) (ts : List WrittenType) → TypesFit b ts → SomeTypePasses b ts l → ⊥
no_type_passes b l [] h p = p
no_type_passes b l (t ∷ ts) h p =
    elim p [
      | inl q ↦ elim q [ inl r ↦ omega (arith, h.0.0, r.0) | inr r ↦ omega (arith, h.0.1, r.0) ]
      | inr q ↦ no_type_passes b l ts h.1 q
    ]

no_name_passes : (b : Bounds) (l : Limit) (names : List (List (Placed Bytes))) → NamesFit b names →
    SomeNamePasses b names l → ⊥
no_name_passes b l [] h p = p
no_name_passes b l (name ∷ names) h p =
    elim p [ inl q ↦ omega (arith, h.0, q.0) | inr q ↦ no_name_passes b l names h.1 q ]

pub none_passed : (b : Bounds) (m : PlainModule) (l : Limit) → ModuleFits b m → ModulePasses b m l → ⊥
none_passed b m l h p =
    elim p [
      | inl q ↦ elim q [ inl r ↦ omega (arith, h.0.0, r.0) | inr r ↦ no_type_passes b l (module_types m) h.0.1 r ]
      | inr q ↦ no_name_passes b l (module_names m) h.1 q
    ]

-- ---- the usual bounds

types_fit_all : (ts : List WrittenType) → TypesFit usual ts → list_all fits_type ts ≡ true
types_fit_all [] h = refl
types_fit_all (t ∷ ts) h =
    and_from (fits_type t) (list_all fits_type ts)
    (and_from _ _ (le-leb (type_depth t) most_type_depth h.0.0) (le-leb (type_nodes t) most_type_nodes h.0.1))
    (types_fit_all ts h.1)

all_types_fit : (ts : List WrittenType) → list_all fits_type ts ≡ true → TypesFit usual ts
all_types_fit [] h = tt
all_types_fit (t ∷ ts) h =
    let both = and_parts (fits_type t) (list_all fits_type ts) h in
    let one = and_parts _ _ both.0 in (
      (leb-true (type_depth t) most_type_depth one.0, leb-true (type_nodes t) most_type_nodes one.1),
      all_types_fit ts both.1,
    )

-- whether an import's module has a name within the limit
abbrev fits_import : Importing Bytes → Bool
fits_import one = fits_name one.from

abbrev from : Importing Bytes → List (Placed Bytes)
from one = one.from

names_fit_all : (imports : List (Importing Bytes)) (name : List (Placed Bytes)) →
    NamesFit usual (map from imports ++ name ∷ [])
    → (fits_name name ≡ true) × (list_all fits_import imports ≡ true)
names_fit_all [] name h = (le-leb (length (joined name)) most_name_bytes h.0, refl)
names_fit_all (one ∷ imports) name h =
    let rest = names_fit_all imports name h.1 in (
      rest.0,
      and_from (fits_import one) (list_all fits_import imports)
          (le-leb (length (joined one.from)) most_name_bytes h.0) rest.1,
    )

all_names_fit : (imports : List (Importing Bytes)) (name : List (Placed Bytes)) → fits_name name ≡ true →
    list_all fits_import imports ≡ true
    → NamesFit usual (map from imports ++ name ∷ [])
all_names_fit [] name h k = (leb-true (length (joined name)) most_name_bytes h, tt)
all_names_fit (one ∷ imports) name h k =
    let both = and_parts (fits_import one) (list_all fits_import imports) k in
    (leb-true (length (joined one.from)) most_name_bytes both.0, all_names_fit imports name h both.1)

pub keeps_fits : (m : PlainModule) → ModuleFits usual m → fits m ≡ true
keeps_fits m h =
    let names = names_fit_all m.imports m.name h.1 in
    and_from _ (names_fit m)
    (and_from _ (types_fit m) (le-leb (module_depth m) most_nesting h.0.0) (types_fit_all (module_types m) h.0.1))
    (and_from _ _ names.0 names.1)

pub fits_keeps : (m : PlainModule) → fits m ≡ true → ModuleFits usual m
fits_keeps m h =
    let all = and_parts _ (names_fit m) h in
    let tree = and_parts _ (types_fit m) all.0 in
    let names = and_parts _ _ all.1 in (
      (leb-true (module_depth m) most_nesting tree.0, all_types_fit (module_types m) tree.1),
      all_names_fit m.imports m.name names.0 names.1,
    )

-- a file within the limits passes none
pub fits_none : (m : PlainModule) (l : Limit) → fits m ≡ true → ModulePasses usual m l → ⊥
fits_none m l h = none_passed usual m l (fits_keeps m h)

-- ---- bounds that are kept

types_kept : (b : Bounds) (ts : List WrittenType) → greatest type_depth ts ≤ b.depth → greatest type_nodes ts
    ≤ b.nodes → TypesFit b ts
types_kept b [] h k = tt
types_kept b (t ∷ ts) h k = (
  (omega (arith, h), omega (arith, k)),
  types_kept b ts (omega (arith, h)) (omega (arith, k)),
)

-- the bytes of a module's name
abbrev name_bytes : List (Placed Bytes) → ℕ
name_bytes name = length (joined name)

names_kept : (b : Bounds) (names : List (List (Placed Bytes))) → greatest name_bytes names ≤ b.bytes → NamesFit b names
names_kept b [] h = tt
names_kept b (name ∷ names) h = (omega (arith, h), names_kept b names (omega (arith, h)))

-- the least bounds that two files keep
abbrev pub bounds_of : PlainModule → PlainModule → Bounds
bounds_of m u = record {
  nesting = max (module_depth m) (module_depth u);
  depth = max (greatest type_depth (module_types m)) (greatest type_depth (module_types u));
  nodes = max (greatest type_nodes (module_types m)) (greatest type_nodes (module_types u));
  bytes = max (greatest name_bytes (module_names m)) (greatest name_bytes (module_names u));
}

pub first_keeps : (m u : PlainModule) → ModuleFits (bounds_of m u) m
first_keeps m u = (
  (omega arith, types_kept (bounds_of m u) (module_types m) (omega arith) (omega arith)),
  names_kept (bounds_of m u) (module_names m) (omega arith),
)

pub second_keeps : (m u : PlainModule) → ModuleFits (bounds_of m u) u
second_keeps m u = (
  (omega arith, types_kept (bounds_of m u) (module_types u) (omega arith) (omega arith)),
  names_kept (bounds_of m u) (module_names u) (omega arith),
)
