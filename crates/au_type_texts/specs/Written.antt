-- The sizes of written types and of the types that they mean.
use Rattle.std.specs.Prelude.{◌≡◌, List, Some}
use Rattle.au_syntax.specs.Plain.{Bytes}
use Rattle.au_syntax.specs.Sizes.{type_depth, type_nodes}
use Rattle.au_syntax.specs.Types.{WrittenType}
use Rattle.au_types.specs.declared.headings.Head.{Head}
use Rattle.au_types.specs.declared.parameters.Parameter.{Parameter}
use Rattle.au_types.specs.declared.types.DeclAt.{DeclAt}
use Rattle.au_types.specs.Types.{Meaning}
use Rattle.au_types.specs.Meant.{meant}
use Rattle.au_type_texts.specs.Sizes.{depth_of, nodes_of}

-- the type that a written type means is as deep as the written one, and has as many nodes
abbrev pub SizesAreWritten : Type 0
SizesAreWritten =
    (opened : List Bytes) (params : List Parameter) (visible : List (Bytes × DeclAt))
    (heads : List (DeclAt × Head)) (written : WrittenType) (t : Meaning)
    → meant opened params visible heads written ≡ Some t
    → (depth_of t ≡ type_depth written) × (nodes_of t ≡ type_nodes written)
