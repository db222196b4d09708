-- The closed declared types that are noted in a tree.
use Rattle.std.specs.Prelude.{true, List}
use Rattle.au_types.specs.declared.headings.Head.{Head}
use Rattle.au_types.specs.declared.types.DeclAt.{DeclAt}
use Rattle.au_type_texts.specs.Types.{ClosedType}
use Rattle.au_closed_trees.specs.Occurring.{counts_in, occurring}
use Rattle.au_closed_trees.specs.ClosedNotes.{ClosedNote, ClosedStatements}
use Rattle.au_closed_trees.specs.Notes.{said_in_block}

-- those that occur in the type of a note
abbrev pub types_noted : List (DeclAt × Head) → ClosedNote → List ClosedType
types_noted heads note = occurring (counts_in true heads) note.of

-- those that occur in the types that are noted in a block
abbrev pub types_in_block : List (DeclAt × Head) → ClosedStatements → List ClosedType
types_in_block heads = said_in_block (types_noted heads)
