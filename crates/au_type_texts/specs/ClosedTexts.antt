-- The text of a closed type.
use Rattle.std.specs.Prelude.{ℕ, List, [], ◌++◌, codes}
use Rattle.au_types.specs.declared.headings.Head.{Head}
use Rattle.au_types.specs.declared.types.DeclAt.{DeclAt}
use Rattle.au_types.specs.Rows.{head_of}
use Rattle.au_type_texts.specs.Texts.{head_text, kind_name}
use Rattle.au_type_texts.specs.Types.{ClosedType, ClosedTypes, unit, truth, integer, text, named, reads}
use Rattle.au_type_texts.specs.Types.{writes, no_types, types}

-- a reference: what it begins with, and the text of the type behind it
abbrev pub reference_text : List ℕ → List ℕ → List ℕ
reference_text begin to = begin ++ to ++ codes "]"

module _ (rows : List (DeclAt × Head)) where
  abbrev mutual
    -- a closed type
    pub text_of : ClosedType → List ℕ
    text_of unit = codes "Unit"
    text_of truth = codes "Bool"
    text_of (integer kind) = kind_name kind
    text_of text = codes "Span[Nat8, Static]"
    text_of (named at args) = head_text (head_of rows at) ++ list_text args
    text_of (reads to) = reference_text (codes "&[") (text_of to)
    text_of (writes to) = reference_text (codes "&![") (text_of to)

    -- closed types in brackets, and no brackets where there is none
    pub list_text : ClosedTypes → List ℕ
    list_text no_types = []
    list_text (types one rest) = codes "[" ++ text_of one ++ others_text rest

    -- what stands behind one: a comma and the next one, or the bracket that closes
    pub others_text : ClosedTypes → List ℕ
    others_text no_types = codes "]"
    others_text (types one rest) = codes ", " ++ text_of one ++ others_text rest
