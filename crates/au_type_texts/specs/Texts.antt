-- The text of a type.
use Rattle.std.specs.Prelude.{ℕ, List, [], ◌++◌, Option, None, Some, codes}
use Rattle.au_base.specs.declared.kinds.IntKind.{IntKind}
use Rattle.au_base.specs.declared.kinds.IntKind.TheVariants as kinds
use Rattle.au_types.specs.declared.headings.Head.{Head}
use Rattle.au_types.specs.declared.types.DeclAt.{DeclAt}
use Rattle.au_types.specs.declared.types.Region.{Region}
use Rattle.au_types.specs.declared.types.Region.TheVariants as regions
use Rattle.au_types.specs.Rows.{head_of}
use Rattle.au_types.specs.Types.{Meaning, Argument, Arguments, unit, truth, integer, text, parameter, named}
use Rattle.au_types.specs.Types.{reads, writes, of_type, in_region, no_arguments, arguments}

-- the name of a kind of integers
abbrev pub kind_name : IntKind → List ℕ
kind_name kinds.Nat8 = codes "Nat8"
kind_name kinds.Nat16 = codes "Nat16"
kind_name kinds.Nat32 = codes "Nat32"
kind_name kinds.Nat64 = codes "Nat64"
kind_name kinds.Int8 = codes "Int8"
kind_name kinds.Int16 = codes "Int16"
kind_name kinds.Int32 = codes "Int32"
kind_name kinds.Int64 = codes "Int64"
kind_name kinds.Index = codes "Index"

-- a region is its name, or a tilde where it has none
abbrev pub region_text : Region → List ℕ
region_text regions.Static = codes "Static"
region_text (regions.Named name) = name
region_text regions.Anonymous = codes "~"

-- a reference: what it begins with, the text of the type behind it, and its region
abbrev pub reference_text : List ℕ → List ℕ → Region → List ℕ
reference_text begin to region = begin ++ to ++ codes ", " ++ region_text region ++ codes "]"

-- a declaration without arguments: the text of its row, and no byte where it has none
abbrev pub head_text : Option Head → List ℕ
head_text None = []
head_text (Some head) = head.text

module _ (rows : List (DeclAt × Head)) where
  abbrev mutual
    -- a type
    pub text_of : Meaning → List ℕ
    text_of unit = codes "Unit"
    text_of truth = codes "Bool"
    text_of (integer kind) = kind_name kind
    text_of text = codes "Span[Nat8, Static]"
    text_of (parameter name) = name
    text_of (named at args) = head_text (head_of rows at) ++ arguments_text args
    text_of (reads to region) = reference_text (codes "&[") (text_of to) region
    text_of (writes to region) = reference_text (codes "&![") (text_of to) region

    -- an argument
    pub argument_text : Argument → List ℕ
    argument_text (of_type t) = text_of t
    argument_text (in_region region) = region_text region

    -- arguments in brackets, and no brackets where there is none
    pub arguments_text : Arguments → List ℕ
    arguments_text no_arguments = []
    arguments_text (arguments one rest) = codes "[" ++ argument_text one ++ others_text rest

    -- what stands behind an argument: a comma and the next one, or the bracket that closes
    pub others_text : Arguments → List ℕ
    others_text no_arguments = codes "]"
    others_text (arguments one rest) = codes ", " ++ argument_text one ++ others_text rest
