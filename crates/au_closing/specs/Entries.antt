-- The function at which a program begins: where it stands, and what form it must have.
use Rattle.std.specs.Prelude.{ℕ, Bool, true, false, List, [], ◌∷◌, Option, None, Some, codes, if◌then◌else◌}
use Rattle.std.specs.Prelude.{slice_get}
use Rattle.std.specs.Option.{option_or}
use Rattle.std.specs.Str.{bytes_eq}
use Rattle.au_base.specs.declared.places.Pos.{Pos}
use Rattle.au_syntax.specs.declared.modules.Part.TheVariants.{Body}
use Rattle.au_syntax.specs.Modules.{Constrained, Header, function_body}
use Rattle.au_syntax.specs.Plain.{Bytes, PlainDeclaration}
use Rattle.au_syntax.specs.Types.{Labelled, WrittenType}
use Rattle.au_types.specs.declared.spaces.Space.TheVariants.{Callables}
use Rattle.au_types.specs.Tables as tables
use Rattle.au_types.specs.declared.headings.Head.{Head}
use Rattle.au_types.specs.declared.types.DeclAt.{DeclAt}
use Rattle.au_types.specs.Rows.{head_of}
use Rattle.au_types.specs.Types.{Meaning, named, no_arguments}
use Rattle.au_types.specs.Meant.{meant}
use Rattle.au_modules.specs.Programs.{ModuleParts}
use Rattle.au_modules.specs.Seen.{body_tree}
use Rattle.au_names.specs.declared.targets.Target.{Target}
use Rattle.au_names.specs.Exporting.{declarations_seen}
use Rattle.au_names.specs.HeadsOf.{heads_of}
use Rattle.au_names.specs.Importing.{place_of}
use Rattle.au_typing.specs.Written.{seen_at, types_at}

-- ---- where it stands

-- a function that has a body: its place in the text, its type parameters, and what is written before its body
pub record Function : Type 0 where
  pub at : Pos
  pub generics : List (Constrained Bytes)
  pub header : Header Bytes

-- the function that a declaration is, if it is one of this name with a body
abbrev pub function_in : Bytes → PlainDeclaration → Option Function
function_in name (function_body at generics h block stop) =
    if bytes_eq name h.name.name then Some (record { at = at; generics = generics; header = h }) else None
function_in name other = None

-- the first such function among declarations
abbrev pub function_among : Bytes → List PlainDeclaration → Option Function
function_among name [] = None
function_among name (d ∷ ds) = option_or (function_in name d) (function_among name ds)

-- that of the body of the module at a place
abbrev pub function_at : List ModuleParts → ℕ → Bytes → Option Function
function_at program place name = function_among name (declarations_seen (body_tree (slice_get program place)))

-- ---- its form

-- whether a declared type has this text
abbrev pub has_text : Bytes → Option Head → Bool
has_text text None = false
has_text text (Some head) = bytes_eq head.text text

-- whether a type is the declared type of this text that has no arguments
abbrev pub is_type : List (DeclAt × Head) → Bytes → Option Meaning → Bool
is_type heads text (Some (named at no_arguments)) = has_text text (head_of heads at)
is_type heads text other = false

-- where these names of types are seen, by the rows of declared types
module _ (names : List (Bytes × DeclAt)) (heads : List (DeclAt × Head)) where
  -- whether a type that is written is `ExitCode`, and whether it is `RootCapability`
  abbrev pub is_exit : WrittenType → Bool
  is_exit t = is_type heads (codes "Austral.Pervasive:ExitCode") (meant [] [] names heads t)

  abbrev pub is_root : WrittenType → Bool
  is_root t = is_type heads (codes "Austral.Pervasive:RootCapability") (meant [] [] names heads t)

  -- whether parameters are the root alone, where they are that or none
  abbrev pub root_in : List (Labelled Bytes) → Option Bool
  root_in [] = Some false
  root_in (one ∷ []) = if is_root one.of then Some true else None
  root_in more = None

  -- whether a function takes the root, where it has the form of an entry: no type parameters, the root or
  -- nothing as its parameters, and `ExitCode` as its result
  abbrev pub form_of : List (Constrained Bytes) → Header Bytes → Option Bool
  form_of [] h = if is_exit h.result then root_in h.parameters else None
  form_of generics h = None

-- the same in the body of the module at a place
abbrev pub form_at : List ModuleParts → ℕ → Function → Option Bool
form_at program place f = form_of (types_at program place Body) (heads_of program) f.generics f.header

-- ---- the answer

-- what is found of an entry: there is no such function, it hasn't the form, or it is what its name means in
-- the body of its module, and takes the root or not
pub data Found : Type 0 where
  nowhere : Found
  not_of_the_form : Pos → Found
  begins : Target → Bool → Found

-- what a name means that is called in the body of the module at a place
abbrev pub target_at : List ModuleParts → ℕ → Bytes → Option Target
target_at program place name = tables.find name (seen_at Callables program place Body)

-- a function that has the form of an entry, or hasn't
abbrev pub formed : Pos → Target → Option Bool → Found
formed at target None = not_of_the_form at
formed at target (Some root) = begins target root

-- a function of the body of the module at a place, by what its name means there
abbrev pub meant_as : List ModuleParts → ℕ → Function → Option Target → Found
meant_as program place f None = nowhere
meant_as program place f (Some target) = formed f.at target (form_at program place f)

-- the function of a name in the body of the module at a place, if it is there
abbrev pub found_at : List ModuleParts → ℕ → Bytes → Option Function → Found
found_at program place name None = nowhere
found_at program place name (Some f) = meant_as program place f (target_at program place name)

-- the same of a module, if it is there
abbrev pub found_in : List ModuleParts → Bytes → Option ℕ → Found
found_in program name None = nowhere
found_in program name (Some place) = found_at program place name (function_at program place name)

-- What is found of the entry of a program that is named by its module and its own name.
abbrev pub entry_of : List ModuleParts → Bytes → Bytes → Found
entry_of program owner name = found_in program name (place_of program owner)
