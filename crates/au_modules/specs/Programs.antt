-- What the files of a program give, which files are refused, and which modules they are.
use Rattle.std.specs.Prelude.{ℕ, Bool, true, false, not, ◌&&◌, ◌||◌, nat_le, if◌then◌else◌, List, [], ◌∷◌}
use Rattle.std.specs.Prelude.{◌++◌, map, filter, find, Option, Some, None}
use Rattle.std.specs.List.{list_any}
use Rattle.std.specs.Option.{option_or, option_map}
use Rattle.std.specs.Str.{bytes_eq}
use Rattle.au_base.specs.declared.places.Pos.{Pos}
use Rattle.au_syntax.specs.contracts.parsed.ParsedPhase.TheImpl.{ghosts as parsed}
use Rattle.au_syntax.specs.declared.modules.Part.{Part}
use Rattle.au_syntax.specs.declared.modules.Part.TheVariants.{Interface, Body}
use Rattle.au_syntax.specs.declared.wholes.FileTree.{FileTree}
use Rattle.au_syntax.specs.Files.{says}
use Rattle.au_syntax.specs.Plain.{Bytes, PlainModule}
use Rattle.au_syntax.specs.Sizes.{joined}
use Rattle.au_modules.specs.declared.faults.ModuleFault.{ModuleFault}
use Rattle.au_modules.specs.declared.faults.ModuleFault.TheVariants.{TwiceGiven, NoBody, Unsafe, Limit}
use Rattle.au_modules.specs.declared.parts.Given.{Given}
use Rattle.au_modules.specs.Limits.{limit_in}

-- a file: its number, and what is written in it
pub record Entry : Type 0 where
  pub file : ℕ
  pub tree : PlainModule

-- what a file of the code says
abbrev pub entry : FileTree → Entry
entry f = record { file = f.file; tree = says parsed f.tree.tree }

-- the number from which on files are shipped with the compiler
abbrev pub first_shipped : ℕ
first_shipped = 65532

-- whether a file is shipped
abbrev pub is_shipped : Entry → Bool
is_shipped e = nat_le first_shipped e.file

-- what a file gives: a part of the module of this name, shipped or not
abbrev pub given : Entry → Given
given e = record { name = joined e.tree.name; part = e.tree.part; shipped = is_shipped e }

-- ---- first: limits and pragmas

-- a pragma, refused in a file that isn't shipped
abbrev pub pragma_fault : Bool → Option Pos → Option ModuleFault
pragma_fault true pragma = None
pragma_fault false pragma = option_map Unsafe pragma

-- What is refused in a file for itself, the first in the order of the text: a pragma stands before all
-- declarations.
abbrev pub fault_in : Entry → Option ModuleFault
fault_in e =
    option_or (pragma_fault (is_shipped e) e.tree.pragma) (option_map Limit (limit_in e.tree.declarations))

-- the first of files in which something is refused
abbrev pub first_fault : List Entry → Option ModuleFault
first_fault [] = None
first_fault (e ∷ files) = option_or (fault_in e) (first_fault files)

-- ---- then: what is given twice

abbrev pub is_interface : Part → Bool
is_interface Interface = true
is_interface Body = false

abbrev pub is_same_part : Part → Part → Bool
is_same_part Interface part = is_interface part
is_same_part Body part = not (is_interface part)

-- a file gives what an earlier one gave, or has the name of a shipped one
abbrev pub clashes : Given → Given → Bool
clashes later earlier =
    bytes_eq later.name earlier.name && (earlier.shipped || is_same_part later.part earlier.part)

-- a file of the user's gives what one of these gave
abbrev pub is_again : List Given → Given → Bool
is_again before g = not g.shipped && list_any (clashes g) before

-- the first file that gives what one of those before it gave
abbrev pub first_again : List Given → List Given → Option ModuleFault
first_again before [] = None
first_again before (g ∷ rest) =
    if is_again before g then Some (TwiceGiven g.name) else first_again (before ++ g ∷ []) rest

-- ---- last: interfaces without a body

-- the body of the module of this name
abbrev pub is_body_of : Bytes → Given → Bool
is_body_of name g = not (is_interface g.part) && bytes_eq name g.name

-- an interface of the user's, and none of these files has its body
abbrev pub lacks_body : List Given → Given → Bool
lacks_body all g = not g.shipped && (is_interface g.part && not (list_any (is_body_of g.name) all))

abbrev pub body_fault : Given → ModuleFault
body_fault g = NoBody g.name

-- the first interface without a body
abbrev pub first_bodiless : List Given → Option ModuleFault
first_bodiless all = option_map body_fault (find (lacks_body all) all)

-- ---- all

-- what files are refused for: the first of three rounds that finds something
abbrev pub refusal_of : List Entry → Option ModuleFault
refusal_of files =
    option_or (first_fault files)
    (option_or (first_again [] (map given files)) (first_bodiless (map given files)))

-- a module: its name, its interface and its body, where it has them
pub record ModuleParts : Type 0 where
  pub name : Bytes
  pub interface : Option Entry
  pub body : Option Entry

-- a shipped module is an interface alone
abbrev pub shipped_module : Entry → ModuleParts
shipped_module e = record { name = joined e.tree.name; interface = Some e; body = None }

-- the interface of the module of this name
abbrev pub is_interface_of : Bytes → Entry → Bool
is_interface_of name e = is_interface e.tree.part && bytes_eq name (joined e.tree.name)

-- the module of a body, with the interface that one of these files has
abbrev pub module_of : List Entry → Entry → ModuleParts
module_of files e = record {
  name = joined e.tree.name;
  interface = find (is_interface_of (joined e.tree.name)) files;
  body = Some e;
}

-- a body of the user's
abbrev pub is_user_body : Entry → Bool
is_user_body e = not (is_shipped e) && not (is_interface e.tree.part)

-- The modules of files by their places: the shipped ones in order, and then those of the user in the
-- order of their bodies.
abbrev pub modules_of : List Entry → List ModuleParts
modules_of files =
    map shipped_module (filter is_shipped files) ++ map (module_of files) (filter is_user_body files)
