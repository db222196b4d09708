-- The shipped interfaces, each with the number of its file, and the names of their calls.
use Rattle.std.specs.Prelude.{ℕ, Bool, false, ◌||◌, List, [], ◌∷◌, ◌++◌, map, Option, Some, None}
use Rattle.std.specs.Str.{bytes_eq}
use Rattle.au_syntax.specs.contracts.parsed.ParsedPhase.TheImpl.{ghosts as parsed}
use Rattle.au_syntax.specs.declared.wholes.FileTree.{FileTree}
use Rattle.au_syntax.specs.Files.{says}
use Rattle.au_syntax.specs.Modules.{Header, function, class}
use Rattle.au_syntax.specs.Plain.{Bytes, PlainDeclaration, PlainModule}
use Rattle.au_syntax.specs.Sizes.{joined}
use Rattle.au_shipped.specs.Building.{place}
use Rattle.au_shipped.specs.PervasiveInterface.{pervasive}
use Rattle.au_shipped.specs.BoxInterface.{boxes}
use Rattle.au_shipped.specs.BufferInterface.{buffers}
use Rattle.au_shipped.specs.TerminalInterface.{terminal}
use Rattle.au_shipped.specs.Calls.{found}

-- the number of a file of the code, and what it says
abbrev pub file_says : FileTree → ℕ × PlainModule
file_says f = (f.file, says parsed f.tree.tree)

-- the shipped interfaces in order, each behind the number of its file
abbrev pub shipped_files : List (ℕ × PlainModule)
shipped_files =
    (65532, pervasive (place 65532))
    ∷ (65533, boxes (place 65533))
    ∷ (65534, buffers (place 65534))
    ∷ (65535, terminal (place 65535))
    ∷ []

-- the names of the calls that a declaration makes: that of a function, and those of the methods of a class
abbrev pub call_names : PlainDeclaration → List Bytes
call_names (function at generics header) = header.name.name ∷ []
call_names (class at name parameter methods) = map (λ (one : Header Bytes). one.name.name) methods
call_names other = []

-- the names of the calls that declarations make
abbrev pub all_names : List PlainDeclaration → List Bytes
all_names [] = []
all_names (one ∷ rest) = call_names one ++ all_names rest

-- the name of a module and the names of its calls
abbrev pub named_calls : PlainModule → Bytes × List Bytes
named_calls m = (joined m.name, all_names m.declarations)

-- the names of the shipped modules and of their calls, from the interfaces
abbrev pub shipped_calls : List (Bytes × List Bytes)
shipped_calls = map (λ (file : ℕ × PlainModule). named_calls file.1) shipped_files

-- a name is among others
abbrev pub is_among : List Bytes → Bytes → Bool
is_among [] name = false
is_among (one ∷ others) name = bytes_eq one name || is_among others name

-- a name is among others, if there are others
abbrev pub is_in : Option (List Bytes) → Bytes → Bool
is_in None name = false
is_in (Some names) name = is_among names name

-- a shipped module of this name has a function or a method of that name
abbrev pub is_shipped : Bytes → Bytes → Bool
is_shipped home call = is_in (found shipped_calls home) call
