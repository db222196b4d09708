-- What names and labels of the code's trees say, and what its lists of types mean.
use Rattle.std.specs.Prelude.{ℕ, List, map}
use Rattle.std.specs.Borrow.{Bor}
use Rattle.au_syntax.specs.contracts.parsed.ParsedPhase.TheImpl.{ghosts as parsed}
use Rattle.au_syntax.specs.declared.expressions.Argument.{Argument}
use Rattle.au_syntax.specs.declared.names.Ident.{Ident}
use Rattle.au_syntax.specs.declared.parsed.Parsed.{Parsed}
use Rattle.au_syntax.specs.Names.{Placed}
use Rattle.au_syntax.specs.Plain.{Bytes}
use Rattle.au_syntax.specs.Views.{argument_all, placed}
use Rattle.au_sights.specs.declared.called.Typed as code
use Rattle.au_sights.specs.Sights.{typed_said}
use Rattle.au_typing.specs.Scopes.{Typed}
use Rattle.au_types.specs.declared.types.Ty.{Ty}
use Rattle.au_types.specs.Types.{Meaning}
use Rattle.au_types.specs.Views.{meaning}
use Rattle.au_typing.specs.Good.{labels_of}

-- the names of fields
abbrev pub fields_said : List (Ident Parsed (List ℕ) (Unit {0}) (Unit {0})) → List (Placed Bytes)
fields_said fields = map (placed parsed) fields

-- the labels of arguments
abbrev pub labels_said : List (Argument Parsed (List ℕ) (Unit {0}) (Unit {0})) → List Bytes
labels_said args = labels_of (argument_all parsed args)

-- fields or parameters
abbrev pub all_typed : List code.Typed → List Typed
all_typed fields = map typed_said fields

-- types
abbrev pub meanings : List Ty → List Meaning
meanings types = map meaning types
