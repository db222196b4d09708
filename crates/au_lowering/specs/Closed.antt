-- What a closed program is lowered to.
use Rattle.std.specs.Prelude.{ℕ, Bool, false, List, [], ◌∷◌, length, map, nat_lt, Option, Some, None}
use Rattle.std.specs.List.{find}
use Rattle.au_closed_trees.specs.Parts.{ClosedCase, ClosedField}
use Rattle.au_closed_programs.specs.Programs.{ClosedProgram, TypeRow}
use Rattle.au_closed_trees.specs.ClosedNotes.{Callee, ClosedNote}
use Rattle.au_type_texts.specs.Same.{same}
use Rattle.au_type_texts.specs.Types.{ClosedType}
use Rattle.au_closed_meanings.specs.Programs.{Body, Case, Row, functions_seen}
use Rattle.au_closing.specs.Closes.{ClosedFunction}
use Rattle.au_low.specs.declared.code.Code.{Code}
use Rattle.au_low.specs.declared.code.LowType.{LowType}
use Rattle.au_lowered.specs.Programs.{lowered, passes_limit}
use Rattle.au_meaning.specs.Views.{Field, Function}

-- ---- what is seen of a closed program

-- fields and parameters
abbrev pub fields_seen : List ClosedField → List Field
fields_seen all = map (λ (one : ClosedField). record { name = one.name; of = one.of }) all

-- a case
abbrev pub case_seen : ClosedCase → Case
case_seen one = record { name = one.name; fields = fields_seen one.fields }

-- a type
abbrev pub row_seen : TypeRow → Row
row_seen row = record { of = row.of; linear = row.linear; cases = map case_seen row.cases }

-- a function
abbrev pub body_seen : ClosedFunction → Body
body_seen f = record { home = f.home; parameters = fields_seen f.parameters; block = f.body }

-- its functions as they are run, each with a number for its first name
abbrev pub functions_numbered : (ℕ → ℕ) → ClosedProgram → List (Function ℕ ClosedNote (Callee ℕ))
functions_numbered numbers c = functions_seen (map body_seen c.functions) (map row_seen c.types) numbers

-- the same where nothing rests on these numbers, as their code doesn't
abbrev pub functions_of : ClosedProgram → List (Function ℕ ClosedNote (Callee ℕ))
functions_of c = functions_numbered (λ n. 0) c

-- the types of parameters
abbrev pub types_of : List ClosedField → List ClosedType
types_of all = map (λ (one : ClosedField). one.of) all

-- those of the parameters of the entry, which is the first function
abbrev pub roots_of : List ClosedFunction → List ClosedType
roots_of [] = []
roots_of (f ∷ rest) = types_of f.parameters

-- whether there are any
abbrev pub takes_root_of : List ClosedFunction → Bool
takes_root_of functions = nat_lt 0 (length (roots_of functions))

-- ---- its code

-- what the code has of a type with this row: each that it names has one
abbrev pub told_by : Option TypeRow → LowType
told_by None = record { text = []; «module» = []; linear = false }
told_by (Some row) = record { text = row.text; «module» = row.home; linear = row.linear }

abbrev pub told_in : List TypeRow → ClosedType → LowType
told_in rows of = told_by (find (λ (row : TypeRow). same row.of of) rows)

-- the code that a closed program is lowered to
abbrev pub code_of : ClosedProgram → Code
code_of c = lowered (told_in c.types) (functions_of c)

-- whether that has more instructions than a program may have
abbrev pub is_too_long : ClosedProgram → Bool
is_too_long c = passes_limit (functions_of c)
