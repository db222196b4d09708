-- The lines on `err`, and the one on `out` for a program that is checked.
use Rattle.std.specs.Prelude.{ℕ, List, [], ◌∷◌, ◌++◌, unwrap_or, slice_get, codes, decimal}
use Rattle.au_base.specs.declared.limits.Limit.{Limit}
use Rattle.au_base.specs.declared.limits.LimitKind.{LimitKind}
use Rattle.au_base.specs.declared.limits.LimitKind.TheVariants as kind
use Rattle.au_base.specs.declared.names.Entry as names
use Rattle.au_base.specs.declared.places.Pos.{Pos}
use Rattle.au_classes.specs.declared.faults.ClassFault.{ClassFault}
use Rattle.au_classes.specs.declared.faults.ClassFault.TheVariants as classes
use Rattle.au_imports.specs.declared.faults.ImportFault.{ImportFault}
use Rattle.au_imports.specs.declared.faults.ImportFault.TheVariants as imports
use Rattle.au_modules.specs.declared.faults.ModuleFault.{ModuleFault}
use Rattle.au_modules.specs.declared.faults.ModuleFault.TheVariants as modules
use Rattle.au_sights.specs.declared.faults.TypeFault.{TypeFault}
use Rattle.au_sights.specs.declared.faults.TypeFault.TheVariants as typing
use Rattle.au_sights.specs.Lines.{why_text}
use Rattle.au_program_lives.specs.declared.faults.LinearFault.{LinearFault}
use Rattle.au_program_lives.specs.declared.faults.LinearFault.TheVariants as lives
use Rattle.au_program_lives.specs.Lines.{linear_text}
use Rattle.au_rules.specs.declared.faults.DeclFault.{DeclFault}
use Rattle.au_rules.specs.declared.faults.DeclFault.TheVariants as rules
use Rattle.au_outcomes.specs.declared.refusals.Refusal.{Refusal}
use Rattle.au_outcomes.specs.declared.refusals.Refusal.TheVariants.{Byte, Syntax, Pair, Import, Declaration}
use Rattle.au_outcomes.specs.declared.refusals.Refusal.TheVariants.{Instance, Typing, Linear, Entry}

-- each line ends with a newline
abbrev pub line : List ℕ → List ℕ
line text = text ++ 10 ∷ []

-- the line where the words are no job
abbrev pub words_line : List ℕ
words_line = line (codes "words: run [--entry=M:f] [--steps=N] [--life] PART.. | compile [--entry=M:f] PART.. | explain PART.. | check PART.. | format FILE | caps PART..")

-- the line where no file has the name
abbrev pub missing_line : List ℕ → List ℕ
missing_line name = line (codes "missing: " ++ name)

-- the line where a program that is checked is accepted, on `out`
abbrev pub accepted_line : List ℕ
accepted_line = line (codes "accepted")

-- the line where the shelf failed
abbrev pub read_fault_line : List ℕ
read_fault_line = line (codes "read fault")

-- what a limit counts, as its line says it
abbrev pub limit_word : LimitKind → List ℕ
limit_word kind.FileBytes = codes "file bytes"
limit_word kind.Files = codes "files"
limit_word kind.Tokens = codes "tokens"
limit_word kind.NameBytes = codes "name bytes"
limit_word kind.LiteralDigits = codes "literal digits"
limit_word kind.TextBytes = codes "text bytes"
limit_word kind.Nesting = codes "nesting"
limit_word kind.TypeDepth = codes "type depth"
limit_word kind.TypeNodes = codes "type nodes"
limit_word kind.Parameters = codes "parameters"
limit_word kind.Fields = codes "fields"
limit_word kind.Cases = codes "cases"
limit_word kind.TypeParameters = codes "type parameters"
limit_word kind.Instances = codes "instances"
limit_word kind.Code = codes "code"

-- the line where a limit is passed
abbrev pub limit_line : Limit → List ℕ
limit_line limit =
    line (codes "limit: " ++ limit_word limit.kind
    ++ codes " " ++ decimal limit.count ++ codes " above " ++ decimal limit.most)

-- the line where a program aborted, for a cause that is told in these words
abbrev pub abort_line : List ℕ → List ℕ
abort_line words = line (codes "abort: " ++ words)

-- the line where a run has spent its steps, of which there were so many
abbrev pub steps_line : ℕ → List ℕ
steps_line steps = line (codes "steps: " ++ decimal steps ++ codes " spent")

-- a place, with the name of its file
abbrev pub place_text : List (List ℕ) → Pos → List ℕ
place_text names at =
    unwrap_or (slice_get names at.file) [] ++ codes ":" ++ decimal at.line ++ codes ":" ++ decimal at.column

-- why files are not those of modules; a fault that is no refusal has no text
abbrev pub pair_text : List (List ℕ) → ModuleFault → List ℕ
pair_text names (modules.TwiceGiven name) = codes "module " ++ name ++ codes ": given twice"
pair_text names (modules.NoBody name) = codes "module " ++ name ++ codes ": no body"
pair_text names (modules.Unsafe at) = place_text names at ++ codes ": unsafe module"
pair_text names (modules.Limit limit) = []
pair_text names modules.Memory = []

-- which name or promise of the modules isn't good
abbrev pub import_text : List (List ℕ) → ImportFault → List ℕ
import_text names (imports.NoModule at name) = place_text names at ++ codes ": no module " ++ name
import_text names (imports.Late at name) =
    place_text names at ++ codes ": module " ++ name ++ codes " stands later"
import_text names (imports.NotVisible at name) = place_text names at ++ codes ": name not visible: " ++ name
import_text names (imports.NameTwice at name) = place_text names at ++ codes ": name twice: " ++ name
import_text names (imports.NotDefined at name) = place_text names at ++ codes ": not defined: " ++ name
import_text names (imports.Differs at other name) =
    place_text names at ++ codes ": differs from " ++ place_text names other ++ codes ": " ++ name
import_text names imports.Memory = []

-- what is wrong with a declaration
abbrev pub declaration_text : List (List ℕ) → DeclFault → List ℕ
declaration_text names (rules.Again at name) = place_text names at ++ codes ": declared again: " ++ name
declaration_text names (rules.Malformed at) = place_text names at ++ codes ": malformed type"
declaration_text names (rules.EmptyUnion at) = place_text names at ++ codes ": empty union"
declaration_text names (rules.UniverseBelow at) = place_text names at ++ codes ": field above its universe"
declaration_text names (rules.Infinite at) = place_text names at ++ codes ": infinite type"
declaration_text names rules.Memory = []

-- what is wrong with an instance
abbrev pub instance_text : List (List ℕ) → ClassFault → List ℕ
instance_text names (classes.BadHead at) = place_text names at ++ codes ": bad instance head"
instance_text names (classes.Orphan at) = place_text names at ++ codes ": orphan instance"
instance_text names (classes.Overlap at other) =
    place_text names at ++ codes ": instance overlaps " ++ place_text names other
instance_text names (classes.MethodDiffers at) = place_text names at ++ codes ": method differs"
instance_text names classes.Memory = []

-- which statement isn't well typed, and why
abbrev pub type_text : List (List ℕ) → TypeFault → List ℕ
type_text names (typing.Statement at why) = place_text names at ++ codes ": type: " ++ why_text why
type_text names (typing.Limit limit) = []
type_text names typing.Memory = []

-- where a variable stands that has no good life, and why it has none
abbrev pub life_text : List (List ℕ) → LinearFault → List ℕ
life_text names (lives.Life function variable at kind path) =
    place_text names at ++ codes ": " ++ linear_text (lives.Life function variable at kind path)
life_text names (lives.InLoop variable at) =
    place_text names at ++ codes ": " ++ linear_text (lives.InLoop variable at)
life_text names (lives.InPart variable at) =
    place_text names at ++ codes ": " ++ linear_text (lives.InPart variable at)
life_text names lives.Memory = []

-- which entry a program doesn't have, or hasn't the form of one: its module's name, a colon, and its own
abbrev pub entry_text : names.Entry → List ℕ
entry_text entry = codes "entry: " ++ entry.«module» ++ codes ":" ++ entry.function

-- the line of a refusal, without its end
abbrev pub refusal_text : List (List ℕ) → Refusal → List ℕ
refusal_text names (Byte at) = place_text names at ++ codes ": byte"
refusal_text names (Syntax at) = place_text names at ++ codes ": syntax"
refusal_text names (Pair fault) = pair_text names fault
refusal_text names (Import fault) = import_text names fault
refusal_text names (Declaration fault) = declaration_text names fault
refusal_text names (Instance fault) = instance_text names fault
refusal_text names (Typing fault) = type_text names fault
refusal_text names (Linear fault) = life_text names fault
refusal_text names (Entry entry) = entry_text entry

-- the line of a refusal
abbrev pub refusal_line : List (List ℕ) → Refusal → List ℕ
refusal_line names refusal = line (refusal_text names refusal)
