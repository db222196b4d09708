-- The text of the lives of a program, in lines.
use Rattle.std.specs.Prelude.{ℕ, List, [], ◌∷◌, ◌++◌, Option, None, Some, codes, decimal}
use Rattle.std.specs.List.{flat_map}
use Rattle.au_base.specs.declared.places.Pos.{Pos}
use Rattle.au_explain.specs.declared.lists.FunctionLives.{FunctionLives}
use Rattle.au_explain.specs.declared.lists.Lives.{Lives}
use Rattle.au_explain.specs.declared.lists.Mention.{Mention}
use Rattle.au_explain.specs.declared.lists.MentionKind.{MentionKind}
use Rattle.au_explain.specs.declared.lists.MentionKind.TheVariants as kinds
use Rattle.au_explain.specs.declared.lists.VariableLives.{VariableLives}

-- a line: what it says, and a newline
abbrev pub line_of : List ℕ → List ℕ
line_of text = text ++ 10 ∷ []

-- a place: its line, a colon and its column
abbrev pub place_text : Pos → List ℕ
place_text at = decimal at.line ++ 58 ∷ decimal at.column

-- ---- mentions

-- how a variable is mentioned
abbrev pub kind_text : MentionKind → List ℕ
kind_text kinds.Consumed = codes "consumed"
kind_text kinds.Written = codes "written"
kind_text kinds.Read = codes "read"
kind_text kinds.Looked = codes "looked"

-- the end of a borrow statement, where a mention opens one
abbrev pub until_text : Option Pos → List ℕ
until_text None = []
until_text (Some at) = codes " to " ++ place_text at

-- what stands behind four blanks: a place, a blank, and what happens there
abbrev pub event_line : Pos → List ℕ → List ℕ
event_line at what = line_of (codes "    " ++ (place_text at ++ (codes " " ++ what)))

-- the birth of a variable, where it is declared
abbrev pub birth_line : Pos → List ℕ
birth_line at = event_line at (codes "born")

-- a mention
abbrev pub mention_line : Mention → List ℕ
mention_line m = event_line m.at (kind_text m.kind ++ until_text m.until)

-- ---- variables and functions

-- two blanks, the variable, a colon, a blank and its type
abbrev pub head_line : VariableLives → List ℕ
head_line v = line_of (codes "  " ++ (v.name ++ (codes ": " ++ v.of)))

-- a variable: its head, its birth and its mentions
abbrev pub variable_text : VariableLives → List ℕ
variable_text v = head_line v ++ (birth_line v.at ++ flat_map mention_line v.mentions)

-- what is told of a function with these variables: nothing of one without variables
abbrev pub with_variables : List ℕ → List VariableLives → List ℕ
with_variables name [] = []
with_variables name (v ∷ vs) = line_of name ++ flat_map variable_text (v ∷ vs)

-- a function
abbrev pub function_text : FunctionLives → List ℕ
function_text f = with_variables f.name f.variables

-- the text of the lives of a program
abbrev pub life_text : Lives → List ℕ
life_text lives = flat_map function_text lives.functions
