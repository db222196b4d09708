-- What stands between two pieces that are no blanks.
use Rattle.std.specs.Prelude.{ℕ, zero, suc, ◌+◌, ◌-◌, nat_lt, ◌||◌, if◌then◌else◌, List, []}
use Rattle.std.specs.Prelude.{◌∷◌, Option}
use Rattle.au_format.specs.declared.kinds.Kind.{Kind}
use Rattle.au_format.specs.declared.standings.Previous.{Previous}
use Rattle.au_format.specs.declared.standings.Previous.TheVariants.{Nothing, Token, Docstring, Comment}
use Rattle.au_format.specs.declared.standings.Standing.{Standing}
use Rattle.au_format.specs.Marks.{closes, follows}

-- two blanks for each level
abbrev pub indent : ℕ → List ℕ
indent zero = []
indent (suc levels) = 32 ∷ 32 ∷ indent levels

-- the end of a line and the beginning of the next, with an empty line between them where there were two
-- or more ends of lines
abbrev pub line_break : ℕ → ℕ → List ℕ
line_break lines levels = if nat_lt 1 lines then 10 ∷ 10 ∷ indent levels else 10 ∷ indent levels

-- how many levels a line has: those that are open, and one more within something unfinished
abbrev pub line_levels : Standing → ℕ → ℕ
line_levels s closed = s.levels - closed + (if s.ended then 0 else 1)

-- one blank, or nothing between tokens that stand together
abbrev pub token_blank : Standing → Kind → List ℕ
token_blank s kind = if s.hugging || follows s.last s.in_import kind then [] else 32 ∷ []

-- the line that begins with a token
abbrev pub token_line : Standing → ℕ → Kind → Option Kind → List ℕ
token_line s lines kind next = line_break lines (line_levels s (closes s.last s.choices kind next))

-- What stands before a token, by the piece before it and how many lines end between them: a line begins
-- behind a remark, and behind tokens that end one.
abbrev pub token_gap : Standing → Previous → ℕ → Kind → Option Kind → List ℕ
token_gap s Nothing lines kind next = []
token_gap s Token lines kind next = if s.ended then token_line s lines kind next else token_blank s kind
token_gap s Docstring lines kind next = token_line s lines kind next
token_gap s Comment lines kind next = token_line s lines kind next

-- What stands before a remark: a line begins behind a comment, and where one began in the file.
abbrev pub remark_gap : Standing → Previous → ℕ → List ℕ
remark_gap s Nothing lines = []
remark_gap s Comment lines = line_break lines (line_levels s 0)
remark_gap s Token lines = if nat_lt 0 lines then line_break lines (line_levels s 0) else 32 ∷ []
remark_gap s Docstring lines = if nat_lt 0 lines then line_break lines (line_levels s 0) else 32 ∷ []
