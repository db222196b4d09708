-- The answers of the lexer, and what they say of a file.
use Rattle.std.specs.Prelude.{◌≡◌, Vec, Result, Ok, Err}
use Rattle.std.specs.Global.{Global}
use Rattle.au_base.specs.declared.tokens.Token.{Token}
use Rattle.au_lexer.specs.Cut.{Lexed, tokens, stray, passes}
use Rattle.au_base.specs.declared.places.Pos.{Pos}
use Rattle.au_lexer.specs.declared.pieces.Stop.{Stop}
use Rattle.au_lexer.specs.declared.pieces.Stop.TheVariants as stop
use Rattle.au_lexer.specs.declared.lexing.LexFault.{LexFault}
use Rattle.au_lexer.specs.declared.lexing.LexFault.TheVariants as fault

-- the fault of a stop at a place
abbrev pub fault_of : Stop → Pos → LexFault
fault_of stop.Stray at = fault.Byte at
fault_of (stop.Passes limit) at = fault.Limit limit
fault_of stop.Memory at = fault.Memory

-- An answer is what a file comes to, unless memory runs out.
abbrev pub Answers : Result (Vec Token Global) LexFault → Lexed → Type 0
Answers (Ok list) outcome = outcome ≡ tokens list.items
Answers (Err (fault.Byte at)) outcome = outcome ≡ stray at
Answers (Err (fault.Limit limit)) outcome = outcome ≡ passes limit
Answers (Err fault.Memory) outcome = Unit {0}
