-- How each keyword and each sign is spelled.
use Rattle.std.specs.Prelude.{ℕ, List, [], ◌∷◌, codes}
use Rattle.au_base.specs.declared.tokens.Keyword.{Keyword}
use Rattle.au_base.specs.declared.tokens.Keyword.TheVariants.{KwModule, KwBody, KwIs, KwEnd, KwImport, KwAs}
use Rattle.au_base.specs.declared.tokens.Keyword.TheVariants.{KwPragma, KwConstant, KwType, KwRecord, KwUnion}
use Rattle.au_base.specs.declared.tokens.Keyword.TheVariants.{KwCase, KwWhen, KwOf, KwDo, KwFunction}
use Rattle.au_base.specs.declared.tokens.Keyword.TheVariants.{KwGeneric, KwTypeclass, KwInstance, KwMethod}
use Rattle.au_base.specs.declared.tokens.Keyword.TheVariants.{KwLet, KwVar, KwIf, KwThen, KwElse, KwWhile}
use Rattle.au_base.specs.declared.tokens.Keyword.TheVariants.{KwFor, KwFrom, KwTo, KwBorrow, KwIn, KwReturn}
use Rattle.au_base.specs.declared.tokens.Keyword.TheVariants.{KwSkip, KwNil, KwTrue, KwFalse, KwAnd, KwOr}
use Rattle.au_base.specs.declared.tokens.Keyword.TheVariants.{KwNot, KwFree, KwLinear, KwAnyUniverse}
use Rattle.au_base.specs.declared.tokens.Keyword.TheVariants.{KwRegion}
use Rattle.au_base.specs.declared.tokens.Sign.{Sign}
use Rattle.au_base.specs.declared.tokens.Sign.TheVariants as sign

-- the bytes of a keyword
abbrev pub keyword_spelling : Keyword → List ℕ
keyword_spelling KwModule = codes "module"
keyword_spelling KwBody = codes "body"
keyword_spelling KwIs = codes "is"
keyword_spelling KwEnd = codes "end"
keyword_spelling KwImport = codes "import"
keyword_spelling KwAs = codes "as"
keyword_spelling KwPragma = codes "pragma"
keyword_spelling KwConstant = codes "constant"
keyword_spelling KwType = codes "type"
keyword_spelling KwRecord = codes "record"
keyword_spelling KwUnion = codes "union"
keyword_spelling KwCase = codes "case"
keyword_spelling KwWhen = codes "when"
keyword_spelling KwOf = codes "of"
keyword_spelling KwDo = codes "do"
keyword_spelling KwFunction = codes "function"
keyword_spelling KwGeneric = codes "generic"
keyword_spelling KwTypeclass = codes "typeclass"
keyword_spelling KwInstance = codes "instance"
keyword_spelling KwMethod = codes "method"
keyword_spelling KwLet = codes "let"
keyword_spelling KwVar = codes "var"
keyword_spelling KwIf = codes "if"
keyword_spelling KwThen = codes "then"
keyword_spelling KwElse = codes "else"
keyword_spelling KwWhile = codes "while"
keyword_spelling KwFor = codes "for"
keyword_spelling KwFrom = codes "from"
keyword_spelling KwTo = codes "to"
keyword_spelling KwBorrow = codes "borrow"
keyword_spelling KwIn = codes "in"
keyword_spelling KwReturn = codes "return"
keyword_spelling KwSkip = codes "skip"
keyword_spelling KwNil = codes "nil"
keyword_spelling KwTrue = codes "true"
keyword_spelling KwFalse = codes "false"
keyword_spelling KwAnd = codes "and"
keyword_spelling KwOr = codes "or"
keyword_spelling KwNot = codes "not"
keyword_spelling KwFree = codes "Free"
keyword_spelling KwLinear = codes "Linear"
keyword_spelling KwAnyUniverse = codes "Type"
keyword_spelling KwRegion = codes "Region"

-- the bytes of a sign
abbrev pub sign_spelling : Sign → List ℕ
sign_spelling sign.Assign = codes ":="
sign_spelling sign.FatArrow = codes "=>"
sign_spelling sign.Arrow = codes "->"
sign_spelling sign.WriteBorrow = codes "&!"
sign_spelling sign.Reborrow = codes "&~"
sign_spelling sign.NotEqual = codes "/="
sign_spelling sign.LessEqual = codes "<="
sign_spelling sign.GreaterEqual = codes ">="
sign_spelling sign.LeftParenthesis = codes "("
sign_spelling sign.RightParenthesis = codes ")"
sign_spelling sign.LeftBracket = codes "["
sign_spelling sign.RightBracket = codes "]"
sign_spelling sign.LeftBrace = codes "{"
sign_spelling sign.RightBrace = codes "}"
sign_spelling sign.Comma = codes ","
sign_spelling sign.Semicolon = codes ";"
sign_spelling sign.Colon = codes ":"
sign_spelling sign.Dot = codes "."
sign_spelling sign.ReadBorrow = codes "&"
sign_spelling sign.Exclamation = codes "!"
sign_spelling sign.Plus = codes "+"
sign_spelling sign.Minus = codes "-"
sign_spelling sign.Star = codes "*"
sign_spelling sign.Slash = codes "/"
sign_spelling sign.Equal = codes "="
sign_spelling sign.Less = codes "<"
sign_spelling sign.Greater = codes ">"

-- every keyword
abbrev pub keywords : List Keyword
keywords = KwModule ∷ KwBody ∷ KwIs ∷ KwEnd ∷ KwImport ∷ KwAs ∷ KwPragma ∷ KwConstant
    ∷ KwType ∷ KwRecord ∷ KwUnion ∷ KwCase ∷ KwWhen ∷ KwOf ∷ KwDo ∷ KwFunction ∷ KwGeneric
    ∷ KwTypeclass ∷ KwInstance ∷ KwMethod ∷ KwLet ∷ KwVar ∷ KwIf ∷ KwThen ∷ KwElse
    ∷ KwWhile ∷ KwFor ∷ KwFrom ∷ KwTo ∷ KwBorrow ∷ KwIn ∷ KwReturn ∷ KwSkip ∷ KwNil
    ∷ KwTrue ∷ KwFalse ∷ KwAnd ∷ KwOr ∷ KwNot ∷ KwFree ∷ KwLinear ∷ KwAnyUniverse
    ∷ KwRegion
    ∷ []

-- every sign, those of two bytes first
abbrev pub signs : List Sign
signs = sign.Assign ∷ sign.FatArrow ∷ sign.Arrow ∷ sign.WriteBorrow ∷ sign.Reborrow ∷ sign.NotEqual
    ∷ sign.LessEqual ∷ sign.GreaterEqual ∷ sign.LeftParenthesis ∷ sign.RightParenthesis ∷ sign.LeftBracket
    ∷ sign.RightBracket ∷ sign.LeftBrace ∷ sign.RightBrace ∷ sign.Comma ∷ sign.Semicolon ∷ sign.Colon
    ∷ sign.Dot ∷ sign.ReadBorrow ∷ sign.Exclamation ∷ sign.Plus ∷ sign.Minus ∷ sign.Star ∷ sign.Slash
    ∷ sign.Equal ∷ sign.Less ∷ sign.Greater ∷ []
