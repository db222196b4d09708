-- One small tree for each row of the grammar, and its tokens written by hand.
use Rattle.std.specs.Prelude.{pos, true, false, List, [], ◌∷◌, Some, None, codes}
use Rattle.au_base.specs.declared.places.Pos.{Pos}
use Rattle.au_base.specs.declared.tokens.Keyword.TheVariants.{KwModule, KwBody, KwIs, KwEnd, KwImport, KwAs}
use Rattle.au_base.specs.declared.tokens.Keyword.TheVariants.{KwPragma, KwConstant, KwType, KwRecord, KwUnion}
use Rattle.au_base.specs.declared.tokens.Keyword.TheVariants.{KwCase, KwWhen, KwOf, KwDo, KwFunction}
use Rattle.au_base.specs.declared.tokens.Keyword.TheVariants.{KwGeneric, KwTypeclass, KwInstance, KwMethod}
use Rattle.au_base.specs.declared.tokens.Keyword.TheVariants.{KwLet, KwVar, KwIf, KwThen, KwElse, KwWhile}
use Rattle.au_base.specs.declared.tokens.Keyword.TheVariants.{KwFor, KwFrom, KwTo, KwBorrow, KwIn, KwReturn}
use Rattle.au_base.specs.declared.tokens.Keyword.TheVariants.{KwSkip, KwNil, KwTrue, KwFalse, KwOr, KwNot}
use Rattle.au_base.specs.declared.tokens.Keyword.TheVariants.{KwFree, KwLinear, KwAnyUniverse, KwRegion}
use Rattle.au_base.specs.declared.tokens.Sign.TheVariants as sign
use Rattle.au_base.specs.declared.tokens.What.{What}
use Rattle.au_base.specs.declared.tokens.What.TheVariants.{Word, Sign, Name, Number, Text}
use Rattle.au_syntax.specs.declared.declarations.Universe.TheVariants as universe
use Rattle.au_syntax.specs.declared.expressions.BinaryOperator.TheVariants as operator
use Rattle.au_syntax.specs.declared.expressions.BorrowMode.TheVariants as mode
use Rattle.au_syntax.specs.declared.expressions.Literal.{Literal}
use Rattle.au_syntax.specs.declared.modules.Part.TheVariants.{Interface, Body}
use Rattle.au_syntax.specs.declared.statements.Binding.TheVariants.{Let, Var}
use Rattle.au_syntax.specs.declared.types.Access.TheVariants as access
use Rattle.au_syntax.specs.Names.{Placed}
use Rattle.au_syntax.specs.Types.{WrittenType, named, reference, no_types, types, Labelled, Bound}
use Rattle.au_syntax.specs.Expressions.{Node, number, negative, text, truth, nil, path, arrow, call}
use Rattle.au_syntax.specs.Expressions.{named_call, parenthesized, dereference, borrow, borrow_part, binary}
use Rattle.au_syntax.specs.Expressions.{negation, typed, choice, no_expressions, expressions, no_arguments}
use Rattle.au_syntax.specs.Expressions.{arguments}
use Rattle.au_syntax.specs.Statements.{skip, declare, destructure, assign, assign_through, conditional}
use Rattle.au_syntax.specs.Statements.{conditional_else, case_of, while_loop, for_loop, borrow_in}
use Rattle.au_syntax.specs.Statements.{borrow_typed, discard, return_of, no_statements, statements}
use Rattle.au_syntax.specs.Statements.{no_branches, branches, no_arms, arms}
use Rattle.au_syntax.specs.Modules.{InUniverse, Constrained, Header, constant, opaque_type, record_type}
use Rattle.au_syntax.specs.Modules.{union_type, function, class, instance, constant_body, function_body}
use Rattle.au_syntax.specs.Modules.{instance_body}
use Rattle.au_syntax.specs.Plain.{Bytes, PlainExpression, PlainStatement, PlainStatements, PlainDeclaration}
use Rattle.au_syntax.specs.Plain.{PlainModule, PlainMethod}

-- some place
abbrev pub here : Pos
here = record { file = 0; line = 1; column = 1 }

-- a name at that place
abbrev pub name : Bytes → Placed Bytes
name bytes = record { name = bytes; at = here }

-- an expression's place
abbrev pub spot : Node (Unit {0})
spot = record { at = here; note = tt }

-- the variable x, and the type T
abbrev pub x : PlainExpression
x = path spot (name (codes "x")) []

abbrev pub T : WrittenType
T = named (name (codes "T")) no_types

-- the token of a name
abbrev pub n : Bytes → What
n bytes = Name bytes

abbrev pub seven : Literal
seven = record { value = pos 7; digits = 3 }

-- one tree of each row, and its tokens
abbrev pub type_rows : List (WrittenType × List What)
type_rows =
    -- T
    (T, n (codes "T") ∷ [])
    -- P[T, U]
    ∷ (
      named (name (codes "P")) (types T (types (named (name (codes "U")) no_types) no_types)),
      n (codes "P") ∷ Sign sign.LeftBracket ∷ n (codes "T") ∷ Sign sign.Comma ∷ n (codes "U")
          ∷ Sign sign.RightBracket ∷ [],
    )
    -- &[T, R] and &![T, R]
    ∷ (
      reference here access.Read T (name (codes "R")),
      Sign sign.ReadBorrow ∷ Sign sign.LeftBracket ∷ n (codes "T") ∷ Sign sign.Comma ∷ n (codes "R")
          ∷ Sign sign.RightBracket ∷ [],
    )
    ∷ (
      reference here access.Write T (name (codes "R")),
      Sign sign.WriteBorrow ∷ Sign sign.LeftBracket ∷ n (codes "T") ∷ Sign sign.Comma ∷ n (codes "R")
          ∷ Sign sign.RightBracket ∷ [],
    )
    ∷ []

abbrev pub expression_rows : List (PlainExpression × List What)
expression_rows =
    -- 007 and -007
    (number spot seven, Number (pos 7) 3 ∷ [])
    ∷ (negative spot seven, Sign sign.Minus ∷ Number (pos 7) 3 ∷ [])
    -- "a"
    ∷ (text spot (codes "a"), Text (codes "a") ∷ [])
    ∷ (truth spot true, Word KwTrue ∷ [])
    ∷ (truth spot false, Word KwFalse ∷ [])
    ∷ (nil spot, Word KwNil ∷ [])
    -- x.f.g
    ∷ (
      path spot (name (codes "x")) (name (codes "f") ∷ name (codes "g") ∷ []),
      n (codes "x") ∷ Sign sign.Dot ∷ n (codes "f") ∷ Sign sign.Dot ∷ n (codes "g") ∷ [],
    )
    -- r->f.g
    ∷ (
      arrow spot (name (codes "r")) (name (codes "f") ∷ name (codes "g") ∷ []),
      n (codes "r") ∷ Sign sign.Arrow ∷ n (codes "f") ∷ Sign sign.Dot ∷ n (codes "g") ∷ [],
    )
    -- f(), and f(x, nil)
    ∷ (
      call spot (name (codes "f")) no_expressions tt,
      n (codes "f") ∷ Sign sign.LeftParenthesis ∷ Sign sign.RightParenthesis ∷ [],
    )
    ∷ (
      call spot (name (codes "f")) (expressions x (expressions (nil spot) no_expressions)) tt,
      n (codes "f") ∷ Sign sign.LeftParenthesis ∷ n (codes "x") ∷ Sign sign.Comma ∷ Word KwNil
          ∷ Sign sign.RightParenthesis ∷ [],
    )
    -- f(a => x, b => nil)
    ∷ (
      named_call spot (name (codes "f")) (arguments (name (codes "a")) x
          (arguments (name (codes "b")) (nil spot) no_arguments)) tt,
      n (codes "f") ∷ Sign sign.LeftParenthesis ∷ n (codes "a") ∷ Sign sign.FatArrow ∷ n (codes "x")
          ∷ Sign sign.Comma
          ∷ n (codes "b") ∷ Sign sign.FatArrow ∷ Word KwNil ∷ Sign sign.RightParenthesis ∷ [],
    )
    -- (x)
    ∷ (parenthesized spot x, Sign sign.LeftParenthesis ∷ n (codes "x") ∷ Sign sign.RightParenthesis ∷ [])
    -- !x
    ∷ (dereference spot x, Sign sign.Exclamation ∷ n (codes "x") ∷ [])
    -- &x, &!x and &~x
    ∷ (borrow spot mode.Read (name (codes "x")), Sign sign.ReadBorrow ∷ n (codes "x") ∷ [])
    ∷ (borrow spot mode.Write (name (codes "x")), Sign sign.WriteBorrow ∷ n (codes "x") ∷ [])
    ∷ (borrow spot mode.Reborrow (name (codes "x")), Sign sign.Reborrow ∷ n (codes "x") ∷ [])
    -- &(r->f)
    ∷ (
      borrow_part spot (name (codes "r")) (name (codes "f") ∷ []),
      Sign sign.ReadBorrow ∷ Sign sign.LeftParenthesis ∷ n (codes "r") ∷ Sign sign.Arrow ∷ n (codes "f")
          ∷ Sign sign.RightParenthesis ∷ [],
    )
    -- x /= nil, and x or nil
    ∷ (binary spot operator.NotEqual x (nil spot), n (codes "x") ∷ Sign sign.NotEqual ∷ Word KwNil ∷ [])
    ∷ (binary spot operator.Or x (nil spot), n (codes "x") ∷ Word KwOr ∷ Word KwNil ∷ [])
    -- not x
    ∷ (negation spot x, Word KwNot ∷ n (codes "x") ∷ [])
    -- x : T
    ∷ (typed spot x T, n (codes "x") ∷ Sign sign.Colon ∷ n (codes "T") ∷ [])
    -- if true then x else nil
    ∷ (
      choice spot (truth spot true) x (nil spot),
      Word KwIf ∷ Word KwTrue ∷ Word KwThen ∷ n (codes "x") ∷ Word KwElse ∷ Word KwNil ∷ [],
    )
    ∷ []

-- a block with `skip;` alone
abbrev pub skips : PlainStatements
skips = statements (skip here) no_statements

-- a field that is bound under another name, and one that isn't
abbrev pub binds : List (Bound Bytes)
binds = record { name = record { name = name (codes "f"); alias = Some (name (codes "a")) }; of = T }
    ∷ record { name = record { name = name (codes "g"); alias = None }; of = T } ∷ []

abbrev pub statement_rows : List (PlainStatement × List What)
statement_rows =
    -- skip;
    (skip here, Word KwSkip ∷ Sign sign.Semicolon ∷ [])
    -- let y: T := x; and with var
    ∷ (
      declare here Let (name (codes "y")) T x,
      Word KwLet ∷ n (codes "y") ∷ Sign sign.Colon ∷ n (codes "T") ∷ Sign sign.Assign ∷ n (codes "x")
          ∷ Sign sign.Semicolon ∷ [],
    )
    ∷ (
      declare here Var (name (codes "y")) T x,
      Word KwVar ∷ n (codes "y") ∷ Sign sign.Colon ∷ n (codes "T") ∷ Sign sign.Assign ∷ n (codes "x")
          ∷ Sign sign.Semicolon ∷ [],
    )
    -- let { f as a: T, g: T } := x;
    ∷ (
      destructure here binds x,
      Word KwLet ∷ Sign sign.LeftBrace ∷ n (codes "f") ∷ Word KwAs ∷ n (codes "a") ∷ Sign sign.Colon
          ∷ n (codes "T") ∷ Sign sign.Comma
          ∷ n (codes "g") ∷ Sign sign.Colon ∷ n (codes "T") ∷ Sign sign.RightBrace ∷ Sign sign.Assign
          ∷ n (codes "x") ∷ Sign sign.Semicolon ∷ [],
    )
    -- y.f := x;
    ∷ (
      assign here (name (codes "y")) (name (codes "f") ∷ []) x,
      n (codes "y") ∷ Sign sign.Dot ∷ n (codes "f") ∷ Sign sign.Assign ∷ n (codes "x") ∷ Sign sign.Semicolon
          ∷ [],
    )
    -- r->f := x;
    ∷ (
      assign_through here (name (codes "r")) (name (codes "f") ∷ []) x,
      n (codes "r") ∷ Sign sign.Arrow ∷ n (codes "f") ∷ Sign sign.Assign ∷ n (codes "x")
          ∷ Sign sign.Semicolon ∷ [],
    )
    -- if x then skip; else if x then end if;
    ∷ (
      conditional here (branches x skips (branches x no_statements no_branches)),
      Word KwIf ∷ n (codes "x") ∷ Word KwThen ∷ Word KwSkip ∷ Sign sign.Semicolon ∷ Word KwElse
          ∷ Word KwIf ∷ n (codes "x") ∷ Word KwThen ∷ Word KwEnd ∷ Word KwIf ∷ Sign sign.Semicolon ∷ [],
    )
    -- if x then else skip; end if;
    ∷ (
      conditional_else here (branches x no_statements no_branches) skips,
      Word KwIf ∷ n (codes "x") ∷ Word KwThen ∷ Word KwElse ∷ Word KwSkip ∷ Sign sign.Semicolon ∷ Word KwEnd
          ∷ Word KwIf ∷ Sign sign.Semicolon ∷ [],
    )
    -- case x of when A do when B(f as a: T, g: T) do skip; end case;
    ∷ (
      case_of here x (arms here (name (codes "A")) [] no_statements
          (arms here (name (codes "B")) binds skips no_arms)),
      Word KwCase ∷ n (codes "x") ∷ Word KwOf ∷ Word KwWhen ∷ n (codes "A") ∷ Word KwDo ∷ Word KwWhen
          ∷ n (codes "B") ∷ Sign sign.LeftParenthesis
          ∷ n (codes "f") ∷ Word KwAs ∷ n (codes "a") ∷ Sign sign.Colon ∷ n (codes "T") ∷ Sign sign.Comma
          ∷ n (codes "g") ∷ Sign sign.Colon ∷ n (codes "T")
          ∷ Sign sign.RightParenthesis ∷ Word KwDo ∷ Word KwSkip ∷ Sign sign.Semicolon ∷ Word KwEnd
          ∷ Word KwCase ∷ Sign sign.Semicolon ∷ [],
    )
    -- while x do skip; end while;
    ∷ (
      while_loop here x skips,
      Word KwWhile ∷ n (codes "x") ∷ Word KwDo ∷ Word KwSkip ∷ Sign sign.Semicolon
          ∷ Word KwEnd ∷ Word KwWhile ∷ Sign sign.Semicolon ∷ [],
    )
    -- for i from x to nil do skip; end for;
    ∷ (
      for_loop here (name (codes "i")) x (nil spot) skips,
      Word KwFor ∷ n (codes "i") ∷ Word KwFrom ∷ n (codes "x") ∷ Word KwTo ∷ Word KwNil ∷ Word KwDo
          ∷ Word KwSkip ∷ Sign sign.Semicolon ∷ Word KwEnd ∷ Word KwFor ∷ Sign sign.Semicolon ∷ [],
    )
    -- borrow x as r in R do skip; end borrow; and with borrow!
    ∷ (
      borrow_in here access.Read (name (codes "x")) (name (codes "r")) (name (codes "R")) skips here,
      Word KwBorrow ∷ n (codes "x") ∷ Word KwAs ∷ n (codes "r") ∷ Word KwIn ∷ n (codes "R") ∷ Word KwDo
          ∷ Word KwSkip ∷ Sign sign.Semicolon ∷ Word KwEnd ∷ Word KwBorrow ∷ Sign sign.Semicolon ∷ [],
    )
    ∷ (
      borrow_in here access.Write (name (codes "x")) (name (codes "r")) (name (codes "R")) no_statements here,
      Word KwBorrow ∷ Sign sign.Exclamation ∷ n (codes "x") ∷ Word KwAs ∷ n (codes "r") ∷ Word KwIn
          ∷ n (codes "R") ∷ Word KwDo ∷ Word KwEnd ∷ Word KwBorrow ∷ Sign sign.Semicolon ∷ [],
    )
    -- borrow r: T := &~x do end borrow;
    ∷ (
      borrow_typed here (name (codes "r")) T mode.Reborrow (name (codes "x")) no_statements here,
      Word KwBorrow ∷ n (codes "r") ∷ Sign sign.Colon ∷ n (codes "T") ∷ Sign sign.Assign ∷ Sign sign.Reborrow
          ∷ n (codes "x") ∷ Word KwDo ∷ Word KwEnd ∷ Word KwBorrow ∷ Sign sign.Semicolon ∷ [],
    )
    -- f();
    ∷ (
      discard here (call spot (name (codes "f")) no_expressions tt),
      n (codes "f") ∷ Sign sign.LeftParenthesis ∷ Sign sign.RightParenthesis ∷ Sign sign.Semicolon ∷ [],
    )
    -- return x;
    ∷ (return_of here x, Word KwReturn ∷ n (codes "x") ∷ Sign sign.Semicolon ∷ [])
    ∷ []

-- f: T
abbrev pub field : Labelled Bytes
field = record { name = name (codes "f"); of = T }

-- A: Free
abbrev pub parameter : InUniverse Bytes
parameter = record { name = name (codes "A"); universe = universe.Free }

-- A: Free(C, D)
abbrev pub generic : Constrained Bytes
generic = record { parameter = parameter; classes = name (codes "C") ∷ name (codes "D") ∷ [] }

-- m(f: T): T
abbrev pub header : Header Bytes
header = record { name = name (codes "m"); parameters = field ∷ []; result = T }

abbrev pub header_tokens : List What → List What
header_tokens behind =
    n (codes "m") ∷ Sign sign.LeftParenthesis ∷ n (codes "f") ∷ Sign sign.Colon ∷ n (codes "T")
    ∷ Sign sign.RightParenthesis ∷ Sign sign.Colon ∷ n (codes "T") ∷ behind

-- generic [A: Free(C, D)]
abbrev pub generic_tokens : List What → List What
generic_tokens behind =
    Word KwGeneric ∷ Sign sign.LeftBracket ∷ n (codes "A") ∷ Sign sign.Colon ∷ Word KwFree
    ∷ Sign sign.LeftParenthesis ∷ n (codes "C") ∷ Sign sign.Comma ∷ n (codes "D")
    ∷ Sign sign.RightParenthesis ∷ Sign sign.RightBracket ∷ behind

-- method m(f: T): T is skip; end;
abbrev pub method : PlainMethod
method = record { header = header; body = skips; stop = here }

abbrev pub declaration_rows : List (PlainDeclaration × List What)
declaration_rows =
    -- constant c: T; and constant c: T := 007;
    (
      constant here (name (codes "c")) T,
      Word KwConstant ∷ n (codes "c") ∷ Sign sign.Colon ∷ n (codes "T")
          ∷ Sign sign.Semicolon ∷ [],
    )
    ∷ (
      constant_body here (name (codes "c")) T (number spot seven),
      Word KwConstant ∷ n (codes "c") ∷ Sign sign.Colon ∷ n (codes "T") ∷ Sign sign.Assign ∷ Number (pos 7) 3
          ∷ Sign sign.Semicolon ∷ [],
    )
    -- type O: Linear; and type O[A: Free]: Type;
    ∷ (
      opaque_type here (name (codes "O")) [] universe.Linear,
      Word KwType ∷ n (codes "O") ∷ Sign sign.Colon ∷ Word KwLinear ∷ Sign sign.Semicolon ∷ [],
    )
    ∷ (
      opaque_type here (name (codes "O")) (parameter ∷ []) universe.AnyType,
      Word KwType ∷ n (codes "O") ∷ Sign sign.LeftBracket ∷ n (codes "A") ∷ Sign sign.Colon ∷ Word KwFree
          ∷ Sign sign.RightBracket ∷ Sign sign.Colon ∷ Word KwAnyUniverse ∷ Sign sign.Semicolon ∷ [],
    )
    -- record P: Region is f: T; end;
    ∷ (
      record_type here (name (codes "P")) [] universe.Region (field ∷ []),
      Word KwRecord ∷ n (codes "P") ∷ Sign sign.Colon ∷ Word KwRegion ∷ Word KwIs ∷ n (codes "f")
          ∷ Sign sign.Colon ∷ n (codes "T") ∷ Sign sign.Semicolon ∷ Word KwEnd ∷ Sign sign.Semicolon ∷ [],
    )
    -- union U: Free is case N; case S is f: T; end;
    ∷ (
      union_type here (name (codes "U")) [] universe.Free
          (record { name = name (codes "N"); fields = [] }
          ∷ record { name = name (codes "S"); fields = field ∷ [] } ∷ []),
      Word KwUnion ∷ n (codes "U") ∷ Sign sign.Colon ∷ Word KwFree ∷ Word KwIs ∷ Word KwCase ∷ n (codes "N")
          ∷ Sign sign.Semicolon
          ∷ Word KwCase ∷ n (codes "S") ∷ Word KwIs ∷ n (codes "f") ∷ Sign sign.Colon ∷ n (codes "T")
          ∷ Sign sign.Semicolon ∷ Word KwEnd ∷ Sign sign.Semicolon ∷ [],
    )
    -- function m(f: T): T; and generic [A: Free(C, D)] function m(f: T): T is skip; end;
    ∷ (function here [] header, Word KwFunction ∷ header_tokens (Sign sign.Semicolon ∷ []))
    ∷ (
      function_body here (generic ∷ []) header skips here,
      generic_tokens (Word KwFunction ∷ header_tokens
          (Word KwIs ∷ Word KwSkip ∷ Sign sign.Semicolon ∷ Word KwEnd ∷ Sign sign.Semicolon ∷ [])),
    )
    -- typeclass C(A: Free) is method m(f: T): T; end;
    ∷ (
      class here (name (codes "C")) parameter (header ∷ []),
      Word KwTypeclass ∷ n (codes "C") ∷ Sign sign.LeftParenthesis ∷ n (codes "A") ∷ Sign sign.Colon
          ∷ Word KwFree ∷ Sign sign.RightParenthesis ∷ Word KwIs
          ∷ Word KwMethod ∷ header_tokens (Sign sign.Semicolon ∷ Word KwEnd ∷ Sign sign.Semicolon ∷ []),
    )
    -- generic [A: Free(C, D)] instance C(T); and instance C(T) is method m(f: T): T is skip; end; end;
    ∷ (
      instance here (generic ∷ []) (name (codes "C")) T,
      generic_tokens (Word KwInstance ∷ n (codes "C") ∷ Sign sign.LeftParenthesis ∷ n (codes "T")
          ∷ Sign sign.RightParenthesis ∷ Sign sign.Semicolon ∷ []),
    )
    ∷ (
      instance_body here [] (name (codes "C")) T (method ∷ []),
      Word KwInstance ∷ n (codes "C") ∷ Sign sign.LeftParenthesis ∷ n (codes "T") ∷ Sign sign.RightParenthesis
          ∷ Word KwIs
          ∷ Word KwMethod ∷ header_tokens (Word KwIs ∷ Word KwSkip ∷ Sign sign.Semicolon ∷ Word KwEnd
          ∷ Sign sign.Semicolon ∷ Word KwEnd ∷ Sign sign.Semicolon ∷ []),
    )
    ∷ []

abbrev pub module_rows : List (PlainModule × List What)
module_rows =
    -- import N.M (a, b as c); module M is end module.
    (
      record {
        imports = record {
          at = here;
          from = name (codes "N") ∷ name (codes "M") ∷ [];
          items = record { name = name (codes "a"); alias = None }
              ∷ record { name = name (codes "b"); alias = Some (name (codes "c")) } ∷ [];
        } ∷ [];
        at = here;
        part = Interface;
        name = name (codes "M") ∷ [];
        pragma = None;
        declarations = [];
      },
      Word KwImport ∷ n (codes "N") ∷ Sign sign.Dot ∷ n (codes "M") ∷ Sign sign.LeftParenthesis
          ∷ n (codes "a") ∷ Sign sign.Comma ∷ n (codes "b") ∷ Word KwAs ∷ n (codes "c")
          ∷ Sign sign.RightParenthesis ∷ Sign sign.Semicolon ∷ Word KwModule ∷ n (codes "M") ∷ Word KwIs
          ∷ Word KwEnd ∷ Word KwModule ∷ Sign sign.Dot ∷ [],
    )
    -- module body M.N is pragma Unsafe_Module; constant c: T := 007; end module body.
    ∷ (
      record {
        imports = [];
        at = here;
        part = Body;
        name = name (codes "M") ∷ name (codes "N") ∷ [];
        pragma = Some here;
        declarations = constant_body here (name (codes "c")) T (number spot seven) ∷ [];
      },
      Word KwModule ∷ Word KwBody ∷ n (codes "M") ∷ Sign sign.Dot ∷ n (codes "N") ∷ Word KwIs ∷ Word KwPragma
          ∷ n (codes "Unsafe_Module") ∷ Sign sign.Semicolon
          ∷ Word KwConstant ∷ n (codes "c") ∷ Sign sign.Colon ∷ n (codes "T") ∷ Sign sign.Assign
          ∷ Number (pos 7) 3 ∷ Sign sign.Semicolon
          ∷ Word KwEnd ∷ Word KwModule ∷ Word KwBody ∷ Sign sign.Dot ∷ [],
    )
    ∷ []
