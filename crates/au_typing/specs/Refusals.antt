-- Where a block is refused.
use Rattle.std.specs.Prelude.{◌≡◌, ◌⊎◌, true, false, Err}
use Rattle.au_syntax.specs.Plain.{Bytes, PlainStatement, PlainStatements}
use Rattle.au_syntax.specs.Statements.{Statements, no_statements, statements}
use Rattle.au_typing.specs.Scopes.{Scope}
use Rattle.au_typing.specs.Faults.{after_return}
use Rattle.au_typing.specs.DerivationFaults.{StatementFault, refused}
use Rattle.au_typing.specs.InScope.{after}
use Rattle.au_typing.specs.Returns.{block_returns}
use Rattle.au_typing.specs.DerivationSearch.{note_statement, place_of}
use Rattle.au_typing.specs.Statements.{GoodBlock}
use Rattle.au_typing.specs.Trees.{NotedStatements, erase_block}

-- a block behind another one
abbrev pub statements_behind : {N T C : Type 0} → Statements N T C → Statements N T C → Statements N T C
statements_behind no_statements next = next
statements_behind (statements s rest) next = statements s (statements_behind rest next)

-- what is in scope behind the statements of a block
abbrev pub after_all : {T C : Type 0} → Statements Bytes T C → Scope → Scope
after_all no_statements sc = sc
after_all (statements s rest) sc = after_all rest (after s sc)

-- A block is refused at one of its statements. Those in front of it are good; and either they return on every
-- path, or they don't, and the statement is refused itself where it stands, for what it holds.
pub record IsRefused (ss : PlainStatements) (sc : Scope) (fault : StatementFault) : Type 0 where
  pub front : NotedStatements
  pub first : PlainStatement
  pub rest : PlainStatements
  pub splits : ss ≡ statements_behind (erase_block front) (statements first rest)
  pub good : GoodBlock front sc
  pub cause : ((block_returns front ≡ true) × (fault ≡ refused (place_of first) after_return))
      ⊎ ((block_returns front ≡ false) × (note_statement first (after_all front sc) ≡ Err fault))
