-- The first words of statements and blocks.
use Rattle.std.proofs.Common.{◌≡◌, ◌<◌, true, false, List, [], ◌∷◌, length, Some, refl, ap, ◌∙◌, arith, None, Option}
use Rattle.std.proofs.lemmas.Bool.{and_parts}
use Rattle.au_base.specs.declared.tokens.Keyword.TheVariants.{KwSkip, KwLet, KwVar, KwIf, KwCase, KwWhile}
use Rattle.au_base.specs.declared.tokens.Keyword.TheVariants.{KwFor, KwBorrow, KwReturn}
use Rattle.au_base.specs.declared.tokens.Token.{Token}
use Rattle.au_base.specs.declared.tokens.What.{What}
use Rattle.au_base.specs.declared.tokens.What.TheVariants.{Word, Name}
use Rattle.au_syntax.specs.declared.statements.Binding.TheVariants.{Let, Var}
use Rattle.au_syntax.specs.declared.types.Access.TheVariants as access
use Rattle.au_syntax.specs.Expressions.{call, named_call}
use Rattle.au_syntax.specs.Forms.{is_conditional, begins_with_if, formed_statement, formed_block}
use Rattle.au_syntax.specs.Plain.{PlainStatement, PlainStatements}
use Rattle.au_syntax.specs.Statements.{skip, declare, destructure, assign, assign_through, conditional}
use Rattle.au_syntax.specs.Statements.{conditional_else, case_of, while_loop, for_loop, borrow_in}
use Rattle.au_syntax.specs.Statements.{borrow_typed, discard, return_of, no_statements, statements}
use Rattle.au_syntax.specs.Statements.{no_branches, branches}
use Rattle.au_syntax.specs.Words.{Words, statement_words, block_words}
use Rattle.au_read_expressions.specs.Reading.{front, is_front, begins_with}
use Rattle.au_read_expressions.specs.Spelling.{Begins}
use Rattle.au_read_expressions.proofs.Steps.{same_is}
use Rattle.au_read_expressions.proofs.Begins.{begins_split, first_word, front_of}
use Rattle.au_read_statements.specs.StatementReading.{begins_statement}

-- the first token is this one where the test holds
pub front_is : (what : What) (first : Option What) → is_front what first ≡ true → first ≡ Some what
front_is what None e = absurd cc
front_is what (Some first) e = ap (λ x. Some x) (same_is first what e)

-- the first word of a statement: a statement begins so, and a conditional alone with `if`
abbrev First : PlainStatement → Type 0
First s = (what : What) × (first_word (statement_words s) ≡ Some what) × (begins_statement (Some what) ≡ true)
    × (is_front (Word KwIf) (Some what) ≡ is_conditional s)

first_of_statement : (s : PlainStatement) → formed_statement s ≡ true → First s
first_of_statement (skip at) good = (Word KwSkip, refl, refl, refl)
first_of_statement (declare at Let name t e) good = (Word KwLet, refl, refl, refl)
first_of_statement (declare at Var name t e) good = (Word KwVar, refl, refl, refl)
first_of_statement (destructure at binds e) good = (Word KwLet, refl, refl, refl)
first_of_statement (assign at name fields e) good = (Name name.name, refl, refl, refl)
first_of_statement (assign_through at name fields e) good = (Name name.name, refl, refl, refl)
first_of_statement (conditional at no_branches) good = absurd (let wrong = good in cc)
first_of_statement (conditional at (branches e block rest)) good = (Word KwIf, refl, refl, refl)
first_of_statement (conditional_else at no_branches last) good = absurd (let wrong = good in cc)
first_of_statement (conditional_else at (branches e block rest) last) good = (Word KwIf, refl, refl, refl)
first_of_statement (case_of at e rest) good = (Word KwCase, refl, refl, refl)
first_of_statement (while_loop at e block) good = (Word KwWhile, refl, refl, refl)
first_of_statement (for_loop at name a z block) good = (Word KwFor, refl, refl, refl)
first_of_statement (borrow_in at access.Read x r region block stop) good = (Word KwBorrow, refl, refl, refl)
first_of_statement (borrow_in at access.Write x r region block stop) good = (Word KwBorrow, refl, refl, refl)
first_of_statement (borrow_typed at r t mode x block stop) good = (Word KwBorrow, refl, refl, refl)
first_of_statement (discard at (call node name args note)) good = (Name name.name, refl, refl, refl)
first_of_statement (discard at (named_call node name args note)) good = (Name name.name, refl, refl, refl)
first_of_statement (discard at other) good = absurd (let wrong = good in cc)
first_of_statement (return_of at e) good = (Word KwReturn, refl, refl, refl)

-- where there is a first word, there are words
some_first : (ws : Words) (what : What) → first_word ws ≡ Some what → 0 < length ws
some_first [] what e = absurd cc
some_first (w ∷ ws) what e = omega arith

pub statement_some : (s : PlainStatement) → formed_statement s ≡ true → 0 < length (statement_words s)
statement_some s good = let f = first_of_statement s good in some_first (statement_words s) f.0 f.1

front_statement : (s : PlainStatement) (ts rest : List Token) → (good : formed_statement s ≡ true) →
    Begins (statement_words s) ts rest → front ts ≡ Some (first_of_statement s good).0
front_statement s ts rest good h = front_of (statement_words s) ts rest (statement_some s good) h
    ∙ (first_of_statement s good).1

-- a statement begins as one
pub statement_begins : (s : PlainStatement) (ts rest : List Token) → Begins (statement_words s) ts rest →
    formed_statement s ≡ true → begins_statement (front ts) ≡ true
statement_begins s ts rest h good = ap begins_statement (front_statement s ts rest good h)
    ∙ (first_of_statement s good).2

-- a conditional alone begins with `if`
pub statement_if : (s : PlainStatement) (ts rest : List Token) → Begins (statement_words s) ts rest →
    formed_statement s ≡ true → begins_with (Word KwIf) ts ≡ is_conditional s
statement_if s ts rest h good = ap (is_front (Word KwIf)) (front_statement s ts rest good h)
    ∙ (first_of_statement s good).3

pub block_if : (block : PlainStatements) (ts rest : List Token) → Begins (block_words block) ts rest →
    formed_block block ≡ true → begins_with_if block ≡ true → begins_with (Word KwIf) ts ≡ true
block_if no_statements ts rest h good is = absurd cc
block_if (statements s more) ts rest h good is =
    let o = begins_split (statement_words s) (block_words more) ts rest h in
    statement_if s ts o.0 o.1 (and_parts (formed_statement s) (formed_block more) good).0 ∙ is

pub block_no_if : (block : PlainStatements) (ts rest : List Token) → Begins (block_words block) ts rest →
    formed_block block ≡ true → begins_with_if block ≡ false → begins_with (Word KwIf) rest ≡ false
    → begins_with (Word KwIf) ts ≡ false
block_no_if no_statements ts rest h good is none = ap (begins_with (Word KwIf)) h ∙ none
block_no_if (statements s more) ts rest h good is none =
    let o = begins_split (statement_words s) (block_words more) ts rest h in
    statement_if s ts o.0 o.1 (and_parts (formed_statement s) (formed_block more) good).0 ∙ is
