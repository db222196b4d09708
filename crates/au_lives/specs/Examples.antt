-- Expressions with their mentions of x, and small bodies with their paths, all written by hand.
use Rattle.std.specs.Prelude.{ℕ, true, false, List, [], ◌∷◌, map, Some, None, codes}
use Rattle.au_syntax.specs.declared.expressions.BinaryOperator.TheVariants as operators
use Rattle.au_syntax.specs.declared.expressions.BorrowMode.TheVariants as modes
use Rattle.au_syntax.specs.declared.statements.Binding.TheVariants as bindings
use Rattle.au_syntax.specs.declared.types.Access.TheVariants as access
use Rattle.au_syntax.specs.Names.{Placed}
use Rattle.au_syntax.specs.Types.{Bound}
use Rattle.au_syntax.specs.Expressions.{truth, path, arrow, call, parenthesized, dereference, borrow}
use Rattle.au_syntax.specs.Expressions.{borrow_part, binary, choice, no_expressions, expressions}
use Rattle.au_syntax.specs.Statements.{declare, destructure, for_loop, skip, conditional_else, case_of}
use Rattle.au_syntax.specs.Statements.{while_loop, borrow_in, discard, return_of, no_statements, statements}
use Rattle.au_syntax.specs.Statements.{no_branches, branches, no_arms, arms}
use Rattle.au_syntax.specs.Plain.{Bytes, PlainExpression, PlainStatement, PlainStatements}
use Rattle.au_syntax.specs.Examples.{here, name, spot, x, T}
use Rattle.au_lives.specs.declared.lives.LifeKind.TheVariants as kinds
use Rattle.au_lives.specs.Mentions.{Counts, counts}
use Rattle.au_lives.specs.Paths.{Met, whole, opening, Step}
use Rattle.au_lives.specs.Scopes.{Scope}
use Rattle.au_lives.specs.Lives.{Fate, going, broken}

-- `f(e)`
abbrev pub f_of : PlainExpression → PlainExpression
f_of e = call spot (name (codes "f")) (expressions e no_expressions) tt

abbrev pub field : List (Placed Bytes)
field = name (codes "a") ∷ []

-- expressions, and how often each consumes x, write-borrows it, read-borrows it and looks at it, where x
-- isn't Free
abbrev pub mentions : List (PlainExpression × Counts)
mentions =
    (x, counts 1 0 0 0)
    ∷ (borrow spot modes.Read (name (codes "x")), counts 0 0 1 0)
    ∷ (borrow spot modes.Write (name (codes "x")), counts 0 1 0 0)
    ∷ (borrow spot modes.Reborrow (name (codes "x")), counts 0 1 0 0)
    ∷ (path spot (name (codes "x")) field, counts 0 0 0 1)
    ∷ (arrow spot (name (codes "x")) field, counts 0 0 0 1)
    ∷ (borrow_part spot (name (codes "x")) field, counts 0 0 0 1)
    ∷ (dereference spot x, counts 0 0 0 1)
    ∷ (dereference spot (parenthesized spot (parenthesized spot x)), counts 0 0 0 1)
    ∷ (dereference spot (f_of x), counts 1 0 0 0)
    ∷ (path spot (name (codes "y")) [], counts 0 0 0 0)
    ∷ (
      call spot (name (codes "x")) (expressions x (expressions (dereference spot x) no_expressions)) tt,
      counts 1 0 0 1,
    )
    ∷ (binary spot operators.Add x (f_of x), counts 2 0 0 0)
    ∷ (choice spot (truth spot true) x (borrow spot modes.Write (name (codes "x"))), counts 1 1 0 0)
    ∷ []

-- `true`, and `false`
abbrev pub yes : PlainExpression
yes = truth spot true

abbrev pub no : PlainExpression
no = truth spot false

abbrev pub block_of : List PlainStatement → PlainStatements
block_of [] = no_statements
block_of (s ∷ ss) = statements s (block_of ss)

-- `f(e);`
abbrev pub does : PlainExpression → PlainStatement
does e = discard here (f_of e)

-- if true then f(x); else if false then skip; else f(x); f(x); end if; return true;
abbrev pub three_ways : PlainStatements
three_ways =
    block_of
    (
    conditional_else
    here
    (branches yes (block_of (does x ∷ [])) (branches no (block_of (skip here ∷ [])) no_branches))
    (block_of (does x ∷ does x ∷ []))
    ∷ return_of here yes
    ∷ []
    )

-- while true do f(!x); end while; return x;
abbrev pub some_turns : PlainStatements
some_turns =
    block_of (while_loop here yes (block_of (does (dereference spot x) ∷ [])) ∷ return_of here x ∷ [])

-- borrow! x as r in R do case true of when A do return r; when B do f(x); end case; end borrow; return x;
abbrev pub lent_and_left : PlainStatements
lent_and_left =
    let leaves = block_of (return_of here (path spot (name (codes "r")) []) ∷ []) in
    let uses = block_of (does x ∷ []) in
    let ways = arms here (name (codes "A")) [] leaves (arms here (name (codes "B")) [] uses no_arms) in
    let inner = block_of (case_of here yes ways ∷ []) in
    let lent = borrow_in here access.Write (name (codes "x")) (name (codes "r")) (name (codes "R")) inner here
    in
    block_of (lent ∷ return_of here x ∷ [])

-- let x: T := f(x); return f(x);
abbrev pub named_again : PlainStatements
named_again =
    block_of (declare here bindings.Let (name (codes "x")) T (f_of x) ∷ return_of here (f_of x) ∷ [])

-- Bodies, choices, what is met, and what becomes of x, which isn't Free.
abbrev pub ways : List (PlainStatements × List ℕ × List Met × Fate)
ways =
    (three_ways, [], whole yes ∷ whole (f_of x) ∷ whole yes ∷ [], going true)
    ∷ (three_ways, 1 ∷ [], whole yes ∷ whole no ∷ whole yes ∷ [], broken kinds.Unused)
    ∷ (
      three_ways,
      2 ∷ [],
      whole yes ∷ whole no ∷ whole (f_of x) ∷ whole (f_of x) ∷ whole yes ∷ [],
      broken kinds.Again,
    )
    ∷ (
      three_ways,
      9 ∷ [],
      whole yes ∷ whole no ∷ whole (f_of x) ∷ whole (f_of x) ∷ whole yes ∷ [],
      broken kinds.Again,
    )
    ∷ (some_turns, [], whole yes ∷ whole x ∷ [], going true)
    ∷ (
      some_turns,
      5 ∷ [],
      whole yes ∷ whole (f_of (dereference spot x)) ∷ whole yes ∷ whole x ∷ [],
      going true,
    )
    ∷ (
      some_turns,
      1 ∷ 1 ∷ [],
      whole yes ∷ whole (f_of (dereference spot x)) ∷ whole yes ∷
          whole (f_of (dereference spot x)) ∷ whole yes ∷ whole x ∷ [],
      going true,
    )
    ∷ (
      lent_and_left,
      [],
      opening access.Write (codes "x") ∷ whole yes ∷
          whole (path spot (name (codes "r")) []) ∷ [],
      broken kinds.Unused,
    )
    ∷ (
      lent_and_left,
      1 ∷ [],
      opening access.Write (codes "x") ∷ whole yes ∷ whole (f_of x) ∷ whole x ∷ [],
      broken kinds.Borrowed,
    )
    ∷ (named_again, [], whole (f_of x) ∷ whole (f_of x) ∷ [], going true)
    ∷ []

-- what the steps are, without what stands round them
abbrev pub without_around : List Step → List Met
without_around ss = map (λ s. s.what) ss

-- for i from true to true do let { a: T, b as c: T } := x; end for; return true;
abbrev pub some_names : PlainStatements
some_names =
    let of_a : Bound Bytes = record { name = record { name = name (codes "a"); alias = None }; of = T } in
    let of_b : Bound Bytes =
    record { name = record { name = name (codes "b"); alias = Some (name (codes "c")) }; of = T } in
    let inner = block_of (destructure here (of_a ∷ of_b ∷ []) x ∷ []) in
    block_of (for_loop here (name (codes "i")) yes yes inner ∷ return_of here yes ∷ [])

-- the names of the variables of bodies, in text order
abbrev pub names : List (PlainStatements × List Bytes)
names =
    (three_ways, [])
    ∷ (lent_and_left, codes "r" ∷ [])
    ∷ (named_again, codes "x" ∷ [])
    ∷ (some_names, codes "i" ∷ codes "a" ∷ codes "c" ∷ [])
    ∷ []

abbrev pub names_of : List Scope → List Bytes
names_of scopes = map (λ s. s.name.name) scopes
