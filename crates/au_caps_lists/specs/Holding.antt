-- What the variables of a body can hold, and what it can hand on.
use Rattle.std.specs.Prelude.{List, [], ◌++◌, Option}
use Rattle.au_syntax.specs.Expressions.{call, named_call, parenthesized, dereference, binary, negation, typed}
use Rattle.au_syntax.specs.Expressions.{choice, no_expressions, expressions, no_arguments, arguments}
use Rattle.au_syntax.specs.Plain.{Bytes}
use Rattle.au_syntax.specs.Statements.{declare, destructure, assign, assign_through, conditional}
use Rattle.au_syntax.specs.Statements.{conditional_else, case_of, while_loop, for_loop, borrow_in}
use Rattle.au_syntax.specs.Statements.{borrow_typed, discard, return_of, no_statements, statements}
use Rattle.au_syntax.specs.Statements.{no_branches, branches, no_arms, arms}
use Rattle.au_types.specs.Senses.{Sense}
use Rattle.au_modules.specs.Programs.{ModuleParts}
use Rattle.au_typing.specs.Notes.{NotedArguments, NotedExpression, NotedExpressions, type_of}
use Rattle.au_typing.specs.Trees.{NotedArms, NotedBranches, NotedStatement, NotedStatements}
use Rattle.au_caps_lists.specs.Bodies.{Bodied, params_of, sense_in}
use Rattle.au_caps_lists.specs.Mentions.{Mention, bind_mentions, field_mentions, mentions, written_mentions}
use Rattle.au_caps_lists.specs.Reaching.{Reaches}

-- ---- variables

-- by what a name means among types
module _ (sense : Bytes → Option Sense) where
  abbrev mutual
    -- What stands in the types that are written for the variables of a statement, and of what is inside of
    -- it. The variable of a `for` is an integer; the reference of a `borrow` without a written type refers to
    -- what the type of a variable says: they add nothing.
    pub held_in : NotedStatement → List Mention
    held_in (declare at binding name t e) = written_mentions sense t
    held_in (destructure at binds e) = bind_mentions sense binds
    held_in (conditional at tests) = held_in_branches tests
    held_in (conditional_else at tests b) = held_in_branches tests ++ held_in_block b
    held_in (case_of at e all) = held_in_arms all
    held_in (while_loop at e b) = held_in_block b
    held_in (for_loop at name a z b) = held_in_block b
    held_in (borrow_in at access x r region b stop) = held_in_block b
    held_in (borrow_typed at r t mode x b stop) = written_mentions sense t ++ held_in_block b
    held_in other = []

    pub held_in_block : NotedStatements → List Mention
    held_in_block no_statements = []
    held_in_block (statements s rest) = held_in s ++ held_in_block rest

    pub held_in_branches : NotedBranches → List Mention
    held_in_branches no_branches = []
    held_in_branches (branches e b rest) = held_in_block b ++ held_in_branches rest

    pub held_in_arms : NotedArms → List Mention
    held_in_arms no_arms = []
    held_in_arms (arms at name binds b rest) = (bind_mentions sense binds ++ held_in_block b) ++ held_in_arms
        rest

-- ---- arguments

-- what stands in the noted types of expressions in order
abbrev pub types_mention : NotedExpressions → List Mention
types_mention no_expressions = []
types_mention (expressions e rest) = mentions (type_of e) ++ types_mention rest

-- the same of named arguments
abbrev pub named_mention : NotedArguments → List Mention
named_mention no_arguments = []
named_mention (arguments label e rest) = mentions (type_of e) ++ named_mention rest

abbrev mutual
  -- what stands in the noted types of the arguments of the calls in an expression, those of constructors
  -- among them
  pub handed_in : NotedExpression → List Mention
  handed_in (call n f es c) = types_mention es ++ handed_in_all es
  handed_in (named_call n f es c) = named_mention es ++ handed_in_arguments es
  handed_in (parenthesized n e) = handed_in e
  handed_in (dereference n e) = handed_in e
  handed_in (binary n op a b) = handed_in a ++ handed_in b
  handed_in (negation n e) = handed_in e
  handed_in (typed n e t) = handed_in e
  handed_in (choice n c a b) = handed_in c ++ handed_in a ++ handed_in b
  handed_in other = []

  pub handed_in_all : NotedExpressions → List Mention
  handed_in_all no_expressions = []
  handed_in_all (expressions e rest) = handed_in e ++ handed_in_all rest

  pub handed_in_arguments : NotedArguments → List Mention
  handed_in_arguments no_arguments = []
  handed_in_arguments (arguments label e rest) = handed_in e ++ handed_in_arguments rest

abbrev mutual
  -- the same of a statement, and of what is inside of it
  pub handed_by : NotedStatement → List Mention
  handed_by (declare at binding name t e) = handed_in e
  handed_by (destructure at binds e) = handed_in e
  handed_by (assign at name fields e) = handed_in e
  handed_by (assign_through at name fields e) = handed_in e
  handed_by (conditional at tests) = handed_by_branches tests
  handed_by (conditional_else at tests b) = handed_by_branches tests ++ handed_by_block b
  handed_by (case_of at e all) = handed_in e ++ handed_by_arms all
  handed_by (while_loop at e b) = handed_in e ++ handed_by_block b
  handed_by (for_loop at name a z b) = handed_in a ++ handed_in z ++ handed_by_block b
  handed_by (borrow_in at access x r region b stop) = handed_by_block b
  handed_by (borrow_typed at r t mode x b stop) = handed_by_block b
  handed_by (discard at e) = handed_in e
  handed_by (return_of at e) = handed_in e
  handed_by other = []

  pub handed_by_block : NotedStatements → List Mention
  handed_by_block no_statements = []
  handed_by_block (statements s rest) = handed_by s ++ handed_by_block rest

  pub handed_by_branches : NotedBranches → List Mention
  handed_by_branches no_branches = []
  handed_by_branches (branches e b rest) = (handed_in e ++ handed_by_block b) ++ handed_by_branches rest

  pub handed_by_arms : NotedArms → List Mention
  handed_by_arms no_arms = []
  handed_by_arms (arms at name binds b rest) = handed_by_block b ++ handed_by_arms rest

-- ---- bodies

module _ (program : List ModuleParts) (b : Bodied) where
  -- what stands in the types of its parameters, declared variables and bound names
  abbrev pub held_mentions : List Mention
  held_mentions =
      field_mentions (sense_in program b) b.header.parameters ++ held_in_block (sense_in program b) b.block

  -- A variable of it can hold a capability: the type of a parameter, a declared variable or a bound name
  -- reaches it.
  abbrev pub Holds : Bytes → Type 0
  Holds = Reaches program (params_of b) held_mentions

  -- what stands in the type of its result, and in those of the arguments of its calls
  abbrev pub handed_mentions : List Mention
  handed_mentions = written_mentions (sense_in program b) b.header.result ++ handed_by_block b.block

  -- It can hand a capability on: its result reaches it, or an argument of a call in its text does.
  abbrev pub Hands : Bytes → Type 0
  Hands = Reaches program (params_of b) handed_mentions
