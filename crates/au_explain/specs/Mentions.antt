-- Where a variable is mentioned whose type isn't Free, and how, in the order of the text.
use Rattle.std.specs.Prelude.{Bool, true, false, ◌||◌, List, [], ◌∷◌, ◌++◌, Option, None, Some, if◌then◌else◌}
use Rattle.std.specs.List.{list_any}
use Rattle.std.specs.Str.{bytes_eq}
use Rattle.au_base.specs.declared.places.Pos.{Pos}
use Rattle.au_lives.specs.Mentions.{is_variable}
use Rattle.au_lives.specs.Paths.{bound_name}
use Rattle.au_explain.specs.declared.lists.Mention.{Mention}
use Rattle.au_explain.specs.declared.lists.MentionKind.{MentionKind}
use Rattle.au_explain.specs.declared.lists.MentionKind.TheVariants as kinds
use Rattle.au_syntax.specs.declared.expressions.BorrowMode.{BorrowMode}
use Rattle.au_syntax.specs.declared.expressions.BorrowMode.TheVariants as modes
use Rattle.au_syntax.specs.declared.types.Access.{Access}
use Rattle.au_syntax.specs.declared.types.Access.TheVariants as access
use Rattle.au_syntax.specs.Expressions.{number, negative, text, truth, nil, path, arrow, call, named_call}
use Rattle.au_syntax.specs.Expressions.{parenthesized, dereference, borrow, borrow_part, binary, negation}
use Rattle.au_syntax.specs.Expressions.{typed, choice, no_expressions, expressions, no_arguments, arguments}
use Rattle.au_syntax.specs.Names.{Placed}
use Rattle.au_syntax.specs.Plain.{Bytes, PlainExpression, PlainExpressions, PlainArguments, PlainStatement}
use Rattle.au_syntax.specs.Plain.{PlainStatements, PlainBranches, PlainArms}
use Rattle.au_syntax.specs.Statements.{skip, declare, destructure, assign, assign_through, conditional}
use Rattle.au_syntax.specs.Statements.{conditional_else, case_of, while_loop, for_loop, borrow_in}
use Rattle.au_syntax.specs.Statements.{borrow_typed, discard, return_of, no_statements, statements}
use Rattle.au_syntax.specs.Statements.{no_branches, branches, no_arms, arms}
use Rattle.au_syntax.specs.Types.{Bound}

-- ---- kinds

-- a path is a look where it has fields, or where it may only be looked at; a variable alone is consumed
abbrev pub path_kind : Bool → List (Placed Bytes) → MentionKind
path_kind true [] = kinds.Looked
path_kind false [] = kinds.Consumed
path_kind looks (field ∷ fields) = kinds.Looked

-- a borrow reads or writes
abbrev pub access_kind : Access → MentionKind
access_kind access.Read = kinds.Read
access_kind access.Write = kinds.Written

-- `&x` reads, `&!x` and `&~x` write
abbrev pub mode_kind : BorrowMode → MentionKind
mode_kind modes.Read = kinds.Read
mode_kind modes.Write = kinds.Written
mode_kind modes.Reborrow = kinds.Written

-- ---- one mention

module _ (x : Bytes) where
  -- a mention that counts only where it is one of x
  abbrev pub mention_of : Placed Bytes → MentionKind → Option Pos → List Mention
  mention_of name kind until =
      if bytes_eq name.name x then record { kind = kind; at = name.at; until = until } ∷ [] else []

  -- a mention that opens no borrow statement
  abbrev pub met : Placed Bytes → MentionKind → List Mention
  met name kind = mention_of name kind None

  -- ---- expressions

  abbrev mutual
    -- The mentions of x in an expression, by whether variables alone are only looked at: so they are where
    -- `!` stands before them.
    pub mentions_in : Bool → PlainExpression → List Mention
    mentions_in looks (number node literal) = []
    mentions_in looks (negative node literal) = []
    mentions_in looks (text node bytes) = []
    mentions_in looks (truth node value) = []
    mentions_in looks (nil node) = []
    mentions_in looks (path node name fields) = met name (path_kind looks fields)
    mentions_in looks (arrow node name fields) = met name kinds.Looked
    mentions_in looks (call node name args note) = mentions_in_all looks args
    mentions_in looks (named_call node name args note) = mentions_in_arguments looks args
    mentions_in looks (parenthesized node e) = mentions_in looks e
    mentions_in looks (dereference node e) = mentions_in (looks || is_variable e) e
    mentions_in looks (borrow node mode name) = met name (mode_kind mode)
    mentions_in looks (borrow_part node name fields) = met name kinds.Looked
    mentions_in looks (binary node operator a b) = mentions_in looks a ++ mentions_in looks b
    mentions_in looks (negation node e) = mentions_in looks e
    mentions_in looks (typed node e t) = mentions_in looks e
    mentions_in looks (choice node c a b) =
        mentions_in looks c ++ (mentions_in looks a ++ mentions_in looks b)

    pub mentions_in_all : Bool → PlainExpressions → List Mention
    mentions_in_all looks no_expressions = []
    mentions_in_all looks (expressions e rest) = mentions_in looks e ++ mentions_in_all looks rest

    pub mentions_in_arguments : Bool → PlainArguments → List Mention
    mentions_in_arguments looks no_arguments = []
    mentions_in_arguments looks (arguments label e rest) =
        mentions_in looks e ++ mentions_in_arguments looks rest

  -- those in a whole expression
  abbrev pub mentioned : PlainExpression → List Mention
  mentioned e = mentions_in false e

  -- ---- names that hide x

  -- x is among names that are bound
  abbrev pub is_bound_by : List (Bound Bytes) → Bool
  is_bound_by binds = list_any (λ (bind : Bound Bytes). bytes_eq (bound_name bind).name x) binds

  -- a statement declares the name x for the rest of its block
  abbrev pub is_declared_by : PlainStatement → Bool
  is_declared_by (declare at binding name t e) = bytes_eq name.name x
  is_declared_by (destructure at binds e) = is_bound_by binds
  is_declared_by other = false

  -- where another variable has the name x, x isn't mentioned
  abbrev pub unless : Bool → List Mention → List Mention
  unless true mentions = []
  unless false mentions = mentions

  -- ---- statements

  abbrev mutual
    -- The mentions of x in a statement: what is assigned to is written, and so is what a borrow statement
    -- borrows for writing; what lies behind a reference is assigned to by a look.
    pub mentions_of : PlainStatement → List Mention
    mentions_of (skip at) = []
    mentions_of (declare at binding name t e) = mentioned e
    mentions_of (destructure at binds e) = mentioned e
    mentions_of (assign at name fields e) = met name kinds.Written ++ mentioned e
    mentions_of (assign_through at name fields e) = met name kinds.Looked ++ mentioned e
    mentions_of (conditional at bs) = mentions_of_branches bs
    mentions_of (conditional_else at bs b) = mentions_of_branches bs ++ mentions_of_block b
    mentions_of (case_of at e all) = mentioned e ++ mentions_of_arms all
    mentions_of (while_loop at e b) = mentioned e ++ mentions_of_block b
    mentions_of (for_loop at name a z b) =
        mentioned a ++ (mentioned z ++ unless (bytes_eq name.name x) (mentions_of_block b))
    mentions_of (borrow_in at kind y r region b stop) =
        mention_of y (access_kind kind) (Some stop) ++ unless (bytes_eq r.name x) (mentions_of_block b)
    mentions_of (borrow_typed at r t mode y b stop) =
        mention_of y (mode_kind mode) (Some stop) ++ unless (bytes_eq r.name x) (mentions_of_block b)
    mentions_of (discard at e) = mentioned e
    mentions_of (return_of at e) = mentioned e

    pub mentions_of_block : PlainStatements → List Mention
    mentions_of_block no_statements = []
    mentions_of_block (statements s more) =
        mentions_of s ++ unless (is_declared_by s) (mentions_of_block more)

    pub mentions_of_branches : PlainBranches → List Mention
    mentions_of_branches no_branches = []
    mentions_of_branches (branches e b more) =
        (mentioned e ++ mentions_of_block b) ++ mentions_of_branches more

    pub mentions_of_arms : PlainArms → List Mention
    mentions_of_arms no_arms = []
    mentions_of_arms (arms when' name binds b more) =
        unless (is_bound_by binds) (mentions_of_block b) ++ mentions_of_arms more
