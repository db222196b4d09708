-- Whether a phase allows every note of a tree.
use Rattle.std.specs.Prelude.{Bool, true, ◌&&◌}
use Rattle.std.specs.List.{list_all}
use Rattle.au_syntax.specs.Expressions.{Expression, Expressions, Arguments, number, negative, text, truth}
use Rattle.au_syntax.specs.Expressions.{nil, path, arrow, call, named_call, parenthesized, dereference}
use Rattle.au_syntax.specs.Expressions.{borrow, borrow_part, binary, negation, typed, choice, no_expressions}
use Rattle.au_syntax.specs.Expressions.{expressions, no_arguments, arguments}
use Rattle.au_syntax.specs.Statements.{Statement, Statements, Branches, Arms, skip, declare, destructure}
use Rattle.au_syntax.specs.Statements.{assign, assign_through, conditional, conditional_else, case_of}
use Rattle.au_syntax.specs.Statements.{while_loop, for_loop, borrow_in, borrow_typed, discard, return_of}
use Rattle.au_syntax.specs.Statements.{no_statements, statements, no_branches, branches, no_arms, arms}
use Rattle.au_syntax.specs.Modules.{MethodBody, Declaration, constant, opaque_type, record_type, union_type}
use Rattle.au_syntax.specs.Modules.{function, class, instance, constant_body, function_body, instance_body}
use Rattle.au_syntax.specs.Modules.{ModuleTree}

-- by which notes of expressions and which notes of calls are allowed
module _ {N T C : Type 0} (of_type : T → Bool) (of_call : C → Bool) where
  abbrev mutual
    pub notes_of_expression : Expression N T C → Bool
    notes_of_expression (number n l) = of_type n.note
    notes_of_expression (negative n l) = of_type n.note
    notes_of_expression (text n t) = of_type n.note
    notes_of_expression (truth n b) = of_type n.note
    notes_of_expression (nil n) = of_type n.note
    notes_of_expression (path n x fields) = of_type n.note
    notes_of_expression (arrow n x fields) = of_type n.note
    notes_of_expression (call n f es c) = of_type n.note && of_call c && notes_of_expressions es
    notes_of_expression (named_call n f es c) = of_type n.note && of_call c && notes_of_arguments es
    notes_of_expression (parenthesized n e) = of_type n.note && notes_of_expression e
    notes_of_expression (dereference n e) = of_type n.note && notes_of_expression e
    notes_of_expression (borrow n m x) = of_type n.note
    notes_of_expression (borrow_part n x fields) = of_type n.note
    notes_of_expression (binary n op a b) = of_type n.note && notes_of_expression a && notes_of_expression b
    notes_of_expression (negation n e) = of_type n.note && notes_of_expression e
    notes_of_expression (typed n e t) = of_type n.note && notes_of_expression e
    notes_of_expression (choice n c a b) =
        of_type n.note && notes_of_expression c && notes_of_expression a && notes_of_expression b

    pub notes_of_expressions : Expressions N T C → Bool
    notes_of_expressions no_expressions = true
    notes_of_expressions (expressions e rest) = notes_of_expression e && notes_of_expressions rest

    pub notes_of_arguments : Arguments N T C → Bool
    notes_of_arguments no_arguments = true
    notes_of_arguments (arguments label e rest) = notes_of_expression e && notes_of_arguments rest

  abbrev mutual
    pub notes_of_statement : Statement N T C → Bool
    notes_of_statement (skip at) = true
    notes_of_statement (declare at b n t e) = notes_of_expression e
    notes_of_statement (destructure at binds e) = notes_of_expression e
    notes_of_statement (assign at n fields e) = notes_of_expression e
    notes_of_statement (assign_through at n fields e) = notes_of_expression e
    notes_of_statement (conditional at bs) = notes_of_branches bs
    notes_of_statement (conditional_else at bs b) = notes_of_branches bs && notes_of_statements b
    notes_of_statement (case_of at e rest) = notes_of_expression e && notes_of_arms rest
    notes_of_statement (while_loop at e b) = notes_of_expression e && notes_of_statements b
    notes_of_statement (for_loop at n a z b) =
        notes_of_expression a && notes_of_expression z && notes_of_statements b
    notes_of_statement (borrow_in at access x r region b stop) = notes_of_statements b
    notes_of_statement (borrow_typed at r t m x b stop) = notes_of_statements b
    notes_of_statement (discard at e) = notes_of_expression e
    notes_of_statement (return_of at e) = notes_of_expression e

    pub notes_of_statements : Statements N T C → Bool
    notes_of_statements no_statements = true
    notes_of_statements (statements s rest) = notes_of_statement s && notes_of_statements rest

    pub notes_of_branches : Branches N T C → Bool
    notes_of_branches no_branches = true
    notes_of_branches (branches e b rest) =
        notes_of_expression e && notes_of_statements b && notes_of_branches rest

    pub notes_of_arms : Arms N T C → Bool
    notes_of_arms no_arms = true
    notes_of_arms (arms at n binds b rest) = notes_of_statements b && notes_of_arms rest

  abbrev pub notes_of_method : MethodBody N T C → Bool
  notes_of_method m = notes_of_statements m.body

  abbrev pub notes_of_declaration : Declaration N T C → Bool
  notes_of_declaration (constant at n t) = true
  notes_of_declaration (opaque_type at n ps u) = true
  notes_of_declaration (record_type at n ps u fs) = true
  notes_of_declaration (union_type at n ps u vs) = true
  notes_of_declaration (function at gs h) = true
  notes_of_declaration (class at n p hs) = true
  notes_of_declaration (instance at gs n t) = true
  notes_of_declaration (constant_body at n t e) = notes_of_expression e
  notes_of_declaration (function_body at gs h b stop) = notes_of_statements b
  notes_of_declaration (instance_body at gs n t ms) = list_all notes_of_method ms

  abbrev pub notes_of_module : ModuleTree N T C → Bool
  notes_of_module m = list_all notes_of_declaration m.declarations
