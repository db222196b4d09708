-- Plain trees: what is written and where, with names as their bytes and without notes. The words of a
-- tree, its depth and its form are said of plain trees, so that no phase changes them.
use Rattle.std.specs.Prelude.{ℕ, List, map}
use Rattle.std.specs.Option.{option_map}
use Rattle.au_syntax.specs.Names.{Placed, Renaming}
use Rattle.au_syntax.specs.Types.{Labelled, Bound}
use Rattle.au_syntax.specs.Expressions.{Node, Expression, Expressions, Arguments, number, negative, text}
use Rattle.au_syntax.specs.Expressions.{truth, nil, path, arrow, call, named_call, parenthesized, dereference}
use Rattle.au_syntax.specs.Expressions.{borrow, borrow_part, binary, negation, typed, choice, no_expressions}
use Rattle.au_syntax.specs.Expressions.{expressions, no_arguments, arguments}
use Rattle.au_syntax.specs.Statements.{Statement, Statements, Branches, Arms, skip, declare, destructure}
use Rattle.au_syntax.specs.Statements.{assign, assign_through, conditional, conditional_else, case_of}
use Rattle.au_syntax.specs.Statements.{while_loop, for_loop, borrow_in, borrow_typed, discard, return_of}
use Rattle.au_syntax.specs.Statements.{no_statements, statements, no_branches, branches, no_arms, arms}
use Rattle.au_syntax.specs.Modules.{InUniverse, Constrained, Header, Variant, MethodBody, Declaration}
use Rattle.au_syntax.specs.Modules.{constant, opaque_type, record_type, union_type, function, class, instance}
use Rattle.au_syntax.specs.Modules.{constant_body, function_body, instance_body, Importing, ModuleTree}

-- the bytes of a name
abbrev pub Bytes : Type 0
Bytes = List ℕ

abbrev pub PlainExpression : Type 0
PlainExpression = Expression Bytes (Unit {0}) (Unit {0})

abbrev pub PlainExpressions : Type 0
PlainExpressions = Expressions Bytes (Unit {0}) (Unit {0})

abbrev pub PlainArguments : Type 0
PlainArguments = Arguments Bytes (Unit {0}) (Unit {0})

abbrev pub PlainStatement : Type 0
PlainStatement = Statement Bytes (Unit {0}) (Unit {0})

abbrev pub PlainStatements : Type 0
PlainStatements = Statements Bytes (Unit {0}) (Unit {0})

abbrev pub PlainBranches : Type 0
PlainBranches = Branches Bytes (Unit {0}) (Unit {0})

abbrev pub PlainArms : Type 0
PlainArms = Arms Bytes (Unit {0}) (Unit {0})

abbrev pub PlainDeclaration : Type 0
PlainDeclaration = Declaration Bytes (Unit {0}) (Unit {0})

abbrev pub PlainMethod : Type 0
PlainMethod = MethodBody Bytes (Unit {0}) (Unit {0})

abbrev pub PlainModule : Type 0
PlainModule = ModuleTree Bytes (Unit {0}) (Unit {0})

module _ {N : Type 0} (bytes : N → Bytes) where
  abbrev pub plain_name : Placed N → Placed Bytes
  plain_name name = record { name = bytes name.name; at = name.at }

  abbrev pub plain_renaming : Renaming N → Renaming Bytes
  plain_renaming name = record { name = plain_name name.name; alias = option_map plain_name name.alias }

  abbrev pub plain_labelled : Labelled N → Labelled Bytes
  plain_labelled field = record { name = plain_name field.name; of = field.of }

  abbrev pub plain_bound : Bound N → Bound Bytes
  plain_bound bind = record { name = plain_renaming bind.name; of = bind.of }

  abbrev pub plain_in_universe : InUniverse N → InUniverse Bytes
  plain_in_universe p = record { name = plain_name p.name; universe = p.universe }

  abbrev pub plain_constrained : Constrained N → Constrained Bytes
  plain_constrained p =
      record { parameter = plain_in_universe p.parameter; classes = map plain_name p.classes }

  abbrev pub plain_header : Header N → Header Bytes
  plain_header h =
      record { name = plain_name h.name; parameters = map plain_labelled h.parameters; result = h.result }

  abbrev pub plain_variant : Variant N → Variant Bytes
  plain_variant v = record { name = plain_name v.name; fields = map plain_labelled v.fields }

  abbrev pub plain_importing : Importing N → Importing Bytes
  plain_importing i = record { at = i.at; from = map plain_name i.from; items = map plain_renaming i.items }

-- the place of an expression, without its note
abbrev pub plain_node : {T : Type 0} → Node T → Node (Unit {0})
plain_node n = record { at = n.at; note = tt }

module _ {N T C : Type 0} (bytes : N → Bytes) where
  abbrev mutual
    pub plain_expression : Expression N T C → PlainExpression
    plain_expression (number n l) = number (plain_node n) l
    plain_expression (negative n l) = negative (plain_node n) l
    plain_expression (text n t) = text (plain_node n) t
    plain_expression (truth n b) = truth (plain_node n) b
    plain_expression (nil n) = nil (plain_node n)
    plain_expression (path n x fields) =
        path (plain_node n) (plain_name bytes x) (map (plain_name bytes) fields)
    plain_expression (arrow n x fields) =
        arrow (plain_node n) (plain_name bytes x) (map (plain_name bytes) fields)
    plain_expression (call n f es c) = call (plain_node n) (plain_name bytes f) (plain_expressions es) tt
    plain_expression (named_call n f es c) =
        named_call (plain_node n) (plain_name bytes f) (plain_arguments es) tt
    plain_expression (parenthesized n e) = parenthesized (plain_node n) (plain_expression e)
    plain_expression (dereference n e) = dereference (plain_node n) (plain_expression e)
    plain_expression (borrow n m x) = borrow (plain_node n) m (plain_name bytes x)
    plain_expression (borrow_part n x fields) =
        borrow_part (plain_node n) (plain_name bytes x) (map (plain_name bytes) fields)
    plain_expression (binary n op a b) = binary (plain_node n) op (plain_expression a) (plain_expression b)
    plain_expression (negation n e) = negation (plain_node n) (plain_expression e)
    plain_expression (typed n e t) = typed (plain_node n) (plain_expression e) t
    plain_expression (choice n c a b) =
        choice (plain_node n) (plain_expression c) (plain_expression a) (plain_expression b)

    pub plain_expressions : Expressions N T C → PlainExpressions
    plain_expressions no_expressions = no_expressions
    plain_expressions (expressions e rest) = expressions (plain_expression e) (plain_expressions rest)

    pub plain_arguments : Arguments N T C → PlainArguments
    plain_arguments no_arguments = no_arguments
    plain_arguments (arguments label e rest) =
        arguments (plain_name bytes label) (plain_expression e) (plain_arguments rest)

  abbrev mutual
    pub plain_statement : Statement N T C → PlainStatement
    plain_statement (skip at) = skip at
    plain_statement (declare at b n t e) = declare at b (plain_name bytes n) t (plain_expression e)
    plain_statement (destructure at binds e) =
        destructure at (map (plain_bound bytes) binds) (plain_expression e)
    plain_statement (assign at n fields e) =
        assign at (plain_name bytes n) (map (plain_name bytes) fields) (plain_expression e)
    plain_statement (assign_through at n fields e) =
        assign_through at (plain_name bytes n) (map (plain_name bytes) fields) (plain_expression e)
    plain_statement (conditional at bs) = conditional at (plain_branches bs)
    plain_statement (conditional_else at bs b) = conditional_else at (plain_branches bs) (plain_statements b)
    plain_statement (case_of at e rest) = case_of at (plain_expression e) (plain_arms rest)
    plain_statement (while_loop at e b) = while_loop at (plain_expression e) (plain_statements b)
    plain_statement (for_loop at n a z b) =
        for_loop at (plain_name bytes n) (plain_expression a) (plain_expression z) (plain_statements b)
    plain_statement (borrow_in at access x r region b stop) =
        borrow_in at access (plain_name bytes x) (plain_name bytes r) (plain_name bytes region)
        (plain_statements b) stop
    plain_statement (borrow_typed at r t m x b stop) =
        borrow_typed at (plain_name bytes r) t m (plain_name bytes x) (plain_statements b) stop
    plain_statement (discard at e) = discard at (plain_expression e)
    plain_statement (return_of at e) = return_of at (plain_expression e)

    pub plain_statements : Statements N T C → PlainStatements
    plain_statements no_statements = no_statements
    plain_statements (statements s rest) = statements (plain_statement s) (plain_statements rest)

    pub plain_branches : Branches N T C → PlainBranches
    plain_branches no_branches = no_branches
    plain_branches (branches e b rest) =
        branches (plain_expression e) (plain_statements b) (plain_branches rest)

    pub plain_arms : Arms N T C → PlainArms
    plain_arms no_arms = no_arms
    plain_arms (arms at n binds b rest) =
        arms at (plain_name bytes n) (map (plain_bound bytes) binds) (plain_statements b) (plain_arms rest)

  abbrev pub plain_method : MethodBody N T C → PlainMethod
  plain_method m =
      record { header = plain_header bytes m.header; body = plain_statements m.body; stop = m.stop }

  abbrev pub plain_declaration : Declaration N T C → PlainDeclaration
  plain_declaration (constant at n t) = constant at (plain_name bytes n) t
  plain_declaration (opaque_type at n ps u) =
      opaque_type at (plain_name bytes n) (map (plain_in_universe bytes) ps) u
  plain_declaration (record_type at n ps u fs) =
      record_type at (plain_name bytes n) (map (plain_in_universe bytes) ps) u (map (plain_labelled bytes) fs)
  plain_declaration (union_type at n ps u vs) =
      union_type at (plain_name bytes n) (map (plain_in_universe bytes) ps) u (map (plain_variant bytes) vs)
  plain_declaration (function at gs h) = function at (map (plain_constrained bytes) gs) (plain_header bytes h)
  plain_declaration (class at n p hs) =
      class at (plain_name bytes n) (plain_in_universe bytes p) (map (plain_header bytes) hs)
  plain_declaration (instance at gs n t) =
      instance at (map (plain_constrained bytes) gs) (plain_name bytes n) t
  plain_declaration (constant_body at n t e) = constant_body at (plain_name bytes n) t (plain_expression e)
  plain_declaration (function_body at gs h b stop) =
      function_body at (map (plain_constrained bytes) gs) (plain_header bytes h) (plain_statements b) stop
  plain_declaration (instance_body at gs n t ms) =
      instance_body at (map (plain_constrained bytes) gs) (plain_name bytes n) t (map plain_method ms)

  abbrev pub plain_module : ModuleTree N T C → PlainModule
  plain_module m = record {
    imports = map (plain_importing bytes) m.imports;
    at = m.at;
    part = m.part;
    name = map (plain_name bytes) m.name;
    pragma = m.pragma;
    declarations = map plain_declaration m.declarations;
  }
