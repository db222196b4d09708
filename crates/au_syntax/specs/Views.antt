-- What the trees of the code say: each as a tree of the definitions, by what its phase sees.
use Rattle.std.specs.Prelude.{ℕ, List, [], ◌∷◌, map}
use Rattle.std.specs.Option.{option_map}
use Rattle.au_syntax.specs.declared.phases.Phase.{Ghosts}
use Rattle.au_syntax.specs.declared.names.Ident.{Ident}
use Rattle.au_syntax.specs.declared.names.Renamed.{Renamed}
use Rattle.au_syntax.specs.declared.names.Field.{Field}
use Rattle.au_syntax.specs.declared.names.Bind.{Bind}
use Rattle.au_syntax.specs.declared.types.TypeName.{TypeName}
use Rattle.au_syntax.specs.declared.types.TypeText.{TypeText, Row_of-TypeText, end_of-TypeText}
use Rattle.au_syntax.specs.declared.types.TypeText.{more_of-TypeText}
use Rattle.au_syntax.specs.declared.types.TypeText.{Named', Reference'}
use Rattle.au_syntax.specs.declared.expressions.Site.{Site}
use Rattle.au_syntax.specs.declared.expressions.Argument.{Argument}
use Rattle.au_syntax.specs.declared.expressions.Expr.{Expr, Row_of-Expr, end_of-Expr, more_of-Expr}
use Rattle.au_syntax.specs.declared.expressions.Expr.{Row_of-Argument, end_of-Argument, more_of-Argument}
use Rattle.au_syntax.specs.declared.expressions.Expr as code
use Rattle.au_syntax.specs.Names.{Placed, Renaming}
use Rattle.au_syntax.specs.Types.{WrittenType, WrittenTypes, named, reference, no_types, types, Labelled}
use Rattle.au_syntax.specs.Types.{Bound}
use Rattle.au_syntax.specs.Expressions.{Node, Expression, Expressions, Arguments, number, negative, text}
use Rattle.au_syntax.specs.Expressions.{truth, nil, path, arrow, call, named_call, parenthesized, dereference}
use Rattle.au_syntax.specs.Expressions.{borrow, borrow_part, binary, negation, typed, choice, no_expressions}
use Rattle.au_syntax.specs.Expressions.{expressions, no_arguments, arguments}
use Rattle.au_syntax.specs.declared.statements.Stmt.{Stmt, Row_of-Stmt, end_of-Stmt, more_of-Stmt}
use Rattle.au_syntax.specs.declared.statements.Stmt.{Row_of-Branch, end_of-Branch, more_of-Branch, Row_of-Arm}
use Rattle.au_syntax.specs.declared.statements.Stmt.{end_of-Arm, more_of-Arm}
use Rattle.au_syntax.specs.declared.statements.Block.{Block}
use Rattle.au_syntax.specs.declared.statements.Branch.{Branch}
use Rattle.au_syntax.specs.declared.statements.Arm.{Arm}
use Rattle.au_syntax.specs.declared.statements.Stmt as stmt
use Rattle.au_syntax.specs.declared.declarations.TypeParameter.{TypeParameter}
use Rattle.au_syntax.specs.declared.declarations.Generic.{Generic}
use Rattle.au_syntax.specs.declared.declarations.Signature.{Signature}
use Rattle.au_syntax.specs.declared.declarations.UnionCase.{UnionCase}
use Rattle.au_syntax.specs.declared.declarations.Method.{Method}
use Rattle.au_syntax.specs.declared.declarations.Decl.{Decl}
use Rattle.au_syntax.specs.declared.declarations.Decl.TheVariants as decl
use Rattle.au_syntax.specs.declared.modules.Import.{Import}
use Rattle.au_syntax.specs.declared.modules.Module.{Module}
use Rattle.au_syntax.specs.Statements.{Statement, Statements, Branches, Arms, skip, declare, destructure}
use Rattle.au_syntax.specs.Statements.{assign, assign_through, conditional, conditional_else, case_of}
use Rattle.au_syntax.specs.Statements.{while_loop, for_loop, borrow_in, borrow_typed, discard, return_of}
use Rattle.au_syntax.specs.Statements.{no_statements, statements, no_branches, branches, no_arms, arms}
use Rattle.au_syntax.specs.Modules.{InUniverse, Constrained, Header, Variant, MethodBody, Declaration}
use Rattle.au_syntax.specs.Modules.{constant, opaque_type, record_type, union_type, function, class, instance}
use Rattle.au_syntax.specs.Modules.{constant_body, function_body, instance_body, Importing, ModuleTree}

-- a name in a written type
abbrev pub type_name : TypeName → Placed (List ℕ)
type_name n = record { name = n.name; at = n.at }

unfoldable mutual
  -- a written type
  pub written : TypeText → WrittenType
  written (Named' name shape args) = named (type_name name) (row_written args)
  written (Reference' at access p target region) = reference at access (written target) (type_name region)

  -- the arguments of a type
  pub row_written : {m : _} → Row_of-TypeText m → WrittenTypes
  row_written end_of-TypeText = no_types
  row_written (more_of-TypeText t rest) = types (written t) (row_written rest)

-- written types in order
abbrev pub written_all : List TypeText → WrittenTypes
written_all [] = no_types
written_all (t ∷ ts) = types (written t) (written_all ts)

module _ {X N T C : Type 0} (g : Ghosts X N T C) where
  -- a name
  abbrev pub placed : Ident X N T C → Placed g.SeenName
  placed ident = record { name = g.see_name ident.name; at = ident.at }

  -- a name and the name after its `as`
  abbrev pub renaming : Renamed X N T C → Renaming g.SeenName
  renaming name = record { name = placed name.name; alias = option_map placed name.alias }

  -- a field or a parameter
  abbrev pub labelled : Field X N T C → Labelled g.SeenName
  labelled field = record { name = placed field.name; of = written field.of }

  -- a field that is bound
  abbrev pub bound : Bind X N T C → Bound g.SeenName
  bound bind = record { name = renaming bind.name; of = written bind.of }

  -- the place and the note of an expression
  abbrev pub node : Site X N T C → Node g.SeenType
  node site = record { at = site.at; note = g.see_type site.note }

  unfoldable mutual
    -- an expression
    pub expression : Expr X N T C → Expression g.SeenName g.SeenType g.SeenCall
    expression (code.Number s l) = number (node s) l
    expression (code.Negative s l) = negative (node s) l
    expression (code.Text s t) = text (node s) t
    expression (code.Bool s b) = truth (node s) b
    expression (code.Nil s) = nil (node s)
    expression (code.Path s n fields) = path (node s) (placed n) (map placed fields.items)
    expression (code.Arrow s n fields) = arrow (node s) (placed n) (map placed fields.items)
    expression (code.Call' s n shape args note) =
        call (node s) (placed n) (row_expressions args) (g.see_call note)
    expression (code.NamedCall' s n shape args note) =
        named_call (node s) (placed n) (row_arguments args) (g.see_call note)
    expression (code.Parenthesized' s p e) = parenthesized (node s) (expression e)
    expression (code.Dereference' s p e) = dereference (node s) (expression e)
    expression (code.Borrow s m n) = borrow (node s) m (placed n)
    expression (code.BorrowPart s n fields) = borrow_part (node s) (placed n) (map placed fields.items)
    expression (code.Binary' s op p a q b) = binary (node s) op (expression a) (expression b)
    expression (code.Not' s p e) = negation (node s) (expression e)
    expression (code.Typed' s p e t) = typed (node s) (expression e) (written t)
    expression (code.If' s p c q a r b) = choice (node s) (expression c) (expression a) (expression b)

    -- the arguments of a call
    pub row_expressions : {m : _} → Row_of-Expr X N T C m → Expressions g.SeenName g.SeenType g.SeenCall
    row_expressions end_of-Expr = no_expressions
    row_expressions (more_of-Expr e rest) = expressions (expression e) (row_expressions rest)

    -- the named arguments of a call
    pub row_arguments : {m : _} → Row_of-Argument X N T C m → Arguments g.SeenName g.SeenType g.SeenCall
    row_arguments end_of-Argument = no_arguments
    row_arguments (more_of-Argument label e rest) =
        arguments (placed label) (expression e) (row_arguments rest)

  -- expressions in order
  abbrev pub expression_all : List (Expr X N T C) → Expressions g.SeenName g.SeenType g.SeenCall
  expression_all [] = no_expressions
  expression_all (e ∷ es) = expressions (expression e) (expression_all es)

  -- named arguments in order
  abbrev pub argument_all : List (Argument X N T C) → Arguments g.SeenName g.SeenType g.SeenCall
  argument_all [] = no_arguments
  argument_all (a ∷ as') = arguments (placed a.label) (expression a.value) (argument_all as')

  unfoldable mutual
    -- a statement
    pub statement : Stmt X N T C → Statement g.SeenName g.SeenType g.SeenCall
    statement (stmt.Skip at) = skip at
    statement (stmt.Let at b n t e) = declare at b (placed n) (written t) (expression e.value)
    statement (stmt.Destructure at binds e) = destructure at (map bound binds.items) (expression e.value)
    statement (stmt.Assign at n fields e) =
        assign at (placed n) (map placed fields.items) (expression e.value)
    statement (stmt.AssignThrough at n fields e) =
        assign_through at (placed n) (map placed fields.items) (expression e.value)
    statement (stmt.If' at shape bs) = conditional at (row_branches bs)
    statement (stmt.IfElse' at shape bs shape' ss) = conditional_else at (row_branches bs) (row_statements ss)
    statement (stmt.Case' at e shape as') = case_of at (expression e.value) (row_arms as')
    statement (stmt.While' at e shape ss) = while_loop at (expression e.value) (row_statements ss)
    statement (stmt.For' at n a b shape ss) =
        for_loop at (placed n) (expression a.value) (expression b.value) (row_statements ss)
    statement (stmt.Borrow' at access ns shape ss stop) =
        borrow_in at access (placed ns.variable) (placed ns.reference) (placed ns.region)
        (row_statements ss) stop
    statement (stmt.BorrowTyped' at r t mode x shape ss stop) =
        borrow_typed at (placed r) (written t) mode (placed x) (row_statements ss) stop
    statement (stmt.Call at e) = discard at (expression e.value)
    statement (stmt.Return at e) = return_of at (expression e.value)

    -- the statements of a block
    pub row_statements : {m : _} → Row_of-Stmt X N T C m → Statements g.SeenName g.SeenType g.SeenCall
    row_statements end_of-Stmt = no_statements
    row_statements (more_of-Stmt s rest) = statements (statement s) (row_statements rest)

    -- the branches of a conditional
    pub row_branches : {m : _} → Row_of-Branch X N T C m → Branches g.SeenName g.SeenType g.SeenCall
    row_branches end_of-Branch = no_branches
    row_branches (more_of-Branch e shape ss rest) =
        branches (expression e.value) (row_statements ss) (row_branches rest)

    -- the arms of a case
    pub row_arms : {m : _} → Row_of-Arm X N T C m → Arms g.SeenName g.SeenType g.SeenCall
    row_arms end_of-Arm = no_arms
    row_arms (more_of-Arm at n binds shape ss rest) =
        arms at (placed n) (map bound binds.items) (row_statements ss) (row_arms rest)

  -- statements in order
  abbrev pub statement_all : List (Stmt X N T C) → Statements g.SeenName g.SeenType g.SeenCall
  statement_all [] = no_statements
  statement_all (s ∷ ss) = statements (statement s) (statement_all ss)

  -- a block
  abbrev pub block : Block X N T C → Statements g.SeenName g.SeenType g.SeenCall
  block b = statement_all b.statements.items

  -- branches in order
  abbrev pub branch_all : List (Branch X N T C) → Branches g.SeenName g.SeenType g.SeenCall
  branch_all [] = no_branches
  branch_all (b ∷ bs) = branches (expression b.test.value) (block b.block) (branch_all bs)

  -- arms in order
  abbrev pub arm_all : List (Arm X N T C) → Arms g.SeenName g.SeenType g.SeenCall
  arm_all [] = no_arms
  arm_all (a ∷ rest) = arms a.at (placed a.case) (map bound a.binds.items) (block a.block) (arm_all rest)

  -- a type parameter and its universe
  abbrev pub in_universe : TypeParameter X N T C → InUniverse g.SeenName
  in_universe p = record { name = placed p.name; universe = p.universe }

  -- a type parameter behind `generic`
  abbrev pub constrained : Generic X N T C → Constrained g.SeenName
  constrained p = record { parameter = in_universe p.parameter; classes = map placed p.classes.items }

  -- a function's name, parameters and result
  abbrev pub header : Signature X N T C → Header g.SeenName
  header s = record {
    name = placed s.name;
    parameters = map labelled s.parameters.items;
    result =
        written s.result;
  }

  -- a case of a union
  abbrev pub variant : UnionCase X N T C → Variant g.SeenName
  variant c = record { name = placed c.name; fields = map labelled c.fields.items }

  -- a method of an instance
  abbrev pub method_body : Method X N T C → MethodBody g.SeenName g.SeenType g.SeenCall
  method_body m = record { header = header m.signature; body = block m.body; stop = m.end }

  -- a declaration
  unfoldable pub declaration : Decl X N T C → Declaration g.SeenName g.SeenType g.SeenCall
  declaration (decl.Constant at n t) = constant at (placed n) (written t)
  declaration (decl.Opaque at n ps u) = opaque_type at (placed n) (map in_universe ps.items) u
  declaration (decl.Record at n ps u fs) =
      record_type at (placed n) (map in_universe ps.items) u (map labelled fs.items)
  declaration (decl.Union at n ps u cs) =
      union_type at (placed n) (map in_universe ps.items) u (map variant cs.items)
  declaration (decl.Function at gs s) = function at (map constrained gs.items) (header s)
  declaration (decl.Class at n p ms) = class at (placed n) (in_universe p) (map header ms.items)
  declaration (decl.Instance at gs n t) = instance at (map constrained gs.items) (placed n) (written t)
  declaration (decl.ConstantBody at n t e) = constant_body at (placed n) (written t) (expression e.value)
  declaration (decl.FunctionBody at gs s b stop) =
      function_body at (map constrained gs.items) (header s) (block b) stop
  declaration (decl.InstanceBody at gs n t ms) =
      instance_body at (map constrained gs.items) (placed n) (written t) (map method_body ms.items)

  -- an import
  abbrev pub importing : Import X N T C → Importing g.SeenName
  importing i = record { at = i.at; from = map placed i.module.items; items = map renaming i.items.items }

  -- a module
  abbrev pub module_tree : Module X N T C → ModuleTree g.SeenName g.SeenType g.SeenCall
  module_tree m = record {
    imports = map importing m.imports.items;
    at = m.at;
    part = m.part;
    name = map placed m.name.items;
    pragma = m.pragma;
    declarations = map declaration m.declarations.items;
  }
