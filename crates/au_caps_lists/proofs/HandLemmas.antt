-- What the calls in the lists and in each variant of a tree hand on.
use Rattle.std.proofs.Common.{◌≡◌, ℕ, Bool, List, [], ◌++◌, Vec, ap, refl}
use Rattle.std.specs.Global.{Global}
use Rattle.std.proofs.lemmas.List.{append-nil}
use Rattle.au_base.specs.declared.places.Pos.{Pos}
use Rattle.au_base.proofs.ListLemmas.{added_behind}
use Rattle.au_sights.specs.contracts.noted.NotedPhase.TheImpl.{ghosts as noted}
use Rattle.au_syntax.specs.declared.expressions.BinaryOperator.{BinaryOperator}
use Rattle.au_syntax.specs.declared.expressions.BorrowMode.{BorrowMode}
use Rattle.au_syntax.specs.declared.expressions.Expr as expr
use Rattle.au_syntax.specs.declared.expressions.Literal.{Literal}
use Rattle.au_syntax.specs.declared.statements.Binding.{Binding}
use Rattle.au_syntax.specs.declared.statements.Stmt as stmt
use Rattle.au_syntax.specs.declared.types.Access.{Access}
use Rattle.au_syntax.specs.declared.types.TypeText.{TypeText}
use Rattle.au_syntax.specs.Expressions.{no_expressions, expressions, no_arguments, arguments}
use Rattle.au_syntax.specs.Statements.{no_statements, statements, no_branches, branches, no_arms, arms}
use Rattle.au_syntax.specs.Views.{argument_all, arm_all, block, branch_all, expression, expression_all}
use Rattle.au_syntax.specs.Views.{statement}
use Rattle.au_syntax.proofs.ExpressionLemmas as exprs
use Rattle.au_syntax.proofs.StatementLemmas as stmts
use Rattle.au_typing.specs.Notes.{NotedArguments, NotedExpression, NotedExpressions, type_of}
use Rattle.au_typing.specs.Trees.{NotedArms, NotedBranches, NotedStatement, NotedStatements}
use Rattle.au_closed_trees.proofs.SnocLemmas.{snoc_arguments, snoc_arms, snoc_branches, snoc_expressions}
use Rattle.au_closed_trees.proofs.SnocLemmas.{snoc_statements}
use Rattle.au_caps_lists.specs.Holding.{handed_by, handed_by_arms, handed_by_block, handed_by_branches}
use Rattle.au_caps_lists.specs.Holding.{handed_in}
use Rattle.au_caps_lists.specs.Holding.{handed_in_all, handed_in_arguments, named_mention, types_mention}
use Rattle.au_caps_lists.specs.Mentions.{mentions}
use Rattle.au_caps_lists.proofs.TreeLemmas.{CodeArgument, CodeArm, CodeBind, CodeBlock, CodeBox, CodeBranch}
use Rattle.au_caps_lists.proofs.TreeLemmas.{CodeExpr}
use Rattle.au_caps_lists.proofs.TreeLemmas.{CodeIdent, CodeNames, CodeSite}

-- ---- one more behind the others

pub types_push : (es : NotedExpressions) (e : NotedExpression)
    → types_mention (snoc_expressions es e) ≡ types_mention es ++ mentions (type_of e)
types_push no_expressions e = append-nil (mentions (type_of e))
types_push (expressions one rest) e =
    added_behind (mentions (type_of one)) (types_mention rest) (mentions (type_of e)) _ (types_push rest e)

pub named_push : (es last : NotedArguments)
    → named_mention (snoc_arguments es last) ≡ named_mention es ++ named_mention last
named_push no_arguments last = refl
named_push (arguments label one rest) last =
    added_behind (mentions (type_of one)) (named_mention rest) (named_mention last) _ (named_push rest last)

pub expressions_hand : (es : NotedExpressions) (e : NotedExpression)
    → handed_in_all (snoc_expressions es e) ≡ handed_in_all es ++ handed_in e
expressions_hand no_expressions e = append-nil (handed_in e)
expressions_hand (expressions one rest) e =
    added_behind (handed_in one) (handed_in_all rest) (handed_in e) _ (expressions_hand rest e)

pub arguments_hand : (es last : NotedArguments)
    → handed_in_arguments (snoc_arguments es last) ≡ handed_in_arguments es ++ handed_in_arguments last
arguments_hand no_arguments last = refl
arguments_hand (arguments label one rest) last =
    added_behind (handed_in one) (handed_in_arguments rest) (handed_in_arguments last) _
    (arguments_hand rest last)

pub statements_hand : (b : NotedStatements) (s : NotedStatement)
    → handed_by_block (snoc_statements b s) ≡ handed_by_block b ++ handed_by s
statements_hand no_statements s = append-nil (handed_by s)
statements_hand (statements one rest) s =
    added_behind (handed_by one) (handed_by_block rest) (handed_by s) _ (statements_hand rest s)

pub branches_hand : (all last : NotedBranches)
    → handed_by_branches (snoc_branches all last) ≡ handed_by_branches all ++ handed_by_branches last
branches_hand no_branches last = refl
branches_hand (branches e b rest) last =
    added_behind (handed_in e ++ handed_by_block b) (handed_by_branches rest) (handed_by_branches last) _
    (branches_hand rest last)

pub arms_hand : (all last : NotedArms)
    → handed_by_arms (snoc_arms all last) ≡ handed_by_arms all ++ handed_by_arms last
arms_hand no_arms last = refl
arms_hand (arms at name binds b rest) last =
    added_behind (handed_by_block b) (handed_by_arms rest) (handed_by_arms last) _ (arms_hand rest last)

-- ---- each variant

pub number_hands : (s : CodeSite) (l : Literal)
    → handed_in (expression noted (expr.Number s l))
    ≡ []
number_hands s l = ap handed_in (exprs.number_says noted s l)

pub negative_hands : (s : CodeSite) (l : Literal)
    → handed_in (expression noted (expr.Negative s l))
    ≡ []
negative_hands s l = ap handed_in (exprs.negative_says noted s l)

pub text_hands : (s : CodeSite) (t : List ℕ)
    → handed_in (expression noted (expr.Text s t))
    ≡ []
text_hands s t = ap handed_in (exprs.text_says noted s t)

pub bool_hands : (s : CodeSite) (b : Bool)
    → handed_in (expression noted (expr.Bool s b))
    ≡ []
bool_hands s b = ap handed_in (exprs.bool_says noted s b)

pub nil_hands : (s : CodeSite)
    → handed_in (expression noted (expr.Nil s))
    ≡ []
nil_hands s = ap handed_in (exprs.nil_says noted s)

pub path_hands : (s : CodeSite) (n : CodeIdent) (fields : Vec CodeIdent Global)
    → handed_in (expression noted (expr.Path s n fields))
    ≡ []
path_hands s n fields = ap handed_in (exprs.path_says noted s n fields)

pub arrow_hands : (s : CodeSite) (n : CodeIdent) (fields : Vec CodeIdent Global)
    → handed_in (expression noted (expr.Arrow s n fields))
    ≡ []
arrow_hands s n fields = ap handed_in (exprs.arrow_says noted s n fields)

pub call_hands : (s : CodeSite) (n : CodeIdent) (args : Vec CodeExpr Global) (note : Unit {0})
    → handed_in (expression noted (expr.Call s n args note))
    ≡ types_mention (expression_all noted args.items)
    ++ handed_in_all (expression_all noted args.items)
call_hands s n args note = ap handed_in (exprs.call_says noted s n args note)

pub named_call_hands : (s : CodeSite) (n : CodeIdent) (args : Vec CodeArgument Global) (note : Unit {0})
    → handed_in (expression noted (expr.NamedCall s n args note))
    ≡ named_mention (argument_all noted args.items)
    ++ handed_in_arguments (argument_all noted args.items)
named_call_hands s n args note = ap handed_in (exprs.named_call_says noted s n args note)

pub parenthesized_hands : (s : CodeSite) (e : CodeBox)
    → handed_in (expression noted (expr.Parenthesized s e))
    ≡ handed_in (expression noted e.value)
parenthesized_hands s e = ap handed_in (exprs.parenthesized_says noted s e)

pub dereference_hands : (s : CodeSite) (e : CodeBox)
    → handed_in (expression noted (expr.Dereference s e))
    ≡ handed_in (expression noted e.value)
dereference_hands s e = ap handed_in (exprs.dereference_says noted s e)

pub borrow_hands : (s : CodeSite) (m : BorrowMode) (n : CodeIdent)
    → handed_in (expression noted (expr.Borrow s m n))
    ≡ []
borrow_hands s m n = ap handed_in (exprs.borrow_says noted s m n)

pub borrow_part_hands : (s : CodeSite) (n : CodeIdent) (fields : Vec CodeIdent Global)
    → handed_in (expression noted (expr.BorrowPart s n fields))
    ≡ []
borrow_part_hands s n fields = ap handed_in (exprs.borrow_part_says noted s n fields)

pub binary_hands : (s : CodeSite) (op : BinaryOperator) (a b : CodeBox)
    → handed_in (expression noted (expr.Binary s op a b))
    ≡ handed_in (expression noted a.value) ++ handed_in (expression noted b.value)
binary_hands s op a b = ap handed_in (exprs.binary_says noted s op a b)

pub not_hands : (s : CodeSite) (e : CodeBox)
    → handed_in (expression noted (expr.Not s e))
    ≡ handed_in (expression noted e.value)
not_hands s e = ap handed_in (exprs.not_says noted s e)

pub typed_hands : (s : CodeSite) (e : CodeBox) (t : TypeText)
    → handed_in (expression noted (expr.Typed s e t))
    ≡ handed_in (expression noted e.value)
typed_hands s e t = ap handed_in (exprs.typed_says noted s e t)

pub if_hands : (s : CodeSite) (c a b : CodeBox)
    → handed_in (expression noted (expr.If s c a b))
    ≡ handed_in (expression noted c.value) ++ handed_in (expression noted a.value)
    ++ handed_in (expression noted b.value)
if_hands s c a b = ap handed_in (exprs.if_says noted s c a b)

pub skip_hands_on : (at : Pos)
    → handed_by (statement noted (stmt.Skip at))
    ≡ []
skip_hands_on at = ap handed_by (stmts.skip_says noted at)

pub let_hands_on : (at : Pos) (b : Binding) (n : CodeIdent) (t : TypeText) (e : CodeBox)
    → handed_by (statement noted (stmt.Let at b n t e))
    ≡ handed_in (expression noted e.value)
let_hands_on at b n t e = ap handed_by (stmts.let_says noted at b n t e)

pub destructure_hands_on : (at : Pos) (binds : Vec CodeBind Global) (e : CodeBox)
    → handed_by (statement noted (stmt.Destructure at binds e))
    ≡ handed_in (expression noted e.value)
destructure_hands_on at binds e =
    ap handed_by (stmts.destructure_says noted at binds e)

pub assign_hands_on : (at : Pos) (n : CodeIdent) (fields : Vec CodeIdent Global) (e : CodeBox)
    → handed_by (statement noted (stmt.Assign at n fields e))
    ≡ handed_in (expression noted e.value)
assign_hands_on at n fields e = ap handed_by (stmts.assign_says noted at n fields e)

pub assign_through_hands_on : (at : Pos) (n : CodeIdent) (fields : Vec CodeIdent Global) (e : CodeBox)
    → handed_by (statement noted (stmt.AssignThrough at n fields e))
    ≡ handed_in (expression noted e.value)
assign_through_hands_on at n fields e =
    ap handed_by (stmts.assign_through_says noted at n fields e)

pub if_hands_on : (at : Pos) (bs : Vec CodeBranch Global)
    → handed_by (statement noted (stmt.If at bs))
    ≡ handed_by_branches (branch_all noted bs.items)
if_hands_on at bs = ap handed_by (stmts.if_says noted at bs)

pub if_else_hands_on : (at : Pos) (bs : Vec CodeBranch Global) (b : CodeBlock)
    → handed_by (statement noted (stmt.IfElse at bs b))
    ≡ handed_by_branches (branch_all noted bs.items) ++ handed_by_block (block noted b)
if_else_hands_on at bs b = ap handed_by (stmts.if_else_says noted at bs b)

pub case_hands_on : (at : Pos) (e : CodeBox) (all : Vec CodeArm Global)
    → handed_by (statement noted (stmt.Case at e all))
    ≡ handed_in (expression noted e.value) ++ handed_by_arms (arm_all noted all.items)
case_hands_on at e all = ap handed_by (stmts.case_says noted at e all)

pub while_hands_on : (at : Pos) (e : CodeBox) (b : CodeBlock)
    → handed_by (statement noted (stmt.While at e b))
    ≡ handed_in (expression noted e.value) ++ handed_by_block (block noted b)
while_hands_on at e b = ap handed_by (stmts.while_says noted at e b)

pub for_hands_on : (at : Pos) (n : CodeIdent) (a z : CodeBox) (b : CodeBlock)
    → handed_by (statement noted (stmt.For at n a z b))
    ≡ handed_in (expression noted a.value) ++ handed_in (expression noted z.value)
    ++ handed_by_block (block noted b)
for_hands_on at n a z b = ap handed_by (stmts.for_says noted at n a z b)

pub borrow_hands_on : (at : Pos) (access : Access) (ns : CodeNames) (b : CodeBlock) (stop : Pos)
    → handed_by (statement noted (stmt.Borrow at access ns b stop))
    ≡ handed_by_block (block noted b)
borrow_hands_on at access ns b stop =
    ap handed_by (stmts.borrow_says noted at access ns b stop)

pub borrow_typed_hands_on : (at : Pos) (r : CodeIdent) (t : TypeText) (mode : BorrowMode)
    (x : CodeIdent) (b : CodeBlock) (stop : Pos)
    → handed_by (statement noted (stmt.BorrowTyped at r t mode x b stop))
    ≡ handed_by_block (block noted b)
borrow_typed_hands_on at r t mode x b stop =
    ap handed_by (stmts.borrow_typed_says noted at r t mode x b stop)

pub call_hands_on : (at : Pos) (e : CodeBox)
    → handed_by (statement noted (stmt.Call at e))
    ≡ handed_in (expression noted e.value)
call_hands_on at e = ap handed_by (stmts.call_says noted at e)

pub return_hands_on : (at : Pos) (e : CodeBox)
    → handed_by (statement noted (stmt.Return at e))
    ≡ handed_in (expression noted e.value)
return_hands_on at e = ap handed_by (stmts.return_says noted at e)
