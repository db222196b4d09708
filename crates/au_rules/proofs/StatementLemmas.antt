-- The marks of a statement of the code, variant by variant, and of lists of them. The definitions are opaque;
-- these equations stand for them.
use Rattle.std.proofs.Common.{◌≡◌, ℕ, ◌+◌, ◌<◌, List, [], ◌∷◌, ◌++◌, length, take, get_or, map, Vec, refl}
use Rattle.std.proofs.Common.{sym, ap, ◌∙◌, append_assoc}
use Rattle.std.specs.Global.{Global}
use Rattle.std.specs.declared.boxed.Box.{Box}
use Rattle.std.proofs.lemmas.List.{append-nil, take_more}
use Rattle.au_base.specs.declared.places.Pos.{Pos}
use Rattle.au_syntax.specs.contracts.parsed.ParsedPhase.TheImpl.{ghosts as parsed}
use Rattle.au_syntax.specs.declared.parsed.Parsed.{Parsed}
use Rattle.au_syntax.specs.declared.expressions.BorrowMode.{BorrowMode}
use Rattle.au_syntax.specs.declared.expressions.Expr.{Expr}
use Rattle.au_syntax.specs.declared.names.Bind.{Bind}
use Rattle.au_syntax.specs.declared.names.BorrowNames.{BorrowNames}
use Rattle.au_syntax.specs.declared.names.Ident.{Ident}
use Rattle.au_syntax.specs.declared.statements.Arm.{Arm}
use Rattle.au_syntax.specs.declared.statements.Binding.{Binding}
use Rattle.au_syntax.specs.declared.statements.Block.{Block}
use Rattle.au_syntax.specs.declared.statements.Branch.{Branch}
use Rattle.au_syntax.specs.declared.statements.Stmt.{Stmt}
use Rattle.au_syntax.specs.declared.statements.Stmt as code
use Rattle.au_syntax.specs.declared.types.Access.{Access}
use Rattle.au_syntax.specs.declared.types.TypeText.{TypeText}
use Rattle.au_syntax.specs.Plain.{Bytes, plain_statement}
use Rattle.au_syntax.specs.Statements.{Statement}
use Rattle.au_syntax.specs.Views.{statement, written}
use Rattle.au_syntax.proofs.StatementLemmas.{let_says, destructure_says, assign_says, assign_through_says}
use Rattle.au_syntax.proofs.StatementLemmas.{if_says, if_else_says, case_says, while_says, for_says}
use Rattle.au_syntax.proofs.StatementLemmas.{borrow_says, borrow_typed_says, call_says, return_says}
use Rattle.au_syntax.proofs.StatementLemmas.{skip_says}
use Rattle.au_rules.specs.declared.marks.Kind.TheVariants.{Values, Types}
use Rattle.au_rules.specs.declared.marks.Mark.{Mark}
use Rattle.au_rules.specs.declared.marks.Mark.TheVariants.{Declares}
use Rattle.au_rules.specs.declared.marks.Role.TheVariants.{Local}
use Rattle.au_rules.specs.Marks.{arm_marks, block_marks, bound_mark, branch_marks, enclosed, region_marks}
use Rattle.au_rules.specs.Marks.{statement_marks}
use Rattle.au_rules.specs.Said.{arms_said, binds_said, block_said, branches_said, statement_said, statements_said}

abbrev TheIdent : Type 0
TheIdent = Ident Parsed (List ℕ) (Unit {0}) (Unit {0})

abbrev TheBorrowNames : Type 0
TheBorrowNames = BorrowNames Parsed (List ℕ) (Unit {0}) (Unit {0})

abbrev TheExpr : Type 0
TheExpr = Box (Expr Parsed (List ℕ) (Unit {0}) (Unit {0})) Global

abbrev TheStmt : Type 0
TheStmt = Stmt Parsed (List ℕ) (Unit {0}) (Unit {0})

abbrev TheBlock : Type 0
TheBlock = Block Parsed (List ℕ) (Unit {0}) (Unit {0})

abbrev TheBranch : Type 0
TheBranch = Branch Parsed (List ℕ) (Unit {0}) (Unit {0})

abbrev TheArm : Type 0
TheArm = Arm Parsed (List ℕ) (Unit {0}) (Unit {0})

abbrev TheBind : Type 0
TheBind = Bind Parsed (List ℕ) (Unit {0}) (Unit {0})

-- what a statement says decides
said : (s : TheStmt) (says : Statement Bytes (Unit {0}) (Unit {0})) → statement parsed s ≡ says
    → statement_marks (statement_said s) ≡ statement_marks (plain_statement parsed.name_bytes says)
said s says is = ap (λ x. statement_marks (plain_statement parsed.name_bytes x)) is

-- a variable that is declared
abbrev pub variable : TheIdent → Mark
variable n = Declares Local Values n.name n.at

pub skip_marks : (at : Pos) → statement_marks (statement_said (code.Skip at)) ≡ []
unfolding statement_marks
skip_marks at = said _ _ (skip_says parsed at)

pub let_marks : (at : Pos) (b : Binding) (n : TheIdent) (t : TypeText) (e : TheExpr)
    → statement_marks (statement_said (code.Let at b n t e)) ≡ variable n ∷ []
unfolding statement_marks
let_marks at b n t e = said _ _ (let_says parsed at b n t e)

pub destructure_marks : (at : Pos) (binds : Vec TheBind Global) (e : TheExpr)
    → statement_marks (statement_said (code.Destructure at binds e)) ≡ map bound_mark (binds_said binds.items)
unfolding statement_marks
destructure_marks at binds e = said _ _ (destructure_says parsed at binds e)

pub assign_marks : (at : Pos) (n : TheIdent) (fields : Vec TheIdent Global) (e : TheExpr)
    → statement_marks (statement_said (code.Assign at n fields e)) ≡ []
unfolding statement_marks
assign_marks at n fields e = said _ _ (assign_says parsed at n fields e)

pub assign_through_marks : (at : Pos) (n : TheIdent) (fields : Vec TheIdent Global) (e : TheExpr)
    → statement_marks (statement_said (code.AssignThrough at n fields e)) ≡ []
unfolding statement_marks
assign_through_marks at n fields e = said _ _ (assign_through_says parsed at n fields e)

pub if_marks : (at : Pos) (bs : Vec TheBranch Global)
    → statement_marks (statement_said (code.If at bs)) ≡ branch_marks (branches_said bs.items)
unfolding statement_marks
if_marks at bs = said _ _ (if_says parsed at bs)

pub if_else_marks : (at : Pos) (bs : Vec TheBranch Global) (b : TheBlock)
    → statement_marks (statement_said (code.IfElse at bs b)) ≡ branch_marks (branches_said bs.items)
    ++ enclosed (block_marks (block_said b))
unfolding statement_marks
if_else_marks at bs b = said _ _ (if_else_says parsed at bs b)

pub case_marks : (at : Pos) (e : TheExpr) (rest : Vec TheArm Global)
    → statement_marks (statement_said (code.Case at e rest)) ≡ arm_marks (arms_said rest.items)
unfolding statement_marks
case_marks at e rest = said _ _ (case_says parsed at e rest)

pub while_marks : (at : Pos) (e : TheExpr) (b : TheBlock)
    → statement_marks (statement_said (code.While at e b)) ≡ enclosed (block_marks (block_said b))
unfolding statement_marks
while_marks at e b = said _ _ (while_says parsed at e b)

pub for_marks : (at : Pos) (n : TheIdent) (a z : TheExpr) (b : TheBlock)
    → statement_marks (statement_said (code.For at n a z b))
    ≡ enclosed (variable n ∷ block_marks (block_said b))
unfolding statement_marks
for_marks at n a z b = said _ _ (for_says parsed at n a z b)

pub borrow_marks : (at : Pos) (access : Access) (ns : TheBorrowNames) (b : TheBlock) (stop : Pos)
    → statement_marks (statement_said (code.Borrow at access ns b stop))
    ≡ enclosed (variable ns.reference ∷ Declares Local Types ns.region.name ns.region.at ∷ block_marks (block_said b))
unfolding statement_marks
borrow_marks at access ns b stop = said _ _ (borrow_says parsed at access ns b stop)

pub borrow_typed_marks : (at : Pos) (r : TheIdent) (t : TypeText) (mode : BorrowMode) (x : TheIdent)
    (b : TheBlock) (stop : Pos)
    → statement_marks (statement_said (code.BorrowTyped at r t mode x b stop))
    ≡ enclosed (variable r ∷ (region_marks (written t) ++ block_marks (block_said b)))
unfolding statement_marks
borrow_typed_marks at r t mode x b stop = said _ _ (borrow_typed_says parsed at r t mode x b stop)

pub call_marks : (at : Pos) (e : TheExpr) → statement_marks (statement_said (code.Call at e)) ≡ []
unfolding statement_marks
call_marks at e = said _ _ (call_says parsed at e)

pub return_marks : (at : Pos) (e : TheExpr) → statement_marks (statement_said (code.Return at e)) ≡ []
unfolding statement_marks
return_marks at e = said _ _ (return_says parsed at e)

-- ---- lists

pub no_block : block_marks (statements_said []) ≡ []
unfolding block_marks
no_block = refl

pub no_branch : branch_marks (branches_said []) ≡ []
unfolding branch_marks
no_branch = refl

pub no_arm : arm_marks (arms_said []) ≡ []
unfolding arm_marks
no_arm = refl

-- a branch and an arm alone
abbrev pub of_branch : TheBranch → List Mark
of_branch b = enclosed (block_marks (block_said b.block))

abbrev pub of_arm : TheArm → List Mark
of_arm a = enclosed (map bound_mark (binds_said a.binds.items) ++ block_marks (block_said a.block))

last_statement : (ss : List TheStmt) (s : TheStmt) → block_marks (statements_said (ss ++ s ∷ []))
    ≡ block_marks (statements_said ss) ++ statement_marks (statement_said s)
unfolding block_marks
last_statement [] s = append-nil (statement_marks (statement_said s))
last_statement (one ∷ rest) s =
    ap (λ r. statement_marks (statement_said one) ++ r) (last_statement rest s)
    ∙ sym (append_assoc (statement_marks (statement_said one)) (block_marks (statements_said rest))
    (statement_marks (statement_said s)))

last_branch : (bs : List TheBranch) (b : TheBranch) → branch_marks (branches_said (bs ++ b ∷ []))
    ≡ branch_marks (branches_said bs) ++ of_branch b
unfolding branch_marks
last_branch [] b = append-nil (of_branch b)
last_branch (one ∷ rest) b =
    ap (λ r. of_branch one ++ r) (last_branch rest b)
    ∙ sym (append_assoc (of_branch one) (branch_marks (branches_said rest)) (of_branch b))

last_arm : (rest : List TheArm) (a : TheArm) → arm_marks (arms_said (rest ++ a ∷ []))
    ≡ arm_marks (arms_said rest) ++ of_arm a
unfolding arm_marks
last_arm [] a = append-nil (of_arm a)
last_arm (one ∷ rest) a =
    ap (λ r. of_arm one ++ r) (last_arm rest a)
    ∙ sym (append_assoc (of_arm one) (arm_marks (arms_said rest)) (of_arm a))

-- those of one more
pub more_statements : (ss : List TheStmt) (i : ℕ) (s : TheStmt) → i < length ss → s ≡ get_or ss i s
    → block_marks (statements_said (take (i + 1) ss)) ≡ block_marks (statements_said (take i ss))
    ++ statement_marks (statement_said s)
more_statements ss i s within is =
    ap (λ r. block_marks (statements_said r)) (take_more ss i s within
    ∙ ap (λ x. take i ss ++ x ∷ []) (sym is))
    ∙ last_statement (take i ss) s

pub more_branches : (bs : List TheBranch) (i : ℕ) (b : TheBranch) → i < length bs → b ≡ get_or bs i b
    → branch_marks (branches_said (take (i + 1) bs)) ≡ branch_marks (branches_said (take i bs)) ++ of_branch b
more_branches bs i b within is =
    ap (λ r. branch_marks (branches_said r)) (take_more bs i b within
    ∙ ap (λ x. take i bs ++ x ∷ []) (sym is))
    ∙ last_branch (take i bs) b

pub more_arms : (rest : List TheArm) (i : ℕ) (a : TheArm) → i < length rest → a ≡ get_or rest i a
    → arm_marks (arms_said (take (i + 1) rest)) ≡ arm_marks (arms_said (take i rest)) ++ of_arm a
more_arms rest i a within is =
    ap (λ r. arm_marks (arms_said r)) (take_more rest i a within ∙ ap (λ x. take i rest ++ x ∷ []) (sym is))
    ∙ last_arm (take i rest) a
