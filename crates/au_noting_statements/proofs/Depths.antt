-- How deep statements are: each is deeper than the blocks in it, and a block as deep as its deepest statement.
use Rattle.std.proofs.Common.{arith, suc, zero, ◌≡◌, ◌∷◌, ◌<◌, ◌≤◌, ◌+◌, [], ℕ, List, Vec, ap, ◌∙◌, get_or, length, max}
use Rattle.std.specs.Global.{Global}
use Rattle.std.specs.declared.boxed.Box.{Box}
use Rattle.au_base.specs.declared.places.Pos.{Pos}
use Rattle.au_syntax.specs.contracts.parsed.ParsedPhase.TheImpl.{ghosts as parsed}
use Rattle.au_syntax.specs.declared.expressions.BorrowMode.{BorrowMode}
use Rattle.au_syntax.specs.declared.expressions.Expr.{Expr}
use Rattle.au_syntax.specs.declared.names.BorrowNames.{BorrowNames}
use Rattle.au_syntax.specs.declared.names.Ident.{Ident}
use Rattle.au_syntax.specs.declared.parsed.Parsed.{Parsed}
use Rattle.au_syntax.specs.declared.statements.Block.{Block}
use Rattle.au_syntax.specs.declared.statements.Arm.{Arm}
use Rattle.au_syntax.specs.declared.statements.Branch.{Branch}
use Rattle.au_syntax.specs.declared.statements.Stmt.{Stmt}
use Rattle.au_syntax.specs.declared.statements.Stmt as code
use Rattle.au_syntax.specs.declared.types.Access.{Access}
use Rattle.au_syntax.specs.declared.types.TypeText.{TypeText}
use Rattle.au_syntax.specs.Depths.{arms_depth, block_depth, branches_depth, expression_depth, statement_depth}
use Rattle.au_syntax.specs.Views.{arm_all, block, branch_all, expression, statement, statement_all}
use Rattle.au_syntax.proofs.StatementLemmas.{borrow_says, borrow_typed_says, case_says, for_says}
use Rattle.au_syntax.proofs.StatementLemmas.{if_else_says, if_says, while_says}

-- ---- the code's trees as they are read

abbrev pub ParsedCode : Type 0
ParsedCode = Expr Parsed (List ℕ) (Unit {0}) (Unit {0})

abbrev pub ParsedName : Type 0
ParsedName = Ident Parsed (List ℕ) (Unit {0}) (Unit {0})

abbrev pub ParsedBlock : Type 0
ParsedBlock = Block Parsed (List ℕ) (Unit {0}) (Unit {0})

abbrev pub ParsedStmt : Type 0
ParsedStmt = Stmt Parsed (List ℕ) (Unit {0}) (Unit {0})

abbrev pub ParsedBranch : Type 0
ParsedBranch = Branch Parsed (List ℕ) (Unit {0}) (Unit {0})

abbrev pub ParsedArm : Type 0
ParsedArm = Arm Parsed (List ℕ) (Unit {0}) (Unit {0})

-- ---- statements with blocks

pub if_deep : (s : ParsedStmt) (at : Pos) (bs : Vec ParsedBranch Global) → s ≡ code.If at bs →
    statement_depth (statement parsed s) ≡ 1 + branches_depth (branch_all parsed bs.items)
if_deep s at bs is = ap statement_depth (ap (statement parsed) is ∙ if_says parsed at bs)

pub if_else_deep : (s : ParsedStmt) (at : Pos) (bs : Vec ParsedBranch Global) (last : ParsedBlock) →
    s ≡ code.IfElse at bs last →
    statement_depth (statement parsed s) ≡ 1 + max (branches_depth (branch_all parsed bs.items))
    (block_depth (block parsed last))
if_else_deep s at bs last is = ap statement_depth (ap (statement parsed) is ∙ if_else_says parsed at bs last)

pub case_deep : (s : ParsedStmt) (at : Pos) (e : Box ParsedCode Global) (all : Vec ParsedArm Global) →
    s ≡ code.Case at e all →
    statement_depth (statement parsed s) ≡ 1 + max (expression_depth (expression parsed e.value))
    (arms_depth (arm_all parsed all.items))
case_deep s at e all is = ap statement_depth (ap (statement parsed) is ∙ case_says parsed at e all)

pub while_deep : (s : ParsedStmt) (at : Pos) (e : Box ParsedCode Global) (body : ParsedBlock) →
    s ≡ code.While at e body →
    statement_depth (statement parsed s) ≡ 1 + max (expression_depth (expression parsed e.value))
    (block_depth (block parsed body))
while_deep s at e body is = ap statement_depth (ap (statement parsed) is ∙ while_says parsed at e body)

pub for_deep : (s : ParsedStmt) (at : Pos) (n : ParsedName) (a z : Box ParsedCode Global) (body : ParsedBlock)
    → s ≡ code.For at n a z body →
    statement_depth (statement parsed s)
    ≡ 1 + max (expression_depth (expression parsed a.value))
    (max (expression_depth (expression parsed z.value)) (block_depth (block parsed body)))
for_deep s at n a z body is = ap statement_depth (ap (statement parsed) is ∙ for_says parsed at n a z body)

pub borrow_deep : (s : ParsedStmt) (at : Pos) (kind : Access)
    (ns : BorrowNames Parsed (List ℕ) (Unit {0}) (Unit {0})) (body : ParsedBlock) (stop : Pos) →
    s ≡ code.Borrow at kind ns body stop → statement_depth (statement parsed s) ≡ 1 + block_depth (block parsed body)
borrow_deep s at kind ns body stop is =
    ap statement_depth (ap (statement parsed) is ∙ borrow_says parsed at kind ns body stop)

pub borrow_typed_deep : (s : ParsedStmt) (at : Pos) (r : ParsedName) (t : TypeText) (mode : BorrowMode)
    (x : ParsedName) (body : ParsedBlock) (stop : Pos) →
    s ≡ code.BorrowTyped at r t mode x body stop → statement_depth (statement parsed s)
    ≡ 1 + block_depth (block parsed body)
borrow_typed_deep s at r t mode x body stop is =
    ap statement_depth (ap (statement parsed) is ∙ borrow_typed_says parsed at r t mode x body stop)

-- ---- items of lists

-- an item is no deeper than its list, where neither the first nor the rest is
pub item_within : {A : Type 0} (one : A → ℕ) (all : List A → ℕ) →
    ((y : A) (ys : List A) → one y ≤ all (y ∷ ys)) → ((y : A) (ys : List A) → all ys ≤ all (y ∷ ys)) →
    (xs : List A) (i : ℕ) (x : A) → i < length xs → x ≡ get_or xs i x → one x ≤ all xs
item_within one all first rest [] i x within is = absurd (omega arith)
item_within one all first rest (y ∷ ys) zero x within is =
    let same : one x ≡ one y = ap one is in
    omega (arith, same, first y ys)
item_within one all first rest (y ∷ ys) (suc i) x within is =
    let inner : one x ≤ all ys = item_within one all first rest ys i x (omega arith) is in
    omega (arith, inner, rest y ys)

-- a statement of a block
pub statement_within : (xs ys : List ParsedStmt) (i : ℕ) (x : ParsedStmt) → xs ≡ ys → i < length xs →
    x ≡ get_or xs i x →
    statement_depth (statement parsed x) ≤ block_depth (statement_all parsed ys)
statement_within xs ys i x same within is =
    let all : block_depth (statement_all parsed xs) ≡ block_depth (statement_all parsed ys) =
    ap (λ (zs : List ParsedStmt). block_depth (statement_all parsed zs)) same in
    let inner : statement_depth (statement parsed x) ≤ block_depth (statement_all parsed xs) =
    item_within (λ (s : ParsedStmt). statement_depth (statement parsed s))
    (λ (zs : List ParsedStmt). block_depth (statement_all parsed zs))
    (λ (y : ParsedStmt) (zs : List ParsedStmt). omega arith)
    (λ (y : ParsedStmt) (zs : List ParsedStmt). omega arith) xs i x within is in
    omega (arith, inner, all)

-- the block of a branch
pub branch_within : (xs ys : List ParsedBranch) (i : ℕ) (x : ParsedBranch) → xs ≡ ys → i < length xs →
    x ≡ get_or xs i x →
    block_depth (block parsed x.block) ≤ branches_depth (branch_all parsed ys)
branch_within xs ys i x same within is =
    let all : branches_depth (branch_all parsed xs) ≡ branches_depth (branch_all parsed ys) =
    ap (λ (zs : List ParsedBranch). branches_depth (branch_all parsed zs)) same in
    let inner : block_depth (block parsed x.block) ≤ branches_depth (branch_all parsed xs) =
    item_within (λ (b : ParsedBranch). block_depth (block parsed b.block))
    (λ (zs : List ParsedBranch). branches_depth (branch_all parsed zs))
    (λ (y : ParsedBranch) (zs : List ParsedBranch). omega arith)
    (λ (y : ParsedBranch) (zs : List ParsedBranch). omega arith) xs i x within is in
    omega (arith, inner, all)

-- the block of an arm
pub arm_within : (xs ys : List ParsedArm) (i : ℕ) (x : ParsedArm) → xs ≡ ys → i < length xs → x ≡ get_or xs i x →
    block_depth (block parsed x.block) ≤ arms_depth (arm_all parsed ys)
arm_within xs ys i x same within is =
    let all : arms_depth (arm_all parsed xs) ≡ arms_depth (arm_all parsed ys) =
    ap (λ (zs : List ParsedArm). arms_depth (arm_all parsed zs)) same in
    let inner : block_depth (block parsed x.block) ≤ arms_depth (arm_all parsed xs) =
    item_within (λ (a : ParsedArm). block_depth (block parsed a.block))
    (λ (zs : List ParsedArm). arms_depth (arm_all parsed zs))
    (λ (y : ParsedArm) (zs : List ParsedArm). omega arith)
    (λ (y : ParsedArm) (zs : List ParsedArm). omega arith) xs i x within is in
    omega (arith, inner, all)
