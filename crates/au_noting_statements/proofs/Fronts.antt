-- Noted parts in front of what is still judged.
use Rattle.std.proofs.Common.{◌≡◌, ◌++◌, ◌∷◌, ◌<◌, ◌+◌, [], ℕ, List, Err, Ok, Result, ap, subst, sym, ◌∙◌}
use Rattle.std.proofs.Common.{drop, get_or, length, map, refl}
use Rattle.std.proofs.lemmas.List.{at_drop_more}
use Rattle.au_typing.specs.DerivationFaults.{Judged, ◌then◌, StatementFault, refused, too_large}
use Rattle.au_typing.specs.Trees.{NotedArms, NotedBranches, NotedStatements}
use Rattle.au_judgements.specs.declared.refusals.Refused.{Refused}
use Rattle.au_judgements.specs.declared.refusals.Refused.TheVariants as told
use Rattle.au_judgements.specs.Refusing.{Judges, Refuses}
use Rattle.au_sights.specs.contracts.noted.NotedPhase.TheImpl.{ghosts as noted}
use Rattle.au_sights.specs.declared.noted.Noted.{Noted}
use Rattle.au_sights.specs.declared.notes.Notes.{Notes}
use Rattle.au_noting.specs.Giving.{cause_said}
use Rattle.au_noting_statements.specs.Noted.{boxed}
use Rattle.au_syntax.specs.declared.statements.Arm.{Arm}
use Rattle.au_syntax.specs.declared.statements.Branch.{Branch}
use Rattle.au_syntax.specs.declared.statements.Stmt.{Stmt}
use Rattle.au_syntax.specs.Statements.{statements, no_statements, branches, no_branches, arms, no_arms}
use Rattle.au_syntax.specs.Views.{arm_all, block, bound, branch_all, placed, statement, statement_all}

-- ---- the code's trees with notes

abbrev pub NotedStmt : Type 0
NotedStmt = Stmt Noted (List ℕ) Notes (Unit {0})

abbrev pub NotedBranch : Type 0
NotedBranch = Branch Noted (List ℕ) Notes (Unit {0})

abbrev pub NotedArm : Type 0
NotedArm = Arm Noted (List ℕ) Notes (Unit {0})

-- ---- steps

-- what refuses a part refuses what it is a part of
pub refuses_on : {A B : Type 0} (e : Refused) (one : Judged B) (whole : Judged A) → Refuses e one →
    ((f : StatementFault) → one ≡ Err f → whole ≡ Err f) → Refuses e whole
refuses_on (told.Statement at cause) one whole h on = on (refused at (cause_said cause)) h
refuses_on (told.Limit passed) one whole h on = on (too_large passed) h
refuses_on told.Memory one whole h on = tt

-- what a call answers that stops where a part of it is refused
pub stops_by : {X A B : Type 0} (view : X → A) (result : Result X Refused) (e : Refused) (one : Judged B)
    (whole : Judged A) →
    (y : Refused) × (result ≡ Err y) × (y ≡ e) → Refuses e one → ((f : StatementFault) → one ≡ Err f → whole ≡ Err f) →
    Judges view result whole
stops_by {X = X} view result e one whole is refuses on =
    subst (λ (r : Result X Refused). Judges view r whole) (sym is.1)
    (subst (λ (y : Refused). Refuses y whole) (sym is.2) (refuses_on e one whole refuses on))

-- a function of what is left of a list, at an item that is read
pub left_at : {A B : Type 0} (F : List A → B) (xs : List A) (i : ℕ) (x : A) → i < length xs → x ≡ get_or xs i x →
    F (drop i xs) ≡ F (x ∷ drop (i + 1) xs)
left_at {A = A} F xs i x within is = at_drop_more F xs i x within ∙ ap (λ (y : A). F (y ∷ drop (i + 1) xs)) (sym is)

-- ---- fronts

-- what is judged, behind a front
abbrev pub fronted : {A B : Type 0} → (A → B) → Judged A → Judged B
fronted front left = left then λ rest. Ok (front rest)

-- what has no front is as it is
pub front_none : {A : Type 0} (left : Judged A) → fronted (λ (rest : A). rest) left ≡ left
front_none (Ok rest) = refl
front_none (Err f) = refl

-- what is added to what is left stands behind the front
pub front_grows : {A B : Type 0} (add : A → A) (front grown : A → B) (left : Judged A) →
    ((rest : A) → grown rest ≡ front (add rest)) →
    fronted grown left ≡ fronted front (left then λ rest. Ok (add rest))
front_grows add front grown (Ok rest) same = ap Ok (same rest)
front_grows add front grown (Err f) same = refl

-- noted statements before others
abbrev pub statements_before : List NotedStmt → NotedStatements → NotedStatements
statements_before [] rest = rest
statements_before (s ∷ ss) rest = statements (statement noted s) (statements_before ss rest)

pub statements_pushed : (ss : List NotedStmt) (s : NotedStmt) (rest : NotedStatements) →
    statements_before (ss ++ s ∷ []) rest ≡ statements_before ss (statements (statement noted s) rest)
statements_pushed [] s rest = refl
statements_pushed (x ∷ xs) s rest = ap (statements (statement noted x)) (statements_pushed xs s rest)

pub statements_whole : (ss : List NotedStmt) → statements_before ss no_statements ≡ statement_all noted ss
statements_whole [] = refl
statements_whole (x ∷ xs) = ap (statements (statement noted x)) (statements_whole xs)

-- noted branches before others
abbrev pub branches_before : List NotedBranch → NotedBranches → NotedBranches
branches_before [] rest = rest
branches_before (b ∷ bs) rest = branches (boxed b.test) (block noted b.block) (branches_before bs rest)

pub branches_pushed : (bs : List NotedBranch) (b : NotedBranch) (rest : NotedBranches) →
    branches_before (bs ++ b ∷ []) rest ≡ branches_before bs (branches (boxed b.test) (block noted b.block) rest)
branches_pushed [] b rest = refl
branches_pushed (x ∷ xs) b rest = ap (branches (boxed x.test) (block noted x.block)) (branches_pushed xs b rest)

pub branches_whole : (bs : List NotedBranch) → branches_before bs no_branches ≡ branch_all noted bs
branches_whole [] = refl
branches_whole (x ∷ xs) = ap (branches (boxed x.test) (block noted x.block)) (branches_whole xs)

-- noted arms before others
abbrev pub arms_before : List NotedArm → NotedArms → NotedArms
arms_before [] rest = rest
arms_before (a ∷ all) rest = arms a.at (placed noted a.case) (map (bound noted) a.binds.items)
    (block noted a.block) (arms_before all rest)

pub arms_pushed : (all : List NotedArm) (a : NotedArm) (rest : NotedArms) →
    arms_before (all ++ a ∷ []) rest
    ≡ arms_before all (arms a.at (placed noted a.case) (map (bound noted) a.binds.items)
    (block noted a.block) rest)
arms_pushed [] a rest = refl
arms_pushed (x ∷ xs) a rest = ap
    (arms x.at (placed noted x.case) (map (bound noted) x.binds.items) (block noted x.block))
    (arms_pushed xs a rest)

pub arms_whole : (all : List NotedArm) → arms_before all no_arms ≡ arm_all noted all
arms_whole [] = refl
arms_whole (x ∷ xs) = ap (arms x.at (placed noted x.case) (map (bound noted) x.binds.items)
    (block noted x.block)) (arms_whole xs)
