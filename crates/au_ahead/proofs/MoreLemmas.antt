-- What lies ahead is good for all that follows from what is asked behind it.
use Rattle.std.proofs.Common.{◌≡◌, Bool, [], ◌∷◌}
use Rattle.au_syntax.specs.Statements.{skip, declare, destructure, assign, assign_through, conditional}
use Rattle.au_syntax.specs.Statements.{conditional_else, case_of, while_loop, for_loop, borrow_in}
use Rattle.au_syntax.specs.Statements.{borrow_typed, discard, return_of, no_statements, statements}
use Rattle.au_syntax.specs.Statements.{no_branches, branches, no_arms, arms}
use Rattle.au_syntax.specs.Plain.{Bytes, PlainStatement, PlainStatements, PlainBranches, PlainArms}
use Rattle.au_lives.specs.declared.lives.Sort.{Sort}
use Rattle.au_lives.specs.Lives.{Fate, going, broken, Hold, held_from}
use Rattle.au_lives.specs.Paths.{whole, opening, assignment, assignment_behind, lent, declared, declared_by}
use Rattle.au_lives.specs.Paths.{bound_names, access_of}
use Rattle.au_lives.specs.Walks.{does}
use Rattle.au_ahead.specs.Ahead.{OnGood, Ahead, AheadAll, AheadBranches, AheadArms}

pub on_more : (f : Fate) (Q R : Bool → Type 0) → ((s : Bool) → Q s → R s) → OnGood f Q → OnGood f R
on_more (going s) Q R go h = go s h
on_more (broken k) Q R go h = h

module _ (x : Bytes) (sort : Sort) where
  mutual
    pub more : (s : PlainStatement) (h : Hold) (Q R : Bool → Type 0) → ((t : Bool) → Q t → R t) → (u : Bool)
        → Ahead x sort s h Q u → Ahead x sort s h R u
    more (skip at) h Q R go u a = go u a
    more (declare at binding name t e) h Q R go u a = on_more (does x sort (whole e) h u) Q R go a
    more (destructure at binds e) h Q R go u a = on_more (does x sort (whole e) h u) Q R go a
    more (assign at name fields e) h Q R go u a =
        on_more (does x sort (whole e) h u) (λ s. OnGood (does x sort (assignment name.name) h s) Q)
        (λ s. OnGood (does x sort (assignment name.name) h s) R)
        (λ s b. on_more (does x sort (assignment name.name) h s) Q R go b) a
    more (assign_through at name fields e) h Q R go u a =
        on_more (does x sort (whole e) h u) (λ s. OnGood (does x sort (assignment_behind name.name) h s) Q)
        (λ s. OnGood (does x sort (assignment_behind name.name) h s) R)
        (λ s b. on_more (does x sort (assignment_behind name.name) h s) Q R go b) a
    more (conditional at bs) h Q R go u a = more_branches bs h Q R Q R go go u a
    more (conditional_else at bs b) h Q R go u a =
        more_branches bs h (λ s. AheadAll x sort b h Q s) (λ s. AheadAll x sort b h R s) Q R
        (λ s c. more_all b h Q R go s c) go u a
    more (case_of at e all) h Q R go u a =
        on_more (does x sort (whole e) h u) (λ s. AheadArms x sort all h Q s) (λ s. AheadArms x sort all h R s)
        (λ s b. more_arms all h Q R go s b) a
    more (while_loop at e b) h Q R go u a =
        on_more (does x sort (whole e) h u) (λ s. (s ≡ u) × AheadAll x sort b h (λ t. t ≡ u) u × Q u)
        (λ s. (s ≡ u) × AheadAll x sort b h (λ t. t ≡ u) u × R u) (λ s c. (c.0, c.1, go u c.2)) a
    more (for_loop at name first last b) h Q R go u a =
        let inner = held_from x (declared name.name ∷ []) h in
        on_more (does x sort (whole first) h u)
        (λ s. OnGood (does x sort (whole last) h s) (λ t. AheadAll x sort b inner (λ v. v ≡ t) t × Q t))
        (λ s. OnGood (does x sort (whole last) h s) (λ t. AheadAll x sort b inner (λ v. v ≡ t) t × R t))
        (λ s c. on_more (does x sort (whole last) h s) (λ t. AheadAll x sort b inner (λ v. v ≡ t) t × Q t)
        (λ t. AheadAll x sort b inner (λ v. v ≡ t) t × R t) (λ t d. (d.0, go t d.1)) c) a
    more (borrow_in at access y r region b stop) h Q R go u a =
        let inner = held_from x (declared r.name ∷ lent access y.name ∷ []) h in
        on_more (does x sort (opening access y.name) h u) (λ s. AheadAll x sort b inner Q s)
        (λ s. AheadAll x sort b inner R s) (λ s c. more_all b inner Q R go s c) a
    more (borrow_typed at r t mode y b stop) h Q R go u a =
        let inner = held_from x (declared r.name ∷ lent (access_of mode) y.name ∷ []) h in
        on_more (does x sort (opening (access_of mode) y.name) h u) (λ s. AheadAll x sort b inner Q s)
        (λ s. AheadAll x sort b inner R s) (λ s c. more_all b inner Q R go s c) a
    more (discard at e) h Q R go u a = on_more (does x sort (whole e) h u) Q R go a
    more (return_of at e) h Q R go u a = a

    pub more_all : (b : PlainStatements) (h : Hold) (Q R : Bool → Type 0) → ((t : Bool) → Q t → R t) → (u : Bool)
        → AheadAll x sort b h Q u → AheadAll x sort b h R u
    more_all no_statements h Q R go u a = go u a
    more_all (statements s rest) h Q R go u a =
        let inner = held_from x (declared_by s) h in
        more s h (λ t. AheadAll x sort rest inner Q t) (λ t. AheadAll x sort rest inner R t)
        (λ t b. more_all rest inner Q R go t b) u a

    more_branches : (bs : PlainBranches) (h : Hold) (P O Q R : Bool → Type 0) → ((t : Bool) → P t → O t)
        → ((t : Bool) → Q t → R t) → (u : Bool) → AheadBranches x sort bs h P Q u → AheadBranches x sort bs h O R u
    more_branches no_branches h P O Q R other go u a = other u a
    more_branches (branches e b rest) h P O Q R other go u a =
        on_more (does x sort (whole e) h u)
        (λ s. AheadAll x sort b h Q s × AheadBranches x sort rest h P Q s)
        (λ s. AheadAll x sort b h R s × AheadBranches x sort rest h O R s)
        (λ s c. (more_all b h Q R go s c.0, more_branches rest h P O Q R other go s c.1)) a

    more_arms : (all : PlainArms) (h : Hold) (Q R : Bool → Type 0) → ((t : Bool) → Q t → R t) → (u : Bool)
        → AheadArms x sort all h Q u → AheadArms x sort all h R u
    more_arms no_arms h Q R go u a = a
    more_arms (arms when' name binds b rest) h Q R go u a =
        (more_all b (held_from x (bound_names binds) h) Q R go u a.0, more_arms rest h Q R go u a.1)
