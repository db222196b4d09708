-- Lives by structure: that a variable gets through what lies ahead of it, said by recursion on statements.
-- No path stands in it, and nothing of what the variable has been through but whether it is consumed.
use Rattle.std.specs.Prelude.{◌≡◌, Bool, [], ◌∷◌}
use Rattle.au_syntax.specs.Statements.{skip, declare, destructure, assign, assign_through, conditional}
use Rattle.au_syntax.specs.Statements.{conditional_else, case_of, while_loop, for_loop, borrow_in}
use Rattle.au_syntax.specs.Statements.{borrow_typed, discard, return_of, no_statements, statements}
use Rattle.au_syntax.specs.Statements.{no_branches, branches, no_arms, arms}
use Rattle.au_syntax.specs.Plain.{Bytes, PlainStatement, PlainStatements, PlainBranches, PlainArms}
use Rattle.au_lives.specs.declared.lives.Sort.{Sort}
use Rattle.au_lives.specs.Lives.{Fate, going, broken, Hold, held_from, at_end}
use Rattle.au_lives.specs.Paths.{whole, opening, assignment, assignment_behind, lent, declared, declared_by}
use Rattle.au_lives.specs.Paths.{bound_names, access_of}
use Rattle.au_lives.specs.Walks.{does}

-- a step doesn't break the life, and then this holds of whether the variable is consumed
abbrev pub OnGood : Fate → (Bool → Type 0) → Type 0
OnGood (going spent) Q = Q spent
OnGood (broken kind) Q = ⊥

-- the end of the scope, and each return, finds the variable as its sort asks
abbrev pub Ends : Sort → Bool → Type 0
Ends sort spent = OnGood (at_end sort spent) (λ s. Unit {0})

module _ (x : Bytes) (sort : Sort) where
  abbrev mutual
    -- The variable, held so by the borrow statements that are open round a statement, and consumed or not,
    -- gets through it; and where it falls through, Q holds of whether the variable is consumed then. A
    -- loop leaves that as it is.
    pub Ahead : PlainStatement → Hold → (Bool → Type 0) → Bool → Type 0
    Ahead (skip at) h Q spent = Q spent
    Ahead (declare at binding name t e) h Q spent = OnGood (does x sort (whole e) h spent) Q
    Ahead (destructure at binds e) h Q spent = OnGood (does x sort (whole e) h spent) Q
    Ahead (assign at name fields e) h Q spent =
        OnGood (does x sort (whole e) h spent) (λ s. OnGood (does x sort (assignment name.name) h s) Q)
    Ahead (assign_through at name fields e) h Q spent =
        OnGood (does x sort (whole e) h spent) (λ s. OnGood (does x sort (assignment_behind name.name) h s) Q)
    Ahead (conditional at bs) h Q spent = AheadBranches bs h Q Q spent
    Ahead (conditional_else at bs b) h Q spent = AheadBranches bs h (λ s. AheadAll b h Q s) Q spent
    Ahead (case_of at e all) h Q spent = OnGood (does x sort (whole e) h spent) (λ s. AheadArms all h Q s)
    Ahead (while_loop at e b) h Q spent =
        OnGood (does x sort (whole e) h spent)
        (λ s. (s ≡ spent) × AheadAll b h (λ t. t ≡ spent) spent × Q spent)
    Ahead (for_loop at name a z b) h Q spent =
        OnGood (does x sort (whole a) h spent) (λ s. OnGood (does x sort (whole z) h s) (λ t.
        AheadAll b (held_from x (declared name.name ∷ []) h) (λ u. u ≡ t) t × Q t))
    Ahead (borrow_in at access y r region b stop) h Q spent =
        OnGood (does x sort (opening access y.name) h spent)
        (λ s. AheadAll b (held_from x (declared r.name ∷ lent access y.name ∷ []) h) Q s)
    Ahead (borrow_typed at r t mode y b stop) h Q spent =
        OnGood (does x sort (opening (access_of mode) y.name) h spent)
        (λ s. AheadAll b (held_from x (declared r.name ∷ lent (access_of mode) y.name ∷ []) h) Q s)
    Ahead (discard at e) h Q spent = OnGood (does x sort (whole e) h spent) Q
    Ahead (return_of at e) h Q spent = OnGood (does x sort (whole e) h spent) (Ends sort)

    -- the same of a block
    pub AheadAll : PlainStatements → Hold → (Bool → Type 0) → Bool → Type 0
    AheadAll no_statements h Q spent = Q spent
    AheadAll (statements s more) h Q spent =
        Ahead s h (λ t. AheadAll more (held_from x (declared_by s) h) Q t) spent

    -- of the branches of a conditional, where `other` holds if no test is true
    pub AheadBranches : PlainBranches → Hold → (Bool → Type 0) → (Bool → Type 0) → Bool → Type 0
    AheadBranches no_branches h other Q spent = other spent
    AheadBranches (branches e b more) h other Q spent =
        OnGood (does x sort (whole e) h spent) (λ s. AheadAll b h Q s × AheadBranches more h other Q s)

    -- and of each arm of a case
    pub AheadArms : PlainArms → Hold → (Bool → Type 0) → Bool → Type 0
    AheadArms no_arms h Q spent = Unit {0}
    AheadArms (arms when' name binds b more) h Q spent =
        AheadAll b (held_from x (bound_names binds) h) Q spent × AheadArms more h Q spent
