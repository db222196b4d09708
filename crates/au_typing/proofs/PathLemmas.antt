-- A statement returns on every path exactly where no path goes on behind it.
use Rattle.std.proofs.Common.{◌≡◌, true, false, ◌⊎◌, inl, inr}
use Rattle.std.proofs.lemmas.Bool.{or_cases, and_parts, and_cases, or_parts}
use Rattle.au_syntax.specs.Statements.{Statement, Statements, Branches, Arms, conditional_else, case_of}
use Rattle.au_syntax.specs.Statements.{borrow_in, borrow_typed, return_of, no_statements, statements}
use Rattle.au_syntax.specs.Statements.{no_branches, branches, no_arms, arms}
use Rattle.au_typing.specs.Paths.{GoesOn, ReachesEnd, SomeArmEnds, SomeBranchEnds}
use Rattle.au_typing.specs.Returns.{arms_return, block_returns, branches_return, returns}

-- one of two, whichever it was
either : {A B C : Type 0} → (A → C) → (B → C) → A ⊎ B → C
either f g (inl x) = f x
either f g (inr y) = g y

module _ {N T C : Type 0} where
  -- ---- where the test fails, some path goes on

  mutual
    pub goes_on : (s : Statement N T C) → returns s ≡ false → GoesOn s
    goes_on (return_of at e) h = absurd cc
    goes_on (conditional_else at tests block) h =
        either (λ e. inl (branch_ends tests e)) (λ e. inr (reaches_end block e))
        (and_cases (branches_return tests) (block_returns block) h)
    goes_on (case_of at e all) h = arm_ends all h
    goes_on (borrow_in at access x r region block stop) h = reaches_end block h
    goes_on (borrow_typed at r t mode x block stop) h = reaches_end block h
    goes_on s h = tt

    pub reaches_end : (ss : Statements N T C) → block_returns ss ≡ false → ReachesEnd ss
    reaches_end no_statements h = tt
    reaches_end (statements s rest) h =
        let both = or_parts (returns s) (block_returns rest) h in
        (goes_on s both.0, reaches_end rest both.1)

    branch_ends : (all : Branches N T C) → branches_return all ≡ false → SomeBranchEnds all
    branch_ends no_branches h = absurd cc
    branch_ends (branches e block rest) h =
        either (λ k. inl (reaches_end block k)) (λ k. inr (branch_ends rest k))
        (and_cases (block_returns block) (branches_return rest) h)

    arm_ends : (all : Arms N T C) → arms_return all ≡ false → SomeArmEnds all
    arm_ends no_arms h = absurd cc
    arm_ends (arms at n binds block rest) h =
        either (λ k. inl (reaches_end block k)) (λ k. inr (arm_ends rest k))
        (and_cases (block_returns block) (arms_return rest) h)

  -- ---- where the test holds, no path goes on

  mutual
    pub stays : (s : Statement N T C) → returns s ≡ true → GoesOn s → ⊥
    stays (return_of at e) h g = g
    stays (conditional_else at tests block) h g =
        let both = and_parts (branches_return tests) (block_returns block) h in
        either (branches_stay tests both.0) (never_ends block both.1) g
    stays (case_of at e all) h g = arms_stay all h g
    stays (borrow_in at access x r region block stop) h g = never_ends block h g
    stays (borrow_typed at r t mode x block stop) h g = never_ends block h g
    stays s h g = absurd cc

    pub never_ends : (ss : Statements N T C) → block_returns ss ≡ true → ReachesEnd ss → ⊥
    never_ends no_statements h g = absurd cc
    never_ends (statements s rest) h g =
        either (λ k. stays s k g.0) (λ k. never_ends rest k g.1) (or_cases (returns s)
        (block_returns rest) h)

    branches_stay : (all : Branches N T C) → branches_return all ≡ true → SomeBranchEnds all → ⊥
    branches_stay no_branches h g = g
    branches_stay (branches e block rest) h g =
        let both = and_parts (block_returns block) (branches_return rest) h in
        either (never_ends block both.0) (branches_stay rest both.1) g

    arms_stay : (all : Arms N T C) → arms_return all ≡ true → SomeArmEnds all → ⊥
    arms_stay no_arms h g = g
    arms_stay (arms at n binds block rest) h g =
        let both = and_parts (block_returns block) (arms_return rest) h in
        either (never_ends block both.0) (arms_stay rest both.1) g
