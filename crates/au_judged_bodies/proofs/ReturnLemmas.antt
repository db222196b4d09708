-- A body that returns on every path is never left by falling through.
use Rattle.std.proofs.Common.{◌≡◌, ◌⊎◌, inl, inr, ℕ, ◌+◌, Bool, true, ◌||◌, List, ◌∷◌, length}
use Rattle.std.proofs.lemmas.Bool.{and_parts, or_cases}
use Rattle.au_lending.specs.Ending.{freed}
use Rattle.au_memory.specs.Forests.{empty}
use Rattle.au_meaning.specs.Expressions.{note_of}
use Rattle.au_meaning.specs.Names.{Scope, mode_of, names_in, names_in_block, names_in_tests, variable_of}
use Rattle.au_meaning.specs.Names.{with_bound}
use Rattle.au_meaning.specs.Names.{with_reference}
use Rattle.au_meaning.specs.Statements.{after, fields_told}
use Rattle.au_meaning.specs.Views.{View}
use Rattle.au_syntax.specs.Plain.{Bytes}
use Rattle.au_syntax.specs.Statements.{Statement, Statements, Branches, Arms, skip, declare, destructure}
use Rattle.au_syntax.specs.Statements.{assign, assign_through, conditional, conditional_else, case_of}
use Rattle.au_syntax.specs.Statements.{while_loop, for_loop, borrow_in, borrow_typed, discard, return_of}
use Rattle.au_syntax.specs.Statements.{no_statements, statements, no_branches, branches, no_arms, arms}
use Rattle.au_typing.specs.Returns.{arms_return, block_returns, branches_return, returns}
use Rattle.au_running_lives.specs.Lives.{Ahead, AheadAll, AheadArms, AheadTests, Over, Standing}
use Rattle.au_running_lives.specs.Lives.{put_each}

module _ {I T C : Type 0} (see : View I T C) (loose : ℕ → Bool) where
  -- what holds where a block ends
  over_more : (number count : ℕ) (Q R : Standing → Type 0) → ((g : Standing) → Q g → R g) → (h : Standing)
      → Over see loose number count Q h → Over see loose number count R h
  over_more number count Q R go h a = (a.0, go (put_each number count empty h) a.1)

  mutual
    -- what is asked behind may be less
    more : (number : ℕ) (scope : Scope) (zs : List ℕ) (s : Statement Bytes T C) (Q R : Standing → Type 0)
        → ((g : Standing) → Q g → R g) → (h : Standing) → Ahead see loose number scope zs s Q h
        → Ahead see loose number scope zs s R h
    more number scope zs (skip at) Q R go h a = go h a
    more number scope zs (declare at binding x t e) Q R go h a = (a.0, go _ a.1)
    more number scope zs (destructure at binds e) Q R go h a = (a.0, go _ a.1)
    more number scope zs (assign at x fields e) Q R go h a = (a.0, (a.1.0, go _ a.1.1))
    more number scope zs (assign_through at r fields e) Q R go h a = (a.0, (a.1.0, go _ a.1.1))
    more number scope zs (conditional at tests) Q R go h a =
        more_tests number scope zs tests Q R Q R go go h a
    more number scope zs (conditional_else at tests block) Q R go h a =
        let base = number + names_in_tests tests in
        let many = names_in_block block in
        more_tests number scope zs tests (λ g. AheadAll see loose base scope zs block
        (Over see loose base many Q) g)
        (λ g. AheadAll see loose base scope zs block (Over see loose base many R) g) Q R
        (λ g b. more_all base scope zs block (Over see loose base many Q) (Over see loose base many R)
        (over_more base many Q R go) g b) go h a
    more number scope zs (case_of at e all) Q R go h a = (
      a.0,
      more_arms number scope zs
          (note_of e) all Q R go _ a.1,
    )
    more number scope zs (while_loop at e block) Q R go h a = (a.0, (a.1.0, a.1.1, go h a.1.2))
    more number scope zs (for_loop at x first last block) Q R go h a = (a.0, (a.1.0, (a.1.1.0, go _ a.1.1.1)))
    more number scope zs (borrow_in at access x r region block stop) Q R go h a =
        let many = 1 + names_in_block block in (
          a.0,
          λ z new. more_all (number + 1)
              (with_reference (mode_of access) (variable_of scope x.name) number r.name scope) (z ∷ zs) block
              (Over see loose number many (λ f. Q (λ k. freed z (f k)))) (Over see loose number many (λ f. R
              (λ k. freed z (f k))))
              (over_more number many (λ f. Q (λ k. freed z (f k))) (λ f. R (λ k. freed z (f k)))
              (λ g b. go (λ k. freed z (g k)) b)) _ (a.1 z new),
        )
    more number scope zs (borrow_typed at r t m x block stop) Q R go h a =
        let many = 1 + names_in_block block in (
          a.0,
          λ z new. more_all (number + 1) (with_reference m (variable_of scope x.name) number r.name scope)
              (z ∷ zs)
              block (Over see loose number many (λ f. Q (λ k. freed z (f k))))
              (Over see loose number many (λ f. R (λ k. freed z (f k))))
              (over_more number many (λ f. Q (λ k. freed z (f k))) (λ f. R (λ k. freed z (f k)))
              (λ g b. go (λ k. freed z (g k)) b)) _ (a.1 z new),
        )
    more number scope zs (discard at e) Q R go h a = (a.0, go _ a.1)
    more number scope zs (return_of at e) Q R go h a = a

    more_all : (number : ℕ) (scope : Scope) (zs : List ℕ) (b : Statements Bytes T C) (Q R : Standing → Type 0)
        → ((g : Standing) → Q g → R g) → (h : Standing) → AheadAll see loose number scope zs b Q h
        → AheadAll see loose number scope zs b R h
    more_all number scope zs no_statements Q R go h a = go h a
    more_all number scope zs (statements s rest) Q R go h a =
        let next = number + names_in s in
        let behind = after see number s scope in
        more number scope zs s (λ g. AheadAll see loose next behind zs rest Q g)
        (λ g. AheadAll see loose next behind zs rest R g) (λ g b. more_all next behind zs rest Q R go g b) h a

    more_tests : (number : ℕ) (scope : Scope) (zs : List ℕ) (tests : Branches Bytes T C)
        (O P Q R : Standing → Type 0) → ((g : Standing) → O g → P g) → ((g : Standing) → Q g → R g)
        → (h : Standing)
        → AheadTests see loose number scope zs tests O Q h → AheadTests see loose number scope zs tests P R h
    more_tests number scope zs no_branches O P Q R other go h a = other h a
    more_tests number scope zs (branches e block rest) O P Q R other go h a =
        let many = names_in_block block in (
          a.0,
          (
            more_all number scope zs block (Over see loose number many Q) (Over see loose number many R)
                (over_more number many Q R go) _ a.1.0,
            more_tests (number + many) scope zs rest O P Q R other go _ a.1.1,
          ),
        )

    more_arms : (number : ℕ) (scope : Scope) (zs : List ℕ) (note : T) (all : Arms Bytes T C)
        (Q R : Standing → Type 0) → ((g : Standing) → Q g → R g) → (h : Standing)
        → AheadArms see loose number scope zs note all Q h → AheadArms see loose number scope zs note all R h
    more_arms number scope zs note no_arms Q R go h a = tt
    more_arms number scope zs note (arms at name binds block rest) Q R go h a =
        let many = length binds + names_in_block block in (
          λ tag. more_all (number + length binds) (with_bound
              (fields_told see note tag) number binds scope) zs block
              (Over see loose number many Q) (Over see loose number many R) (over_more number many Q R go) _
              (a.0 tag),
          more_arms (number + many) scope zs note rest Q R go h a.1,
        )

  either_way : (a b : Bool) {X : Type 0} → (a || b) ≡ true → (a ≡ true → X) → (b ≡ true → X) → X
  either_way a b {X} e first second = by (or_cases a b e)
    where
      by : (a ≡ true) ⊎ (b ≡ true) → X
      by (inl is) = first is
      by (inr is) = second is

  mutual
    -- what returns asks nothing of what is behind it
    leaves : (number : ℕ) (scope : Scope) (zs : List ℕ) (s : Statement Bytes T C) (Q R : Standing → Type 0)
        (h : Standing) → returns s ≡ true → Ahead see loose number scope zs s Q h
        → Ahead see loose number scope zs s R h
    leaves number scope zs (return_of at e) Q R h e' a = a
    leaves number scope zs (conditional_else at tests block) Q R h is a =
        let base = number + names_in_tests tests in
        let many = names_in_block block in
        let both = and_parts (branches_return tests) (block_returns block) is in
        leaves_tests number scope zs tests (λ g. AheadAll see loose base scope zs block
        (Over see loose base many Q) g)
        (λ g. AheadAll see loose base scope zs block (Over see loose base many R) g) Q R
        (λ g b. leaves_all base scope zs block (Over see loose base many Q)
        (Over see loose base many R) g both.1 b) h
        both.0 a
    leaves number scope zs (case_of at e all) Q R h is a =
        (a.0, leaves_arms number scope zs (note_of e) all Q R _ is a.1)
    leaves number scope zs (borrow_in at access x r region block stop) Q R h is a =
        let many = 1 + names_in_block block in (
          a.0,
          λ z new. leaves_all (number + 1)
              (with_reference (mode_of access) (variable_of scope x.name) number r.name scope) (z ∷ zs) block
              (Over see loose number many (λ f. Q (λ k. freed z (f k)))) (Over see loose number many (λ f. R
              (λ k. freed z (f k))))
              _ is (a.1 z new),
        )
    leaves number scope zs (borrow_typed at r t m x block stop) Q R h is a =
        let many = 1 + names_in_block block in (
          a.0,
          λ z new. leaves_all (number + 1) (with_reference m (variable_of scope x.name) number r.name scope)
              (z ∷ zs)
              block (Over see loose number many (λ f. Q (λ k. freed z (f k))))
              (Over see loose number many (λ f. R (λ k. freed z (f k)))) _ is (a.1 z new),
        )
    leaves number scope zs other Q R h is a = absurd cc

    pub leaves_all : (number : ℕ) (scope : Scope) (zs : List ℕ) (b : Statements Bytes T C) (Q R : Standing
        → Type 0)
        (h : Standing) → block_returns b ≡ true → AheadAll see loose number scope zs b Q h
        → AheadAll see loose number scope zs b R h
    leaves_all number scope zs no_statements Q R h is a = absurd cc
    leaves_all number scope zs (statements s rest) Q R h is a =
        let next = number + names_in s in
        let behind = after see number s scope in
        either_way (returns s) (block_returns rest) is
        (λ here. leaves number scope zs s (λ g. AheadAll see loose next behind zs rest Q g)
        (λ g. AheadAll see loose next behind zs rest R g) h here a)
        (λ later. more number scope zs s (λ g. AheadAll see loose next behind zs rest Q g)
        (λ g. AheadAll see loose next behind zs rest R g)
        (λ g b. leaves_all next behind zs rest Q R g later b) h a)

    leaves_tests : (number : ℕ) (scope : Scope) (zs : List ℕ) (tests : Branches Bytes T C)
        (O P Q R : Standing → Type 0) → ((g : Standing) → O g → P g) → (h : Standing)
        → branches_return tests ≡ true
        → AheadTests see loose number scope zs tests O Q h → AheadTests see loose number scope zs tests P R h
    leaves_tests number scope zs no_branches O P Q R other h is a = other h a
    leaves_tests number scope zs (branches e block rest) O P Q R other h is a =
        let many = names_in_block block in
        let both = and_parts (block_returns block) (branches_return rest) is in (
          a.0,
          (
            leaves_all number scope zs block (Over see loose number many Q)
                (Over see loose number many R) _ both.0 a.1.0,
            leaves_tests (number + many) scope zs rest O P Q R other _ both.1 a.1.1,
          ),
        )

    leaves_arms : (number : ℕ) (scope : Scope) (zs : List ℕ) (note : T) (all : Arms Bytes T C)
        (Q R : Standing → Type 0) (h : Standing) → arms_return all ≡ true
        → AheadArms see loose number scope zs note all Q h → AheadArms see loose number scope zs note all R h
    leaves_arms number scope zs note no_arms Q R h is a = tt
    leaves_arms number scope zs note (arms at name binds block rest) Q R h is a =
        let many = length binds + names_in_block block in
        let both = and_parts (block_returns block) (arms_return rest) is in (
          λ tag. leaves_all (number + length binds) (with_bound
              (fields_told see note tag) number binds scope) zs block
              (Over see loose number many Q) (Over see loose number many R) _ both.0 (a.0 tag),
          leaves_arms (number + many) scope zs note rest Q R h both.1 a.1,
        )
