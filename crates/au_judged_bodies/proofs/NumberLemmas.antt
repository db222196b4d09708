-- Variables in the order of the text have the numbers of their declarations.
use Rattle.std.proofs.Common.{◌≡◌, ℕ, suc, ◌+◌, ◌<◌, ◌==◌, Bool, List, [], ◌∷◌, ◌++◌, length, map, Option}
use Rattle.std.proofs.Common.{Some, refl, sym, ap, ap₂, subst, ◌∙◌, arith, if◌then◌else◌}
use Rattle.std.proofs.lemmas.Bool.{eq-eqb, eqb-true, false_from_ne_true}
use Rattle.std.proofs.lemmas.List.{length-append, length-map}
use Rattle.au_lives.specs.declared.lives.Sort.{Sort}
use Rattle.au_lives.specs.Lives.{GoodLife}
use Rattle.au_lives.specs.Paths as paths
use Rattle.au_lives.specs.Refusals.{GoodLives, Variable}
use Rattle.au_meaning.specs.Expressions.{note_of}
use Rattle.au_meaning.specs.Meanings.{scope_of}
use Rattle.au_meaning.specs.Names.{Scope, mode_of, names_in, names_in_arms, names_in_block, names_in_tests}
use Rattle.au_meaning.specs.Names.{variable_of, with_bound, with_name, with_reference}
use Rattle.au_meaning.specs.Statements.{after, fields_noted, fields_told, with_counter}
use Rattle.au_meaning.specs.Views.{Field, Function, View}
use Rattle.au_program_lives.specs.Scopes.{TypeScope, opened_by, opened_in}
use Rattle.au_program_lives.specs.Sorts.{region_written, written_sort}
use Rattle.au_program_lives.specs.Variables.{bound_over, parameters_over, variables_after, variables_in}
use Rattle.au_program_lives.specs.Variables.{variables_in_arms}
use Rattle.au_program_lives.specs.Variables.{variable_over, variables_in_branches, variables_inside}
use Rattle.au_syntax.specs.Expressions.{Expression}
use Rattle.au_syntax.specs.Plain.{Bytes, PlainStatements, plain_arms, plain_bound, plain_branches}
use Rattle.au_syntax.specs.Plain.{plain_statement}
use Rattle.au_syntax.specs.Plain.{plain_statements}
use Rattle.au_syntax.specs.Statements.{Statement, Statements, Branches, Arms, skip, declare, destructure}
use Rattle.au_syntax.specs.Statements.{assign, assign_through, conditional, conditional_else, case_of}
use Rattle.au_syntax.specs.Statements.{while_loop, for_loop, borrow_in, borrow_typed, discard, return_of}
use Rattle.au_syntax.specs.Statements.{no_statements, statements, no_branches, branches, no_arms, arms}
use Rattle.au_syntax.specs.Types.{Bound, Labelled}
use Rattle.au_judged_bodies.specs.Parts.{Declares, Each, EachArm, EachBound, EachIn, EachParameter, EachTest}
use Rattle.au_judged_bodies.proofs.BornLemmas.{same_bound}
use Rattle.au_judged_bodies.specs.Sorts.{IsGoodOver, LivesAreNumbered, sorts_from, sorts_of}

-- each of some variables asks what the number says that it has
abbrev pub AreSorted : (ℕ → Sort) → ℕ → List Variable → Type 0
AreSorted sorts number [] = Unit {0}
AreSorted sorts number (v ∷ rest) = (sorts number ≡ v.sort) × AreSorted sorts (number + 1) rest

-- variables with good lives, from a number on
abbrev Good : (ℕ → Sort) → ℕ → List Variable → Type 0
Good sorts number vs = GoodLives vs × AreSorted sorts number vs

pub plus_zero : (n : ℕ) → n ≡ n + 0
plus_zero n = omega arith

module _ (sorts : ℕ → Sort) where
  pub moved : (n m : ℕ) (vs : List Variable) → n ≡ m → AreSorted sorts n vs → AreSorted sorts m vs
  moved n m vs same a = subst (λ (k : ℕ). AreSorted sorts k vs) same a

  two : (number : ℕ) (vs ws : List Variable) → Good sorts number (vs ++ ws)
      → Good sorts number vs × Good sorts (number + length vs) ws
  two number [] ws good = ((tt, tt), (good.0, moved number (number + 0) ws (plus_zero number) good.1))
  two number (v ∷ vs) ws good =
      let rest = two (number + 1) vs ws (good.0.1, good.1.1) in
      let same : (number + 1) + length vs ≡ number + suc (length vs) = omega arith in (
        ((good.0.0, rest.0.0), (good.1.0, rest.0.1)),
        (rest.1.0, moved ((number + 1) + length vs) (number + suc (length vs)) ws same rest.1.1),
      )

-- ---- how many there are

nothing_before : (n : ℕ) → 0 + n ≡ n
nothing_before n = omega arith

abbrev pub plain : {T C : Type 0} → Statements Bytes T C → PlainStatements
plain b = plain_statements (λ (b : Bytes). b) b

pub many_bound : (block : PlainStatements) (binds : List (Bound Bytes)) (sc : TypeScope)
    → length (bound_over block (map (plain_bound (λ (b : Bytes). b)) binds) sc) ≡ length binds
many_bound block [] sc = refl
many_bound block (b ∷ rest) sc = ap suc (many_bound block rest sc)

mutual
  pub many_inside : {T C : Type 0} (s : Statement Bytes T C) (rest : PlainStatements) (sc : TypeScope)
      → length (variables_after (plain_statement (λ (b : Bytes). b) s) rest sc)
      + length (variables_inside (plain_statement (λ (b : Bytes). b) s) sc) ≡ names_in s
  many_inside (skip at) rest sc = refl
  many_inside (declare at binding x t e) rest sc = refl
  many_inside (destructure at binds e) rest sc =
      let same = many_bound rest binds sc in
      let zero_more : length binds + 0 ≡ length binds = omega arith in
      ap (λ (n : ℕ). n + 0) same ∙ zero_more
  many_inside (assign at x fields e) rest sc = refl
  many_inside (assign_through at x fields e) rest sc = refl
  many_inside (conditional at tests) rest sc = nothing_before _ ∙ many_tests tests sc
  many_inside (conditional_else at tests block) rest sc =
      nothing_before _
      ∙ (length-append (variables_in_branches (plain_branches (λ (b : Bytes). b) tests) sc) (variables_in
      (plain block) sc)
      ∙ ap₂ (λ (m n : ℕ). m + n) (many_tests tests sc) (many block sc))
  many_inside (case_of at e all) rest sc = nothing_before _ ∙ many_arms all sc
  many_inside (while_loop at e block) rest sc = nothing_before _ ∙ many block sc
  many_inside (for_loop at x a z block) rest sc =
      let one : (n : ℕ) → 0 + suc n ≡ 1 + n = λ n. omega arith in
      one (length (variables_in (plain block) sc)) ∙ ap (λ (n : ℕ). 1 + n) (many block sc)
  many_inside (borrow_in at access x r region block stop) rest sc =
      let one : (n : ℕ) → 0 + suc n ≡ 1 + n = λ n. omega arith in
      one (length (variables_in (plain block) (opened_in region.name sc)))
      ∙ ap (λ (n : ℕ). 1 + n) (many block (opened_in region.name sc))
  many_inside (borrow_typed at r t m x block stop) rest sc =
      let one : (n : ℕ) → 0 + suc n ≡ 1 + n = λ n. omega arith in
      one (length (variables_in (plain block) (opened_by (region_written t) sc)))
      ∙ ap (λ (n : ℕ). 1 + n) (many block (opened_by (region_written t) sc))
  many_inside (discard at e) rest sc = refl
  many_inside (return_of at e) rest sc = refl

  pub many : {T C : Type 0} (b : Statements Bytes T C) (sc : TypeScope)
      → length (variables_in (plain b) sc) ≡ names_in_block b
  many no_statements sc = refl
  many (statements s rest) sc =
      let own = variables_after (plain_statement (λ (b : Bytes). b) s) (plain rest) sc in
      let inside = variables_inside (plain_statement (λ (b : Bytes). b) s) sc in
      let others = variables_in (plain rest) sc in
      let one = many_inside s (plain rest) sc in
      let more = many rest sc in
      let total : length (own ++ (inside ++ others)) ≡ length own + length (inside ++ others) =
      length-append own (inside ++ others) in
      let split : length (inside ++ others) ≡ length inside + length others = length-append inside others in
      omega (arith, total, split, one, more)

  pub many_tests : {T C : Type 0} (tests : Branches Bytes T C) (sc : TypeScope)
      → length (variables_in_branches (plain_branches (λ (b : Bytes). b) tests) sc) ≡ names_in_tests tests
  many_tests no_branches sc = refl
  many_tests (branches e block rest) sc =
      length-append (variables_in (plain block) sc) (variables_in_branches (plain_branches (λ
      (b : Bytes). b) rest) sc)
      ∙ ap₂ (λ (m n : ℕ). m + n) (many block sc) (many_tests rest sc)

  pub many_arms : {T C : Type 0} (all : Arms Bytes T C) (sc : TypeScope)
      → length (variables_in_arms (plain_arms (λ (b : Bytes). b) all) sc) ≡ names_in_arms all
  many_arms no_arms sc = refl
  many_arms (arms at name binds block rest) sc =
      let own = bound_over (plain block) (map (plain_bound (λ (b : Bytes). b)) binds) sc in
      let inside = variables_in (plain block) sc in
      let others = variables_in_arms (plain_arms (λ (b : Bytes). b) rest) sc in
      let one = many_bound (plain block) binds sc in
      let two = many block sc in
      let more = many_arms rest sc in
      let total : length (own ++ (inside ++ others)) ≡ length own + length (inside ++ others) =
      length-append own (inside ++ others) in
      let split : length (inside ++ others) ≡ length inside + length others = length-append inside others in
      omega (arith, total, split, one, two, more)

-- ---- their lives

module _ {I T C : Type 0} (see : View I T C) (sorts : ℕ → Sort) where
  abbrev E : Scope → Expression Bytes T C → Type 0
  E scope e = Unit {0}

  abbrev D : ℕ → Scope → Bytes → Statements Bytes T C → Type 0
  D number scope x block = IsGoodOver sorts number scope x block

  bound : (fields : Option (List Field)) (number : ℕ) (scope : Scope) (binds : List (Bound Bytes))
      (block : Statements Bytes T C) (sc : TypeScope)
      → Good sorts number (bound_over (plain block) (map (plain_bound (λ (b : Bytes). b)) binds) sc)
      → EachBound see E D fields number scope binds block
  bound fields number scope [] block sc good = tt
  bound fields number scope (b ∷ rest) block sc good = (
    subst (λ (x : Bytes). GoodLife x (sorts number) (plain block)) (same_bound b)
        (subst (λ (s : Sort). GoodLife (paths.bound_name (plain_bound (λ (b : Bytes). b) b)).name s
        (plain block))
        (sym good.1.0) good.0.0),
    bound fields (number + 1) (with_bound fields number (b ∷ []) scope) rest block sc (good.0.1, good.1.1),
  )

  declares : (number : ℕ) (scope : Scope) (s : Statement Bytes T C) (rest : Statements Bytes T C)
      (sc : TypeScope)
      → Good sorts number (variables_after (plain_statement (λ (b : Bytes). b) s) (plain rest) sc)
      → Declares see E D number scope s rest
  declares number scope (declare at binding x t e) rest sc good =
      subst (λ (s : Sort). GoodLife x.name s (plain rest)) (sym good.1.0) good.0.0
  declares number scope (destructure at binds e) rest sc good =
      bound (fields_noted see (note_of e)) number scope binds rest sc good
  declares number scope other rest sc good = tt

  -- what is inside of a statement comes behind what it declares, of which there is none where something is
  -- inside
  inside_at : (number : ℕ) (s : Statement Bytes T C) (rest : Statements Bytes T C) (sc : TypeScope)
      → AreSorted sorts (number + length (variables_after (plain_statement (λ (b : Bytes). b) s)
      (plain rest) sc))
      (variables_inside (plain_statement (λ (b : Bytes). b) s) sc)
      → AreSorted sorts number (variables_inside (plain_statement (λ (b : Bytes). b) s) sc)
  inside_at number (declare at binding x t e) rest sc a = tt
  inside_at number (destructure at binds e) rest sc a = tt
  inside_at number other rest sc a =
      moved sorts (number + 0) number (variables_inside (plain_statement (λ (b : Bytes). b) other) sc)
      (sym (plus_zero number)) a

  mutual
    go : (number : ℕ) (scope : Scope) (s : Statement Bytes T C) (sc : TypeScope)
        → Good sorts number (variables_inside (plain_statement (λ (b : Bytes). b) s) sc)
        → Each see E D number scope s
    go number scope (skip at) sc good = tt
    go number scope (declare at binding x t e) sc good = tt
    go number scope (destructure at binds e) sc good = tt
    go number scope (assign at x fields e) sc good = tt
    go number scope (assign_through at x fields e) sc good = tt
    go number scope (conditional at tests) sc good = go_tests number scope tests sc good
    go number scope (conditional_else at tests block) sc good =
        let vs = variables_in_branches (plain_branches (λ (b : Bytes). b) tests) sc in
        let both = two sorts number vs (variables_in (plain block) sc) good in (
          go_tests number scope tests sc both.0,
          go_all (number + names_in_tests tests) scope block sc (
            both.1.0,
            moved sorts (number + length vs) (number + names_in_tests tests) (variables_in (plain block) sc)
                (ap (λ (n : ℕ). number + n) (many_tests tests sc)) both.1.1,
          ),
        )
    go number scope (case_of at e all) sc good = (tt, go_arms number scope (note_of e) all sc good)
    go number scope (while_loop at e block) sc good = (tt, go_all number scope block sc good)
    go number scope (for_loop at x first last block) sc good = (
      tt,
      tt,
      subst (λ (s : Sort). GoodLife x.name s (plain block)) (sym good.1.0) good.0.0,
      go_all (number + 1) (with_counter see number x.name first scope) block sc (good.0.1, good.1.1),
    )
    go number scope (borrow_in at access x r region block stop) sc good = (
      subst (λ (s : Sort). GoodLife r.name s (plain block)) (sym good.1.0) good.0.0,
      go_all (number + 1) (with_reference (mode_of access)
          (variable_of scope x.name) number r.name scope) block
          (opened_in region.name sc) (good.0.1, good.1.1),
    )
    go number scope (borrow_typed at r t m x block stop) sc good = (
      subst (λ (s : Sort). GoodLife r.name s (plain block)) (sym good.1.0) good.0.0,
      go_all (number + 1) (with_reference m (variable_of scope x.name) number r.name scope) block
          (opened_by (region_written t) sc) (good.0.1, good.1.1),
    )
    go number scope (discard at e) sc good = tt
    go number scope (return_of at e) sc good = tt

    go_all : (number : ℕ) (scope : Scope) (b : Statements Bytes T C) (sc : TypeScope)
        → Good sorts number (variables_in (plain b) sc) → EachIn see E D number scope b
    go_all number scope no_statements sc good = tt
    go_all number scope (statements s rest) sc good =
        let own = variables_after (plain_statement (λ (b : Bytes). b) s) (plain rest) sc in
        let inside = variables_inside (plain_statement (λ (b : Bytes). b) s) sc in
        let others = variables_in (plain rest) sc in
        let first = two sorts number own (inside ++ others) good in
        let second = two sorts (number + length own) inside others first.1 in
        let same : (number + length own) + length inside ≡ number + names_in s =
        let one = many_inside s (plain rest) sc in omega (arith, one) in (
          go number scope s sc (second.0.0, inside_at number s rest sc second.0.1),
          declares number scope s rest sc first.0,
          go_all (number + names_in s) (after see number s scope) rest sc (
            second.1.0,
            moved sorts ((number + length own) + length inside) (number + names_in s) others same second.1.1,
          ),
        )

    go_tests : (number : ℕ) (scope : Scope) (tests : Branches Bytes T C) (sc : TypeScope)
        → Good sorts number (variables_in_branches (plain_branches (λ (b : Bytes). b) tests) sc)
        → EachTest see E D number scope tests
    go_tests number scope no_branches sc good = tt
    go_tests number scope (branches e block rest) sc good =
        let vs = variables_in (plain block) sc in
        let ws = variables_in_branches (plain_branches (λ (b : Bytes). b) rest) sc in
        let both = two sorts number vs ws good in (
          tt,
          go_all number scope block sc both.0,
          go_tests (number + names_in_block block) scope rest sc (
            both.1.0,
            moved sorts (number + length vs) (number + names_in_block block) ws
                (ap (λ (n : ℕ). number + n) (many block sc)) both.1.1,
          ),
        )

    go_arms : (number : ℕ) (scope : Scope) (note : T) (all : Arms Bytes T C) (sc : TypeScope)
        → Good sorts number (variables_in_arms (plain_arms (λ (b : Bytes). b) all) sc)
        → EachArm see E D number scope note all
    go_arms number scope note no_arms sc good = tt
    go_arms number scope note (arms at name binds block rest) sc good =
        let own = bound_over (plain block) (map (plain_bound (λ (b : Bytes). b)) binds) sc in
        let vs = variables_in (plain block) sc in
        let ws = variables_in_arms (plain_arms (λ (b : Bytes). b) rest) sc in
        let first = two sorts number own (vs ++ ws) good in
        let second = two sorts (number + length own) vs ws first.1 in
        let here : number + length own ≡ number + length binds =
        ap (λ (n : ℕ). number + n) (many_bound (plain block) binds sc) in
        let there : (number + length own) + length vs ≡ number + (length binds + names_in_block block) =
        let inner = many block sc in
        let bounds = many_bound (plain block) binds sc in omega (arith, inner, bounds) in (
          λ tag. (
            bound (fields_told see note tag) number scope binds block sc first.0,
            go_all (number + length binds) (with_bound (fields_told see note tag) number binds scope) block sc
                (second.0.0, moved sorts (number + length own) (number + length binds) vs here second.0.1),
          ),
          go_arms (number + (length binds + names_in_block block)) scope note rest sc (
            second.1.0,
            moved sorts ((number + length own) + length vs) (number +
                (length binds + names_in_block block)) ws there
                second.1.1,
          ),
        )

  given : (number : ℕ) (scope : Scope) (fields : List Field) (parameters : List (Labelled Bytes))
      (block : Statements Bytes T C) (sc : TypeScope)
      → map (λ (p : Labelled Bytes). p.name.name) parameters ≡ map (λ (p : Field). p.name) fields
      → Good sorts number (parameters_over (plain block) parameters sc)
      → EachParameter see E D number scope fields block × (length parameters ≡ length fields)
  given number scope [] [] block sc same good = (tt, refl)
  given number scope [] (p ∷ parameters) block sc same good = absurd cc
  given number scope (f ∷ fields) [] block sc same good = absurd cc
  given number scope (f ∷ fields) (p ∷ parameters) block sc same good =
      let name : p.name.name ≡ f.name = cc in
      let names : map (λ (p : Labelled Bytes). p.name.name) parameters ≡ map (λ
      (p : Field). p.name) fields = cc in
      let rest = given (number + 1) (with_name f.name number
      (Some f.of) scope) fields parameters block sc names
      (good.0.1, good.1.1) in (
        (
          subst (λ (x : Bytes). GoodLife x (sorts number) (plain block)) name
              (subst (λ (s : Sort). GoodLife p.name.name s (plain block)) (sym good.1.0) good.0.0),
          rest.0,
        ),
        ap suc rest.1,
      )

-- ---- a function

sorted_later : (first number : ℕ) (v : Variable) (vs ws : List Variable) → first < number
    → AreSorted (sorts_from (first + 1) vs) number ws → AreSorted (sorts_from first (v ∷ vs)) number ws
sorted_later first number v vs [] less a = tt
sorted_later first number v vs (w ∷ ws) less a = (
  ap (λ (b : Bool). if b then v.sort else sorts_from (first + 1) vs number)
      (false_from_ne_true (first == number) (λ same.
      let is : first ≡ number = eqb-true first number same in omega (arith, is, less)))
      ∙ a.0,
  sorted_later first (number + 1) v vs ws (omega (arith, less)) a.1,
)

pub sorted : (first : ℕ) (vs : List Variable) → AreSorted (sorts_from first vs) first vs
sorted first [] = tt
sorted first (v ∷ vs) = (
  ap (λ (b : Bool). if b then v.sort else sorts_from (first + 1) vs first) (eq-eqb first first refl),
  sorted_later first (first + 1) v vs vs (omega arith) (sorted (first + 1) vs),
)

pub lives_numbered : {I T C : Type 0} (f : Function I T C) (parameters : List (Labelled Bytes))
    (sc : TypeScope)
    → LivesAreNumbered f parameters sc
lives_numbered f parameters sc same lives =
    let sorts = λ (k : ℕ). sorts_of f parameters sc k in
    let vs = parameters_over (plain f.body) parameters sc in
    let ws = variables_in (plain f.body) sc in
    let both = two sorts f.first vs ws (lives, sorted f.first (vs ++ ws)) in
    let here = given f.view sorts f.first [] f.parameters parameters f.body sc same both.0 in
    let count : length vs ≡ length f.parameters =
    length-map parameters (λ (p : Labelled Bytes). variable_over (plain f.body) p.name (written_sort sc p.of))
    ∙ here.1 in (
      here.0,
      go_all f.view sorts (f.first + length f.parameters) (scope_of f) f.body sc (
        both.1.0,
        moved sorts (f.first + length vs) (f.first + length f.parameters) ws (ap (λ
            (n : ℕ). f.first + n) count) both.1.1,
      ),
    )
