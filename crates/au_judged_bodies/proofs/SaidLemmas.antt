-- What the notes of a good body say of variables.
use Rattle.std.proofs.Common.{◌≡◌, ℕ, suc, ◌+◌, Bool, true, false, List, [], ◌∷◌, ◌++◌, length, map, Option}
use Rattle.std.proofs.Common.{Some, None}
use Rattle.std.proofs.Common.{Ok, Err, refl, sym, ap, subst, ◌∙◌, arith, if◌then◌else◌}
use Rattle.std.proofs.lemmas.List.{length-map}
use Rattle.std.specs.Str.{bytes_eq}
use Rattle.au_type_texts.specs.Types.{ClosedType}
use Rattle.au_types.specs.declared.types.Region.TheVariants as regions
use Rattle.au_types.specs.Types as mean
use Rattle.au_types.specs.Types.{Meaning}
use Rattle.au_types.proofs.SameLemmas.{same_is}
use Rattle.au_matching.specs.Universes as universe
use Rattle.au_judged_types.specs.Judging.{refers}
use Rattle.au_judged_types.specs.Reasons.{Outcome, means, fails}
use Rattle.au_names.specs.Importing.{given_name}
use Rattle.au_lives.specs.declared.lives.Sort.{Sort}
use Rattle.au_lives.specs.declared.lives.Sort.TheVariants as sort
use Rattle.au_lives.specs.Lives as life
use Rattle.au_lives.specs.Paths.{access_of}
use Rattle.au_lives.specs.Refusals as refusals
use Rattle.au_meaning.specs.Expressions.{note_of}
use Rattle.au_meaning.specs.Meanings.{scope_of}
use Rattle.au_meaning.specs.Names as meaning
use Rattle.au_meaning.specs.Names.{names_in, names_in_block, names_in_tests}
use Rattle.au_meaning.specs.Statements as meant
use Rattle.au_meaning.specs.Statements.{fields_noted, fields_told, with_counter}
use Rattle.au_meaning.specs.Views.{Field, Function, View}
use Rattle.au_program_lives.specs.Scopes.{TypeScope, opened_by, opened_in}
use Rattle.au_program_lives.specs.Sorts as lives
use Rattle.au_program_lives.specs.Sorts.{judged_sort, reference_sort, region_written, sort_of, written_sort}
use Rattle.au_program_lives.specs.Variables.{bound_over, parameters_over, variables_after, variables_in}
use Rattle.au_program_lives.specs.Variables.{variables_in_arms}
use Rattle.au_program_lives.specs.Variables.{variable_over, variables_in_branches, variables_inside}
use Rattle.au_syntax.specs.declared.types.Access.{Access}
use Rattle.au_syntax.specs.declared.types.Access.TheVariants as access
use Rattle.au_syntax.specs.Names.{Placed}
use Rattle.au_syntax.specs.Plain.{Bytes, PlainStatements, plain_arms, plain_bound, plain_branches}
use Rattle.au_syntax.specs.Plain.{plain_statement}
use Rattle.au_syntax.specs.Statements.{skip, declare, destructure}
use Rattle.au_syntax.specs.Statements.{assign, assign_through, conditional, conditional_else, case_of}
use Rattle.au_syntax.specs.Statements.{while_loop, for_loop, borrow_in, borrow_typed, discard, return_of}
use Rattle.au_syntax.specs.Statements.{no_statements, statements, no_branches, branches, no_arms, arms}
use Rattle.au_syntax.specs.Types.{Bound, Labelled, WrittenType, named, reference}
use Rattle.au_typing.specs.Bodies.{generics_in, outer_scope, with_parameters, with_result}
use Rattle.au_typing.specs.Faults.{◌>>=◌, Noting}
use Rattle.au_typing.specs.Good.{AllGood}
use Rattle.au_typing.specs.InScope.{after, fixed_variable, is_var, with_bound, with_reference, with_typed}
use Rattle.au_typing.specs.InScope.{with_variable}
use Rattle.au_typing.specs.Lookups.{is_free_in, outcome_noted, variable_of, written_means, written_type}
use Rattle.au_typing.specs.Notes.{Note, NotedExpression, type_of}
use Rattle.au_typing.specs.Parts.{borrow_type, heads_of, mode_for}
use Rattle.au_typing.specs.Rules.{is_integer}
use Rattle.au_typing.specs.Scopes.{Case, Scope, Typed, Variable}
use Rattle.au_typing.specs.Statements.{AreBound, GoodArmBlocks, GoodArms, GoodBlock, GoodBranches}
use Rattle.au_typing.specs.Statements.{GoodStatement, IsReference}
use Rattle.au_typing.specs.Trees.{NotedArms, NotedBranches, NotedStatement, NotedStatements}
use Rattle.au_running_lives.specs.Counted.{SaysFree}
use Rattle.au_judged_bodies.proofs.TypedLivesExpressionLemmas.{says}
use Rattle.au_judged_bodies.proofs.NamesAheadStandLemmas.{of_field}
use Rattle.au_judged_bodies.specs.Lived.{SaysSorts}
use Rattle.au_judged_bodies.specs.Parts.{Declares, Each, EachArm, EachBound, EachIn, EachTest}
use Rattle.au_judged_bodies.specs.Sorts.{sorts_of}
use Rattle.au_judged_bodies.proofs.NumberLemmas.{AreSorted, many, many_bound, many_inside, many_tests, moved}
use Rattle.au_judged_bodies.proofs.NumberLemmas.{plain}
use Rattle.au_judged_bodies.proofs.NumberLemmas.{plus_zero, sorted}
use Rattle.au_judged_bodies.specs.Said.{SortsAreSaid, TellsFree, VariablesAgree, types_of}

-- ---- what types ask

held_is : (t : Meaning) → life.is_free (lives.held_sort t) ≡ false
held_is (mean.writes t region) = refl
held_is other = refl

sort_is : (sc : TypeScope) (t : Meaning) → life.is_free (sort_of sc t) ≡ lives.is_free_in sc t
sort_is sc t = by (lives.is_free_in sc t)
  where
    by : (b : Bool) → life.is_free (if b then sort.Free else lives.held_sort t) ≡ b
    by true = refl
    by false = held_is t

-- a written type asks what the type that it means says
written_is : (sc : Scope) (t : WrittenType) (of : Meaning) → written_type sc t ≡ Ok of
    → life.is_free (written_sort (types_of sc) t) ≡ is_free_in sc of
written_is sc t of formed = by (written_means sc t) refl formed
  where
    by : (o : Outcome Meaning) → written_means sc t ≡ o → outcome_noted o ≡ Ok of
        → life.is_free (judged_sort (types_of sc) (written_means sc t)) ≡ is_free_in sc of
    by (means u) is same =
        let one : u ≡ of = cc in
        ap (λ (o : Outcome Meaning). life.is_free (judged_sort (types_of sc) o)) is
        ∙ (sort_is (types_of sc) u ∙ ap (λ (m : Meaning). is_free_in sc m) one)
    by (fails why) is same = absurd cc

integer_is : (sc : Scope) (t : Meaning) → is_integer t ≡ true → true ≡ is_free_in sc t
unfolding universe.universe_of
integer_is sc (mean.integer kind) is = refl
integer_is sc other is = absurd cc

reference_is : (sc : Scope) (a : Access) (of : Meaning) (region : Bytes)
    → life.is_free (reference_sort a) ≡ is_free_in sc (refers a of (regions.Named region))
unfolding universe.universe_of
reference_is sc access.Read of region = refl
reference_is sc access.Write of region = refl

mode_is : (a : Access) → access_of (mode_for a) ≡ a
mode_is access.Read = refl
mode_is access.Write = refl

region_is : (sc : Scope) (t : WrittenType) (region : Bytes) (of : Meaning) → IsReference sc t region of
    → opened_by (region_written t) (types_of sc) ≡ opened_in region (types_of sc)
region_is sc (named name args) region of is = absurd is
region_is sc (reference at a target name) region of is = ap (λ (r : Bytes). opened_in r (types_of sc)) is.2

-- the name of the variable to which a field is bound
given_is : (name : Placed Bytes) (alias : Option (Placed Bytes))
    → given_name (record { name = name; alias = alias }) ≡ meaning.bound_name
    (record { name = name; alias = alias })
given_is name None = refl
given_is name (Some other) = refl

-- what is written for each field that is bound is a type
abbrev AreWritten : (WrittenType → Noting Meaning) → List (Bound Bytes) → Type 0
AreWritten read [] = Unit {0}
AreWritten read (b ∷ rest) = ((of : Meaning) × (read b.of ≡ Ok of)) × AreWritten read rest

written_each : (sc : Scope) (parts : List Typed) (binds : List (Bound Bytes)) → AreBound sc parts binds
    → AreWritten (λ t. written_type sc t) binds
written_each sc parts [] are = tt
written_each sc parts (b ∷ rest) are = ((are.0.of, are.0.formed), written_each sc parts rest are.1)

-- ---- lists of variables

parts_sorted : (sorts : ℕ → Sort) (number : ℕ) (vs ws : List refusals.Variable)
    → AreSorted sorts number (vs ++ ws)
    → AreSorted sorts number vs × AreSorted sorts (number + length vs) ws
parts_sorted sorts number [] ws a = (tt, moved sorts number (number + 0) ws (plus_zero number) a)
parts_sorted sorts number (v ∷ vs) ws a =
    let rest = parts_sorted sorts (number + 1) vs ws a.1 in
    let same : (number + 1) + length vs ≡ number + suc (length vs) = omega arith in
    ((a.0, rest.0), moved sorts ((number + 1) + length vs) (number + suc (length vs)) ws same rest.1)

module _ (sorts : ℕ → Sort) where
  -- one variable more agrees
  one_more : (sc : Scope) (scope : meaning.Scope) (x : Bytes) (t : Meaning) (assignable : Bool) (number : ℕ)
      (of : Option ClosedType) → VariablesAgree sorts sc scope → life.is_free (sorts number) ≡ is_free_in sc t
      → VariablesAgree sorts (with_variable (record { name = x; of = t; assignable = assignable }) sc)
      (meaning.with_name x number of scope)
  one_more sc scope x t assignable number of agree said y v there =
      by (bytes_eq x y) there
    where
      by : (b : Bool)
          → (if b then Some (record { name = x; number = number; of = of }) else meaning.variable_of scope y)
          ≡ Some v
          → (one : Variable)
          × ((if b then Some (record { name = x; of = t; assignable = assignable }) else variable_of sc y) ≡
          Some one)
          × (life.is_free (sorts v.number) ≡ is_free_in sc one.of)
      by true there =
          let is : record { name = x; number = number; of = of } ≡ v = cc in (
            record { name = x; of = t; assignable = assignable },
            refl,
            subst (λ (w : meaning.Variable). life.is_free (sorts w.number) ≡ is_free_in sc t) is said,
          )
      by false there = agree y v there

-- ---- statements

module _ {I : Type 0} (see : View I Note (Unit {0})) (sorts : ℕ → Sort) where
  abbrev E : meaning.Scope → NotedExpression → Type 0
  E scope e = SaysSorts sorts see scope e

  abbrev U : ℕ → meaning.Scope → Bytes → NotedStatements → Type 0
  U number scope x block = Unit {0}

  expression : (sc : Scope) (scope : meaning.Scope) (e : NotedExpression) → TellsFree see sc
      → VariablesAgree sorts sc scope → AllGood sc e → SaysSorts sorts see scope e
  expression sc scope e tells agree good x v there =
      let a = agree x v there in
      subst (λ (free : Bool). SaysFree see x free e) (sym a.2) (says see sc tells x a.0 a.1 e good)

  -- of names nothing is asked
  bounds : (fields : Option (List Field)) (number : ℕ) (scope : meaning.Scope) (binds : List (Bound Bytes))
      (block : NotedStatements) → EachBound see E U fields number scope binds block
  bounds fields number scope [] block = tt
  bounds fields number scope (b ∷ rest) block =
      (tt, bounds fields (number + 1) (meaning.with_bound fields number (b ∷ []) scope) rest block)

  declares : (number : ℕ) (scope : meaning.Scope) (s : NotedStatement) (rest : NotedStatements)
      → Declares see E U number scope s rest
  declares number scope (declare at binding x t e) rest = tt
  declares number scope (destructure at binds e) rest = bounds (fields_noted see
      (note_of e)) number scope binds rest
  declares number scope other rest = tt

  -- A scope in which types are judged as in another, with variables that agree.
  record Goes (sc more : Scope) (scope : meaning.Scope) : Type 0 where
    pub agree : VariablesAgree sorts more scope
    pub tells : TellsFree see more
    pub types : types_of more ≡ types_of sc

  -- fields that are bound
  bound : (fields : Option (List Field)) (number : ℕ) (scope : meaning.Scope) (binds : List (Bound Bytes))
      (block : PlainStatements) (sc : Scope) → TellsFree see sc → VariablesAgree sorts sc scope
      → AreWritten (λ t. written_type sc t) binds
      → AreSorted sorts number (bound_over block (map (plain_bound (λ (b : Bytes). b)) binds) (types_of sc))
      → Goes sc (with_bound binds sc) (meaning.with_bound fields number binds scope)
  bound fields number scope [] block sc tells agree are asked = record {
    agree = agree;
    tells = tells;
    types =
        refl;
  }
  bound fields number scope (b ∷ rest) block sc tells agree are asked =
      let t = are.0.0 in
      let name = given_name b.name in
      let more = with_variable (record { name = name; of = t; assignable = false }) sc in
      let is : life.is_free (sorts number) ≡ is_free_in sc t = ap life.is_free asked.0
      ∙ written_is sc b.of t are.0.1 in
      let agree1 = one_more sorts sc scope name t false number (of_field fields b) agree is in
      let agree2 : VariablesAgree sorts more (meaning.with_bound fields number (b ∷ []) scope) =
      subst (λ (n : Bytes). VariablesAgree sorts more (meaning.with_name n number (of_field fields b) scope))
      (given_is b.name.name b.name.alias) agree1 in
      let others = bound fields (number + 1) (meaning.with_bound fields number
      (b ∷ []) scope) rest block more tells
      agree2 are.1 asked.1 in
      subst (λ (n : Noting Meaning). Goes sc (with_bound rest (with_typed name false n sc))
      (meaning.with_bound fields (number + 1) rest (meaning.with_bound fields number (b ∷ []) scope)))
      (sym are.0.1)
      (record { agree = others.agree; tells = others.tells; types = others.types })

  -- behind a statement
  behind : (number : ℕ) (scope : meaning.Scope) (s : NotedStatement) (rest : PlainStatements) (sc : Scope)
      → TellsFree see sc → VariablesAgree sorts sc scope → GoodStatement s sc
      → AreSorted sorts number (variables_after (plain_statement (λ (b : Bytes). b) s) rest (types_of sc))
      → Goes sc (after s sc) (meant.after see number s scope)
  behind number scope (declare at binding x t e) rest sc tells agree good asked =
      let of = good.of in
      let is : life.is_free (sorts number) ≡ is_free_in sc of = ap life.is_free asked.0
      ∙ written_is sc t of good.formed in
      subst (λ (n : Noting Meaning). Goes sc (with_typed x.name (is_var binding) n sc)
      (meant.after see number (declare at binding x t e) scope)) (sym good.formed)
      (record {
        agree = one_more sorts sc scope x.name of (is_var binding) number (see.type_of (note_of e)) agree is;
        tells = tells;
        types = refl;
      })
  behind number scope (destructure at binds e) rest sc tells agree good asked =
      bound (fields_noted see (note_of e)) number scope binds rest sc tells agree
      (written_each sc good.fields binds good.bound) asked
  behind number scope other rest sc tells agree good asked = record {
    agree = agree;
    tells = tells;
    types =
        refl;
  }

  -- what is inside of a statement comes behind what it declares, of which there is none where something is insid
  -- what is inside of a statement comes behind what it declares, of which there is none where something is inside
  inside_at : (number : ℕ) (s : NotedStatement) (rest : PlainStatements) (sc : TypeScope)
      → AreSorted sorts (number + length (variables_after (plain_statement (λ (b : Bytes). b) s) rest sc))
      (variables_inside (plain_statement (λ (b : Bytes). b) s) sc)
      → AreSorted sorts number (variables_inside (plain_statement (λ (b : Bytes). b) s) sc)
  inside_at number (declare at binding x t e) rest sc a = tt
  inside_at number (destructure at binds e) rest sc a = tt
  inside_at number other rest sc a =
      moved sorts (number + 0) number (variables_inside (plain_statement (λ (b : Bytes). b) other) sc)
      (sym (plus_zero number)) a

  mutual
    go : (number : ℕ) (scope : meaning.Scope) (s : NotedStatement) (sc : Scope) → TellsFree see sc
        → VariablesAgree sorts sc scope → GoodStatement s sc
        → AreSorted sorts number (variables_inside (plain_statement (λ (b : Bytes). b) s) (types_of sc))
        → Each see E U number scope s
    go number scope (skip at) sc tells agree good asked = tt
    go number scope (declare at binding x t e) sc tells agree good asked = expression sc scope e tells agree
        good.wants.0
    go number scope (destructure at binds e) sc tells agree good asked = expression sc scope e tells agree
        good.wants.0
    go number scope (assign at x fields e) sc tells agree good asked = expression sc scope e tells agree
        good.wants.0
    go number scope (assign_through at x fields e) sc tells agree good asked =
        expression sc scope e tells agree good.wants.0
    go number scope (conditional at tests) sc tells agree good asked =
        go_tests number scope tests sc tells agree good asked
    go number scope (conditional_else at tests block) sc tells agree good asked =
        let vs = variables_in_branches (plain_branches (λ (b : Bytes). b) tests) (types_of sc) in
        let both = parts_sorted sorts number vs (variables_in (plain block) (types_of sc)) asked in (
          go_tests number scope tests sc tells agree good.0 both.0,
          go_all (number + names_in_tests tests) scope block sc tells agree good.1
              (moved sorts (number + length vs) (number + names_in_tests tests) (variables_in (plain block)
              (types_of sc))
              (ap (λ (n : ℕ). number + n) (many_tests tests (types_of sc))) both.1),
        )
    go number scope (case_of at e all) sc tells agree good asked = (
      expression sc scope e tells agree good.0.wants.0,
      go_arms number scope (note_of e) all sc good.0.cases tells agree good.0.good good.1 asked,
    )
    go number scope (while_loop at e block) sc tells agree good asked = (
      expression sc scope e tells agree good.0.0,
      go_all number scope block sc tells agree good.1 asked,
    )
    go number scope (for_loop at x first last block) sc tells agree good asked =
        let t = type_of first in
        let is : life.is_free (sorts number) ≡ is_free_in sc t =
        ap life.is_free asked.0 ∙ integer_is sc t good.0.integer in (
          expression sc scope first tells agree good.0.good_first,
          expression sc scope last tells agree good.0.good_last,
          tt,
          go_all (number + 1) (with_counter see number x.name first scope) block
              (with_variable (fixed_variable x.name t) sc) tells
              (one_more sorts sc scope x.name t false number (see.type_of
              (note_of first)) agree is) good.1 asked.1,
        )
    go number scope (borrow_in at a x r region block stop) sc tells agree good asked =
        let t = borrow_type (mode_for a) region.name good.0 in
        let is : life.is_free (sorts number) ≡ is_free_in sc t =
        ap life.is_free asked.0
        ∙ (reference_is sc a good.0 region.name
        ∙ ap (λ (b : Access). is_free_in sc (refers b good.0 (regions.Named region.name))) (sym
        (mode_is a))) in (
          tt,
          go_all (number + 1)
              (meaning.with_reference (meaning.mode_of a)
              (meaning.variable_of scope x.name) number r.name scope) block
              (with_reference r.name region.name t sc) tells
              (one_more sorts sc scope r.name t false number
              (meaning.borrowed (meaning.mode_of a) (meaning.type_in
              (meaning.variable_of scope x.name))) agree is) good.2
              asked.1,
        )
    go number scope (borrow_typed at r t m x block stop) sc tells agree good asked =
        let region = good.0 in
        let of = good.1 in
        let lends = good.2.lends in
        let one : borrow_type m region lends ≡ of = same_is (borrow_type m region lends) of good.2.is_same in
        let is : life.is_free (sorts number) ≡ is_free_in sc of =
        ap life.is_free asked.0
        ∙ (reference_is sc (access_of m) lends region ∙ ap (λ (u : Meaning). is_free_in sc u) one) in (
          tt,
          go_all (number + 1) (meaning.with_reference m
              (meaning.variable_of scope x.name) number r.name scope) block
              (with_reference r.name region of sc) tells
              (one_more sorts sc scope r.name of false number
              (meaning.borrowed m (meaning.type_in (meaning.variable_of scope x.name))) agree is) good.3
              (subst (λ (ts : TypeScope). AreSorted sorts (number + 1) (variables_in (plain block) ts))
              (region_is sc t region of good.2.written) asked.1),
        )
    go number scope (discard at e) sc tells agree good asked = expression sc scope e tells agree good.0.0
    go number scope (return_of at e) sc tells agree good asked = expression sc scope e tells agree good.0

    go_all : (number : ℕ) (scope : meaning.Scope) (b : NotedStatements) (sc : Scope) → TellsFree see sc
        → VariablesAgree sorts sc scope → GoodBlock b sc
        → AreSorted sorts number (variables_in (plain b) (types_of sc)) → EachIn see E U number scope b
    go_all number scope no_statements sc tells agree good asked = tt
    go_all number scope (statements s rest) sc tells agree good asked =
        let own = variables_after (plain_statement (λ (b : Bytes). b) s) (plain rest) (types_of sc) in
        let inside = variables_inside (plain_statement (λ (b : Bytes). b) s) (types_of sc) in
        let others = variables_in (plain rest) (types_of sc) in
        let first = parts_sorted sorts number own (inside ++ others) asked in
        let second = parts_sorted sorts (number + length own) inside others first.1 in
        let same : (number + length own) + length inside ≡ number + names_in s =
        let one = many_inside s (plain rest) (types_of sc) in omega (arith, one) in
        let goes = behind number scope s (plain rest) sc tells agree good.0 first.0 in (
          go number scope s sc tells agree good.0 (inside_at number s (plain rest) (types_of sc) second.0),
          declares number scope s rest,
          go_all (number + names_in s) (meant.after see number s scope) rest
              (after s sc) goes.tells goes.agree good.2
              (subst (λ (ts : TypeScope). AreSorted sorts (number + names_in s) (variables_in
              (plain rest) ts))
              (sym goes.types)
              (moved sorts ((number + length own) + length inside)
              (number + names_in s) others same second.1)),
        )

    go_tests : (number : ℕ) (scope : meaning.Scope) (tests : NotedBranches) (sc : Scope) → TellsFree see sc
        → VariablesAgree sorts sc scope → GoodBranches tests sc
        → AreSorted sorts number (variables_in_branches (plain_branches (λ (b : Bytes). b) tests)
        (types_of sc))
        → EachTest see E U number scope tests
    go_tests number scope no_branches sc tells agree good asked = tt
    go_tests number scope (branches e block rest) sc tells agree good asked =
        let vs = variables_in (plain block) (types_of sc) in
        let ws = variables_in_branches (plain_branches (λ (b : Bytes). b) rest) (types_of sc) in
        let both = parts_sorted sorts number vs ws asked in (
          expression sc scope e tells agree good.0.0,
          go_all number scope block sc tells agree good.1 both.0,
          go_tests (number + names_in_block block) scope rest sc tells agree good.2
              (moved sorts (number + length vs) (number + names_in_block block) ws
              (ap (λ (n : ℕ). number + n) (many block (types_of sc))) both.1),
        )

    go_arms : (number : ℕ) (scope : meaning.Scope) (note : Note) (all : NotedArms) (sc : Scope)
        (cases : List Case)
        → TellsFree see sc → VariablesAgree sorts sc scope → GoodArms sc cases (heads_of all)
        → GoodArmBlocks all sc
        → AreSorted sorts number (variables_in_arms (plain_arms (λ (b : Bytes). b) all) (types_of sc))
        → EachArm see E U number scope note all
    go_arms number scope note no_arms sc cases tells agree heads good asked = tt
    go_arms number scope note (arms at name binds block rest) sc cases tells agree heads good asked =
        let own = bound_over (plain block) (map (plain_bound (λ (b : Bytes). b)) binds) (types_of sc) in
        let vs = variables_in (plain block) (types_of sc) in
        let ws = variables_in_arms (plain_arms (λ (b : Bytes). b) rest) (types_of sc) in
        let first = parts_sorted sorts number own (vs ++ ws) asked in
        let second = parts_sorted sorts (number + length own) vs ws first.1 in
        let here : number + length own ≡ number + length binds =
        ap (λ (n : ℕ). number + n) (many_bound (plain block) binds (types_of sc)) in
        let there : (number + length own) + length vs ≡ number + (length binds + names_in_block block) =
        let inner = many block (types_of sc) in
        let bounds = many_bound (plain block) binds (types_of sc) in omega (arith, inner, bounds) in (
          λ tag.
              let fields = fields_told see note tag in
              let goes = bound fields number scope binds (plain block) sc tells agree
              (written_each sc heads.0.one.fields binds heads.0.bound) first.0 in (
                bounds fields number scope binds block,
                go_all (number + length binds) (meaning.with_bound fields number binds scope) block
                    (with_bound binds sc)
                    goes.tells goes.agree good.0
                    (subst (λ (ts : TypeScope). AreSorted sorts (number + length binds) (variables_in
                    (plain block) ts))
                    (sym goes.types) (moved sorts (number + length own)
                    (number + length binds) vs here second.0)),
              ),
          go_arms (number + (length binds + names_in_block block)) scope note rest sc cases tells agree
              heads.1 good.1
              (moved sorts ((number + length own) + length vs) (number +
              (length binds + names_in_block block)) ws there
              second.1),
        )

  -- the scope of a body begins with parameters
  given : (number : ℕ) (scope : meaning.Scope) (fields : List Field) (parameters : List (Labelled Bytes))
      (body : PlainStatements) (sc more : Scope)
      → map (λ (p : Labelled Bytes). p.name.name) parameters ≡ map (λ (p : Field). p.name) fields
      → with_parameters parameters sc ≡ Ok more → TellsFree see sc → VariablesAgree sorts sc scope
      → AreSorted sorts number (parameters_over body parameters (types_of sc))
      → Goes sc more (meaning.with_parameters number fields scope)
  given number scope [] [] body sc more same formed tells agree asked =
      let is : sc ≡ more = cc in
      subst (λ (s : Scope). Goes sc s scope) is (record { agree = agree; tells = tells; types = refl })
  given number scope [] (p ∷ parameters) body sc more same formed tells agree asked = absurd cc
  given number scope (f ∷ fields) [] body sc more same formed tells agree asked = absurd cc
  given number scope (f ∷ fields) (p ∷ parameters) body sc more same formed tells agree asked =
      by (written_type sc p.of) refl formed (λ t. given (number + 1)
      (meaning.with_name f.name number (Some f.of) scope) fields parameters body
      (with_variable (fixed_variable p.name.name t) sc) more names)
    where
      name : p.name.name ≡ f.name
      name = cc

      names : map (λ (p : Labelled Bytes). p.name.name) parameters ≡ map (λ (p : Field). p.name) fields
      names = cc

      by : (n : Noting Meaning) → written_type sc p.of ≡ n
          → (n >>= (λ of. with_parameters parameters (with_variable
          (fixed_variable p.name.name of) sc))) ≡ Ok more
          → ((t : Meaning) → with_parameters parameters (with_variable
          (fixed_variable p.name.name t) sc) ≡ Ok more
          → TellsFree see sc
          → VariablesAgree sorts (with_variable (fixed_variable p.name.name t) sc)
          (meaning.with_name f.name number (Some f.of) scope)
          → AreSorted sorts (number + 1) (parameters_over body parameters (types_of sc))
          → Goes (with_variable (fixed_variable p.name.name t) sc) more
          (meaning.with_parameters (number + 1) fields (meaning.with_name f.name number (Some f.of) scope)))
          → Goes sc more (meaning.with_parameters number (f ∷ fields) scope)
      by (Ok t) is formed rest =
          let said : life.is_free (sorts number) ≡ is_free_in sc t = ap life.is_free asked.0
          ∙ written_is sc p.of t is in
          let agree1 = one_more sorts sc scope p.name.name t false number (Some f.of) agree said in
          let agree2 = subst (λ (n : Bytes). VariablesAgree sorts (with_variable
          (fixed_variable p.name.name t) sc)
          (meaning.with_name n number (Some f.of) scope)) name agree1 in
          let goes = rest t formed tells agree2 asked.1 in
          record { agree = goes.agree; tells = goes.tells; types = goes.types }
      by (Err fault) is formed rest = absurd cc

-- the scope of a body has the variables of its parameters
two_steps : (n : Noting Scope) (t : WrittenType) (scope : Scope) → (n >>= (λ sc. with_result t sc)) ≡ Ok scope
    → (mid : Scope) × (n ≡ Ok mid) × (with_result t mid ≡ Ok scope)
two_steps (Ok mid) t scope formed = (mid, refl, formed)
two_steps (Err fault) t scope formed = absurd cc

result_is : (mid scope : Scope) (n : Noting Meaning) → (n >>= (λ of. Ok
    (record mid { result = of }))) ≡ Ok scope
    → (of : Meaning) × (record mid { result = of } ≡ scope)
result_is mid scope (Ok of) formed = (of, cc)
result_is mid scope (Err fault) formed = absurd cc

pub sorts_said : {I : Type 0} (f : Function I Note (Unit {0})) → SortsAreSaid f
sorts_said f outside generics header good same tells =
    let outer = outer_scope outside (generics_in outside generics) in
    let sorts = λ (k : ℕ). sorts_of f header.parameters (types_of outer) k in
    let vs = parameters_over (plain f.body) header.parameters (types_of outer) in
    let ws = variables_in (plain f.body) (types_of outer) in
    let both = parts_sorted sorts f.first vs ws (sorted f.first (vs ++ ws)) in
    let two = two_steps (with_parameters header.parameters outer) header.result good.scope good.formed in
    let goes = given f.view sorts f.first [] f.parameters header.parameters
    (plain f.body) outer two.0 same two.1 tells
    (λ x v there. absurd cc) both.0 in
    let last = result_is two.0 good.scope (written_type two.0 header.result) two.2 in
    let ends : Goes f.view sorts outer (record two.0 { result = last.0 }) (scope_of f) =
    record { agree = goes.agree; tells = goes.tells; types = goes.types } in
    let body = subst (λ (sc : Scope). Goes f.view sorts outer sc (scope_of f)) last.1 ends in
    let count : length vs ≡ length f.parameters =
    length-map header.parameters
    (λ (p : Labelled Bytes). variable_over (plain f.body) p.name (written_sort (types_of outer) p.of))
    ∙ (sym (length-map header.parameters (λ (p : Labelled Bytes). p.name.name))
    ∙ (ap (λ (ns : List Bytes). length ns) same ∙ length-map f.parameters (λ (p : Field). p.name))) in
    go_all f.view sorts (f.first + length f.parameters)
    (scope_of f) f.body good.scope body.tells body.agree good.good
    (subst (λ (ts : TypeScope). AreSorted sorts (f.first + length f.parameters) (variables_in
    (plain f.body) ts))
    (sym body.types)
    (moved sorts (f.first + length vs) (f.first + length f.parameters) ws (ap (λ
    (n : ℕ). f.first + n) count) both.1))
