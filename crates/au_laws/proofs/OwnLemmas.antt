-- A statement's own notes are refused for just what its first fault tells.
use Rattle.std.proofs.Common.{◌≡◌, ◌⊎◌, inl, inr, Bool, true, false, List, [], ◌∷◌, refl, sym, ap, subst, ◌∙◌}
use Rattle.std.proofs.Common.{Option, Some, None, Ok, Err, is_some}
use Rattle.std.proofs.lemmas.Option.{same_Some}
use Rattle.au_base.specs.declared.places.Pos.{Pos}
use Rattle.au_base.proofs.OptionLemmas.{some_of}
use Rattle.au_syntax.specs.declared.statements.Binding.{Binding}
use Rattle.au_syntax.specs.Names.{Placed}
use Rattle.au_syntax.specs.Plain.{Bytes, PlainArms, PlainBranches, PlainExpression, PlainStatement, PlainStatements}
use Rattle.au_syntax.specs.Statements.{skip, declare, destructure, assign, assign_through, conditional}
use Rattle.au_syntax.specs.Statements.{conditional_else, case_of, while_loop, for_loop, borrow_in}
use Rattle.au_syntax.specs.Statements.{borrow_typed, discard, return_of, no_branches, branches}
use Rattle.au_syntax.specs.Types.{Bound, WrittenType}
use Rattle.au_types.specs.declared.types.Region.{Region}
use Rattle.au_types.specs.Types as mean
use Rattle.au_types.specs.Types.{Meaning}
use Rattle.au_judged_types.specs.Reasons.{means}
use Rattle.au_typing.specs.Scopes.{Scope, Typed, Variable}
use Rattle.au_typing.specs.Bare.{is_bare}
use Rattle.au_typing.specs.Faults.{Fault, Noting, ◌>>=◌, check, known_or, why, reason_why, shape, not_free}
use Rattle.au_typing.specs.Faults.{integer_wanted, record_wanted, write_reference_wanted, assignable_wanted}
use Rattle.au_typing.specs.Good.{IsNoting}
use Rattle.au_typing.specs.Lookups.{IsPart, is_free_in, is_record, outcome_noted, part_type}
use Rattle.au_typing.specs.Lookups.{record_part, value_type, variable_of, written_means, written_type}
use Rattle.au_typing.specs.Notes.{Mode, NotedExpression, type_of}
use Rattle.au_typing.specs.Operands.{of_one_type, paired}
use Rattle.au_typing.specs.Order.{Paired}
use Rattle.au_typing.specs.Rules.{is_integer}
use Rattle.au_typing.specs.Search.{note}
use Rattle.au_typing.proofs.FoundParts.{part_found}
use Rattle.au_typing.proofs.Refused.{noting_is_given}
use Rattle.au_typing.proofs.Sound.{sound}
use Rattle.au_typing.proofs.SoundParts.{outcome_sound}
use Rattle.au_typing.proofs.Steps.{bind_found, bind_ok, check_found, check_ok, known_found, known_ok}
use Rattle.au_typing.specs.Parts.{heads_of}
use Rattle.au_typing.specs.DerivationSearch.{free_place, judge_assigned, judge_binds, judge_heads, judge_put}
use Rattle.au_typing.specs.DerivationSearch.{judge_union, not_assignable, not_writing, note_assigned}
use Rattle.au_typing.specs.DerivationSearch.{note_bounds, note_case, note_declared, note_discarded, note_put}
use Rattle.au_typing.specs.DerivationSearch.{note_taken, note_test, note_tests, place_type, written_through}
use Rattle.au_typing.proofs.PartLemmas.{place_found, free_found}
use Rattle.au_typing.proofs.OrderLemmas.{bind_fails}
use Rattle.au_typing.proofs.SoundPartLemmas.{part_sound, place_sound, free_sound}
use Rattle.au_laws.specs.FirstFaults.{FirstFault, PairNoted}
use Rattle.au_laws.specs.FirstInStatements.{AssignsTo, ExpressionNext, OwnFault, PutsTo, StatementBreaks}
use Rattle.au_laws.specs.FirstInStatements.{TestNext, TestsNoted, a_case, a_declared_type, a_destructuring}
use Rattle.au_laws.specs.FirstInStatements.{a_later_test, a_place_behind, a_result, an_assigned_place, bounds}
use Rattle.au_laws.specs.FirstInStatements.{of_an_expression, of_assignment, of_assignment_through, of_call}
use Rattle.au_laws.specs.FirstInStatements.{of_case_of, of_declared, of_destructured, of_for, of_return}
use Rattle.au_laws.specs.FirstInStatements.{of_tests, of_tests_with_else, of_the_statement, of_while}
use Rattle.au_laws.specs.FirstInStatements.{this_test}
use Rattle.au_laws.specs.StatementClauses.{of_assigned, of_bounds, of_case, of_free, of_put, of_taken}
use Rattle.au_laws.proofs.ClauseLemmas.{bind_failed, fails_first, first_fails}
use Rattle.au_laws.proofs.NodeLemmas.{pair_failed, pair_given, pair_made}
use Rattle.au_laws.proofs.PassLemmas.{same_fault}
use Rattle.au_laws.proofs.StatementClauseLemmas.{assigned_tells, bounds_tell, case_tells, put_tells}
use Rattle.au_laws.proofs.StatementClauseLemmas.{result_tells, taken_tells}
use Rattle.au_laws.proofs.TellLemmas.{fault_fails, not_meant, tells}

some_known : {A : Type 0} (o : Option A) (x : A) → o ≡ Some x → is_some o ≡ true
some_known o x h = ap is_some h

module _ (sc : Scope) where
  -- ---- places that may be assigned to

  pub assigned_given : (x : Bytes) (path : List (Placed Bytes)) (of : Meaning) → AssignsTo sc x path of
      → judge_assigned sc x path ≡ Ok of
  assigned_given x path of g =
      bind_found
      (λ (one : Variable). check one.assignable (shape assignable_wanted) (place_type sc one.of path)
      >>= λ (t : Meaning). free_place sc t)
      (known_found (not_assignable x (value_type sc x)) g.known)
      ∙ (bind_found (λ (t : Meaning). free_place sc t)
      (check_found (shape assignable_wanted) (place_type sc g.variable.of path) g.assignable
      ∙ place_found sc g.variable.of path of g.part)
      ∙ free_found sc of g.free)

  assigned_is : (x : Bytes) (path : List (Placed Bytes)) (of : Meaning) → judge_assigned sc x path ≡ Ok of
      → AssignsTo sc x path of
  assigned_is x path of h =
      let known = bind_ok (known_or (not_assignable x (value_type sc x)) (variable_of sc x))
      (λ (one : Variable). check one.assignable (shape assignable_wanted) (place_type sc one.of path)
      >>= λ (t : Meaning). free_place sc t) of h in
      let one : Variable = known.0 in
      let part = bind_ok (check one.assignable (shape assignable_wanted) (place_type sc one.of path))
      (λ (t : Meaning). free_place sc t) of known.2 in
      let test = check_ok one.assignable (shape assignable_wanted) (place_type sc one.of path) part.0 part.1 in
      let free = free_sound sc part.0 of part.2 in
      record {
        variable = one;
        known = known_ok (not_assignable x (value_type sc x)) (variable_of sc x) one known.1;
        assignable = test.0;
        part = subst (IsPart sc one.of path) free.1 (place_sound sc one.of path part.0 test.1);
        free = free.0;
      }

  pub put_given : (r : Bytes) (path : List (Placed Bytes)) (of : Meaning) → PutsTo sc r path of
      → judge_put sc r path ≡ Ok of
  put_given r path of g =
      bind_found
      (λ (one : Variable). known_or (shape write_reference_wanted) (written_through one.of)
      >>= λ (to : Meaning). record_part sc to path >>= λ (t : Meaning). free_place sc t)
      (known_found (not_writing r (value_type sc r)) g.known)
      ∙ (bind_found (λ (to : Meaning). record_part sc to path >>= λ (t : Meaning). free_place sc t)
      (known_found (shape write_reference_wanted) (ap written_through g.writes))
      ∙ (bind_found (λ (t : Meaning). free_place sc t)
      (check_found (shape record_wanted) (part_type sc g.to path)
      (some_known (sc.outside.fields g.to) g.fields g.is_record)
      ∙ part_found sc g.to path of g.part)
      ∙ free_found sc of g.free))

  writes_to : (t to : Meaning) → written_through t ≡ Some to → (region : Region) × (t ≡ mean.writes to region)
  writes_to (mean.writes t region) to h = (region, ap (λ u. mean.writes u region) (same_Some t to h))
  writes_to t to h = absurd cc

  put_is : (r : Bytes) (path : List (Placed Bytes)) (of : Meaning) → judge_put sc r path ≡ Ok of
      → PutsTo sc r path of
  put_is r path of h =
      let known = bind_ok (known_or (not_writing r (value_type sc r)) (variable_of sc r))
      (λ (one : Variable). known_or (shape write_reference_wanted) (written_through one.of)
      >>= λ (to : Meaning). record_part sc to path >>= λ (t : Meaning). free_place sc t) of h in
      let one : Variable = known.0 in
      let writes = bind_ok (known_or (shape write_reference_wanted) (written_through one.of))
      (λ (to : Meaning). record_part sc to path >>= λ (t : Meaning). free_place sc t) of known.2 in
      let to : Meaning = writes.0 in
      let part = bind_ok (record_part sc to path) (λ (t : Meaning). free_place sc t) of writes.2 in
      let test = check_ok (is_record sc to) (shape record_wanted) (part_type sc to path) part.0 part.1 in
      let free = free_sound sc part.0 of part.2 in
      let behind = writes_to one.of to
      (known_ok (shape write_reference_wanted) (written_through one.of) to writes.1) in
      let fields = some_of (sc.outside.fields to) test.0 in
      record {
        variable = one;
        known = known_ok (not_writing r (value_type sc r)) (variable_of sc r) one known.1;
        to = to;
        region = behind.0;
        writes = behind.1;
        fields = fields.0;
        is_record = fields.1;
        part = subst (IsPart sc to path) free.1 (part_sound sc to path part.0 test.1);
        free = free.0;
      }

  -- ---- an expression, and what follows it

  pub then_statement : (s : PlainStatement) (e : PlainExpression) (mode : Mode) (f : Fault)
      → ExpressionNext sc s e mode → note sc e mode ≡ Err f → OwnFault sc s f
  then_statement s e mode f next h = of_an_expression s e mode f next (tells sc e mode f h)

  with_expression : {A : Type 0} (s : PlainStatement) (e : PlainExpression) (mode : Mode) (f : Fault)
      (rest : NotedExpression → Noting A) → ExpressionNext sc s e mode
      → ((x : NotedExpression) → IsNoting sc e mode x → rest x ≡ Err f → StatementBreaks sc s f)
      → (note sc e mode >>= rest) ≡ Err f → OwnFault sc s f
  with_expression s e mode f rest next breaks h = by (bind_failed (note sc e mode) rest f h)
    where
      by : (note sc e mode ≡ Err f)
          ⊎ ((x : NotedExpression) × (note sc e mode ≡ Ok x) × (rest x ≡ Err f)) → OwnFault sc s f
      by (inl failed) = then_statement s e mode f next failed
      by (inr (x, noted, failed)) = of_the_statement s f (breaks x (sound sc e mode x noted) failed)

  -- ---- single statements, from the search to the first fault

  pub declared_failed : (at : Pos) (binding : Binding) (name : Placed Bytes) (t : WrittenType)
      (e : PlainExpression) (f : Fault) → note_declared sc t e ≡ Err f
      → OwnFault sc (declare at binding name t e) f
  declared_failed at binding name t e f h =
      by (bind_failed (written_type sc t) (λ of. note sc e (Some of)) f h)
    where
      by : (written_type sc t ≡ Err f)
          ⊎ ((of : Meaning) × (written_type sc t ≡ Ok of) × (note sc e (Some of) ≡ Err f))
          → OwnFault sc (declare at binding name t e) f
      by (inl failed) =
          let k = not_meant (written_means sc t) f failed in
          subst (λ g. OwnFault sc (declare at binding name t e) g) (sym k.2)
          (of_the_statement (declare at binding name t e) (why (reason_why k.0))
          (a_declared_type at binding name t e k.0 k.1))
      by (inr (of, meant, failed)) =
          then_statement (declare at binding name t e) e (Some of) f
          (of_declared at binding name t e of (outcome_sound (written_means sc t) of meant)) failed

  pub taken_failed : (at : Pos) (binds : List (Bound Bytes)) (e : PlainExpression) (f : Fault)
      → note_taken sc binds e ≡ Err f → OwnFault sc (destructure at binds e) f
  taken_failed at binds e f h =
      with_expression (destructure at binds e) e None f
      (λ a. known_or (shape record_wanted) (sc.outside.fields (type_of a))
      >>= λ fields. judge_binds sc fields binds >>= λ bound. Ok a)
      (of_destructured at binds e)
      (λ x is failed. a_destructuring at binds e f x is
      (fails_first
      (known_or (shape record_wanted) (sc.outside.fields (type_of x))
      >>= λ fields. judge_binds sc fields binds >>= λ bound. Ok x)
      (of_taken sc binds (type_of x)) f (taken_tells sc binds x) failed))
      h

  pub assigned_failed : (at : Pos) (x : Placed Bytes) (path : List (Placed Bytes)) (e : PlainExpression)
      (f : Fault) → note_assigned sc x.name path e ≡ Err f → OwnFault sc (assign at x path e) f
  assigned_failed at x path e f h =
      by (bind_failed (judge_assigned sc x.name path) (λ of. note sc e (Some of)) f h)
    where
      by : (judge_assigned sc x.name path ≡ Err f)
          ⊎ ((of : Meaning) × (judge_assigned sc x.name path ≡ Ok of) × (note sc e (Some of) ≡ Err f))
          → OwnFault sc (assign at x path e) f
      by (inl failed) =
          of_the_statement (assign at x path e) f (an_assigned_place at x path e f
          (fails_first (judge_assigned sc x.name path) (of_assigned sc x.name path) f
          (assigned_tells sc x.name path) failed))
      by (inr (of, place, failed)) =
          then_statement (assign at x path e) e (Some of) f
          (of_assignment at x path e of (assigned_is x.name path of place)) failed

  pub put_failed : (at : Pos) (r : Placed Bytes) (path : List (Placed Bytes)) (e : PlainExpression)
      (f : Fault) → note_put sc r.name path e ≡ Err f → OwnFault sc (assign_through at r path e) f
  put_failed at r path e f h =
      by (bind_failed (judge_put sc r.name path) (λ of. note sc e (Some of)) f h)
    where
      by : (judge_put sc r.name path ≡ Err f)
          ⊎ ((of : Meaning) × (judge_put sc r.name path ≡ Ok of) × (note sc e (Some of) ≡ Err f))
          → OwnFault sc (assign_through at r path e) f
      by (inl failed) =
          of_the_statement (assign_through at r path e) f (a_place_behind at r path e f
          (fails_first (judge_put sc r.name path) (of_put sc r.name path) f (put_tells sc r.name path) failed))
      by (inr (of, place, failed)) =
          then_statement (assign_through at r path e) e (Some of) f
          (of_assignment_through at r path e of (put_is r.name path of place)) failed

  pub case_failed : (at : Pos) (e : PlainExpression) (all : PlainArms) (f : Fault)
      → note_case sc e (heads_of all) ≡ Err f → OwnFault sc (case_of at e all) f
  case_failed at e all f h =
      with_expression (case_of at e all) e None f
      (λ a. judge_union sc (type_of a)
      >>= λ cases. judge_heads sc cases (heads_of all) >>= λ judged. Ok a)
      (of_case_of at e all)
      (λ x is failed. a_case at e all f x is
      (fails_first
      (judge_union sc (type_of x) >>= λ cases. judge_heads sc cases (heads_of all) >>= λ judged. Ok x)
      (of_case sc (heads_of all) (type_of x)) f (case_tells sc (heads_of all) x) failed))
      h

  pub result_failed : (at : Pos) (e : PlainExpression) (f : Fault) → note_discarded sc e ≡ Err f
      → OwnFault sc (discard at e) f
  result_failed at e f h =
      with_expression (discard at e) e None f
      (λ a. check (is_free_in sc (type_of a)) (not_free (type_of a)) (Ok a)) (of_call at e)
      (λ x is failed. a_result at e f x is
      (fails_first (check (is_free_in sc (type_of x)) (not_free (type_of x)) (Ok x)) (of_free sc (type_of x)) f
      (result_tells sc x) failed))
      h

  pub bounds_failed : (at : Pos) (name : Placed Bytes) (first last : PlainExpression) (block : PlainStatements)
      (f : Fault) → note_bounds sc first last ≡ Err f → OwnFault sc (for_loop at name first last block) f
  bounds_failed at name first last block f h =
      by (bind_failed (paired (is_bare first) (is_bare last) (note sc first) (note sc last) None)
      (λ y. of_one_type y.0 y.1 (check (is_integer (type_of y.0)) (shape integer_wanted) (Ok y))) f h)
    where
      by : (paired (is_bare first) (is_bare last) (note sc first) (note sc last) None ≡ Err f)
          ⊎ ((z : NotedExpression × NotedExpression)
          × (paired (is_bare first) (is_bare last) (note sc first) (note sc last) None ≡ Ok z)
          × (of_one_type z.0 z.1 (check (is_integer (type_of z.0)) (shape integer_wanted) (Ok z)) ≡ Err f))
          → OwnFault sc (for_loop at name first last block) f
      by (inl failed) =
          let k = pair_failed sc (is_bare first) (is_bare last) first last None f refl refl (tells sc first)
          (tells sc last) failed in
          of_an_expression (for_loop at name first last block) k.0 k.1 f
          (of_for at name first last block k.0 k.1 k.2) k.3
      by (inr (z, made, failed)) =
          of_the_statement (for_loop at name first last block) f
          (bounds at name first last block f z.0 z.1 (pair_made sc first last None z made)
          (fails_first (of_one_type z.0 z.1 (check (is_integer (type_of z.0)) (shape integer_wanted) (Ok z)))
          (of_bounds z.0 z.1) f (bounds_tell sc z) failed))

  -- which test fails
  abbrev pub TestFails : PlainBranches → Fault → Type 0
  TestFails tests f =
      (e : PlainExpression) × TestNext sc tests e × FirstFault sc e (Some mean.truth) f

  pub tests_failed : (tests : PlainBranches) (f : Fault) → note_tests sc tests ≡ Err f → TestFails tests f
  tests_failed no_branches f h = absurd (never h)
    where
      never : ◌≡◌ {A = Noting (List NotedExpression)} (Ok []) (Err f) → ⊥
      never h = cc
  tests_failed (branches e block rest) f h =
      by (tests_failed rest f)
      (bind_failed (note_test sc e) (λ a. note_tests sc rest >>= λ all. Ok (a ∷ all)) f h)
    where
      never : (all : List NotedExpression) → ◌≡◌ {A = Noting (List NotedExpression)} (Ok all) (Err f) → ⊥
      never all h = cc

      later : (x : NotedExpression) → note_test sc e ≡ Ok x → (note_tests sc rest ≡ Err f → TestFails rest f)
          → (note_tests sc rest ≡ Err f)
          ⊎ ((all : List NotedExpression) × (note_tests sc rest ≡ Ok all)
          × (◌≡◌ {A = Noting (List NotedExpression)} (Ok (x ∷ all)) (Err f)))
          → TestFails (branches e block rest) f
      later x noted more (inl failed) =
          let k = more failed in
          (k.0, a_later_test e k.0 block rest x (sound sc e (Some mean.truth) x noted) k.1, k.2)
      later x noted more (inr (all, gave, failed)) = absurd (never (x ∷ all) failed)

      by : (note_tests sc rest ≡ Err f → TestFails rest f)
          → (note_test sc e ≡ Err f)
          ⊎ ((x : NotedExpression) × (note_test sc e ≡ Ok x)
          × ((note_tests sc rest >>= λ all. Ok (x ∷ all)) ≡ Err f)) → TestFails (branches e block rest) f
      by more (inl failed) = (e, this_test e block rest, tells sc e (Some mean.truth) f failed)
      by more (inr (x, noted, failed)) =
          later x noted more (bind_failed (note_tests sc rest) (λ all. Ok (x ∷ all)) f failed)

  -- ---- tests, from the first fault to the search

  pub tests_given : (tests : PlainBranches) → TestsNoted sc tests
      → (noted : List NotedExpression) × (note_tests sc tests ≡ Ok noted)
  tests_given no_branches g = ([], refl)
  tests_given (branches e block rest) g =
      let more = tests_given rest g.1 in (
        g.0.0 ∷ more.0,
        bind_found (λ (a : NotedExpression). note_tests sc rest >>= λ (all : List NotedExpression). Ok (a ∷ all))
            (noting_is_given sc e (Some mean.truth) g.0.0 g.0.1)
            ∙ bind_found (λ (all : List NotedExpression). Ok (g.0.0 ∷ all)) more.1,
      )

  pub tests_are : (tests : PlainBranches) (noted : List NotedExpression) → note_tests sc tests ≡ Ok noted
      → TestsNoted sc tests
  tests_are no_branches noted h = tt
  tests_are (branches e block rest) noted h =
      let one = bind_ok (note_test sc e)
      (λ (a : NotedExpression). note_tests sc rest >>= λ (all : List NotedExpression). Ok (a ∷ all)) noted h
      in
      let more = bind_ok (note_tests sc rest) (λ (all : List NotedExpression). Ok (one.0 ∷ all)) noted one.2 in
      ((one.0, sound sc e (Some mean.truth) one.0 one.1), tests_are rest more.0 more.1)

  pub test_fails : (tests : PlainBranches) (e : PlainExpression) (f : Fault) → TestNext sc tests e
      → note sc e (Some mean.truth) ≡ Err f → note_tests sc tests ≡ Err f
  test_fails tests e f (this_test d block rest) h =
      bind_fails (λ (a : NotedExpression). note_tests sc rest >>= λ (all : List NotedExpression). Ok (a ∷ all)) h
  test_fails tests e f (a_later_test d g block rest x is next) h =
      bind_found (λ (a : NotedExpression). note_tests sc rest >>= λ (all : List NotedExpression). Ok (a ∷ all))
      (noting_is_given sc d (Some mean.truth) x is)
      ∙ bind_fails (λ (all : List NotedExpression). Ok (x ∷ all)) (test_fails rest g f next h)
