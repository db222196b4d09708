-- What the calls of a good block put stands over the type parameters in scope, where what is seen outside of
-- functions stands.
use Rattle.std.proofs.Common.{◌≡◌, ◌⊎◌, inl, inr, Bool, true, false, cond, List, [], ◌∷◌, ◌++◌, Option}
use Rattle.std.proofs.Common.{None, Some, Ok, Err, refl, sym, ap, subst}
use Rattle.std.specs.Prelude.{Contains, find, is_some, option_and_then, unwrap_or}
use Rattle.std.specs.Option.{option_map, option_or}
use Rattle.std.specs.Str.{bytes_eq}
use Rattle.std.proofs.lemmas.List.Elements.{Contains-append_cases}
use Rattle.std.proofs.lemmas.Option.{none-some, same_Some}
use Rattle.au_base.specs.declared.kinds.IntKind.{IntKind}
use Rattle.au_base.proofs.ListLemmas.{nothing_there, Contains-cases}
use Rattle.au_syntax.specs.declared.declarations.Universe.{Universe}
use Rattle.au_syntax.specs.declared.expressions.BinaryOperator.{BinaryOperator}
use Rattle.au_syntax.specs.declared.expressions.BorrowMode.{BorrowMode}
use Rattle.au_syntax.specs.declared.expressions.BorrowMode.TheVariants.{Read, Write, Reborrow}
use Rattle.au_syntax.specs.declared.types.Access.{Access}
use Rattle.au_syntax.specs.declared.types.Access.TheVariants as access
use Rattle.au_syntax.specs.Expressions.{number, negative, text, truth, nil, path, arrow, call, named_call}
use Rattle.au_syntax.specs.Expressions.{parenthesized, dereference, borrow, borrow_part, binary, negation}
use Rattle.au_syntax.specs.Expressions.{typed, choice, no_expressions, expressions, no_arguments, arguments}
use Rattle.au_syntax.specs.Names.{Placed}
use Rattle.au_syntax.specs.Plain.{Bytes}
use Rattle.au_syntax.specs.Statements.{skip, declare, destructure, assign, assign_through, conditional}
use Rattle.au_syntax.specs.Statements.{conditional_else, case_of, while_loop, for_loop, borrow_in}
use Rattle.au_syntax.specs.Statements.{borrow_typed, discard, return_of, no_statements, statements}
use Rattle.au_syntax.specs.Statements.{no_branches, branches, no_arms, arms}
use Rattle.au_syntax.specs.Types.{Bound, WrittenType, named, reference}
use Rattle.au_types.specs.declared.headings.Head.{Head}
use Rattle.au_types.specs.declared.parameters.Parameter.{Parameter}
use Rattle.au_types.specs.declared.types.DeclAt.{DeclAt}
use Rattle.au_types.specs.declared.types.Region.{Region}
use Rattle.au_types.specs.declared.types.Region.TheVariants as regions
use Rattle.au_types.specs.Types as mean
use Rattle.au_types.specs.Types.{Meaning}
use Rattle.au_matching.specs.Substituted.{argument_substituted}
use Rattle.au_matching.proofs.SubstitutedLemmas.{stays}
use Rattle.au_matching.specs.Forming.{StandsOver, argument_formed, fits_in_kind, is_formed}
use Rattle.au_matching.specs.Universes.{of_parameter}
use Rattle.au_matching.proofs.LawLemmas.{well_formed_stands}
use Rattle.au_matching.proofs.SubstitutingFormedLemmas.{formed_kept}
use Rattle.au_judged_types.specs.Judging.{refers}
use Rattle.au_judged_types.specs.Reasons.{Outcome, means, fails}
use Rattle.au_judged_types.proofs.AgreementLemmas.{judged_is_meant}
use Rattle.au_judged_types.specs.Bounds.{Bounded, parameters}
use Rattle.au_names.specs.Importing.{given_name}
use Rattle.au_typing.specs.Scopes.{Outside, Scope, Typed, Variable}
use Rattle.au_typing.specs.Bare.{is_arithmetic, is_bare}
use Rattle.au_typing.specs.Faults.{Noting}
use Rattle.au_typing.specs.Good.{AllGood, AllGoodIn, AllGoodLabelled, GoodBinary, GoodBorrow, GoodPath}
use Rattle.au_typing.specs.Good.{PairedModes, count_of, items_of, labels_of, shown, values_of}
use Rattle.au_typing.specs.Lookups.{IsPart, target_behind, field_type, outcome_noted, parameters_in}
use Rattle.au_typing.specs.Lookups.{type_of_name, value_type, variable_of, variable_type, written_means}
use Rattle.au_typing.specs.Lookups.{written_type}
use Rattle.au_typing.specs.Notes.{Mode, Note, NotedArguments, NotedExpression, NotedExpressions}
use Rattle.au_typing.specs.Notes.{note_of, type_of}
use Rattle.au_typing.specs.Rules.{is_logical}
use Rattle.au_typing.specs.InScope.{after, fixed_variable, is_var, with_bound, with_reference, with_typed}
use Rattle.au_typing.specs.InScope.{with_variable}
use Rattle.au_typing.specs.Parts.{access_of, borrow_type, lent, mode_for}
use Rattle.au_typing.specs.Statements.{GoodArmBlocks, GoodBlock, GoodBranches, GoodStatement, IsReference}
use Rattle.au_typing.specs.Trees.{NotedArms, NotedBranches, NotedStatement, NotedStatements}
use Rattle.au_closed_trees.specs.Calls.{calls_in, calls_in_all, calls_in_arguments, calls_in_arms}
use Rattle.au_closed_trees.specs.Calls.{calls_in_block, calls_in_branches, calls_in_statement}
use Rattle.au_closing_laws.specs.Targets.{Call}
use Rattle.au_closing_laws.specs.Standing.{OutsideStands}
use Rattle.au_closing_laws.proofs.StandLemmas.{EachLasts, EachMode, ModeStands}
use Rattle.au_closing_laws.proofs.StandLemmas.{ValuesStand, by_labels_well, call_stands}
use Rattle.au_closing_laws.proofs.StandLemmas.{in_order_well, named_stand}

-- a call, as it is listed
abbrev listed : Note → Unit {0} → Bytes → List Call
listed note c name = (note, name) ∷ []

-- what stands over no type parameter stands over any
pub weaken : (heads : List (DeclAt × Head)) (params : List Parameter) (t : Meaning) → StandsOver heads [] t →
    StandsOver heads params t
weaken heads params t stands =
    subst (StandsOver heads params) (stays t)
    (formed_kept fits_in_kind fits_in_kind heads [] params [] (λ name some. absurd (none_here some)) kept t stands)
  where
    none_here : is_some (of_parameter None) ≡ true → ⊥
    none_here e = cc

    kept : (wanted : Universe) (one : mean.Argument) → argument_formed fits_in_kind heads [] one ≡ true →
        fits_in_kind wanted one ≡ true → fits_in_kind wanted (argument_substituted [] one) ≡ true
    kept wanted (mean.of_type u) formed fit = fit
    kept wanted (mean.in_region region) formed fit = fit

abbrev kept_ok : Noting Meaning → Option Meaning
kept_ok (Ok t) = Some t
kept_ok (Err why) = None

-- a written type that means something stands
formed_stands : (sc : Scope) (t : WrittenType) (of : Meaning) → written_type sc t ≡ Ok of →
    StandsOver sc.outside.heads (parameters_in sc) of
formed_stands sc t of e = by (written_means sc t) refl e
  where
    by : (o : Outcome Meaning) → written_means sc t ≡ o → outcome_noted o ≡ Ok of →
        StandsOver sc.outside.heads (parameters_in sc) of
    by (fails why) is e = absurd (none-some of (ap kept_ok e))
    by (means u) is e =
        subst (StandsOver sc.outside.heads (parameters_in sc)) (same_Some u of (ap kept_ok e))
        (well_formed_stands sc.outside.heads (parameters_in sc) u
        (judged_is_meant sc.outside.heads (parameters_in sc) sc.regions sc.outside.visible t u is).1)

module _ (outside : Outside) (generics : List Bounded) (known : OutsideStands outside) where
  abbrev Stands : Meaning → Type 0
  Stands t = StandsOver outside.heads (parameters generics) t

  abbrev WantedStands : Mode → Type 0
  WantedStands mode = ModeStands outside.heads (parameters generics) mode

  -- what a call puts stands
  abbrev pub IsFine : Call → Type 0
  IsFine one = ValuesStand outside.heads (parameters generics) (unwrap_or one.0.call [])

  abbrev AllFine : List Call → Type 0
  AllFine calls = (one : Call) → Contains calls one → IsFine one

  -- what is in scope stands
  pub record ScopeStands (sc : Scope) : Type 0 where
    pub of_outside : sc.outside ≡ outside
    pub of_generics : sc.generics ≡ generics
    pub variables : (name : Bytes) (v : Variable) → variable_of sc name ≡ Some v → Stands v.of
    pub result : Stands sc.result

  none_fine : AllFine []
  none_fine one there = absurd (nothing_there one there)

  both_fine : (xs ys : List Call) → AllFine xs → AllFine ys → AllFine (xs ++ ys)
  both_fine xs ys left right one there = by (Contains-append_cases xs ys one there)
    where
      by : Contains xs one ⊎ Contains ys one → IsFine one
      by (inl here) = left one here
      by (inr behind) = right one behind

  one_fine : (here : Call) (rest : List Call) → IsFine here → AllFine rest → AllFine (here ∷ rest)
  one_fine here rest fine others one there = by (Contains-cases here rest one there)
    where
      by : (here ≡ one) ⊎ Contains rest one → IsFine one
      by (inl is) = subst IsFine is fine
      by (inr behind) = others one behind

  -- ---- in a scope

  module _ (sc : Scope) (stands : ScopeStands sc) where
    pub written_stands : (t : WrittenType) (of : Meaning) → written_type sc t ≡ Ok of → Stands of
    written_stands t of e =
        subst (λ g. StandsOver outside.heads (parameters g) of) stands.of_generics
        (subst (λ (o : Outside). StandsOver o.heads (parameters sc.generics) of) stands.of_outside
        (formed_stands sc t of e))

    variable_stands : (name : Bytes) (t : Meaning) → variable_type sc name ≡ Some t → Stands t
    variable_stands name t e = by (variable_of sc name) refl e
      where
        by : (o : Option Variable) → variable_of sc name ≡ o → option_map (λ (v : Variable). v.of) o ≡ Some t → Stands t
        by None is e = absurd (none-some t e)
        by (Some v) is e = subst Stands (same_Some v.of t e) (stands.variables name v is)

    value_stands : (name : Bytes) (t : Meaning) → value_type sc name ≡ Some t → Stands t
    value_stands name t e = by (variable_type sc name) refl e
      where
        by : (o : Option Meaning) → variable_type sc name ≡ o → option_or o (sc.outside.constant name)
            ≡ Some t → Stands t
        by (Some u) is e = subst Stands (same_Some u t e) (variable_stands name u is)
        by None is e =
            weaken outside.heads (parameters generics) t
            (known.constants name t (subst (λ (o : Outside). o.constant name ≡ Some t) stands.of_outside e))

    field_stands : (t : Meaning) (name : Bytes) (next : Meaning) → field_type sc t name ≡ Some next →
        Stands t → Stands next
    field_stands t name next e whole = by (sc.outside.fields t) refl e
      where
        by : (o : Option (List Typed)) → sc.outside.fields t ≡ o → option_and_then (type_of_name name) o
            ≡ Some next → Stands next
        by None is e = absurd (none-some next e)
        by (Some fields) is e =
            named_stand outside.heads (parameters generics) name fields next e
            (known.fields (parameters generics) t fields
            (subst (λ (o : Outside). o.fields t ≡ Some fields) stands.of_outside is) whole)

    part_stands : (fields : List (Placed Bytes)) (t part : Meaning) → IsPart sc t fields part → Stands t → Stands part
    part_stands [] t part is whole = subst Stands (sym is) whole
    part_stands (field ∷ fields) t part is whole =
        part_stands fields is.0 part is.2 (field_stands t field.name is.0 is.1 whole)

    path_stands : (fields : List (Placed Bytes)) (t part : Meaning) → GoodPath sc t fields part → Stands t → Stands part
    path_stands [] t part is whole = subst Stands (sym is) whole
    path_stands (field ∷ fields) t part is whole = part_stands (field ∷ fields) t part is.1 whole

    behind_stands : (t target : Meaning) → target_behind t ≡ Some target → Stands t → Stands target
    unfolding is_formed
    behind_stands (mean.reads t region) target e whole = subst Stands (same_Some t target e) whole
    behind_stands (mean.writes t region) target e whole = subst Stands (same_Some t target e) whole
    behind_stands mean.unit target e whole = absurd (none-some target e)
    behind_stands mean.truth target e whole = absurd (none-some target e)
    behind_stands (mean.integer kind) target e whole = absurd (none-some target e)
    behind_stands mean.text target e whole = absurd (none-some target e)
    behind_stands (mean.parameter name) target e whole = absurd (none-some target e)
    behind_stands (mean.named at args) target e whole = absurd (none-some target e)

    reads_stand : (t : Meaning) (region : Region) → Stands t → Stands (mean.reads t region)
    unfolding is_formed
    reads_stand t region whole = whole

    reads_stood : (t : Meaning) (region : Region) → Stands (mean.reads t region) → Stands t
    unfolding is_formed
    reads_stood t region whole = whole

    writes_stand : (t : Meaning) (region : Region) → Stands t → Stands (mean.writes t region)
    unfolding is_formed
    writes_stand t region whole = whole

    writes_stood : (t : Meaning) (region : Region) → Stands (mean.writes t region) → Stands t
    unfolding is_formed
    writes_stood t region whole = whole

    truth_stands : Stands mean.truth
    unfolding is_formed
    truth_stands = refl

    unit_stands : Stands mean.unit
    unfolding is_formed
    unit_stands = refl

    text_stands : Stands mean.text
    unfolding is_formed
    text_stands = refl

    integer_stands : (kind : IntKind) → Stands (mean.integer kind)
    unfolding is_formed
    integer_stands kind = refl

    refers_stand : (kind : Access) (t : Meaning) (region : Region) → Stands t → Stands (refers kind t region)
    refers_stand access.Read t region whole = reads_stand t region whole
    refers_stand access.Write t region whole = writes_stand t region whole

    borrow_stands : (m : BorrowMode) (t of : Meaning) → GoodBorrow m t of → Stands t → Stands of
    borrow_stands Read t of is whole = subst Stands (sym is) (reads_stand t regions.Anonymous whole)
    borrow_stands Write t of is whole = subst Stands (sym is) (writes_stand t regions.Anonymous whole)
    borrow_stands Reborrow t of is whole =
        subst Stands (sym is.3) (writes_stand is.0 regions.Anonymous (writes_stood is.0 is.1 (subst Stands is.2 whole)))

    lent_stands : (m : BorrowMode) (t of : Meaning) → lent m t ≡ Some of → Stands t → Stands of
    lent_stands Read t of e whole = subst Stands (same_Some t of e) whole
    lent_stands Write t of e whole = subst Stands (same_Some t of e) whole
    lent_stands Reborrow (mean.writes t region) of e whole =
        subst Stands (same_Some t of e) (writes_stood t region whole)
    lent_stands Reborrow (mean.reads t region) of e whole = absurd (none-some of e)
    lent_stands Reborrow mean.unit of e whole = absurd (none-some of e)
    lent_stands Reborrow mean.truth of e whole = absurd (none-some of e)
    lent_stands Reborrow (mean.integer kind) of e whole = absurd (none-some of e)
    lent_stands Reborrow mean.text of e whole = absurd (none-some of e)
    lent_stands Reborrow (mean.parameter name) of e whole = absurd (none-some of e)
    lent_stands Reborrow (mean.named at args) of e whole = absurd (none-some of e)

    -- the type of a note stands where what is wanted does, and so is something else
    abbrev Lasts : Note → Type 0 → Type 0
    Lasts n A = WantedStands n.mode → Stands n.of × A

    paired_last : {A B : Type 0} (first second : Bool) (mode : Mode) (a b : Note) →
        PairedModes first second mode a b → WantedStands mode → Lasts a A → Lasts b B → (Stands a.of × A)
        × (Stands b.of × B)
    paired_last true true mode a b is wanted one other =
        (one (subst WantedStands (sym is.0) wanted), other (subst WantedStands (sym is.1) wanted))
    paired_last false false mode a b is wanted one other =
        (one (subst WantedStands (sym is.0) wanted), other (subst WantedStands (sym is.1) wanted))
    paired_last true false mode a b is wanted one other =
        let last = other (subst WantedStands (sym is.0) wanted) in
        (one (subst WantedStands (sym is.1) last.0), last)
    paired_last false true mode a b is wanted one other =
        let first = one (subst WantedStands (sym is.0) wanted) in
        (first, other (subst WantedStands (sym is.1) first.0))

    -- the type of an expression, and its calls
    abbrev Holds : NotedExpression → Type 0
    Holds e = Lasts (note_of e) (AllFine (calls_in listed e))

    binary_holds : (arithmetic logical : Bool) (op : BinaryOperator) (n : Note) (a b : NotedExpression) →
        GoodBinary arithmetic logical op n a b → WantedStands n.mode → Holds a → Holds b
        → Stands n.of × AllFine (calls_in listed a) × AllFine (calls_in listed b)
    binary_holds true logical op n a b good wanted one other =
        let its = paired_last (is_bare a) (is_bare b) n.mode (note_of a) (note_of b) good.paired.modes wanted
        one other in
        (subst Stands (sym good.of) its.0.0, its.0.1, its.1.1)
    binary_holds false true op n a b good wanted one other = (
      subst Stands (sym good.of) truth_stands,
      (one (subst WantedStands (sym good.first) truth_stands)).1,
      (other (subst WantedStands (sym good.second) truth_stands)).1,
    )
    binary_holds false false op n a b good wanted one other =
        let its = paired_last (is_bare a) (is_bare b) None (note_of a) (note_of b) good.paired.modes tt one other in
        (subst Stands (sym good.of) truth_stands, its.0.1, its.1.1)

    mutual
      pub in_expression : (e : NotedExpression) → AllGood sc e → Holds e
      in_expression (number n l) good wanted = (subst Stands (sym good.1.0) (integer_stands _), none_fine)
      in_expression (negative n l) good wanted = (subst Stands (sym good.1.0) (integer_stands _), none_fine)
      in_expression (text n t) good wanted = (subst Stands (sym good.1) text_stands, none_fine)
      in_expression (truth n b) good wanted = (subst Stands (sym good.1) truth_stands, none_fine)
      in_expression (nil n) good wanted = (subst Stands (sym good.1) unit_stands, none_fine)
      in_expression (path n x fields) good wanted =
          (path_stands fields good.1.0 n.note.of good.1.2 (value_stands x.name good.1.0 good.1.1), none_fine)
      in_expression (arrow n x fields) good wanted = (
        part_stands fields good.1.1 n.note.of good.1.4.1
            (behind_stands good.1.0 good.1.1 good.1.3 (value_stands x.name good.1.0 good.1.2)),
        none_fine,
      )
      in_expression (borrow n m x) good wanted =
          (borrow_stands m good.1.0 n.note.of good.1.2 (variable_stands x.name good.1.0 good.1.1), none_fine)
      in_expression (borrow_part n x fields) good wanted = (
        subst Stands (sym good.1.6) (reads_stand good.1.2 good.1.1
            (part_stands fields good.1.0 good.1.2 good.1.5
            (reads_stood good.1.0 good.1.1 (value_stands x.name (mean.reads good.1.0 good.1.1) good.1.3)))),
        none_fine,
      )
      in_expression (parenthesized n e) good wanted =
          let its = in_expression e good.2 (subst WantedStands (sym good.1.0) wanted) in
          (subst Stands (sym good.1.1) its.0, its.1)
      in_expression (dereference n e) good wanted =
          let its = in_expression e good.2 (subst WantedStands (sym good.1.0) tt) in
          (behind_stands (type_of e) n.note.of good.1.1 its.0, its.1)
      in_expression (binary n op a b) good wanted =
          let its = binary_holds (is_arithmetic op) (is_logical op) op n.note a b good.1 wanted
          (in_expression a good.2) (in_expression b good.3) in
          (its.0, both_fine (calls_in listed a) (calls_in listed b) its.1 its.2)
      in_expression (negation n e) good wanted = (
        subst Stands (sym good.1.1) truth_stands,
        (in_expression e good.2 (subst WantedStands (sym good.1.0) truth_stands)).1,
      )
      in_expression (typed n e t) good wanted =
          let whole = written_stands t n.note.of (ap outcome_noted good.1.0) in
          (whole, (in_expression e good.2 (subst WantedStands (sym good.1.1) whole)).1)
      in_expression (choice n c a b) good wanted =
          let test = in_expression c good.2 (subst WantedStands (sym good.1.0) truth_stands) in
          let its = paired_last (is_bare a) (is_bare b) n.note.mode (note_of a) (note_of b) good.1.1.modes
          wanted (in_expression a good.3) (in_expression b good.4) in (
            subst Stands (sym good.1.2) its.0.0,
            both_fine (calls_in listed c ++ calls_in listed a) (calls_in listed b)
                (both_fine (calls_in listed c) (calls_in listed a) test.1 its.0.1) its.1.1,
          )
      in_expression (call n f es c) good wanted =
          let called = subst (λ (o : Outside). o.callable f.name ≡ Some good.0.called) stands.of_outside
          good.0.is_called in
          let its = call_stands outside.heads (parameters generics) sc n.note f.name _ (shown (items_of es))
          good.0 (λ inner. in_order_well outside.heads inner (count_of es))
          (known.takes f.name good.0.called called) (known.gives f.name good.0.called called) wanted
          (all_last es good.1) in
          (its.0, one_fine (n.note, f.name) (calls_in_all listed es) its.1 (all_fine es good.1 its.2))
      in_expression (named_call n f es c) good wanted =
          let called = subst (λ (o : Outside). o.callable f.name ≡ Some good.0.called) stands.of_outside
          good.0.is_called in
          let its = call_stands outside.heads (parameters generics) sc n.note f.name _ (shown (values_of es))
          good.0 (λ inner. by_labels_well outside.heads inner (labels_of es))
          (known.takes f.name good.0.called called) (known.gives f.name good.0.called called) wanted
          (labelled_last es good.1) in
          (its.0, one_fine (n.note, f.name) (calls_in_arguments listed es) its.1 (labelled_fine es good.1 its.2))

      all_last : (es : NotedExpressions) → AllGoodIn sc es → EachLasts outside.heads (parameters generics)
          (shown (items_of es))
      all_last no_expressions good = tt
      all_last (expressions e rest) good = ((λ wanted. (in_expression e good.0 wanted).0), all_last rest good.1)

      all_fine : (es : NotedExpressions) → AllGoodIn sc es → EachMode outside.heads (parameters generics)
          (shown (items_of es)) → AllFine (calls_in_all listed es)
      all_fine no_expressions good modes = none_fine
      all_fine (expressions e rest) good modes =
          both_fine (calls_in listed e) (calls_in_all listed rest) (in_expression e good.0 modes.0).1
          (all_fine rest good.1 modes.1)

      labelled_last : (es : NotedArguments) → AllGoodLabelled sc es →
          EachLasts outside.heads (parameters generics) (shown (values_of es))
      labelled_last no_arguments good = tt
      labelled_last (arguments label e rest) good =
          ((λ wanted. (in_expression e good.0 wanted).0), labelled_last rest good.1)

      labelled_fine : (es : NotedArguments) → AllGoodLabelled sc es →
          EachMode outside.heads (parameters generics) (shown (values_of es)) →
          AllFine (calls_in_arguments listed es)
      labelled_fine no_arguments good modes = none_fine
      labelled_fine (arguments label e rest) good modes =
          both_fine (calls_in listed e) (calls_in_arguments listed rest) (in_expression e good.0 modes.0).1
          (labelled_fine rest good.1 modes.1)

  -- ---- scopes behind statements

  pub variable_added : (v : Variable) (sc : Scope) → ScopeStands sc → Stands v.of → ScopeStands (with_variable v sc)
  variable_added v sc stands whole =
      record {
        of_outside = stands.of_outside;
        of_generics = stands.of_generics;
        variables = found;
        result =
            stands.result;
      }
    where
      by : (b : Bool) (name : Bytes) (one : Variable) →
          cond b (Some v) (find (λ (x : Variable). bytes_eq x.name name) sc.variables) ≡ Some one →
          Stands one.of
      by true name one e = subst (λ (x : Variable). Stands x.of) (same_Some v one e) whole
      by false name one e = stands.variables name one e

      found : (name : Bytes) (one : Variable) → variable_of (with_variable v sc) name ≡ Some one → Stands one.of
      found name one e = by (bytes_eq v.name name) name one e

  typed_added : (name : Bytes) (assignable : Bool) (o : Noting Meaning) (sc : Scope) → ScopeStands sc →
      ((of : Meaning) → o ≡ Ok of → Stands of) → ScopeStands (with_typed name assignable o sc)
  typed_added name assignable (Ok t) sc stands whole =
      variable_added (record { name = name; of = t; assignable = assignable }) sc stands (whole t refl)
  typed_added name assignable (Err fault) sc stands whole = stands

  bound_added : (binds : List (Bound Bytes)) (sc : Scope) → ScopeStands sc → ScopeStands (with_bound binds sc)
  bound_added [] sc stands = stands
  bound_added (b ∷ rest) sc stands =
      bound_added rest (with_typed (given_name b.name) false (written_type sc b.of) sc)
      (typed_added (given_name b.name) false (written_type sc b.of) sc stands (written_stands sc stands b.of))

  reference_added : (name region : Bytes) (of : Meaning) (sc : Scope) → ScopeStands sc → Stands of →
      ScopeStands (with_reference name region of sc)
  reference_added name region of sc stands whole =
      variable_added (fixed_variable name of) (record sc { regions = region ∷ sc.regions })
      (record {
        of_outside = stands.of_outside;
        of_generics = stands.of_generics;
        variables =
            stands.variables;
        result = stands.result;
      }) whole

  after_stands : (s : NotedStatement) (sc : Scope) → ScopeStands sc → ScopeStands (after s sc)
  after_stands (declare at binding name t e) sc stands = typed_added name.name (is_var binding)
      (written_type sc t) sc stands (written_stands sc stands t)
  after_stands (destructure at binds e) sc stands = bound_added binds sc stands
  after_stands (skip at) sc stands = stands
  after_stands (assign at x fields e) sc stands = stands
  after_stands (assign_through at x fields e) sc stands = stands
  after_stands (conditional at tests) sc stands = stands
  after_stands (conditional_else at tests b) sc stands = stands
  after_stands (case_of at e all) sc stands = stands
  after_stands (while_loop at e b) sc stands = stands
  after_stands (for_loop at n a z b) sc stands = stands
  after_stands (borrow_in at access x r region b stop) sc stands = stands
  after_stands (borrow_typed at r t mode x b stop) sc stands = stands
  after_stands (discard at e) sc stands = stands
  after_stands (return_of at e) sc stands = stands

  reference_stands : (sc : Scope) → ScopeStands sc → (t : WrittenType) (region : Bytes) (of : Meaning) →
      IsReference sc t region of → Stands of
  reference_stands sc stands (reference at kind target name) region of is =
      subst Stands (sym is.3) (refers_stand sc stands kind is.0 (regions.Named name.name)
      (written_stands sc stands target is.0 is.1))
  reference_stands sc stands (named name args) region of is = absurd is

  -- ---- statements

  mutual
    in_statement : (s : NotedStatement) (sc : Scope) → ScopeStands sc → GoodStatement s sc →
        AllFine (calls_in_statement listed s)
    in_statement (skip at) sc stands good = none_fine
    in_statement (declare at b n t e) sc stands good =
        (in_expression sc stands e good.wants.0
        (subst WantedStands (sym good.wants.1) (written_stands sc stands t good.of good.formed))).1
    in_statement (destructure at binds e) sc stands good =
        (in_expression sc stands e good.wants.0 (subst WantedStands (sym good.wants.1) tt)).1
    in_statement (assign at n fields e) sc stands good =
        (in_expression sc stands e good.wants.0
        (subst WantedStands (sym good.wants.1)
        (part_stands sc stands fields good.variable.of good.of good.part
        (stands.variables n.name good.variable good.known)))).1
    in_statement (assign_through at n fields e) sc stands good =
        (in_expression sc stands e good.wants.0 (subst WantedStands (sym good.wants.1)
        (part_stands sc stands fields good.to good.of good.part
        (writes_stood sc stands good.to good.region
        (subst Stands good.writes (stands.variables n.name good.variable good.known)))))).1
    in_statement (conditional at tests) sc stands good = in_branches tests sc stands good
    in_statement (conditional_else at tests b) sc stands good =
        both_fine (calls_in_branches listed tests) (calls_in_block listed b)
        (in_branches tests sc stands good.0) (in_block b sc stands good.1)
    in_statement (case_of at e all) sc stands good =
        both_fine (calls_in listed e) (calls_in_arms listed all)
        (in_expression sc stands e good.0.wants.0 (subst WantedStands (sym good.0.wants.1) tt)).1
        (in_arms all sc stands good.1)
    in_statement (while_loop at e b) sc stands good =
        both_fine (calls_in listed e) (calls_in_block listed b)
        (in_expression sc stands e good.0.0 (subst WantedStands (sym good.0.1) (truth_stands sc stands))).1
        (in_block b sc stands good.1)
    in_statement (for_loop at n a z b) sc stands good =
        let its = paired_last sc stands (is_bare a) (is_bare z) None (note_of a) (note_of z)
        good.0.paired.modes tt (in_expression sc stands a good.0.good_first)
        (in_expression sc stands z good.0.good_last) in
        both_fine (calls_in listed a ++ calls_in listed z) (calls_in_block listed b)
        (both_fine (calls_in listed a) (calls_in listed z) its.0.1 its.1.1)
        (in_block b (with_variable (fixed_variable n.name (type_of a)) sc)
        (variable_added (fixed_variable n.name (type_of a)) sc stands its.0.0) good.1)
    in_statement (borrow_in at access x r region b stop) sc stands good =
        let whole = lent_stands sc stands (mode_for access) good.1.variable.of good.0 good.1.lends
        (stands.variables x.name good.1.variable good.1.known) in
        in_block b (with_reference r.name region.name (borrow_type (mode_for access) region.name good.0) sc)
        (reference_added r.name region.name (borrow_type (mode_for access) region.name good.0) sc stands
        (refers_stand sc stands (access_of (mode_for access)) good.0 (regions.Named region.name) whole))
        good.2
    in_statement (borrow_typed at r t mode x b stop) sc stands good =
        in_block b (with_reference r.name good.0 good.1 sc)
        (reference_added r.name good.0 good.1 sc stands
        (reference_stands sc stands t good.0 good.1 good.2.written)) good.3
    in_statement (discard at e) sc stands good =
        (in_expression sc stands e good.0.0 (subst WantedStands (sym good.0.1) tt)).1
    in_statement (return_of at e) sc stands good =
        (in_expression sc stands e good.0 (subst WantedStands (sym good.1) stands.result)).1

    pub in_block : (b : NotedStatements) (sc : Scope) → ScopeStands sc → GoodBlock b sc →
        AllFine (calls_in_block listed b)
    in_block no_statements sc stands good = none_fine
    in_block (statements s rest) sc stands good =
        both_fine (calls_in_statement listed s) (calls_in_block listed rest) (in_statement s sc stands good.0)
        (in_block rest (after s sc) (after_stands s sc stands) good.2)

    in_branches : (tests : NotedBranches) (sc : Scope) → ScopeStands sc → GoodBranches tests sc →
        AllFine (calls_in_branches listed tests)
    in_branches no_branches sc stands good = none_fine
    in_branches (branches e b rest) sc stands good =
        both_fine (calls_in listed e ++ calls_in_block listed b) (calls_in_branches listed rest)
        (both_fine (calls_in listed e) (calls_in_block listed b)
        (in_expression sc stands e good.0.0 (subst WantedStands (sym good.0.1) (truth_stands sc stands))).1
        (in_block b sc stands good.1))
        (in_branches rest sc stands good.2)

    in_arms : (all : NotedArms) (sc : Scope) → ScopeStands sc → GoodArmBlocks all sc →
        AllFine (calls_in_arms listed all)
    in_arms no_arms sc stands good = none_fine
    in_arms (arms at n binds b rest) sc stands good =
        both_fine (calls_in_block listed b) (calls_in_arms listed rest)
        (in_block b (with_bound binds sc) (bound_added binds sc stands) good.0)
        (in_arms rest sc stands good.1)
