-- The types of good expressions are known.
use Rattle.std.proofs.Common.{◌≡◌, Bool, true, false, cond, List, [], ◌∷◌, Option, None}
use Rattle.std.proofs.Common.{Some, Ok, Err, refl, sym, ap, subst}
use Rattle.std.specs.Prelude.{find, option_and_then}
use Rattle.std.specs.Option.{option_map, option_or}
use Rattle.std.specs.Str.{bytes_eq}
use Rattle.std.proofs.lemmas.Option.{none-some, same_Some}
use Rattle.au_syntax.specs.declared.expressions.BinaryOperator.{BinaryOperator}
use Rattle.au_syntax.specs.declared.expressions.BorrowMode.{BorrowMode}
use Rattle.au_syntax.specs.declared.expressions.BorrowMode.TheVariants.{Read, Write, Reborrow}
use Rattle.au_syntax.specs.Expressions.{number, negative, text, truth, nil, path, arrow, call, named_call}
use Rattle.au_syntax.specs.Expressions.{parenthesized, dereference, borrow, borrow_part, binary, negation}
use Rattle.au_syntax.specs.Expressions.{typed, choice, no_expressions, expressions, no_arguments, arguments}
use Rattle.au_syntax.specs.Names.{Placed}
use Rattle.au_syntax.specs.Plain.{Bytes}
use Rattle.au_syntax.specs.Types.{WrittenType}
use Rattle.au_types.specs.declared.headings.Head.{Head}
use Rattle.au_types.specs.declared.parameters.Parameter.{Parameter}
use Rattle.au_types.specs.declared.types.DeclAt.{DeclAt}
use Rattle.au_types.specs.declared.types.Region.TheVariants as regions
use Rattle.au_types.specs.Types as mean
use Rattle.au_types.specs.Types.{Meaning}
use Rattle.au_judged_types.specs.Bounds.{parameters}
use Rattle.au_judged_types.specs.Reasons.{Outcome, means, fails}
use Rattle.au_judged_types.proofs.AgreementLemmas.{judged_is_meant}
use Rattle.au_running_types.specs.Running.{is_lasting}
use Rattle.au_written_types.specs.Written.{IsWritten}
use Rattle.au_written_types.proofs.MeantLemmas.{meant_written}
use Rattle.au_typing.specs.Bare.{is_arithmetic, is_bare}
use Rattle.au_typing.specs.Calls.{by_labels, in_order}
use Rattle.au_typing.specs.Faults.{Noting}
use Rattle.au_typing.specs.Good.{AllGood, AllGoodIn, AllGoodLabelled, GoodBinary, GoodBorrow, GoodPath}
use Rattle.au_typing.specs.Good.{PairedModes, count_of, items_of, labels_of, shown, values_of}
use Rattle.au_typing.specs.Lookups.{IsPart, target_behind, field_type, outcome_noted, parameters_in}
use Rattle.au_typing.specs.Lookups.{type_of_name, value_type, variable_of, variable_type, written_means, written_type}
use Rattle.au_typing.specs.Notes.{Mode, Note, NotedArguments, NotedExpression, NotedExpressions, note_of}
use Rattle.au_typing.specs.Notes.{type_of}
use Rattle.au_typing.specs.Rules.{is_logical}
use Rattle.au_typing.specs.Scopes.{Scope, Typed, Variable}
use Rattle.au_known_types.specs.Known.{EachIsKnown, IsKnownIn, ModeIsKnownIn, ScopeIsKnown}
use Rattle.au_known_types.proofs.CallLemmas.{EachLasts, by_labels_well, call_known, in_order_well, result_known}
use Rattle.au_known_types.proofs.KnownLemmas.{integer_known, reads_known, reads_parts, text_known, truth_known}
use Rattle.au_known_types.proofs.KnownLemmas.{unit_known, weakened, writes_known, writes_parts}

abbrev kept_ok : Noting Meaning → Option Meaning
kept_ok (Ok t) = Some t
kept_ok (Err fault) = None

-- a written type that means something is known, and `~` stands nowhere in it
pub written_known : (sc : Scope) (t : WrittenType) (of : Meaning) → written_type sc t ≡ Ok of
    → IsKnownIn sc of × (is_lasting of ≡ true)
written_known sc t of e = by (written_means sc t) refl e
  where
    by : (o : Outcome Meaning) → written_means sc t ≡ o → outcome_noted o ≡ Ok of
        → IsKnownIn sc of × (is_lasting of ≡ true)
    by (fails reason) is e = absurd (none-some of (ap kept_ok e))
    by (means u) is e =
        let same : u ≡ of = same_Some u of (ap kept_ok e) in
        let its = judged_is_meant sc.outside.heads (parameters_in sc) sc.regions sc.outside.visible t u is in
        let written : IsWritten sc.regions (parameters_in sc) u =
        meant_written sc.regions (parameters_in sc) sc.outside.visible sc.outside.heads t u its.0 in
        subst (λ x. IsKnownIn sc x × (is_lasting x ≡ true)) same ((its.1, written.names), written.lasting)

module _ (sc : Scope) (scope : ScopeIsKnown sc) where
  abbrev heads : List (DeclAt × Head)
  heads = sc.outside.heads

  abbrev params : List Parameter
  params = parameters_in sc

  abbrev Known : Meaning → Type 0
  Known t = IsKnownIn sc t

  abbrev Wanted : Mode → Type 0
  Wanted mode = ModeIsKnownIn sc mode

  pub variable_known : (name : Bytes) (t : Meaning) → variable_type sc name ≡ Some t
      → Known t × (is_lasting t ≡ true)
  variable_known name t e = by (variable_of sc name) refl e
    where
      by : (o : Option Variable) → variable_of sc name ≡ o → option_map (λ (v : Variable). v.of) o ≡ Some t
          → Known t × (is_lasting t ≡ true)
      by None is e = absurd (none-some t e)
      by (Some v) is e =
          subst (λ x. Known x × (is_lasting x ≡ true)) (same_Some v.of t e)
          (scope.variables name v is, scope.lasting name v is)

  pub value_known : (name : Bytes) (t : Meaning) → value_type sc name ≡ Some t → Known t × (is_lasting t ≡ true)
  value_known name t e = by (variable_type sc name) refl e
    where
      by : (o : Option Meaning) → variable_type sc name ≡ o → option_or o (sc.outside.constant name) ≡ Some t
          → Known t × (is_lasting t ≡ true)
      by (Some u) is e = subst (λ x. Known x × (is_lasting x ≡ true)) (same_Some u t e) (variable_known name u is)
      by None is e =
          let declared = scope.outside.constants name t e in
          (weakened heads params sc.regions t declared, declared.1.lasting)

  named_known : (name : Bytes) (all : List Typed) (t : Meaning) → type_of_name name all ≡ Some t
      → EachIsKnown heads params sc.regions all → Known t
  named_known name [] t e each = absurd (none-some t e)
  named_known name (one ∷ rest) t e each =
      by (bytes_eq one.name name) e (λ later. named_known name rest t later each.1)
    where
      by : (b : Bool) → option_map (λ (x : Typed). x.of)
          (cond b (Some one) (find (λ x. bytes_eq x.name name) rest)) ≡ Some t
          → (type_of_name name rest ≡ Some t → Known t) → Known t
      by true e later = subst Known (same_Some one.of t e) each.0
      by false e later = later e

  field_known : (t : Meaning) (name : Bytes) (next : Meaning) → field_type sc t name ≡ Some next → Known t
      → Known next
  field_known t name next e whole = by (sc.outside.fields t) refl e
    where
      by : (o : Option (List Typed)) → sc.outside.fields t ≡ o → option_and_then (type_of_name name) o ≡ Some next
          → Known next
      by None is e = absurd (none-some next e)
      by (Some fields) is e =
          named_known name fields next e (scope.outside.fields params sc.regions t fields is whole)

  pub part_known : (fields : List (Placed Bytes)) (t part : Meaning) → IsPart sc t fields part → Known t → Known part
  part_known [] t part is whole = subst Known (sym is) whole
  part_known (field ∷ fields) t part is whole =
      part_known fields is.0 part is.2 (field_known t field.name is.0 is.1 whole)

  path_known : (fields : List (Placed Bytes)) (t part : Meaning) → GoodPath sc t fields part → Known t → Known part
  path_known [] t part is whole = subst Known (sym is) whole
  path_known (field ∷ fields) t part is whole = part_known (field ∷ fields) t part is.1 whole

  pub behind_known : (t target : Meaning) → target_behind t ≡ Some target → Known t → Known target
  behind_known (mean.reads t region) target e whole =
      subst Known (same_Some t target e) (reads_parts heads params sc.regions t region whole).0
  behind_known (mean.writes t region) target e whole =
      subst Known (same_Some t target e) (writes_parts heads params sc.regions t region whole).0
  behind_known mean.unit target e whole = absurd (none-some target e)
  behind_known mean.truth target e whole = absurd (none-some target e)
  behind_known (mean.integer kind) target e whole = absurd (none-some target e)
  behind_known mean.text target e whole = absurd (none-some target e)
  behind_known (mean.parameter name) target e whole = absurd (none-some target e)
  behind_known (mean.named at args) target e whole = absurd (none-some target e)

  borrow_known : (m : BorrowMode) (t of : Meaning) → GoodBorrow m t of → Known t → Known of
  borrow_known Read t of is whole =
      subst Known (sym is) (reads_known heads params sc.regions t regions.Anonymous whole tt)
  borrow_known Write t of is whole =
      subst Known (sym is) (writes_known heads params sc.regions t regions.Anonymous whole tt)
  borrow_known Reborrow t of is whole =
      subst Known (sym is.3)
      (writes_known heads params sc.regions is.0 regions.Anonymous
      (writes_parts heads params sc.regions is.0 is.1 (subst Known is.2 whole)).0 tt)

  is_truth : Known mean.truth
  is_truth = truth_known heads params sc.regions

  -- ---- expressions

  abbrev Holds : Note → Type 0
  Holds n = Wanted n.mode → Known n.of

  paired_known : (first second : Bool) (mode : Mode) (a b : Note) → PairedModes first second mode a b → Wanted mode
      → Holds a → Holds b → Known a.of × Known b.of
  paired_known true true mode a b is wanted one other =
      (one (subst Wanted (sym is.0) wanted), other (subst Wanted (sym is.1) wanted))
  paired_known false false mode a b is wanted one other =
      (one (subst Wanted (sym is.0) wanted), other (subst Wanted (sym is.1) wanted))
  paired_known true false mode a b is wanted one other =
      let last = other (subst Wanted (sym is.0) wanted) in
      (one (subst Wanted (sym is.1) last), last)
  paired_known false true mode a b is wanted one other =
      let first = one (subst Wanted (sym is.0) wanted) in
      (first, other (subst Wanted (sym is.1) first))

  binary_known : (arithmetic logical : Bool) (op : BinaryOperator) (n : Note) (a b : NotedExpression)
      → GoodBinary arithmetic logical op n a b → Wanted n.mode → Holds (note_of a) → Holds (note_of b) → Known n.of
  binary_known true logical op n a b good wanted one other =
      subst Known (sym good.of)
      (paired_known (is_bare a) (is_bare b) n.mode (note_of a) (note_of b) good.paired.modes wanted one other).0
  binary_known false true op n a b good wanted one other = subst Known (sym good.of) is_truth
  binary_known false false op n a b good wanted one other = subst Known (sym good.of) is_truth

  mutual
    pub type_known : (e : NotedExpression) → AllGood sc e → Holds (note_of e)
    type_known (number n l) good wanted = subst Known (sym good.1.0) (integer_known heads params sc.regions _)
    type_known (negative n l) good wanted = subst Known (sym good.1.0) (integer_known heads params sc.regions _)
    type_known (text n t) good wanted = subst Known (sym good.1) (text_known heads params sc.regions)
    type_known (truth n b) good wanted = subst Known (sym good.1) is_truth
    type_known (nil n) good wanted = subst Known (sym good.1) (unit_known heads params sc.regions)
    type_known (path n x fields) good wanted =
        path_known fields good.1.0 n.note.of good.1.2 (value_known x.name good.1.0 good.1.1).0
    type_known (arrow n x fields) good wanted =
        part_known fields good.1.1 n.note.of good.1.4.1
        (behind_known good.1.0 good.1.1 good.1.3 (value_known x.name good.1.0 good.1.2).0)
    type_known (borrow n m x) good wanted =
        borrow_known m good.1.0 n.note.of good.1.2 (variable_known x.name good.1.0 good.1.1).0
    type_known (borrow_part n x fields) good wanted =
        let parts = reads_parts heads params sc.regions good.1.0 good.1.1
        (value_known x.name (mean.reads good.1.0 good.1.1) good.1.3).0 in
        subst Known (sym good.1.6)
        (reads_known heads params sc.regions good.1.2 good.1.1
        (part_known fields good.1.0 good.1.2 good.1.5 parts.0) parts.1)
    type_known (parenthesized n e) good wanted =
        subst Known (sym good.1.1) (type_known e good.2 (subst Wanted (sym good.1.0) wanted))
    type_known (dereference n e) good wanted =
        behind_known (type_of e) n.note.of good.1.1 (type_known e good.2 (subst Wanted (sym good.1.0) tt))
    type_known (binary n op a b) good wanted =
        binary_known (is_arithmetic op) (is_logical op) op n.note a b good.1 wanted (type_known a good.2)
        (type_known b good.3)
    type_known (negation n e) good wanted = subst Known (sym good.1.1) is_truth
    type_known (typed n e t) good wanted = (written_known sc t n.note.of (ap outcome_noted good.1.0)).0
    type_known (choice n c a b) good wanted =
        subst Known (sym good.1.2)
        (paired_known (is_bare a) (is_bare b) n.note.mode (note_of a) (note_of b) good.1.1.modes wanted
        (type_known a good.3) (type_known b good.4)).0
    type_known (call n f es c) good wanted =
        result_known sc n.note f.name (in_order (count_of es)) (shown (items_of es)) good.0
        (call_known sc n.note f.name (in_order (count_of es)) (shown (items_of es)) good.0
        (in_order_well sc (parameters good.0.called.generics) (count_of es))
        (scope.outside.takes f.name good.0.called good.0.is_called) wanted (all_last es good.1))
        (scope.outside.gives f.name good.0.called good.0.is_called)
    type_known (named_call n f es c) good wanted =
        result_known sc n.note f.name (by_labels (labels_of es)) (shown (values_of es)) good.0
        (call_known sc n.note f.name (by_labels (labels_of es)) (shown (values_of es)) good.0
        (by_labels_well sc (parameters good.0.called.generics) (labels_of es))
        (scope.outside.takes f.name good.0.called good.0.is_called) wanted (labelled_last es good.1))
        (scope.outside.gives f.name good.0.called good.0.is_called)

    pub all_last : (es : NotedExpressions) → AllGoodIn sc es → EachLasts sc (shown (items_of es))
    all_last no_expressions good = tt
    all_last (expressions e rest) good = ((λ wanted. type_known e good.0 wanted), all_last rest good.1)

    pub labelled_last : (es : NotedArguments) → AllGoodLabelled sc es → EachLasts sc (shown (values_of es))
    labelled_last no_arguments good = tt
    labelled_last (arguments label e rest) good = ((λ wanted. type_known e good.0 wanted), labelled_last rest good.1)
