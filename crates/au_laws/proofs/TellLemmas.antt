-- An expression is refused for just what its first node tells that fails.
use Rattle.std.proofs.Common.{◌≡◌, ◌⊎◌, inl, inr, Bool, true, false, List, [], refl, sym, ap, subst, ◌∙◌}
use Rattle.std.proofs.Common.{Some, None, Ok, Err, neg_ℤ, if◌then◌else◌}
use Rattle.au_syntax.specs.declared.expressions.BinaryOperator.{BinaryOperator}
use Rattle.au_syntax.specs.Expressions.{Node, number, negative, text, truth, nil, path, arrow, call}
use Rattle.au_syntax.specs.Expressions.{named_call, parenthesized, dereference, borrow, borrow_part, binary}
use Rattle.au_syntax.specs.Expressions.{negation, typed, choice, no_expressions, expressions, no_arguments}
use Rattle.au_syntax.specs.Expressions.{arguments}
use Rattle.au_syntax.specs.Plain.{PlainArguments, PlainExpression, PlainExpressions}
use Rattle.au_syntax.specs.Types.{WrittenType}
use Rattle.au_types.specs.Types as mean
use Rattle.au_types.specs.Types.{Meaning}
use Rattle.au_judged_types.specs.Reasons.{Outcome, Reason, means, fails}
use Rattle.au_typing.specs.Scopes.{Scope}
use Rattle.au_typing.specs.Bare.{is_arithmetic, is_bare}
use Rattle.au_typing.specs.Calls.{by_labels, in_order}
use Rattle.au_typing.specs.Faults.{Fault, Noting, ◌>>=◌, why, reason_why}
use Rattle.au_typing.specs.Good.{IsNoting, count_of, items_of, labels_of, values_of}
use Rattle.au_typing.specs.Lookups.{outcome_noted, written_means, written_type}
use Rattle.au_typing.specs.Notes.{Mode, Note, NotedExpression, noted_at, type_of}
use Rattle.au_typing.specs.Operands.{of_one_type, paired}
use Rattle.au_typing.specs.Order.{JudgedNext, Paired, pair_mode, in_parentheses, what_is_read}
use Rattle.au_typing.specs.Order.{what_is_negated, what_is_typed, left_of_logical, right_of_logical, of_pair}
use Rattle.au_typing.specs.Order.{test_of_choice, of_choice}
use Rattle.au_typing.specs.Rules.{is_logical, noted}
use Rattle.au_typing.specs.Search.{another_number, arithmetic_note, binary_noted, comparison_note}
use Rattle.au_typing.specs.Search.{dereference_note, labelled, labelled_operands, listed, note_expression}
use Rattle.au_typing.specs.Search.{operands, other_labels}
use Rattle.au_typing.specs.SearchCalls.{call_noted}
use Rattle.au_typing.proofs.OrderLemmas.{next_fails, bind_fails, settled}
use Rattle.au_typing.proofs.Refused.{noting_is_given}
use Rattle.au_typing.proofs.Sound.{sound}
use Rattle.au_typing.proofs.SoundParts.{outcome_sound}
use Rattle.au_typing.proofs.Steps.{bind_found}
use Rattle.au_laws.specs.CallClauses.{Call, IsCall, by_label, by_position}
use Rattle.au_laws.specs.Clauses.{Clause, TellsFirst, has_type, must}
use Rattle.au_laws.specs.FirstFaults as first
use Rattle.au_laws.specs.FirstFaults.{FirstFault, Breaks, PairNoted, a_call, a_callee, a_choice, a_comparison}
use Rattle.au_laws.specs.FirstFaults.{a_copy, a_leaf, a_logical, a_negation, a_typed_one, a_written_type}
use Rattle.au_laws.specs.FirstFaults.{an_arithmetic, another_type, no_int32, no_parameter, of_a_part}
use Rattle.au_laws.specs.FirstFaults.{of_an_argument, of_the_node, parentheses}
use Rattle.au_laws.specs.NodeClauses as clauses
use Rattle.au_laws.specs.NodeClauses.{of_arithmetic, of_comparison, of_dereference}
use Rattle.au_laws.proofs.CallTellLemmas.{call_tells}
use Rattle.au_laws.proofs.ClauseLemmas.{Tells, arithmetic_tells, bind_failed, check_tells}
use Rattle.au_laws.proofs.ClauseLemmas.{comparison_tells, dereference_tells, fails_first, first_fails}
use Rattle.au_laws.proofs.ClauseLemmas.{noted_tells}
use Rattle.au_laws.proofs.NodeLemmas.{Telling, leaf_failed, leaf_fails, not_logical, one_operand, pair_given}
use Rattle.au_laws.proofs.NodeLemmas.{two_operands}
use Rattle.au_laws.proofs.PassLemmas.{EachTells, labelled_are, operands_are, ops_of, same_fault}
use Rattle.au_laws.proofs.WholeCallLemmas.{argument_fails, callee_fails, no_int32_fails, noted_call}
use Rattle.au_laws.proofs.WholeCallLemmas.{other_type_fails, rest_fails, type_fails}
use Rattle.au_types.specs.Same.{same}
use Rattle.au_typing.specs.Faults.{different}

-- ---- written types

pub not_meant : (o : Outcome Meaning) (f : Fault) → outcome_noted o ≡ Err f
    → (reason : Reason) × (o ≡ fails reason) × (f ≡ why (reason_why reason))
not_meant (means t) f h = absurd cc
not_meant (fails reason) f h = (reason, refl, sym (same_fault (why (reason_why reason)) f h))

-- ---- steps over noted operands

choice_tells : {B : Type 0} (mode : Mode) (x y : NotedExpression) (next : Note → Noting B)
    → ((n : Note) → Tells (next n) [])
    → Tells (of_one_type x y (noted mode (type_of x)) >>= next) (clauses.of_choice mode x y)
choice_tells mode x y next quiet =
    check_tells (same (type_of x) (type_of y)) (different (type_of x) (type_of y)) (noted mode (type_of x)) next
    (has_type mode (type_of x) []) (noted_tells mode (type_of x) next [] quiet)

module _ (scope : Scope) where
  -- ---- from the first fault to the search

  breaks_fail : (e : PlainExpression) (mode : Mode) (f : Fault) → Breaks scope e mode f
      → note_expression scope e mode ≡ Err f
  breaks_fail e mode f (a_leaf d m g h) = leaf_fails scope d m g h
  breaks_fail e mode f (parentheses u d m g x is h) =
      let next = λ (n : Note). Ok (parenthesized (noted_at u n) x) in
      bind_found (λ (a : NotedExpression). noted m (type_of a) >>= λ (n : Note). Ok (parenthesized (noted_at u n) a))
      (noting_is_given scope d m x is)
      ∙ first_fails (noted m (type_of x) >>= next) (has_type m (type_of x) []) g
      (noted_tells m (type_of x) next [] (λ n. refl)) h
  breaks_fail e mode f (a_copy u d m g x is h) =
      let next = λ (n : Note). Ok (dereference (noted_at u n) x) in
      bind_found (λ (a : NotedExpression). dereference_note scope m (type_of a) >>=
      λ (n : Note). Ok (dereference (noted_at u n) a))
      (noting_is_given scope d None x is)
      ∙ first_fails (dereference_note scope m (type_of x) >>= next) (of_dereference scope m (type_of x)) g
      (dereference_tells scope m (type_of x) next (λ n. refl)) h
  breaks_fail e mode f (a_negation u d m g x is h) =
      let next = λ (n : Note). Ok (negation (noted_at u n) x) in
      bind_found (λ (a : NotedExpression). noted m mean.truth >>= λ (n : Note). Ok (negation (noted_at u n) a))
      (noting_is_given scope d (Some mean.truth) x is)
      ∙ first_fails (noted m mean.truth >>= next) (has_type m mean.truth []) g
      (noted_tells m mean.truth next [] (λ n. refl)) h
  breaks_fail e mode f (a_written_type u d t m reason is) =
      bind_fails (λ (of : Meaning). note_expression scope d (Some of) >>=
      λ (a : NotedExpression). noted m of >>= λ (n : Note). Ok (typed (noted_at u n) a t))
      (ap outcome_noted is)
  breaks_fail e mode f (a_typed_one u d t m g of x is noting h) =
      let next = λ (n : Note). Ok (typed (noted_at u n) x t) in
      bind_found (λ (w : Meaning). note_expression scope d (Some w) >>= λ (a : NotedExpression). noted m w >>=
      λ (n : Note). Ok (typed (noted_at u n) a t))
      (ap outcome_noted is)
      ∙ (bind_found (λ (a : NotedExpression). noted m of >>= λ (n : Note). Ok (typed (noted_at u n) a t))
      (noting_is_given scope d (Some of) x noting)
      ∙ first_fails (noted m of >>= next) (has_type m of []) g (noted_tells m of next [] (λ n. refl)) h)
  breaks_fail e mode f (an_arithmetic u op a b m g x y arithmetic pair h) =
      let next = λ (n : Note). Ok (binary (noted_at u n) op x y) in
      settled scope u op a b m true false arithmetic (not_logical op arithmetic)
      ∙ (bind_found (λ (z : NotedExpression × NotedExpression). of_one_type z.0 z.1
      (arithmetic_note m (type_of z.0)) >>= λ (n : Note). Ok (binary (noted_at u n) op z.0 z.1))
      (pair_given scope a b m x y pair)
      ∙ first_fails (of_one_type x y (arithmetic_note m (type_of x)) >>= next) (of_arithmetic m x y) g
      (arithmetic_tells m x y next (λ n. refl)) h)
  breaks_fail e mode f (a_logical u op a b m g x y arithmetic logical left right h) =
      let next = λ (n : Note). Ok (binary (noted_at u n) op x y) in
      settled scope u op a b m false true arithmetic logical
      ∙ (bind_found (λ (l : NotedExpression). note_expression scope b (Some mean.truth) >>=
      λ (r : NotedExpression). noted m mean.truth >>= λ (n : Note). Ok (binary (noted_at u n) op l r))
      (noting_is_given scope a (Some mean.truth) x left)
      ∙ (bind_found (λ (r : NotedExpression). noted m mean.truth >>= λ (n : Note). Ok (binary (noted_at u n) op x r))
      (noting_is_given scope b (Some mean.truth) y right)
      ∙ first_fails (noted m mean.truth >>= next) (has_type m mean.truth []) g
      (noted_tells m mean.truth next [] (λ n. refl)) h))
  breaks_fail e mode f (a_comparison u op a b m g x y arithmetic logical pair h) =
      let next = λ (n : Note). Ok (binary (noted_at u n) op x y) in
      settled scope u op a b m false false arithmetic logical
      ∙ (bind_found (λ (z : NotedExpression × NotedExpression). comparison_note op m z.0 z.1 >>=
      λ (n : Note). Ok (binary (noted_at u n) op z.0 z.1))
      (pair_given scope a b None x y pair)
      ∙ first_fails (comparison_note op m x y >>= next) (of_comparison op m x y) g
      (comparison_tells op m x y next (λ n. refl)) h)
  breaks_fail e mode f (a_choice u c a b m g z x y test pair h) =
      let next = λ (n : Note). Ok (choice (noted_at u n) z x y) in
      bind_found (λ (t : NotedExpression). paired (is_bare a) (is_bare b) (note_expression scope a)
      (note_expression scope b) m >>= λ (w : NotedExpression × NotedExpression). of_one_type w.0 w.1
      (noted m (type_of w.0)) >>= λ (n : Note). Ok (choice (noted_at u n) t w.0 w.1))
      (noting_is_given scope c (Some mean.truth) z test)
      ∙ (bind_found (λ (w : NotedExpression × NotedExpression). of_one_type w.0 w.1 (noted m (type_of w.0))
      >>= λ (n : Note). Ok (choice (noted_at u n) z w.0 w.1))
      (pair_given scope a b m x y pair)
      ∙ first_fails (of_one_type x y (noted m (type_of x)) >>= next) (clauses.of_choice m x y) g
      (choice_tells m x y next (λ n. refl)) h)
  breaks_fail e mode f (a_callee d m g one is h) = callee_fails scope d m one g is h
  breaks_fail e mode f (another_type c d m one called types t s r x is b comes bare free noting none) =
      type_fails scope c d m one called types t s r x is b comes bare free noting none
  breaks_fail e mode f (no_parameter c d m one called types t s q r is b goes comes bare free other) =
      other_type_fails scope c d m one called types t s q r is b goes comes bare free other
  breaks_fail e mode f (no_int32 c d m one called types t s q r x is b goes comes bare free alone noting none) =
      no_int32_fails scope c d m one called types t s q r x is b goes comes bare free alone noting none
  breaks_fail e mode f (a_call d m g one called types s q r is b goes ends h) =
      rest_fails scope d m one called types s q r g is b goes ends h

  pub fault_fails : (e : PlainExpression) (mode : Mode) (f : Fault) → FirstFault scope e mode f
      → note_expression scope e mode ≡ Err f
  fault_fails e mode f (of_a_part c d m own g next more) =
      next_fails scope c d m own g next (fault_fails d own g more)
  fault_fails e mode f (of_an_argument c d m own g next more) =
      argument_fails scope c d m own g next (fault_fails d own g more)
  fault_fails e mode f (of_the_node d m g h) = breaks_fail d m g h

  -- ---- from the search to the first fault

  arithmetic_failed : (u : Node (Unit {0})) (op : BinaryOperator) (a b : PlainExpression) (mode : Mode)
      (f : Fault) → is_arithmetic op ≡ true → Telling scope a → Telling scope b
      → binary_noted scope true false u op (is_bare a) (is_bare b) (note_expression scope a)
      (note_expression scope b) mode ≡ Err f
      → FirstFault scope (binary u op a b) mode f
  arithmetic_failed u op a b mode f is tells_a tells_b h =
      let pairs = ap (λ (t : Bool). if t then mode else None) is in
      two_operands scope (binary u op a b) a b mode mode
      (λ z. of_one_type z.0 z.1 (arithmetic_note mode (type_of z.0)) >>= λ n. Ok (binary (noted_at u n) op z.0 z.1))
      f
      (λ d own p. of_pair u op a b d mode own (not_logical op is)
      (subst (λ (m : Mode). Paired scope a b m d own) (sym pairs) p))
      tells_a tells_b
      (λ z p failed. of_the_node (binary u op a b) mode f
      (an_arithmetic u op a b mode f z.0 z.1 is p
      (fails_first (of_one_type z.0 z.1 (arithmetic_note mode (type_of z.0)) >>=
      λ n. Ok (binary (noted_at u n) op z.0 z.1))
      (of_arithmetic mode z.0 z.1) f
      (arithmetic_tells mode z.0 z.1 (λ n. Ok (binary (noted_at u n) op z.0 z.1)) (λ n. refl)) failed)))
      h

  comparison_failed : (u : Node (Unit {0})) (op : BinaryOperator) (a b : PlainExpression) (mode : Mode)
      (f : Fault) → is_arithmetic op ≡ false → is_logical op ≡ false → Telling scope a → Telling scope b
      → binary_noted scope false false u op (is_bare a) (is_bare b) (note_expression scope a)
      (note_expression scope b) mode ≡ Err f
      → FirstFault scope (binary u op a b) mode f
  comparison_failed u op a b mode f is logical tells_a tells_b h =
      let pairs = ap (λ (t : Bool). if t then mode else None) is in
      two_operands scope (binary u op a b) a b mode None
      (λ z. comparison_note op mode z.0 z.1 >>= λ n. Ok (binary (noted_at u n) op z.0 z.1))
      f
      (λ d own p. of_pair u op a b d mode own logical
      (subst (λ (m : Mode). Paired scope a b m d own) (sym pairs) p))
      tells_a tells_b
      (λ z p failed. of_the_node (binary u op a b) mode f
      (a_comparison u op a b mode f z.0 z.1 is logical p
      (fails_first (comparison_note op mode z.0 z.1 >>= λ n. Ok (binary (noted_at u n) op z.0 z.1))
      (of_comparison op mode z.0 z.1) f
      (comparison_tells op mode z.0 z.1 (λ n. Ok (binary (noted_at u n) op z.0 z.1)) (λ n. refl)) failed)))
      h

  logical_failed : (u : Node (Unit {0})) (op : BinaryOperator) (a b : PlainExpression) (mode : Mode)
      (f : Fault) → is_arithmetic op ≡ false → is_logical op ≡ true → Telling scope a → Telling scope b
      → binary_noted scope false true u op (is_bare a) (is_bare b) (note_expression scope a)
      (note_expression scope b) mode ≡ Err f
      → FirstFault scope (binary u op a b) mode f
  logical_failed u op a b mode f is logical tells_a tells_b h =
      one_operand scope (binary u op a b) a mode (Some mean.truth)
      (λ l. note_expression scope b (Some mean.truth)
      >>= λ r. noted mode mean.truth >>= λ n. Ok (binary (noted_at u n) op l r))
      f (left_of_logical u op a b mode is logical) tells_a
      (λ x left rest. one_operand scope (binary u op a b) b mode (Some mean.truth)
      (λ r. noted mode mean.truth >>= λ n. Ok (binary (noted_at u n) op x r))
      f (right_of_logical u op a b mode x is logical left) tells_b
      (λ y right failed. of_the_node (binary u op a b) mode f
      (a_logical u op a b mode f x y is logical left right
      (fails_first (noted mode mean.truth >>= λ n. Ok (binary (noted_at u n) op x y)) (has_type mode mean.truth []) f
      (noted_tells mode mean.truth (λ n. Ok (binary (noted_at u n) op x y)) [] (λ n. refl)) failed)))
      rest)
      h

  binary_failed : (x y : Bool) (u : Node (Unit {0})) (op : BinaryOperator) (a b : PlainExpression) (mode : Mode)
      (f : Fault) → is_arithmetic op ≡ x → is_logical op ≡ y → Telling scope a → Telling scope b
      → note_expression scope (binary u op a b) mode ≡ Err f → FirstFault scope (binary u op a b) mode f
  binary_failed true y u op a b mode f is logical tells_a tells_b h =
      arithmetic_failed u op a b mode f is tells_a tells_b
      (sym (settled scope u op a b mode true false is (not_logical op is)) ∙ h)
  binary_failed false true u op a b mode f is logical tells_a tells_b h =
      logical_failed u op a b mode f is logical tells_a tells_b
      (sym (settled scope u op a b mode false true is logical) ∙ h)
  binary_failed false false u op a b mode f is logical tells_a tells_b h =
      comparison_failed u op a b mode f is logical tells_a tells_b
      (sym (settled scope u op a b mode false false is logical) ∙ h)

  choice_failed : (u : Node (Unit {0})) (c a b : PlainExpression) (mode : Mode) (f : Fault) → Telling scope c
      → Telling scope a → Telling scope b → note_expression scope (choice u c a b) mode ≡ Err f
      → FirstFault scope (choice u c a b) mode f
  choice_failed u c a b mode f tells_c tells_a tells_b h =
      one_operand scope (choice u c a b) c mode (Some mean.truth)
      (λ t. paired (is_bare a) (is_bare b) (note_expression scope a) (note_expression scope b) mode
      >>= λ w. of_one_type w.0 w.1 (noted mode (type_of w.0)) >>= λ n. Ok (choice (noted_at u n) t w.0 w.1))
      f (test_of_choice u c a b mode) tells_c
      (λ t test rest. two_operands scope (choice u c a b) a b mode mode
      (λ w. of_one_type w.0 w.1 (noted mode (type_of w.0)) >>= λ n. Ok (choice (noted_at u n) t w.0 w.1))
      f (λ d own p. of_choice u c a b d mode own t test p) tells_a tells_b
      (λ w p failed. of_the_node (choice u c a b) mode f
      (a_choice u c a b mode f t w.0 w.1 test p
      (fails_first (of_one_type w.0 w.1 (noted mode (type_of w.0)) >>= λ n. Ok (choice (noted_at u n) t w.0 w.1))
      (clauses.of_choice mode w.0 w.1) f
      (choice_tells mode w.0 w.1 (λ n. Ok (choice (noted_at u n) t w.0 w.1)) (λ n. refl)) failed)))
      rest)
      h

  typed_failed : (u : Node (Unit {0})) (e : PlainExpression) (t : WrittenType) (mode : Mode) (f : Fault)
      → Telling scope e → note_expression scope (typed u e t) mode ≡ Err f
      → FirstFault scope (typed u e t) mode f
  typed_failed u e t mode f tells h =
      by (bind_failed (written_type scope t)
      (λ of. note_expression scope e (Some of) >>= λ a. noted mode of >>= λ n. Ok (typed (noted_at u n) a t)) f h)
    where
      by : (written_type scope t ≡ Err f)
          ⊎ ((of : Meaning) × (written_type scope t ≡ Ok of)
          × ((note_expression scope e (Some of) >>= λ a. noted mode of >>= λ n. Ok (typed (noted_at u n) a t))
          ≡ Err f)) → FirstFault scope (typed u e t) mode f
      by (inl failed) =
          let k = not_meant (written_means scope t) f failed in
          subst (λ g. FirstFault scope (typed u e t) mode g) (sym k.2)
          (of_the_node (typed u e t) mode (why (reason_why k.0)) (a_written_type u e t mode k.0 k.1))
      by (inr (of, meant, rest)) =
          let is = outcome_sound (written_means scope t) of meant in
          one_operand scope (typed u e t) e mode (Some of)
          (λ a. noted mode of >>= λ n. Ok (typed (noted_at u n) a t)) f
          (what_is_typed u e t mode of is) tells
          (λ x noting failed. of_the_node (typed u e t) mode f
          (a_typed_one u e t mode f of x is noting
          (fails_first (noted mode of >>= λ n. Ok (typed (noted_at u n) x t)) (has_type mode of []) f
          (noted_tells mode of (λ n. Ok (typed (noted_at u n) x t)) [] (λ n. refl)) failed)))
          rest

  only_failed : {A : Type 0} (r : Noting A) (g : A → NotedExpression) (f : Fault)
      → (r >>= λ x. Ok (g x)) ≡ Err f → r ≡ Err f
  only_failed (Ok x) g f h = absurd (never (g x) h)
    where
      never : (y : NotedExpression) → ◌≡◌ {A = Noting NotedExpression} (Ok y) (Err f) → ⊥
      never y h = cc
  only_failed (Err fault) g f h = ap Err (same_fault fault f h)

  mutual
    pub tells : (e : PlainExpression) (mode : Mode) (f : Fault) → note_expression scope e mode ≡ Err f
        → FirstFault scope e mode f
    tells (number u l) mode f h = leaf_failed scope (number u l) mode f refl h
    tells (negative u l) mode f h = leaf_failed scope (negative u l) mode f refl h
    tells (text u t) mode f h = leaf_failed scope (text u t) mode f refl h
    tells (truth u b) mode f h = leaf_failed scope (truth u b) mode f refl h
    tells (nil u) mode f h = leaf_failed scope (nil u) mode f refl h
    tells (path u x fields) mode f h = leaf_failed scope (path u x fields) mode f refl h
    tells (arrow u x fields) mode f h = leaf_failed scope (arrow u x fields) mode f refl h
    tells (borrow u m x) mode f h = leaf_failed scope (borrow u m x) mode f refl h
    tells (borrow_part u x fields) mode f h = leaf_failed scope (borrow_part u x fields) mode f refl h
    tells (call u g es c) mode f h =
        call_tells scope (call u g es c) mode
        (record { name = g.name; takes = in_order (count_of es); mistaken = another_number; args = items_of es })
        f (by_position u g es c) (all_tell es)
        (ap (call_noted scope g.name (in_order (count_of es)) another_number mode) (sym (operands_are scope es))
        ∙ only_failed (call_noted scope g.name (in_order (count_of es)) another_number mode (operands scope es))
        (λ z. call (noted_at u z.0) g (listed z.1) tt) f h)
    tells (named_call u g es c) mode f h =
        call_tells scope (named_call u g es c) mode
        (record { name = g.name; takes = by_labels (labels_of es); mistaken = other_labels; args = values_of es })
        f (by_label u g es c) (all_labelled_tell es)
        (ap (call_noted scope g.name (by_labels (labels_of es)) other_labels mode) (sym (labelled_are scope es))
        ∙ only_failed
        (call_noted scope g.name (by_labels (labels_of es)) other_labels mode (labelled_operands scope es))
        (λ z. named_call (noted_at u z.0) g (labelled es z.1) tt) f h)
    tells (parenthesized u e) mode f h =
        one_operand scope (parenthesized u e) e mode mode
        (λ a. noted mode (type_of a) >>= λ n. Ok (parenthesized (noted_at u n) a)) f
        (in_parentheses u e mode) (tells e)
        (λ x is failed. of_the_node (parenthesized u e) mode f
        (parentheses u e mode f x is
        (fails_first (noted mode (type_of x) >>= λ n. Ok (parenthesized (noted_at u n) x))
        (has_type mode (type_of x) []) f
        (noted_tells mode (type_of x) (λ n. Ok (parenthesized (noted_at u n) x)) [] (λ n. refl)) failed)))
        h
    tells (dereference u e) mode f h =
        one_operand scope (dereference u e) e mode None
        (λ a. dereference_note scope mode (type_of a) >>= λ n. Ok (dereference (noted_at u n) a)) f
        (what_is_read u e mode) (tells e)
        (λ x is failed. of_the_node (dereference u e) mode f
        (a_copy u e mode f x is
        (fails_first (dereference_note scope mode (type_of x) >>= λ n. Ok (dereference (noted_at u n) x))
        (of_dereference scope mode (type_of x)) f
        (dereference_tells scope mode (type_of x) (λ n. Ok (dereference (noted_at u n) x)) (λ n. refl)) failed)))
        h
    tells (negation u e) mode f h =
        one_operand scope (negation u e) e mode (Some mean.truth)
        (λ a. noted mode mean.truth >>= λ n. Ok (negation (noted_at u n) a)) f
        (what_is_negated u e mode) (tells e)
        (λ x is failed. of_the_node (negation u e) mode f
        (a_negation u e mode f x is
        (fails_first (noted mode mean.truth >>= λ n. Ok (negation (noted_at u n) x)) (has_type mode mean.truth []) f
        (noted_tells mode mean.truth (λ n. Ok (negation (noted_at u n) x)) [] (λ n. refl)) failed)))
        h
    tells (typed u e t) mode f h = typed_failed u e t mode f (tells e) h
    tells (binary u op a b) mode f h =
        binary_failed (is_arithmetic op) (is_logical op) u op a b mode f refl refl (tells a) (tells b) h
    tells (choice u c a b) mode f h = choice_failed u c a b mode f (tells c) (tells a) (tells b) h

    all_tell : (es : PlainExpressions) → EachTells scope (items_of es)
    all_tell no_expressions = tt
    all_tell (expressions e es) = (tells e, all_tell es)

    all_labelled_tell : (es : PlainArguments) → EachTells scope (values_of es)
    all_labelled_tell no_arguments = tt
    all_labelled_tell (arguments label e es) = (tells e, all_labelled_tell es)
