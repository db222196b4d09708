-- A meaning in which some calls have no rule comes to what the meaning comes to, or no rule applies.
use Rattle.std.proofs.Common.{◌≡◌, ◌⊎◌, inl, inr, ℕ, zero, suc, ◌+◌, ◌==◌, Bool, true, false, List, [], ◌∷◌, Option}
use Rattle.std.proofs.Common.{None, Some, option_map, length, refl, sym, subst, if◌then◌else◌, ℤ, pos, ◌+ℤ◌, int_lt}
use Rattle.au_base.specs.declared.kinds.IntKind.{IntKind}
use Rattle.au_effects.specs.Numbers.{number_in, same_kind, truth_in}
use Rattle.au_effects.specs.Values as values
use Rattle.au_syntax.specs.Expressions.{Expression, Expressions, Arguments, number, negative, text, truth}
use Rattle.au_syntax.specs.Expressions.{nil, path, arrow, call, named_call, parenthesized, dereference}
use Rattle.au_syntax.specs.Expressions.{borrow, borrow_part, binary, negation, typed, choice, no_expressions}
use Rattle.au_syntax.specs.Expressions.{expressions, no_arguments, arguments}
use Rattle.au_syntax.specs.Plain.{Bytes}
use Rattle.au_syntax.specs.Statements.{Statement, Statements, Branches, Arms, skip, declare, destructure}
use Rattle.au_syntax.specs.Statements.{assign, assign_through, conditional, conditional_else, case_of}
use Rattle.au_syntax.specs.Statements.{while_loop, for_loop, borrow_in, borrow_typed, discard, return_of}
use Rattle.au_syntax.specs.Statements.{no_statements, statements, no_branches, branches, no_arms, arms}
use Rattle.au_meaning.specs.Acts.{by_labels, by_position, closing, holds, tells_apart}
use Rattle.au_meaning.specs.Expressions.{Operation, acts, alone, calls, chosen, computes, compares, eval, eval_all}
use Rattle.au_meaning.specs.Expressions.{eval_named, is_and, is_or, joins, labelled, labels, note_of, operand}
use Rattle.au_meaning.specs.Expressions.{looks_into, mentions, names_of, operation_of, reaches, whole}
use Rattle.au_meaning.specs.Meanings.{begun, call_at, enters, first_world, parameters_of, returned}
use Rattle.au_meaning.specs.Meanings.{scope_of}
use Rattle.au_meaning.specs.Names.{Scope, Variable, names_in, names_in_block, names_in_tests}
use Rattle.au_meaning.specs.Names.{variable_of}
use Rattle.au_meaning.specs.Statements.{assigns}
use Rattle.au_meaning.specs.Statements.{Flow, after, and_then, both_numbers, either, empties}
use Rattle.au_meaning.specs.Statements.{falls, for_turns, lending, means_case, ranges, returns, run, run_all, run_arms}
use Rattle.au_meaning.specs.Statements.{run_block, run_tests, while_turns, with_counter, within}
use Rattle.au_meaning.specs.Ticks.{Action, Out, aborts, by_truth, cut, follows, gives, needing, no_rule}
use Rattle.au_meaning.specs.Ticks.{pure, stuck, tick, ticked, where_true, ◌>>=◌, ◌>>◌}
use Rattle.au_meaning.specs.Views.{Act, Callee, Field, Function, View, invokes, makes, ships}
use Rattle.au_meaning.specs.Worlds.{Value, World}
use Rattle.au_caps_laws.specs.Watching.{Watch, act_called, acting, enters_looking, looked_at, tested, watched_at}
use Rattle.au_caps_laws.specs.Watching.{with_callees}

-- no rule applies
abbrev pub IsStuck : {A : Type 0} → Out A → Type 0
IsStuck (gives a w left) = ⊥
IsStuck (aborts fault w left) = ⊥
IsStuck (cut w) = ⊥
IsStuck (no_rule w left) = Unit {0}

-- one thing that actions come to is the other, or no rule applies in the first
abbrev pub IsOne : {A : Type 0} → Out A → Out A → Type 0
IsOne one other = (one ≡ other) ⊎ IsStuck one

abbrev pub Alike : {A : Type 0} → Action A → Action A → Type 0
Alike m n = (w : World) (ticks : ℕ) → IsOne (m w ticks) (n w ticks)

same : {A : Type 0} (m : Action A) → Alike m m
same m w ticks = inl refl

follows_alike : {A B : Type 0} (out other : Out A) (go next : A → Action B) → IsOne out other
    → ((a : A) → Alike (go a) (next a)) → IsOne (follows out go) (follows other next)
unfolding follows
follows_alike {A} out other go next (inl is) each = subst (λ o. IsOne (follows out go) (follows o next)) is (by out)
  where
    by : (o : Out A) → IsOne (follows o go) (follows o next)
    by (gives a w left) = each a w left
    by (aborts fault w left) = inl refl
    by (cut w) = inl refl
    by (no_rule w left) = inl refl
follows_alike {A} out other go next (inr is) each = inr (by out is)
  where
    by : (o : Out A) → IsStuck o → IsStuck (follows o go)
    by (gives a w left) none = absurd none
    by (aborts fault w left) none = absurd none
    by (cut w) none = absurd none
    by (no_rule w left) none = tt

then_alike : {A B : Type 0} (m n : Action A) (go next : A → Action B) → Alike m n → ((a : A) → Alike (go a) (next a))
    → Alike (m >>= go) (n >>= next)
then_alike m n go next one each w ticks = follows_alike (m w ticks) (n w ticks) go next (one w ticks) each

and_alike : {A B : Type 0} (m n : Action A) (k l : Action B) → Alike m n → Alike k l → Alike (m >> k) (n >> l)
and_alike m n k l one two = then_alike m n (λ a. k) (λ a. l) one (λ a. two)

tick_alike : {A : Type 0} (m n : Action A) → Alike m n → Alike (tick m) (tick n)
unfolding ticked
tick_alike m n one w zero = inl refl
tick_alike m n one w (suc left) = one w left

needing_alike : {A B : Type 0} (o : Option A) (go next : A → Action B) → ((a : A) → Alike (go a) (next a))
    → Alike (needing o go) (needing o next)
needing_alike None go next each = same stuck
needing_alike (Some a) go next each = each a

where_alike : {A : Type 0} (b : Bool) (m n : Action A) → Alike m n → Alike (where_true b m) (where_true b n)
where_alike true m n one = one
where_alike false m n one = same stuck

truth_alike : {A : Type 0} (m n k l : Action A) (b : Bool) → Alike m n → Alike k l
    → Alike (by_truth m k b) (by_truth n l b)
truth_alike m n k l true one two = one
truth_alike m n k l false one two = two

chosen_alike : {A : Type 0} (m n k l : Action A) (value : Value) → Alike m n → Alike k l
    → Alike (chosen m k value) (chosen n l value)
chosen_alike m n k l value one two =
    needing_alike (truth_in value) (by_truth m k) (by_truth n l) (λ b. truth_alike m n k l b one two)

closing_alike : {A : Type 0} (m n : Action A) → Alike m n → Alike (closing m) (closing n)
closing_alike m n one =
    then_alike _ _ _ _ (same _) (λ count. then_alike m n _ _ one (λ a. same _))

if_alike : {A : Type 0} (b : Bool) (m n k l : Action A) → Alike m n → Alike k l
    → Alike (if b then m else k) (if b then n else l)
if_alike true m n k l one two = one
if_alike false m n k l one two = two

either_alike : (b : Bool) (m n k l : Action Flow) → Alike m n → Alike k l → Alike (either b m k) (either b n l)
either_alike true m n k l one two = one
either_alike false m n k l one two = two

operand_alike : (o : Option Variable) (m n : Action Value) → Alike m n → Alike (operand o m) (operand o n)
operand_alike None m n one = one
operand_alike (Some x) m n one = same _

-- ---- flows

flow_alike : (k l : Action Flow) (flow : Flow) → Alike k l → Alike (and_then k flow) (and_then l flow)
flow_alike k l falls one = one
flow_alike k l (returns value) one = same _

row_alike : (m n k l : Action Flow) → Alike m n → Alike k l → Alike (m >>= and_then k) (n >>= and_then l)
row_alike m n k l one two = then_alike m n (and_then k) (and_then l) one (λ flow. flow_alike k l flow two)

within_alike : (name count : ℕ) (m n : Action Flow) → Alike m n → Alike (within name count m) (within name count n)
within_alike name count m n one = row_alike m n (empties name count) (empties name count) one (same _)

turns_alike : (turns : ℕ) (test other : Action Value) (m n : Action Flow) → Alike test other → Alike m n
    → Alike (while_turns turns test m) (while_turns turns other n)
unfolding while_turns
turns_alike zero test other m n one two = same _
turns_alike (suc turns) test other m n one two =
    then_alike test other _ _ one (λ value.
    tick_alike _ _ (chosen_alike _ _ _ _ value
    (row_alike m n (while_turns turns test m) (while_turns turns other n) two
    (turns_alike turns test other m n one two))
    (same (pure falls))))

range_alike : (turns : ℕ) (body other : ℤ → Action Flow) (z last : ℤ) → ((y : ℤ) → Alike (body y) (other y))
    → Alike (for_turns turns body z last) (for_turns turns other z last)
unfolding for_turns
range_alike zero body other z last each = same _
range_alike (suc turns) body other z last each =
    row_alike (body z) (other z) _ _ (each z)
    (tick_alike _ _ (if_alike (int_lt z last) _ _ _ _ (range_alike turns body other (z +ℤ pos 1) last each)
    (same (pure falls))))

numbers_alike : (a b : Option (IntKind × ℤ)) (go next : IntKind → ℤ → ℤ → Action Flow)
    → ((kind : IntKind) (x y : ℤ) → Alike (go kind x y) (next kind x y))
    → Alike (both_numbers a b go) (both_numbers a b next)
numbers_alike None b go next each = same stuck
numbers_alike (Some a) None go next each = same stuck
numbers_alike (Some a) (Some b) go next each = where_alike (same_kind a.0 b.0) _ _ (each a.0 a.1 b.1)

ranges_alike : (turns : ℕ) (body other : IntKind → ℤ → Action Flow) (a b : Value)
    → ((kind : IntKind) (z : ℤ) → Alike (body kind z) (other kind z))
    → Alike (ranges turns body a b) (ranges turns other a b)
ranges_alike turns body other a b each =
    numbers_alike (number_in a) (number_in b) _ _ (λ kind first last.
    if_alike (int_lt last first) _ _ _ _ (same (pure falls))
    (range_alike turns (body kind) (other kind) first last (each kind)))

lending_alike : (opening : Action (Unit {0})) (m n : Action Flow) → Alike m n
    → Alike (lending opening m) (lending opening n)
lending_alike opening m n one =
    then_alike _ _ _ _ (same _) (λ count. and_alike _ _ _ _ (same _) (row_alike m n _ _ one (same _)))

-- ---- expressions and statements

-- what is in scope after a statement goes by notes and fields alone
after_same : {I J T C : Type 0} (see : View I T C) (callee : T → C → Bytes → Option (Callee J)) (index : ℕ)
    (s : Statement Bytes T C) (scope : Scope) → after (with_callees see callee) index s scope ≡ after see index s scope
after_same see callee index (skip at) scope = refl
after_same see callee index (declare at binding name t e) scope = refl
after_same see callee index (destructure at binds e) scope = refl
after_same see callee index (assign at x steps e) scope = refl
after_same see callee index (assign_through at r steps e) scope = refl
after_same see callee index (conditional at tests) scope = refl
after_same see callee index (conditional_else at tests block) scope = refl
after_same see callee index (case_of at e all) scope = refl
after_same see callee index (while_loop at e block) scope = refl
after_same see callee index (for_loop at name first last block) scope = refl
after_same see callee index (borrow_in at access x r region block stop) scope = refl
after_same see callee index (borrow_typed at r t mode x block stop) scope = refl
after_same see callee index (discard at e) scope = refl
after_same see callee index (return_of at e) scope = refl

module _ {I J T C : Type 0} (see : View I T C) (callee : T → C → Bytes → Option (Callee J))
    (f : J → List Value → Action Value) (g : I → List Value → Action Value)
    (each : (note : T) (c : C) (name : Bytes) (order : List Bytes → Option (List Value))
    → Alike (calls (with_callees see callee) f (callee note c name) order)
    (calls see g (see.callee note c name) order)) where
  -- the view in which other things are called
  abbrev changed : View J T C
  changed = with_callees see callee

  mentions_alike : (note : T) (o : Option Variable) (name : Bytes)
      → Alike (mentions changed note o name) (mentions see note o name)
  mentions_alike note None name = same _
  mentions_alike note (Some x) name = same _

  looks_alike : (o : Option Variable) (names : List Bytes) → Alike (looks_into changed o names) (looks_into see o names)
  looks_alike None names = same _
  looks_alike (Some x) names = same _

  reaches_alike : (o : Option Variable) (names : List Bytes) → Alike (reaches changed o names) (reaches see o names)
  reaches_alike None names = same _
  reaches_alike (Some x) names = same _

  assigns_alike : (o : Option Variable) (names : List Bytes) (value : Value)
      → Alike (assigns changed o names value) (assigns see o names value)
  assigns_alike None names value = same _
  assigns_alike (Some x) names value = same _

  joins_alike : (op : Operation) (note first : T) (a b c d : Action Value) → Alike a b → Alike c d
      → Alike (joins changed f op note first a c) (joins see g op note first b d)
  joins_alike is_and note first a b c d one two =
      then_alike a b _ _ one (λ x. tick_alike _ _ (chosen_alike c d _ _ x two (same _)))
  joins_alike is_or note first a b c d one two =
      then_alike a b _ _ one (λ x. tick_alike _ _ (chosen_alike _ _ c d x (same _) two))
  joins_alike (computes op) note first a b c d one two =
      then_alike a b _ _ one (λ x. then_alike c d _ _ two (λ y. same _))
  joins_alike (compares op) note first a b c d one two =
      then_alike a b _ _ one (λ x. then_alike c d _ _ two (λ y. same _))

  mutual
    eval_alike : (scope : Scope) (e : Expression Bytes T C) → Alike (eval changed f scope e) (eval see g scope e)
    eval_alike scope (number n l) = same _
    eval_alike scope (negative n l) = same _
    eval_alike scope (text n t) = same _
    eval_alike scope (truth n b) = same _
    eval_alike scope (nil n) = same _
    eval_alike scope (path n x []) =
        tick_alike _ _ (mentions_alike n.note (variable_of scope x.name) x.name)
    eval_alike scope (path n x (field ∷ fields)) =
        tick_alike _ _ (looks_alike (variable_of scope x.name) (names_of (field ∷ fields)))
    eval_alike scope (arrow n r fields) =
        tick_alike _ _ (then_alike _ _ _ _ (reaches_alike (variable_of scope r.name) (names_of fields)) (λ one. same _))
    eval_alike scope (call n h args c) =
        then_alike _ _ _ _ (all_alike scope args) (λ vs.
        tick_alike _ _ (each n.note c h.name (by_position vs)))
    eval_alike scope (named_call n h args c) =
        then_alike _ _ _ _ (named_alike scope args) (λ vs.
        tick_alike _ _ (each n.note c h.name (by_labels (labelled (labels args) vs))))
    eval_alike scope (parenthesized n e) = eval_alike scope e
    eval_alike scope (dereference n e) =
        then_alike _ _ _ _ (operand_alike (alone scope e) _ _ (eval_alike scope e)) (λ x. same _)
    eval_alike scope (borrow n mode x) = same _
    eval_alike scope (borrow_part n r fields) =
        tick_alike _ _ (then_alike _ _ _ _ (reaches_alike (variable_of scope r.name) (names_of fields)) (λ one. same _))
    eval_alike scope (binary n op a b) =
        joins_alike (operation_of op) n.note (note_of a) _ _ _ _ (eval_alike scope a) (eval_alike scope b)
    eval_alike scope (negation n e) = then_alike _ _ _ _ (eval_alike scope e) (λ x. same _)
    eval_alike scope (typed n e t) = eval_alike scope e
    eval_alike scope (choice n c a b) =
        then_alike _ _ _ _ (eval_alike scope c) (λ x.
        tick_alike _ _ (chosen_alike _ _ _ _ x (eval_alike scope a) (eval_alike scope b)))

    all_alike : (scope : Scope) (es : Expressions Bytes T C)
        → Alike (eval_all changed f scope es) (eval_all see g scope es)
    all_alike scope no_expressions = same _
    all_alike scope (expressions e rest) =
        then_alike _ _ _ _ (eval_alike scope e) (λ v. then_alike _ _ _ _ (all_alike scope rest) (λ vs. same _))

    named_alike : (scope : Scope) (es : Arguments Bytes T C)
        → Alike (eval_named changed f scope es) (eval_named see g scope es)
    named_alike scope no_arguments = same _
    named_alike scope (arguments label e rest) =
        then_alike _ _ _ _ (eval_alike scope e) (λ v. then_alike _ _ _ _ (named_alike scope rest) (λ vs. same _))

  whole_alike : (scope : Scope) (e : Expression Bytes T C) → Alike (whole changed f scope e) (whole see g scope e)
  whole_alike scope e = closing_alike _ _ (eval_alike scope e)

  module _ (depth : ℕ) where
    mutual
      run_alike : (index : ℕ) (scope : Scope) (s : Statement Bytes T C)
          → Alike (run changed f depth index scope s) (run see g depth index scope s)
      run_alike index scope (skip at) = same _
      run_alike index scope (declare at binding name t e) =
          then_alike _ _ _ _ (whole_alike scope e) (λ v. same _)
      run_alike index scope (destructure at binds e) = then_alike _ _ _ _ (whole_alike scope e) (λ v. same _)
      run_alike index scope (assign at x steps e) =
          then_alike _ _ _ _ (whole_alike scope e) (λ v.
          tick_alike _ _ (assigns_alike (variable_of scope x.name) (names_of steps) v))
      run_alike index scope (assign_through at r steps e) =
          then_alike _ _ _ _ (whole_alike scope e) (λ v.
          tick_alike _ _
          (then_alike _ _ _ _ (reaches_alike (variable_of scope r.name) (names_of steps)) (λ one. same _)))
      run_alike index scope (conditional at tests) = tests_alike index scope tests (pure falls) (pure falls) (same _)
      run_alike index scope (conditional_else at tests block) =
          let number = index + names_in_tests tests in
          tests_alike index scope tests _ _
          (within_alike number (names_in_block block) _ _ (statements_alike number scope block))
      run_alike index scope (case_of at e all) =
          then_alike _ _ _ _ (whole_alike scope e) (λ v.
          tick_alike _ _ (then_alike _ _ _ _ (same (tells_apart v)) (λ parts.
          arms_alike index scope (note_of e) all parts)))
      run_alike index scope (while_loop at e block) =
          turns_alike (suc depth) _ _ _ _ (whole_alike scope e)
          (within_alike index (names_in_block block) _ _ (statements_alike index scope block))
      run_alike index scope (for_loop at name first last block) =
          then_alike _ _ _ _ (whole_alike scope first) (λ a.
          then_alike _ _ _ _ (whole_alike scope last) (λ b.
          tick_alike _ _ (ranges_alike (suc depth) _ _ a b (λ kind z.
          within_alike index (1 + names_in_block block) _ _
          (and_alike _ _ _ _ (same (holds index (values.number kind z)))
          (statements_alike (index + 1) (with_counter see index name.name first scope) block))))))
      run_alike index scope (borrow_in at access x r region block stop) =
          lending_alike _ _ _
          (within_alike index (1 + names_in_block block) _ _ (statements_alike (index + 1) _ block))
      run_alike index scope (borrow_typed at r t mode x block stop) =
          lending_alike _ _ _
          (within_alike index (1 + names_in_block block) _ _ (statements_alike (index + 1) _ block))
      run_alike index scope (discard at e) = then_alike _ _ _ _ (whole_alike scope e) (λ v. same _)
      run_alike index scope (return_of at e) = then_alike _ _ _ _ (eval_alike scope e) (λ v. same _)

      statements_alike : (index : ℕ) (scope : Scope) (all : Statements Bytes T C)
          → Alike (run_all changed f depth index scope all) (run_all see g depth index scope all)
      statements_alike index scope no_statements = same _
      statements_alike index scope (statements s rest) =
          row_alike _ _ _ _ (run_alike index scope s)
          (subst (λ (sc : Scope). Alike (run_all changed f depth (index + names_in s) sc rest)
          (run_all see g depth (index + names_in s) (after see index s scope) rest))
          (sym (after_same see callee index s scope))
          (statements_alike (index + names_in s) (after see index s scope) rest))

      tests_alike : (index : ℕ) (scope : Scope) (tests : Branches Bytes T C) (k l : Action Flow) → Alike k l
          → Alike (run_tests changed f depth index scope tests k) (run_tests see g depth index scope tests l)
      tests_alike index scope no_branches k l last = last
      tests_alike index scope (branches e block rest) k l last =
          then_alike _ _ _ _ (whole_alike scope e) (λ v.
          tick_alike _ _ (chosen_alike _ _ _ _ v
          (within_alike index (names_in_block block) _ _ (statements_alike index scope block))
          (tests_alike (index + names_in_block block) scope rest k l last)))

      arms_alike : (index : ℕ) (scope : Scope) (note : T) (all : Arms Bytes T C) (parts : ℕ × List Value)
          → Alike (run_arms changed f depth index scope note all parts)
          (run_arms see g depth index scope note all parts)
      arms_alike index scope note no_arms parts = same _
      arms_alike index scope note (arms at name binds block rest) parts =
          either_alike (means_case see note name.name parts.0) _ _ _ _
          (within_alike index (length binds + names_in_block block) _ _
          (and_alike _ _ _ _ (same _) (statements_alike (index + length binds) _ block)))
          (arms_alike (index + (length binds + names_in_block block)) scope note rest parts)

    block_alike : (index : ℕ) (scope : Scope) (block : Statements Bytes T C)
        → Alike (run_block changed f depth index scope block) (run_block see g depth index scope block)
    block_alike index scope block =
        within_alike index (names_in_block block) _ _ (statements_alike index scope block)

-- ---- calls

module _ {I T C : Type 0} (see : View I T C) (f g : I → List Value → Action Value)
    (each : (one : I) (args : List Value) → Alike (f one args) (g one args)) where
  acts_alike : (act : Act I) (args : List Value) → Alike (acts see f act args) (acts see g act args)
  acts_alike (invokes one) args = each one args
  acts_alike (makes of tag home) args = same _
  acts_alike (ships prim born) args = same _

  calls_alike : (o : Option (Callee I)) (order : List Bytes → Option (List Value))
      → Alike (calls see f o order) (calls see g o order)
  calls_alike None order = same stuck
  calls_alike (Some one) order = needing_alike (order one.parameters) _ _ (λ args. acts_alike one.act args)

tested_alike : {A : Type 0} (test : World → Bool) (m n : Action A) → Alike m n → Alike (tested test m) n
tested_alike test m n one w ticks = by (test w)
  where
    by : (b : Bool) → IsOne (where_true b m w ticks) (n w ticks)
    by true = one w ticks
    by false = inr tt

-- so an action is whose value is tested
behind_alike : {A : Type 0} (test : A → World → Bool) (out other : Out A) → IsOne out other
    → IsOne (follows out (λ a. tested (test a) (pure a))) other
unfolding follows
behind_alike {A} test out other (inl is) = subst (λ o. IsOne (follows out (λ a. tested (test a) (pure a))) o) is
    (by out)
  where
    at : (a : A) (w : World) (left : ℕ) (b : Bool) → IsOne (where_true b (pure a) w left) (gives a w left)
    at a w left true = inl refl
    at a w left false = inr tt

    by : (o : Out A) → IsOne (follows o (λ a. tested (test a) (pure a))) o
    by (gives a w left) = at a w left (test a w)
    by (aborts fault w left) = inl refl
    by (cut w) = inl refl
    by (no_rule w left) = inl refl
behind_alike {A} test out other (inr is) = inr (by out is)
  where
    by : (o : Out A) → IsStuck o → IsStuck (follows o (λ a. tested (test a) (pure a)))
    by (gives a w left) none = absurd none
    by (aborts fault w left) none = absurd none
    by (cut w) none = absurd none
    by (no_rule w left) none = tt

begun_alike : (fields : List Field) (f g : List Value → Action Value)
    → ((args : List Value) → Alike (f args) (g args))
    → Alike (begun fields f) (begun fields g)
begun_alike [] f g each = each []
begun_alike (p ∷ []) f g each = and_alike _ _ _ _ (same _) (each (values.root 0 ∷ []))
begun_alike (p ∷ q ∷ more) f g each = same stuck

module _ {I T C : Type 0} (functions : I → Option (Function I T C)) (watch : Watch I) where
  looked_alike : (see : View I T C) (caller : I) (f g : I → List Value → Action Value)
      → ((one : I) (args : List Value) → Alike (f one args) (g one args)) → (o : Option (Callee I))
      (order : List Bytes → Option (List Value))
      → Alike (calls (acting see) (looked_at watch see caller f) (option_map act_called o) order) (calls see g o order)
  looked_alike see caller f g each None order = same stuck
  looked_alike see caller f g each (Some one) order =
      needing_alike (order one.parameters) _ _ (λ args.
      tested_alike (watch.passed (Some caller) one.act args) _ _ (acts_alike see f g each one.act args))

  looking_alike : (caller : I) (f g : I → List Value → Action Value)
      → ((one : I) (args : List Value) → Alike (f one args) (g one args)) → (depth : ℕ) (o : Option (Function I T C))
      (args : List Value) → Alike (enters_looking watch caller f depth o args) (enters g depth o args)
  looking_alike caller f g each depth None args = same stuck
  looking_alike caller f g each depth (Some one) args =
      where_alike (length args == length one.parameters) _ _
      (and_alike _ _ _ _ (same _)
      (then_alike _ _ _ _
      (closing_alike _ _ (then_alike _ _ returned returned
      (block_alike one.view (λ note c name. option_map act_called (one.view.callee note c name))
      (looked_at watch one.view caller f) g (λ note c name order.
      looked_alike one.view caller f g each (one.view.callee note c name) order)
      depth (one.first + length args) (scope_of one) one.body) (λ flow. same _)))
      (λ value. same _)))

  watched_alike : (depth : ℕ) (one : I) (args : List Value)
      → Alike (watched_at watch functions depth one args) (call_at functions depth one args)
  unfolding watched_at call_at
  watched_alike zero one args w ticks = inl refl
  watched_alike (suc depth) one args w ticks =
      behind_alike (watch.returned one)
      (enters_looking watch one (watched_at watch functions depth) depth (functions one) args w ticks)
      (enters (call_at functions depth) depth (functions one) args w ticks)
      (looking_alike one (watched_at watch functions depth) (call_at functions depth)
      (λ other values. watched_alike depth other values) depth (functions one) args w ticks)

  -- what a program does under a watch is what it does, or it is stuck
  pub means_alike : (entry : I) (input : List ℕ) (ticks : ℕ)
      → IsOne
      (begun (parameters_of (functions entry))
      (λ args. tested (watch.passed None (invokes entry) args) (watched_at watch functions (suc ticks) entry args))
      (first_world input) ticks)
      (begun (parameters_of (functions entry)) (call_at functions (suc ticks) entry) (first_world input) ticks)
  means_alike entry input ticks =
      begun_alike (parameters_of (functions entry)) _ _ (λ args.
      tested_alike (watch.passed None (invokes entry) args) _ _ (watched_alike (suc ticks) entry args))
      (first_world input) ticks
