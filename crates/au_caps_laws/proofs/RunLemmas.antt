-- What is born by statements, bodies and calls.
use Rattle.std.proofs.Common.{◌≡◌, ℕ, zero, suc, ◌+◌, ◌==◌, Bool, true, false, List, [], ◌∷◌, ◌++◌}
use Rattle.std.proofs.Common.{Option, None, Some, length, refl, if◌then◌else◌, ℤ, pos, ◌+ℤ◌, int_lt}
use Rattle.au_base.specs.declared.kinds.IntKind.{IntKind}
use Rattle.au_effects.specs.Numbers.{number_in, same_kind}
use Rattle.au_effects.specs.Places.{exchanged}
use Rattle.au_effects.specs.Values as values
use Rattle.au_effects.specs.Values.{Place}
use Rattle.au_syntax.specs.declared.expressions.BorrowMode.{BorrowMode}
use Rattle.au_syntax.specs.Expressions.{Expression}
use Rattle.au_syntax.specs.Plain.{Bytes}
use Rattle.au_syntax.specs.Statements.{Statement, Statements, Branches, Arms, skip, declare, destructure}
use Rattle.au_syntax.specs.Statements.{assign, assign_through, conditional, conditional_else, case_of}
use Rattle.au_syntax.specs.Statements.{while_loop, for_loop, borrow_in, borrow_typed, discard, return_of}
use Rattle.au_syntax.specs.Statements.{no_statements, statements, no_branches, branches, no_arms, arms}
use Rattle.au_syntax.specs.Types.{Bound}
use Rattle.au_type_texts.specs.Types.{ClosedType}
use Rattle.au_closed_trees.specs.Calls.{calls_in, calls_in_arms, calls_in_block, calls_in_branches, calls_in_statement}
use Rattle.au_meaning.specs.Acts.{apart, begins, emptied, ends_frame}
use Rattle.au_meaning.specs.Acts.{new_names, place_of, puts, sets, stored, tells_apart, with_value, with_values}
use Rattle.au_meaning.specs.Expressions.{names_of, note_of, whole}
use Rattle.au_meaning.specs.Meanings.{begun, call_at, enters, first_world, parameters_of, returned, root_born}
use Rattle.au_meaning.specs.Meanings.{scope_of, seen}
use Rattle.au_meaning.specs.Names.{Scope, Variable, mode_of, names_in, names_in_block, names_in_tests}
use Rattle.au_meaning.specs.Names.{variable_of}
use Rattle.au_meaning.specs.Statements.{Flow, after, and_then, assigns, assigns_behind, binds_borrow, binds_fields}
use Rattle.au_meaning.specs.Statements.{both_numbers, either, emptying, empties, falls, fields_noted, fields_told, for_turns}
use Rattle.au_meaning.specs.Statements.{lending, means_case, ranges, returns, run, run_all, run_arms, run_block, run_tests}
use Rattle.au_meaning.specs.Statements.{takes_apart, while_turns, with_counter, within}
use Rattle.au_meaning.specs.Ticks.{Action, Out, aborts, cut, does, follows, found_in, gives, no_rule, pure, ◌>>=◌}
use Rattle.au_meaning.specs.Views.{Act, Field, Function, View}
use Rattle.au_meaning.specs.Worlds.{Store, Value, World}
use Rattle.au_caps_laws.specs.Bearing.{AreBounds, BearsTo}
use Rattle.au_caps_laws.specs.Laws.{CallsBearWithin, IsRootAlone, RunBearsWithin, RunsBearWithin, no_root, the_root}
use Rattle.au_caps_laws.proofs.BearLemmas.{FoundBears, Keeps, and_keeps, asks_keeps, bears_same, bears_spends, does_keeps}
use Rattle.au_caps_laws.proofs.BearLemmas.{needing_keeps, over_keeps, pure_keeps, stuck_keeps, takes_keeps, then_keeps}
use Rattle.au_caps_laws.proofs.BearLemmas.{tick_keeps, where_keeps}
use Rattle.au_caps_laws.proofs.EvalLemmas.{Stay, chosen_keeps, closed_keeps, closing_keeps, eval_keeps, leads, left_stay}
use Rattle.au_caps_laws.proofs.EvalLemmas.{lends_keeps, reaches_keeps, right_stay, value_keeps, whole_keeps}
use Rattle.au_caps_laws.proofs.ShipLemmas.{apart_bears, exchanged_bears, put_bears}

module _ (P : ClosedType → Type 0) where
  -- ---- the world

  values_same : (name : ℕ) (all : List Value) (w : World) → (with_values name all w).store.deeds ≡ w.store.deeds
  values_same name [] w = refl
  values_same name (one ∷ rest) w = values_same (name + 1) rest (with_value name (Some one) w)

  emptied_same : (name count : ℕ) (w : World) → (emptied name count w).store.deeds ≡ w.store.deeds
  emptied_same name zero w = refl
  emptied_same name (suc count) w = emptied_same (name + 1) count (with_value name None w)

  values_keep : (name : ℕ) (all : List Value) → Keeps P (does (with_values name all))
  values_keep name all = does_keeps P (with_values name all) (λ w. bears_same P w.store _ (values_same name all w))

  empties_keep : (name count : ℕ) → Keeps P (empties name count)
  empties_keep name count =
      and_keeps P _ _ (does_keeps P (emptied name count) (λ w. bears_same P w.store _ (emptied_same name count w)))
      (pure_keeps P falls)

  -- ---- flows

  then_flows : (next : Action Flow) (flow : Flow) → Keeps P next → Keeps P (and_then next flow)
  then_flows next falls one = one
  then_flows next (returns value) one = pure_keeps P (returns value)

  row_keeps : (m next : Action Flow) → Keeps P m → Keeps P next → Keeps P (m >>= and_then next)
  row_keeps m next one two = then_keeps P m (and_then next) one (λ flow. then_flows next flow two)

  within_keeps : (name count : ℕ) (block : Action Flow) → Keeps P block → Keeps P (within name count block)
  within_keeps name count block one = row_keeps block (empties name count) one (empties_keep name count)

  turns_keep : (turns : ℕ) (test : Action Value) (body : Action Flow) → Keeps P test → Keeps P body
      → Keeps P (while_turns turns test body)
  unfolding while_turns
  turns_keep zero test body one two = over_keeps P _
  turns_keep (suc turns) test body one two =
      then_keeps P test _ one (λ value. tick_keeps P _ (chosen_keeps P _ _ value
      (row_keeps body (while_turns turns test body) two (turns_keep turns test body one two))
      (pure_keeps P falls)))

  if_keeps : (b : Bool) (one other : Action Flow) → Keeps P one → Keeps P other
      → Keeps P (if b then one else other)
  if_keeps true one other first second = first
  if_keeps false one other first second = second

  range_keeps : (turns : ℕ) (body : ℤ → Action Flow) (z last : ℤ) → ((y : ℤ) → Keeps P (body y))
      → Keeps P (for_turns turns body z last)
  unfolding for_turns
  range_keeps zero body z last each = over_keeps P _
  range_keeps (suc turns) body z last each =
      row_keeps (body z) _ (each z)
      (tick_keeps P _ (if_keeps (int_lt z last) _ _ (range_keeps turns body (z +ℤ pos 1) last each)
      (pure_keeps P falls)))

  numbers_keep : (a b : Option (IntKind × ℤ)) (go : IntKind → ℤ → ℤ → Action Flow)
      → ((kind : IntKind) (x y : ℤ) → Keeps P (go kind x y)) → Keeps P (both_numbers a b go)
  numbers_keep None b go each = stuck_keeps P _
  numbers_keep (Some a) None go each = stuck_keeps P _
  numbers_keep (Some a) (Some b) go each = where_keeps P (same_kind a.0 b.0) _ (each a.0 a.1 b.1)

  ranges_keep : (turns : ℕ) (body : IntKind → ℤ → Action Flow) (a b : Value)
      → ((kind : IntKind) (z : ℤ) → Keeps P (body kind z)) → Keeps P (ranges turns body a b)
  ranges_keep turns body a b each =
      numbers_keep (number_in a) (number_in b) _ (λ kind first last.
      if_keeps (int_lt last first) _ _ (pure_keeps P falls) (range_keeps turns (body kind) first last (each kind)))

  lending_keeps : (opening : Action (Unit {0})) (block : Action Flow) → Keeps P opening → Keeps P block
      → Keeps P (lending opening block)
  lending_keeps opening block one two =
      then_keeps P _ _ (asks_keeps P (λ world. Some (length world.borrows))) (λ count.
      and_keeps P _ _ (tick_keeps P opening one)
      (row_keeps block _ two (tick_keeps P _ (and_keeps P _ _ (closed_keeps P count) (pure_keeps P falls)))))

  borrow_keeps : (name : ℕ) (mode : BorrowMode) (o : Option Variable) → Keeps P (binds_borrow name mode o)
  borrow_keeps name mode None = stuck_keeps P _
  borrow_keeps name mode (Some x) =
      then_keeps P _ _ (lends_keeps P mode x.number) (λ value. value_keeps P name (Some value))

  fields_keep : (name : ℕ) (binds : List (Bound Bytes)) (fields : Option (List Field)) (held : List Value)
      → Keeps P (binds_fields name binds fields held)
  fields_keep name binds fields held = needing_keeps P _ _ (λ bound. values_keep name bound)

  either_keeps : (b : Bool) (one other : Action Flow) → Keeps P one → Keeps P other → Keeps P (either b one other)
  either_keeps true one other first second = first
  either_keeps false one other first second = second

  takes_at : (w : World) (ticks : ℕ) (o : Option (Value × Store)) → FoundBears P w.store o
      → BearsTo P w (found_in (stored o w) w ticks)
  unfolding BearsTo
  takes_at w ticks None one = bears_same P w.store w.store refl
  takes_at w ticks (Some pair) one = one

  sets_keep : (name : ℕ) (path : List ℕ) (value : Value) → Keeps P (sets name path value)
  sets_keep name path value w ticks =
      takes_at w ticks (exchanged (place_of name path w) value w.store)
      (exchanged_bears P (place_of name path w) value w.store)

  apart_keeps : (value : Value) → Keeps P (apart value)
  apart_keeps values.unit = stuck_keeps P _
  apart_keeps (values.truth b) = stuck_keeps P _
  apart_keeps (values.number kind z) = stuck_keeps P _
  apart_keeps (values.text t) = stuck_keeps P _
  apart_keeps (values.made tag birth parts) =
      and_keeps P _ _ (does_keeps P _ (λ w. bears_spends P birth w.store)) (pure_keeps P _)
  apart_keeps (values.reference borrow place) = stuck_keeps P _
  apart_keeps (values.box id) = stuck_keeps P _
  apart_keeps (values.buffer id) = stuck_keeps P _
  apart_keeps (values.terminal id) = stuck_keeps P _
  apart_keeps (values.root id) = stuck_keeps P _

  tells_keeps : (value : Value) → Keeps P (tells_apart value)
  tells_keeps value = takes_keeps P _ (λ s. apart_bears P value s)

  puts_keep : (one : ℕ × Place) (value : Value) → Keeps P (puts one value)
  puts_keep one value = takes_keeps P _ (λ s. put_bears P one value s)

  -- ---- statements

  module _ {I T C : Type 0} (see : View I T C) where
    assigns_keep : (o : Option Variable) (names : List Bytes) (value : Value) → Keeps P (assigns see o names value)
    assigns_keep None names value = stuck_keeps P _
    assigns_keep (Some x) names value =
        needing_keeps P _ _ (λ path. and_keeps P _ _ (sets_keep x.number path value) (pure_keeps P falls))

    behind_keeps : (o : Option Variable) (names : List Bytes) (value : Value)
        → Keeps P (assigns_behind see o names value)
    behind_keeps o names value =
        then_keeps P _ _ (reaches_keeps P see o names) (λ one.
        and_keeps P _ _ (puts_keep one value) (pure_keeps P falls))

    takes_keep : (number : ℕ) (binds : List (Bound Bytes)) (note : T) (value : Value)
        → Keeps P (takes_apart see number binds note value)
    takes_keep number binds note value =
        then_keeps P _ _ (apart_keeps value) (λ parts.
        and_keeps P _ _ (where_keeps P (parts.0 == 0) _ (fields_keep number binds (fields_noted see note) parts.1))
        (pure_keeps P falls))

    module _ (Q : I → ClosedType → Type 0) (invoke : I → List Value → Action Value)
        (called : (one : I) (args : List Value) → Keeps (Q one) (invoke one args)) (depth : ℕ) where
      abbrev Kept : List (Act I) → Type 0
      Kept all = Stay P see Q invoke called all

      abbrev lead : T → C → Bytes → List (Act I)
      lead = leads P see Q invoke called

      left : (one other : List (Act I)) → Kept (one ++ other) → Kept one
      left = left_stay P see Q invoke called

      right : (one other : List (Act I)) → Kept (one ++ other) → Kept other
      right = right_stay P see Q invoke called

      value : (scope : Scope) (e : Expression Bytes T C) → Kept (calls_in lead e) → Keeps P (whole see invoke scope e)
      value = whole_keeps P see Q invoke called

      mutual
        run_keeps : (number : ℕ) (scope : Scope) (s : Statement Bytes T C) → Kept (calls_in_statement lead s)
            → Keeps P (run see invoke depth number scope s)
        run_keeps number scope (skip at) stay = pure_keeps P falls
        run_keeps number scope (declare at binding name t e) stay =
            then_keeps P _ _ (value scope e stay) (λ v.
            tick_keeps P _ (and_keeps P _ _ (value_keeps P number (Some v)) (pure_keeps P falls)))
        run_keeps number scope (destructure at binds e) stay =
            then_keeps P _ _ (value scope e stay) (λ v. tick_keeps P _ (takes_keep number binds (note_of e) v))
        run_keeps number scope (assign at x path e) stay =
            then_keeps P _ _ (value scope e stay) (λ v.
            tick_keeps P _ (assigns_keep (variable_of scope x.name) (names_of path) v))
        run_keeps number scope (assign_through at r path e) stay =
            then_keeps P _ _ (value scope e stay) (λ v.
            tick_keeps P _ (behind_keeps (variable_of scope r.name) (names_of path) v))
        run_keeps number scope (conditional at tests) stay =
            tests_keep number scope tests (pure falls) stay (pure_keeps P falls)
        run_keeps number scope (conditional_else at tests block) stay =
            let other = number + names_in_tests tests in
            tests_keep number scope tests (emptying see other block (run_all see invoke depth other scope block))
            (left (calls_in_branches lead tests) (calls_in_block lead block) stay)
            (within_keeps other (names_in_block block) _
            (all_keep other scope block (right (calls_in_branches lead tests) (calls_in_block lead block) stay)))
        run_keeps number scope (case_of at e all) stay =
            then_keeps P _ _ (value scope e (left (calls_in lead e) (calls_in_arms lead all) stay)) (λ v.
            tick_keeps P _ (then_keeps P _ _ (tells_keeps v) (λ parts.
            arms_keep number scope (note_of e) all parts (right (calls_in lead e) (calls_in_arms lead all) stay))))
        run_keeps number scope (while_loop at e block) stay =
            turns_keep (suc depth) _ _ (value scope e (left (calls_in lead e) (calls_in_block lead block) stay))
            (within_keeps number (names_in_block block) _
            (all_keep number scope block (right (calls_in lead e) (calls_in_block lead block) stay)))
        run_keeps number scope (for_loop at name first last block) stay =
            let front = left (calls_in lead first ++ calls_in lead last) (calls_in_block lead block) stay in
            then_keeps P _ _ (value scope first (left (calls_in lead first) (calls_in lead last) front)) (λ a.
            then_keeps P _ _ (value scope last (right (calls_in lead first) (calls_in lead last) front)) (λ b.
            tick_keeps P _ (ranges_keep (suc depth) _ a b (λ kind z.
            within_keeps number (1 + names_in_block block) _
            (and_keeps P _ _ (value_keeps P number (Some (values.number kind z)))
            (all_keep (number + 1) (with_counter see number name.name first scope) block
            (right (calls_in lead first ++ calls_in lead last) (calls_in_block lead block) stay)))))))
        run_keeps number scope (borrow_in at access x r region block stop) stay =
            lending_keeps _ _ (borrow_keeps number (mode_of access) (variable_of scope x.name))
            (within_keeps number (1 + names_in_block block) _ (all_keep (number + 1) _ block stay))
        run_keeps number scope (borrow_typed at r t mode x block stop) stay =
            lending_keeps _ _ (borrow_keeps number mode (variable_of scope x.name))
            (within_keeps number (1 + names_in_block block) _ (all_keep (number + 1) _ block stay))
        run_keeps number scope (discard at e) stay =
            then_keeps P _ _ (value scope e stay) (λ v. tick_keeps P _ (pure_keeps P falls))
        run_keeps number scope (return_of at e) stay =
            then_keeps P _ _ (eval_keeps P see Q invoke called scope e stay) (λ v.
            tick_keeps P _ (pure_keeps P (returns v)))

        all_keep : (number : ℕ) (scope : Scope) (all : Statements Bytes T C) → Kept (calls_in_block lead all)
            → Keeps P (run_all see invoke depth number scope all)
        all_keep number scope no_statements stay = pure_keeps P falls
        all_keep number scope (statements s rest) stay =
            row_keeps _ _ (run_keeps number scope s (left (calls_in_statement lead s) (calls_in_block lead rest) stay))
            (all_keep (number + names_in s) (after see number s scope) rest
            (right (calls_in_statement lead s) (calls_in_block lead rest) stay))

        tests_keep : (number : ℕ) (scope : Scope) (tests : Branches Bytes T C) (other : Action Flow)
            → Kept (calls_in_branches lead tests) → Keeps P other
            → Keeps P (run_tests see invoke depth number scope tests other)
        tests_keep number scope no_branches other stay last = last
        tests_keep number scope (branches e block rest) other stay last =
            let front = left (calls_in lead e ++ calls_in_block lead block) (calls_in_branches lead rest) stay in
            then_keeps P _ _ (value scope e (left (calls_in lead e) (calls_in_block lead block) front)) (λ v.
            tick_keeps P _ (chosen_keeps P _ _ v
            (within_keeps number (names_in_block block) _
            (all_keep number scope block (right (calls_in lead e) (calls_in_block lead block) front)))
            (tests_keep (number + names_in_block block) scope rest other
            (right (calls_in lead e ++ calls_in_block lead block) (calls_in_branches lead rest) stay) last)))

        arms_keep : (number : ℕ) (scope : Scope) (note : T) (all : Arms Bytes T C) (parts : ℕ × List Value)
            → Kept (calls_in_arms lead all) → Keeps P (run_arms see invoke depth number scope note all parts)
        arms_keep number scope note no_arms parts stay = stuck_keeps P _
        arms_keep number scope note (arms at name binds block rest) parts stay =
            either_keeps (means_case see note name.name parts.0) _ _
            (within_keeps number (length binds + names_in_block block) _
            (and_keeps P _ _ (fields_keep number binds (fields_told see note parts.0) parts.1)
            (all_keep (number + length binds) _ block
            (left (calls_in_block lead block) (calls_in_arms lead rest) stay))))
            (arms_keep (number + (length binds + names_in_block block)) scope note rest parts
            (right (calls_in_block lead block) (calls_in_arms lead rest) stay))

      pub body_keeps : (number : ℕ) (scope : Scope) (block : Statements Bytes T C) → Kept (calls_in_block lead block)
          → Keeps P (run_block see invoke depth number scope block)
      body_keeps number scope block stay =
          within_keeps number (names_in_block block) _ (all_keep number scope block stay)

  -- ---- calls

  returned_keeps : (flow : Flow) → Keeps P (returned flow)
  returned_keeps falls = stuck_keeps P _
  returned_keeps (returns value) = pure_keeps P value

module _ {I T C : Type 0} (functions : I → Option (Function I T C)) (Q : I → ClosedType → Type 0)
    (bounds : AreBounds functions Q) where
  enters_keeps : (depth : ℕ) (one : I) (o : Option (Function I T C)) (args : List Value) → functions one ≡ o
      → ((other : I) (values : List Value) → Keeps (Q other) (call_at functions depth other values))
      → Keeps (Q one) (enters (call_at functions depth) depth o args)
  enters_keeps depth one None args is called = stuck_keeps (Q one) _
  enters_keeps depth one (Some f) args is called =
      let P = Q one in
      where_keeps P (length args == length f.parameters) _
      (and_keeps P _ _
      (does_keeps P (begins (new_names f.first args (names_in_block f.body))) (λ w. bears_same P w.store _ refl))
      (then_keeps P _ _
      (closing_keeps P _ (then_keeps P _ returned
      (body_keeps P f.view Q (call_at functions depth) called depth (f.first + length args) (scope_of f) f.body
      (λ act here. bounds one f is act here))
      (λ flow. returned_keeps P flow)))
      (λ value. and_keeps P _ _ (does_keeps P ends_frame (λ w. bears_same P w.store _ refl)) (pure_keeps P value))))

  call_keeps : (depth : ℕ) (one : I) (args : List Value) → Keeps (Q one) (call_at functions depth one args)
  unfolding call_at
  call_keeps zero one args = over_keeps (Q one) _
  call_keeps (suc depth) one args =
      enters_keeps depth one (functions one) args refl (λ other values. call_keeps depth other values)

pub calls_bear_within : {I T C : Type 0} (functions : I → Option (Function I T C)) (Q : I → ClosedType → Type 0)
    → CallsBearWithin functions Q
calls_bear_within functions Q bounds depth one args before ticks =
    call_keeps functions Q bounds depth one args before ticks

-- ---- runs

first_of : {I T C : Type 0} (functions : I → Option (Function I T C)) (Q : I → ClosedType → Type 0) (entry : I)
    (w : World) (ticks made : ℕ) (out : Out Value) → IsRootAlone w.store.deeds → BearsTo (Q entry) w out
    → RunBearsWithin (Q entry) (seen made out).world.store.deeds
unfolding BearsTo
first_of functions Q entry w ticks made (gives v n more) root one =
    record { first = w.store.deeds; more = one.more; all = one.adds; root = root; within = one.within }
first_of functions Q entry w ticks made (aborts fault n more) root one =
    record { first = w.store.deeds; more = one.more; all = one.adds; root = root; within = one.within }
first_of functions Q entry w ticks made (cut v) root one =
    record { first = w.store.deeds; more = one.more; all = one.adds; root = root; within = one.within }
first_of functions Q entry w ticks made (no_rule n more) root one =
    record { first = w.store.deeds; more = one.more; all = one.adds; root = root; within = one.within }

begun_bears : {I T C : Type 0} (functions : I → Option (Function I T C)) (Q : I → ClosedType → Type 0)
    (bounds : AreBounds functions Q) (entry : I) (input : List ℕ) (ticks : ℕ) (fields : List Field)
    → RunBearsWithin (Q entry)
    (seen ticks (begun fields (call_at functions (suc ticks) entry) (first_world input) ticks)).world.store.deeds
unfolding follows
begun_bears functions Q bounds entry input ticks [] =
    first_of functions Q entry (first_world input) ticks ticks _ no_root
    (calls_bear_within functions Q bounds (suc ticks) entry [] (first_world input) ticks)
begun_bears functions Q bounds entry input ticks (p ∷ []) =
    let w = root_born p.of (first_world input) in
    first_of functions Q entry w ticks ticks _ (the_root p.of)
    (calls_bear_within functions Q bounds (suc ticks) entry (values.root 0 ∷ []) w ticks)
begun_bears functions Q bounds entry input ticks (p ∷ q ∷ more) =
    first_of functions Q entry (first_world input) ticks ticks _ no_root
    (stuck_keeps (Q entry) _ (first_world input) ticks)

pub runs_bear_within : {I T C : Type 0} (functions : I → Option (Function I T C)) (Q : I → ClosedType → Type 0)
    → RunsBearWithin functions Q
runs_bear_within functions Q bounds entry input ticks =
    begun_bears functions Q bounds entry input ticks (parameters_of (functions entry))
