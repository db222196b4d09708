-- Statements and blocks, where the second run may go deeper into calls and turns.
use Rattle.std.proofs.Common.{ℕ, zero, suc, ◌+◌, ◌==◌, ◌≤◌, Bool, true, false, List, length, Option, Some}
use Rattle.std.proofs.Common.{None, ℤ, pos, ◌+ℤ◌, int_lt, arith}
use Rattle.au_base.specs.declared.kinds.IntKind.{IntKind}
use Rattle.au_effects.specs.Numbers.{number_in, same_kind}
use Rattle.au_effects.specs.Parts.{along}
use Rattle.au_effects.specs.Values as values
use Rattle.au_syntax.specs.declared.expressions.BorrowMode.{BorrowMode}
use Rattle.au_syntax.specs.Plain.{Bytes}
use Rattle.au_syntax.specs.Statements.{Statement, Statements, Branches, Arms, skip, declare, destructure}
use Rattle.au_syntax.specs.Statements.{assign, assign_through, conditional, conditional_else, case_of}
use Rattle.au_syntax.specs.Statements.{while_loop, for_loop, borrow_in, borrow_typed, discard, return_of}
use Rattle.au_syntax.specs.Statements.{no_statements, statements, no_branches, branches, no_arms, arms}
use Rattle.au_syntax.specs.Types.{Bound}
use Rattle.au_meaning.specs.Acts.{bound_counted}
use Rattle.au_meaning.specs.Expressions.{names_of, note_of}
use Rattle.au_meaning.specs.Names.{Scope, Variable, variable_of, with_bound, path_numbers, names_in}
use Rattle.au_meaning.specs.Names.{names_in_block, names_in_tests, mode_of, with_reference}
use Rattle.au_meaning.specs.Statements.{Flow, falls, returns, and_then, empties, within, while_turns}
use Rattle.au_meaning.specs.Statements.{for_turns, both_numbers, ranges, lending, binds_borrow, either}
use Rattle.au_meaning.specs.Statements.{binds_fields, fields_noted, fields_told, means_case, after}
use Rattle.au_meaning.specs.Statements.{with_counter, assigns}
use Rattle.au_meaning.specs.Statements.{assigns_behind, takes_apart, run, run_all, run_tests, run_arms}
use Rattle.au_meaning.specs.Statements.{run_block}
use Rattle.au_meaning.specs.Ticks.{Action}
use Rattle.au_meaning.specs.Views.{Field, View}
use Rattle.au_meaning.specs.Worlds.{Value}
use Rattle.au_meaning.proofs.ActGrowth.{values_continue, emptied_continues, holds_grows, sets_grows}
use Rattle.au_meaning.proofs.ActGrowth.{puts_grows, lends_grows, closes_grows, counts_grows, apart_grows}
use Rattle.au_meaning.proofs.ActGrowth.{tells_grows}
use Rattle.au_meaning.proofs.ExpressionGrowth.{reaches_grows, eval_grows, whole_grows}
use Rattle.au_meaning.proofs.Growing.{Proper, proper_bind, proper_pure, proper_over, proper_tick}
use Rattle.au_meaning.proofs.Growing.{proper_chosen, proper_if, Grows, grows_bind, grows_then, grows_pure}
use Rattle.au_meaning.proofs.Growing.{grows_stuck, grows_over, grows_tick, grows_needing, grows_where}
use Rattle.au_meaning.proofs.Growing.{grows_chosen, grows_if, grows_does}

and_grows : {m m2 : Action Flow} (flow : Flow) → Grows m m2 → Grows (and_then m flow) (and_then m2 flow)
and_grows falls g = g
and_grows (returns value) g = grows_pure

and_proper : {m : Action Flow} (flow : Flow) → Proper m → Proper (and_then m flow)
and_proper falls p = p
and_proper (returns value) p = proper_pure

empties_grow : (name count : ℕ) → Grows (empties name count) (empties name count)
empties_grow name count = grows_then (grows_does (emptied_continues name count)) grows_pure

within_grows : {m m2 : Action Flow} (name count : ℕ) → Grows m m2
    → Grows (within name count m) (within name count m2)
within_grows name count g = grows_bind g (λ flow. and_grows flow (empties_grow name count))

-- ---- loops

while_proper : {test : Action Value} {body : Action Flow} (turns : ℕ) → Proper test → Proper body
    → Proper (while_turns turns test body)
unfolding while_turns
while_proper zero p q = proper_over
while_proper (suc turns) p q =
    proper_bind p (λ value. proper_tick (proper_chosen value
    (proper_bind q (λ flow. and_proper flow (while_proper turns p q))) proper_pure))

while_grows : {test test2 : Action Value} {body body2 : Action Flow} (turns more : ℕ) → turns ≤ more
    → Grows test test2 → Grows body body2 → Grows (while_turns turns test body) (while_turns more test2 body2)
unfolding while_turns
while_grows zero more le g h = grows_over (while_proper more g.proper h.proper)
while_grows (suc turns) zero le g h = absurd (omega (arith, le))
while_grows (suc turns) (suc more) le g h =
    grows_bind g (λ value. grows_tick (grows_chosen value
    (grows_bind h (λ flow. and_grows flow (while_grows turns more (omega (arith, le)) g h))) grows_pure))

for_proper : {body : ℤ → Action Flow} (turns : ℕ) → ((z : ℤ) → Proper (body z)) → (z last : ℤ)
    → Proper (for_turns turns body z last)
unfolding for_turns
for_proper zero p z last = proper_over
for_proper (suc turns) p z last =
    proper_bind (p z) (λ flow. and_proper flow (proper_tick
    (proper_if (int_lt z last) (for_proper turns p (z +ℤ pos 1) last) proper_pure)))

for_grows : {body body2 : ℤ → Action Flow} (turns more : ℕ) → turns ≤ more
    → ((z : ℤ) → Grows (body z) (body2 z))
    → (z last : ℤ) → Grows (for_turns turns body z last) (for_turns more body2 z last)
unfolding for_turns
for_grows zero more le g z last = grows_over (for_proper more (λ z. (g z).proper) z last)
for_grows (suc turns) zero le g z last = absurd (omega (arith, le))
for_grows (suc turns) (suc more) le g z last =
    grows_bind (g z) (λ flow. and_grows flow (grows_tick
    (grows_if (int_lt z last) (for_grows turns more (omega (arith, le)) g (z +ℤ pos 1) last) grows_pure)))

both_grow : {go go2 : IntKind → ℤ → ℤ → Action Flow} (a b : Option (IntKind × ℤ))
    → ((kind : IntKind) (x y : ℤ) → Grows (go kind x y) (go2 kind x y))
    → Grows (both_numbers a b go) (both_numbers a b go2)
both_grow None b g = grows_stuck
both_grow (Some a) None g = grows_stuck
both_grow (Some a) (Some b) g = grows_where (same_kind a.0 b.0) (g a.0 a.1 b.1)

ranges_grow : {body body2 : IntKind → ℤ → Action Flow} (turns more : ℕ) → turns ≤ more
    → ((kind : IntKind) (z : ℤ) → Grows (body kind z) (body2 kind z)) → (a b : Value)
    → Grows (ranges turns body a b) (ranges more body2 a b)
ranges_grow turns more le g a b =
    both_grow (number_in a) (number_in b) (λ kind first last.
    grows_if (int_lt last first) grows_pure (for_grows turns more le (g kind) first last))

-- ---- borrows

lending_grows : {m m2 : Action (Unit {0})} {body body2 : Action Flow} → Grows m m2 → Grows body body2
    → Grows (lending m body) (lending m2 body2)
lending_grows g h =
    grows_bind counts_grows (λ count.
    grows_then (grows_tick g) (grows_bind h (λ flow.
    and_grows flow (grows_tick (grows_then (closes_grows count) grows_pure)))))

binds_borrow_grows : (name : ℕ) (mode : BorrowMode) (x : Option Variable)
    → Grows (binds_borrow name mode x) (binds_borrow name mode x)
binds_borrow_grows name mode None = grows_stuck
binds_borrow_grows name mode (Some x) = grows_bind (lends_grows mode x.number) (holds_grows name)

-- ---- cases

either_grows : {m m2 k k2 : Action Flow} (b : Bool) → Grows m m2 → Grows k k2
    → Grows (either b m k) (either b m2 k2)
either_grows true g h = g
either_grows false g h = h

binds_grow : (name : ℕ) (binds : List (Bound Bytes)) (fields : Option (List Field)) (held : List Value)
    → Grows (binds_fields name binds fields held) (binds_fields name binds fields held)
binds_grow name binds fields held =
    grows_needing (along fields (λ known. bound_counted known held binds)) (λ bound.
    grows_does (values_continue name bound))

-- ---- statements

module _ {I T C : Type 0} (see : View I T C) where
  assigns_grow : (x : Option Variable) (names : List Bytes) (value : Value)
      → Grows (assigns see x names value) (assigns see x names value)
  assigns_grow None names value = grows_stuck
  assigns_grow (Some x) names value =
      grows_needing (path_numbers (λ of. see.fields of 0) x.of names) (λ path. grows_then
      (sets_grows x.number path value) grows_pure)

  behind_grow : (x : Option Variable) (names : List Bytes) (value : Value)
      → Grows (assigns_behind see x names value) (assigns_behind see x names value)
  behind_grow x names value =
      grows_bind (reaches_grows see x names) (λ one. grows_then (puts_grows one value) grows_pure)

  takes_grow : (number : ℕ) (binds : List (Bound Bytes)) (note : T) (value : Value)
      → Grows (takes_apart see number binds note value) (takes_apart see number binds note value)
  takes_grow number binds note value =
      grows_bind (apart_grows value) (λ parts.
      grows_then (grows_where (parts.0 == 0) (binds_grow number binds
      (fields_noted see note) parts.1)) grows_pure)

module _ {I T C : Type 0} (see : View I T C) (invoke invoke2 : I → List Value → Action Value)
    (deeper : (one : I) (args : List Value) → Grows (invoke one args) (invoke2 one args))
    (depth more : ℕ) (le : depth ≤ more) where
  mutual
    run_grows : (number : ℕ) (scope : Scope) (s : Statement Bytes T C)
        → Grows (run see invoke depth number scope s) (run see invoke2 more number scope s)
    run_grows number scope (skip at) = grows_pure
    run_grows number scope (declare at binding name t e) =
        grows_bind (whole_grows see invoke invoke2 deeper scope e) (λ value.
        grows_tick (grows_then (holds_grows number value) grows_pure))
    run_grows number scope (destructure at binds e) =
        grows_bind (whole_grows see invoke invoke2 deeper scope e) (λ value.
        grows_tick (takes_grow see number binds (note_of e) value))
    run_grows number scope (assign at x path e) =
        grows_bind (whole_grows see invoke invoke2 deeper scope e) (λ value.
        grows_tick (assigns_grow see (variable_of scope x.name) (names_of path) value))
    run_grows number scope (assign_through at r path e) =
        grows_bind (whole_grows see invoke invoke2 deeper scope e) (λ value.
        grows_tick (behind_grow see (variable_of scope r.name) (names_of path) value))
    run_grows number scope (conditional at tests) = tests_grow number scope tests grows_pure
    run_grows number scope (conditional_else at tests block) =
        tests_grow number scope tests (within_grows (number + names_in_tests tests) (names_in_block block)
        (all_grow
        (number + names_in_tests tests) scope block))
    run_grows number scope (case_of at e all) =
        grows_bind (whole_grows see invoke invoke2 deeper scope e) (λ value.
        grows_tick (grows_bind (tells_grows value) (arms_grow number scope (note_of e) all)))
    run_grows number scope (while_loop at e block) =
        while_grows (suc depth) (suc more) (omega (arith, le)) (whole_grows see invoke invoke2 deeper scope e)
        (within_grows number (names_in_block block) (all_grow number scope block))
    run_grows number scope (for_loop at name first last block) =
        grows_bind (whole_grows see invoke invoke2 deeper scope first) (λ a.
        grows_bind (whole_grows see invoke invoke2 deeper scope last) (λ b.
        grows_tick (ranges_grow (suc depth) (suc more) (omega (arith, le)) (λ kind z.
        within_grows number (1 + names_in_block block) (grows_then (holds_grows number (values.number kind z))
        (all_grow (number + 1) (with_counter see number name.name first scope) block))) a b)))
    run_grows number scope (borrow_in at access x r region block stop) =
        let variable = variable_of scope x.name in
        lending_grows (binds_borrow_grows number (mode_of access) variable)
        (within_grows number (1 + names_in_block block)
        (all_grow (number + 1) (with_reference (mode_of access) variable number r.name scope) block))
    run_grows number scope (borrow_typed at r t mode x block stop) =
        let variable = variable_of scope x.name in
        lending_grows (binds_borrow_grows number mode variable)
        (within_grows number (1 + names_in_block block)
        (all_grow (number + 1) (with_reference mode variable number r.name scope) block))
    run_grows number scope (discard at e) =
        grows_bind (whole_grows see invoke invoke2 deeper scope e) (λ value. grows_tick grows_pure)
    run_grows number scope (return_of at e) =
        grows_bind (eval_grows see invoke invoke2 deeper scope e) (λ value. grows_tick grows_pure)

    all_grow : (number : ℕ) (scope : Scope) (block : Statements Bytes T C)
        → Grows (run_all see invoke depth number scope block) (run_all see invoke2 more number scope block)
    all_grow number scope no_statements = grows_pure
    all_grow number scope (statements s rest) =
        grows_bind (run_grows number scope s) (λ flow.
        and_grows flow (all_grow (number + names_in s) (after see number s scope) rest))

    tests_grow : (number : ℕ) (scope : Scope) (tests : Branches Bytes T C) {other other2 : Action Flow}
        → Grows other other2
        → Grows (run_tests see invoke depth number scope tests other)
        (run_tests see invoke2 more number scope tests other2)
    tests_grow number scope no_branches g = g
    tests_grow number scope (branches e block rest) g =
        grows_bind (whole_grows see invoke invoke2 deeper scope e) (λ value.
        grows_tick (grows_chosen value (within_grows number (names_in_block block)
        (all_grow number scope block))
        (tests_grow (number + names_in_block block) scope rest g)))

    arms_grow : (number : ℕ) (scope : Scope) (note : T) (all : Arms Bytes T C) (parts : ℕ × List Value)
        → Grows (run_arms see invoke depth number scope note all parts)
        (run_arms see invoke2 more number scope note all parts)
    arms_grow number scope note no_arms parts = grows_stuck
    arms_grow number scope note (arms at name binds block rest) parts =
        either_grows (means_case see note name.name parts.0)
        (within_grows number (length binds + names_in_block block) (grows_then (binds_grow number binds
        (fields_told see note parts.0) parts.1)
        (all_grow (number + length binds) (with_bound
        (fields_told see note parts.0) number binds scope) block)))
        (arms_grow (number + (length binds + names_in_block block)) scope note rest parts)

  pub block_grows : (number : ℕ) (scope : Scope) (block : Statements Bytes T C)
      → Grows (run_block see invoke depth number scope block) (run_block see invoke2 more number scope block)
  block_grows number scope block = within_grows number (names_in_block block) (all_grow number scope block)
