-- The code of an expression does what the expression means: one row for each form.
use Rattle.std.proofs.Common.{◌≡◌, ℕ, suc, List, [], ◌∷◌, ◌++◌, length, reverse, Option, refl, ap, arith}
use Rattle.std.proofs.Common.{le_trans, neg_ℤ, Bool, true, ◌||◌}
use Rattle.au_lowered.specs.Drafts.{Draft, Written, ◌>>◌, nothing}
use Rattle.au_lowered.specs.Expressions as code
use Rattle.au_lowered.specs.Standing.{PartsStandIn}
use Rattle.au_lowered.proofs.StandLemmas.{parts_stand}
use Rattle.au_meaning.specs.Expressions as meaning
use Rattle.au_meaning.specs.Expressions.{eval, eval_all, eval_named, note_of, names_of, labels}
use Rattle.au_meaning.specs.Expressions.{Operation, computes, compares, is_and, is_or, operation_of, kind_in}
use Rattle.au_meaning.specs.Expressions.{compared_kind}
use Rattle.au_meaning.specs.Ticks.{Action, pure, stuck, tick, ◌>>=◌}
use Rattle.au_meaning.specs.Views.{View}
use Rattle.au_meaning.specs.Worlds.{Value}
use Rattle.au_syntax.specs.Expressions.{Expression, Expressions, Arguments, number, negative, text, truth}
use Rattle.au_syntax.specs.Expressions.{nil, path, arrow, call, named_call, parenthesized, dereference}
use Rattle.au_syntax.specs.Expressions.{borrow, borrow_part, binary, negation, typed, choice, no_expressions}
use Rattle.au_syntax.specs.Expressions.{expressions, no_arguments, arguments}
use Rattle.au_syntax.specs.Plain.{Bytes}
use Rattle.au_lowered.specs.Scopes.{Entry, numbers_in, slots_in, Distinct}
use Rattle.au_lowered.specs.Frames.{Wide, Agree, Frame, spot, world}
use Rattle.au_lowered.specs.Sides.{Coding, meant, all_meant}
use Rattle.au_lowered.specs.Runs.{at}
use Rattle.au_lowered.proofs.CallLemmas.{pushed_more}
use Rattle.au_lowered.proofs.LeadLemmas.{leads_none, leads_to}
use Rattle.au_lowered.proofs.SimLemmas.{sim_given, sim_stuck, sim_bind, sim_map}
use Rattle.au_lowered.proofs.StepLemmas.{ticks_at}
use Rattle.au_lowered.specs.Premises.{GoodView, Placed, GoodCalls}
use Rattle.au_lowered.specs.Rows.{values_aim, Gives, GivesAll, OnAll}
use Rattle.au_lowered.proofs.BranchLemmas.{choice_runs, and_runs, or_runs}
use Rattle.au_lowered.proofs.RowLemmas.{truth_runs, nil_runs, text_runs, number_runs, mention_runs, part_runs}
use Rattle.au_lowered.proofs.RowLemmas.{one_runs, two_runs, not_runs, computes_runs, compares_runs}
use Rattle.au_lowered.proofs.ActLemmas.{calls_run, named_run}
use Rattle.std.proofs.lemmas.Bool.{or_left, or_right}
use Rattle.au_lowered.proofs.ReferenceRows.{arrow_runs, dereference_runs, operand_runs, borrow_runs, borrow_part_runs}

-- how many arguments there are
abbrev pub count_of : {N T C : Type 0} → Expressions N T C → ℕ
count_of no_expressions = 0
count_of (expressions e rest) = suc (count_of rest)

module _ {T C : Type 0} (by : Coding) (see : View ℕ T C) (invoke : ℕ → List Value
    → Action Value) (depth : ℕ) (f : Frame by)
    (get : ℕ → Option Draft) (placed : Placed by f.function get) (view : GoodView by see) (calls : GoodCalls
    by invoke depth)
    (wide : Wide) (room : ℕ) (scope : List (Entry by)) (distinct : Distinct by scope) where
  parts : PartsStandIn get
  parts = parts_stand get

  abbrev Gives_so : Written → Action Value → Type 0
  Gives_so write m = Gives by f get depth wide room scope write m

  abbrev All_so : ℕ → Written → Action (List Value) → Type 0
  All_so count write m = GivesAll by f get depth wide room scope count write m

  -- where no rule applies
  stuck_runs : (write : Written) → Gives_so write stuck
  stuck_runs write = record { runs = λ p q ops names slots c n stands ag le. sim_stuck by f }

  -- an operator
  joins_run : {wa wb : Written} {ma mb : Action Value} (o : Operation) (whole first : T) → Gives_so wa ma
      → Gives_so wb mb
      → Gives_so (code.joins see o whole first wa wb) (meaning.joins see invoke o whole first ma mb)
  joins_run (computes op) whole first a b =
      two_runs by f get placed depth wide room scope a b (computes_runs by f get placed depth wide room
      scope op (kind_in (see.type_of whole)))
  joins_run (compares op) whole first a b =
      two_runs by f get placed depth wide room scope a b (compares_runs by f get placed depth wide room
      scope op (compared_kind (see.type_of first)))
  joins_run is_and whole first a b = and_runs by f get placed depth wide room scope a b
  joins_run is_or whole first a b = or_runs by f get placed depth wide room scope a b

  -- no argument, and one more
  none_run : All_so 0 nothing (pure [])
  none_run = record {
    runs = λ p q ops names slots c n stands ag le.
        let e : p ≡ q = omega (arith, stands.ends) in
        sim_given by f (values_aim by f get depth wide room scope 0 q ops) [] names slots c (refl, ag)
        (leads_to by.code (ap (λ i. at (spot by f i ops slots c)) e) (leads_none by.code (spot by f p ops
        slots c) n));
  }

  more_run : {wa wb : Written} {ma : Action Value} {mb : Action (List Value)} (count : ℕ) → Gives_so wa ma
      → All_so count wb mb
      → All_so (suc count) (wa >> wb) (ma >>= λ value. mb >>= λ values. pure (value ∷ values))
  more_run {wa} {wb} {ma} {mb} count a b = record {
    runs = λ p q ops names slots c n stands ag le.
        let row = parts.of_row wa wb p q stands in
        sim_bind by f (meant by) (λ v names slots. Agree by f wide room scope names slots) (λ v slots c. spot
        by f row.middle (v ∷ ops) slots c)
        (ma (world by f names c) n) (λ value. mb >>= λ values. pure (value ∷ values)) (a.runs p row.middle
        ops names slots c n row.first ag le) (λ x names slots c m ag few.
        sim_map by f (values_aim by f get depth wide room scope count q (x ∷ ops)) (mb (world by f names c)
        m) (λ values. pure (meant by x ∷ values))
        (b.runs row.middle q (x ∷ ops) names slots c m row.second ag (le_trans few le)) (λ vs names slots c
        l h lead.
        let many : length (x ∷ vs) ≡ suc count = omega (arith, h.0) in
        sim_given by f (values_aim by f get depth wide room scope (suc count) q ops) (x ∷ vs) names slots c
        (many, h.1)
        (leads_to by.code (ap (λ all. at (spot by f q all slots c)) (pushed_more x vs ops)) lead)));
  }

  -- arguments, and what is done with them
  all_run : {wa wb : Written} {ma : Action (List Value)} {go : List Value → Action Value} (count : ℕ)
      → All_so count wa ma
      → OnAll by f get depth wide room scope count wb go
      → Gives_so (wa >> wb) (ma >>= λ values. tick (go values))
  all_run {wa} {wb} {ma} {go} count a b = record {
    runs = λ p q ops names slots c n stands ag le.
        let row = parts.of_row wa wb p q stands in
        sim_bind by f (all_meant by) (λ vs names slots. (length vs ≡ count)
        × Agree by f wide room scope names slots) (λ vs slots c. spot by f row.middle (reverse vs ++ ops)
        slots c)
        (ma (world by f names c) n) (λ values. tick (go values)) (a.runs p row.middle ops names slots c n
        row.first ag le) (λ vs names slots c m h few.
        ticks_at by f (go (all_meant by vs)) row.middle (reverse vs ++ ops) names slots c m (λ l e.
        b.runs row.middle q vs ops names slots c l h.0 row.second h.1 (omega (arith, le, few, e))));
  }

  -- what opens a borrow opens one in the whole expression
  abbrev pub May : Bool → Type 0
  May opens = opens ≡ true → wide.opens ≡ true

  may_left : (a b : Bool) → May (a || b) → May a
  may_left a b h e = h (or_left a b e)

  may_right : (a b : Bool) → May (a || b) → May b
  may_right a b h e = h (or_right a b e)

  mutual
    pub expression_runs : (e : Expression Bytes T C) → May (code.opens e)
        → Gives_so (code.code see (slots_in by scope) e) (eval see invoke (numbers_in by scope) e)
    expression_runs (number n l) h = number_runs by f get placed depth wide room scope (kind_in (see.type_of
        n.note)) l.value
    expression_runs (negative n l) h = number_runs by f get placed depth wide room scope (kind_in (see.type_of
        n.note)) (neg_ℤ l.value)
    expression_runs (text n t) h = text_runs by f get placed depth wide room scope t
    expression_runs (truth n b) h = truth_runs by f get placed depth wide room scope b
    expression_runs (nil n) h = nil_runs by f get placed depth wide room scope
    expression_runs (path n x []) h =
        mention_runs by f get placed depth wide room scope see n.note x.name distinct (λ value e.
        view.constants n.note x.name value e)
    expression_runs (path n x (field ∷ fields)) h =
        part_runs by f get placed depth wide room scope see x.name (names_of (field ∷ fields))
    expression_runs (arrow n r fields) h =
        arrow_runs by f get placed depth wide room scope distinct see r.name (names_of fields)
    expression_runs (call n f1 args c1) h =
        all_run (count_of args) (all_expressions_run args h)
        (calls_run by see invoke depth f get placed view calls wide room scope distinct n.note c1 f1.name
        (count_of args))
    expression_runs (named_call n f1 args c1) h =
        all_run (length (labels args)) (all_arguments_run args h)
        (named_run by see invoke depth f get placed view calls wide room scope distinct n.note c1 f1.name
        (labels args))
    expression_runs (parenthesized n e) h = expression_runs e h
    expression_runs (dereference n e) h =
        one_runs by f get placed depth wide room scope
        (operand_runs by f get placed depth wide room scope distinct e (expression_runs e h))
        (dereference_runs by f get placed depth wide room scope distinct)
    expression_runs (borrow n mode x) h =
        borrow_runs by f get placed depth wide room scope distinct mode x.name (h refl)
    expression_runs (borrow_part n r fields) h =
        borrow_part_runs by f get placed depth wide room scope distinct see r.name (names_of fields)
    expression_runs (binary n op a b) h =
        joins_run (operation_of op) n.note (note_of a)
        (expression_runs a (may_left (code.opens a) (code.opens b) h))
        (expression_runs b (may_right (code.opens a) (code.opens b) h))
    expression_runs (negation n e) h =
        one_runs by f get placed depth wide room scope (expression_runs e h) (not_runs by f get placed depth
        wide room scope)
    expression_runs (typed n e t) h = expression_runs e h
    expression_runs (choice n c1 a b) h =
        let rest = may_right (code.opens c1) (code.opens a || code.opens b) h in
        choice_runs by f get placed depth wide room scope
        (expression_runs c1 (may_left (code.opens c1) (code.opens a || code.opens b) h))
        (expression_runs a (may_left (code.opens a) (code.opens b) rest))
        (expression_runs b (may_right (code.opens a) (code.opens b) rest))

    all_expressions_run : (args : Expressions Bytes T C) → May (code.one_opens args)
        → All_so (count_of args) (code.code_of_all see (slots_in by scope) args) (eval_all see invoke
        (numbers_in by scope) args)
    all_expressions_run no_expressions h = none_run
    all_expressions_run (expressions e rest) h =
        more_run (count_of rest) (expression_runs e (may_left (code.opens e) (code.one_opens rest) h))
        (all_expressions_run rest (may_right (code.opens e) (code.one_opens rest) h))

    all_arguments_run : (args : Arguments Bytes T C) → May (code.one_opens_named args)
        → All_so (length (labels args)) (code.code_of_named see (slots_in by scope) args) (eval_named see
        invoke (numbers_in by scope) args)
    all_arguments_run no_arguments h = none_run
    all_arguments_run (arguments label e rest) h =
        more_run (length (labels rest)) (expression_runs e (may_left (code.opens e) (code.one_opens_named rest)
        h)) (all_arguments_run rest (may_right (code.opens e) (code.one_opens_named rest) h))
