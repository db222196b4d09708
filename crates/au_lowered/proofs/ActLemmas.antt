-- What calls do with their arguments.
use Rattle.std.proofs.Common.{◌≡◌, ℕ, zero, suc, ◌+◌, ◌≤◌, true, List, [], ◌∷◌, ◌++◌, length, reverse, Option}
use Rattle.std.proofs.Common.{Some, None, refl, sym, ap, subst, ◌∙◌, arith}
use Rattle.std.specs.Prelude.{option_map}
use Rattle.std.proofs.lemmas.List.{length-map}
use Rattle.std.specs.List.{position_or_len}
use Rattle.std.specs.Str.{bytes_eq}
use Rattle.au_base.specs.declared.kinds.IntKind.{IntKind}
use Rattle.au_ints.specs.declared.operations.WrapOp.{WrapOp}
use Rattle.au_type_texts.specs.Types.{ClosedType}
use Rattle.au_effects.specs.Calls.{shipped}
use Rattle.au_effects.specs.Numbers.{wrapped_around, converted_value}
use Rattle.au_low.specs.declared.instructions.Instr.TheVariants as instr
use Rattle.au_low.specs.Instructions as low
use Rattle.au_low.specs.Instructions.{act, is_type}
use Rattle.au_low.specs.Machines.{Low, ordered, ordered_if, having}
use Rattle.au_lowered.specs.Drafts.{Draft, plain, makes_case, ships_birth, Written, nothing, does}
use Rattle.au_lowered.specs.Expressions as code
use Rattle.au_lowered.specs.Standing.{Stands, PartsStandIn}
use Rattle.au_lowered.proofs.StandLemmas.{parts_stand}
use Rattle.au_meaning.specs.Acts as acts
use Rattle.au_meaning.specs.Expressions as meaning
use Rattle.au_meaning.specs.Ticks.{Action, stuck, needing, comes}
use Rattle.au_meaning.specs.Views.{View, Callee, Act, invokes, makes, ships}
use Rattle.au_meaning.specs.Worlds.{Value}
use Rattle.au_shipped.specs.declared.prims.ShippedCall.{ShippedCall}
use Rattle.au_shipped.specs.declared.prims.ShippedCall.TheVariants as prim
use Rattle.au_syntax.specs.Plain.{Bytes}
use Rattle.au_lowered.specs.Scopes.{Entry, Distinct}
use Rattle.au_lowered.specs.Frames.{Wide, Agree, Frame, machine, spot, world}
use Rattle.au_lowered.specs.Sides.{as_meant, as_ran, Coding, Both, Names, Slots, Common}
use Rattle.au_lowered.specs.Sides.{meant, ran, all_meant, all_ran}
use Rattle.au_lowered.specs.Runs.{at, aim_at, Sim}
use Rattle.au_lowered.proofs.CallLemmas.{popped_all, make_runs}
use Rattle.au_lowered.proofs.LeadLemmas.{leads_to}
use Rattle.au_lowered.proofs.MapLemmas.{wrapped_to, converted_to}
use Rattle.au_lowered.proofs.SimLemmas.{sim_spare, sim_stuck, sim_aim, sim_needing}
use Rattle.au_lowered.proofs.StepLemmas.{Is, comes_runs}
use Rattle.au_lowered.specs.Premises.{GoodView, Placed, GoodCalls, Once}
use Rattle.au_lowered.specs.Rows.{value_aim, OnAll}
use Rattle.au_lowered.proofs.OrderLemmas.{numbers_length, positions_ordered, position_found, labels_ordered}
use Rattle.au_lowered.proofs.OrderLemmas.{declared_or_not}
use Rattle.au_lowered.proofs.ShippedLemmas.{keeps_frames, shipped_fits, heard_comes}
use Rattle.au_lowered.proofs.ShippedRows.{place_found, shipped_runs}
use Rattle.au_lowered.proofs.SwapLemmas.{swap_runs, swap_born_runs}

module _ (by : Coding) (f : Frame by) (get : ℕ → Option Draft) (placed : Placed by f.function get)
    (depth : ℕ) (wide : Wide) (room : ℕ) (scope : List (Entry by)) (distinct : Distinct by scope) where
  parts : PartsStandIn get
  parts = parts_stand get

  abbrev pub Held_so : Names → Slots → Type 0
  Held_so names slots = Agree by f wide room scope names slots

  -- an operation with two arguments
  wrap_runs : (op : WrapOp) (kind : IntKind) (order : List ℕ) (p q l : ℕ) (vs args ops : List (Both by))
      (names : Names) (slots : Slots) (c : Common by)
      → Stands get (does (instr.Wrap op kind order)) p q → Held_so names slots → length vs ≡ length args
      → ordered_if order (all_ran by vs) ≡ Some (all_ran by args)
      → Sim by f (value_aim by f get depth wide room scope q ops) 6 (spot by f p (reverse vs ++ ops) slots
      c) (suc l)
      (comes (acts.on_two (wrapped_around op kind) (all_meant by args)) (world by f names c) l)
  unfolding act
  wrap_runs op kind order p q l vs [] ops names slots c stands ag many e = sim_stuck by f
  wrap_runs op kind order p q l vs (a ∷ []) ops names slots c stands ag many e = sim_stuck by f
  wrap_runs op kind order p q l vs (a ∷ b ∷ []) ops names slots c stands ag many e =
      let here = parts.of_one (plain (instr.Wrap op kind order)) p q stands in
      let two : length vs ≡ 2 = omega (arith, many) in
      subst (λ r. Sim by f (value_aim by f get depth wide room scope q ops) 6 (spot by f p (reverse vs ++
      ops) slots c) (suc l) (comes r (world by f names c) l))
      (sym (wrapped_to (as_meant by) op kind a b))
      (sim_spare by f (comes _ (world by f names c) l) (omega arith)
      (comes_runs by f Held_so (instr.Wrap op kind order) p q l (wrapped_around op kind a b) ops (reverse vs
      ++ ops) names slots c (placed.has p (plain (instr.Wrap op kind order)) here.here) here.ends ag
      (popped_all by f 2 p vs ops slots c (λ values m. having (ordered_if order values) (λ values. low.comes
      (low.on_pair (wrapped_around op kind) values) m)) two
      ∙ ap (λ o. having o (λ values. low.comes (low.on_pair (wrapped_around op kind) values) (machine by f p
      ops slots c))) e
      ∙ ap (λ r. low.comes r (machine by f p ops slots c)) (wrapped_to (as_ran by) op
      kind a b))))
  wrap_runs op kind order p q l vs (a ∷ b ∷ d ∷ more) ops names slots c stands ag many e = sim_stuck by f

  -- an operation with one
  convert_runs : (kind : IntKind) (p q l : ℕ) (vs args ops : List (Both by)) (names : Names) (slots : Slots)
      (c : Common by)
      → Stands get (does (instr.Convert kind)) p q → Held_so names slots → all_ran by vs ≡ all_ran by args
      → length vs ≡ length args
      → Sim by f (value_aim by f get depth wide room scope q ops) 6 (spot by f p (reverse vs ++ ops) slots
      c) (suc l)
      (comes (acts.on_one (converted_value kind) (all_meant by args)) (world by f names c) l)
  unfolding act
  convert_runs kind p q l vs [] ops names slots c stands ag same many = sim_stuck by f
  convert_runs kind p q l [] (a ∷ []) ops names slots c stands ag same many = absurd (omega (arith, many))
  convert_runs kind p q l (v ∷ []) (a ∷ []) ops names slots c stands ag same many =
      let here = parts.of_one (plain (instr.Convert kind)) p q stands in
      let is : ran by v ≡ ran by a = cc in
      subst (λ r. Sim by f (value_aim by f get depth wide room scope q ops) 6 (spot by f p (v ∷ ops) slots
      c) (suc l) (comes r (world by f names c) l))
      (sym (converted_to (as_meant by) kind a))
      (sim_spare by f (comes _ (world by f names c) l) (omega arith)
      (comes_runs by f Held_so (instr.Convert kind) p q l (converted_value kind a) ops (v ∷ ops) names slots
      c (placed.has p (plain (instr.Convert kind)) here.here) here.ends ag
      (ap (λ x. low.comes (converted_value kind x) (machine by f p ops slots c)) is
      ∙ ap (λ r. low.comes r (machine by f p ops slots c)) (converted_to (as_ran by)
      kind a))))
  convert_runs kind p q l (v ∷ u ∷ more) (a ∷ []) ops names slots c stands ag same many = absurd (omega
      (arith, many))
  convert_runs kind p q l vs (a ∷ b ∷ more) ops names slots c stands ag same many = sim_stuck by f

  -- where no rule applies
  no_act : (write : Written) (count : ℕ) → OnAll by f get depth wide room scope count write (λ values.
      stuck)
  no_act write count = record { runs = λ p q vs ops names slots c l many stands ag le. sim_stuck by f }

  -- the order of a shipped call
  same_order : (order : List ℕ) (vs args : List (Both by)) → length vs ≡ length order
      → ordered order (all_ran by vs) ≡ Some (all_ran by args)
      → ordered_if (code.unless_declared order) (all_ran by vs) ≡ Some (all_ran by args)
  same_order order vs args many e =
      declared_or_not order (all_ran by vs) (all_ran by args) (sym many ∙ sym (length-map vs (ran by))) e

  -- one argument is in order
  one_ordered : (order : List ℕ) (values args : List Low) → length order ≡ 1 → length values ≡ 1
      → ordered order values ≡ Some args → values ≡ args
  one_ordered [] values args a b e = absurd (omega (arith, a))
  one_ordered (i ∷ j ∷ more) values args a b e = absurd (omega (arith, a))
  one_ordered (i ∷ []) [] args a b e = absurd (omega (arith, b))
  one_ordered (i ∷ []) (v ∷ w ∷ more) args a b e = absurd (omega (arith, b))
  one_ordered (zero ∷ []) (v ∷ []) args a b e = grind arith
  one_ordered (suc i ∷ []) (v ∷ []) args a b e = absurd (grind arith)

  -- a shipped call that writes no frame
  own_runs : (call : ShippedCall) (born : Option ClosedType) (order : List ℕ) (p q l : ℕ) (vs args ops :
      List (Both by)) (names : Names) (slots : Slots) (c : Common by)
      → keeps_frames call ≡ true
      → Is by f p (instr.Shipped call (option_map by.of born) order) → is_type by.code (option_map by.of born) ≡ true
      → q ≡ p + 1 → Held_so names slots → length vs ≡ length args
      → ordered_if order (all_ran by vs) ≡ Some (all_ran by args)
      → Sim by f (value_aim by f get depth wide room scope q ops) 6 (spot by f p (reverse vs ++ ops) slots c) (suc l)
      (acts.told (all_meant by args) (shipped (λ text. text) call born (world by f names c).store (all_meant by args))
      (world by f names c) l)
  own_runs call born order p q l vs args ops names slots c keeps is typed end ag many e =
      let upper = names.below ++ names.own ∷ [] in
      let lower = slots.below ++ slots.own ∷ [] in
      let finds = place_found by f wide room scope distinct names slots c ag in
      shipped_runs by f Held_so call born order p q l vs args ops names slots c is typed end ag many e
      (shipped_fits by upper lower c.store finds call born args keeps)
      (heard_comes by upper lower c.store finds (acts.next_byte c.left) args)

  -- a shipped call
  ships_run : (call : ShippedCall) (born : Option ClosedType) (order : List ℕ) (p q l : ℕ) (vs args ops :
      List (Both by)) (names : Names) (slots : Slots) (c : Common by)
      → Stands get (code.ships_call call born (code.unless_declared order)) p q → Held_so names slots
      → length vs ≡ length order → length vs ≡ length args → ordered order (all_ran by vs)
      ≡ Some (all_ran by args)
      → Sim by f (value_aim by f get depth wide room scope q ops) 6 (spot by f p (reverse vs ++ ops) slots
      c) (suc l)
      (acts.ships_call call born (all_meant by args) (world by f names c) l)
  ships_run (prim.Wrap op kind) born order p q l vs args ops names slots c stands ag many also e =
      wrap_runs op kind (code.unless_declared order) p q l vs args ops names slots c stands ag also
      (same_order order vs args many e)
  ships_run (prim.Convert kind) born order p q l vs [] ops names slots c stands ag many also e = sim_stuck by f
  ships_run (prim.Convert kind) born order p q l vs (a ∷ []) ops names slots c stands ag many also e =
      convert_runs kind p q l vs (a ∷ []) ops names slots c stands ag
      (one_ordered order (all_ran by vs) (all_ran by (a ∷ [])) (omega (arith, many, also)) (length-map vs
      (ran by) ∙ also) e) also
  ships_run (prim.Convert kind) born order p q l vs (a ∷ b ∷ more) ops names slots c stands ag many also e =
      sim_stuck by f
  ships_run prim.Swap None order p q l vs args ops names slots c stands ag many also e =
      let i = instr.Shipped prim.Swap None (code.unless_declared order) in
      let here = parts.of_one (plain i) p q stands in
      swap_runs by f get depth wide room scope distinct (code.unless_declared order) p q l vs args ops names slots c
      (placed.has p (plain i) here.here) here.ends ag also (same_order order vs args many e)
  ships_run prim.Swap (Some of) order p q l vs args ops names slots c stands ag many also e =
      swap_born_runs by f get depth wide room scope distinct of q l args ops (spot by f p (reverse vs ++ ops) slots c)
      names c
  ships_run call None order p q l vs args ops names slots c stands ag many also e =
      let i = instr.Shipped call None (code.unless_declared order) in
      let here = parts.of_one (plain i) p q stands in
      own_runs call None (code.unless_declared order) p q l vs args ops names slots c refl
      (placed.has p (plain i) here.here) refl here.ends ag also (same_order order vs args many e)
  ships_run call (Some of) order p q l vs args ops names slots c stands ag many also e =
      let draft = ships_birth call of (code.unless_declared order) in
      let here = parts.of_one draft p q stands in
      own_runs call (Some of) (code.unless_declared order) p q l vs args ops names slots c refl
      (placed.has p draft here.here) (placed.births p call of (code.unless_declared order) here.here) here.ends ag also
      (same_order order vs args many e)

module _ {T C : Type 0} (by : Coding) (see : View ℕ T C) (invoke : ℕ → List Value
    → Action Value) (depth : ℕ) (f : Frame by)
    (get : ℕ → Option Draft) (placed : Placed by f.function get) (view : GoodView by see) (good_calls :
    GoodCalls by invoke depth)
    (wide : Wide) (room : ℕ) (scope : List (Entry by)) (distinct : Distinct by scope) where
  parts_of : PartsStandIn get
  parts_of = parts_stand get

  -- what a call does, with arguments in declared order
  act_runs : (a : Act ℕ) (order : List ℕ) (p q l : ℕ) (vs args ops : List (Both by)) (names : Names) (slots
      : Slots) (c : Common by)
      → Stands get (code.acts a order) p q → Agree by f wide room scope names slots → suc l ≤ depth
      → length vs ≡ length order → length vs ≡ length args → ordered order (all_ran by vs)
      ≡ Some (all_ran by args)
      → Sim by f (value_aim by f get depth wide room scope q ops) 6 (spot by f p (reverse vs ++ ops) slots
      c) (suc l)
      (meaning.acts see invoke a (all_meant by args) (world by f names c) l)
  act_runs (invokes i) order p q l vs args ops names slots c stands ag le many also e =
      let here = parts_of.of_one (plain (instr.Call i order)) p q stands in
      sim_aim by f
      (aim_at (meant by) (λ (v : Both by) (n : Names) (s : Slots). Agree by f wide room scope n s) (λ (v :
      Both by) (s : Slots) (after : Common by). spot by f (p + 1) (v ∷ ops) s after))
      (value_aim by f get depth wide room scope q ops) (invoke i (all_meant by args) (world by f names c) l)
      (good_calls f i order vs args ops p l wide room scope names slots c (omega (arith, le)) (placed.has p
      (plain (instr.Call i order)) here.here) many also e distinct ag)
      (λ v. refl)
      (λ v n s h. h)
      (λ v n s after k h lead. leads_to by.code (ap (λ j. at (spot by f j (v ∷ ops) s after)) (sym
      here.ends)) lead)
  act_runs (makes of tag home) order p q l vs args ops names slots c stands ag le many also e =
      let here = parts_of.of_one (makes_case of tag order home) p q stands in
      let type = placed.types p of tag order home here.here in
      sim_spare by f _ (omega arith)
      (make_runs by f (λ names slots. Agree by f wide room scope names slots) of type.0 (see.is_linear of) tag
      order home p q l vs args ops names slots c
      (placed.has p (makes_case of tag order home) here.here) here.ends ag many e type.1 (view.linear of
      type.0 type.1))
  act_runs (ships call born) order p q l vs args ops names slots c stands ag le many also e =
      ships_run by f get placed depth wide room scope distinct call born order p q l vs args ops names slots c
      stands ag many also e

  -- by position
  position_runs : (one : Callee ℕ) (count : ℕ)
      → OnAll by f get depth wide room scope count (code.acts one.act (code.by_position one.parameters))
      (λ values. needing (acts.by_position values one.parameters) (meaning.acts see invoke one.act))
  position_runs one count = record {
    runs = λ p q vs ops names slots c l many stands ag le.
        sim_needing by f (acts.by_position (all_meant by vs) one.parameters) (meaning.acts see invoke
        one.act) (λ xs is.
        let found = position_found by vs one.parameters xs is in
        let many2 : length vs ≡ length (code.by_position one.parameters) = found.0
        ∙ sym (numbers_length 0 one.parameters) in
        subst (λ ys. Sim by f (value_aim by f get depth wide room scope q ops) 6 (spot by f p (reverse vs ++
        ops) slots c) (suc l) (meaning.acts see invoke one.act ys (world by f names c) l)) (sym found.1)
        (act_runs one.act (code.by_position one.parameters) p q l vs vs ops names slots c stands
        ag le many2 refl
        (positions_ordered one.parameters (all_ran by vs) (sym found.0 ∙ sym (length-map vs (ran by))))));
  }

  pub calls_run : (note : T) (c : C) (name : Bytes) (count : ℕ) → OnAll by f get depth wide room scope count
      (code.calls (see.callee note c name) code.by_position)
      (λ values. meaning.calls see invoke (see.callee note c name) (acts.by_position values))
  calls_run note c1 name count = of_callee (see.callee note c1 name) refl
    where
      of_callee : (o : Option (Callee ℕ)) → see.callee note c1 name ≡ o
          → OnAll by f get depth wide room scope count
          (code.calls o code.by_position) (λ values. meaning.calls see invoke o (acts.by_position values))
      of_callee None is = no_act by f get placed depth wide room scope distinct nothing count
      of_callee (Some one) is = position_runs one count

  -- by label
  label_runs : (one : Callee ℕ) (labels : List Bytes) → Once one.parameters
      → OnAll by f get depth wide room scope (length labels) (code.acts one.act (code.by_labels labels
      one.parameters))
      (λ values. needing (acts.by_labels (meaning.labelled labels values) one.parameters) (meaning.acts see
      invoke one.act))
  label_runs one labels once = record {
    runs = λ p q vs ops names slots c l many stands ag le.
        sim_needing by f (acts.by_labels (meaning.labelled labels (all_meant by vs)) one.parameters)
        (meaning.acts see invoke one.act) (λ xs is.
        let found = labels_ordered by labels vs (sym many) one.parameters xs once is in
        let many2 : length vs ≡ length (code.by_labels labels one.parameters) = found.0
        ∙ sym (length-map one.parameters (λ name. position_or_len (λ label. bytes_eq label name)
        labels)) in
        subst (λ ys. Sim by f (value_aim by f get depth wide room scope q ops) 6 (spot by f p (reverse vs ++
        ops) slots c) (suc l) (meaning.acts see invoke one.act ys (world by f names c) l)) (sym
        found.1.are)
        (act_runs one.act (code.by_labels labels one.parameters) p q l vs found.1.args ops names slots c
        stands ag le many2 (found.0 ∙ sym found.1.counted) found.1.ordered_are));
  }

  pub named_run : (note : T) (c : C) (name : Bytes) (labels : List Bytes)
      → OnAll by f get depth wide room scope (length labels)
      (code.calls (see.callee note c name) (code.by_labels labels))
      (λ values. meaning.calls see invoke (see.callee note c name) (acts.by_labels (meaning.labelled labels
      values)))
  named_run note c1 name labels = of_callee (see.callee note c1 name) refl
    where
      of_callee : (o : Option (Callee ℕ)) → see.callee note c1 name ≡ o
          → OnAll by f get depth wide room scope (length labels)
          (code.calls o (code.by_labels labels)) (λ values. meaning.calls see invoke o (acts.by_labels
          (meaning.labelled labels values)))
      of_callee None is = no_act by f get placed depth wide room scope distinct nothing (length labels)
      of_callee (Some one) is = label_runs one labels (view.parameters note c1 name one is)
