-- The code of statements and blocks does what they mean.
use Rattle.std.proofs.Common.{◌≡◌, ℕ, suc, ◌+◌, ◌<◌, ◌≤◌, Bool, true, false, ◌&&◌, ◌||◌, List, [], ◌∷◌, ◌++◌}
use Rattle.std.proofs.Common.{Option, Some, None, refl, sym, ap, subst, ◌∙◌, arith, unwrap_or, length, ◌⊎◌}
use Rattle.std.proofs.Common.{slice_get, nat_lt, if◌then◌else◌, ltb-true, ltb-false, inl, inr}
use Rattle.std.proofs.lemmas.List.{length-map}
use Rattle.std.proofs.lemmas.Bool.{or_from}
use Rattle.au_type_texts.specs.Types.{ClosedType}
use Rattle.au_typing.specs.Returns as out
use Rattle.au_effects.specs.Parts.{along}
use Rattle.au_effects.specs.Values as values
use Rattle.au_low.specs.declared.instructions.Instr.TheVariants as instr
use Rattle.au_low.specs.Instructions as low
use Rattle.au_low.specs.Instructions.{act}
use Rattle.au_low.specs.Machines as machines
use Rattle.au_lowered.specs.Drafts.{Draft, Written, plain, nothing, count_unless}
use Rattle.au_lowered.specs.Drafts as drafts
use Rattle.au_lowered.specs.Expressions as code
use Rattle.au_lowered.specs.Slots as slots_of
use Rattle.au_lowered.specs.Slots.{kept, known, fields_of_case, with_fields, room, room_of_block}
use Rattle.au_lowered.specs.Slots.{room_of_tests, room_of_arms}
use Rattle.au_lowered.specs.Standing.{Stands, ArmsStand, InCases, PartsStandIn}
use Rattle.au_lowered.specs.Statements.{start_of, count_of_cases, is_last}
use Rattle.au_lowered.specs.Statements as written
use Rattle.au_lowered.proofs.StandLemmas.{parts_stand}
use Rattle.au_meaning.specs.Expressions as source
use Rattle.au_meaning.specs.Expressions.{note_of, names_of}
use Rattle.au_meaning.specs.Acts as acts
use Rattle.au_meaning.specs.Acts.{with_values, bound_counted}
use Rattle.au_meaning.specs.Names.{names_in, names_in_block, names_in_tests, names_in_arms, with_bound}
use Rattle.au_meaning.specs.Names.{Scope, variable_of, mode_of, with_reference}
use Rattle.au_meaning.specs.Statements as meaning
use Rattle.au_meaning.specs.Statements.{Flow, and_then, is_tag, run, run_all, run_tests, run_arms, emptying}
use Rattle.au_meaning.specs.Ticks.{Action, pure, tick, follows, needing, does, no_rule, ◌>>=◌, ◌>>◌, found_in}
use Rattle.au_meaning.specs.Views.{View, Field}
use Rattle.au_meaning.specs.Worlds.{Value, World}
use Rattle.au_syntax.specs.Expressions.{Expression}
use Rattle.au_syntax.specs.Statements.{Statement, Statements, Branches, Arms, skip, declare, destructure}
use Rattle.au_syntax.specs.Statements.{assign, assign_through, conditional, conditional_else, case_of}
use Rattle.au_syntax.specs.Statements.{while_loop, for_loop, borrow_in, borrow_typed, discard, return_of}
use Rattle.au_syntax.specs.Statements.{no_statements, statements, no_branches, branches, no_arms, arms}
use Rattle.au_base.specs.declared.places.Pos.{Pos}
use Rattle.au_base.proofs.BoolLemmas.{and_false}
use Rattle.au_syntax.specs.Names.{Placed as Placed_name}
use Rattle.au_syntax.specs.Plain.{Bytes}
use Rattle.au_syntax.specs.declared.expressions.BorrowMode.{BorrowMode}
use Rattle.au_syntax.specs.Types.{Bound}
use Rattle.au_lowered.specs.Scopes.{Entry, variable, kept as keeps, numbers_in, slots_in, Scoped, Distinct}
use Rattle.au_lowered.specs.Frames.{Wide, resting, Agree, Frame, machine, spot, world}
use Rattle.au_lowered.specs.Sides.{Coding, Both, Names, Slots, Common, Spot}
use Rattle.au_lowered.specs.Sides.{meant, all_meant, all_ran}
use Rattle.au_lowered.specs.Runs as reach
use Rattle.au_lowered.specs.Runs.{reached, Leads, Sim}
use Rattle.au_lowered.proofs.LeadLemmas.{leads_to, leads_tick}
use Rattle.au_lowered.proofs.MoveLemmas.{jump_goes}
use Rattle.au_lowered.proofs.SimLemmas.{sim_on, sim_bind}
use Rattle.au_lowered.proofs.ScopeLemmas.{scoped_more, more_numbers, scoped_kept}
use Rattle.au_lowered.proofs.StepLemmas.{ticks_at}
use Rattle.au_lowered.specs.Binds.{fields_bound}
use Rattle.au_lowered.proofs.FrameLemmas.{under_more}
use Rattle.au_lowered.proofs.ForLemmas.{loop_scope, scoped_loop, for_does}
use Rattle.au_lowered.proofs.RoomLemmas.{block_least}
use Rattle.au_lowered.specs.Premises.{GoodView, Placed, GoodCalls, Once}
use Rattle.au_lowered.specs.Flows.{flow_aim, Behind, Inside, Ended, After, Does, Whole}
use Rattle.au_lowered.specs.Homes.{BindsHomed, Homed, BlockHomed, TestsHomed, ArmsHomed}
use Rattle.au_lowered.specs.Trees.{BindsOnce, BlockBindsOnce, TestsBindOnce, ArmsBindOnce}
use Rattle.au_lowered.proofs.CaseLemmas.{label_of, label_in, counted_tag, tag_is, arm_ends}
use Rattle.au_lowered.proofs.DestructureLemmas.{destructure_does}
use Rattle.au_lowered.proofs.TakeLemmas.{all_filled, all_named, named_is}
use Rattle.au_lowered.proofs.TakeRowLemmas.{counted_is, none_counted, opened}
use Rattle.au_lowered.proofs.ExpressionLemmas.{expression_runs}
use Rattle.au_lowered.proofs.FlowLemmas.{flow_holds, then_runs, empties_run, ended_emptied, ended_outer, ended_none}
use Rattle.au_lowered.proofs.FlowLemmas.{whole_runs, opening, opening_agrees}
use Rattle.au_lowered.proofs.BorrowLemmas.{put_does, borrow_does}
use Rattle.au_lowered.proofs.LoopLemmas.{branch_does, while_does}
use Rattle.au_lowered.proofs.StatementLemmas.{skip_does, none_declared, declare_does}
use Rattle.au_lowered.proofs.StatementLemmas.{discard_does, return_does, assign_does}
use Rattle.au_lowered.proofs.ToldLemmas.{Told, told_both, told_low}
use Rattle.au_effects.specs.Cases.{told_apart}

and_assoc : (a b c : Bool) → (a && (b && c)) ≡ ((a && b) && c)
and_assoc true b c = refl
and_assoc false b c = refl

module _ {T C : Type 0} (by : Coding) (see : View ℕ T C) (invoke : ℕ → List Value
    → Action Value) (depth : ℕ) (f : Frame by)
    (get : ℕ → Option Draft) (placed : Placed by f.function get) (view : GoodView by see) (good_calls :
    GoodCalls by invoke depth)
    (wide most : ℕ) where
  parts : PartsStandIn get
  parts = parts_stand get

  abbrev Does_so : ℕ → List (Entry by) → Written → Action Flow → (Names → Slots → Type 0) → Type 0
  Does_so around scope write m Holds = Does by f get depth (resting wide around) most scope write m Holds

  abbrev Inside_so : ℕ → Bool → ℕ → ℕ → List (Entry by) → Names → Slots → Type 0
  Inside_so around out first top scope names slots = Inside by f get depth (resting wide around) most out first top
      scope names slots

  abbrev Behind_so : ℕ → Bool → List (Entry by) → Names → Slots → Type 0
  Behind_so around out scope names slots = Behind by f get depth (resting wide around) most out scope names slots

  -- the same, where another thing holds behind it
  does_holds : {around : ℕ} {scope : List (Entry by)} {write : Written} {m : Action Flow} {H K : Names → Slots → Type 0}
      → ((names : Names) (slots : Slots) → H names slots → K names slots) → Does_so around scope write m H
      → Does_so around scope write m K
  does_holds {m = m} go a = record {
    runs = λ p q names slots c n stands ag le. flow_holds by f (m (world by f names c) n) go (a.runs p q
        names slots c n stands ag le);
  }

  whole_so : (around number slot : ℕ) (scope : List (Entry by)) → Scoped by number slot scope
      → (e : Expression Bytes T C)
      → Whole by f get depth (resting wide around) most scope (code.whole see around (slots_in by scope) e) (source.whole
      see invoke (numbers_in by scope) e)
  whole_so around number slot scope scoped e =
      whole_runs by f get placed depth wide around most scope (code.opens e)
      (expression_runs by see invoke depth f get placed view good_calls (opening by f get placed depth wide around
      most (code.opens e)) most scope scoped.distinct e (λ h. h))

  abbrev After_so : ℕ → Bool → ℕ → List (Entry by) → Scope → Scope → ℕ → ℕ → Names → Slots → Type 0
  After_so around out first scope numbers slots number slot names held = After by f get depth (resting wide around)
      most out first scope numbers slots number slot names held

  -- an expression of a statement, where more borrows may be open
  abbrev opening_so : ℕ → Expression Bytes T C → Wide
  opening_so around e = opening by f get placed depth wide around most (code.opens e)

  -- where nothing was declared
  nothing_so : (around number slot : ℕ) (scope : List (Entry by)) → Scoped by number slot scope
      → (number2 slot2 : ℕ) → number ≤ number2 → slot ≤ slot2 → (names : Names) (held : Slots)
      → Agree by f (resting wide around) most scope names held
      → After_so around false number scope (numbers_in by scope) (slots_in by scope) number2 slot2 names held
  nothing_so around number slot scope scoped number2 slot2 le le2 names held ag =
      none_declared by f get placed depth (resting wide around) most scope number slot number2 slot2 scoped le le2
      names held ag

  -- a statement that declares nothing
  nothing_new : (around : ℕ) (out : Bool) (number slot number2 slot2 : ℕ) (scope : List (Entry by))
      → Scoped by number slot scope → number ≤ number2 → slot ≤ slot2
      → (names : Names) (held : Slots) → Behind_so around out scope names held
      → After by f get depth (resting wide around) most out number scope (numbers_in by scope) (slots_in by scope) number2 slot2
      names held
  nothing_new around out number slot number2 slot2 scope scoped le le2 names held h = (
    h.0,
    record {
      new = [];
      fresh = tt;
      numbers_are = refl;
      slots_are = refl;
      scoped = record {
        distinct = scoped.distinct;
        under = under_more by number slot number2 slot2 scope le
            le2 scoped.under;
      };
      agree = h.1;
    },
  )

  -- the names of a block are emptied at its end
  emptying_does : {write : Written} {m : Action Flow} (out : Bool) (around number slot : ℕ) (scope : List (Entry
      by)) (body : Statements Bytes T C) → Scoped by number slot scope
      → Does_so around scope write m (Inside_so around out number (number + names_in_block body) scope)
      → Does_so around scope write (emptying see number body m) (Behind_so around out scope)
  emptying_does {write} {m} out around number slot scope body scoped a = record {
    runs = λ p q names slots c n stands ag le.
        empties_run by f number (names_in_block body) (m (world by f names c) n)
        (λ names slots h. (
          h.0,
          ended_emptied by f get depth (resting wide around) most number slot number (names_in_block body)
              (number + names_in_block body) scope names slots scoped.under (omega arith) (omega arith) h.1,
        ))
        (a.runs p q names slots c n stands ag le);
  }

  -- a borrow statement
  borrow_so : (mode : BorrowMode) (x r : Bytes) (body : Statements Bytes T C) (around number slot : ℕ) (scope :
      List (Entry by)) → Scoped by number slot scope → by.slot number ≡ slot
      → number + (1 + names_in_block body) ≤ wide → room_of_block see (slot + 1) body ≤ most
      → ((of : Option ClosedType) → Does_so (around + 1) (variable r number slot of ∷ scope)
      (written.block see (around + 1) (slot + 1) (slots_in by (variable r number slot of ∷ scope)) body)
      (run_all see invoke depth (number + 1) (numbers_in by (variable r number slot of ∷ scope)) body)
      (Inside_so (around + 1) (out.block_returns body) (number + 1) (number + 1 + names_in_block body) (variable r
      number slot of ∷ scope)))
      → Does_so around scope
      (written.lends (out.block_returns body) around slot mode (variable_of (slots_in by scope) x)
      (written.block see (around + 1) (slot + 1) (with_reference mode (variable_of (slots_in by scope) x) slot r
      (slots_in by scope)) body))
      (meaning.lending (meaning.binds_borrow number mode (variable_of (numbers_in by scope) x))
      (meaning.within number (1 + names_in_block body)
      (run_all see invoke depth (number + 1) (with_reference mode (variable_of (numbers_in by scope) x) number r
      (numbers_in by scope)) body)))
      (After_so around (out.block_returns body) number scope (numbers_in by scope) (slots_in by scope) (number +
      (1 + names_in_block body)) (slot + 0))
  borrow_so mode x r body around number slot scope scoped home fits rooms inner =
      let least = block_least see body (slot + 1) in
      let top : number + 1 + names_in_block body ≡ number + (1 + names_in_block body) = omega arith in
      does_holds (λ names slots h. nothing_new around (out.block_returns body) number slot (number + (1 +
      names_in_block body)) (slot + 0) scope scoped (omega arith) (omega arith) names slots h)
      (borrow_does by f get placed depth wide around most number slot scope scoped home (omega (arith, fits))
      (omega (arith, rooms, least)) mode x r (out.block_returns body) (1 + names_in_block body) (omega arith)
      (λ all. written.block see (around + 1) (slot + 1) all body)
      (λ all. run_all see invoke depth (number + 1) all body)
      (λ of. does_holds (λ names slots h. subst (λ t. Inside_so (around + 1) (out.block_returns body) (number + 1)
      t (variable r number slot of ∷ scope) names slots) top h) (inner of)))

  -- what is claimed of arms: a run from where the arm of a case begins does what the case means
  abbrev pub ArmsRun : ℕ → ℕ → ℕ → List (Entry by) → T → Arms Bytes T C → Type 0
  ArmsRun around number slot scope note all =
      (p q : ℕ) → ArmsStand get (written.arms_of see around slot (slots_in by scope) note all) p q
      → (tag : ℕ) (vs : List (Both by)) (n l : ℕ) (s : Spot) (names : Names) (slots : Slots) (c : Common by)
      → Agree by f (resting wide around) most scope names slots → l ≤ depth
      → Leads by.code s n (reach.at (spot by f (start_of tag (written.arms_of see around slot (slots_in by
      scope) note all p).starts) [] (all_filled slot (all_ran by vs) slots) c)) l 7
      → Sim by f (flow_aim by f (Behind_so around (out.arms_return all) scope) q) 0 s n (run_arms see invoke depth
      number (numbers_in by scope) note all (tag, all_meant by vs) (world by f names c) l)

  -- where no arm is that of the case, no rule applies
  no_arm : (all : Arms Bytes T C) (around number slot : ℕ) (scope : List (Entry by)) (note : T) (p tag : ℕ)
      (values : List Value) (w : World) (l : ℕ)
      → count_of_cases (written.arms_of see around slot (slots_in by scope) note all p).starts ≤ tag
      → run_arms see invoke depth number (numbers_in by scope) note all (tag, values) w l ≡ no_rule w l
  no_arm no_arms around number slot scope note p tag values w l h = refl
  no_arm (arms at name binds body rest) around number slot scope note p tag values w l h =
      let own = length binds + names_in_block body in
      let fields = fields_of_case see note name.name in
      let code_of = written.block see around (slot + length fields) (with_fields fields slot binds (slots_in
      by scope)) body in
      let next = p + length (code_of p) + count_unless (out.block_returns body || is_last rest) in
      let two = counted_tag tag (meaning.tag_told see note name.name) p (written.arms_of see around slot (slots_in by
      scope) note rest next).starts h in
      ap (λ b. meaning.either b (meaning.within number own (meaning.binds_fields number binds
      (meaning.fields_told see note tag) values >> run_all see invoke depth (number + length binds)
      (with_bound (meaning.fields_told see note tag) number binds (numbers_in by scope)) body))
      (run_arms see invoke depth (number + own) (numbers_in by scope) note rest (tag, values)) w l)
      two.0
      ∙ no_arm rest around (number + own) slot scope note next tag values w l two.1

  -- what an arm binds, and its body
  bound_arm : (around number slot : ℕ) (scope : List (Entry by)) (binds : List (Bound Bytes)) (body :
      Statements Bytes T C) (fields : Option (List Field))
      → Scoped by number slot scope → number + length binds ≤ wide → slot + length (known fields) ≤ most
      → Once (fields_bound binds) → BindsHomed by.slot (known fields) number slot binds
      → ((new : List (Entry by)) → Scoped by (number + length binds) (slot + length (known fields)) (new ++
      scope)
      → Does_so around (new ++ scope) (written.block see around (slot + length (known fields)) (slots_in by (new ++
      scope)) body) (run_all see invoke depth (number + length binds) (numbers_in by (new ++ scope))
      body) (Inside_so around (out.block_returns body) (number + length binds) (number + length binds +
      names_in_block body) (new ++ scope)))
      → (p q : ℕ) → Stands get (written.block see around (slot + length (known fields)) (with_fields (known
      fields) slot binds (slots_in by scope)) body) p q
      → (vs : List (Both by)) (l : ℕ) (names : Names) (slots : Slots) (c : Common by)
      → Agree by f (resting wide around) most scope names slots → l ≤ depth
      → (o : Option (List Value)) → along fields (λ kn. bound_counted kn (all_meant by vs) binds) ≡ o
      → Sim by f (flow_aim by f (Inside_so around (out.block_returns body) number (number + length binds +
      names_in_block body) scope) q) 0 (spot by f p [] (all_filled slot (all_ran by vs) slots) c) l
      (follows (needing o (λ bound. does (with_values number bound)) (world by f names c) l) (λ a. run_all
      see invoke depth (number + length binds) (with_bound fields number binds (numbers_in by scope))
      body))
  unfolding follows
  bound_arm around number slot scope binds body fields scoped fits rooms once homes inner p q stands vs l names
      slots c ag le None e = record { follows = tt }
  bound_arm around number slot scope binds body None scoped fits rooms once homes inner p q stands vs l names
      slots c ag le (Some xs) e = absurd (grind arith)
  bound_arm around number slot scope binds body (Some kn) scoped fits rooms once homes inner p q stands vs l names
      slots c ag le (Some xs) e =
      let counted = counted_is kn (all_meant by vs) binds xs e in
      let many : length vs ≡ length kn = sym (length-map vs (meant by)) ∙ counted.0 in
      let op = opened by f (resting wide around) most kn number slot scope binds vs xs names slots counted.1 many
      once scoped homes fits rooms ag in
      let top = number + length binds + names_in_block body in
      let names2 = all_named number xs names in
      let slots2 = all_filled slot (all_ran by vs) slots in
      let here = subst (λ x. Stands get (written.block see around (slot + length kn) x body) p q)
      op.slots_in_are stands in
      let run = (inner op.new op.scoped).runs p q names2 slots2 c l here op.agree le in
      let run_of = λ (w : World). run_all see invoke depth (number + length binds) (with_bound (Some kn) number
      binds (numbers_in by scope)) body w l in
      subst (λ w. Sim by f (flow_aim by f (Inside_so around (out.block_returns body) number top scope) q) 0 (spot
      by f p [] slots2 c) l (run_of w)) (sym (named_is by f number xs names c))
      (flow_holds by f (run_of (world by f names2 c))
      (λ names slots k. (
        k.0,
        ended_outer by f get depth (resting wide around) most (number + length binds) (slot + length kn) number
            (number + length binds) top op.new scope names slots op.fresh op.scoped.under (omega arith) (omega
            arith) k.1,
      ))
      (subst (λ x. Sim by f (flow_aim by f (Inside_so around (out.block_returns body) (number + length binds) top
      (op.new ++ scope)) q) 0 (spot by f p [] slots2 c) l (run_all see invoke depth (number + length binds) x
      body (world by f names2 c) l)) (sym op.numbers_are) run))

  -- an arm and others
  arm_does : (around number slot : ℕ) (scope : List (Entry by)) (note : T) (at_when : Pos) (name :
      Placed_name Bytes) (binds : List (Bound Bytes)) (body : Statements Bytes T C) (rest : Arms Bytes T C)
      → Scoped by number slot scope → number + length binds ≤ wide
      → room_of_block see (slot + length (fields_of_case see note name.name)) body ≤ most
      → Once (fields_bound binds)
      → BindsHomed by.slot (fields_of_case see note name.name) number slot binds
      → ((new : List (Entry by)) → Scoped by (number + length binds) (slot + length (fields_of_case see note
      name.name)) (new ++ scope)
      → Does_so around (new ++ scope) (written.block see around (slot + length (fields_of_case see note name.name))
      (slots_in by (new ++ scope)) body) (run_all see invoke depth (number + length binds) (numbers_in
      by (new ++ scope)) body) (Inside_so around (out.block_returns body) (number + length binds) (number +
      length binds + names_in_block body) (new ++ scope)))
      → (p q : ℕ) → ArmsStand get (written.arms_of see around slot (slots_in by scope) note (arms at_when
      name binds body rest)) p q
      → (tag : ℕ) (vs : List (Both by)) (n l : ℕ) (s : Spot) (names : Names) (slots : Slots) (c : Common by)
      → Agree by f (resting wide around) most scope names slots → l ≤ depth
      → Leads by.code s n (reach.at (spot by f (start_of tag (written.arms_of see around slot (slots_in by
      scope) note (arms at_when name binds body rest) p).starts) [] (all_filled slot (all_ran by vs) slots)
      c)) l 7
      → ((p2 q2 : ℕ) → ArmsStand get (written.arms_of see around slot (slots_in by scope) note rest) p2 q2
      → Leads by.code s n (reach.at (spot by f (start_of tag (written.arms_of see around slot (slots_in by
      scope) note rest p2).starts) [] (all_filled slot (all_ran by vs) slots) c)) l 7
      → Sim by f (flow_aim by f (Behind_so around (out.arms_return rest) scope) q2) 0 s n (run_arms see invoke
      depth (number + (length binds + names_in_block body)) (numbers_in by scope) note rest (
        tag,
        all_meant by vs,
      ) (world by f names c) l))
      → Sim by f (flow_aim by f (Behind_so around (out.block_returns body && out.arms_return rest) scope) q) 0 s n
      (run_arms see invoke depth number (numbers_in by scope) note (arms at_when name binds body rest) (
        tag,
        all_meant by vs,
      ) (world by f names c) l)
  unfolding follows
  arm_does around number slot scope note at_when name binds body rest scoped fits rooms once homes inner p q
      stands tag vs n l s names slots c ag le lead others =
      by_tag (is_tag tag (meaning.tag_told see note name.name)) refl
    where
      by_tag : (b : Bool) → is_tag tag (meaning.tag_told see note name.name) ≡ b
          → Sim by f (flow_aim by f (Behind_so around (out.block_returns body && out.arms_return rest) scope) q) 0
          s n
          (run_arms see invoke depth number (numbers_in by scope) note (arms at_when name binds body rest)
          (tag, all_meant by vs) (world by f names c) l)
      by_tag true e =
          let own = length binds + names_in_block body in
          let fields = fields_of_case see note name.name in
          let mine = meaning.tag_told see note name.name in
          let fn = meaning.fields_told see note tag in
          let arm = parts.of_arm (out.block_returns body || is_last rest) mine (written.block see around
          (slot + length fields) (with_fields fields slot binds (slots_in by scope)) body)
          (written.arms_of see around slot (slots_in by scope) note rest) p q stands in
          let slots2 = all_filled slot (all_ran by vs) slots in
          let start = ap (λ all. start_of tag all) arm.starts
          ∙ ap (λ b. if b then p else start_of tag (written.arms_of see around slot (slots_in by scope)
          note rest arm.next).starts) e in
          let lead1 = leads_to by.code (ap (λ k. reach.at (spot by f k [] slots2 c)) start) lead in
          let fields_are : fields ≡ known fn = ap (λ o. known (along o (meaning.fields_told see note)))
          (tag_is tag mine e) in
          let least = block_least see body (slot + length fields) in
          let rooms2 : slot + length (known fn) ≤ most = omega (
            arith,
            least,
            rooms,
            ap (λ fs. length fs)
                fields_are,
          ) in
          let inner2 = subst (λ fs. (new : List (Entry by))
          → Scoped by (number + length binds) (slot + length fs) (new ++ scope)
          → Does_so around (new ++ scope) (written.block see around (slot + length fs) (slots_in by (new ++ scope))
          body) (run_all see invoke depth (number + length binds) (numbers_in by (new ++ scope)) body)
          (Inside_so around (out.block_returns body) (number + length binds) (number + length binds +
          names_in_block body) (new ++ scope))) fields_are inner in
          let homes2 = subst (λ fs. BindsHomed by.slot fs number slot binds) fields_are homes in
          let own2 = subst (λ fs. Stands get (written.block see around (slot + length fs) (with_fields fs
          slot binds (slots_in by scope)) body) p arm.middle) fields_are arm.own in
          let run = bound_arm around number slot scope binds body fn scoped fits rooms2 once homes2 inner2 p
          arm.middle own2 vs l names slots c ag le (along fn (λ kn. bound_counted kn (all_meant by vs)
          binds)) refl in
          let out_of = follows (needing (along fn (λ kn. bound_counted kn (all_meant by vs) binds)) (λ
          bound. does (with_values number bound)) (world by f names c) l) (λ a. run_all see invoke depth
          (number + length binds) (with_bound fn number binds (numbers_in by scope)) body) in
          let left = empties_run by f number own out_of (λ names slots h. (
            h.0,
            ended_emptied by f get depth (resting wide around) most number slot number own (number + length
                binds + names_in_block body) scope names slots scoped.under (omega arith) (omega arith) h.1,
          )) (sim_on by f out_of
          lead1 run) in
          let ended = arm_ends by f get placed depth (resting wide around) most see around slot (slots_in by scope) note rest
          (out.block_returns body) arm.middle arm.next q scope (follows out_of (and_then
          (meaning.empties number own))) arm.jump arm.rest left in
          let held = flow_holds by f (follows out_of (and_then (meaning.empties number own))) (λ names slots h. (
            ap (λ
                b. b && out.arms_return rest) h.0,
            h.1,
          )) ended in
          subst (λ b. Sim by f (flow_aim by f (Behind_so around (out.block_returns body && out.arms_return rest)
          scope) q) 0 s n
          (meaning.either b (meaning.within number own (meaning.binds_fields number binds fn (all_meant by
          vs) >> run_all see invoke depth (number + length binds) (with_bound fn number binds
          (numbers_in by scope)) body)) (run_arms see invoke depth (number + own) (numbers_in by scope)
          note rest (tag, all_meant by vs)) (world by f names c) l)) (sym e) held
      by_tag false e =
          let own = length binds + names_in_block body in
          let fields = fields_of_case see note name.name in
          let mine = meaning.tag_told see note name.name in
          let fn = meaning.fields_told see note tag in
          let arm = parts.of_arm (out.block_returns body || is_last rest) mine (written.block see around
          (slot + length fields) (with_fields fields slot binds (slots_in by scope)) body)
          (written.arms_of see around slot (slots_in by scope) note rest) p q stands in
          let slots2 = all_filled slot (all_ran by vs) slots in
          let start = ap (λ all. start_of tag all) arm.starts
          ∙ ap (λ b. if b then p else start_of tag (written.arms_of see around slot (slots_in by scope)
          note rest arm.next).starts) e in
          let lead1 = leads_to by.code (ap (λ k. reach.at (spot by f k [] slots2 c)) start) lead in
          let held = flow_holds by f (run_arms see invoke depth (number + own) (numbers_in by scope) note
          rest (tag, all_meant by vs) (world by f names c) l)
          (λ names slots h. (
            ap (λ b. out.block_returns body && b) h.0
                ∙ and_false (out.block_returns body),
            h.1,
          )) (others arm.next q arm.rest lead1) in
          subst (λ b. Sim by f (flow_aim by f (Behind_so around (out.block_returns body && out.arms_return rest)
          scope) q) 0 s n
          (meaning.either b (meaning.within number own (meaning.binds_fields number binds fn (all_meant by
          vs) >> run_all see invoke depth (number + length binds) (with_bound fn number binds
          (numbers_in by scope)) body)) (run_arms see invoke depth (number + own) (numbers_in by scope)
          note rest (tag, all_meant by vs)) (world by f names c) l)) (sym e) held

  -- a value with more fields than there is room for is that of no arm
  too_many : (all : Arms Bytes T C) (number slot : ℕ) (scope : List (Entry by)) (note : T) (tag : ℕ) (vs :
      List (Both by)) (w : World) (l : ℕ)
      → room_of_arms see slot note all ≤ most → most < slot + length vs
      → run_arms see invoke depth number (numbers_in by scope) note all (tag, all_meant by vs) w l
      ≡ no_rule w l
  unfolding follows
  too_many no_arms number slot scope note tag vs w l rooms h = refl
  too_many (arms at_when name binds body rest) number slot scope note tag vs w l rooms h =
      by_tag (is_tag tag (meaning.tag_told see note name.name)) refl (too_many rest (number + (length binds +
      names_in_block body)) slot scope note tag vs w l (omega (arith, rooms)) h)
    where
      by_tag : (b : Bool) → is_tag tag (meaning.tag_told see note name.name) ≡ b
          → run_arms see invoke depth (number + (length binds + names_in_block body)) (numbers_in by scope)
          note rest (tag, all_meant by vs) w l ≡ no_rule w l
          → run_arms see invoke depth number (numbers_in by scope) note (arms at_when name binds body rest)
          (tag, all_meant by vs) w l ≡ no_rule w l
      by_tag true e ih =
          let own = length binds + names_in_block body in
          let fields = fields_of_case see note name.name in
          let fn = meaning.fields_told see note tag in
          let fields_are : fields ≡ known fn = ap (λ o. known (along o (meaning.fields_told see note)))
          (tag_is tag (meaning.tag_told see note name.name) e) in
          let least = block_least see body (slot + length fields) in
          let count = length-map vs (meant by) in
          let fewer : length (known fn) < length (all_meant by vs) = omega (
            arith,
            least,
            rooms,
            h,
            count,
            ap (λ fs. length fs) fields_are,
          ) in
          ap (λ b. meaning.either b (meaning.within number own (meaning.binds_fields number binds fn
          (all_meant by vs) >> run_all see invoke depth (number + length binds) (with_bound fn number
          binds (numbers_in by scope)) body)) (run_arms see invoke depth (number + own) (numbers_in by
          scope) note rest (tag, all_meant by vs)) w l) e
          ∙ ap (λ o. follows (follows (needing o (λ bound. does (with_values number bound)) w l) (λ a.
          run_all see invoke depth (number + length binds) (with_bound fn number binds (numbers_in by
          scope)) body)) (and_then (meaning.empties number own))) (none_counted fn (all_meant by vs) binds fewer)
      by_tag false e ih =
          let own = length binds + names_in_block body in
          let fn = meaning.fields_told see note tag in
          ap (λ b. meaning.either b (meaning.within number own (meaning.binds_fields number binds fn
          (all_meant by vs) >> run_all see invoke depth (number + length binds) (with_bound fn number
          binds (numbers_in by scope)) body)) (run_arms see invoke depth (number + own) (numbers_in by
          scope) note rest (tag, all_meant by vs)) w l) e ∙ ih

  -- a case, of a value that is told apart
  case_told : (all : Arms Bytes T C) (around number slot : ℕ) (scope : List (Entry by)) (distinct : Distinct by
      scope) (note : T) → room_of_arms see slot note all ≤ most → ArmsRun around number slot scope note all
      → (v : Both by) (p q l : ℕ) (names : Names) (slots : Slots) (c : Common by)
      → InCases get slot (written.arms_of see around slot (slots_in by scope) note all) p q
      → Agree by f (resting wide around) most scope names slots → l ≤ depth
      → (told : Told by f (resting wide around) most scope distinct v names slots c)
      → (a b : Bool) → nat_lt most (slot + length told.fields) ≡ a
      → nat_lt told.tag (count_of_cases (written.arms_of see around slot (slots_in by scope) note all (p + 1)).starts)
      ≡ b
      → Sim by f (flow_aim by f (Behind_so around (out.arms_return all) scope) q) 0 (spot by f p (v ∷ []) slots c) (suc
      l) (run_arms see invoke depth number (numbers_in by scope) note all (told.tag, all_meant by told.fields) (world by
      f names (record c { store = told.store })) l)
  unfolding act
  case_told all around number slot scope distinct note rooms run v p q l names slots c cs ag le told true b x y =
      let wide_value : most < slot + length told.fields = ltb-true most (slot + length told.fields) x in
      subst (λ r. Sim by f (flow_aim by f (Behind_so around (out.arms_return all) scope) q) 0 (spot by f p (v ∷ []) slots
      c) (suc l) r)
      (sym (too_many all number slot scope note told.tag told.fields (world by f names (record c { store = told.store }))
      l rooms wide_value)) (record { follows = tt })
  case_told all around number slot scope distinct note rooms run v p q l names slots c cs ag le told false false x y =
      let starts = (written.arms_of see around slot (slots_in by scope) note all (p + 1)).starts in
      let least : count_of_cases starts ≤ told.tag = ltb-false told.tag (count_of_cases starts) y in
      subst (λ r. Sim by f (flow_aim by f (Behind_so around (out.arms_return all) scope) q) 0 (spot by f p (v ∷ []) slots
      c) (suc l) r)
      (sym (no_arm all around number slot scope note (p + 1) told.tag (all_meant by told.fields) (world by f names
      (record c { store = told.store })) l least)) (record { follows = tt })
  case_told all around number slot scope distinct note rooms run v p q l names slots c cs ag le told false true x y =
      let vs = told.fields in
      let c2 = record c { store = told.store } in
      let starts = (written.arms_of see around slot (slots_in by scope) note all (p + 1)).starts in
      let labels = written.labels_of (count_of_cases starts) starts in
      let slots2 = all_filled slot (all_ran by vs) slots in
      let s = spot by f p (v ∷ []) slots c in
      let less : told.tag < count_of_cases starts = ltb-true told.tag (count_of_cases starts) y in
      let few : slot + length vs ≤ most = ltb-false most (slot + length vs) x in
      let label = label_of (count_of_cases starts) told.tag starts less in
      let goal = label_in labels (length (low.instructions (slice_get by.code.functions f.function)))
      told.tag (start_of told.tag starts) (placed.labels p (instr.Case slot labels) cs.goes) label in
      let there : reached s (act by.code (instr.Case slot labels) s.machine)
      ≡ reach.at (spot by f (start_of told.tag starts) [] slots2 c2) =
      ap (λ nx. reached s nx) (told_low by f (resting wide around) most scope distinct v slot p names slots c
      (low.goes_to_case by.code labels) ag told (omega (arith, few, ag.slots_are)))
      ∙ ap (λ o. reached s (machines.having o (λ k. low.jumps by.code k (machine by f p [] slots2 c2))))
      label
      ∙ ap (λ nx. reached s nx) (jump_goes by f (start_of told.tag starts) p [] slots2 c2 goal) in
      run (p + 1) q cs.arms told.tag vs (suc l) l s names slots c2 ag le (leads_to by.code there (leads_tick
      by.code s (instr.Case slot labels) l (placed.has p (plain (instr.Case slot labels)) cs.goes)))

  -- a case, of a value
  case_value : (all : Arms Bytes T C) (around number slot : ℕ) (scope : List (Entry by)) (distinct : Distinct by
      scope) (note : T) → room_of_arms see slot note all ≤ most → ArmsRun around number slot scope note all
      → (v : Both by) (p q l : ℕ) (names : Names) (slots : Slots) (c : Common by)
      → InCases get slot (written.arms_of see around slot (slots_in by scope) note all) p q
      → Agree by f (resting wide around) most scope names slots → l ≤ depth
      → Sim by f (flow_aim by f (Behind_so around (out.arms_return all) scope) q) 0 (spot by f p (v ∷ []) slots c)
      (suc l)
      (follows (acts.tells_apart (meant by v) (world by f names c) l) (run_arms see invoke depth number
      (numbers_in by scope) note all))
  unfolding follows
  case_value all around number slot scope distinct note rooms run v p q l names slots c cs ag le =
      by_told (told_both by f (resting wide around) most scope distinct v names slots c ag)
    where
      by_told : (told_apart (meant by v) (world by f names c).store ≡ None) ⊎ Told by f (resting wide around) most scope
          distinct v names slots c
          → Sim by f (flow_aim by f (Behind_so around (out.arms_return all) scope) q) 0 (spot by f p (v ∷ []) slots c)
          (suc l)
          (follows (acts.tells_apart (meant by v) (world by f names c) l) (run_arms see invoke depth number
          (numbers_in by scope) note all))
      by_told (inl none) =
          subst (λ o. Sim by f (flow_aim by f (Behind_so around (out.arms_return all) scope) q) 0 (spot by f p (v ∷ [])
          slots c) (suc l) (follows (found_in (acts.stored o (world by f names c)) (world by f names c) l) (run_arms see
          invoke depth number (numbers_in by scope) note all))) (sym none) (record { follows = tt })
      by_told (inr told) =
          subst (λ o. Sim by f (flow_aim by f (Behind_so around (out.arms_return all) scope) q) 0 (spot by f p (v ∷ [])
          slots c) (suc l) (follows (found_in (acts.stored o (world by f names c)) (world by f names c) l) (run_arms see
          invoke depth number (numbers_in by scope) note all))) (sym told.in_meaning)
          (case_told all around number slot scope distinct note rooms run v p q l names slots c cs ag le told (nat_lt most
          (slot + length told.fields)) (nat_lt told.tag (count_of_cases (written.arms_of see around slot (slots_in by
          scope) note all (p + 1)).starts)) refl refl)

  case_does : {w : Written} {m : Action Value} (all : Arms Bytes T C) (around number slot : ℕ) (scope : List
      (Entry by)) (distinct : Distinct by scope) (note : T) → room_of_arms see slot note all ≤ most
      → Whole by f get depth (resting wide around) most scope w m → ArmsRun around number slot scope note all
      → Does_so around scope (drafts.◌>>◌ w (written.cases slot (written.arms_of see around slot (slots_in by
      scope) note all)))
      (m >>= λ v. tick (acts.tells_apart v >>= run_arms see invoke depth number (numbers_in by scope) note all))
      (Behind_so around (out.arms_return all) scope)
  case_does {w} {m} all around number slot scope distinct note rooms a run = record {
    runs = λ p q names slots c n stands ag le.
        let row = parts.of_row w (written.cases slot (written.arms_of see around slot (slots_in by scope)
        note all)) p q stands in
        let cs = parts.of_cases slot (written.arms_of see around slot (slots_in by scope) note all)
        row.middle q row.second in
        let go = λ (v : Value). (acts.tells_apart v >>= run_arms see invoke depth number (numbers_in by scope)
        note all) in
        sim_bind by f (meant by) (λ v names slots. Agree by f (resting wide around) most scope names slots) (λ v slots c. spot
        by f row.middle (v ∷ []) slots c)
        (m (world by f names c) n) (λ v. tick (go v)) (a.runs p row.middle names slots c n row.first ag le)
        (λ v names slots c k ag few.
        ticks_at by f (go (meant by v)) row.middle (v ∷ []) names slots c k (λ l e.
        case_value all around number slot scope distinct note rooms run v row.middle q l names slots c cs ag (omega
        (arith, le, few, e))));
  }

  mutual
    pub statement_does : (s : Statement Bytes T C) (around number slot : ℕ) (scope : List (Entry by))
        → Scoped by number slot scope → Homed by.slot see number slot s
        → number + names_in s ≤ wide → room see slot s ≤ most → BindsOnce s
        → Does_so around scope (written.statement see around slot (slots_in by scope) s) (run see invoke depth
        number (numbers_in by scope) s)
        (After_so around (out.returns s) number scope (meaning.after see number s (numbers_in by scope))
        (slots_of.after see slot s (slots_in by scope)) (number + names_in s) (slot + kept see s))
    statement_does (skip at) around number slot scope scoped homes fits rooms good =
        skip_does by f get placed depth (resting wide around) most scope _ (nothing_so around number slot scope
        scoped (number + 0) (slot + 0) (omega arith) (omega arith))
    statement_does (declare at binding name t e) around number slot scope scoped homes fits rooms good =
        declare_does by f get placed depth (resting wide around) most scope number slot name.name (see.type_of
        (note_of e)) scoped homes fits rooms (whole_so around number slot scope scoped e)
    statement_does (destructure at binds e) around number slot scope scoped homes fits rooms good =
        destructure_does by f get placed depth (resting wide around) most number slot scope scoped binds good fits
        (meaning.fields_noted see (note_of e)) rooms homes (whole_so around number slot scope scoped e)
    statement_does (assign at x path e) around number slot scope scoped homes fits rooms good =
        assign_does by f get placed depth (resting wide around) most see scope x.name (names_of path)
        scoped.distinct (nothing_so around number slot scope scoped (number + 0) (slot + 0) (omega arith) (omega
        arith)) (whole_so around number slot scope scoped e)
    statement_does (assign_through at r path e) around number slot scope scoped homes fits rooms good =
        put_does by f get placed depth (resting wide around) most see scope r.name (names_of path)
        scoped.distinct (nothing_so around number slot scope scoped (number + 0) (slot + 0) (omega arith) (omega
        arith)) (whole_so around number slot scope scoped e)
    statement_does (conditional at tests) around number slot scope scoped homes fits rooms good =
        does_holds (λ names slots h. nothing_new around false number slot (number + names_in_tests tests) (slot +
        0) scope scoped (omega arith) (omega arith) names slots (refl, h.1))
        (tests_do tests around number slot scope None (pure meaning.falls) false scoped homes fits rooms good
        (skip_does by f get placed depth (resting wide around) most scope (Behind_so around false scope) (λ names
        slots ag. (refl, ag))))
    statement_does (conditional_else at tests other) around number slot scope scoped homes fits rooms good =
        let after_tests = number + names_in_tests tests in
        let inner = more_numbers by number slot after_tests scope (omega arith) scoped in
        does_holds (λ names slots h. nothing_new around (out.branches_return tests && out.block_returns other)
        number slot (number + (names_in_tests tests + names_in_block other)) (slot + 0) scope scoped
        (omega arith) (omega arith) names slots h)
        (tests_do tests around number slot scope (Some (written.block see around slot (slots_in by scope)
        other)) _ (out.block_returns other) scoped homes.0 (omega (arith, fits)) (omega (arith, rooms)) good.0
        (emptying_does (out.block_returns other) around after_tests slot scope other inner
        (all_do other around after_tests slot scope inner homes.1 (omega (arith, fits)) (omega (arith, rooms))
        good.1)))
    statement_does (case_of at e all) around number slot scope scoped homes fits rooms good =
        does_holds (λ names slots h. nothing_new around (out.arms_return all) number slot (number + names_in_arms
        all) (slot + 0) scope scoped (omega arith) (omega arith) names slots h)
        (case_does all around number slot scope scoped.distinct (note_of e) rooms (whole_so around number slot scope scoped
        e) (λ p q stands tag vs n l s names slots c ag le lead.
        arms_do all around number slot scope (note_of e) scoped homes fits rooms good p q stands tag vs n l s
        names slots c ag le lead))
    statement_does (while_loop at e body) around number slot scope scoped homes fits rooms good =
        does_holds (λ names slots h. nothing_new around false number slot (number + names_in_block body) (slot +
        0) scope scoped (omega arith) (omega arith) names slots h)
        (while_does by f get placed depth (resting wide around) most (out.block_returns body) scope (whole_so
        around number slot scope scoped e)
        (emptying_does (out.block_returns body) around number slot scope body scoped (all_do body around number
        slot scope scoped homes fits rooms good)))
    statement_does (for_loop at name first last body) around number slot scope scoped homes fits rooms good =
        let of = see.type_of (note_of first) in
        does_holds (λ names slots h. nothing_new around false number slot (number + (1 + names_in_block body))
        (slot + 0) scope scoped (omega arith) (omega arith) names slots h)
        (for_does by f get placed depth (resting wide around) most number slot scope scoped (omega (arith, fits))
        (let a = block_least see body (slot + 3) in omega (arith, a, rooms)) name.name of (out.block_returns
        body) _ _ (1 + names_in_block body) (omega arith)
        (λ kind kind2 z last_number.
        let inner = variable name.name number (slot + 2) of ∷ loop_scope by f get placed depth (resting wide
        around) most slot kind kind2 z last_number scope in
        let top : number + 1 + names_in_block body ≡ number + (1 + names_in_block body) = omega arith in
        does_holds (λ names slots h. subst (λ t. Inside_so around (out.block_returns body) (number + 1) t inner
        names slots) top h)
        (all_do body around (number + 1) (slot + 3) inner (scoped_loop by f get placed depth (resting wide around)
        most number slot scope scoped homes.0
        name.name of kind kind2 z last_number) homes.1 (omega (arith, fits)) rooms good))
        (whole_so around number slot scope scoped first)
        (λ a. whole_so around number (slot + 1) (keeps slot a ∷ scope) (scoped_kept by number slot scope scoped
        a) last))
    statement_does (borrow_in at access x r region body stop) around number slot scope scoped homes fits rooms
        good =
        borrow_so (mode_of access) x.name r.name body around number slot scope scoped homes.0 fits rooms
        (λ of. all_do body (around + 1) (number + 1) (slot + 1) (variable r.name number slot of ∷ scope)
        (scoped_more by number slot scope scoped homes.0 r.name of) homes.1 (omega (arith, fits)) rooms good)
    statement_does (borrow_typed at r t mode x body stop) around number slot scope scoped homes fits rooms good =
        borrow_so mode x.name r.name body around number slot scope scoped homes.0 fits rooms
        (λ of. all_do body (around + 1) (number + 1) (slot + 1) (variable r.name number slot of ∷ scope)
        (scoped_more by number slot scope scoped homes.0 r.name of) homes.1 (omega (arith, fits)) rooms good)
    statement_does (discard at e) around number slot scope scoped homes fits rooms good =
        discard_does by f get placed depth (resting wide around) most scope
        (nothing_so around number slot scope scoped (number + 0) (slot + 0) (omega arith) (omega arith))
        (whole_so around number slot scope scoped e)
    statement_does (return_of at e) around number slot scope scoped homes fits rooms good =
        return_does by f get placed depth (resting wide around) most (opening_so around e) scope
        (opening_agrees by f get placed depth wide around most (code.opens e) scope)
        (expression_runs by see invoke depth f get placed view good_calls (opening_so around e) most scope
        scoped.distinct e (λ h. h))

    -- statements one after another
    pub all_do : (b : Statements Bytes T C) (around number slot : ℕ) (scope : List (Entry by))
        → Scoped by number slot scope → BlockHomed by.slot see number slot b
        → number + names_in_block b ≤ wide → room_of_block see slot b ≤ most → BlockBindsOnce b
        → Does_so around scope (written.block see around slot (slots_in by scope) b) (run_all see invoke depth
        number (numbers_in by scope) b) (Inside_so around (out.block_returns b) number (number + names_in_block
        b) scope)
    all_do no_statements around number slot scope scoped homes fits rooms good =
        skip_does by f get placed depth (resting wide around) most scope (Inside_so around false number (number +
        0) scope) (λ names slots ag. (
          refl,
          ended_none by f get depth (resting wide around) most number (number + 0) scope names slots ag,
        ))
    all_do (statements s rest) around number slot scope scoped homes fits rooms good = record {
      runs = λ p q names slots c n stands ag le.
          let number2 = number + names_in s in
          let slot2 = slot + kept see s in
          let numbers2 = meaning.after see number s (numbers_in by scope) in
          let slots2 = slots_of.after see slot s (slots_in by scope) in
          let top : number2 + names_in_block rest ≡ number + (names_in s + names_in_block rest) = omega arith in
          let row = parts.of_row (written.statement see around slot (slots_in by scope) s) (written.block
          see around slot2 slots2 rest) p q stands in
          then_runs by f (run see invoke depth number (numbers_in by scope) s (world by f names c) n)
          (run_all see invoke depth number2 numbers2 rest)
          ((statement_does s around number slot scope scoped homes.0 (omega (arith, fits)) (omega (arith, rooms))
          good.0).runs p row.middle names slots c n row.first ag le)
          (λ names slots c l h few.
          let more = h.1 in
          let inner = more.new ++ scope in
          let next = all_do rest around number2 slot2 inner more.scoped homes.1 (omega (arith, fits)) (omega (
            arith,
            rooms,
          )) good.1 in
          let here = subst (λ x. Stands get (written.block see around slot2 x rest) row.middle q)
          more.slots_are row.second in
          flow_holds by f (run_all see invoke depth number2 numbers2 rest (world by f names c) l)
          (λ names slots k. (
            or_from (out.returns s) (out.block_returns rest) h.0 k.0,
            subst (λ t. Ended by f get depth (resting wide around) most number t scope names slots) top
                (ended_outer by f get depth (resting wide around) most number2 slot2 number number2 (number2 +
                names_in_block rest) more.new scope names slots more.fresh more.scoped.under (omega arith) (omega
                arith) k.1),
          ))
          (subst (λ x. Sim by f (flow_aim by f (Inside_so around (out.block_returns rest) number2 (number2 +
          names_in_block rest) inner) q) 0 (spot by f
          row.middle [] slots c) l (run_all see invoke depth number2 x rest (world by f names c) l))
          (sym more.numbers_are) (next.runs row.middle q names slots c l here more.agree (omega (
            arith,
            le,
            few,
          )))));
    }

    -- the arm of the case that is met, from its beginning
    pub arms_do : (all : Arms Bytes T C) (around number slot : ℕ) (scope : List (Entry by)) (note : T)
        → Scoped by number slot scope → ArmsHomed by.slot see number slot note all
        → number + names_in_arms all ≤ wide → room_of_arms see slot note all ≤ most → ArmsBindOnce all
        → ArmsRun around number slot scope note all
    arms_do no_arms around number slot scope note scoped homes fits rooms good p q stands tag vs n l s names slots
        c ag le lead = record { follows = tt }
    arms_do (arms at name binds body rest) around number slot scope note scoped homes fits rooms good p q stands
        tag vs n l s names slots c ag le lead =
        let own = length binds + names_in_block body in
        arm_does around number slot scope note at name binds body rest scoped (omega (arith, fits)) (omega
        (arith, rooms)) good.0 homes.0
        (λ new scoped2. all_do body around (number + length binds) (slot + length (fields_of_case see note
        name.name)) (new ++ scope) scoped2 homes.1 (omega (arith, fits)) (omega (arith, rooms)) good.1)
        p q stands tag vs n l s names slots c ag le lead
        (λ p2 q2 stands2 lead2. arms_do rest around (number + own) slot scope note (more_numbers by number slot
        (number + own) scope (omega arith) scoped) homes.2 (omega (arith, fits)) (omega (arith, rooms)) good.2
        p2 q2 stands2 tag vs n l s names slots c ag le lead2)

    -- tests, and what follows where none is true
    pub tests_do : (tests : Branches Bytes T C) (around number slot : ℕ) (scope : List (Entry by)) (o :
        Option Written) (m : Action Flow) (last : Bool)
        → Scoped by number slot scope → TestsHomed by.slot see number slot tests
        → number + names_in_tests tests ≤ wide
        → room_of_tests see slot tests ≤ most → TestsBindOnce tests
        → Does_so around scope (unwrap_or o nothing) m (Behind_so around last scope)
        → Does_so around scope (unwrap_or (written.tests_of see around slot (slots_in by scope) tests o) nothing)
        (run_tests see invoke depth number (numbers_in by scope) tests m) (Behind_so around
        (out.branches_return tests && last) scope)
    tests_do no_branches around number slot scope o m last scoped homes fits rooms good other = other
    tests_do (branches e body rest) around number slot scope o m last scoped homes fits rooms good other =
        let number2 = number + names_in_block body in
        does_holds (λ names slots h. (
          sym (and_assoc (out.block_returns body) (out.branches_return rest)
              last) ∙ h.0,
          h.1,
        ))
        (branch_does by f get placed depth (resting wide around) most (out.block_returns body)
        (out.branches_return rest && last) scope (written.tests_of see around slot (slots_in by scope) rest o)
        (whole_so around number slot scope scoped e)
        (emptying_does (out.block_returns body) around number slot scope body scoped (all_do body around number
        slot scope scoped homes.0 (omega (arith, fits)) (omega (arith, rooms)) good.0))
        (tests_do rest around number2 slot scope o m last (more_numbers by number slot number2 scope (omega
        arith) scoped) homes.1 (omega (arith, fits)) (omega (arith, rooms)) good.1 other))

  -- a block, at the end of which its names are emptied
  pub block_does : (b : Statements Bytes T C) (around number slot : ℕ) (scope : List (Entry by))
      → Scoped by number slot scope → BlockHomed by.slot see number slot b
      → number + names_in_block b ≤ wide → room_of_block see slot b ≤ most → BlockBindsOnce b
      → Does_so around scope (written.block see around slot (slots_in by scope) b) (emptying see number b (run_all
      see invoke depth number (numbers_in by scope) b)) (Behind_so around (out.block_returns b) scope)
  block_does b around number slot scope scoped homes fits rooms good =
      emptying_does (out.block_returns b) around number slot scope b scoped (all_do b around number slot scope
      scoped homes fits rooms good)
