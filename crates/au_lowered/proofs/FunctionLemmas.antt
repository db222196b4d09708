-- A call does what the function means.
use Rattle.std.proofs.Common.{◌≡◌, ℕ, zero, suc, ◌+◌, ◌-◌, ◌<◌, ◌≤◌, ◌==◌, List, [], ◌∷◌, ◌++◌, length, map}
use Rattle.std.proofs.Common.{reverse, replicate, Option, Some, None, refl, sym, ap, subst, subst₂, ◌∙◌, Bool}
use Rattle.std.proofs.Common.{arith, slice_get, lt-ltb, eq-eqb, eqb-true, append_assoc, true, false, inl, inr}
use Rattle.std.proofs.Common.{◌⊎◌, ltb-true, ltb-false, nat_lt, ap₂, take, true≢false}
use Rattle.std.proofs.Math.Nat.{le_refl}
use Rattle.std.proofs.lemmas.List.{length-append, length-map, length-replicate, take_at}
use Rattle.au_low.specs.declared.instructions.Instr.TheVariants as instr
use Rattle.au_low.specs.Instructions as low
use Rattle.au_low.specs.Instructions.{act}
use Rattle.au_low.specs.Machines as machines
use Rattle.au_low.specs.Machines.{Low, new_slots, having, ordered, popping_all}
use Rattle.au_lowered.specs.Drafts.{Draft}
use Rattle.au_lowered.specs.Programs.{body_of, slots_of}
use Rattle.au_lowered.specs.Standing.{HasAt, Stands}
use Rattle.au_lowered.specs.Statements.{block}
use Rattle.au_typing.specs.Returns.{block_returns}
use Rattle.au_meaning.specs.Acts.{new_names, ends_frame, closed_to}
use Rattle.au_meaning.specs.Meanings.{call_at, enters, returned, scope_of}
use Rattle.au_meaning.specs.Names.{with_parameters, names_in_block}
use Rattle.au_meaning.specs.Statements.{Flow, run_block}
use Rattle.au_meaning.specs.Ticks as ticks
use Rattle.au_meaning.specs.Ticks.{Out, gives, aborts, cut, no_rule, follows, pure, does}
use Rattle.au_meaning.specs.Views.{Field, Function}
use Rattle.au_meaning.specs.Worlds.{Value}
use Rattle.au_lowered.specs.Scopes.{Entry, variable, numbers_in, slots_in, Held, Same, Scoped, Distinct}
use Rattle.au_lowered.specs.Scopes.{InScope, Levels, Only}
use Rattle.au_lowered.specs.Frames.{Agree, Rest_of, Wide, resting, Frame, machine, spot, world}
use Rattle.au_lowered.specs.Sides.{Coding, Both, Names, Slots, Common, Spot, Named, Slotted, as_ran, lower}
use Rattle.au_lowered.specs.Sides.{meant, ran, all_meant, all_ran, source}
use Rattle.au_lowered.specs.Runs.{at, reached, Leads, Aim, aim_at, Sim}
use Rattle.au_lowered.proofs.CallLemmas.{popped_all}
use Rattle.au_lowered.proofs.FrameLemmas.{get_at, number_free, slot_free, under_more}
use Rattle.au_lowered.proofs.LeadLemmas.{leads_to, leads_tick}
use Rattle.au_lowered.proofs.SimLemmas.{sim_on, sim_spare, sim_given, sim_where}
use Rattle.au_lowered.proofs.StepLemmas.{Is}
use Rattle.au_lowered.specs.Flows.{Way, falls, returns, way_meant, gone, lands, flow_aim, Behind, OnFalls}
use Rattle.au_lowered.specs.Premises.{GoodCalls}
use Rattle.au_lowered.specs.FollowPrograms.{HasFunction, HasProgram}
use Rattle.au_lowered.proofs.BlockLemmas.{block_does}
use Rattle.au_lowered.proofs.RoomLemmas.{block_least}
use Rattle.au_lowered.specs.Homes.{BlockHomed, ParametersHomed}
use Rattle.au_lowered.proofs.CloseLemmas.{closed_meant, borrow_number, newer_all, oldest_none}
use Rattle.au_lowered.proofs.DeedLemmas.{closes_to}
use Rattle.au_lowered.proofs.MoveLemmas.{deeds_closed}
use Rattle.au_lowered.proofs.LevelLemmas.{level_of, Last, levels_last, levels_more}
use Rattle.std.proofs.lemmas.Option.{slice_get_within}

-- code stands at the beginning of itself
has_from : (done rest : List Draft) → HasAt (λ p. slice_get (done ++ rest) p) (length done) rest
has_from done [] = tt
has_from done (draft ∷ rest) =
    let more : length (done ++ draft ∷ []) ≡ length done + 1 = omega (
      arith,
      length-append done (draft ∷
          []),
    ) in
    let same = append_assoc done (draft ∷ []) rest in (
      get_at done draft rest (length done) refl,
      subst₂ (λ all n. HasAt (λ p. slice_get all p) n rest) same more (has_from (done ++ draft ∷ []) rest),
    )

-- where something is found in two lists
get_either : {A : Type 0} (xs ys : List A) (n : ℕ) (x : A) → slice_get (xs ++ ys) n ≡ Some x
    → (slice_get xs n ≡ Some x) ⊎ ((length xs ≤ n) × (slice_get ys (n - length xs) ≡ Some x))
get_either [] ys n x e =
    let none : n - 0 ≡ n = omega arith in
    inr (omega arith, ap (λ k. slice_get ys k) none ∙ e)
get_either (z ∷ xs) ys zero x e = inl e
get_either (z ∷ xs) ys (suc n) x e = later (get_either xs ys n x e)
  where
    later : (slice_get xs n ≡ Some x) ⊎ ((length xs ≤ n) × (slice_get ys (n - length xs) ≡ Some x))
        → (slice_get (z ∷ xs) (suc n) ≡ Some x) ⊎ ((length (z ∷ xs) ≤ suc n) × (slice_get ys (suc n - length (z
        ∷ xs)) ≡ Some x))
    later (inl h) = inl h
    later (inr h) =
        let over : suc n - length (z ∷ xs) ≡ n - length xs = omega arith in
        inr (omega (arith, h.0), ap (λ k. slice_get ys k) over ∙ h.1)

-- names that are given no value hold none
none_given : (many n : ℕ) (v : Value) → slice_get (replicate many None) n ≡ Some (Some v) → ⊥
none_given zero n v e = absurd (grind arith)
none_given (suc many) zero v e = absurd (grind arith)
none_given (suc many) (suc n) v e = none_given many n v e

module _ (by : Coding) where
  -- ---- parameters

  -- parameters in scope
  abbrev pub with_both : ℕ → ℕ → List Field → List (Entry by) → List (Entry by)
  with_both number slot [] scope = scope
  with_both number slot (p ∷ rest) scope = with_both (number + 1) (slot + 1) rest (variable p.name number
      slot (Some p.of) ∷ scope)

  numbers_with : (number slot : ℕ) (params : List Field) (scope : List (Entry by))
      → numbers_in by (with_both number slot params scope)
      ≡ with_parameters number params (numbers_in by scope)
  numbers_with number slot [] scope = refl
  numbers_with number slot (p ∷ rest) scope = numbers_with (number + 1) (slot + 1) rest (variable p.name
      number slot (Some p.of) ∷ scope)

  slots_with : (number slot : ℕ) (params : List Field) (scope : List (Entry by))
      → slots_in by (with_both number slot params scope) ≡ with_parameters slot params (slots_in by scope)
  slots_with number slot [] scope = refl
  slots_with number slot (p ∷ rest) scope = slots_with (number + 1) (slot + 1) rest (variable p.name number
      slot (Some p.of) ∷ scope)

  scoped_with : (number slot : ℕ) (params : List Field) (scope : List (Entry by))
      → Scoped by number slot scope → ParametersHomed by.slot number slot params
      → Scoped by (number + length params) (slot + length params) (with_both number slot params scope)
  scoped_with number slot [] scope s homes =
      let e : number ≡ number + 0 = omega arith in
      let g : slot ≡ slot + 0 = omega arith in
      subst₂ (λ n m. Scoped by n m scope) e g s
  scoped_with number slot (p ∷ rest) scope s homes =
      let e : number + 1 + length rest ≡ number + length (p ∷ rest) = omega arith in
      let g : slot + 1 + length rest ≡ slot + length (p ∷ rest) = omega arith in
      subst₂ (λ n m. Scoped by n m (with_both (number + 1) (slot + 1) rest (variable p.name number slot
      (Some p.of) ∷ scope))) e g
      (scoped_with (number + 1) (slot + 1) rest (variable p.name number slot (Some p.of) ∷ scope) (record {
        distinct = (
          number_free by number slot number scope s.under (le_refl number),
          slot_free by number
              slot slot scope s.under (le_refl slot),
          homes.0,
          s.distinct,
        );
        under = (
          omega arith,
          omega arith,
          under_more by number slot (number + 1) (slot + 1) scope (omega
              arith) (omega arith) s.under,
        );
      }) homes.1)

  held_with : (params : List Field) (args : List (Both by)) (names more : Named) (slots more2 : Slotted)
      (scope : List (Entry by))
      → length args ≡ length params
      → Held by scope (names ++ (map (λ (one : Value). Some one) (all_meant by args) ++ more)) (slots ++
      (map (λ (one : Low). Some one) (all_ran by args) ++ more2))
      → Held by (with_both (length names) (length slots) params scope)
      (names ++ (map (λ (one : Value). Some one) (all_meant by args) ++ more)) (slots ++ (map (λ (one :
      Low). Some one) (all_ran by args) ++ more2))
  held_with [] args names more slots more2 scope e h = h
  held_with (p ∷ params) [] names more slots more2 scope e h = absurd (omega (arith, e))
  held_with (p ∷ params) (v ∷ args) names more slots more2 scope e h =
      let rest = map (λ (one : Value). Some one) (all_meant by args) ++ more in
      let rest2 = map (λ (one : Low). Some one) (all_ran by args) ++ more2 in
      let first = Some (meant by v) in
      let first2 = Some (ran by v) in
      let all = names ++ first ∷ rest in
      let all2 = slots ++ first2 ∷ rest2 in
      let scope2 = variable p.name (length names) (length slots) (Some p.of) ∷ scope in
      let same : Same by (length names) (length slots) all all2 = record {
        both = Some v;
        in_name = get_at names first rest (length names) refl;
        in_slot = get_at slots first2 rest2 (length slots) refl;
      } in
      let a = append_assoc names (first ∷ []) rest in
      let b = append_assoc slots (first2 ∷ []) rest2 in
      let inner : Held by scope2 ((names ++ first ∷ []) ++ rest) ((slots ++ first2 ∷ []) ++ rest2) =
      subst₂ (λ x y. Held by scope2 x y) (sym a) (sym b) (same, h) in
      let done = held_with params args (names ++ first ∷ []) more (slots ++ first2 ∷ []) more2 scope2 (omega
      (arith, e)) inner in
      let n : length (names ++ first ∷ []) ≡ length names + 1 = omega (
        arith,
        length-append names (first ∷
            []),
      ) in
      let m : length (slots ++ first2 ∷ []) ≡ length slots + 1 = omega (
        arith,
        length-append slots (first2 ∷
            []),
      ) in
      subst₂ (λ i j. Held by (with_both i j params scope2) all all2) n m
      (subst₂ (λ x y. Held by (with_both (length (names ++ first ∷ [])) (length (slots ++ first2 ∷ []))
      params scope2) x y) a b done)

  -- a parameter is in scope
  in_with_old : (number slot n : ℕ) (params : List Field) (scope : List (Entry by)) → InScope by n scope
      → InScope by n (with_both number slot params scope)
  in_with_old number slot n [] scope h = h
  in_with_old number slot n (p ∷ rest) scope h =
      in_with_old (number + 1) (slot + 1) n rest (variable p.name number slot (Some p.of) ∷ scope) (inr h)

  in_with : (number slot n : ℕ) (params : List Field) (scope : List (Entry by)) → number ≤ n
      → n < number + length params → InScope by n (with_both number slot params scope)
  in_with number slot n [] scope le less = absurd (omega (arith, le, less))
  in_with number slot n (p ∷ rest) scope le less =
      by_test (number == n) refl (λ more. in_with (number + 1) (slot + 1) n rest (variable p.name number slot
      (Some p.of) ∷ scope) more (omega (arith, less)))
    where
      by_less : (b : Bool) → nat_lt number n ≡ b → (number == n) ≡ false → number + 1 ≤ n
      by_less true t2 t = let less = ltb-true number n t2 in omega (arith, less)
      by_less false t2 t =
          let least = ltb-false number n t2 in
          let same : number ≡ n = omega (arith, least, le) in
          absurd (true≢false (sym (eq-eqb number n same) ∙ t))

      by_test : (b : Bool) → (number == n) ≡ b
          → (number + 1 ≤ n → InScope by n (with_both (number + 1) (slot + 1) rest (variable p.name number slot
          (Some p.of) ∷ scope)))
          → InScope by n (with_both number slot (p ∷ rest) scope)
      by_test true t later =
          in_with_old (number + 1) (slot + 1) n rest (variable p.name number slot (Some p.of) ∷ scope) (inl
          (eqb-true number n t))
      by_test false t later = later (by_less (nat_lt number n) refl t)

  only_with : (fn_first others : ℕ) (args : List Value) (params : List Field) → length args ≡ length params
      → Only by (with_both fn_first 0 params []) (new_names fn_first args others)
  only_with fn_first others args params e n v got =
      by_parts (get_either before (values ++ rest) n (Some v) got)
    where
      before : List (Option Value)
      before = replicate fn_first None

      values : List (Option Value)
      values = map (λ (one : Value). Some one) args

      rest : List (Option Value)
      rest = replicate others None

      by_more : (k : ℕ) → fn_first ≤ n → k ≡ n - fn_first
          → (slice_get values k ≡ Some (Some v)) ⊎ ((length values ≤ k) × (slice_get rest (k - length values)
          ≡ Some (Some v)))
          → InScope by n (with_both fn_first 0 params [])
      by_more k le is (inl here) =
          let within = slice_get_within values k (Some v) here in
          in_with fn_first 0 n params [] le (omega (
            arith,
            within,
            is,
            le,
            length-map args (λ (one : Value). Some one),
            e,
          ))
      by_more k le is (inr there) = absurd (none_given others (k - length values) v there.1)

      by_parts : (slice_get before n ≡ Some (Some v)) ⊎ ((length before ≤ n) × (slice_get (values ++ rest) (n -
          length before) ≡ Some (Some v)))
          → InScope by n (with_both fn_first 0 params [])
      by_parts (inl here) = absurd (none_given fn_first n v here)
      by_parts (inr there) =
          let no_value : Option Value = None in
          let many : length before ≡ fn_first = length-replicate fn_first no_value in
          by_more (n - length before) (omega (arith, there.0, many)) (omega (arith, many)) (get_either values rest
          (n - length before) (Some v) there.1)

  -- ---- frames

  -- the frame of a function that is called, and what it begins with
  abbrev pub inner_frame : (f : Frame by) (i p : ℕ) (ops : List (Both by)) (wide : Wide) (room : ℕ) (scope :
      List (Entry by)) → Distinct by scope → Names → Slots → Frame by
  inner_frame f i p ops wide room scope distinct names slots = record {
    function = i;
    waiting = record {
      function = f.function;
      place = p + 1;
      operands = all_ran by ops;
      open_borrows = slots.lent;
    } ∷ f.waiting;
    levels = f.levels ++ record { count = wide.count; room = room; scope = scope; distinct = distinct } ∷ [];
    level = omega (
      arith,
      length-append f.levels (record {
        count = wide.count;
        room = room;
        scope = scope;
        distinct = distinct;
      } ∷ []),
      f.level,
    );
    lent = names.lent ++ f.lent;
  }

  abbrev pub names_inside : List (Option Value) → Names → Names
  names_inside own names = record { below = names.below ++ names.own ∷ []; own = own; lent = [] }

  abbrev pub slots_inside : List (Option Low) → Slots → Slots
  slots_inside own slots = record { below = slots.below ++ slots.own ∷ []; own = own; lent = [] }

  module _ (f : Frame by) (i p : ℕ) (ops : List (Both by)) (wide : Wide) (room : ℕ) (scope : List (Entry by))
      (distinct : Distinct by scope) (names : Names) (slots : Slots) (ag : Agree by f wide room scope names slots)
    where
      abbrev inner : Frame by
      inner = inner_frame f i p ops wide room scope distinct names slots

      -- what the frame that waits holds, and what is told, where the inner frame returns
      abbrev pub names_back : (below : List Named) → Named → Names
      names_back below own = record { below = below; own = own; lent = names.lent }

      abbrev pub slots_back : (below : List Slotted) → Slotted → Slots
      slots_back below own = record { below = below; own = own; lent = slots.lent }

      abbrev pub closed_all : Names → Common by → Common by
      closed_all held c = deeds_closed (map borrow_number held.lent) c

      module _ (held : Names) (held_low : Slots) (rest : Rest_of by inner held held_low) where
        last : Last by f.levels (record { count = wide.count; room = room; scope = scope; distinct = distinct })
            held.below held_low.below
        last = levels_last by f.levels (record {
          count = wide.count;
          room = room;
          scope = scope;
          distinct = distinct;
        }) held.below held_low.below rest.levels

        -- where it returns a value
        gone_is : (v : Both by) (c : Common by)
            → gone by inner v held_low c
            ≡ at (spot by f (p + 1) (v ∷ ops) (slots_back last.slots_below last.slots_own) (closed_all held c))
        gone_is v c =
            let level = level_of by inner held held_low rest in
            let m = machine by f (p + 1) (v ∷ ops) slots c in
            let frames = held_low.below ++ held_low.own ∷ [] in
            let told = lower by frames c in
            ap (λ w. at (record {
              machine = record m { world = record w { frames = take (length inner.waiting) w.frames } };
              output = c.output;
              left = c.left;
            })) (closes_to (as_ran by) by.of frames held_low.lent c.store
            ∙ ap (λ borrows. lower by frames (deeds_closed borrows c)) rest.lent_are)
            ∙ ap (λ all. at (record {
              machine = record m { world = lower by all (closed_all held c) };
              output = c.output;
              left = c.left;
            })) (take_at held_low.below (held_low.own ∷ []) (length inner.waiting) level ∙ last.slots_are)

        ended_is : (c : Common by) → ends_frame (closed_to (length inner.lent) (world by inner held c))
            ≡ world by f (names_back last.names_below last.names_own) (closed_all held c)
        ended_is c =
            let n : length held.below ≡ length (held.below ++ held.own ∷ []) - 1 = omega (
              arith,
              length-append held.below (held.own ∷ []),
            ) in
            ap (λ w. ends_frame w) (closed_meant by inner 0 (length inner.lent) held c (omega arith))
            ∙ ap₂ (λ old new. ends_frame (world by inner (record held { lent = old }) (deeds_closed (map borrow_number
            new) c))) (oldest_none held.lent) (newer_all held.lent)
            ∙ ap (λ all. source by all (names.lent ++ f.lent) (closed_all held c))
            (take_at held.below (held.own ∷ []) (length (held.below ++ held.own ∷ []) - 1) n ∙ last.names_are)

        agree_back : Agree by f wide room scope (names_back last.names_below last.names_own) (slots_back
            last.slots_below last.slots_own)
        agree_back = record {
          names_are = last.stood.names_are;
          slots_are = last.stood.slots_are;
          held = last.stood.held;
          only = last.stood.only;
          rest = record { levels = last.levels; lent_are = ag.rest.lent_are };
          since = ag.since;
        }

      -- what is done with what a body comes to
      abbrev pub leaving : Out Flow → Out Value
      leaving r = follows (follows (follows r returned) (λ a. ticks.◌>>◌ (does (closed_to (length inner.lent)))
          (pure a))) (λ value. ticks.◌>>◌ (does ends_frame) (pure value))

      -- a call that has returned
      pub leave_runs : {H : Names → Slots → Type 0} {q : ℕ} {s : Spot} {n e : ℕ} (r : Out Flow)
          → Sim by inner (flow_aim by inner H q) e s n r
          → Sim by f
          (aim_at (meant by) (λ (v : Both by) (x : Names) (y : Slots). Agree by f wide room scope x y) (λ (v : Both
          by) (y : Slots) (after : Common by). spot by f (p + 1) (v ∷ ops) y after))
          e s n (leaving r)
      unfolding follows
      leave_runs {H} {q} {s} {n} {e} (gives flow w l) g =
          left g.follows.b g.follows.is g.follows.held g.follows.leads
        where
          aim : Aim by Value (Both by)
          aim = aim_at (meant by) (λ (v : Both by) (x : Names) (y : Slots). Agree by f wide room scope x y) (λ (v :
              Both by) (y : Slots) (after : Common by). spot by f (p + 1) (v ∷ ops) y after)

          left : (b : Way by) → flow ≡ way_meant by b
              → OnFalls by inner H b g.follows.names g.follows.slots
              → Leads by.code s n (lands by inner q b g.follows.slots g.follows.c) l e
              → Sim by f aim e s n (leaving (gives flow w l))
          left falls is rest lead = subst (λ x. Sim by f aim e s n (leaving (gives x w l))) (sym is) (record {
            follows
                = tt;
          })
          left (returns v) is rest lead =
              let ended = last g.follows.names g.follows.slots rest in
              subst (λ x. Sim by f aim e s n (leaving (gives x w l))) (sym is)
              (subst (λ x. Sim by f aim e s n (gives (meant by v) (ends_frame (closed_to (length inner.lent) x)) l))
              (sym g.follows.in_world)
              (subst (λ x. Sim by f aim e s n (gives (meant by v) x l)) (sym (ended_is g.follows.names
              g.follows.slots rest g.follows.c))
              (sim_given by f aim v (names_back ended.names_below ended.names_own) (slots_back ended.slots_below
              ended.slots_own) (closed_all g.follows.names g.follows.c) (agree_back g.follows.names g.follows.slots
              rest) (leads_to by.code (gone_is g.follows.names g.follows.slots rest v g.follows.c) lead))))
      leave_runs (aborts fault w l) g = record { follows = g.follows }
      leave_runs (cut w) g = record { follows = g.follows }
      leave_runs (no_rule w l) g = record { follows = tt }

  -- ---- calls

  module _ {T C : Type 0} (functions : ℕ → Option (Function ℕ T C)) (has : HasProgram by functions) where
    -- the frame of a function that is called, before its body is run
    abbrev pub first_names : Function ℕ T C → List (Both by) → List Named → Names
    first_names fn args below = record {
      below = below;
      own = new_names fn.first (all_meant by args) (names_in_block fn.body);
      lent = [];
    }

    abbrev pub first_slots : Function ℕ T C → List (Both by) → List Slotted → Slots
    first_slots fn args below = record { below = below; own = new_slots (slots_of fn) (all_ran by args); lent = [] }

    abbrev pub first_wide : Function ℕ T C → List (Both by) → ℕ
    first_wide fn args = fn.first + (length args + names_in_block fn.body)

    abbrev pub first_scope : Function ℕ T C → List (Entry by)
    first_scope fn = with_both fn.first 0 fn.parameters []

    agree_first : (f : Frame by) (fn : Function ℕ T C) (args : List (Both by)) (below : List Named) (below_low :
        List Slotted) → Levels by f.levels below below_low → length args ≡ length fn.parameters
        → Agree by f (resting (first_wide fn args) 0) (slots_of fn) (first_scope fn) (first_names fn args below)
        (first_slots fn args below_low)
    agree_first f fn args below below_low levels e =
        let others = names_in_block fn.body in
        let values = map (λ (one : Value). Some one) (all_meant by args) in
        let lows = map (λ (one : Low). Some one) (all_ran by args) in
        let many : length values ≡ length args = length-map (all_meant by args) (λ (one : Value). Some one)
        ∙ length-map args (meant by) in
        let many2 : length lows ≡ length args = length-map (all_ran by args) (λ (one : Low). Some one)
        ∙ length-map args (ran by) in
        let many3 : length (all_ran by args) ≡ length args = length-map args (ran by) in
        let least = block_least fn.view fn.body (length fn.parameters) in
        let no_value : Option Value = None in
        let no_low : Option Low = None in
        let before : List (Option Value) = replicate fn.first None in
        let n : length before ≡ fn.first = length-replicate fn.first None in
        record {
          names_are = omega (
            arith,
            length-append before (values ++ replicate others None),
            n,
            length-append
                values (replicate others None),
            many,
            length-replicate others no_value,
          );
          slots_are = omega (
            arith,
            length-append lows (replicate (slots_of fn - length (all_ran by args))
                None),
            many2,
            many3,
            length-replicate (slots_of fn - length (all_ran by args)) no_low,
            least,
            e,
          );
          only = only_with fn.first others (all_meant by args) fn.parameters (length-map args (meant by) ∙ e);
          rest = record { levels = levels; lent_are = refl };
          since = refl;
          held = subst (λ k. Held by (with_both k 0 fn.parameters []) (new_names fn.first (all_meant by
              args) others) (new_slots (slots_of fn) (all_ran by args))) n
              (held_with fn.parameters args before (replicate others None) [] (replicate (slots_of fn -
              length (all_ran by args)) None) [] e tt);
        }

    -- the body of a function
    abbrev pub body_aim : (f : Frame by) (d : ℕ) (fn : Function ℕ T C) (args : List (Both by)) → Aim by Flow (Way
        by)
    body_aim f d fn args = flow_aim by f (Behind by f (λ p. slice_get (body_of fn) p) d (resting (first_wide fn
        args) 0) (slots_of fn) (block_returns fn.body) (first_scope fn)) (0 + length (body_of fn))

    pub body_runs : (f : Frame by) (d l : ℕ) (fn : Function ℕ T C) (args : List (Both by)) (below : List Named)
        (below_low : List Slotted) (c : Common by) → Levels by f.levels below below_low
        → HasFunction by f.function fn → GoodCalls by (call_at functions d) d → l ≤ d → length args
        ≡ length fn.parameters
        → Sim by f (body_aim f d fn args) 0 (spot by f 0 [] (first_slots fn args below_low) c) l
        (run_block fn.view (call_at functions d) d (fn.first + length args) (scope_of fn) fn.body (world by
        f (first_names fn args below) c) l)
    body_runs f d l fn args below below_low c levels have calls le e =
        let scope = first_scope fn in
        let wide = first_wide fn args in
        let names = first_names fn args below in
        let slots = first_slots fn args below_low in
        let scoped0 = scoped_with fn.first 0 fn.parameters [] (record { distinct = tt; under = tt }) have.homes.0
        in
        let n : fn.first + length fn.parameters ≡ fn.first + length args = omega (arith, e) in
        let m : 0 + length fn.parameters ≡ length fn.parameters = omega arith in
        let scoped = subst₂ (λ i j. Scoped by i j scope) n m scoped0 in
        let homes = subst (λ i. BlockHomed by.slot fn.view i (length fn.parameters) fn.body) n have.homes.1 in
        let does = block_does by fn.view (call_at functions d) d f (λ p. slice_get (body_of fn) p)
        have.placed have.view calls wide (slots_of fn) fn.body 0 (fn.first + length args) (length
        fn.parameters) scope scoped homes (omega arith) (le_refl (slots_of fn)) have.whole in
        let stands : Stands (λ p. slice_get (body_of fn) p) (block fn.view 0 (length fn.parameters)
        (with_parameters 0 fn.parameters []) fn.body) 0 (0 + length (body_of fn)) =
        record { has = has_from [] (body_of fn); ends = refl } in
        let here = subst (λ x. Stands (λ p. slice_get (body_of fn) p) (block fn.view 0 (length
        fn.parameters) x fn.body) 0 (0 + length (body_of fn))) (sym (slots_with fn.first 0 fn.parameters
        [])) stands in
        subst (λ x. Sim by f (body_aim f d fn args) 0 (spot by f 0 [] slots c) l
        (run_block fn.view (call_at functions d) d (fn.first + length args) x fn.body (world by f names c) l))
        (numbers_with fn.first 0 fn.parameters [])
        (does.runs 0 (0 + length (body_of fn)) names slots c l here (agree_first f fn args below below_low levels
        e) le)

    -- a function begins
    begin_leads : (f : Frame by) (i : ℕ) (order : List ℕ) (fn : Function ℕ T C) (vs args ops : List (Both by))
        (p l : ℕ) (wide : Wide) (room : ℕ) (scope : List (Entry by)) (distinct : Distinct by scope) (names :
        Names) (slots : Slots) (c : Common by)
        → HasFunction by i fn → Is by f p (instr.Call i order) → length vs ≡ length order → length args
        ≡ length fn.parameters → length order ≡ length fn.parameters
        → ordered order (all_ran by vs) ≡ Some (all_ran by args)
        → Leads by.code (spot by f p (reverse vs ++ ops) slots c) (suc l)
        (at (spot by (inner_frame f i p ops wide room scope distinct names slots) 0 [] (slots_inside (new_slots
        (slots_of fn) (all_ran by args)) slots) c)) l 7
    unfolding act
    begin_leads f i order fn vs args ops p l wide room scope distinct names slots c have is many many2 many3 e =
        let s = spot by f p (reverse vs ++ ops) slots c in
        let m = machine by f p ops slots c in
        let low_fn = have.low_function in
        let inner = inner_frame f i p ops wide room scope distinct names slots in
        let right = eq-eqb (length order) low_fn.params (many3 ∙ sym have.params) in
        let least = block_least fn.view fn.body (length fn.parameters) in
        let fits : length (all_ran by args) < low_fn.slots + 1 = omega (
          arith,
          length-map args (ran by),
          many2,
          have.slots,
          least,
        ) in
        leads_to by.code
        (ap (λ o. reached s (having o (λ callee. low.calls i order callee s.machine))) have.there
        ∙ ap (λ b. reached s (machines.where_true b (popping_all (length order) s.machine (λ values m.
        having (ordered order values) (λ values. machines.begins i low_fn values m))))) right
        ∙ ap (λ nx. reached s nx) (popped_all by f (length order) p vs ops slots c (λ values m. having
        (ordered order values) (λ values. machines.begins i low_fn values m)) many)
        ∙ ap (λ o. reached s (having o (λ values. machines.begins i low_fn values m))) e
        ∙ ap (λ b. reached s (machines.where_true b (machines.goes (machine by inner 0 [] (slots_inside (new_slots
        low_fn.slots (all_ran by args)) slots) c)))) (lt-ltb (length (all_ran by args))
        (low_fn.slots + 1) fits)
        ∙ ap (λ n. at (spot by inner 0 [] (slots_inside (new_slots n (all_ran by args)) slots) c))
        have.slots)
        (leads_tick by.code s (instr.Call i order) l is)

    -- a call, by the function that is called
    call_runs : (d : ℕ) → GoodCalls by (call_at functions d) d
        → (f : Frame by) (i : ℕ) (order : List ℕ) (vs args ops : List (Both by)) (p l : ℕ) (wide : Wide) (room :
        ℕ) (scope : List (Entry by)) (names : Names) (slots : Slots) (c : Common by)
        → l ≤ d → Is by f p (instr.Call i order) → length vs ≡ length order → length vs ≡ length args
        → ordered order (all_ran by vs) ≡ Some (all_ran by args)
        → Distinct by scope → Agree by f wide room scope names slots → (o : Option (Function ℕ T C))
        → functions i ≡ o
        → Sim by f
        (aim_at (meant by) (λ (v : Both by) (x : Names) (y : Slots). Agree by f wide room scope x y) (λ (v : Both
        by) (y : Slots) (after : Common by). spot by f (p + 1) (v ∷ ops) y after))
        6 (spot by f p (reverse vs ++ ops) slots c) (suc l) (enters (call_at functions d) d o (all_meant by
        args) (world by f names c) l)
    unfolding follows
    call_runs d calls f i order vs args ops p l wide room scope names slots c le is many also e distinct ag None
        known = record { follows = tt }
    call_runs d calls f i order vs args ops p l wide room scope names slots c le is many also e distinct ag (Some
        fn) known =
        sim_where by f (length (all_meant by args) == length fn.parameters) _ (λ t.
        let count = length-map args (meant by) in
        let e2 : length args ≡ length fn.parameters = sym count
        ∙ eqb-true (length (all_meant by args)) (length fn.parameters) t in
        let inner = inner_frame f i p ops wide room scope distinct names slots in
        let have = has i fn known in
        let levels = levels_more by f.levels names.below slots.below (record {
          count = wide.count;
          room = room;
          scope = scope;
          distinct = distinct;
        }) names.own slots.own ag.rest.levels (record {
          names_are = ag.names_are;
          slots_are = ag.slots_are;
          held = ag.held;
          only = ag.only;
        }) in
        let below = names.below ++ names.own ∷ [] in
        let below_low = slots.below ++ slots.own ∷ [] in
        let lead = begin_leads f i order fn vs args ops p l wide room scope distinct names slots c have is many e2
        (sym many ∙ also ∙ e2) e in
        let body = body_runs inner d l fn args below below_low c levels have calls le e2 in
        let out_of = λ (n : ℕ). run_block fn.view (call_at functions d) d (fn.first + n) (scope_of fn) fn.body
        (world by inner (first_names fn args below) c) l in
        let right = subst (λ n. Sim by inner (body_aim inner d fn args) 0 (spot by inner 0 [] (first_slots fn args
        below_low) c) l (out_of n)) (sym count) body in
        leave_runs f i p ops wide room scope distinct names slots ag (out_of (length (all_meant by args)))
        (sim_spare by inner (out_of (length (all_meant by args))) (omega arith)
        (sim_on by inner (out_of (length (all_meant by args))) lead right)))

    -- calls are good at each depth
    pub good_at : (d : ℕ) → GoodCalls by (call_at functions d) d
    unfolding call_at
    good_at zero f i order vs args ops p l wide room scope names slots c less is many also e distinct ag = absurd
        (omega (arith, less))
    good_at (suc d) f i order vs args ops p l wide room scope names slots c less is many also e distinct ag =
        call_runs d (good_at d) f i order vs args ops p l wide room scope names slots c (omega (arith, less)) is
        many also e distinct ag (functions i) refl
