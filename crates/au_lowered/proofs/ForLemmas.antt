-- `for`.
use Rattle.std.proofs.Common.{◌≡◌, ℕ, zero, suc, ◌+◌, ◌<◌, ◌≤◌, Bool, true, false, not, if◌then◌else◌, List}
use Rattle.std.proofs.Common.{[], ◌∷◌, Option, Some, None, refl, sym, ap, ap₂, subst, subst₂, ◌∙◌, arith}
use Rattle.std.proofs.Common.{ℤ, pos, ◌+ℤ◌, int_lt, le_trans}
use Rattle.std.proofs.lemmas.List.{length-set}
use Rattle.au_base.specs.declared.kinds.IntKind.{IntKind}
use Rattle.au_type_texts.specs.Types.{ClosedType}
use Rattle.au_effects.specs.Numbers.{number_in, same_kind}
use Rattle.au_effects.specs.Parts.{along}
use Rattle.au_effects.specs.Values as values
use Rattle.au_low.specs.declared.instructions.Instr.TheVariants as instr
use Rattle.au_low.specs.Instructions as low
use Rattle.au_low.specs.Instructions.{act, jumps, jumps_unless}
use Rattle.au_low.specs.Machines as machines
use Rattle.au_low.specs.Machines.{Next, goes}
use Rattle.au_lowered.specs.Drafts.{Draft, plain, Written, ◌>>◌, does, unless}
use Rattle.au_lowered.specs.Standing.{Stands, InTurns, PartsStandIn}
use Rattle.au_lowered.specs.Statements.{turns}
use Rattle.au_lowered.proofs.StandLemmas.{parts_stand}
use Rattle.au_meaning.specs.Acts.{holds, with_value}
use Rattle.au_meaning.specs.Statements as meaning
use Rattle.au_meaning.specs.Statements.{Flow, within, for_turns, ranges, both_numbers}
use Rattle.au_meaning.specs.Ticks as ticks
use Rattle.au_meaning.specs.Ticks.{Out, Action, gives, pure, tick, follows, where_true, ◌>>=◌}
use Rattle.au_meaning.specs.Worlds.{Value}
use Rattle.au_syntax.specs.Plain.{Bytes}
use Rattle.au_lowered.specs.Scopes.{Entry, variable, kept, Scoped, SlotFree}
use Rattle.au_lowered.specs.Frames.{Wide, Agree, name_put, slot_put, Frame, machine, spot, world}
use Rattle.au_lowered.specs.Sides.{as_meant, Coding, Both, Names, Slots, Common, Spot, meant, ran}
use Rattle.au_lowered.specs.Runs.{at, reached, Leads, aim_at, Sim}
use Rattle.au_lowered.proofs.FrameLemmas.{set_same, set_other, held_slot, number_free, slot_free, under_more}
use Rattle.au_lowered.proofs.LeadLemmas.{leads_spare, leads_more, leads_to, leads_tick}
use Rattle.au_lowered.proofs.MapLemmas.{number_in_to}
use Rattle.au_lowered.proofs.SimLemmas.{sim_on, sim_spare, sim_given, sim_stuck, sim_bind, sim_where}
use Rattle.au_lowered.proofs.StepLemmas.{meant_set, ran_at, ran_set, ticks_at}
use Rattle.au_lowered.proofs.MoveLemmas.{jump_goes, store_goes}
use Rattle.au_lowered.specs.Premises.{Placed}
use Rattle.au_lowered.specs.Flows.{falls, flow_aim, Behind, Does, Whole, Inside}
use Rattle.au_lowered.proofs.FlowLemmas.{then_runs, empties_run, ended_emptied, ended_outer}
use Rattle.au_lowered.proofs.LevelLemmas.{level_of, agree_new, agree_kept}

-- a value that is a number
pub number_is : {T : Type 0} (v : values.Value T) (kind : IntKind) (z : ℤ) → number_in v ≡ Some (kind, z)
    → v ≡ values.number kind z
number_is values.unit kind z e = absurd (grind arith)
number_is (values.truth b) kind z e = absurd (grind arith)
number_is (values.number k x) kind z e =
    let same : Some (k, x) ≡ Some (kind, z) = e in
    let both : (k, x) ≡ (kind, z) = cc in
    ap (λ (one : IntKind × ℤ). values.number one.0 one.1) both
number_is (values.text t) kind z e = absurd (grind arith)
number_is (values.made tag birth fields) kind z e = absurd (grind arith)
number_is (values.reference borrow place) kind z e = absurd (grind arith)
number_is (values.box id) kind z e = absurd (grind arith)
number_is (values.buffer id) kind z e = absurd (grind arith)
number_is (values.terminal id) kind z e = absurd (grind arith)
number_is (values.root id) kind z e = absurd (grind arith)

module _ (by : Coding) (f : Frame by) (get : ℕ → Option Draft) (placed : Placed by f.function get)
    (depth : ℕ) (wide : Wide) (room : ℕ) where
  parts : PartsStandIn get
  parts = parts_stand get

  abbrev Behind_so : Bool → List (Entry by) → Names → Slots → Type 0
  Behind_so out scope names slots = Behind by f get depth wide room out scope names slots

  abbrev Agree_so : List (Entry by) → Names → Slots → Type 0
  Agree_so scope names slots = Agree by f wide room scope names slots

  abbrev Inside_so : Bool → ℕ → ℕ → List (Entry by) → Names → Slots → Type 0
  Inside_so out first top scope names slots = Inside by f get depth wide room out first top scope names slots

  -- what the slots of a loop hold
  abbrev pub loop_scope : ℕ → IntKind → IntKind → ℤ → ℤ → List (Entry by) → List (Entry by)
  loop_scope slot kind kind2 z last scope = kept (slot + 1) (values.number kind2 last) ∷ kept slot
      (values.number kind z) ∷ scope

  -- the scope in a turn
  pub scoped_loop : (number slot : ℕ) (scope : List (Entry by)) → Scoped by number slot scope
      → by.slot number ≡ slot + 2
      → (name : Bytes) (of : Option ClosedType) (kind kind2 : IntKind) (z last : ℤ)
      → Scoped by (number + 1) (slot + 3) (variable name number (slot + 2) of ∷ loop_scope slot kind kind2 z last scope)
  scoped_loop number slot scope scoped home name of kind kind2 z last =
      let u = scoped.under in
      record {
        distinct = (
          number_free by number slot number scope u (omega arith),
          (
            (λ e. absurd (omega (arith, e))),
            (
              (λ e. absurd (omega (arith, e))),
              slot_free by number slot
                  (slot + 2) scope u (omega arith),
            ),
          ),
          home,
          (
            ((λ e. absurd (omega (arith, e))), slot_free by number slot (slot + 1) scope u (omega arith)),
            (slot_free by number slot slot scope u (omega arith), scoped.distinct),
          ),
        );
        under = (
          omega arith,
          omega arith,
          (
            omega arith,
            (
              omega arith,
              under_more by number slot (number +
                  1) (slot + 3) scope (omega arith) (omega arith) u,
            ),
          ),
        );
      }

  numbers_there : (slot p : ℕ) (ops : List (Both by)) (kind kind2 : IntKind) (z last : ℤ) (scope : List
      (Entry by)) (names : Names) (slots : Slots) (c : Common by) (go : IntKind → ℤ → ℤ → Next)
      → Agree_so (loop_scope slot kind kind2 z last scope) names slots → same_kind kind kind2 ≡ true
      → low.slot_numbers slot (slot + 1) (machine by f p ops slots c) go ≡ go kind z last
  numbers_there slot p ops kind kind2 z last scope names slots c go ag same =
      ap₂ (λ a b. low.both_numbers (along a number_in) (along b number_in) go)
      (ran_at by f slot p ops slots c (Some (values.number kind z)) (level_of by f names slots ag.rest) ag.held.1.0)
      (ran_at by f (slot + 1) p ops slots c (Some (values.number kind2 last)) (level_of by f names slots ag.rest)
      ag.held.0)
      ∙ ap (λ b. machines.where_true b (go kind z last)) same

  module _ (number slot : ℕ) (scope : List (Entry by)) (scoped : Scoped by number slot scope) (fits : number
      + 1 ≤ wide.count) (rooms : slot + 3 ≤ room)
      (name : Bytes) (of : Option ClosedType) (kind kind2 : IntKind) (last : ℤ) (same : same_kind kind kind2
      ≡ true)
      (out : Bool) (write : Written) (body : Action Flow) (count : ℕ) (counts : 1 ≤ count)
      (body_does : (z : ℤ) → Does by f get depth wide room (variable name number (slot + 2) of ∷ loop_scope
      slot kind kind2 z last scope) write body
      (Inside_so out (number + 1) (number + count) (variable name number (slot + 2) of ∷ loop_scope slot kind
      kind2 z last scope))) where
    -- a turn of the meaning
    abbrev pub turn_of : ℤ → Action Flow
    turn_of z = within number count (ticks.◌>>◌ (holds number (values.number kind z)) body)

    in_loop : (z : ℤ) → Scoped by number (slot + 2) (loop_scope slot kind kind2 z last scope)
    in_loop z = record {
      distinct = (
        (
          (λ e. absurd (omega (arith, e))),
          slot_free by number slot (slot + 1) scope scoped.under
              (omega arith),
        ),
        (
          slot_free by number slot slot scope scoped.under (omega arith),
          scoped.distinct,
        ),
      );
      under = (
        omega arith,
        (
          omega arith,
          under_more by number slot number (slot + 2) scope (omega arith)
              (omega arith) scoped.under,
        ),
      );
    }

    -- the variable gets the number
    agree_turn : (z : ℤ) (names : Names) (slots : Slots)
        → Agree_so (loop_scope slot kind kind2 z last scope) names slots
        → Agree_so (variable name number (slot + 2) of ∷ loop_scope slot kind kind2 z last scope)
        (name_put number (Some (values.number kind z)) names) (slot_put (slot + 2) (Some (values.number kind z))
        slots)
    agree_turn z names slots ag =
        let inner = loop_scope slot kind kind2 z last scope in
        let v : Both by = values.number kind z in
        let free = number_free by number (slot + 2) number inner (in_loop z).under (omega arith) in
        let free2 = slot_free by number (slot + 2) (slot + 2) inner (in_loop z).under (omega arith) in
        agree_new by f wide room inner name number (slot + 2) of v names slots free free2 (omega (
          arith,
          ag.names_are,
          fits,
        )) (omega (arith, ag.slots_are, rooms)) ag

    -- LOOK and STORE before the body
    enters_turn : {s : Spot} {n l : ℕ} (p : ℕ) (z : ℤ) (names : Names) (slots : Slots) (c : Common by)
        → get p ≡ Some (plain (instr.Look slot [])) → get (p + 1) ≡ Some (plain (instr.Store (slot + 2)))
        → Agree_so (loop_scope slot kind kind2 z last scope) names slots
        → Leads by.code s n (at (spot by f p [] slots c)) l 7
        → Leads by.code s n (at (spot by f (p + 1 + 1) [] (slot_put (slot + 2) (Some (values.number kind
        z)) slots) c)) l 5
    unfolding act
    enters_turn p z names slots c look store ag lead =
        let v : Both by = values.number kind z in
        let m = machine by f p [] slots c in
        let looked : Leads by.code _ _ (at (spot by f (p + 1) (v ∷ []) slots c)) _ 6 =
        leads_to by.code
        (ap (λ o. reached (spot by f p [] slots c) (machines.having (along o (λ x. Some x)) (λ x.
        machines.pushes x m))) (ran_at by f slot p [] slots c (Some v) (level_of by f names slots ag.rest)
        ag.held.1.0))
        (leads_more by.code (instr.Look slot []) (placed.has p (plain (instr.Look slot [])) look) lead) in
        leads_to by.code
        (ap (λ nx. reached (spot by f (p + 1) (v ∷ []) slots c) nx) (store_goes by f (slot + 2) (p + 1) v []
        slots c (level_of by f names slots ag.rest) (omega (arith, ag.slots_are, rooms))))
        (leads_more by.code (instr.Store (slot + 2)) (placed.has (p + 1) (plain (instr.Store (slot + 2)))
        store) looked)

    -- what the turn leaves
    turn_runs : (p q : ℕ) (z : ℤ) (names : Names) (slots : Slots) (c : Common by) (l : ℕ)
        → Stands get write p q → Agree_so (loop_scope slot kind kind2 z last scope) names slots → l ≤ depth
        → Sim by f (flow_aim by f (Behind_so out (loop_scope slot kind kind2 z last scope)) q) 0 (spot by f
        p [] (slot_put (slot + 2) (Some (values.number kind z)) slots) c) l (turn_of z (world by f names c)
        l)
    unfolding follows
    turn_runs p q z names slots c l stands ag le =
        let inner = loop_scope slot kind kind2 z last scope in
        let entry = variable name number (slot + 2) of in
        let names2 = name_put number (Some (values.number kind z)) names in
        let slots2 = slot_put (slot + 2) (Some (values.number kind z)) slots in
        let s = spot by f p [] slots2 c in
        let run = (body_does z).runs p q names2 slots2 c l stands (agree_turn z names slots ag) le in
        let also = subst (λ w. Sim by f (flow_aim by f (Inside_so out (number + 1) (number + count) (entry ∷
        inner)) q) 0 s l (body w l)) (sym (meant_set by f number (Some (values.number kind z)) names c)) run in
        let under = under_more by number (slot + 2) (number + 1) (slot + 3) inner (omega arith) (omega arith)
        (in_loop z).under in
        empties_run by f number count (body (with_value number (Some (values.number kind z)) (world by f
        names c)) l)
        (λ x y h. (
          h.0,
          ended_emptied by f get depth wide room number (slot + 2) number count (number + count) inner x y
              (in_loop z).under (omega arith) (omega arith)
              (ended_outer by f get depth wide room (number + 1) (slot + 3) number (number + 1) (number + count)
              (entry ∷ []) inner x y (omega arith, tt) (omega arith, omega arith, under) (omega (arith, counts))
              (omega arith) h.1),
        )) also

    -- one more turn, if there is one
    abbrev pub again_of : ℕ → ℤ → Action Flow
    again_of turns z = tick (if int_lt z last then for_turns turns turn_of (z +ℤ pos 1) last else pure
        meaning.falls)

    agree_next : (z y : ℤ) (names : Names) (slots : Slots)
        → Agree_so (loop_scope slot kind kind2 z last scope) names slots
        → Agree_so (loop_scope slot kind kind2 y last scope) names (slot_put slot (Some (values.number kind
        y)) slots)
    agree_next z y names slots ag = record {
      names_are = ag.names_are;
      slots_are = length-set slots.own slot (Some (values.number kind y)) ∙ ag.slots_are;
      only = ag.only;
      rest = ag.rest;
      since = ag.since;
      held = (
        set_other slots.own (slot + 1) slot (Some (values.number kind y)) (λ e. absurd (omega (arith, e)))
            ∙ ag.held.0,
        (
          set_same slots.own slot (Some (values.number kind y)) (omega (arith, ag.slots_are, rooms)),
          held_slot by scope slot names.own slots.own (Some (values.number kind y)) (slot_free by number slot slot
              scope scoped.under (omega arith)) ag.held.1.1,
        ),
      );
    }

    step_runs : (turns m q p : ℕ) (z : ℤ) (names : Names) (slots : Slots) (c : Common by) (k : ℕ)
        → get m ≡ Some (plain (instr.ForStep slot (slot + 1) p)) → q ≡ m + 1
        → Agree_so (loop_scope slot kind kind2 z last scope) names slots
        → ((slots2 : Slots) → Agree_so (loop_scope slot kind kind2 (z +ℤ pos 1) last scope) names slots2
        → Leads by.code (spot by f m [] slots c) (suc k) (at (spot by f p [] slots2 c)) k 7
        → Sim by f (flow_aim by f (Behind_so false scope) q) 0 (spot by f m [] slots c) (suc k) (for_turns
        turns turn_of (z +ℤ pos 1) last (world by f names c) k))
        → Sim by f (flow_aim by f (Behind_so false scope) q) 0 (spot by f m [] slots c) (suc k)
        ((if int_lt z last then for_turns turns turn_of (z +ℤ pos 1) last else pure meaning.falls) (world by
        f names c) k)
    unfolding act
    step_runs turns m q p z names slots c k here next ag again = by_test (int_lt z last) refl
      where
        go : IntKind → ℤ → ℤ → Next
        go kind a b = if int_lt a b then jumps by.code p (machines.slot_set slot (Some (values.number kind
            (a +ℤ pos 1))) (machine by f m [] slots c)) else goes (machines.onward (machine by f m [] slots
            c))

        there : act by.code (instr.ForStep slot (slot + 1) p) (machine by f m [] slots c) ≡ go kind z last
        there = numbers_there slot m [] kind kind2 z last scope names slots c go ag same

        by_test : (b : Bool) → int_lt z last ≡ b
            → Sim by f (flow_aim by f (Behind_so false scope) q) 0 (spot by f m [] slots c) (suc k)
            ((if b then for_turns turns turn_of (z +ℤ pos 1) last else pure meaning.falls) (world by f names
            c) k)
        by_test true e =
            let new = slot_put slot (Some (values.number kind (z +ℤ pos 1))) slots in
            let level = level_of by f names slots ag.rest in
            let s = spot by f m [] slots c in
            let goal = placed.labels m (instr.ForStep slot (slot + 1) p) here in
            again new (agree_next z (z +ℤ pos 1) names slots ag)
            (leads_to by.code
            (ap (λ nx. reached s nx) there
            ∙ ap (λ b. reached s (if b then jumps by.code p (machines.slot_set slot (Some (values.number
            kind (z +ℤ pos 1))) (machine by f m [] slots c)) else goes (machines.onward (machine by f m
            [] slots c)))) e
            ∙ ap (λ x. reached s (jumps by.code p x)) (ran_set by f slot (Some (values.number kind (z +ℤ pos
            1))) m [] slots c level)
            ∙ ap (λ nx. reached s nx) (jump_goes by f p m [] new c goal.0))
            (leads_tick by.code s (instr.ForStep slot (slot + 1) p) k (placed.has m (plain (instr.ForStep
            slot (slot + 1) p)) here)))
        by_test false e =
            let s = spot by f m [] slots c in
            sim_given by f (flow_aim by f (Behind_so false scope) q) falls names slots c (
              refl,
              record {
                names_are = ag.names_are;
                slots_are = ag.slots_are;
                held = ag.held.1.1;
                only = ag.only;
                rest = ag.rest;
                since = ag.since;
              },
            )
            (leads_spare by.code (omega arith) (leads_to by.code
            (ap (λ nx. reached s nx) there
            ∙ ap (λ b. reached s (if b then jumps by.code p (machines.slot_set slot (Some (values.number
            kind (z +ℤ pos 1))) (machine by f m [] slots c)) else goes (machines.onward (machine by f m
            [] slots c)))) e
            ∙ ap (λ n. at (spot by f n [] slots c)) (sym next))
            (leads_tick by.code s (instr.ForStep slot (slot + 1) p) k (placed.has m (plain (instr.ForStep
            slot (slot + 1) p)) here))))

    for_run : (turns : ℕ) {s : Spot} {n l : ℕ} (p q : ℕ) (z : ℤ) → InTurns get out slot write p q
        → (names : Names) (slots : Slots) (c : Common by)
        → Agree_so (loop_scope slot kind kind2 z last scope) names slots → l ≤ depth → l < turns
        → Leads by.code s n (at (spot by f (p + 1) [] slots c)) l 7
        → Sim by f (flow_aim by f (Behind_so false scope) q) 0 s n (for_turns turns turn_of z last (world by
        f names c) l)
    unfolding for_turns
    for_run zero p q z it names slots c ag le less lead = absurd (omega (arith, less))
    for_run (suc turns) {s} {n} {l} p q z it names slots c ag le less lead =
        let into = enters_turn (p + 1) z names slots c it.look it.store ag lead in
        let whole = then_runs by f (turn_of z (world by f names c) l) (again_of turns z)
        (turn_runs (p + 1 + 1 + 1) it.after z names slots c l it.turn ag le)
        (λ names slots c j h few.
        let back = subst (λ b. Stands get (unless b (instr.ForStep slot (slot + 1) (p + 1))) it.after q) h.0
        it.back in
        let here = parts.of_one (plain (instr.ForStep slot (slot + 1) (p + 1))) it.after q back in
        ticks_at by f (if int_lt z last then for_turns turns turn_of (z +ℤ pos 1) last else pure
        meaning.falls) it.after [] names slots c j (λ k e.
        step_runs turns it.after q (p + 1) z names slots c k here.here here.ends h.1 (λ slots2 ag2 lead2.
        for_run turns p q (z +ℤ pos 1) it names slots2 c ag2 (omega (arith, le, few, e)) (omega (
          arith,
          less,
          few,
          e,
        )) lead2))) in
        sim_spare by f (for_turns (suc turns) turn_of z last (world by f names c) l) (omega arith)
        (sim_on by f (for_turns (suc turns) turn_of z last (world by f names c) l) into whole)

  -- a value goes to a slot that no variable has, without a tick
  sim_kept : {s : Spot} {n e : ℕ} (scope : List (Entry by)) (slot m q : ℕ) (r : Out Value)
      → get m ≡ Some (plain (instr.Store slot)) → q ≡ m + 1 → SlotFree by slot scope → slot < room
      → Sim by f (record {
        view = meant by;
        holds = λ v names slots. Agree_so scope names slots;
        target = λ
            v slots c. at (spot by f m (v ∷ []) slots c);
      }) (suc e) s n r
      → Sim by f (aim_at (meant by) (λ (v : Both by) (names : Names) (slots : Slots). Agree_so (kept slot v
      ∷ scope) names slots) (λ (v : Both by) (slots : Slots) (c : Common by). spot by f q [] slots c)) e
      s n r
  sim_kept scope slot m q (gives a w l) here next free within g =
      let x = g.follows in
      let slots2 = slot_put slot (Some (ran by x.b)) x.slots in
      record {
        follows = record {
          b = x.b;
          names = x.names;
          slots = slots2;
          c = x.c;
          is = x.is;
          in_world = x.in_world;
          held = agree_kept by f wide room scope slot x.b x.names x.slots free (omega (
            arith,
            within,
            x.held.slots_are,
          )) x.held;
          leads = leads_to by.code
              (ap (λ nx. reached (spot by f m (x.b ∷ []) x.slots x.c) nx) (store_goes by f slot m x.b []
              x.slots x.c (level_of by f x.names x.slots x.held.rest) (omega (arith, within, x.held.slots_are)))
              ∙ ap (λ i. at (spot by f i [] slots2 x.c)) (sym next))
              (leads_more by.code (instr.Store slot) (placed.has m (plain (instr.Store slot)) here)
              x.leads);
        };
      }
  sim_kept scope slot m q (ticks.aborts fault w l) here next free within g = record { follows = g.follows }
  sim_kept scope slot m q (ticks.cut w) here next free within g = record { follows = g.follows }
  sim_kept scope slot m q (ticks.no_rule w l) here next free within g = record { follows = tt }

  -- the turns of a loop between two numbers
  abbrev pub range_of : ℕ → ℕ → Action Flow → IntKind → ℤ → ℤ → Action Flow
  range_of number count body kind first last =
      if int_lt last first then pure meaning.falls
      else for_turns (suc depth) (λ z. within number count (ticks.◌>>◌ (holds number (values.number kind z))
      body)) first last

  module _ (number slot : ℕ) (scope : List (Entry by)) (scoped : Scoped by number slot scope) (fits : number
      + 1 ≤ wide.count) (rooms : slot + 3 ≤ room)
      (name : Bytes) (of : Option ClosedType) (out : Bool) (write : Written) (body : Action Flow) (count :
      ℕ) (counts : 1 ≤ count)
      (does_so : (kind kind2 : IntKind) (z last : ℤ) → Does by f get depth wide room (variable name number
      (slot + 2) of ∷ loop_scope slot kind kind2 z last scope) write body
      (Inside_so out (number + 1) (number + count) (variable name number (slot + 2) of ∷ loop_scope slot kind
      kind2 z last scope))) where
    range_runs : (kind kind2 : IntKind) (first last : ℤ) → same_kind kind kind2 ≡ true → (p q : ℕ)
        → InTurns get out slot write p q
        → (names : Names) (slots : Slots) (c : Common by) (l : ℕ)
        → Agree_so (loop_scope slot kind kind2 first last scope) names slots → l ≤ depth
        → Sim by f (flow_aim by f (Behind_so false scope) q) 0 (spot by f p [] slots c) (suc l) (range_of
        number count body kind first last (world by f names c) l)
    unfolding act
    range_runs kind kind2 first last same p q it names slots c l ag le = by_test (int_lt last first) refl
      where
        go : IntKind → ℤ → ℤ → Next
        go kind a b = jumps_unless by.code q (machine by f p [] slots c) (not (int_lt b a))

        there : act by.code (instr.ForTest slot (slot + 1) q) (machine by f p [] slots c)
            ≡ go kind first last
        there = numbers_there slot p [] kind kind2 first last scope names slots c go ag same

        by_test : (b : Bool) → int_lt last first ≡ b
            → Sim by f (flow_aim by f (Behind_so false scope) q) 0 (spot by f p [] slots c) (suc l)
            ((if b then pure meaning.falls else for_turns (suc depth) (λ z. within number count (ticks.◌>>◌
            (holds number (values.number kind z)) body)) first last) (world by f names c) l)
        by_test true e =
            let s = spot by f p [] slots c in
            let goal = placed.labels p (instr.ForTest slot (slot + 1) q) it.leave in
            sim_given by f (flow_aim by f (Behind_so false scope) q) falls names slots c (
              refl,
              record {
                names_are = ag.names_are;
                slots_are = ag.slots_are;
                held = ag.held.1.1;
                only = ag.only;
                rest = ag.rest;
                since = ag.since;
              },
            )
            (leads_spare by.code (omega arith) (leads_to by.code
            (ap (λ nx. reached s nx) there
            ∙ ap (λ b. reached s (jumps_unless by.code q (machine by f p [] slots c) (not b))) e
            ∙ ap (λ nx. reached s nx) (jump_goes by f q p [] slots c goal.0))
            (leads_tick by.code s (instr.ForTest slot (slot + 1) q) l (placed.has p (plain (instr.ForTest
            slot (slot + 1) q)) it.leave))))
        by_test false e =
            let s = spot by f p [] slots c in
            for_run number slot scope scoped fits rooms name of kind kind2 last same out write body count counts (λ
            z. does_so kind kind2 z last)
            (suc depth) p q first it names slots c ag le (omega (arith, le))
            (leads_to by.code
            (ap (λ nx. reached s nx) there
            ∙ ap (λ b. reached s (jumps_unless by.code q (machine by f p [] slots c) (not b))) e)
            (leads_tick by.code s (instr.ForTest slot (slot + 1) q) l (placed.has p (plain (instr.ForTest
            slot (slot + 1) q)) it.leave)))

    -- between two values
    ranges_run : (a b : Both by) (p q : ℕ) → InTurns get out slot write p q
        → (names : Names) (slots : Slots) (c : Common by) (l : ℕ)
        → Agree_so (kept (slot + 1) b ∷ kept slot a ∷ scope) names slots → l ≤ depth
        → (oa ob : Option (IntKind × ℤ)) → number_in a ≡ oa → number_in b ≡ ob
        → Sim by f (flow_aim by f (Behind_so false scope) q) 0 (spot by f p [] slots c) (suc l)
        (both_numbers oa ob (range_of number count body) (world by f names c) l)
    ranges_run a b p q it names slots c l ag le None ob ea eb = sim_stuck by f
    ranges_run a b p q it names slots c l ag le (Some x) None ea eb = sim_stuck by f
    ranges_run a b p q it names slots c l ag le (Some x) (Some y) ea eb =
        sim_where by f (same_kind x.0 y.0) (range_of number count body x.0 x.1 y.1) (λ same.
        let is_a = number_is a x.0 x.1 ea in
        let is_b = number_is b y.0 y.1 eb in
        let ag2 = subst₂ (λ v w. Agree_so (kept (slot + 1) w ∷ kept slot v ∷ scope) names slots) is_a is_b
        ag in
        range_runs x.0 y.0 x.1 y.1 same p q it names slots c l ag2 le)

    bounds_run : (a b : Both by) (p q : ℕ) → InTurns get out slot write p q
        → (names : Names) (slots : Slots) (c : Common by) (l : ℕ)
        → Agree_so (kept (slot + 1) b ∷ kept slot a ∷ scope) names slots → l ≤ depth
        → Sim by f (flow_aim by f (Behind_so false scope) q) 0 (spot by f p [] slots c) (suc l)
        (both_numbers (number_in (meant by a)) (number_in (meant by b)) (range_of number count body) (world
        by f names c) l)
    bounds_run a b p q it names slots c l ag le =
        subst₂ (λ x y. Sim by f (flow_aim by f (Behind_so false scope) q) 0 (spot by f p [] slots c) (suc l)
        (both_numbers x y (range_of number count body) (world by f names c) l))
        (sym (number_in_to (as_meant by) a)) (sym (number_in_to (as_meant by) b))
        (ranges_run a b p q it names slots c l ag le (number_in a) (number_in b) refl refl)

  pub for_does : {wa wb : Written} {ma mb : Action Value} (number slot : ℕ) (scope : List (Entry by))
      → Scoped by number slot scope → number + 1 ≤ wide.count → slot + 3 ≤ room
      → (name : Bytes) (of : Option ClosedType) (out : Bool) (write : Written) (body : Action Flow) (count :
      ℕ) → 1 ≤ count
      → ((kind kind2 : IntKind) (z last : ℤ) → Does by f get depth wide room (variable name number (slot +
      2) of ∷ loop_scope slot kind kind2 z last scope) write body
      (Inside_so out (number + 1) (number + count) (variable name number (slot + 2) of ∷ loop_scope slot kind
      kind2 z last scope)))
      → Whole by f get depth wide room scope wa ma
      → ((a : Both by) → Whole by f get depth wide room (kept slot a ∷ scope) wb mb)
      → Does by f get depth wide room scope (wa >> does (instr.Store slot) >> wb >> does (instr.Store (slot
      + 1)) >> turns out slot write)
      (ma >>= λ a. mb >>= λ b. tick (ranges (suc depth) (λ kind z. within number count (ticks.◌>>◌ (holds
      number (values.number kind z)) body)) a b))
      (Behind_so false scope)
  for_does {wa} {wb} {ma} {mb} number slot scope scoped fits rooms name of out write body count counts body_does a
      b = record {
        runs = λ p q names slots c n stands ag le.
            let bounds = λ (x y : Value). ranges (suc depth) (λ kind z. within number count (ticks.◌>>◌ (holds
            number (values.number kind z)) body)) x y in
            let r1 = parts.of_row wa (does (instr.Store slot) >> wb >> does (instr.Store (slot + 1)) >> turns
            out slot write) p q stands in
            let r2 = parts.of_row (does (instr.Store slot)) (wb >> does (instr.Store (slot + 1)) >> turns out
            slot write) r1.middle q r1.second in
            let r3 = parts.of_row wb (does (instr.Store (slot + 1)) >> turns out slot write) r2.middle q
            r2.second in
            let r4 = parts.of_row (does (instr.Store (slot + 1))) (turns out slot write) r3.middle q r3.second
            in
            let one = parts.of_one (plain (instr.Store slot)) r1.middle r2.middle r2.first in
            let two = parts.of_one (plain (instr.Store (slot + 1))) r3.middle r4.middle r4.first in
            let it = parts.of_turns out slot write r4.middle q r4.second in
            sim_bind by f (meant by) (λ v names slots. Agree_so (kept slot v ∷ scope) names slots) (λ v slots c.
            spot by f r2.middle [] slots c)
            (ma (world by f names c) n) (λ x. mb >>= λ y. tick (bounds x y))
            (sim_kept scope slot r1.middle r2.middle (ma (world by f names c) n) one.here one.ends (slot_free by
            number slot slot scope scoped.under (omega arith)) (omega (arith, rooms))
            (a.runs p r1.middle names slots c n r1.first ag le)) (λ x names slots c m ag1 few.
            sim_bind by f (meant by) (λ v names slots. Agree_so (kept (slot + 1) v ∷ kept slot x ∷ scope) names
            slots) (λ v slots c. spot by f r4.middle [] slots c)
            (mb (world by f names c) m) (λ y. tick (bounds (meant by x) y))
            (sim_kept (kept slot x ∷ scope) (slot + 1) r3.middle r4.middle (mb (world by f names c) m) two.here
            two.ends (
              (λ e. absurd (omega (arith, e))),
              slot_free by number slot (slot + 1) scope scoped.under (omega
                  arith),
            ) (omega (arith, rooms))
            ((b x).runs r2.middle r3.middle names slots c m r3.first ag1 (le_trans few le))) (λ y names slots c
            k ag2 fewer.
            ticks_at by f (bounds (meant by x) (meant by y)) r4.middle [] names slots c k (λ l e.
            bounds_run number slot scope scoped fits rooms name of out write body count counts body_does x y r4.middle
            q it names slots c l ag2 (omega (arith, le, few, fewer, e)))));
      }
