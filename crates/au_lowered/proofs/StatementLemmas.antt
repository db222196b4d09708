-- The rows of statements.
use Rattle.std.proofs.Common.{◌≡◌, ℕ, suc, ◌+◌, ◌<◌, ◌≤◌, Bool, false, List, [], ◌∷◌, length, Option, Some}
use Rattle.std.proofs.Common.{None, refl, sym, ap, subst, subst₂, ◌∙◌, arith, inl, inr}
use Rattle.au_type_texts.specs.Types.{ClosedType}
use Rattle.au_low.specs.declared.instructions.Instr.{Instr}
use Rattle.au_low.specs.declared.instructions.Instr.TheVariants as instr
use Rattle.au_low.specs.Instructions.{act}
use Rattle.au_lowered.specs.Drafts.{Draft, plain, Written, ◌>>◌, nothing, does, given}
use Rattle.au_lowered.specs.Expressions as code
use Rattle.au_lowered.specs.Standing.{PartsStandIn}
use Rattle.au_lowered.proofs.StandLemmas.{parts_stand}
use Rattle.au_meaning.specs.Acts.{holds, sets}
use Rattle.au_meaning.specs.Names.{Scope, variable_of, path_numbers}
use Rattle.au_meaning.specs.Statements as meaning
use Rattle.au_meaning.specs.Statements.{Flow}
use Rattle.au_meaning.specs.Ticks as ticks
use Rattle.au_meaning.specs.Ticks.{Action, gives, pure, stuck, tick, follows, needing, ◌>>=◌}
use Rattle.au_meaning.specs.Views.{View}
use Rattle.au_meaning.specs.Worlds.{Value}
use Rattle.au_syntax.specs.Plain.{Bytes}
use Rattle.au_lowered.specs.Scopes.{Entry, variable, numbers_in, slots_in, Distinct, Scoped}
use Rattle.au_lowered.specs.Frames.{Wide, Agree, name_put, slot_put, Frame, spot, world}
use Rattle.au_lowered.specs.Sides.{Coding, Both, Names, Slots, Common, meant, ran}
use Rattle.au_lowered.specs.Runs.{at, reached, Sim}
use Rattle.au_lowered.proofs.FrameLemmas.{Found, Means, means, number_free, slot_free, under_more}
use Rattle.au_lowered.proofs.LeadLemmas.{leads_spare, leads_to, leads_tick, leads_none}
use Rattle.au_lowered.proofs.SimLemmas.{sim_spare, sim_given, sim_stuck, sim_bind}
use Rattle.au_lowered.proofs.StepLemmas.{meant_set, ticks_at}
use Rattle.au_lowered.proofs.MoveLemmas.{store_goes, set_runs}
use Rattle.au_lowered.specs.Premises.{Placed}
use Rattle.au_lowered.specs.Rows.{Gives}
use Rattle.au_lowered.specs.Flows.{falls, returns, flow_aim, Behind, After, Does, Whole}
use Rattle.au_lowered.proofs.FlowLemmas.{return_reach}
use Rattle.au_lowered.proofs.LevelLemmas.{level_of, agree_put, agree_new}

module _ (by : Coding) (f : Frame by) (get : ℕ → Option Draft) (placed : Placed by f.function get)
    (depth : ℕ) (wide : Wide) (room : ℕ) where
  parts : PartsStandIn get
  parts = parts_stand get

  abbrev Does_so : List (Entry by) → Written → Action Flow → (Names → Slots → Type 0) → Type 0
  Does_so scope write m Holds = Does by f get depth wide room scope write m Holds

  abbrev Whole_so : List (Entry by) → Written → Action Value → Type 0
  Whole_so scope write m = Whole by f get depth wide room scope write m

  abbrev pub Behind_so : Bool → List (Entry by) → Names → Slots → Type 0
  Behind_so out scope names slots = Behind by f get depth wide room out scope names slots

  abbrev pub After_so : Bool → ℕ → List (Entry by) → Scope → Scope → ℕ → ℕ → Names → Slots → Type 0
  After_so out first scope numbers slots number slot names held = After by f get depth wide room out first
      scope numbers slots number slot names held

  -- where no rule applies
  pub stuck_does : (scope : List (Entry by)) (write : Written) (H : Names → Slots → Type 0)
      → Does_so scope write stuck H
  stuck_does scope write H = record { runs = λ p q names slots c n stands ag le. sim_stuck by f }

  -- nothing is done
  pub skip_does : (scope : List (Entry by)) (H : Names → Slots → Type 0)
      → ((names : Names) (slots : Slots) → Agree by f wide room scope names slots → H names slots)
      → Does_so scope nothing (pure meaning.falls) H
  skip_does scope H h = record {
    runs = λ p q names slots c n stands ag le.
        let e : p ≡ q = omega (arith, stands.ends) in
        sim_given by f (flow_aim by f H q) falls names slots c (h names slots ag)
        (leads_to by.code (ap (λ i. at (spot by f i [] slots c)) e) (leads_none by.code (spot by f p []
        slots c) n));
  }

  -- what nothing new is declared in
  pub none_declared : (scope : List (Entry by)) (number slot number2 slot2 : ℕ)
      → Scoped by number slot scope
      → number ≤ number2 → slot ≤ slot2 → (names : Names) (slots : Slots)
      → Agree by f wide room scope names slots
      → After_so false number scope (numbers_in by scope) (slots_in by scope) number2 slot2 names slots
  none_declared scope number slot number2 slot2 scoped le le2 names slots ag = (
    refl,
    record {
      new = [];
      fresh = tt;
      numbers_are = refl;
      slots_are = refl;
      scoped = record {
        distinct = scoped.distinct;
        under = under_more by number slot number2 slot2 scope le
            le2 scoped.under;
      };
      agree = ag;
    },
  )

  -- a whole expression and one instruction with it
  pub instruction_does : {w : Written} {m : Action Value} {H : Names → Slots → Type 0} (go : Value
      → Action Flow) (scope : List (Entry by)) (i : Instr)
      → Whole_so scope w m
      → ((p q : ℕ) (v : Both by) (names : Names) (slots : Slots) (c : Common by) (l : ℕ)
      → get p ≡ Some (plain i) → q ≡ p + 1 → Agree by f wide room scope names slots
      → Sim by f (flow_aim by f H q) 0 (spot by f p (v ∷ []) slots c) (suc l) (go (meant by v) (world by f
      names c) l))
      → Does_so scope (w >> does i) (m >>= λ v. tick (go v)) H
  instruction_does {w} {m} {H} go scope i a b = record {
    runs = λ p q names slots c n stands ag le.
        let row = parts.of_row w (does i) p q stands in
        let here = parts.of_one (plain i) row.middle q row.second in
        sim_bind by f (meant by) (λ v names slots. Agree by f wide room scope names slots) (λ v slots c. spot
        by f row.middle (v ∷ []) slots c)
        (m (world by f names c) n) (λ v. tick (go v)) (a.runs p row.middle names slots c n row.first ag le)
        (λ v names slots c k ag few.
        ticks_at by f (go (meant by v)) row.middle (v ∷ []) names slots c k (λ l e.
        b row.middle q v names slots c l here.here here.ends ag));
  }

  -- a variable is declared
  pub declare_does : {w : Written} {m : Action Value} (scope : List (Entry by)) (number slot : ℕ) (name :
      Bytes) (of : Option ClosedType)
      → Scoped by number slot scope → by.slot number ≡ slot → number + 1 ≤ wide.count → slot + 1 ≤ room
      → Whole_so scope w m
      → Does_so scope (w >> does (instr.Store slot)) (m >>= λ v. tick (ticks.◌>>◌ (holds number v) (pure
      meaning.falls)))
      (After_so false number scope (numbers_in by (variable name number slot of ∷ scope)) (slots_in by (variable
      name number slot of ∷ scope)) (number + 1) (slot + 1))
  unfolding follows
  declare_does {w} {m} scope number slot name of scoped home fits fits2 a =
      instruction_does (λ v. ticks.◌>>◌ (holds number v) (pure meaning.falls)) scope (instr.Store slot) a (λ
      p q v names slots c l here next ag.
      let H = After_so false number scope (numbers_in by (variable name number slot of ∷ scope)) (slots_in by
      (variable name number slot of ∷ scope)) (number + 1) (slot + 1) in
      let s = spot by f p (v ∷ []) slots c in
      let slots2 = slot_put slot (Some (ran by v)) slots in
      let names2 = name_put number (Some (meant by v)) names in
      let free = number_free by number slot number scope scoped.under (omega arith) in
      let free2 = slot_free by number slot slot scope scoped.under (omega arith) in
      let level = level_of by f names slots ag.rest in
      let within : number < length names.own = omega (arith, ag.names_are, fits) in
      let within2 : slot < length slots.own = omega (arith, ag.slots_are, fits2) in
      subst (λ w. Sim by f (flow_aim by f H q) 0 s (suc l) (gives meaning.falls w l)) (sym (meant_set by f
      number (Some (meant by v)) names c))
      (sim_given by f (flow_aim by f H q) falls names2 slots2 c (
        refl,
        record {
          new = variable name number slot of ∷ [];
          fresh = (omega arith, tt);
          numbers_are = refl;
          slots_are = refl;
          scoped = record {
            distinct = (free, free2, home, scoped.distinct);
            under = (
              omega arith,
              omega arith,
              under_more by number slot (number + 1) (slot + 1) scope
                  (omega arith) (omega arith) scoped.under,
            );
          };
          agree = agree_new by f wide room scope name number slot of v names slots free free2 within within2 ag;
        },
      )
      (leads_spare by.code (omega arith) (leads_to by.code
      (ap (λ nx. reached s nx) (store_goes by f slot p v [] slots c level within2)
      ∙ ap (λ i. at (spot by f i [] slots2 c)) (sym next))
      (leads_tick by.code s (instr.Store slot) l (placed.has p (plain (instr.Store slot)) here))))))

  -- a call is a statement
  pub discard_does : {w : Written} {m : Action Value} {H : Names → Slots → Type 0} (scope : List (Entry by))
      → ((names : Names) (slots : Slots) → Agree by f wide room scope names slots → H names slots)
      → Whole_so scope w m
      → Does_so scope (w >> does instr.Discard) (m >>= λ v. tick (pure meaning.falls)) H
  unfolding act
  discard_does {w} {m} {H} scope h a =
      instruction_does (λ v. pure meaning.falls) scope instr.Discard a (λ p q v names slots c l here next
      ag.
      let s = spot by f p (v ∷ []) slots c in
      sim_given by f (flow_aim by f H q) falls names slots c (h names slots ag)
      (leads_spare by.code (omega arith) (leads_to by.code (ap (λ i. at (spot by f i [] slots c)) (sym
      next))
      (leads_tick by.code s instr.Discard l (placed.has p (plain instr.Discard) here)))))

  -- a value is returned, where more borrows may be open
  pub return_does : {w : Written} {m : Action Value} {H : Names → Slots → Type 0} (inner : Wide) (scope : List
      (Entry by))
      → ((names : Names) (slots : Slots) → Agree by f wide room scope names slots
      → Agree by f inner room scope names slots)
      → Gives by f get depth inner room scope w m
      → Does_so scope (w >> does instr.Return) (m >>= λ v. tick (pure (meaning.returns v))) H
  return_does {w} {m} {H} inner scope into a = record {
    runs = λ p q names slots c n stands ag le.
        let row = parts.of_row w (does instr.Return) p q stands in
        let here = parts.of_one (plain instr.Return) row.middle q row.second in
        sim_bind by f (meant by) (λ v names slots. Agree by f inner room scope names slots) (λ v slots c. spot
        by f row.middle (v ∷ []) slots c)
        (m (world by f names c) n) (λ v. tick (pure (meaning.returns v))) (a.runs p row.middle [] names
        slots c n row.first (into names slots ag) le) (λ v names slots c k ag few.
        ticks_at by f (pure (meaning.returns (meant by v))) row.middle (v ∷ []) names slots c k (λ l e.
        sim_given by f (flow_aim by f H q) (returns v) names slots c ag.rest
        (leads_spare by.code (omega arith) (leads_to by.code (return_reach by f row.middle v slots c)
        (leads_tick by.code (spot by f row.middle (v ∷ []) slots c) instr.Return l (placed.has row.middle
        (plain instr.Return) here.here))))));
  }

  -- ---- assignments

  -- the end of a path from a variable becomes a value
  set_does : {w : Written} {m : Action Value} {H : Names → Slots
      → Type 0} (scope : List (Entry by)) (name : Bytes) (found : Found by scope name) (path : List ℕ)
      → Distinct by scope
      → ((names : Names) (slots : Slots) → Agree by f wide room scope names slots → H names slots)
      → Whole_so scope w m
      → Does_so scope (w >> does (instr.Set found.slot path)) (m >>= λ v. tick (ticks.◌>>◌ (sets
      found.number path v) (pure meaning.falls))) H
  set_does {w} {m} {H} scope name found path distinct h a =
      instruction_does (λ v. ticks.◌>>◌ (sets found.number path v) (pure meaning.falls)) scope (instr.Set
      found.slot path) a (λ p q v names slots c l here next ag.
      sim_spare by f _ (omega arith)
      (set_runs by f (pure meaning.falls) found.number found.slot path p q l v [] names slots c (placed.has
      p (plain (instr.Set found.slot path)) here) next
      (level_of by f names slots ag.rest) (found.look names.own slots.own ag.held)
      (λ both.
      let names2 = name_put found.number (Some (meant by both)) names in
      let slots2 = slot_put found.slot (Some (ran by both)) slots in
      sim_given by f (flow_aim by f H q) falls names2 slots2 c
      (h names2 slots2 (agree_put by f wide room scope name found (Some both) names slots distinct ag))
      (leads_none by.code (spot by f q [] slots2 c) l))))

  -- a whole expression, behind which no rule applies
  nowhere_does : {w : Written} {m : Action Value} {H : Names → Slots
      → Type 0} (wb : Written) (scope : List (Entry by)) → Whole_so scope w m
      → Does_so scope (w >> wb) (m >>= λ v. tick stuck) H
  nowhere_does {w} {m} {H} wb scope a = record {
    runs = λ p q names slots c n stands ag le.
        let row = parts.of_row w wb p q stands in
        sim_bind by f (meant by) (λ v names slots. Agree by f wide room scope names slots) (λ v slots c. spot
        by f row.middle (v ∷ []) slots c)
        (m (world by f names c) n) (λ v. tick stuck) (a.runs p row.middle names slots c n row.first ag le)
        (λ v names slots c k ag few.
        ticks_at by f stuck row.middle (v ∷ []) names slots c k (λ l e. sim_stuck by f));
  }

  pub assign_does : {T C : Type 0} {w : Written} {m : Action Value} {H : Names → Slots
      → Type 0} (see : View ℕ T C) (scope : List (Entry by)) (name : Bytes) (fields : List Bytes)
      → Distinct by scope
      → ((names : Names) (slots : Slots) → Agree by f wide room scope names slots → H names slots)
      → Whole_so scope w m
      → Does_so scope
      (w >> code.part_of see (variable_of (slots_in by scope) name) fields (λ s numbers. does (instr.Set s
      numbers)))
      (m >>= λ v. tick (meaning.assigns see (variable_of (numbers_in by scope) name) fields v)) H
  assign_does {T} {C} {w} {m} {H} see scope name fields distinct h a = by_what (means by scope name)
    where
      by_path : (found : Found by scope name) (o : Option (List ℕ))
          → Does_so scope (w >> given o (λ numbers. does (instr.Set found.slot numbers)))
          (m >>= λ v. tick (needing o (λ path. ticks.◌>>◌ (sets found.number path v) (pure meaning.falls))))
          H
      by_path found None = nowhere_does nothing scope a
      by_path found (Some path) = set_does scope name found path distinct h a

      by_what : Means by scope name → Does_so scope
          (w >> code.part_of see (variable_of (slots_in by scope) name) fields (λ s numbers. does (instr.Set
          s numbers)))
          (m >>= λ v. tick (meaning.assigns see (variable_of (numbers_in by scope) name) fields v)) H
      by_what (inl none) =
          subst₂ (λ o u. Does_so scope (w >> code.part_of see o fields (λ s numbers. does (instr.Set s
          numbers))) (m >>= λ v. tick (meaning.assigns see u fields v)) H)
          (sym none.1) (sym none.0) (nowhere_does nothing scope a)
      by_what (inr found) =
          subst₂ (λ o u. Does_so scope (w >> code.part_of see o fields (λ s numbers. does (instr.Set s
          numbers))) (m >>= λ v. tick (meaning.assigns see u fields v)) H)
          (sym found.in_slots) (sym found.in_numbers) (by_path found (path_numbers (λ t. see.fields t 0)
          found.of fields))
