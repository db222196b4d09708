-- Statements one after another, blocks that end, and jumps behind them.
use Rattle.std.proofs.Common.{◌≡◌, ℕ, zero, suc, ◌+◌, ◌*◌, ◌≤◌, Bool, true, false, List, [], ◌∷◌, Option, ◌≢◌}
use Rattle.std.proofs.Common.{Some, None, refl, sym, ap, subst, ◌∙◌, arith, set, true≢false, ◌⊎◌, inl, inr}
use Rattle.std.proofs.Common.{◌++◌, length, slice_get, nat_lt, ltb-true, ltb-false, ◌==◌, eqb-true, eq-eqb, le_trans, ◌<◌}
use Rattle.std.proofs.Common.{map}
use Rattle.std.proofs.lemmas.List.{length-set, length-append}
use Rattle.au_low.specs.declared.instructions.Instr.{Instr}
use Rattle.au_low.specs.declared.instructions.Instr.TheVariants as instr
use Rattle.au_low.specs.Instructions as low
use Rattle.au_low.specs.Instructions.{act}
use Rattle.au_low.specs.Machines as machines
use Rattle.au_low.specs.Machines.{Waiting}
use Rattle.au_lowered.specs.Drafts.{Draft, plain, Written, ◌>>◌, unless}
use Rattle.au_lowered.specs.Expressions.{closing}
use Rattle.au_lowered.specs.Standing.{Stands, PartsStandIn}
use Rattle.au_lowered.proofs.StandLemmas.{parts_stand}
use Rattle.au_meaning.specs.Acts as acts
use Rattle.au_meaning.specs.Acts.{emptied, closed_to}
use Rattle.au_meaning.specs.Statements as meaning
use Rattle.au_meaning.specs.Statements.{Flow, and_then, empties}
use Rattle.au_meaning.specs.Ticks as ticks
use Rattle.au_meaning.specs.Ticks.{Out, Action, gives, follows, does, pure}
use Rattle.au_meaning.specs.Worlds.{Value}
use Rattle.au_lowered.specs.Scopes.{Entry, Under, Held, InScope, From}
use Rattle.au_lowered.specs.Frames.{Wide, Agree, Since, resting, name_put, Frame, machine, spot, world}
use Rattle.au_lowered.specs.Sides.{Coding, Both, Names, Slots, Common, Spot, meant, ran, Named, Slotted}
use Rattle.au_lowered.specs.Runs.{at, reached, Leads, Sim, Aim, aim_at}
use Rattle.au_lowered.proofs.FrameLemmas.{held_name, number_free, set_got, set_other, held_outer, in_under}
use Rattle.au_lowered.proofs.FrameLemmas.{in_either}
use Rattle.au_lowered.proofs.LeadLemmas.{leads_spare, leads_more, leads_to}
use Rattle.au_lowered.proofs.SimLemmas.{sim_on, sim_spare, sim_given, sim_map, sim_aim}
use Rattle.au_lowered.proofs.StepLemmas.{meant_set}
use Rattle.au_lowered.proofs.MoveLemmas.{jump_reach, close_goes, low_closed, deeds_closed}
use Rattle.au_lowered.specs.Premises.{Placed}
use Rattle.au_lowered.specs.Rows.{Gives}
use Rattle.au_lowered.specs.Flows.{Way, falls, returns, way_meant, OnFalls, gone, lands, flow_aim, Behind, Whole}
use Rattle.au_lowered.specs.Flows.{Ended}
use Rattle.au_effects.specs.References.{newer}
use Rattle.au_lowered.proofs.CloseLemmas.{borrow_number, names_closed, closed_meant, closed_none, newer_both, agree_closed}

-- names of which so many from one on are emptied
abbrev pub names_emptied : ℕ → ℕ → Named → Named
names_emptied name zero names = names
names_emptied name (suc count) names = names_emptied (name + 1) count (set names name None)

-- the same of the running frame
abbrev pub all_emptied : ℕ → ℕ → Names → Names
all_emptied name count names = record names { own = names_emptied name count names.own }

module _ (by : Coding) (f : Frame by) where
  -- what holds where the next statement follows, as another thing that follows from it
  pub flow_holds : {H K : Names → Slots → Type 0} {q : ℕ} {s : Spot} {n e : ℕ} (r : Out Flow)
      → ((names : Names) (slots : Slots) → H names slots → K names slots)
      → Sim by f (flow_aim by f H q) e s n r → Sim by f (flow_aim by f K q) e s n r
  flow_holds {H} {K} {q} r go g =
      sim_aim by f (flow_aim by f H q) (flow_aim by f K q) r g (λ b. refl) on_way (λ b names slots c l h
      lead. same b slots c lead)
    where
      on_way : (b : Way by) (names : Names) (slots : Slots) → OnFalls by f H b names slots
          → OnFalls by f K b names slots
      on_way falls names slots h = go names slots h
      on_way (returns v) names slots h = h

      same : {s : Spot} {n l e : ℕ} (b : Way by) (slots : Slots) (c : Common by)
          → Leads by.code s n (lands by f q b slots c) l e → Leads by.code s n (lands by f q b slots c) l e
      same b slots c lead = lead

  -- one statement and then another
  pub then_runs : {H K : Names → Slots → Type 0} {q q2 : ℕ} {s : Spot} {n d : ℕ} (r : Out Flow) (k : Action
      Flow)
      → Sim by f (flow_aim by f H q) d s n r
      → ((names : Names) (slots : Slots) (c : Common by) (l : ℕ) → H names slots → 8 * l + d ≤ 8 * n
      → Sim by f (flow_aim by f K q2) 0 (spot by f q [] slots c) l (k (world by f names c) l))
      → Sim by f (flow_aim by f K q2) 0 s n (follows r (and_then k))
  then_runs {H} {K} {q} {q2} {s} {n} {d} r k g go = sim_map by f (flow_aim by f H q) r (and_then k) g on_way
    where
      on_way : (b : Way by) (names : Names) (slots : Slots) (c : Common by) (l : ℕ)
          → OnFalls by f H b names slots
          → Leads by.code s n (lands by f q b slots c) l d
          → Sim by f (flow_aim by f K q2) 0 s n (and_then k (way_meant by b) (world by f names c) l)
      on_way falls names slots c l h lead =
          sim_spare by f (k (world by f names c) l) (omega arith)
          (sim_on by f (k (world by f names c) l) lead (go names slots c l h (omega (arith, lead.most))))
      on_way (returns v) names slots c l h lead =
          sim_given by f (flow_aim by f K q2) (returns v) names slots c h (leads_spare by.code (omega
          arith) lead)

  -- ---- the end of a block

  emptied_is : (name count : ℕ) (names : Names) (c : Common by)
      → emptied name count (world by f names c) ≡ world by f (all_emptied name count names) c
  emptied_is name zero names c = refl
  emptied_is name (suc count) names c =
      ap (λ w. emptied (name + 1) count w) (meant_set by f name None names c)
      ∙ emptied_is (name + 1) count (name_put name None names) c

  pub empties_run : {H K : Names → Slots → Type 0} {q : ℕ} {s : Spot} {n e : ℕ} (name count : ℕ) (r : Out Flow)
      → ((names : Names) (slots : Slots) → H names slots → K (all_emptied name count names) slots)
      → Sim by f (flow_aim by f H q) e s n r → Sim by f (flow_aim by f K q) e s n (follows r (and_then (empties
      name count)))
  unfolding follows
  empties_run {H} {K} {q} {s} {n} {e} name count r keeps g = sim_map by f (flow_aim by f H q) r (and_then
      (empties name count)) g on_way
    where
      on_way : (b : Way by) (names : Names) (slots : Slots) (c : Common by) (l : ℕ)
          → OnFalls by f H b names slots
          → Leads by.code s n (lands by f q b slots c) l e
          → Sim by f (flow_aim by f K q) e s n (and_then (empties name count) (way_meant by b) (world by f
          names c) l)
      on_way falls names slots c l h lead =
          subst (λ w. Sim by f (flow_aim by f K q) e s n (gives meaning.falls w l)) (sym (emptied_is name
          count names c))
          (sim_given by f (flow_aim by f K q) falls (all_emptied name count names) slots c (keeps names
          slots h) lead)
      on_way (returns v) names slots c l h lead =
          sim_given by f (flow_aim by f K q) (returns v) names slots c h lead

  -- what emptied names hold
  emptied_got : (name count : ℕ) (names : Named) (m : ℕ) (v : Value)
      → slice_get (names_emptied name count names) m ≡ Some (Some v)
      → (slice_get names m ≡ Some (Some v)) × ((m < name) ⊎ (name + count ≤ m))
  emptied_got name zero names m v e = (e, by_less (nat_lt m name) refl)
    where
      by_less : (b : Bool) → nat_lt m name ≡ b → (m < name) ⊎ (name + 0 ≤ m)
      by_less true t = inl (ltb-true m name t)
      by_less false t = let least = ltb-false m name t in inr (omega (arith, least))
  emptied_got name (suc count) names m v e =
      let inner = emptied_got (name + 1) count (set names name None) m v e in
      by_test inner.0 inner.1 (m == name) refl
    where
      by_test : slice_get (set names name None) m ≡ Some (Some v) → (m < name + 1) ⊎ (name + 1 + count ≤ m)
          → (b : Bool) → (m == name) ≡ b
          → (slice_get names m ≡ Some (Some v)) × ((m < name) ⊎ (name + suc count ≤ m))
      by_test here far true t =
          let same : m ≡ name = eqb-true m name t in
          let none : None ≡ Some v = set_got names name None (Some v) (ap (λ i. slice_get (set names name None)
          i) (sym same) ∙ here) in
          absurd (grind arith)
      by_test here (inl less) false t =
          let apart : m ≢ name = λ same. absurd (true≢false (sym (eq-eqb m name same) ∙ t)) in
          (sym (set_other names m name None apart) ∙ here, inl (less_than apart less))
        where
          less_than : m ≢ name → m < name + 1 → m < name
          less_than apart less = by_less (nat_lt m name) refl
            where
              by_less : (b : Bool) → nat_lt m name ≡ b → m < name
              by_less true t2 = ltb-true m name t2
              by_less false t2 =
                  let least = ltb-false m name t2 in
                  let same : m ≡ name = omega (arith, least, less) in
                  absurd (apart same)
      by_test here (inr more) false t =
          let apart : m ≢ name = λ same. absurd (true≢false (sym (eq-eqb m name same) ∙ t)) in
          (sym (set_other names m name None apart) ∙ here, inr (omega (arith, more)))

  held_emptied : (n s name count : ℕ) (scope : List (Entry by)) (names : Named) (slots : Slotted)
      → Under by n s scope → n ≤ name → Held by scope names slots
      → Held by scope (names_emptied name count names) slots
  held_emptied n s name zero scope names slots u le h = h
  held_emptied n s name (suc count) scope names slots u le h =
      held_emptied n s (name + 1) count scope (set names name None) slots u (omega (arith, le))
      (held_name by scope name names slots None (number_free by n s name scope u le) h)

  emptied_many : (name count : ℕ) (names : Named) → length (names_emptied name count names) ≡ length names
  emptied_many name zero names = refl
  emptied_many name (suc count) names = emptied_many (name + 1) count (set names name None) ∙ length-set names
      name None

  -- names that were declared in a block are emptied
  pub ended_emptied : (get : ℕ → Option Draft) (depth : ℕ) (wide : Wide) (room n s name count top : ℕ) (scope :
      List (Entry by)) (names : Names) (slots : Slots)
      → Under by n s scope → n ≤ name → top ≤ name + count
      → Ended by f get depth wide room name top scope names slots
      → Agree by f wide room scope (all_emptied name count names) slots
  ended_emptied get depth wide room n s name count top scope names slots u le within en = record {
    names_are = emptied_many name count names.own ∙ en.names_are;
    slots_are = en.slots_are;
    held = held_emptied n s name count scope names.own slots.own u le en.held;
    only = λ m v e.
        let inner = emptied_got name count names.own m v e in
        by_place m (en.only m v inner.0) inner.1;
    rest = en.rest;
    since = en.since;
  }
    where
      by_place : (m : ℕ) → InScope by m scope ⊎ ((name ≤ m) × (m < top)) → (m < name) ⊎ (name + count ≤ m)
          → InScope by m scope
      by_place m (inl h) far = h
      by_place m (inr h) (inl less) = absurd (omega (arith, less, h.0))
      by_place m (inr h) (inr more) = absurd (omega (arith, more, h.1, within))

  -- what a block holds with what was declared in it, it holds without
  pub ended_outer : (get : ℕ → Option Draft) (depth : ℕ) (wide : Wide) (room n s first second top : ℕ) (new
      scope : List (Entry by)) (names : Names) (slots : Slots)
      → From by first new → Under by n s (new ++ scope) → n ≤ top → first ≤ second
      → Ended by f get depth wide room second top (new ++ scope) names slots
      → Ended by f get depth wide room first top scope names slots
  ended_outer get depth wide room n s first second top new scope names slots fresh u le le2 en = record {
    names_are = en.names_are;
    slots_are = en.slots_are;
    held = held_outer by new scope names.own slots.own en.held;
    only = λ m v e. by_place m (en.only m v e);
    rest = en.rest;
    since = en.since;
  }
    where
      by_new : (m : ℕ) → m < n → InScope by m scope ⊎ (first ≤ m) → InScope by m scope ⊎ ((first ≤ m)
          × (m < top))
      by_new m less (inl h) = inl h
      by_new m less (inr h) = inr (h, omega (arith, less, le))

      by_place : (m : ℕ) → InScope by m (new ++ scope) ⊎ ((second ≤ m) × (m < top))
          → InScope by m scope ⊎ ((first ≤ m) × (m < top))
      by_place m (inl h) = by_new m (in_under by n s m (new ++ scope) u h) (in_either by first m new scope fresh
          h)
      by_place m (inr h) = inr (le_trans le2 h.0, h.1)

  -- nothing was declared
  pub ended_none : (get : ℕ → Option Draft) (depth : ℕ) (wide : Wide) (room first top : ℕ) (scope : List (Entry
      by)) (names : Names) (slots : Slots) → Agree by f wide room scope names slots
      → Ended by f get depth wide room first top scope names slots
  ended_none get depth wide room first top scope names slots ag = record {
    names_are = ag.names_are;
    slots_are = ag.slots_are;
    held = ag.held;
    only = λ m v e. inl (ag.only m v e);
    rest = ag.rest;
    since = ag.since;
  }

  -- ---- the end of a frame

  exit_same : (o : Option Bool) (p : ℕ) (v : Both by) (slots : Slots) (c : Common by)
      → reached (spot by f p (v ∷ []) slots c) (machines.having o (λ success. machines.exits success
      (machines.in_world (machines.frame_ended (machine by f p [] slots c)) (machine by f p [] slots
      c))))
      ≡ reached (spot by f 0 [] slots c) (machines.having o (λ success. machines.exits success
      (machines.in_world (machines.frame_ended (machine by f 0 [] slots c)) (machine by f 0 [] slots
      c))))
  exit_same None p v slots c = refl
  exit_same (Some b) p v slots c = refl

  gone_same : (waiting : List Waiting) (p : ℕ) (v : Both by) (slots : Slots) (c : Common by)
      → reached (spot by f p (v ∷ []) slots c) (low.returns waiting (ran by v) (machine by f p [] slots c))
      ≡ reached (spot by f 0 [] slots c) (low.returns waiting (ran by v) (machine by f 0 [] slots c))
  gone_same [] p v slots c = exit_same (low.exit_in (ran by v)) p v slots c
  gone_same (frame ∷ below) p v slots c = refl

  pub return_reach : (p : ℕ) (v : Both by) (slots : Slots) (c : Common by)
      → reached (spot by f p (v ∷ []) slots c) (act by.code instr.Return (machine by f p (v ∷ []) slots c))
      ≡ gone by f v slots c
  unfolding act
  return_reach p v slots c = gone_same f.waiting p v slots c

module _ (by : Coding) (f : Frame by) (get : ℕ → Option Draft) (placed : Placed by f.function get)
    (depth : ℕ) (wide : Wide) (room : ℕ) where
  parts : PartsStandIn get
  parts = parts_stand get

  -- a jump behind a block, unless the block returns on every path
  pub jump_runs : {s : Spot} {n e : ℕ} (out : Bool) (i : Instr) (m q t : ℕ) (scope : List (Entry by)) (r :
      Out Flow)
      → i ≡ instr.Jump t
      → Stands get (unless out i) m q
      → Sim by f (flow_aim by f (Behind by f get depth wide room out scope) m) (suc e) s n r
      → Sim by f (flow_aim by f (Behind by f get depth wide room out scope) t) e s n r
  jump_runs {s} {n} {e} out i m q t scope r is stands g =
      sim_aim by f (flow_aim by f (Behind by f get depth wide room out scope) m) (flow_aim by f (Behind by f
      get depth wide room out scope) t) r g (λ b. refl) (λ b names slots h. h) (on_way out stands)
    where
      on_way : (out2 : Bool) → Stands get (unless out2 i) m q
          → (b : Way by) (names : Names) (slots : Slots) (c : Common by) (l : ℕ)
          → OnFalls by f (Behind by f get depth wide room out2 scope) b names slots
          → Leads by.code s n (lands by f m b slots c) l (suc e)
          → Leads by.code s n (lands by f t b slots c) l e
      on_way out2 stands (returns v) names slots c l h lead = leads_spare by.code (omega arith) lead
      on_way true stands falls names slots c l h lead = absurd (true≢false h.0)
      on_way false stands falls names slots c l h lead =
          let here = parts.of_one (plain i) m q stands in
          let jump : get m ≡ Some (plain (instr.Jump t)) = here.here ∙ ap (λ x. Some (plain x)) is in
          let goal = placed.labels m (instr.Jump t) jump in
          leads_to by.code (jump_reach by f t m [] slots c goal.0)
          (leads_more by.code (instr.Jump t) (placed.has m (plain (instr.Jump t)) jump) lead)

module _ (by : Coding) (f : Frame by) (get : ℕ → Option Draft) (placed : Placed by f.function get) (depth count
    around room : ℕ) where
  -- an expression where more borrows may be open
  abbrev pub opening : Bool → Wide
  opening opens = record { count = count; around = around; opens = opens }

  abbrev Whole_aim : List (Entry by) → ℕ → Aim by Value (Both by)
  Whole_aim scope q = record {
    view = meant by;
    holds = λ v names slots. Agree by f (resting count around) room scope names slots;
    target = λ v slots c. at (spot by f q (v ∷ []) slots c);
  }

  pub opening_agrees : (opens : Bool) (scope : List (Entry by)) (names : Names) (slots : Slots)
      → Agree by f (resting count around) room scope names slots
      → Agree by f (opening opens) room scope names slots
  opening_agrees opens scope names slots ag = record {
    names_are = ag.names_are;
    slots_are = ag.slots_are;
    held = ag.held;
    only = ag.only;
    rest = ag.rest;
    since = by_opens opens;
  }
    where
      by_opens : (b : Bool) → Since b around (length names.lent)
      by_opens false = ag.since
      by_opens true = let same = ag.since in omega (arith, same)

  -- what is behind an expression is closed
  closing_runs : {s : Spot} {n d e : ℕ} (opens : Bool) (scope : List (Entry by)) (k p q : ℕ) (r : Out Value)
      → k ≡ around + length f.lent → Stands get (closing opens around) p q → suc e ≤ d
      → Sim by f (aim_at (meant by) (λ v names slots. Agree by f (opening opens) room scope names slots) (λ v
      slots c. spot by f p (v ∷ []) slots c)) d s n r
      → Sim by f (Whole_aim scope q) e s n (follows r (λ v. ticks.◌>>◌ (does (closed_to k)) (pure v)))
  unfolding follows
  closing_runs {s} {n} {d} {e} false scope k p q r same stands more g =
      let here : p ≡ q = omega (arith, stands.ends) in
      sim_map by f _ r (λ v. ticks.◌>>◌ (does (closed_to k)) (pure v)) g (λ v names slots c l ag lead.
      let many : k ≡ length names.lent + length f.lent = omega (arith, same, ag.since) in
      subst (λ w. Sim by f (Whole_aim scope q) e s n (gives (meant by v) w l)) (sym (closed_none by f k names c
      many))
      (sim_given by f (Whole_aim scope q) v names slots c ag
      (leads_to by.code (ap (λ i. at (spot by f i (v ∷ []) slots c)) here)
      (leads_spare by.code (omega (arith, more)) lead))))
  closing_runs {s} {n} {d} {e} true scope k p q r same stands more g =
      let here = (parts_stand get).of_one (plain (instr.Close around)) p q stands in
      sim_map by f _ r (λ v. ticks.◌>>◌ (does (closed_to k)) (pure v)) g (λ v names slots c l ag lead.
      let names2 = names_closed around names in
      let slots2 = low_closed around slots in
      let c2 = deeds_closed (map borrow_number (newer around names.lent)) c in
      let same_newer = newer_both by f around names slots ag.rest in
      subst (λ w. Sim by f (Whole_aim scope q) e s n (gives (meant by v) w l)) (sym (closed_meant by f around k
      names c same))
      (sim_given by f (Whole_aim scope q) v names2 slots2 c2 (agree_closed by f (opening true) room around scope
      names slots ag.since ag)
      (leads_to by.code
      (ap (λ nx. reached (spot by f p (v ∷ []) slots c) nx) (close_goes by f around p (v ∷ []) slots c)
      ∙ ap (λ all. at (spot by f (p + 1) (v ∷ []) slots2 (deeds_closed all c))) same_newer
      ∙ ap (λ i. at (spot by f i (v ∷ []) slots2 c2)) (sym here.ends))
      (leads_more by.code (instr.Close around) (placed.has p (plain (instr.Close around)) here.here)
      (leads_spare by.code more lead)))))

  -- a whole expression closes its borrows
  pub whole_runs : {w : Written} {m : Action Value} (scope : List (Entry by)) (opens : Bool)
      → Gives by f get depth (opening opens) room scope w m
      → Whole by f get depth (resting count around) room scope (w >> closing opens around) (acts.closing m)
  unfolding follows
  whole_runs {w} {m} scope opens a = record {
    runs = λ p q names slots c n stands ag le.
        let row = (parts_stand get).of_row w (closing opens around) p q stands in
        let many : length (names.lent ++ f.lent) ≡ around + length f.lent = omega (
          arith,
          length-append names.lent f.lent,
          ag.since,
        ) in
        closing_runs opens scope (length (names.lent ++ f.lent)) row.middle q (m (world by f names c) n) many
        row.second (omega arith)
        (a.runs p row.middle [] names slots c n row.first (opening_agrees opens scope names slots ag) le);
  }
