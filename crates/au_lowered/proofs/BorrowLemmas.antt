-- Statements with references: what is put behind one, and borrow statements.
use Rattle.std.proofs.Common.{◌≡◌, ◌⊎◌, inl, inr, ℕ, suc, ◌+◌, ◌*◌, ◌<◌, ◌≤◌, Bool, true, false, List, [], ◌∷◌}
use Rattle.std.proofs.Common.{◌++◌, length, Option, Some, None, refl, sym, ap, ap₂, subst, subst₂, ◌∙◌, arith}
use Rattle.std.proofs.Common.{true≢false, zero, map}
use Rattle.std.specs.Prelude.{option_map}
use Rattle.std.proofs.lemmas.List.{length-append}
use Rattle.au_type_texts.specs.Types.{ClosedType}
use Rattle.au_effects.specs.Parts.{along}
use Rattle.au_effects.specs.References.{reference_in, reference_along, put_behind, newer, next_reference}
use Rattle.au_effects.specs.Values as values
use Rattle.au_effects.specs.Values.{Place}
use Rattle.au_low.specs.declared.instructions.Instr.{Instr}
use Rattle.au_low.specs.declared.instructions.Instr.TheVariants as instr
use Rattle.au_low.specs.Instructions as low
use Rattle.au_low.specs.Instructions.{act}
use Rattle.au_low.specs.Machines as machines
use Rattle.au_low.specs.Machines.{having, popping, goes}
use Rattle.au_lowered.specs.Drafts.{Draft, plain, Written, ◌>>◌, nothing, does, given, unless}
use Rattle.au_lowered.specs.Expressions as code
use Rattle.au_lowered.specs.Standing.{Stands, PartsStandIn}
use Rattle.au_lowered.specs.Statements.{mode_in, lends as written_lends}
use Rattle.au_meaning.specs.Acts.{reference_held, refers, puts, stored, lends, holds, borrowed_place, with_borrow}
use Rattle.au_meaning.specs.Acts.{access_of, closed_to}
use Rattle.au_meaning.specs.Names.{Scope, variable_of, path_numbers, target_behind, borrowed, with_reference}
use Rattle.au_meaning.specs.Statements as meaning
use Rattle.au_meaning.specs.Statements.{Flow, and_then, within, lending, binds_borrow}
use Rattle.au_meaning.specs.Ticks as ticks
use Rattle.au_meaning.specs.Ticks.{Out, Action, gives, pure, stuck, tick, follows, needing, found_in, asks, ◌>>=◌}
use Rattle.au_meaning.specs.Ticks.{ticked}
use Rattle.au_meaning.specs.Views.{View}
use Rattle.au_meaning.specs.Worlds.{Value, World}
use Rattle.au_syntax.specs.declared.expressions.BorrowMode.{BorrowMode}
use Rattle.au_syntax.specs.Plain.{Bytes}
use Rattle.au_lowered.specs.Flows.{falls, flow_aim, Behind, Inside, Does, Whole, Ended}
use Rattle.au_lowered.specs.Frames.{Frame, Wide, resting, Agree, machine, spot, world, name_put, slot_put}
use Rattle.au_lowered.specs.Premises.{Placed}
use Rattle.au_lowered.specs.Runs.{at, reached, Sim}
use Rattle.au_lowered.specs.Scopes.{Entry, variable, numbers_in, slots_in, Distinct, Scoped}
use Rattle.au_lowered.specs.Sides.{Coding, Both, Names, Slots, Common, Spot, meant, ran}
use Rattle.au_lowered.proofs.CloseLemmas.{borrow_number, names_closed, closed_meant, newer_both, agree_closed}
use Rattle.au_lowered.proofs.FlowLemmas.{then_runs, empties_run, ended_emptied, ended_outer, all_emptied}
use Rattle.au_lowered.proofs.FrameLemmas.{Found, Means, means, number_free, slot_free, under_more}
use Rattle.au_lowered.proofs.LeadLemmas.{leads_spare, leads_tick, leads_to}
use Rattle.au_lowered.proofs.LevelLemmas.{level_of, agree_new}
use Rattle.au_lowered.proofs.MoveLemmas.{store_goes, close_goes, low_closed, deeds_closed}
use Rattle.au_lowered.proofs.ReferenceLemmas.{slotted, held_meant, held_ran, Put, put_both, Lent, lent_both}
use Rattle.au_lowered.proofs.ReferenceLemmas.{names_lent, slots_lent, deed_opened, lent_meant, lent_ran}
use Rattle.au_lowered.proofs.SimLemmas.{sim_on, sim_spare, sim_given, sim_stuck, sim_bind}
use Rattle.au_lowered.proofs.StandLemmas.{parts_stand}
use Rattle.au_lowered.proofs.StatementLemmas.{instruction_does}
use Rattle.au_lowered.proofs.StepLemmas.{Is, meant_set, ticks_at}

module _ (by : Coding) (f : Frame by) (get : ℕ → Option Draft) (placed : Placed by f.function get) (depth : ℕ) (wide :
    Wide) (room : ℕ) where
  parts : PartsStandIn get
  parts = parts_stand get

  abbrev Does_so : List (Entry by) → Written → Action Flow → (Names → Slots → Type 0) → Type 0
  Does_so scope write m Holds = Does by f get depth wide room scope write m Holds

  abbrev Whole_so : List (Entry by) → Written → Action Value → Type 0
  Whole_so scope write m = Whole by f get depth wide room scope write m

  -- ---- what is put behind a reference

  module _ {H : Names → Slots → Type 0} (scope : List (Entry by)) (distinct : Distinct by scope) (then_holds : (names :
      Names) (slots : Slots) → Agree by f wide room scope names slots → H names slots) where
    -- what is done with the reference that is reached
    abbrev put_then : Value → ℕ × Place → Action Flow
    put_then v one = puts one v >>= λ done. pure meaning.falls

    puts_run : (i : Instr) (p q l : ℕ) (one : ℕ × Place) (v : Both by) (names : Names) (slots : Slots) (c : Common by)
        → Is by f p i → q ≡ p + 1 → Agree by f wide room scope names slots
        → act by.code i (machine by f p (v ∷ []) slots c)
        ≡ low.puts_behind (slotted by one) (ran by v) (machine by f p [] slots c)
        → Sim by f (flow_aim by f H q) 7 (spot by f p (v ∷ []) slots c) (suc l) (put_then (meant by v) one (world by f
        names c) l)
    unfolding follows
    puts_run i p q l one v names slots c is next ag e =
        by_put (put_both by f wide room scope distinct one v names slots c ag)
      where
        aim_of : Out Flow → Type 0
        aim_of r = Sim by f (flow_aim by f H q) 7 (spot by f p (v ∷ []) slots c) (suc l) r

        by_put : (put_behind one (meant by v) (world by f names c).store ≡ None) ⊎ Put by f wide room scope distinct one
            v names slots c
            → Sim by f (flow_aim by f H q) 7 (spot by f p (v ∷ []) slots c) (suc l) (put_then (meant by v) one (world
            by f names c) l)
        by_put (inl none) =
            subst (λ o. Sim by f (flow_aim by f H q) 7 (spot by f p (v ∷ []) slots c) (suc l) (follows (found_in (stored
            o (world by f names c)) (world by f names c) l) (λ done. pure meaning.falls))) (sym none) (record {
              follows = tt;
            })
        by_put (inr put) =
            let s = spot by f p (v ∷ []) slots c in
            let m = machine by f p [] slots c in
            let w = world by f names c in
            let x = put.names_after in
            let y = put.slots_after in
            let d = put.after in
            let world_is : record w { store = (world by f x d).store } ≡ world by f x d =
            ap₂ (λ lent (out : List ℕ × List ℕ). record (world by f x d) {
              borrows = lent ++ f.lent;
              output = out.0;
              left = out.1;
            })
            (sym put.same_lent) (ap₂ (λ a b. (a, b)) (sym put.same_output) (sym put.same_left)) in
            let there : reached s (act by.code i s.machine) ≡ at (spot by f q [] y d) =
            ap (λ nx. reached s nx) e
            ∙ ap (λ o. reached s (having o (λ pair. goes (machines.onward (machines.in_world pair.1 m))))) put.in_machine
            ∙ ap₂ (λ lent (out : List ℕ × List ℕ). at (record {
              machine = record (machine by f (p + 1) [] y d) { open_borrows = lent };
              output = out.0;
              left = out.1;
            })) (sym put.same_low) (ap₂ (λ a b. (a, b)) (sym put.same_output) (sym put.same_left))
            ∙ ap (λ n. at (spot by f n [] y d)) (sym next) in
            subst (λ o. Sim by f (flow_aim by f H q) 7 s (suc l) (follows (found_in (stored o w) w l) (λ done. pure
            meaning.falls))) (sym put.in_meaning)
            (subst (λ x. Sim by f (flow_aim by f H q) 7 s (suc l) (gives meaning.falls x l)) (sym world_is)
            (sim_given by f (flow_aim by f H q) falls x y d (then_holds x y put.agree)
            (leads_to by.code there (leads_tick by.code s i l is))))

    found_put : {w : Written} {m : Action Value} (name : Bytes) (found : Found by scope name) (path : List ℕ)
        → Whole_so scope w m
        → Does_so scope (w >> does (instr.Put found.slot path)) (m >>= λ v. tick (refers found.number path >>= put_then
        v)) H
    unfolding act follows
    found_put {w} {m} name found path a =
        instruction_does by f get placed depth wide room (λ v. refers found.number path >>= put_then v) scope (instr.Put
        found.slot path) a (λ p q v names slots c l here next ag.
        let same = found.look names.own slots.own ag.held in
        sim_spare by f _ (omega arith)
        (by_reference p q l v names slots c (placed.has p (plain (instr.Put found.slot path)) here) next ag
        (along same.both reference_in)
        (held_meant by f found.number found.slot names slots c same)
        (held_ran by f found.number found.slot p (v ∷ []) names slots c (level_of by f names slots ag.rest) same)))
      where
        by_reference : (p q l : ℕ) (v : Both by) (names : Names) (slots : Slots) (c : Common by)
            → Is by f p (instr.Put found.slot path) → q ≡ p + 1 → Agree by f wide room scope names slots
            → (o : Option (ℕ × Place))
            → reference_held found.number (world by f names c) ≡ o
            → low.reference_in_slot found.slot (machine by f p (v ∷ []) slots c) ≡ option_map (slotted by) o
            → Sim by f (flow_aim by f H q) 7 (spot by f p (v ∷ []) slots c) (suc l)
            ((refers found.number path >>= put_then (meant by v)) (world by f names c) l)
        by_reference p q l v names slots c is next ag None a b =
            subst (λ o. Sim by f (flow_aim by f H q) 7 (spot by f p (v ∷ []) slots c) (suc l)
            (follows (needing (along {B = ℕ × Place} o (λ one. Some (reference_along one path))) pure (world by f names
            c) l) (put_then (meant by v)))) (sym a) (record { follows = tt })
        by_reference p q l v names slots c is next ag (Some one) a b =
            subst (λ o. Sim by f (flow_aim by f H q) 7 (spot by f p (v ∷ []) slots c) (suc l)
            (follows (needing (along {B = ℕ × Place} o (λ one. Some (reference_along one path))) pure (world by f names
            c) l) (put_then (meant by v)))) (sym a)
            (puts_run (instr.Put found.slot path) p q l (reference_along one path) v names slots c is next ag
            (ap (λ o. having o (λ one. popping (machine by f p (v ∷ []) slots c).operands (machine by f p (v ∷ []) slots
            c) (λ value m. low.puts_behind (reference_along one path) value m))) b))

    nowhere_does : {w : Written} {m : Action Value} (wb : Written) (go : Value → Action Flow) → ((v : Value) (w : World)
        (l : ℕ) → go v w l ≡ stuck w l) → Whole_so scope w m
        → Does_so scope (w >> wb) (m >>= λ v. tick (go v)) H
    nowhere_does {w} {m} wb go none a = record {
      runs = λ p q names slots c n stands ag le.
          let row = parts.of_row w wb p q stands in
          sim_bind by f (meant by) (λ v names slots. Agree by f wide room scope names slots) (λ v slots c. spot
          by f row.middle (v ∷ []) slots c)
          (m (world by f names c) n) (λ v. tick (go v)) (a.runs p row.middle names slots c n row.first ag le)
          (λ v names slots c k ag few.
          ticks_at by f (go (meant by v)) row.middle (v ∷ []) names slots c k (λ l e.
          subst (λ r. Sim by f (flow_aim by f H q) 0 (spot by f row.middle (v ∷ []) slots c) (suc l) r) (sym (none (meant
          by v) (world by f names c) l)) (sim_stuck by f)));
    }

  pub put_does : {T C : Type 0} {w : Written} {m : Action Value} {H : Names → Slots → Type 0} (see : View ℕ T C)
      (scope : List (Entry by)) (name : Bytes) (fields : List Bytes)
      → Distinct by scope
      → ((names : Names) (slots : Slots) → Agree by f wide room scope names slots → H names slots)
      → Whole_so scope w m
      → Does_so scope
      (w >> code.part_behind see (variable_of (slots_in by scope) name) fields (λ s numbers. does (instr.Put s
      numbers)))
      (m >>= λ v. tick (meaning.assigns_behind see (variable_of (numbers_in by scope) name) fields v)) H
  unfolding follows
  put_does {T} {C} {w} {m} {H} see scope name fields distinct h a = by_what (means by scope name)
    where
      by_path : (found : Found by scope name) (o : Option (List ℕ))
          → Does_so scope (w >> given o (λ numbers. does (instr.Put found.slot numbers)))
          (m >>= λ v. tick (needing o (refers found.number) >>= put_then scope distinct h v)) H
      by_path found None = nowhere_does scope distinct h nothing (λ v. needing None (refers found.number) >>= put_then
          scope distinct h v) (λ v w l. refl) a
      by_path found (Some path) = found_put scope distinct h name found path a

      by_what : Means by scope name → Does_so scope
          (w >> code.part_behind see (variable_of (slots_in by scope) name) fields (λ s numbers. does (instr.Put s
          numbers)))
          (m >>= λ v. tick (meaning.assigns_behind see (variable_of (numbers_in by scope) name) fields v)) H
      by_what (inl none) =
          subst₂ (λ o u. Does_so scope (w >> code.part_behind see o fields (λ s numbers. does (instr.Put s numbers))) (m
          >>= λ v. tick (meaning.assigns_behind see u fields v)) H)
          (sym none.1) (sym none.0) (nowhere_does scope distinct h nothing (λ v. meaning.assigns_behind see None fields
          v) (λ v w l. refl) a)
      by_what (inr found) =
          subst₂ (λ o u. Does_so scope (w >> code.part_behind see o fields (λ s numbers. does (instr.Put s numbers))) (m
          >>= λ v. tick (meaning.assigns_behind see u fields v)) H)
          (sym found.in_slots) (sym found.in_numbers) (by_path found (path_numbers (λ t. see.fields t 0)
          (target_behind found.of) fields))

-- ---- borrow statements

-- what follows a tick
ticked_follows : {A B : Type 0} (m : Action A) (go : A → Action B) (w : World) (n : ℕ)
    → follows (ticked m w n) go ≡ ticked (λ v l. follows (m v l) go) w n
unfolding follows ticked
ticked_follows m go w zero = refl
ticked_follows m go w (suc l) = refl

module _ (by : Coding) (f : Frame by) (get : ℕ → Option Draft) (placed : Placed by f.function get) (depth count around
    room : ℕ) where
  parts_of : PartsStandIn get
  parts_of = parts_stand get

  abbrev Behind_so : Bool → List (Entry by) → Names → Slots → Type 0
  Behind_so out scope names slots = Behind by f get depth (resting count around) room out scope names slots

  -- behind the block its borrow is closed
  close_runs : {s : Spot} {n : ℕ} (out : Bool) (scope : List (Entry by)) (k m q : ℕ) (r : Out Flow)
      → k ≡ around + length f.lent → Stands get (unless out (instr.Close around)) m q
      → Sim by f (flow_aim by f (Behind by f get depth (resting count (around + 1)) room out scope) m) 0 s n r
      → Sim by f (flow_aim by f (Behind_so out scope) q) 0 s n (follows r (and_then (tick (ticks.◌>>◌ (ticks.does
      (closed_to k)) (pure meaning.falls)))))
  unfolding act follows
  close_runs {s} {n} true scope k m q r same stands g =
      then_runs by f r (tick (ticks.◌>>◌ (ticks.does (closed_to k)) (pure meaning.falls))) g (λ names slots c l h few.
      absurd (true≢false h.0))
  close_runs {s} {n} false scope k m q r same stands g =
      then_runs by f r (tick (ticks.◌>>◌ (ticks.does (closed_to k)) (pure meaning.falls))) g (λ names slots c l h few.
      let ag = h.1 in
      let here = parts_of.of_one (plain (instr.Close around)) m q stands in
      let names2 = names_closed around names in
      let slots2 = low_closed around slots in
      let c2 = deeds_closed (map borrow_number (newer around names.lent)) c in
      let enough : around ≤ length names.lent = omega (arith, ag.since) in
      ticks_at by f (ticks.◌>>◌ (ticks.does (closed_to k)) (pure meaning.falls)) m [] names slots c l (λ j e.
      subst (λ w. Sim by f (flow_aim by f (Behind_so false scope) q) 0 (spot by f m [] slots c) (suc j) (gives
      meaning.falls w j)) (sym (closed_meant by f around k names c same))
      (sim_given by f (flow_aim by f (Behind_so false scope) q) falls names2 slots2 c2 (
        refl,
        agree_closed by f (resting count (around + 1)) room around scope names slots enough ag,
      )
      (leads_spare by.code (omega arith) (leads_to by.code
      (ap (λ nx. reached (spot by f m [] slots c) nx) (close_goes by f around m [] slots c)
      ∙ ap (λ all. at (spot by f (m + 1) [] slots2 (deeds_closed all c))) (newer_both by f around names slots ag.rest)
      ∙ ap (λ i. at (spot by f i [] slots2 c2)) (sym here.ends))
      (leads_tick by.code (spot by f m [] slots c) (instr.Close around) j (placed.has m (plain (instr.Close around))
      here.here)))))))

  module _ (number slot : ℕ) (scope : List (Entry by)) (scoped : Scoped by number slot scope) (home : by.slot number
      ≡ slot) (fits : number + 1 ≤ count) (rooms : slot + 1 ≤ room) where
    -- a variable that holds a reference, with one more borrow
    abbrev lent_entry : Bytes → Option ClosedType → List (Entry by)
    lent_entry r of = variable r number slot of ∷ scope

    -- BIND
    bound_leads : (mode : BorrowMode) (r name : Bytes) (of : Option ClosedType) (found : Found by scope name) (p q l :
        ℕ) (names : Names) (slots : Slots) (c : Common by)
        → Is by f p (instr.Bind found.slot slot (mode_in mode)) → q ≡ p + 1
        → Agree by f (resting count around) room scope names slots
        → {H : Names → Slots → Type 0} {t e : ℕ} (k : Action Flow)
        → ((names2 : Names) (slots2 : Slots) (c2 : Common by)
        → Agree by f (resting count (around + 1)) room (lent_entry r of) names2 slots2
        → Sim by f (flow_aim by f H t) e (spot by f q [] slots2 c2) l (k (world by f names2 c2) l))
        → Sim by f (flow_aim by f H t) e (spot by f p [] slots c) (suc l)
        (follows ((lends mode found.number >>= holds number) (world by f names c) l) (λ done. k))
    unfolding act follows
    bound_leads mode r name of found p q l names slots c is next ag {H} {t} {e} k go =
        by_place (lent_both by f (resting count around) room scope scoped.distinct mode name found p [] names slots c
        ag)
      where
        run_of : Option Place → Out Flow
        run_of o = follows (follows (follows (needing o pure (world by f names c) l) (λ place. asks (λ w. Some
            (next_reference place w.store)) >>= λ value. ticks.◌>>◌ (ticks.does (with_borrow (access_of mode) place))
            (pure value))) (holds number)) (λ done. k)

        by_place : (borrowed_place mode found.number (world by f names c) ≡ None) ⊎ Lent by f (resting count around)
            room scope scoped.distinct mode found.number found.slot p [] names slots c
            → Sim by f (flow_aim by f H t) e (spot by f p [] slots c) (suc l) (run_of (borrowed_place mode found.number
            (world by f names c)))
        by_place (inl none) =
            subst (λ o. Sim by f (flow_aim by f H t) e (spot by f p [] slots c) (suc l) (run_of o)) (sym none) (record {
              follows = tt;
            })
        by_place (inr lent) =
            let w1 = resting count around in
            let s = spot by f p [] slots c in
            let m = machine by f p [] slots c in
            let v : Both by = values.reference c.store.borrows lent.place in
            let names1 = names_lent by f w1 room scope scoped.distinct (access_of mode) lent.place names c in
            let slots1 = slots_lent by f w1 room scope scoped.distinct slots c in
            let c1 = deed_opened by f w1 room scope scoped.distinct c in
            let names2 = name_put number (Some (meant by v)) names1 in
            let slots2 = slot_put slot (Some (ran by v)) slots1 in
            let level = level_of by f names slots ag.rest in
            let free = number_free by number slot number scope scoped.under (omega arith) in
            let free2 = slot_free by number slot slot scope scoped.under (omega arith) in
            let ag1 : Agree by f (resting count (around + 1)) room scope names1 slots1 = record {
              names_are = ag.names_are;
              slots_are = ag.slots_are;
              held = ag.held;
              only = ag.only;
              rest = record {
                levels = ag.rest.levels;
                lent_are = ap (λ all. c.store.borrows ∷ all) ag.rest.lent_are;
              };
              since = let many = ag.since in omega (arith, many);
            } in
            let within : number < length names.own = omega (arith, ag.names_are, fits) in
            let within2 : slot < length slots.own = omega (arith, ag.slots_are, rooms) in
            let ag2 = agree_new by f (resting count (around + 1)) room scope r number slot of v names1 slots1 free free2
            within within2 ag1 in
            let there : reached s (act by.code (instr.Bind found.slot slot (mode_in mode)) m) ≡ at (spot by f q [] slots2
            c1) =
            ap (λ o. reached s (having o (λ place. low.stores slot (low.new_reference place m) (low.borrowed m))))
            lent.in_machine
            ∙ ap (λ x. reached s (low.stores slot (ran by v) x)) (lent_ran by f w1 room scope scoped.distinct p [] slots
            c)
            ∙ ap (λ nx. reached s nx) (store_goes by f slot p v [] slots1 c1 level within2)
            ∙ ap (λ i. at (spot by f i [] slots2 c1)) (sym next) in
            subst (λ o. Sim by f (flow_aim by f H t) e (spot by f p [] slots c) (suc l) (run_of o)) (sym lent.in_meaning)
            (subst (λ w. Sim by f (flow_aim by f H t) e (spot by f p [] slots c) (suc l) (follows (holds number (meant by
            v) w l) (λ done. k))) (sym (lent_meant by f w1 room scope scoped.distinct (access_of mode) lent.place names
            c))
            (subst (λ w. Sim by f (flow_aim by f H t) e (spot by f p [] slots c) (suc l) (k w l)) (sym (meant_set by f
            number (Some (meant by v)) names1 c1))
            (sim_spare by f (k (world by f names2 c1) l) (omega arith)
            (sim_on by f (k (world by f names2 c1) l) (leads_to by.code there (leads_tick by.code s (instr.Bind found.slot
            slot (mode_in mode)) l is)) (go names2 slots2 c1 ag2)))))

    pub borrow_does : (mode : BorrowMode) (x r : Bytes) (out : Bool) (many : ℕ) → 1 ≤ many → (wb : Scope → Written)
        (body : Scope → Action Flow)
        → ((of : Option ClosedType) → Does by f get depth (resting count (around + 1)) room (lent_entry r of) (wb
        (slots_in by (lent_entry r of))) (body (numbers_in by (lent_entry r of)))
        (Inside by f get depth (resting count (around + 1)) room out (number + 1) (number + many) (lent_entry r of)))
        → Does by f get depth (resting count around) room scope
        (written_lends out around slot mode (variable_of (slots_in by scope) x)
        (wb (with_reference mode (variable_of (slots_in by scope) x) slot r (slots_in by scope))))
        (lending (binds_borrow number mode (variable_of (numbers_in by scope) x))
        (within number many (body (with_reference mode (variable_of (numbers_in by scope) x) number r (numbers_in by
        scope)))))
        (Behind_so out scope)
    unfolding follows
    borrow_does mode x r out many counts wb body inner = by_what (means by scope x)
      where
        by_what : Means by scope x → Does by f get depth (resting count around) room scope
            (written_lends out around slot mode (variable_of (slots_in by scope) x)
            (wb (with_reference mode (variable_of (slots_in by scope) x) slot r (slots_in by scope))))
            (lending (binds_borrow number mode (variable_of (numbers_in by scope) x))
            (within number many (body (with_reference mode (variable_of (numbers_in by scope) x) number r (numbers_in by
            scope)))))
            (Behind_so out scope)
        by_what (inl none) =
            subst (λ u. Does by f get depth (resting count around) room scope
            (written_lends out around slot mode (variable_of (slots_in by scope) x)
            (wb (with_reference mode (variable_of (slots_in by scope) x) slot r (slots_in by scope))))
            (lending (binds_borrow number mode u) (within number many (body (with_reference mode u number r (numbers_in by
            scope))))) (Behind_so out scope)) (sym none.0)
            (record {
              runs = λ p q names slots c n stands ag le.
                  let close : Action Flow = tick (ticks.◌>>◌ (ticks.does (closed_to (length (names.lent ++ f.lent))))
                  (pure meaning.falls)) in
                  let next = λ (done : Unit {0}). within number many (body (with_reference mode None number r (numbers_in
                  by scope))) >>= and_then close in
                  subst (λ all. Sim by f (flow_aim by f (Behind_so out scope) q) 0 (spot by f p [] slots c) n all) (sym
                  (ticked_follows stuck next (world by f names c) n))
                  (ticks_at by f (λ w l. follows (stuck w l) next) p [] names slots c n (λ l e. sim_stuck by f));
            })
        by_what (inr found) =
            let of = borrowed mode found.of in
            let bind = does (instr.Bind found.slot slot (mode_in mode)) in
            let block = wb (slots_in by (lent_entry r of)) in
            let ends = unless out (instr.Close around) in
            let body_of = body (numbers_in by (lent_entry r of)) in
            subst₂ (λ o u. Does by f get depth (resting count around) room scope
            (written_lends out around slot mode o (wb (with_reference mode o slot r (slots_in by scope))))
            (lending (binds_borrow number mode u) (within number many (body (with_reference mode u number r (numbers_in by
            scope))))) (Behind_so out scope)) (sym found.in_slots) (sym found.in_numbers)
            (record {
              runs = λ p q names slots c n stands ag le.
                  let first = parts_of.of_row bind (block >> ends) p q stands in
                  let second = parts_of.of_row block ends first.middle q first.second in
                  let here = parts_of.of_one (plain (instr.Bind found.slot slot (mode_in mode))) p first.middle first.first in
                  let k = length (names.lent ++ f.lent) in
                  let k_is : k ≡ around + length f.lent = omega (
                    arith,
                    length-append names.lent f.lent,
                    ag.since,
                  ) in
                  let close : Action Flow = tick (ticks.◌>>◌ (ticks.does (closed_to k)) (pure meaning.falls)) in
                  let next : Action Flow = within number many body_of >>= and_then close in
                  let opening = lends mode found.number >>= holds number in
                  subst (λ all. Sim by f (flow_aim by f (Behind_so out scope) q) 0 (spot by f p [] slots c) n all) (sym
                  (ticked_follows opening (λ done. next) (world by f names c) n))
                  (ticks_at by f (λ w l. follows (opening w l) (λ done. next)) p [] names slots c n (λ l e.
                  bound_leads mode r x of found p first.middle l names slots c (placed.has p (plain (instr.Bind found.slot
                  slot (mode_in mode))) here.here) here.ends ag next (λ names2 slots2 c2 ag2.
                  close_runs out scope k second.middle q (within number many body_of (world by f names2 c2) l) k_is
                  second.second
                  (empties_run by f number many (body_of (world by f names2 c2) l) (λ x y h. (h.0, outer of x y h.1))
                  ((inner of).runs first.middle second.middle names2 slots2 c2 l second.first ag2 (omega (
                    arith,
                    le,
                    e,
                  )))))));
            })
          where
            outer : (of : Option ClosedType) (names : Names) (slots : Slots)
                → Ended by f get depth (resting count (around + 1)) room (number + 1) (number + many) (lent_entry r of)
                names slots
                → Agree by f (resting count (around + 1)) room scope (all_emptied number many names) slots
            outer of names slots en =
                let under = under_more by number slot (number + 1) (slot + 1) scope (omega arith) (omega arith)
                scoped.under in
                ended_emptied by f get depth (resting count (around + 1)) room number slot number many (number + many)
                scope names slots scoped.under (omega arith) (omega arith)
                (ended_outer by f get depth (resting count (around + 1)) room (number + 1) (slot + 1) number (number + 1)
                (number + many) (variable r number slot of ∷ []) scope names slots (omega arith, tt) (
                  omega arith,
                  omega arith,
                  under,
                ) (omega (arith, counts)) (omega arith) en)
