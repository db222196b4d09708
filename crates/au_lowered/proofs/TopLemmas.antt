-- A run of the code of a program does what the program means.
use Rattle.std.proofs.Common.{◌≡◌, ℕ, ◌+◌, ◌-◌, ◌*◌, ◌≤◌, Bool, true, false, ◌==◌, if◌then◌else◌, List, []}
use Rattle.std.proofs.Common.{length, Option, Some, None, refl, sym, ap, subst, ◌∙◌, arith, eqb-true, map}
use Rattle.std.proofs.Common.{◌++◌, ◌∷◌}
use Rattle.std.proofs.Math.Nat.{le_refl}
use Rattle.std.proofs.lemmas.List.{length-map}
use Rattle.au_effects.specs.Values as values
use Rattle.au_low.specs.declared.endings.Ending.{Ending}
use Rattle.au_low.specs.declared.endings.Ending.TheVariants.{Exit, Abort, Steps, Stuck}
use Rattle.au_low.specs.Instructions as low
use Rattle.au_low.specs.Machines as machines
use Rattle.au_low.specs.Runs.{abort_kind, exec}
use Rattle.au_meaning.specs.Acts.{new_names, begins, ends_frame, closing, closed_to}
use Rattle.au_meaning.specs.Laws.{is_over}
use Rattle.au_meaning.specs.Meanings.{call_at, returned, scope_of, exit_in, seen}
use Rattle.au_meaning.specs.Names.{names_in_block}
use Rattle.au_meaning.specs.Statements.{Flow, run_block}
use Rattle.au_meaning.specs.Ticks as ticks
use Rattle.au_meaning.specs.Ticks.{pure, Out, Action, gives, aborts, cut, no_rule, follows, where_true, does, ◌>>◌, ◌>>=◌}
use Rattle.au_meaning.specs.Views.{Function}
use Rattle.au_meaning.specs.Worlds as source
use Rattle.au_meaning.specs.Worlds.{Value, World, Outcome, exit, abort, running, stuck}
use Rattle.au_lowered.specs.Maps.{fault_to}
use Rattle.au_lowered.specs.Sides.{source as source_world, as_ran, lower}
use Rattle.au_lowered.specs.Sides.{Coding, Both, Names, Slots, Common, Spot, told, meant, ran, all_meant}
use Rattle.au_lowered.specs.Frames.{Frame, spot, machine, world, Rest_of}
use Rattle.au_lowered.specs.Runs.{ended, reached, run_at, Leads, Sim}
use Rattle.au_lowered.proofs.LeadLemmas.{leads_to}
use Rattle.au_lowered.proofs.StepLemmas.{deeds_both}
use Rattle.au_lowered.specs.Flows.{Way, falls, returns, way_meant, gone, lands, flow_aim, OnFalls}
use Rattle.au_lowered.specs.FollowPrograms.{HasProgram}
use Rattle.au_lowered.proofs.FunctionLemmas.{body_runs, good_at, first_slots, first_names}
use Rattle.au_lowered.proofs.CloseLemmas.{closed_meant, borrow_number, names_closed, newer_all}
use Rattle.au_lowered.proofs.DeedLemmas.{closes_to}
use Rattle.au_lowered.proofs.MoveLemmas.{deeds_closed}
use Rattle.au_effects.specs.References.{newer}

-- the frame of an entry
abbrev pub entry_frame : {by : Coding} → Frame by
entry_frame = record { function = 0; waiting = []; levels = []; level = refl; lent = [] }

-- a world before anything has happened
abbrev pub first_common : (by : Coding) → List ℕ → Common by
first_common by input = record {
  store = record { frames = []; births = []; borrows = 0; keeps = true; deeds = [] };
  output = [];
  left = input;
}

module _ (by : Coding) where
  -- how a run ends, as the machine tells it
  abbrev pub ending_of : source.Ending → Ending
  ending_of (exit success) = Exit success
  ending_of (abort fault) = Abort (abort_kind (fault_to by.text fault))
  ending_of running = Steps
  ending_of stuck = Stuck

  -- What a run from a place shows: what is seen of the meaning that had so many ticks, after some steps;
  -- and the same after more, where it has ended.
  pub record Shows (s : Spot) (meant_outcome : Outcome) : Type 0 where
    pub steps : ℕ
    pub least : meant_outcome.made ≤ steps
    pub most : steps ≤ 8 * meant_outcome.made
    pub here : exec by.code steps (run_at s 0) ≡ record {
      ending = ending_of meant_outcome.ending;
      output = meant_outcome.world.output;
      left = meant_outcome.world.left;
      events = told by meant_outcome.world;
      made = steps;
    }
    pub stays : is_over meant_outcome.ending ≡ true → (more : ℕ) → exec by.code (steps + more) (run_at s 0)
        ≡ exec by.code steps (run_at s 0)

  -- where nothing is claimed of a run that is stuck
  abbrev pub Claims : Spot → Outcome → Type 0
  Claims s outcome = (outcome.ending ≡ stuck → ⊥) → Shows s outcome

  -- a run that has ended
  shows_end : (s : Spot) (n l : ℕ) (end : source.Ending) (w : World) → is_over end ≡ is_over end
      → Leads by.code s n (ended (ending_of end) w.output w.left (told by w)) l 0
      → Shows s (record { world = w; made = n - l; ending = end })
  shows_end s n l end w is lead =
      let seen_so : (more : ℕ) → exec by.code (lead.steps + more) (run_at s 0)
      ≡ record {
        ending = ending_of end;
        output = w.output;
        left = w.left;
        events = told by w;
        made = 0
            + lead.steps;
      } = λ more. lead.by more 0 in
      let none : lead.steps + 0 ≡ lead.steps = omega arith in
      let count : 0 + lead.steps ≡ lead.steps = omega arith in
      let here = sym (ap (λ k. exec by.code k (run_at s 0)) none) ∙ seen_so 0 in
      record {
        steps = lead.steps;
        least = omega (arith, lead.least, lead.most);
        most = omega (arith, lead.least, lead.most);
        here = here ∙ ap (λ k. record {
          ending = ending_of end;
          output = w.output;
          left = w.left;
          events =
              told by w;
          made = k;
        }) count;
        stays = λ over more. seen_so more ∙ sym here;
      }

  -- an exit of both
  abbrev exit_of : Option Bool → source.Ending
  exit_of None = stuck
  exit_of (Some success) = exit success

  case_same : (a b : Bool) → (if a then exit true else if b then exit false else stuck)
      ≡ exit_of (if a then Some true else if b then Some false else None)
  case_same true b = refl
  case_same false true = refl
  case_same false false = refl

  exit_same : (v : Both by) → exit_in (meant by v) ≡ exit_of (low.exit_in (ran by v))
  exit_same values.unit = refl
  exit_same (values.truth b) = refl
  exit_same (values.number kind z) = refl
  exit_same (values.text t) = refl
  exit_same (values.made tag birth values.no_fields) = case_same (tag == 0) (tag == 1)
  exit_same (values.made tag birth (values.field_then value rest)) = refl
  exit_same (values.reference borrow place) = refl
  exit_same (values.box id) = refl
  exit_same (values.buffer id) = refl
  exit_same (values.terminal id) = refl
  exit_same (values.root id) = refl

  -- what is told where the entry returns
  abbrev closed_entry : Names → Common by → Common by
  closed_entry names c = deeds_closed (map borrow_number (newer 0 names.lent)) c

  -- a value that the entry returns
  shows_value : (s : Spot) (n l : ℕ) (v : Both by) (names : Names) (slots : Slots) (c : Common by) (o :
      Option Bool) → Rest_of by entry_frame names slots
      → low.exit_in (ran by v) ≡ o → Leads by.code s n (gone by entry_frame v slots c) l 0
      → Claims s (record {
        world = ends_frame (world by entry_frame (names_closed 0 names) (closed_entry names c));
        made = n - l;
        ending = exit_of
            o;
      })
  shows_value s n l v names slots c None rest e lead claim = absurd (claim refl)
  shows_value s n l v names slots c (Some b) rest e lead claim =
      let m = machine by entry_frame 0 [] slots c in
      let c2 = closed_entry names c in
      let borrows : slots.lent ≡ map borrow_number (newer 0 names.lent) = rest.lent_are ∙ ap (λ all. map borrow_number
      all) (sym (newer_all names.lent)) in
      let there : gone by entry_frame v slots c ≡ ended (Exit b) c.output c.left (told by (world by
      entry_frame (names_closed 0 names) c2)) =
      ap (λ o. reached (spot by entry_frame 0 [] slots c) (machines.having o (λ success. machines.exits
      success (machines.in_world (machines.frame_ended m) m)))) e
      ∙ ap (λ w. ended (Exit b) c.output c.left w.deeds) (closes_to (as_ran by) by.of (slots.below ++ slots.own ∷
      []) slots.lent c.store ∙ ap (λ all. lower by (slots.below ++ slots.own ∷ []) (deeds_closed all c)) borrows)
      ∙ ap (λ deeds. ended (Exit b) c.output c.left deeds) (sym (deeds_both by.of c2.store.deeds)) in
      shows_end s n l (exit b) (ends_frame (world by entry_frame (names_closed 0 names) c2)) refl (leads_to
      by.code there lead)

  -- what is done with what the body of the entry comes to
  abbrev pub entry_leaves : Out Flow → Out Value
  entry_leaves r = follows (follows (follows r returned) (λ a. ticks.◌>>◌ (does (closed_to 0)) (pure a))) (λ
      value. ticks.◌>>◌ (does ends_frame) (pure value))

  -- what the body of the entry does
  pub shows_body : {H : Names → Slots → Type 0} {q : ℕ} (s : Spot) (n : ℕ) (r : Out Flow)
      → Sim by entry_frame (flow_aim by entry_frame H q) 0 s n r
      → Claims s (seen n (entry_leaves r))
  unfolding follows
  shows_body {H} {q} s n (gives flow w l) g claim =
      by_way g.follows.b g.follows.is g.follows.held g.follows.leads claim
    where
      by_way : (b : Way by) → flow ≡ way_meant by b
          → OnFalls by entry_frame H b g.follows.names g.follows.slots
          → Leads by.code s n (lands by entry_frame q b g.follows.slots g.follows.c) l 0
          → Claims s (seen n (entry_leaves (gives flow w l)))
      by_way falls is rest lead = subst (λ x. Claims s (seen n (entry_leaves (gives x w l)))) (sym is) (λ no.
          absurd (no refl))
      by_way (returns v) is rest lead =
          subst (λ x. Claims s (seen n (entry_leaves (gives x w l)))) (sym is)
          (subst (λ x. Claims s (record {
            world = ends_frame (closed_to 0 x);
            made = n - l;
            ending = exit_in (meant by v);
          })) (sym g.follows.in_world)
          (subst (λ x. Claims s (record {
            world = ends_frame x;
            made = n - l;
            ending = exit_in (meant by v);
          })) (sym (closed_meant by entry_frame 0 0 g.follows.names g.follows.c (omega arith)))
          (subst (λ end. Claims s (record {
            world = ends_frame (world by entry_frame (names_closed 0 g.follows.names) (closed_entry
                g.follows.names g.follows.c));
            made = n - l;
            ending = end;
          })) (sym (exit_same v))
          (shows_value s n l v g.follows.names g.follows.slots g.follows.c (low.exit_in (ran by v)) rest refl
          lead))))
  shows_body s n (aborts fault w l) g claim = shows_end s n l (abort fault) w refl g.follows
  shows_body s n (cut w) g claim = record {
    steps = g.follows.steps;
    least = g.follows.least;
    most = g.follows.most;
    here = g.follows.cuts 0 ∙ ap (λ k. record {
      ending = Steps;
      output = w.output;
      left = w.left;
      events =
          told by w;
      made = k;
    }) (let e : 0 + g.follows.steps ≡ g.follows.steps = omega arith in e);
    stays = λ over more. absurd (grind arith);
  }
  shows_body s n (no_rule w l) g claim = absurd (claim refl)

  -- ---- the entry

  -- the world in which no frame is
  abbrev pub no_frame : Common by → World
  no_frame c = source_world by [] [] c

  -- the body of a function that is called
  abbrev pub called_in : {T C : Type 0} → (ℕ → Option (Function ℕ T C)) → Function ℕ T C → List Value → ℕ
      → Action Value
  called_in functions fn args depth = does (begins (new_names fn.first args (names_in_block fn.body))) >>
      (closing (run_block fn.view (call_at functions depth) depth (fn.first + length args) (scope_of fn) fn.body
      >>= returned) >>= λ value. does ends_frame >> pure value)

  module _ {T C : Type 0} (functions : ℕ → Option (Function ℕ T C)) (has : HasProgram by functions) where
    -- a run that begins with these arguments
    pub enters_if : (fn : Function ℕ T C) (args : List (Both by)) (c : Common by) (ticks : ℕ) → functions 0
        ≡ Some fn
        → (b : Bool) → (length (all_meant by args) == length fn.parameters) ≡ b
        → Claims (spot by entry_frame 0 [] (first_slots by functions has fn args []) c)
        (seen ticks (where_true b (called_in functions fn (all_meant by args) ticks) (no_frame c) ticks))
    unfolding follows
    enters_if fn args c ticks known false t = λ no. absurd (no refl)
    enters_if fn args c ticks known true t =
        let s = spot by entry_frame 0 [] (first_slots by functions has fn args []) c in
        let count = length-map args (meant by) in
        let e : length args ≡ length fn.parameters = sym count
        ∙ eqb-true (length (all_meant by args)) (length fn.parameters) t in
        let body = body_runs by functions has entry_frame ticks ticks fn args [] [] c tt (has 0 fn known) (good_at
        by functions has ticks) (le_refl ticks) e in
        let out_of = λ (n : ℕ). run_block fn.view (call_at functions ticks) ticks (fn.first + n) (scope_of fn)
        fn.body (world by entry_frame (first_names by functions has fn args []) c) ticks in
        subst (λ n. Claims s (seen ticks (entry_leaves (out_of n)))) (sym count)
        (shows_body s ticks (out_of (length args)) body)
