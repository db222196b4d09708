-- One instruction for each action that makes a tick: constants, variables and operations on values.
use Rattle.std.proofs.Common.{◌≡◌, ℕ, suc, ◌+◌, ◌-◌, List, [], ◌∷◌, ◌++◌, length, map, Option, Some, None}
use Rattle.std.proofs.Common.{refl, sym, ap, ap₂, subst, ◌∙◌, arith, slice_get}
use Rattle.std.specs.Prelude.{option_map}
use Rattle.std.proofs.lemmas.List.{length-append}
use Rattle.au_low.specs.declared.instructions.Instr.{Instr}
use Rattle.au_low.specs.declared.instructions.Instr.TheVariants as instr
use Rattle.au_low.specs.Instructions as low
use Rattle.au_low.specs.Instructions.{act, instructions}
use Rattle.au_low.specs.Machines as machines
use Rattle.au_low.specs.Machines.{Machine, goes, pushes, having}
use Rattle.au_effects.specs.Answers as answer
use Rattle.au_effects.specs.Answers.{Fault, Result}
use Rattle.au_effects.specs.Parts.{along, part}
use Rattle.au_effects.specs.Places.{at as held_at, name_at}
use Rattle.au_effects.specs.Worlds as effects
use Rattle.au_effects.specs.Worlds.{Deed}
use Rattle.au_meaning.specs.Ticks.{Out, Action, gives, pure, follows, ticked, needing, comes}
use Rattle.au_meaning.specs.Acts as acts
use Rattle.au_meaning.specs.Acts.{looks, moves, place_of, with_value, frame_in}
use Rattle.au_meaning.specs.Worlds.{Value}
use Rattle.au_lowered.specs.Maps.{value_to, deed_to, fault_to, result_to, Change}
use Rattle.au_lowered.specs.Scopes.{Same}
use Rattle.au_lowered.specs.Sides.{as_meant, as_ran, Coding, Word, Both, Names, Slots, Common, Spot}
use Rattle.au_lowered.specs.Frames.{Frame, machine, spot, name_put, slot_put, world}
use Rattle.au_lowered.specs.Sides.{meant, ran}
use Rattle.au_lowered.specs.Runs.{at, reached, Aim, aim_at, Sim, aborted}
use Rattle.au_lowered.proofs.FrameLemmas.{last_name, last_set, get_at}
use Rattle.au_lowered.proofs.LeadLemmas.{leads_spare, leads_tick, leads_to}
use Rattle.au_lowered.proofs.MapLemmas.{part_to}
use Rattle.au_lowered.proofs.SimLemmas.{sim_given, sim_tick}

-- an event of both sides, and why a program aborts on both
deed_both : {B D : Type 0} (g : B → D) (deed : Deed B) → deed_to g (deed_to (λ (t : B). t) deed)
    ≡ deed_to g deed
deed_both g (effects.born id of home) = refl
deed_both g (effects.consumed id) = refl
deed_both g (effects.opened borrow) = refl
deed_both g (effects.used borrow) = refl
deed_both g (effects.closed borrow) = refl

pub deeds_both : {B D : Type 0} (g : B → D) (deeds : List (Deed B))
    → map (deed_to g) (map (deed_to (λ (t : B). t)) deeds) ≡ map (deed_to g) deeds
deeds_both g [] = refl
deeds_both g (deed ∷ rest) = ap₂ (λ d ds. d ∷ ds) (deed_both g deed) (deeds_both g rest)

fault_both : {T S R : Type 0} (f : T → S) (g : S → R) (why : Fault T)
    → fault_to g (fault_to f why) ≡ fault_to (λ (t : T). g (f t)) why
fault_both f g answer.arithmetic = refl
fault_both f g (answer.called t) = refl
fault_both f g answer.not_empty = refl
fault_both f g answer.empty = refl
fault_both f g answer.out_of_range = refl

module _ (by : Coding) (f : Frame by) where
  -- an instruction stands at a place of the function that runs
  abbrev pub Is : ℕ → Instr → Type 0
  Is p i = slice_get (instructions (slice_get by.code.functions f.function)) p ≡ Some i

  -- where an abort leads
  pub abort_reach : (why : Fault (Word by)) (m : Machine) (names : Names) (c : Common by) (s : Spot)
      → m.world.deeds ≡ map (deed_to by.of) c.store.deeds → s.output ≡ c.output → s.left ≡ c.left
      → reached s (machines.aborts (fault_to (as_ran by).text why) m)
      ≡ aborted by (fault_to (as_meant by).text why) (world by f names c)
  abort_reach why m names c s deeds output left =
      let e = fault_both (as_meant by).text by.text why in
      let d = deeds_both by.of c.store.deeds in
      cc

  -- an action that makes a tick, from a place where the machine is
  pub ticks_at : {A B : Type 0} {aim : Aim by A B} {e : ℕ} (m : Action A) (p : ℕ) (ops : List (Both by))
      (names : Names) (slots : Slots) (c : Common by) (n : ℕ)
      → ((l : ℕ) → n ≡ suc l → Sim by f aim e (spot by f p ops slots c) (suc l) (m (world by f names c) l))
      → Sim by f aim e (spot by f p ops slots c) n (ticked m (world by f names c) n)
  ticks_at m p ops names slots c n go =
      sim_tick by f m (world by f names c) n refl refl (sym (deeds_both by.of c.store.deeds)) go

  module _ (Holds : Names → Slots → Type 0) where
    -- a value is pushed where an action gives it
    abbrev pub pushing : ℕ → List (Both by) → Aim by Value (Both by)
    pushing q ops = aim_at (meant by) (λ v names slots. Holds names slots) (λ v slots c. spot by f q (v ∷
        ops) slots c)

    abbrev pub Pushes : ℕ → List (Both by) → ℕ → Spot → ℕ → Out Value → Type 0
    Pushes q ops e s n r = Sim by f (pushing q ops) e s n r

    pub push_runs : (i : Instr) (p q l : ℕ) (v : Both by) (ops before : List (Both by)) (names : Names)
        (slots was : Slots) (c old : Common by)
        → Is p i → q ≡ p + 1 → Holds names slots → old.output ≡ c.output → old.left ≡ c.left
        → act by.code i (machine by f p before was old) ≡ goes (machine by f (p + 1) (v ∷ ops) slots c)
        → Pushes q ops 7 (spot by f p before was old) (suc l) (gives (meant by v) (world by f names c) l)
    push_runs i p q l v ops before names slots was c old is next h output left e =
        let there : reached (spot by f p before was old) (act by.code i (machine by f p before was old))
        ≡ at (spot by f q (v ∷ ops) slots c) = cc in
        sim_given by f (pushing q ops) v names slots c h (leads_to by.code there (leads_tick by.code (spot
        by f p before was old) i l is))

    -- an operation on values
    pub comes_runs : (i : Instr) (p q l : ℕ) (r : Result (Word by)) (ops before : List (Both by)) (names :
        Names) (slots : Slots) (c : Common by)
        → Is p i → q ≡ p + 1 → Holds names slots
        → act by.code i (machine by f p before slots c)
        ≡ low.comes (result_to (as_ran by) r) (machine by f p ops slots c)
        → Pushes q ops 7 (spot by f p before slots c) (suc l)
        (comes (result_to (as_meant by) r) (world by f names c) l)
    comes_runs i p q l (answer.value v) ops before names slots c is next h e =
        push_runs i p q l v ops before names slots slots c c is next h refl refl e
    comes_runs i p q l (answer.fault why) ops before names slots c is next h e =
        let s = spot by f p before slots c in
        let there = ap (λ nx. reached s nx) e ∙ abort_reach why (machine by f p ops slots c) names c s refl
        refl refl in
        record {
          follows = leads_spare by.code (omega arith) (leads_to by.code there (leads_tick by.code s i
              l is));
        }
    comes_runs i p q l answer.no_rule ops before names slots c is next h e = record { follows = tt }

  -- ---- what names and slots hold

  pub frame_is : (names : Names) → length names.below ≡ length (names.below ++ names.own ∷ []) - 1
  frame_is names = omega (arith, length-append names.below (names.own ∷ []))

  pub meant_at : (number : ℕ) (names : Names) (c : Common by) (both : Option (Both by))
      → slice_get names.own number ≡ Some (option_map (meant by) both)
      → name_at (frame_in (world by f names c)) number (world by f names c).store
      ≡ option_map (meant by) both
  meant_at number names c both e =
      last_name (world by f names c).store names.below names.own (frame_in (world by f names c)) number refl
      (frame_is names)
      ∙ ap (λ o. along o (λ value. value)) e

  pub ran_at : (slot : ℕ) (p : ℕ) (ops : List (Both by)) (slots : Slots) (c : Common by) (both : Option
      (Both by)) → length slots.below ≡ length f.waiting
      → slice_get slots.own slot ≡ Some (option_map (ran by) both)
      → machines.in_slot slot (machine by f p ops slots c) ≡ option_map (ran by) both
  ran_at slot p ops slots c both level e =
      last_name (machine by f p ops slots c).world slots.below slots.own (length f.waiting) slot refl level
      ∙ ap (λ o. along o (λ value. value)) e

  pub meant_set : (number : ℕ) (x : Option Value) (names : Names) (c : Common by)
      → with_value number x (world by f names c) ≡ world by f (name_put number x names) c
  meant_set number x names c =
      ap (λ store. acts.in_store store (world by f names c))
      (last_set (world by f names c).store names.below names.own (frame_in (world by f names c)) number x
      refl (frame_is names))

  pub ran_set : (slot : ℕ) (y : Option machines.Low) (p : ℕ) (ops : List (Both by)) (slots : Slots) (c :
      Common by) → length slots.below ≡ length f.waiting
      → machines.slot_set slot y (machine by f p ops slots c) ≡ machine by f p ops (slot_put slot y slots) c
  ran_set slot y p ops slots c level =
      ap (λ w. machines.in_world w (machine by f p ops slots c))
      (last_set (machine by f p ops slots c).world slots.below slots.own (length f.waiting) slot y refl
      level)

  -- the slots of the frame
  pub slots_are : (p : ℕ) (ops : List (Both by)) (slots : Slots) (c : Common by)
      → length slots.below ≡ length f.waiting → machines.slots_of (machine by f p ops slots c) ≡ slots.own
  slots_are p ops slots c level = ap (λ o. machines.slots_in o) (get_at slots.below slots.own [] (length
      f.waiting) level)

  -- ---- variables

  part_both : {S : Type 0} (g : Change (Word by) S) (path : List ℕ) (both : Option (Both by))
      → along (option_map (value_to g) both) (part path) ≡ option_map (value_to g) (along both (part path))
  part_both g path None = refl
  part_both g path (Some v) = part_to g path v

  module _ (Holds : Names → Slots → Type 0) where
    -- a part of a variable is copied
    pub look_runs : (number slot : ℕ) (path : List ℕ) (p q l : ℕ) (ops : List (Both by)) (names : Names)
        (slots : Slots) (c : Common by)
        → Is p (instr.Look slot path) → q ≡ p + 1 → Holds names slots → length slots.below
        ≡ length f.waiting → Same by number slot names.own slots.own
        → Pushes Holds q ops 7 (spot by f p ops slots c) (suc l) (looks number path (world by f names c) l)
    unfolding act
    look_runs number slot path p q l ops names slots c is next h level same =
        found (along same.both (part path))
        (ap (λ o. along o (part path)) (meant_at number names c same.both same.in_name)
        ∙ part_both (as_meant by) path same.both)
        (ap (λ o. along o (part path)) (ran_at slot p ops slots c same.both level same.in_slot)
        ∙ part_both (as_ran by) path same.both)
      where
        found : (o : Option (Both by))
            → held_at (place_of number path (world by f names c)) (world by f names c).store
            ≡ option_map (meant by) o
            → held_at (low.slot_part slot path (machine by f p ops slots c)) (machine by f p ops slots
            c).world ≡ option_map (ran by) o
            → Pushes Holds q ops 7 (spot by f p ops slots c) (suc l) (looks number path (world by f names c)
            l)
        found None e g = subst (λ o. Pushes Holds q ops 7 (spot by f p ops slots c) (suc l) (needing o pure
            (world by f names c) l)) (sym e) (record { follows = tt })
        found (Some v) e g = subst (λ o. Pushes Holds q ops 7 (spot by f p ops slots c) (suc l) (needing o
            pure (world by f names c) l)) (sym e)
            (push_runs Holds (instr.Look slot path) p q l v ops ops names slots slots c c is next h refl
            refl
            (ap (λ o. having o (λ value. pushes value (machine by f p ops slots c))) g))

    -- what a variable holds is moved out of it
    pub move_runs : (number slot : ℕ) (p q l : ℕ) (ops : List (Both by)) (names : Names) (slots : Slots) (c
        : Common by)
        → Is p (instr.Move slot) → q ≡ p + 1 → Holds (name_put number None names) (slot_put slot None slots)
        → length slots.below ≡ length f.waiting → Same by number slot names.own slots.own
        → Pushes Holds q ops 7 (spot by f p ops slots c) (suc l) (moves number (world by f names c) l)
    unfolding act follows
    move_runs number slot p q l ops names slots c is next h level same =
        found same.both (meant_at number names c same.both same.in_name) (ran_at slot p ops slots c
        same.both level same.in_slot)
      where
        found : (o : Option (Both by))
            → name_at (frame_in (world by f names c)) number (world by f names c).store
            ≡ option_map (meant by) o
            → machines.in_slot slot (machine by f p ops slots c) ≡ option_map (ran by) o
            → Pushes Holds q ops 7 (spot by f p ops slots c) (suc l) (moves number (world by f names c) l)
        found None e g =
            subst (λ o. Pushes Holds q ops 7 (spot by f p ops slots c) (suc l)
            (follows (needing o pure (world by f names c) l) (λ value w n. follows (gives (tt {0})
            (with_value number None w) n) (λ a. pure value))))
            (sym e) (record { follows = tt })
        found (Some v) e g =
            subst (λ o. Pushes Holds q ops 7 (spot by f p ops slots c) (suc l)
            (follows (needing o pure (world by f names c) l) (λ value w n. follows (gives (tt {0})
            (with_value number None w) n) (λ a. pure value))))
            (sym e)
            (subst (λ w. Pushes Holds q ops 7 (spot by f p ops slots c) (suc l) (gives (meant by v) w l))
            (sym (meant_set number None names c))
            (push_runs Holds (instr.Move slot) p q l v ops ops (name_put number None names) (slot_put slot None
            slots) slots c c is next h refl refl
            (ap (λ o. having o (λ value. pushes value (machines.slot_set slot None (machine by f p ops slots
            c)))) g
            ∙ ap (λ m. pushes (ran by v) m) (ran_set slot None p ops slots c level))))
