-- The instruction of a shipped call does what the call comes to, also where it waits for a byte of the input.
use Rattle.std.proofs.Common.{◌≡◌, ◌⊎◌, inl, inr, ℕ, suc, ◌+◌, true, List, [], ◌∷◌, ◌++◌, length, reverse}
use Rattle.std.proofs.Common.{Option, Some}
use Rattle.std.proofs.Common.{None, refl, sym, ap, subst, ◌∙◌, arith}
use Rattle.std.specs.Prelude.{option_map}
use Rattle.au_type_texts.specs.Types.{ClosedType}
use Rattle.au_effects.specs.Answers.{Answer, gives, writes, waits, aborts, none}
use Rattle.au_effects.specs.Calls.{arity, shipped, of_one, byte_read}
use Rattle.au_effects.specs.Parts.{along, part}
use Rattle.au_effects.specs.Places.{at as held_at, base_at}
use Rattle.au_effects.specs.Values as values
use Rattle.au_low.specs.declared.instructions.Instr.TheVariants as instr
use Rattle.au_low.specs.Instructions as low
use Rattle.au_low.specs.Instructions.{act, is_type, text_bytes}
use Rattle.au_low.specs.Machines as machines
use Rattle.au_low.specs.Machines.{Machine, Next, having, ordered_if}
use Rattle.au_low.specs.Runs as low_runs
use Rattle.au_low.specs.Runs.{byte_taken, rest_of}
use Rattle.au_meaning.specs.Acts as acts
use Rattle.au_meaning.specs.Acts.{next_byte, other_bytes}
use Rattle.au_shipped.specs.declared.prims.ShippedCall.{ShippedCall}
use Rattle.au_lowered.specs.Frames.{Frame, Wide, Agree, machine, spot, world}
use Rattle.au_lowered.specs.Runs.{at, reached, Leads}
use Rattle.au_lowered.specs.Scopes.{Entry, Distinct}
use Rattle.au_lowered.specs.Sides.{as_meant, as_ran, lower, Coding, Word, Both, Names, Slots, Common, Spot}
use Rattle.au_lowered.specs.Sides.{meant, ran}
use Rattle.au_lowered.specs.Sides.{all_meant, all_ran, Named, Slotted}
use Rattle.au_lowered.proofs.AlikeLemmas.{meant_answer, ran_answer, Comes, Fits, Finds, FoundAt}
use Rattle.au_lowered.proofs.CallLemmas.{popped_all}
use Rattle.au_lowered.proofs.LeadLemmas.{leads_to, leads_tick, leads_spare, leads_heard}
use Rattle.au_lowered.proofs.MapLemmas.{part_to}
use Rattle.au_lowered.proofs.PlaceLemmas.{There, base_there}
use Rattle.au_lowered.proofs.SimLemmas.{sim_given, sim_stuck}
use Rattle.au_lowered.proofs.StepLemmas.{Is, Pushes, pushing, abort_reach}

-- the bytes of the input, as both sides take them
byte_same : (left : List ℕ) → byte_taken left ≡ next_byte left
byte_same [] = refl
byte_same (byte ∷ rest) = refl

rest_same : (left : List ℕ) → rest_of left ≡ other_bytes left
rest_same [] = refl
rest_same (byte ∷ rest) = refl

-- ---- what stands at a place

module _ (by : Coding) (f : Frame by) (wide : Wide) (room : ℕ) (scope : List (Entry by))
    (distinct : Distinct by scope)
  where
    pub place_found : (names : Names) (slots : Slots) (c : Common by) → Agree by f wide room scope names slots
        → Finds by (names.below ++ names.own ∷ []) (slots.below ++ slots.own ∷ []) c.store
    place_found names slots c ag place =
        by_base (base_there by f wide room scope distinct place.base names slots c ag)
      where
        Found : Type 0
        Found = FoundAt by (names.below ++ names.own ∷ []) (slots.below ++ slots.own ∷ []) c.store place

        by_part : (there : There by f wide room scope distinct place.base names slots c) (o : Option (Both by))
            → part place.path there.v ≡ o → (held_at place (world by f names c).store ≡ None) ⊎ Found
        by_part there None e =
            inl (ap (λ o. along o (part place.path)) there.in_meaning ∙ part_to (as_meant by) place.path there.v
            ∙ ap (λ o. option_map (meant by) o) e)
        by_part there (Some v) e =
            inr (record {
              v = v;
              in_meaning = ap (λ o. along o (part place.path)) there.in_meaning
                  ∙ part_to (as_meant by) place.path there.v ∙ ap (λ o. option_map (meant by) o) e;
              in_machine = ap (λ o. along o (part place.path)) there.in_machine
                  ∙ part_to (as_ran by) place.path there.v ∙ ap (λ o. option_map (ran by) o) e;
            })

        by_base : (base_at place.base (world by f names c).store ≡ None) ⊎ There by f wide room scope distinct
            place.base
            names slots c
            → (held_at place (world by f names c).store ≡ None) ⊎ Found
        by_base (inl missing) = inl (ap (λ o. along o (part place.path)) missing)
        by_base (inr there) = by_part there (part place.path there.v) refl

-- ---- what the call comes to

module _ (by : Coding) (f : Frame by) (Holds : Names → Slots → Type 0) where
  -- the frames of both sides
  abbrev pub upper_of : Names → List Named
  upper_of names = names.below ++ names.own ∷ []

  abbrev pub lower_of : Slots → List Slotted
  lower_of slots = slots.below ++ slots.own ∷ []

  -- where it waits for no byte, or has got it
  answered_runs : (s : Spot) (p q l : ℕ) (next : Next) (r : Answer (Word by) ClosedType)
      (before ops : List (Both by))
      (names : Names) (slots : Slots) (c : Common by)
      → q ≡ p + 1 → Holds names slots
      → next ≡ low.answered (ran_answer by (upper_of names) (lower_of slots) r) (machine by f p ops slots c)
      → Leads by.code s (suc l) (reached (spot by f p before slots c) next) l 7
      → Pushes by f Holds q ops 6 s (suc l)
      (acts.answered (meant_answer by (upper_of names) (lower_of slots) r) (world by f names c) l)
  answered_runs s p q l next (gives v store) before ops names slots c end h e lead =
      let new = record c { store = store } in
      let there = ap (λ n. reached (spot by f p before slots c) n) e
      ∙ ap (λ n. at (spot by f n (v ∷ ops) slots new)) (sym end) in
      sim_given by f (pushing by f Holds q ops) v names slots new h (leads_spare by.code (omega arith)
      (leads_to by.code there lead))
  answered_runs s p q l next (writes bytes store) before ops names slots c end h e lead =
      let new = record c { store = store; output = c.output ++ bytes } in
      let there = ap (λ n. reached (spot by f p before slots c) n) e
      ∙ ap (λ n. at (spot by f n (values.unit ∷ ops) slots new)) (sym end) in
      sim_given by f (pushing by f Holds q ops) values.unit names slots new h (leads_spare by.code (omega arith)
      (leads_to by.code there lead))
  answered_runs s p q l next waits before ops names slots c end h e lead = sim_stuck by f
  answered_runs s p q l next (aborts why store) before ops names slots c end h e lead =
      let new = record c { store = store } in
      let there = ap (λ n. reached (spot by f p before slots c) n) e
      ∙ abort_reach by f why (machine by f p ops slots new) names new (spot by f p before slots c) refl refl
      refl in
      record { follows = leads_spare by.code (omega arith) (leads_to by.code there lead) }
  answered_runs s p q l next none before ops names slots c end h e lead = sim_stuck by f

  module _ (call : ShippedCall) (of : Option ℕ) (order : List ℕ) (p q l : ℕ) (vs args ops : List (Both by))
      (names : Names) (slots : Slots) (c : Common by)
      (is : Is by f p (instr.Shipped call of order)) (typed : is_type by.code of ≡ true) (end : q ≡ p + 1)
      (holds : Holds names slots) (many : length vs ≡ arity call)
      (in_order : ordered_if order (all_ran by vs) ≡ Some (all_ran by args)) where
    -- where it waits
    heard_runs : act by.code (instr.Shipped call of order) (machine by f p (reverse vs ++ ops) slots c)
        ≡ machines.waits
        → Comes by (upper_of names) (lower_of slots)
        (of_one (byte_read (next_byte c.left) (world by f names c).store) (all_meant by args))
        (of_one (byte_read (next_byte c.left) (machine by f p ops slots c).world) (all_ran by args))
        → Pushes by f Holds q ops 6 (spot by f p (reverse vs ++ ops) slots c) (suc l)
        (acts.heard (all_meant by args) (world by f names c) l)
    heard_runs waiting comes = by_answer comes
      where
        new : Common by
        new = record c { left = other_bytes c.left }

        s : Spot
        s = spot by f p (reverse vs ++ ops) slots c

        m : Machine
        m = machine by f p ops slots c

        heard_is : low_runs.heard by.code (byte_taken c.left) s.machine
            ≡ low.answered (of_one (byte_read (next_byte c.left) m.world) (all_ran by args)) m
        heard_is =
            ap (λ o. low_runs.heard_if by.code (byte_taken c.left) o s.machine) is
            ∙ popped_all by f (arity call) p vs ops slots c
            (λ values m. having (ordered_if order values) (λ values.
            low.answered (of_one (byte_read (byte_taken c.left) m.world) values) m)) many
            ∙ ap (λ o. having o (λ values. low.answered
            (of_one (byte_read (byte_taken c.left) m.world) values) m))
            in_order
            ∙ ap (λ byte. low.answered (of_one (byte_read byte m.world) (all_ran by args)) m) (byte_same c.left)

        lead : Leads by.code s (suc l)
            (reached (spot by f p (reverse vs ++ ops) slots new) (low_runs.heard by.code
            (byte_taken c.left) s.machine)) l 7
        lead =
            leads_to by.code (ap (λ rest. reached (record s { left = rest })
            (low_runs.heard by.code (byte_taken c.left)
            s.machine)) (rest_same c.left)) (leads_heard by.code s (instr.Shipped call of order) l is waiting)

        by_answer : Comes by (upper_of names) (lower_of slots)
            (of_one (byte_read (next_byte c.left) (world by f names c).store) (all_meant by args))
            (of_one (byte_read (next_byte c.left) m.world) (all_ran by args))
            → Pushes by f Holds q ops 6 s (suc l) (acts.heard (all_meant by args) (world by f names c) l)
        by_answer (inl missing) =
            subst (λ r. Pushes by f Holds q ops 6 s (suc l) (acts.answered r (world by f names new) l))
            (sym missing)
            (sim_stuck by f)
        by_answer (inr alike) =
            subst (λ r. Pushes by f Holds q ops 6 s (suc l) (acts.answered r (world by f names new) l))
            (sym alike.in_meaning)
            (answered_runs s p q l _ alike.answer (reverse vs ++ ops) ops names slots new end holds
            (heard_is ∙ ap (λ r. low.answered r m) alike.in_machine) lead)

    -- where it may wait
    told_runs : (r : Answer (Word by) ClosedType)
        → act by.code (instr.Shipped call of order) (machine by f p (reverse vs ++ ops) slots c)
        ≡ low.answered (ran_answer by (upper_of names) (lower_of slots) r) (machine by f p ops slots c)
        → Comes by (upper_of names) (lower_of slots)
        (of_one (byte_read (next_byte c.left) (world by f names c).store) (all_meant by args))
        (of_one (byte_read (next_byte c.left) (machine by f p ops slots c).world) (all_ran by args))
        → Pushes by f Holds q ops 6 (spot by f p (reverse vs ++ ops) slots c) (suc l)
        (acts.told (all_meant by args) (meant_answer by (upper_of names) (lower_of slots) r)
        (world by f names c) l)
    told_runs (gives v store) e comes =
        answered_runs _ p q l _ (gives v store) (reverse vs ++ ops) ops names slots c end holds e
        (leads_tick by.code _ (instr.Shipped call of order) l is)
    told_runs (writes bytes store) e comes =
        answered_runs _ p q l _ (writes bytes store) (reverse vs ++ ops) ops names slots c end holds e
        (leads_tick by.code _ (instr.Shipped call of order) l is)
    told_runs waits e comes = heard_runs e comes
    told_runs (aborts why store) e comes =
        answered_runs _ p q l _ (aborts why store) (reverse vs ++ ops) ops names slots c end holds e
        (leads_tick by.code _ (instr.Shipped call of order) l is)
    told_runs none e comes = sim_stuck by f

    -- what the machine does with the arguments
    acted : act by.code (instr.Shipped call of order) (machine by f p (reverse vs ++ ops) slots c)
        ≡ low.answered (shipped (text_bytes by.code) call of (machine by f p ops slots c).world (all_ran by args))
        (machine by f p ops slots c)
    unfolding act
    acted =
        let m = machine by f p ops slots c in
        ap (λ b. machines.where_true b
        (low.shipped_arguments call order (machine by f p (reverse vs ++ ops) slots c) (λ
        values m. low.answered (shipped (text_bytes by.code) call of m.world values) m))) typed
        ∙ popped_all by f (arity call) p vs ops slots c (λ values m. having (ordered_if order values) (λ values.
        low.answered (shipped (text_bytes by.code) call of m.world values) m)) many
        ∙ ap (λ o. having o (λ values. low.answered (shipped (text_bytes by.code) call of m.world values) m))
        in_order

  pub shipped_runs : (call : ShippedCall) (born : Option ClosedType) (order : List ℕ) (p q l : ℕ)
      (vs args ops : List
      (Both by)) (names : Names) (slots : Slots) (c : Common by)
      → Is by f p (instr.Shipped call (option_map by.of born) order) → is_type by.code (option_map by.of born)
      ≡ true
      → q ≡ p + 1 → Holds names slots → length vs ≡ length args
      → ordered_if order (all_ran by vs) ≡ Some (all_ran by args)
      → Fits by (upper_of names) (lower_of slots) (arity call) args
      (shipped (λ text. text) call born (world by f names c).store (all_meant by args))
      (shipped (text_bytes by.code) call (option_map by.of born) (lower by (lower_of slots) c) (all_ran by args))
      → Comes by (upper_of names) (lower_of slots)
      (of_one (byte_read (next_byte c.left) (world by f names c).store) (all_meant by args))
      (of_one (byte_read (next_byte c.left) (lower by (lower_of slots) c)) (all_ran by args))
      → Pushes by f Holds q ops 6 (spot by f p (reverse vs ++ ops) slots c) (suc l)
      (acts.told (all_meant by args)
      (shipped (λ text. text) call born (world by f names c).store (all_meant by args))
      (world by f names c) l)
  shipped_runs call born order p q l vs args ops names slots c is typed end holds many in_order (inl missing)
      comes =
      subst (λ r. Pushes by f Holds q ops 6 (spot by f p (reverse vs ++ ops) slots c) (suc l)
      (acts.told (all_meant by
      args) r (world by f names c) l)) (sym missing) (sim_stuck by f)
  shipped_runs call born order p q l vs args ops names slots c is typed end holds many in_order (inr fits) comes =
      let of = option_map by.of born in
      let count : length vs ≡ arity call = many ∙ fits.0 in
      let m = machine by f p ops slots c in
      subst (λ r. Pushes by f Holds q ops 6 (spot by f p (reverse vs ++ ops) slots c) (suc l)
      (acts.told (all_meant by
      args) r (world by f names c) l)) (sym fits.1.in_meaning)
      (told_runs call of order p q l vs args ops names slots c is typed end holds count in_order fits.1.answer
      (acted call of order p q l vs args ops names slots c is typed end holds count in_order
      ∙ ap (λ r. low.answered r m) fits.1.in_machine) comes)
