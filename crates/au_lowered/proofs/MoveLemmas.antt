-- One instruction for each action of a statement, and jumps.
use Rattle.std.proofs.Common.{◌≡◌, ℕ, suc, ◌+◌, ◌-◌, ◌<◌, Bool, true, false, if◌then◌else◌, List, [], ◌∷◌}
use Rattle.std.proofs.Common.{◌++◌, length, Option, Some, None, refl, sym, ap, ap₂, subst, ◌∙◌}
use Rattle.std.proofs.Common.{slice_get, nat_lt, lt-ltb}
use Rattle.std.specs.Prelude.{option_map}
use Rattle.au_low.specs.declared.instructions.Instr.TheVariants as instr
use Rattle.au_low.specs.Instructions as low
use Rattle.au_low.specs.Instructions.{act, instructions, jumps, jumps_unless}
use Rattle.au_low.specs.Machines as machines
use Rattle.au_low.specs.Machines.{goes, having}
use Rattle.au_effects.specs.Numbers.{truth_in}
use Rattle.au_effects.specs.Parts.{along, part, with_part}
use Rattle.au_effects.specs.Places.{exchanged, set_over, base_set, base_at}
use Rattle.au_effects.specs.Values as values
use Rattle.au_effects.specs.Worlds as effects
use Rattle.au_meaning.specs.Acts.{sets, stored, place_of}
use Rattle.au_meaning.specs.Expressions.{chosen}
use Rattle.au_meaning.specs.Ticks.{Action, needing, by_truth, found_in, follows, ◌>>◌}
use Rattle.au_lowered.specs.Maps.{value_to, Change}
use Rattle.au_lowered.specs.Sides.{as_meant, as_ran, Coding, Both, Names, Slots, Common, meant, ran}
use Rattle.au_lowered.specs.Frames.{Frame, machine, spot, world, name_put, slot_put}
use Rattle.au_lowered.specs.Scopes.{Same}
use Rattle.au_lowered.specs.Runs.{at, reached, Leads, Aim, Sim}
use Rattle.au_lowered.proofs.LeadLemmas.{leads_tick, leads_to}
use Rattle.au_lowered.proofs.MapLemmas.{part_to, with_part_to, truth_in_to}
use Rattle.au_lowered.proofs.SimLemmas.{sim_on}
use Rattle.au_lowered.proofs.StepLemmas.{Is, meant_at, ran_at, ran_set, slots_are, meant_set}
use Rattle.au_effects.specs.References.{oldest, newer}
use Rattle.au_lowered.proofs.DeedLemmas.{closes_to}

-- ---- places

-- what is exchanged with the end of a path from a value, and the value that it is in then
abbrev pub swapped : {T : Type 0} → List ℕ → values.Value T → Option (values.Value T)
    → Option (values.Value T × values.Value T)
swapped {T} path new both = along both (λ base. along {B = values.Value T
    × values.Value T} (part path base) (λ old. Some (old, with_part path new base)))

-- what is exchanged with the end of a path from what a place begins with
pub exchange_to : {T S D : Type 0} (g : Change T S) (w : effects.World S D) (place : values.Place) (new :
    values.Value T) (both : Option (values.Value T))
    → base_at place.base w ≡ option_map (value_to g) both
    → exchanged place (value_to g new) w
    ≡ option_map (λ (pair : values.Value T × values.Value T). (
      value_to g pair.0,
      base_set place.base (value_to g pair.1) w,
    )) (swapped place.path new both)
exchange_to g w place new None h = ap (λ o. set_over place (value_to g new) w o) h
exchange_to {T} {S} {D} g w place new (Some base) h =
    ap (λ o. set_over place (value_to g new) w o) h
    ∙ ap (λ o. along {A = values.Value S} {B = values.Value S
    × effects.World S D} o (λ old. Some (
      old,
      base_set place.base (with_part place.path (value_to g new) (value_to g base)) w,
    ))) (part_to g place.path base)
    ∙ found (part place.path base)
  where
    found : (o : Option (values.Value T))
        → along {A = values.Value S} {B = values.Value S
        × effects.World S D} (option_map (value_to g) o) (λ old. Some (
          old,
          base_set place.base (with_part place.path (value_to g new) (value_to g base)) w,
        ))
        ≡ option_map (λ (pair : values.Value T × values.Value T). (
          value_to g pair.0,
          base_set place.base (value_to g pair.1) w,
        )) (along {A = values.Value T} {B =
        values.Value T × values.Value T} o (λ old. Some (old, with_part place.path new base)))
    found None = refl
    found (Some old) =
        ap (λ v. Some (value_to g old, base_set place.base v w)) (with_part_to g place.path new base)

-- borrows are closed, and so many are left
abbrev pub low_closed : ℕ → Slots → Slots
low_closed count slots = record slots { lent = oldest count slots.lent }

abbrev pub deeds_closed : {by : Coding} → List ℕ → Common by → Common by
deeds_closed borrows c = record c { store = effects.closes borrows c.store }

module _ (by : Coding) (f : Frame by) where
  -- ---- jumps

  -- a label is the number of an instruction of the function
  abbrev pub InCode : ℕ → Type 0
  InCode label = nat_lt label (length (instructions (slice_get by.code.functions f.function))) ≡ true

  pub jump_goes : (label p : ℕ) (ops : List (Both by)) (slots : Slots) (c : Common by) → InCode label
      → jumps by.code label (machine by f p ops slots c) ≡ goes (machine by f label ops slots c)
  jump_goes label p ops slots c h = ap (λ b. machines.where_true b (goes (machine by f label ops slots c)))
      h

  pub jump_reach : (label p : ℕ) (ops : List (Both by)) (slots : Slots) (c : Common by) → InCode label
      → reached (spot by f p ops slots c) (act by.code (instr.Jump label) (machine by f p ops slots c))
      ≡ at (spot by f label ops slots c)
  unfolding act
  jump_reach label p ops slots c h = ap (λ nx. reached (spot by f p ops slots c) nx) (jump_goes label p ops
      slots c h)

  test_leads : (label p q l : ℕ) (v : Both by) (b : Bool) (ops : List (Both by)) (slots : Slots) (c : Common
      by)
      → Is by f p (instr.JumpNot label) → q ≡ p + 1 → InCode label → truth_in v ≡ Some b
      → Leads by.code (spot by f p (v ∷ ops) slots c) (suc l) (at (spot by f (if b then q else label) ops
      slots c)) l 7
  unfolding act
  test_leads label p q l v b ops slots c is next h e =
      let m = machine by f p ops slots c in
      let s = spot by f p (v ∷ ops) slots c in
      leads_to by.code
      (ap (λ o. reached s (having o (jumps_unless by.code label m))) (truth_in_to (as_ran by) v ∙ e) ∙ either b)
      (leads_tick by.code s (instr.JumpNot label) l is)
    where
      either : (b : Bool) → reached (spot by f p (v ∷ ops) slots c) (jumps_unless by.code label (machine by
          f p ops slots c) b)
          ≡ at (spot by f (if b then q else label) ops slots c)
      either true = ap (λ n. at (spot by f n ops slots c)) (sym next)
      either false = ap (λ nx. reached (spot by f p (v ∷ ops) slots c) nx) (jump_goes label p ops slots c h)

  -- a test, and then one action or another, each from where the test leads
  pub choose_by : {A B : Type 0} {aim : Aim by A B} {e : ℕ}
      (one other : Action A) (label p q l : ℕ) (v : Both by) (ops : List (Both by)) (names : Names) (slots :
      Slots) (c : Common by)
      → Is by f p (instr.JumpNot label) → q ≡ p + 1 → InCode label
      → (Leads by.code (spot by f p (v ∷ ops) slots c) (suc l) (at (spot by f q ops slots c)) l 7
      → Sim by f aim e (spot by f p (v ∷ ops) slots c) (suc l) (one (world by f names c) l))
      → (Leads by.code (spot by f p (v ∷ ops) slots c) (suc l) (at (spot by f label ops slots c)) l 7
      → Sim by f aim e (spot by f p (v ∷ ops) slots c) (suc l) (other (world by f names c) l))
      → Sim by f aim e (spot by f p (v ∷ ops) slots c) (suc l) (chosen one other (meant by v) (world by f
      names c) l)
  choose_by {A} {B} {aim} {e} one other label p q l v ops names slots c is next h first second =
      found (truth_in v) refl (truth_in_to (as_meant by) v)
    where
      found : (o : Option Bool) → truth_in v ≡ o → truth_in (meant by v) ≡ truth_in v
          → Sim by f aim e (spot by f p (v ∷ ops) slots c) (suc l) (chosen one other (meant by v) (world by
          f names c) l)
      found None a b =
          subst (λ o. Sim by f aim e (spot by f p (v ∷ ops) slots c) (suc l) (needing o (by_truth one other)
          (world by f names c) l)) (sym (b ∙ a)) (record { follows = tt })
      found (Some true) a b =
          subst (λ o. Sim by f aim e (spot by f p (v ∷ ops) slots c) (suc l) (needing o (by_truth one other)
          (world by f names c) l)) (sym (b ∙ a))
          (first (test_leads label p q l v true ops slots c is next h a))
      found (Some false) a b =
          subst (λ o. Sim by f aim e (spot by f p (v ∷ ops) slots c) (suc l) (needing o (by_truth one other)
          (world by f names c) l)) (sym (b ∙ a))
          (second (test_leads label p q l v false ops slots c is next h a))

  pub choose_runs : {A B : Type 0} {aim : Aim by A B} {e : ℕ}
      (one other : Action A) (label p q l : ℕ) (v : Both by) (ops : List (Both by)) (names : Names) (slots :
      Slots) (c : Common by)
      → Is by f p (instr.JumpNot label) → q ≡ p + 1 → InCode label
      → Sim by f aim e (spot by f q ops slots c) l (one (world by f names c) l)
      → Sim by f aim e (spot by f label ops slots c) l (other (world by f names c) l)
      → Sim by f aim (7 + e) (spot by f p (v ∷ ops) slots c) (suc l) (chosen one other (meant by v) (world
      by f names c) l)
  choose_runs one other label p q l v ops names slots c is next h first second =
      choose_by one other label p q l v ops names slots c is next h
      (λ lead. sim_on by f (one (world by f names c) l) lead first)
      (λ lead. sim_on by f (other (world by f names c) l) lead second)

  -- ---- statements

  -- a value is put into a slot
  pub store_goes : (slot p : ℕ) (v : Both by) (ops : List (Both by)) (slots : Slots) (c : Common by)
      → length slots.below ≡ length f.waiting → slot < length slots.own
      → act by.code (instr.Store slot) (machine by f p (v ∷ ops) slots c)
      ≡ goes (machine by f (p + 1) ops (slot_put slot (Some (ran by v)) slots) c)
  unfolding act
  store_goes slot p v ops slots c level h =
      let m = machine by f p ops slots c in
      ap₂ (λ b after. machines.where_true b (goes (machines.onward after)))
      (ap (λ all. nat_lt slot (length all)) (slots_are by f p ops slots c level)
      ∙ lt-ltb slot (length slots.own) h)
      (ran_set by f slot (Some (ran by v)) p ops slots c level)

  -- borrows are closed
  pub close_goes : (count p : ℕ) (ops : List (Both by)) (slots : Slots) (c : Common by)
      → act by.code (instr.Close count) (machine by f p ops slots c)
      ≡ goes (machine by f (p + 1) ops (low_closed count slots) (deeds_closed (newer count slots.lent) c))
  unfolding act
  close_goes count p ops slots c =
      let m = machine by f p ops slots c in
      ap (λ w. goes (machines.onward (machines.in_world w (record m {
        open_borrows = oldest count slots.lent;
      })))) (closes_to (as_ran by) by.of (slots.below ++ slots.own ∷ []) (newer count slots.lent) c.store)

  -- the end of a path from a variable becomes a value, and something follows
  pub set_runs : {A B : Type 0} {aim : Aim by A B} {e : ℕ}
      (k : Action A) (number slot : ℕ) (path : List ℕ) (p q l : ℕ) (v : Both by) (ops : List (Both by))
      (names : Names) (slots : Slots) (c : Common by)
      → Is by f p (instr.Set slot path) → q ≡ p + 1 → length slots.below ≡ length f.waiting
      → Same by number slot names.own slots.own
      → ((both : Both by) → Sim by f aim e (spot by f q ops (slot_put slot (Some (ran by both)) slots) c) l
      (k (world by f (name_put number (Some (meant by both)) names) c) l))
      → Sim by f aim (7 + e) (spot by f p (v ∷ ops) slots c) (suc l)
      ((sets number path (meant by v) >> k) (world by f names c) l)
  unfolding act follows
  set_runs {A} {B} {aim} {e} k number slot path p q l v ops names slots c is next level same go =
      let w = world by f names c in
      let m = machine by f p ops slots c in
      found (swapped path v same.both)
      (exchange_to (as_meant by) w.store (place_of number path w) v same.both
      (meant_at by f number names c same.both same.in_name))
      (exchange_to (as_ran by) m.world (low.slot_part slot path m) v same.both
      (ran_at by f slot p ops slots c same.both level same.in_slot))
    where
      found : (o : Option (Both by × Both by))
          → exchanged (place_of number path (world by f names c)) (meant by v) (world by f names c).store
          ≡ option_map (λ (pair : Both by × Both by). (
            meant by pair.0,
            base_set (place_of number path (world by f names c)).base (meant by pair.1) (world by f names
                c).store,
          )) o
          → exchanged (low.slot_part slot path (machine by f p ops slots c)) (ran by v) (machine by f p ops
          slots c).world
          ≡ option_map (λ (pair : Both by × Both by). (
            ran by pair.0,
            base_set (low.slot_part slot path (machine by f p ops slots c)).base (ran by pair.1) (machine by
                f p ops slots c).world,
          )) o
          → Sim by f aim (7 + e) (spot by f p (v ∷ ops) slots c) (suc l)
          ((sets number path (meant by v) >> k) (world by f names c) l)
      found None a b =
          subst (λ o. Sim by f aim (7 + e) (spot by f p (v ∷ ops) slots c) (suc l) (follows (found_in
          (stored o (world by f names c)) (world by f names c) l) (λ done. k))) (sym a) (record {
            follows = tt;
          })
      found (Some pair) a b =
          subst (λ o. Sim by f aim (7 + e) (spot by f p (v ∷ ops) slots c) (suc l) (follows (found_in
          (stored o (world by f names c)) (world by f names c) l) (λ done. k))) (sym a)
          (subst (λ w. Sim by f aim (7 + e) (spot by f p (v ∷ ops) slots c) (suc l) (k w l))
          (sym (meant_set by f number (Some (meant by pair.1)) names c))
          (let m = machine by f p ops slots c in
          let s = spot by f p (v ∷ ops) slots c in
          let also = slot_put slot (Some (ran by pair.1)) slots in
          let there : reached s (act by.code (instr.Set slot path) s.machine)
          ≡ at (spot by f q ops also c) =
          ap (λ o. reached s (having o (λ one. goes (machines.onward (machines.in_world one.1 m))))) b
          ∙ ap (λ x. reached s (goes (machines.onward x))) (ran_set by f slot (Some (ran by pair.1)) p ops
          slots c level)
          ∙ ap (λ n. at (spot by f n ops also c)) (sym next) in
          sim_on by f (k (world by f (name_put number (Some (meant by pair.1)) names) c) l)
          (leads_to by.code there (leads_tick by.code s (instr.Set slot path) l is)) (go pair.1)))
