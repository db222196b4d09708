-- A record is taken apart by a statement.
use Rattle.std.proofs.Common.{◌≡◌, ℕ, suc, ◌+◌, ◌≤◌, Bool, true, false, ◌==◌, List, [], ◌∷◌, length, Option}
use Rattle.std.proofs.Common.{Some, None, refl, sym, ap, subst, ◌∙◌, arith}
use Rattle.std.proofs.lemmas.List.{length-map}
use Rattle.au_effects.specs.Parts.{along}
use Rattle.au_effects.specs.Values as values
use Rattle.au_effects.specs.Values.{Fields, made, listed}
use Rattle.au_effects.specs.Worlds.{spends}
use Rattle.au_low.specs.declared.instructions.Instr.TheVariants as instr
use Rattle.au_low.specs.Instructions as low
use Rattle.au_low.specs.Instructions.{act}
use Rattle.au_low.specs.Machines as machines
use Rattle.au_lowered.specs.Drafts.{Draft, plain, Written, ◌>>◌, does}
use Rattle.au_lowered.specs.Slots.{known, with_fields}
use Rattle.au_meaning.specs.Acts as acts
use Rattle.au_meaning.specs.Acts.{in_store, with_values, bound_counted}
use Rattle.au_meaning.specs.Names.{with_bound}
use Rattle.au_meaning.specs.Statements as meaning
use Rattle.au_meaning.specs.Statements.{Flow}
use Rattle.au_meaning.specs.Ticks as ticks
use Rattle.au_meaning.specs.Ticks.{Action, gives, pure, tick, follows, needing, where_true, ◌>>=◌}
use Rattle.au_meaning.specs.Views.{Field}
use Rattle.au_meaning.specs.Worlds.{Value}
use Rattle.au_syntax.specs.Plain.{Bytes}
use Rattle.au_syntax.specs.Types.{Bound}
use Rattle.au_lowered.specs.Maps.{fields_to}
use Rattle.au_lowered.specs.Scopes.{Entry, numbers_in, slots_in, Scoped}
use Rattle.au_lowered.specs.Frames.{Wide, Agree, Frame, machine, spot, world}
use Rattle.au_lowered.specs.Sides.{as_meant, Coding, Word, Both, Names, Slots, Common}
use Rattle.au_lowered.specs.Sides.{meant, all_meant, all_ran}
use Rattle.au_lowered.specs.Runs.{at, reached, Sim}
use Rattle.au_lowered.proofs.LeadLemmas.{leads_spare, leads_to, leads_tick}
use Rattle.au_lowered.proofs.MapLemmas.{listed_to}
use Rattle.au_lowered.proofs.SimLemmas.{sim_given}
use Rattle.au_lowered.specs.Binds.{fields_bound}
use Rattle.au_lowered.specs.Flows.{falls, flow_aim, After, Does, Whole}
use Rattle.au_lowered.specs.Premises.{Placed, Once}
use Rattle.au_lowered.proofs.StatementLemmas.{instruction_does}
use Rattle.au_lowered.proofs.TakeLemmas.{named_is, all_named, all_filled}
use Rattle.au_lowered.proofs.TakeRowLemmas.{consumed, consumed_meant, taken_low, counted_is, opened}
use Rattle.au_lowered.proofs.LevelLemmas.{level_of}
use Rattle.au_lowered.specs.Homes.{BindsHomed}

-- a record is taken apart, whose fields are these
abbrev pub takes_counted : ℕ → List (Bound Bytes) → Option (List Field) → Value → Action Flow
takes_counted number binds fields value =
    acts.apart value >>= λ parts.
    (ticks.◌>>◌ (where_true (parts.0 == 0) (meaning.binds_fields number binds fields parts.1)) (pure
    meaning.falls))

module _ (by : Coding) (f : Frame by) (get : ℕ → Option Draft) (placed : Placed by f.function get)
    (depth : ℕ) (wide : Wide) (room : ℕ) where
  module _ (number slot : ℕ) (scope : List (Entry by)) (scoped : Scoped by number slot scope) (binds : List
      (Bound Bytes)) (once : Once (fields_bound binds)) (fits : number + length binds ≤ wide.count) where
    -- what holds behind it
    abbrev pub Taken_so : Option (List Field) → Names → Slots → Type 0
    Taken_so fields names slots = After by f get depth wide room false number scope (with_bound fields number binds
        (numbers_in by scope)) (with_fields (known fields) slot binds (slots_in by scope)) (number + length
        binds) (slot + length (known fields)) names slots

    made_runs : (fields : Option (List Field)) → slot + length (known fields) ≤ room
        → BindsHomed by.slot (known fields) number slot binds
        → (tag : ℕ) (birth : Option ℕ) (parts : Fields (Word by)) (p q l : ℕ) (names : Names) (slots :
        Slots) (c : Common by)
        → get p ≡ Some (plain (instr.Take slot)) → q ≡ p + 1 → Agree by f wide room scope names slots
        → (o : Option (List Value)) → along fields (λ kn. bound_counted kn (listed (fields_to (as_meant by) parts)) binds) ≡ o
        → (b : Bool) → (tag == 0) ≡ b
        → Sim by f (flow_aim by f (Taken_so fields) q) 0 (spot by f p (made tag birth parts ∷ []) slots c)
        (suc l)
        (follows (where_true b (needing o (λ bound. ticks.does (with_values number bound))) (in_store
        (spends birth (world by f names c).store) (world by f names c)) l) (λ a. pure meaning.falls))
    unfolding act follows
    made_runs fields rooms homes tag birth parts p q l names slots c here next ag o e false t = record {
      follows =
          tt;
    }
    made_runs fields rooms homes tag birth parts p q l names slots c here next ag None e true t = record {
      follows
          = tt;
    }
    made_runs None rooms homes tag birth parts p q l names slots c here next ag (Some xs) e true t = absurd (grind
        arith)
    made_runs (Some kn) rooms homes tag birth parts p q l names slots c here next ag (Some xs) e true t =
        let vs = listed parts in
        let v : Both by = made tag birth parts in
        let s = spot by f p (v ∷ []) slots c in
        let counted = counted_is kn (all_meant by vs) binds xs (subst (λ held. bound_counted kn held binds
        ≡ Some xs) (listed_to (as_meant by) parts) e) in
        let many : length vs ≡ length kn = sym (length-map vs (meant by)) ∙ counted.0 in
        let op = opened by f wide room kn number slot scope binds vs xs names slots counted.1 many once scoped
        homes fits rooms ag in
        let names2 = all_named number xs names in
        let slots2 = all_filled slot (all_ran by vs) slots in
        let c2 = consumed by f birth c in
        let there : reached s (act by.code (instr.Take slot) s.machine) ≡ at (spot by f q [] slots2 c2) =
        ap (λ nx. reached s nx) (taken_low by f tag birth parts slot p slots c low.takes_record (level_of by f names
        slots ag.rest)
        (omega (arith, rooms, many, ag.slots_are)))
        ∙ ap (λ b. reached s (machines.where_true b (machines.goes (machine by f (p + 1) [] slots2 c2)))) t
        ∙ ap (λ n. at (spot by f n [] slots2 c2)) (sym next) in
        subst (λ w. Sim by f (flow_aim by f (Taken_so (Some kn)) q) 0 s (suc l) (gives meaning.falls
        (with_values number xs w) l)) (sym (consumed_meant by f birth names c))
        (subst (λ w. Sim by f (flow_aim by f (Taken_so (Some kn)) q) 0 s (suc l) (gives meaning.falls w l))
        (sym (named_is by f number xs names c2))
        (sim_given by f (flow_aim by f (Taken_so (Some kn)) q) falls names2 slots2 c2 (
          refl,
          record {
            new = op.new;
            fresh = op.fresh;
            numbers_are = op.numbers_are;
            slots_are = op.slots_in_are;
            scoped =
                op.scoped;
            agree = op.agree;
          },
        )
        (leads_spare by.code (omega arith) (leads_to by.code there (leads_tick by.code s (instr.Take slot) l
        (placed.has p (plain (instr.Take slot)) here))))))

    taken_runs : (fields : Option (List Field)) → slot + length (known fields) ≤ room
        → BindsHomed by.slot (known fields) number slot binds
        → (v : Both by) (p q l : ℕ) (names : Names) (slots : Slots) (c : Common by)
        → get p ≡ Some (plain (instr.Take slot)) → q ≡ p + 1 → Agree by f wide room scope names slots
        → Sim by f (flow_aim by f (Taken_so fields) q) 0 (spot by f p (v ∷ []) slots c) (suc l)
        (takes_counted number binds fields (meant by v) (world by f names c) l)
    unfolding follows
    taken_runs fields rooms homes values.unit p q l names slots c here next ag = record { follows = tt }
    taken_runs fields rooms homes (values.truth b) p q l names slots c here next ag = record { follows = tt }
    taken_runs fields rooms homes (values.number kind z) p q l names slots c here next ag = record {
      follows = tt;
    }
    taken_runs fields rooms homes (values.text t) p q l names slots c here next ag = record { follows = tt }
    taken_runs fields rooms homes (made tag birth parts) p q l names slots c here next ag =
        made_runs fields rooms homes tag birth parts p q l names slots c here next ag
        (along fields (λ kn. bound_counted kn (listed (fields_to (as_meant by) parts)) binds))
        refl (tag == 0) refl
    taken_runs fields rooms homes (values.reference borrow place) p q l names slots c here next ag = record {
      follows = tt;
    }
    taken_runs fields rooms homes (values.box id) p q l names slots c here next ag = record { follows = tt }
    taken_runs fields rooms homes (values.buffer id) p q l names slots c here next ag = record { follows = tt }
    taken_runs fields rooms homes (values.terminal id) p q l names slots c here next ag = record { follows = tt }
    taken_runs fields rooms homes (values.root id) p q l names slots c here next ag = record { follows = tt }

    pub destructure_does : {w : Written} {m : Action Value} (fields : Option (List Field))
        → slot + length (known fields) ≤ room → BindsHomed by.slot (known fields) number slot binds
        → Whole by f get depth wide room scope w m
        → Does by f get depth wide room scope (w >> does (instr.Take slot)) (m >>= λ v. tick (takes_counted
        number binds fields v)) (Taken_so fields)
    destructure_does fields rooms homes a =
        instruction_does by f get placed depth wide room (takes_counted number binds fields) scope
        (instr.Take slot) a
        (λ p q v names slots c l here next ag. taken_runs fields rooms homes v p q l names slots c here next ag)
