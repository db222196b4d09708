-- The rows of references: each does what its clause of the meaning does.
use Rattle.std.proofs.Common.{◌≡◌, ◌⊎◌, inl, inr, ℕ, suc, ◌+◌, ◌≤◌, true, List, [], ◌∷◌, length}
use Rattle.std.proofs.Common.{Option, Some, None, refl, sym, ap, subst, subst₂, ◌∙◌, arith}
use Rattle.std.specs.Prelude.{option_map}
use Rattle.au_effects.specs.Parts.{along}
use Rattle.au_effects.specs.References.{reference_in, referring, reference_along, read_behind, next_reference}
use Rattle.au_effects.specs.Values as values
use Rattle.au_effects.specs.Values.{Place}
use Rattle.au_low.specs.declared.instructions.Instr.{Instr}
use Rattle.au_low.specs.declared.instructions.Instr.TheVariants as instr
use Rattle.au_low.specs.declared.instructions.Mode.TheVariants as low_mode
use Rattle.au_low.specs.Instructions as low
use Rattle.au_low.specs.Instructions.{act}
use Rattle.au_low.specs.Machines as machines
use Rattle.au_low.specs.Machines.{Machine, pushes, having}
use Rattle.au_lowered.specs.Drafts.{Draft, plain, Written, nothing, does, given}
use Rattle.au_lowered.specs.Expressions as code
use Rattle.au_lowered.specs.Standing.{PartsStandIn}
use Rattle.au_lowered.specs.Statements.{mode_in}
use Rattle.au_meaning.specs.Acts.{reference_held, refers, reads, lends, stored, borrowed_place, with_borrow, access_of}
use Rattle.au_meaning.specs.Expressions as meaning
use Rattle.au_meaning.specs.Expressions.{alone}
use Rattle.au_meaning.specs.Names.{variable_of, path_numbers, target_behind}
use Rattle.au_meaning.specs.Ticks as then
use Rattle.au_meaning.specs.Ticks.{asks, Action, gives, pure, stuck, tick, ticked, follows, needing, found_in, ◌>>=◌}
use Rattle.au_meaning.specs.Views.{View}
use Rattle.au_meaning.specs.Worlds.{Value}
use Rattle.au_syntax.specs.declared.expressions.BorrowMode.{BorrowMode}
use Rattle.au_syntax.specs.declared.expressions.BorrowMode.TheVariants as borrowing
use Rattle.au_syntax.specs.Expressions.{Expression, number, negative, text, truth, nil, path as named_path, arrow, call}
use Rattle.au_syntax.specs.Expressions.{named_call, parenthesized, dereference, borrow, borrow_part, binary}
use Rattle.au_syntax.specs.Expressions.{negation, typed, choice}
use Rattle.au_syntax.specs.Plain.{Bytes}
use Rattle.au_lowered.specs.Frames.{Frame, Wide, Since, Agree, machine, spot, world}
use Rattle.au_lowered.specs.Premises.{Placed}
use Rattle.au_lowered.specs.Rows.{value_aim, Gives, OnOne}
use Rattle.au_lowered.specs.Runs.{Sim}
use Rattle.au_lowered.specs.Scopes.{Entry, numbers_in, slots_in, Distinct}
use Rattle.au_lowered.specs.Sides.{Coding, Both, Names, Slots, Common, meant, ran}
use Rattle.au_lowered.proofs.FrameLemmas.{Found, Means, means}
use Rattle.au_lowered.proofs.LevelLemmas.{level_of}
use Rattle.au_lowered.proofs.ReferenceLemmas.{slotted, meant_reference, ran_reference, held_meant, held_ran}
use Rattle.au_lowered.proofs.ReferenceLemmas.{Read, read_both, deed_used, Lent, lent_both, names_lent, slots_lent}
use Rattle.au_lowered.proofs.ReferenceLemmas.{deed_opened, lent_meant, lent_ran}
use Rattle.au_lowered.proofs.RowLemmas.{variable_runs}
use Rattle.au_lowered.proofs.SimLemmas.{sim_spare, sim_stuck}
use Rattle.au_lowered.proofs.StandLemmas.{parts_stand}
use Rattle.au_lowered.proofs.StepLemmas.{Is, ticks_at, push_runs}

module _ (by : Coding) (f : Frame by) (get : ℕ → Option Draft) (placed : Placed by f.function get) (depth : ℕ) (wide :
    Wide) (room : ℕ) (scope : List (Entry by)) (distinct : Distinct by scope) where
  parts : PartsStandIn get
  parts = parts_stand get

  abbrev Held_so : Names → Slots → Type 0
  Held_so names slots = Agree by f wide room scope names slots

  abbrev Gives_so : Written → Action Value → Type 0
  Gives_so write m = Gives by f get depth wide room scope write m

  -- where no rule applies, behind a tick
  stuck_gives : (write : Written) → Gives_so write (tick stuck)
  stuck_gives write = record {
    runs = λ p q ops names slots c n stands ag le. ticks_at by f stuck p ops names slots c n (λ l e. sim_stuck by f);
  }

  -- ---- uses

  -- what stands behind a reference is pushed
  reads_run : (i : Instr) (p q l : ℕ) (one : ℕ × Place) (ops before : List (Both by)) (names : Names) (slots : Slots)
      (c : Common by) → Is by f p i → q ≡ p + 1 → Agree by f wide room scope names slots
      → act by.code i (machine by f p before slots c) ≡ low.pushes_behind (slotted by one) (machine by f p ops slots c)
      → Sim by f (value_aim by f get depth wide room scope q ops) 7 (spot by f p before slots c) (suc l) (reads one
      (world by f names c) l)
  reads_run i p q l one ops before names slots c is next ag e =
      by_read (read_both by f wide room scope distinct one names slots c ag)
    where
      by_read : (read_behind one (world by f names c).store ≡ None) ⊎ Read by f wide room scope distinct one names
          slots c
          → Sim by f (value_aim by f get depth wide room scope q ops) 7 (spot by f p before slots c) (suc l) (reads one
          (world by f names c) l)
      by_read (inl none) =
          subst (λ o. Sim by f (value_aim by f get depth wide room scope q ops) 7 (spot by f p before slots c) (suc l)
          (found_in (stored o (world by f names c)) (world by f names c) l)) (sym none) (record { follows = tt })
      by_read (inr read) =
          subst (λ o. Sim by f (value_aim by f get depth wide room scope q ops) 7 (spot by f p before slots c) (suc l)
          (found_in (stored o (world by f names c)) (world by f names c) l)) (sym read.in_meaning)
          (push_runs by f Held_so i p q l read.v ops before names slots slots (deed_used by one.0 c) c is next ag refl
          refl
          (e ∙ ap (λ o. having o (λ pair. pushes pair.0 (machines.in_world pair.1 (machine by f p ops slots c))))
          read.in_machine))

  -- a part of what the reference in a variable refers to
  found_reads : (name : Bytes) (found : Found by scope name) (path : List ℕ)
      → Gives_so (does (instr.Read found.slot path)) (tick (refers found.number path >>= reads))
  unfolding act follows
  found_reads name found path = record {
    runs = λ p q ops names slots c n stands ag le.
        let here = parts.of_one (plain (instr.Read found.slot path)) p q stands in
        sim_spare by f (ticked (refers found.number path >>= reads) (world by f names c) n) (omega arith)
        (ticks_at by f (refers found.number path >>= reads) p ops names slots c n (λ l e.
        let same = found.look names.own slots.own ag.held in
        by_reference p q l ops names slots c (placed.has p (plain (instr.Read found.slot path)) here.here) here.ends ag
        (along same.both reference_in)
        (held_meant by f found.number found.slot names slots c same)
        (held_ran by f found.number found.slot p ops names slots c (level_of by f names slots ag.rest) same)));
  }
    where
      by_reference : (p q l : ℕ) (ops : List (Both by)) (names : Names) (slots : Slots) (c : Common by)
          → Is by f p (instr.Read found.slot path) → q ≡ p + 1 → Agree by f wide room scope names slots
          → (o : Option (ℕ × Place))
          → reference_held found.number (world by f names c) ≡ o
          → low.reference_in_slot found.slot (machine by f p ops slots c) ≡ option_map (slotted by) o
          → Sim by f (value_aim by f get depth wide room scope q ops) 7 (spot by f p ops slots c) (suc l)
          ((refers found.number path >>= reads) (world by f names c) l)
      by_reference p q l ops names slots c is next ag None a b =
          subst (λ o. Sim by f (value_aim by f get depth wide room scope q ops) 7 (spot by f p ops slots c) (suc l)
          (follows (needing (along {B = ℕ × Place} o (λ one. Some (reference_along one path))) pure (world by f names
          c) l) reads)) (sym a) (record { follows = tt })
      by_reference p q l ops names slots c is next ag (Some one) a b =
          subst (λ o. Sim by f (value_aim by f get depth wide room scope q ops) 7 (spot by f p ops slots c) (suc l)
          (follows (needing (along {B = ℕ × Place} o (λ one. Some (reference_along one path))) pure (world by f names
          c) l) reads)) (sym a)
          (reads_run (instr.Read found.slot path) p q l (reference_along one path) ops ops names slots c is next ag
          (ap (λ o. having o (λ one. low.pushes_behind (reference_along one path) (machine by f p ops slots c))) b))

  pub arrow_runs : {T C : Type 0} (see : View ℕ T C) (name : Bytes) (fields : List Bytes)
      → Gives_so
      (code.part_behind see (variable_of (slots_in by scope) name) fields (λ slot numbers. does (instr.Read slot
      numbers)))
      (tick (meaning.reaches see (variable_of (numbers_in by scope) name) fields >>= reads))
  unfolding follows
  arrow_runs {T} {C} see name fields = by_what (means by scope name)
    where
      by_path : (found : Found by scope name) (o : Option (List ℕ))
          → Gives_so (given o (λ numbers. does (instr.Read found.slot numbers))) (tick (needing o (refers
          found.number) >>= reads))
      by_path found None = record {
        runs = λ p q ops names slots c n stands ag le. ticks_at by f (needing None (refers found.number) >>= reads) p
            ops names slots c n (λ l e. sim_stuck by f);
      }
      by_path found (Some path) = found_reads name found path

      by_what : Means by scope name → Gives_so
          (code.part_behind see (variable_of (slots_in by scope) name) fields (λ slot numbers. does (instr.Read slot
          numbers)))
          (tick (meaning.reaches see (variable_of (numbers_in by scope) name) fields >>= reads))
      by_what (inl none) =
          subst₂ (λ o u. Gives_so (code.part_behind see o fields (λ slot numbers. does (instr.Read slot numbers)))
          (tick (meaning.reaches see u fields >>= reads)))
          (sym none.1) (sym none.0)
          (record {
            runs = λ p q ops names slots c n stands ag le. ticks_at by f (stuck >>= reads) p ops names slots c n (λ l
                e. sim_stuck by f);
          })
      by_what (inr found) =
          subst₂ (λ o u. Gives_so (code.part_behind see o fields (λ slot numbers. does (instr.Read slot numbers)))
          (tick (meaning.reaches see u fields >>= reads)))
          (sym found.in_slots) (sym found.in_numbers) (by_path found (path_numbers (λ t. see.fields t 0)
          (target_behind found.of) fields))

  -- what an operand refers to
  pub dereference_runs : OnOne by f get depth wide room scope (does instr.Deref) (λ x. needing (reference_in x) reads)
  unfolding act
  dereference_runs = record {
    runs = λ p q x ops names slots c l stands ag le.
        let here = parts.of_one (plain instr.Deref) p q stands in
        by_reference p q l x ops names slots c (placed.has p (plain instr.Deref) here.here) here.ends ag (reference_in
        x) (meant_reference by x) (ran_reference by x);
  }
    where
      by_reference : (p q l : ℕ) (x : Both by) (ops : List (Both by)) (names : Names) (slots : Slots) (c : Common by)
          → Is by f p instr.Deref → q ≡ p + 1 → Agree by f wide room scope names slots
          → (o : Option (ℕ × Place)) → reference_in (meant by x) ≡ o
          → reference_in (ran by x) ≡ option_map (slotted by) o
          → Sim by f (value_aim by f get depth wide room scope q ops) 0 (spot by f p (x ∷ ops) slots c) (suc l)
          (needing (reference_in (meant by x)) reads (world by f names c) l)
      by_reference p q l x ops names slots c is next ag None a b =
          subst (λ o. Sim by f (value_aim by f get depth wide room scope q ops) 0 (spot by f p (x ∷ ops) slots c) (suc
          l) (needing o reads (world by f names c) l)) (sym a) (record { follows = tt })
      by_reference p q l x ops names slots c is next ag (Some one) a b =
          subst (λ o. Sim by f (value_aim by f get depth wide room scope q ops) 0 (spot by f p (x ∷ ops) slots c) (suc
          l) (needing o reads (world by f names c) l)) (sym a)
          (sim_spare by f (reads one (world by f names c) l) (omega arith)
          (reads_run instr.Deref p q l one ops (x ∷ ops) names slots c is next ag
          (ap (λ o. having o (λ one. low.pushes_behind one (machine by f p ops slots c))) b)))

  -- a variable, alone or in parentheses, is looked at
  pub record Alone {T C : Type 0} (e : Expression Bytes T C) : Type 0 where
    pub name : Bytes
    pub found : Found by scope name
    pub in_numbers : alone (numbers_in by scope) e
        ≡ Some (record { name = found.own; number = found.number; of = found.of })
    pub in_slots : alone (slots_in by scope) e
        ≡ Some (record { name = found.own; number = found.slot; of = found.of })

  abbrev AloneMeans : {T C : Type 0} → Expression Bytes T C → Type 0
  AloneMeans e =
      ((alone (numbers_in by scope) e ≡ None) × (alone (slots_in by scope) e ≡ None)) ⊎ Alone e

  alone_variable : {T C : Type 0} (name : Bytes) (e : Expression Bytes T C)
      → alone (numbers_in by scope) e ≡ variable_of (numbers_in by scope) name
      → alone (slots_in by scope) e ≡ variable_of (slots_in by scope) name → Means by scope name → AloneMeans e
  alone_variable name e a b (inl none) = inl (a ∙ none.0, b ∙ none.1)
  alone_variable name e a b (inr found) =
      inr (record {
        name = name;
        found = found;
        in_numbers = a ∙ found.in_numbers;
        in_slots = b ∙ found.in_slots;
      })

  alone_inside : {T C : Type 0} (e inner : Expression Bytes T C)
      → alone (numbers_in by scope) e ≡ alone (numbers_in by scope) inner
      → alone (slots_in by scope) e ≡ alone (slots_in by scope) inner → AloneMeans inner → AloneMeans e
  alone_inside e inner a b (inl none) = inl (a ∙ none.0, b ∙ none.1)
  alone_inside e inner a b (inr one) =
      inr (record {
        name = one.name;
        found = one.found;
        in_numbers = a ∙ one.in_numbers;
        in_slots = b ∙ one.in_slots;
      })

  alone_means : {T C : Type 0} (e : Expression Bytes T C) → AloneMeans e
  alone_means (named_path n x []) = alone_variable x.name (named_path n x []) refl refl (means by scope x.name)
  alone_means (named_path n x (field ∷ fields)) = inl (refl, refl)
  alone_means (parenthesized n e) = alone_inside (parenthesized n e) e refl refl (alone_means e)
  alone_means (number n l) = inl (refl, refl)
  alone_means (negative n l) = inl (refl, refl)
  alone_means (text n t) = inl (refl, refl)
  alone_means (truth n b) = inl (refl, refl)
  alone_means (nil n) = inl (refl, refl)
  alone_means (arrow n r fields) = inl (refl, refl)
  alone_means (call n f1 args c1) = inl (refl, refl)
  alone_means (named_call n f1 args c1) = inl (refl, refl)
  alone_means (dereference n e) = inl (refl, refl)
  alone_means (borrow n mode x) = inl (refl, refl)
  alone_means (borrow_part n r fields) = inl (refl, refl)
  alone_means (binary n op a b) = inl (refl, refl)
  alone_means (negation n e) = inl (refl, refl)
  alone_means (typed n e t) = inl (refl, refl)
  alone_means (choice n c1 a b) = inl (refl, refl)

  -- the operand of `!`
  pub operand_runs : {T C : Type 0} {w : Written} {m : Action Value} (e : Expression Bytes T C) → Gives_so w m
      → Gives_so (code.operand (slots_in by scope) e w) (meaning.operand (alone (numbers_in by scope) e) m)
  operand_runs {T} {C} {w} {m} e a = by_what (alone_means e)
    where
      by_what : AloneMeans e → Gives_so (code.operand (slots_in by scope) e w) (meaning.operand (alone (numbers_in by
          scope) e) m)
      by_what (inl none) =
          subst₂ (λ o u. Gives_so (code.looked_at o w) (meaning.operand u m)) (sym none.1) (sym none.0) a
      by_what (inr one) =
          subst₂ (λ o u. Gives_so (code.looked_at o w) (meaning.operand u m)) (sym one.in_slots) (sym one.in_numbers)
          (variable_runs by f get placed depth wide room scope true one.name one.found distinct)

  -- ---- parts

  found_part : (name : Bytes) (found : Found by scope name) (path : List ℕ)
      → Gives_so (does (instr.Part found.slot path)) (tick (refers found.number path >>= λ one. pure (referring one)))
  unfolding act follows
  found_part name found path = record {
    runs = λ p q ops names slots c n stands ag le.
        let here = parts.of_one (plain (instr.Part found.slot path)) p q stands in
        sim_spare by f (ticked (refers found.number path >>= λ one. pure (referring one)) (world by f names c) n)
        (omega arith)
        (ticks_at by f (refers found.number path >>= λ one. pure (referring one)) p ops names slots c n (λ l e.
        let same = found.look names.own slots.own ag.held in
        by_reference p q l ops names slots c (placed.has p (plain (instr.Part found.slot path)) here.here) here.ends ag
        (along same.both reference_in)
        (held_meant by f found.number found.slot names slots c same)
        (held_ran by f found.number found.slot p ops names slots c (level_of by f names slots ag.rest) same)));
  }
    where
      by_reference : (p q l : ℕ) (ops : List (Both by)) (names : Names) (slots : Slots) (c : Common by)
          → Is by f p (instr.Part found.slot path) → q ≡ p + 1 → Agree by f wide room scope names slots
          → (o : Option (ℕ × Place))
          → reference_held found.number (world by f names c) ≡ o
          → low.reference_in_slot found.slot (machine by f p ops slots c) ≡ option_map (slotted by) o
          → Sim by f (value_aim by f get depth wide room scope q ops) 7 (spot by f p ops slots c) (suc l)
          ((refers found.number path >>= λ one. pure (referring one)) (world by f names c) l)
      by_reference p q l ops names slots c is next ag None a b =
          subst (λ o. Sim by f (value_aim by f get depth wide room scope q ops) 7 (spot by f p ops slots c) (suc l)
          (follows (needing (along {B = ℕ × Place} o (λ one. Some (reference_along one path))) pure (world by f names
          c) l) (λ one. pure (referring one)))) (sym a) (record { follows = tt })
      by_reference p q l ops names slots c is next ag (Some one) a b =
          let v : Both by = referring (reference_along one path) in
          subst (λ o. Sim by f (value_aim by f get depth wide room scope q ops) 7 (spot by f p ops slots c) (suc l)
          (follows (needing (along {B = ℕ × Place} o (λ one. Some (reference_along one path))) pure (world by f names
          c) l) (λ one. pure (referring one)))) (sym a)
          (push_runs by f Held_so (instr.Part found.slot path) p q l v ops ops names slots slots c c is next ag refl refl
          (ap (λ o. having o (λ one. pushes (referring (reference_along one path)) (machine by f p ops slots c))) b))

  pub borrow_part_runs : {T C : Type 0} (see : View ℕ T C) (name : Bytes) (fields : List Bytes)
      → Gives_so
      (code.part_behind see (variable_of (slots_in by scope) name) fields (λ slot numbers. does (instr.Part slot
      numbers)))
      (tick (meaning.reaches see (variable_of (numbers_in by scope) name) fields >>= λ one. pure (referring one)))
  unfolding follows
  borrow_part_runs {T} {C} see name fields = by_what (means by scope name)
    where
      by_path : (found : Found by scope name) (o : Option (List ℕ))
          → Gives_so (given o (λ numbers. does (instr.Part found.slot numbers))) (tick (needing o (refers
          found.number) >>= λ one. pure (referring one)))
      by_path found None = record {
        runs = λ p q ops names slots c n stands ag le. ticks_at by f (needing None (refers found.number) >>= λ one.
            pure (referring one)) p ops names slots c n (λ l e. sim_stuck by f);
      }
      by_path found (Some path) = found_part name found path

      by_what : Means by scope name → Gives_so
          (code.part_behind see (variable_of (slots_in by scope) name) fields (λ slot numbers. does (instr.Part slot
          numbers)))
          (tick (meaning.reaches see (variable_of (numbers_in by scope) name) fields >>= λ one. pure (referring one)))
      by_what (inl none) =
          subst₂ (λ o u. Gives_so (code.part_behind see o fields (λ slot numbers. does (instr.Part slot numbers)))
          (tick (meaning.reaches see u fields >>= λ one. pure (referring one))))
          (sym none.1) (sym none.0)
          (record {
            runs = λ p q ops names slots c n stands ag le. ticks_at by f (stuck >>= λ one. pure (referring one)) p ops
                names slots c n (λ l e. sim_stuck by f);
          })
      by_what (inr found) =
          subst₂ (λ o u. Gives_so (code.part_behind see o fields (λ slot numbers. does (instr.Part slot numbers)))
          (tick (meaning.reaches see u fields >>= λ one. pure (referring one))))
          (sym found.in_slots) (sym found.in_numbers) (by_path found (path_numbers (λ t. see.fields t 0)
          (target_behind found.of) fields))

  -- ---- borrows

  -- what is done with the place that is borrowed
  abbrev lends_place : BorrowMode → Place → Action Value
  lends_place mode place = asks (λ w. Some (next_reference place w.store)) >>= λ value. then.◌>>◌ (then.does
      (with_borrow (access_of mode) place)) (pure value)

  -- the instruction that opens a borrow
  abbrev opens_with : BorrowMode → ℕ → Instr
  opens_with borrowing.Read slot = instr.Open slot low_mode.Read
  opens_with borrowing.Write slot = instr.Open slot low_mode.Write
  opens_with borrowing.Reborrow slot = instr.Again slot

  opens_act : (mode : BorrowMode) (slot : ℕ) (m : Machine)
      → act by.code (opens_with mode slot) m
      ≡ having (low.borrowed_place (mode_in mode) slot m) (λ place. pushes (low.new_reference place m) (low.borrowed
      m))
  unfolding act
  opens_act borrowing.Read slot m = refl
  opens_act borrowing.Write slot m = refl
  opens_act borrowing.Reborrow slot m = refl

  written_so : (mode : BorrowMode) (name : Bytes) (found : Found by scope name)
      → code.borrows mode (record { name = found.own; number = found.slot; of = found.of })
      ≡ does (opens_with mode found.slot)
  written_so borrowing.Read name found = refl
  written_so borrowing.Write name found = refl
  written_so borrowing.Reborrow name found = refl

  -- one more borrow is open where more may be
  agree_lent : (mode : BorrowMode) (place : Place) (names : Names) (slots : Slots) (c : Common by)
      → wide.opens ≡ true → Agree by f wide room scope names slots
      → Agree by f wide room scope (names_lent by f wide room scope distinct (access_of mode) place names c)
      (slots_lent by f wide room scope distinct slots c)
  agree_lent mode place names slots c may ag = record {
    names_are = ag.names_are;
    slots_are = ag.slots_are;
    held = ag.held;
    only = ag.only;
    rest = record {
      levels = ag.rest.levels;
      lent_are = ap (λ all. c.store.borrows ∷ all) ag.rest.lent_are;
    };
    since =
        let before = subst (λ b. Since b wide.around (length names.lent)) may ag.since in
        let more : wide.around ≤ length names.lent + 1 = omega (arith, before) in
        subst (λ b. Since b wide.around (suc (length names.lent))) (sym may) (omega (arith, before));
  }

  found_lends : (mode : BorrowMode) (name : Bytes) (found : Found by scope name) → wide.opens ≡ true
      → Gives_so (does (opens_with mode found.slot)) (tick (lends mode found.number))
  unfolding follows
  found_lends mode name found may = record {
    runs = λ p q ops names slots c n stands ag le.
        let here = parts.of_one (plain (opens_with mode found.slot)) p q stands in
        sim_spare by f (ticked (lends mode found.number) (world by f names c) n) (omega arith)
        (ticks_at by f (lends mode found.number) p ops names slots c n (λ l e.
        by_place p q l ops names slots c (placed.has p (plain (opens_with mode found.slot)) here.here) here.ends ag
        (lent_both by f wide room scope distinct mode name found p ops names slots c ag)));
  }
    where
      by_place : (p q l : ℕ) (ops : List (Both by)) (names : Names) (slots : Slots) (c : Common by)
          → Is by f p (opens_with mode found.slot) → q ≡ p + 1 → Agree by f wide room scope names slots
          → (borrowed_place mode found.number (world by f names c) ≡ None) ⊎ Lent by f wide room scope distinct mode
          found.number found.slot p ops names slots c
          → Sim by f (value_aim by f get depth wide room scope q ops) 7 (spot by f p ops slots c) (suc l) (lends mode
          found.number (world by f names c) l)
      by_place p q l ops names slots c is next ag (inl none) =
          subst (λ o. Sim by f (value_aim by f get depth wide room scope q ops) 7 (spot by f p ops slots c) (suc l)
          (follows (needing o pure (world by f names c) l) (lends_place mode))) (sym none) (record { follows = tt })
      by_place p q l ops names slots c is next ag (inr lent) =
          let v : Both by = values.reference c.store.borrows lent.place in
          let names2 = names_lent by f wide room scope distinct (access_of mode) lent.place names c in
          let slots2 = slots_lent by f wide room scope distinct slots c in
          let c2 = deed_opened by f wide room scope distinct c in
          let m = machine by f p ops slots c in
          subst (λ o. Sim by f (value_aim by f get depth wide room scope q ops) 7 (spot by f p ops slots c) (suc l)
          (follows (needing o pure (world by f names c) l) (lends_place mode))) (sym lent.in_meaning)
          (subst (λ w. Sim by f (value_aim by f get depth wide room scope q ops) 7 (spot by f p ops slots c) (suc l)
          (gives (meant by v) w l)) (sym (lent_meant by f wide room scope distinct (access_of mode) lent.place names
          c))
          (push_runs by f Held_so (opens_with mode found.slot) p q l v ops ops names2 slots2 slots c2 c is next
          (agree_lent mode lent.place names slots c may ag) refl refl
          (opens_act mode found.slot m
          ∙ ap (λ o. having o (λ place. pushes (low.new_reference place m) (low.borrowed m))) lent.in_machine
          ∙ ap (λ x. pushes (ran by v) x) (lent_ran by f wide room scope distinct p ops slots c))))

  pub borrow_runs : (mode : BorrowMode) (name : Bytes) → wide.opens ≡ true
      → Gives_so (given (variable_of (slots_in by scope) name) (code.borrows mode))
      (tick (needing (variable_of (numbers_in by scope) name) (λ x. lends mode x.number)))
  borrow_runs mode name may = by_what (means by scope name)
    where
      by_what : Means by scope name → Gives_so (given (variable_of (slots_in by scope) name) (code.borrows mode))
          (tick (needing (variable_of (numbers_in by scope) name) (λ x. lends mode x.number)))
      by_what (inl none) =
          subst₂ (λ o u. Gives_so (given o (code.borrows mode)) (tick (needing u (λ x. lends mode x.number)))) (sym
          none.1) (sym none.0) (stuck_gives nothing)
      by_what (inr found) =
          subst₂ (λ o u. Gives_so (given o (code.borrows mode)) (tick (needing u (λ x. lends mode x.number)))) (sym
          found.in_slots) (sym found.in_numbers)
          (subst (λ w. Gives_so w (tick (lends mode found.number))) (sym (written_so mode name found)) (found_lends
          mode name found may))
