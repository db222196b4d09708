-- The rows of expressions: each does what its clause of the meaning does, where its parts do.
use Rattle.std.proofs.Common.{◌≡◌, inl, inr, ℕ, suc, ◌+◌, Bool, true, false, List, [], ◌∷◌, Option, Some}
use Rattle.std.proofs.Common.{None, refl, sym, ap, subst, subst₂, ◌∙◌, arith, ℤ, le_trans}
use Rattle.au_base.specs.declared.kinds.IntKind.{IntKind}
use Rattle.au_ints.specs.Ranges.{is_of_kind}
use Rattle.au_ints.specs.declared.operations.IntOp.{IntOp}
use Rattle.au_ints.specs.declared.operations.Order.{Order}
use Rattle.au_effects.specs.Numbers.{computed, compared, negated}
use Rattle.au_effects.specs.Values as values
use Rattle.au_low.specs.declared.instructions.Instr.{Instr}
use Rattle.au_low.specs.declared.instructions.Instr.TheVariants as instr
use Rattle.au_low.specs.Instructions as low
use Rattle.au_low.specs.Instructions.{act}
use Rattle.au_low.specs.Machines as machines
use Rattle.au_low.specs.Machines.{goes, pushes}
use Rattle.au_lowered.specs.Drafts.{Draft, plain, pushes_text, Written, ◌>>◌, one, does, given}
use Rattle.au_lowered.specs.Expressions as code
use Rattle.au_lowered.specs.Standing.{PartsStandIn}
use Rattle.au_lowered.proofs.StandLemmas.{parts_stand}
use Rattle.au_meaning.specs.Acts.{looks}
use Rattle.au_meaning.specs.Expressions as meaning
use Rattle.au_meaning.specs.Expressions.{literal}
use Rattle.au_meaning.specs.Names.{variable_of, path_numbers}
use Rattle.au_meaning.specs.Ticks.{Action, pure, stuck, tick, ticked, needing, comes, ◌>>=◌}
use Rattle.au_meaning.specs.Views.{View}
use Rattle.au_meaning.specs.Worlds.{Value, World}
use Rattle.au_syntax.specs.Plain.{Bytes}
use Rattle.au_lowered.specs.Scopes.{Entry, numbers_in, slots_in, Distinct}
use Rattle.au_lowered.specs.Frames.{Wide, Agree, Frame, machine, spot, world}
use Rattle.au_lowered.specs.Sides.{as_meant, as_ran, Coding, Word, Both, Names, Slots, Common, meant}
use Rattle.au_lowered.specs.Runs.{Sim}
use Rattle.au_lowered.proofs.FrameLemmas.{Found, Means, means}
use Rattle.au_lowered.proofs.MapLemmas.{computed_to, compared_to, negated_to}
use Rattle.au_lowered.proofs.SimLemmas.{sim_spare, sim_stuck, sim_bind, sim_bind_more, sim_where}
use Rattle.au_lowered.proofs.StepLemmas.{ticks_at, push_runs, comes_runs, look_runs, move_runs}
use Rattle.au_lowered.specs.Premises.{HasLiteral, numbered, Placed}
use Rattle.au_lowered.specs.Rows.{value_aim, Gives, OnOne, OnTwo}
use Rattle.au_lowered.proofs.LevelLemmas.{level_of, agree_put}

module _ (by : Coding) (f : Frame by) (get : ℕ → Option Draft) (placed : Placed by f.function get)
    (depth : ℕ) (wide : Wide) (room : ℕ) (scope : List (Entry by)) where
  parts : PartsStandIn get
  parts = parts_stand get

  abbrev pub Held_so : Names → Slots → Type 0
  Held_so names slots = Agree by f wide room scope names slots

  -- ---- constants

  -- an instruction that pushes a constant, where nothing else happens
  constant_runs : (i : Instr) (draft : Draft) (v : Both by) (m : Action Value)
      → numbered by draft ≡ i
      → ((p : ℕ) (ops : List (Both by)) (slots : Slots) (c : Common by) → get p ≡ Some draft
      → act by.code i (machine by f p ops slots c) ≡ goes (machine by f (p + 1) (v ∷ ops) slots c))
      → ((w : World) (l : ℕ) → m w l ≡ pure (meant by v) w l)
      → Gives by f get depth wide room scope (one draft) (tick m)
  constant_runs i draft v m is acts gives = record {
    runs = λ p q ops names slots c n stands ag le.
        let here = parts.of_one draft p q stands in
        sim_spare by f (ticked m (world by f names c) n) (omega arith)
        (ticks_at by f m p ops names slots c n (λ l e.
        subst (λ r. Sim by f (value_aim by f get depth wide room scope q ops) 7 (spot by f p ops slots c)
        (suc l) r) (sym (gives (world by f names c) l))
        (push_runs by f Held_so i p q l v ops ops names slots slots c c (placed.has p draft here.here
        ∙ ap Some is) here.ends ag refl refl (acts p ops slots c here.here))));
  }

  pub truth_runs : (b : Bool) → Gives by f get depth wide room scope (does (instr.PushBool b)) (tick (pure
      (values.truth b)))
  unfolding act
  truth_runs b = constant_runs (instr.PushBool b) (plain (instr.PushBool b)) (values.truth b) (pure
      (values.truth b)) refl (λ p ops slots c here. refl) (λ w l. refl)

  pub nil_runs : Gives by f get depth wide room scope (does instr.PushUnit) (tick (pure values.unit))
  unfolding act
  nil_runs = constant_runs instr.PushUnit (plain instr.PushUnit) values.unit (pure values.unit) refl (λ p
      ops slots c here. refl) (λ w l. refl)

  pub text_runs : (text : Bytes) → Gives by f get depth wide room scope (one (pushes_text text)) (tick (pure
      (values.text text)))
  unfolding act
  text_runs text = record {
    runs = λ p q ops names slots c n stands ag le.
        let here = parts.of_one (pushes_text text) p q stands in
        let known = placed.texts p text here.here in
        let w : Word by = record { bytes = text; known = known.0 } in
        sim_spare by f (ticked (pure (values.text text)) (world by f names c) n) (omega arith)
        (ticks_at by f (pure (values.text text)) p ops names slots c n (λ l e.
        push_runs by f Held_so (instr.PushText (by.text text)) p q l (values.text w) ops ops names slots
        slots c c (placed.has p (pushes_text text) here.here) here.ends ag refl refl
        (ap (λ b. machines.where_true b (pushes (values.text (by.text text)) (machine by f p ops slots c)))
        known.1)));
  }

  pub number_runs : (kind : Option IntKind) (z : ℤ) → Gives by f get depth wide room scope (given kind (λ k.
      does (instr.Push k z))) (tick (literal kind z))
  unfolding act
  number_runs None z = record {
    runs = λ p q ops names slots c n stands ag le. ticks_at by f (literal None z) p ops names slots c n (λ l
        e. sim_stuck by f);
  }
  number_runs (Some k) z = record {
    runs = λ p q ops names slots c n stands ag le.
        let here = parts.of_one (plain (instr.Push k z)) p q stands in
        sim_spare by f (ticked (literal (Some k) z) (world by f names c) n) (omega arith)
        (ticks_at by f (literal (Some k) z) p ops names slots c n (λ l e.
        sim_where by f (is_of_kind k z) (pure (values.number k z)) (λ t.
        push_runs by f Held_so (instr.Push k z) p q l (values.number k z) ops ops names slots slots c c
        (placed.has p (plain (instr.Push k z)) here.here) here.ends ag refl refl
        (ap (λ b. machines.where_true b (pushes (values.number k z) (machine by f p ops slots c))) t))));
  }

  -- a constant of the program
  pub literal_runs : (o : Option Value) → ((value : Value) → o ≡ Some value → HasLiteral value)
      → Gives by f get depth wide room scope (given o code.literal) (tick (needing o pure))
  unfolding act
  literal_runs None h = record {
    runs = λ p q ops names slots c n stands ag le. ticks_at by f (needing None pure) p ops names slots c n
        (λ l e. sim_stuck by f);
  }
  literal_runs (Some values.unit) h = nil_runs
  literal_runs (Some (values.truth b)) h = truth_runs b
  literal_runs (Some (values.number k z)) h =
      constant_runs (instr.Push k z) (plain (instr.Push k z)) (values.number k z) (pure (values.number k z))
      refl
      (λ p ops slots c here. ap (λ b. machines.where_true b (pushes (values.number k z) (machine by f p ops
      slots c))) (h (values.number k z) refl))
      (λ w l. refl)
  literal_runs (Some (values.text t)) h = text_runs t
  literal_runs (Some (values.made tag birth fields)) h = absurd (h (values.made tag birth fields) refl)
  literal_runs (Some (values.reference borrow place)) h = absurd (h (values.reference borrow place) refl)
  literal_runs (Some (values.box id)) h = absurd (h (values.box id) refl)
  literal_runs (Some (values.buffer id)) h = absurd (h (values.buffer id) refl)
  literal_runs (Some (values.terminal id)) h = absurd (h (values.terminal id) refl)
  literal_runs (Some (values.root id)) h = absurd (h (values.root id) refl)

  -- ---- variables

  pub variable_runs : (free : Bool) (name : Bytes) (found : Found by scope name) → Distinct by scope
      → Gives by f get depth wide room scope
      (code.taken free (record { name = found.own; number = found.slot; of = found.of }))
      (tick (meaning.copies free found.number))
  variable_runs true name found d = record {
    runs = λ p q ops names slots c n stands ag le.
        let here = parts.of_one (plain (instr.Look found.slot [])) p q stands in
        sim_spare by f (ticked (meaning.copies true found.number) (world by f names c) n) (omega arith)
        (ticks_at by f (meaning.copies true found.number) p ops names slots c n (λ l e.
        look_runs by f Held_so found.number found.slot [] p q l ops names slots c (placed.has p (plain
        (instr.Look found.slot [])) here.here) here.ends ag (level_of by f names slots ag.rest) (found.look
        names.own slots.own ag.held)));
  }
  variable_runs false name found d = record {
    runs = λ p q ops names slots c n stands ag le.
        let here = parts.of_one (plain (instr.Move found.slot)) p q stands in
        sim_spare by f (ticked (meaning.copies false found.number) (world by f names c) n) (omega arith)
        (ticks_at by f (meaning.copies false found.number) p ops names slots c n (λ l e.
        move_runs by f Held_so found.number found.slot p q l ops names slots c (placed.has p (plain
        (instr.Move found.slot)) here.here) here.ends
        (agree_put by f wide room scope name found None names slots d ag) (level_of by f names slots ag.rest)
        (found.look names.own slots.own ag.held)));
  }

  -- a name: a variable, or a constant
  pub mention_runs : {T C : Type 0} (see : View ℕ T C) (note : T) (name : Bytes) → Distinct by scope
      → ((value : Value) → see.constant note name ≡ Some value → HasLiteral value)
      → Gives by f get depth wide room scope
      (code.mention see note (variable_of (slots_in by scope) name) name)
      (tick (meaning.mentions see note (variable_of (numbers_in by scope) name) name))
  mention_runs see note name d h = by_what (means by scope name)
    where
      by_what : Means by scope name → Gives by f get depth wide room scope
          (code.mention see note (variable_of (slots_in by scope) name) name)
          (tick (meaning.mentions see note (variable_of (numbers_in by scope) name) name))
      by_what (inl none) =
          subst₂ (λ o u. Gives by f get depth wide room scope (code.mention see note o name) (tick
          (meaning.mentions see note u name)))
          (sym none.1) (sym none.0) (literal_runs (see.constant note name) h)
      by_what (inr found) =
          subst₂ (λ o u. Gives by f get depth wide room scope (code.mention see note o name) (tick
          (meaning.mentions see note u name)))
          (sym found.in_slots) (sym found.in_numbers) (variable_runs (see.is_free note) name found d)

  -- a part of a variable
  pub part_runs : {T C : Type 0} (see : View ℕ T C) (name : Bytes) (fields : List Bytes)
      → Gives by f get depth wide room scope
      (code.part_of see (variable_of (slots_in by scope) name) fields (λ slot numbers. does (instr.Look slot
      numbers)))
      (tick (meaning.looks_into see (variable_of (numbers_in by scope) name) fields))
  part_runs {T} {C} see name fields = by_what (means by scope name)
    where
      found_runs : (found : Found by scope name) (o : Option (List ℕ))
          → Gives by f get depth wide room scope
          (given o (λ numbers. does (instr.Look found.slot numbers)))
          (tick (needing o (looks found.number)))
      found_runs found None = record {
        runs = λ p q ops names slots c n stands ag le. ticks_at by f (needing None (looks found.number)) p
            ops names slots c n (λ l e. sim_stuck by f);
      }
      found_runs found (Some path) = record {
        runs = λ p q ops names slots c n stands ag le.
            let here = parts.of_one (plain (instr.Look found.slot path)) p q stands in
            sim_spare by f (ticked (looks found.number path) (world by f names c) n) (omega arith)
            (ticks_at by f (looks found.number path) p ops names slots c n (λ l e.
            look_runs by f Held_so found.number found.slot path p q l ops names slots c (placed.has p (plain
            (instr.Look found.slot path)) here.here) here.ends ag (level_of by f names slots ag.rest)
            (found.look names.own slots.own ag.held)));
      }

      by_what : Means by scope name → Gives by f get depth wide room scope
          (code.part_of see (variable_of (slots_in by scope) name) fields (λ slot numbers. does (instr.Look
          slot numbers)))
          (tick (meaning.looks_into see (variable_of (numbers_in by scope) name) fields))
      by_what (inl none) =
          subst₂ (λ o u. Gives by f get depth wide room scope (code.part_of see o fields (λ slot numbers.
          does (instr.Look slot numbers))) (tick (meaning.looks_into see u fields)))
          (sym none.1) (sym none.0)
          (record {
            runs = λ p q ops names slots c n stands ag le. ticks_at by f stuck p ops names slots c n
                (λ l e. sim_stuck by f);
          })
      by_what (inr found) =
          subst₂ (λ o u. Gives by f get depth wide room scope (code.part_of see o fields (λ slot numbers.
          does (instr.Look slot numbers))) (tick (meaning.looks_into see u fields)))
          (sym found.in_slots) (sym found.in_numbers) (found_runs found (path_numbers (λ t. see.fields t 0)
          found.of fields))

  -- ---- operators

  -- one operand, and what is done with it
  pub one_runs : {wa wb : Written} {ma : Action Value} {go : Value → Action Value}
      → Gives by f get depth wide room scope wa ma
      → OnOne by f get depth wide room scope wb go → Gives by f get depth wide room scope (wa >> wb) (ma >>=
      λ x. tick (go x))
  one_runs {wa} {wb} {ma} {go} a b = record {
    runs = λ p q ops names slots c n stands ag le.
        let row = parts.of_row wa wb p q stands in
        sim_bind_more by f (meant by) (λ v names slots. Held_so names slots) (λ v slots c. spot by f
        row.middle (v ∷ ops) slots c)
        (ma (world by f names c) n) (λ x. tick (go x)) (a.runs p row.middle ops names slots c n row.first ag
        le) (λ x names slots c m ag few.
        ticks_at by f (go (meant by x)) row.middle (x ∷ ops) names slots c m (λ l e.
        b.runs row.middle q x ops names slots c l row.second ag (omega (arith, le, few, e))));
  }

  -- two
  pub two_runs : {wa wb wc : Written} {ma mb : Action Value} {go : Value → Value → Action Value}
      → Gives by f get depth wide room scope wa ma
      → Gives by f get depth wide room scope wb mb → OnTwo by f get depth wide room scope wc go
      → Gives by f get depth wide room scope (wa >> wb >> wc) (ma >>= λ x. mb >>= λ y. tick (go x y))
  two_runs {wa} {wb} {wc} {ma} {mb} {go} a b d = record {
    runs = λ p q ops names slots c n stands ag le.
        let row = parts.of_row wa (wb >> wc) p q stands in
        let next = parts.of_row wb wc row.middle q row.second in
        sim_bind by f (meant by) (λ v names slots. Held_so names slots) (λ v slots c. spot by f row.middle
        (v ∷ ops) slots c)
        (ma (world by f names c) n) (λ x. mb >>= λ y. tick (go x y)) (a.runs p row.middle ops names slots c
        n row.first ag le) (λ x names slots c m ag few.
        sim_bind by f (meant by) (λ v names slots. Held_so names slots) (λ v slots c. spot by f next.middle
        (v ∷ x ∷ ops) slots c)
        (mb (world by f names c) m) (λ y. tick (go (meant by x) y)) (b.runs row.middle next.middle (x ∷ ops)
        names slots c m next.first ag (le_trans few le)) (λ y names slots c k ag fewer.
        ticks_at by f (go (meant by x) (meant by y)) next.middle (y ∷ x ∷ ops) names slots c k (λ l e.
        d.runs next.middle q x y ops names slots c l next.second ag (omega (arith, le, few, fewer, e)))));
  }

  pub not_runs : OnOne by f get depth wide room scope (does instr.Not) (λ x. comes (negated x))
  unfolding act
  not_runs = record {
    runs = λ p q x ops names slots c l stands ag le.
        let here = parts.of_one (plain instr.Not) p q stands in
        subst (λ r. Sim by f (value_aim by f get depth wide room scope q ops) 0 (spot by f p (x ∷ ops) slots
        c) (suc l) (comes r (world by f names c) l))
        (sym (negated_to (as_meant by) x))
        (sim_spare by f (comes _ (world by f names c) l) (omega arith)
        (comes_runs by f Held_so instr.Not p q l (negated x) ops (x ∷ ops) names slots c (placed.has p
        (plain instr.Not) here.here) here.ends ag
        (ap (λ r. low.comes r (machine by f p ops slots c)) (negated_to (as_ran by)
        x))));
  }

  pub computes_runs : (op : IntOp) (kind : Option IntKind)
      → OnTwo by f get depth wide room scope (given kind (λ k. does (instr.Arith op k))) (λ x y. needing
      kind (λ k. comes (computed op k x y)))
  unfolding act
  computes_runs op None = record { runs = λ p q x y ops names slots c l stands ag le. sim_stuck by f }
  computes_runs op (Some k) = record {
    runs = λ p q x y ops names slots c l stands ag le.
        let here = parts.of_one (plain (instr.Arith op k)) p q stands in
        subst (λ r. Sim by f (value_aim by f get depth wide room scope q ops) 6 (spot by f p (y ∷ x ∷ ops)
        slots c) (suc l) (comes r (world by f names c) l))
        (sym (computed_to (as_meant by) op k x y))
        (sim_spare by f (comes _ (world by f names c) l) (omega arith)
        (comes_runs by f Held_so (instr.Arith op k) p q l (computed op k x y) ops (y ∷ x ∷ ops) names slots
        c (placed.has p (plain (instr.Arith op k)) here.here) here.ends ag
        (ap (λ r. low.comes r (machine by f p ops slots c)) (computed_to (as_ran by)
        op k x y))));
  }

  pub compares_runs : (op : Order) (kind : Option (Option IntKind))
      → OnTwo by f get depth wide room scope (given kind (λ k. does (instr.Compare op k))) (λ x y. needing
      kind (λ k. comes (compared op k x y)))
  unfolding act
  compares_runs op None = record { runs = λ p q x y ops names slots c l stands ag le. sim_stuck by f }
  compares_runs op (Some k) = record {
    runs = λ p q x y ops names slots c l stands ag le.
        let here = parts.of_one (plain (instr.Compare op k)) p q stands in
        subst (λ r. Sim by f (value_aim by f get depth wide room scope q ops) 6 (spot by f p (y ∷ x ∷ ops)
        slots c) (suc l) (comes r (world by f names c) l))
        (sym (compared_to (as_meant by) op k x y))
        (sim_spare by f (comes _ (world by f names c) l) (omega arith)
        (comes_runs by f Held_so (instr.Compare op k) p q l (compared op k x y) ops (y ∷ x ∷ ops) names
        slots c (placed.has p (plain (instr.Compare op k)) here.here) here.ends ag
        (ap (λ r. low.comes r (machine by f p ops slots c)) (compared_to (as_ran by)
        op k x y))));
  }
