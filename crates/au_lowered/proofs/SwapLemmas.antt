-- `swap`: a value goes behind a reference, and what was there is given.
use Rattle.std.proofs.Common.{◌≡◌, ◌⊎◌, inl, inr, ℕ, suc, ◌+◌, List, [], ◌∷◌, ◌++◌, length, reverse, Option, Some}
use Rattle.std.proofs.Common.{None, sym, ap, ap₂, subst, ◌∙◌, arith}
use Rattle.std.specs.Prelude.{option_map}
use Rattle.au_effects.specs.Answers as answer
use Rattle.au_effects.specs.Calls.{given, shipped, swap_call}
use Rattle.au_effects.specs.References.{reference_in, put_behind}
use Rattle.au_effects.specs.Values.{Place}
use Rattle.au_type_texts.specs.Types.{ClosedType}
use Rattle.au_low.specs.declared.instructions.Instr.TheVariants as instr
use Rattle.au_low.specs.Instructions as low
use Rattle.au_low.specs.Instructions.{act, text_bytes}
use Rattle.au_low.specs.Machines.{goes, having, ordered_if}
use Rattle.au_lowered.specs.Drafts.{Draft}
use Rattle.au_meaning.specs.Acts as acts
use Rattle.au_meaning.specs.Ticks.{gives}
use Rattle.au_shipped.specs.declared.prims.ShippedCall.TheVariants as prim
use Rattle.au_lowered.specs.Frames.{Frame, Wide, Agree, machine, spot, world}
use Rattle.au_lowered.specs.Rows.{value_aim}
use Rattle.au_lowered.specs.Runs.{Sim}
use Rattle.au_lowered.specs.Scopes.{Entry, Distinct}
use Rattle.au_lowered.specs.Sides.{Coding, Both, Names, Slots, Common, Spot, meant, ran, all_meant}
use Rattle.au_lowered.specs.Sides.{all_ran}
use Rattle.au_lowered.proofs.CallLemmas.{popped_all}
use Rattle.au_lowered.proofs.ReferenceLemmas.{slotted, meant_reference, ran_reference, Put, put_both}
use Rattle.au_lowered.proofs.SimLemmas.{sim_spare, sim_stuck}
use Rattle.au_lowered.proofs.StepLemmas.{Is, push_runs}

module _ (by : Coding) (f : Frame by) (get : ℕ → Option Draft)
    (depth : ℕ) (wide : Wide) (room : ℕ) (scope : List
    (Entry by)) (distinct : Distinct by scope) where
  -- what the machine does with two arguments
  swapped_low : (order : List ℕ) (p : ℕ) (vs ops : List (Both by)) (a new : Both by) (slots : Slots) (c : Common by)
      → length vs ≡ 2 → ordered_if order (all_ran by vs) ≡ Some (all_ran by (a ∷ new ∷ []))
      → act by.code (instr.Shipped prim.Swap None order) (machine by f p (reverse vs ++ ops) slots c)
      ≡ low.answered (swap_call (machine by f p ops slots c).world (ran by a) (ran by new)) (machine by f p ops slots
      c)
  unfolding act shipped
  swapped_low order p vs ops a new slots c two e =
      let m = machine by f p ops slots c in
      popped_all by f 2 p vs ops slots c (λ values m. having (ordered_if order values) (λ values. low.answered
      (shipped (text_bytes by.code) prim.Swap None m.world values) m)) two
      ∙ ap (λ o. having o (λ values. low.answered (shipped (text_bytes by.code) prim.Swap None m.world values) m)) e

  put_runs : (order : List ℕ) (p q l : ℕ) (one : ℕ × Place) (vs ops : List (Both by)) (a new : Both by) (names :
      Names) (slots : Slots) (c : Common by)
      → Is by f p (instr.Shipped prim.Swap None order) → q ≡ p + 1 → Agree by f wide room scope names slots
      → act by.code (instr.Shipped prim.Swap None order) (machine by f p (reverse vs ++ ops) slots c)
      ≡ low.answered (given (put_behind (slotted by one) (ran by new) (machine by f p ops slots c).world) (λ pair.
      answer.gives pair.0 pair.1)) (machine by f p ops slots c)
      → (put_behind one (meant by new) (world by f names c).store ≡ None) ⊎ Put by f wide room scope distinct one new
      names slots c
      → Sim by f (value_aim by f get depth wide room scope q ops) 7 (spot by f p (reverse vs ++ ops) slots c) (suc l)
      (acts.told (meant by a ∷ meant by new ∷ []) (given (put_behind one (meant by new) (world by f names c).store) (λ
      pair. answer.gives pair.0 pair.1)) (world by f names c) l)
  put_runs order p q l one vs ops a new names slots c is next ag e (inl none) =
      subst (λ o. Sim by f (value_aim by f get depth wide room scope q ops) 7 (spot by f p (reverse vs ++ ops) slots c)
      (suc l) (acts.told (meant by a ∷ meant by new ∷ []) (given o (λ pair. answer.gives pair.0 pair.1)) (world by f
      names c) l)) (sym none) (record { follows = tt })
  put_runs order p q l one vs ops a new names slots c is next ag e (inr put) =
      let m = machine by f p ops slots c in
      let w = world by f names c in
      let x = put.names_after in
      let y = put.slots_after in
      let d = put.after in
      let world_is : record w { store = (world by f x d).store } ≡ world by f x d =
      ap₂ (λ lent (out : List ℕ × List ℕ). record (world by f x d) { borrows = lent ++ f.lent; output = out.0; left = out.1 })
      (sym put.same_lent) (ap₂ (λ a b. (a, b)) (sym put.same_output) (sym put.same_left)) in
      subst (λ o. Sim by f (value_aim by f get depth wide room scope q ops) 7 (spot by f p (reverse vs ++ ops) slots c)
      (suc l) (acts.told (meant by a ∷ meant by new ∷ []) (given o (λ pair. answer.gives pair.0 pair.1)) w l)) (sym
      put.in_meaning)
      (subst (λ after. Sim by f (value_aim by f get depth wide room scope q ops) 7 (spot by f p (reverse vs ++ ops)
      slots c) (suc l) (gives (meant by put.v) after l)) (sym world_is)
      (push_runs by f (λ names slots. Agree by f wide room scope names slots) (instr.Shipped prim.Swap None order) p q l
      put.v ops (reverse vs ++ ops) x y slots d c is next put.agree (sym put.same_output) (sym put.same_left)
      (e
      ∙ ap (λ o. low.answered (given o (λ pair. answer.gives pair.0 pair.1)) m) put.in_machine
      ∙ ap (λ lent. goes (record (machine by f (p + 1) (put.v ∷ ops) y d) { open_borrows = lent })) (sym
      put.same_low))))

  pub swap_runs : (order : List ℕ) (p q l : ℕ) (vs args ops : List (Both by)) (names : Names) (slots : Slots) (c :
      Common by)
      → Is by f p (instr.Shipped prim.Swap None order) → q ≡ p + 1 → Agree by f wide room scope names slots
      → length vs ≡ length args → ordered_if order (all_ran by vs) ≡ Some (all_ran by args)
      → Sim by f (value_aim by f get depth wide room scope q ops) 6 (spot by f p (reverse vs ++ ops) slots c) (suc l)
      (acts.told (all_meant by args) (shipped (λ text. text) prim.Swap None (world by f names c).store (all_meant by
      args)) (world by f names c) l)
  unfolding shipped
  swap_runs order p q l vs [] ops names slots c is next ag many e = sim_stuck by f
  swap_runs order p q l vs (a ∷ []) ops names slots c is next ag many e = sim_stuck by f
  swap_runs order p q l vs (a ∷ new ∷ []) ops names slots c is next ag many e =
      by_reference (reference_in a) (meant_reference by a) (ran_reference by a)
    where
      by_reference : (o : Option (ℕ × Place)) → reference_in (meant by a) ≡ o
          → reference_in (ran by a) ≡ option_map (slotted by) o
          → Sim by f (value_aim by f get depth wide room scope q ops) 6 (spot by f p (reverse vs ++ ops) slots c) (suc
          l) (acts.told (meant by a ∷ meant by new ∷ []) (swap_call (world by f names c).store (meant by a) (meant by
          new)) (world by f names c) l)
      by_reference None x y =
          subst (λ o. Sim by f (value_aim by f get depth wide room scope q ops) 6 (spot by f p (reverse vs ++ ops)
          slots c) (suc l) (acts.told (meant by a ∷ meant by new ∷ []) (given o (λ one. given (put_behind one (meant by
          new) (world by f names c).store) (λ pair. answer.gives pair.0 pair.1))) (world by f names c) l)) (sym x)
          (record { follows = tt })
      by_reference (Some one) x y =
          let m = machine by f p ops slots c in
          subst (λ o. Sim by f (value_aim by f get depth wide room scope q ops) 6 (spot by f p (reverse vs ++ ops)
          slots c) (suc l) (acts.told (meant by a ∷ meant by new ∷ []) (given o (λ one. given (put_behind one (meant by
          new) (world by f names c).store) (λ pair. answer.gives pair.0 pair.1))) (world by f names c) l)) (sym x)
          (sim_spare by f _ (omega arith)
          (put_runs order p q l one vs ops a new names slots c is next ag
          (swapped_low order p vs ops a new slots c (omega (arith, many)) e
          ∙ ap (λ o. low.answered (given o (λ one. given (put_behind one (ran by new) m.world) (λ pair. answer.gives
          pair.0 pair.1))) m) y)
          (put_both by f wide room scope distinct one new names slots c ag)))
  swap_runs order p q l vs (a ∷ b ∷ d ∷ more) ops names slots c is next ag many e = sim_stuck by f

  -- it has no type of what is born
  pub swap_born_runs : (of : ClosedType) (q l : ℕ) (args : List (Both by)) (ops : List (Both by)) (s : Spot) (names :
      Names) (c : Common by)
      → Sim by f (value_aim by f get depth wide room scope q ops) 6 s (suc l) (acts.told (all_meant by args) (shipped
      (λ text. text) prim.Swap (Some of) (world by f names c).store (all_meant by args)) (world by f names c) l)
  unfolding shipped
  swap_born_runs of q l args ops s names c = sim_stuck by f
