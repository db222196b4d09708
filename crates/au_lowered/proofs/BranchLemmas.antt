-- Conditional expressions, `and` and `or`.
use Rattle.std.proofs.Common.{ℕ, suc, ◌+◌, ◌≤◌, Bool, true, false, List, ◌∷◌, Option, refl, sym, ap, arith}
use Rattle.au_effects.specs.Values as values
use Rattle.au_low.specs.declared.instructions.Instr.TheVariants as instr
use Rattle.au_low.specs.Instructions.{act}
use Rattle.au_lowered.specs.Drafts.{Draft, plain, Written, ◌>>◌, does, either}
use Rattle.au_lowered.specs.Standing.{Stands, PartsStandIn}
use Rattle.au_lowered.proofs.StandLemmas.{parts_stand}
use Rattle.au_meaning.specs.Expressions.{chosen}
use Rattle.au_meaning.specs.Ticks.{Action, pure, tick, ◌>>=◌}
use Rattle.au_meaning.specs.Worlds.{Value}
use Rattle.au_lowered.specs.Scopes.{Entry}
use Rattle.au_lowered.specs.Frames.{Wide, Agree, Frame, spot, world}
use Rattle.au_lowered.specs.Sides.{Coding, Both, Names, Slots, Common, Spot, meant}
use Rattle.au_lowered.specs.Runs.{at, Leads, Sim}
use Rattle.au_lowered.proofs.LeadLemmas.{leads_more, leads_to}
use Rattle.au_lowered.proofs.SimLemmas.{sim_on, sim_spare, sim_given, sim_bind, sim_bind_more, sim_more}
use Rattle.au_lowered.proofs.StepLemmas.{ticks_at}
use Rattle.au_lowered.proofs.MoveLemmas.{jump_reach, choose_by, choose_runs}
use Rattle.au_lowered.specs.Premises.{Placed}
use Rattle.au_lowered.specs.Rows.{value_aim, Gives}

module _ (by : Coding) (f : Frame by) (get : ℕ → Option Draft) (placed : Placed by f.function get)
    (depth : ℕ) (wide : Wide) (room : ℕ) (scope : List (Entry by)) where
  parts : PartsStandIn get
  parts = parts_stand get

  abbrev pub Held_so : Names → Slots → Type 0
  Held_so names slots = Agree by f wide room scope names slots

  -- an expression and then a jump
  gives_jump : {w : Written} {m : Action Value} (label p p2 r q : ℕ) (ops : List (Both by)) (names : Names)
      (slots : Slots) (c : Common by) (n : ℕ)
      → Gives by f get depth wide room scope w m → Stands get w p p2 → Stands get (does (instr.Jump q)) p2 r
      → Agree by f wide room scope names slots → n ≤ depth
      → Sim by f (value_aim by f get depth wide room scope q ops) 5 (spot by f p ops slots c) n (m (world by
      f names c) n)
  gives_jump {w} {m} label p p2 r q ops names slots c n a stands jump ag le =
      let here = parts.of_one (plain (instr.Jump q)) p2 r jump in
      let goal = placed.labels p2 (instr.Jump q) here.here in
      sim_more by f (meant by) (λ v names slots. Held_so names slots) (λ v names slots. Held_so names slots)
      (λ v slots c. spot by f p2 (v ∷ ops) slots c) (λ v slots c. spot by f q (v ∷ ops) slots c)
      (m (world by f names c) n) (λ v. instr.Jump q)
      (λ v slots c. placed.has p2 (plain (instr.Jump q)) here.here)
      (λ v names slots c h. jump_reach by f q p2 (v ∷ ops) slots c goal.0)
      (λ v names slots h. h)
      (a.runs p p2 ops names slots c n stands ag le)

  pub choice_runs : {wc wa wb : Written} {mc ma mb : Action Value}
      → Gives by f get depth wide room scope wc mc
      → Gives by f get depth wide room scope wa ma → Gives by f get depth wide room scope wb mb
      → Gives by f get depth wide room scope (wc >> either false wa wb) (mc >>= λ x. tick (chosen ma mb x))
  choice_runs {wc} {wa} {wb} {mc} {ma} {mb} test a b = record {
    runs = λ p q ops names slots c n stands ag le.
        let row = parts.of_row wc (either false wa wb) p q stands in
        let two = parts.of_branches false wa wb row.middle q row.second in
        let goal = placed.labels row.middle (instr.JumpNot two.other) two.test in
        sim_bind by f (meant by) (λ v names slots. Held_so names slots) (λ v slots c. spot by f row.middle
        (v ∷ ops) slots c)
        (mc (world by f names c) n) (λ x. tick (chosen ma mb x)) (test.runs p row.middle ops names slots c n
        row.first ag le) (λ x names slots c m ag few.
        ticks_at by f (chosen ma mb (meant by x)) row.middle (x ∷ ops) names slots c m (λ l e.
        let less : l ≤ depth = omega (arith, le, few, e) in
        sim_spare by f (chosen ma mb (meant by x) (world by f names c) l) (omega arith)
        (choose_runs by f ma mb two.other row.middle (row.middle + 1) l x ops names slots c (placed.has
        row.middle (plain (instr.JumpNot two.other)) two.test) refl goal.0
        (gives_jump two.middle (row.middle + 1) two.middle two.other q ops names slots c l a two.first
        two.jump ag less)
        (sim_spare by f (mb (world by f names c) l) (omega arith) (b.runs two.other q ops names slots c l
        two.second ag less)))));
  }

  -- a truth value is pushed without a tick, where a test has led
  pushed_leads : (b : Bool) (s : Spot) (p q n l e : ℕ) (ops : List (Both by)) (slots : Slots) (c : Common
      by)
      → Stands get (does (instr.PushBool b)) p q → Leads by.code s n (at (spot by f p ops slots c)) l (suc
      e)
      → Leads by.code s n (at (spot by f q (values.truth b ∷ ops) slots c)) l e
  unfolding act
  pushed_leads b s p q n l e ops slots c stands lead =
      let here = parts.of_one (plain (instr.PushBool b)) p q stands in
      leads_to by.code (ap (λ i. at (spot by f i (values.truth b ∷ ops) slots c)) (sym here.ends))
      (leads_more by.code (instr.PushBool b) (placed.has p (plain (instr.PushBool b)) here.here) lead)

  pub and_runs : {wa wb : Written} {ma mb : Action Value} → Gives by f get depth wide room scope wa ma
      → Gives by f get depth wide room scope wb mb
      → Gives by f get depth wide room scope (wa >> either false wb (does (instr.PushBool false)))
      (ma >>= λ x. tick (chosen mb (pure (values.truth false)) x))
  and_runs {wa} {wb} {ma} {mb} a b = record {
    runs = λ p q ops names slots c n stands ag le.
        let row = parts.of_row wa (either false wb (does (instr.PushBool false))) p q stands in
        let two = parts.of_branches false wb (does (instr.PushBool false)) row.middle q row.second in
        let goal = placed.labels row.middle (instr.JumpNot two.other) two.test in
        sim_bind by f (meant by) (λ v names slots. Held_so names slots) (λ v slots c. spot by f row.middle
        (v ∷ ops) slots c)
        (ma (world by f names c) n) (λ x. tick (chosen mb (pure (values.truth false)) x)) (a.runs p
        row.middle ops names slots c n row.first ag le) (λ x names slots c m ag few.
        ticks_at by f (chosen mb (pure (values.truth false)) (meant by x)) row.middle (x ∷ ops) names slots
        c m (λ l e.
        let less : l ≤ depth = omega (arith, le, few, e) in
        choose_by by f mb (pure (values.truth false)) two.other row.middle (row.middle + 1) l x ops names
        slots c (placed.has row.middle (plain (instr.JumpNot two.other)) two.test) refl goal.0
        (λ lead. sim_spare by f (mb (world by f names c) l) (omega arith) (sim_on by f (mb (world by f names
        c) l) lead
        (gives_jump two.middle (row.middle + 1) two.middle two.other q ops names slots c l b two.first
        two.jump ag less)))
        (λ lead. sim_given by f (value_aim by f get depth wide room scope q ops) (values.truth false) names
        slots c ag
        (pushed_leads false (spot by f row.middle (x ∷ ops) slots c) two.other q (suc l) l 6 ops slots c
        two.second lead))));
  }

  pub or_runs : {wa wb : Written} {ma mb : Action Value} → Gives by f get depth wide room scope wa ma
      → Gives by f get depth wide room scope wb mb
      → Gives by f get depth wide room scope (wa >> either false (does (instr.PushBool true)) wb)
      (ma >>= λ x. tick (chosen (pure (values.truth true)) mb x))
  or_runs {wa} {wb} {ma} {mb} a b = record {
    runs = λ p q ops names slots c n stands ag le.
        let row = parts.of_row wa (either false (does (instr.PushBool true)) wb) p q stands in
        let two = parts.of_branches false (does (instr.PushBool true)) wb row.middle q row.second in
        let goal = placed.labels row.middle (instr.JumpNot two.other) two.test in
        let jump = parts.of_one (plain (instr.Jump q)) two.middle two.other two.jump in
        let end = placed.labels two.middle (instr.Jump q) jump.here in
        sim_spare by f _ (omega arith)
        (sim_bind_more by f (meant by) (λ v names slots. Held_so names slots) (λ v slots c. spot by f
        row.middle (v ∷ ops) slots c)
        (ma (world by f names c) n) (λ x. tick (chosen (pure (values.truth true)) mb x)) (a.runs p
        row.middle ops names slots c n row.first ag le) (λ x names slots c m ag few.
        ticks_at by f (chosen (pure (values.truth true)) mb (meant by x)) row.middle (x ∷ ops) names slots c
        m (λ l e.
        let less : l ≤ depth = omega (arith, le, few, e) in
        choose_by by f (pure (values.truth true)) mb two.other row.middle (row.middle + 1) l x ops names
        slots c (placed.has row.middle (plain (instr.JumpNot two.other)) two.test) refl goal.0
        (λ lead. sim_given by f (value_aim by f get depth wide room scope q ops) (values.truth true) names
        slots c ag
        (leads_to by.code (jump_reach by f q two.middle (values.truth true ∷ ops) slots c end.0)
        (leads_more by.code (instr.Jump q) (placed.has two.middle (plain (instr.Jump q)) jump.here)
        (pushed_leads true (spot by f row.middle (x ∷ ops) slots c) (row.middle + 1) two.middle (suc l) l 6
        ops slots c two.first lead))))
        (λ lead. sim_spare by f (mb (world by f names c) l) (omega arith) (sim_on by f (mb (world by f names
        c) l) lead
        (b.runs two.other q ops names slots c l two.second ag less))))));
  }
