-- Branches and `while`.
use Rattle.std.proofs.Common.{ℕ, zero, suc, ◌+◌, ◌<◌, ◌≤◌, Bool, false, ◌&&◌, List, [], ◌∷◌}
use Rattle.std.proofs.Common.{Option, Some, None, refl, ap, ◌∙◌, arith, unwrap_or}
use Rattle.au_base.proofs.BoolLemmas.{and_false}
use Rattle.au_low.specs.declared.instructions.Instr.TheVariants as instr
use Rattle.au_lowered.specs.Drafts.{Draft, plain, Written, ◌>>◌, nothing, when, either, branch, looped}
use Rattle.au_lowered.specs.Standing.{Stands, InLoop, PartsStandIn}
use Rattle.au_lowered.proofs.StandLemmas.{parts_stand}
use Rattle.au_meaning.specs.Expressions.{chosen}
use Rattle.au_meaning.specs.Statements as meaning
use Rattle.au_meaning.specs.Statements.{Flow, and_then, while_turns}
use Rattle.au_meaning.specs.Ticks.{Action, pure, tick, ◌>>=◌}
use Rattle.au_meaning.specs.Worlds.{Value}
use Rattle.au_lowered.specs.Scopes.{Entry}
use Rattle.au_lowered.specs.Frames.{Wide, Agree, Frame, spot, world}
use Rattle.au_lowered.specs.Sides.{Coding, Names, Slots, Common, meant}
use Rattle.au_lowered.specs.Runs.{Sim}
use Rattle.au_lowered.proofs.LeadLemmas.{leads_spare}
use Rattle.au_lowered.proofs.SimLemmas.{sim_on, sim_spare, sim_given, sim_bind}
use Rattle.au_lowered.proofs.StepLemmas.{ticks_at}
use Rattle.au_lowered.proofs.MoveLemmas.{choose_by}
use Rattle.au_lowered.specs.Premises.{Placed}
use Rattle.au_lowered.specs.Flows.{falls, flow_aim, Behind, Does, Whole}
use Rattle.au_lowered.proofs.FlowLemmas.{flow_holds, then_runs, jump_runs}

module _ (by : Coding) (f : Frame by) (get : ℕ → Option Draft) (placed : Placed by f.function get)
    (depth : ℕ) (wide : Wide) (room : ℕ) where
  parts : PartsStandIn get
  parts = parts_stand get

  abbrev Does_so : List (Entry by) → Written → Action Flow → (Names → Slots → Type 0) → Type 0
  Does_so scope write m Holds = Does by f get depth wide room scope write m Holds

  abbrev Behind_so : Bool → List (Entry by) → Names → Slots → Type 0
  Behind_so out scope names slots = Behind by f get depth wide room out scope names slots

  -- what holds behind either of two
  first_holds : (out rest : Bool) (scope : List (Entry by)) (names : Names) (slots : Slots)
      → Behind_so out scope names slots
      → Behind_so (out && rest) scope names slots
  first_holds out rest scope names slots h = (ap (λ b. b && rest) h.0, h.1)

  second_holds : (out rest : Bool) (scope : List (Entry by)) (names : Names) (slots : Slots)
      → Behind_so rest scope names slots
      → Behind_so (out && rest) scope names slots
  second_holds out rest scope names slots h = (ap (λ b. out && b) h.0 ∙ and_false out, h.1)

  -- a test, a block, and what follows where the test is false
  pub branch_does : {wt wb : Written} {mt : Action Value} {mb m : Action Flow} (out rest : Bool) (scope :
      List (Entry by)) (o : Option Written)
      → Whole by f get depth wide room scope wt mt → Does_so scope wb mb (Behind_so out scope)
      → Does_so scope (unwrap_or o nothing) m (Behind_so rest scope)
      → Does_so scope (wt >> branch out wb o) (mt >>= λ v. tick (chosen mb m v)) (Behind_so (out && rest)
      scope)
  branch_does {wt} {wb} {mt} {mb} {m} out rest scope None test body other = record {
    runs = λ p q names slots c n stands ag le.
        let H = Behind_so (out && rest) scope in
        let row = parts.of_row wt (when wb) p q stands in
        let two = parts.of_when wb row.middle q row.second in
        let goal = placed.labels row.middle (instr.JumpNot q) two.test in
        let here : Stands get nothing q q = record { has = tt; ends = omega arith } in
        sim_bind by f (meant by) (λ v names slots. Agree by f wide room scope names slots) (λ v slots c. spot
        by f row.middle (v ∷ []) slots c)
        (mt (world by f names c) n) (λ v. tick (chosen mb m v)) (test.runs p row.middle names slots c n
        row.first ag le) (λ v names slots c k ag few.
        ticks_at by f (chosen mb m (meant by v)) row.middle (v ∷ []) names slots c k (λ l e.
        let less : l ≤ depth = omega (arith, le, few, e) in
        choose_by by f mb m q row.middle (row.middle + 1) l v [] names slots c (placed.has row.middle (plain
        (instr.JumpNot q)) two.test) refl goal.0
        (λ lead. sim_spare by f (mb (world by f names c) l) (omega arith) (sim_on by f (mb (world by f names
        c) l) lead
        (flow_holds by f (mb (world by f names c) l) (first_holds out rest scope) (body.runs (row.middle +
        1) q names slots c l two.body ag less))))
        (λ lead. sim_spare by f (m (world by f names c) l) (omega arith) (sim_on by f (m (world by f names
        c) l) lead
        (flow_holds by f (m (world by f names c) l) (second_holds out rest scope) (other.runs q q names
        slots c l here ag less))))));
  }
  branch_does {wt} {wb} {mt} {mb} {m} out rest scope (Some wr) test body other = record {
    runs = λ p q names slots c n stands ag le.
        let row = parts.of_row wt (either out wb wr) p q stands in
        let two = parts.of_branches out wb wr row.middle q row.second in
        let goal = placed.labels row.middle (instr.JumpNot two.other) two.test in
        sim_bind by f (meant by) (λ v names slots. Agree by f wide room scope names slots) (λ v slots c. spot
        by f row.middle (v ∷ []) slots c)
        (mt (world by f names c) n) (λ v. tick (chosen mb m v)) (test.runs p row.middle names slots c n
        row.first ag le) (λ v names slots c k ag few.
        ticks_at by f (chosen mb m (meant by v)) row.middle (v ∷ []) names slots c k (λ l e.
        let less : l ≤ depth = omega (arith, le, few, e) in
        choose_by by f mb m two.other row.middle (row.middle + 1) l v [] names slots c (placed.has
        row.middle (plain (instr.JumpNot two.other)) two.test) refl goal.0
        (λ lead. flow_holds by f (mb (world by f names c) l) (first_holds out rest scope)
        (sim_spare by f (mb (world by f names c) l) (omega arith)
        (jump_runs by f get placed depth wide room {e = 6} out (instr.Jump q) two.middle two.other q scope
        (mb (world by f names c) l) refl two.jump
        (sim_on by f (mb (world by f names c) l) lead (body.runs (row.middle + 1) two.middle names slots c l
        two.first ag less)))))
        (λ lead. sim_spare by f (m (world by f names c) l) (omega arith) (sim_on by f (m (world by f names
        c) l) lead
        (flow_holds by f (m (world by f names c) l) (second_holds out rest scope) (other.runs two.other q
        names slots c l two.second ag less))))));
  }

  -- `while`
  turns_run : {wt wb : Written} {mt : Action Value} {mb : Action Flow} (out : Bool) (scope : List (Entry
      by))
      → Whole by f get depth wide room scope wt mt → Does_so scope wb mb (Behind_so out scope)
      → (turns p q : ℕ) → InLoop get out wt wb p q → (names : Names) (slots : Slots) (c : Common by) (n : ℕ)
      → Agree by f wide room scope names slots → n ≤ depth → n < turns
      → Sim by f (flow_aim by f (Behind_so false scope) q) 0 (spot by f p [] slots c) n (while_turns turns
      mt mb (world by f names c) n)
  unfolding while_turns
  turns_run {wt} {wb} {mt} {mb} out scope test body zero p q lp names slots c n ag le less = absurd (omega
      (arith, less))
  turns_run {wt} {wb} {mt} {mb} out scope test body (suc turns) p q lp names slots c n ag le less =
      let again = while_turns turns mt mb in
      let turn : Action Flow = mb >>= and_then again in
      let goal = placed.labels lp.middle (instr.JumpNot q) lp.leave in
      sim_bind by f (meant by) (λ v names slots. Agree by f wide room scope names slots) (λ v slots c. spot by
      f lp.middle (v ∷ []) slots c)
      (mt (world by f names c) n) (λ v. tick (chosen turn (pure meaning.falls) v)) (test.runs p lp.middle
      names slots c n lp.first ag le) (λ v names slots c k ag few.
      ticks_at by f (chosen turn (pure meaning.falls) (meant by v)) lp.middle (v ∷ []) names slots c k (λ l
      e.
      choose_by by f turn (pure meaning.falls) q lp.middle (lp.middle + 1) l v [] names slots c (placed.has
      lp.middle (plain (instr.JumpNot q)) lp.leave) refl goal.0
      (λ lead. then_runs by f (mb (world by f names c) l) again
      (jump_runs by f get placed depth wide room {e = 6} out (instr.Jump p) lp.after q p scope (mb (world by
      f names c) l) refl lp.back
      (sim_on by f (mb (world by f names c) l) lead (body.runs (lp.middle + 1) lp.after names slots c l
      lp.turn ag (omega (arith, le, few, e)))))
      (λ names slots c j h fewer.
      turns_run out scope test body turns p q lp names slots c j h.1 (omega (arith, le, few, e, fewer))
      (omega (arith, less, few, e, fewer))))
      (λ lead. sim_given by f (flow_aim by f (Behind_so false scope) q) falls names slots c (refl, ag)
      (leads_spare by.code (omega arith) lead))))

  pub while_does : {wt wb : Written} {mt : Action Value} {mb : Action Flow} (out : Bool) (scope : List
      (Entry by))
      → Whole by f get depth wide room scope wt mt → Does_so scope wb mb (Behind_so out scope)
      → Does_so scope (looped out wt wb) (while_turns (suc depth) mt mb) (Behind_so false scope)
  while_does {wt} {wb} {mt} {mb} out scope test body = record {
    runs = λ p q names slots c n stands ag le.
        turns_run out scope test body (suc depth) p q (parts.of_loop out wt wb p q stands) names slots c n
        ag le (omega (arith, le));
  }
