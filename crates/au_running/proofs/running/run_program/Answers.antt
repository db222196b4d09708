-- What is answered of a run of its code is so of the program.
use Rattle.std.proofs.Common.{◌⊎◌, inr, false, List, Err, refl, rules, subst}
use Rattle.std.proofs.lemmas.Result.{IfOk-weaker, on_err_weaker}
use Rattle.au_typing.specs.Trees.{NotedParts}
use Rattle.au_low.specs.Runs.{low_run}
use Rattle.au_modules.specs.Slots as slots
use Rattle.au_lowering.specs.Faults.{IsDerived}
use Rattle.au_runs.specs.Calls.{IsCut}
use Rattle.au_running.specs.Came.{CodeEnds}
use Rattle.au_running.specs.Coded.{HasCode}
use Rattle.au_running.specs.declared.coding.Uncoded.{Uncoded}
use Rattle.au_running.specs.Ran.{ProgramEnds, ProgramIsCut, IsIdle}
use Rattle.au_running.specs.declared.ran.Report.{Report}
use Rattle.au_running.proofs.ShownLemmas.{came_so, cut_so, never_stuck}
use Rattle.au_running.proofs.running.run_program.Goals as goal

-- it didn't begin
pub returns-in-Err-NoEntry-clause-ran : goal.returns-in-Err-NoEntry-clause-ran
returns-in-Err-NoEntry-clause-ran g c =
    let program = slots.modules c.args.program.now in
    let owner = c.args.entry.now.«module» in
    let name = c.args.entry.now.function in
    let has = subst (λ (e : Uncoded). (noted : List NotedParts) × IsDerived program noted
    × HasCode program noted owner name (Err e)) c.in-Err-NoEntry.field-0-is c.in-Err-NoEntry.ensures.is in
    (has.0, has.1, (has.2, (refl, refl), search rules))

pub returns-in-Err-Limit-clause-ran : goal.returns-in-Err-Limit-clause-ran
returns-in-Err-Limit-clause-ran g c =
    let program = slots.modules c.args.program.now in
    let owner = c.args.entry.now.«module» in
    let name = c.args.entry.now.function in
    let has = subst (λ (e : Uncoded). (noted : List NotedParts) × IsDerived program noted
    × HasCode program noted owner name (Err e)) c.in-Err-Limit.field-0-is c.in-Err-Limit.ensures.is in
    (has.0, has.1, (has.2, (refl, refl), search rules))

pub run_code-requires : goal.run_code-requires
run_code-requires g c =
    let has = c.in-Ok.ensures.is in
    never_stuck (slots.modules c.args.program.now) has.0 c.args.entry.now.«module» c.args.entry.now.function
    c.stuck_runs_are_meant.ensures has.1 c.requires c.in-Ok.code has.2

pub returns-in-Ok-clause-ran : goal.returns-in-Ok-clause-ran
returns-in-Ok-clause-ran g c =
    let program = slots.modules c.args.program.now in
    let owner = c.args.entry.now.«module» in
    let name = c.args.entry.now.function in
    let told = g.I.Source.left c.args.input.now in
    let left = g.I.Source.left c.run_code.new.input in
    let out = g.O.Sink.written c.args.out.now in
    let out' = g.O.Sink.written c.run_code.new.out in
    let has = c.in-Ok.ensures.is in
    IfOk-weaker c.run_code.result
    (λ (report : Report). CodeEnds c.in-Ok.code c.args.life report.ran report.events.items c.args.steps told
    left out out')
    (λ (report : Report). (noted : List NotedParts) × IsDerived program noted
    × ProgramEnds program noted owner name c.args.life report.ran report.events.items c.args.steps told left
    out out')
    (λ report came. (
      has.0,
      has.1,
      came_so program has.0 owner name c.lowered_programs_run.ensures c.lowered_programs_tell.ensures
          c.in-Ok.code has.2 c.args.life report.ran report.events.items
          c.args.steps told left out out' came,
    ))
    c.run_code.ensures.came

pub returns-in-Ok-clause-broken : goal.returns-in-Ok-clause-broken
returns-in-Ok-clause-broken g c =
    let program = slots.modules c.args.program.now in
    let owner = c.args.entry.now.«module» in
    let name = c.args.entry.now.function in
    let told = g.I.Source.left c.args.input.now in
    let left = g.I.Source.left c.run_code.new.input in
    let out = g.O.Sink.written c.args.out.now in
    let out' = g.O.Sink.written c.run_code.new.out in
    let has = c.in-Ok.ensures.is in
    on_err_weaker {P = IsCut (low_run false c.in-Ok.code) c.args.steps told out out'}
    {Q = IsIdle told left out out' ⊎ ((noted : List NotedParts) × IsDerived program noted
    × ProgramIsCut program noted owner name c.args.steps told out out')} c.run_code.result
    (λ cut. inr (
      has.0,
      has.1,
      cut_so program has.0 owner name c.lowered_programs_run.ensures c.lowered_programs_tell.ensures
          c.in-Ok.code has.2
          c.args.steps told out out' cut,
    ))
    c.run_code.ensures.cut
