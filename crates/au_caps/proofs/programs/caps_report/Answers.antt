use Rattle.std.proofs.Common.{subst, sym}
use Rattle.std.proofs.lemmas.Result.{IfOk-weaker}
use Rattle.au_modules.specs.Slots as slots
use Rattle.au_noting_programs.specs.Said.{modules_said}
use Rattle.au_caps.specs.Reports.{IsReportOf}
use Rattle.au_caps_lists.specs.Views.{AreWithin, bodies_said}
use Rattle.au_caps.proofs.PlaceLemmas.{bodies_within}
use Rattle.au_caps.proofs.programs.caps_report.Goals as goal

pub report_of-requires : goal.report_of-requires
report_of-requires c =
    let bodies = bodies_said c.in_ok-bodies.bodies.items in
    record {
      within =
          subst (λ p. AreWithin (slots.modules p) bodies) (sym c.program-program.ensures)
          (bodies_within (slots.modules c.args.noted.now) (modules_said c.modules.result.now) bodies
          c.modules.ensures.derived c.in_ok-bodies.ensures);
      reached = c.in_ok-reaching.ensures;
    }

pub returns : goal.returns
returns c =
    let noted = modules_said c.modules.result.now in
    IfOk-weaker c.report_of.result _ _
    (λ report is. (
      noted,
      c.modules.ensures.found,
      subst (λ p. IsReportOf (slots.modules p) noted report) c.program-program.ensures
          (is noted c.in_ok-bodies.ensures),
    )) c.report_of.ensures
