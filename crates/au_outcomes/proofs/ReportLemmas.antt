-- A program has one report on capabilities.
use Rattle.std.proofs.Common.{◌≡◌, List, Ok, refl, subst}
use Rattle.au_caps_text.specs.declared.reports.Report.{Report}
use Rattle.au_caps.specs.Reports.{IsReportOf}
use Rattle.au_caps.proofs.ReportLemmas.{one_report}
use Rattle.au_explain.specs.Faults.{IsDerived, noting_of}
use Rattle.au_outcomes.specs.Programs.{ReportComes}
use Rattle.au_outcomes.specs.declared.outcomes.Outcome.{Outcome}
use Rattle.au_outcomes.specs.declared.outcomes.Outcome.TheVariants as outcome
use Rattle.au_modules.specs.Programs.{ModuleParts}
use Rattle.au_typing.specs.Outsides.{outside_of}
use Rattle.au_typing.specs.Trees.{NotedParts}
use Rattle.au_typing.proofs.ProgramLemmas.{program_sound, two_are_one}

-- for a program
module _ (program : List ModuleParts) where
  -- the report of one derivation is that of another
  pub report_with : (a b : List NotedParts) (report : Report) → IsDerived program a → IsDerived program b
      → IsReportOf program a report → IsReportOf program b report
  report_with a b report p q is = subst (λ noted. IsReportOf program noted report)
      (two_are_one (outside_of program) program a b p q) is

  -- there is one report
  pub reports_same : (a b : List NotedParts) (x y : Report) → IsDerived program a → IsDerived program b
      → IsReportOf program a x → IsReportOf program b y → x ≡ y
  reports_same a b x y p q one other = one_report program b x y (report_with a b x p q one) other

  -- what comes to a report comes to that of the program with its notes
  pub report_come : (noted : List NotedParts) (x : Outcome) → IsDerived program noted → ReportComes program x
      → (report : Report) × IsReportOf program noted report × (x ≡ outcome.Reported report)
  report_come noted (outcome.Reported report) derived h =
      (report, report_with h.0 noted report h.1 derived h.2, refl)
  report_come noted other derived h = absurd h

  -- notes that the search finds are derived
  pub found_derived : (noted : List NotedParts) → noting_of program ≡ Ok noted → IsDerived program noted
  found_derived noted found = program_sound (outside_of program) program noted found
