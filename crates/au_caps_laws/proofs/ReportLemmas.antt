-- In a checked program what is born is made, and the report says so.
use Rattle.std.proofs.Common.{inl, inr, List, [], ◌∷◌, refl, subst}
use Rattle.au_effects.specs.Worlds.{born}
use Rattle.au_type_texts.specs.Types.{ClosedType}
use Rattle.au_modules.specs.Programs.{ModuleParts}
use Rattle.au_names.proofs.AmongLemmas.{Among, among, contains}
use Rattle.au_typing.specs.Trees.{NotedParts}
use Rattle.au_closing.specs.Instances.{Instance}
use Rattle.au_meaning.specs.Ticks.{Out, aborts, cut, gives, no_rule}
use Rattle.au_meaning.specs.Worlds.{Event, Store, World}
use Rattle.au_closed_meanings.specs.Generic.{generic_functions}
use Rattle.au_judged_programs.specs.CheckedChecked.{IsChecked}
use Rattle.au_caps_text.specs.declared.reports.Report.{Report}
use Rattle.au_caps_text.specs.declared.reports.Row.{Row}
use Rattle.au_caps_lists.specs.Bodies.{Bodied, all_bodied}
use Rattle.au_caps.specs.Reports.{AreRowsOf, IsReportOf, IsRowOf, no_rows, rows}
use Rattle.au_caps_laws.specs.Bearing.{AreWithin, Bears, BearsTo, IsWithin}
use Rattle.au_caps_laws.specs.Births.{BirthsAreMade, MayBear}
use Rattle.au_caps_laws.specs.Laws.{RunBearsWithin}
use Rattle.au_caps_laws.specs.Reported.{IsInRow, RunsAreReported}
use Rattle.au_caps_laws.proofs.BoundLemmas.{MayMake, bounds_hold}
use Rattle.au_caps_laws.proofs.KnowsLemmas.{knows_all}
use Rattle.au_caps_laws.proofs.RunLemmas.{calls_bear_within, runs_bear_within}

-- ---- more types

module _ (P Q : ClosedType → Type 0) (more : (of : ClosedType) → P of → Q of) where
  within_more : (e : Event) → IsWithin P e → IsWithin Q e
  within_more (born id of home) one = more of one
  within_more other one = tt

  all_more : (es : List Event) → AreWithin P es → AreWithin Q es
  all_more [] all = tt
  all_more (e ∷ es) all = (within_more e all.0, all_more es all.1)

  bears_more : (before after : Store) → Bears P before after → Bears Q before after
  bears_more before after one = record { more = one.more; adds = one.adds; within = all_more one.more one.within }

  to_more : {A : Type 0} (before : World) (out : Out A) → BearsTo P before out → BearsTo Q before out
  unfolding BearsTo
  to_more before (gives a after left) one = bears_more before.store after.store one
  to_more before (aborts fault after left) one = bears_more before.store after.store one
  to_more before (cut after) one = bears_more before.store after.store one
  to_more before (no_rule after left) one = bears_more before.store after.store one

  run_more : (told : List Event) → RunBearsWithin P told → RunBearsWithin Q told
  run_more told one = record {
    first = one.first;
    more = one.more;
    all = one.all;
    root = one.root;
    within = all_more one.more one.within;
  }

-- ---- a program

module _ (program : List ModuleParts) (noted : List NotedParts) where
  -- each function or method has its row
  row_there : (bs : List Bodied) (all : List Row) → AreRowsOf program noted bs all → (b : Bodied) → Among b bs
      → (row : Row) × IsRowOf program noted b row × Among row all
  row_there bs all no_rows b m = absurd m
  row_there bs all (rows c others row more its rest) b (inl here) =
      (row, subst (λ (x : Bodied). IsRowOf program noted x row) here its, inl refl)
  row_there bs all (rows c others row more its rest) b (inr later) =
      let there = row_there others more rest b later in
      (there.0, there.1, inr there.2)

  module _ (checked : IsChecked program noted) where
    abbrev Makes : Instance → ClosedType → Type 0
    Makes = MayMake program noted (knows_all program noted checked)

    made_more : (one : Instance) (of : ClosedType) → Makes one of → MayBear program noted one of
    made_more one of made h e = let its = made h e in (its.0, its.1.run, its.2)

    pub births_made : BirthsAreMade program noted
    births_made first depth one args before ticks =
        to_more (Makes one) (MayBear program noted one) (made_more one) before _
        (calls_bear_within (generic_functions program noted first) Makes
        (bounds_hold program noted (knows_all program noted checked) first) depth one args before ticks)

    in_row : (report : Report) → IsReportOf program noted report → (one : Instance) (of : ClosedType) → Makes one of
        → IsInRow program noted report one.of of
    in_row report is one of made h e =
        let its = made h e in
        let row = row_there (all_bodied noted) report.rows is its.0 (among (all_bodied noted) its.0 its.1.run.listed)
        in (
          its.0,
          row.0,
          its.1.run,
          row.1,
          contains report.rows row.0 row.2,
          row.1.makes.all h its.2,
        )

    pub births_reported : RunsAreReported program noted
    births_reported report is first entry input ticks =
        run_more (Makes entry) (IsInRow program noted report entry.of) (in_row report is entry) _
        (runs_bear_within (generic_functions program noted first) Makes
        (bounds_hold program noted (knows_all program noted checked) first) entry input ticks)
