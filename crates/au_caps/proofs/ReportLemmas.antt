-- There is one report of a program.
use Rattle.std.proofs.Common.{◌≡◌, List, ◌∷◌, refl, sym, ◌∙◌}
use Rattle.au_syntax.specs.Plain.{Bytes}
use Rattle.au_modules.specs.Programs.{ModuleParts}
use Rattle.au_typing.specs.Trees.{NotedParts}
use Rattle.au_caps_text.specs.declared.reports.Report.{Report}
use Rattle.au_caps_text.specs.declared.reports.Row.{Row}
use Rattle.std.specs.Cmp.Lexicographic.{slice_cmp}
use Rattle.std.specs.Ordering.{nat_cmp}
use Rattle.std.specs.Cmp.Lexicographic.{nat_list_cmp_total}
use Rattle.au_caps_text.specs.Lists.{IsListOf}
use Rattle.au_caps_text.proofs.ListLemmas.{one_list}
use Rattle.au_caps_lists.specs.Bodies.{Bodied, all_bodied}
use Rattle.au_caps_lists.specs.Holding.{Hands, Holds}
use Rattle.au_caps.specs.Making.{BodyMakes}
use Rattle.au_caps.specs.Reports.{AreRowsOf, IsReportOf, IsRowOf, no_rows, rows}

-- there is one list of what holds of the same texts
same_list : (Holds : Bytes → Type 0) (xs ys : List Bytes) → IsListOf Holds xs → IsListOf Holds ys → xs ≡ ys
same_list Holds xs ys a b =
    one_list (slice_cmp nat_cmp) nat_list_cmp_total xs ys a.ascends b.ascends (λ z is. b.all z (a.only z is))
    (λ z is. a.all z (b.only z is))

module _ (program : List ModuleParts) (noted : List NotedParts) where
  -- a body has one row
  one_row : (b : Bodied) (x y : Row) → IsRowOf program noted b x → IsRowOf program noted b y → x ≡ y
  one_row b x y p q =
      λ i. record {
        function = (p.name ∙ sym q.name) i;
        makes = same_list (BodyMakes program noted b) x.makes y.makes p.makes q.makes i;
        holds = same_list (Holds program b) x.holds y.holds p.holds q.holds i;
        hands = same_list (Hands program b) x.hands y.hands p.hands q.hands i;
      }

  one_rows : (bs : List Bodied) (xs ys : List Row) → AreRowsOf program noted bs xs
      → AreRowsOf program noted bs ys
      → xs ≡ ys
  one_rows bs xs ys no_rows no_rows = refl
  one_rows bs xs ys (rows b more x others is on) (rows c rest y ones also further) =
      λ i. one_row b x y is also i ∷ one_rows more others ones on further i

  pub one_report : (a b : Report) → IsReportOf program noted a → IsReportOf program noted b → a ≡ b
  one_report a b p q = λ i. record { rows = one_rows (all_bodied noted) a.rows b.rows p q i }
