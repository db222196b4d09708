-- Lists of texts are those of what holds of the same texts.
use Rattle.std.proofs.Common.{◌≡◌, ℕ, List, [], ◌∷◌, ◌++◌, Contains, subst, sym}
use Rattle.std.specs.Prelude.{◌↔◌}
use Rattle.au_graphs.specs.Cycles.{successors}
use Rattle.au_modules.specs.Programs.{ModuleParts}
use Rattle.au_names.proofs.AmongLemmas.{among, contains}
use Rattle.au_syntax.specs.Plain.{Bytes}
use Rattle.au_caps_text.specs.Lists.{IsListOf}
use Rattle.au_caps_text.specs.declared.reports.Row.{Row}
use Rattle.au_caps_types.specs.declared.reached.Reaching.{Reaching}
use Rattle.au_caps_types.proofs.GraphLemmas.{among_kept, kept_among}
use Rattle.au_typing.specs.Trees.{NotedParts}
use Rattle.au_caps_lists.specs.Bodies.{Bodied}
use Rattle.au_caps_lists.specs.Entries.{head_at, heads_at}
use Rattle.au_caps_lists.proofs.EntryLemmas.{head_is, is_head}
use Rattle.au_caps.specs.Reports.{AreRowsOf, IsRowOf, no_rows, rows}
use Rattle.au_caps.specs.Views.{HasLabel}

pub listed_by : (P Q : List ℕ → Type 0) (list : List (List ℕ)) → ((h : List ℕ) → P h ↔ Q h) → IsListOf P list
    → IsListOf Q list
listed_by P Q list same is = record {
  ascends = is.ascends;
  all = λ x q. is.all x ((same x).1 q);
  only = λ x c. (same x).0 (is.only x c);
}

module _ (program : List ModuleParts) (r : Reaching) where
  -- the heads at the labels of a node
  pub labels_give : (made : List (List ℕ)) (n : ℕ) (h : Bytes)
      → Contains (heads_at program r (successors made n)) h
      ↔ HasLabel program r made n h
  labels_give made n h = (to, from)
    where
      to : Contains (heads_at program r (successors made n)) h → HasLabel program r made n h
      to c =
          let found = among_kept (head_at program r) (successors made n) h
          (among (heads_at program r (successors made n)) h c) in
          (found.0, is_head program r found.0 h found.2, contains (successors made n) found.0 found.1)

      from : HasLabel program r made n h → Contains (heads_at program r (successors made n)) h
      from (l, is, has) =
          contains (heads_at program r (successors made n)) h
          (kept_among (head_at program r) (successors made n) l h (among (successors made n) l has)
          (head_is program r l h is))

  -- so the list of these is that of what comes to the node
  pub labels_listed : (made : List (List ℕ)) (n : ℕ) (texts : List (List ℕ))
      → texts ≡ heads_at program r (successors made n) → (list : List (List ℕ)) → IsListOf
      (Contains texts) list
      → IsListOf (HasLabel program r made n) list
  labels_listed made n texts are list is =
      listed_by (Contains texts) (HasLabel program r made n) list
      (λ h. (
        λ (has : Contains texts h). (labels_give made n h).0
            (subst (λ (xs : List (List ℕ)). Contains xs h) are has),
        λ (label : HasLabel program r made n h). subst (λ (xs : List (List ℕ)). Contains xs h) (sym are)
            ((labels_give made n h).1 label),
      )) is

-- ---- rows

-- one more row
pub rows_push : (program : List ModuleParts) (noted : List NotedParts) (bs : List Bodied) (rs : List Row)
    (b : Bodied)
    (row : Row) → AreRowsOf program noted bs rs → IsRowOf program noted b row
    → AreRowsOf program noted (bs ++ b ∷ []) (rs ++ row ∷ [])
rows_push program noted bs rs b row no_rows is = rows b [] row [] is no_rows
rows_push program noted bs rs b row (rows x xs y ys good on) is =
    rows x (xs ++ b ∷ []) y (ys ++ row ∷ []) good (rows_push program noted xs ys b row on is)
