-- What is done behind write references keeps the invariant.
use Rattle.std.proofs.Common.{◌≡◌, ℕ, List, ◌∷◌, Option, Some, sym, subst, arith}
use Rattle.au_effects.specs.Values.{reference}
use Rattle.au_places.specs.Memories.{Memory, written}
use Rattle.au_places.specs.Places.{birth, content_place}
use Rattle.au_running_types.specs.Running.{token}
use Rattle.au_types.specs.Types as meaning
use Rattle.au_types.specs.Types.{Meaning}
use Rattle.au_memory.specs.Forests.{Holds, Made}
use Rattle.au_memory.specs.Loans.{Types}
use Rattle.au_lending.specs.Holding.{with_row}
use Rattle.au_lending.specs.Laws.{part_row}
use Rattle.au_lending.specs.Parting.{with_part_rows, with_parts}
use Rattle.au_lending.proofs.CaseLemmas.{parts_go}
use Rattle.au_lending.proofs.ContentLemmas.{content_lent}
use Rattle.au_lending.proofs.SwapLemmas.{swapped}
use Rattle.au_borrows.specs.Orders.{Act, is_active}
use Rattle.au_borrows.specs.Told.{Told, with_use}
use Rattle.au_borrows.proofs.InvariantLemmas.{keeps_on}
use Rattle.au_acting.specs.Referring.{LendsContents, LendsParts, Swaps}
use Rattle.au_acting.specs.Safe.{IsSafe}
use Rattle.au_acting.proofs.ReferLemmas.{newest_writes, same_borrow, second_writes, used_first}
use Rattle.au_acting.proofs.RowLemmas.{parts_more, parts_one, parts_same}

module _ (B : Type 0) (types : Types) (owner : B → Option (List ℕ)) (acts : List Act) (hold : Holds)
    (type : ℕ → ℕ → Meaning) (under : Made) (m : Memory (List ℕ)) (w : Told B) where
  pub swaps : Swaps B types owner acts hold type under m w
  swaps forms new r t z on state =
      let s = state.rows in
      let refers = second_writes types forms state.inv.clock (is_active acts) (is_active acts) hold type r t z under s m
      new t state.inv.core in
      let b = refers.row.borrow in
      let inv = used_first B types owner acts hold type ((new, t) ∷ (r, meaning.writes t (token z)) ∷ under) s m w
      state.inv r z refers on in
      let done = swapped types forms inv.clock (is_active acts) (is_active acts) hold type new t r z under s m inv.core
      on in
      let same = same_borrow r b done.borrow refers.to done.to refers.is done.leads in
      let now : IsSafe types owner acts hold type ((done.old, t) ∷ under) (written done.to new m) (with_use b w) = record {
        rows = s;
        inv = keeps_on B types owner acts hold type ((new, t) ∷ (r, meaning.writes t (token z)) ∷ under) s m
            (with_use b w) inv inv.clock hold type ((done.old, t) ∷ under) s (written done.to new m) done.after
            (λ i. let c = done.counts (birth i) in omega arith) (parts_same s);
      } in (
        done.borrow,
        done.to,
        done.old,
        done.leads,
        done.there,
        subst (λ c. IsSafe types owner acts hold type ((done.old, t) ∷ under) (written done.to new m) (with_use c w))
            same now,
      )

  pub lends_contents : LendsContents B types owner acts hold type under m w
  lends_contents forms boxes r t of z is on state =
      let s = state.rows in
      let refers = newest_writes types forms state.inv.clock (is_active acts) (is_active acts) hold type r t z under s m
      state.inv.core in
      let b = refers.row.borrow in
      let inv = used_first B types owner acts hold type ((r, meaning.writes t (token z)) ∷ under) s m w state.inv r z
      refers on in
      let done = content_lent types forms boxes inv.clock (is_active acts) (is_active acts) hold type r t of z under s m
      inv.core is on in
      let same = same_borrow r b done.row.borrow refers.to done.row.to refers.is done.leads in
      let row = part_row done.loan done.row (content_place done.born) of in
      let now : IsSafe types owner acts hold type
      ((reference done.row.borrow (content_place done.born), meaning.writes of (token done.row.token)) ∷ under) m
      (with_use b w) =
      record {
        rows = with_row inv.core.top row s;
        inv = keeps_on B types owner acts hold type ((r, meaning.writes t (token z)) ∷ under) s m (with_use b w) inv
            inv.clock hold type
            ((reference done.row.borrow (content_place done.born), meaning.writes of (token done.row.token)) ∷ under)
            (with_row inv.core.top row s) m done.after
            (λ i. let c = done.counts (birth i) in omega arith)
            (parts_one s s inv.core.top done.loan done.row (content_place done.born) of done.has done.writer inv.core.known
            inv.core.known (parts_same s));
      } in (
        done.row.borrow,
        done.row.to,
        done.born,
        done.leads,
        done.there,
        subst (λ c. IsSafe types owner acts hold type
            ((reference done.row.borrow (content_place done.born), meaning.writes of (token z)) ∷ under) m (with_use c w))
            same
            (subst (λ y. IsSafe types owner acts hold type
            ((reference done.row.borrow (content_place done.born), meaning.writes of (token y)) ∷ under) m
            (with_use b w)) (sym done.of_token) now),
      )

  pub lends_parts : LendsParts B types owner acts hold type under m w
  lends_parts forms cases r t z tag of is on state =
      let s = state.rows in
      let refers = newest_writes types forms state.inv.clock (is_active acts) (is_active acts) hold type r t z under s m
      state.inv.core in
      let b = refers.row.borrow in
      let inv = used_first B types owner acts hold type ((r, meaning.writes t (token z)) ∷ under) s m w state.inv r z
      refers on in
      let done = parts_go types forms cases inv.clock (is_active acts) (is_active acts) hold type r t z under s m inv.core
      tag of is on in
      let same = same_borrow r b done.row.borrow refers.to done.row.to refers.is done.leads in
      let rows = with_part_rows inv.core.top done.loan done.row 0 done.of s in
      let now : IsSafe types owner acts hold type
      (with_parts done.row.borrow done.row.to done.row.token 0 done.of under) m (with_use b w) = record {
        rows = rows;
        inv = keeps_on B types owner acts hold type ((r, meaning.writes t (token z)) ∷ under) s m (with_use b w) inv
            inv.clock hold type (with_parts done.row.borrow done.row.to done.row.token 0 done.of under) rows m done.after
            done.births (parts_more s done.loan done.row done.has done.writer done.of inv.core.top 0 s inv.core.known
            inv.core.known (parts_same s));
      } in (
        done.row.borrow,
        done.row.to,
        done.tag,
        done.born,
        done.of,
        done.parts,
        done.leads,
        done.there,
        subst (λ u. types.fields u done.tag ≡ Some done.of) (sym done.typed) done.fields,
        subst (λ c. IsSafe types owner acts hold type (with_parts done.row.borrow done.row.to z 0 done.of under) m
            (with_use c w)) same
            (subst (λ y. IsSafe types owner acts hold type (with_parts done.row.borrow done.row.to y 0 done.of under) m
            (with_use b w)) (sym done.of_token) now),
      )
