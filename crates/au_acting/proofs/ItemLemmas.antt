-- What is done with elements of buffers keeps the invariant.
use Rattle.std.proofs.Common.{ℕ, List, [], ◌∷◌, ◌++◌, Option, Some, subst, arith}
use Rattle.au_places.specs.Memories.{Memory, with_items}
use Rattle.au_places.specs.Places.{birth}
use Rattle.au_running_types.specs.Running.{token}
use Rattle.au_types.specs.Types as meaning
use Rattle.au_types.specs.Types.{Meaning}
use Rattle.au_memory.specs.Forests.{Holds, Made}
use Rattle.au_memory.specs.Loans.{Types}
use Rattle.au_lending.proofs.BufferLemmas.{puts_items}
use Rattle.au_lending.proofs.BufferSeenLemmas.{items_seen}
use Rattle.au_lending.proofs.TakenLemmas.{takes_items}
use Rattle.au_borrows.specs.Orders.{Act, is_active}
use Rattle.au_borrows.specs.Told.{Told, with_use}
use Rattle.au_borrows.proofs.InvariantLemmas.{keeps_on}
use Rattle.au_acting.specs.Referring.{CopiesItems, PutsItems, TakesItems}
use Rattle.au_acting.specs.Safe.{IsSafe}
use Rattle.au_acting.proofs.ReferLemmas.{newest_reads, newest_writes, same_borrow, second_writes, used_first}
use Rattle.au_acting.proofs.RowLemmas.{parts_same}

module _ (B : Type 0) (types : Types) (owner : B → Option (List ℕ)) (acts : List Act) (hold : Holds)
    (type : ℕ → ℕ → Meaning) (under : Made) (m : Memory (List ℕ)) (w : Told B) where
  pub puts : PutsItems B types owner acts hold type under m w
  puts forms buffers new r t of z is on state =
      let s = state.rows in
      let refers = second_writes types forms state.inv.clock (is_active acts) (is_active acts) hold type r t z under s m
      new of state.inv.core in
      let b = refers.row.borrow in
      let inv = used_first B types owner acts hold type ((new, of) ∷ (r, meaning.writes t (token z)) ∷ under) s m w
      state.inv r z refers on in
      let done = puts_items types forms buffers inv.clock (is_active acts) (is_active acts) hold type new r t of z under s
      m inv.core is on in
      let same = same_borrow r b done.leads.borrow refers.to done.leads.to refers.is done.leads.is in (
        done.leads.borrow,
        done.leads.to,
        done.born,
        done.items,
        done.leads.is,
        done.leads.there,
        done.leads.holds,
        subst (λ c. IsSafe types owner acts hold type under (with_items done.born (Some (done.items ++ new ∷ [])) m)
            (with_use c w)) same (record {
              rows = s;
              inv = keeps_on B types owner acts hold type ((new, of) ∷ (r, meaning.writes t (token z)) ∷ under) s m
                  (with_use b w) inv inv.clock hold type under s (with_items done.born (Some (done.items ++ new ∷ [])) m)
                  done.inserted.after (λ i. let c = done.inserted.counts (birth i) in omega arith) (parts_same s);
            }),
        λ front back old split.
            let other = done.replaced front back old split in
            subst (λ c. IsSafe types owner acts hold type ((old, of) ∷ under)
            (with_items done.born (Some (front ++ new ∷ back)) m) (with_use c w)) same (record {
              rows = s;
              inv = keeps_on B types owner acts hold type ((new, of) ∷ (r, meaning.writes t (token z)) ∷ under) s m
                  (with_use b w) inv inv.clock hold type ((old, of) ∷ under) s
                  (with_items done.born (Some (front ++ new ∷ back)) m) other.after
                  (λ i. let c = other.counts (birth i) in omega arith) (parts_same s);
            }),
      )

  pub takes : TakesItems B types owner acts hold type under m w
  takes forms buffers r t of z is on state =
      let s = state.rows in
      let refers = newest_writes types forms state.inv.clock (is_active acts) (is_active acts) hold type r t z under s m
      state.inv.core in
      let b = refers.row.borrow in
      let inv = used_first B types owner acts hold type ((r, meaning.writes t (token z)) ∷ under) s m w state.inv r z
      refers on in
      let done = takes_items types forms buffers inv.clock (is_active acts) (is_active acts) hold type r t of z under s m
      inv.core is on in
      let same = same_borrow r b done.leads.borrow refers.to done.leads.to refers.is done.leads.is in (
        done.leads.borrow,
        done.leads.to,
        done.born,
        done.items,
        done.leads.is,
        done.leads.there,
        done.leads.holds,
        λ front last split.
            let other = done.taken front last split in
            subst (λ c. IsSafe types owner acts hold type ((last, of) ∷ under) (with_items done.born (Some front) m)
            (with_use c w)) same (record {
              rows = s;
              inv = keeps_on B types owner acts hold type ((r, meaning.writes t (token z)) ∷ under) s m (with_use b w)
                  inv inv.clock hold type ((last, of) ∷ under) s (with_items done.born (Some front) m) other.after
                  (λ i. let c = other.counts (birth i) in omega arith) (parts_same s);
            }),
      )

  pub copies : CopiesItems B types owner acts hold type under m w
  copies forms buffers r t of z is on state =
      let s = state.rows in
      let refers = newest_reads types forms state.inv.clock (is_active acts) (is_active acts) hold type r t z under s m
      state.inv.core in
      let b = refers.row.borrow in
      let inv = used_first B types owner acts hold type ((r, meaning.reads t (token z)) ∷ under) s m w state.inv r z
      refers on in
      let done = items_seen types forms buffers inv.clock (is_active acts) (is_active acts) hold type r t z under s m
      inv.core of is on in
      let same = same_borrow r b done.leads.borrow refers.to done.leads.to refers.is done.leads.is in (
        done.leads.borrow,
        done.leads.to,
        done.born,
        done.items,
        done.leads.is,
        done.leads.there,
        done.leads.holds,
        λ lawful free front back v split.
            let other = done.copied lawful free front back v split in
            subst (λ c. IsSafe types owner acts hold type ((v, of) ∷ under) m (with_use c w)) same (record {
              rows = s;
              inv = keeps_on B types owner acts hold type ((r, meaning.reads t (token z)) ∷ under) s m (with_use b w) inv
                  inv.clock hold type ((v, of) ∷ under) s m other.after (λ i. other.counts (birth i)) (parts_same s);
            }),
      )
