-- What is done behind read references keeps the invariant.
use Rattle.std.proofs.Common.{◌≡◌, ℕ, List, ◌∷◌, Option, ap, subst, ◌∙◌}
use Rattle.au_effects.specs.References.{place_along}
use Rattle.au_effects.specs.Values.{Base, Place, reference}
use Rattle.au_places.specs.Memories.{Memory}
use Rattle.au_places.specs.Places.{birth, content_place}
use Rattle.au_running_types.specs.Running.{token}
use Rattle.au_types.specs.Types as meaning
use Rattle.au_types.specs.Types.{Meaning}
use Rattle.au_memory.specs.Forests.{Holds, Made}
use Rattle.au_memory.specs.Loans.{Types}
use Rattle.au_lending.specs.Seeing.{LeadsOn, field_steps}
use Rattle.au_lending.proofs.SeenLemmas as seen
use Rattle.au_lending.proofs.SeenLemmas.{path_leads, sees}
use Rattle.au_borrows.specs.Orders.{Act, is_active}
use Rattle.au_borrows.specs.Told.{Told, with_use}
use Rattle.au_borrows.proofs.InvariantLemmas.{keeps_on}
use Rattle.au_acting.specs.Referring.{Copies, Moves, SeesContents}
use Rattle.au_acting.specs.Safe.{IsSafe}
use Rattle.au_acting.proofs.ReferLemmas.{newest_reads, same_borrow, used_first}
use Rattle.au_acting.proofs.RowLemmas.{parts_same}

-- places are the same where their parts are
abbrev place_from : Base → List ℕ → Place
place_from base path = record { base = base; path = path }

same_place : (p q : Place) → p.base ≡ q.base → p.path ≡ q.path → p ≡ q
same_place p q bases paths =
    ap (λ (b : Base). place_from b p.path) bases ∙ ap (λ (t : List ℕ). place_from q.base t) paths

module _ (B : Type 0) (types : Types) (owner : B → Option (List ℕ)) (acts : List Act) (hold : Holds)
    (type : ℕ → ℕ → Meaning) (under : Made) (m : Memory (List ℕ)) (w : Told B) where
  pub moves : Moves B types owner acts hold type under m w
  moves forms cases r t z path u leads on state =
      let s = state.rows in
      let inv = state.inv in
      let see = sees types forms inv.clock (is_active acts) (is_active acts) hold type r t z under s m inv.core on in
      let end = path_leads types forms cases s path see.one u see.stands.typed
      (subst (λ v. LeadsOn types v path u) see.typed leads) in
      let done = seen.moves types forms inv.clock (is_active acts) (is_active acts) hold type r t z under s m inv.core see
      (field_steps path) end.two end.there in
      let now : IsSafe types owner acts hold type
      ((reference see.row.borrow end.two.to, meaning.reads end.two.type (token z)) ∷ under) m w = record {
        rows = s;
        inv = keeps_on B types owner acts hold type ((r, meaning.reads t (token z)) ∷ under) s m w inv inv.clock hold
            type ((reference see.row.borrow end.two.to, meaning.reads end.two.type (token z)) ∷ under) s m done.after
            (λ i. done.counts (birth i)) (parts_same s);
      } in
      let at : end.two.to ≡ place_along see.one.to path =
      same_place end.two.to (place_along see.one.to path) end.base end.path_is in (
        see.row.borrow,
        see.one.to,
        see.is,
        subst (λ p. IsSafe types owner acts hold type ((reference see.row.borrow p, meaning.reads u (token z)) ∷ under) m
            w) at
            (subst (λ v. IsSafe types owner acts hold type
            ((reference see.row.borrow end.two.to, meaning.reads v (token z)) ∷ under) m w) end.typed now),
      )

  pub sees_contents : SeesContents B types owner acts hold type under m w
  sees_contents forms boxes r t of z is on state =
      let s = state.rows in
      let refers = newest_reads types forms state.inv.clock (is_active acts) (is_active acts) hold type r t z under s m
      state.inv.core in
      let b = refers.row.borrow in
      let inv = used_first B types owner acts hold type ((r, meaning.reads t (token z)) ∷ under) s m w state.inv r z
      refers on in
      let done = seen.content_seen types forms inv.clock (is_active acts) (is_active acts) hold type r t z under s m
      inv.core boxes of is on in
      let same = same_borrow r b done.borrow refers.to done.to refers.is done.is in
      let now : IsSafe types owner acts hold type
      ((reference done.borrow (content_place done.born), meaning.reads of (token z)) ∷ under) m (with_use b w) = record {
        rows = s;
        inv = keeps_on B types owner acts hold type ((r, meaning.reads t (token z)) ∷ under) s m (with_use b w) inv
            inv.clock hold type ((reference done.borrow (content_place done.born), meaning.reads of (token z)) ∷ under) s
            m done.moved.after (λ i. done.moved.counts (birth i)) (parts_same s);
      } in (
        done.borrow,
        done.to,
        done.born,
        done.is,
        done.there,
        subst (λ c. IsSafe types owner acts hold type
            ((reference done.borrow (content_place done.born), meaning.reads of (token z)) ∷ under) m (with_use c w)) same
            now,
      )

  pub copies : Copies B types owner acts hold type under m w
  copies forms cases lawful r t z path u leads free on state =
      let s = state.rows in
      let refers = newest_reads types forms state.inv.clock (is_active acts) (is_active acts) hold type r t z under s m
      state.inv.core in
      let b = refers.row.borrow in
      let inv = used_first B types owner acts hold type ((r, meaning.reads t (token z)) ∷ under) s m w state.inv r z
      refers on in
      let done = seen.copied types forms inv.clock (is_active acts) (is_active acts) hold type r t z under s m inv.core
      cases lawful path u leads free on in
      let same = same_borrow r b done.borrow refers.to done.to refers.is done.is in
      let now : IsSafe types owner acts hold type ((done.value, u) ∷ under) m (with_use b w) = record {
        rows = s;
        inv = keeps_on B types owner acts hold type ((r, meaning.reads t (token z)) ∷ under) s m (with_use b w) inv
            inv.clock hold type ((done.value, u) ∷ under) s m done.after (λ i. done.counts (birth i)) (parts_same s);
      } in (
        done.borrow,
        done.to,
        done.value,
        done.is,
        done.there,
        subst (λ c. IsSafe types owner acts hold type ((done.value, u) ∷ under) m (with_use c w)) same now,
      )
