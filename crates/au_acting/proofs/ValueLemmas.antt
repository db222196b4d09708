-- Values that come and go keep the invariant.
use Rattle.std.proofs.Common.{◌≡◌, ℕ, ◌+◌, List, [], ◌∷◌, Option, Some, refl, sym, ap, subst}
use Rattle.std.proofs.Common.{arith, not}
use Rattle.std.specs.Prelude.{None}
use Rattle.au_effects.specs.Values.{box, buffer, content_of, made}
use Rattle.au_places.specs.Memories.{Memory, with_base, with_items}
use Rattle.au_places.specs.Places.{birth}
use Rattle.au_running_types.specs.Running.{token}
use Rattle.au_types.specs.Types as meaning
use Rattle.au_types.specs.Types.{Meaning}
use Rattle.au_memory.specs.Forests.{Core, Holds, Made, in_forest, in_list}
use Rattle.au_memory.specs.Loans.{Types, Table}
use Rattle.au_memory.specs.Trees.{a_plain, in_birth, in_tree}
use Rattle.au_memory.proofs.FormLemmas.{writer_form}
use Rattle.au_memory.proofs.FreeLemmas.{free_in}
use Rattle.au_lending.specs.Records.{fields_made, onto}
use Rattle.au_lending.proofs.BufferEndLemmas.{buffer_ends, buffer_made}
use Rattle.au_lending.proofs.RecordLemmas.{record_made, record_opened}
use Rattle.au_lending.proofs.RemadeLemmas.{boxed, unboxed}
use Rattle.au_lending.proofs.ValueLemmas.{dropped, pushed}
use Rattle.au_borrows.specs.Invariants.{Inv}
use Rattle.au_borrows.specs.Orders.{Act, is_active}
use Rattle.au_borrows.specs.Told.{Told}
use Rattle.au_borrows.proofs.InvariantLemmas.{bears_on, keeps_on, spends_on}
use Rattle.au_acting.specs.Safe.{IsSafe}
use Rattle.au_acting.specs.Valuing.{Drops, DropsWriters, EndsBuffers, MakesBoxes, MakesBuffers, MakesFree, MakesLinear}
use Rattle.au_acting.specs.Valuing.{OpensBoxes, OpensCases, Plains, with_spent}
use Rattle.au_acting.proofs.RowLemmas.{birth_one, next_unborn, parts_same}

module _ (B : Type 0) (types : Types) (owner : B → Option (List ℕ)) (acts : List Act) (hold : Holds)
    (type : ℕ → ℕ → Meaning) (under : Made) (m : Memory (List ℕ)) (w : Told B) where
  -- ---- what holds nothing

  pub plains : Plains B types owner acts hold type under m w
  plains v t plain state =
      let s = state.rows in
      let inv = state.inv in
      let done = pushed types inv.clock (is_active acts) (is_active acts) hold type under s m inv.core v t (a_plain v) refl
      plain (λ id. refl) in
      record {
        rows = s;
        inv = keeps_on B types owner acts hold type under s m w inv inv.clock hold type ((v, t) ∷ under) s m done.after
            (λ i. done.counts (birth i)) (parts_same s);
      }

  pub drops : Drops B types owner acts hold type under m w
  drops lawful v t free state =
      let s = state.rows in
      let inv = state.inv in
      let done = dropped types inv.clock (is_active acts) (is_active acts) hold type v t under s m inv.core in
      record {
        rows = s;
        inv = keeps_on B types owner acts hold type ((v, t) ∷ under) s m w inv inv.clock hold type under s m done.after
            (λ i.
            let c = done.counts (birth i) in
            let none = free_in types lawful s (birth i) done.tree t free done.typed in
            omega arith) (parts_same s);
      }

  pub drops_writers : DropsWriters B types owner acts hold type under m w
  drops_writers forms r t z state =
      let s = state.rows in
      let inv = state.inv in
      let done = dropped types inv.clock (is_active acts) (is_active acts) hold type r (meaning.writes t (token z)) under s
      m inv.core in
      let form = writer_form types forms s done.tree t (token z) done.typed in
      record {
        rows = s;
        inv = keeps_on B types owner acts hold type ((r, meaning.writes t (token z)) ∷ under) s m w inv inv.clock hold
            type under s m done.after
            (λ i.
            let c = done.counts (birth i) in
            let none = ap (in_tree (birth i)) form.is in
            omega arith) (parts_same s);
      }

  -- ---- boxes and buffers

  pub makes_boxes : MakesBoxes B types owner acts hold type under m w
  makes_boxes v of t kind home is none fitting state =
      let s = state.rows in
      let inv = state.inv in
      let fresh = next_unborn owner
      (λ i. in_forest (birth i) inv.core.top inv.core.forest + in_list (birth i) inv.core.trees) w inv.fits in
      let done = boxed types inv.clock (is_active acts) (is_active acts) hold type v of under s m inv.core t is
      w.next_birth none fresh in
      record {
        rows = s;
        inv = bears_on B types owner acts hold type ((v, of) ∷ under) s m w inv inv.clock hold type
            ((box w.next_birth, t) ∷ under) s (with_base (content_of w.next_birth) (Some v) m) done.after kind home
            (λ i.
            let c = done.counts (birth i) in
            let one = birth_one w.next_birth i in
            omega arith) fitting (parts_same s);
      }

  pub opens_boxes : OpensBoxes B types owner acts hold type under m w
  opens_boxes forms boxes v t of is state =
      let s = state.rows in
      let inv = state.inv in
      let done = unboxed types forms boxes inv.clock (is_active acts) (is_active acts) hold type v t of under s m inv.core
      is in (
        done.born,
        done.value,
        done.is_box,
        done.there,
        record {
          rows = s;
          inv = spends_on B types owner acts hold type ((v, t) ∷ under) s m w inv inv.clock hold type
              ((done.value, of) ∷ under) s (with_base (content_of done.born) None m) done.after done.born
              (λ i.
              let c = done.counts (birth i) in
              let one = birth_one done.born i in
              omega arith) (parts_same s);
        },
      )

  pub makes_buffers : MakesBuffers B types owner acts hold type under m w
  makes_buffers t of kind home is fitting state =
      let s = state.rows in
      let inv = state.inv in
      let fresh = next_unborn owner
      (λ i. in_forest (birth i) inv.core.top inv.core.forest + in_list (birth i) inv.core.trees) w inv.fits in
      let done = buffer_made types inv.clock (is_active acts) (is_active acts) hold type under s m inv.core t of
      w.next_birth is fresh in
      record {
        rows = s;
        inv = bears_on B types owner acts hold type under s m w inv inv.clock hold type
            ((buffer w.next_birth, t) ∷ under) s (with_items w.next_birth (Some []) m) done.after kind home
            (λ i.
            let c = done.counts (birth i) in
            let one = birth_one w.next_birth i in
            omega arith) fitting (parts_same s);
      }

  pub ends_buffers : EndsBuffers B types owner acts hold type under m w
  ends_buffers forms buffers v t of is state =
      let s = state.rows in
      let inv = state.inv in
      let done = buffer_ends types forms buffers inv.clock (is_active acts) (is_active acts) hold type v t of under s m
      inv.core is in (
        done.born,
        done.items,
        done.is_buffer,
        done.there,
        λ none.
            let gone = done.gone none in
            record {
              rows = s;
              inv = spends_on B types owner acts hold type ((v, t) ∷ under) s m w inv inv.clock hold type under s
                  (with_items done.born None m) gone.after done.born
                  (λ i.
                  let c = gone.counts (birth i) in
                  let one = birth_one done.born i in
                  omega arith) (parts_same s);
            },
      )

  -- ---- records and unions

  pub makes_free : MakesFree B types owner acts hold type under m w
  makes_free vs t tag fields free state =
      let s = state.rows in
      let inv = state.inv in
      let done = record_made types inv.clock (is_active acts) (is_active acts) hold type vs under s m inv.core t tag None
      fields (sym (ap not free)) (λ i e. absurd cc) in
      record {
        rows = s;
        inv = keeps_on B types owner acts hold type (onto vs under) s m w inv inv.clock hold type
            ((made tag None (fields_made vs), t) ∷ under) s m done.after
            (λ i. let c = done.counts (birth i) in omega arith) (parts_same s);
      }

  pub makes_linear : MakesLinear B types owner acts hold type under m w
  makes_linear vs t tag kind home fields linear fitting state =
      let s = state.rows in
      let inv = state.inv in
      let fresh = next_unborn owner
      (λ i. in_forest (birth i) inv.core.top inv.core.forest + in_list (birth i) inv.core.trees) w inv.fits in
      let done = record_made types inv.clock (is_active acts) (is_active acts) hold type vs under s m inv.core t tag
      (Some w.next_birth) fields (sym (ap not linear))
      (λ i e.
      let same : w.next_birth ≡ i = cc in
      subst (λ j. in_forest (birth j) inv.core.top inv.core.forest + in_list (birth j) inv.core.trees ≡ 0) same fresh) in
      record {
        rows = s;
        inv = bears_on B types owner acts hold type (onto vs under) s m w inv inv.clock hold type
            ((made tag (Some w.next_birth) (fields_made vs), t) ∷ under) s m done.after kind home
            (λ i.
            let c = done.counts (birth i) in
            let one = birth_one w.next_birth i in
            omega arith) fitting (parts_same s);
      }

  -- a value is gone that may have a birth
  spent : (s : Table) (inv : Inv types owner acts hold type under s m w) (now : Made)
      (after : Core types inv.clock (is_active acts) (is_active acts) hold type now s m) (born : Option ℕ)
      → ((i : ℕ) → (in_forest (birth i) after.top after.forest + in_list (birth i) after.trees)
      + in_birth (birth i) born
      ≡ in_forest (birth i) inv.core.top inv.core.forest + in_list (birth i) inv.core.trees)
      → IsSafe types owner acts hold type now m (with_spent born w)
  spent s inv now after None counts = record {
    rows = s;
    inv = keeps_on B types owner acts hold type under s m w inv inv.clock hold type now s m after
        (λ i. let c = counts i in omega arith) (parts_same s);
  }
  spent s inv now after (Some j) counts = record {
    rows = s;
    inv = spends_on B types owner acts hold type under s m w inv inv.clock hold type now s m after j
        (λ i. let c = counts i in let one = birth_one j i in omega arith) (parts_same s);
  }

module _ (B : Type 0) (types : Types) (owner : B → Option (List ℕ)) (acts : List Act) (hold : Holds)
    (type : ℕ → ℕ → Meaning) (under : Made) (m : Memory (List ℕ)) (w : Told B) where
  pub opens_cases : OpensCases B types owner acts hold type under m w
  opens_cases forms cases v t tag of is state =
      let s = state.rows in
      let inv = state.inv in
      let done = record_opened types forms cases inv.clock (is_active acts) (is_active acts) hold type v t under s m
      inv.core tag of is in (
        done.tag,
        done.born,
        done.parts,
        done.is_made,
        done.fields,
        spent B types owner acts hold type ((v, t) ∷ under) m w s inv (onto done.parts under) done.after done.born
            (λ i. done.counts (birth i)),
      )
