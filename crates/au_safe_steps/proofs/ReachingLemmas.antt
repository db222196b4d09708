-- References to parts, and copies through write references.
use Rattle.std.proofs.Common.{◌≡◌, ℕ, ◌≤◌, true, List, [], ◌∷◌, length, Option, Some, refl, sym, ap, subst, ◌∙◌, append-nil}
use Rattle.std.proofs.Common.{arith}
use Rattle.au_effects.specs.Parts.{along, part}
use Rattle.au_effects.specs.Places.{at}
use Rattle.au_effects.specs.References.{place_along, reference_along, reference_in, referring}
use Rattle.au_effects.specs.Values.{Place, name_of, reference}
use Rattle.au_effects.specs.Worlds.{tells, used}
use Rattle.au_places.specs.Memories.{Memory, held_at}
use Rattle.au_places.specs.Places.{birth, writer}
use Rattle.au_running_types.specs.Running.{token}
use Rattle.au_types.specs.Types as meaning
use Rattle.au_types.specs.Types.{Meaning}
use Rattle.au_type_texts.specs.Types.{ClosedType}
use Rattle.au_memory.specs.Forests.{Holds, Made, in_list}
use Rattle.au_memory.specs.Loans.{Point, Types}
use Rattle.au_memory.specs.Shown.{AreDeclared, AreLawful, Has, Shows, Stands}
use Rattle.au_memory.specs.Trees.{Value, in_tree}
use Rattle.au_memory.proofs.CountLemmas.{writer_in}
use Rattle.au_memory.proofs.FormLemmas.{writer_form}
use Rattle.au_memory.proofs.UsableLemmas.{usable}
use Rattle.au_lending.specs.Laws.{IsReadable}
use Rattle.au_lending.specs.Parting.{CasesAreAlone}
use Rattle.au_lending.proofs.FillLemmas.{first_shown}
use Rattle.au_lending.proofs.SeenLemmas.{part_pushed}
use Rattle.au_safe_acts.specs.Orders.{Act, is_active}
use Rattle.au_safe_acts.specs.Told.{Told, with_use}
use Rattle.au_safe_acts.proofs.InvariantLemmas.{keeps_on}
use Rattle.au_acting.specs.Safe.{IsSafe}
use Rattle.au_acting.proofs.NameLemmas as names
use Rattle.au_acting.proofs.ReaderLemmas as readers
use Rattle.au_acting.proofs.ReferLemmas.{newest_writes, same_borrow, used_first}
use Rattle.au_acting.proofs.RowLemmas.{parts_same}
use Rattle.au_acting.proofs.TurnLemmas.{turns}
use Rattle.au_acting.proofs.ValueLemmas.{drops_writers}
use Rattle.au_safe_acts.specs.Stores.{memory_of, told_of}
use Rattle.au_safe_acts.specs.Frames.{Frame, hold_at, type_at}
use Rattle.au_safe_acts.proofs.FrameLemmas.{own_hold, own_type}
use Rattle.au_meaning.specs.Acts as acts'
use Rattle.au_meaning.specs.Acts.{frame_in, looks, stored}
use Rattle.au_meaning.specs.Ticks.{follows, found_in, needing, pure}
use Rattle.au_meaning.specs.Worlds.{World}
use Rattle.au_safe_acts.proofs.SoundLemmas.{sound_used}
use Rattle.au_safe_acts.specs.Good.{Good, IsIn, lying_in}
use Rattle.au_safe_acts.proofs.BehindLemmas.{begins_there, held_is}
use Rattle.au_safe_acts.proofs.GoodLemmas.{frame_is}
use Rattle.au_safe_steps.specs.Reaching.{CopiesWritersWell, OperandsCopyWell, RefersWell}

-- a reference at the beginning of a place is there
held_as : (o : Option Value) (v : Value) (b : ℕ) (to : Place) → along o (part []) ≡ Some v → v ≡ reference b to
    → o ≡ Some (reference b to)
held_as o v b to there is = begins_there o v there ∙ ap (λ (u : Value). Some u) is

-- ---- what a write reference under way leads to is copied

module _ (B : Type 0) (types : Types) (owner : B → Option (List ℕ)) (acts : List Act) (hold : Holds)
    (type : ℕ → ℕ → Meaning) (under : Made) (m : Memory (List ℕ)) (w : Told B) (forms : AreDeclared types)
    (cases : CasesAreAlone types) (lawful : AreLawful types) (r : Value) (t : Meaning) (z : ℕ)
    (free : types.is_free t ≡ true) (on : is_active acts z ≡ true)
    (state : IsSafe types owner acts hold type ((r, meaning.writes t (token z)) ∷ under) m w) where
  record Copied : Type 0 where
    borrow : ℕ
    to : Place
    value : Value
    leads : r ≡ reference borrow to
    there : held_at m to ≡ Some value
    safe : IsSafe types owner acts hold type ((value, t) ∷ (r, meaning.writes t (token z)) ∷ under) m w

  copied : Copied
  copied =
      let s = state.rows in
      let inv = state.inv in
      let core = inv.core in
      let first = first_shown types s m r (meaning.writes t (token z)) under core.trees core.shown in
      let form = writer_form types forms s first.0 t (token z) first.4 in
      let shown = subst (λ u. Shows types s m r u) form.is first.3 in
      let mine : s form.loan ≡ Some form.row = form.has in
      let its : s form.loan ≡ Some shown.0 = shown.1 in
      let same : shown.0 ≡ form.row = cc in
      let e = form.typed in
      let of : z ≡ form.row.token = cc in
      let lent : t ≡ form.row.type = cc in
      let all = ap (in_list (writer form.loan)) first.2 in
      let own = ap (in_tree (writer form.loan)) form.is in
      let once = writer_in form.loan in
      let held : 1 ≤ in_list (writer form.loan) core.trees = omega arith in
      let may = usable types inv.clock (is_active acts) (is_active acts) hold type
      ((r, meaning.writes t (token z)) ∷ under) s m core form.loan form.row form.has form.writes held
      (subst (λ y. is_active acts y ≡ true) of on) in
      let point : Point = record { tree = may.tree; type = t; to = form.row.to } in
      let stands : Stands types s m point = record {
        value = may.value;
        there = may.there;
        shown = may.shown;
        typed = subst (λ u. Has types s may.tree u) (sym lent) may.typed;
      } in
      let now = part_pushed types inv.clock (is_active acts) (is_active acts) hold type
      ((r, meaning.writes t (token z)) ∷ under) s m core forms cases lawful point stands [] t refl free in
      record {
        borrow = form.row.borrow;
        to = form.row.to;
        value = now.value;
        leads = subst (λ n. r ≡ reference n.borrow n.to) same shown.2;
        there = subst (λ (p : List ℕ). along (m.at form.row.to.base) (part p) ≡ Some now.value)
            (append-nil form.row.to.path) now.there;
        safe = record {
          rows = s;
          inv = keeps_on B types owner acts hold type ((r, meaning.writes t (token z)) ∷ under) s m w inv inv.clock hold
              type ((now.value, t) ∷ (r, meaning.writes t (token z)) ∷ under) s m now.more.after
              (λ i. now.more.counts (birth i)) (parts_same s);
        };
      }

-- the copy alone, where the borrow was used
copies_writer : (B : Type 0) (types : Types) (owner : B → Option (List ℕ)) (acts : List Act) (hold : Holds)
    (type : ℕ → ℕ → Meaning) (under : Made) (m : Memory (List ℕ)) (w : Told B) → AreDeclared types
    → CasesAreAlone types → AreLawful types → (r : Value) (t : Meaning) (z : ℕ) → types.is_free t ≡ true
    → is_active acts z ≡ true → IsSafe types owner acts hold type ((r, meaning.writes t (token z)) ∷ under) m w
    → (b : ℕ) × (to : Place) × (v : Value) × (r ≡ reference b to) × (held_at m to ≡ Some v)
    × IsSafe types owner acts hold type ((v, t) ∷ under) m (with_use b w)
copies_writer B types owner acts hold type under m w forms cases lawful r t z free on state =
    let refers = newest_writes types forms state.inv.clock (is_active acts) (is_active acts) hold type r t z under
    state.rows m state.inv.core in
    let b = refers.row.borrow in
    let after : IsSafe types owner acts hold type ((r, meaning.writes t (token z)) ∷ under) m (with_use b w) = record {
      rows = state.rows;
      inv = used_first B types owner acts hold type ((r, meaning.writes t (token z)) ∷ under) state.rows m w state.inv r
          z refers on;
    } in
    let done = copied B types owner acts hold type under m (with_use b w) forms cases lawful r t z free on after in
    let turned = turns B types owner acts hold type under m (with_use b w) done.value r t (meaning.writes t (token z))
    done.safe in
    let same = same_borrow r b done.borrow refers.to done.to refers.is done.leads in (
      b,
      done.to,
      done.value,
      subst (λ c. r ≡ reference c done.to) (sym same) done.leads,
      done.there,
      drops_writers B types owner acts hold type ((done.value, t) ∷ under) m (with_use b w) forms r t z turned,
    )

module _ (types : Types) (owner : ClosedType → Option (List ℕ)) (acts : List Act) (fs : List Frame)
    (sizes : List ℕ) (under : Made) (w : World) (ticks : ℕ) where
  -- what is behind a reference is read, whose borrow was used
  reads_behind : (made : Made) (b : ℕ) (to : Place) (v : Value) (t : Meaning)
      → IsIn types owner acts fs sizes made w → at to w.store ≡ Some v
      → IsSafe types owner acts (hold_at fs) (type_at fs) ((v, t) ∷ under) (memory_of w.store)
      (with_use b (told_of (lying_in w) w.store))
      → Good owner (λ (one : Value) n. IsIn types owner acts fs sizes ((one, t) ∷ under) n)
      (acts'.reads (b, to) w ticks)
  reads_behind made b to v t state there safe =
      let last = sound_used ClosedType types owner acts (hold_at fs) (type_at fs) ((v, t) ∷ under) (lying_in w) sizes
      w.store b state.keeps state.sized safe in
      subst (λ o. Good owner (λ (one : Value) n. IsIn types owner acts fs sizes ((one, t) ∷ under) n)
      (found_in (stored (along o (λ value. Some (value, tells (used b) w.store))) w) w ticks)) (sym there) last

  pub copies_writers_well : CopiesWritersWell types owner acts fs sizes under w ticks
  copies_writers_well typed r t z free on state =
      let done = copies_writer ClosedType types owner acts (hold_at fs) (type_at fs) under (memory_of w.store)
      (told_of (lying_in w) w.store) typed.forms typed.cases typed.lawful r t z free on state.safe in
      subst (λ x. Good owner (λ (v : Value) n. IsIn types owner acts fs sizes ((v, t) ∷ under) n)
      (needing (reference_in x) acts'.reads w ticks)) (sym done.3)
      (reads_behind ((r, meaning.writes t (token z)) ∷ under) done.0 done.1 done.2 t state done.4 done.5)

module _ (types : Types) (owner : ClosedType → Option (List ℕ)) (acts : List Act) (f : Frame) (fs : List Frame)
    (sizes : List ℕ) (size : ℕ) (under : Made) (w : World) (ticks : ℕ) where
  pub refers_well : RefersWell types owner acts f fs sizes size under w ticks
  unfolding follows
  refers_well typed running x path t u z is kind copy on leads state =
      let k = length fs in
      let m = memory_of w.store in
      let told = told_of (lying_in w) w.store in
      let frame = frame_is sizes fs size w running state.sized in
      let seen = names.looks ClosedType types owner acts (hold_at (f ∷ fs)) (type_at (f ∷ fs)) under m told typed.forms
      typed.cases typed.lawful k x (subst IsReadable (sym (own_hold f fs x)) is) [] (meaning.reads t (token z))
      (own_type f fs x ∙ kind) copy state.safe in
      let done = readers.moves ClosedType types owner acts (hold_at (f ∷ fs)) (type_at (f ∷ fs)) under m told typed.forms
      typed.cases seen.0 t z path u leads on seen.2 in
      let there = held_as (m.at (name_of k x)) seen.0 done.0 done.1 seen.1 done.2 in
      let last : IsIn types owner acts (f ∷ fs) sizes
      ((reference done.0 (place_along done.1 path), meaning.reads u (token z)) ∷ under) w = record {
        keeps = state.keeps;
        sized = state.sized;
        safe = done.3;
      } in
      subst (λ o. Good owner
      (λ (v : Value) n. IsIn types owner acts (f ∷ fs) sizes ((v, meaning.reads u (token z)) ∷ under) n)
      (follows (needing (along o (λ one. Some (reference_along one path))) pure w ticks)
      (λ one. pure (referring one))))
      (sym (held_is types owner acts f fs sizes size under w ticks x done.0 done.1 frame there)) last

  pub operands_copy_well : OperandsCopyWell types owner acts f fs sizes size under w ticks
  operands_copy_well typed running x t z is kind free on state =
      let k = length fs in
      let m = memory_of w.store in
      let told = told_of (lying_in w) w.store in
      let frame = frame_is sizes fs size w running state.sized in
      let done = names.looks_behind ClosedType types owner acts (hold_at (f ∷ fs)) (type_at (f ∷ fs)) under m told
      typed.forms typed.cases typed.lawful k x (subst IsReadable (sym (own_hold f fs x)) is) t z
      (own_type f fs x ∙ kind) on [] t refl free state.safe in
      let r = reference done.0 done.1 in
      let there : m.at (name_of (frame_in w) x) ≡ Some r =
      subst (λ n. m.at (name_of n x) ≡ Some r) (sym frame) done.3 in
      let stands : at done.1 w.store ≡ Some done.2 =
      subst (λ (p : List ℕ). along (m.at done.1.base) (part p) ≡ Some done.2) (append-nil done.1.path) done.4 in (
        r,
        ap (λ o. needing (along o (part [])) pure w ticks) there,
        λ later. reads_behind types owner acts (f ∷ fs) sizes under w later under done.0 done.1 done.2 t state stands
            done.5,
      )
