-- Borrows that the meaning opens.
use Rattle.std.proofs.Common.{◌≡◌, ℕ, true, false, List, [], ◌∷◌, length, Option, Some, refl, sym, ap, subst, ◌∙◌}
use Rattle.au_effects.specs.Parts.{along}
use Rattle.au_effects.specs.Places.{base_at}
use Rattle.au_effects.specs.References.{name_along, reference_at, reference_in}
use Rattle.au_effects.specs.Values.{Base, Place, content_of, name_of, reference}
use Rattle.au_effects.specs.Worlds.{opens}
use Rattle.au_places.specs.Memories.{Memory}
use Rattle.au_running_types.specs.Running.{token}
use Rattle.au_types.specs.Types as meaning
use Rattle.au_types.specs.Types.{Meaning}
use Rattle.au_type_texts.specs.Types.{ClosedType}
use Rattle.au_syntax.specs.declared.types.Access.{Access}
use Rattle.au_syntax.specs.declared.types.Access.TheVariants as access
use Rattle.au_memory.specs.Forests.{Made, shut}
use Rattle.au_memory.specs.Loans.{Types}
use Rattle.au_lending.specs.Holding.{with_hold}
use Rattle.au_lending.specs.Laws.{IsReadable, also_watched}
use Rattle.au_borrows.specs.Orders.{Act}
use Rattle.au_borrows.specs.Told.{Told, with_opening}
use Rattle.au_frames.specs.Safe.{IsSafe}
use Rattle.au_frames.proofs.NameLemmas as names
use Rattle.au_agreeing.specs.Stores.{memory_of, told_of}
use Rattle.au_agreeing.proofs.StoreLemmas.{same_memory}
use Rattle.au_agreeing.proofs.ToldLemmas.{opened_told}
use Rattle.au_frames.specs.Frames.{Frame, hold_at, standing, type_at}
use Rattle.au_frames.proofs.FrameLemmas.{own_hold, own_type}
use Rattle.au_meaning.specs.Acts.{frame_in, with_borrow}
use Rattle.au_meaning.specs.Ticks.{asks, does, follows, needing, pure, ◌>>=◌, ◌>>◌}
use Rattle.au_meaning.specs.Worlds.{Store, Value, World}
use Rattle.au_sound_calls.proofs.SoundLemmas.{sound_as}
use Rattle.au_safe_acts.specs.Good.{Good, IsIn, lying_in, writes_to}
use Rattle.au_safe_acts.specs.Lending.{LendsWell, ReadsWell, RelendsWell}
use Rattle.au_safe_acts.proofs.GoodLemmas.{frame_is}
use Rattle.au_safe_acts.proofs.NameLemmas.{stands}

-- a borrow more changes no memory
opened_memory : (s : Store) → memory_of (opens s) ≡ memory_of s
opened_memory s = same_memory (memory_of (opens s)) (memory_of s) at (λ i. refl)
  where
    at : (base : Base) → base_at base (opens s) ≡ base_at base s
    at (name_of frame x) = refl
    at (content_of i) = refl

module _ (types : Types) (owner : ClosedType → Option (List ℕ)) (acts : List Act) (f : Frame) (fs : List Frame)
    (sizes : List ℕ) (size : ℕ) (under : Made) (w : World) (ticks : ℕ) where
  abbrev k : ℕ
  k = length fs

  abbrev m : Memory (List ℕ)
  m = memory_of w.store

  abbrev u : Told ClosedType
  u = told_of (lying_in w) w.store

  -- a world in which one more borrow lies open
  opened_in : (g : Frame) (made : Made) (how : Access) (to : Place)
      → (state : IsIn types owner acts (f ∷ fs) sizes under w)
      → IsSafe types owner acts (hold_at (g ∷ fs)) (type_at (g ∷ fs)) made m (with_opening (writes_to how) to u)
      → IsIn types owner acts (g ∷ fs) sizes made (with_borrow how to w)
  opened_in g made how to state safe =
      sound_as ClosedType types owner acts (hold_at (g ∷ fs)) (type_at (g ∷ fs)) made
      (record { number = w.store.borrows; writes = writes_to how; place = to } ∷ lying_in w) sizes (opens w.store) m
      (with_opening (writes_to how) to u) state.keeps state.sized (opened_memory w.store)
      (opened_told w.store state.keeps (lying_in w) (writes_to how) to) safe

  pub lends_well : LendsWell types owner acts f fs sizes size under w ticks
  unfolding follows
  lends_well running a older acts_are x is state =
      let frame = frame_is sizes fs size w running state.sized in
      let done = names.lends ClosedType types owner acts (hold_at (f ∷ fs)) (type_at (f ∷ fs)) under m u a older acts_are
      k x (own_hold f fs x ∙ is) state.safe in
      let typed = subst (λ t. IsSafe types owner acts (with_hold k x (shut a.token) (hold_at (f ∷ fs)))
      (type_at (f ∷ fs))
      ((reference u.next_borrow (name_along k x []), meaning.writes t (token a.token)) ∷ under) m (with_opening true (name_along k x []) u))
      (own_type f fs x) done in
      let placed = subst (λ n. IsSafe types owner acts (with_hold k x (shut a.token) (hold_at (f ∷ fs)))
      (type_at (f ∷ fs))
      ((reference u.next_borrow (name_along n x []), meaning.writes (f.type x) (token a.token)) ∷ under) m
      (with_opening true (name_along n x []) u)) (sym frame) typed in
      opened_in (standing x (shut a.token) f)
      ((reference w.store.borrows (name_along (frame_in w) x []), meaning.writes (f.type x) (token a.token)) ∷ under)
      access.Write (name_along (frame_in w) x []) state
      (stands types owner acts f fs
      ((reference u.next_borrow (name_along (frame_in w) x []), meaning.writes (f.type x) (token a.token)) ∷ under) m
      (with_opening true (name_along (frame_in w) x []) u) x (shut a.token) placed)

  pub reads_well : ReadsWell types owner acts f fs sizes size under w ticks
  unfolding follows
  reads_well running a older acts_are x is state =
      let frame = frame_is sizes fs size w running state.sized in
      let open' = subst IsReadable (sym (own_hold f fs x)) is in
      let done = names.reads ClosedType types owner acts (hold_at (f ∷ fs)) (type_at (f ∷ fs)) under m u a older acts_are
      k x open' state.safe in
      let held = subst (λ h. IsSafe types owner acts (with_hold k x (also_watched a.token h) (hold_at (f ∷ fs)))
      (type_at (f ∷ fs))
      ((reference u.next_borrow (name_along k x []), meaning.reads (type_at (f ∷ fs) k x) (token a.token)) ∷ under) m
      (with_opening false (name_along k x []) u)) (own_hold f fs x) done in
      let h = also_watched a.token (f.hold x) in
      let typed = subst (λ t. IsSafe types owner acts (with_hold k x h (hold_at (f ∷ fs))) (type_at (f ∷ fs))
      ((reference u.next_borrow (name_along k x []), meaning.reads t (token a.token)) ∷ under) m (with_opening false (name_along k x []) u))
      (own_type f fs x) held in
      let placed = subst (λ n. IsSafe types owner acts (with_hold k x h (hold_at (f ∷ fs))) (type_at (f ∷ fs))
      ((reference u.next_borrow (name_along n x []), meaning.reads (f.type x) (token a.token)) ∷ under) m
      (with_opening false (name_along n x []) u)) (sym frame) typed in
      opened_in (standing x h f)
      ((reference w.store.borrows (name_along (frame_in w) x []), meaning.reads (f.type x) (token a.token)) ∷ under)
      access.Read (name_along (frame_in w) x []) state
      (stands types owner acts f fs
      ((reference u.next_borrow (name_along (frame_in w) x []), meaning.reads (f.type x) (token a.token)) ∷ under) m
      (with_opening false (name_along (frame_in w) x []) u) x h placed)

  pub relends_well : RelendsWell types owner acts f fs sizes size under w ticks
  unfolding follows
  relends_well forms running a older acts_are x t y is typed on state =
      let frame = frame_is sizes fs size w running state.sized in
      let done = names.relends ClosedType types owner acts (hold_at (f ∷ fs)) (type_at (f ∷ fs)) under m u forms a older
      acts_are k x t y (own_hold f fs x ∙ is) (own_type f fs x ∙ typed) on state.safe in
      let there : reference_at (frame_in w) x w.store ≡ Some (done.0, done.1) =
      subst (λ n. reference_at n x w.store ≡ Some (done.0, done.1)) (sym frame)
      (ap (λ o. along o reference_in) done.2) in
      let last = opened_in (standing x (shut a.token) f)
      ((reference w.store.borrows done.1, meaning.writes t (token a.token)) ∷ under) access.Write done.1 state
      (stands types owner acts f fs ((reference u.next_borrow done.1, meaning.writes t (token a.token)) ∷ under) m
      (with_opening true done.1 u) x (shut a.token) done.3) in
      subst (λ o. Good owner (λ (v : Value) n. IsIn types owner acts (standing x (shut a.token) f ∷ fs) sizes
      ((v, meaning.writes t (token a.token)) ∷ under) n)
      (follows (needing (along o (λ one. Some one.1)) pure w ticks)
      (λ place. asks (λ world. Some (reference world.store.borrows place))
      >>= (λ value. does (with_borrow access.Write place) >> pure value)))) (sym there) last
