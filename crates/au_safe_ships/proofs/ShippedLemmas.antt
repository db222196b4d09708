-- Shipped calls at the types at which the judgement lets them be called.
use Rattle.std.proofs.Common.{◌≡◌, ◌⊎◌, inl, inr, ℕ, true, List, [], ◌∷◌, ◌++◌, Option, Some, refl, sym, ap, subst, ◌∙◌}
use Rattle.std.specs.Prelude.{None}
use Rattle.au_base.specs.declared.kinds.IntKind.TheVariants.{Index, Nat8}
use Rattle.au_shipped.specs.declared.prims.ShippedCall.{ShippedCall}
use Rattle.au_shipped.specs.declared.prims.ShippedCall.TheVariants as prim
use Rattle.au_effects.specs.Answers.{Answer, waits}
use Rattle.au_effects.specs.Calls.{shipped}
use Rattle.au_effects.specs.Numbers.{converted_value, wrapped_around}
use Rattle.au_running_types.specs.Running.{token}
use Rattle.au_types.specs.declared.types.Region.{Region}
use Rattle.au_types.specs.Types as type
use Rattle.au_types.specs.Types.{Meaning, integer, reads, writes}
use Rattle.au_type_texts.specs.Types.{ClosedType}
use Rattle.au_memory.specs.Forests.{Made}
use Rattle.au_memory.specs.Loans.{Types}
use Rattle.au_lending.specs.Records.{onto, types_made}
use Rattle.au_borrows.specs.Orders.{Act, is_active}
use Rattle.au_running_judgements.specs.Frames.{Frame, hold_at, type_at}
use Rattle.au_meaning.specs.Acts.{ships_call, told}
use Rattle.au_meaning.specs.Worlds.{Value, World}
use Rattle.au_running_judgements.specs.Sound.{AreTyped, GoesWell}
use Rattle.au_running_judgements.proofs.BoxLemmas as boxes
use Rattle.au_running_judgements.proofs.BufferLemmas as buffers
use Rattle.au_running_judgements.proofs.GrantLemmas as grants
use Rattle.au_running_judgements.proofs.OperationLemmas as operations
use Rattle.au_running_judgements.proofs.PrintLemmas as printing
use Rattle.au_running_judgements.specs.Good.{Good, IsIn, lying_in}
use Rattle.au_running_judgements.specs.Making.{values_of}
use Rattle.au_running_judgements.proofs.CallLemmas.{comes_safely}
use Rattle.au_running_judgements.specs.Regions.{IsToken}
use Rattle.au_running_judgements.proofs.AnsweringLemmas.{answers_well, hears_well}
use Rattle.au_running_judgements.proofs.RegionLemmas.{references_have_tokens}
use Rattle.au_running_judgements.specs.Known.{InScope}
use Rattle.au_running_judgements.specs.Shipping.{Ships}
use Rattle.au_safe_ships.specs.Shipped.{ShipsWell}
use Rattle.au_safe_ships.proofs.NamedLemmas.{no_token}

-- ---- values of such types

none_made : (made : Made) → types_made made ≡ [] → made ≡ []
none_made [] h = refl
none_made (v ∷ vs) h = absurd cc

one_made : (made : Made) (j : Meaning) → types_made made ≡ j ∷ [] → (a : Value) × (made ≡ (a, j) ∷ [])
one_made [] j h = absurd cc
one_made (v ∷ []) j h = let e : v.1 ≡ j = cc in (v.0, ap (λ (t : Meaning). (v.0, t) ∷ []) e)
one_made (v ∷ u ∷ more) j h = absurd cc

two_made : (made : Made) (j k : Meaning) → types_made made ≡ j ∷ k ∷ []
    → (a : Value) × (b : Value) × (made ≡ (a, j) ∷ (b, k) ∷ [])
two_made [] j k h = absurd cc
two_made (v ∷ vs) j k h =
    let e : v.1 ≡ j = cc in
    let left : types_made vs ≡ k ∷ [] = cc in
    let rest = one_made vs k left in (
      v.0,
      rest.0,
      ap (λ (t : Meaning). (v.0, t) ∷ vs) e ∙ ap (λ (us : Made). (v.0, j) ∷ us) rest.1,
    )

three_made : (made : Made) (j k l : Meaning) → types_made made ≡ j ∷ k ∷ l ∷ []
    → (a : Value) × (b : Value) × (c : Value) × (made ≡ (a, j) ∷ (b, k) ∷ (c, l) ∷ [])
three_made [] j k l h = absurd cc
three_made (v ∷ vs) j k l h =
    let e : v.1 ≡ j = cc in
    let left : types_made vs ≡ k ∷ l ∷ [] = cc in
    let rest = two_made vs k l left in (
      v.0,
      rest.0,
      rest.1,
      ap (λ (t : Meaning). (v.0, t) ∷ vs) e ∙ ap (λ (us : Made). (v.0, j) ∷ us) rest.2,
    )

-- a region that may be used, where there is a reference of it, is a token that is active
active_token : (acts : List Act) (region : Region) → InScope (is_active acts) region → IsToken region
    → (z : ℕ) × (region ≡ token z) × (is_active acts z ≡ true)
active_token acts region (inl e) has = absurd (no_token (subst IsToken e has))
active_token acts region (inr scoped) has = scoped

module _ (types : Types) (owner : ClosedType → Option (List ℕ)) (acts : List Act) (fs : List Frame)
    (sizes : List ℕ) (under : Made) (w : World) (ticks : ℕ) (typed : AreTyped types) where
  -- these are under way
  abbrev Ins : Made → Type 0
  Ins made = IsIn types owner acts fs sizes made w

  -- a call of these arguments gives a value of this type
  abbrev Goes : ShippedCall → Option ClosedType → List Value → Meaning → Type 0
  Goes call born args t =
      Good owner (λ (v : Value) n. IsIn types owner acts fs sizes ((v, t) ∷ under) n) (ships_call call born args w ticks)

  -- what a call comes to that is no operation
  abbrev Well : ShippedCall → Option ClosedType → List Value → Meaning → Type 0
  Well call born args t =
      GoesWell types owner acts (hold_at fs) (type_at fs) t under (lying_in w) sizes
      (shipped (λ text. text) call born w.store args)

  answered : (call : ShippedCall) (born : Option ClosedType) (args : List Value) (t : Meaning) → Well call born args t
      → Good owner (λ (v : Value) n. IsIn types owner acts fs sizes ((v, t) ∷ under) n)
      (told args (shipped (λ text. text) call born w.store args) w ticks)
  answered call born args t well =
      answers_well types owner acts fs sizes under w ticks t args (shipped (λ text. text) call born w.store args) well

  -- ---- by the number of arguments

  same_call : (call : ShippedCall) (born o : Option ClosedType) (made ms : Made) (t : Meaning) → born ≡ o → made ≡ ms
      → Goes call o (values_of ms) t → Goes call born (values_of made) t
  same_call call born o made ms t kind is good =
      subst (λ (xs : Made). Goes call born (values_of xs) t) (sym is)
      (subst (λ (x : Option ClosedType). Goes call x (values_of ms) t) (sym kind) good)

  by_none : (call : ShippedCall) (born o : Option ClosedType) (made : Made) (t : Meaning) → born ≡ o
      → types_made made ≡ [] → Ins (onto made under) → (Ins under → Goes call o [] t)
      → Goes call born (values_of made) t
  by_none call born o made t kind are state go =
      let is = none_made made are in
      same_call call born o made [] t kind is (go (subst (λ (xs : Made). Ins (onto xs under)) is state))

  by_one : (call : ShippedCall) (born o : Option ClosedType) (made : Made) (j t : Meaning) → born ≡ o
      → types_made made ≡ j ∷ [] → Ins (onto made under)
      → ((a : Value) → Ins ((a, j) ∷ under) → Goes call o (a ∷ []) t) → Goes call born (values_of made) t
  by_one call born o made j t kind are state go =
      let is = one_made made j are in
      same_call call born o made ((is.0, j) ∷ []) t kind is.1
      (go is.0 (subst (λ (xs : Made). Ins (onto xs under)) is.1 state))

  by_two : (call : ShippedCall) (born o : Option ClosedType) (made : Made) (j k t : Meaning) → born ≡ o
      → types_made made ≡ j ∷ k ∷ [] → Ins (onto made under)
      → ((a b : Value) → Ins ((b, k) ∷ (a, j) ∷ under) → Goes call o (a ∷ b ∷ []) t)
      → Goes call born (values_of made) t
  by_two call born o made j k t kind are state go =
      let is = two_made made j k are in
      same_call call born o made ((is.0, j) ∷ (is.1, k) ∷ []) t kind is.2
      (go is.0 is.1 (subst (λ (xs : Made). Ins (onto xs under)) is.2 state))

  by_three : (call : ShippedCall) (born o : Option ClosedType) (made : Made) (j k l t : Meaning) → born ≡ o
      → types_made made ≡ j ∷ k ∷ l ∷ [] → Ins (onto made under)
      → ((a b c : Value) → Ins ((c, l) ∷ (b, k) ∷ (a, j) ∷ under) → Goes call o (a ∷ b ∷ c ∷ []) t)
      → Goes call born (values_of made) t
  by_three call born o made j k l t kind are state go =
      let is = three_made made j k l are in
      same_call call born o made ((is.0, j) ∷ (is.1, k) ∷ (is.2, l) ∷ []) t kind is.3
      (go is.0 is.1 is.2 (subst (λ (xs : Made). Ins (onto xs under)) is.3 state))

  -- ---- references

  writes_now : (newer : Made) (r : Value) (of : Meaning) (region : Region) → InScope (is_active acts) region
      → Ins (newer ++ (r, writes of region) ∷ under)
      → (z : ℕ) × (region ≡ token z) × (is_active acts z ≡ true) × Ins (newer ++ (r, writes of (token z)) ∷ under)
  writes_now newer r of region scoped state =
      let has = (references_have_tokens types owner acts fs sizes newer under w typed r of region).1 state in
      let one = active_token acts region scoped has in
      (one.0, one.1, one.2, subst (λ (g : Region). Ins (newer ++ (r, writes of g) ∷ under)) one.1 state)

  reads_now : (newer : Made) (r : Value) (of : Meaning) (region : Region) → InScope (is_active acts) region
      → Ins (newer ++ (r, reads of region) ∷ under)
      → (z : ℕ) × (region ≡ token z) × (is_active acts z ≡ true) × Ins (newer ++ (r, reads of (token z)) ∷ under)
  reads_now newer r of region scoped state =
      let has = (references_have_tokens types owner acts fs sizes newer under w typed r of region).0 state in
      let one = active_token acts region scoped has in
      (one.0, one.1, one.2, subst (λ (g : Region). Ins (newer ++ (r, reads of g) ∷ under)) one.1 state)

  -- ---- each call

  -- it is of this type
  retyped : (call : ShippedCall) (born : Option ClosedType) (args : List Value) (t u : Meaning) → t ≡ u
      → Goes call born args u → Goes call born args t
  retyped call born args t u is good = subst (λ (x : Meaning). Goes call born args x) (sym is) good

  ships : (call : ShippedCall) (born : Option ClosedType) (made : Made) (t : Meaning)
      → Ships types owner (is_active acts) call born (types_made made) t → Ins (onto made under)
      → Goes call born (values_of made) t
  ships prim.PrintText born made t h state =
      retyped prim.PrintText born (values_of made) t type.unit h.1.1
      (by_one prim.PrintText born None made type.text type.unit h.0 h.1.0 state
      (λ a at.
      answered prim.PrintText None (a ∷ []) type.unit ((printing.prints_texts ClosedType types owner acts
      (hold_at fs) (type_at fs) under (lying_in w) sizes w.store typed a).0 at)))
  ships prim.PrintLnText born made t h state =
      retyped prim.PrintLnText born (values_of made) t type.unit h.1.1
      (by_one prim.PrintLnText born None made type.text type.unit h.0 h.1.0 state
      (λ a at.
      answered prim.PrintLnText None (a ∷ []) type.unit ((printing.prints_texts ClosedType types owner acts
      (hold_at fs) (type_at fs) under (lying_in w) sizes w.store typed a).1 at)))
  ships prim.PrintBool born made t h state =
      retyped prim.PrintBool born (values_of made) t type.unit h.1.1
      (by_one prim.PrintBool born None made type.truth type.unit h.0 h.1.0 state
      (λ a at.
      answered prim.PrintBool None (a ∷ []) type.unit ((printing.prints_truths ClosedType types owner acts
      (hold_at fs) (type_at fs) under (lying_in w) sizes w.store typed a).0 at)))
  ships prim.PrintLnBool born made t h state =
      retyped prim.PrintLnBool born (values_of made) t type.unit h.1.1
      (by_one prim.PrintLnBool born None made type.truth type.unit h.0 h.1.0 state
      (λ a at.
      answered prim.PrintLnBool None (a ∷ []) type.unit ((printing.prints_truths ClosedType types owner acts
      (hold_at fs) (type_at fs) under (lying_in w) sizes w.store typed a).1 at)))
  ships prim.PrintInt born made t h state =
      retyped prim.PrintInt born (values_of made) t type.unit h.1.1.1
      (by_one prim.PrintInt born None made (integer h.1.0) type.unit h.0 h.1.1.0 state
      (λ a at.
      answered prim.PrintInt None (a ∷ []) type.unit ((printing.prints_numbers ClosedType types owner acts
      (hold_at fs) (type_at fs) under (lying_in w) sizes w.store typed a h.1.0).0 at)))
  ships prim.PrintLnInt born made t h state =
      retyped prim.PrintLnInt born (values_of made) t type.unit h.1.1.1
      (by_one prim.PrintLnInt born None made (integer h.1.0) type.unit h.0 h.1.1.0 state
      (λ a at.
      answered prim.PrintLnInt None (a ∷ []) type.unit ((printing.prints_numbers ClosedType types owner acts
      (hold_at fs) (type_at fs) under (lying_in w) sizes w.store typed a h.1.0).1 at)))
  ships (prim.Wrap op kind) born made t h state =
      retyped (prim.Wrap op kind) born (values_of made) t (integer kind) h.1
      (by_two (prim.Wrap op kind) born born made (integer kind) (integer kind) (integer kind) refl h.0 state
      (λ a b at. comes_safely types owner acts fs sizes under w ticks (integer kind) (wrapped_around op kind a
      b) (operations.wraps ClosedType types owner acts (hold_at fs) (type_at fs) under (lying_in w) sizes
      w.store typed op kind a b at)))
  ships (prim.Convert to) born made t h state =
      by_one (prim.Convert to) born born made (integer h.0) t refl h.1 state
      (λ a at. comes_safely types owner acts fs sizes under w ticks t (converted_value to a)
      (operations.converts ClosedType types owner acts (hold_at fs) (type_at fs) under (lying_in w) sizes
      w.store typed h.0 to t a h.2 at))
  ships prim.SurrenderRoot born made t h state =
      retyped prim.SurrenderRoot born (values_of made) t type.unit h.4
      (by_one prim.SurrenderRoot born None made h.0 type.unit h.1 h.3 state
      (λ a at.
      answered prim.SurrenderRoot None (a ∷ []) type.unit (grants.surrenders_roots ClosedType types owner acts
      (hold_at fs) (type_at fs) under (lying_in w) sizes w.store typed a h.0 h.2 at)))
  ships prim.Abort born made t h state =
      by_one prim.Abort born None made type.text t h.0 h.1 state
      (λ a at.
      answered prim.Abort None (a ∷ []) t (printing.aborts ClosedType types owner acts (hold_at fs) (type_at
      fs) under (lying_in w) sizes w.store typed a t at))
  ships prim.SpanLength born made t h state =
      retyped prim.SpanLength born (values_of made) t (integer Index) h.2
      (by_one prim.SpanLength born None made type.text (integer Index) h.0 h.1 state
      (λ a at.
      answered prim.SpanLength None (a ∷ []) (integer Index) (printing.spans_have_lengths ClosedType types
      owner acts (hold_at fs) (type_at fs) under (lying_in w) sizes w.store typed a at)))
  ships prim.Swap born made t h state =
      by_two prim.Swap born None made (writes t h.1.0) t t h.0 h.1.2 state
      (λ a b at.
      let now = writes_now ((b, t) ∷ []) a t h.1.0 h.1.1 at in
      answered prim.Swap None (a ∷ b ∷ []) t (boxes.swaps ClosedType types owner acts (hold_at fs) (type_at
      fs) under (lying_in w) sizes w.store typed b a t now.0 now.2 now.3))
  ships prim.MakeBox born made t h state =
      by_one prim.MakeBox born (Some h.3.0) made h.0 t h.3.1 h.2 state
      (λ a at.
      answered prim.MakeBox (Some h.3.0) (a ∷ []) t (boxes.makes_boxes ClosedType types owner acts (hold_at
      fs) (type_at fs) under (lying_in w) sizes w.store typed a t h.0 h.3.0 h.1 h.3.2 at))
  ships prim.Unbox born made t h state =
      by_one prim.Unbox born None made h.0 t h.1 h.3 state
      (λ a at.
      answered prim.Unbox None (a ∷ []) t (boxes.unboxes ClosedType types owner acts (hold_at fs) (type_at fs)
      under (lying_in w) sizes w.store typed a h.0 t h.2 at))
  ships prim.BoxGet born made t h state =
      by_one prim.BoxGet born None made (reads h.0 h.2) t h.3 h.6 state
      (λ a at.
      let now = reads_now [] a (h.0) h.2 h.5 at in
      retyped prim.BoxGet None (a ∷ []) t (reads h.1 (token now.0)) (h.7 ∙ ap
      (λ (g : Region). reads h.1 g) now.1)
      (answered prim.BoxGet None (a ∷ []) (reads h.1 (token now.0)) (boxes.gets_contents ClosedType types
      owner acts (hold_at fs) (type_at fs) under (lying_in w) sizes w.store typed a h.0 h.1 now.0 h.4 now.2
      now.3)))
  ships prim.BoxGetMut born made t h state =
      by_one prim.BoxGetMut born None made (writes h.0 h.2) t h.3 h.6 state
      (λ a at.
      let now = writes_now [] a (h.0) h.2 h.5 at in
      retyped prim.BoxGetMut None (a ∷ []) t (writes h.1 (token now.0)) (h.7 ∙ ap
      (λ (g : Region). writes h.1 g) now.1)
      (answered prim.BoxGetMut None (a ∷ []) (writes h.1 (token now.0)) (boxes.lends_contents ClosedType types
      owner acts (hold_at fs) (type_at fs) under (lying_in w) sizes w.store typed a h.0 h.1 now.0 h.4 now.2
      now.3)))
  ships prim.MakeEmpty born made t h state =
      by_none prim.MakeEmpty born (Some h.3.0) made t h.3.1 h.2 state
      (λ at.
      answered prim.MakeEmpty (Some h.3.0) [] t (buffers.makes_buffers ClosedType types owner acts (hold_at
      fs) (type_at fs) under (lying_in w) sizes w.store typed t h.0 h.3.0 h.1 h.3.2 at))
  ships prim.DestroyEmpty born made t h state =
      retyped prim.DestroyEmpty born (values_of made) t type.unit h.5
      (by_one prim.DestroyEmpty born None made h.0 type.unit h.2 h.4 state
      (λ a at.
      answered prim.DestroyEmpty None (a ∷ []) type.unit (buffers.ends_buffers ClosedType types owner acts
      (hold_at fs) (type_at fs) under (lying_in w) sizes w.store typed a h.0 h.1 h.3 at)))
  ships prim.Length born made t h state =
      retyped prim.Length born (values_of made) t (integer Index) h.5
      (by_one prim.Length born None made (reads h.0 h.4.0) (integer Index) h.2 h.4.2 state
      (λ a at.
      let now = reads_now [] a (h.0) h.4.0 h.4.1 at in
      answered prim.Length None (a ∷ []) (integer Index) (buffers.have_lengths ClosedType types owner acts
      (hold_at fs) (type_at fs) under (lying_in w) sizes w.store typed a h.0 h.1 now.0 h.3 now.2 now.3)))
  ships prim.InsertBack born made t h state =
      retyped prim.InsertBack born (values_of made) t type.unit h.5
      (by_two prim.InsertBack born None made (writes h.0 h.4.0) h.1 type.unit h.2 h.4.2 state
      (λ a b at.
      let now = writes_now ((b, h.1) ∷ []) a (h.0) h.4.0 h.4.1 at in
      answered prim.InsertBack None (a ∷ b ∷ []) type.unit (buffers.inserts ClosedType types owner acts
      (hold_at fs) (type_at fs) under (lying_in w) sizes w.store typed b a h.0 h.1 now.0 h.3 now.2 now.3)))
  ships prim.RemoveBack born made t h state =
      by_one prim.RemoveBack born None made (writes h.0 h.3.0) t h.1 h.3.2 state
      (λ a at.
      let now = writes_now [] a (h.0) h.3.0 h.3.1 at in
      answered prim.RemoveBack None (a ∷ []) t (buffers.removes ClosedType types owner acts (hold_at fs)
      (type_at fs) under (lying_in w) sizes w.store typed a h.0 t now.0 h.2 now.2 now.3))
  ships prim.Nth born made t h state =
      by_two prim.Nth born None made (reads h.0 h.4.0) (integer Index) t h.1 h.4.2 state
      (λ a b at.
      let now = reads_now ((b, integer Index) ∷ []) a (h.0) h.4.0 h.4.1 at in
      answered prim.Nth None (a ∷ b ∷ []) t (buffers.copies_elements ClosedType types owner acts (hold_at fs)
      (type_at fs) under (lying_in w) sizes w.store typed b a h.0 t now.0 h.2 h.3 now.2 now.3))
  ships prim.ReplaceNth born made t h state =
      by_three prim.ReplaceNth born None made (writes h.0 h.3.0) (integer Index) t t h.1 h.3.2 state
      (λ a b c at.
      let now = writes_now ((c, t) ∷ (b, integer Index) ∷ []) a (h.0) h.3.0 h.3.1 at in
      answered prim.ReplaceNth None (a ∷ b ∷ c ∷ []) t (buffers.replaces ClosedType types owner acts (hold_at
      fs) (type_at fs) under (lying_in w) sizes w.store typed c b a h.0 t now.0 h.2 now.2 now.3))
  ships prim.AcquireTerminal born made t h state =
      by_one prim.AcquireTerminal born (Some h.4.0) made (writes h.0 h.3.0) t h.4.1 h.3.2 state
      (λ a at.
      let now = writes_now [] a (h.0) h.3.0 h.3.1 at in
      answered prim.AcquireTerminal (Some h.4.0) (a ∷ []) t (grants.acquires_terminals ClosedType types owner
      acts (hold_at fs) (type_at fs) under (lying_in w) sizes w.store typed a h.0 t now.0 h.4.0 h.1 h.2 now.2
      h.4.2 now.3))
  ships prim.ReadByte born made t h state =
      by_one prim.ReadByte born None made (writes h.0 h.3.0) t h.1 h.3.2 state
      (λ a at.
      let now = writes_now [] a (h.0) h.3.0 h.3.1 at in
      let comes = grants.reads_bytes ClosedType types owner acts (hold_at fs) (type_at fs) under (lying_in w)
      sizes w.store typed a h.0 t now.0 h.2 h.4 now.2 now.3 in subst
      (λ (x : Answer (List ℕ) ClosedType). Good owner
      (λ (v : Value) n. IsIn types owner acts fs sizes ((v, t) ∷ under) n) (told (a ∷ []) x w ticks)) (sym
      comes.0) (hears_well types owner acts fs sizes under w ticks t (a ∷ []) comes.1))
  ships prim.WriteByte born made t h state =
      retyped prim.WriteByte born (values_of made) t type.unit h.4
      (by_two prim.WriteByte born None made (writes h.0 h.3.0) (integer Nat8) type.unit h.1 h.3.2 state
      (λ a b at.
      let now = writes_now ((b, integer Nat8) ∷ []) a (h.0) h.3.0 h.3.1 at in
      answered prim.WriteByte None (a ∷ b ∷ []) type.unit (grants.writes_bytes ClosedType types owner acts
      (hold_at fs) (type_at fs) under (lying_in w) sizes w.store typed b a h.0 now.0 h.2 now.2 now.3)))
  ships prim.ReleaseTerminal born made t h state =
      retyped prim.ReleaseTerminal born (values_of made) t type.unit h.4
      (by_one prim.ReleaseTerminal born None made h.0 type.unit h.1 h.3 state
      (λ a at.
      answered prim.ReleaseTerminal None (a ∷ []) type.unit (grants.releases_terminals ClosedType types owner
      acts (hold_at fs) (type_at fs) under (lying_in w) sizes w.store typed a h.0 h.2 at)))

module _ (types : Types) (owner : ClosedType → Option (List ℕ)) (acts : List Act) (fs : List Frame)
    (sizes : List ℕ) (under : Made) (w : World) (ticks : ℕ) where
  pub ships_well : ShipsWell types owner acts fs sizes under w ticks
  ships_well typed call born made t h state =
      ships types owner acts fs sizes under w ticks typed call born made t h state
