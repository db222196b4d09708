-- Forms of expressions over names and references, and what calls do with arguments.
use Rattle.std.proofs.Common.{◌≡◌, inl, inr, ℕ, ◌==◌, Bool, true, false, List, [], ◌∷◌}
use Rattle.std.proofs.Common.{Option, Some, None, refl, sym, ap, subst, ◌∙◌, if◌then◌else◌}
use Rattle.au_effects.specs.References.{reference_in, referring}
use Rattle.au_running_types.specs.Running.{token}
use Rattle.au_type_texts.specs.Types.{ClosedType}
use Rattle.au_types.specs.declared.types.Region.{Region}
use Rattle.au_types.specs.Types.{Meaning, reads, writes}
use Rattle.au_ahead.proofs.ReadyLemmas as ready
use Rattle.au_lives.specs.Mentions.{Counts, borrowed_by, one_look, plus}
use Rattle.au_syntax.specs.declared.expressions.BorrowMode.{BorrowMode}
use Rattle.au_syntax.specs.declared.expressions.BorrowMode.TheVariants as mode
use Rattle.au_syntax.specs.Plain.{Bytes}
use Rattle.au_memory.specs.Forests as forest
use Rattle.au_memory.specs.Forests.{Made, shut}
use Rattle.au_memory.specs.Loans.{Types}
use Rattle.au_lending.specs.Laws.{IsReadable, also_watched}
use Rattle.au_lending.specs.Records.{onto, types_made}
use Rattle.au_lending.specs.Seeing.{LeadsOn}
use Rattle.au_borrows.specs.Orders.{Act, is_active}
use Rattle.au_running_judgements.specs.Frames.{Frame}
use Rattle.au_meaning.specs.Acts as meaning
use Rattle.au_meaning.specs.Acts.{lends, looks, makes_value, refers, ships_call}
use Rattle.au_meaning.specs.Expressions as evaluator
use Rattle.au_meaning.specs.Expressions.{calls, copies, looks_into, mentions, operand, reaches}
use Rattle.au_meaning.specs.Names.{Variable, path_numbers}
use Rattle.au_meaning.specs.Ticks.{Action, follows, needing, pure, tick, ◌>>=◌}
use Rattle.au_meaning.specs.Views as views
use Rattle.au_meaning.specs.Views.{Callee, View, invokes, makes, ships}
use Rattle.au_meaning.specs.Worlds.{Value, World}
use Rattle.au_running_judgements.specs.Good.{Good, IsRunning, lying_in}
use Rattle.au_running_judgements.specs.Making.{values_of}
use Rattle.au_running_judgements.proofs.GoodLemmas.{good_needing, good_so, good_then, good_uncut}
use Rattle.au_running_judgements.specs.Expressions.{Bears, Borrows, IsNamed, LooksInto, Mentions, Performs, Reaches}
use Rattle.au_running_judgements.specs.Expressions.{Refers}
use Rattle.au_running_judgements.specs.Known.{Callables, InScope, IsReference}
use Rattle.au_running_judgements.specs.Lives.{AreReady, Standing, stand}
use Rattle.au_running_judgements.specs.Uses.{behind, mentioned, where_of}
use Rattle.au_sound_expressions.specs.Actions.{ActionsAreSafe}
use Rattle.au_sound_expressions.specs.Safe.{AllWait, CallsSafe, Stands, frame}
use Rattle.au_sound_expressions.proofs.HoldLemmas.{is_readable, is_ready, kept_where, met_own}
use Rattle.au_sound_expressions.proofs.LeafLemmas.{In, Left, Safe, copies_safe, good_stays, look_safe}
use Rattle.au_sound_expressions.proofs.LeafLemmas.{plain_left, shut_left, ticks_well, watched_left}
use Rattle.au_running_judgements.specs.Held.{AllHeld, GoodHeld, IsCutSo, Permits}

module _ (types : Types) (owner : ClosedType → Option (List ℕ)) {V W : Type 0} (permits : Permits V W)
    (way : V) (ways : List V) (laws : ActionsAreSafe types owner)
    (a : Act) (older : List Act) (names : ℕ → Meaning) (fs : List Frame) (sizes : List ℕ) (size : ℕ)
    (running : IsRunning sizes fs size) (below : AllHeld permits ways fs) where
  abbrev active : ℕ → Bool
  active = is_active (a ∷ older)

  abbrev Ins : Standing → Made → World → Type 0
  Ins h under w = In types owner permits way ways laws a older names fs sizes size running below h under w

  abbrev Lefts : Meaning → Standing → (ℕ → ℕ) → (ℕ → Counts) → Made → Value → World → Type 0
  Lefts t h consumed rest under v n = Left types owner permits way ways laws a older names fs sizes size running
      below t h
      consumed rest under v n

  abbrev IsSafe : (ℕ → Counts) → (Meaning → Type 0) → Action Value → Type 0
  IsSafe counts A action = Safe types owner permits way ways laws a older names fs sizes size running below counts A
      action

  -- ---- references in names

  -- What stands behind the reference in a name is copied.
  pub behind_good : (h : Standing) (x : ℕ) (path : List ℕ) (one of t : Meaning) (region : Region) (under : Made)
      (w : World) (ticks : ℕ) → IsReference types one of region → InScope active region → names x ≡ one
      → IsReadable (h x) → LeadsOn types of path t → types.is_free t ≡ true → Ins h under w
      → GoodHeld types owner permits (way ∷ ways) (λ (v : Value) n. Ins h ((v, t) ∷ under) n)
      (follows (refers x path w ticks) meaning.reads)
  behind_good h x path one of t region under w ticks (inl writer) (inl static) named is leads free state =
      absurd (laws.named_statics (a ∷ older) (frame h names) fs sizes size under w x of is
      (inl (named ∙ (writer ∙ ap (writes of) static))) state)
  behind_good h x path one of t region under w ticks (inl writer) (inr scoped) named is leads free state =
      good_uncut owner _ (λ (v : Value) n. Ins h ((v, t) ∷ under) n) (follows (refers x path w ticks) meaning.reads)
      (laws.writers_read (a ∷ older) (frame h names) fs sizes size under w ticks laws.typed
      running x path of t scoped.0 is
      (named ∙ (writer ∙ ap (writes of) scoped.1)) scoped.2 leads free state)
  behind_good h x path one of t region under w ticks (inr reader) (inl static) named is leads free state =
      absurd (laws.named_statics (a ∷ older) (frame h names) fs sizes size under w x of is
      (inr (named ∙ (reader.0 ∙ ap (reads of) static))) state)
  behind_good h x path one of t region under w ticks (inr reader) (inr scoped) named is leads free state =
      good_uncut owner _ (λ (v : Value) n. Ins h ((v, t) ∷ under) n) (follows (refers x path w ticks) meaning.reads)
      (laws.readers_read (a ∷ older) (frame h names) fs sizes size under w ticks laws.typed
      running x path of t scoped.0 is
      (named ∙ (reader.0 ∙ ap (reads of) scoped.1))
      (subst (λ r. types.is_free (reads of r) ≡ true) scoped.1 reader.1) scoped.2 leads free state)

  -- what `!` of a variable comes to
  deref_name : (h : Standing) (x : Variable) (one t : Meaning) (region : Region) (rest : ℕ → Counts) (under : Made)
      (w : World) (ticks : ℕ) → IsReference types one t region → InScope active region → names x.number ≡ one
      → types.is_free t ≡ true → AreReady h (λ k. plus (where_of k (Some x) one_look) (rest k))
      → Stands permits way active h names → Ins h under w
      → GoodHeld types owner permits (way ∷ ways) (λ (v : Value) n. Ins h ((v, t) ∷ under) n)
      (follows (tick (looks x.number []) w ticks) (λ r. tick (needing (reference_in r) meaning.reads)))
  deref_name h x one t region rest under w ticks (inl writer) (inl static) named free met waits state =
      absurd (laws.named_statics (a ∷ older) (frame h names) fs sizes size under w x.number t
      (is_readable (h x.number) (ready.looks (stand (h x.number)) (rest x.number) (met_own x one_look h rest met)).0)
      (inl (named ∙ (writer ∙ ap (writes t) static))) state)
  deref_name h x one t region rest under w ticks (inl writer) (inr scoped) named free met waits state =
      let is = is_readable (h x.number)
      (ready.looks (stand (h x.number)) (rest x.number) (met_own x one_look h rest met)).0 in
      let mid = λ (r : Value) (n : World). Ins h under n
      × ((left : ℕ) → Good owner (λ (v : Value) m. Ins h ((v, t) ∷ under) m)
      (needing (reference_in r) meaning.reads n left)) in
      let q = λ (v : Value) (n : World). Ins h ((v, t) ∷ under) n in
      good_then owner _ mid q (tick (looks x.number []) w ticks) (λ r. tick (needing (reference_in r) meaning.reads))
      (ticks_well types owner permits way ways laws a older names fs sizes size running below mid (looks x.number [])
      h under
      w ticks waits state
      (λ left. good_uncut owner _ mid (looks x.number [] w left)
      (laws.writers_looked (a ∷ older) (frame h names) fs sizes size under w left
      running x.number t
      scoped.0 is (named ∙ (writer ∙ ap (writes t) scoped.1)) scoped.2 free state)))
      (λ r n left both. ticks_well types owner permits way ways laws a older names fs sizes size running below q
      (needing (reference_in r) meaning.reads) h under n left waits both.0
      (λ more. good_uncut owner _ q (needing (reference_in r) meaning.reads n more) (both.1 more)))
  deref_name h x one t region rest under w ticks (inr reader) (inl static) named free met waits state =
      absurd (laws.named_statics (a ∷ older) (frame h names) fs sizes size under w x.number t
      (is_readable (h x.number) (ready.looks (stand (h x.number)) (rest x.number) (met_own x one_look h rest met)).0)
      (inr (named ∙ (reader.0 ∙ ap (reads t) static))) state)
  deref_name h x one t region rest under w ticks (inr reader) (inr scoped) named free met waits state =
      let is = is_readable (h x.number)
      (ready.looks (stand (h x.number)) (rest x.number) (met_own x one_look h rest met)).0 in
      let typed = laws.typed in
      let u = reads t (token scoped.0) in
      let mid = λ (r : Value) (n : World). Ins h ((r, reads t (token scoped.0)) ∷ under) n in
      let q = λ (v : Value) (n : World). Ins h ((v, t) ∷ under) n in
      good_then owner _ mid q (tick (looks x.number []) w ticks) (λ r. tick (needing (reference_in r) meaning.reads))
      (ticks_well types owner permits way ways laws a older names fs sizes size running below mid (looks x.number [])
      h under
      w ticks waits state
      (λ left. good_uncut owner _ mid (looks x.number [] w left)
      (laws.looked (a ∷ older) (frame h names) fs sizes size under w left typed.forms
      typed.cases typed.lawful running x.number [] (reads t (token scoped.0)) is
      (named ∙ (reader.0 ∙ ap (reads t) scoped.1))
      (subst (λ r. types.is_free (reads t r) ≡ true) scoped.1 reader.1) state)))
      (λ r n left seen. ticks_well types owner permits way ways laws a older names fs sizes size running below q
      (needing (reference_in r) meaning.reads) h ((r, reads t (token scoped.0)) ∷ under) n left waits seen
      (λ more. good_uncut owner _ q (needing (reference_in r) meaning.reads n more)
      (laws.copied (a ∷ older) (frame h names ∷ fs) sizes under n more laws.typed r t
      scoped.0 free scoped.2 seen)))

  -- what stands behind a reference under way is copied
  deref_value : (h : Standing) (r : Value) (one t : Meaning) (region : Region) (under : Made) (w : World) (ticks : ℕ)
      → IsReference types one t region → InScope active region → types.is_free t ≡ true → Ins h ((r, one) ∷ under) w
      → GoodHeld types owner permits (way ∷ ways) (λ (v : Value) n. Ins h ((v, t) ∷ under) n)
      (needing (reference_in r) meaning.reads w ticks)
  deref_value h r one t region under w ticks (inl writer) (inl static) free state =
      absurd (laws.statics (a ∷ older) (frame h names ∷ fs) sizes under w r t
      (inl (subst (λ (s : Meaning). Ins h ((r, s) ∷ under) w) (writer ∙ ap (writes t) static) state)))
  deref_value h r one t region under w ticks (inl writer) (inr scoped) free state =
      good_uncut owner _ (λ (v : Value) n. Ins h ((v, t) ∷ under) n) (needing (reference_in r) meaning.reads w ticks)
      (laws.writers_copied (a ∷ older) (frame h names ∷ fs) sizes under w ticks r t scoped.0
      free scoped.2
      (subst (λ (s : Meaning). Ins h ((r, s) ∷ under) w) (writer ∙ ap (writes t) scoped.1) state))
  deref_value h r one t region under w ticks (inr reader) (inl static) free state =
      absurd (laws.statics (a ∷ older) (frame h names ∷ fs) sizes under w r t
      (inr (subst (λ (s : Meaning). Ins h ((r, s) ∷ under) w) (reader.0 ∙ ap (reads t) static) state)))
  deref_value h r one t region under w ticks (inr reader) (inr scoped) free state =
      good_uncut owner _ (λ (v : Value) n. Ins h ((v, t) ∷ under) n) (needing (reference_in r) meaning.reads w ticks)
      (laws.copied (a ∷ older) (frame h names ∷ fs) sizes under w ticks laws.typed r t
      scoped.0 free scoped.2
      (subst (λ (s : Meaning). Ins h ((r, s) ∷ under) w) (reader.0 ∙ ap (reads t) scoped.1) state))

  module _ {I T C K : Type 0} (see : View I T C) (known : Callables I K) where
    -- a name alone
    pub mention_safe : (o : Option Variable) (note : T) (name : Bytes)
        → IsSafe (λ k. where_of k o (mentioned (see.is_free note)))
        (λ t. Mentions types owner see known names a.token active o note name t) (tick (mentions see note o name))
    mention_safe (Some x) note name t fits rest h under w ticks met waits state =
        ticks_well types owner permits way ways laws a older names fs sizes size running below
        (Lefts t h (λ k. (where_of k (Some x) (mentioned (see.is_free note))).consumed) rest under)
        (copies (see.is_free note) x.number) h under w ticks waits state
        (λ left. copies_safe types owner permits way ways laws a older names fs sizes size running below
        (see.is_free note) x
        t fits rest h under
        w left met waits state)
    mention_safe None note name t fits rest h under w ticks met waits state =
        let q = Lefts t h (λ k. 0) rest under in
        ticks_well types owner permits way ways laws a older names fs sizes size running below q
        (needing (see.constant note name) pure) h under w
        ticks waits state (λ left. good_needing owner _ q (see.constant note name) fits.0 pure w left fits.1
        (plain_left types owner permits way ways laws a older names fs sizes size running below fits.0 t fits.2 rest
        h under w
        met waits state))

    -- a part of a variable
    pub into_safe : (o : Option Variable) (fields : List Bytes)
        → IsSafe (λ k. where_of k o one_look)
        (λ t. LooksInto types owner see known names a.token active o fields t) (tick (looks_into see o fields))
    into_safe None fields t fits rest h under w ticks met waits state = absurd fits
    into_safe (Some x) fields t fits rest h under w ticks met waits state =
        let q = Lefts t h (λ k. (where_of k (Some x) one_look).consumed) rest under in
        ticks_well types owner permits way ways laws a older names fs sizes size running below q
        (looks_into see (Some x) fields) h under w ticks
        waits state (λ left. good_needing owner _ q (path_numbers (λ of. see.fields of 0) x.of fields) fits.0
        (looks x.number) w
        left fits.1 (look_safe types owner permits way ways laws a older names fs sizes size running below x fits.0 t
        (fits.2, fits.3) rest h
        under w left met waits state))

    -- `r->f`
    pub arrow_safe : (o : Option Variable) (fields : List Bytes)
        → IsSafe (λ k. where_of k o one_look)
        (λ t. (region : Region) × (types.is_free t ≡ true)
        × Reaches types owner see known names a.token active o fields region t
        (λ of. (one : Meaning) × IsNamed types owner see known names a.token active o one
        × IsReference types one of region))
        (tick (reaches see o fields >>= meaning.reads))
    arrow_safe None fields t fits rest h under w ticks met waits state = absurd fits.2
    arrow_safe (Some x) fields t fits rest h under w ticks met waits state =
        let q = Lefts t h (λ k. (where_of k (Some x) one_look).consumed) rest under in
        let is = is_readable (h x.number)
        (ready.looks (stand (h x.number)) (rest x.number) (met_own x one_look h rest met)).0 in
        let to = fits.2 in
        ticks_well types owner permits way ways laws a older names fs sizes size running below q
        (reaches see (Some x) fields >>= meaning.reads) h
        under w ticks waits state (λ left.
        subst (λ (p : Option (List ℕ)). GoodHeld types owner permits (way ∷ ways) q
        (follows (needing p (refers x.number) w left) meaning.reads))
        (sym to.2)
        (good_stays types owner permits way ways laws a older names fs sizes size running below
        (λ k. where_of k (Some x) one_look) rest h t under
        (follows (refers x.number to.0 w left) meaning.reads) (λ k. kept_where k (Some x) one_look refl) met waits
        (behind_good h x.number to.0 to.3.0 to.1 t fits.0 under w left to.3.2 to.4 to.3.1 is to.5 fits.1 state)))

    -- `&(r->f)`
    pub part_safe : (o : Option Variable) (fields : List Bytes)
        → IsSafe (λ k. where_of k o one_look)
        (λ t. (region : Region) × (part : Meaning) × (t ≡ reads part region)
        × Reaches types owner see known names a.token active o fields region part
        (λ of. IsNamed types owner see known names a.token active o (reads of region)
        × (types.is_free (reads of region) ≡ true)))
        (tick (reaches see o fields >>= (λ one. pure (referring one))))
    part_safe None fields t fits rest h under w ticks met waits state = absurd fits.3
    part_safe (Some x) fields t fits rest h under w ticks met waits state =
        let q = Lefts t h (λ k. (where_of k (Some x) one_look).consumed) rest under in
        let is = is_readable (h x.number)
        (ready.looks (stand (h x.number)) (rest x.number) (met_own x one_look h rest met)).0 in
        let to = fits.3 in
        ticks_well types owner permits way ways laws a older names fs sizes size running below q
        (reaches see (Some x) fields >>= (λ one. pure (referring one))) h under w ticks waits state (λ left.
        subst (λ (p : Option (List ℕ)). GoodHeld types owner permits (way ∷ ways) q
        (follows (needing p (refers x.number) w left) (λ one. pure (referring one)))) (sym to.2)
        (good_stays types owner permits way ways laws a older names fs sizes size running below
        (λ k. where_of k (Some x) one_look) rest h t under
        (follows (refers x.number to.0 w left) (λ one. pure (referring one))) (λ k. kept_where k (Some x) one_look refl)
        met waits (by fits.0 to.4 to.3.0 to.3.1 fits.2 left is)))
      where
        by : (region : Region) → InScope active region → names x.number ≡ reads fits.3.1 region
            → types.is_free (reads fits.3.1 region) ≡ true → t ≡ reads fits.1 region → (left : ℕ)
            → IsReadable (h x.number)
            → GoodHeld types owner permits (way ∷ ways) (λ (v : Value) n. Ins h ((v, t) ∷ under) n)
            (follows (refers x.number fits.3.0 w left) (λ one. pure (referring one)))
        by region (inl static) named free same left is =
            absurd (laws.named_statics (a ∷ older) (frame h names) fs sizes size under w x.number fits.3.1 is
            (inr (named ∙ ap (reads fits.3.1) static)) state)
        by region (inr scoped) named free same left is =
            subst (λ (s : Meaning). GoodHeld types owner permits (way ∷ ways)
            (λ (v : Value) n. Ins h ((v, s) ∷ under) n)
            (follows (refers x.number fits.3.0 w left) (λ one. pure (referring one))))
            (sym (same ∙ ap (reads fits.1) scoped.1))
            (good_uncut owner _ (λ (v : Value) n. Ins h ((v, reads fits.1 (token scoped.0)) ∷ under) n)
            (follows (refers x.number fits.3.0 w left) (λ one. pure (referring one)))
            (laws.parts (a ∷ older) (frame h names) fs sizes size under w left running
            x.number fits.3.0 fits.3.1 fits.1
            scoped.0 is (named ∙ ap (reads fits.3.1) scoped.1)
            (subst (λ r. types.is_free (reads fits.3.1 r) ≡ true) scoped.1 free) scoped.2 fits.3.5 state))

    -- ---- borrows

    pub borrow_safe : (m : BorrowMode) (o : Option Variable)
        → IsSafe (λ k. where_of k o (borrowed_by m)) (λ t. Borrows types owner see known names a.token active m o t)
        (tick (needing o (λ x. lends m x.number)))
    borrow_safe m None t fits rest h under w ticks met waits state = absurd fits
    borrow_safe mode.Write (Some x) t fits rest h under w ticks met waits state =
        let is = is_ready (h x.number)
        (ready.lends (stand (h x.number)) (rest x.number) (met_own x (borrowed_by mode.Write) h rest met)).0 in
        ticks_well types owner permits way ways laws a older names fs sizes size running below
        (Lefts t h (λ k. (where_of k (Some x) (borrowed_by mode.Write)).consumed) rest under)
        (lends mode.Write x.number) h
        under w ticks waits state (λ left.
        shut_left types owner permits way ways laws a older names fs sizes size running below x rest h under w left
        waits t
        (lends mode.Write x.number w left) met is
        (subst (λ (u : Meaning). GoodHeld types owner permits (way ∷ ways)
        (λ (v : Value) n. Ins (λ k. if x.number == k then shut a.token else h k) ((v, u) ∷ under) n)
        (lends mode.Write x.number w left)) (sym fits)
        (good_uncut owner _ (λ (v : Value) n. Ins (λ k. if x.number == k then shut a.token else h k)
        ((v, writes (names x.number) (token a.token)) ∷ under) n) (lends mode.Write x.number w left)
        (laws.lent (a ∷ older) (frame h names) fs sizes size under w left running a older
        refl x.number is state))))
    borrow_safe mode.Read (Some x) t fits rest h under w ticks met waits state =
        let is = is_readable (h x.number)
        (ready.reads (stand (h x.number)) (rest x.number) (met_own x (borrowed_by mode.Read) h rest met)).0 in
        ticks_well types owner permits way ways laws a older names fs sizes size running below
        (Lefts t h (λ k. (where_of k (Some x) (borrowed_by mode.Read)).consumed) rest under)
        (lends mode.Read x.number) h
        under w ticks waits state (λ left.
        watched_left types owner permits way ways laws a older names fs sizes size running below x rest h under w
        left waits t
        (lends mode.Read x.number w left) met is
        (subst (λ (u : Meaning). GoodHeld types owner permits (way ∷ ways) (λ (v : Value) n.
        Ins (λ k. if x.number == k then also_watched a.token (h x.number) else h k) ((v, u) ∷ under) n)
        (lends mode.Read x.number w left)) (sym fits)
        (good_uncut owner _ (λ (v : Value) n. Ins (λ k. if x.number == k then also_watched a.token (h x.number) else
        h k) ((v, reads (names x.number) (token a.token)) ∷ under) n) (lends mode.Read x.number w left)
        (laws.read (a ∷ older) (frame h names) fs sizes size under w left running a older
        refl x.number is state))))
    borrow_safe mode.Reborrow (Some x) t fits rest h under w ticks met waits state =
        let is = is_ready (h x.number)
        (ready.lends (stand (h x.number)) (rest x.number) (met_own x (borrowed_by mode.Write) h rest met)).0 in
        ticks_well types owner permits way ways laws a older names fs sizes size running below
        (Lefts t h (λ k. (where_of k (Some x) (borrowed_by mode.Reborrow)).consumed) rest under)
        (lends mode.Reborrow x.number) h under w ticks waits state (λ left.
        shut_left types owner permits way ways laws a older names fs sizes size running below x rest h under w left
        waits t
        (lends mode.Reborrow x.number w left) met is
        (subst (λ (u : Meaning). GoodHeld types owner permits (way ∷ ways)
        (λ (v : Value) n. Ins (λ k. if x.number == k then shut a.token else h k) ((v, u) ∷ under) n)
        (lends mode.Reborrow x.number w left)) (sym fits.4) (by fits.3 left is)))
      where
        by : InScope active fits.1 → (left : ℕ) → h x.number ≡ forest.ready → GoodHeld types owner permits (way ∷ ways)
            (λ (v : Value) n.
            Ins (λ k. if x.number == k then shut a.token else h k) ((v, writes fits.0 (token a.token)) ∷ under) n)
            (lends mode.Reborrow x.number w left)
        by (inl static) left is =
            absurd (laws.named_statics (a ∷ older) (frame h names) fs sizes size under w x.number fits.0
            (subst IsReadable (sym is) tt) (inl (fits.2 ∙ ap (writes fits.0) static)) state)
        by (inr scoped) left is =
            good_uncut owner _ (λ (v : Value) n. Ins (λ k. if x.number == k then shut a.token else h k)
            ((v, writes fits.0 (token a.token)) ∷ under) n) (lends mode.Reborrow x.number w left)
            (laws.relent (a ∷ older) (frame h names) fs sizes size under w left
            (laws.typed).forms running a older refl
            x.number fits.0 scoped.0 is (fits.2 ∙ ap (writes fits.0) scoped.1) scoped.2 state)

    -- ---- `!`

    pub deref_safe : (o : Option Variable) (counts : ℕ → Counts) (A : Meaning → Type 0) (other : Action Value)
        → IsSafe counts A other
        → IsSafe (λ k. behind k o (counts k))
        (λ t. (r : Meaning) × (region : Region) × IsReference types r t region × InScope active region
        × (types.is_free t ≡ true) × Refers types owner see known names a.token active o A r)
        (operand o other >>= (λ r. tick (needing (reference_in r) meaning.reads)))
    deref_safe (Some x) counts A other safe t fits rest h under w ticks met waits state =
        good_stays types owner permits way ways laws a older names fs sizes size running below
        (λ k. where_of k (Some x) one_look) rest h t under
        (follows (tick (looks x.number []) w ticks) (λ r. tick (needing (reference_in r) meaning.reads)))
        (λ k. kept_where k (Some x) one_look refl) met waits
        (deref_name h x fits.0 t fits.1 rest under w ticks fits.2 fits.3 fits.5 fits.4 met waits state)
    deref_safe None counts A other safe t fits rest h under w ticks met waits state =
        let q = Lefts t h (λ k. (counts k).consumed) rest under in
        good_then owner _ (Lefts fits.0 h (λ k. (counts k).consumed) rest under) q (other w ticks)
        (λ r. tick (needing (reference_in r) meaning.reads))
        (safe fits.0 fits.5 rest h under w ticks met waits state) (λ r n left after.
        ticks_well types owner permits way ways laws a older names fs sizes size running below q
        (needing (reference_in r) meaning.reads)
        after.hold ((r, fits.0) ∷ under) n left after.waits after.state (λ more.
        good_so owner _ (λ (v : Value) m. Ins after.hold ((v, t) ∷ under) m) q
        (needing (reference_in r) meaning.reads n more)
        (λ v m good. record {
          hold = after.hold;
          met = after.met;
          gone = after.gone;
          waits = after.waits;
          state = good;
        }) (deref_value after.hold r fits.0 t fits.1 under n more fits.2 fits.3 fits.4 after.state)))

    -- ---- what a call does with its arguments

    module _ (invoke : I → List Value → Action Value) (calls_safe : CallsSafe types owner permits (way ∷ ways) known
        invoke)
        (waiting : AllWait permits ways (is_active (a ∷ older)) fs) (h : Standing) (made under : Made) (w : World)
        (ticks : ℕ)
        (waits : Stands permits way (is_active (a ∷ older)) h names) (state : Ins h (onto made under) w) where
      made_good : (of : ClosedType) (tag : ℕ) (home : Bytes) (linear : Bool) (t : Meaning)
          → types.fields t tag ≡ Some (types_made made) → Bears types owner see known of home linear t
          → GoodHeld types owner permits (way ∷ ways) (λ (v : Value) n. Ins h ((v, t) ∷ under) n)
          (makes_value linear of tag home (values_of made) w ticks)
      made_good of tag home true t fields bears =
          good_uncut owner (IsCutSo types owner permits (way ∷ ways)) (λ (v : Value) n. Ins h ((v, t) ∷ under) n)
          (makes_value true of tag home (values_of made) w ticks)
          (laws.made_linear (a ∷ older) (frame h names ∷ fs) sizes under w ticks made t of tag
          home fields bears.0 bears.1
          state)
      made_good of tag home false t fields bears =
          good_uncut owner (IsCutSo types owner permits (way ∷ ways)) (λ (v : Value) n. Ins h ((v, t) ∷ under) n)
          (makes_value false of tag home (values_of made) w ticks)
          (laws.made_free (a ∷ older) (frame h names ∷ fs) sizes under w ticks made t of tag
          home fields bears state)

      pub performs_good : (act : views.Act I) (t : Meaning)
          → Performs types owner see known active act (types_made made) t
          → GoodHeld types owner permits (way ∷ ways) (λ (v : Value) n. Ins h ((v, t) ∷ under) n)
          (evaluator.acts see invoke act (values_of made) w ticks)
      performs_good (invokes one) t fits =
          let called =
          good_so owner _
          (λ (v : Value) n. Ins h ((v, known.result fits.0) ∷ under) n × (lying_in n ≡ lying_in w))
          (λ (v : Value) n. Ins h ((v, known.result fits.0) ∷ under) n)
          (invoke (known.of fits.0) (values_of made) w ticks)
          (λ v n both. both.0)
          (calls_safe fits.0 (a ∷ older) (frame h names ∷ fs) sizes made under w ticks fits.4 (waits, waiting)
          running.count (sym fits.2) state) in
          subst (λ (f : I). GoodHeld types owner permits (way ∷ ways) (λ (v : Value) n. Ins h ((v, t) ∷ under) n)
          (invoke f (values_of made) w ticks))
          fits.1
          (subst (λ (u : Meaning). GoodHeld types owner permits (way ∷ ways) (λ (v : Value) n. Ins h ((v, u) ∷ under) n)
          (invoke (known.of fits.0) (values_of made) w ticks)) fits.3 called)
      performs_good (makes of tag home) t fits = made_good of tag home (see.is_linear of) t fits.0 fits.1
      performs_good (ships prim born) t fits =
          good_uncut owner _ (λ (v : Value) n. Ins h ((v, t) ∷ under) n)
          (ships_call prim born (values_of made) w ticks)
          (laws.shipped (a ∷ older) (frame h names ∷ fs) sizes under w ticks prim born made t
          fits state)

      -- a call of what is known, whose arguments are brought so into declared order
      pub calls_good : (o : Option (Callee I)) (one : Callee I) (t : Meaning) (order : List Bytes → Option (List Value))
          → o ≡ Some one → order one.parameters ≡ Some (values_of made)
          → Performs types owner see known active one.act (types_made made) t
          → GoodHeld types owner permits (way ∷ ways) (λ (v : Value) n. Ins h ((v, t) ∷ under) n)
          (calls see invoke o order w ticks)
      calls_good o one t order is ordered fits =
          let q = λ (v : Value) (n : World). Ins h ((v, t) ∷ under) n in
          subst (λ (p : Option (Callee I)). GoodHeld types owner permits (way ∷ ways) q
          (calls see invoke p order w ticks)) (sym is)
          (good_needing owner _ q (order one.parameters) (values_of made) (evaluator.acts see invoke one.act) w ticks
          ordered
          (performs_good one.act t fits))
