-- Single forms of expressions: literals, names, paths, borrows, and what calls do with arguments.
use Rattle.std.proofs.Common.{◌≡◌, ℕ, suc, ◌+◌, ◌==◌, Bool, true, false, List, [], ◌∷◌, length}
use Rattle.std.proofs.Common.{Option, Some, ℤ, refl, sym, ap, subst, ◌∙◌, if◌then◌else◌, int_le}
use Rattle.std.proofs.lemmas.Bool.{and_parts, eq-eqb}
use Rattle.au_base.specs.declared.kinds.IntKind.{IntKind}
use Rattle.au_ints.specs.Ranges.{greatest_of, is_of_kind, least_of}
use Rattle.au_effects.specs.Values as values
use Rattle.au_type_texts.specs.Types.{ClosedType}
use Rattle.au_types.specs.Types.{Meaning, integer}
use Rattle.au_ahead.proofs.ReadyLemmas as ready
use Rattle.au_lives.specs.Mentions.{Counts, borrowed_by, one_consumption, one_look, plus, unmentioned}
use Rattle.au_syntax.specs.declared.expressions.BorrowMode.TheVariants as mode
use Rattle.au_memory.specs.Forests as forest
use Rattle.au_memory.specs.Forests.{Made, empty, shut}
use Rattle.au_memory.specs.Loans.{Types}
use Rattle.au_memory.specs.Shown.{IsPlain}
use Rattle.au_lending.specs.Ending.{freed}
use Rattle.au_lending.specs.Laws.{IsReadable, also_watched}
use Rattle.au_lending.specs.Records.{types_made}
use Rattle.au_lending.specs.Seeing.{LeadsOn}
use Rattle.au_borrows.specs.Orders.{Act, is_active}
use Rattle.au_running_judgements.specs.Frames.{Frame}
use Rattle.au_meaning.specs.Acts.{looks, moves}
use Rattle.au_meaning.specs.Expressions.{copies, literal}
use Rattle.au_meaning.specs.Names.{Variable}
use Rattle.au_meaning.specs.Ticks.{Action, Out, pure, tick, where_true}
use Rattle.au_meaning.specs.Worlds.{Value, World}
use Rattle.au_running_judgements.specs.Good.{GoodBy, IsIn, IsRunning}
use Rattle.au_running_judgements.specs.Making.{values_of}
use Rattle.au_running_judgements.proofs.GoodLemmas.{good_needing, good_so, good_tick, good_uncut}
use Rattle.au_running_judgements.specs.Lives.{AreReady, Standing, spent, stand}
use Rattle.au_running_judgements.specs.Uses.{mentioned, where_of}
use Rattle.au_sound_expressions.specs.Actions.{ActionsAreSafe}
use Rattle.au_sound_expressions.specs.Safe.{After, Stands, frame}
use Rattle.au_sound_expressions.proofs.HoldLemmas.{gone_lent, gone_moved, gone_read, is_readable, is_ready, kept_where}
use Rattle.au_sound_expressions.proofs.HoldLemmas.{met_lent, met_moved, met_own, met_read, rest_ready, spent_both}
use Rattle.au_sound_expressions.proofs.HoldLemmas.{spent_none, waits_watched}
use Rattle.au_sound_expressions.proofs.WaitLemmas.{stands_put}
use Rattle.au_running_judgements.specs.Held.{AllHeld, GoodHeld, IsCutSo, Permits}

-- what a fact is needed for
pub good_where : {A : Type 0} (owner : ClosedType → Option (List ℕ)) (cuts : World → Type 0) (q : A → World → Type 0)
    (b : Bool) (m : Action A) (w : World) (ticks : ℕ) → b ≡ true → GoodBy owner cuts q (m w ticks) → GoodBy owner
    cuts q (where_true b m w ticks)
good_where owner cuts q b m w ticks is good = subst (λ c. GoodBy owner cuts q (where_true c m w ticks)) (sym is) good

-- the newest token is active
pub own_active : (a : Act) (older : List Act) → is_active (a ∷ older) a.token ≡ true
own_active a older =
    ap (λ (b : Bool). if b then true else is_active older a.token) (eq-eqb a.token a.token refl)

-- as many values as types
pub length_values : (made : Made) → length (values_of made) ≡ length (types_made made)
length_values [] = refl
length_values (v ∷ vs) = ap suc (length_values vs)

module _ (types : Types) (owner : ClosedType → Option (List ℕ)) {V W : Type 0} (permits : Permits V W)
    (way : V) (ways : List V) (laws : ActionsAreSafe types owner)
    (a : Act) (older : List Act) (names : ℕ → Meaning) (fs : List Frame) (sizes : List ℕ) (size : ℕ)
    (running : IsRunning sizes fs size) (below : AllHeld permits ways fs) where
  -- the running frame stands so, with these values under way
  abbrev pub In : Standing → Made → World → Type 0
  In h under w = IsIn types owner (a ∷ older) (frame h names ∷ fs) sizes under w

  -- what an expression leaves, and its value
  abbrev pub Left : Meaning → Standing → (ℕ → ℕ) → (ℕ → Counts) → Made → Value → World → Type 0
  Left t h consumed rest under v n =
      After types owner permits way (a ∷ older) names fs sizes a.token h consumed rest ((v, t) ∷ under) n

  -- An action that meets names so often, and comes to a value of a type of which this holds, is safe.
  abbrev pub Safe : (ℕ → Counts) → (Meaning → Type 0) → Action Value → Type 0
  Safe counts A action =
      (t : Meaning) → A t → (rest : ℕ → Counts) (h : Standing) (under : Made) (w : World) (ticks : ℕ)
      → AreReady h (λ k. plus (counts k) (rest k)) → Stands permits way (is_active (a ∷ older)) h names → In h under w
      → GoodHeld types owner permits (way ∷ ways) (Left t h (λ k. (counts k).consumed) rest under) (action w ticks)

  -- ---- where names stay as they are

  pub stays : (counts rest : ℕ → Counts) (h : Standing) (made : Made) (n : World)
      → ((k : ℕ) → (counts k).consumed ≡ 0) → AreReady h (λ k. plus (counts k) (rest k))
      → Stands permits way (is_active (a ∷ older)) h names → In h made n
      → After types owner permits way (a ∷ older) names fs sizes a.token h (λ k. (counts k).consumed) rest made n
  stays counts rest h made n none met waits state = record {
    hold = h;
    met = rest_ready h counts rest met;
    gone = λ k. spent_none (counts k).consumed (freed a.token (h k)) (none k);
    waits = waits;
    state = state;
  }

  pub good_stays : (counts rest : ℕ → Counts) (h : Standing) (t : Meaning) (under : Made) (out : Out Value)
      → ((k : ℕ) → (counts k).consumed ≡ 0) → AreReady h (λ k. plus (counts k) (rest k))
      → Stands permits way (is_active (a ∷ older)) h names → GoodHeld types owner permits (way ∷ ways)
      (λ (v : Value) n. In h ((v, t) ∷ under) n) out
      → GoodHeld types owner permits (way ∷ ways) (Left t h (λ k. (counts k).consumed) rest under) out
  good_stays counts rest h t under out none met waits good =
      good_so owner _ (λ (v : Value) n. In h ((v, t) ∷ under) n) (Left t h (λ k. (counts k).consumed) rest under) out
      (λ v n state. stays counts rest h ((v, t) ∷ under) n none met waits state) good

  -- a tick in a world that is as it should be
  pub ticks_well : {A : Type 0} (q : A → World → Type 0) (m : Action A) (h : Standing) (under : Made) (w : World)
      (ticks : ℕ) → Stands permits way (is_active (a ∷ older)) h names → In h under w
      → ((left : ℕ) → GoodHeld types owner permits (way ∷ ways) q (m w left)) → GoodHeld types owner permits
      (way ∷ ways) q (tick m w ticks)
  ticks_well q m h under w ticks waits state next =
      good_tick owner _ q m w ticks (
        laws.told (a ∷ older) (frame h names ∷ fs) sizes under w state,
        record {
          newer = [];
          acts = a ∷ older;
          frames = frame h names ∷ fs;
          sizes = sizes;
          under = under;
          state = state;
          held = (waits.1, below);
        },
      ) next

  -- one expression, and then another
  pub both_after : (h : Standing) (c d : ℕ → ℕ) (between rest : ℕ → Counts) (made two three : Made) (n m p : World)
      (first : After types owner permits way (a ∷ older) names fs sizes a.token h c between made n)
      (second : After types owner permits way (a ∷ older) names fs sizes a.token first.hold d rest two m)
      → In second.hold three p
      → After types owner permits way (a ∷ older) names fs sizes a.token h (λ k. c k + d k) rest three p
  both_after h c d between rest made two three n m p first second state = record {
    hold = second.hold;
    met = second.met;
    gone = λ k. second.gone k ∙ (ap (spent (d k)) (first.gone k) ∙ spent_both (c k) (d k) (freed a.token (h k)));
    waits = second.waits;
    state = state;
  }

  -- ---- literals and constants

  -- a value that holds nothing
  pub plain_left : (v : Value) (t : Meaning) → IsPlain v t → (rest : ℕ → Counts) (h : Standing) (under : Made)
      (w : World)
      → AreReady h (λ k. plus unmentioned (rest k)) → Stands permits way (is_active (a ∷ older)) h names → In h under w
      → Left t h (λ k. 0) rest under v w
  plain_left v t is rest h under w met waits state =
      stays (λ k. unmentioned) rest h ((v, t) ∷ under) w (λ k. refl) met waits
      (laws.plain (a ∷ older) (frame h names ∷ fs) sizes under w v t is state)

  pub plain_safe : (v : Value) → Safe (λ k. unmentioned) (IsPlain v) (tick (pure v))
  plain_safe v t is rest h under w ticks met waits state =
      ticks_well (Left t h (λ k. 0) rest under) (pure v) h under w ticks waits state
      (λ left. plain_left v t is rest h under w met waits state)

  pub literal_safe : (o : Option IntKind) (z : ℤ)
      → Safe (λ k. unmentioned)
      (λ t. (kind : IntKind) × (o ≡ Some kind) × (is_of_kind kind z ≡ true) × (t ≡ integer kind))
      (tick (literal o z))
  literal_safe o z t fits rest h under w ticks met waits state =
      let kind = fits.0 in
      let least : int_le (least_of kind) z ≡ true =
      (and_parts (int_le (least_of kind) z) (int_le z (greatest_of kind)) fits.2).0 in
      let plain : IsPlain (values.number kind z) t =
      subst (IsPlain (values.number kind z)) (sym fits.3) (refl, least) in
      let q = Left t h (λ k. 0) rest under in
      ticks_well q (literal o z) h under w ticks waits state (λ left.
      good_needing owner _ q o kind (λ one. where_true (is_of_kind one z) (pure (values.number one z))) w left fits.1
      (good_where owner _ q (is_of_kind kind z) (pure (values.number kind z)) w left fits.2
      (plain_left (values.number kind z) t plain rest h under w met waits state)))

  -- ---- names

  -- a part of Free type of a variable is copied
  pub look_safe : (x : Variable) (path : List ℕ)
      → Safe (λ k. where_of k (Some x) one_look)
      (λ t. LeadsOn types (names x.number) path t × (types.is_free t ≡ true)) (looks x.number path)
  look_safe x path t fits rest h under w ticks met waits state =
      let readable = is_readable (h x.number)
      (ready.looks (stand (h x.number)) (rest x.number) (met_own x one_look h rest met)).0 in
      let typed = laws.typed in
      good_stays (λ k. where_of k (Some x) one_look) rest h t under (looks x.number path w ticks)
      (λ k. kept_where k (Some x) one_look refl) met waits
      (good_uncut owner _ (λ (v : Value) n. In h ((v, t) ∷ under) n) (looks x.number path w ticks)
      (laws.looked (a ∷ older) (frame h names) fs sizes size under w ticks typed.forms
      typed.cases
      typed.lawful running x.number path t readable fits.0 fits.1 state))

  -- a variable alone is copied or moved
  pub copies_safe : (free : Bool) (x : Variable)
      → Safe (λ k. where_of k (Some x) (mentioned free))
      (λ t. (names x.number ≡ t) × (free ≡ true → types.is_free t ≡ true)) (copies free x.number)
  copies_safe true x t fits rest h under w ticks met waits state =
      look_safe x [] t (fits.0, fits.1 refl) rest h under w ticks met waits state
  copies_safe false x t fits rest h under w ticks met waits state =
      let is = is_ready (h x.number) (ready.consumes (stand (h x.number)) (rest x.number)
      (met_own x one_consumption h rest met)).0 in
      let moved = good_uncut owner (IsCutSo types owner permits (way ∷ ways))
      (λ (v : Value) n. In (λ k. if x.number == k then empty else h k) ((v, names x.number) ∷ under) n)
      (moves x.number w ticks)
      (laws.moved (a ∷ older) (frame h names) fs sizes size under w ticks running x.number is state) in
      let after = λ (k : ℕ). if x.number == k then empty else h k in
      subst (λ (u : Meaning). GoodHeld types owner permits (way ∷ ways)
      (Left u h (λ k. (where_of k (Some x) one_consumption).consumed) rest under) (moves x.number w ticks)) fits.0
      (good_so owner _ (λ (v : Value) n. In after ((v, names x.number) ∷ under) n)
      (Left (names x.number) h (λ k. (where_of k (Some x) one_consumption).consumed) rest under)
      (moves x.number w ticks) (λ v n state. record {
        hold = after;
        met = met_moved x h rest met;
        gone = gone_moved a.token x h;
        waits = stands_put permits way (is_active (a ∷ older)) x.number empty h names tt (λ empty_so. refl) waits;
        state = state;
      }) moved)

  -- ---- borrows

  module _ (x : Variable) (rest : ℕ → Counts) (h : Standing) (under : Made) (w : World) (ticks : ℕ)
      (waits : Stands permits way (is_active (a ∷ older)) h names) where
    -- a name that was lent to write, by whichever law
    pub shut_left : (t : Meaning) (out : Out Value)
        → AreReady h (λ k. plus (where_of k (Some x) (borrowed_by mode.Write)) (rest k)) → h x.number ≡ forest.ready
        → GoodHeld types owner permits (way ∷ ways) (λ (v : Value) n. In
        (λ k. if x.number == k then shut a.token else h k)
        ((v, t) ∷ under) n) out
        → GoodHeld types owner permits (way ∷ ways) (Left t h
        (λ k. (where_of k (Some x) (borrowed_by mode.Write)).consumed) rest
        under) out
    shut_left t out met is good =
        good_so owner _
        (λ (v : Value) n. In (λ k. if x.number == k then shut a.token else h k) ((v, t) ∷ under) n)
        (Left t h (λ k. (where_of k (Some x) (borrowed_by mode.Write)).consumed) rest under) out (λ v n state. record {
          hold = λ (k : ℕ). if x.number == k then shut a.token else h k;
          met = met_lent a.token x h rest met;
          gone = λ k. gone_lent a.token x h k is;
          waits = stands_put permits way (is_active (a ∷ older)) x.number (shut a.token) h names (own_active a older)
              (λ (none : h x.number ≡ empty). absurd cc) waits;
          state = state;
        }) good

    -- one that was lent to read
    pub watched_left : (t : Meaning) (out : Out Value)
        → AreReady h (λ k. plus (where_of k (Some x) (borrowed_by mode.Read)) (rest k)) → IsReadable (h x.number)
        → GoodHeld types owner permits (way ∷ ways)
        (λ (v : Value) n. In (λ k. if x.number == k then also_watched a.token (h x.number) else h k) ((v, t) ∷ under) n)
        out
        → GoodHeld types owner permits (way ∷ ways) (Left t h
        (λ k. (where_of k (Some x) (borrowed_by mode.Read)).consumed) rest
        under) out
    watched_left t out met is good =
        good_so owner _
        (λ (v : Value) n. In (λ k. if x.number == k then also_watched a.token (h x.number) else h k) ((v, t) ∷ under) n)
        (Left t h (λ k. (where_of k (Some x) (borrowed_by mode.Read)).consumed) rest under) out (λ v n state. record {
          hold = λ (k : ℕ). if x.number == k then also_watched a.token (h x.number) else h k;
          met = met_read a.token x h rest is met;
          gone = λ k. gone_read a.token x h k is;
          waits = stands_put permits way (is_active (a ∷ older)) x.number (also_watched a.token (h x.number)) h names
              (waits_watched (is_active (a ∷ older)) a.token (h x.number) (own_active a older) (waits.0 x.number))
              (λ none. ap (also_watched a.token) none) waits;
          state = state;
        }) good
