-- Each expression is safe, by the recursion of its meaning.
use Rattle.std.proofs.Common.{◌≡◌, ℕ, suc, ◌+◌, Bool, List, [], ◌∷◌, length, Option, Some, None}
use Rattle.std.proofs.Common.{refl, sym, ap, subst, ◌∙◌, if◌then◌else◌, neg_ℤ}
use Rattle.std.proofs.lemmas.Bool.{eq-eqb}
use Rattle.au_effects.specs.Values as values
use Rattle.au_type_texts.specs.Types.{ClosedType}
use Rattle.au_types.specs.Types as type
use Rattle.au_types.specs.Types.{Meaning}
use Rattle.au_lives.specs.Mentions.{Counts, plus, unmentioned}
use Rattle.au_syntax.specs.Expressions.{Expression, Expressions, Arguments, number, negative, text, truth}
use Rattle.au_syntax.specs.Expressions.{nil, path, arrow, call, named_call, parenthesized, dereference}
use Rattle.au_syntax.specs.Expressions.{borrow, borrow_part, binary, negation, typed, choice, no_expressions}
use Rattle.au_syntax.specs.Expressions.{expressions, no_arguments, arguments}
use Rattle.au_syntax.specs.Plain.{Bytes}
use Rattle.au_memory.specs.Forests.{Made}
use Rattle.au_memory.specs.Loans.{Types}
use Rattle.au_memory.specs.Shown.{IsPlain}
use Rattle.au_lending.specs.Records.{onto, types_made}
use Rattle.au_borrows.specs.Orders.{Act, is_active}
use Rattle.au_running_judgements.specs.Frames.{Frame}
use Rattle.au_meaning.specs.Acts.{by_labels, by_position}
use Rattle.au_meaning.specs.Expressions.{alone, calls, eval, eval_all, eval_named, kind_in, labelled, labels}
use Rattle.au_meaning.specs.Expressions.{names_of, note_of, operation_of}
use Rattle.au_meaning.specs.Names.{Scope, variable_of}
use Rattle.au_meaning.specs.Ticks.{Action, pure, tick, ◌>>=◌}
use Rattle.au_meaning.specs.Views.{Callee, View}
use Rattle.au_meaning.specs.Worlds.{Value, World}
use Rattle.au_running_judgements.specs.Good.{IsRunning}
use Rattle.au_running_judgements.specs.Making.{values_of}
use Rattle.au_running_judgements.proofs.GoodLemmas.{good_so, good_then}
use Rattle.au_running_judgements.specs.Orders.{AreApart, IsReordered}
use Rattle.au_running_judgements.specs.Expressions.{AreOf, IsOf, NamedAreOf, Performs}
use Rattle.au_running_judgements.specs.Known.{Callables}
use Rattle.au_running_judgements.specs.Lives.{AreReady, Standing}
use Rattle.au_running_judgements.specs.Picking.{AreTypesUnder}
use Rattle.au_running_judgements.specs.Uses.{uses, uses_all, uses_named}
use Rattle.au_sound_expressions.specs.Actions.{ActionsAreSafe}
use Rattle.au_sound_expressions.specs.Safe.{After, AllWait, CallsSafe, Stands, frame}
use Rattle.au_sound_expressions.proofs.HoldLemmas.{regrouped}
use Rattle.au_sound_expressions.proofs.ActLemmas.{arrow_safe, borrow_safe, calls_good, deref_safe, into_safe}
use Rattle.au_sound_expressions.proofs.ActLemmas.{mention_safe, part_safe}
use Rattle.au_sound_expressions.proofs.JoinLemmas.{chosen_safe, negation_safe}
use Rattle.au_sound_expressions.proofs.LeafLemmas.{In, Left, Safe, both_after, length_values, literal_safe, plain_safe}
use Rattle.au_sound_expressions.proofs.LeafLemmas.{stays, ticks_well}
use Rattle.au_sound_expressions.proofs.OperatorLemmas.{joins_safe}
use Rattle.au_sound_expressions.proofs.PickLemmas.{length_types, types_under}
use Rattle.au_running_judgements.specs.Held.{AllHeld, GoodHeld, Permits}

module _ (types : Types) (owner : ClosedType → Option (List ℕ)) {V W : Type 0} (permits : Permits V W)
    (way : V) (ways : List V) (laws : ActionsAreSafe types owner)
    (a : Act) (older : List Act) (names : ℕ → Meaning) (fs : List Frame) (sizes : List ℕ) (size : ℕ)
    (running : IsRunning sizes fs size) (below : AllHeld permits ways fs) where
  abbrev Ins : Standing → Made → World → Type 0
  Ins h under w = In types owner permits way ways laws a older names fs sizes size running below h under w

  abbrev Lefts : Meaning → Standing → (ℕ → ℕ) → (ℕ → Counts) → Made → Value → World → Type 0
  Lefts t h consumed rest under v n = Left types owner permits way ways laws a older names fs sizes size running
      below t h
      consumed rest under v n

  abbrev IsSafe : (ℕ → Counts) → (Meaning → Type 0) → Action Value → Type 0
  IsSafe counts A action = Safe types owner permits way ways laws a older names fs sizes size running below counts A
      action

  -- what arguments leave, and their values
  pub record AllLeft (kinds : List Meaning) (h : Standing) (consumed : ℕ → ℕ) (rest : ℕ → Counts) (under : Made)
      (vs : List Value) (n : World) : Type 0 where
    pub made : Made
    pub are : vs ≡ values_of made
    pub have : types_made made ≡ kinds
    pub after : After types owner permits way (a ∷ older) names fs sizes a.token h consumed rest (onto made under) n

  -- arguments are safe
  abbrev pub AllSafe : (ℕ → Counts) → (List Meaning → Type 0) → Action (List Value) → Type 0
  AllSafe counts A action =
      (kinds : List Meaning) → A kinds → (rest : ℕ → Counts) (h : Standing) (under : Made) (w : World) (ticks : ℕ)
      → AreReady h (λ k. plus (counts k) (rest k)) → Stands permits way (is_active (a ∷ older)) h names → Ins h under w
      → GoodHeld types owner permits (way ∷ ways) (AllLeft kinds h (λ k. (counts k).consumed) rest under)
      (action w ticks)

  -- no arguments
  none_safe : AllSafe (λ k. unmentioned) (λ kinds. kinds ≡ []) (pure [])
  none_safe kinds is rest h under w ticks met waits state = record {
    made = [];
    are = refl;
    have = sym is;
    after = stays types owner permits way ways laws a older names fs sizes size running below (λ k. unmentioned) rest
        h under
        w (λ k. refl) met
        waits state;
  }

  -- one more
  more_safe : (ca cb : ℕ → Counts) (A : Meaning → Type 0) (B : List Meaning → Type 0) (one : Action Value)
      (others : Action (List Value)) → IsSafe ca A one → AllSafe cb B others
      → AllSafe (λ k. plus (ca k) (cb k))
      (λ kinds. (t : Meaning) × (more : List Meaning) × (kinds ≡ t ∷ more) × A t × B more)
      (one >>= (λ v. others >>= (λ vs. pure (v ∷ vs))))
  more_safe ca cb A B one others safe_one safe_others kinds fits rest h under w ticks met waits state =
      let c = λ (k : ℕ). (ca k).consumed in
      let d = λ (k : ℕ). (cb k).consumed in
      let both = λ (k : ℕ). plus (cb k) (rest k) in
      let t = fits.0 in
      let q = AllLeft kinds h (λ k. (ca k).consumed + (cb k).consumed) rest under in
      good_then owner _ (Lefts t h c both under) q (one w ticks) (λ v. others >>= (λ vs. pure (v ∷ vs)))
      (safe_one t fits.3 both h under w ticks (regrouped h ca cb rest met) waits state) (λ v n left first.
      good_then owner _ (AllLeft fits.1 first.hold d rest ((v, t) ∷ under)) q (others n left) (λ vs. pure (v ∷ vs))
      (safe_others fits.1 fits.4 rest first.hold ((v, t) ∷ under) n left first.met first.waits first.state)
      (λ vs m more second. record {
        made = (v, t) ∷ second.made;
        are = ap (λ (xs : List Value). v ∷ xs) second.are;
        have = ap (λ (ts : List Meaning). t ∷ ts) second.have ∙ sym fits.2;
        after = both_after types owner permits way ways laws a older names fs sizes size running below h c d both rest
            ((v, t) ∷ under)
            (onto second.made ((v, t) ∷ under)) (onto second.made ((v, t) ∷ under)) n m m first second.after
            second.after.state;
      }))

  module _ {I T C K : Type 0} (see : View I T C) (known : Callables I K) (invoke : I → List Value → Action Value)
      (calls_safe : CallsSafe types owner permits (way ∷ ways) known invoke)
      (waiting : AllWait permits ways (is_active (a ∷ older)) fs) where
    abbrev Of : Scope → Expression Bytes T C → Meaning → Type 0
    Of scope e t = IsOf types owner see known names a.token (is_active (a ∷ older)) scope e t

    abbrev AllOf : Scope → Expressions Bytes T C → List Meaning → Type 0
    AllOf scope es kinds = AreOf types owner see known names a.token (is_active (a ∷ older)) scope es kinds

    abbrev AllNamed : Scope → Arguments Bytes T C → List Meaning → Type 0
    AllNamed scope es kinds = NamedAreOf types owner see known names a.token (is_active (a ∷ older)) scope es kinds

    -- a call, once its arguments are safe
    call_safe : (o : Option (Callee I)) (counts : ℕ → Counts) (A : List Meaning → Type 0) (args : Action (List Value))
        → AllSafe counts A args
        → IsSafe counts
        (λ t. (one : Callee I) × (kinds : List Meaning) × (o ≡ Some one) × A kinds
        × (length kinds ≡ length one.parameters)
        × Performs types owner see known (is_active (a ∷ older)) one.act kinds t)
        (args >>= (λ vs. tick (calls see invoke o (by_position vs))))
    call_safe o counts A args safe t fits rest h under w ticks met waits state =
        let c = λ (k : ℕ). (counts k).consumed in
        let q = Lefts t h (λ k. (counts k).consumed) rest under in
        let one = fits.0 in
        good_then owner _ (AllLeft fits.1 h c rest under) q (args w ticks)
        (λ vs. tick (calls see invoke o (by_position vs))) (safe fits.1 fits.3 rest h under w ticks met waits state)
        (λ vs n left all.
        let many : length (values_of all.made) ≡ length one.parameters =
        length_values all.made ∙ (ap (λ (ts : List Meaning). length ts) all.have ∙ fits.4) in
        let ordered : by_position (values_of all.made) one.parameters ≡ Some (values_of all.made) =
        ap (λ (b : Bool). if b then Some (values_of all.made) else None)
        (eq-eqb (length (values_of all.made)) (length one.parameters) many) in
        subst (λ (xs : List Value). GoodHeld types owner permits (way ∷ ways) q
        (tick (calls see invoke o (by_position xs)) n left)) (sym all.are)
        (ticks_well types owner permits way ways laws a older names fs sizes size running below q
        (calls see invoke o (by_position (values_of all.made))) all.after.hold (onto all.made under) n left
        all.after.waits all.after.state
        (λ more.
        good_so owner _ (λ (v : Value) m. Ins all.after.hold ((v, t) ∷ under) m) q
        (calls see invoke o (by_position (values_of all.made)) n more)
        (λ v m good. record {
          hold = all.after.hold;
          met = all.after.met;
          gone = all.after.gone;
          waits = all.after.waits;
          state = good;
        })
        (calls_good types owner permits way ways laws a older names fs sizes size running below see known invoke
        calls_safe
        waiting all.after.hold
        all.made under n more all.after.waits all.after.state o one t (by_position (values_of all.made)) fits.2 ordered
        (subst (λ (ks : List Meaning). Performs types owner see known (is_active (a ∷ older)) one.act ks t)
        (sym all.have) fits.5)))))

    -- so is a call whose arguments have labels, which are brought into the order of the parameters
    named_call_safe : (o : Option (Callee I)) (counts : ℕ → Counts) (names_given : List Bytes)
        (A : List Meaning → Type 0)
        → ((kinds : List Meaning) → A kinds → length kinds ≡ length names_given) → (args : Action (List Value))
        → AllSafe counts A args
        → IsSafe counts
        (λ t. (one : Callee I) × (kinds ordered : List Meaning) × (o ≡ Some one) × A kinds × AreApart names_given
        × IsReordered one.parameters names_given × AreTypesUnder one.parameters names_given kinds ordered
        × Performs types owner see known (is_active (a ∷ older)) one.act ordered t)
        (args >>= (λ vs. tick (calls see invoke o (by_labels (labelled names_given vs)))))
    named_call_safe o counts names_given A many args safe t fits rest h under w ticks met waits state =
        let c = λ (k : ℕ). (counts k).consumed in
        let q = Lefts t h (λ k. (counts k).consumed) rest under in
        let one = fits.0 in
        good_then owner _ (AllLeft fits.1 h c rest under) q (args w ticks)
        (λ vs. tick (calls see invoke o (by_labels (labelled names_given vs))))
        (safe fits.1 fits.4 rest h under w ticks met waits state)
        (λ vs n left all.
        let count : length all.made ≡ length names_given =
        length_types all.made ∙ (ap (λ (ts : List Meaning). length ts) all.have ∙ many fits.1 fits.4) in
        let brought = laws.labels names_given one.parameters all.made count fits.5 fits.6 in
        let typed : types_made brought.0 ≡ fits.2 =
        types_under one.parameters names_given all.made brought.0 fits.2 brought.3
        (subst (λ (ks : List Meaning). AreTypesUnder one.parameters names_given ks fits.2) (sym all.have) fits.7) in
        let placed = laws.reordered (a ∷ older) (frame all.after.hold names ∷ fs) sizes under n all.made brought.0
        brought.2
        all.after.state in
        subst (λ (xs : List Value). GoodHeld types owner permits (way ∷ ways) q
        (tick (calls see invoke o (by_labels (labelled names_given xs))) n left))
        (sym all.are)
        (ticks_well types owner permits way ways laws a older names fs sizes size running below q
        (calls see invoke o (by_labels (labelled names_given (values_of all.made)))) all.after.hold
        (onto brought.0 under) n
        left all.after.waits placed
        (λ more.
        good_so owner _ (λ (v : Value) m. Ins all.after.hold ((v, t) ∷ under) m) q
        (calls see invoke o (by_labels (labelled names_given (values_of all.made))) n more)
        (λ v m good. record {
          hold = all.after.hold;
          met = all.after.met;
          gone = all.after.gone;
          waits = all.after.waits;
          state = good;
        })
        (calls_good types owner permits way ways laws a older names fs sizes size running below see known invoke
        calls_safe
        waiting all.after.hold
        brought.0 under n more all.after.waits placed o one t (by_labels (labelled names_given (values_of all.made)))
        fits.3
        brought.1
        (subst (λ (ks : List Meaning). Performs types owner see known (is_active (a ∷ older)) one.act ks t)
        (sym typed) fits.8)))))

    -- there are as many types as labels
    many_named : (scope : Scope) (args : Arguments Bytes T C) (kinds : List Meaning) → AllNamed scope args kinds
        → length kinds ≡ length (labels args)
    many_named scope no_arguments kinds is = ap (λ (ts : List Meaning). length ts) is
    many_named scope (arguments label e rest) kinds fits =
        ap (λ (ts : List Meaning). length ts) fits.2 ∙ ap suc (many_named scope rest fits.1 fits.4)

    mutual
      pub eval_safe : (scope : Scope) (e : Expression Bytes T C)
          → IsSafe (λ k. uses see k scope e) (Of scope e) (eval see invoke scope e)
      eval_safe scope (number n l) =
          literal_safe types owner permits way ways laws a older names fs sizes size running below
          (kind_in (see.type_of n.note)) l.value
      eval_safe scope (negative n l) =
          literal_safe types owner permits way ways laws a older names fs sizes size running below
          (kind_in (see.type_of n.note)) (neg_ℤ l.value)
      eval_safe scope (text n bytes) = λ t is.
          plain_safe types owner permits way ways laws a older names fs sizes size running below (values.text bytes) t
          (subst (IsPlain (values.text bytes)) (sym is) tt)
      eval_safe scope (truth n b) = λ t is.
          plain_safe types owner permits way ways laws a older names fs sizes size running below (values.truth b) t
          (subst (IsPlain (values.truth b)) (sym is) tt)
      eval_safe scope (nil n) = λ t is.
          plain_safe types owner permits way ways laws a older names fs sizes size running below values.unit t
          (subst (IsPlain values.unit) (sym is) tt)
      eval_safe scope (path n x []) =
          mention_safe types owner permits way ways laws a older names fs sizes size running below see known
          (variable_of scope x.name) n.note
          x.name
      eval_safe scope (path n x (field ∷ fields)) =
          into_safe types owner permits way ways laws a older names fs sizes size running below see known
          (variable_of scope x.name)
          (names_of (field ∷ fields))
      eval_safe scope (arrow n r fields) =
          arrow_safe types owner permits way ways laws a older names fs sizes size running below see known
          (variable_of scope r.name)
          (names_of fields)
      eval_safe scope (call n f args c) =
          call_safe (see.callee n.note c f.name) (λ k. uses_all see k scope args) (AllOf scope args)
          (eval_all see invoke scope args) (all_safe scope args)
      eval_safe scope (named_call n f args c) =
          named_call_safe (see.callee n.note c f.name) (λ k. uses_named see k scope args) (labels args)
          (AllNamed scope args) (many_named scope args) (eval_named see invoke scope args) (named_safe scope args)
      eval_safe scope (parenthesized n e) = eval_safe scope e
      eval_safe scope (dereference n e) =
          deref_safe types owner permits way ways laws a older names fs sizes size running below see known
          (alone scope e)
          (λ k. uses see k scope e) (Of scope e) (eval see invoke scope e) (eval_safe scope e)
      eval_safe scope (borrow n m x) =
          borrow_safe types owner permits way ways laws a older names fs sizes size running below see known m
          (variable_of scope x.name)
      eval_safe scope (borrow_part n r fields) =
          part_safe types owner permits way ways laws a older names fs sizes size running below see known
          (variable_of scope r.name)
          (names_of fields)
      eval_safe scope (binary n op one two) =
          joins_safe types owner permits way ways laws a older names fs sizes size running below see known invoke n.note
          (note_of one)
          (λ k. uses see k scope one) (λ k. uses see k scope two) (Of scope one) (Of scope two)
          (eval see invoke scope one) (eval see invoke scope two) (eval_safe scope one) (eval_safe scope two)
          (operation_of op)
      eval_safe scope (negation n e) =
          negation_safe types owner permits way ways laws a older names fs sizes size running below
          (λ k. uses see k scope e)
          (Of scope e)
          (eval see invoke scope e) (eval_safe scope e)
      eval_safe scope (typed n e written) = eval_safe scope e
      eval_safe scope (choice n c one two) = λ t fits rest h under w ticks met waits state.
          chosen_safe types owner permits way ways laws a older names fs sizes size running below
          (λ k. uses see k scope c)
          (λ k. uses see k scope one) (λ k. uses see k scope two) (Of scope one) (Of scope two)
          (eval see invoke scope one) (eval see invoke scope two) (eval_safe scope one) (eval_safe scope two)
          (λ k. (fits.3 k).0) (λ k. (fits.3 k).1) t fits.1 fits.2 rest h under (eval see invoke scope c) w ticks
          (eval_safe scope c type.truth fits.0
          (λ k. plus (plus (uses see k scope one) (uses see k scope two)) (rest k)) h under w ticks
          (regrouped h (λ k. uses see k scope c) (λ k. plus (uses see k scope one) (uses see k scope two)) rest met)
          waits
          state)

      -- arguments in order
      pub all_safe : (scope : Scope) (args : Expressions Bytes T C)
          → AllSafe (λ k. uses_all see k scope args) (AllOf scope args) (eval_all see invoke scope args)
      all_safe scope no_expressions = none_safe
      all_safe scope (expressions e rest) =
          more_safe (λ k. uses see k scope e) (λ k. uses_all see k scope rest) (Of scope e) (AllOf scope rest)
          (eval see invoke scope e) (eval_all see invoke scope rest) (eval_safe scope e) (all_safe scope rest)

      -- arguments with labels
      pub named_safe : (scope : Scope) (args : Arguments Bytes T C)
          → AllSafe (λ k. uses_named see k scope args) (AllNamed scope args) (eval_named see invoke scope args)
      named_safe scope no_arguments = none_safe
      named_safe scope (arguments label e rest) =
          more_safe (λ k. uses see k scope e) (λ k. uses_named see k scope rest) (Of scope e) (AllNamed scope rest)
          (eval see invoke scope e) (eval_named see invoke scope rest) (eval_safe scope e) (named_safe scope rest)
