-- What is born by expressions, by what the calls in them do.
use Rattle.std.proofs.Common.{◌≡◌, ℕ, Bool, true, false, List, [], ◌∷◌, ◌++◌, Option, None, Some, length}
use Rattle.std.proofs.Common.{refl, map, ℤ, neg_ℤ, arith}
use Rattle.std.specs.Prelude.{Contains}
use Rattle.std.proofs.lemmas.List.Elements.{Contains-append_left, Contains-append_right}
use Rattle.au_base.specs.declared.kinds.IntKind.{IntKind}
use Rattle.au_effects.specs.Numbers.{compared, computed, negated, truth_in}
use Rattle.au_effects.specs.Places.{name_at}
use Rattle.au_effects.specs.References.{newer, next_reference, reference_in}
use Rattle.au_effects.specs.Values as values
use Rattle.au_effects.specs.Values.{Place, made, fields_of}
use Rattle.au_effects.specs.Worlds.{bears, nothing, opened}
use Rattle.au_ints.specs.Ranges.{is_of_kind}
use Rattle.au_syntax.specs.declared.expressions.BorrowMode.{BorrowMode}
use Rattle.au_syntax.specs.Expressions.{Expression, Expressions, Arguments, number, negative, text, truth}
use Rattle.au_syntax.specs.Expressions.{nil, path, arrow, call, named_call, parenthesized, dereference}
use Rattle.au_syntax.specs.Expressions.{borrow, borrow_part, binary, negation, typed, choice, no_expressions}
use Rattle.au_syntax.specs.Expressions.{expressions, no_arguments, arguments}
use Rattle.au_syntax.specs.Plain.{Bytes}
use Rattle.au_type_texts.specs.Types.{ClosedType}
use Rattle.au_closed_trees.specs.Calls.{calls_in, calls_in_all, calls_in_arguments}
use Rattle.au_meaning.specs.Acts.{access_of, borrowed_place, by_labels, by_position, closed_to, closing}
use Rattle.au_meaning.specs.Acts.{in_store, lends, looks, makes_value, moves, reads, refers}
use Rattle.au_meaning.specs.Acts.{with_borrow, with_value, frame_in}
use Rattle.au_meaning.specs.Expressions.{acts, alone, calls, chosen, computes, compares, copies, eval}
use Rattle.au_meaning.specs.Expressions.{eval_all, eval_named, is_and, is_or, joins, kind_in, labelled, labels, literal}
use Rattle.au_meaning.specs.Expressions.{looks_into, mentions, names_of, note_of, Operation, operand, operates}
use Rattle.au_meaning.specs.Expressions.{operation_of, reaches, whole}
use Rattle.au_meaning.specs.Names.{Scope, Variable, variable_of}
use Rattle.au_meaning.specs.Ticks.{Action, Out, aborts, cut, does, gives, no_rule, pure}
use Rattle.au_meaning.specs.Views.{Act, Callee, View, invokes, makes, ships}
use Rattle.au_meaning.specs.Worlds.{Borrow, Event, Store, Value, World}
use Rattle.au_caps_laws.specs.Bearing.{AreWithin, Bears, BearsTo, IsWithin, StaysWithin, act_in}
use Rattle.au_caps_laws.proofs.BearLemmas.{Keeps, and_keeps, asks_keeps, bears_closes, bears_one, bears_same, comes_keeps}
use Rattle.au_caps_laws.proofs.BearLemmas.{does_keeps, needing_keeps, pure_keeps, stuck_keeps, takes_keeps, then_keeps}
use Rattle.au_caps_laws.proofs.BearLemmas.{tick_keeps, truth_keeps, where_keeps}
use Rattle.au_caps_laws.proofs.ShipLemmas.{born_bears, read_bears, ships_keeps}
use Rattle.au_effects.specs.Worlds as effects

-- ---- wider bounds

module _ (Q P : ClosedType → Type 0) (wider : (of : ClosedType) → Q of → P of) where
  one_wider : (e : Event) → IsWithin Q e → IsWithin P e
  one_wider (effects.born id of home) one = wider of one
  one_wider (effects.consumed id) one = tt
  one_wider (effects.opened b) one = tt
  one_wider (effects.used b) one = tt
  one_wider (effects.closed b) one = tt

  all_wider : (es : List Event) → AreWithin Q es → AreWithin P es
  all_wider [] all = tt
  all_wider (e ∷ es) all = (one_wider e all.0, all_wider es all.1)

  bears_wider : (s t : Store) → Bears Q s t → Bears P s t
  bears_wider s t one = record { more = one.more; adds = one.adds; within = all_wider one.more one.within }

  pub to_wider : {A : Type 0} (w : World) (out : Out A) → BearsTo Q w out → BearsTo P w out
  unfolding BearsTo
  to_wider w (gives a v left) one = bears_wider w.store v.store one
  to_wider w (aborts fault v left) one = bears_wider w.store v.store one
  to_wider w (cut v) one = bears_wider w.store v.store one
  to_wider w (no_rule v left) one = bears_wider w.store v.store one

module _ (P : ClosedType → Type 0) where
  -- ---- the world

  pub value_keeps : (name : ℕ) (value : Option Value) → Keeps P (does (with_value name value))
  value_keeps name value = does_keeps P (with_value name value) (λ w. bears_same P w.store _ refl)

  moves_keeps : (name : ℕ) → Keeps P (moves name)
  moves_keeps name =
      then_keeps P _ _ (asks_keeps P (λ world. name_at (frame_in world) name world.store)) (λ value.
      and_keeps P _ _ (value_keeps name None) (pure_keeps P value))

  pub reads_keeps : (one : ℕ × Place) → Keeps P (reads one)
  reads_keeps one = takes_keeps P _ (λ s. read_bears P one s)

  pub lends_keeps : (mode : BorrowMode) (name : ℕ) → Keeps P (lends mode name)
  lends_keeps mode name =
      then_keeps P _ _ (asks_keeps P (borrowed_place mode name)) (λ place.
      then_keeps P _ _ (asks_keeps P (λ world. Some (next_reference place world.store))) (λ value.
      and_keeps P _ _
      (does_keeps P (with_borrow (access_of mode) place) (λ w.
      bears_one P (opened w.store.borrows) tt w.store _ refl))
      (pure_keeps P value)))

  pub closed_keeps : (count : ℕ) → Keeps P (does (closed_to count))
  closed_keeps count =
      does_keeps P (closed_to count) (λ w.
      bears_closes P (map (λ (one : Borrow). one.number) (newer count w.borrows)) w.store)

  pub closing_keeps : {A : Type 0} (m : Action A) → Keeps P m → Keeps P (closing m)
  closing_keeps m one =
      then_keeps P _ _ (asks_keeps P (λ world. Some (length world.borrows))) (λ count.
      then_keeps P m _ one (λ a. and_keeps P _ _ (closed_keeps count) (pure_keeps P a)))

  makes_keeps : (b : Bool) (of : ClosedType) (tag : ℕ) (home : Bytes) (fields : List Value) → (b ≡ true → P of)
      → Keeps P (makes_value b of tag home fields)
  makes_keeps false of tag home fields may = pure_keeps P (made tag None (fields_of fields))
  makes_keeps true of tag home fields may =
      then_keeps P _ _ (asks_keeps P (λ world. Some (length world.store.births))) (λ id.
      and_keeps P _ _
      (does_keeps P (λ world. in_store (bears of home nothing world.store) world) (λ w.
      born_bears P w.store w.store of home nothing (may refl) (bears_same P w.store w.store refl)))
      (pure_keeps P (made tag (Some id) (fields_of fields))))

  -- ---- leaves

  literal_keeps : (kind : Option IntKind) (z : ℤ) → Keeps P (literal kind z)
  literal_keeps kind z =
      needing_keeps P kind _ (λ one. where_keeps P (is_of_kind one z) _ (pure_keeps P (values.number one z)))

  copies_keeps : (b : Bool) (name : ℕ) → Keeps P (copies b name)
  copies_keeps true name = asks_keeps P _
  copies_keeps false name = moves_keeps name

  pub chosen_keeps : {A : Type 0} (one other : Action A) (value : Value) → Keeps P one → Keeps P other
      → Keeps P (chosen one other value)
  chosen_keeps one other value first second =
      needing_keeps P (truth_in value) _ (λ b. truth_keeps P one other b first second)

  operand_keeps : (o : Option Variable) (m : Action Value) → Keeps P m → Keeps P (operand o m)
  operand_keeps None m one = one
  operand_keeps (Some x) m one = tick_keeps P _ (asks_keeps P _)

  module _ {I T C : Type 0} (see : View I T C) where
    mentions_keeps : (note : T) (o : Option Variable) (name : Bytes) → Keeps P (mentions see note o name)
    mentions_keeps note (Some x) name = copies_keeps (see.is_free note) x.number
    mentions_keeps note None name = needing_keeps P (see.constant note name) pure (λ value. pure_keeps P value)

    into_keeps : (o : Option Variable) (names : List Bytes) → Keeps P (looks_into see o names)
    into_keeps None names = stuck_keeps P _
    into_keeps (Some x) names = needing_keeps P _ (looks x.number) (λ path. asks_keeps P _)

    pub reaches_keeps : (o : Option Variable) (names : List Bytes) → Keeps P (reaches see o names)
    reaches_keeps None names = stuck_keeps P _
    reaches_keeps (Some r) names = needing_keeps P _ (refers r.number) (λ path. asks_keeps P _)

    operates_keeps : (op : Operation) (note first : T) (a b : Value) → Keeps P (operates see op note first a b)
    operates_keeps (computes op) note first a b = needing_keeps P _ _ (λ kind. comes_keeps P (computed op kind a b))
    operates_keeps (compares op) note first a b = needing_keeps P _ _ (λ kind. comes_keeps P (compared op kind a b))
    operates_keeps is_and note first a b = stuck_keeps P _
    operates_keeps is_or note first a b = stuck_keeps P _

    -- ---- calls

    module _ (Q : I → ClosedType → Type 0) (invoke : I → List Value → Action Value)
        (called : (one : I) (args : List Value) → Keeps (Q one) (invoke one args)) where
      abbrev Stays : Act I → Type 0
      Stays act = StaysWithin Q see.is_linear P act

      acts_keeps : (act : Act I) (args : List Value) → Stays act → Keeps P (acts see invoke act args)
      acts_keeps (invokes one) args stays = λ w ticks.
          to_wider (Q one) P stays w (invoke one args w ticks) (called one args w ticks)
      acts_keeps (makes of tag home) args stays = makes_keeps (see.is_linear of) of tag home args stays
      acts_keeps (ships prim born) args stays = ships_keeps P prim born args stays

      calls_keeps : (o : Option (Callee I)) (order : List Bytes → Option (List Value))
          → ((act : Act I) → Contains (act_in o) act → Stays act) → Keeps P (calls see invoke o order)
      calls_keeps None order stay = stuck_keeps P _
      calls_keeps (Some one) order stay =
          needing_keeps P (order one.parameters) (acts see invoke one.act) (λ args.
          acts_keeps one.act args (stay one.act (0, omega arith, refl)))

      joins_keeps : (op : Operation) (note first : T) (a b : Action Value) → Keeps P a → Keeps P b
          → Keeps P (joins see invoke op note first a b)
      joins_keeps is_and note first a b one two =
          then_keeps P a _ one (λ x. tick_keeps P _ (chosen_keeps b _ x two (pure_keeps P _)))
      joins_keeps is_or note first a b one two =
          then_keeps P a _ one (λ x. tick_keeps P _ (chosen_keeps _ b x (pure_keeps P _) two))
      joins_keeps (computes op) note first a b one two =
          then_keeps P a _ one (λ x. then_keeps P b _ two (λ y.
          tick_keeps P _ (operates_keeps (computes op) note first x y)))
      joins_keeps (compares op) note first a b one two =
          then_keeps P a _ one (λ x. then_keeps P b _ two (λ y.
          tick_keeps P _ (operates_keeps (compares op) note first x y)))

      -- ---- expressions

      -- what the calls in them do
      abbrev pub leads : T → C → Bytes → List (Act I)
      leads note c name = act_in (see.callee note c name)

      -- each of some acts stays within the bounds
      abbrev pub Stay : List (Act I) → Type 0
      Stay all = (act : Act I) → Contains all act → Stays act

      pub left_stay : (one other : List (Act I)) → Stay (one ++ other) → Stay one
      left_stay one other stay act here = stay act (Contains-append_left one other act here)

      pub right_stay : (one other : List (Act I)) → Stay (one ++ other) → Stay other
      right_stay one other stay act here = stay act (Contains-append_right one other act here)

      mutual
        pub eval_keeps : (scope : Scope) (e : Expression Bytes T C) → Stay (calls_in leads e)
            → Keeps P (eval see invoke scope e)
        eval_keeps scope (number n l) stay = tick_keeps P _ (literal_keeps (kind_in (see.type_of n.note)) l.value)
        eval_keeps scope (negative n l) stay =
            tick_keeps P _ (literal_keeps (kind_in (see.type_of n.note)) (neg_ℤ l.value))
        eval_keeps scope (text n t) stay = tick_keeps P _ (pure_keeps P _)
        eval_keeps scope (truth n b) stay = tick_keeps P _ (pure_keeps P _)
        eval_keeps scope (nil n) stay = tick_keeps P _ (pure_keeps P _)
        eval_keeps scope (path n x []) stay = tick_keeps P _ (mentions_keeps n.note (variable_of scope x.name) x.name)
        eval_keeps scope (path n x (field ∷ fields)) stay =
            tick_keeps P _ (into_keeps (variable_of scope x.name) (names_of (field ∷ fields)))
        eval_keeps scope (arrow n r fields) stay =
            tick_keeps P _ (then_keeps P _ reads (reaches_keeps (variable_of scope r.name) (names_of fields))
            (λ one. reads_keeps one))
        eval_keeps scope (call n f args c) stay =
            then_keeps P _ _ (all_keeps scope args (right_stay (leads n.note c f.name) (calls_in_all leads args) stay))
            (λ vs. tick_keeps P _ (calls_keeps (see.callee n.note c f.name) (by_position vs)
            (left_stay (leads n.note c f.name) (calls_in_all leads args) stay)))
        eval_keeps scope (named_call n f args c) stay =
            then_keeps P _ _
            (named_keeps scope args (right_stay (leads n.note c f.name) (calls_in_arguments leads args) stay))
            (λ vs. tick_keeps P _ (calls_keeps (see.callee n.note c f.name) (by_labels (labelled (labels args) vs))
            (left_stay (leads n.note c f.name) (calls_in_arguments leads args) stay)))
        eval_keeps scope (parenthesized n e) stay = eval_keeps scope e stay
        eval_keeps scope (dereference n e) stay =
            then_keeps P _ _ (operand_keeps (alone scope e) _ (eval_keeps scope e stay)) (λ x.
            tick_keeps P _ (needing_keeps P (reference_in x) reads (λ one. reads_keeps one)))
        eval_keeps scope (borrow n mode x) stay =
            tick_keeps P _ (needing_keeps P (variable_of scope x.name) _ (λ x. lends_keeps mode x.number))
        eval_keeps scope (borrow_part n r fields) stay =
            tick_keeps P _ (then_keeps P _ _ (reaches_keeps (variable_of scope r.name) (names_of fields))
            (λ one. pure_keeps P _))
        eval_keeps scope (binary n op a b) stay =
            joins_keeps (operation_of op) n.note (note_of a) _ _
            (eval_keeps scope a (left_stay (calls_in leads a) (calls_in leads b) stay))
            (eval_keeps scope b (right_stay (calls_in leads a) (calls_in leads b) stay))
        eval_keeps scope (negation n e) stay =
            then_keeps P _ _ (eval_keeps scope e stay) (λ x. tick_keeps P _ (comes_keeps P (negated x)))
        eval_keeps scope (typed n e t) stay = eval_keeps scope e stay
        eval_keeps scope (choice n c a b) stay =
            let front = left_stay (calls_in leads c ++ calls_in leads a) (calls_in leads b) stay in
            then_keeps P _ _ (eval_keeps scope c (left_stay (calls_in leads c) (calls_in leads a) front)) (λ x.
            tick_keeps P _ (chosen_keeps _ _ x
            (eval_keeps scope a (right_stay (calls_in leads c) (calls_in leads a) front))
            (eval_keeps scope b (right_stay (calls_in leads c ++ calls_in leads a) (calls_in leads b) stay))))

        pub all_keeps : (scope : Scope) (es : Expressions Bytes T C) → Stay (calls_in_all leads es)
            → Keeps P (eval_all see invoke scope es)
        all_keeps scope no_expressions stay = pure_keeps P []
        all_keeps scope (expressions e rest) stay =
            then_keeps P _ _ (eval_keeps scope e (left_stay (calls_in leads e) (calls_in_all leads rest) stay)) (λ v.
            then_keeps P _ _ (all_keeps scope rest (right_stay (calls_in leads e) (calls_in_all leads rest) stay))
            (λ vs. pure_keeps P (v ∷ vs)))

        pub named_keeps : (scope : Scope) (es : Arguments Bytes T C) → Stay (calls_in_arguments leads es)
            → Keeps P (eval_named see invoke scope es)
        named_keeps scope no_arguments stay = pure_keeps P []
        named_keeps scope (arguments label e rest) stay =
            then_keeps P _ _
            (eval_keeps scope e (left_stay (calls_in leads e) (calls_in_arguments leads rest) stay)) (λ v.
            then_keeps P _ _
            (named_keeps scope rest (right_stay (calls_in leads e) (calls_in_arguments leads rest) stay))
            (λ vs. pure_keeps P (v ∷ vs)))

      pub whole_keeps : (scope : Scope) (e : Expression Bytes T C) → Stay (calls_in leads e)
          → Keeps P (whole see invoke scope e)
      whole_keeps scope e stay = closing_keeps _ (eval_keeps scope e stay)
