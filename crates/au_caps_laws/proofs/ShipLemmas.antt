-- What is born by what is done to the store.
use Rattle.std.proofs.Common.{◌≡◌, ℕ, ◌-◌, List, [], ◌∷◌, ◌++◌, Option, None, Some}
use Rattle.std.proofs.Common.{length, slice_get, pos, refl, ap, ◌∙◌}
use Rattle.au_base.specs.declared.kinds.IntKind.TheVariants.{Index, Nat8}
use Rattle.au_effects.specs.Answers as answer
use Rattle.au_effects.specs.Answers.{Answer}
use Rattle.au_effects.specs.Calls as ships
use Rattle.au_effects.specs.Calls.{given, of_none, of_one, of_three, of_two, shipped, untyped, use_of, buffer_use}
use Rattle.au_effects.specs.Cases.{case_behind, told_apart}
use Rattle.au_effects.specs.Numbers.{number_of}
use Rattle.au_effects.specs.Parts.{along, part, with_part}
use Rattle.au_effects.specs.Places.{at, base_at, base_set, content_in, exchanged, set_over}
use Rattle.au_effects.specs.References.{put_behind, read_behind, reference_in}
use Rattle.au_effects.specs.Values as values
use Rattle.au_effects.specs.Values.{Base, Place, name_of, content_of}
use Rattle.au_effects.specs.Worlds.{Held, bears, born, consumed, ends, tells, used}
use Rattle.au_shipped.specs.declared.prims.ShippedCall.{ShippedCall}
use Rattle.au_shipped.specs.declared.prims.ShippedCall.TheVariants as prim
use Rattle.au_type_texts.specs.Types.{ClosedType}
use Rattle.au_meaning.specs.Acts.{answered, heard, next_byte, operation, other_bytes, shipped_by, ships_call, told}
use Rattle.au_meaning.specs.Worlds.{Store, Value, World}
use Rattle.au_caps_laws.specs.Bearing.{Bears, BearsTo}
use Rattle.au_caps_laws.proofs.BearLemmas.{FoundBears, Keeps, bears_as, bears_one, bears_same, bears_spends}
use Rattle.au_caps_laws.proofs.BearLemmas.{bears_then, comes_keeps}

module _ (P : ClosedType → Type 0) where
  -- ---- places

  base_same : (base : Base) (value : Value) (s : Store) → (base_set base value s).deeds ≡ s.deeds
  base_same (name_of frame name) value s = refl
  base_same (content_of birth) value s = refl

  set_bears : (s t : Store) (place : Place) (new base : Value) (o : Option Value) → Bears P s t
      → FoundBears P s (along o (λ (old : Value). Some (old, base_set place.base (with_part place.path new base) t)))
  set_bears s t place new base None one = tt
  set_bears s t place new base (Some old) one = record {
    more = one.more;
    adds = base_same place.base (with_part place.path new base) t ∙ one.adds;
    within = one.within;
  }

  over_bears : (s t : Store) (place : Place) (new : Value) (o : Option Value) → Bears P s t
      → FoundBears P s (set_over place new t o)
  over_bears s t place new None one = tt
  over_bears s t place new (Some base) one = set_bears s t place new base (part place.path base) one

  pub exchanged_bears : (place : Place) (new : Value) (s : Store) → FoundBears P s (exchanged place new s)
  exchanged_bears place new s = over_bears s s place new (base_at place.base s) (bears_same P s s refl)

  pub put_bears : (one : ℕ × Place) (new : Value) (s : Store) → FoundBears P s (put_behind one new s)
  put_bears one new s =
      let after = tells (used one.0) s in
      over_bears s after one.1 new (base_at one.1.base after) (bears_one P (used one.0) tt s s refl)

  read_at : (one : ℕ × Place) (o : Option Value) (s : Store)
      → FoundBears P s (along o (λ (value : Value). Some (value, tells {B = ClosedType} (used one.0) s)))
  read_at one None s = tt
  read_at one (Some value) s = bears_one P (used one.0) tt s s refl

  pub read_bears : (one : ℕ × Place) (s : Store) → FoundBears P s (read_behind one s)
  read_bears one s = read_at one (at one.1 s) s

  case_at : {A : Type 0} (s t : Store) (o : Option A) → Bears P s t
      → FoundBears P s (along o (λ (parts : A). Some (parts, t)))
  case_at s t None one = tt
  case_at s t (Some parts) one = one

  case_bears : (one : ℕ × Place) (s : Store) (o : Option (Value × Store)) → FoundBears P s o
      → FoundBears P s (along o (λ (pair : Value × Store).
      along (case_behind one pair.0) (λ parts. Some (parts, pair.1))))
  case_bears one s None bears = tt
  case_bears one s (Some pair) bears = case_at s pair.1 (case_behind one pair.0) bears

  pub apart_bears : (value : Value) (s : Store) → FoundBears P s (told_apart value s)
  apart_bears values.unit s = tt
  apart_bears (values.truth b) s = tt
  apart_bears (values.number kind z) s = tt
  apart_bears (values.text t) s = tt
  apart_bears (values.made tag birth parts) s = bears_spends P birth s
  apart_bears (values.reference borrow place) s =
      case_bears (borrow, place) s (read_behind (borrow, place) s) (read_bears (borrow, place) s)
  apart_bears (values.box id) s = tt
  apart_bears (values.buffer id) s = tt
  apart_bears (values.terminal id) s = tt
  apart_bears (values.root id) s = tt

  -- ---- answers

  unfoldable pub AnswerBears : Store → Answer (List ℕ) ClosedType → Type 0
  AnswerBears s (answer.gives value t) = Bears P s t
  AnswerBears s (answer.writes bytes t) = Bears P s t
  AnswerBears s answer.waits = Unit {0}
  AnswerBears s (answer.aborts fault t) = Bears P s t
  AnswerBears s answer.none = Unit {0}

  gives_it : (s : Store) (value : Value) (t : Store) → Bears P s t → AnswerBears s (answer.gives value t)
  unfolding AnswerBears
  gives_it s value t one = one

  writes_it : (s : Store) (bytes : List ℕ) (t : Store) → Bears P s t → AnswerBears s (answer.writes bytes t)
  unfolding AnswerBears
  writes_it s bytes t one = one

  aborts_it : (s : Store) (fault : answer.Fault (List ℕ)) (t : Store) → Bears P s t
      → AnswerBears s (answer.aborts fault t)
  unfolding AnswerBears
  aborts_it s fault t one = one

  nothing_it : (s : Store) → AnswerBears s answer.none
  unfolding AnswerBears
  nothing_it s = tt

  waits_it : (s : Store) → AnswerBears s answer.waits
  unfolding AnswerBears
  waits_it s = tt

  given_bears : {A : Type 0} (s : Store) (o : Option A) (go : A → Answer (List ℕ) ClosedType)
      → ((a : A) → AnswerBears s (go a)) → AnswerBears s (given o go)
  unfolding AnswerBears
  given_bears s None go each = tt
  given_bears s (Some a) go each = each a

  pair_bears : (s : Store) (o : Option (Value × Store)) → FoundBears P s o
      → AnswerBears s (given o (λ (pair : Value × Store). answer.gives pair.0 pair.1))
  unfolding AnswerBears
  pair_bears s None one = tt
  pair_bears s (Some pair) one = one

  untyped_bears : (s : Store) (of : Option ClosedType) (a : Answer (List ℕ) ClosedType) → AnswerBears s a
      → AnswerBears s (untyped of a)
  unfolding AnswerBears
  untyped_bears s None a one = one
  untyped_bears s (Some of) a one = tt

  one_bears : (s : Store) (go : Value → Answer (List ℕ) ClosedType) (args : List Value)
      → ((a : Value) → AnswerBears s (go a)) → AnswerBears s (of_one go args)
  unfolding AnswerBears
  one_bears s go [] each = tt
  one_bears s go (a ∷ []) each = each a
  one_bears s go (a ∷ b ∷ more) each = tt

  two_bears : (s : Store) (go : Value → Value → Answer (List ℕ) ClosedType) (args : List Value)
      → ((a b : Value) → AnswerBears s (go a b)) → AnswerBears s (of_two go args)
  unfolding AnswerBears
  two_bears s go [] each = tt
  two_bears s go (a ∷ []) each = tt
  two_bears s go (a ∷ b ∷ []) each = each a b
  two_bears s go (a ∷ b ∷ c ∷ more) each = tt

  three_bears : (s : Store) (go : Value → Value → Value → Answer (List ℕ) ClosedType) (args : List Value)
      → ((a b c : Value) → AnswerBears s (go a b c)) → AnswerBears s (of_three go args)
  unfolding AnswerBears
  three_bears s go [] each = tt
  three_bears s go (a ∷ []) each = tt
  three_bears s go (a ∷ b ∷ []) each = tt
  three_bears s go (a ∷ b ∷ c ∷ []) each = each a b c
  three_bears s go (a ∷ b ∷ c ∷ d ∷ more) each = tt

  none_bears : (s : Store) (a : Answer (List ℕ) ClosedType) (args : List Value) → AnswerBears s a
      → AnswerBears s (of_none a args)
  unfolding AnswerBears
  none_bears s a [] one = one
  none_bears s a (b ∷ more) one = tt

  use_bears : (s : Store) (value : Value) (go : ℕ → Place → Value → Answer (List ℕ) ClosedType)
      → ((borrow : ℕ) (place : Place) (held : Value) → AnswerBears s (go borrow place held))
      → AnswerBears s (use_of value s go)
  use_bears s value go each =
      given_bears s (reference_in value) (λ (one : ℕ × Place). given (at one.1 s) (λ held. go one.0 one.1 held))
      (λ (one : ℕ × Place). given_bears s (at one.1 s) (go one.0 one.1) (λ held. each one.0 one.1 held))

  same_used : (s : Store) (borrow : ℕ) → Bears P s (tells {B = ClosedType} (used borrow) s)
  same_used s borrow = bears_one P (used borrow) tt s s refl

  buffer_bears : (s : Store) (value : Value) (go : ℕ → List Value → Store → Answer (List ℕ) ClosedType)
      → ((id : ℕ) (values : List Value) (t : Store) → Bears P s t → AnswerBears s (go id values t))
      → AnswerBears s (buffer_use value s go)
  buffer_bears s value go each =
      use_bears s value _ (λ borrow place held.
      given_bears s (ships.buffer_in held) _ (λ id.
      given_bears s (along (slice_get s.births id) ships.elements_in) _ (λ all.
      each id all (tells (used borrow) s) (same_used s borrow))))

  -- ---- births

  pub born_bears : (s t : Store) (of : ClosedType) (home : List ℕ) (held : Held (List ℕ)) → P of → Bears P s t
      → Bears P s (bears of home held t)
  born_bears s t of home held one before =
      bears_then P s t (bears of home held t) before
      (bears_one P (born (length t.births) of home) one t (record t { births = t.births ++ held ∷ [] }) refl)

  ended_bears : (s : Store) (id : ℕ) → Bears P s (ends {B = ClosedType} id s)
  ended_bears s id = bears_one P (consumed id) tt s _ refl

  taken_bears : (s t : Store) (id : ℕ) (all : List Value) (o : Option Value) → Bears P s t
      → AnswerBears s (ships.last_taken id all o t)
  unfolding AnswerBears
  taken_bears s t id all None one = one
  taken_bears s t id all (Some last) one = bears_as P s t _ refl one

  copied_bears : (s t : Store) (o : Option Value) → Bears P s t → AnswerBears s (ships.element_copied o t)
  unfolding AnswerBears
  copied_bears s t None one = one
  copied_bears s t (Some value) one = one

  replaced_bears : (s t : Store) (id : ℕ) (all : List Value) (index : ℕ) (new : Value) (o : Option Value)
      → Bears P s t → AnswerBears s (ships.element_replaced id all index new o t)
  unfolding AnswerBears
  replaced_bears s t id all index new None one = one
  replaced_bears s t id all index new (Some old) one = bears_as P s t _ refl one

  emptied_bears : (s : Store) (id : ℕ) (all : List Value) → AnswerBears s (ships.buffer_ended id all s)
  unfolding AnswerBears
  emptied_bears s id [] = ended_bears s id
  emptied_bears s id (value ∷ rest) = bears_same P s s refl

  -- what is born is of this type
  of_it : (o : Option ClosedType) (go : ClosedType → Answer (List ℕ) ClosedType) (s : Store)
      → ((of : ClosedType) → o ≡ Some of → P of) → ((of : ClosedType) → P of → AnswerBears s (go of))
      → AnswerBears s (given o go)
  unfolding AnswerBears
  of_it None go s may each = tt
  of_it (Some of) go s may each = each of (may of refl)

  -- ---- calls of boxes and buffers

  unbox_bears : (s : Store) (a : Value) → AnswerBears s (ships.unbox_call s a)
  unbox_bears s a =
      given_bears s (ships.box_in a) _ (λ id.
      given_bears s (along (slice_get s.births id) content_in) _ (λ value. gives_it s value _ (ended_bears s id)))

  destroy_bears : (s : Store) (a : Value) → AnswerBears s (ships.destroy_empty s a)
  destroy_bears s a =
      given_bears s (ships.buffer_in a) _ (λ id.
      given_bears s (along (slice_get s.births id) ships.elements_in) _ (λ all. emptied_bears s id all))

  write_bears : (s : Store) (a b : Value) → AnswerBears s (ships.write_byte s a b)
  write_bears s a b =
      use_bears s a _ (λ borrow place held.
      given_bears s (ships.terminal_in held) _ (λ id.
      given_bears s (ships.natural_in (number_of Nat8 b)) _ (λ byte.
      writes_it s (byte ∷ []) _ (same_used s borrow))))

  length_bears : (s : Store) (a : Value) → AnswerBears s (ships.length_call s a)
  length_bears s a =
      buffer_bears s a (λ id all t. answer.gives (values.number Index (pos (length all))) t)
      (λ id all t one. gives_it s (values.number Index (pos (length all))) t one)

  insert_bears : (s : Store) (a new : Value) → AnswerBears s (ships.insert_back s a new)
  insert_bears s a new =
      buffer_bears s a (λ id all t. answer.gives values.unit (ships.with_elements id (all ++ new ∷ []) t))
      (λ id all t one. gives_it s values.unit (ships.with_elements id (all ++ new ∷ []) t) (bears_as P s t _ refl one))

  remove_bears : (s : Store) (a : Value) → AnswerBears s (ships.remove_back s a)
  remove_bears s a =
      buffer_bears s a (λ id all t. ships.last_taken id all (slice_get all (length all - 1)) t)
      (λ id all t one. taken_bears s t id all (slice_get all (length all - 1)) one)

  nth_bears : (s : Store) (a i : Value) → AnswerBears s (ships.nth_call s a i)
  nth_bears s a i =
      given_bears s (ships.index_in i) _ (λ index.
      buffer_bears s a (λ id all t. ships.element_copied (slice_get all index) t)
      (λ id all t one. copied_bears s t (slice_get all index) one))

  replace_bears : (s : Store) (a i new : Value) → AnswerBears s (ships.replace_nth s a i new)
  replace_bears s a i new =
      given_bears s (ships.index_in i) _ (λ index.
      buffer_bears s a (λ id all t. ships.element_replaced id all index new (slice_get all index) t)
      (λ id all t one. replaced_bears s t id all index new (slice_get all index) one))

  pub shipped_bears : (call : ShippedCall) (o : Option ClosedType) (s : Store) (args : List Value)
      → ((of : ClosedType) → o ≡ Some of → P of) → AnswerBears s (shipped (λ text. text) call o s args)
  unfolding shipped
  shipped_bears prim.PrintText o s args may =
      untyped_bears s o _ (one_bears s _ args (λ a. given_bears s _ _ (λ t. writes_it s _ s (bears_same P s s refl))))
  shipped_bears prim.PrintInt o s args may =
      untyped_bears s o _ (one_bears s _ args (λ a. given_bears s _ _ (λ t. writes_it s _ s (bears_same P s s refl))))
  shipped_bears prim.PrintBool o s args may =
      untyped_bears s o _ (one_bears s _ args (λ a. given_bears s _ _ (λ t. writes_it s _ s (bears_same P s s refl))))
  shipped_bears prim.PrintLnText o s args may =
      untyped_bears s o _ (one_bears s _ args (λ a. given_bears s _ _ (λ t. writes_it s _ s (bears_same P s s refl))))
  shipped_bears prim.PrintLnInt o s args may =
      untyped_bears s o _ (one_bears s _ args (λ a. given_bears s _ _ (λ t. writes_it s _ s (bears_same P s s refl))))
  shipped_bears prim.PrintLnBool o s args may =
      untyped_bears s o _ (one_bears s _ args (λ a. given_bears s _ _ (λ t. writes_it s _ s (bears_same P s s refl))))
  shipped_bears (prim.Wrap op kind) o s args may = nothing_it s
  shipped_bears (prim.Convert kind) o s args may = nothing_it s
  shipped_bears prim.SurrenderRoot o s args may =
      untyped_bears s o _ (one_bears s _ args (λ a. given_bears s _ _
      (λ id. gives_it s _ _ (bears_spends P (Some id) s))))
  shipped_bears prim.Abort o s args may =
      untyped_bears s o _ (one_bears s _ args (λ a. given_bears s _ _ (λ t. aborts_it s _ s (bears_same P s s refl))))
  shipped_bears prim.SpanLength o s args may =
      untyped_bears s o _ (one_bears s _ args (λ a. given_bears s _ _ (λ t. gives_it s _ s (bears_same P s s refl))))
  shipped_bears prim.Swap o s args may =
      untyped_bears s o _ (two_bears s _ args (λ a new.
      given_bears s _ _ (λ one. pair_bears s (put_behind one new s) (put_bears one new s))))
  shipped_bears prim.MakeBox o s args may =
      one_bears s _ args (λ a. of_it o _ s may (λ of one. gives_it s _ _
      (born_bears s s of _ _ one (bears_same P s s refl))))
  shipped_bears prim.Unbox o s args may =
      untyped_bears s o _ (one_bears s (ships.unbox_call s) args (λ a. unbox_bears s a))
  shipped_bears prim.BoxGet o s args may =
      untyped_bears s o _ (one_bears s _ args (λ a.
      use_bears s a _ (λ borrow place held. given_bears s _ _ (λ id. gives_it s _ _ (same_used s borrow)))))
  shipped_bears prim.BoxGetMut o s args may =
      untyped_bears s o _ (one_bears s _ args (λ a.
      use_bears s a _ (λ borrow place held. given_bears s _ _ (λ id. gives_it s _ _ (same_used s borrow)))))
  shipped_bears prim.MakeEmpty o s args may =
      none_bears s _ args (of_it o _ s may (λ of one. gives_it s _ _
      (born_bears s s of _ _ one (bears_same P s s refl))))
  shipped_bears prim.DestroyEmpty o s args may =
      untyped_bears s o _ (one_bears s (ships.destroy_empty s) args (λ a. destroy_bears s a))
  shipped_bears prim.Length o s args may =
      untyped_bears s o _ (one_bears s (ships.length_call s) args (λ a. length_bears s a))
  shipped_bears prim.InsertBack o s args may =
      untyped_bears s o _ (two_bears s (ships.insert_back s) args (λ a new. insert_bears s a new))
  shipped_bears prim.RemoveBack o s args may =
      untyped_bears s o _ (one_bears s (ships.remove_back s) args (λ a. remove_bears s a))
  shipped_bears prim.Nth o s args may =
      untyped_bears s o _ (two_bears s (ships.nth_call s) args (λ a i. nth_bears s a i))
  shipped_bears prim.ReplaceNth o s args may =
      untyped_bears s o _ (three_bears s (ships.replace_nth s) args (λ a i new. replace_bears s a i new))
  shipped_bears prim.AcquireTerminal o s args may =
      one_bears s _ args (λ a. use_bears s a _ (λ borrow place held.
      given_bears s _ _ (λ id. of_it o _ s may (λ of one.
      gives_it s _ _ (born_bears s (tells (used borrow) s) of _ _ one (same_used s borrow))))))
  shipped_bears prim.ReadByte o s args may =
      untyped_bears s o _ (one_bears s _ args (λ a.
      use_bears s a _ (λ borrow place held. given_bears s _ _ (λ id. waits_it s))))
  shipped_bears prim.WriteByte o s args may =
      untyped_bears s o _ (two_bears s (ships.write_byte s) args (λ a b. write_bears s a b))
  shipped_bears prim.ReleaseTerminal o s args may =
      untyped_bears s o _ (one_bears s _ args (λ a. given_bears s _ _
      (λ id. gives_it s _ _ (bears_spends P (Some id) s))))

  -- ---- shipped calls as actions

  answered_keeps : (w : World) (a : Answer (List ℕ) ClosedType) (v : World) (ticks : ℕ) → v.store ≡ w.store
      → AnswerBears w.store a → BearsTo P w (answered a v ticks)
  unfolding BearsTo AnswerBears
  answered_keeps w (answer.gives value t) v ticks same one = one
  answered_keeps w (answer.writes bytes t) v ticks same one = one
  answered_keeps w answer.waits v ticks same one =
      bears_same P w.store v.store (ap (λ (s : Store). s.deeds) same)
  answered_keeps w (answer.aborts fault t) v ticks same one = one
  answered_keeps w answer.none v ticks same one =
      bears_same P w.store v.store (ap (λ (s : Store). s.deeds) same)

  heard_keeps : (args : List Value) (w : World) (ticks : ℕ) → BearsTo P w (heard args w ticks)
  heard_keeps args w ticks =
      answered_keeps w (of_one (ships.byte_read (next_byte w.left) w.store) args)
      (record w { left = other_bytes w.left }) ticks refl
      (one_bears w.store _ args (λ a.
      use_bears w.store a _ (λ borrow place held. given_bears w.store (ships.terminal_in held) _ (λ id.
      gives_it w.store _ _ (same_used w.store borrow)))))

  told_keeps : (args : List Value) (a : Answer (List ℕ) ClosedType) (w : World) (ticks : ℕ)
      → AnswerBears w.store a → BearsTo P w (told args a w ticks)
  unfolding BearsTo AnswerBears
  told_keeps args (answer.gives value t) w ticks one = one
  told_keeps args (answer.writes bytes t) w ticks one = one
  told_keeps args answer.waits w ticks one = heard_keeps args w ticks
  told_keeps args (answer.aborts fault t) w ticks one = one
  told_keeps args answer.none w ticks one = bears_same P w.store w.store refl

  by_keeps : (o : Option (answer.Result (List ℕ))) (call : ShippedCall) (of : Option ClosedType) (args : List Value)
      → ((t : ClosedType) → of ≡ Some t → P t) → Keeps P (shipped_by o call of args)
  by_keeps (Some result) call of args may = comes_keeps P result
  by_keeps None call of args may = λ w ticks.
      told_keeps args (shipped (λ text. text) call of w.store args) w ticks (shipped_bears call of w.store args may)

  pub ships_keeps : (call : ShippedCall) (of : Option ClosedType) (args : List Value)
      → ((t : ClosedType) → of ≡ Some t → P t) → Keeps P (ships_call call of args)
  ships_keeps call of args may = by_keeps (operation call args) call of args may
