-- A shipped call tells more, and unsays nothing.
use Rattle.std.proofs.Common.{ℕ, ◌-◌, Bool, true, false, if◌then◌else◌, List, [], ◌∷◌, ◌++◌, length, Option}
use Rattle.std.proofs.Common.{Some, None, slice_get, set, refl, codes, pos}
use Rattle.au_shipped.specs.declared.prims.ShippedCall.{ShippedCall}
use Rattle.au_shipped.specs.declared.prims.ShippedCall.TheVariants as prim
use Rattle.au_effects.specs.Answers.{Answer, gives, writes, waits, aborts, none}
use Rattle.au_effects.specs.Calls.{untyped, of_one, of_two, of_three, of_none, given, use_of, buffer_use}
use Rattle.au_effects.specs.Calls.{shipped, buffer_in, elements_in, last_taken, element_copied}
use Rattle.au_effects.specs.References.{reference_in, put_behind}
use Rattle.au_effects.specs.Calls.{element_replaced, buffer_ended, byte_read, index_in, natural_in, root_in}
use Rattle.au_effects.specs.Calls.{box_in, terminal_in, with_elements}
use Rattle.au_base.specs.declared.kinds.IntKind.TheVariants.{Nat8, Index}
use Rattle.au_effects.specs.Numbers.{number_in, number_of, truth_in, text_in, number_bytes, truth_bytes}
use Rattle.au_effects.specs.Parts.{along, part, with_part}
use Rattle.au_effects.specs.Places.{at, base_at, base_set, set_over, exchanged, content_in}
use Rattle.au_effects.specs.Values.{Value, Place, name_of, content_of, unit, number}
use Rattle.au_effects.specs.Worlds.{World, Held, Deed, tells, bears, ends, spends, born, consumed, used}
use Rattle.au_effects.specs.Worlds.{nothing, content, elements}
use Rattle.au_meaning.specs.Laws.{Begins}
use Rattle.au_meaning.proofs.Growing.{begins_refl, begins_trans}

module _ {T B : Type 0} where
  pub begins_told : (deed : Deed B) (w : World T B) → Begins w.deeds (tells deed w).deeds
  begins_told deed w = by_keeping w.keeps
    where
      by_keeping : (b : Bool) → Begins w.deeds (if b then w.deeds ++ deed ∷ [] else w.deeds)
      by_keeping true = (deed ∷ [], refl)
      by_keeping false = begins_refl w.deeds

  pub begins_bears : (of : B) (home : List ℕ) (held : Held T) (w : World T B)
      → Begins w.deeds (bears of home held w).deeds
  begins_bears of home held w = begins_told (born (length w.births) of home) (record w {
    births = w.births
        ++ held ∷ [];
  })

  pub begins_ends : (id : ℕ) (w : World T B) → Begins w.deeds (ends id w).deeds
  begins_ends id w = begins_told (consumed id) (record w { births = set w.births id nothing })

  pub begins_spends : (birth : Option ℕ) (w : World T B) → Begins w.deeds (spends birth w).deeds
  begins_spends None w = begins_refl w.deeds
  begins_spends (Some id) w = begins_told (consumed id) w

  -- what a call comes to tells more than these
  abbrev pub AnswerTells : List (Deed B) → Answer T B → Type 0
  AnswerTells deeds (gives value world) = Begins deeds world.deeds
  AnswerTells deeds (writes bytes world) = Begins deeds world.deeds
  AnswerTells deeds waits = Unit {0}
  AnswerTells deeds (aborts fault world) = Begins deeds world.deeds
  AnswerTells deeds none = Unit {0}

  module _ (deeds : List (Deed B)) where
    tells_given : {A : Type 0} (o : Option A) (go : A → Answer T B) → ((x : A) → AnswerTells deeds (go x))
        → AnswerTells deeds (given o go)
    tells_given None go h = tt
    tells_given (Some x) go h = h x

    tells_untyped : (of : Option B) (r : Answer T B) → AnswerTells deeds r
        → AnswerTells deeds (untyped of r)
    tells_untyped None r h = h
    tells_untyped (Some t) r h = tt

    pub tells_one : (go : Value T → Answer T B) (args : List (Value T)) → ((a : Value T)
        → AnswerTells deeds (go a)) → AnswerTells deeds (of_one go args)
    tells_one go [] h = tt
    tells_one go (a ∷ []) h = h a
    tells_one go (a ∷ b ∷ more) h = tt

    tells_two : (go : Value T → Value T → Answer T B) (args : List (Value T)) → ((a b : Value T)
        → AnswerTells deeds (go a b)) → AnswerTells deeds (of_two go args)
    tells_two go [] h = tt
    tells_two go (a ∷ []) h = tt
    tells_two go (a ∷ b ∷ []) h = h a b
    tells_two go (a ∷ b ∷ c ∷ more) h = tt

    tells_three : (go : Value T → Value T → Value T → Answer T B) (args : List (Value T))
        → ((a b c : Value T) → AnswerTells deeds (go a b c)) → AnswerTells deeds (of_three go args)
    tells_three go [] h = tt
    tells_three go (a ∷ []) h = tt
    tells_three go (a ∷ b ∷ []) h = tt
    tells_three go (a ∷ b ∷ c ∷ []) h = h a b c
    tells_three go (a ∷ b ∷ c ∷ d ∷ more) h = tt

    tells_none : (r : Answer T B) (args : List (Value T)) → AnswerTells deeds r
        → AnswerTells deeds (of_none r args)
    tells_none r [] h = h
    tells_none r (a ∷ more) h = tt

    tells_use : (value : Value T) (w : World T B) (go : ℕ → Place → Value T → Answer T B)
        → ((borrow : ℕ) (place : Place) (held : Value T) → AnswerTells deeds (go borrow place held))
        → AnswerTells deeds (use_of value w go)
    tells_use value w go h =
        tells_given (reference_in value) _ (λ one. tells_given (at one.1 w) _ (λ held. h one.0 one.1 held))

    tells_last : (id : ℕ) (values : List (Value T)) (o : Option (Value T)) (w : World T B)
        → Begins deeds w.deeds → AnswerTells deeds (last_taken id values o w)
    tells_last id values None w so = so
    tells_last id values (Some last) w so = so

    tells_copied : (o : Option (Value T)) (w : World T B) → Begins deeds w.deeds
        → AnswerTells deeds (element_copied o w)
    tells_copied None w so = so
    tells_copied (Some value) w so = so

    tells_replaced : (id : ℕ) (values : List (Value T)) (index : ℕ) (new : Value T) (o : Option (Value T))
        (w : World T B) → Begins deeds w.deeds
        → AnswerTells deeds (element_replaced id values index new o w)
    tells_replaced id values index new None w so = so
    tells_replaced id values index new (Some old) w so = so

  tells_buffer : (value : Value T) (w : World T B) (go : ℕ → List (Value T) → World T B → Answer T B)
      → ((id : ℕ) (values : List (Value T)) (told : World T B) → Begins w.deeds told.deeds
      → AnswerTells w.deeds (go id values told))
      → AnswerTells w.deeds (buffer_use value w go)
  tells_buffer value w go h =
      tells_use w.deeds value w _ (λ borrow place held.
      tells_given w.deeds (buffer_in held) _ (λ id.
      tells_given w.deeds (along (slice_get w.births id) elements_in) _ (λ values.
      h id values (tells (used borrow) w) (begins_told (used borrow) w))))

  tells_buffer_end : (id : ℕ) (values : List (Value T)) (w : World T B)
      → AnswerTells w.deeds (buffer_ended id values w)
  tells_buffer_end id [] w = begins_ends id w
  tells_buffer_end id (value ∷ values) w = begins_refl w.deeds

  -- what is put behind a reference tells a use, and nothing else
  put_tells : (one : ℕ × Place) (new : Value T) (w : World T B)
      → AnswerTells w.deeds (given (put_behind one new w) (λ pair. gives pair.0 pair.1))
  put_tells one new w = over (base_at one.1.base told)
    where
      told : World T B
      told = tells (used one.0) w

      by_base : (base : _) (value : Value T) → Begins w.deeds (base_set base value told).deeds
      by_base (name_of frame name) value = begins_told (used one.0) w
      by_base (content_of birth) value = begins_told (used one.0) w

      by_part : (value : Value T) (p : Option (Value T))
          → AnswerTells w.deeds (given (along {A = Value T} {B = Value T × World T B} p
          (λ old. Some (old, base_set one.1.base (with_part one.1.path new value) told)))
          (λ pair. gives pair.0 pair.1))
      by_part value None = tt
      by_part value (Some old) = by_base one.1.base (with_part one.1.path new value)

      over : (o : Option (Value T))
          → AnswerTells w.deeds (given (set_over one.1 new told o) (λ pair. gives pair.0 pair.1))
      over None = tt
      over (Some value) = by_part value (part one.1.path value)

  -- a byte that was read
  pub byte_tells : (byte : Option ℕ) (w : World T B) (a : Value T)
      → AnswerTells w.deeds (byte_read byte w a)
  byte_tells byte w a =
      tells_use w.deeds a w _ (λ borrow place held. tells_given w.deeds (terminal_in held) _ (λ id.
      begins_told (used borrow) w))

  module _ (bytes_of : T → List ℕ) where
    pub shipped_tells : (call : ShippedCall) (of : Option B) (w : World T B) (args : List (Value T))
        → AnswerTells w.deeds (shipped bytes_of call of w args)
    unfolding shipped
    shipped_tells prim.PrintText of w args = tells_untyped w.deeds of _ (tells_one w.deeds _ args (λ a.
        tells_given w.deeds (text_in a) _ (λ t. begins_refl w.deeds)))
    shipped_tells prim.PrintInt of w args = tells_untyped w.deeds of _ (tells_one w.deeds _ args (λ a.
        tells_given w.deeds (number_bytes (number_in a)) _ (λ t. begins_refl w.deeds)))
    shipped_tells prim.PrintBool of w args = tells_untyped w.deeds of _ (tells_one w.deeds _ args (λ a.
        tells_given w.deeds (truth_bytes (truth_in a)) _ (λ t. begins_refl w.deeds)))
    shipped_tells prim.PrintLnText of w args = tells_untyped w.deeds of _ (tells_one w.deeds _ args (λ a.
        tells_given w.deeds (text_in a) _ (λ t. begins_refl w.deeds)))
    shipped_tells prim.PrintLnInt of w args = tells_untyped w.deeds of _ (tells_one w.deeds _ args (λ a.
        tells_given w.deeds (number_bytes (number_in a)) _ (λ t. begins_refl w.deeds)))
    shipped_tells prim.PrintLnBool of w args = tells_untyped w.deeds of _ (tells_one w.deeds _ args (λ a.
        tells_given w.deeds (truth_bytes (truth_in a)) _ (λ t. begins_refl w.deeds)))
    shipped_tells (prim.Wrap op kind) of w args = tt
    shipped_tells (prim.Convert kind) of w args = tt
    shipped_tells prim.SurrenderRoot of w args = tells_untyped w.deeds of _ (tells_one w.deeds _ args (λ a.
        tells_given w.deeds (root_in a) _ (λ id. begins_told (consumed id) w)))
    shipped_tells prim.Abort of w args = tells_untyped w.deeds of _ (tells_one w.deeds _ args (λ a.
        tells_given w.deeds (text_in a) _ (λ t. begins_refl w.deeds)))
    shipped_tells prim.SpanLength of w args = tells_untyped w.deeds of _ (tells_one w.deeds _ args (λ a.
        tells_given w.deeds (text_in a) _ (λ t. begins_refl w.deeds)))
    shipped_tells prim.Swap of w args = tells_untyped w.deeds of _ (tells_two w.deeds _ args (λ a new.
        tells_given w.deeds (reference_in a) _ (λ one. put_tells one new w)))
    shipped_tells prim.MakeBox of w args = tells_one w.deeds _ args (λ a. tells_given w.deeds of _ (λ t.
        begins_bears t (codes "Standard.Box") (content a) w))
    shipped_tells prim.Unbox of w args = tells_untyped w.deeds of _ (tells_one w.deeds _ args (λ a.
        tells_given w.deeds (box_in a) _ (λ id. tells_given w.deeds (along (slice_get w.births id)
        content_in) _ (λ value. begins_ends id w))))
    shipped_tells prim.BoxGet of w args = tells_untyped w.deeds of _ (tells_one w.deeds _ args (λ a.
        tells_use w.deeds a w _ (λ borrow place held. tells_given w.deeds (box_in held) _ (λ id. begins_told
        (used borrow) w))))
    shipped_tells prim.BoxGetMut of w args = tells_untyped w.deeds of _ (tells_one w.deeds _ args (λ a.
        tells_use w.deeds a w _ (λ borrow place held. tells_given w.deeds (box_in held) _ (λ id. begins_told
        (used borrow) w))))
    shipped_tells prim.MakeEmpty of w args = tells_none w.deeds _ args (tells_given w.deeds of _ (λ t.
        begins_bears t (codes "Standard.Buffer") (elements []) w))
    shipped_tells prim.DestroyEmpty of w args = tells_untyped w.deeds of _ (tells_one w.deeds _ args (λ a.
        tells_given w.deeds (buffer_in a) _ (λ id. tells_given w.deeds (along (slice_get w.births id)
        elements_in) _ (λ values. tells_buffer_end id values w))))
    shipped_tells prim.Length of w args = tells_untyped w.deeds of _ (tells_one w.deeds _ args (λ a.
        tells_buffer a w (λ id values told. gives (number Index (pos (length values))) told) (λ id values
        told so. so)))
    shipped_tells prim.InsertBack of w args = tells_untyped w.deeds of _ (tells_two w.deeds _ args (λ a new.
        tells_buffer a w (λ id values told. gives unit (with_elements id (values ++ new ∷ []) told)) (λ id
        values told so. so)))
    shipped_tells prim.RemoveBack of w args = tells_untyped w.deeds of _ (tells_one w.deeds _ args (λ a.
        tells_buffer a w _ (λ id values told so. tells_last w.deeds id values (slice_get values (length
        values - 1)) told so)))
    shipped_tells prim.Nth of w args = tells_untyped w.deeds of _ (tells_two w.deeds _ args (λ a i.
        tells_given w.deeds (index_in i) _ (λ index. tells_buffer a w _ (λ id values told so. tells_copied
        w.deeds (slice_get values index) told so))))
    shipped_tells prim.ReplaceNth of w args = tells_untyped w.deeds of _ (tells_three w.deeds _ args (λ a i
        new. tells_given w.deeds (index_in i) _ (λ index. tells_buffer a w _ (λ id values told so.
        tells_replaced w.deeds id values index new (slice_get values index) told so))))
    shipped_tells prim.AcquireTerminal of w args = tells_one w.deeds _ args (λ a. tells_use w.deeds a w _ (λ
        borrow place held. tells_given w.deeds (root_in held) _ (λ id. tells_given w.deeds of _ (λ t.
        begins_trans w.deeds (tells (used borrow) w).deeds _ (begins_told (used borrow) w) (begins_bears t
        (codes "Standard.IO.Terminal") nothing (tells (used borrow) w))))))
    shipped_tells prim.ReadByte of w args = tells_untyped w.deeds of _ (tells_one w.deeds _ args (λ a.
        tells_use w.deeds a w _ (λ borrow place held. tells_given w.deeds (terminal_in held) _ (λ id. tt))))
    shipped_tells prim.WriteByte of w args = tells_untyped w.deeds of _ (tells_two w.deeds _ args (λ a b.
        tells_use w.deeds a w _ (λ borrow place held. tells_given w.deeds (terminal_in held) _ (λ id.
        tells_given w.deeds (natural_in (number_of Nat8 b)) _ (λ byte. begins_told (used borrow) w)))))
    shipped_tells prim.ReleaseTerminal of w args = tells_untyped w.deeds of _ (tells_one w.deeds _ args (λ
        a. tells_given w.deeds (terminal_in a) _ (λ id. begins_told (consumed id) w)))
