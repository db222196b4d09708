-- Shipped calls in a world whose deeds aren't kept.
use Rattle.std.proofs.Common.{◌≡◌, ℕ, ◌-◌, List, [], ◌∷◌, ◌++◌, length, pos, Option, Some, None, slice_get}
use Rattle.std.proofs.Common.{refl, ap, ◌∙◌}
use Rattle.std.specs.Option.{option_map}
use Rattle.au_base.specs.declared.kinds.IntKind.TheVariants.{Nat8, Index}
use Rattle.au_shipped.specs.declared.prims.ShippedCall.{ShippedCall}
use Rattle.au_shipped.specs.declared.prims.ShippedCall.TheVariants as prim
use Rattle.au_effects.specs.Values.{Value, Place, unit, number}
use Rattle.au_effects.specs.Parts.{along, part}
use Rattle.au_effects.specs.Worlds.{World, used, tells}
use Rattle.au_effects.specs.Places.{at, content_in, exchanged}
use Rattle.au_effects.specs.Numbers.{number_in, number_of, truth_in, text_in, number_bytes, truth_bytes}
use Rattle.au_effects.specs.Answers.{Answer, gives, writes, waits, aborts, none}
use Rattle.au_effects.specs.References.{reference_in}
use Rattle.au_effects.specs.Calls.{root_in, box_in, buffer_in, terminal_in, elements_in}
use Rattle.au_effects.specs.Calls.{natural_in, index_in, untyped, given, of_none, of_one, of_two, of_three}
use Rattle.au_effects.specs.Calls.{use_of, buffer_use, with_elements, last_taken, element_copied}
use Rattle.au_effects.specs.Calls.{element_replaced, buffer_ended, swap_call, byte_read, shipped}
use Rattle.au_low.proofs.MutedWorlds.{hushed, pair_hushed, hushed_at, hushed_exchanged}

-- the same answer with a world without deeds
abbrev pub still : {T B : Type 0} → Answer T B → Answer T B
still (gives value world) = gives value (hushed world)
still (writes bytes world) = writes bytes (hushed world)
still waits = waits
still (aborts fault world) = aborts fault (hushed world)
still none = none

still_given : {A T B : Type 0} (one : Option A) (f g : A → Answer T B) → ((x : A) → f x ≡ still (g x))
    → given one f ≡ still (given one g)
still_given None f g h = refl
still_given (Some x) f g h = h x

still_untyped : {T B : Type 0} (of : Option B) (x y : Answer T B) → x ≡ still y
    → untyped of x ≡ still (untyped of y)
still_untyped None x y h = h
still_untyped (Some of) x y h = refl

still_none : {T B : Type 0} (args : List (Value T)) (x y : Answer T B) → x ≡ still y
    → of_none x args ≡ still (of_none y args)
still_none [] x y h = h
still_none (a ∷ more) x y h = refl

pub still_one : {T B : Type 0} (args : List (Value T)) (f g : Value T → Answer T B) → ((a : Value T)
    → f a ≡ still (g a)) → of_one f args ≡ still (of_one g args)
still_one [] f g h = refl
still_one (a ∷ []) f g h = h a
still_one (a ∷ b ∷ more) f g h = refl

still_two : {T B : Type 0} (args : List (Value T)) (f g : Value T → Value T → Answer T B)
    → ((a b : Value T) → f a b ≡ still (g a b)) → of_two f args ≡ still (of_two g args)
still_two [] f g h = refl
still_two (a ∷ []) f g h = refl
still_two (a ∷ b ∷ []) f g h = h a b
still_two (a ∷ b ∷ c ∷ more) f g h = refl

still_three : {T B : Type 0} (args : List (Value T)) (f g : Value T → Value T → Value T → Answer T B)
    → ((a b c : Value T) → f a b c ≡ still (g a b c)) → of_three f args ≡ still (of_three g args)
still_three [] f g h = refl
still_three (a ∷ []) f g h = refl
still_three (a ∷ b ∷ []) f g h = refl
still_three (a ∷ b ∷ c ∷ []) f g h = h a b c
still_three (a ∷ b ∷ c ∷ d ∷ more) f g h = refl

-- a use
still_use : {T B : Type 0} (value : Value T) (world : World T B) (f g : ℕ → Place → Value T
    → Answer T B) → ((borrow : ℕ) (place : Place) (held : Value T)
    → f borrow place held ≡ still (g borrow place held))
    → use_of value (hushed world) f ≡ still (use_of value world g)
still_use value world f g h =
    still_given (reference_in value) _ _ (λ one.
    ap (λ (held : Option (Value _)). given (along held (part one.1.path)) (f one.0 one.1))
    (hushed_at one.1.base world)
    ∙ still_given (at one.1 world) (f one.0 one.1) (g one.0 one.1) (h one.0 one.1))

still_buffer : {T B : Type 0} (value : Value T) (world : World T B) (f : ℕ → List (Value T) → World T B
    → Answer T B) → ((id : ℕ) (values : List (Value T)) (w : World T B)
    → f id values (hushed w) ≡ still (f id values w))
    → buffer_use value (hushed world) f ≡ still (buffer_use value world f)
still_buffer value world f h =
    still_use value world _ _ (λ borrow place held.
    still_given (buffer_in held) _ _ (λ id.
    still_given (along (slice_get world.births id) elements_in) _ _ (λ values.
    h id values (tells (used borrow) world))))

still_last : {T B : Type 0} (id : ℕ) (values : List (Value T)) (last : Option (Value T))
    (world : World T B) → last_taken id values last (hushed world) ≡ still (last_taken id values last world)
still_last id values None world = refl
still_last id values (Some last) world = refl

still_element : {T B : Type 0} (one : Option (Value T)) (world : World T B)
    → element_copied one (hushed world) ≡ still (element_copied one world)
still_element None world = refl
still_element (Some value) world = refl

still_replaced : {T B : Type 0} (id : ℕ) (values : List (Value T)) (index : ℕ) (new : Value T)
    (old : Option (Value T)) (world : World T B)
    → element_replaced id values index new old (hushed world)
    ≡ still (element_replaced id values index new old world)
still_replaced id values index new None world = refl
still_replaced id values index new (Some old) world = refl

still_ended : {T B : Type 0} (id : ℕ) (values : List (Value T)) (world : World T B)
    → buffer_ended id values (hushed world) ≡ still (buffer_ended id values world)
still_ended id [] world = refl
still_ended id (value ∷ values) world = refl

still_pairs : {T B : Type 0} (one : Option (Value T × World T B)) (f : Value T × World T B
    → Answer T B) → ((pair : Value T × World T B) → f (pair_hushed pair) ≡ still (f pair))
    → given (option_map pair_hushed one) f ≡ still (given one f)
still_pairs None f h = refl
still_pairs (Some pair) f h = h pair

still_swap : {T B : Type 0} (world : World T B) (a new : Value T)
    → swap_call (hushed world) a new ≡ still (swap_call world a new)
still_swap {T} {B} world a new =
    still_given (reference_in a) _ _ (λ one.
    ap (λ (found : Option (Value T × World T B)). given found (λ pair. gives pair.0 pair.1))
    (hushed_exchanged one.1 new (tells (used one.0) world))
    ∙ still_pairs (exchanged one.1 new (tells (used one.0) world)) _ (λ pair. refl))

module _ {T B : Type 0} (bytes_of : T → List ℕ) where
  -- what a shipped call comes to
  pub still_shipped : (call : ShippedCall) (of : Option B) (w : World T B) (args : List (Value T))
      → shipped bytes_of call of (hushed w) args ≡ still (shipped bytes_of call of w args)
  unfolding shipped
  still_shipped prim.PrintText of w args = still_untyped of _ _ (still_one args _ _ (λ a. still_given
      (text_in a) _ _ (λ t. refl)))
  still_shipped prim.PrintInt of w args = still_untyped of _ _ (still_one args _ _ (λ a. still_given
      (number_bytes (number_in a)) _ _ (λ t. refl)))
  still_shipped prim.PrintBool of w args = still_untyped of _ _ (still_one args _ _ (λ a. still_given
      (truth_bytes (truth_in a)) _ _ (λ t. refl)))
  still_shipped prim.PrintLnText of w args = still_untyped of _ _ (still_one args _ _ (λ a. still_given
      (text_in a) _ _ (λ t. refl)))
  still_shipped prim.PrintLnInt of w args = still_untyped of _ _ (still_one args _ _ (λ a. still_given
      (number_bytes (number_in a)) _ _ (λ t. refl)))
  still_shipped prim.PrintLnBool of w args = still_untyped of _ _ (still_one args _ _ (λ a. still_given
      (truth_bytes (truth_in a)) _ _ (λ t. refl)))
  still_shipped (prim.Wrap op kind) of w args = refl
  still_shipped (prim.Convert kind) of w args = refl
  still_shipped prim.SurrenderRoot of w args = still_untyped of _ _ (still_one args _ _
      (λ a. still_given (root_in a) _ _ (λ id. refl)))
  still_shipped prim.Abort of w args = still_untyped of _ _ (still_one args _ _ (λ a. still_given
      (text_in a) _ _ (λ t. refl)))
  still_shipped prim.SpanLength of w args = still_untyped of _ _ (still_one args _ _ (λ a. still_given
      (text_in a) _ _ (λ t. refl)))
  still_shipped prim.Swap of w args = still_untyped of _ _ (still_two args _ _ (still_swap w))
  still_shipped prim.MakeBox of w args = still_one args _ _ (λ a. still_given of _ _ (λ t. refl))
  still_shipped prim.Unbox of w args = still_untyped of _ _ (still_one args _ _ (λ a. still_given
      (box_in a) _ _ (λ id. still_given (along (slice_get w.births id) content_in) _ _ (λ value. refl))))
  still_shipped prim.BoxGet of w args = still_untyped of _ _ (still_one args _ _ (λ a. still_use a w _ _
      (λ borrow place held. still_given (box_in held) _ _ (λ id. refl))))
  still_shipped prim.BoxGetMut of w args = still_untyped of _ _ (still_one args _ _
      (λ a. still_use a w _ _ (λ borrow place held. still_given (box_in held) _ _ (λ id. refl))))
  still_shipped prim.MakeEmpty of w args = still_none args _ _ (still_given of _ _ (λ t. refl))
  still_shipped prim.DestroyEmpty of w args =
      still_untyped of _ _ (still_one args _ _ (λ a. still_given (buffer_in a) _ _ (λ id. still_given
      (along (slice_get w.births id) elements_in) _ _ (λ values. still_ended id values w))))
  still_shipped prim.Length of w args = still_untyped of _ _ (still_one args _ _ (λ a. still_buffer a w
      (λ id values told. gives (number Index (pos (length values))) told) (λ id values told. refl)))
  still_shipped prim.InsertBack of w args = still_untyped of _ _ (still_two args _ _
      (λ a new. still_buffer a w (λ id values told. gives unit (with_elements id
      (values ++ new ∷ []) told)) (λ id values told. refl)))
  still_shipped prim.RemoveBack of w args =
      still_untyped of _ _ (still_one args _ _ (λ a. still_buffer a w _
      (λ id values told. still_last id values (slice_get values (length values - 1)) told)))
  still_shipped prim.Nth of w args =
      still_untyped of _ _ (still_two args _ _ (λ a i. still_given (index_in i) _ _
      (λ index. still_buffer a w _ (λ id values told. still_element (slice_get values index) told))))
  still_shipped prim.ReplaceNth of w args =
      still_untyped of _ _ (still_three args _ _ (λ a i new. still_given (index_in i) _ _
      (λ index. still_buffer a w _ (λ id values told. still_replaced id values index new
      (slice_get values index) told))))
  still_shipped prim.AcquireTerminal of w args =
      still_one args _ _ (λ a. still_use a w _ _ (λ borrow place held. still_given (root_in held) _ _
      (λ id. still_given of _ _ (λ t. refl))))
  still_shipped prim.ReadByte of w args = still_untyped of _ _ (still_one args _ _
      (λ a. still_use a w _ _ (λ borrow place held. still_given (terminal_in held) _ _ (λ id. refl))))
  still_shipped prim.WriteByte of w args =
      still_untyped of _ _ (still_two args _ _ (λ a b. still_use a w _ _
      (λ borrow place held. still_given (terminal_in held) _ _ (λ id. still_given (natural_in
      (number_of Nat8 b)) _ _ (λ byte. refl)))))
  still_shipped prim.ReleaseTerminal of w args = still_untyped of _ _ (still_one args _ _
      (λ a. still_given (terminal_in a) _ _ (λ id. refl)))

-- what `readByte` gives
pub still_read : {T B : Type 0} (byte : Option ℕ) (w : World T B) (a : Value T)
    → byte_read byte (hushed w) a ≡ still (byte_read byte w a)
still_read byte w a = still_use a w _ _ (λ borrow place held. still_given (terminal_in held) _ _ (λ id. refl))
