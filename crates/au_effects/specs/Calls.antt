-- The shipped calls: one equation each, by the call, the type of what is born, if one is given, and the
-- arguments in declared order.
use Rattle.std.specs.Prelude.{ℕ, ◌-◌, Bool, true, false, List, [], ◌∷◌, ◌++◌, length, take, slice_get}
use Rattle.std.specs.Prelude.{slice_set, Option, Some, None, ℤ, pos, negsuc, codes}
use Rattle.au_base.specs.declared.kinds.IntKind.TheVariants.{Nat8, Index}
use Rattle.au_shipped.specs.declared.prims.ShippedCall.{ShippedCall}
use Rattle.au_shipped.specs.declared.prims.ShippedCall.TheVariants as prim
use Rattle.au_effects.specs.Values.{Value, Place, unit, number, reference, box, buffer, terminal, root}
use Rattle.au_effects.specs.Values.{content_of, optional}
use Rattle.au_effects.specs.Parts.{along}
use Rattle.au_effects.specs.Worlds.{World, Held, nothing, content, elements, used, tells, bears, ends, spends}
use Rattle.au_effects.specs.Places.{at, content_in}
use Rattle.au_effects.specs.References.{reference_in, put_behind}
use Rattle.au_effects.specs.Numbers.{number_in, number_of, truth_in, text_in, number_bytes, truth_bytes}
use Rattle.au_effects.specs.Answers.{called, not_empty, empty, out_of_range, Answer, gives, writes, waits}
use Rattle.au_effects.specs.Answers.{aborts, none}

-- how many arguments a shipped call has
abbrev pub arity : ShippedCall → ℕ
arity prim.PrintText = 1
arity prim.PrintInt = 1
arity prim.PrintBool = 1
arity prim.PrintLnText = 1
arity prim.PrintLnInt = 1
arity prim.PrintLnBool = 1
arity (prim.Wrap op kind) = 2
arity (prim.Convert kind) = 1
arity prim.SurrenderRoot = 1
arity prim.Abort = 1
arity prim.SpanLength = 1
arity prim.Swap = 2
arity prim.MakeBox = 1
arity prim.Unbox = 1
arity prim.BoxGet = 1
arity prim.BoxGetMut = 1
arity prim.MakeEmpty = 0
arity prim.DestroyEmpty = 1
arity prim.Length = 1
arity prim.InsertBack = 2
arity prim.RemoveBack = 1
arity prim.Nth = 2
arity prim.ReplaceNth = 3
arity prim.AcquireTerminal = 1
arity prim.ReadByte = 1
arity prim.WriteByte = 2
arity prim.ReleaseTerminal = 1

-- the root, the box, the buffer and the terminal that a value is
abbrev pub root_in : {T : Type 0} → Value T → Option ℕ
root_in (root id) = Some id
root_in other = None

abbrev pub box_in : {T : Type 0} → Value T → Option ℕ
box_in (box id) = Some id
box_in other = None

abbrev pub buffer_in : {T : Type 0} → Value T → Option ℕ
buffer_in (buffer id) = Some id
buffer_in other = None

abbrev pub terminal_in : {T : Type 0} → Value T → Option ℕ
terminal_in (terminal id) = Some id
terminal_in other = None

-- the elements of a buffer
abbrev pub elements_in : {T : Type 0} → Held T → Option (List (Value T))
elements_in nothing = None
elements_in (content value) = None
elements_in (elements values) = Some values

-- a number that is not below 0, and an index, which is one of the kind Index
abbrev pub natural_in : Option ℤ → Option ℕ
natural_in None = None
natural_in (Some (pos n)) = Some n
natural_in (Some (negsuc n)) = None

abbrev pub index_in : {T : Type 0} → Value T → Option ℕ
index_in value = natural_in (number_of Index value)

-- the type of what is born, where a call has one, and no type where it has none
abbrev pub untyped : {T B : Type 0} → Option B → Answer T B → Answer T B
untyped None answer = answer
untyped (Some of) answer = none

-- what needs something: no rule applies where it isn't there
abbrev pub given : {A T B : Type 0} → Option A → (A → Answer T B) → Answer T B
given None go = none
given (Some one) go = go one

-- calls of one, two and three arguments
abbrev pub of_one : {T B : Type 0} → (Value T → Answer T B) → List (Value T) → Answer T B
of_one go [] = none
of_one go (a ∷ []) = go a
of_one go (a ∷ b ∷ more) = none

abbrev pub of_two : {T B : Type 0} → (Value T → Value T → Answer T B) → List (Value T) → Answer T B
of_two go [] = none
of_two go (a ∷ []) = none
of_two go (a ∷ b ∷ []) = go a b
of_two go (a ∷ b ∷ c ∷ more) = none

abbrev pub of_three : {T B : Type 0} → (Value T → Value T → Value T → Answer T B) → List (Value T)
    → Answer T B
of_three go [] = none
of_three go (a ∷ []) = none
of_three go (a ∷ b ∷ []) = none
of_three go (a ∷ b ∷ c ∷ []) = go a b c
of_three go (a ∷ b ∷ c ∷ d ∷ more) = none

abbrev pub of_none : {T B : Type 0} → Answer T B → List (Value T) → Answer T B
of_none answer [] = answer
of_none answer (a ∷ more) = none

-- A use of a reference: its place is there. What follows gets the borrow, the place and what it holds.
abbrev pub use_of : {T B : Type 0} → Value T → World T B → (ℕ → Place → Value T → Answer T B) → Answer T B
use_of value world go =
    given (reference_in value) (λ one. given (at one.1 world) (λ held. go one.0 one.1 held))

-- A use of a reference to a buffer. What follows gets the buffer's birth, its elements, and the world in
-- which the use is told.
abbrev pub buffer_use : {T B : Type 0} → Value T → World T B → (ℕ → List (Value T) → World T B → Answer T B)
    → Answer T B
buffer_use value world go =
    use_of value world (λ borrow place held.
    given (buffer_in held) (λ id.
    given (along (slice_get world.births id) elements_in) (λ values.
    go id values (tells (used borrow) world))))

-- a buffer holds these elements
abbrev pub with_elements : {T B : Type 0} → ℕ → List (Value T) → World T B → World T B
with_elements id values world = record world { births = slice_set world.births id (elements values) }

-- the last element is taken, if there is one
abbrev pub last_taken : {T B : Type 0} → ℕ → List (Value T) → Option (Value T) → World T B → Answer T B
last_taken id values None world = aborts empty world
last_taken id values (Some last) world = gives last (with_elements id (take (length values - 1) values) world)

-- an element is copied, if it is there
abbrev pub element_copied : {T B : Type 0} → Option (Value T) → World T B → Answer T B
element_copied None world = aborts out_of_range world
element_copied (Some value) world = gives value world

-- an element is replaced, if it is there
abbrev pub element_replaced : {T B : Type 0} → ℕ → List (Value T) → ℕ → Value T → Option (Value T) → World T B
    → Answer T B
element_replaced id values index new None world = aborts out_of_range world
element_replaced id values index new (Some old) world =
    gives old (with_elements id (slice_set values index new) world)

-- a buffer is consumed that holds no element
abbrev pub buffer_ended : {T B : Type 0} → ℕ → List (Value T) → World T B → Answer T B
buffer_ended id [] world = gives unit (ends id world)
buffer_ended id (value ∷ values) world = aborts not_empty world

-- bytes that are written, with a newline behind them where they are a line
abbrev pub in_line : Bool → List ℕ → List ℕ
in_line false bytes = bytes
in_line true bytes = bytes ++ 10 ∷ []

module _ {T B : Type 0} (bytes_of : T → List ℕ) where
  -- `print` and `printLn` of a text
  abbrev pub print_text : Bool → World T B → Value T → Answer T B
  print_text line world a = given (text_in a) (λ t. writes (in_line line (bytes_of t)) world)

  -- `spanLength`
  abbrev pub span_length : World T B → Value T → Answer T B
  span_length world a = given (text_in a) (λ t. gives (number Index (pos (length (bytes_of t)))) world)

-- the same of an integer and of a truth value
abbrev pub print_number : {T B : Type 0} → Bool → World T B → Value T → Answer T B
print_number line world a = given (number_bytes (number_in a)) (λ bytes. writes (in_line line bytes) world)

abbrev pub print_truth : {T B : Type 0} → Bool → World T B → Value T → Answer T B
print_truth line world a = given (truth_bytes (truth_in a)) (λ bytes. writes (in_line line bytes) world)

-- `abort`
abbrev pub abort_call : {T B : Type 0} → World T B → Value T → Answer T B
abort_call world a = given (text_in a) (λ t. aborts (called t) world)

-- `surrenderRoot` and `releaseTerminal`
abbrev pub surrender_root : {T B : Type 0} → World T B → Value T → Answer T B
surrender_root world a = given (root_in a) (λ id. gives unit (spends (Some id) world))

abbrev pub release_terminal : {T B : Type 0} → World T B → Value T → Answer T B
release_terminal world a = given (terminal_in a) (λ id. gives unit (spends (Some id) world))

-- `swap`
abbrev pub swap_call : {T B : Type 0} → World T B → Value T → Value T → Answer T B
swap_call world a new =
    given (reference_in a) (λ one. given (put_behind one new world) (λ pair. gives pair.0 pair.1))

-- `makeBox`, `unbox`, `boxGet` and `boxGetMut`
abbrev pub make_box : {T B : Type 0} → Option B → World T B → Value T → Answer T B
make_box of world a =
    given of (λ t. gives (box (length world.births)) (bears t (codes "Standard.Box") (content a) world))

abbrev pub unbox_call : {T B : Type 0} → World T B → Value T → Answer T B
unbox_call world a =
    given (box_in a) (λ id. given (along (slice_get world.births id) content_in)
    (λ value. gives value (ends id world)))

abbrev pub box_get : {T B : Type 0} → World T B → Value T → Answer T B
box_get world a =
    use_of a world (λ borrow place held.
    given (box_in held) (λ id.
    gives (reference borrow (record { base = content_of id; path = [] })) (tells (used borrow) world)))

-- `makeEmpty`, `destroyEmpty`, `length`, `insertBack`, `removeBack`, `nth` and `replaceNth`
abbrev pub make_empty : {T B : Type 0} → Option B → World T B → Answer T B
make_empty of world =
    given of (λ t. gives (buffer (length world.births))
    (bears t (codes "Standard.Buffer") (elements []) world))

abbrev pub destroy_empty : {T B : Type 0} → World T B → Value T → Answer T B
destroy_empty world a =
    given (buffer_in a) (λ id. given (along (slice_get world.births id) elements_in)
    (λ values. buffer_ended id values world))

abbrev pub length_call : {T B : Type 0} → World T B → Value T → Answer T B
length_call world a = buffer_use a world (λ id values told. gives (number Index (pos (length values))) told)

abbrev pub insert_back : {T B : Type 0} → World T B → Value T → Value T → Answer T B
insert_back world a new =
    buffer_use a world (λ id values told. gives unit (with_elements id (values ++ new ∷ []) told))

abbrev pub remove_back : {T B : Type 0} → World T B → Value T → Answer T B
remove_back world a =
    buffer_use a world (λ id values told. last_taken id values (slice_get values (length values - 1)) told)

abbrev pub nth_call : {T B : Type 0} → World T B → Value T → Value T → Answer T B
nth_call world a i =
    given (index_in i) (λ index. buffer_use a world
    (λ id values told. element_copied (slice_get values index) told))

abbrev pub replace_nth : {T B : Type 0} → World T B → Value T → Value T → Value T → Answer T B
replace_nth world a i new =
    given (index_in i) (λ index.
    buffer_use a world (λ id values told. element_replaced id values index new (slice_get values index) told))

-- `acquireTerminal` and `writeByte`
abbrev pub acquire_terminal : {T B : Type 0} → Option B → World T B → Value T → Answer T B
acquire_terminal of world a =
    use_of a world (λ borrow place held.
    given (root_in held) (λ id.
    given of (λ t.
    gives (terminal (length world.births))
    (bears t (codes "Standard.IO.Terminal") nothing (tells (used borrow) world)))))

abbrev pub write_byte : {T B : Type 0} → World T B → Value T → Value T → Answer T B
write_byte world a b =
    use_of a world (λ borrow place held.
    given (terminal_in held) (λ id.
    given (natural_in (number_of Nat8 b)) (λ byte.
    writes (byte ∷ []) (tells (used borrow) world))))

-- `readByte` waits for the next byte of the input
abbrev pub read_byte : {T B : Type 0} → World T B → Value T → Answer T B
read_byte world a = use_of a world (λ borrow place held. given (terminal_in held) (λ id. waits))

-- what it gives when this byte has come, or none was left
abbrev pub byte_value : {T : Type 0} → Option ℕ → Option (Value T)
byte_value None = None
byte_value (Some byte) = Some (number Nat8 (pos byte))

abbrev pub byte_read : {T B : Type 0} → Option ℕ → World T B → Value T → Answer T B
byte_read byte world a =
    use_of a world (λ borrow place held.
    given (terminal_in held) (λ id.
    gives (optional (byte_value byte)) (tells (used borrow) world)))

module _ {T B : Type 0} (bytes_of : T → List ℕ) where
  -- What a shipped call comes to. Wrapping operations and conversions have equations of their own.
  unfoldable pub shipped : ShippedCall → Option B → World T B → List (Value T) → Answer T B
  shipped prim.PrintText of world args = untyped of (of_one (print_text bytes_of false world) args)
  shipped prim.PrintInt of world args = untyped of (of_one (print_number false world) args)
  shipped prim.PrintBool of world args = untyped of (of_one (print_truth false world) args)
  shipped prim.PrintLnText of world args = untyped of (of_one (print_text bytes_of true world) args)
  shipped prim.PrintLnInt of world args = untyped of (of_one (print_number true world) args)
  shipped prim.PrintLnBool of world args = untyped of (of_one (print_truth true world) args)
  shipped (prim.Wrap op kind) of world args = none
  shipped (prim.Convert kind) of world args = none
  shipped prim.SurrenderRoot of world args = untyped of (of_one (surrender_root world) args)
  shipped prim.Abort of world args = untyped of (of_one (abort_call world) args)
  shipped prim.SpanLength of world args = untyped of (of_one (span_length bytes_of world) args)
  shipped prim.Swap of world args = untyped of (of_two (swap_call world) args)
  shipped prim.MakeBox of world args = of_one (make_box of world) args
  shipped prim.Unbox of world args = untyped of (of_one (unbox_call world) args)
  shipped prim.BoxGet of world args = untyped of (of_one (box_get world) args)
  shipped prim.BoxGetMut of world args = untyped of (of_one (box_get world) args)
  shipped prim.MakeEmpty of world args = of_none (make_empty of world) args
  shipped prim.DestroyEmpty of world args = untyped of (of_one (destroy_empty world) args)
  shipped prim.Length of world args = untyped of (of_one (length_call world) args)
  shipped prim.InsertBack of world args = untyped of (of_two (insert_back world) args)
  shipped prim.RemoveBack of world args = untyped of (of_one (remove_back world) args)
  shipped prim.Nth of world args = untyped of (of_two (nth_call world) args)
  shipped prim.ReplaceNth of world args = untyped of (of_three (replace_nth world) args)
  shipped prim.AcquireTerminal of world args = of_one (acquire_terminal of world) args
  shipped prim.ReadByte of world args = untyped of (of_one (read_byte world) args)
  shipped prim.WriteByte of world args = untyped of (of_two (write_byte world) args)
  shipped prim.ReleaseTerminal of world args = untyped of (of_one (release_terminal world) args)
