-- Shipped calls that have another number of arguments, or another form.
use Rattle.std.proofs.Common.{◌≡◌, ℕ, List, [], ◌∷◌, None, refl, Option, Some, ap, sym}
use Rattle.au_effects.specs.Answers.{Answer, none}
use Rattle.au_effects.specs.Places.{at}
use Rattle.au_base.specs.declared.kinds.IntKind.{IntKind}
use Rattle.au_ints.specs.declared.operations.WrapOp.{WrapOp}
use Rattle.au_shipped.specs.declared.prims.ShippedCall.{ShippedCall}
use Rattle.au_shipped.specs.declared.prims.ShippedCall.TheVariants as prim
use Rattle.au_effects.specs.Calls.{arity, shipped, given, acquire_terminal, root_in}
use Rattle.au_effects.specs.References.{reference_in}
use Rattle.au_low.specs.Machines.{Low, LowWorld, Machine, stuck}
use Rattle.au_low.specs.Instructions.{answered}

-- what is found comes to nothing where all that it may be does
given_nothing : {A : Type 0} (found : Option A) (go : A → Answer ℕ ℕ) → ((one : A) → go one ≡ none)
    → given found go ≡ none
given_nothing None go each = refl
given_nothing (Some one) go each = each one

-- no terminal is acquired without a type
not_acquired : (w : LowWorld) (a : Low) (m : Machine) → stuck ≡ answered (acquire_terminal None w a) m
not_acquired w a m = sym (ap (λ (one : Answer ℕ ℕ). answered one m)
    (given_nothing (reference_in a) _ (λ one.
    given_nothing (at one.1 w) _ (λ held_value.
    given_nothing (root_in held_value) _ (λ id. refl)))))

-- a call that isn't one of these comes to nothing with one argument
pub record NoneOfOne (call : ShippedCall) : Type 0 where
  pub not_print_text : call ≡ prim.PrintText → ⊥
  pub not_print_int : call ≡ prim.PrintInt → ⊥
  pub not_print_bool : call ≡ prim.PrintBool → ⊥
  pub not_print_ln_text : call ≡ prim.PrintLnText → ⊥
  pub not_print_ln_int : call ≡ prim.PrintLnInt → ⊥
  pub not_print_ln_bool : call ≡ prim.PrintLnBool → ⊥
  pub not_span_length : call ≡ prim.SpanLength → ⊥
  pub not_abort : call ≡ prim.Abort → ⊥
  pub not_surrender_root : call ≡ prim.SurrenderRoot → ⊥
  pub not_unbox : call ≡ prim.Unbox → ⊥
  pub not_box_get : call ≡ prim.BoxGet → ⊥
  pub not_box_get_mut : call ≡ prim.BoxGetMut → ⊥
  pub not_destroy_empty : call ≡ prim.DestroyEmpty → ⊥
  pub not_length : call ≡ prim.Length → ⊥
  pub not_remove_back : call ≡ prim.RemoveBack → ⊥
  pub not_read_byte : call ≡ prim.ReadByte → ⊥
  pub not_release_terminal : call ≡ prim.ReleaseTerminal → ⊥

pub not_of_one : (bytes_of : ℕ → List ℕ) (w : LowWorld) (a : Low) (m : Machine) (call : ShippedCall)
    → NoneOfOne call
    → stuck ≡ answered (shipped bytes_of call None w (a ∷ [])) m
unfolding shipped
not_of_one bytes_of w a m prim.PrintText others = absurd (others.not_print_text refl)
not_of_one bytes_of w a m prim.PrintInt others = absurd (others.not_print_int refl)
not_of_one bytes_of w a m prim.PrintBool others = absurd (others.not_print_bool refl)
not_of_one bytes_of w a m prim.PrintLnText others = absurd (others.not_print_ln_text refl)
not_of_one bytes_of w a m prim.PrintLnInt others = absurd (others.not_print_ln_int refl)
not_of_one bytes_of w a m prim.PrintLnBool others = absurd (others.not_print_ln_bool refl)
not_of_one bytes_of w a m prim.SpanLength others = absurd (others.not_span_length refl)
not_of_one bytes_of w a m prim.Abort others = absurd (others.not_abort refl)
not_of_one bytes_of w a m prim.SurrenderRoot others = absurd (others.not_surrender_root refl)
not_of_one bytes_of w a m prim.Unbox others = absurd (others.not_unbox refl)
not_of_one bytes_of w a m prim.BoxGet others = absurd (others.not_box_get refl)
not_of_one bytes_of w a m prim.BoxGetMut others = absurd (others.not_box_get_mut refl)
not_of_one bytes_of w a m prim.DestroyEmpty others = absurd (others.not_destroy_empty refl)
not_of_one bytes_of w a m prim.Length others = absurd (others.not_length refl)
not_of_one bytes_of w a m prim.RemoveBack others = absurd (others.not_remove_back refl)
not_of_one bytes_of w a m prim.ReadByte others = absurd (others.not_read_byte refl)
not_of_one bytes_of w a m prim.ReleaseTerminal others = absurd (others.not_release_terminal refl)
not_of_one bytes_of w a m (prim.Wrap op kind) others = refl
not_of_one bytes_of w a m (prim.Convert kind) others = refl
not_of_one bytes_of w a m prim.Swap others = refl
not_of_one bytes_of w a m prim.MakeBox others = refl
not_of_one bytes_of w a m prim.MakeEmpty others = refl
not_of_one bytes_of w a m prim.InsertBack others = refl
not_of_one bytes_of w a m prim.Nth others = refl
not_of_one bytes_of w a m prim.ReplaceNth others = refl
not_of_one bytes_of w a m prim.AcquireTerminal others = not_acquired w a m
not_of_one bytes_of w a m prim.WriteByte others = refl

-- nor with two
pub record NoneOfTwo (call : ShippedCall) : Type 0 where
  pub not_swap : call ≡ prim.Swap → ⊥
  pub not_insert_back : call ≡ prim.InsertBack → ⊥
  pub not_nth : call ≡ prim.Nth → ⊥
  pub not_write_byte : call ≡ prim.WriteByte → ⊥

pub not_of_two : (bytes_of : ℕ → List ℕ) (w : LowWorld) (a b : Low) (m : Machine) (call : ShippedCall)
    → NoneOfTwo call
    → stuck ≡ answered (shipped bytes_of call None w (a ∷ b ∷ [])) m
unfolding shipped
not_of_two bytes_of w a b m prim.Swap others = absurd (others.not_swap refl)
not_of_two bytes_of w a b m prim.InsertBack others = absurd (others.not_insert_back refl)
not_of_two bytes_of w a b m prim.Nth others = absurd (others.not_nth refl)
not_of_two bytes_of w a b m prim.WriteByte others = absurd (others.not_write_byte refl)
not_of_two bytes_of w a b m prim.PrintText others = refl
not_of_two bytes_of w a b m prim.PrintInt others = refl
not_of_two bytes_of w a b m prim.PrintBool others = refl
not_of_two bytes_of w a b m prim.PrintLnText others = refl
not_of_two bytes_of w a b m prim.PrintLnInt others = refl
not_of_two bytes_of w a b m prim.PrintLnBool others = refl
not_of_two bytes_of w a b m (prim.Wrap op kind) others = refl
not_of_two bytes_of w a b m (prim.Convert kind) others = refl
not_of_two bytes_of w a b m prim.SurrenderRoot others = refl
not_of_two bytes_of w a b m prim.Abort others = refl
not_of_two bytes_of w a b m prim.SpanLength others = refl
not_of_two bytes_of w a b m prim.MakeBox others = refl
not_of_two bytes_of w a b m prim.Unbox others = refl
not_of_two bytes_of w a b m prim.BoxGet others = refl
not_of_two bytes_of w a b m prim.BoxGetMut others = refl
not_of_two bytes_of w a b m prim.MakeEmpty others = refl
not_of_two bytes_of w a b m prim.DestroyEmpty others = refl
not_of_two bytes_of w a b m prim.Length others = refl
not_of_two bytes_of w a b m prim.RemoveBack others = refl
not_of_two bytes_of w a b m prim.ReplaceNth others = refl
not_of_two bytes_of w a b m prim.AcquireTerminal others = refl
not_of_two bytes_of w a b m prim.ReadByte others = refl
not_of_two bytes_of w a b m prim.ReleaseTerminal others = refl

-- nor with three
pub record NoneOfThree (call : ShippedCall) : Type 0 where
  pub not_replace_nth : call ≡ prim.ReplaceNth → ⊥

pub not_of_three : (bytes_of : ℕ → List ℕ) (w : LowWorld) (a b c : Low) (m : Machine) (call : ShippedCall)
    → NoneOfThree call
    → stuck ≡ answered (shipped bytes_of call None w (a ∷ b ∷ c ∷ [])) m
unfolding shipped
not_of_three bytes_of w a b c m prim.ReplaceNth others = absurd (others.not_replace_nth refl)
not_of_three bytes_of w a b c m prim.PrintText others = refl
not_of_three bytes_of w a b c m prim.PrintInt others = refl
not_of_three bytes_of w a b c m prim.PrintBool others = refl
not_of_three bytes_of w a b c m prim.PrintLnText others = refl
not_of_three bytes_of w a b c m prim.PrintLnInt others = refl
not_of_three bytes_of w a b c m prim.PrintLnBool others = refl
not_of_three bytes_of w a b c m (prim.Wrap op kind) others = refl
not_of_three bytes_of w a b c m (prim.Convert kind) others = refl
not_of_three bytes_of w a b c m prim.SurrenderRoot others = refl
not_of_three bytes_of w a b c m prim.Abort others = refl
not_of_three bytes_of w a b c m prim.SpanLength others = refl
not_of_three bytes_of w a b c m prim.Swap others = refl
not_of_three bytes_of w a b c m prim.MakeBox others = refl
not_of_three bytes_of w a b c m prim.Unbox others = refl
not_of_three bytes_of w a b c m prim.BoxGet others = refl
not_of_three bytes_of w a b c m prim.BoxGetMut others = refl
not_of_three bytes_of w a b c m prim.MakeEmpty others = refl
not_of_three bytes_of w a b c m prim.DestroyEmpty others = refl
not_of_three bytes_of w a b c m prim.Length others = refl
not_of_three bytes_of w a b c m prim.InsertBack others = refl
not_of_three bytes_of w a b c m prim.RemoveBack others = refl
not_of_three bytes_of w a b c m prim.Nth others = refl
not_of_three bytes_of w a b c m prim.AcquireTerminal others = refl
not_of_three bytes_of w a b c m prim.ReadByte others = refl
not_of_three bytes_of w a b c m prim.WriteByte others = refl
not_of_three bytes_of w a b c m prim.ReleaseTerminal others = refl

-- nor with one where births have a type
pub record NoneBearing (call : ShippedCall) : Type 0 where
  pub not_make_box : call ≡ prim.MakeBox → ⊥
  pub not_acquire_terminal : call ≡ prim.AcquireTerminal → ⊥

pub not_bearing : (bytes_of : ℕ → List ℕ) (of : ℕ) (w : LowWorld) (a : Low) (m : Machine) (call : ShippedCall)
    → NoneBearing call
    → stuck ≡ answered (shipped bytes_of call (Some of) w (a ∷ [])) m
unfolding shipped
not_bearing bytes_of of w a m prim.MakeBox others = absurd (others.not_make_box refl)
not_bearing bytes_of of w a m prim.AcquireTerminal others = absurd (others.not_acquire_terminal refl)
not_bearing bytes_of of w a m prim.PrintText others = refl
not_bearing bytes_of of w a m prim.PrintInt others = refl
not_bearing bytes_of of w a m prim.PrintBool others = refl
not_bearing bytes_of of w a m prim.PrintLnText others = refl
not_bearing bytes_of of w a m prim.PrintLnInt others = refl
not_bearing bytes_of of w a m prim.PrintLnBool others = refl
not_bearing bytes_of of w a m (prim.Wrap op kind) others = refl
not_bearing bytes_of of w a m (prim.Convert kind) others = refl
not_bearing bytes_of of w a m prim.SurrenderRoot others = refl
not_bearing bytes_of of w a m prim.Abort others = refl
not_bearing bytes_of of w a m prim.SpanLength others = refl
not_bearing bytes_of of w a m prim.Swap others = refl
not_bearing bytes_of of w a m prim.Unbox others = refl
not_bearing bytes_of of w a m prim.BoxGet others = refl
not_bearing bytes_of of w a m prim.BoxGetMut others = refl
not_bearing bytes_of of w a m prim.MakeEmpty others = refl
not_bearing bytes_of of w a m prim.DestroyEmpty others = refl
not_bearing bytes_of of w a m prim.Length others = refl
not_bearing bytes_of of w a m prim.InsertBack others = refl
not_bearing bytes_of of w a m prim.RemoveBack others = refl
not_bearing bytes_of of w a m prim.Nth others = refl
not_bearing bytes_of of w a m prim.ReplaceNth others = refl
not_bearing bytes_of of w a m prim.ReadByte others = refl
not_bearing bytes_of of w a m prim.WriteByte others = refl
not_bearing bytes_of of w a m prim.ReleaseTerminal others = refl

-- how many arguments other calls have
pub record NoneOfOther (call : ShippedCall) : Type 0 where
  pub not_make_empty : call ≡ prim.MakeEmpty → ⊥
  pub not_swap : call ≡ prim.Swap → ⊥
  pub not_insert_back : call ≡ prim.InsertBack → ⊥
  pub not_nth : call ≡ prim.Nth → ⊥
  pub not_write_byte : call ≡ prim.WriteByte → ⊥
  pub not_wrap : (op : WrapOp) (kind : IntKind) → call ≡ prim.Wrap op kind → ⊥
  pub not_replace_nth : call ≡ prim.ReplaceNth → ⊥

pub other_arity : (call : ShippedCall) → NoneOfOther call → 1 ≡ arity call
other_arity prim.MakeEmpty others = absurd (others.not_make_empty refl)
other_arity prim.Swap others = absurd (others.not_swap refl)
other_arity prim.InsertBack others = absurd (others.not_insert_back refl)
other_arity prim.Nth others = absurd (others.not_nth refl)
other_arity prim.WriteByte others = absurd (others.not_write_byte refl)
other_arity (prim.Wrap op kind) others = absurd (others.not_wrap op kind refl)
other_arity prim.ReplaceNth others = absurd (others.not_replace_nth refl)
other_arity prim.PrintText others = refl
other_arity prim.PrintInt others = refl
other_arity prim.PrintBool others = refl
other_arity prim.PrintLnText others = refl
other_arity prim.PrintLnInt others = refl
other_arity prim.PrintLnBool others = refl
other_arity (prim.Convert kind) others = refl
other_arity prim.SurrenderRoot others = refl
other_arity prim.Abort others = refl
other_arity prim.SpanLength others = refl
other_arity prim.MakeBox others = refl
other_arity prim.Unbox others = refl
other_arity prim.BoxGet others = refl
other_arity prim.BoxGetMut others = refl
other_arity prim.DestroyEmpty others = refl
other_arity prim.Length others = refl
other_arity prim.RemoveBack others = refl
other_arity prim.AcquireTerminal others = refl
other_arity prim.ReadByte others = refl
other_arity prim.ReleaseTerminal others = refl

-- no call of two arguments has a type
pub typed_two : (bytes_of : ℕ → List ℕ) (of : ℕ) (w : LowWorld) (a b : Low) (m : Machine) (call : ShippedCall)
    → stuck ≡ answered (shipped bytes_of call (Some of) w (a ∷ b ∷ [])) m
unfolding shipped
typed_two bytes_of of w a b m prim.PrintText = refl
typed_two bytes_of of w a b m prim.PrintInt = refl
typed_two bytes_of of w a b m prim.PrintBool = refl
typed_two bytes_of of w a b m prim.PrintLnText = refl
typed_two bytes_of of w a b m prim.PrintLnInt = refl
typed_two bytes_of of w a b m prim.PrintLnBool = refl
typed_two bytes_of of w a b m (prim.Wrap op kind) = refl
typed_two bytes_of of w a b m (prim.Convert kind) = refl
typed_two bytes_of of w a b m prim.SurrenderRoot = refl
typed_two bytes_of of w a b m prim.Abort = refl
typed_two bytes_of of w a b m prim.SpanLength = refl
typed_two bytes_of of w a b m prim.Swap = refl
typed_two bytes_of of w a b m prim.MakeBox = refl
typed_two bytes_of of w a b m prim.Unbox = refl
typed_two bytes_of of w a b m prim.BoxGet = refl
typed_two bytes_of of w a b m prim.BoxGetMut = refl
typed_two bytes_of of w a b m prim.MakeEmpty = refl
typed_two bytes_of of w a b m prim.DestroyEmpty = refl
typed_two bytes_of of w a b m prim.Length = refl
typed_two bytes_of of w a b m prim.InsertBack = refl
typed_two bytes_of of w a b m prim.RemoveBack = refl
typed_two bytes_of of w a b m prim.Nth = refl
typed_two bytes_of of w a b m prim.ReplaceNth = refl
typed_two bytes_of of w a b m prim.AcquireTerminal = refl
typed_two bytes_of of w a b m prim.ReadByte = refl
typed_two bytes_of of w a b m prim.WriteByte = refl
typed_two bytes_of of w a b m prim.ReleaseTerminal = refl

-- nor has one of three
pub typed_three : (bytes_of : ℕ → List ℕ) (of : ℕ) (w : LowWorld) (a b c : Low) (m : Machine)
    (call : ShippedCall) → stuck ≡ answered (shipped bytes_of call (Some of) w (a ∷ b ∷ c ∷ [])) m
unfolding shipped
typed_three bytes_of of w a b c m prim.PrintText = refl
typed_three bytes_of of w a b c m prim.PrintInt = refl
typed_three bytes_of of w a b c m prim.PrintBool = refl
typed_three bytes_of of w a b c m prim.PrintLnText = refl
typed_three bytes_of of w a b c m prim.PrintLnInt = refl
typed_three bytes_of of w a b c m prim.PrintLnBool = refl
typed_three bytes_of of w a b c m (prim.Wrap op kind) = refl
typed_three bytes_of of w a b c m (prim.Convert kind) = refl
typed_three bytes_of of w a b c m prim.SurrenderRoot = refl
typed_three bytes_of of w a b c m prim.Abort = refl
typed_three bytes_of of w a b c m prim.SpanLength = refl
typed_three bytes_of of w a b c m prim.Swap = refl
typed_three bytes_of of w a b c m prim.MakeBox = refl
typed_three bytes_of of w a b c m prim.Unbox = refl
typed_three bytes_of of w a b c m prim.BoxGet = refl
typed_three bytes_of of w a b c m prim.BoxGetMut = refl
typed_three bytes_of of w a b c m prim.MakeEmpty = refl
typed_three bytes_of of w a b c m prim.DestroyEmpty = refl
typed_three bytes_of of w a b c m prim.Length = refl
typed_three bytes_of of w a b c m prim.InsertBack = refl
typed_three bytes_of of w a b c m prim.RemoveBack = refl
typed_three bytes_of of w a b c m prim.Nth = refl
typed_three bytes_of of w a b c m prim.ReplaceNth = refl
typed_three bytes_of of w a b c m prim.AcquireTerminal = refl
typed_three bytes_of of w a b c m prim.ReadByte = refl
typed_three bytes_of of w a b c m prim.WriteByte = refl
typed_three bytes_of of w a b c m prim.ReleaseTerminal = refl
