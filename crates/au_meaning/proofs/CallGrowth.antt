-- Shipped calls go on from the events that were told before them.
use Rattle.std.proofs.Common.{ℕ, ◌+◌, ◌≤◌, Bool, true, false, List, [], ◌∷◌, ◌++◌, Option, Some, None, refl}
use Rattle.std.proofs.Common.{if◌then◌else◌}
use Rattle.std.proofs.Math.Nat.{le_refl}
use Rattle.au_type_texts.specs.Types.{ClosedType}
use Rattle.au_effects.specs.Answers as answer
use Rattle.au_effects.specs.Answers.{Answer}
use Rattle.au_effects.specs.References.{reference_in, read_behind, put_behind}
use Rattle.au_effects.specs.Cases.{case_behind, told_apart}
use Rattle.au_effects.specs.Calls.{with_elements, root_in, box_in, buffer_in, terminal_in}
use Rattle.au_effects.specs.Calls.{elements_in, natural_in, index_in, untyped, given, of_none, of_one, of_two}
use Rattle.au_effects.specs.Calls.{of_three, use_of, buffer_use, last_taken, element_copied, element_replaced}
use Rattle.au_effects.specs.Calls.{buffer_ended, print_text, print_number, print_truth, span_length}
use Rattle.au_effects.specs.Calls.{abort_call, surrender_root, release_terminal, swap_call, make_box}
use Rattle.au_effects.specs.Calls.{unbox_call, box_get, destroy_empty, length_call, insert_back, remove_back}
use Rattle.au_effects.specs.Calls.{nth_call, replace_nth, acquire_terminal, write_byte, read_byte, byte_read}
use Rattle.au_effects.specs.Calls.{shipped}
use Rattle.au_effects.specs.Numbers.{number_in, number_of, truth_in, text_in, number_bytes, truth_bytes}
use Rattle.au_base.specs.declared.kinds.IntKind.TheVariants.{Nat8, Index}
use Rattle.std.specs.Prelude.{◌-◌, length, pos, codes, slice_get}
use Rattle.au_effects.specs.Parts.{along, part}
use Rattle.au_effects.specs.Places.{at, content_in, base_at, base_set, set_over, exchanged}
use Rattle.au_effects.specs.Values.{Base, Place, name_of, content_of, number, unit, made, reference}
use Rattle.au_effects.specs.Worlds.{Held, nothing, content, elements, used, closed, tells, bears, ends}
use Rattle.au_effects.specs.Worlds.{spends, opens, closes}
use Rattle.au_shipped.specs.declared.prims.ShippedCall.{ShippedCall}
use Rattle.au_shipped.specs.declared.prims.ShippedCall.TheVariants as prim
use Rattle.au_syntax.specs.Plain.{Bytes}
use Rattle.au_meaning.specs.Acts.{answered, heard, told, next_byte, other_bytes, shipped_by, operation, ships_call}
use Rattle.au_meaning.specs.Laws.{Begins, Ends, Continues, left_in}
use Rattle.au_meaning.specs.Worlds.{Value, Event, Fault, Store, World}
use Rattle.au_meaning.proofs.Growing.{begins_refl, begins_trans, continues_refl, continues_trans, world_in}
use Rattle.au_meaning.proofs.Growing.{More, Grows, grows_comes}

-- ---- stores

-- the events of a store begin those of another
abbrev pub Kept : Store → Store → Type 0
Kept s later = Begins s.deeds later.deeds

told_if : (keeps : Bool) (deeds : List Event) (deed : Event)
    → Begins deeds (if keeps then deeds ++ deed ∷ [] else deeds)
told_if false deeds deed = begins_refl deeds
told_if true deeds deed = (deed ∷ [], refl)

pub kept_tells : (deed : Event) (s : Store) → Kept s (tells deed s)
kept_tells deed s = told_if s.keeps s.deeds deed

pub kept_bears : (of : ClosedType) (home : List ℕ) (held : Held Bytes) (s : Store)
    → Kept s (bears of home held s)
kept_bears of home held s = told_if s.keeps s.deeds _

kept_ends : (id : ℕ) (s : Store) → Kept s (ends id s)
kept_ends id s = told_if s.keeps s.deeds _

pub kept_spends : (birth : Option ℕ) (s : Store) → Kept s (spends birth s)
kept_spends None s = begins_refl s.deeds
kept_spends (Some id) s = told_if s.keeps s.deeds _

-- something with a store, if there are both
abbrev pub PairKept : {A : Type 0} → Store → Option (A × Store) → Type 0
PairKept s None = Unit {0}
PairKept s (Some pair) = Kept s pair.1

base_kept : (base : Base) (value : Value) (s : Store) → Kept s (base_set base value s)
base_kept (name_of frame name) value s = begins_refl s.deeds
base_kept (content_of birth) value s = begins_refl s.deeds

old_kept : (old : Option Value) (place : Place) (new : Value) (s : Store)
    → PairKept s (along old (λ old. Some (old, base_set place.base new s)))
old_kept None place new s = tt
old_kept (Some old) place new s = base_kept place.base new s

over_kept : (place : Place) (new : Value) (s : Store) (base : Option Value)
    → PairKept s (set_over place new s base)
over_kept place new s None = tt
over_kept place new s (Some base) = old_kept (part place.path base) place _ s

pub exchanged_kept : (place : Place) (new : Value) (s : Store) → PairKept s (exchanged place new s)
exchanged_kept place new s = over_kept place new s (base_at place.base s)

-- what references do
pair_after : (s later : Store) (o : Option (Value × Store)) → Kept s later → PairKept later o → PairKept s o
pair_after s later None k after = tt
pair_after s later (Some pair) k after = begins_trans s.deeds later.deeds pair.1.deeds k after

pub put_kept : (one : ℕ × Place) (new : Value) (s : Store) → PairKept s (put_behind one new s)
put_kept one new s =
    pair_after s (tells (used one.0) s) (put_behind one new s) (kept_tells (used one.0) s)
    (exchanged_kept one.1 new (tells (used one.0) s))

copy_kept : (borrow : ℕ) (s : Store) (held : Option Value)
    → PairKept s (along held (λ value. Some (value, tells (used borrow) s)))
copy_kept borrow s None = tt
copy_kept borrow s (Some value) = kept_tells (used borrow) s

pub read_kept : (one : ℕ × Place) (s : Store) → PairKept s (read_behind one s)
read_kept one s = copy_kept one.0 s (at one.1 s)

parts_kept : {A : Type 0} (s later : Store) (parts : Option A) → Kept s later
    → PairKept s (along parts (λ parts. Some (parts, later)))
parts_kept s later None k = tt
parts_kept s later (Some parts) k = k

case_kept : (one : ℕ × Place) (s : Store) (held : Option (Value × Store)) → PairKept s held
    → PairKept s (along held (λ pair. along (case_behind one pair.0) (λ parts. Some (parts, pair.1))))
case_kept one s None k = tt
case_kept one s (Some pair) k = parts_kept s pair.1 (case_behind one pair.0) k

pub told_kept : (value : Value) (s : Store) → PairKept s (told_apart value s)
told_kept (made tag birth parts) s = kept_spends birth s
told_kept (reference borrow place) s =
    case_kept (borrow, place) s (read_behind (borrow, place) s) (read_kept (borrow, place) s)
told_kept other s = tt

pub kept_opens : (s : Store) → Kept s (opens s)
kept_opens s = told_if s.keeps s.deeds _

pub kept_closes : (borrows : List ℕ) (s : Store) → Kept s (closes borrows s)
kept_closes [] s = begins_refl s.deeds
kept_closes (borrow ∷ rest) s =
    begins_trans s.deeds (tells (closed borrow) s).deeds (closes rest (tells (closed borrow) s)).deeds
    (kept_tells (closed borrow) s) (kept_closes rest (tells (closed borrow) s))

-- ---- answers

-- the store of an answer, if it has one, goes on from another
abbrev pub ToldBy : Store → Answer Bytes ClosedType → Type 0
ToldBy s (answer.gives value later) = Kept s later
ToldBy s (answer.writes bytes later) = Kept s later
ToldBy s answer.waits = Unit {0}
ToldBy s (answer.aborts fault later) = Kept s later
ToldBy s answer.none = Unit {0}

pub record Told (s : Store) (a : Answer Bytes ClosedType) : Type 0 where
  pub told : ToldBy s a

abbrev Ans : Type 0
Ans = Answer Bytes ClosedType

told_gives : {s later : Store} {value : Value} → Kept s later → Told s (answer.gives value later)
told_gives k = record { told = k }

told_writes : {s later : Store} {bytes : List ℕ} → Kept s later → Told s (answer.writes bytes later)
told_writes k = record { told = k }

told_aborts : {s later : Store} {fault : Fault} → Kept s later → Told s (answer.aborts fault later)
told_aborts k = record { told = k }

told_waits : {s : Store} → Told s answer.waits
told_waits = record { told = tt }

told_nothing : {s : Store} → Told s answer.none
told_nothing = record { told = tt }

told_given : {A : Type 0} (s : Store) (o : Option A) (go : A → Ans) → ((a : A) → Told s (go a))
    → Told s (given o go)
told_given s None go h = told_nothing
told_given s (Some a) go h = h a

told_pair : (s : Store) (o : Option (Value × Store)) (go : Value × Store → Ans) → PairKept s o
    → ((pair : Value × Store) → Kept s pair.1 → Told s (go pair)) → Told s (given o go)
told_pair s None go k h = told_nothing
told_pair s (Some pair) go k h = h pair k

told_untyped : (s : Store) (of : Option ClosedType) (x : Ans) → Told s x → Told s (untyped of x)
told_untyped s None x h = h
told_untyped s (Some of) x h = told_nothing

told_none : (s : Store) (args : List Value) (x : Ans) → Told s x → Told s (of_none x args)
told_none s [] x h = h
told_none s (a ∷ more) x h = told_nothing

told_one : (s : Store) (args : List Value) (go : Value → Ans) → ((a : Value) → Told s (go a))
    → Told s (of_one go args)
told_one s [] go h = told_nothing
told_one s (a ∷ []) go h = h a
told_one s (a ∷ b ∷ more) go h = told_nothing

told_two : (s : Store) (args : List Value) (go : Value → Value → Ans) → ((a b : Value) → Told s (go a b))
    → Told s (of_two go args)
told_two s [] go h = told_nothing
told_two s (a ∷ []) go h = told_nothing
told_two s (a ∷ b ∷ []) go h = h a b
told_two s (a ∷ b ∷ c ∷ more) go h = told_nothing

told_three : (s : Store) (args : List Value) (go : Value → Value → Value → Ans)
    → ((a b c : Value) → Told s (go a b c)) → Told s (of_three go args)
told_three s [] go h = told_nothing
told_three s (a ∷ []) go h = told_nothing
told_three s (a ∷ b ∷ []) go h = told_nothing
told_three s (a ∷ b ∷ c ∷ []) go h = h a b c
told_three s (a ∷ b ∷ c ∷ d ∷ more) go h = told_nothing

told_use : (s : Store) (value : Value) (go : ℕ → Place → Value → Ans)
    → ((borrow : ℕ) (place : Place) (held : Value) → Told s (go borrow place held))
    → Told s (use_of value s go)
told_use s value go h =
    told_given s (reference_in value) (λ one. given (at one.1 s) (λ held. go one.0 one.1 held)) (λ one.
    told_given s (at one.1 s) (λ held. go one.0 one.1 held) (λ held. h one.0 one.1 held))

-- the elements of the buffer of a birth
abbrev elements_of : ℕ → Store → Option (List Value)
elements_of id s = along (slice_get s.births id) elements_in

told_buffer : (s : Store) (value : Value) (go : ℕ → List Value → Store → Ans)
    → ((id : ℕ) (values : List Value) (later : Store) → Kept s later → Told s (go id values later))
    → Told s (buffer_use value s go)
told_buffer s value go h =
    told_use s value (λ borrow place held.
    given (buffer_in held) (λ id. given (elements_of id s) (λ values. go id values (tells (used borrow) s))))
    (λ borrow place held.
    told_given s (buffer_in held) (λ id. given (elements_of id s) (λ values.
    go id values (tells (used borrow) s))) (λ id.
    told_given s (elements_of id s) (λ values. go id values (tells (used borrow) s)) (λ values.
    h id values (tells (used borrow) s) (kept_tells (used borrow) s))))

told_last : (s later : Store) (id : ℕ) (values : List Value) (last : Option Value) → Kept s later
    → Told s (last_taken id values last later)
told_last s later id values None k = told_aborts k
told_last s later id values (Some last) k = told_gives k

told_copied : (s later : Store) (one : Option Value) → Kept s later → Told s (element_copied one later)
told_copied s later None k = told_aborts k
told_copied s later (Some value) k = told_gives k

told_replaced : (s later : Store) (id : ℕ) (values : List Value) (index : ℕ) (new : Value)
    (old : Option Value) → Kept s later → Told s (element_replaced id values index new old later)
told_replaced s later id values index new None k = told_aborts k
told_replaced s later id values index new (Some old) k = told_gives k

told_ended : (s : Store) (id : ℕ) (values : List Value) → Told s (buffer_ended id values s)
told_ended s id [] = told_gives (kept_ends id s)
told_ended s id (value ∷ values) = told_aborts (begins_refl s.deeds)

told_read : (byte : Option ℕ) (s : Store) (args : List Value) → Told s (of_one (byte_read byte s) args)
told_read byte s args =
    told_one s args (byte_read byte s) (λ a. told_use s a _ (λ borrow place held.
    told_given s (terminal_in held) _ (λ id. told_gives (kept_tells (used borrow) s))))

-- what stays as it is
same : (s : Store) → Kept s s
same s = begins_refl s.deeds

module _ (f : Bytes → List ℕ) (of : Option ClosedType) (s : Store) (args : List Value) where
  text_told : (line : Bool) → Told s (untyped of (of_one (print_text f line s) args))
  text_told line =
      told_untyped s of _ (told_one s args (print_text f line s) (λ a.
      told_given s (text_in a) _ (λ t. told_writes (same s))))

  number_told : (line : Bool) → Told s (untyped of (of_one (print_number line s) args))
  number_told line =
      told_untyped s of _ (told_one s args (print_number line s) (λ a.
      told_given s (number_bytes (number_in a)) _ (λ t. told_writes (same s))))

  truth_told : (line : Bool) → Told s (untyped of (of_one (print_truth line s) args))
  truth_told line =
      told_untyped s of _ (told_one s args (print_truth line s) (λ a.
      told_given s (truth_bytes (truth_in a)) _ (λ t. told_writes (same s))))

  get_told : Told s (untyped of (of_one (box_get s) args))
  get_told =
      told_untyped s of _ (told_one s args (box_get s) (λ a. told_use s a _ (λ borrow place held.
      told_given s (box_in held) _ (λ id. told_gives (kept_tells (used borrow) s)))))

  told_shipped : (call : ShippedCall) → Told s (shipped f call of s args)
  unfolding shipped
  told_shipped prim.PrintText = text_told false
  told_shipped prim.PrintInt = number_told false
  told_shipped prim.PrintBool = truth_told false
  told_shipped prim.PrintLnText = text_told true
  told_shipped prim.PrintLnInt = number_told true
  told_shipped prim.PrintLnBool = truth_told true
  told_shipped (prim.Wrap op kind) = told_nothing
  told_shipped (prim.Convert kind) = told_nothing
  told_shipped prim.SurrenderRoot =
      told_untyped s of _ (told_one s args (surrender_root s) (λ a.
      told_given s (root_in a) _ (λ id. told_gives (kept_spends (Some id) s))))
  told_shipped prim.Abort =
      told_untyped s of _ (told_one s args (abort_call s) (λ a.
      told_given s (text_in a) _ (λ t. told_aborts (same s))))
  told_shipped prim.SpanLength =
      told_untyped s of _ (told_one s args (span_length f s) (λ a.
      told_given s (text_in a) _ (λ t. told_gives (same s))))
  told_shipped prim.Swap =
      told_untyped s of _ (told_two s args (swap_call s) (λ a new.
      told_given s (reference_in a) _ (λ one.
      told_pair s (put_behind one new s) _ (put_kept one new s) (λ pair k. told_gives k))))
  told_shipped prim.MakeBox =
      told_one s args (make_box of s) (λ a. told_given s of _ (λ t.
      told_gives (kept_bears t (codes "Standard.Box") (content a) s)))
  told_shipped prim.Unbox =
      told_untyped s of _ (told_one s args (unbox_call s) (λ a.
      told_given s (box_in a) _ (λ id. told_given s (along (slice_get s.births id) content_in) _ (λ value.
      told_gives (kept_ends id s)))))
  told_shipped prim.BoxGet = get_told
  told_shipped prim.BoxGetMut = get_told
  told_shipped prim.MakeEmpty =
      told_none s args _ (told_given s of _ (λ t.
      told_gives (kept_bears t (codes "Standard.Buffer") (elements []) s)))
  told_shipped prim.DestroyEmpty =
      told_untyped s of _ (told_one s args (destroy_empty s) (λ a.
      told_given s (buffer_in a) _ (λ id. told_given s (elements_of id s) _ (λ values.
      told_ended s id values))))
  told_shipped prim.Length =
      told_untyped s of _ (told_one s args (length_call s) (λ a.
      told_buffer s a (λ id values later. answer.gives (number Index (pos (length values))) later)
      (λ id values later k. told_gives k)))
  told_shipped prim.InsertBack =
      told_untyped s of _ (told_two s args (insert_back s) (λ a new.
      told_buffer s a (λ id values later. answer.gives unit (with_elements id (values ++ new ∷ []) later))
      (λ id values later k. told_gives k)))
  told_shipped prim.RemoveBack =
      told_untyped s of _ (told_one s args (remove_back s) (λ a.
      told_buffer s a (λ id values later.
      last_taken id values (slice_get values (length values - 1)) later) (λ id values later k.
      told_last s later id values (slice_get values (length values - 1)) k)))
  told_shipped prim.Nth =
      told_untyped s of _ (told_two s args (nth_call s) (λ a i. told_given s (index_in i) _ (λ index.
      told_buffer s a (λ id values later. element_copied (slice_get values index) later)
      (λ id values later k. told_copied s later (slice_get values index) k))))
  told_shipped prim.ReplaceNth =
      told_untyped s of _ (told_three s args (replace_nth s) (λ a i new.
      told_given s (index_in i) _ (λ index.
      told_buffer s a (λ id values later.
      element_replaced id values index new (slice_get values index) later) (λ id values later k.
      told_replaced s later id values index new (slice_get values index) k))))
  told_shipped prim.AcquireTerminal =
      told_one s args (acquire_terminal of s) (λ a. told_use s a _ (λ borrow place held.
      told_given s (root_in held) _ (λ id. told_given s of _ (λ t.
      told_gives (begins_trans s.deeds (tells (used borrow) s).deeds _ (kept_tells (used borrow) s)
      (kept_bears t (codes "Standard.IO.Terminal") nothing (tells (used borrow) s)))))))
  told_shipped prim.ReadByte =
      told_untyped s of _ (told_one s args (read_byte s) (λ a. told_use s a _ (λ borrow place held.
      told_given s (terminal_in held) _ (λ id. told_waits))))
  told_shipped prim.WriteByte =
      told_untyped s of _ (told_two s args (write_byte s) (λ a b. told_use s a _ (λ borrow place held.
      told_given s (terminal_in held) _ (λ id. told_given s (natural_in (number_of Nat8 b)) _ (λ byte.
      told_writes (kept_tells (used borrow) s))))))
  told_shipped prim.ReleaseTerminal =
      told_untyped s of _ (told_one s args (release_terminal s) (λ a.
      told_given s (terminal_in a) _ (λ id. told_gives (kept_spends (Some id) s))))

-- ---- shipped calls as actions

answered_more : (a : Ans) (w : World) (n j : ℕ) → More j (answered a w n) (answered a w (n + j))
answered_more (answer.gives value s) w n j = refl
answered_more (answer.writes bytes s) w n j = refl
answered_more answer.waits w n j = refl
answered_more (answer.aborts fault s) w n j = refl
answered_more answer.none w n j = refl

answered_tells : (a : Ans) (w : World) (n : ℕ) → Told w.store a → Continues w (world_in (answered a w n))
answered_tells (answer.gives value s) w n k =
    record { output = begins_refl w.output; events = k.told; input = ([], refl) }
answered_tells (answer.writes bytes s) w n k =
    record { output = (bytes, refl); events = k.told; input = ([], refl) }
answered_tells answer.waits w n k = continues_refl w
answered_tells (answer.aborts fault s) w n k =
    record { output = begins_refl w.output; events = k.told; input = ([], refl) }
answered_tells answer.none w n k = continues_refl w

answered_spends : (a : Ans) (w : World) (n : ℕ) → left_in (answered a w n) ≤ n
answered_spends (answer.gives value s) w n = le_refl n
answered_spends (answer.writes bytes s) w n = le_refl n
answered_spends answer.waits w n = le_refl n
answered_spends (answer.aborts fault s) w n = le_refl n
answered_spends answer.none w n = le_refl n

rest_ends : (left : List ℕ) → Ends (other_bytes left) left
rest_ends [] = ([], refl)
rest_ends (byte ∷ rest) = (byte ∷ [], refl)

byte_taken : (w : World) → Continues w (record w { left = other_bytes w.left })
byte_taken w = record {
  output = begins_refl w.output;
  events = begins_refl w.store.deeds;
  input = rest_ends w.left;
}

heard_tells : (args : List Value) (w : World) (n : ℕ) → Continues w (world_in (heard args w n))
heard_tells args w n =
    continues_trans (byte_taken w) (answered_tells (of_one (byte_read (next_byte w.left) w.store) args)
    (record w { left = other_bytes w.left }) n (told_read (next_byte w.left) w.store args))

told_more : (args : List Value) (a : Ans) (w : World) (n j : ℕ)
    → More j (told args a w n) (told args a w (n + j))
told_more args (answer.gives value s) w n j = refl
told_more args (answer.writes bytes s) w n j = refl
told_more args answer.waits w n j =
    answered_more (of_one (byte_read (next_byte w.left) w.store) args) (record w {
      left
          = other_bytes w.left;
    }) n j
told_more args (answer.aborts fault s) w n j = refl
told_more args answer.none w n j = refl

told_tells : (args : List Value) (a : Ans) (w : World) (n : ℕ) → Told w.store a
    → Continues w (world_in (told args a w n))
told_tells args (answer.gives value s) w n k = answered_tells (answer.gives value s) w n k
told_tells args (answer.writes bytes s) w n k = answered_tells (answer.writes bytes s) w n k
told_tells args answer.waits w n k = heard_tells args w n
told_tells args (answer.aborts fault s) w n k = answered_tells (answer.aborts fault s) w n k
told_tells args answer.none w n k = continues_refl w

told_spends : (args : List Value) (a : Ans) (w : World) (n : ℕ) → left_in (told args a w n) ≤ n
told_spends args (answer.gives value s) w n = le_refl n
told_spends args (answer.writes bytes s) w n = le_refl n
told_spends args answer.waits w n =
    answered_spends (of_one (byte_read (next_byte w.left) w.store) args) (record w {
      left
          = other_bytes w.left;
    }) n
told_spends args (answer.aborts fault s) w n = le_refl n
told_spends args answer.none w n = le_refl n

shipped_by_grows : (o : Option (answer.Result Bytes)) (call : ShippedCall) (born : Option ClosedType)
    (args : List Value)
    → Grows (shipped_by o call born args) (shipped_by o call born args)
shipped_by_grows (Some result) call born args = grows_comes result
shipped_by_grows None call born args = record {
  more = λ w n j. told_more args (shipped (λ text. text) call born w.store args) w n j;
  proper = record {
    tells = λ w n. told_tells args (shipped (λ text. text) call born w.store args) w n
        (told_shipped (λ text. text) born w.store args call);
    spends = λ w n. told_spends args (shipped (λ text. text) call born w.store args) w n;
  };
}

pub ships_grows : (call : ShippedCall) (born : Option ClosedType) (args : List Value)
    → Grows (ships_call call born args) (ships_call call born args)
ships_grows call born args = shipped_by_grows (operation call args) call born args
