-- Instructions of a machine whose events aren't kept.
use Rattle.std.proofs.Common.{◌≡◌, ℕ, ◌+◌, ◌==◌, nat_lt, Bool, true, false, not, if◌then◌else◌, List, []}
use Rattle.std.proofs.Common.{◌∷◌, length, reverse, take, drop, Option, Some, None, slice_get, ℤ, pos, ◌+ℤ◌}
use Rattle.std.proofs.Common.{int_lt, refl, ap, sym, ◌∙◌}
use Rattle.std.specs.Option.{option_map}
use Rattle.au_base.specs.declared.kinds.IntKind.{IntKind}
use Rattle.au_ints.specs.Ranges.{is_of_kind}
use Rattle.au_shipped.specs.declared.prims.ShippedCall.{ShippedCall}
use Rattle.au_effects.specs.Values.{Place, number, made, reference, listed}
use Rattle.au_effects.specs.Parts.{along, part}
use Rattle.au_effects.specs.Worlds.{used, tells, spends}
use Rattle.au_effects.specs.Places.{at, exchanged}
use Rattle.au_effects.specs.References.{reference_in, reference_along, oldest, newer}
use Rattle.au_effects.specs.Cases.{case_behind}
use Rattle.au_effects.specs.Numbers.{number_in, same_kind, truth_in, computed, wrapped_around, compared}
use Rattle.au_effects.specs.Numbers.{negated, converted_value}
use Rattle.au_effects.specs.Answers as answer
use Rattle.au_effects.specs.Calls.{arity, shipped}
use Rattle.au_low.specs.declared.code.Code.{Code}
use Rattle.au_low.specs.declared.code.Function.{Function}
use Rattle.au_low.specs.declared.code.LowType.{LowType}
use Rattle.au_low.specs.declared.instructions.Mode.{Mode}
use Rattle.au_low.specs.declared.instructions.Mode.TheVariants as mode
use Rattle.au_low.specs.declared.instructions.Instr.{Instr}
use Rattle.au_low.specs.declared.instructions.Instr.TheVariants.{Push, PushBool, PushUnit, PushText, Look}
use Rattle.au_low.specs.declared.instructions.Instr.TheVariants.{Move, Store, Set, Discard, Arith, Wrap}
use Rattle.au_low.specs.declared.instructions.Instr.TheVariants.{Compare, Not, Convert, Jump, JumpNot}
use Rattle.au_low.specs.declared.instructions.Instr.TheVariants.{ForTest, ForStep, Make, Take, Case, Call}
use Rattle.au_low.specs.declared.instructions.Instr.TheVariants.{Shipped, Return, Read, Put, Deref, Open}
use Rattle.au_low.specs.declared.instructions.Instr.TheVariants.{Again, Part, Bind, Close}
use Rattle.au_low.specs.Machines.{Low, LowWorld, Machine, Waiting, Next, goes, writes, waits, exits, aborts}
use Rattle.au_low.specs.Machines.{stuck, having, where_true, onward, in_world, pushes, popping, popping_two}
use Rattle.au_low.specs.Machines.{popping_all, in_slot, has_slot, slot_set, slots_filled, ordered, ordered_if}
use Rattle.au_low.specs.Machines.{begins, frame_in, frame_ended}
use Rattle.au_low.specs.Instructions.{instructions, jumps, jumps_unless, comes, stores, puts, slot_part}
use Rattle.au_low.specs.Instructions.{reference_in_slot, pushes_behind, puts_behind, both_numbers}
use Rattle.au_low.specs.Instructions.{slot_numbers}
use Rattle.au_low.specs.Instructions.{makes, apart, tells_apart, calls, answered, text_bytes, is_type}
use Rattle.au_low.specs.Instructions.{new_reference}
use Rattle.au_low.specs.Instructions.{borrowed, borrowed_place, is_of_slot, closes_to, exit_in, returns}
use Rattle.au_low.specs.Instructions.{on_pair, act}
use Rattle.au_low.proofs.MutedWorlds.{hushed, pair_hushed, hushed_closes, hushed_at, hushed_exchanged}
use Rattle.au_low.proofs.MutedCalls.{still, still_shipped}

-- the same machine without events
abbrev pub muted : Machine → Machine
muted m = record m { world = hushed m.world }

-- and what comes of it
abbrev pub muted_next : Next → Next
muted_next (goes m) = goes (muted m)
muted_next (writes bytes m) = writes bytes (muted m)
muted_next waits = waits
muted_next (exits success m) = exits success (muted m)
muted_next (aborts fault m) = aborts fault (muted m)
muted_next stuck = stuck

pub muted_having : {A : Type 0} (one : Option A) (f g : A → Next) → ((x : A) → f x ≡ muted_next (g x))
    → having one f ≡ muted_next (having one g)
muted_having None f g h = refl
muted_having (Some x) f g h = h x

muted_where : (b : Bool) (x y : Next) → x ≡ muted_next y → where_true b x ≡ muted_next (where_true b y)
muted_where true x y h = h
muted_where false x y h = refl

muted_if : (b : Bool) (x y u v : Next) → x ≡ muted_next u → y ≡ muted_next v
    → (if b then x else y) ≡ muted_next (if b then u else v)
muted_if true x y u v p q = p
muted_if false x y u v p q = q

muted_popping : (operands : List Low) (m : Machine) (f : Low → Machine → Next)
    → ((a : Low) (k : Machine) → f a (muted k) ≡ muted_next (f a k))
    → popping operands (muted m) f ≡ muted_next (popping operands m f)
muted_popping [] m f h = refl
muted_popping (a ∷ rest) m f h = h a (record m { operands = rest })

muted_two : (operands : List Low) (m : Machine) (f : Low → Low → Machine → Next)
    → ((a b : Low) (k : Machine) → f a b (muted k) ≡ muted_next (f a b k))
    → popping_two operands (muted m) f ≡ muted_next (popping_two operands m f)
muted_two [] m f h = refl
muted_two (b ∷ []) m f h = refl
muted_two (b ∷ a ∷ rest) m f h = h a b (record m { operands = rest })

pub muted_all : (count : ℕ) (m : Machine) (f : List Low → Machine → Next)
    → ((values : List Low) (k : Machine) → f values (muted k) ≡ muted_next (f values k))
    → popping_all count (muted m) f ≡ muted_next (popping_all count m f)
muted_all count m f h =
    muted_where (nat_lt count (length m.operands + 1)) _ _ (h (reverse (take count m.operands))
    (record m { operands = drop count m.operands }))

muted_machines : (one : Option Machine) (f : Machine → Next) → ((k : Machine)
    → f (muted k) ≡ muted_next (f k)) → having (option_map muted one) f ≡ muted_next (having one f)
muted_machines None f h = refl
muted_machines (Some k) f h = h k

muted_pairs : (one : Option (Low × LowWorld)) (f : Low × LowWorld → Next) → ((pair : Low × LowWorld)
    → f (pair_hushed pair) ≡ muted_next (f pair))
    → having (option_map pair_hushed one) f ≡ muted_next (having one f)
muted_pairs None f h = refl
muted_pairs (Some pair) f h = h pair

muted_comes : (result : answer.Result ℕ) (m : Machine)
    → comes result (muted m) ≡ muted_next (comes result m)
muted_comes (answer.value value) m = refl
muted_comes (answer.fault fault) m = refl
muted_comes answer.no_rule m = refl

muted_jumps : (code : Code) (label : ℕ) (m : Machine)
    → jumps code label (muted m) ≡ muted_next (jumps code label m)
muted_jumps code label m = muted_where (nat_lt label (length (instructions
    (slice_get code.functions m.function)))) _ _ refl

muted_unless : (code : Code) (label : ℕ) (m : Machine) (b : Bool)
    → jumps_unless code label (muted m) b ≡ muted_next (jumps_unless code label m b)
muted_unless code label m true = refl
muted_unless code label m false = muted_jumps code label m

muted_stores : (slot : ℕ) (value : Low) (m : Machine)
    → stores slot value (muted m) ≡ muted_next (stores slot value m)
muted_stores slot value m = muted_where (has_slot slot m) _ _ refl

muted_puts : (place : Place) (value : Low) (m : Machine)
    → puts place value (muted m) ≡ muted_next (puts place value m)
muted_puts place value m =
    ap (λ (found : Option (Low × LowWorld)). having found (λ pair. goes (onward (in_world pair.1 m))))
    (hushed_exchanged place value m.world)
    ∙ muted_pairs (exchanged place value m.world) (λ pair. goes (onward (in_world pair.1 m))) (λ pair. refl)

muted_at : (place : Place) (m : Machine) (f : Low → Next) (g : Low → Next) → ((x : Low)
    → f x ≡ muted_next (g x))
    → having (at place (muted m).world) f ≡ muted_next (having (at place m.world) g)
muted_at place m f g h =
    ap (λ (found : Option Low). having (along found (part place.path)) f)
    (hushed_at place.base m.world) ∙ muted_having (at place m.world) f g h

-- what is read behind a reference, by what stands there
abbrev read_of : ℕ × Place → LowWorld → Option Low → Option (Low × LowWorld)
read_of one world held = along held (λ value. Some (value, tells (used one.0) world))

muted_copies : (one : ℕ × Place) (m : Machine) (held : Option Low)
    → having (read_of one (muted m).world held) (λ pair. pushes pair.0 (in_world pair.1 (muted m)))
    ≡ muted_next (having (read_of one m.world held) (λ pair. pushes pair.0 (in_world pair.1 m)))
muted_copies one m None = refl
muted_copies one m (Some value) = refl

muted_reads : (one : ℕ × Place) (m : Machine)
    → pushes_behind one (muted m) ≡ muted_next (pushes_behind one m)
muted_reads one m =
    ap (λ (found : Option Low). having (read_of one (muted m).world (along found (part one.1.path)))
    (λ pair. pushes pair.0 (in_world pair.1 (muted m)))) (hushed_at one.1.base m.world)
    ∙ muted_copies one m (at one.1 m.world)

muted_behind : (one : ℕ × Place) (value : Low) (m : Machine)
    → puts_behind one value (muted m) ≡ muted_next (puts_behind one value m)
muted_behind one value m = muted_puts one.1 value (in_world (tells (used one.0) m.world) m)

muted_both : (a b : Option (IntKind × ℤ)) (f g : IntKind → ℤ → ℤ → Next) → ((kind : IntKind) (x y : ℤ)
    → f kind x y ≡ muted_next (g kind x y)) → both_numbers a b f ≡ muted_next (both_numbers a b g)
muted_both None b f g h = refl
muted_both (Some a) None f g h = refl
muted_both (Some a) (Some b) f g h = muted_where (same_kind a.0 b.0) _ _ (h a.0 a.1 b.1)

muted_numbers : (a b : ℕ) (m : Machine) (f g : IntKind → ℤ → ℤ → Next) → ((kind : IntKind) (x y : ℤ)
    → f kind x y ≡ muted_next (g kind x y))
    → slot_numbers a b (muted m) f ≡ muted_next (slot_numbers a b m g)
muted_numbers a b m f g h = muted_both (along (in_slot a m) number_in) (along (in_slot b m) number_in) f g h

muted_makes : (of tag : ℕ) (home : List ℕ) (values : List Low) (type : LowType) (m : Machine)
    → makes of tag home values type (muted m) ≡ muted_next (makes of tag home values type m)
muted_makes of tag home values type m = muted_if type.linear _ _ _ _ refl refl

pub muted_choice : (b : Bool) (x y : Option Machine) → x ≡ option_map muted y
    → (if b then x else None) ≡ option_map muted (if b then y else None)
muted_choice true x y h = h
muted_choice false x y h = refl

muted_filled : (slot : ℕ) (values : List Low) (m : Machine)
    → slots_filled slot values (muted m) ≡ option_map muted (slots_filled slot values m)
muted_filled slot [] m = refl
muted_filled slot (value ∷ rest) m = muted_choice (has_slot slot m) _ _ (muted_filled (slot + 1) rest
    (slot_set slot (Some value) m))

muted_apart : (value : Low) (slot : ℕ) (m : Machine) (f : ℕ → Machine → Next)
    → ((tag : ℕ) (k : Machine) → f tag (muted k) ≡ muted_next (f tag k))
    → apart value slot (muted m) f ≡ muted_next (apart value slot m f)
muted_apart (made tag None fields) slot m f h =
    ap (λ (found : Option Machine). having found (f tag)) (muted_filled slot (listed fields) m)
    ∙ muted_machines (slots_filled slot (listed fields) m) (f tag) (h tag)
muted_apart (made tag (Some id) fields) slot m f h =
    let k = in_world (spends (Some id) m.world) m in
    ap (λ (found : Option Machine). having found (f tag)) (muted_filled slot (listed fields) k)
    ∙ muted_machines (slots_filled slot (listed fields) k) (f tag) (h tag)
muted_apart other slot m f h = refl

-- what is told apart behind a reference, by what stands there
abbrev told_of : ℕ × Place → LowWorld → Option Low → Option ((ℕ × List Low) × LowWorld)
told_of one world held =
    along (read_of one world held) (λ pair. along (case_behind one pair.0) (λ parts. Some (parts, pair.1)))

muted_parts : (one : ℕ × Place) (slot : ℕ) (m : Machine) (f : ℕ → Machine → Next)
    → ((tag : ℕ) (k : Machine) → f tag (muted k) ≡ muted_next (f tag k)) → (parts : Option (ℕ × List Low))
    → having parts (λ parts.
    having (slots_filled slot parts.1 (in_world (tells (used one.0) (muted m).world) (muted m))) (f parts.0))
    ≡ muted_next (having parts (λ parts.
    having (slots_filled slot parts.1 (in_world (tells (used one.0) m.world) m)) (f parts.0)))
muted_parts one slot m f h None = refl
muted_parts one slot m f h (Some parts) =
    let k = in_world (tells (used one.0) m.world) m in
    ap (λ (found : Option Machine). having found (f parts.0)) (muted_filled slot parts.1 k)
    ∙ muted_machines (slots_filled slot parts.1 k) (f parts.0) (h parts.0)

having_parts : {A B : Type 0} (parts : Option A) (w : B) (go : A × B → Next)
    → having (along parts (λ parts. Some (parts, w))) go ≡ having parts (λ parts. go (parts, w))
having_parts None w go = refl
having_parts (Some parts) w go = refl

muted_told : (one : ℕ × Place) (slot : ℕ) (m : Machine) (f : ℕ → Machine → Next)
    → ((tag : ℕ) (k : Machine) → f tag (muted k) ≡ muted_next (f tag k)) → (held : Option Low)
    → having (told_of one (muted m).world held) (λ told.
    having (slots_filled slot told.0.1 (in_world told.1 (muted m))) (f told.0.0))
    ≡ muted_next (having (told_of one m.world held) (λ told.
    having (slots_filled slot told.0.1 (in_world told.1 m)) (f told.0.0)))
muted_told one slot m f h None = refl
muted_told one slot m f h (Some value) =
    let parts = case_behind one value in
    having_parts parts (tells (used one.0) (muted m).world) _
    ∙ muted_parts one slot m f h parts
    ∙ sym (ap muted_next (having_parts parts (tells (used one.0) m.world) _))

muted_case : (value : Low) (slot : ℕ) (m : Machine) (f : ℕ → Machine → Next)
    → ((tag : ℕ) (k : Machine) → f tag (muted k) ≡ muted_next (f tag k))
    → tells_apart value slot (muted m) f ≡ muted_next (tells_apart value slot m f)
muted_case (made tag birth fields) slot m f h = muted_apart (made tag birth fields) slot m f h
muted_case (reference borrow place) slot m f h =
    ap (λ (held : Option Low). having (told_of (borrow, place) (muted m).world (along held (part place.path)))
    (λ told. having (slots_filled slot told.0.1 (in_world told.1 (muted m))) (f told.0.0)))
    (hushed_at place.base m.world)
    ∙ muted_told (borrow, place) slot m f h (at place m.world)
muted_case other slot m f h = refl

muted_begins : (index : ℕ) (function : Function) (values : List Low) (m : Machine)
    → begins index function values (muted m) ≡ muted_next (begins index function values m)
muted_begins index function values m = muted_where (nat_lt (length values) (function.slots + 1)) _ _ refl

muted_calls : (index : ℕ) (order : List ℕ) (function : Function) (m : Machine)
    → calls index order function (muted m) ≡ muted_next (calls index order function m)
muted_calls index order function m =
    muted_where (length order == function.params) _ _ (muted_all (length order) m _ (λ values k.
    muted_having (ordered order values) _ _ (λ values. muted_begins index function values k)))

pub muted_answered : (said : answer.Answer ℕ ℕ) (m : Machine)
    → answered (still said) (muted m) ≡ muted_next (answered said m)
muted_answered (answer.gives value world) m = refl
muted_answered (answer.writes bytes world) m = refl
muted_answered answer.waits m = refl
muted_answered (answer.aborts fault world) m = refl
muted_answered answer.none m = refl

muted_shipped : (code : Code) (call : ShippedCall) (of : Option ℕ) (values : List Low) (m : Machine)
    → answered (shipped (text_bytes code) call of (muted m).world values) (muted m)
    ≡ muted_next (answered (shipped (text_bytes code) call of m.world values) m)
muted_shipped code call of values m =
    ap (λ (said : answer.Answer ℕ ℕ). answered said (muted m)) (still_shipped
    (text_bytes code) call of m.world values)
    ∙ muted_answered (shipped (text_bytes code) call of m.world values) m

muted_ended : (m : Machine) → frame_ended (muted m) ≡ hushed (frame_ended m)
muted_ended m = ap (λ (w : LowWorld). record w { frames = take (frame_in m) w.frames })
    (hushed_closes m.open_borrows m.world)

muted_returns : (waiting : List Waiting) (result : Low) (m : Machine)
    → returns waiting result (muted m) ≡ muted_next (returns waiting result m)
muted_returns [] result m = muted_having (exit_in result) _ _ (λ success. ap (λ
    (w : LowWorld). exits success (in_world w m)) (muted_ended m))
muted_returns (frame ∷ below) result m =
    ap (λ (w : LowWorld). goes (record {
      function = frame.function;
      place = frame.place;
      operands = result ∷ frame.operands;
      open_borrows = frame.open_borrows;
      waiting = below;
      world = w;
    })) (muted_ended m)

-- a borrow of a slot, or again of what a reference reaches
muted_borrow : (how : Mode) (slot : ℕ) (m : Machine) (f g : Place → Next) → ((place : Place)
    → f place ≡ muted_next (g place))
    → having (borrowed_place how slot (muted m)) f ≡ muted_next (having (borrowed_place how slot m) g)
muted_borrow mode.Read slot m f g h = muted_having (if has_slot slot m then Some
    (slot_part slot [] m) else None) f g h
muted_borrow mode.Write slot m f g h = muted_having (if has_slot slot m then Some
    (slot_part slot [] m) else None) f g h
muted_borrow mode.Again slot m f g h = muted_having (along (reference_in_slot slot m)
    (λ one. Some one.1)) f g h

muted_closes : (count : ℕ) (m : Machine) → closes_to count (muted m) ≡ muted (closes_to count m)
muted_closes count m =
    ap (λ (w : LowWorld). in_world w (record m { open_borrows = oldest count m.open_borrows }))
    (hushed_closes (newer count m.open_borrows) m.world)

-- what an instruction does
pub muted_act : (code : Code) (instr : Instr) (m : Machine)
    → act code instr (muted m) ≡ muted_next (act code instr m)
unfolding act
muted_act code (Push kind value) m = muted_where (is_of_kind kind value) _ _ refl
muted_act code (PushBool value) m = refl
muted_act code PushUnit m = refl
muted_act code (PushText n) m = muted_where (nat_lt n (length code.texts)) _ _ refl
muted_act code (Look slot path) m = muted_at (slot_part slot path m) m _ _ (λ value. refl)
muted_act code (Move slot) m = muted_having (in_slot slot m) _ _ (λ value. refl)
muted_act code (Store slot) m = muted_popping m.operands m _ (λ value k. muted_stores slot value k)
muted_act code (Set slot path) m = muted_popping m.operands m _ (λ value k. muted_puts
    (slot_part slot path k) value k)
muted_act code Discard m = muted_popping m.operands m _ (λ value k. refl)
muted_act code (Arith op kind) m = muted_two m.operands m _ (λ a b k. muted_comes (computed op kind a b) k)
muted_act code (Wrap op kind order) m =
    muted_all 2 m _ (λ values k. muted_having (ordered_if order values) _ _ (λ values. muted_comes
    (on_pair (wrapped_around op kind) values) k))
muted_act code (Compare order kind) m = muted_two m.operands m _ (λ a b k. muted_comes
    (compared order kind a b) k)
muted_act code Not m = muted_popping m.operands m _ (λ a k. muted_comes (negated a) k)
muted_act code (Convert kind) m = muted_popping m.operands m _ (λ a k. muted_comes (converted_value kind a) k)
muted_act code (Jump label) m = muted_jumps code label m
muted_act code (JumpNot label) m = muted_popping m.operands m _ (λ a k. muted_having (truth_in a) _ _
    (λ b. muted_unless code label k b))
muted_act code (ForTest counter last label) m = muted_numbers counter last m _ _
    (λ kind a b. muted_unless code label m (not (int_lt b a)))
muted_act code (ForStep counter last label) m =
    muted_numbers counter last m _ _ (λ kind a b. muted_if (int_lt a b) _ _ _ _ (muted_jumps code label
    (slot_set counter (Some (number kind (a +ℤ pos 1))) m)) refl)
muted_act code (Make of tag order home) m =
    muted_all (length order) m _ (λ values k. muted_having (ordered order values) _ _
    (λ values. muted_having (slice_get code.types of) _ _
    (λ type. muted_makes of tag home values type k)))
muted_act code (Take slot) m = muted_popping m.operands m _ (λ value k. muted_apart value slot k _
    (λ tag k. muted_where (tag == 0) _ _ refl))
muted_act code (Case slot labels) m =
    muted_popping m.operands m _ (λ value k. muted_case value slot k _ (λ tag k. muted_having
    (slice_get labels tag) _ _ (λ label. muted_jumps code label k)))
muted_act code (Call function order) m = muted_having (slice_get code.functions function) _ _
    (λ callee. muted_calls function order callee m)
muted_act code (Shipped call of order) m =
    muted_where (is_type code of) _ _ (muted_all (arity call) m _ (λ values k. muted_having
    (ordered_if order values) _ _ (λ values. muted_shipped code call of values k)))
muted_act code Return m = muted_popping m.operands m _ (λ result k. muted_returns k.waiting result k)
muted_act code (Read slot path) m = muted_having (reference_in_slot slot m) _ _ (λ one. muted_reads
    (reference_along one path) m)
muted_act code (Put slot path) m =
    muted_having (reference_in_slot slot m) _ _ (λ one. muted_popping m.operands m _ (λ value k. muted_behind
    (reference_along one path) value k))
muted_act code Deref m = muted_popping m.operands m _ (λ value k. muted_having (reference_in value) _ _
    (λ one. muted_reads one k))
muted_act code (Open slot mode) m = muted_where (is_of_slot mode) _ _ (muted_borrow mode slot m _ _
    (λ place. refl))
muted_act code (Again slot) m = muted_borrow mode.Again slot m _ _ (λ place. refl)
muted_act code (Part slot path) m = muted_having (reference_in_slot slot m) _ _ (λ one. refl)
muted_act code (Bind from into mode) m = muted_borrow mode from m _ _ (λ place. muted_stores into
    (new_reference place m) (borrowed m))
muted_act code (Close count) m = ap (λ (k : Machine). goes (onward k)) (muted_closes count m)
