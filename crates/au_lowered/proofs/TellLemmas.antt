-- An instruction tells more, and unsays nothing.
use Rattle.std.proofs.Common.{ℕ, ◌+◌, ◌-◌, ◌==◌, nat_lt, Bool, true, false, not, if◌then◌else◌, List, [], ◌∷◌}
use Rattle.std.proofs.Common.{length, reverse, take, drop, Option, Some, None, slice_get, ℤ, pos, ◌+ℤ◌}
use Rattle.std.proofs.Common.{int_lt}
use Rattle.au_base.specs.declared.kinds.IntKind.{IntKind}
use Rattle.au_ints.specs.Ranges.{is_of_kind}
use Rattle.au_effects.specs.Values.{Place, name_of, content_of, number, made, reference, listed}
use Rattle.au_effects.specs.Cases.{case_behind}
use Rattle.au_effects.specs.Parts.{along, part, with_part}
use Rattle.au_effects.specs.Worlds.{Deed, tells, bears, spends, closes, closed, used, opened, nothing}
use Rattle.au_effects.specs.Places.{at, base_at, base_set, set_over}
use Rattle.au_effects.specs.Numbers.{number_in, same_kind, truth_in, computed, wrapped_around, compared}
use Rattle.au_effects.specs.Numbers.{negated, converted_value}
use Rattle.au_effects.specs.Answers as answer
use Rattle.au_effects.specs.Calls.{arity, shipped}
use Rattle.au_effects.specs.References.{reference_in, reference_along, place_along}
use Rattle.au_low.specs.declared.code.Code.{Code}
use Rattle.au_low.specs.declared.code.Function.{Function}
use Rattle.au_low.specs.declared.code.LowType.{LowType}
use Rattle.au_low.specs.declared.instructions.Mode.{Mode}
use Rattle.au_low.specs.declared.instructions.Mode.TheVariants as mode
use Rattle.au_low.specs.declared.instructions.Instr.{Instr}
use Rattle.au_low.specs.declared.instructions.Instr.TheVariants.{Push, PushBool, PushUnit, PushText, Look}
use Rattle.au_low.specs.declared.instructions.Instr.TheVariants.{Move, Store, Set, Discard, Arith, Wrap}
use Rattle.au_low.specs.declared.instructions.Instr.TheVariants.{Compare, Not, Convert, Jump, JumpNot}
use Rattle.au_low.specs.declared.instructions.Instr.TheVariants.{ForTest, ForStep, Make, Take, Case, Call}
use Rattle.au_low.specs.declared.instructions.Instr.TheVariants.{Shipped, Return, Read, Put, Deref, Open}
use Rattle.au_low.specs.declared.instructions.Instr.TheVariants.{Again, Part, Bind, Close}
use Rattle.au_low.specs.Machines.{Low, LowWorld, Machine, Waiting, Next, goes, writes, waits, exits, aborts}
use Rattle.au_low.specs.Machines.{stuck, having, where_true, onward, in_world, popping, popping_two}
use Rattle.au_low.specs.Machines.{popping_all, in_slot, has_slot, slot_set, slots_filled, ordered, ordered_if}
use Rattle.au_low.specs.Machines.{begins, frame_ended, pushes}
use Rattle.au_low.specs.Instructions as low
use Rattle.au_low.specs.Instructions.{act, instructions, jumps, jumps_unless, comes, stores, puts, slot_part}
use Rattle.au_low.specs.Instructions.{reference_in_slot, pushes_behind, both_numbers, slot_numbers}
use Rattle.au_low.specs.Instructions.{makes, apart, calls, answered, text_bytes, is_type, new_reference}
use Rattle.au_low.specs.Instructions.{borrowed, borrowed_place, is_of_slot, exit_in, returns, on_pair}
use Rattle.au_low.specs.Instructions.{takes_record, goes_to_case}
use Rattle.au_meaning.specs.Laws.{Begins}
use Rattle.au_meaning.proofs.Growing.{begins_refl, begins_trans}
use Rattle.au_lowered.proofs.AnswerLemmas.{begins_told, begins_bears}
use Rattle.au_lowered.proofs.AnswerLemmas.{begins_spends, AnswerTells, shipped_tells}

-- what comes of an instruction tells more than these
abbrev pub Tells : List (Deed ℕ) → Next → Type 0
Tells deeds (goes m) = Begins deeds m.world.deeds
Tells deeds (writes bytes m) = Begins deeds m.world.deeds
Tells deeds waits = Unit {0}
Tells deeds (exits success m) = Begins deeds m.world.deeds
Tells deeds (aborts fault m) = Begins deeds m.world.deeds
Tells deeds stuck = Unit {0}

begins_closes : (borrows : List ℕ) (w : LowWorld) → Begins w.deeds (closes borrows w).deeds
begins_closes [] w = begins_refl w.deeds
begins_closes (borrow ∷ rest) w =
    begins_trans w.deeds (tells (closed borrow) w).deeds (closes rest (tells (closed borrow) w)).deeds
    (begins_told (closed borrow) w) (begins_closes rest (tells (closed borrow) w))

module _ (deeds : List (Deed ℕ)) where
  pub tells_having : {A : Type 0} (o : Option A) (f : A → Next) → ((x : A) → Tells deeds (f x))
      → Tells deeds (having o f)
  tells_having None f h = tt
  tells_having (Some x) f h = h x

  pub tells_where : (b : Bool) (x : Next) → Tells deeds x → Tells deeds (where_true b x)
  tells_where true x h = h
  tells_where false x h = tt

  tells_if : (b : Bool) (x y : Next) → Tells deeds x → Tells deeds y → Tells deeds (if b then x else y)
  tells_if true x y p q = p
  tells_if false x y p q = q

  tells_popping : (operands : List Low) (m : Machine) (f : Low → Machine → Next)
      → ((a : Low) (rest : List Low) → Tells deeds (f a (record m { operands = rest })))
      → Tells deeds (popping operands m f)
  tells_popping [] m f h = tt
  tells_popping (a ∷ rest) m f h = h a rest

  tells_two : (operands : List Low) (m : Machine) (f : Low → Low → Machine → Next)
      → ((a b : Low) (rest : List Low) → Tells deeds (f a b (record m { operands = rest })))
      → Tells deeds (popping_two operands m f)
  tells_two [] m f h = tt
  tells_two (b ∷ []) m f h = tt
  tells_two (b ∷ a ∷ rest) m f h = h a b rest

  pub tells_all : (count : ℕ) (m : Machine) (f : List Low → Machine → Next)
      → ((values : List Low) (rest : List Low) → Tells deeds (f values (record m { operands = rest })))
      → Tells deeds (popping_all count m f)
  tells_all count m f h =
      tells_where (nat_lt count (length m.operands + 1)) _ (h (reverse (take count m.operands)) (drop count
      m.operands))

  module _ (m : Machine) (so : Begins deeds m.world.deeds) where
    tells_comes : (result : answer.Result ℕ) (rest : List Low)
        → Tells deeds (comes result (record m { operands = rest }))
    tells_comes (answer.value value) rest = so
    tells_comes (answer.fault fault) rest = so
    tells_comes answer.no_rule rest = tt

    tells_jumps : (code : Code) (label : ℕ) (rest : List Low)
        → Tells deeds (jumps code label (record m { operands = rest }))
    tells_jumps code label rest = tells_where (nat_lt label (length (instructions (slice_get code.functions
        m.function)))) _ so

    tells_unless : (code : Code) (label : ℕ) (rest : List Low) (b : Bool)
        → Tells deeds (jumps_unless code label (record m { operands = rest }) b)
    tells_unless code label rest true = so
    tells_unless code label rest false = tells_jumps code label rest

    tells_stores : (slot : ℕ) (value : Low) → Tells deeds (stores slot value m)
    tells_stores slot value = tells_where (has_slot slot m) _ so

    tells_at : (place : Place) (f : Low → Next) → ((x : Low) → Tells deeds (f x))
        → Tells deeds (having (at place m.world) f)
    tells_at place f h = tells_having (at place m.world) f h

    tells_reads : (one : ℕ × Place) → Tells deeds (pushes_behind one m)
    tells_reads one = by_held (at one.1 m.world)
      where
        by_held : (o : Option Low) → Tells deeds (having (along {A = Low} {B = Low × LowWorld} o
            (λ value. Some (value, tells (used one.0) m.world))) (λ pair. pushes pair.0 (in_world pair.1 m)))
        by_held None = tt
        by_held (Some value) =
            begins_trans deeds m.world.deeds (tells (used one.0) m.world).deeds so
            (begins_told (used one.0) m.world)

    tells_set : (base : _) (path : List ℕ) (value old : Low)
        → Begins deeds (base_set base (with_part path value old) m.world).deeds
    tells_set (name_of frame name) path value old = so
    tells_set (content_of birth) path value old = so

    tells_over : (place : Place) (value : Low) (o : Option Low)
        → Tells deeds (having (set_over place value m.world o) (λ pair. goes (onward (in_world pair.1 m))))
    tells_over place value None = tt
    tells_over place value (Some base) = by_part (part place.path base)
      where
        by_part : (p : Option Low) → Tells deeds (having (along {A = Low} {B = Low
            × LowWorld} p (λ old. Some (
              old,
              base_set place.base (with_part place.path value base)
                  m.world,
            ))) (λ pair. goes (onward (in_world pair.1 m))))
        by_part None = tt
        by_part (Some old) = tells_set place.base place.path value base

    tells_puts : (place : Place) (value : Low) → Tells deeds (puts place value m)
    tells_puts place value = tells_over place value (base_at place.base m.world)

    tells_both : (a b : Option (IntKind × ℤ)) (f : IntKind → ℤ → ℤ → Next) → ((kind : IntKind) (x y : ℤ)
        → Tells deeds (f kind x y))
        → Tells deeds (both_numbers a b f)
    tells_both None b f h = tt
    tells_both (Some a) None f h = tt
    tells_both (Some a) (Some b) f h = tells_where (same_kind a.0 b.0) _ (h a.0 a.1 b.1)

    tells_numbers : (a b : ℕ) (f : IntKind → ℤ → ℤ → Next) → ((kind : IntKind) (x y : ℤ)
        → Tells deeds (f kind x y)) → Tells deeds (slot_numbers a b m f)
    tells_numbers a b f h = tells_both (along (in_slot a m) number_in) (along (in_slot b m) number_in) f h

    tells_makes : (of tag : ℕ) (home : List ℕ) (values : List Low) (type : LowType) (rest : List Low)
        → Tells deeds (makes of tag home values type (record m { operands = rest }))
    tells_makes of tag home values type rest =
        tells_if type.linear _ _ (begins_trans deeds m.world.deeds (bears of home nothing m.world).deeds so
        (begins_bears of home nothing m.world)) so

    pub tells_answered : (r : answer.Answer ℕ ℕ) (rest : List Low) → AnswerTells deeds r
        → Tells deeds (answered r (record m { operands = rest }))
    tells_answered (answer.gives value world) rest h = h
    tells_answered (answer.writes bytes world) rest h = h
    tells_answered answer.waits rest h = tt
    tells_answered (answer.aborts fault world) rest h = h
    tells_answered answer.none rest h = tt

    tells_ended : Begins deeds (frame_ended m).deeds
    tells_ended = begins_trans deeds m.world.deeds (closes m.open_borrows m.world).deeds so (begins_closes
        m.open_borrows m.world)

    tells_begins : (index : ℕ) (function : Function) (values rest : List Low)
        → Tells deeds (begins index function values (record m { operands = rest }))
    tells_begins index function values rest = tells_where (nat_lt (length values) (function.slots + 1)) _ so

    tells_calls : (index : ℕ) (order : List ℕ) (function : Function)
        → Tells deeds (calls index order function m)
    tells_calls index order function =
        tells_where (length order == function.params) _ (tells_all (length order) m (λ values k. having
        (ordered order values) (λ values. begins index function values k)) (λ values rest.
        tells_having (ordered order values) _ (λ values. tells_begins index function values rest)))

    tells_borrow : (how : Mode) (slot : ℕ) (f : Place → Next) → ((place : Place) → Tells deeds (f place))
        → Tells deeds (having (borrowed_place how slot m) f)
    tells_borrow mode.Read slot f h = tells_having (if has_slot slot m then Some (slot_part slot [] m) else
        None) f h
    tells_borrow mode.Write slot f h = tells_having (if has_slot slot m then Some (slot_part slot [] m) else
        None) f h
    tells_borrow mode.Again slot f h =
        tells_having (along (reference_in_slot slot m) (λ one. Some one.1)) f h

  tells_returns : (waiting : List Waiting) (result : Low) (m : Machine) → Begins deeds m.world.deeds
      → Tells deeds (returns waiting result m)
  tells_returns [] result m so = tells_having (exit_in result) _ (λ success. tells_ended m so)
  tells_returns (frame ∷ below) result m so = tells_ended m so

  tells_filled : (slot : ℕ) (values : List Low) (m : Machine) (f : Machine → Next)
      → Begins deeds m.world.deeds
      → ((k : Machine) → Begins deeds k.world.deeds → Tells deeds (f k))
      → Tells deeds (having (slots_filled slot values m) f)
  tells_filled slot [] m f so h = h m so
  tells_filled slot (value ∷ rest) m f so h = by_slot (has_slot slot m) (tells_filled (slot + 1) rest
      (slot_set slot (Some value) m) f so h)
    where
      by_slot : (b : Bool) → Tells deeds (having (slots_filled (slot + 1) rest (slot_set slot (Some value)
          m)) f)
          → Tells deeds (having (if b then slots_filled (slot + 1) rest (slot_set slot (Some value) m) else
          None) f)
      by_slot true h = h
      by_slot false h = tt

  tells_apart : (value : Low) (slot : ℕ) (m : Machine) (f : ℕ → Machine → Next) → Begins deeds m.world.deeds
      → ((tag : ℕ) (k : Machine) → Begins deeds k.world.deeds → Tells deeds (f tag k))
      → Tells deeds (apart value slot m f)
  tells_apart (made tag birth fields) slot m f so h =
      tells_filled slot (listed fields) (in_world (spends birth m.world) m) (f tag)
      (begins_trans deeds m.world.deeds (spends birth m.world).deeds so (begins_spends birth m.world)) (h
      tag)
  tells_apart other slot m f so h = tt

  -- what is told apart behind a reference, by the parts, and by what stands there
  behind_parts : (one : ℕ × Place) (slot : ℕ) (m : Machine) (f : ℕ → Machine → Next) → Begins deeds m.world.deeds
      → ((tag : ℕ) (k : Machine) → Begins deeds k.world.deeds → Tells deeds (f tag k))
      → (parts : Option (ℕ × List Low))
      → Tells deeds (having (along {B = (ℕ × List Low) × LowWorld} parts (λ parts. Some (
        parts,
        tells (used one.0) m.world,
      ))) (λ told. having (slots_filled slot told.0.1 (in_world told.1 m)) (f told.0.0)))
  behind_parts one slot m f so h None = tt
  behind_parts one slot m f so h (Some parts) =
      tells_filled slot parts.1 (in_world (tells (used one.0) m.world) m) (f parts.0)
      (begins_trans deeds m.world.deeds (tells (used one.0) m.world).deeds so (begins_told (used one.0) m.world))
      (h parts.0)

  behind_held : (one : ℕ × Place) (slot : ℕ) (m : Machine) (f : ℕ → Machine → Next) → Begins deeds m.world.deeds
      → ((tag : ℕ) (k : Machine) → Begins deeds k.world.deeds → Tells deeds (f tag k)) → (held : Option Low)
      → Tells deeds (having (along {B = (ℕ × List Low) × LowWorld} (along {B = Low × LowWorld} held (λ value. Some (
        value,
        tells (used one.0) m.world,
      ))) (λ pair. along {B = (ℕ × List Low) × LowWorld} (case_behind one pair.0) (λ parts. Some (parts, pair.1)))) (λ
      told. having (slots_filled slot told.0.1 (in_world told.1 m)) (f told.0.0)))
  behind_held one slot m f so h None = tt
  behind_held one slot m f so h (Some value) = behind_parts one slot m f so h (case_behind one value)

  tells_case : (value : Low) (slot : ℕ) (m : Machine) (f : ℕ → Machine → Next) → Begins deeds m.world.deeds
      → ((tag : ℕ) (k : Machine) → Begins deeds k.world.deeds → Tells deeds (f tag k))
      → Tells deeds (low.tells_apart value slot m f)
  tells_case (made tag birth fields) slot m f so h = tells_apart (made tag birth fields) slot m f so h
  tells_case (reference borrow place) slot m f so h = behind_held (borrow, place) slot m f so h (at place m.world)
  tells_case other slot m f so h = tt

opened_told : (m : Machine) → Begins m.world.deeds (borrowed m).world.deeds
opened_told m = begins_told (opened m.world.borrows) (record m.world { borrows = m.world.borrows + 1 })

-- what an instruction does
pub act_tells : (code : Code) (instr : Instr) (m : Machine) → Tells m.world.deeds (act code instr m)
unfolding act
act_tells code (Push kind value) m = tells_where m.world.deeds (is_of_kind kind value) _ (begins_refl
    m.world.deeds)
act_tells code (PushBool value) m = begins_refl m.world.deeds
act_tells code PushUnit m = begins_refl m.world.deeds
act_tells code (PushText n) m = tells_where m.world.deeds (nat_lt n (length code.texts)) _ (begins_refl
    m.world.deeds)
act_tells code (Look slot path) m = tells_having m.world.deeds (at (slot_part slot path m) m.world) _ (λ
    value. begins_refl m.world.deeds)
act_tells code (Move slot) m = tells_having m.world.deeds (in_slot slot m) _ (λ value. begins_refl
    m.world.deeds)
act_tells code (Store slot) m = tells_popping m.world.deeds m.operands m _ (λ value rest. tells_stores
    m.world.deeds (record m { operands = rest }) (begins_refl m.world.deeds) slot value)
act_tells code (Set slot path) m = tells_popping m.world.deeds m.operands m _ (λ value rest. tells_puts
    m.world.deeds (record m { operands = rest }) (begins_refl m.world.deeds) (slot_part slot path m) value)
act_tells code Discard m = tells_popping m.world.deeds m.operands m _ (λ value rest. begins_refl
    m.world.deeds)
act_tells code (Arith op kind) m = tells_two m.world.deeds m.operands m _ (λ a b rest. tells_comes
    m.world.deeds m (begins_refl m.world.deeds) (computed op kind a b) rest)
act_tells code (Wrap op kind order) m =
    tells_all m.world.deeds 2 m (λ values k. having (ordered_if order values) (λ values. comes (on_pair
    (wrapped_around op kind) values) k)) (λ values rest. tells_having m.world.deeds (ordered_if order
    values) _ (λ values. tells_comes m.world.deeds m (begins_refl m.world.deeds) (on_pair
    (wrapped_around op kind) values) rest))
act_tells code (Compare order kind) m = tells_two m.world.deeds m.operands m _ (λ a b rest. tells_comes
    m.world.deeds m (begins_refl m.world.deeds) (compared order kind a b) rest)
act_tells code Not m = tells_popping m.world.deeds m.operands m _ (λ a rest. tells_comes m.world.deeds m
    (begins_refl m.world.deeds) (negated a) rest)
act_tells code (Convert kind) m = tells_popping m.world.deeds m.operands m _ (λ a rest. tells_comes
    m.world.deeds m (begins_refl m.world.deeds) (converted_value kind a) rest)
act_tells code (Jump label) m = tells_jumps m.world.deeds m (begins_refl m.world.deeds) code label
    m.operands
act_tells code (JumpNot label) m = tells_popping m.world.deeds m.operands m _ (λ a rest. tells_having
    m.world.deeds (truth_in a) _ (λ b. tells_unless m.world.deeds m (begins_refl m.world.deeds) code label
    rest b))
act_tells code (ForTest counter last label) m = tells_numbers m.world.deeds m (begins_refl m.world.deeds)
    counter last _ (λ kind a b. tells_unless m.world.deeds m (begins_refl m.world.deeds) code label
    m.operands (not (int_lt b a)))
act_tells code (ForStep counter last label) m =
    tells_numbers m.world.deeds m (begins_refl m.world.deeds) counter last _ (λ kind a b. tells_if
    m.world.deeds (int_lt a b) _ _
    (tells_jumps m.world.deeds (slot_set counter (Some (number kind (a +ℤ pos 1))) m) (begins_refl
    m.world.deeds) code label m.operands) (begins_refl m.world.deeds))
act_tells code (Make of tag order home) m =
    tells_all m.world.deeds (length order) m (λ values k. having (ordered order values) (λ values. having
    (slice_get code.types of) (λ type. makes of tag home values type k))) (λ values rest. tells_having
    m.world.deeds (ordered order values) _ (λ values.
    tells_having m.world.deeds (slice_get code.types of) _ (λ type. tells_makes m.world.deeds m (begins_refl
    m.world.deeds) of tag home values type rest)))
act_tells code (Take slot) m = tells_popping m.world.deeds m.operands m _ (λ value rest. tells_apart
    m.world.deeds value slot (record m { operands = rest }) takes_record (begins_refl m.world.deeds)
    (λ tag k so. tells_where m.world.deeds (tag == 0) _ so))
act_tells code (Case slot labels) m = tells_popping m.world.deeds m.operands m _ (λ value rest. tells_case
    m.world.deeds value slot (record m { operands = rest }) (goes_to_case code labels) (begins_refl
    m.world.deeds)
    (λ tag k so. tells_having m.world.deeds (slice_get labels tag) _ (λ label. tells_jumps m.world.deeds k
    so code label k.operands)))
act_tells code (Call function order) m = tells_having m.world.deeds (slice_get code.functions function) _ (λ
    callee. tells_calls m.world.deeds m (begins_refl m.world.deeds) function order callee)
act_tells code (Shipped call of order) m =
    tells_where m.world.deeds (is_type code of) _ (tells_all m.world.deeds (arity call) m (λ values k.
    having (ordered_if order values) (λ values. answered (shipped (text_bytes code) call of k.world
    values) k)) (λ values rest. tells_having m.world.deeds (ordered_if order values) _ (λ values.
    tells_answered m.world.deeds m (begins_refl m.world.deeds) (shipped (text_bytes code) call of m.world
    values) rest (shipped_tells (text_bytes code) call of m.world values))))
act_tells code Return m = tells_popping m.world.deeds m.operands m _ (λ result rest. tells_returns
    m.world.deeds m.waiting result (record m { operands = rest }) (begins_refl m.world.deeds))
act_tells code (Read slot path) m = tells_having m.world.deeds (reference_in_slot slot m) _ (λ one.
    tells_reads m.world.deeds m (begins_refl m.world.deeds) (reference_along one path))
act_tells code (Put slot path) m =
    tells_having m.world.deeds (reference_in_slot slot m) _ (λ one.
    tells_popping m.world.deeds m.operands m _ (λ value rest.
    tells_puts m.world.deeds (in_world (tells (used one.0) m.world) (record m { operands = rest }))
    (begins_told (used one.0) m.world) (place_along one.1 path) value))
act_tells code Deref m = tells_popping m.world.deeds m.operands m _ (λ value rest. tells_having
    m.world.deeds (reference_in value) _ (λ one. tells_reads m.world.deeds (record m { operands = rest })
    (begins_refl m.world.deeds) one))
act_tells code (Open slot mode) m = tells_where m.world.deeds (is_of_slot mode) _ (tells_borrow
    m.world.deeds m (begins_refl m.world.deeds) mode slot _ (λ place. opened_told m))
act_tells code (Again slot) m = tells_borrow m.world.deeds m (begins_refl m.world.deeds) mode.Again slot _
    (λ place. opened_told m)
act_tells code (Part slot path) m = tells_having m.world.deeds (reference_in_slot slot m) _ (λ one.
    begins_refl m.world.deeds)
act_tells code (Bind from into mode) m = tells_borrow m.world.deeds m (begins_refl m.world.deeds) mode from
    _ (λ place. tells_stores m.world.deeds (borrowed m) (opened_told m) into (new_reference place m))
act_tells code (Close count) m = begins_closes (take (length m.open_borrows - count) m.open_borrows) m.world
