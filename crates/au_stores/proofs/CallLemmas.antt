-- Shipped calls on boxes and buffers, by what their references reach.
use Rattle.std.proofs.Common.{◌≡◌, ℕ, zero, suc, ◌-◌, ◌<◌, true, List, [], ◌∷◌, ◌++◌, length, take, get_or}
use Rattle.std.proofs.Common.{Option, Some, None, is_some, IsSome, codes, pos, slice_get, slice_set, refl}
use Rattle.std.proofs.Common.{sym, ap, ◌∙◌, arith}
use Rattle.std.specs.Option.{option_map}
use Rattle.std.proofs.lemmas.Option.{slice_get-get_or}
use Rattle.std.proofs.lemmas.List.{length-map}
use Rattle.au_base.specs.declared.kinds.IntKind.TheVariants.{Index}
use Rattle.au_shipped.specs.declared.prims.AbortKind.TheVariants as kind
use Rattle.au_effects.specs.Values.{Place, unit, number, terminal}
use Rattle.au_effects.specs.Parts.{along}
use Rattle.au_effects.specs.Worlds as effect
use Rattle.au_effects.specs.Places.{at, exchanged}
use Rattle.au_effects.specs.References.{reference_in, put_behind}
use Rattle.au_effects.proofs.PlaceLemmas.{pair_told, exchanged_told}
use Rattle.au_effects.specs.Answers as answer
use Rattle.au_effects.specs.Calls as call
use Rattle.au_low.specs.Machines.{Low, LowWorld}
use Rattle.au_cells.specs.declared.cells.Cell.{Cell}
use Rattle.au_cells.specs.Cells.{low, lows}
use Rattle.au_cells.proofs.PartLemmas.{get_low}
use Rattle.au_stores.specs.Stores.{reached_by, held_elements, elements_of, count_in, with_more}
use Rattle.au_stores.specs.Answers.{answer_of, given_or}

-- what comes of a call
abbrev pub Comes : Type 0
Comes = answer.Answer ℕ ℕ

-- a use of a reference that reaches a value of a form
module _ {A : Type 0} (form : Low → Option A) (w : LowWorld) (go : ℕ → A → Comes) where
  reached_found : (borrow : ℕ) (found : Option A)
      → call.given {A = ℕ × A} (along found (λ one. Some (borrow, one))) (λ one. go one.0 one.1)
      ≡ call.given found (go borrow)
  reached_found borrow None = refl
  reached_found borrow (Some one) = refl

  reached_held : (borrow : ℕ) (found : Option Low)
      → call.given {A = ℕ × A} (along found (λ held_value. along (form held_value) (λ one. Some (borrow, one))))
      (λ one. go one.0 one.1)
      ≡ call.given found (λ held_value. call.given (form held_value) (go borrow))
  reached_held borrow None = refl
  reached_held borrow (Some held_value) = reached_found borrow (form held_value)

  reached_lent : (found : Option (ℕ × Place))
      → call.given {A = ℕ × A} (along found
      (λ one. along (at one.1 w) (λ held_value. along (form held_value) (λ x. Some (one.0, x))))) (λ one. go one.0 one.1)
      ≡ call.given found (λ one. call.given (at one.1 w) (λ held_value. call.given (form held_value) (go one.0)))
  reached_lent None = refl
  reached_lent (Some one) = reached_held one.0 (at one.1 w)

  pub use_is : (value : Low) → call.given (reached_by form value w) (λ one. go one.0 one.1)
      ≡ call.use_of value w (λ borrow place held_value. call.given (form held_value) (go borrow))
  use_is value = reached_lent (reference_in value)

-- a value goes into the place of a reference, and what was there comes out
module _ (value new : Low) (w : LowWorld) (one : ℕ × Place) (is : Some one ≡ reference_in value) where
  swapped_by : Option (Low × LowWorld) → Comes
  swapped_by found = call.given found (λ pair. answer.gives pair.0 pair.1)

  swap_is : swapped_by (option_map (pair_told (effect.used one.0)) (exchanged one.1 new w))
      ≡ call.swap_call w value new
  unfolding swapped_by
  swap_is =
      ap swapped_by (sym (exchanged_told one.1 new (effect.used one.0) w))
      ∙ ap (λ (found : Option (ℕ × Place)). call.given found
      (λ one. swapped_by (put_behind one new w))) is

  pub swapped_none : None ≡ exchanged one.1 new w → answer.none ≡ call.swap_call w value new
  unfolding swapped_by
  swapped_none none =
      ap (λ (found : Option (Low × LowWorld)). swapped_by (option_map (pair_told (effect.used one.0)) found))
      none
      ∙ swap_is

  pub swapped : (old : Low) (mid after : LowWorld) → Some (old, mid) ≡ exchanged one.1 new w
      → after ≡ effect.tells (effect.used one.0) mid
      → answer.gives old after ≡ call.swap_call w value new
  unfolding swapped_by
  swapped old mid after there told =
      ap (answer.gives old) told
      ∙ ap (λ (found : Option (Low × LowWorld)). swapped_by (option_map (pair_told (effect.used one.0)) found))
      there
      ∙ swap_is

-- a use of a buffer, and what it comes to
module _ (value : Low) (w : LowWorld) (go : ℕ → List Low → LowWorld → Comes) where
  used_with : ℕ → ℕ → List Low → Comes
  used_with borrow id values = go id values (effect.tells (effect.used borrow) w)

  buffer_use_is : call.given (reached_by call.buffer_in value w)
      (λ one. call.given (elements_of one.1 w) (used_with one.0 one.1))
      ≡ call.buffer_use value w go
  unfolding used_with
  buffer_use_is = use_is call.buffer_in w (λ borrow id. call.given (elements_of id w) (used_with borrow id))
      value

  pub buffer_none : None ≡ reached_by call.buffer_in value w → answer.none ≡ call.buffer_use value w go
  buffer_none h = ap (λ (found : Option (ℕ × ℕ)). call.given found
      (λ one. call.given (elements_of one.1 w) (used_with one.0 one.1))) h
      ∙ buffer_use_is

  pub elements_none : (borrow id : ℕ) → Some (borrow, id) ≡ reached_by call.buffer_in value w
      → None ≡ elements_of id w → answer.none ≡ call.buffer_use value w go
  elements_none borrow id h is = ap (λ (found : Option (List Low)). call.given found (used_with borrow id)) is
      ∙ ap (λ (found : Option (ℕ × ℕ)). call.given found
      (λ one. call.given (elements_of one.1 w) (used_with one.0 one.1))) h
      ∙ buffer_use_is

  pub buffer_some : (borrow id : ℕ) (values : List Low)
      → Some (borrow, id) ≡ reached_by call.buffer_in value w
      → Some values ≡ elements_of id w
      → go id values (effect.tells (effect.used borrow) w) ≡ call.buffer_use value w go
  unfolding used_with
  buffer_some borrow id values h is =
      ap (λ (found : Option (List Low)). call.given found (used_with borrow id)) is
      ∙ ap (λ (found : Option (ℕ × ℕ)). call.given found
      (λ one. call.given (elements_of one.1 w) (used_with one.0 one.1))) h
      ∙ buffer_use_is

-- a world with other births, in which a use is told
abbrev pub used_births : ℕ → List (effect.Held ℕ) → LowWorld → LowWorld
used_births borrow births w = effect.tells (effect.used borrow) (record w { births = births })

-- elements that are counted
counted : (found : Option (List Low)) (n : ℕ) → Some n ≡ count_in found
    → (values : List Low) × (Some values ≡ found) × (n ≡ length values)
counted None n h = cc
counted (Some values) n h = (values, refl, cc)

pub length_is : (value : Low) (w after : LowWorld) (borrow id n : ℕ)
    → Some (borrow, id) ≡ reached_by call.buffer_in value w → Some n ≡ count_in (elements_of id w)
    → after ≡ effect.tells (effect.used borrow) w
    → answer.gives (number Index (pos n)) after ≡ call.length_call w value
length_is value w after borrow id n h is told =
    let found = counted (elements_of id w) n is in
    ap (answer.gives (number Index (pos n))) told
    ∙ ap (λ m. answer.gives (number Index (pos m)) (effect.tells (effect.used borrow) w)) found.2
    ∙ buffer_some value w (λ id values told. answer.gives (number Index (pos (length values))) told) borrow id
    found.0 h found.1

-- an element behind the others
pub insert_is : (value new : Low) (w after : LowWorld) (borrow id : ℕ) (births : List (effect.Held ℕ))
    (found : Option (List Low))
    → Some (borrow, id) ≡ reached_by call.buffer_in value w → found ≡ elements_of id w → true ≡ is_some found
    → births ≡ with_more id new found w.births → after ≡ used_births borrow births w
    → answer.gives unit after ≡ call.insert_back w value new
insert_is value new w after borrow id births None h is there more told = cc
insert_is value new w after borrow id births (Some values) h is there more told =
    ap (answer.gives unit) (told ∙ ap (λ (ones : List (effect.Held ℕ)). used_births borrow ones w) more)
    ∙ buffer_some value w (λ id values told. answer.gives unit
    (call.with_elements id (values ++ new ∷ []) told)) borrow id values h is

-- births of which one gets what it has
elements_held : (birth_held : effect.Held ℕ) (values : List Low) → Some values ≡ call.elements_in birth_held
    → effect.elements values ≡ birth_held
elements_held effect.nothing values h = cc
elements_held (effect.content value) values h = cc
elements_held (effect.elements others) values h = cc

pub elements_same : (births : List (effect.Held ℕ)) (id : ℕ) (values : List Low)
    → Some values ≡ held_elements id births → slice_set births id (effect.elements values) ≡ births
elements_same [] id values h = refl
elements_same (birth_held ∷ births) zero values h =
    ap (λ (one : effect.Held ℕ). one ∷ births) (elements_held birth_held values h)
elements_same (birth_held ∷ births) (suc id) values h =
    ap (λ (more : List (effect.Held ℕ)). birth_held ∷ more) (elements_same births id values h)

-- a list of which nothing is last
no_last : (values : List Low) → None ≡ slice_get values (length values - 1)
    → take (length values - 1) values ≡ values
no_last [] h = refl
no_last (value ∷ values) h =
    let within : length (value ∷ values) - 1 < length (value ∷ values) = omega arith in
    let there = slice_get-get_or (value ∷ values) (length (value ∷ values) - 1) value within in
    absurd cc

-- a list of which an item is put that isn't there
not_there : (values : List Low) (index : ℕ) (new : Low) → None ≡ slice_get values index
    → slice_set values index new ≡ values
not_there [] index new h = refl
not_there (value ∷ values) zero new h = cc
not_there (value ∷ values) (suc index) new h =
    ap (λ (more : List Low). value ∷ more) (not_there values index new h)

-- the last element is taken
pub remove_is : (value : Low) (w after : LowWorld) (borrow id : ℕ) (values rest : List Low)
    (last : Option Cell)
    (births : List (effect.Held ℕ)) → Some (borrow, id) ≡ reached_by call.buffer_in value w
    → Some values ≡ elements_of id w → option_map low last ≡ slice_get values (length values - 1)
    → rest ≡ take (length values - 1) values → births ≡ slice_set w.births id (effect.elements rest)
    → after ≡ used_births borrow births w
    → answer_of (given_or last kind.Empty) after ≡ call.remove_back w value
remove_is value w after borrow id values rest None births h is last front set told =
    ap (answer.aborts answer.empty)
    (told ∙ ap (λ (ones : List (effect.Held ℕ)). used_births borrow ones w)
    (set ∙ ap (λ (vs : List Low). slice_set w.births id (effect.elements vs)) (front ∙ no_last values last)
    ∙ elements_same w.births id values is))
    ∙ ap (λ (found : Option Low). call.last_taken id values found (effect.tells (effect.used borrow) w)) last
    ∙ buffer_some value w (λ id values told. call.last_taken id values (slice_get values (length values - 1))
    told) borrow id values h is
remove_is value w after borrow id values rest (Some cell) births h is last front set told =
    ap (answer.gives (low cell))
    (told ∙ ap (λ (ones : List (effect.Held ℕ)). used_births borrow ones w)
    (set ∙ ap (λ (vs : List Low). slice_set w.births id (effect.elements vs)) front))
    ∙ ap (λ (found : Option Low). call.last_taken id values found (effect.tells (effect.used borrow) w)) last
    ∙ buffer_some value w (λ id values told. call.last_taken id values (slice_get values (length values - 1))
    told) borrow id values h is

-- an element is replaced
pub replace_is : (value new : Low) (index : ℕ) (w after : LowWorld) (borrow id : ℕ) (values next : List Low)
    (old : Option Cell) (births : List (effect.Held ℕ))
    → Some (borrow, id) ≡ reached_by call.buffer_in value w
    → Some values ≡ elements_of id w → option_map low old ≡ slice_get values index
    → next ≡ slice_set values index new → births ≡ slice_set w.births id (effect.elements next)
    → after ≡ used_births borrow births w
    → answer_of (given_or old kind.OutOfRange) after
    ≡ call.buffer_use value w (λ id values told. call.element_replaced id values index new
    (slice_get values index) told)
replace_is value new index w after borrow id values next None births h is old put set told =
    ap (answer.aborts answer.out_of_range)
    (told ∙ ap (λ (ones : List (effect.Held ℕ)). used_births borrow ones w)
    (set ∙ ap (λ (vs : List Low). slice_set w.births id (effect.elements vs))
    (put ∙ not_there values index new old)
    ∙ elements_same w.births id values is))
    ∙ ap (λ (found : Option Low). call.element_replaced id values index new found
    (effect.tells (effect.used borrow) w)) old
    ∙ buffer_some value w (λ id values told. call.element_replaced id values index new
    (slice_get values index) told) borrow id values h is
replace_is value new index w after borrow id values next (Some cell) births h is old put set told =
    ap (answer.gives (low cell))
    (told ∙ ap (λ (ones : List (effect.Held ℕ)). used_births borrow ones w)
    (set ∙ ap (λ (vs : List Low). slice_set w.births id (effect.elements vs)) put))
    ∙ ap (λ (found : Option Low). call.element_replaced id values index new found
    (effect.tells (effect.used borrow) w)) old
    ∙ buffer_some value w (λ id values told. call.element_replaced id values index new
    (slice_get values index) told) borrow id values h is

-- a buffer is consumed
destroyed_if : (w after : LowWorld) (id n : ℕ) (found : Option (List Low)) → Some n ≡ count_in found → n ≡ 0
    → after ≡ effect.ends id w
    → answer.gives unit after ≡ call.given found (λ values. call.buffer_ended id values w)
destroyed_if w after id n None is none ended = cc
destroyed_if w after id n (Some []) is none ended = ap (answer.gives unit) ended
destroyed_if w after id n (Some (value ∷ values)) is none ended =
    let size : n ≡ length (value ∷ values) = cc in absurd (omega (arith, size, none))

pub destroyed : (w after : LowWorld) (id n : ℕ) → Some n ≡ count_in (elements_of id w) → n ≡ 0
    → after ≡ effect.ends id w
    → answer.gives unit after ≡ call.given (elements_of id w) (λ values. call.buffer_ended id values w)
destroyed w after id n is none ended = destroyed_if w after id n (elements_of id w) is none ended

-- the first of the values
lows_take : (n : ℕ) (cells : List Cell) → lows (take n cells) ≡ take n (lows cells)
lows_take zero cells = refl
lows_take (suc n) [] = refl
lows_take (suc n) (cell ∷ cells) = ap (λ (values : List Low). low cell ∷ values) (lows_take n cells)

-- the last cell
pub popped_last : (before : List Cell) (last : Option Cell) (n : ℕ) → n ≡ length before
    → ((d : Cell) → 0 < n → last ≡ Some (get_or before (n - 1) d)) → (IsSome last → 0 < n)
    → option_map low last ≡ slice_get (lows before) (length (lows before) - 1)
popped_last [] None n size is some = refl
popped_last [] (Some cell) n size is some = absurd (omega (arith, size, some refl))
popped_last (one ∷ before) last n size is some =
    let cells = one ∷ before in
    let within : n - 1 < length cells = omega (arith, size) in
    ap (option_map low) (is one (omega (arith, size)))
    ∙ ap (option_map low) (sym (slice_get-get_or cells (n - 1) one within))
    ∙ sym (get_low cells (n - 1))
    ∙ ap (λ m. slice_get (lows cells) (m - 1)) (size ∙ sym (length-map cells low))

pub popped_rest : (before after : List Cell) (n : ℕ) → n ≡ length before → after ≡ take (n - 1) before
    → lows after ≡ take (length (lows before) - 1) (lows before)
popped_rest before after n size is =
    ap lows is ∙ lows_take (n - 1) before
    ∙ ap (λ m. take (m - 1) (lows before)) (size ∙ sym (length-map before low))

-- a copy of an element, or an abort, is an answer
pub copied_rule : (found : Option Low) (w : LowWorld) → answer.none ≡ call.element_copied found w → ⊥
copied_rule None w h = cc
copied_rule (Some value) w h = cc

-- a terminal is born
pub terminal_is : (value : Low) (w mid after : LowWorld) (of borrow id n : ℕ)
    → Some (borrow, id) ≡ reached_by call.root_in value w → mid ≡ effect.tells (effect.used borrow) w
    → n ≡ length mid.births → after ≡ effect.bears of (codes "Standard.IO.Terminal") effect.nothing mid
    → answer.gives (terminal n) after ≡ call.acquire_terminal (Some of) w value
terminal_is value w mid after of borrow id n h told size born =
    let gives : ℕ → Comes = λ b. answer.gives (terminal (length w.births))
    (effect.bears of (codes "Standard.IO.Terminal") effect.nothing (effect.tells (effect.used b) w)) in
    ap (λ m. answer.gives (terminal m) after) (size ∙ ap (λ (v : LowWorld). length v.births) told)
    ∙ ap (answer.gives (terminal (length w.births)))
    (born ∙ ap (effect.bears of (codes "Standard.IO.Terminal") effect.nothing) told)
    ∙ ap (λ (found : Option (ℕ × ℕ)). call.given found (λ one. gives one.0)) h
    ∙ use_is call.root_in w (λ b root. gives b) value
