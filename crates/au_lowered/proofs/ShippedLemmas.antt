-- Each shipped call that writes no frame: the meaning has no rule for it, or the machine does the same.
use Rattle.std.proofs.Common.{◌≡◌, inl, ℕ, ◌-◌, Bool, true, false, List, [], ◌∷◌, ◌++◌, length, take, Option}
use Rattle.std.proofs.Common.{Some, None}
use Rattle.std.proofs.Common.{map, refl, sym, ap, subst₂, ◌∙◌, slice_get, set, codes, pos, true≢false}
use Rattle.std.specs.Prelude.{option_map}
use Rattle.std.proofs.lemmas.List.{length-map, map-append, map-set, take-map}
use Rattle.std.proofs.lemmas.Option.{slice_get-map}
use Rattle.au_base.specs.declared.kinds.IntKind.TheVariants.{Nat8, Index}
use Rattle.au_type_texts.specs.Types.{ClosedType}
use Rattle.au_effects.specs.Answers.{gives, writes, waits, aborts, called, not_empty, empty, out_of_range}
use Rattle.au_effects.specs.Calls.{arity, shipped, given, of_one, in_line, root_in, box_in, buffer_in}
use Rattle.au_effects.specs.Calls.{terminal_in}
use Rattle.au_effects.specs.Calls.{natural_in, index_in, elements_in, print_text, span_length, print_number}
use Rattle.au_effects.specs.Calls.{print_truth, abort_call, surrender_root, release_terminal, make_box}
use Rattle.au_effects.specs.Calls.{unbox_call}
use Rattle.au_effects.specs.Calls.{box_get, make_empty, destroy_empty, buffer_ended, length_call, insert_back}
use Rattle.au_effects.specs.Calls.{with_elements, remove_back, last_taken, nth_call, element_copied, replace_nth}
use Rattle.au_effects.specs.Calls.{element_replaced, acquire_terminal, write_byte, read_byte, byte_value}
use Rattle.au_effects.specs.Calls.{byte_read}
use Rattle.au_effects.specs.Numbers.{number_in, number_of, number_bytes, truth_in, truth_bytes, text_in}
use Rattle.au_effects.specs.Parts.{along}
use Rattle.au_effects.specs.Places.{content_in}
use Rattle.au_effects.specs.Values as values
use Rattle.au_effects.specs.Values.{unit, number, reference, box, buffer, terminal, content_of, optional}
use Rattle.au_effects.specs.Worlds as effects
use Rattle.au_effects.specs.Worlds.{nothing, content, elements, used, tells, bears, ends, spends}
use Rattle.au_low.specs.Instructions.{text_bytes}
use Rattle.au_low.specs.Machines.{Low}
use Rattle.au_meaning.specs.Worlds.{Value}
use Rattle.au_shipped.specs.declared.prims.ShippedCall.{ShippedCall}
use Rattle.au_shipped.specs.declared.prims.ShippedCall.TheVariants as prim
use Rattle.au_lowered.specs.Maps.{Change, value_to, held_to}
use Rattle.au_lowered.specs.Sides.{as_meant, as_ran, Coding, Word, Both, Named, Slotted, meant, ran}
use Rattle.au_lowered.specs.Sides.{all_meant, all_ran}
use Rattle.au_lowered.proofs.AlikeLemmas.{above, under, Comes, comes_so, comes_given, given_alike, given_same}
use Rattle.au_lowered.proofs.AlikeLemmas.{Finds}
use Rattle.au_lowered.proofs.AlikeLemmas.{use_alike, buffer_alike, Fits, none_fits, one_fits, two_fit, three_fit}
use Rattle.au_lowered.proofs.AlikeLemmas.{untyped_fits}
use Rattle.au_lowered.proofs.DeedLemmas.{tells_to, bears_to, ends_to, spends_to, content_to, elements_to}
use Rattle.au_lowered.proofs.DeedLemmas.{with_elements_to}
use Rattle.au_lowered.proofs.MapLemmas.{number_in_to, number_of_to, truth_in_to, text_in_to, root_in_to}
use Rattle.au_lowered.proofs.MapLemmas.{box_in_to}
use Rattle.au_lowered.proofs.MapLemmas.{buffer_in_to, terminal_in_to}

-- whether a call writes no frame
abbrev pub keeps_frames : ShippedCall → Bool
keeps_frames prim.Swap = false
keeps_frames other = true

-- ---- numbers and elements

module _ {T S : Type 0} (f : Change T S) where
  -- all elements but the last, and the last
  front_to : (xs : List (values.Value T))
      → take (length (map (value_to f) xs) - 1) (map (value_to f) xs)
      ≡ map (value_to f) (take (length xs - 1) xs)
  front_to xs =
      ap (λ n. take (n - 1) (map (value_to f) xs)) (length-map xs (value_to f))
      ∙ take-map (value_to f) (length xs - 1) xs

  last_to : (xs : List (values.Value T))
      → slice_get (map (value_to f) xs) (length (map (value_to f) xs) - 1)
      ≡ option_map (value_to f) (slice_get xs (length xs - 1))
  last_to xs =
      ap (λ n. slice_get (map (value_to f) xs) (n - 1)) (length-map xs (value_to f))
      ∙ slice_get-map (value_to f) xs (length xs - 1)

  -- an index, and a byte that may have come
  index_to : (i : values.Value T) → index_in (value_to f i) ≡ index_in i
  index_to i = ap (λ o. natural_in o) (number_of_to f Index i)

  byte_to : (byte : Option ℕ) → optional (byte_value byte) ≡ value_to f (optional (byte_value byte))
  byte_to None = refl
  byte_to (Some byte) = refl

-- ---- calls

module _ (by : Coding) (upper : List Named) (lower : List Slotted) (w : effects.World (Word by) ClosedType) where
  -- the world on both sides where one more deed is told, or where a birth ends
  told_meant : (borrow : ℕ) → tells (used borrow) (above by upper lower w)
      ≡ above by upper lower (tells (used borrow) w)
  told_meant borrow = tells_to (as_meant by) (λ (t : ClosedType). t) upper (used borrow) w

  told_ran : (borrow : ℕ) → tells (used borrow) (under by upper lower w) ≡ under by upper lower
      (tells (used borrow) w)
  told_ran borrow = tells_to (as_ran by) by.of lower (used borrow) w

  many_meant : length (above by upper lower w).births ≡ length w.births
  many_meant = length-map w.births (held_to (as_meant by))

  many_ran : length (under by upper lower w).births ≡ length w.births
  many_ran = length-map w.births (held_to (as_ran by))

  -- ---- printing

  print_text_alike : (line : Bool) (a : Both by)
      → Comes by upper lower (print_text (λ text. text) line (above by upper lower w) (meant by a))
      (print_text (text_bytes by.code) line (under by upper lower w) (ran by a))
  print_text_alike line a =
      given_alike by upper lower (text_in a) (λ (t : Word by). t.bytes) (λ (t : Word by). by.text t.bytes) _ _ _ _
      (text_in_to (as_meant by) a) (text_in_to (as_ran by) a) (λ t.
      comes_so by upper lower (writes (in_line line t.bytes) w) _ _ refl
      (ap (λ bytes. writes (in_line line bytes) (under by upper lower w)) t.known))

  span_alike : (a : Both by)
      → Comes by upper lower (span_length (λ text. text) (above by upper lower w) (meant by a))
      (span_length (text_bytes by.code) (under by upper lower w) (ran by a))
  span_alike a =
      given_alike by upper lower (text_in a) (λ (t : Word by). t.bytes) (λ (t : Word by). by.text t.bytes) _ _ _ _
      (text_in_to (as_meant by) a) (text_in_to (as_ran by) a) (λ t.
      comes_given by upper lower (number Index (pos (length t.bytes))) w _ _ _ _ refl
      (ap (λ bytes. number Index (pos (length bytes))) t.known) refl refl)

  abort_alike : (a : Both by)
      → Comes by upper lower (abort_call (above by upper lower w) (meant by a))
      (abort_call (under by upper lower w)
      (ran by a))
  abort_alike a =
      given_alike by upper lower (text_in a) (λ (t : Word by). t.bytes) (λ (t : Word by). by.text t.bytes) _ _ _ _
      (text_in_to (as_meant by) a) (text_in_to (as_ran by) a) (λ t.
      comes_so by upper lower (aborts (called t) w) _ _ refl refl)

  print_number_alike : (line : Bool) (a : Both by)
      → Comes by upper lower (print_number line (above by upper lower w) (meant by a))
      (print_number line (under by upper lower w) (ran by a))
  print_number_alike line a =
      given_same by upper lower (number_bytes (number_in a)) _ _ _ _
      (ap (λ o. number_bytes o) (number_in_to (as_meant by) a))
      (ap (λ o. number_bytes o) (number_in_to (as_ran by) a))
      (λ bytes. comes_so by upper lower (writes (in_line line bytes) w) _ _ refl refl)

  print_truth_alike : (line : Bool) (a : Both by)
      → Comes by upper lower (print_truth line (above by upper lower w) (meant by a))
      (print_truth line (under by upper lower w) (ran by a))
  print_truth_alike line a =
      given_same by upper lower (truth_bytes (truth_in a)) _ _ _ _
      (ap (λ o. truth_bytes o) (truth_in_to (as_meant by) a))
      (ap (λ o. truth_bytes o) (truth_in_to (as_ran by) a))
      (λ bytes. comes_so by upper lower (writes (in_line line bytes) w) _ _ refl refl)

  -- ---- the root

  spent_alike : (id : ℕ)
      → Comes by upper lower (gives unit (spends (Some id) (above by upper lower w)))
      (gives unit (spends (Some id) (under by upper lower w)))
  spent_alike id =
      comes_given by upper lower unit (spends (Some id) w) _ _ _ _ refl refl
      (spends_to (as_meant by) (λ (t : ClosedType). t) upper (Some id) w)
      (spends_to (as_ran by) by.of lower (Some id)
      w)

  surrender_alike : (a : Both by)
      → Comes by upper lower (surrender_root (above by upper lower w) (meant by a))
      (surrender_root (under by upper lower w) (ran by a))
  surrender_alike a =
      given_same by upper lower (root_in a) _ _ _ _ (root_in_to (as_meant by) a) (root_in_to (as_ran by) a)
      (λ id. spent_alike id)

  release_alike : (a : Both by)
      → Comes by upper lower (release_terminal (above by upper lower w) (meant by a))
      (release_terminal (under by upper lower w) (ran by a))
  release_alike a =
      given_same by upper lower (terminal_in a) _ _ _ _ (terminal_in_to (as_meant by) a)
      (terminal_in_to (as_ran by) a)
      (λ id. spent_alike id)

  -- ---- boxes

  make_box_alike : (born : Option ClosedType) (a : Both by)
      → Comes by upper lower (make_box born (above by upper lower w) (meant by a))
      (make_box (option_map by.of born) (under by upper lower w) (ran by a))
  make_box_alike None a = inl refl
  make_box_alike (Some of) a =
      let home = codes "Standard.Box" in
      comes_given by upper lower (box (length w.births)) (bears of home (content a) w) _ _ _ _
      (ap (λ id. box id) many_meant) (ap (λ id. box id) many_ran)
      (bears_to (as_meant by) (λ (t : ClosedType). t) upper of home (content a) w)
      (bears_to (as_ran by) by.of lower of
      home (content a) w)

  unbox_alike : (a : Both by)
      → Comes by upper lower (unbox_call (above by upper lower w) (meant by a))
      (unbox_call (under by upper lower w)
      (ran by a))
  unbox_alike a =
      given_same by upper lower (box_in a) _ _ _ _ (box_in_to (as_meant by) a) (box_in_to (as_ran by) a) (λ id.
      given_alike by upper lower (along (slice_get w.births id) content_in) (meant by) (ran by) _ _ _ _
      (content_to (as_meant by) w.births id) (content_to (as_ran by) w.births id) (λ v.
      comes_given by upper lower v (ends id w) _ _ _ _ refl refl
      (ends_to (as_meant by) (λ (t : ClosedType). t) upper id
      w) (ends_to (as_ran by) by.of lower id w)))

  box_get_alike : Finds by upper lower w → (a : Both by)
      → Comes by upper lower (box_get (above by upper lower w) (meant by a))
      (box_get (under by upper lower w) (ran by
      a))
  box_get_alike finds a =
      use_alike by upper lower a w _ _ finds (λ borrow place held.
      given_same by upper lower (box_in held) _ _ _ _ (box_in_to (as_meant by) held)
      (box_in_to (as_ran by) held) (λ id.
      comes_given by upper lower (reference borrow (record { base = content_of id; path = [] }))
      (tells (used borrow) w)
      _ _ _ _ refl refl (told_meant borrow) (told_ran borrow)))

  -- ---- buffers

  make_empty_alike : (born : Option ClosedType)
      → Comes by upper lower (make_empty born (above by upper lower w))
      (make_empty (option_map by.of born) (under by
      upper lower w))
  make_empty_alike None = inl refl
  make_empty_alike (Some of) =
      let home = codes "Standard.Buffer" in
      comes_given by upper lower (buffer (length w.births)) (bears of home (elements []) w) _ _ _ _
      (ap (λ id. buffer id) many_meant) (ap (λ id. buffer id) many_ran)
      (bears_to (as_meant by) (λ (t : ClosedType). t) upper of home (elements []) w)
      (bears_to (as_ran by) by.of lower
      of home (elements []) w)

  ended_alike : (id : ℕ) (values : List (Both by))
      → Comes by upper lower (buffer_ended id (all_meant by values) (above by upper lower w))
      (buffer_ended id (all_ran by values) (under by upper lower w))
  ended_alike id [] =
      comes_given by upper lower unit (ends id w) _ _ _ _ refl refl
      (ends_to (as_meant by) (λ (t : ClosedType). t) upper
      id w) (ends_to (as_ran by) by.of lower id w)
  ended_alike id (v ∷ values) = comes_so by upper lower (aborts not_empty w) _ _ refl refl

  destroy_alike : (a : Both by)
      → Comes by upper lower (destroy_empty (above by upper lower w) (meant by a))
      (destroy_empty (under by upper lower w) (ran by a))
  destroy_alike a =
      given_same by upper lower (buffer_in a) _ _ _ _ (buffer_in_to (as_meant by) a) (buffer_in_to (as_ran by) a)
      (λ id. given_alike by upper lower (along (slice_get w.births id) elements_in) (all_meant by)
      (all_ran by) _ _ _ _
      (elements_to (as_meant by) w.births id) (elements_to (as_ran by) w.births id)
      (λ values. ended_alike id values))

  -- a buffer holds other elements, and a value is given
  changed_alike : (id : ℕ) (v : Both by) (values : List (Both by)) (xs : List Value) (ys : List Low)
      → xs ≡ all_meant by values → ys ≡ all_ran by values
      → Comes by upper lower (gives (meant by v) (with_elements id xs (above by upper lower w)))
      (gives (ran by v) (with_elements id ys (under by upper lower w)))
  changed_alike id v values xs ys xs_are ys_are =
      comes_given by upper lower v (with_elements id values w) _ _ _ _ refl refl
      (ap (λ all. with_elements id all (above by upper lower w)) xs_are
      ∙ with_elements_to (as_meant by) (λ (t : ClosedType). t) upper id values w)
      (ap (λ all. with_elements id all (under by upper lower w)) ys_are
      ∙ with_elements_to (as_ran by) by.of lower id values w)

  -- the last element is taken, or one by its number is copied or replaced, if it is there
  taken_alike : (id : ℕ) (values : List (Both by)) (o : Option (Both by))
      → Comes by upper lower (last_taken id (all_meant by values) (option_map (meant by) o)
      (above by upper lower w))
      (last_taken id (all_ran by values) (option_map (ran by) o) (under by upper lower w))
  taken_alike id values None = comes_so by upper lower (aborts empty w) _ _ refl refl
  taken_alike id values (Some v) =
      changed_alike id v (take (length values - 1) values) _ _ (front_to (as_meant by) values)
      (front_to (as_ran by)
      values)

  copied_alike : (o : Option (Both by))
      → Comes by upper lower (element_copied (option_map (meant by) o) (above by upper lower w))
      (element_copied (option_map (ran by) o) (under by upper lower w))
  copied_alike None = comes_so by upper lower (aborts out_of_range w) _ _ refl refl
  copied_alike (Some v) = comes_so by upper lower (gives v w) _ _ refl refl

  replaced_alike : (id : ℕ) (values : List (Both by)) (index : ℕ) (new : Both by) (o : Option (Both by))
      → Comes by upper lower (element_replaced id (all_meant by values) index (meant by new)
      (option_map (meant by) o)
      (above by upper lower w))
      (element_replaced id (all_ran by values) index (ran by new) (option_map (ran by) o)
      (under by upper lower w))
  replaced_alike id values index new None = comes_so by upper lower (aborts out_of_range w) _ _ refl refl
  replaced_alike id values index new (Some old) =
      changed_alike id old (set values index new) _ _ (sym (map-set (meant by) values index new))
      (sym (map-set (ran by) values index new))

  -- ---- the terminal

  acquire_alike : Finds by upper lower w → (born : Option ClosedType) (a : Both by)
      → Comes by upper lower (acquire_terminal born (above by upper lower w) (meant by a))
      (acquire_terminal (option_map by.of born) (under by upper lower w) (ran by a))
  acquire_alike finds born a =
      use_alike by upper lower a w _ _ finds (λ borrow place held.
      given_same by upper lower (root_in held) _ _ _ _ (root_in_to (as_meant by) held)
      (root_in_to (as_ran by) held)
      (λ id. begun borrow born))
    where
      home : List ℕ
      home = codes "Standard.IO.Terminal"

      begun : (borrow : ℕ) (born : Option ClosedType)
          → Comes by upper lower (given born (λ t. gives (terminal (length (above by upper lower w).births))
          (bears t home nothing (tells (used borrow) (above by upper lower w)))))
          (given (option_map by.of born) (λ t. gives (terminal (length (under by upper lower w).births))
          (bears t home nothing (tells (used borrow) (under by upper lower w)))))
      begun borrow None = inl refl
      begun borrow (Some of) =
          let told = tells (used borrow) w in
          comes_given by upper lower (terminal (length w.births)) (bears of home nothing told) _ _ _ _
          (ap (λ id. terminal id) many_meant) (ap (λ id. terminal id) many_ran)
          (ap (λ m. bears of home nothing m) (told_meant borrow)
          ∙ bears_to (as_meant by) (λ (t : ClosedType). t) upper of home nothing told)
          (ap (λ m. bears (by.of of) home nothing m) (told_ran borrow)
          ∙ bears_to (as_ran by) by.of lower of home nothing told)

  write_byte_alike : Finds by upper lower w → (a b : Both by)
      → Comes by upper lower (write_byte (above by upper lower w) (meant by a) (meant by b))
      (write_byte (under by upper lower w) (ran by a) (ran by b))
  write_byte_alike finds a b =
      use_alike by upper lower a w _ _ finds (λ borrow place held.
      given_same by upper lower (terminal_in held) _ _ _ _ (terminal_in_to (as_meant by) held)
      (terminal_in_to (as_ran
      by) held) (λ id.
      given_same by upper lower (natural_in (number_of Nat8 b)) _ _ _ _
      (ap (λ o. natural_in o) (number_of_to (as_meant
      by) Nat8 b)) (ap (λ o. natural_in o) (number_of_to (as_ran by) Nat8 b)) (λ byte.
      comes_so by upper lower (writes (byte ∷ []) (tells (used borrow) w)) _ _
      (ap (λ m. writes (byte ∷ []) m) (told_meant borrow)) (ap (λ m. writes (byte ∷ []) m) (told_ran borrow)))))

  read_byte_alike : Finds by upper lower w → (a : Both by)
      → Comes by upper lower (read_byte (above by upper lower w) (meant by a)) (read_byte (under by upper lower w)
      (ran by a))
  read_byte_alike finds a =
      use_alike by upper lower a w _ _ finds (λ borrow place held.
      given_same by upper lower (terminal_in held) _ _ _ _ (terminal_in_to (as_meant by) held)
      (terminal_in_to (as_ran
      by) held) (λ id. comes_so by upper lower waits _ _ refl refl))

  -- what it gives when the next byte has come, or none was left
  heard_alike : Finds by upper lower w → (byte : Option ℕ) (a : Both by)
      → Comes by upper lower (byte_read byte (above by upper lower w) (meant by a))
      (byte_read byte (under by upper lower w) (ran by a))
  heard_alike finds byte a =
      use_alike by upper lower a w _ _ finds (λ borrow place held.
      given_same by upper lower (terminal_in held) _ _ _ _ (terminal_in_to (as_meant by) held)
      (terminal_in_to (as_ran
      by) held) (λ id.
      comes_given by upper lower (optional (byte_value byte)) (tells (used borrow) w) _ _ _ _
      (byte_to (as_meant by)
      byte) (byte_to (as_ran by) byte) (told_meant borrow) (told_ran borrow)))

  pub heard_comes : Finds by upper lower w → (byte : Option ℕ) (args : List (Both by))
      → Comes by upper lower (of_one (byte_read byte (above by upper lower w)) (all_meant by args))
      (of_one (byte_read byte (under by upper lower w)) (all_ran by args))
  heard_comes finds byte [] = inl refl
  heard_comes finds byte (a ∷ []) = heard_alike finds byte a
  heard_comes finds byte (a ∷ b ∷ more) = inl refl

module _ (by : Coding) (upper : List Named) (lower : List Slotted) (w : effects.World (Word by) ClosedType)
    (finds : Finds by upper lower w) where
  -- ---- elements of buffers

  length_alike : (a : Both by)
      → Comes by upper lower (length_call (above by upper lower w) (meant by a))
      (length_call (under by upper lower w)
      (ran by a))
  length_alike a =
      buffer_alike by upper lower a w (λ id values told. gives (number Index (pos (length values))) told)
      (λ id values told. gives (number Index (pos (length values))) told) finds (λ id values told.
      comes_given by upper lower (number Index (pos (length values))) told _ _ _ _ (many (as_meant by) values)
      (many
      (as_ran by) values) refl refl)
    where
      many : {S : Type 0} (f : Change (Word by) S) (values : List (Both by))
          → number Index (pos (length (map (value_to f) values)))
          ≡ value_to f (number Index (pos (length values)))
      many f values = ap (λ n. number Index (pos n)) (length-map values (value_to f))

  insert_alike : (a new : Both by)
      → Comes by upper lower (insert_back (above by upper lower w) (meant by a) (meant by new))
      (insert_back (under by upper lower w) (ran by a) (ran by new))
  insert_alike a new =
      buffer_alike by upper lower a w
      (λ id values told. gives unit (with_elements id (values ++ meant by new ∷ []) told))
      (λ id values told. gives unit (with_elements id (values ++ ran by new ∷ []) told)) finds (λ id values told.
      changed_alike by upper lower told id unit (values ++ new ∷ []) _ _
      (sym (map-append (meant by) values (new ∷ [])))
      (sym (map-append (ran by) values (new ∷ []))))

  remove_alike : (a : Both by)
      → Comes by upper lower (remove_back (above by upper lower w) (meant by a))
      (remove_back (under by upper lower w)
      (ran by a))
  remove_alike a =
      buffer_alike by upper lower a w
      (λ id values told. last_taken id values (slice_get values (length values - 1)) told)
      (λ id values told. last_taken id values (slice_get values (length values - 1)) told) finds
      (λ id values told.
      subst₂ (λ x y. Comes by upper lower (last_taken id (all_meant by values) x (above by upper lower told))
      (last_taken id (all_ran by values) y (under by upper lower told)))
      (sym (last_to (as_meant by) values)) (sym (last_to (as_ran by) values))
      (taken_alike by upper lower told id values (slice_get values (length values - 1))))

  nth_alike : (a i : Both by)
      → Comes by upper lower (nth_call (above by upper lower w) (meant by a) (meant by i))
      (nth_call (under by upper lower w) (ran by a) (ran by i))
  nth_alike a i =
      given_same by upper lower (index_in i) _ _ _ _ (index_to (as_meant by) i) (index_to (as_ran by) i) (λ index.
      buffer_alike by upper lower a w (λ id values told. element_copied (slice_get values index) told)
      (λ id values told. element_copied (slice_get values index) told) finds (λ id values told.
      subst₂ (λ x y. Comes by upper lower (element_copied x (above by upper lower told))
      (element_copied y (under by
      upper lower told)))
      (sym (slice_get-map (meant by) values index)) (sym (slice_get-map (ran by) values index))
      (copied_alike by upper lower told (slice_get values index))))

  replace_alike : (a i new : Both by)
      → Comes by upper lower (replace_nth (above by upper lower w) (meant by a) (meant by i) (meant by new))
      (replace_nth (under by upper lower w) (ran by a) (ran by i) (ran by new))
  replace_alike a i new =
      given_same by upper lower (index_in i) _ _ _ _ (index_to (as_meant by) i) (index_to (as_ran by) i) (λ index.
      buffer_alike by upper lower a w
      (λ id values told. element_replaced id values index (meant by new) (slice_get values index) told)
      (λ id values told. element_replaced id values index (ran by new) (slice_get values index) told) finds
      (λ id values told.
      subst₂ (λ x y. Comes by upper lower
      (element_replaced id (all_meant by values) index (meant by new) x (above by
      upper lower told)) (element_replaced id (all_ran by values) index (ran by new) y
      (under by upper lower told)))
      (sym (slice_get-map (meant by) values index)) (sym (slice_get-map (ran by) values index))
      (replaced_alike by upper lower told id values index new (slice_get values index))))

  -- ---- each of them

  pub shipped_fits : (call : ShippedCall) (born : Option ClosedType) (args : List (Both by))
      → keeps_frames call ≡ true
      → Fits by upper lower (arity call) args
      (shipped (λ text. text) call born (above by upper lower w) (all_meant by args))
      (shipped (text_bytes by.code) call (option_map by.of born) (under by upper lower w) (all_ran by args))
  unfolding shipped
  shipped_fits prim.PrintText born args keeps =
      untyped_fits by upper lower born 1 args _ _
      (one_fits by upper lower args _ _ (λ a. print_text_alike by upper lower w false a))
  shipped_fits prim.PrintInt born args keeps =
      untyped_fits by upper lower born 1 args _ _
      (one_fits by upper lower args _ _ (λ a. print_number_alike by upper lower w false a))
  shipped_fits prim.PrintBool born args keeps =
      untyped_fits by upper lower born 1 args _ _
      (one_fits by upper lower args _ _ (λ a. print_truth_alike by upper lower w false a))
  shipped_fits prim.PrintLnText born args keeps =
      untyped_fits by upper lower born 1 args _ _
      (one_fits by upper lower args _ _ (λ a. print_text_alike by upper lower w true a))
  shipped_fits prim.PrintLnInt born args keeps =
      untyped_fits by upper lower born 1 args _ _
      (one_fits by upper lower args _ _ (λ a. print_number_alike by upper lower w true a))
  shipped_fits prim.PrintLnBool born args keeps =
      untyped_fits by upper lower born 1 args _ _
      (one_fits by upper lower args _ _ (λ a. print_truth_alike by upper lower w true a))
  shipped_fits (prim.Wrap op kind) born args keeps = inl refl
  shipped_fits (prim.Convert kind) born args keeps = inl refl
  shipped_fits prim.SurrenderRoot born args keeps =
      untyped_fits by upper lower born 1 args _ _
      (one_fits by upper lower args _ _ (λ a. surrender_alike by upper lower w a))
  shipped_fits prim.Abort born args keeps =
      untyped_fits by upper lower born 1 args _ _
      (one_fits by upper lower args _ _ (λ a. abort_alike by upper lower w a))
  shipped_fits prim.SpanLength born args keeps =
      untyped_fits by upper lower born 1 args _ _
      (one_fits by upper lower args _ _ (λ a. span_alike by upper lower w a))
  shipped_fits prim.Swap born args keeps = absurd (true≢false (sym keeps))
  shipped_fits prim.MakeBox born args keeps =
      one_fits by upper lower args _ _ (λ a. make_box_alike by upper lower w born a)
  shipped_fits prim.Unbox born args keeps =
      untyped_fits by upper lower born 1 args _ _
      (one_fits by upper lower args _ _ (λ a. unbox_alike by upper lower w a))
  shipped_fits prim.BoxGet born args keeps =
      untyped_fits by upper lower born 1 args _ _
      (one_fits by upper lower args _ _ (λ a. box_get_alike by upper lower w finds a))
  shipped_fits prim.BoxGetMut born args keeps =
      untyped_fits by upper lower born 1 args _ _
      (one_fits by upper lower args _ _ (λ a. box_get_alike by upper lower w finds a))
  shipped_fits prim.MakeEmpty born args keeps =
      none_fits by upper lower args _ _ (make_empty_alike by upper lower w born)
  shipped_fits prim.DestroyEmpty born args keeps =
      untyped_fits by upper lower born 1 args _ _
      (one_fits by upper lower args _ _ (λ a. destroy_alike by upper lower w a))
  shipped_fits prim.Length born args keeps =
      untyped_fits by upper lower born 1 args _ _ (one_fits by upper lower args _ _ (λ a. length_alike a))
  shipped_fits prim.InsertBack born args keeps =
      untyped_fits by upper lower born 2 args _ _ (two_fit by upper lower args _ _ (λ a b. insert_alike a b))
  shipped_fits prim.RemoveBack born args keeps =
      untyped_fits by upper lower born 1 args _ _ (one_fits by upper lower args _ _ (λ a. remove_alike a))
  shipped_fits prim.Nth born args keeps =
      untyped_fits by upper lower born 2 args _ _ (two_fit by upper lower args _ _ (λ a b. nth_alike a b))
  shipped_fits prim.ReplaceNth born args keeps =
      untyped_fits by upper lower born 3 args _ _
      (three_fit by upper lower args _ _ (λ a b d. replace_alike a b d))
  shipped_fits prim.AcquireTerminal born args keeps =
      one_fits by upper lower args _ _ (λ a. acquire_alike by upper lower w finds born a)
  shipped_fits prim.ReadByte born args keeps =
      untyped_fits by upper lower born 1 args _ _
      (one_fits by upper lower args _ _ (λ a. read_byte_alike by upper lower w finds a))
  shipped_fits prim.WriteByte born args keeps =
      untyped_fits by upper lower born 2 args _ _
      (two_fit by upper lower args _ _ (λ a b. write_byte_alike by upper lower w finds a b))
  shipped_fits prim.ReleaseTerminal born args keeps =
      untyped_fits by upper lower born 1 args _ _
      (one_fits by upper lower args _ _ (λ a. release_alike by upper lower w a))
