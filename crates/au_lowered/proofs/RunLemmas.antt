-- A run of the code of a program, from its beginning.
use Rattle.std.proofs.Common.{◌≡◌, ℕ, suc, ◌+◌, ◌-◌, ◌*◌, ◌<◌, ◌≤◌, true, false, not, cond, ◌==◌, ◌&&◌}
use Rattle.std.proofs.Common.{if◌then◌else◌, List, [], ◌∷◌, ◌++◌, length, map, replicate, Option, Some, None}
use Rattle.std.proofs.Common.{refl, sym, ap, ap₂, subst, ◌∙◌, arith, slice_get, nat_lt, lt-ltb, eq-eqb, codes}
use Rattle.std.proofs.Common.{le-leb}
use Rattle.std.specs.List.{position_or_len}
use Rattle.au_type_texts.specs.Same.{same}
use Rattle.au_type_texts.specs.Types.{ClosedType}
use Rattle.au_type_texts.proofs.SameLemmas.{same_self}
use Rattle.au_effects.specs.Answers as answer
use Rattle.au_effects.specs.Values as values
use Rattle.au_effects.specs.Worlds as effects
use Rattle.au_effects.specs.Worlds.{nothing, bears}
use Rattle.au_low.specs.declared.code.LowType.{LowType}
use Rattle.au_low.specs.declared.endings.Ending.TheVariants.{Abort}
use Rattle.au_low.specs.Machines.{Low, new_slots}
use Rattle.au_low.specs.Runs as runs
use Rattle.au_low.specs.Runs.{abort_kind, exec, low_run, run_from, entry_begins, first_machine, root_slots}
use Rattle.au_lowered.specs.Agreeing.{event_numbered, fault_numbered, ending_numbered}
use Rattle.au_lowered.specs.Programs.{slots_of, texts_in, types_in, type_number, lowered, takes_root, bodies}
use Rattle.au_lowered.specs.Programs.{types_named, function_code}
use Rattle.au_lowered.specs.Programs as programs
use Rattle.au_meaning.specs.Meanings.{call_at, seen, first_world, root_born, begun, mean}
use Rattle.au_meaning.specs.Ticks.{Action, follows}
use Rattle.au_meaning.specs.Views.{Field, Function}
use Rattle.au_meaning.specs.Worlds as source
use Rattle.au_meaning.specs.Worlds.{Value, Outcome, exit, abort, running, stuck}
use Rattle.au_graphs.specs.Reached.{adds}
use Rattle.au_graphs.proofs.HasLemmas.{adds_more}
use Rattle.au_lowered.specs.Maps.{deed_to, fault_to}
use Rattle.au_lowered.specs.Sides.{Both, Common, all_meant, Slots}
use Rattle.au_lowered.specs.Frames.{spot}
use Rattle.au_lowered.specs.Runs.{run_at}
use Rattle.au_lowered.specs.FollowPrograms.{coding, EntryTakes, GoodProgram}
use Rattle.au_lowered.specs.FollowLaws.{Follows}
use Rattle.au_lowered.proofs.PlacedLemmas.{has_program}
use Rattle.au_lowered.proofs.RoomLemmas.{block_least}
use Rattle.au_lowered.proofs.TopLemmas.{entry_frame, first_common, ending_of, Shows, Claims, enters_if}

-- ---- as the code tells it

fault_same : (texts : List (List ℕ)) (why : source.Fault) → fault_to (programs.text_number texts) why
    ≡ fault_numbered texts why
fault_same texts answer.arithmetic = refl
fault_same texts (answer.called t) = refl
fault_same texts answer.not_empty = refl
fault_same texts answer.empty = refl
fault_same texts answer.out_of_range = refl

deed_same : (types : List ClosedType) (deed : source.Event) → deed_to (type_number types) deed
    ≡ event_numbered types deed
deed_same types (effects.born id of home) = refl
deed_same types (effects.consumed id) = refl
deed_same types (effects.opened borrow) = refl
deed_same types (effects.used borrow) = refl
deed_same types (effects.closed borrow) = refl

deeds_same : (types : List ClosedType) (deeds : List source.Event) → map (deed_to (type_number types)) deeds
    ≡ map (event_numbered types) deeds
deeds_same types [] = refl
deeds_same types (deed ∷ rest) = ap₂ (λ d ds. d ∷ ds) (deed_same types deed) (deeds_same types rest)

module _ {T C : Type 0} (told_of : ClosedType → LowType) (functions : List (Function ℕ T C)) (slot : ℕ → ℕ)
  where
    ending_same : (end : source.Ending) → ending_of (coding told_of functions slot) end
        ≡ ending_numbered (texts_in functions) end
    ending_same (exit success) = refl
    ending_same (abort why) = ap (λ f. Abort (abort_kind f)) (fault_same (texts_in functions) why)
    ending_same running = refl
    ending_same stuck = refl

    -- what a run shows that begins at a place
    shown_follows : (input : List ℕ) (s : _) (meant : Outcome)
        → ((limit : ℕ) → low_run true (lowered told_of functions) input limit
        ≡ exec (lowered told_of functions) limit (run_at s 0))
        → Shows (coding told_of functions slot) s meant → Follows told_of functions input meant
    shown_follows input s meant is shows =
        let now = is shows.steps ∙ shows.here in
        record {
          steps = shows.steps;
          made = ap (λ (o : runs.Outcome). o.made) now;
          agrees = record {
            ending = ap (λ (o : runs.Outcome). o.ending) now ∙ ending_same meant.ending;
            output = ap (λ (o : runs.Outcome). o.output) now;
            left = ap (λ (o : runs.Outcome). o.left) now;
            events = ap (λ (o : runs.Outcome). o.events) now
                ∙ deeds_same (types_in functions) meant.world.store.deeds;
          };
          in_step = record {
            least = le-leb meant.made _ (subst (λ k. meant.made ≤ k) (sym (ap (λ (o : runs.Outcome). o.made)
                now)) shows.least);
            most = le-leb _ (8 * meant.made) (subst (λ k. k ≤ 8 * meant.made) (sym (ap (λ (o : runs.Outcome).
                o.made) now)) shows.most);
          };
          stays = λ over more. is (shows.steps + more) ∙ shows.stays over more ∙ sym (is shows.steps);
        }

-- the slots of the entry
abbrev pub entry_slots : List (Option Low) → Slots
entry_slots own = record { below = []; own = own; lent = [] }

module _ {T C : Type 0} (told_of : ClosedType → LowType) (fn : Function ℕ T C) (rest : List (Function ℕ T
    C)) (good : GoodProgram told_of (fn ∷ rest)) where
  -- an entry without parameters
  pub begins_none : fn.parameters ≡ [] → (input : List ℕ) (limit : ℕ)
      → low_run true (lowered told_of (fn ∷ rest)) input limit
      ≡ exec (lowered told_of (fn ∷ rest)) limit (run_at (spot (coding told_of (fn ∷ rest) good.slot) entry_frame 0 []
      (entry_slots (new_slots (slots_of fn) [])) (first_common (coding told_of (fn ∷ rest) good.slot) input)) 0)
  begins_none none input limit =
      let code = lowered told_of (fn ∷ rest) in
      let low_fn = function_code (texts_in (fn ∷ rest)) (types_in (fn ∷ rest)) fn in
      let root : takes_root (fn ∷ rest) ≡ false = ap (λ params. nat_lt 0 (length (map (λ (p : Field). p.of)
      params))) none in
      let count : (length fn.parameters == 0) ≡ true = eq-eqb (length fn.parameters) 0 (ap (λ params. length
      params) none) in
      let slots : slots_of fn ≡ slots_of fn - 0 = omega arith in
      ap (λ b. run_from code (entry_begins true b (length code.types) low_fn) input limit) root
      ∙ ap (λ b. run_from code (if b then Some (first_machine (runs.first_world true (replicate low_fn.slots
      None))) else None) input limit) count
      ∙ ap (λ n. run_from code (Some (first_machine (runs.first_world true (replicate n None)))) input
      limit) slots

  -- an entry with the root
  root_first : (p : Field) → fn.parameters ≡ p ∷ [] → (r : List ClosedType) × (types_in (fn ∷ rest)
      ≡ p.of ∷ r)
  root_first p one =
      let all = types_named (bodies (fn ∷ rest)) in
      let more = adds_more same (p.of ∷ []) all in
      (more.0, ap (λ params. adds same [] (map (λ (q : Field). q.of) params ++ all)) one ∙ more.1)

  root_number : (p : Field) → fn.parameters ≡ p ∷ [] → type_number (types_in (fn ∷ rest)) p.of ≡ 0
  root_number p one =
      let front = root_first p one in
      ap (λ types. type_number types p.of) front.1
      ∙ ap (λ b. cond (not b) (1 + position_or_len (λ t. same t p.of) front.0) 0) (same_self p.of)

  abbrev pub root_common : (p : Field) (input : List ℕ) → Common (coding told_of (fn ∷ rest) good.slot)
  root_common p input =
      let c = first_common (coding told_of (fn ∷ rest) good.slot) input in
      record c { store = bears p.of (codes "Austral.Pervasive") nothing c.store }

  pub begins_root : (p : Field) → fn.parameters ≡ p ∷ [] → (input : List ℕ) (limit : ℕ)
      → low_run true (lowered told_of (fn ∷ rest)) input limit
      ≡ exec (lowered told_of (fn ∷ rest)) limit (run_at (spot (coding told_of (fn ∷ rest) good.slot) entry_frame 0 []
      (entry_slots (new_slots (slots_of fn) (values.root 0 ∷ []))) (root_common p input)) 0)
  unfolding exec
  begins_root p one input limit =
      let code = lowered told_of (fn ∷ rest) in
      let low_fn = function_code (texts_in (fn ∷ rest)) (types_in (fn ∷ rest)) fn in
      let home = codes "Austral.Pervasive" in
      let root : takes_root (fn ∷ rest) ≡ true = ap (λ params. nat_lt 0 (length (map (λ (q : Field). q.of)
      params))) one in
      let params : length fn.parameters ≡ 1 = ap (λ params. length params) one in
      let count : (length fn.parameters == 1) ≡ true = eq-eqb (length fn.parameters) 1 params in
      let least = block_least fn.view fn.body (length fn.parameters) in
      let wide : 0 < slots_of fn = omega (arith, least, params) in
      let some_slot : nat_lt 0 (slots_of fn) ≡ true = lt-ltb 0 (slots_of fn) wide in
      let front = root_first p one in
      let some_type : nat_lt 0 (length code.types) ≡ true = ap (λ types. nat_lt 0 (length (map told_of
      types))) front.1 ∙ lt-ltb 0 (length (map told_of (p.of ∷ front.0))) (omega arith) in
      let machine_of = λ (slots : List (Option Low)) (of : ℕ). first_machine (bears of home nothing
      (runs.first_world true slots)) in
      let slots : root_slots (slots_of fn) ≡ new_slots (slots_of fn) (values.root 0 ∷ []) =
      let more : slots_of fn ≡ suc (slots_of fn - 1) = omega (arith, wide) in
      ap (λ n. root_slots n) more in
      ap (λ b. run_from code (entry_begins true b (length code.types) low_fn) input limit) root
      ∙ ap (λ b. run_from code (if b && (nat_lt 0 low_fn.slots && nat_lt 0 (length code.types)) then Some
      (machine_of (root_slots low_fn.slots) 0) else None) input limit) count
      ∙ ap₂ (λ b d. run_from code (if b && d then Some (machine_of (root_slots low_fn.slots) 0) else None)
      input limit) some_slot some_type
      ∙ ap₂ (λ all of. run_from code (Some (machine_of all of)) input limit) slots (sym (root_number p one))

  -- a run of the meaning from the entry
  entry_follows : (input : List ℕ) (ticks : ℕ) (params : List Field) → fn.parameters ≡ params
      → ((mean (λ i. slice_get (fn ∷ rest) i) 0 input ticks).ending ≡ stuck → ⊥)
      → Follows told_of (fn ∷ rest) input (mean (λ i. slice_get (fn ∷ rest) i) 0 input ticks)
  unfolding call_at follows
  entry_follows input ticks [] is claim =
      let functions = λ (i : ℕ). slice_get (fn ∷ rest) i in
      let by = coding told_of (fn ∷ rest) good.slot in
      let s = spot by entry_frame 0 [] (entry_slots (new_slots (slots_of fn) [])) (first_common by input) in
      let call : List Value → Action Value = call_at functions (suc ticks) 0 in
      let mean_is : mean functions 0 input ticks ≡ seen ticks (call [] (first_world input) ticks) = ap (λ
      params. seen ticks (begun params call (first_world input) ticks)) is in
      let shows = enters_if by functions (has_program told_of (fn ∷ rest) good) fn [] (first_common by
      input) ticks refl (length (all_meant by []) == length fn.parameters) refl in
      shown_follows told_of (fn ∷ rest) good.slot input s (mean functions 0 input ticks) (begins_none is input)
      (subst (λ o. Claims by s o) (sym mean_is) shows claim)
  entry_follows input ticks (p ∷ []) is claim =
      let functions = λ (i : ℕ). slice_get (fn ∷ rest) i in
      let by = coding told_of (fn ∷ rest) good.slot in
      let root : Both by = values.root 0 in
      let s = spot by entry_frame 0 [] (entry_slots (new_slots (slots_of fn) (values.root 0 ∷ []))) (root_common p input)
      in
      let call : List Value → Action Value = call_at functions (suc ticks) 0 in
      let mean_is : mean functions 0 input ticks ≡ seen ticks (call (values.root 0 ∷ []) (root_born p.of
      (first_world input)) ticks) = ap (λ params. seen ticks (begun params call (first_world input)
      ticks)) is in
      let shows = enters_if by functions (has_program told_of (fn ∷ rest) good) fn (root ∷ []) (root_common
      p input) ticks refl (length (all_meant by (root ∷ [])) == length fn.parameters) refl in
      shown_follows told_of (fn ∷ rest) good.slot input s (mean functions 0 input ticks) (begins_root p is input)
      (subst (λ o. Claims by s o) (sym mean_is) shows claim)
  entry_follows input ticks (p ∷ q ∷ more) is claim = absurd (subst (λ params. EntryTakes params) is
      (good.entry fn refl))

pub runs_follow : {T C : Type 0} (told_of : ClosedType → LowType) (functions : List (Function ℕ T C))
    → GoodProgram told_of functions
    → (input : List ℕ) (ticks : ℕ)
    → ((mean (λ i. slice_get functions i) 0 input ticks).ending ≡ stuck → ⊥)
    → Follows told_of functions input (mean (λ i. slice_get functions i) 0 input ticks)
unfolding call_at
runs_follow told_of [] good input ticks claim = absurd (claim refl)
runs_follow told_of (fn ∷ rest) good input ticks claim = entry_follows told_of fn rest good input ticks
    fn.parameters refl claim
