-- The text of an abort that was called is one that the code has under its number, and so are the types of
-- births: where one isn't, the meaning would be followed by the same run with another number for it.
use Rattle.std.proofs.Common.{◌≡◌, ℕ, suc, ◌+◌, ◌<◌, true, List, [], ◌∷◌, ◌++◌, Bool, false, cond, not, length}
use Rattle.std.proofs.Common.{Option, Some, ◌==◌, refl, sym, ap, ap₂, subst, ◌∙◌, arith, slice_get, nat_lt, codes}
use Rattle.std.proofs.Common.{inl, inr, map, lt-ltb, ltb-true, ltb-false}
use Rattle.std.specs.Option.{option_map}
use Rattle.std.specs.Str.{bytes_eq}
use Rattle.std.proofs.lemmas.List.{length-map}
use Rattle.std.proofs.lemmas.Option.{slice_get-map, slice_get_cases, slice_get_within}
use Rattle.std.proofs.lemmas.Slice.Eq.{bytes_eq-Decides}
use Rattle.au_graphs.specs.Reached.{adds}
use Rattle.au_graphs.proofs.HasLemmas.{adds_more}
use Rattle.au_type_texts.specs.Same.{same}
use Rattle.au_type_texts.specs.Types.{ClosedType}
use Rattle.au_type_texts.proofs.SameLemmas.{same_is, same_self}
use Rattle.au_effects.specs.Answers as answer
use Rattle.au_effects.specs.Values as values
use Rattle.au_effects.specs.Worlds.{Deed, bears, nothing, born, consumed, opened, used, closed}
use Rattle.au_low.specs.Instructions.{text_bytes}
use Rattle.au_low.specs.Machines.{new_slots}
use Rattle.au_low.specs.Runs as runs
use Rattle.au_low.specs.Runs.{Run, exec, first_machine, low_run}
use Rattle.au_low.specs.declared.code.Code.{Code}
use Rattle.au_low.specs.declared.code.LowType.{LowType}
use Rattle.au_low.specs.declared.endings.Ending.TheVariants.{Abort}
use Rattle.au_low.specs.declared.instructions.Instr.TheVariants as instr
use Rattle.au_lowered.specs.Agreeing.{ending_numbered, event_numbered}
use Rattle.au_lowered.specs.Drafts.{Draft, plain, pushes_text, makes_case, ships_birth}
use Rattle.au_lowered.specs.Maps.{deed_to}
use Rattle.au_lowered.specs.Programs.{bodies, lowered, slots_of, text_number, texts_in, type_number, types_in}
use Rattle.au_lowered.specs.Programs.{types_named}
use Rattle.au_meaning.specs.Laws.{is_over}
use Rattle.au_meaning.specs.Meanings.{begun, call_at, first_world, mean, root_born, seen}
use Rattle.au_meaning.specs.Ticks.{Action, follows}
use Rattle.au_meaning.specs.Views.{Field, Function, View}
use Rattle.au_meaning.specs.Worlds.{Event, Outcome, Value, abort, stuck}
use Rattle.au_shipped.specs.declared.prims.AbortKind.TheVariants as kind
use Rattle.au_lowered.specs.Premises.{GoodView, Placed, numbered}
use Rattle.au_lowered.specs.FollowPrograms.{EntryTakes, GoodProgram, HasFunction, HasProgram, coding}
use Rattle.au_lowered.proofs.PlacedLemmas.{has_program}
use Rattle.au_lowered.proofs.RunLemmas.{begins_none, begins_root, entry_slots, runs_follow}
use Rattle.au_lowered.proofs.TopLemmas.{Claims, Shows, ending_of, enters_if, entry_frame, first_common}
use Rattle.au_lowered.specs.Runs.{run_at}
use Rattle.au_lowered.specs.Sides.{Both, Coding, Common, Spot, all_meant}
use Rattle.au_lowered.specs.Frames.{spot}
use Rattle.au_running.specs.Lines.{text_if, type_text}
use Rattle.au_running.proofs.AlikeLemmas.{alike_at}
use Rattle.au_running.proofs.GoodLemmas.{found_at}
use Rattle.au_syntax.specs.Plain.{Bytes}

-- what is stuck doesn't abort
not_called : (text : Bytes) → stuck ≡ abort (answer.called text) → ⊥
not_called text e = grind arith

module _ {T C : Type 0} (told : ClosedType → LowType) (fn : Function ℕ T C) (rest : List (Function ℕ T C))
    (good : GoodProgram told (fn ∷ rest)) where
  abbrev code : Code
  code = lowered told (fn ∷ rest)

  abbrev first_number : Bytes → ℕ
  first_number = text_number (texts_in (fn ∷ rest))

  -- whether the code has a text under its number
  abbrev is_named : Bytes → Bool
  is_named text = bytes_eq (text_bytes code (first_number text)) text

  -- a text that it hasn't gets another number
  abbrev other_number : Bytes → ℕ
  other_number text = cond (is_named text) (first_number text) (suc (first_number text))

  abbrev pub first_type : ClosedType → ℕ
  first_type of = type_number (types_in (fn ∷ rest)) of

  -- whether the code has a type under its number
  abbrev pub is_listed : ClosedType → Bool
  is_listed of = nat_lt (first_type of) (length code.types)

  -- a type that it hasn't gets another number
  abbrev pub other_type : ClosedType → ℕ
  other_type of = cond (is_listed of) (first_type of) (suc (first_type of))

  -- the code with these numbers
  abbrev other : Coding
  other = record {
    code = code;
    text = other_number;
    of = other_type;
    slot = good.slot;
  }

  number_same : (text : Bytes) → text_bytes code (first_number text) ≡ text
      → other_number text ≡ first_number text
  number_same text known =
      ap (λ b. cond b (first_number text) (suc (first_number text)))
      ((bytes_eq-Decides (text_bytes code (first_number text)) text).1 known)

  type_same : (of : ClosedType) → is_listed of ≡ true → other_type of ≡ first_type of
  type_same of listed = ap (λ b. cond b (first_type of) (suc (first_type of))) listed

  -- a type that the code has under its number, and one that it has under the other number
  type_there : (of : ClosedType) (type : LowType) → slice_get code.types (first_type of) ≡ Some type
      → is_listed of ≡ true
  type_there of type there =
      lt-ltb (first_type of) (length code.types) (slice_get_within code.types (first_type of) type there)

  other_there : (of : ClosedType) (type : LowType) → slice_get code.types (other_type of) ≡ Some type
      → is_listed of ≡ true
  other_there of type there =
      by (is_listed of) refl (slice_get_within code.types (other_type of) type there)
    where
      by : (b : Bool) → is_listed of ≡ b → other_type of < length code.types → is_listed of ≡ true
      by true is lt = is
      by false is lt =
          let least = ltb-false (first_type of) (length code.types) is in
          let next : other_type of ≡ suc (first_type of) =
          ap (λ b. cond b (first_type of) (suc (first_type of))) is in
          absurd (omega (arith, least, next, lt))

  -- ---- the code has its functions

  placed_too : (i : ℕ) (get : ℕ → Option Draft) → Placed (coding told (fn ∷ rest) good.slot) i get → Placed other i get
  placed_too i get p = record {
    has = λ place draft h. p.has place draft h ∙ ap (λ x. Some x) (numbered_same place draft h);
    labels = λ place x h. p.labels place x h;
    texts = λ place text h.
        subst (λ n. (text_bytes code n ≡ text) × (nat_lt n (length code.texts) ≡ true))
        (sym (number_same text (p.texts place text h).0)) (p.texts place text h);
    types = λ place of tag order home h.
        let one = p.types place of tag order home h in (
          one.0,
          ap (λ n. slice_get code.types n) (type_same of (type_there of one.0 one.1)) ∙ one.1,
        );
    births = λ place call of order h.
        let listed = p.births place call of order h in
        ap (λ n. nat_lt n (length code.types)) (type_same of listed) ∙ listed;
  }
    where
      numbered_same : (place : ℕ) (draft : Draft) → get place ≡ Some draft
          → numbered (coding told (fn ∷ rest) good.slot) draft ≡ numbered other draft
      numbered_same place (plain x) h = refl
      numbered_same place (pushes_text text) h =
          ap (λ n. instr.PushText n) (sym (number_same text (p.texts place text h).0))
      numbered_same place (makes_case of tag order home) h =
          let one = p.types place of tag order home h in
          ap (λ n. instr.Make n tag order home) (sym (type_same of (type_there of one.0 one.1)))
      numbered_same place (ships_birth call of order) h =
          ap (λ n. instr.Shipped call (Some n) order) (sym (type_same of (p.births place call of order h)))

  view_too : (see : View ℕ T C) → GoodView (coding told (fn ∷ rest) good.slot) see → GoodView other see
  view_too see v = record {
    constants = λ note name value e. v.constants note name value e;
    parameters = λ note c name one e. v.parameters note c name one e;
    linear = λ of type e.
        v.linear of type
        (sym (ap (λ n. slice_get code.types n) (type_same of (other_there of type e))) ∙ e);
  }

  has_too : HasProgram other (λ i. slice_get (fn ∷ rest) i)
  has_too i f e =
      let h : HasFunction (coding told (fn ∷ rest) good.slot) i f = has_program told (fn ∷ rest) good i f e in
      record {
        low_function = h.low_function;
        there = h.there;
        params = h.params;
        slots = h.slots;
        placed = placed_too i _ h.placed;
        view = view_too f.view h.view;
        whole = h.whole;
        homes = h.homes;
      }

  -- ---- a run with the other numbers

  -- in some number of steps a run comes to this end with these events, and stays as it is
  pub record EndsInSteps (input : List ℕ) (meant : Outcome) : Type 0 where
    pub steps : ℕ
    pub ends : (low_run true code input steps).ending ≡ ending_of other meant.ending
    pub events :
        (low_run true code input steps).events ≡ map (deed_to other_type) meant.world.store.deeds
    pub stays : is_over meant.ending ≡ true → (more : ℕ)
        → low_run true code input (steps + more) ≡ low_run true code input steps

  ends_so : (input : List ℕ) (s : Spot) (meant : Outcome)
      → ((limit : ℕ) → low_run true code input limit ≡ exec code limit (run_at s 0))
      → Shows other s meant → EndsInSteps input meant
  ends_so input s meant is shows = record {
    steps = shows.steps;
    ends = ap (λ (o : runs.Outcome). o.ending) (is shows.steps ∙ shows.here);
    events = ap (λ (o : runs.Outcome). o.events) (is shows.steps ∙ shows.here);
    stays = λ over more. is (shows.steps + more) ∙ shows.stays over more ∙ sym (is shows.steps);
  }

  -- a run that begins with the root, whose type has this number
  abbrev root_run : (p : Field) (input : List ℕ) (number : ℕ) → Run
  root_run p input number = record {
    machine = first_machine (bears number (codes "Austral.Pervasive") nothing
        (runs.first_world true (new_slots (slots_of fn) (values.root 0 ∷ []))));
    output = [];
    left = input;
    made = 0;
  }

  abbrev root_too : (p : Field) (input : List ℕ) → Common other
  root_too p input =
      let c = first_common other input in
      record c { store = bears p.of (codes "Austral.Pervasive") nothing c.store }

  -- the root's type is listed
  root_listed : (p : Field) → fn.parameters ≡ p ∷ [] → is_listed p.of ≡ true
  root_listed p one =
      let all = types_named (bodies (fn ∷ rest)) in
      let more = adds_more same (p.of ∷ []) all in
      let front : types_in (fn ∷ rest) ≡ p.of ∷ more.0 =
      ap (λ params. adds same [] (map (λ (q : Field). q.of) params ++ all)) one ∙ more.1 in
      ap (λ types. nat_lt (type_number types p.of) (length (map told types))) front
      ∙ ap (λ b. nat_lt (cond (not b) (1 + type_number more.0 p.of) 0) (length (map told (p.of ∷ more.0))))
      (same_self p.of)
      ∙ lt-ltb 0 (length (map told (p.of ∷ more.0))) (omega arith)

  -- so a run begins with its other number too
  begins_other : (p : Field) → fn.parameters ≡ p ∷ [] → (input : List ℕ) (limit : ℕ)
      → low_run true code input limit
      ≡ exec code limit (run_at (spot other entry_frame 0 []
      (entry_slots (new_slots (slots_of fn) (values.root 0 ∷ []))) (root_too p input)) 0)
  begins_other p is input limit =
      begins_root told fn rest good p is input limit
      ∙ ap (λ n. exec code limit (root_run p input n)) (sym (type_same p.of (root_listed p is)))

  entry_ends : (input : List ℕ) (ticks : ℕ) (params : List Field) → fn.parameters ≡ params
      → ((mean (λ i. slice_get (fn ∷ rest) i) 0 input ticks).ending ≡ stuck → ⊥)
      → EndsInSteps input (mean (λ i. slice_get (fn ∷ rest) i) 0 input ticks)
  unfolding call_at follows
  entry_ends input ticks [] is claim =
      let functions = λ (i : ℕ). slice_get (fn ∷ rest) i in
      let s = spot other entry_frame 0 [] (entry_slots (new_slots (slots_of fn) [])) (first_common other input) in
      let call : List Value → Action Value = call_at functions (suc ticks) 0 in
      let mean_is : mean functions 0 input ticks ≡ seen ticks (call [] (first_world input) ticks) = ap (λ
      params. seen ticks (begun params call (first_world input) ticks)) is in
      let shows = enters_if other functions has_too fn [] (first_common other input) ticks refl
      (length (all_meant other []) == length fn.parameters) refl in
      ends_so input s (mean functions 0 input ticks) (begins_none told fn rest good is input)
      (subst (λ o. Claims other s o) (sym mean_is) shows claim)
  entry_ends input ticks (p ∷ []) is claim =
      let functions = λ (i : ℕ). slice_get (fn ∷ rest) i in
      let root : Both other = values.root 0 in
      let s = spot other entry_frame 0 [] (entry_slots (new_slots (slots_of fn) (values.root 0 ∷ []))) (root_too p input) in
      let call : List Value → Action Value = call_at functions (suc ticks) 0 in
      let mean_is : mean functions 0 input ticks ≡ seen ticks (call (values.root 0 ∷ []) (root_born p.of
      (first_world input)) ticks) = ap (λ params. seen ticks (begun params call (first_world input)
      ticks)) is in
      let shows = enters_if other functions has_too fn (root ∷ []) (root_too p input) ticks refl
      (length (all_meant other (root ∷ [])) == length fn.parameters) refl in
      ends_so input s (mean functions 0 input ticks) (begins_other p is input)
      (subst (λ o. Claims other s o) (sym mean_is) shows claim)
  entry_ends input ticks (p ∷ q ∷ more) is claim =
      absurd (subst (λ params. EntryTakes params) is (good.entry fn refl))

  -- ---- the text of an abort

  one_number : (text : Bytes) → first_number text ≡ other_number text
      → text_bytes code (first_number text) ≡ text
  one_number text e = by (is_named text) refl e
    where
      by : (b : Bool) → is_named text ≡ b
          → first_number text ≡ cond b (first_number text) (suc (first_number text))
          → text_bytes code (first_number text) ≡ text
      by true is e = (bytes_eq-Decides (text_bytes code (first_number text)) text).0 is
      by false is e =
          let next : first_number text ≡ suc (first_number text) = e in absurd (omega (arith, next))

  called_named : (input : List ℕ) (ticks : ℕ) (text : Bytes)
      → (mean (λ i. slice_get (fn ∷ rest) i) 0 input ticks).ending ≡ abort (answer.called text)
      → text_bytes code (first_number text) ≡ text
  called_named input ticks text e =
      let functions = λ (i : ℕ). slice_get (fn ∷ rest) i in
      let over : is_over (mean functions 0 input ticks).ending ≡ true = ap is_over e in
      let claim : (mean functions 0 input ticks).ending ≡ stuck → ⊥ = λ k. not_called text (sym k ∙ e) in
      let one = runs_follow told (fn ∷ rest) good input ticks claim in
      let two = entry_ends input ticks fn.parameters refl claim in
      let turned : one.steps + two.steps ≡ two.steps + one.steps = omega arith in
      let met : low_run true code input one.steps ≡ low_run true code input two.steps =
      sym (one.stays over two.steps) ∙ ap (λ k. low_run true code input k) turned
      ∙ two.stays over one.steps in
      let ends : Abort (kind.Called (first_number text)) ≡ Abort (kind.Called (other_number text)) =
      sym (one.agrees.ending ∙ ap (λ end. ending_numbered (texts_in (fn ∷ rest)) end) e)
      ∙ ap (λ (o : runs.Outcome). o.ending) met
      ∙ two.ends ∙ ap (λ end. ending_of other end) e in
      one_number text (number_in ends)
    where
      number_in : {m n : ℕ} → Abort (kind.Called m) ≡ Abort (kind.Called n) → m ≡ n
      number_in e = cc

  -- ---- the types of births

  -- events with the numbers of their types are those with the other numbers
  events_same : (input : List ℕ) (ticks : ℕ)
      → ((mean (λ i. slice_get (fn ∷ rest) i) 0 input ticks).ending ≡ stuck → ⊥)
      → map (event_numbered (types_in (fn ∷ rest)))
      (mean (λ i. slice_get (fn ∷ rest) i) 0 input ticks).world.store.deeds
      ≡ map (deed_to other_type) (mean (λ i. slice_get (fn ∷ rest) i) 0 input ticks).world.store.deeds
  events_same input ticks claim =
      let deeds = (mean (λ i. slice_get (fn ∷ rest) i) 0 input ticks).world.store.deeds in
      let one = runs_follow told (fn ∷ rest) good input ticks claim in
      let two = entry_ends input ticks fn.parameters refl claim in
      let first : List (Deed ℕ) = (low_run true code input one.steps).events in
      let second : List (Deed ℕ) = (low_run true code input two.steps).events in
      let counted : length first ≡ length second =
      ap length one.agrees.events ∙ length-map deeds (event_numbered (types_in (fn ∷ rest)))
      ∙ sym (length-map deeds (deed_to other_type)) ∙ sym (ap length two.events) in
      sym one.agrees.events ∙ alike_at true code input one.steps two.steps counted ∙ two.events

  -- so each type of a birth is listed
  listed_by : (of : ClosedType) → first_type of ≡ other_type of → is_listed of ≡ true
  listed_by of e = by (is_listed of) refl e
    where
      by : (b : Bool) → is_listed of ≡ b → first_type of ≡ cond b (first_type of) (suc (first_type of))
          → is_listed of ≡ true
      by true is e = is
      by false is e =
          let next : first_type of ≡ suc (first_type of) = e in absurd (omega (arith, next))

  -- what the code says of a type that is listed
  listed_text : (of : ClosedType) → is_listed of ≡ true → type_text code (first_type of) ≡ (told of).text
  listed_text of listed =
      let types = types_in (fn ∷ rest) in
      let within = ltb-true (first_type of) (length code.types) listed in
      let many : length code.types ≡ length types = length-map types told in
      elim (slice_get_cases types (first_type of)).1 [
        | inl there ↦
            let is : there.0 ≡ of = same_is there.0 of (found_at types of there.0 there.2) in
            ap text_if (slice_get-map told types (first_type of) ∙ ap (option_map told) there.2)
            ∙ ap (λ t. (told t).text) is
        | inr none ↦ let past = none.0 in absurd (omega (arith, within, many, past))
      ]

  number_born : {id m n : ℕ} {home : Bytes} → born id m home ≡ born id n home → m ≡ n
  number_born e = cc

  words_of : (deed : Event) → event_numbered (types_in (fn ∷ rest)) deed ≡ deed_to other_type deed
      → deed_to (type_text code) (event_numbered (types_in (fn ∷ rest)) deed)
      ≡ deed_to (λ of. (told of).text) deed
  words_of (born id of home) e =
      let numbers : first_type of ≡ other_type of = number_born e in
      ap (λ text. born id text home) (listed_text of (listed_by of numbers))
  words_of (consumed id) e = refl
  words_of (opened borrow) e = refl
  words_of (used borrow) e = refl
  words_of (closed borrow) e = refl

  all_words : (deeds : List Event)
      → map (event_numbered (types_in (fn ∷ rest))) deeds ≡ map (deed_to other_type) deeds
      → map (deed_to (type_text code)) (map (event_numbered (types_in (fn ∷ rest))) deeds)
      ≡ map (deed_to (λ of. (told of).text)) deeds
  all_words [] e = refl
  all_words (deed ∷ more) e =
      let here : event_numbered (types_in (fn ∷ rest)) deed ≡ deed_to other_type deed = cc in
      let later : map (event_numbered (types_in (fn ∷ rest))) more ≡ map (deed_to other_type) more = cc in
      ap₂ (λ d ds. d ∷ ds) (words_of deed here) (all_words more later)

-- the text of an abort that was called is one that the code has
pub abort_named : {T C : Type 0} (told : ClosedType → LowType) (functions : List (Function ℕ T C))
    → GoodProgram told functions → (input : List ℕ) (ticks : ℕ) (text : Bytes)
    → (mean (λ i. slice_get functions i) 0 input ticks).ending ≡ abort (answer.called text)
    → text_bytes (lowered told functions) (text_number (texts_in functions) text) ≡ text
unfolding call_at
abort_named told [] good input ticks text e = absurd (not_called text e)
abort_named told (fn ∷ rest) good input ticks text e = called_named told fn rest good input ticks text e

-- the types of births are those that the code has under their numbers
pub births_named : {T C : Type 0} (told : ClosedType → LowType) (functions : List (Function ℕ T C))
    → GoodProgram told functions → (input : List ℕ) (ticks : ℕ)
    → ((mean (λ i. slice_get functions i) 0 input ticks).ending ≡ stuck → ⊥)
    → map (deed_to (type_text (lowered told functions))) (map (event_numbered (types_in functions))
    (mean (λ i. slice_get functions i) 0 input ticks).world.store.deeds)
    ≡ map (deed_to (λ of. (told of).text)) (mean (λ i. slice_get functions i) 0 input ticks).world.store.deeds
unfolding call_at
births_named told [] good input ticks claim = absurd (claim refl)
births_named told (fn ∷ rest) good input ticks claim =
    all_words told fn rest good (mean (λ i. slice_get (fn ∷ rest) i) 0 input ticks).world.store.deeds
    (events_same told fn rest good input ticks claim)
