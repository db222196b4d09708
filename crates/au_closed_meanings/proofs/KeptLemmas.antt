-- Closing keeps meaning: by induction on how deep calls go.
use Rattle.std.proofs.Common.{◌≡◌, Bool, true, ℕ, zero, suc, ◌≤◌, List, [], ◌∷◌, length, Option, Some, None}
use Rattle.std.proofs.Common.{refl, sym, ap, subst, ◌∙◌}
use Rattle.std.specs.Prelude.{slice_get, if◌then◌else◌}
use Rattle.std.specs.Option.{option_map}
use Rattle.std.proofs.Math.Nat.{le_refl}
use Rattle.std.proofs.lemmas.List.{length-map}
use Rattle.std.proofs.lemmas.Option.{slice_get-map, slice_get_past}
use Rattle.au_syntax.specs.Plain.{Bytes}
use Rattle.au_modules.specs.Programs.{ModuleParts}
use Rattle.au_judged_types.specs.Meanings.{written_params}
use Rattle.au_typing.specs.Trees.{NotedParts}
use Rattle.au_graphs.specs.Reached.{Has}
use Rattle.au_graphs.proofs.HasLemmas.{has_it}
use Rattle.au_closed_trees.specs.Calls.{calls_in_block}
use Rattle.au_closed_trees.specs.ClosedNotes.{Callee, ClosedNote, ClosedStatements}
use Rattle.au_closed_trees.specs.Renoted.{block_renoted}
use Rattle.au_closing.specs.Bodies.{BodyOf, body_of, constant_seen}
use Rattle.au_typing.specs.Notes.{Note}
use Rattle.au_type_texts.specs.Given.{closed_under}
use Rattle.au_type_texts.specs.Types.{ClosedType}
use Rattle.au_closed_trees.specs.Notes.{said_in_block}
use Rattle.au_closing.specs.Closes.{ClosedFunction, ClosesFunctions, body_closed, calls_in_body, change_of}
use Rattle.au_closing.specs.Closes.{instance_closed}
use Rattle.au_closing.specs.Instances.{Instance, instance_of, place_in, same_instance}
use Rattle.au_closing.specs.Leading.{call_leads, module_name}
use Rattle.au_closing.proofs.ClosesLemmas.{called_too, entry_first, instances_told, place_back}
use Rattle.au_meaning.specs.Meanings.{begun, call_at, enters, first_world, mean, parameters_of, seen}
use Rattle.au_meaning.specs.Ticks.{Action}
use Rattle.au_meaning.specs.Views.{Field, Function}
use Rattle.au_meaning.specs.Worlds.{Value}
use Rattle.au_closed_meanings.specs.Surroundings.{Surroundings, view_in}
use Rattle.au_closed_meanings.specs.Agreement.{AgreeOnMention, AgreeOnCall, Counts, FieldsCount, FoundCount}
use Rattle.au_closed_meanings.specs.Closed.{closed_functions, function_closed, names_at, parameters_seen}
use Rattle.au_closed_meanings.specs.Generic.{fields_in, function_under, generic_functions, names_of_instance}
use Rattle.au_closed_meanings.specs.Generic.{parameters_under, view_under}
use Rattle.au_closed_meanings.specs.Kept.{KeepsMeaning, NumberAlike, ProgramsSay, SaysWhatIs, TypesCount}
use Rattle.au_closed_meanings.proofs.CallLemmas.{call_agrees, closer, enters_same, mention_agrees, types_agree}
use Rattle.au_closed_meanings.proofs.EachLemmas.{AllKnown, Within, each_block}
use Rattle.au_closed_meanings.proofs.SaidLemmas.{block_same}

-- ---- what is listed is there

-- a function, and the body that it is made of
same_there : (o : Option ClosedFunction) (b : Option BodyOf) (close : BodyOf → ClosedFunction)
    → option_map Some o ≡ Some (option_map close b)
    → (body : BodyOf) × (b ≡ Some body) × (o ≡ Some (close body))
same_there None b close e = absurd cc
same_there (Some f) None close e = absurd cc
same_there (Some f) (Some body) close e = (body, refl, cc)

-- the first of a list has the number 0
first_there : (all : List Instance) (entry : Instance) → slice_get all 0 ≡ Some entry
    → Has same_instance all entry × (place_in entry all ≡ 0)
first_there [] entry e = absurd cc
first_there (k ∷ all) entry e =
    let here : k ≡ entry = cc in
    let itself = instances_told.itself entry in (
      subst (λ x. Has same_instance (x ∷ all) entry) (sym here)
          (has_it same_instance instances_told [] all entry),
      ap (λ x. place_in entry (x ∷ all)) here ∙ ap (λ b. if b then 0 else suc (place_in entry all)) itself,
    )

module _ (program : List ModuleParts) (noted : List NotedParts) (entry : Instance)
    (functions : List ClosedFunction) (closes : ClosesFunctions program noted entry functions) where
  abbrev all : List Instance
  all = closes.instances

  -- at the number of an instance stands its body's closed tree
  there : (one : Instance) → Has same_instance all one
      → (body : BodyOf) × (body_of program noted one.of ≡ Some body)
      × (slice_get functions (place_in one all) ≡ Some (body_closed program noted all one.given body))
  there one here =
      same_there (slice_get functions (place_in one all)) (body_of program noted one.of)
      (body_closed program noted all one.given)
      (sym (slice_get-map Some functions (place_in one all))
      ∙ ap (λ l. slice_get l (place_in one all)) closes.closed
      ∙ slice_get-map (instance_closed program noted all) all (place_in one all)
      ∙ ap (option_map (instance_closed program noted all)) (place_back all one here))

  -- behind the last instance there is no function
  none_behind : names_at functions (length all) ≡ None
  none_behind =
      let same : length functions ≡ length all =
      sym (length-map functions Some) ∙ ap length closes.closed
      ∙ length-map all (instance_closed program noted all) in
      ap (option_map _) (slice_get_past functions (length all)
      (subst (λ n. n ≤ length all) (sym same) (le_refl (length all))))

  -- the names of the parameters are the same
  names_there : (one : Instance) → Has same_instance all one
      → names_of_instance program noted one ≡ names_at functions (place_in one all)
  names_there one here =
      let is = there one here in
      ap (option_map _) is.1 ∙ sym (ap (option_map _) is.2)

  -- ---- calls and runs

  module _ (first : Instance → ℕ) (numbers : ℕ → ℕ) (alike : NumberAlike all first numbers)
      (round : Bytes → Surroundings) (known : ClosedType → Bool)
      (says : SaysWhatIs known program functions round) (counts : TypesCount known program functions) where
    -- the functions as they are run, generic and closed
    abbrev whole : Instance → Option (Function Instance Note (Unit {0}))
    whole = generic_functions program noted first

    abbrev made : ℕ → Option (Function ℕ ClosedNote (Callee ℕ))
    made = closed_functions round functions numbers

    -- what the calls of an instance's body lead to is listed
    calls_within : (one : Instance) → Has same_instance all one → (body : BodyOf)
        → body_of program noted one.of ≡ Some body
        → Within same_instance all
        (calls_in_block (λ note c name. instance_of
        (call_leads program body.place one.given note name)) body.block)
    calls_within one here body is =
        λ x h. called_too program noted entry all closes.lists one x here
        (subst (λ b. Has same_instance (calls_in_body program noted one.given b) x) (sym is) h)

    -- the types that are noted in a body count once they are closed
    notes_known : (one : Instance) (body : BodyOf)
        → slice_get functions (place_in one all) ≡ Some (body_closed program noted all one.given body)
        → AllKnown known (said_in_block (λ (note : Note). closed_under one.given note.of ∷ []) body.block)
    notes_known one body at =
        let params = written_params body.generics in
        subst (AllKnown known)
        (block_same (change_of program noted all body.place params one.given)
        (λ (note : Note). closed_under one.given note.of ∷ []) (λ (n : ClosedNote). n.of ∷ []) (λ note. refl)
        (λ note name. refl)
        body.block)
        (counts.notes (place_in one all) (body_closed program noted all one.given body) at)

    -- a body does the same as its closed tree, where the calls of both do
    body_same : (invoke : Instance → List Value → Action Value) (other : ℕ → List Value → Action Value)
        → ((x : Instance) → Has same_instance all x → invoke x ≡ other (place_in x all))
        → (depth number : ℕ) (one : Instance) → Has same_instance all one → (body : BodyOf)
        → slice_get functions (place_in one all) ≡ Some (body_closed program noted all one.given body)
        → body_of program noted one.of ≡ Some body
        → enters invoke depth (Some (function_under program noted number one.given body))
        ≡ enters other depth
        (Some (function_closed round number (body_closed program noted all one.given body)))
    body_same invoke other same depth number one here body at is =
        let params = written_params body.generics in
        let view = view_under program noted body.place params one.given in
        let closed = view_in (round (module_name program body.place)) in
        let change = closer program noted all body.place params one.given in
        let parameters = parameters_under program noted one.given body in
        let mention_says =
        mention_agrees program noted all body.place params one.given functions round known says counts in
        let call_says =
        call_agrees program noted all body.place params one.given functions round known says counts invoke
        other same names_there none_behind in
        enters_same known change view closed
        (types_agree program noted all body.place params one.given functions round known says counts)
        invoke other depth number parameters body.block
        (counts.parameters (place_in one all) (body_closed program noted all one.given body) at)
        (each_block same_instance all
        (λ note c name. instance_of (call_leads program body.place one.given note name)) known
        (λ note. closed_under one.given note.of) (λ note. Counts known (view.type_of note))
        (AgreeOnMention known change view closed) (AgreeOnCall known change view closed invoke other)
        (λ note k. k) mention_says call_says
        body.block (calls_within one here body is) (notes_known one body at))

    closing_at : (depth : ℕ) (one : Instance) → Has same_instance all one
        → call_at whole depth one ≡ call_at made depth (place_in one all)
    unfolding call_at
    closing_at zero one here = refl
    closing_at (suc depth) one here =
        let is = there one here in
        let invoke = call_at whole depth in
        let other = call_at made depth in
        ap (λ b. enters invoke depth (option_map (function_under program noted (first one) one.given) b)) is.1
        ∙ body_same invoke other (closing_at depth) depth (first one) one here is.0 is.2 is.1
        ∙ ap (λ n. enters other depth (Some (function_closed round n
        (body_closed program noted all one.given is.0)))) (alike (place_in one all) one (place_back all one here))
        ∙ sym (ap (λ f. enters other depth
        (option_map (function_closed round (numbers (place_in one all))) f)) is.2)

    -- the parameters of an instance are the same
    parameters_same : (one : Instance) → Has same_instance all one
        → parameters_of (whole one) ≡ parameters_of (made (place_in one all))
    parameters_same one here =
        let is = there one here in
        ap (λ b. parameters_of (option_map (function_under program noted (first one) one.given) b)) is.1
        ∙ sym (ap (λ f. parameters_of
        (option_map (function_closed round (numbers (place_in one all))) f)) is.2)

    meaning_same : (input : List ℕ) (ticks : ℕ) → mean whole entry input ticks ≡ mean made 0 input ticks
    meaning_same input ticks =
        let is = first_there all entry (entry_first program noted entry all closes.lists) in
        (λ i. seen ticks (begun (parameters_same entry is.0 i) (closing_at (suc ticks) entry is.0 i)
        (first_world input) ticks))
        ∙ ap (λ n. mean made n input ticks) is.1

-- ---- what is known round closed trees

fields_count : (fields : List Field) → FieldsCount (λ of. true) fields
fields_count [] = tt
fields_count (f ∷ rest) = (refl, fields_count rest)

found_count : (fields : Option (List Field)) → FoundCount (λ of. true) fields
found_count None = tt
found_count (Some fields) = fields_count fields

-- the program itself says what is, of all types
pub what_is : ProgramsSay
what_is program functions = (
  record {
    parameters = λ home number. refl;
    homes = λ home. refl;
    tags = λ home of k name. refl;
    fields = λ home of k tag. refl;
    linear = λ home of k has. refl;
  },
  record {
    parameters = λ number f at. fields_count (parameters_seen f);
    notes = λ number f at of h. refl;
    inside = λ of k tag. found_count (fields_in program of tag);
    references = record { reads = λ of. refl; writes = λ of. refl };
  },
)

-- closing keeps the meaning of a program
pub meaning_kept : KeepsMeaning
meaning_kept program noted entry functions closes first numbers alike round known says counts input ticks =
    meaning_same program noted entry functions closes first numbers alike round known says counts input ticks
