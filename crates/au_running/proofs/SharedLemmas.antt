-- The functions of a closed program that share a number of a declaration are instances of one body, and have
-- the same slots.
use Rattle.std.proofs.Common.{◌≡◌, ℕ, ◌+◌, ◌<◌, ◌≤◌, Bool, true, List, [], ◌∷◌, ◌++◌, length, map, Option, Some, None}
use Rattle.std.proofs.Common.{refl, sym, ap, ap₂, subst, ◌∙◌, arith, slice_get}
use Rattle.std.proofs.lemmas.List.{length-append, length-map}
use Rattle.std.proofs.lemmas.Option.{slice_get-map}
use Rattle.std.specs.Option.{option_map}
use Rattle.au_syntax.specs.declared.modules.Part.TheVariants.{Body}
use Rattle.au_syntax.specs.declared.types.Access.{Access}
use Rattle.au_syntax.specs.declared.types.Access.TheVariants as access
use Rattle.au_types.specs.declared.types.Region.{Region}
use Rattle.au_effects.specs.Parts.{along}
use Rattle.au_meaning.specs.Names.{fields_through}
use Rattle.au_syntax.specs.Plain.{Bytes}
use Rattle.au_modules.specs.Programs.{ModuleParts}
use Rattle.au_judged_types.specs.Meanings.{written_params}
use Rattle.au_types.specs.Types as whole
use Rattle.au_types.specs.Types.{Meaning}
use Rattle.au_type_texts.specs.Types.{ClosedType, named, reads, writes}
use Rattle.au_type_texts.specs.Given.{Given, all_closed_under, closed_under}
use Rattle.au_closed_trees.specs.ClosedNotes.{Callee, ClosedNote, ClosedStatements}
use Rattle.au_closed_trees.specs.Renoted.{block_renoted}
use Rattle.au_closing.specs.Bodies.{BodyOf, body_of}
use Rattle.au_closing.specs.Closes.{ClosedFunction, ClosesFunctions, body_closed, change_of, instance_closed}
use Rattle.au_closing.specs.Instances.{Instance}
use Rattle.au_closing.specs.Leading.{case_name, module_name}
use Rattle.au_closed_meanings.specs.Agreement.{EachOfBlock}
use Rattle.au_closed_meanings.specs.Closed.{function_closed, parameters_seen}
use Rattle.au_closed_meanings.specs.Kept.{NumberAlike, SaysWhatIs, TypesCount}
use Rattle.au_closed_meanings.specs.Numbers.{NumbersApart, IsNameOf, names_of}
use Rattle.au_closed_meanings.specs.Surroundings.{Surroundings, field_names, view_in}
use Rattle.au_closed_meanings.proofs.EachLemmas.{AllKnown, each_block}
use Rattle.au_closed_meanings.proofs.SaidLemmas.{block_same}
use Rattle.au_closed_meanings.proofs.SameStatements.{names_same_block}
use Rattle.au_lowered.specs.HomeLists.{Declares, HomesShared, SameNames, function_homes}
use Rattle.au_lowered.specs.HomeLists.{homes_of_block, parameter_homes}
use Rattle.au_lowered.specs.Slots as slots
use Rattle.au_lowered.specs.Slots.{fields_in, fields_of_case}
use Rattle.au_lowered.proofs.HomeLemmas.{block_many, parameters_many}
use Rattle.au_meaning.specs.Names.{names_in_block}
use Rattle.au_meaning.specs.Views.{Field, Function, View}
use Rattle.au_typing.specs.Notes.{Note}
use Rattle.au_typing.specs.Outsides.{outside_of}
use Rattle.au_typing.specs.Parts.{cases_told, case_behind}
use Rattle.au_typing.specs.Scopes.{Case, Outside, Scope, Typed}
use Rattle.au_typing.specs.Statements.{GoodBlock}
use Rattle.au_typing.specs.Trees.{NotedParts}
use Rattle.au_running.specs.Followed.{functions_in}
use Rattle.au_running.specs.Suits.{guarded_function, guarded_functions}
use Rattle.au_running.proofs.CaseNames.{cases_agree, fields_agree}
use Rattle.au_running.proofs.OrderLemmas.{in_order}
use Rattle.au_running.proofs.RenotedHomes.{made_of_one}
use Rattle.au_running.proofs.TakenLemmas.{AnyCall, AnyMention, block_agrees}

-- ---- parameters

-- as many parameters have the same slots
parameters_same : (slot : ℕ) (some others : List Field) → length some ≡ length others
    → parameter_homes slot some ≡ parameter_homes slot others
parameters_same slot [] [] e = refl
parameters_same slot [] (p ∷ rest) e = absurd (omega (arith, e))
parameters_same slot (p ∷ rest) [] e = absurd (omega (arith, e))
parameters_same slot (p ∷ rest) (q ∷ more) e =
    ap (λ all. slot ∷ all) (parameters_same (slot + 1) rest more (omega (arith, e)))

-- what lies within so many numbers from one on
within : (first number n many names : ℕ) → first ≡ number → many ≡ names → number ≤ n → n < number + many
    → (first ≤ n) × (n < first + names)
within first number n many names same count low high =
    (omega (arith, same, low), omega (arith, same, count, high))

module _ (program : List ModuleParts) (noted : List NotedParts) (entry : Instance) (functions : List ClosedFunction)
    (closes : ClosesFunctions program noted entry functions) (round : Bytes → Surroundings)
    (known : ClosedType → Bool) (says : SaysWhatIs known program functions round)
    (counts : TypesCount known program functions)
    (typed : (one : Instance) (body : BodyOf) → body_of program noted one.of ≡ Some body
    → (sc : Scope) × (sc.outside ≡ outside_of program body.place Body) × GoodBlock body.block sc) where
  abbrev all : List Instance
  all = closes.instances

  -- ---- one body

  -- the view of a closed body, and its closed tree
  abbrev seen : BodyOf → View ℕ ClosedNote (Callee ℕ)
  seen body = view_in (round (module_name program body.place))

  abbrev closed_block : Given → BodyOf → ClosedStatements
  closed_block given body =
      block_renoted (change_of program noted all body.place (written_params body.generics) given) body.block

  -- the type that is noted counts once it is closed
  abbrev Noted : Given → Note → Type 0
  Noted given note = known (closed_under given note.of) ≡ true

  each_noted : (given : Given) (body : BodyOf) (number : ℕ)
      → slice_get functions number ≡ Some (body_closed program noted all given body)
      → EachOfBlock (Noted given) AnyMention AnyCall body.block
  each_noted given body number at =
      each_block (λ (a b : Unit {0}). true) (tt ∷ []) (λ note c name. []) known
      (λ note. closed_under given note.of) (Noted given) AnyMention AnyCall (λ note k. k) (λ note name. tt)
      (λ note c name k w. tt) body.block (λ x h. refl)
      (subst (AllKnown known)
      (block_same (change_of program noted all body.place (written_params body.generics) given)
      (λ (note : Note). closed_under given note.of ∷ []) (λ (n : ClosedNote). n.of ∷ []) (λ note. refl)
      (λ note name. refl) body.block)
      (counts.notes number (body_closed program noted all given body) at))

  module _ (given others : Given) (body : BodyOf) where
    abbrev records_of : Given → Note → List Field
    records_of given note =
        fields_in (seen body) (record { of = closed_under given note.of; free = None; literal = None })

    abbrev cases_of : Given → Note → Bytes → List Field
    cases_of given note arm =
        fields_of_case (seen body) (record { of = closed_under given note.of; free = None; literal = None })
        (case_name program body.place arm)

    takes : (n : Note) (fields : List Typed) → (outside_of program body.place Body).fields n.of ≡ Some fields
        → Noted given n → Noted others n → SameNames (records_of given n) (records_of others n)
    takes n fields e k m = by n.of e k m
      where
        by : (t : Meaning) → (outside_of program body.place Body).fields t ≡ Some fields
            → known (closed_under given t) ≡ true → known (closed_under others t) ≡ true
            → SameNames
            (fields_in (seen body) (record { of = closed_under given t; free = None; literal = None }))
            (fields_in (seen body) (record { of = closed_under others t; free = None; literal = None }))
        by whole.unit e k m = absurd cc
        by whole.truth e k m = absurd cc
        by (whole.integer kind) e k m = absurd cc
        by whole.text e k m = absurd cc
        by (whole.parameter name) e k m = absurd cc
        by (whole.named at args) e k m =
            fields_agree program functions round known says (module_name program body.place) at
            (all_closed_under given args) (all_closed_under others args) k m 0
        by (whole.reads to region) e k m = absurd cc
        by (whole.writes to region) e k m = absurd cc

    behind : (kind : Access) (region : Region) (sc : Scope) → sc.outside ≡ outside_of program body.place Body
        → (to : Meaning) (found : List Case)
        → option_map (map (case_behind kind region)) (sc.outside.cases to) ≡ Some found
        → known (closed_under given to) ≡ true → known (closed_under others to) ≡ true
        → (through further : ClosedType) (name : Bytes)
        → field_names (slots.known (along ((seen body).tag (closed_under given to) name)
        (λ tag. fields_through through ((seen body).fields (closed_under given to) tag))))
        ≡ field_names (slots.known (along ((seen body).tag (closed_under others to) name)
        (λ tag. fields_through further ((seen body).fields (closed_under others to) tag))))
    behind kind region sc o to found e k m through further name =
        by to (ap (λ (out : Outside). option_map (map (case_behind kind region)) (out.cases to)) (sym o) ∙ e) k m
      where
        by : (to : Meaning)
            → option_map (map (case_behind kind region)) ((outside_of program body.place Body).cases to) ≡ Some found
            → known (closed_under given to) ≡ true → known (closed_under others to) ≡ true
            → field_names (slots.known (along ((seen body).tag (closed_under given to) name)
            (λ tag. fields_through through ((seen body).fields (closed_under given to) tag))))
            ≡ field_names (slots.known (along ((seen body).tag (closed_under others to) name)
            (λ tag. fields_through further ((seen body).fields (closed_under others to) tag))))
        by whole.unit e k m = absurd cc
        by whole.truth e k m = absurd cc
        by (whole.integer kind) e k m = absurd cc
        by whole.text e k m = absurd cc
        by (whole.parameter name) e k m = absurd cc
        by (whole.named at args) e k m =
            cases_agree program functions round known says (module_name program body.place) at
            (all_closed_under given args) (all_closed_under others args) k m through further name
        by (whole.reads to region) e k m = absurd cc
        by (whole.writes to region) e k m = absurd cc

    tells : (n : Note) (sc : Scope) → sc.outside ≡ outside_of program body.place Body → (found : List Case)
        → cases_told sc n.of ≡ Some found → Noted given n → Noted others n → (arm : Bytes)
        → SameNames (cases_of given n arm) (cases_of others n arm)
    tells n sc o found e k m arm = by n.of e k m
      where
        none : (t : Meaning) → (outside_of program body.place Body).cases t ≡ None
            → sc.outside.cases t ≡ Some found → ⊥
        none t missing e =
            let both : None ≡ Some found =
            sym missing ∙ ap (λ (out : Outside). out.cases t) (sym o) ∙ e in absurd cc

        by : (t : Meaning) → cases_told sc t ≡ Some found
            → known (closed_under given t) ≡ true → known (closed_under others t) ≡ true
            → SameNames
            (fields_of_case (seen body) (record { of = closed_under given t; free = None; literal = None })
            (case_name program body.place arm))
            (fields_of_case (seen body) (record { of = closed_under others t; free = None; literal = None })
            (case_name program body.place arm))
        by whole.unit e k m = absurd (none whole.unit refl e)
        by whole.truth e k m = absurd (none whole.truth refl e)
        by (whole.integer kind) e k m = absurd (none (whole.integer kind) refl e)
        by whole.text e k m = absurd (none whole.text refl e)
        by (whole.parameter name) e k m = absurd (none (whole.parameter name) refl e)
        by (whole.named at args) e k m =
            cases_agree program functions round known says (module_name program body.place) at
            (all_closed_under given args) (all_closed_under others args) k m
            (named at (all_closed_under given args)) (named at (all_closed_under others args))
            (case_name program body.place arm)
        by (whole.reads to region) e k m =
            behind access.Read region sc o to found e (sym (counts.references.reads (closed_under given to)) ∙ k)
            (sym (counts.references.reads (closed_under others to)) ∙ m) (reads (closed_under given to))
            (reads (closed_under others to)) (case_name program body.place arm)
        by (whole.writes to region) e k m =
            behind access.Write region sc o to found e (sym (counts.references.writes (closed_under given to)) ∙ k)
            (sym (counts.references.writes (closed_under others to)) ∙ m) (writes (closed_under given to))
            (writes (closed_under others to)) (case_name program body.place arm)

    -- a body has the same slots whatever closed types are given
    blocks_same : (slot : ℕ) (sc : Scope) → sc.outside ≡ outside_of program body.place Body
        → GoodBlock body.block sc → EachOfBlock (Noted given) AnyMention AnyCall body.block
        → EachOfBlock (Noted others) AnyMention AnyCall body.block
        → homes_of_block (fields_in (seen body)) (fields_of_case (seen body)) slot (closed_block given body)
        ≡ homes_of_block (fields_in (seen body)) (fields_of_case (seen body)) slot (closed_block others body)
    blocks_same slot sc o good c d =
        made_of_one (change_of program noted all body.place (written_params body.generics) given)
        (change_of program noted all body.place (written_params body.generics) others)
        (fields_in (seen body)) (fields_of_case (seen body)) (λ note name. refl) (λ note name arm. refl)
        (λ note name. refl) (λ note name arm. refl) slot body.block
        (block_agrees (outside_of program body.place Body) (Noted given) (Noted others) (records_of given)
        (records_of others) (cases_of given) (cases_of others) takes tells body.block sc o good c d)

  -- ---- functions

  -- a body as it is run under what is given, with a number for its first name
  abbrev made : ℕ → Given → BodyOf → Function ℕ ClosedNote (Callee ℕ)
  made first given body =
      guarded_function (function_closed round first (body_closed program noted all given body))

  parameters_are : (given : Given) (body : BodyOf)
      → length (parameters_seen (body_closed program noted all given body)) ≡ length body.header.parameters
  parameters_are given body = length-map _ _ ∙ length-map _ _

  -- it has as many slots as names
  homes_many : (first : ℕ) (given : Given) (body : BodyOf)
      → length (function_homes (made first given body)) ≡ names_of body
  homes_many first given body =
      let params = parameters_seen (body_closed program noted all given body) in
      let slots = homes_of_block (fields_in (seen body)) (fields_of_case (seen body)) (length params)
      (closed_block given body) in
      let names : names_in_block body.block ≡ names_in_block (closed_block given body) =
      names_same_block (change_of program noted all body.place (written_params body.generics) given) body.block in
      length-append (parameter_homes 0 params) slots
      ∙ ap₂ (λ a b. a + b) (parameters_many 0 params ∙ parameters_are given body)
      (block_many (fields_in (seen body)) (fields_of_case (seen body)) (length params) (closed_block given body)
      ∙ sym names)

  -- and the same slots under all that is given
  homes_same : (first second : ℕ) (given others : Given) (body : BodyOf) (sc : Scope)
      → sc.outside ≡ outside_of program body.place Body → GoodBlock body.block sc
      → EachOfBlock (Noted given) AnyMention AnyCall body.block
      → EachOfBlock (Noted others) AnyMention AnyCall body.block
      → function_homes (made first given body) ≡ function_homes (made second others body)
  homes_same first second given others body sc o good c d =
      let params = parameters_seen (body_closed program noted all given body) in
      let other_params = parameters_seen (body_closed program noted all others body) in
      let many : length params ≡ length other_params =
      parameters_are given body ∙ sym (parameters_are others body) in
      ap₂ (λ xs ys. xs ++ ys) (parameters_same 0 params other_params many)
      (ap (λ slot. homes_of_block (fields_in (seen body)) (fields_of_case (seen body)) slot (closed_block given body))
      many
      ∙ blocks_same given others body (length other_params) sc o good c d)

  -- ---- all of them

  module _ (first : Instance → ℕ) (numbers : ℕ → ℕ) (alike : NumberAlike all first numbers)
      (apart : NumbersApart program noted first) where
    -- a function is that of an instance, whose body is there
    record Stands (i : ℕ) (f : Function ℕ ClosedNote (Callee ℕ)) : Type 0 where
      one : Instance
      body : BodyOf
      listed : slice_get all i ≡ Some one
      there : body_of program noted one.of ≡ Some body
      closed : slice_get functions i ≡ Some (body_closed program noted all one.given body)
      is : made (numbers i) one.given body ≡ f

    stands : (i : ℕ) (f : Function ℕ ClosedNote (Callee ℕ))
        → slice_get (guarded_functions (functions_in round numbers functions)) i ≡ Some f → Stands i f
    stands i f e =
        by (slice_get functions i) (slice_get all i) refl refl
        (sym (slice_get-map Some functions i) ∙ ap (λ l. slice_get l i) closes.closed
        ∙ slice_get-map (instance_closed program noted all) all i)
        (sym (ap (option_map guarded_function) (in_order round functions numbers i))
        ∙ sym (slice_get-map guarded_function (functions_in round numbers functions) i) ∙ e)
      where
        bodied : (f0 : ClosedFunction) (one : Instance) (b : Option BodyOf) → slice_get functions i ≡ Some f0
            → slice_get all i ≡ Some one → body_of program noted one.of ≡ b
            → Some (Some f0) ≡ Some (option_map (body_closed program noted all one.given) b)
            → Some (guarded_function (function_closed round (numbers i) f0)) ≡ Some f → Stands i f
        bodied f0 one None at listed there same is = absurd cc
        bodied f0 one (Some body) at listed there same is =
            let own : f0 ≡ body_closed program noted all one.given body = cc in
            let made_is : guarded_function (function_closed round (numbers i) f0) ≡ f = cc in
            record {
              one = one;
              body = body;
              listed = listed;
              there = there;
              closed = at ∙ ap (λ x. Some x) own;
              is = ap (λ x. guarded_function (function_closed round (numbers i) x)) (sym own) ∙ made_is;
            }

        by : (o : Option ClosedFunction) (k : Option Instance) → slice_get functions i ≡ o → slice_get all i ≡ k
            → option_map Some o ≡ option_map (instance_closed program noted all) k
            → option_map guarded_function (option_map (function_closed round (numbers i)) o) ≡ Some f → Stands i f
        by None k at listed same is = absurd cc
        by (Some f0) None at listed same is = absurd cc
        by (Some f0) (Some one) at listed same is =
            bodied f0 one (body_of program noted one.of) at listed refl same is

    -- a number of a declaration is that of a name of the body
    is_name : (i n : ℕ) (one : Instance) (body : BodyOf) → slice_get all i ≡ Some one
        → Declares (made (numbers i) one.given body) n → IsNameOf body (first one) n
    is_name i n one body listed declares =
        within (first one) (numbers i) n (length (function_homes (made (numbers i) one.given body))) (names_of body)
        (alike i one listed) (homes_many (numbers i) one.given body) declares.0 declares.1

    both : (i j n : ℕ) (one other : Instance) (body another : BodyOf) → slice_get all i ≡ Some one
        → slice_get all j ≡ Some other → body_of program noted one.of ≡ Some body
        → body_of program noted other.of ≡ Some another
        → slice_get functions i ≡ Some (body_closed program noted all one.given body)
        → slice_get functions j ≡ Some (body_closed program noted all other.given another)
        → Declares (made (numbers i) one.given body) n → Declares (made (numbers j) other.given another) n
        → (numbers i ≡ numbers j)
        × (function_homes (made (numbers i) one.given body)
        ≡ function_homes (made (numbers j) other.given another))
    both i j n one other body another listed too is there at behind h k =
        let shared = apart one other n body another is there (is_name i n one body listed h)
        (is_name j n other another too k) in
        let good = typed one body is in (
          sym (alike i one listed) ∙ shared.1 ∙ alike j other too,
          subst (λ x. function_homes (made (numbers i) one.given body)
              ≡ function_homes (made (numbers j) other.given x)) shared.0
              (homes_same (numbers i) (numbers j) one.given other.given body good.0 good.1 good.2
              (each_noted one.given body i at)
              (each_noted other.given body j
              (behind ∙ ap (λ x. Some (body_closed program noted all other.given x)) (sym shared.0)))),
        )

    pub homes_shared : HomesShared (guarded_functions (functions_in round numbers functions))
    homes_shared i j n f g e h =
        let s = stands i f e in
        let t = stands j g h in
        subst (λ x. Declares x n → Declares g n → (x.first ≡ g.first) × (function_homes x ≡ function_homes g)) s.is
        (subst (λ y. Declares (made (numbers i) s.one.given s.body) n → Declares y n
        → (numbers i ≡ y.first) × (function_homes (made (numbers i) s.one.given s.body) ≡ function_homes y)) t.is
        (both i j n s.one t.one s.body t.body s.listed t.listed s.there t.there s.closed t.closed))
