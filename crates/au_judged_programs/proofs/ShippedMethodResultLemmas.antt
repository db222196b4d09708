-- What the parameters and the result of a method of a shipped class mean.
use Rattle.std.proofs.Common.{◌≡◌, ℕ, Bool, true, false, ◌&&◌, true≢false, List, [], ◌∷◌, ◌++◌, map, Option, None}
use Rattle.std.proofs.Common.{Some}
use Rattle.std.proofs.Common.{refl, sym, ap, ◌∙◌, subst}
use Rattle.std.specs.Prelude.{codes, option_and_then, slice_get}
use Rattle.std.specs.Option.{option_map}
use Rattle.std.specs.Str.{bytes_eq}
use Rattle.std.proofs.lemmas.Bool.{and_parts}
use Rattle.std.proofs.lemmas.Option.{none-some, same_Some}
use Rattle.std.proofs.lemmas.Slice.Eq.{bytes_eq-Decides}
use denote.Enum.Bare.{same_true}
use Rattle.au_base.specs.contracts.kinds.IntKind.{the_type as kind}
use Rattle.au_base.specs.declared.kinds.IntKind.{IntKind}
use Rattle.au_syntax.specs.declared.modules.Part.TheVariants.{Interface}
use Rattle.au_syntax.specs.Plain.{Bytes, PlainDeclaration}
use Rattle.au_syntax.specs.Sizes.{joined}
use Rattle.au_syntax.specs.Types.{Labelled, WrittenType, named, no_types, types}
use Rattle.au_types.specs.declared.headings.Head.{Head}
use Rattle.au_types.specs.declared.parameters.Parameter.{Parameter}
use Rattle.au_types.specs.declared.spaces.Space.TheVariants.{Types}
use Rattle.au_types.specs.declared.types.DeclAt.{DeclAt}
use Rattle.au_types.specs.Meant.{Given, all_given, applied, arguments_meant, meant, region_meant}
use Rattle.au_types.specs.Rows.{head_of}
use Rattle.au_types.specs.Senses.{Sense, declared, declared_sense, sense_of}
use Rattle.au_types.specs.Tables.{find}
use Rattle.au_types.specs.Types as whole
use Rattle.au_types.specs.Types.{Meaning, arguments, no_arguments, of_type}
use Rattle.au_matching.specs.Bindings.{Bindings}
use Rattle.au_matching.specs.Substituted.{substituted}
use Rattle.au_type_texts.specs.Closing.{all_closed, closed}
use Rattle.au_type_texts.specs.Types as closed_types
use Rattle.au_type_texts.specs.Types.{ClosedType, ClosedTypes, integer, text, truth}
use Rattle.au_running_types.specs.Running.{running}
use Rattle.au_modules.specs.Programs.{Entry, ModuleParts, shipped_module}
use Rattle.au_names.specs.DeclaredTypes.{DeclaredType, type_declared}
use Rattle.au_names.specs.HeadsOf.{heads_of}
use Rattle.au_names.specs.Meanings.{declared_by}
use Rattle.au_names.specs.Owned.{declarations_in}
use Rattle.au_names.specs.Standing.{Standing, standing_at}
use Rattle.au_judged_bodies.specs.Rounds.{names_of}
use Rattle.au_judged_bodies.specs.Scopes.{Typed}
use Rattle.au_judged_bodies.specs.Sights.{kinds_taken}
use Rattle.au_judged_bodies.specs.Tables.{types_of}
use Rattle.au_judged_bodies.specs.Trees.{NotedParts}
use Rattle.au_judged_bodies.specs.Written.{all_typed, followed, meant_in, seen_in, types_at}
use Rattle.au_safe_steps.specs.Granting.{IsOptionOf}
use Rattle.au_closing_laws.proofs.ShippedMethodLemmas.{own_seen, stands_promised}
use Rattle.au_judged_programs.specs.CheckedChecked.{IsChecked}
use Rattle.au_judged_programs.proofs.RowLemmas.{IsHead, head_stands}
use Rattle.au_judged_programs.proofs.ShippedMethodOptionLemmas.{option_is, option_over, option_parameter}
use Rattle.au_judged_programs.proofs.ShippedMethodTestLemmas.{has_option, has_text, is_kind, is_option}
use Rattle.au_judged_programs.proofs.ShippedMethodTestLemmas.{is_the_parameter, is_unit}
use Rattle.au_judged_programs.proofs.ShippedMethodTestLemmas.{its_name, number_in, numbered_option, option_text}
use Rattle.au_judged_programs.proofs.ShippedMethodTestLemmas.{over_class}
use Rattle.au_judged_programs.proofs.ShippedMethodTestLemmas.{plain_is, takes_all, the_parameter}

-- ---- closed types

abbrev pub is_flat : ClosedType → Bool
is_flat truth = true
is_flat (integer of) = true
is_flat text = true
is_flat other = false

abbrev pub opened : ClosedType → Meaning
opened truth = whole.truth
opened (integer of) = whole.integer of
opened text = whole.text
opened other = whole.unit

-- only a truth value, an integer or a text closes to one
pub only_flat : (t : Meaning) (c : ClosedType) → closed t ≡ Some c → is_flat c ≡ true → t ≡ opened c
only_flat whole.truth c e flat = ap opened (same_Some truth c e)
only_flat (whole.integer of) c e flat = ap opened (same_Some (integer of) c e)
only_flat whole.text c e flat = ap opened (same_Some text c e)
only_flat whole.unit c e flat = absurd (true≢false (sym flat ∙ ap is_flat (sym (same_Some closed_types.unit c e))))
only_flat (whole.parameter name) c e flat = absurd (none-some c e)
only_flat (whole.named at args) c e flat = by (all_closed args) e
  where
    by : (o : Option ClosedTypes) → option_map (closed_types.named at) o ≡ Some c
        → whole.named at args ≡ opened c
    by None e = absurd (none-some c e)
    by (Some list) e =
        absurd (true≢false (sym flat ∙ ap is_flat (sym (same_Some (closed_types.named at list) c e))))
only_flat (whole.reads to region) c e flat = by (closed to) e
  where
    by : (o : Option ClosedType) → option_map closed_types.reads o ≡ Some c → whole.reads to region ≡ opened c
    by None e = absurd (none-some c e)
    by (Some of) e = absurd (true≢false (sym flat ∙ ap is_flat (sym (same_Some (closed_types.reads of) c e))))
only_flat (whole.writes to region) c e flat = by (closed to) e
  where
    by : (o : Option ClosedType) → option_map closed_types.writes o ≡ Some c → whole.writes to region ≡ opened c
    by None e = absurd (none-some c e)
    by (Some of) e = absurd (true≢false (sym flat ∙ ap is_flat (sym (same_Some (closed_types.writes of) c e))))

-- ---- what the tests say

the_parameter_is : (o : Option Meaning) → is_the_parameter o ≡ true → o ≡ Some (whole.parameter its_name)
the_parameter_is (Some (whole.parameter name)) e =
    ap (λ n. Some (whole.parameter n)) ((bytes_eq-Decides name its_name).0 e)
the_parameter_is other e = absurd cc

unit_is : (o : Option Meaning) → is_unit o ≡ true → o ≡ Some whole.unit
unit_is (Some whole.unit) e = refl
unit_is other e = absurd cc

kind_is : (of : IntKind) (o : Option Meaning) → is_kind of o ≡ true → o ≡ Some (whole.integer of)
kind_is of (Some (whole.integer other)) e = ap (λ k. Some (whole.integer k)) (same_true kind tt other of e)
kind_is of other e = absurd cc

-- ---- parameters

module _ (program : List ModuleParts) (d : Standing) where
  abbrev visible : List (Bytes × DeclAt)
  visible = types_at program d.place d.part

  abbrev over : List Parameter
  over = the_parameter ∷ []

  -- what is written means what it means where nothing is declared
  means_so : (t : WrittenType) (m : Meaning) → over_class t ≡ Some m → meant_in program d over t ≡ Some m
  means_so t m e = plain_is over visible (heads_of program) t m e

  pub gives_unit : (t : WrittenType) (result : Meaning) → is_unit (over_class t) ≡ true
      → meant_in program d over t ≡ Some result → result ≡ whole.unit
  gives_unit t result e means =
      same_Some result whole.unit (sym means ∙ means_so t whole.unit (unit_is (over_class t) e))

  pub gives_parameter : (t : WrittenType) (result : Meaning) → is_the_parameter (over_class t) ≡ true
      → meant_in program d over t ≡ Some result → result ≡ whole.parameter its_name
  gives_parameter t result e means =
      same_Some result (whole.parameter its_name)
      (sym means ∙ means_so t (whole.parameter its_name) (the_parameter_is (over_class t) e))

  module _ (s : Bindings) (z : ℕ) (put : Bindings) where
    abbrev pub put_here : Meaning
    put_here = running s z (substituted put (whole.parameter its_name))

    -- parameters of these names, all of the type of the class
    pub parameters_taken : (names : List Bytes) (written : List (Labelled Bytes)) (kinds : List Typed)
        → takes_all names written ≡ true → all_typed program d over written ≡ Some kinds
        → (names_of kinds ≡ names) × (kinds_taken s z put kinds ≡ map (λ (name : Bytes). put_here) names)
    parameters_taken [] [] kinds e typed =
        let none = sym (same_Some [] kinds typed) in
        (ap names_of none, ap (kinds_taken s z put) none)
    parameters_taken [] (one ∷ rest) kinds e typed = absurd (true≢false (sym e))
    parameters_taken (name ∷ names) [] kinds e typed = absurd (true≢false (sym e))
    parameters_taken (name ∷ names) (one ∷ rest) kinds e typed =
        by (all_typed program d over rest) (λ others its. parameters_taken names rest others both.1 its)
        (sym (ap (λ o. followed (option_map (λ t. record { name = one.name.name; of = t }) o)
        (all_typed program d over rest))
        (means_so one.of (whole.parameter its_name) (the_parameter_is (over_class one.of) both.0))) ∙ typed)
      where
        parts : (bytes_eq one.name.name name ≡ true)
            × ((is_the_parameter (over_class one.of) && takes_all names rest) ≡ true)
        parts = and_parts (bytes_eq one.name.name name) (is_the_parameter (over_class one.of) && takes_all names rest) e

        both : (is_the_parameter (over_class one.of) ≡ true) × (takes_all names rest ≡ true)
        both = and_parts (is_the_parameter (over_class one.of)) (takes_all names rest) parts.1

        first : Typed
        first = record { name = one.name.name; of = whole.parameter its_name }

        by : (o : Option (List Typed))
            → ((others : List Typed) → o ≡ Some others → (names_of others ≡ names)
            × (kinds_taken s z put others ≡ map (λ (n : Bytes). put_here) names))
            → followed (Some (record { name = one.name.name; of = whole.parameter its_name })) o ≡ Some kinds
            → (names_of kinds ≡ name ∷ names)
            × (kinds_taken s z put kinds ≡ put_here ∷ map (λ (n : Bytes). put_here) names)
        by None later typed = absurd (none-some kinds typed)
        by (Some others) later typed =
            let same = sym (same_Some (first ∷ others) kinds typed) in
            let its = later others refl in (
              ap names_of same ∙ (λ i. (bytes_eq-Decides one.name.name name).0 parts.0 i ∷ its.0 i),
              ap (kinds_taken s z put) same ∙ ap (λ l. put_here ∷ l) its.1,
            )

-- ---- `Option`

-- the declaration of `Option` in a file
record HasOption (x : Entry) : Type 0 where
  number : ℕ
  says : PlainDeclaration
  one : DeclaredType
  numbered : number_in x (codes "Option") ≡ Some number
  there : slice_get x.tree.declarations number ≡ Some says
  declares : type_declared says ≡ Some one
  text : bytes_eq (joined x.tree.name ++ 58 ∷ one.name) option_text ≡ true

option_there : (x : Entry) → has_option x ≡ true → HasOption x
option_there x e = by (number_in x (codes "Option")) refl e
  where
    on : (number : ℕ) → number_in x (codes "Option") ≡ Some number → (says : PlainDeclaration)
        → slice_get x.tree.declarations number ≡ Some says
        → (o : Option DeclaredType) → type_declared says ≡ o
        → has_text option_text (joined x.tree.name) o ≡ true → HasOption x
    on number numbered says there None declares e = absurd (true≢false (sym e))
    on number numbered says there (Some one) declares e = record {
      number = number;
      says = says;
      one = one;
      numbered = numbered;
      there = there;
      declares = declares;
      text = e;
    }

    at : (number : ℕ) → number_in x (codes "Option") ≡ Some number
        → (o : Option PlainDeclaration) → slice_get x.tree.declarations number ≡ o
        → has_text option_text (joined x.tree.name) (option_and_then type_declared o) ≡ true → HasOption x
    at number numbered None there e = absurd (true≢false (sym e))
    at number numbered (Some says) there e = on number numbered says there (type_declared says) refl e

    by : (o : Option ℕ) → number_in x (codes "Option") ≡ o → numbered_option x o ≡ true → HasOption x
    by None numbered e = absurd (true≢false (sym e))
    by (Some number) numbered e = at number numbered (slice_get x.tree.declarations number) refl e

sense_here : (heads : List (DeclAt × Head)) (at : DeclAt) (head : Head) → head_of heads at ≡ Some head
    → declared_sense heads at ≡ declared at head.params
sense_here heads at head is = rw is refl

no_sense : (heads : List (DeclAt × Head)) (at : DeclAt) (args : List Given) → head_of heads at ≡ None
    → applied (Some (declared_sense heads at)) args ≡ None
no_sense heads at args is = rw is refl

module _ (program : List ModuleParts) (noted : List NotedParts) (checked : IsChecked program noted) (x : Entry)
    (m : ModuleParts) (same : m ≡ shipped_module x) (place : ℕ) (here : slice_get program place ≡ Some m)
    (has : has_option x ≡ true) where
  abbrev heads : List (DeclAt × Head)
  heads = heads_of program

  option : HasOption x
  option = option_there x has

  abbrev its : DeclAt
  its = record { «module» = place; decl = option.number }

  -- the name means it there
  option_seen : (d : Standing) → d.place ≡ place → d.part ≡ Interface
      → find (codes "Option") (types_at program d.place d.part) ≡ Some its
  option_seen d at_place of_part =
      ap (λ n. find (codes "Option") (types_at program n d.part)) at_place
      ∙ ap (λ p. find (codes "Option") (types_at program place p)) of_part
      ∙ ap (λ o. find (codes "Option") (declared_by (seen_in Types program place Interface o))) here
      ∙ own_seen program place m x same Interface (codes "Option") option.number option.numbered

  stands : standing_at program its
      ≡ Some (record { place = place; part = Interface; index = option.number; says = option.says })
  stands =
      stands_promised program its m option.says here
      (ap (λ (y : ModuleParts). slice_get (declarations_in y.interface) option.number) same ∙ option.there)

  text_is : (head : Head) → head_of heads its ≡ Some head → bytes_eq head.text option_text ≡ true
  text_is head e = by (head_stands program its head e)
    where
      by : (d : Standing) × (n : ModuleParts) × (standing_at program its ≡ Some d)
          × (slice_get program place ≡ Some n) × IsHead n.name d.says head → bytes_eq head.text option_text ≡ true
      by (d, n, found, there, (one, declares, is)) =
          ap (λ (h : Head). bytes_eq h.text option_text) is
          ∙ ap (λ (y : ModuleParts). bytes_eq (y.name ++ 58 ∷ one.name) option_text)
          (same_Some n m (sym there ∙ here) ∙ same)
          ∙ ap (λ (t : DeclaredType). bytes_eq (joined x.tree.name ++ 58 ∷ t.name) option_text)
          (same_Some one option.one
          (sym declares ∙ sym (ap (λ (y : Standing). type_declared y.says)
          (same_Some (record { place = place; part = Interface; index = option.number; says = option.says }) d
          (sym stands ∙ found))) ∙ option.declares))
          ∙ option.text

  module _ (of : IntKind) where
    -- the type of these integers of it
    is_meant : (head : Head) → head_of heads its ≡ Some head → (one : Given) → one.as_type ≡ Some (whole.integer of)
        → option_map (whole.named its) (arguments_meant head.params (one ∷ []))
        ≡ Some (whole.named its (arguments (of_type (whole.integer of)) no_arguments))
    is_meant head e one means =
        ap (λ ps. option_map (whole.named its) (arguments_meant ps (one ∷ [])))
        (option_over program noted checked its head e (text_is head e))
        ∙ ap (λ o. option_map (whole.named its)
        (arguments_meant (option_parameter ∷ []) (record { as_type = o; as_region = one.as_region } ∷ []))) means

    gives_so : (one : Given) → one.as_type ≡ Some (whole.integer of) → (result : Meaning)
        → applied (Some (declared_sense heads its)) (one ∷ []) ≡ Some result → (s : Bindings) (z : ℕ) (put : Bindings)
        → IsOptionOf (types_of program) (running s z (substituted put result)) (whole.integer of)
    gives_so one means result e s z put = by (head_of heads its) refl
      where
        by : (o : Option Head) → head_of heads its ≡ o
            → IsOptionOf (types_of program) (running s z (substituted put result)) (whole.integer of)
        by None none = absurd (none-some result (sym (no_sense heads its (one ∷ []) none) ∙ e))
        by (Some head) is =
            subst (λ (t : Meaning). IsOptionOf (types_of program) (running s z (substituted put t)) (whole.integer of))
            (same_Some (whole.named its (arguments (of_type (whole.integer of)) no_arguments)) result
            (sym (ap (λ sense. applied (Some sense) (one ∷ [])) (sense_here heads its head is) ∙ is_meant head is one
            means)
            ∙ e))
            (option_is program noted checked its head is (text_is head is) of)

  -- an argument as it is given in a declaration of a class
  abbrev given_in : Standing → WrittenType → Given
  given_in d t = record {
    as_type = meant [] (the_parameter ∷ []) (types_at program d.place d.part) (heads_of program) t;
    as_region = region_meant [] (the_parameter ∷ []) (types_at program d.place d.part) (heads_of program) t;
  }

  abbrev sense_in : Standing → Bytes → Option Sense
  sense_in d name = sense_of [] (the_parameter ∷ []) (types_at program d.place d.part) (heads_of program) name

  -- a result that is written so is an `Option` of integers
  pub gives_option : (d : Standing) → d.place ≡ place → d.part ≡ Interface → (t : WrittenType) (of : IntKind)
      → is_option of t ≡ true → (result : Meaning) → meant_in program d (the_parameter ∷ []) t ≡ Some result
      → (s : Bindings) (z : ℕ) (put : Bindings)
      → IsOptionOf (types_of program) (running s z (substituted put result)) (whole.integer of)
  unfolding meant all_given
  gives_option d at_place of_part (named name (types one no_types)) of e result means s z put =
      let parts = and_parts (bytes_eq name.name (codes "Option")) (is_kind of (over_class one)) e in
      gives_so of (given_in d one) (means_so program d one (whole.integer of) (kind_is of (over_class one) parts.1))
      result
      (sym (ap (λ n. applied (sense_in d n) (given_in d one ∷ []))
      ((bytes_eq-Decides name.name (codes "Option")).0 parts.0)
      ∙ ap (λ o. applied (option_map (declared_sense heads) o) (given_in d one ∷ [])) (option_seen d at_place of_part))
      ∙ means) s z put
  gives_option d at_place of_part other of e result means s z put = absurd cc
