-- Calls do the same where notes are closed, and so do bodies.
use Rattle.std.proofs.Common.{◌≡◌, ℕ, ◌+◌, ◌==◌, Bool, true, List, [], length, Option, Some, None, refl, sym, ap, ◌∙◌}
use Rattle.std.specs.Prelude.{unwrap_or}
use Rattle.std.specs.Option.{option_map}
use Rattle.au_shipped.specs.declared.prims.ShippedCall.{ShippedCall}
use Rattle.au_syntax.specs.declared.modules.Part.TheVariants.{Body}
use Rattle.au_types.specs.declared.spaces.Space.TheVariants.{Callables}
use Rattle.au_types.specs.Tables as tables
use Rattle.au_types.specs.Types.{parameter}
use Rattle.au_matching.specs.Substituted.{substituted}
use Rattle.au_names.specs.declared.targets.Target.{Target}
use Rattle.au_instances.specs.Rows.{Row}
use Rattle.au_classes.specs.Rows.{rows_of}
use Rattle.au_typing.specs.Written.{seen_at}
use Rattle.au_syntax.specs.Plain.{Bytes}
use Rattle.au_syntax.specs.Statements.{Statements}
use Rattle.au_types.specs.declared.parameters.Parameter.{Parameter}
use Rattle.au_types.specs.declared.types.DeclAt.{DeclAt}
use Rattle.au_modules.specs.Programs.{ModuleParts}
use Rattle.au_names.specs.HeadsOf.{heads_of}
use Rattle.au_type_texts.specs.Types.{ClosedType}
use Rattle.au_typing.specs.Notes.{Note}
use Rattle.au_typing.specs.Trees.{NotedParts}
use Rattle.au_type_texts.specs.Given.{Given, closed_under}
use Rattle.au_closed_trees.specs.Changes.{Change}
use Rattle.au_closed_trees.specs.ClosedNotes.{Callee, ClosedNote, constructor, instance, shipped}
use Rattle.au_closed_trees.specs.Renoted.{block_renoted}
use Rattle.au_closing.specs.Bodies.{constant_seen, value_of}
use Rattle.au_closing.specs.Closes.{ClosedFunction, change_of, mention_closed, note_closed}
use Rattle.au_closing.specs.Instances.{Instance, instance_of, numbered, place_in, same_instance}
use Rattle.au_closing.specs.Leading.{Called, a_function, a_maker, a_method, call_leads, called_leads}
use Rattle.au_closing.specs.Leading.{case_name, method_leads, module_name, shipped_or, target_leads}
use Rattle.au_closing.proofs.ClosesLemmas.{instances_told}
use Rattle.au_graphs.specs.Reached.{Has}
use Rattle.au_graphs.proofs.HasLemmas.{has_it}
use Rattle.au_meaning.specs.Acts.{begins, makes_value, new_names, closing, ends_frame}
use Rattle.au_meaning.specs.Expressions.{calls, acts, copies}
use Rattle.au_meaning.specs.Meanings.{enters, returned}
use Rattle.au_meaning.specs.Names.{with_parameters}
use Rattle.au_meaning.specs.Ticks.{Action, pure, needing, where_true, does, ◌>>=◌, ◌>>◌}
use Rattle.au_meaning.specs.Views.{Act, Field, View, invokes, makes}
use Rattle.au_meaning.specs.Worlds.{Value}
use Rattle.au_closed_meanings.specs.Surroundings.{Surroundings, call_noted, constant_noted, field_names}
use Rattle.au_closed_meanings.specs.Surroundings.{is_free, view_in, with_parameters as with_their_names}
use Rattle.au_closed_meanings.specs.Agreement.{AgreeOnTypes, AgreeOnMention, AgreeOnCall, AgreeInBlock, FieldsCount}
use Rattle.au_closed_meanings.proofs.CountLemmas.{parameters_count}
use Rattle.au_closed_meanings.proofs.SameStatements.{names_same_block, one_meaning}
use Rattle.au_closed_meanings.specs.Closed.{names_at}
use Rattle.au_closed_meanings.specs.Kept.{SaysWhatIs, TypesCount}
use Rattle.au_closed_meanings.specs.Generic.{constant_of, fields_in, lead_does, names_of_instance, view_under}
use Rattle.au_closed_meanings.proofs.EachLemmas.{Within}

-- ---- bodies

-- a function does the same with other notes
pub enters_same : {I J T C U D : Type 0} (known : ClosedType → Bool) (change : Change Bytes T C U D)
    (one : View I T C) (two : View J U D) (agree : AgreeOnTypes known change one two)
    (invoke : I → List Value → Action Value)
    (other : J → List Value → Action Value) (depth first : ℕ) (parameters : List Field)
    (body : Statements Bytes T C)
    → FieldsCount known parameters
    → AgreeInBlock known change one two invoke other body
    → enters invoke depth (Some (record { view = one; parameters = parameters; first = first; body = body }))
    ≡ enters other depth
    (Some (record { view = two; parameters = parameters; first = first; body = block_renoted change body }))
enters_same known change one two agree invoke other depth first parameters body count ok =
    λ i args. where_true (length args == length parameters) (do
      does (begins (new_names first args (names_same_block change body i)))
      value ← closing (one_meaning known change one two invoke other depth (first + length args)
          (with_parameters first parameters []) body agree
          (parameters_count known first parameters count [] tt) ok i >>= returned)
      does ends_frame
      pure value)

-- ---- calls

-- a call of what has parameters does the same where what is done with arguments is the same
calls_known : {I J T C U D : Type 0} (one : View I T C) (two : View J U D)
    (invoke : I → List Value → Action Value)
    (other : J → List Value → Action Value) (act : Act I) (act2 : Act J)
    → acts one invoke act ≡ acts two other act2
    → (names : Option (List Bytes)) (order : List Bytes → Option (List Value))
    → calls one invoke (option_map (λ (all : List Bytes). record { parameters = all; act = act }) names) order
    ≡ calls two other (option_map (λ (all : List Bytes). record { parameters = all; act = act2 }) names) order
calls_known one two invoke other act act2 same None order = refl
calls_known one two invoke other act act2 same (Some names) order = λ i. needing (order names) (same i)

-- the same of what has fields, where what is done is the same where the fields are known
makes_known : {I J T C U D : Type 0} (one : View I T C) (two : View J U D)
    (invoke : I → List Value → Action Value) (other : J → List Value → Action Value) (act : Act I)
    (act2 : Act J)
    (fields : Option (List Field))
    → ((all : List Field) → fields ≡ Some all → acts one invoke act ≡ acts two other act2)
    → (order : List Bytes → Option (List Value))
    → calls one invoke
    (option_map (λ (all : List Bytes). record { parameters = all; act = act })
    (option_map field_names fields)) order
    ≡ calls two other
    (option_map (λ (all : List Bytes). record { parameters = all; act = act2 })
    (option_map field_names fields)) order
makes_known one two invoke other act act2 None same order = refl
makes_known one two invoke other act act2 (Some all) same order =
    λ i. needing (order (field_names all)) (same all refl i)

-- a call that leads to a constructor makes a value of this type
abbrev MakesOf : ClosedType → Callee (Option Instance) → Type 0
MakesOf of (instance one) = Unit {0}
MakesOf of (constructor made tag) = made ≡ of
MakesOf of (shipped call) = Unit {0}

shipped_makes : (of : ClosedType) (call : Option ShippedCall) (one : Instance)
    → MakesOf of (shipped_or call one)
shipped_makes of None one = tt
shipped_makes of (Some call) one = tt

method_makes : (program : List ModuleParts) (rows : List Row) (of : ClosedType) (name : Bytes)
    (t : ClosedType)
    (row : Option Row) → MakesOf of (method_leads program rows name t row)
method_makes program rows of name t None = tt
method_makes program rows of name t (Some row) = shipped_makes of _ _

called_makes : (program : List ModuleParts) (rows : List Row) (given : Given) (note : Note) (target : Target)
    (called : Option Called)
    → MakesOf (closed_under given note.of) (called_leads program rows given note target called)
called_makes program rows given note target None = tt
called_makes program rows given note target (Some (a_function name names)) =
    shipped_makes (closed_under given note.of) _ _
called_makes program rows given note target (Some (a_method name param)) =
    method_makes program rows (closed_under given note.of) name
    (closed_under given (substituted (unwrap_or note.call []) (parameter param))) _
called_makes program rows given note target (Some (a_maker place)) = refl

target_makes : (program : List ModuleParts) (rows : List Row) (given : Given) (note : Note)
    (target : Option Target)
    → MakesOf (closed_under given note.of) (target_leads program rows given note target)
target_makes program rows given note None = tt
target_makes program rows given note (Some target) = called_makes program rows given note target _

module _ (program : List ModuleParts) (noted : List NotedParts) (all : List Instance) (place : ℕ)
    (params : List Parameter) (given : Given) where
  abbrev one : View Instance Note (Unit {0})
  one = view_under program noted place params given

  abbrev home : Bytes
  home = module_name program place

  -- what becomes of the body
  abbrev pub closer : Change Bytes Note (Unit {0}) ClosedNote (Callee ℕ)
  closer = change_of program noted all place params given

  value_same : (note : Note) (constant : Option DeclAt)
      → constant_of program noted constant
      ≡ constant_noted (mention_closed (heads_of program) (value_of program noted) params given note constant)
  value_same note None = refl
  value_same note (Some at) = refl

  module _ (functions : List ClosedFunction) (round : Bytes → Surroundings) (known : ClosedType → Bool)
      (says : SaysWhatIs known program functions round) (counts : TypesCount known program functions) where
    abbrev two : View ℕ ClosedNote (Callee ℕ)
    two = view_in (round home)

    pub types_agree : AgreeOnTypes known closer one two
    types_agree = record {
      notes = λ note. refl;
      mentions = λ note name. refl;
      fields = λ of c tag. sym (says.fields home of c tag);
      inside = counts.inside;
      references = counts.references;
      tags = λ of c name. sym (says.tags home of c (case_name program place name));
    }

    -- a name that is mentioned does the same
    pub mention_agrees : (note : Note) (name : Bytes)
        → AgreeOnMention known closer one two note name
    mention_agrees note name None =
        λ i. needing (value_same note (constant_seen program place name) i) pure
    mention_agrees note name (Some x) = refl

    -- ---- calls

    module _ (invoke : Instance → List Value → Action Value) (other : ℕ → List Value → Action Value)
        (same : (x : Instance) → Has same_instance all x → invoke x ≡ other (place_in x all))
        (named : (x : Instance) → Has same_instance all x
        → names_of_instance program noted x ≡ names_at functions (place_in x all))
        (none : names_at functions (length all) ≡ None) where
      lead_same : (note : Note) → known (closed_under given note.of) ≡ true
          → (lead : Callee (Option Instance))
          → MakesOf (closed_under given note.of) lead
          → Within same_instance all (instance_of lead)
          → (order : List Bytes → Option (List Value))
          → calls one invoke (lead_does program noted place (closed_under given note.of) lead) order
          ≡ calls two other (call_noted (round home) (note_closed given note) (numbered all lead)) order
      lead_same note k (instance None) is w order =
          ap (λ names. calls two other (with_their_names names (invokes (length all))) order)
          (sym (says.parameters home (length all) ∙ none))
      lead_same note k (instance (Some x)) is w order =
          let here = w x (has_it same_instance instances_told [] [] x) in
          calls_known one two invoke other (invokes x) (invokes (place_in x all)) (same x here)
          (names_of_instance program noted x) order
          ∙ ap (λ names. calls two other (with_their_names names (invokes (place_in x all))) order)
          (named x here ∙ sym (says.parameters home (place_in x all)))
      lead_same note k (constructor made tag) is w order =
          let counts_too : known made ≡ true = ap known is ∙ k in
          makes_known one two invoke other (makes made tag home) (makes made tag (round home).home)
          (fields_in program made tag)
          (λ fields there i args. makes_value
          (sym (says.linear home made counts_too (tag, fields, there)) i) made tag
          (sym (says.homes home) i) args)
          order
          ∙ ap (λ fields. calls two other
          (with_their_names (option_map field_names fields) (makes made tag (round home).home)) order)
          (sym (says.fields home made counts_too tag))
      lead_same note k (shipped call) is w order = refl

      -- a call does the same, where what it leads to is listed
      pub call_agrees : (note : Note) (c : Unit {0}) (name : Bytes)
          → known (closed_under given note.of) ≡ true
          → Within same_instance all (instance_of (call_leads program place given note name))
          → AgreeOnCall known closer one two invoke other note c name
      call_agrees note c name k w =
          lead_same note k (call_leads program place given note name)
          (target_makes program (rows_of program) given note
          (tables.find name (seen_at Callables program place Body))) w
