-- The arguments of a call as a list, and a call in three steps.
use Rattle.std.proofs.Common.{◌≡◌, ◌==◌, ℕ, suc, List, [], ◌∷◌, Option, Some, Ok}
use Rattle.std.proofs.Common.{Err, refl, sym, ap, subst, ◌∙◌, length, map}
use Rattle.std.proofs.Common.{Result, IfOk, Vec}
use Rattle.std.specs.Borrow.{Bor}
use Rattle.std.specs.Global.{Global}
use Rattle.std.proofs.lemmas.List.{length-map}
use Rattle.au_matching.specs.Bindings.{Bindings}
use Rattle.au_noting.specs.declared.faults.Fault as told
use Rattle.au_noting.specs.Giving.{Gives, Stops}
use Rattle.au_noting.specs.Said.{meanings}
use Rattle.au_noting_expressions.specs.declared.noted_operands.Operands as code
use Rattle.au_noting_expressions.specs.declared.noted_operands.Operands.TheVariants as form
use Rattle.au_noting_expressions.specs.Arguments.{ReadArgument, ReadCode, each_operand, mistaken, operands_of}
use Rattle.au_noting_expressions.specs.Arguments.{takes, value_of, values}
use Rattle.au_noting_expressions.specs.Passing.{both_passes, call_begun}
use Rattle.au_noting_expressions.proofs.Steps.{gives_at, step_after, stops_at, stops_first}
use Rattle.au_typing.specs.Scopes.{Callable, Scope, Typed}
use Rattle.au_syntax.specs.contracts.parsed.ParsedPhase.TheImpl.{ghosts as parsed}
use Rattle.au_syntax.specs.Plain.{Bytes}
use Rattle.au_syntax.specs.Views.{argument_all, expression, expression_all}
use Rattle.au_types.specs.declared.types.Ty.{Ty}
use Rattle.au_types.specs.Types.{Meaning}
use Rattle.au_types.specs.Views.{meaning}
use Rattle.au_typing.specs.Bare.{is_bare}
use Rattle.au_typing.specs.Calls.{begun, by_labels, each_is_named_once, in_order, labelled_types}
use Rattle.au_typing.specs.Faults.{Noting, ◌>>=◌, Why, known_or, unknown}
use Rattle.au_typing.specs.Good.{count_of, labels_of}
use Rattle.au_typing.specs.Notes.{Mode, Note, NotedExpression}
use Rattle.au_typing.specs.Search.{another_number, labelled_operands, note_expression, operands, other_labels}
use Rattle.au_typing.specs.SearchCalls.{Operand, call_noted, first, result_differs, second, with_arguments}
use Rattle.au_typing.proofs.Steps.{known_ok}
use Rattle.au_typing.proofs.LabelledLemmas.{where_named, labelled_length, ordered}

-- ---- arguments as a list

pub count_is : (es : List ReadCode) → count_of (expression_all parsed es) ≡ length es
count_is [] = refl
count_is (e ∷ es) = ap suc (count_is es)

labels_are : (args : List ReadArgument) → length (labels_of (argument_all parsed args)) ≡ length args
labels_are [] = refl
labels_are (one ∷ args) = ap suc (labels_are args)

module _ (scope : Scope) where
  operands_are : (es : List ReadCode) → operands scope (expression_all parsed es) ≡ each_operand scope es
  operands_are [] = refl
  operands_are (e ∷ es) =
      ap (λ (ops : List Operand). record
      { bare = is_bare (expression parsed e); noter = note_expression scope (expression parsed e) } ∷ ops)
      (operands_are es)

  labelled_are : (args : List ReadArgument) → labelled_operands scope (argument_all parsed args)
      ≡ each_operand scope (map value_of args)
  labelled_are [] = refl
  labelled_are (one ∷ args) =
      ap (λ (ops : List Operand). record {
        bare = is_bare (expression parsed one.value);
        noter =
            note_expression scope (expression parsed one.value);
      } ∷ ops) (labelled_are args)

  pub each_of : (ops : code.Operands) → operands_of scope ops ≡ each_operand scope (values ops)
  each_of (form.Positional args) = operands_are args.now.items
  each_of (form.Labelled args) = labelled_are args.now.items

-- ---- there are as many types as arguments

takes_length : (ops : code.Operands) (params : List Typed) (types : List Meaning) →
    takes ops params ≡ Some types → length types ≡ length (values ops)
takes_length (form.Positional args) params types h =
    ordered (length params == count_of (expression_all parsed args.now.items))
    (count_of (expression_all parsed args.now.items)) params types refl h ∙ count_is args.now.items
takes_length (form.Labelled args) params types h =
    let labels = labels_of (argument_all parsed args.now.items) in
    where_named (each_is_named_once labels params) (labelled_types labels params) (length labels) types
    (λ ts is. labelled_length labels params ts is) h
    ∙ (labels_are args.now.items ∙ sym (length-map args.now.items value_of))

types_length : (ops : code.Operands) (params : List Typed) (r : Result (Vec Ty Global) told.Fault) →
    Gives (λ (types : Vec Ty Global). meanings types.items) r
    (known_or (mistaken ops params) (takes ops params)) →
    IfOk r (λ (types : Vec Ty Global). length types.items ≡ length (values ops))
types_length ops params (Ok types) h =
    sym (length-map types.items meaning) ∙ takes_length ops params (meanings types.items)
    (known_ok (mistaken ops params) (takes ops params) (meanings types.items) h)
types_length ops params (Err e) h = tt

pub ordered_types : (ops : code.Operands) (args : Bor (Vec ReadCode Global)) → ops ≡ form.Positional args →
    (n : ℕ) → n ≡ length args.now.items → (params : List Typed) →
    known_or (another_number params) (in_order n params) ≡ known_or (mistaken ops params) (takes ops params)
ordered_types ops args is n n_is params =
    ap (λ (k : ℕ). known_or (another_number params) (in_order k params)) (n_is ∙ sym (count_is args.now.items))
    ∙ ap (λ (o : code.Operands). known_or (mistaken o params) (takes o params)) (sym is)

pub labelled_types_length : (ops : code.Operands) (args : Bor (Vec ReadArgument Global)) →
    ops ≡ form.Labelled args → (xs : List ReadArgument) → xs ≡ args.now.items →
    (params : List Typed) (r : Result (Vec Ty Global) told.Fault) →
    Gives (λ (types : Vec Ty Global). meanings types.items) r
    (known_or (other_labels params) (by_labels (labels_of (argument_all parsed xs)) params)) →
    IfOk r (λ (types : Vec Ty Global). length types.items ≡ length (values ops))
labelled_types_length ops args is xs xs_is params r h =
    types_length ops params r
    (gives_at (λ (types : Vec Ty Global). meanings types.items) r
    (known_or (other_labels params) (by_labels (labels_of (argument_all parsed xs)) params))
    (known_or (mistaken ops params) (takes ops params))
    (ap (λ (l : List ReadArgument). known_or (other_labels params)
    (by_labels (labels_of (argument_all parsed l)) params)) xs_is
    ∙ ap (λ (o : code.Operands). known_or (mistaken o params) (takes o params)) (sym is))
    h)

-- ---- a call in three steps

module _ (scope : Scope) (mode : Mode) (ops : List Operand) where
  abbrev pub goes_on : Callable × List Meaning × Bindings → Noting (Note × List NotedExpression)
  goes_on b = both_passes ops b.1 b.2 >>= with_arguments scope mode b.0

  begins : (called : Callable) (types : List Meaning) (r : Noting Bindings) →
      (r >>= λ s. first ops types s >>= λ halves. second ops halves.0 types halves.1 >>=
      with_arguments scope mode called)
      ≡ ((r >>= λ s. Ok (called, types, s)) >>= goes_on)
  begins called types (Ok s) = step_after (first ops types s) (λ halves. second ops halves.0 types halves.1)
      (with_arguments scope mode called)
  begins called types (Err e) = refl

  typed_so : (called : Callable) (r : Noting (List Meaning)) (begun : Noting Bindings) →
      (r >>= λ types. begun >>= λ s. first ops types s >>= λ halves. second ops halves.0 types halves.1 >>=
      with_arguments scope mode called)
      ≡ ((r >>= λ types. begun >>= λ s. Ok (called, types, s)) >>= goes_on)
  typed_so called (Ok types) begun = begins called types begun
  typed_so called (Err e) begun = refl

  in_parts : (r : Noting Callable) (typed : Callable → Noting (List Meaning)) (begun : Callable → Noting Bindings) →
      (r >>= λ called. typed called >>= λ types. begun called >>= λ s. first ops types s >>=
      λ halves. second ops halves.0 types halves.1 >>= with_arguments scope mode called)
      ≡ ((r >>= λ called. typed called >>= λ types. begun called >>= λ s. Ok (called, types, s)) >>= goes_on)
  in_parts (Ok called) typed begun = typed_so called (typed called) (begun called)
  in_parts (Err e) typed begun = refl

  pub call_in_steps : (name : Bytes) (takes : List Typed → Option (List Meaning)) (mistaken : List Typed → Why) →
      call_noted scope name takes mistaken mode ops ≡ (call_begun scope name takes mistaken mode >>= goes_on)
  call_in_steps name takes mistaken =
      in_parts (known_or (unknown name) (scope.outside.callable name))
      (λ (called : Callable). known_or (mistaken called.parameters) (takes called.parameters))
      (λ (called : Callable). known_or (result_differs mode called.result) (begun mode called.result))

-- the call of a name, by the arguments that the code has
module _ (scope : Scope) (mode : Mode) (ops : code.Operands) (name : Bytes) where
  abbrev begins_as : Noting (Callable × List Meaning × Bindings)
  begins_as = call_begun scope name (takes ops) (mistaken ops) mode

  abbrev whole : Noting (Note × List NotedExpression)
  whole = call_noted scope name (takes ops) (mistaken ops) mode (operands_of scope ops)

  abbrev passes : List Meaning → Bindings → Noting (List NotedExpression × Bindings)
  passes types s = both_passes (each_operand scope (values ops)) types s

  -- what stops its beginning stops it
  pub begun_stops : (f : told.Fault) → Stops f begins_as → Stops f whole
  begun_stops f h =
      stops_at f (begins_as >>= goes_on scope mode (operands_of scope ops)) whole
      (sym (call_in_steps scope mode (operands_of scope ops) name (takes ops) (mistaken ops)))
      (stops_first f begins_as (goes_on scope mode (operands_of scope ops)) h)

  after_begun : (called : Callable) (types : List Meaning) (s : Bindings) →
      begins_as ≡ Ok (called, types, s) → whole ≡ (passes types s >>= with_arguments scope mode called)
  after_begun called types s h =
      call_in_steps scope mode (operands_of scope ops) name (takes ops) (mistaken ops)
      ∙ (ap (λ (r : Noting (Callable × List Meaning × Bindings)). r >>= goes_on scope mode (operands_of scope ops)) h
      ∙ ap (λ (l : List Operand). both_passes l types s >>= with_arguments scope mode called) (each_of scope ops))

  module _ (called : Callable) (all xs : List Ty) (s : Bindings)
      (begun_so : begins_as ≡ Ok (called, meanings all, s)) (same : xs ≡ all) where
    -- what stops the passes over its arguments stops it
    pub passes_stop : (f : told.Fault) → Stops f (passes (meanings xs) s) → Stops f whole
    passes_stop f h =
        stops_at f (passes (meanings all) s >>= with_arguments scope mode called) whole
        (sym (after_begun called (meanings all) s begun_so))
        (stops_first f (passes (meanings all) s) (with_arguments scope mode called)
        (subst (λ (l : List Ty). Stops f (passes (meanings l) s)) same h))

    -- the rest of it is judged after them
    pub passes_end : (args : List NotedExpression) (q : Bindings) → passes (meanings xs) s ≡ Ok (args, q) →
        with_arguments scope mode called (args, q) ≡ whole
    passes_end args q h =
        sym (after_begun called (meanings all) s begun_so
        ∙ (ap (λ (l : List Ty). passes (meanings l) s >>= with_arguments scope mode called) (sym same)
        ∙ ap (λ (r : Noting (List NotedExpression × Bindings)). r >>= with_arguments scope mode called) h))
