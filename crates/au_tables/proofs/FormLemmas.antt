-- Each form of types is its own.
use Rattle.std.proofs.Common.{◌≡◌, ℕ, Bool, true, false, true≢false, List, Option, None, Some, refl, sym, ap, ◌∙◌}
use Rattle.std.specs.Prelude.{if◌then◌else◌}
use Rattle.std.specs.Str.{bytes_eq}
use Rattle.std.proofs.lemmas.Option.{none-some}
use Rattle.std.proofs.lemmas.Slice.Eq.{bytes_eq-Decides}
use Rattle.au_syntax.specs.Plain.{Bytes}
use Rattle.au_types.specs.declared.headings.Head.{Head}
use Rattle.au_types.specs.declared.types.DeclAt.{DeclAt}
use Rattle.au_types.specs.Rows.{head_of}
use Rattle.au_types.specs.Types.{Meaning, Arguments, named, of_type, in_region, no_arguments, arguments}
use Rattle.au_memory.specs.Shown.{AreDeclared, IsDeclared}
use Rattle.au_lending.specs.Buffers.{BuffersAreAlone}
use Rattle.au_lending.specs.Laws.{BoxesAreAlone}
use Rattle.au_lending.specs.Parting.{CasesAreAlone}
use Rattle.au_acting.specs.Granting.{GrantsAreAlone}
use Rattle.au_modules.specs.Programs.{ModuleParts}
use Rattle.au_names.specs.HeadsOf.{heads_of}
use Rattle.au_names.specs.Standing.{definition_of}
use Rattle.au_tables.specs.Tables.{BirthsAreShipped, argument_of, box_text, buffer_text, defined_fields, fields_in}
use Rattle.au_tables.specs.Tables.{has_text, is_called, is_of_births, is_one_of, is_well_formed, root_text}
use Rattle.au_tables.specs.Tables.{terminal_text, types_of}

text_is : (text : Bytes) (o : Option Head) → has_text text o ≡ true
    → (head : Head) × (o ≡ Some head) × (head.text ≡ text)
text_is text None e = absurd (true≢false (sym e))
text_is text (Some head) e = (head, refl, (bytes_eq-Decides head.text text).0 e)

module _ (program : List ModuleParts) where
  -- ---- which types have forms

  fields_declared : (t : Meaning) (tag : ℕ) (of : List Meaning) → fields_in program t tag ≡ Some of → IsDeclared t
  fields_declared (named at args) tag of e = tt
  fields_declared other tag of e = absurd (none-some of e)

  argument_declared : (text : Bytes) (t of : Meaning) → argument_of program text t ≡ Some of → IsDeclared t
  argument_declared text (named at args) of e = tt
  argument_declared text other of e = absurd (none-some of e)

  one_declared : (text : Bytes) (t : Meaning) → is_one_of program text t ≡ true → IsDeclared t
  one_declared text (named at args) e = tt
  one_declared text other e = absurd (true≢false (sym e))

  pub all_declared : AreDeclared (types_of program)
  all_declared = record {
    fields = fields_declared;
    boxes = argument_declared box_text;
    buffers = argument_declared buffer_text;
    terminals = one_declared terminal_text;
    roots = one_declared root_text;
  }

  -- ---- which text a form has

  pub argument_called : (text : Bytes) (at : DeclAt) (args : Arguments) (of : Meaning)
      → argument_of program text (named at args) ≡ Some of → is_called program text at ≡ true
  argument_called text at (arguments (of_type t) no_arguments) of e = by (is_called program text at) e
    where
      by : (b : Bool) → (if b then Some t else None) ≡ Some of → b ≡ true
      by true e = refl
      by false e = absurd (none-some of e)
  argument_called text at no_arguments of e = absurd (none-some of e)
  argument_called text at (arguments (in_region region) rest) of e = absurd (none-some of e)
  argument_called text at (arguments (of_type t) (arguments one rest)) of e = absurd (none-some of e)

  -- a declared type has one text
  one_text : (text other : Bytes) (at : DeclAt) → bytes_eq text other ≡ false → is_called program text at ≡ true
      → is_called program other at ≡ true → ⊥
  one_text text other at differ e f = by (text_is text (head_of (heads_of program) at) e)
    where
      by : (head : Head) × (head_of (heads_of program) at ≡ Some head) × (head.text ≡ text) → ⊥
      by (head, has, is) =
          let its : bytes_eq head.text other ≡ true = sym (ap (has_text other) has) ∙ f in
          true≢false (sym ((bytes_eq-Decides text other).1 (sym is ∙ (bytes_eq-Decides head.text other).0 its)) ∙ differ)

  module _ (shipped : BirthsAreShipped program) where
    -- what has births has no fields
    no_fields : (text : Bytes) → is_of_births text ≡ true → (at : DeclAt) (args : Arguments) (tag : ℕ)
        (parts : List Meaning) → is_called program text at ≡ true → fields_in program (named at args) tag ≡ Some parts
        → ⊥
    no_fields text births at args tag parts e f = by (text_is text (head_of (heads_of program) at) e)
        (is_well_formed program (named at args)) f
      where
        by : (head : Head) × (head_of (heads_of program) at ≡ Some head) × (head.text ≡ text) → (b : Bool)
            → (if b then defined_fields program args tag (definition_of program at) else None) ≡ Some parts → ⊥
        by its false f = none-some parts f
        by (head, has, is) true f =
            let none = shipped.undefined at head has (ap is_of_births is ∙ births) in
            none-some parts (sym (ap (defined_fields program args tag) none) ∙ f)

    argument_alone : (text : Bytes) → is_of_births text ≡ true → (t of : Meaning) (tag : ℕ) (parts : List Meaning)
        → argument_of program text t ≡ Some of → fields_in program t tag ≡ Some parts → ⊥
    argument_alone text births (named at args) of tag parts e f =
        no_fields text births at args tag parts (argument_called text at args of e) f
    argument_alone text births other of tag parts e f = none-some of e

    one_alone : (text : Bytes) → is_of_births text ≡ true → (t : Meaning) (tag : ℕ) (parts : List Meaning)
        → is_one_of program text t ≡ true → fields_in program t tag ≡ Some parts → ⊥
    one_alone text births (named at args) tag parts e f = no_fields text births at args tag parts e f
    one_alone text births other tag parts e f = true≢false (sym e)

    arguments_apart : (text other : Bytes) → bytes_eq text other ≡ false → (t of item : Meaning)
        → argument_of program text t ≡ Some of → argument_of program other t ≡ Some item → ⊥
    arguments_apart text other differ (named at args) of item e f =
        one_text text other at differ (argument_called text at args of e) (argument_called other at args item f)
    arguments_apart text other differ t of item e f = none-some of e

    argument_apart : (text other : Bytes) → bytes_eq text other ≡ false → (t of : Meaning)
        → argument_of program text t ≡ Some of → is_one_of program other t ≡ true → ⊥
    argument_apart text other differ (named at args) of e f =
        one_text text other at differ (argument_called text at args of e) f
    argument_apart text other differ t of e f = none-some of e

    ones_apart : (text other : Bytes) → bytes_eq text other ≡ false → (t : Meaning)
        → is_one_of program text t ≡ true → is_one_of program other t ≡ true → ⊥
    ones_apart text other differ (named at args) e f = one_text text other at differ e f
    ones_apart text other differ t e f = true≢false (sym e)

    pub boxes_alone : BoxesAreAlone (types_of program)
    boxes_alone = record {
      fields = λ t of tag parts e f. argument_alone box_text refl t of tag parts e f;
      buffers = λ t of item e f. arguments_apart box_text buffer_text refl t of item e f;
      terminals = λ t of e f. argument_apart box_text terminal_text refl t of e f;
      roots = λ t of e f. argument_apart box_text root_text refl t of e f;
    }

    pub buffers_alone : BuffersAreAlone (types_of program)
    buffers_alone = record {
      fields = λ t of tag parts e f. argument_alone buffer_text refl t of tag parts e f;
      boxes = λ t of content e f. arguments_apart buffer_text box_text refl t of content e f;
      terminals = λ t of e f. argument_apart buffer_text terminal_text refl t of e f;
      roots = λ t of e f. argument_apart buffer_text root_text refl t of e f;
    }

    pub cases_alone : CasesAreAlone (types_of program)
    cases_alone = record {
      boxes = λ t of tag parts f e. argument_alone box_text refl t of tag parts e f;
      buffers = λ t of tag parts f e. argument_alone buffer_text refl t of tag parts e f;
      terminals = λ t tag parts f e. one_alone terminal_text refl t tag parts e f;
      roots = λ t tag parts f e. one_alone root_text refl t tag parts e f;
    }

    pub grants_alone : GrantsAreAlone (types_of program)
    grants_alone = record {
      terminal_fields = λ t tag parts e f. one_alone terminal_text refl t tag parts e f;
      terminal_boxes = λ t of e f. argument_apart box_text terminal_text refl t of f e;
      terminal_buffers = λ t of e f. argument_apart buffer_text terminal_text refl t of f e;
      root_fields = λ t tag parts e f. one_alone root_text refl t tag parts e f;
      root_boxes = λ t of e f. argument_apart box_text root_text refl t of f e;
      root_buffers = λ t of e f. argument_apart buffer_text root_text refl t of f e;
      either = λ t e f. ones_apart terminal_text root_text refl t e f;
    }

    -- ---- what has births isn't Free

    pub births_linear : (text : Bytes) → is_of_births text ≡ true → (at : DeclAt) → is_called program text at ≡ true
        → (head : Head) × (head_of (heads_of program) at ≡ Some head) × (is_of_births head.text ≡ true)
    births_linear text births at e = by (text_is text (head_of (heads_of program) at) e)
      where
        by : (head : Head) × (head_of (heads_of program) at ≡ Some head) × (head.text ≡ text)
            → (head : Head) × (head_of (heads_of program) at ≡ Some head) × (is_of_births head.text ≡ true)
        by (head, has, is) = (head, has, ap is_of_births is ∙ births)
