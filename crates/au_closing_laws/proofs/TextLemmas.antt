-- Where the instances of a program stand, and what their rows say.
use Rattle.std.proofs.Common.{◌≡◌, ◌⊎◌, inl, inr, ℕ, suc, ◌+◌, Bool, true, false, List, [], ◌∷◌}
use Rattle.std.proofs.Common.{length, find, Option, None, Some, refl, sym, ap, ◌∙◌, subst, arith}
use Rattle.std.specs.Prelude.{Contains, slice_get, unwrap_or}
use Rattle.std.specs.List.{position_from}
use Rattle.std.specs.Option.{option_map}
use Rattle.std.proofs.lemmas.List.Elements.{Contains-append_cases}
use Rattle.std.proofs.lemmas.Option.{none-some, same_Some, slice_get-map}
use Rattle.au_base.specs.declared.places.Pos.{Pos}
use Rattle.au_base.proofs.ListLemmas.{nothing_there, Contains-cases}
use Rattle.au_syntax.specs.declared.modules.Part.TheVariants.{Interface, Body}
use Rattle.au_syntax.specs.Modules.{constant, opaque_type, record_type, union_type, function}
use Rattle.au_syntax.specs.Modules.{class, instance, constant_body, function_body, instance_body}
use Rattle.au_syntax.specs.Plain.{Bytes, PlainDeclaration, PlainMethod}
use Rattle.au_types.specs.declared.headings.Head.{Head}
use Rattle.au_types.specs.declared.types.DeclAt.{DeclAt}
use Rattle.au_types.specs.Types.{Meaning}
use Rattle.au_modules.specs.Programs.{Entry, ModuleParts}
use Rattle.au_names.specs.Exporting.{declarations_seen}
use Rattle.au_names.specs.HeadsOf.{heads_of}
use Rattle.au_names.specs.Owned.{declarations_in}
use Rattle.au_judged_types.specs.Agreement.{found}
use Rattle.au_judged_types.specs.Judging.{judged}
use Rattle.au_judged_types.specs.declared.reading.Meant.{Meant}
use Rattle.au_judged_types.specs.declared.reading.Meant.TheVariants.{Are, Fails}
use Rattle.au_judged_types.specs.Bounds.{Bounded, parameters}
use Rattle.au_judged_types.specs.Meanings.{class_meant, generics_meant}
use Rattle.au_promises.specs.Agreeing.{scope_of, sight_of}
use Rattle.au_promises.specs.Promises.{instance_defined}
use Rattle.au_instances.specs.Rows.{Row}
use Rattle.au_classes.specs.Classes.{visible_at}
use Rattle.au_classes.specs.Indices.{first_index, is_among}
use Rattle.au_classes.specs.Texts.{InstanceText, declared_at, defined, defined_from, definition_at}
use Rattle.au_classes.specs.Texts.{definition_index, definition_indices, instances_from, instances_in}
use Rattle.au_classes.specs.Texts.{instances_of, methods_at, methods_in, module_instances, promised}
use Rattle.au_classes.specs.Texts.{promised_from, put_before, unless_promised}
use Rattle.au_classes.proofs.IndexLemmas.{found_none, found_there}
use Rattle.au_classes.specs.Rows.{row_in, row_of, row_of_class, row_over, row_seen, row_with}

-- ---- what a row says

module _ (text : InstanceText) (names : List (Bytes × DeclAt)) (heads : List (DeclAt × Head)) where
  -- the row of an instance has its number, the class that its name means, what its type parameters mean, and
  -- the type that it is judged to be for
  pub record Says (row : Row) : Type 0 where
    pub number : row.instance ≡ text.number
    pub class : class_meant [] names heads text.name.name ≡ Some row.class
    pub generics : generics_meant names heads text.generics ≡ Are row.generics
    pub head : found (judged [] (parameters row.generics) names heads text.of) ≡ Some row.head

  says_with : (its_class : DeclAt) (generics : List Bounded) (o : Option Meaning) (row : Row) →
      row_with text names heads its_class generics o ≡ Some row
      → (row.instance ≡ text.number) × (row.class ≡ its_class) × (row.generics ≡ generics) × (o ≡ Some row.head)
  says_with its_class generics None row e = absurd (none-some row e)
  says_with its_class generics (Some head) row e =
      let is = sym (same_Some (record {
        instance = text.number;
        class = its_class;
        generics = generics;
        head =
            head;
      }) row e) in (
        ap (λ (r : Row). r.instance) is,
        ap (λ (r : Row). r.class) is,
        ap (λ (r : Row). r.generics) is,
        ap (λ (r : Row). Some r.head) (sym is),
      )

  says_over : (its_class : DeclAt) (o : Meant) (row : Row) → row_over text names heads its_class o
      ≡ Some row → (row.instance ≡ text.number) × (row.class ≡ its_class) × (o ≡ Are row.generics)
      × (found (judged [] (parameters row.generics) names heads text.of) ≡ Some row.head)
  says_over its_class (Fails why) row e = absurd (none-some row e)
  says_over its_class (Are generics) row e =
      let its = says_with its_class generics (found (judged [] (parameters generics) names heads text.of)) row e in (
        its.0,
        its.1,
        ap Are (sym its.2),
        ap (λ gs. found (judged [] (parameters gs) names heads text.of)) its.2 ∙ its.3,
      )

  pub row_says : (row : Row) → row_in text names heads ≡ Some row → Says row
  row_says row e = by (class_meant [] names heads text.name.name) refl e
    where
      by : (o : Option DeclAt) → class_meant [] names heads text.name.name ≡ o →
          row_of_class text names heads o ≡ Some row → Says row
      by None is e = absurd (none-some row e)
      by (Some its_class) is e =
          let its = says_over its_class (generics_meant names heads text.generics) row e in
          record { number = its.0; class = is ∙ ap Some (sym its.1); generics = its.2; head = its.3 }

-- a row that is read says what is written
pub row_read : (program : List ModuleParts) (text : InstanceText) (row : Row) → row_of program text ≡ Some row
    → (names : List (Bytes × DeclAt)) × (visible_at program text.number.«module» text.part ≡ Some names)
    × Says text names (heads_of program) row
row_read program text row e = by (visible_at program text.number.«module» text.part) refl e
  where
    by : (o : Option (List (Bytes × DeclAt))) → visible_at program text.number.«module» text.part ≡ o →
        row_seen text (heads_of program) o ≡ Some row
        → (names : List (Bytes × DeclAt)) × (visible_at program text.number.«module» text.part ≡ Some names)
        × Says text names (heads_of program) row
    by None is e = absurd (none-some row e)
    by (Some names) is e = (names, is, row_says text names (heads_of program) row e)

-- ---- where an instance stands

-- an instance that the interface of a module declares, whose methods are those of the first definition
pub record IsPromised (program : List ModuleParts) (m : ModuleParts) (text : InstanceText) : Type 0 where
  pub part : text.part ≡ Interface
  pub at : Pos
  pub stands : slice_get (declarations_in m.interface) text.number.decl
      ≡ Some (instance at text.generics text.name text.of)
  pub methods : text.methods ≡ methods_in
      (find (instance_defined (sight_of program text.number.«module» m) (scope_of text.generics) text.name
      text.of) (declarations_in m.body))

-- one that the body of a module defines
pub record IsDefined (m : ModuleParts) (text : InstanceText) : Type 0 where
  pub part : text.part ≡ Body
  pub at : Pos
  pub index : ℕ
  pub numbered : text.number.decl ≡ length (declarations_in m.interface) + index
  pub written : List PlainMethod
  pub stands : slice_get (declarations_in m.body) index
      ≡ Some (instance_body at text.generics text.name text.of written)
  pub methods : text.methods ≡ Some written

-- ---- instances of an interface

-- the methods of the first definition
methods_first : (test : PlainDeclaration → Bool) (body : List PlainDeclaration) →
    methods_at body (first_index test body) ≡ methods_in (find test body)
methods_first test body = by (position_from test 0 body) refl
  where
    zero_before : (k : ℕ) → k ≡ 0 + k
    zero_before k = omega arith

    by : (o : Option ℕ) → position_from test 0 body ≡ o → methods_at body o ≡ methods_in (find test body)
    by None none = ap methods_in (sym (found_none test 0 body none))
    by (Some k) is = ap methods_in (found_there test 0 k body (is ∙ ap Some (zero_before k)))

module _ (body : List PlainDeclaration) (definitions : List (Option ℕ)) (place : ℕ) where
  promised_there : (number : ℕ) (ds : List PlainDeclaration) (text : InstanceText) →
      Contains (promised_from body definitions place number ds) text
      → (k : ℕ) × (d : PlainDeclaration) × (slice_get ds k ≡ Some d)
      × (promised (declared_at place (number + k))
      (methods_at body (definition_at definitions (number + k))) d ≡ Some text)
  unfolding promised_from
  promised_there number [] text c = absurd (nothing_there text c)
  promised_there number (d ∷ ds) text c =
      by (promised (declared_at place number) (methods_at body (definition_at definitions number)) d) refl c
      (promised_there (number + 1) ds text)
    where
      at_zero : (n : ℕ) → n ≡ n + 0
      at_zero n = omega arith

      shifted : (n k : ℕ) → (n + 1) + k ≡ n + suc k
      shifted n k = omega arith

      later : ((k : ℕ) × (e : PlainDeclaration) × (slice_get ds k ≡ Some e)
          × (promised (declared_at place (number + 1 + k))
          (methods_at body (definition_at definitions (number + 1 + k))) e ≡ Some text))
          → (k : ℕ) × (e : PlainDeclaration) × (slice_get (d ∷ ds) k ≡ Some e)
          × (promised (declared_at place (number + k))
          (methods_at body (definition_at definitions (number + k))) e ≡ Some text)
      later (k, e, there, is) = (
        suc k,
        e,
        there,
        subst (λ n. promised (declared_at place n)
            (methods_at body (definition_at definitions n)) e ≡ Some text) (shifted number k) is,
      )

      by : (o : Option InstanceText) →
          promised (declared_at place number) (methods_at body (definition_at definitions number)) d ≡ o
          → Contains (put_before o (promised_from body definitions place (number + 1) ds)) text
          → (Contains (promised_from body definitions place (number + 1) ds) text → (k : ℕ)
          × (e : PlainDeclaration) × (slice_get ds k ≡ Some e)
          × (promised (declared_at place (number + 1 + k))
          (methods_at body (definition_at definitions (number + 1 + k))) e ≡ Some text))
          → (k : ℕ) × (e : PlainDeclaration) × (slice_get (d ∷ ds) k ≡ Some e)
          × (promised (declared_at place (number + k))
          (methods_at body (definition_at definitions (number + k))) e ≡ Some text)
      by None is c rest = later (rest c)
      by (Some one) is c rest = cases (Contains-cases one (promised_from body definitions place (number + 1) ds) text c)
        where
          cases : (one ≡ text) ⊎ Contains (promised_from body definitions place (number + 1) ds) text
              → (k : ℕ) × (e : PlainDeclaration) × (slice_get (d ∷ ds) k ≡ Some e)
              × (promised (declared_at place (number + k))
              (methods_at body (definition_at definitions (number + k))) e ≡ Some text)
          cases (inl here) = (
            0,
            d,
            refl,
            subst (λ n. promised (declared_at place n)
                (methods_at body (definition_at definitions n)) d ≡ Some text) (at_zero number)
                (is ∙ ap Some here),
          )
          cases (inr behind) = later (rest behind)

  defined_there : (before index : ℕ) (ds : List PlainDeclaration) (text : InstanceText) →
      Contains (defined_from definitions place before index ds) text
      → (k : ℕ) × (d : PlainDeclaration) × (slice_get ds k ≡ Some d)
      × (defined (declared_at place (before + (index + k))) d ≡ Some text)
  unfolding defined_from
  defined_there before index [] text c = absurd (nothing_there text c)
  defined_there before index (d ∷ ds) text c =
      by (is_among index definitions) c (defined_there before (index + 1) ds text)
    where
      at_zero : (n : ℕ) → n ≡ n + 0
      at_zero n = omega arith

      shifted : (n k : ℕ) → (n + 1) + k ≡ n + suc k
      shifted n k = omega arith

      later : ((k : ℕ) × (e : PlainDeclaration) × (slice_get ds k ≡ Some e)
          × (defined (declared_at place (before + (index + 1 + k))) e ≡ Some text))
          → (k : ℕ) × (e : PlainDeclaration) × (slice_get (d ∷ ds) k ≡ Some e)
          × (defined (declared_at place (before + (index + k))) e ≡ Some text)
      later (k, e, there, is) = (
        suc k,
        e,
        there,
        subst (λ n. defined (declared_at place (before + n)) e ≡ Some text) (shifted index k) is,
      )

      known : (o : Option InstanceText) → defined (declared_at place (before + index)) d ≡ o →
          Contains (put_before o (defined_from definitions place before (index + 1) ds)) text
          → (Contains (defined_from definitions place before (index + 1) ds) text → (k : ℕ)
          × (e : PlainDeclaration) × (slice_get ds k ≡ Some e)
          × (defined (declared_at place (before + (index + 1 + k))) e ≡ Some text))
          → (k : ℕ) × (e : PlainDeclaration) × (slice_get (d ∷ ds) k ≡ Some e)
          × (defined (declared_at place (before + (index + k))) e ≡ Some text)
      known None is c rest = later (rest c)
      known (Some one) is c rest = cases
          (Contains-cases one (defined_from definitions place before (index + 1) ds) text c)
        where
          cases : (one ≡ text) ⊎ Contains (defined_from definitions place before (index + 1) ds) text
              → (k : ℕ) × (e : PlainDeclaration) × (slice_get (d ∷ ds) k ≡ Some e)
              × (defined (declared_at place (before + (index + k))) e ≡ Some text)
          cases (inl here) = (
            0,
            d,
            refl,
            subst (λ n. defined (declared_at place (before + n)) d ≡ Some text)
                (at_zero index) (is ∙ ap Some here),
          )
          cases (inr behind) = later (rest behind)

      by : (b : Bool) → Contains (put_before
          (unless_promised b (defined (declared_at place (before + index)) d))
          (defined_from definitions place before (index + 1) ds)) text
          → (Contains (defined_from definitions place before (index + 1) ds) text → (k : ℕ)
          × (e : PlainDeclaration) × (slice_get ds k ≡ Some e)
          × (defined (declared_at place (before + (index + 1 + k))) e ≡ Some text))
          → (k : ℕ) × (e : PlainDeclaration) × (slice_get (d ∷ ds) k ≡ Some e)
          × (defined (declared_at place (before + (index + k))) e ≡ Some text)
      by true c rest = later (rest c)
      by false c rest = known (defined (declared_at place (before + index)) d) refl c rest

-- ---- by what a declaration says

module _ (program : List ModuleParts) (place : ℕ) (m : ModuleParts) where
  abbrev its_interface : List PlainDeclaration
  its_interface = declarations_in m.interface

  abbrev its_body : List PlainDeclaration
  its_body = declarations_in m.body

  -- it stands there
  abbrev pub Stands : InstanceText → Type 0
  Stands text = (text.number.«module» ≡ place) × (IsPromised program m text ⊎ IsDefined m text)

  promised_says : (k : ℕ) (d : PlainDeclaration) (o : Option (List PlainMethod)) (text : InstanceText) →
      slice_get its_interface k ≡ Some d
      → o ≡ methods_at its_body (definition_index (sight_of program place m) its_body d)
      → promised (declared_at place k) o d ≡ Some text → Stands text
  promised_says k (instance at generics name t) o text there methods e =
      subst Stands (same_Some (record {
        at = at;
        number = declared_at place k;
        part = Interface;
        generics =
            generics;
        name = name;
        of = t;
        methods = o;
      }) text e) (
        refl,
        inl (record {
          part = refl;
          at = at;
          stands = there;
          methods = methods
              ∙ methods_first (instance_defined (sight_of program place m) (scope_of generics) name t) its_body;
        }),
      )
  promised_says k (constant at n t) o text there methods e = absurd (none-some text e)
  promised_says k (opaque_type at n ps u) o text there methods e = absurd (none-some text e)
  promised_says k (record_type at n ps u fields) o text there methods e = absurd (none-some text e)
  promised_says k (union_type at n ps u fields) o text there methods e = absurd (none-some text e)
  promised_says k (function at gs h) o text there methods e = absurd (none-some text e)
  promised_says k (class at n p hs) o text there methods e = absurd (none-some text e)
  promised_says k (constant_body at n t v) o text there methods e = absurd (none-some text e)
  promised_says k (function_body at gs h b stop) o text there methods e = absurd (none-some text e)
  promised_says k (instance_body at gs n t ms) o text there methods e = absurd (none-some text e)

  defined_says : (k : ℕ) (d : PlainDeclaration) (text : InstanceText) → slice_get its_body k ≡ Some d →
      defined (declared_at place (length its_interface + k)) d ≡ Some text → Stands text
  defined_says k (instance_body at generics name t methods) text there e =
      subst Stands (same_Some (record {
        at = at;
        number = declared_at place (length its_interface + k);
        part =
            Body;
        generics = generics;
        name = name;
        of = t;
        methods = Some methods;
      }) text e) (
        refl,
        inr (record {
          part = refl;
          at = at;
          index = k;
          numbered = refl;
          written = methods;
          stands =
              there;
          methods = refl;
        }),
      )
  defined_says k (constant at n t) text there e = absurd (none-some text e)
  defined_says k (opaque_type at n ps u) text there e = absurd (none-some text e)
  defined_says k (record_type at n ps u fields) text there e = absurd (none-some text e)
  defined_says k (union_type at n ps u fields) text there e = absurd (none-some text e)
  defined_says k (function at gs h) text there e = absurd (none-some text e)
  defined_says k (class at n p hs) text there e = absurd (none-some text e)
  defined_says k (constant_body at n t v) text there e = absurd (none-some text e)
  defined_says k (function_body at gs h b stop) text there e = absurd (none-some text e)
  defined_says k (instance at gs n t) text there e = absurd (none-some text e)

  in_module : (text : InstanceText) →
      Contains (instances_in (sight_of program place m) place its_interface its_body) text → Stands text
  in_module text c =
      by (Contains-append_cases (promised_from its_body
      (definition_indices (sight_of program place m) its_body its_interface) place 0 its_interface)
      (defined_from (definition_indices (sight_of program place m) its_body its_interface) place
      (length its_interface) 0 its_body) text c)
    where
      zero_before : (k : ℕ) → 0 + k ≡ k
      zero_before k = omega arith

      by : Contains (promised_from its_body
          (definition_indices (sight_of program place m) its_body its_interface) place 0 its_interface) text
          ⊎ Contains (defined_from (definition_indices (sight_of program place m) its_body its_interface)
          place (length its_interface) 0 its_body) text → Stands text
      by (inl here) =
          let its = promised_there its_body
          (definition_indices (sight_of program place m) its_body its_interface) place 0 its_interface text
          here in
          let is = subst (λ n. promised (declared_at place n)
          (methods_at its_body (definition_at
          (definition_indices (sight_of program place m) its_body its_interface) n)) its.1 ≡ Some text)
          (zero_before its.0) its.3 in
          promised_says its.0 its.1 (methods_at its_body
          (definition_at (definition_indices (sight_of program place m) its_body its_interface) its.0)) text
          its.2
          (ap (λ o. methods_at its_body (unwrap_or o None))
          (slice_get-map (definition_index (sight_of program place m) its_body) its_interface its.0
          ∙ ap (option_map (definition_index (sight_of program place m) its_body)) its.2)) is
      by (inr there) =
          let its = defined_there its_body
          (definition_indices (sight_of program place m) its_body its_interface) place
          (length its_interface) 0 its_body text there in
          defined_says its.0 its.1 text its.2
          (subst (λ n. defined (declared_at place (length its_interface + n)) its.1 ≡ Some text)
          (zero_before its.0) its.3)

-- ---- the instances of a program

in_file : (o : Option Entry) → declarations_seen (option_map (λ (e : Entry). e.tree) o) ≡ declarations_in o
in_file None = refl
in_file (Some e) = refl

module _ (program : List ModuleParts) where
  from_place : (place : ℕ) (ms : List ModuleParts) (text : InstanceText) →
      Contains (instances_from program place ms) text
      → (k : ℕ) × (m : ModuleParts) × (slice_get ms k ≡ Some m) × Contains (module_instances program (place + k) m) text
  unfolding instances_from
  from_place place [] text c = absurd (nothing_there text c)
  from_place place (m ∷ ms) text c =
      by (Contains-append_cases (module_instances program place m) (instances_from program (place + 1) ms)
      text c) (from_place (place + 1) ms text)
    where
      at_zero : (n : ℕ) → n ≡ n + 0
      at_zero n = omega arith

      shifted : (n k : ℕ) → (n + 1) + k ≡ n + suc k
      shifted n k = omega arith

      later : ((k : ℕ) × (one : ModuleParts) × (slice_get ms k ≡ Some one)
          × Contains (module_instances program (place + 1 + k) one) text)
          → (k : ℕ) × (one : ModuleParts) × (slice_get (m ∷ ms) k ≡ Some one)
          × Contains (module_instances program (place + k) one) text
      later (k, one, is, there) = (
        suc k,
        one,
        is,
        subst (λ n. Contains (module_instances program n one) text)
            (shifted place k) there,
      )

      by : Contains (module_instances program place m) text ⊎ Contains (instances_from program (place + 1) ms) text
          → (Contains (instances_from program (place + 1) ms) text → (k : ℕ) × (one : ModuleParts)
          × (slice_get ms k ≡ Some one) × Contains (module_instances program (place + 1 + k) one) text)
          → (k : ℕ) × (one : ModuleParts) × (slice_get (m ∷ ms) k ≡ Some one)
          × Contains (module_instances program (place + k) one) text
      by (inl here) rest = (0, m, refl, subst (λ n. Contains (module_instances program n m) text) (at_zero place) here)
      by (inr behind) rest = later (rest behind)

  -- each instance stands in a module
  pub text_stands : (text : InstanceText) → Contains (instances_of program) text
      → (m : ModuleParts) × (slice_get program text.number.«module» ≡ Some m)
      × (IsPromised program m text ⊎ IsDefined m text)
  text_stands text c =
      let its = from_place 0 program text c in
      let place : ℕ = 0 + its.0 in
      let here = subst (λ ds. Contains
      (instances_in (sight_of program place its.1) place ds (declarations_in its.1.body)) text)
      (in_file its.1.interface)
      (subst (λ ds. Contains (instances_in (sight_of program place its.1) place
      (declarations_seen (option_map (λ (e : Entry). e.tree) its.1.interface)) ds) text)
      (in_file its.1.body) its.3) in
      let stands = in_module program place its.1 text here in
      (its.1, ap (slice_get program) (stands.0 ∙ zero_before its.0) ∙ its.2, stands.1)
    where
      zero_before : (k : ℕ) → 0 + k ≡ k
      zero_before k = omega arith
