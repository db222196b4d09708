-- What may be born by the calls of a function is what the report says that it may make, given what is known of
-- each call.
use Rattle.std.proofs.Common.{◌≡◌, ℕ, Bool, true, List, [], find, Option, None, Some, refl, sym, ap, ◌∙◌, subst}
use Rattle.std.specs.Prelude.{Contains, unwrap_or}
use Rattle.std.specs.List.{position}
use Rattle.std.specs.Option.{option_and_then, option_map}
use Rattle.std.proofs.lemmas.Option.{none-some, same_Some}
use Rattle.std.proofs.lemmas.Slice.Eq.{bytes_eq-Decides}
use Rattle.au_base.specs.declared.places.Pos.{Pos}
use Rattle.au_base.proofs.ListLemmas.{nothing_there, only_item, Contains-first}
use Rattle.au_shipped.specs.declared.prims.ShippedCall.{ShippedCall}
use Rattle.au_shipped.specs.declared.prims.ShippedCall.TheVariants as prim
use Rattle.au_shipped.specs.Calls.{prim_of}
use Rattle.au_syntax.specs.declared.modules.Part.TheVariants.{Body}
use Rattle.au_syntax.specs.Modules.{Constrained, Header, InUniverse, constant, opaque_type, record_type, union_type, function}
use Rattle.au_syntax.specs.Modules.{class, instance, constant_body, function_body, instance_body}
use Rattle.au_syntax.specs.Names.{Placed}
use Rattle.au_syntax.specs.Plain.{Bytes, PlainDeclaration}
use Rattle.au_types.specs.declared.spaces.Space.TheVariants.{Callables}
use Rattle.au_types.specs.declared.types.DeclAt.{DeclAt}
use Rattle.au_types.specs.Tables as tables
use Rattle.au_types.specs.Types as whole
use Rattle.au_types.specs.Types.{Argument, Arguments, Meaning, parameter}
use Rattle.au_matching.specs.Bindings.{Bindings, value_of}
use Rattle.au_matching.specs.Substituted.{substituted, type_for}
use Rattle.au_type_texts.specs.Given.{Given, closed_under, given_by}
use Rattle.au_type_texts.specs.Types.{ClosedType}
use Rattle.au_modules.specs.Programs.{ModuleParts}
use Rattle.au_names.specs.declared.targets.Target.{Target}
use Rattle.au_names.specs.HeadsOf.{heads_of}
use Rattle.au_names.specs.Standing.{Standing, standing_at, whole_name}
use Rattle.au_instances.specs.declared.constructors.Constructor.{Constructor}
use Rattle.au_instances.specs.ClosedInstances.{closed_row}
use Rattle.au_instances.specs.Constructors.{closed_constructor, constructor_of}
use Rattle.au_instances.specs.Rows.{Row}
use Rattle.au_judged_types.specs.Meanings.{written_params}
use Rattle.au_classes.specs.Rows.{rows_of}
use Rattle.au_classes.proofs.ListLemmas.{found_passes}
use Rattle.au_typing.specs.Called.{is_case, is_method}
use Rattle.au_typing.specs.Notes.{Note}
use Rattle.au_typing.specs.Trees.{NotedParts}
use Rattle.au_typing.specs.Written.{seen_at}
use Rattle.au_closed_trees.specs.ClosedNotes as closed
use Rattle.au_closed_trees.specs.TypeNames.{type_names}
use Rattle.au_closing.specs.Bodies.{BodyOf, body_of}
use Rattle.au_closing.specs.Instances.{Instance, method_at}
use Rattle.au_closing.specs.Leading as leading
use Rattle.au_closing.specs.Leading.{Called, at_type, call_leads, called_of, called_standing, kind_of, module_name}
use Rattle.au_meaning.specs.Views.{Act, Function, invokes, makes, ships}
use Rattle.au_closed_meanings.specs.Generic.{fields_in, function_under, generic_functions, lead_does, linear_in}
use Rattle.au_closed_meanings.specs.Generic.{names_of_instance, with_names}
use Rattle.au_closed_meanings.specs.Shipped.{born, shipped_parameters}
use Rattle.au_closed_meanings.specs.Surroundings.{field_names}
use Rattle.au_closing_laws.specs.Targets.{Call, calls_listed}
use Rattle.au_judged_programs.specs.CalledBodiesBodies.{is_function}
use Rattle.au_caps_lists.specs.Bodies.{Bodied}
use Rattle.au_caps.specs.Calls as lists
use Rattle.au_caps.specs.Calls.{a_birth, a_function, a_method, an_instance, declared_leads, gives_birth, name_leads}
use Rattle.au_caps.specs.Calls.{standing_leads, type_at, type_in}
use Rattle.au_caps.specs.Making as making
use Rattle.au_caps.specs.Making.{BodyMakes, Makes, StandsFor, class_of, constructor_for}
use Rattle.au_caps_laws.specs.Bearing.{AreBounds, StaysWithin, act_in, acts_in}
use Rattle.au_caps_laws.specs.Births.{head_closed, run_as}
use Rattle.au_caps_laws.proofs.CalledLemmas.{from_call, of_call}
use Rattle.au_caps_laws.proofs.RunForLemmas.{IsRunAt, run_there}

-- a type is a declared one
abbrev pub IsNamed : Meaning → Type 0
IsNamed t = (at : DeclAt) × (args : Arguments) × (t ≡ whole.named at args)

-- ---- shipped calls

-- what is born is of the type of the call's expression
born_is : (call : ShippedCall) (of t : ClosedType) → born call of ≡ Some t
    → (gives_birth (Some call) ≡ true) × (of ≡ t)
born_is prim.MakeBox of t e = (refl, same_Some of t e)
born_is prim.MakeEmpty of t e = (refl, same_Some of t e)
born_is prim.AcquireTerminal of t e = (refl, same_Some of t e)
born_is other of t e = absurd (none-some t e)

-- ---- what a call does

-- it is the act that is known
named_act : (names : Option (List Bytes)) (a act : Act Instance) → Contains (act_in (with_names names a)) act → a ≡ act
named_act None a act c = absurd (nothing_there act c)
named_act (Some all) a act c = only_item a act c

module _ (program : List ModuleParts) (noted : List NotedParts) where
  -- what is known of a call in a body that is run, whose name means something that is declared
  pub record Knows (b : Bodied) (call : Call) (target : Target) (d : Standing) : Type 0 where
    -- the type of what makes a value of a declared type, and of a shipped call that is a birth, is a declared one
    pub maker : (name : Bytes) → whole_name d.says ≡ Some name → IsNamed call.0.of
    pub birth : (name : Bytes) (names : List Bytes) (its : ShippedCall) (of t : ClosedType)
        → called_of target.name d.says ≡ Some (leading.a_function name names)
        → prim_of (module_name program target.at.«module») name None ≡ Some its → born its of ≡ Some t
        → IsNamed call.0.of
    -- a function stands for its body
    pub functions : (c : Bodied) → is_function d.says ≡ true → IsRunAt program noted target c
        → StandsFor program (a_function target.at.«module» target.name) c

  -- what is known of a row of a class that gives its instance at a closed type
  pub record KnowsRow (at : DeclAt) (t : ClosedType) (row : Row) : Type 0 where
    -- no method of it is a birth
    pub methods : (name : Bytes) (its : ShippedCall) (of u : ClosedType)
        → prim_of (module_name program row.instance.«module») name (kind_of t) ≡ Some its
        → born (at_type t its) of ≡ Some u → ⊥
    -- a body of it is that of a method of an instance of the class, for this constructor
    pub class : (name : Bytes) (c : Bodied) → IsRunAt program noted (record { at = row.instance; name = name }) c
        → (class_of program c ≡ Some at) × (c.header.name.name ≡ name)
    pub constructor : (name : Bytes) (c : Bodied) → IsRunAt program noted (record { at = row.instance; name = name }) c
        → (one : Constructor) → closed_constructor t ≡ Some one → constructor_for program c ≡ Some one

  -- what is known of all
  pub record KnowsAll : Type 0 where
    pub calls : (one : Target) (b : Bodied) → IsRunAt program noted one b → (call : Call)
        → Contains (calls_listed b.block) call → (target : Target)
        → tables.find call.1 (seen_at Callables program b.place Body) ≡ Some target
        → (d : Standing) → standing_at program target.at ≡ Some d → Knows b call target d
    pub rows : (at : DeclAt) (t : ClosedType) (row : Row)
        → closed_row (rows_of program) (heads_of program) t at ≡ Some row → KnowsRow at t row

-- ---- types

-- a closed type has the constructor of the type that it closes
constructor_closed : (given : Given) (t : Meaning) (one : Constructor) → constructor_of t ≡ Some one
    → closed_constructor (closed_under given t) ≡ Some one
constructor_closed given whole.unit one e = e
constructor_closed given whole.truth one e = e
constructor_closed given (whole.integer kind) one e = e
constructor_closed given whole.text one e = e
constructor_closed given (whole.parameter name) one e = absurd (none-some one e)
constructor_closed given (whole.named at args) one e = e
constructor_closed given (whole.reads t region) one e = absurd (none-some one e)
constructor_closed given (whole.writes t region) one e = absurd (none-some one e)

-- so has the type at which a method is called
called_at : (given : Given) (note : Note) (p : Bytes) (one : Constructor)
    → option_and_then constructor_of (type_at note p) ≡ Some one
    → closed_constructor (closed_under given (substituted (unwrap_or note.call []) (parameter p))) ≡ Some one
called_at given note p one e = by note.call e
  where
    at : (s : Bindings) (o : Option Argument) → option_and_then constructor_of (type_in o) ≡ Some one
        → closed_constructor (closed_under given (type_for o p)) ≡ Some one
    at s None e = absurd (none-some one e)
    at s (Some (whole.of_type t)) e = constructor_closed given t one e
    at s (Some (whole.in_region region)) e = absurd (none-some one e)

    by : (o : Option Bindings)
        → option_and_then constructor_of (option_and_then (λ (s : Bindings). type_in (value_of p s)) o) ≡ Some one
        → closed_constructor (closed_under given (substituted (unwrap_or o []) (parameter p))) ≡ Some one
    by None e = absurd (none-some one e)
    by (Some s) e = at s (value_of p s) e

-- ---- a call

module _ (program : List ModuleParts) (noted : List NotedParts) (knows : KnowsAll program noted) where
  -- a value of a closed type may be born while an instance runs: what it runs may make the head of the type
  abbrev pub MayMake : Instance → ClosedType → Type 0
  MayMake one of =
      (h : Bytes) → head_closed program of ≡ Some h
      → (b : Bodied) × IsRunAt program noted one.of b × BodyMakes program noted b h

  module _ (one : Instance) (b : Bodied) (run : IsRunAt program noted one.of b) (call : Call)
      (listed : Contains (calls_listed b.block) call) where
    abbrev note : Note
    note = call.0

    abbrev of : ClosedType
    of = closed_under one.given note.of

    -- what a call leads to in the report
    abbrev Leads : lists.Callee → Type 0
    Leads c = Contains (name_leads program b.place note call.1) c

    -- so may what it is that the call leads to
    may_make : (c : lists.Callee) → Leads c → (t : ClosedType)
        → ((h : Bytes) → head_closed program t ≡ Some h → Makes program noted c h) → MayMake one t
    may_make c leads t can h e = (
      b,
      run,
      (
        c,
        of_call (λ note its_call name. name_leads program b.place note name) b.block c call listed leads,
        can h e,
      ),
    )

    -- a birth
    may_bear : IsNamed note.of → ((c : lists.Callee) → Contains (lists.birth_of note.of) c → Leads c) → MayMake one of
    may_bear (at, args, is) leads =
        may_make (a_birth at)
        (leads (a_birth at)
        (subst (λ (t : Meaning). Contains (lists.birth_of t) (a_birth at)) (sym is)
        (Contains-first (a_birth at) []))) of
        (λ h e. making.born at h
        (subst (λ (t : Meaning). head_closed program (closed_under one.given t) ≡ Some h) is e))

    -- what is called may make this
    may_call : (c : lists.Callee) → Leads c → (other : Instance)
        → ((x : Bodied) → IsRunAt program noted other.of x → StandsFor program c x)
        → (t : ClosedType) → MayMake other t → MayMake one t
    may_call c leads other stands t made =
        may_make c leads t (λ h e. called (made h e))
      where
        called : {h : Bytes} → (x : Bodied) × IsRunAt program noted other.of x × BodyMakes program noted x h
            → Makes program noted c h
        called {h} (x, at, (d, there, can)) = making.called c d x h at.run.listed (stands x at) there can

    abbrev Stays : Act Instance → Type 0
    Stays act = StaysWithin MayMake (linear_in program) (MayMake one) act

    abbrev Does : closed.Callee (Option Instance) → Act Instance → Type 0
    Does its act = Contains (act_in (lead_does program noted b.place of its)) act

    none_does : (act : Act Instance) → Does (closed.instance None) act → Stays act
    none_does act c = absurd (nothing_there act c)

    calls_does : (c : lists.Callee) → Leads c → (other : Instance)
        → ((x : Bodied) → IsRunAt program noted other.of x → StandsFor program c x)
        → (act : Act Instance) → Does (closed.instance (Some other)) act → Stays act
    calls_does c leads other stands act does =
        subst Stays (named_act (names_of_instance program noted other) (invokes other) act does)
        (λ t made. may_call c leads other stands t made)

    ships_does : (its : ShippedCall) → ((t : ClosedType) → born its of ≡ Some t → MayMake one t)
        → (act : Act Instance) → Does (closed.shipped its) act → Stays act
    ships_does its may act does =
        subst Stays (named_act (Some (shipped_parameters its)) (ships its (born its of)) act does) may

    makes_does : (place : ℕ) → MayMake one of → (act : Act Instance) → Does (closed.constructor of place) act
        → Stays act
    makes_does place may act does =
        subst Stays (named_act (option_map field_names (fields_in program of place))
        (makes of place (module_name program b.place)) act does) (λ linear. may)

    -- ---- by what its name means

    module _ (target : Target) (means : tables.find call.1 (seen_at Callables program b.place Body) ≡ Some target)
        (d : Standing) (found : standing_at program target.at ≡ Some d) where
      abbrev known : Knows program noted b call target d
      known = knows.calls one.of b run call listed target means d found

      -- what the declaration leads to, the call leads to
      leads_so : (says : PlainDeclaration) → d.says ≡ says → (c : lists.Callee)
          → Contains (declared_leads program note target says) c → Leads c
      leads_so says is c there =
          subst (λ (l : List lists.Callee). Contains l c)
          (ap (declared_leads program note target) (sym is)
          ∙ ap (standing_leads program note target) (sym found)
          ∙ ap (lists.target_leads program note) (sym means)) there

      abbrev Fits : PlainDeclaration → Type 0
      Fits says = (act : Act Instance)
          → Does (leading.called_leads program (rows_of program) one.given note target (called_of target.name says)) act
          → Stays act

      -- ---- functions

      -- by the shipped call that it is, if it is one
      function_fits : (h : Header Bytes) (generics : List (Constrained Bytes)) (says : PlainDeclaration) → d.says ≡ says
          → called_of target.name says ≡ Some (leading.function_called generics h) → is_function says ≡ true
          → declared_leads program note target says ≡ lists.header_leads program note target h → Fits says
      function_fits h generics says is called one_is leads act does =
          by (prim_of (module_name program target.at.«module») h.name.name None) refl
          (subst (λ (o : Option Called). Does (leading.called_leads program (rows_of program) one.given note target
          o) act)
          called does)
        where
          led : (o : Option ShippedCall) → prim_of (module_name program target.at.«module») h.name.name None ≡ o
              → (c : lists.Callee) → Contains (lists.function_leads (gives_birth o) note target) c → Leads c
          led o e c there =
              leads_so says is c
              (subst (λ (l : List lists.Callee). Contains l c)
              (ap (λ (x : Option ShippedCall). lists.function_leads (gives_birth x) note target) (sym e) ∙ sym leads)
              there)

          by : (o : Option ShippedCall) → prim_of (module_name program target.at.«module») h.name.name None ≡ o
              → Does (leading.shipped_or o (record {
                of = target;
                given = given_by one.given (unwrap_or note.call []) (type_names (written_params generics));
              })) act → Stays act
          by None e does =
              calls_does (a_function target.at.«module» target.name)
              (led None e (a_function target.at.«module» target.name)
              (Contains-first (a_function target.at.«module» target.name) []))
              (record {
                of = target;
                given = given_by one.given (unwrap_or note.call []) (type_names (written_params generics));
              })
              (λ x at. known.functions x (ap is_function is ∙ one_is) at) act does
          by (Some its) e does =
              ships_does its
              (λ t bears. subst (MayMake one) (born_is its of t bears).1
              (may_bear (known.birth h.name.name (type_names (written_params generics)) its of t
              (ap (called_of target.name) is ∙ called) e bears)
              (λ c there. led (Some its) e c
              (subst (λ (yes : Bool). Contains (lists.function_leads yes note target) c)
              (sym (born_is its of t bears).0) there))))
              act does

      -- ---- methods

      -- at the type that is put for the parameter of the class
      abbrev type_for_class : Bytes → ClosedType
      type_for_class p = closed_under one.given (substituted (unwrap_or note.call []) (parameter p))

      method_fits : (place : Pos) (n : Placed Bytes) (p : InUniverse Bytes) (methods : List (Header Bytes))
          → d.says ≡ class place n p methods → Fits (class place n p methods)
      method_fits place n p methods is act does =
          by_method (find (is_method target.name) methods) refl does
        where
          t : ClosedType
          t = type_for_class p.name.name

          -- what it stands for, by the constructor of the type, if it is known
          stands : (h : Header Bytes) → h.name.name ≡ target.name → (row : Row) → KnowsRow program noted target.at t row
              → (o : Option Constructor) → option_and_then constructor_of (type_at note p.name.name) ≡ o
              → (x : Bodied) → IsRunAt program noted (record { at = row.instance; name = h.name.name }) x
              → (c : lists.Callee) × Contains (lists.method_leads target o) c × StandsFor program c x
          stands h named row its None e x at = (
            a_method target.at target.name,
            Contains-first (a_method target.at target.name) [],
            subst (λ (name : Bytes). StandsFor program (a_method target.at name) x)
                ((its.class h.name.name x at).1 ∙ named)
                (making.the_method x target.at (its.class h.name.name x at).0),
          )
          stands h named row its (Some one_constructor) e x at = (
            an_instance target.at one_constructor,
            Contains-first (an_instance target.at one_constructor) [],
            making.the_instance x target.at one_constructor (its.class h.name.name x at).0
                (its.constructor h.name.name x at one_constructor
                (called_at one.given note p.name.name one_constructor e)),
          )

          instance_does : (h : Header Bytes) → h.name.name ≡ target.name → (row : Row)
              → KnowsRow program noted target.at t row
              → (of : ClosedType) → MayMake (method_at h.name.name t row) of → MayMake one of
          instance_does h named row its u made heads e = on (made heads e)
            where
              on : (x : Bodied) × IsRunAt program noted (record { at = row.instance; name = h.name.name }) x
                  × BodyMakes program noted x heads
                  → (y : Bodied) × IsRunAt program noted one.of y × BodyMakes program noted y heads
              on (x, at, (c, there, can)) =
                  let leads = stands h named row its (option_and_then constructor_of (type_at note p.name.name)) refl
                  x at in
                  may_make leads.0 (leads_so (class place n p methods) is leads.0 leads.1) u
                  (λ g same. subst (Makes program noted leads.0)
                  (same_Some heads g (sym e ∙ same))
                  (making.called leads.0 c x heads at.run.listed leads.2 there can)) heads e

          by_prim : (h : Header Bytes) → h.name.name ≡ target.name → (row : Row) → KnowsRow program noted target.at t
              row
              → (o : Option ShippedCall)
              → prim_of (module_name program row.instance.«module») h.name.name (kind_of t) ≡ o
              → Does (leading.shipped_or (option_map (at_type t) o) (method_at h.name.name t row)) act → Stays act
          by_prim h named row its None e does =
              subst Stays (named_act (names_of_instance program noted (method_at h.name.name t row))
              (invokes (method_at h.name.name t row)) act does) (instance_does h named row its)
          by_prim h named row its (Some shipped) e does =
              ships_does (at_type t shipped)
              (λ u bears. absurd (its.methods h.name.name shipped of u e bears)) act does

          by_row : (h : Header Bytes) → h.name.name ≡ target.name → (o : Option Row)
              → closed_row (rows_of program) (heads_of program) t target.at ≡ o
              → Does (leading.method_leads program (rows_of program) h.name.name t o) act → Stays act
          by_row h named None e does = none_does act does
          by_row h named (Some row) e does =
              by_prim h named row (knows.rows target.at t row e)
              (prim_of (module_name program row.instance.«module») h.name.name (kind_of t)) refl does

          by_method : (o : Option (Header Bytes)) → find (is_method target.name) methods ≡ o
              → Does (leading.called_leads program (rows_of program) one.given note target
              (option_map (leading.method_called p.name.name) o)) act → Stays act
          by_method None e does = none_does act does
          by_method (Some h) e does =
              by_row h (sym ((bytes_eq-Decides target.name h.name.name).0
              (found_passes (is_method target.name) methods h e).1))
              (closed_row (rows_of program) (heads_of program) t target.at) refl does

      -- ---- all

      fits : (says : PlainDeclaration) → d.says ≡ says → Fits says
      fits (function at gs h) is = function_fits h gs (function at gs h) is refl refl refl
      fits (function_body at gs h block stop) is =
          function_fits h gs (function_body at gs h block stop) is refl refl refl
      fits (class at n p methods) is = method_fits at n p methods is
      fits (record_type at n ps u fields) is =
          λ act does. makes_does 0
          (may_bear (known.maker n.name (ap whole_name is)) (leads_so (record_type at n ps u fields) is)) act does
      fits (union_type at n ps u cases) is = by (position (is_case target.name) cases)
        where
          by : (o : Option ℕ) (act : Act Instance)
              → Does (leading.called_leads program (rows_of program) one.given note target
              (option_map leading.a_maker o)) act → Stays act
          by None act does = none_does act does
          by (Some place) act does =
              makes_does place
              (may_bear (known.maker n.name (ap whole_name is)) (leads_so (union_type at n ps u cases) is)) act does
      fits (constant at n t) is = none_does
      fits (opaque_type at n ps u) is = none_does
      fits (instance at gs n t) is = none_does
      fits (constant_body at n t v) is = none_does
      fits (instance_body at gs n t ms) is = none_does

    -- whatever a call does stays within what its function may make
    call_stays : (act : Act Instance) → Does (call_leads program b.place one.given note call.1) act → Stays act
    call_stays act does = by (tables.find call.1 (seen_at Callables program b.place Body)) refl does
      where
        by_found : (target : Target) → tables.find call.1 (seen_at Callables program b.place Body) ≡ Some target
            → (o : Option Standing) → standing_at program target.at ≡ o
            → Does (leading.called_leads program (rows_of program) one.given note target
            (called_standing target.name o)) act → Stays act
        by_found target means None e does = none_does act does
        by_found target means (Some d) e does = fits target means d e d.says refl act does

        by : (o : Option Target) → tables.find call.1 (seen_at Callables program b.place Body) ≡ o
            → Does (leading.target_leads program (rows_of program) one.given note o) act → Stays act
        by None e does = none_does act does
        by (Some target) e does = by_found target e (standing_at program target.at) refl does

  -- ---- a function

  -- what functions may make bounds what may be born by their calls
  pub bounds_hold : (first : Instance → ℕ) → AreBounds (generic_functions program noted first) MayMake
  bounds_hold first one f e act c = by (body_of program noted one.of) refl e
    where
      by : (o : Option BodyOf) → body_of program noted one.of ≡ o
          → option_map (function_under program noted (first one) one.given) o ≡ Some f
          → StaysWithin MayMake f.view.is_linear (MayMake one) act
      by None is same = absurd (none-some f same)
      by (Some body) is same =
          let its = run_there program noted one.of body is in
          let mine : function_under program noted (first one) one.given (run_as its.0) ≡ f =
          ap (function_under program noted (first one) one.given) its.2
          ∙ same_Some (function_under program noted (first one) one.given body) f same in
          subst (λ (g : Function Instance Note (Unit {0})). StaysWithin MayMake g.view.is_linear (MayMake one) act) mine
          (stays its.0 its.1
          (subst (λ (g : Function Instance Note (Unit {0})). Contains (acts_in g) act) (sym mine) c))
        where
          stays : (b : Bodied) → IsRunAt program noted one.of b
              → Contains (acts_in (function_under program noted (first one) one.given (run_as b))) act
              → StaysWithin MayMake (linear_in program) (MayMake one) act
          stays b run there =
              let from = from_call (λ note its_call name. act_in (lead_does program noted b.place
              (closed_under one.given note.of) (call_leads program b.place one.given note name))) b.block act there in
              call_stays one b run from.0 from.1 act from.2
