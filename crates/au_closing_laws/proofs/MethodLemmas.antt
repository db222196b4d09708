-- Each row that gives a class at a closed type has each method of the class there.
use Rattle.std.proofs.Common.{◌≡◌, ◌⊎◌, inl, inr, ℕ, Bool, true, false, cond, List, [], ◌∷◌}
use Rattle.std.proofs.Common.{◌++◌, map, find, Option, None, Some, refl, sym, ap, ◌∙◌, subst}
use Rattle.std.specs.Prelude.{Contains, slice_get}
use Rattle.std.specs.List.{position, position_or_len}
use Rattle.std.specs.Option.{option_and_then, option_map}
use Rattle.std.specs.Str.{bytes_eq}
use Rattle.std.proofs.lemmas.List.Folds.{find_at}
use Rattle.std.proofs.lemmas.Option.{none-some, same_Some}
use Rattle.std.proofs.lemmas.Slice.Eq.{bytes_eq-Decides}
use Rattle.au_base.specs.declared.places.Pos.{Pos}
use Rattle.au_base.proofs.ListLemmas.{nothing_there, Contains-cases, Contains-first, Contains-rest}
use Rattle.au_syntax.specs.declared.modules.Part.TheVariants.{Interface, Body}
use Rattle.au_syntax.specs.Modules.{Constrained, Header, InUniverse, constant, opaque_type, record_type}
use Rattle.au_syntax.specs.Modules.{union_type, function, class, instance, constant_body, function_body}
use Rattle.au_syntax.specs.Modules.{instance_body}
use Rattle.au_syntax.specs.Names.{Placed}
use Rattle.au_syntax.specs.Plain.{Bytes, PlainDeclaration, PlainMethod}
use Rattle.au_syntax.specs.Types.{WrittenType}
use Rattle.au_types.specs.declared.parameters.Parameter.{Parameter}
use Rattle.au_types.specs.declared.types.DeclAt.{DeclAt}
use Rattle.au_types.specs.Types.{Meaning}
use Rattle.au_type_texts.specs.Types.{ClosedType}
use Rattle.au_modules.specs.Programs.{Entry, ModuleParts}
use Rattle.au_names.specs.declared.targets.Target.{Target}
use Rattle.au_names.specs.Exporting.{declarations_seen}
use Rattle.au_names.specs.HeadsOf.{heads_of}
use Rattle.au_names.specs.Owned.{declarations_in}
use Rattle.au_names.specs.Standing.{Standing, standing_at}
use Rattle.au_judged_types.specs.declared.reading.Meant.TheVariants.{Are}
use Rattle.au_judged_types.specs.Bounds.{parameters}
use Rattle.au_judged_types.specs.Meanings.{generics_meant, parameter, written_params}
use Rattle.au_judged_types.proofs.MeaningLemmas.{params_written}
use Rattle.au_shipped.specs.declared.prims.ShippedCall.{ShippedCall}
use Rattle.au_shipped.specs.Calls.{prim_of}
use Rattle.au_promises.specs.Agreeing.{Sight, scope_of, sight_of}
use Rattle.au_promises.specs.Fulfilled.{AllFulfil, Each, OfGenerics, SameGeneric}
use Rattle.au_promises.specs.Promises.{defines, instance_defined}
use Rattle.au_promises.proofs.DecidingLemmas.{keeps_decides}
use Rattle.au_promises.proofs.FulfilledLemmas.{kept_passes}
use Rattle.au_instances.specs.ClosedInstances.{ClosedInstance, by_row}
use Rattle.au_instances.specs.Rows.{Row}
use Rattle.au_classes.specs.Classes.{ClassText, class_at, class_in, class_standing, visible_at}
use Rattle.au_classes.specs.Methods.{AreMethods, SameSignature}
use Rattle.au_classes.specs.Signatures.{given, wanted}
use Rattle.au_classes.specs.Texts.{InstanceText, instances_of, methods_in}
use Rattle.au_classes.specs.Good.{InstancesAreGood, IsGood}
use Rattle.au_classes.specs.Rows.{rows_of}
use Rattle.au_rules.specs.Good.{AllDeclarationsAreGood}
use Rattle.au_typing.specs.Written.{types_at}
use Rattle.au_typing.specs.Trees.{NotedDeclaration, NotedMethod, NotedParts, erase_declaration, erase_method}
use Rattle.au_accepted.specs.Faults.{IsDerived}
use Rattle.au_closing.specs.Bodies.{BodyOf, body_in, body_of, body_standing, defining_in, defining_index}
use Rattle.au_closing.specs.Bodies.{is_method, method_body, noted_at}
use Rattle.au_closing.specs.Leading.{kind_of, module_name}
use Rattle.au_closing_laws.specs.Gathered.{IsGathered}
use Rattle.au_closing_laws.specs.Premises.{MethodsAreThere}
use Rattle.au_closing_laws.specs.Targets.{MethodIsThere, bounds_of, method_has_body, method_is_shipped}
use Rattle.au_closing_laws.proofs.DefinitionLemmas.{listed_at, noted_there}
use Rattle.au_closing_laws.proofs.FactLemmas.{name_there}
use Rattle.au_closing_laws.proofs.FunctionLemmas.{bounds_here, bounds_promised}
use Rattle.au_closing_laws.proofs.GenericsLemmas.{misfit_none}
use Rattle.au_closing_laws.proofs.MeantLemmas.{placed}
use Rattle.au_closing_laws.proofs.SameLemmas.{same_params}
use Rattle.au_closing_laws.proofs.ShippedMethodLemmas.{shipped_methods, stands_defined, stands_promised}
use Rattle.au_closing_laws.proofs.TableLemmas.{read_of}
use Rattle.au_closing_laws.proofs.TextLemmas.{IsDefined, IsPromised, Says, row_read, text_stands}

-- ---- lists

-- what is listed stands between others
split : {A : Type 0} (xs : List A) (x : A) → Contains xs x → (before : List A) × (after : List A)
    × (xs ≡ before ++ x ∷ after)
split [] x c = absurd (nothing_there x c)
split {A} (y ∷ xs) x c = by (Contains-cases y xs x c) (split xs x)
  where
    by : (y ≡ x) ⊎ Contains xs x →
        (Contains xs x → (before : List A) × (after : List A) × (xs ≡ before ++ x ∷ after)) → (before : List A)
        × (after : List A) × (y ∷ xs ≡ before ++ x ∷ after)
    by (inl here) later = ([], xs, ap (λ z. z ∷ xs) here)
    by (inr behind) later = let its = later behind in (y ∷ its.0, its.1, ap (λ zs. y ∷ zs) its.2)

-- ---- methods with notes

-- a method of a name is found among those with notes, where one is written; it is one of the written ones
noted_method : (name : Bytes) (ms : List NotedMethod) (one : PlainMethod) →
    Contains (map erase_method ms) one → name ≡ one.header.name.name → (m : NotedMethod)
    × (find (is_method name) ms ≡ Some m)
    × Contains (map erase_method ms) (erase_method m) × (name ≡ m.header.name.name)
noted_method name [] one c named = absurd (nothing_there one c)
noted_method name (m ∷ ms) one c named = by (bytes_eq name m.header.name.name) refl
    (Contains-cases (erase_method m) (map erase_method ms) one c)
    (λ behind. noted_method name ms one behind named)
  where
    by : (b : Bool) → bytes_eq name m.header.name.name ≡ b → (erase_method m ≡ one) ⊎ Contains (map erase_method ms) one
        → (Contains (map erase_method ms) one → (k : NotedMethod) × (find (is_method name) ms ≡ Some k)
        × Contains (map erase_method ms) (erase_method k) × (name ≡ k.header.name.name)) →
        (k : NotedMethod) × (cond b (Some m) (find (is_method name) ms) ≡ Some k)
        × Contains (erase_method m ∷ map erase_method ms) (erase_method k) × (name ≡ k.header.name.name)
    by true e c later = (
      m,
      refl,
      Contains-first (erase_method m) (map erase_method ms),
      (bytes_eq-Decides name m.header.name.name).0 e,
    )
    by false e (inr behind) later =
        let its = later behind in
        (its.0, its.1, Contains-rest (erase_method m) (map erase_method ms) (erase_method its.0) its.2, its.3)
    by false e (inl here) later =
        let same : bytes_eq name m.header.name.name ≡ true =
        (bytes_eq-Decides name m.header.name.name).1
        (named ∙ sym (ap (λ (x : PlainMethod). x.header.name.name) here)) in
        let both : true ≡ false = sym same ∙ e in cc

-- what an instance of a body says
abbrev methods_written : PlainDeclaration → Option (List PlainMethod)
methods_written (instance_body at gs n t ms) = Some ms
methods_written other = None

abbrev generics_of : PlainDeclaration → List (Constrained Bytes)
generics_of (instance_body at gs n t ms) = gs
generics_of other = []

-- an instance with its notes has a body under the name of each of its methods, of which the header is that of a
-- method of the name
method_noted : (place : ℕ) (name : Bytes) (d : NotedDeclaration) (ms : List PlainMethod) →
    methods_written (erase_declaration d) ≡ Some ms → (one : PlainMethod) → Contains ms one →
    name ≡ one.header.name.name
    → (body : BodyOf) × (body_in place name d ≡ Some body) × (body.place ≡ place)
    × (body.generics ≡ generics_of (erase_declaration d))
    × (k : PlainMethod) × Contains ms k × (name ≡ k.header.name.name) × (body.header ≡ k.header)
method_noted place name (instance_body at gs n t noted) ms e one c named =
    let same : map erase_method noted ≡ ms = same_Some (map erase_method noted) ms e in
    let its = noted_method name noted one (subst (λ xs. Contains xs one) (sym same) c) named in (
      method_body place gs its.0,
      ap (option_map (method_body place gs)) its.1,
      refl,
      refl,
      erase_method its.0,
      subst (λ xs. Contains xs (erase_method its.0)) same its.2,
      its.3,
      refl,
    )
method_noted place name (constant at n t) ms e one c named = absurd (none-some ms e)
method_noted place name (opaque_type at n ps u) ms e one c named = absurd (none-some ms e)
method_noted place name (record_type at n ps u fields) ms e one c named = absurd (none-some ms e)
method_noted place name (union_type at n ps u fields) ms e one c named = absurd (none-some ms e)
method_noted place name (function at gs h) ms e one c named = absurd (none-some ms e)
method_noted place name (class at n p hs) ms e one c named = absurd (none-some ms e)
method_noted place name (instance at gs n t) ms e one c named = absurd (none-some ms e)
method_noted place name (constant_body at n t v) ms e one c named = absurd (none-some ms e)
method_noted place name (function_body at gs h b stop) ms e one c named = absurd (none-some ms e)

-- the methods of an instance that is found are those that it says
methods_said : (d : PlainDeclaration) → methods_in (Some d) ≡ methods_written d
methods_said (instance_body at gs n t ms) = refl
methods_said (constant at n t) = refl
methods_said (opaque_type at n ps u) = refl
methods_said (record_type at n ps u fields) = refl
methods_said (union_type at n ps u fields) = refl
methods_said (function at gs h) = refl
methods_said (class at n p hs) = refl
methods_said (instance at gs n t) = refl
methods_said (constant_body at n t v) = refl
methods_said (function_body at gs h b stop) = refl

-- a definition of an instance has methods, and the same type parameters
agreed : (sight : Sight) (generics : List (Constrained Bytes)) (e : PlainDeclaration) → OfGenerics sight generics e
    → (ms : List PlainMethod) × (methods_written e ≡ Some ms) × Each (SameGeneric sight) generics (generics_of e)
agreed sight generics (instance_body at gs n t ms) agrees = (ms, refl, agrees)
agreed sight generics (constant at n t) agrees = absurd agrees
agreed sight generics (opaque_type at n ps u) agrees = absurd agrees
agreed sight generics (record_type at n ps u fields) agrees = absurd agrees
agreed sight generics (union_type at n ps u fields) agrees = absurd agrees
agreed sight generics (function at gs h) agrees = absurd agrees
agreed sight generics (class at n p hs) agrees = absurd agrees
agreed sight generics (instance at gs n t) agrees = absurd agrees
agreed sight generics (constant_body at n t v) agrees = absurd agrees
agreed sight generics (function_body at gs h b stop) agrees = absurd agrees

-- ---- methods of a class

-- no two methods have one name
abbrev AreOnce : List PlainMethod → Type 0
AreOnce methods =
    (before after : List PlainMethod) (m other : PlainMethod) → methods ≡ before ++ m ∷ after
    → Contains before other → ¬ (m.header.name.name ≡ other.header.name.name)

-- so two of one name are one
same_method : (methods : List PlainMethod) → AreOnce methods → (m k : PlainMethod) → Contains methods m
    → Contains methods k → m.header.name.name ≡ k.header.name.name → m ≡ k
same_method [] once m k c d same = absurd (nothing_there m c)
same_method (x ∷ rest) once m k c d same =
    by (Contains-cases x rest m c) (Contains-cases x rest k d)
    (λ here there. same_method rest once_there m k here there same)
  where
    once_there : AreOnce rest
    once_there before after one other is there =
        once (x ∷ before) after one other (ap (λ xs. x ∷ xs) is) (Contains-rest x before other there)

    -- the first isn't one that stands behind it
    apart : (one : PlainMethod) → Contains rest one → one.header.name.name ≡ x.header.name.name → ⊥
    apart one there named =
        let its = split rest one there in
        once (x ∷ its.0) its.1 one x (ap (λ xs. x ∷ xs) its.2) (Contains-first x its.0) named

    by : (x ≡ m) ⊎ Contains rest m → (x ≡ k) ⊎ Contains rest k → (Contains rest m → Contains rest k → m ≡ k) → m ≡ k
    by (inl first) (inl second) later = sym first ∙ second
    by (inl first) (inr there) later =
        absurd (apart k there (sym same ∙ sym (ap (λ (o : PlainMethod). o.header.name.name) first)))
    by (inr there) (inl second) later =
        absurd (apart m there (same ∙ sym (ap (λ (o : PlainMethod). o.header.name.name) second)))
    by (inr here) (inr there) later = later here there

-- a method of the name of one of the class has its signature
signature_of : (wanted given : WrittenType → Option Meaning) (all : List (Header Bytes)) (methods : List PlainMethod)
    → AreMethods wanted given all methods → (h : Header Bytes) → Contains all h → (k : PlainMethod) → Contains methods k
    → h.name.name ≡ k.header.name.name → SameSignature wanted given h k.header
signature_of wanted given all methods are h c k there named =
    let its = are.defined h c in
    subst (λ (m : PlainMethod). SameSignature wanted given h m.header)
    (same_method methods are.once its.0 k its.1 there (sym its.2 ∙ named)) its.3

-- ---- the class

module _ (program : List ModuleParts) where
  class_in_is : (o : Option (List (Bytes × DeclAt))) (place : Pos) (name : Placed Bytes)
      (p : InUniverse Bytes) (methods : List (Header Bytes)) (its : ClassText) →
      class_in o (class place name p methods) ≡ Some its → its.methods ≡ methods
  class_in_is None place name p methods its e = absurd (none-some its e)
  class_in_is (Some names) place name p methods its e =
      sym (ap (λ (x : ClassText). x.methods)
      (same_Some (record { visible = names; parameter = parameter p; methods = methods }) its e))

  -- the methods of a class that is found are those that it declares
  class_methods : (at : DeclAt) (d : Standing) → standing_at program at ≡ Some d →
      (place : Pos) (name : Placed Bytes) (p : InUniverse Bytes) (methods : List (Header Bytes)) →
      d.says ≡ class place name p methods
      → (its : ClassText) → class_at program at ≡ Some its → its.methods ≡ methods
  class_methods at d found place name p methods says its e =
      class_in_is (visible_at program d.place d.part) place name p methods its
      (ap (class_in (visible_at program d.place d.part)) (sym says) ∙ sym (ap (class_standing program) found) ∙ e)

-- ---- a row has the methods of its class

module _ (program : List ModuleParts) (noted : List NotedParts) where
  -- the signature of a header, where it is written in a body, is that of one of a class, where the head of a
  -- row stands for the class's parameter
  abbrev pub IsSignedIn : ClassText → Header Bytes → Row → BodyOf → Type 0
  IsSignedIn its h row body =
      SameSignature (wanted (heads_of program) its row.head)
      (given (heads_of program) (types_at program body.place Body) (written_params body.generics)) h body.header

  -- A method of a class that a row gives at a closed type is shipped; or else its body is there, over the type
  -- parameters of the row, and has its signature.
  pub data MethodStands (its : ClassText) (h : Header Bytes) (row : Row) (t : ClosedType) : Type 0 where
    stands_shipped : (call : ShippedCall)
        → prim_of (module_name program row.instance.«module») h.name.name (kind_of t) ≡ Some call
        → MethodStands its h row t
    stands_here : (body : BodyOf)
        → body_of program noted (record { at = row.instance; name = h.name.name }) ≡ Some body
        → bounds_of program body ≡ row.generics → parameters row.generics ≡ written_params body.generics
        → IsSignedIn its h row body → MethodStands its h row t

  -- without its signature
  unsigned : (its : ClassText) (h : Header Bytes) (row : Row) (t : ClosedType) → MethodStands its h row t
      → MethodIsThere program noted h.name.name row t
  unsigned its h row t (stands_shipped call is) = method_is_shipped call is
  unsigned its h row t (stands_here body there bounds over signed) = method_has_body body there bounds

module _ (program : List ModuleParts) (noted : List NotedParts) (derived : IsDerived program noted)
    (declared : AllDeclarationsAreGood program) (promises : AllFulfil program) (gathered : IsGathered program)
    (text : InstanceText) (before : List InstanceText) (good : IsGood program before text) (h : Header Bytes)
    (listed : Contains good.class.methods h)
    (t : ClosedType) (m : ModuleParts) (there : slice_get program text.number.«module» ≡ Some m) where
  abbrev name : Bytes
  name = h.name.name

  abbrev its_target : Target
  its_target = record { at = good.row.instance; name = name }

  abbrev says : (names : List (Bytes × DeclAt))
      × (visible_at program text.number.«module» text.part ≡ Some names) × Says text names (heads_of program)
      good.row
  says = row_read program text good.row good.reads

  names_at : types_at program text.number.«module» text.part ≡ says.0
  names_at = same_Some (types_at program text.number.«module» text.part) says.0 (visible_there ∙ says.1)
    where
      visible_there : Some (types_at program text.number.«module» text.part) ≡ visible_at program
          text.number.«module» text.part
      visible_there = rw there refl

  means_at : generics_meant (types_at program text.number.«module» text.part) (heads_of program) text.generics
      ≡ Are good.row.generics
  means_at = ap (λ names. generics_meant names (heads_of program) text.generics) names_at ∙ says.2.generics

  -- the method of the name among those that are written
  written_one : (methods : List PlainMethod) → text.methods ≡ Some methods → (one : PlainMethod)
      × Contains methods one × (name ≡ one.header.name.name)
  written_one methods is = let its = (good.methods methods is).defined h listed in (its.0, its.1, its.2)

  -- its body, by the declaration that defines the instance
  body_there : (d : Standing) → standing_at program good.row.instance ≡ Some d →
      d.place ≡ text.number.«module» → (index : ℕ) → defining_index program d d.part ≡ Some index
      → (e : PlainDeclaration) → slice_get (declarations_in m.body) index ≡ Some e →
      (methods : List PlainMethod) → methods_written e ≡ Some methods → text.methods ≡ Some methods
      → (body : BodyOf) × (body_of program noted its_target ≡ Some body) × (body.place ≡ text.number.«module»)
      × (body.generics ≡ generics_of e)
      × (k : PlainMethod) × Contains methods k × (name ≡ k.header.name.name) × (body.header ≡ k.header)
  body_there d found at_place index defining e stands methods written is =
      let its = noted_there program noted derived.erased d.place index m e
      (ap (slice_get program) at_place ∙ there) stands in
      let one = written_one methods is in
      let has = method_noted d.place name its.0 methods (ap methods_written its.2 ∙ written) one.0 one.1 one.2 in (
        has.0,
        ap (body_standing program noted name) found
            ∙ ap (λ o. option_and_then (body_in d.place name) (noted_at noted d.place o)) defining
            ∙ ap (option_and_then (body_in d.place name)) its.1 ∙ has.1,
        has.2 ∙ at_place,
        has.3 ∙ ap generics_of its.2,
        has.4,
        has.5,
        has.6,
        has.7,
      )

  -- with the signature of the class's method
  its_names : types_at program text.number.«module» Body ≡ good.names
  its_names = same_Some (types_at program text.number.«module» Body) good.names (visible_there ∙ good.seen)
    where
      visible_there : Some (types_at program text.number.«module» Body) ≡ visible_at program text.number.«module» Body
      visible_there = rw there refl

  stands_so : (methods : List PlainMethod) → text.methods ≡ Some methods → (body : BodyOf)
      → body_of program noted its_target ≡ Some body → body.place ≡ text.number.«module»
      → bounds_of program body ≡ good.row.generics → parameters good.row.generics ≡ written_params body.generics
      → (k : PlainMethod) → Contains methods k → name ≡ k.header.name.name → body.header ≡ k.header
      → MethodStands program noted good.class h good.row t
  stands_so methods is body has at_place bounds over k among named header =
      stands_here body has bounds over
      (subst (λ (it : Header Bytes). Signed (types_at program body.place Body) (written_params body.generics) it)
      (sym header)
      (subst (λ ps. Signed (types_at program body.place Body) ps k.header) over
      (subst (λ names. Signed names (parameters good.row.generics) k.header)
      (sym its_names ∙ ap (λ n. types_at program n Body) (sym at_place))
      (signature_of (wanted (heads_of program) good.class good.row.head)
      (given (heads_of program) good.names (parameters good.row.generics)) good.class.methods methods
      (good.methods methods is) h listed k among named))))
    where
      Signed : List (Bytes × DeclAt) → List Parameter → Header Bytes → Type 0
      Signed names ps it =
          SameSignature (wanted (heads_of program) good.class good.row.head) (given (heads_of program) names ps) h it

  pub of_defined : IsDefined m text → MethodStands program noted good.class h good.row t
  of_defined its =
      let number = says.2.number in
      let says_it : PlainDeclaration = instance_body its.at text.generics text.name text.of its.written in
      let stands = stands_defined program text.number m its.index says_it there its.numbered its.stands in
      let body = body_there (record {
        place = text.number.«module»;
        part = Body;
        index = its.index;
        says =
            says_it;
      }) (ap (standing_at program) number ∙ stands) refl its.index refl says_it its.stands
      its.written refl its.methods in
      let means : generics_meant (types_at program text.number.«module» Body) (heads_of program) text.generics
      ≡ Are good.row.generics =
      subst (λ p. generics_meant (types_at program text.number.«module» p) (heads_of program) text.generics
      ≡ Are good.row.generics) its.part means_at in
      stands_so its.written its.methods body.0 body.1 body.2
      (bounds_here program body.0 text.number.«module» body.2 text.generics good.row.generics body.3 means)
      (params_written (types_at program text.number.«module» Body) (heads_of program) text.generics good.row.generics
      means ∙ ap written_params (sym body.3)) body.4 body.5 body.6 body.7

  pub of_promised : (at : DeclAt) (d : Standing) → standing_at program at ≡ Some d → good.row.class ≡ at →
      (p : Pos) (n : Placed Bytes) (param : InUniverse Bytes) (methods : List (Header Bytes)) →
      d.says ≡ class p n param methods → Contains methods h
      → IsPromised program m text → MethodStands program noted good.class h good.row t
  of_promised at d found of_class p n param methods says_class among its = by m.interface refl m.body refl
    where
      by : (interface : Option Entry) → m.interface ≡ interface → (body : Option Entry) → m.body ≡ body →
          MethodStands program noted good.class h good.row t
      by None none other same =
          absurd (none-some (instance its.at text.generics text.name text.of)
          (sym (ap (λ o. slice_get (declarations_in o) text.number.decl) none) ∙ its.stands))
      by (Some interface) of_interface None none =
          let call = shipped_methods program gathered text.number.«module» m there none text.number.decl
          its.at text.generics text.name text.of its.stands says.0
          (subst (λ part. visible_at program text.number.«module» part ≡ Some says.0) its.part says.1)
          (heads_of program) good.row.class says.2.class
          d (ap (standing_at program) of_class ∙ found) p n param methods says_class h among (kind_of t) in
          stands_shipped call.0
          (ap (λ k. prim_of (module_name program k) name (kind_of t)) (ap (λ (x : DeclAt). x.«module») says.2.number)
          ∙ ap (λ home. prim_of home name (kind_of t)) (name_there program text.number.«module» m there) ∙ call.1)
      by (Some interface) of_interface (Some entry) of_body =
          let promise : PlainDeclaration = instance its.at text.generics text.name text.of in
          let sight : Sight = sight_of program text.number.«module» m in
          let kept = promises text.number.«module» m interface entry there of_interface of_body promise text.name.name
          (listed_at interface.tree.declarations text.number.decl promise
          (sym (ap (λ o. slice_get (declarations_in o) text.number.decl) of_interface) ∙ its.stands)) refl
          in
          let passes = kept_passes sight promise entry.tree.declarations kept in
          let first = find_at (defines sight promise) entry.tree.declarations in
          let index = position_or_len (defines sight promise) entry.tree.declarations in
          let agrees = agreed sight text.generics passes.0 ((keeps_decides sight promise passes.0).0 passes.2) in
          let standing : Standing = record {
            place = text.number.«module»;
            part = Interface;
            index =
                text.number.decl;
            says = promise;
          } in
          let defining : defining_index program standing Interface ≡ Some index =
          ap (λ o. defining_in program text.number.«module» o promise) there
          ∙ ap (λ o. position (defines sight promise)
          (declarations_seen (option_map (λ (e : Entry). e.tree) o))) of_body
          ∙ placed (defines sight promise) entry.tree.declarations passes.0 passes.1 in
          let stands : slice_get (declarations_in m.body) index ≡ Some passes.0 =
          ap (λ o. slice_get (declarations_in o) index) of_body ∙ sym first ∙ passes.1 in
          let methods_are : text.methods ≡ Some agrees.0 =
          its.methods ∙ ap (λ o. methods_in
          (find (instance_defined sight (scope_of text.generics) text.name text.of) (declarations_in o)))
          of_body
          ∙ ap methods_in passes.1 ∙ methods_said passes.0 ∙ agrees.1 in
          let body = body_there standing
          (ap (standing_at program) says.2.number ∙ stands_promised program text.number m promise there
          its.stands) refl index defining passes.0 stands agrees.0 agrees.1 methods_are in
          let means : generics_meant (types_at program text.number.«module» Interface) (heads_of program) text.generics
          ≡ Are good.row.generics =
          subst (λ part. generics_meant (types_at program text.number.«module» part) (heads_of program)
          text.generics ≡ Are good.row.generics) its.part means_at in
          stands_so agrees.0 methods_are body.0 body.1 body.2
          (bounds_promised program body.0 text.number.«module» body.2 m text.generics (generics_of passes.0)
          good.row.generics there body.3 agrees.2 means
          (misfit_none program noted declared derived its_target body.0 body.1))
          (params_written (types_at program text.number.«module» Interface) (heads_of program) text.generics
          good.row.generics means ∙ same_params sight text.generics (generics_of passes.0) agrees.2
          ∙ ap written_params (sym body.3)) body.4 body.5 body.6 body.7

-- ---- of each row

pub methods_stand : (program : List ModuleParts) (noted : List NotedParts) → IsDerived program noted →
    AllDeclarationsAreGood program → InstancesAreGood program → AllFulfil program → IsGathered program →
    (at : DeclAt) (d : Standing) → standing_at program at ≡ Some d → (place : Pos) (name : Placed Bytes)
    (p : InUniverse Bytes) (methods : List (Header Bytes)) → d.says ≡ class place name p methods →
    (h : Header Bytes) → Contains methods h → (row : Row) (t : ClosedType)
    → ClosedInstance (rows_of program) (heads_of program) at t row
    → (its : ClassText) × (class_at program at ≡ Some its) × MethodStands program noted its h row t
methods_stand program noted derived declared instances promises gathered at d found place name p methods says h
    listed row t (by_row its_class u one s there of_class becomes held) =
    let read = read_of program (instances_of program) row there in
    let parts = split (instances_of program) read.0 read.1 in
    let good = instances parts.0 parts.1 read.0 parts.2 in
    let same : good.row ≡ row = same_Some good.row row (sym good.reads ∙ read.2) in
    let class_is : good.row.class ≡ at = ap (λ (r : Row). r.class) same ∙ of_class in
    let its_methods = class_methods program at d found place name p methods says good.class
    (ap (class_at program) (sym class_is) ∙ good.of_class) in
    let among = subst (λ hs. Contains hs h) (sym its_methods) listed in
    let stands = text_stands program read.0 read.1 in (
      good.class,
      ap (class_at program) (sym class_is) ∙ good.of_class,
      subst (λ r. MethodStands program noted good.class h r t) same (by good class_is among stands),
    )
  where
    by : {text : InstanceText} {before : List InstanceText} (good : IsGood program before text) →
        good.row.class ≡ at → Contains good.class.methods h
        → (m : ModuleParts) × (slice_get program text.number.«module» ≡ Some m)
        × (IsPromised program m text ⊎ IsDefined m text) → MethodStands program noted good.class h good.row t
    by {text} {before} good class_is among (m, is, inl its) =
        of_promised program noted derived declared promises gathered text before good h among t m is at d
        found class_is place name p methods says listed its
    by {text} {before} good class_is among (m, is, inr its) =
        of_defined program noted derived declared promises gathered text before good h among t m is its

pub methods_hold : (program : List ModuleParts) (noted : List NotedParts) → IsDerived program noted →
    AllDeclarationsAreGood program → InstancesAreGood program → AllFulfil program → IsGathered program →
    MethodsAreThere program noted
methods_hold program noted derived declared instances promises gathered at d found place name p methods says h
    listed row t gives =
    let its = methods_stand program noted derived declared instances promises gathered at d found place name p methods
    says h listed row t gives in
    unsigned program noted its.0 h row t its.2
