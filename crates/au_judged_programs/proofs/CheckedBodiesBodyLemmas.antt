-- Each function that the meaning of a checked program knows is good.
use Rattle.std.proofs.Common.{◌≡◌, ℕ, Bool, true, false, cond, List, [], ◌∷◌, ◌++◌, map, find, Option, None, Some, refl}
use Rattle.std.proofs.Common.{sym, ap, subst}
use Rattle.std.specs.Prelude.{Contains, slice_get}
use Rattle.std.proofs.lemmas.Option.{none-some, same_Some}
use Rattle.au_base.proofs.ListLemmas.{Contains-first, Contains-rest}
use Rattle.au_base.proofs.OptionLemmas.{map_some}
use Rattle.au_syntax.specs.declared.modules.Part.{Part}
use Rattle.au_syntax.specs.declared.modules.Part.TheVariants.{Interface, Body}
use Rattle.au_syntax.specs.Modules.{Constrained, constant, opaque_type, record_type, union_type, function}
use Rattle.au_syntax.specs.Modules.{class, instance, constant_body, function_body, instance_body}
use Rattle.au_syntax.specs.Plain.{Bytes, PlainStatements, plain_statements}
use Rattle.au_syntax.specs.Types.{Labelled}
use Rattle.au_types.specs.declared.headings.Head.{Head}
use Rattle.au_types.specs.declared.parameters.Parameter.{Parameter}
use Rattle.au_types.specs.declared.spaces.Space.TheVariants.{Types}
use Rattle.au_types.specs.declared.types.DeclAt.{DeclAt}
use Rattle.au_matching.specs.Universes.{is_free, universe_of}
use Rattle.au_modules.specs.Programs.{ModuleParts}
use Rattle.au_names.specs.HeadsOf.{heads_of}
use Rattle.au_names.specs.Meanings.{declared_by}
use Rattle.au_names.specs.declared.targets.Target.{Target}
use Rattle.au_names.specs.Owned.{declarations_in}
use Rattle.au_names.specs.Standing.{standing_at}
use Rattle.au_promises.specs.Mentions.{type_parameters}
use Rattle.au_judged_types.specs.Bounds.{parameters}
use Rattle.au_judged_types.specs.Meanings.{class_meant, with_classes, written_params}
use Rattle.au_formed.specs.Text.{visible_in}
use Rattle.au_lives.specs.Refusals.{GoodLives}
use Rattle.au_program_lives.specs.Good as lives
use Rattle.au_program_lives.specs.LinearFaults.{types_in}
use Rattle.au_program_lives.specs.Scopes.{TypeScope}
use Rattle.au_program_lives.specs.Variables.{variables_of}
use Rattle.au_rules.specs.declared.marks.Kind.{Kind}
use Rattle.au_rules.specs.declared.marks.Kind.TheVariants.{Values}
use Rattle.au_rules.specs.declared.marks.Mark.{Mark}
use Rattle.au_rules.specs.Marks.{block_marks, labelled_mark, marks}
use Rattle.au_rules.specs.Once.{AreNew, text_of}
use Rattle.au_rules.specs.Outside as rule
use Rattle.au_type_texts.specs.Given.{Given}
use Rattle.au_judged_bodies.specs.Typing.Bodies.{GoodBody, GoodMethods}
use Rattle.au_judged_bodies.specs.Derivations.{GoodDeclaration}
use Rattle.au_judged_bodies.specs.Notes.{Note}
use Rattle.au_judged_bodies.specs.Outsides.{outside_of}
use Rattle.au_judged_bodies.specs.Scopes.{Outside}
use Rattle.au_judged_bodies.specs.Trees.{NotedDeclaration, NotedMethod, NotedParts, erase_block}
use Rattle.au_judged_bodies.specs.Trees.{erase_declaration, erase_method}
use Rattle.au_judged_bodies.specs.Written.{seen_in, types_at}
use Rattle.au_judged_bodies.proofs.ErasureLemmas.{block_plain}
use Rattle.au_judged_bodies.specs.ClosedTrees.Parts.{field_under}
use Rattle.au_judged_bodies.specs.Generic.{field_seen, function_under}
use Rattle.au_judged_bodies.specs.Bodies.{BodyOf, body_in, body_of, is_method, method_body}
use Rattle.au_judged_bodies.specs.Instances.{Instance}
use Rattle.au_closing_laws.proofs.GenericsLemmas.{body_stands, erased_there}
use Rattle.au_meaning.specs.Views.{Field, Function}
use Rattle.au_judged_programs.specs.CheckedChecked.{IsChecked}
use Rattle.au_judged_bodies.specs.LivedBodiesBodies.{IsGoodFunction}
use Rattle.au_judged_programs.specs.Known.{CheckedBodiesAreGood, IsKnownWell}
use Rattle.au_judged_programs.proofs.CheckedBodiesPlaceLemmas.{spot_of_body}
use Rattle.au_judged_programs.proofs.GoodDeclarationLemmas.{good_of_body}
use Rattle.au_judged_programs.proofs.TextLemmas.{IsNewThere, function_new, item_new, method_new}

-- ---- methods

good_method : (outside : Outside) (generics : List (Constrained Bytes)) (name : Bytes) (ms : List NotedMethod)
    (m : NotedMethod) → GoodMethods outside generics ms → find (is_method name) ms ≡ Some m
    → GoodBody outside generics m.header m.body
good_method outside generics name [] m good e = absurd (none-some m e)
good_method outside generics name (first ∷ rest) m good e =
    by (is_method name first) (λ later. good_method outside generics name rest m good.1 later) e
  where
    by : (b : Bool) → (find (is_method name) rest ≡ Some m → GoodBody outside generics m.header m.body)
        → cond b (Some first) (find (is_method name) rest) ≡ Some m → GoodBody outside generics m.header m.body
    by true later e = subst (λ (x : NotedMethod). GoodBody outside generics x.header x.body)
        (same_Some first m e) good.0
    by false later e = later e

method_listed : (name : Bytes) (ms : List NotedMethod) (m : NotedMethod) → find (is_method name) ms ≡ Some m
    → Contains (map erase_method ms) (erase_method m)
method_listed name [] m e = absurd (none-some m e)
method_listed name (first ∷ rest) m e = by (is_method name first) (λ later. method_listed name rest m later) e
  where
    by : (b : Bool) → (find (is_method name) rest ≡ Some m → Contains (map erase_method rest) (erase_method m))
        → cond b (Some first) (find (is_method name) rest) ≡ Some m
        → Contains (map erase_method (first ∷ rest)) (erase_method m)
    by true later e =
        subst (λ (x : NotedMethod). Contains (map erase_method (first ∷ rest)) (erase_method x)) (same_Some first m e)
        (Contains-first (erase_method first) (map erase_method rest))
    by false later e =
        Contains-rest (erase_method first) (map erase_method rest) (erase_method m) (later e)

-- ---- what is known of a body by its declaration

module _ (place : ℕ) (outside : Outside) (types : List Parameter → TypeScope) where
  record Facts (body : BodyOf) : Type 0 where
    pub at : body.place ≡ place
    pub good : GoodBody outside body.generics body.header body.block
    pub lives : GoodLives (variables_of body.header.parameters (erase_block body.block)
        (types (written_params body.generics)))
    pub new : IsNewThere body.generics body.header (erase_block body.block)

  facts : (name : Bytes) (d : NotedDeclaration) (body : BodyOf) (foreign : Kind → Bytes → Bool) (before : List Mark)
      → body_in place name d ≡ Some body → GoodDeclaration outside d
      → lives.DeclarationIsGood (erase_declaration d) (types (type_parameters (erase_declaration d)))
      → AreNew foreign before (marks Body (erase_declaration d)) → Facts body
  facts name (function_body at generics h block stop) body foreign before e good alive new =
      subst Facts (same_Some (record { place = place; generics = generics; header = h; block = block }) body e)
      (record {
        at = refl;
        good = good;
        lives = alive;
        new = function_new foreign before generics h (erase_block block) new;
      })
  facts name (instance_body at generics its_class t methods) body foreign before e good alive new =
      let its = map_some (method_body place generics) (find (is_method name) methods) body e in
      subst Facts its.2
      (record {
        at = refl;
        good = good_method outside generics name methods its.0 good its.1;
        lives = alive (erase_method its.0) (method_listed name methods its.0 its.1);
        new = method_new foreign before generics name methods its.0 its.1 new;
      })
  facts name (constant at n t) body foreign before e good alive new = absurd (none-some body e)
  facts name (opaque_type at n ps u) body foreign before e good alive new = absurd (none-some body e)
  facts name (record_type at n ps u fields) body foreign before e good alive new = absurd (none-some body e)
  facts name (union_type at n ps u cases) body foreign before e good alive new = absurd (none-some body e)
  facts name (function at gs h) body foreign before e good alive new = absurd (none-some body e)
  facts name (class at n p hs) body foreign before e good alive new = absurd (none-some body e)
  facts name (instance at gs n t) body foreign before e good alive new = absurd (none-some body e)
  facts name (constant_body at n t v) body foreign before e good alive new = absurd (none-some body e)

-- ---- one body

visible_alike : (program : List ModuleParts) (place : ℕ) (part : Part) (o : Option ModuleParts)
    → visible_in program place part o ≡ declared_by (seen_in Types program place part o)
visible_alike program place part None = refl
visible_alike program place part (Some m) = refl

params_alike : (class_of : Bytes → Option DeclAt) (generics : List (Constrained Bytes))
    → parameters (map (with_classes class_of) generics) ≡ written_params generics
params_alike class_of [] = refl
params_alike class_of (p ∷ rest) =
    ap (λ (ps : List Parameter). record { name = p.parameter.name.name; universe = p.parameter.universe } ∷ ps)
    (params_alike class_of rest)

module _ (program : List ModuleParts) (noted : List NotedParts) (checked : IsChecked program noted) where
  abbrev seen_there : ℕ → Outside
  seen_there place = outside_of program place Body

  abbrev types_there : ℕ → List Parameter → TypeScope
  types_there place params = types_in params (types_at program place Body) (heads_of program)

  -- what is known of the body of a function or method, at its place
  body_facts : (target : Target) (body : BodyOf) → body_of program noted target ≡ Some body
      → Facts body.place (seen_there body.place) (types_there body.place) body
  body_facts target body there =
      let stands = body_stands program noted target.name (standing_at program target.at) body there in
      let place = stands.0 in
      let says = erase_declaration stands.2 in
      let m = erased_there program noted checked.derives.erased place stands.1 stands.2 stands.3 in
      let spot = spot_of_body program place m.0 stands.1 says m.1 m.2 in
      let alive = checked.lives.each
      (record { at = record { «module» = place; decl = spot.0 }; part = Body; says = says }) spot.1 in
      let seen = subst (λ (names : List (Bytes × DeclAt)). lives.DeclarationIsGood says
      (types_in (type_parameters says) names (heads_of program)))
      (visible_alike program place Body (slice_get program place)) alive in
      let new = item_new (marks Body) (rule.outside program place m.0 Body) (text_of Interface m.0)
      (declarations_in m.0.body) stands.1 says m.2 (checked.declared.once place m.0 m.1).body in
      let here = facts place (seen_there place) (types_there place) target.name stands.2 body
      (rule.outside program place m.0 Body) new.0 stands.4
      (good_of_body (outside_of program) noted checked.derives.good place stands.1 stands.2 stands.3) seen new.1 in
      subst (λ (p : ℕ). Facts p (seen_there p) (types_there p) body) (sym here.at) here

-- ---- the functions of the meaning

names_kept : (visible : List (Bytes × DeclAt)) (heads : List (DeclAt × Head)) (params : List Parameter)
    (given : Given) (ps : List (Labelled Bytes))
    → map (λ (p : Labelled Bytes). p.name.name) ps
    ≡ map (λ (p : Field). p.name) (map field_seen (map (field_under visible heads params given) ps))
names_kept visible heads params given [] = refl
names_kept visible heads params given (p ∷ ps) =
    ap (λ (names : List Bytes). p.name.name ∷ names) (names_kept visible heads params given ps)

pub bodies_good : CheckedBodiesAreGood
bodies_good program noted checked first one f known =
    let its = map_some (function_under program noted (first one) one.given) (body_of program noted one.of) f known in
    let body = its.0 in
    let is = body_facts program noted checked one.of body its.1 in
    let outside = outside_of program body.place Body in
    let heads = heads_of program in
    let visible = types_at program body.place Body in
    let class_of = class_meant (written_params body.generics) outside.visible outside.heads in
    let params = params_alike class_of body.generics in
    let plain = block_plain body.block in
    let good : IsGoodFunction (function_under program noted (first one) one.given body) outside body.generics
    body.header =
    record {
      body = is.good;
      parameters = names_kept visible heads (written_params body.generics) one.given body.header.parameters;
      tells = λ n. ap (λ (ps : List Parameter). is_free (universe_of heads ps n.of)) (sym params);
      lives = subst (λ (ps : List Parameter). GoodLives (variables_of body.header.parameters
          (plain_statements (λ (b : Bytes). b) body.block) (types_in ps visible heads))) (sym params)
          (subst (λ (b : PlainStatements). GoodLives (variables_of body.header.parameters b
          (types_in (written_params body.generics) visible heads))) (sym plain) is.lives);
      foreign = is.new.foreign;
      before = is.new.before;
      new = subst (λ (b : PlainStatements). AreNew is.new.foreign is.new.before
          (map (labelled_mark Values) body.header.parameters ++ block_marks b)) (sym plain) is.new.new;
    }
    in
    subst (λ (g : Function Instance Note (Unit {0})). IsKnownWell program noted first one g) its.2
    (record { body = body; written = its.1; runs = refl; good = good; declared = is.new.declared })
