-- Constants of a checked program stand.
use Rattle.std.proofs.Common.{◌≡◌, ◌⊎◌, inl, inr, ℕ, Bool, false, true≢false, cond, List, [], find, length}
use Rattle.std.proofs.Common.{Option, None, Some, refl, sym, ap, ◌∙◌, subst}
use Rattle.std.specs.Prelude.{slice_get}
use Rattle.std.specs.List.{position, position_or_len}
use Rattle.std.specs.Option.{option_and_then, option_map}
use Rattle.std.proofs.lemmas.Bool.{lt-ltb}
use Rattle.std.proofs.lemmas.List.Folds.{find_at}
use Rattle.std.proofs.lemmas.Option.{none-some, slice_get_within}
use Rattle.au_base.specs.declared.places.Pos.{Pos}
use Rattle.au_syntax.specs.declared.modules.Part.{Part}
use Rattle.au_syntax.specs.declared.modules.Part.TheVariants.{Interface, Body}
use Rattle.au_syntax.specs.Forms.{formed_declaration}
use Rattle.au_syntax.specs.Modules.{constant, opaque_type, record_type, union_type, function, class, instance}
use Rattle.au_syntax.specs.Modules.{constant_body, function_body, instance_body}
use Rattle.au_syntax.specs.Names.{Placed}
use Rattle.au_syntax.specs.Plain.{Bytes, PlainDeclaration}
use Rattle.au_syntax.specs.Types.{WrittenType}
use Rattle.au_types.specs.declared.spaces.Space.TheVariants.{Types, Values}
use Rattle.au_types.specs.declared.types.DeclAt.{DeclAt}
use Rattle.au_types.specs.Meant.{meant}
use Rattle.au_types.specs.Tables as tables
use Rattle.au_types.specs.Types.{Meaning}
use Rattle.au_modules.specs.Programs.{Entry, ModuleParts}
use Rattle.au_names.specs.declared.targets.Target.{Target}
use Rattle.au_names.proofs.DeclaredByLemmas.{find_declared}
use Rattle.au_names.specs.Exporting.{declarations_seen}
use Rattle.au_names.specs.HeadsOf.{heads_of}
use Rattle.au_names.specs.Meanings.{declared_by}
use Rattle.au_names.specs.Owned.{declarations_in}
use Rattle.au_names.specs.Standing.{Standing, standing_at}
use Rattle.au_promises.specs.Agreeing.{Sight, sight_of}
use Rattle.au_promises.specs.Fulfilled.{OfType, SameType}
use Rattle.au_promises.specs.Promises.{defines}
use Rattle.au_promises.proofs.DecidingLemmas.{keeps_decides}
use Rattle.au_promises.proofs.FulfilledLemmas.{kept_passes}
use Rattle.au_judged_bodies.specs.Outsides.{constant_at, constant_declared, constant_standing, outside_of}
use Rattle.au_judged_bodies.specs.Trees.{NotedParts}
use Rattle.au_judged_bodies.specs.Written.{seen_at, seen_in, types_at}
use Rattle.au_judged_bodies.specs.Bodies.{constant_seen, defining_in, defining_index, noted_at, value_in, value_of}
use Rattle.au_judged_bodies.specs.Bodies.{value_standing}
use Rattle.au_closing_laws.proofs.DefinitionLemmas.{IsThere, listed_at, noted_there, stands_in}
use Rattle.au_closing_laws.proofs.FactLemmas.{parts_hold}
use Rattle.au_judged_bodies.specs.Generic.{constant_of}
use Rattle.au_judged_bodies.specs.Surroundings.{literal_value}
use Rattle.au_memory.specs.Shown.{IsPlain}
use Rattle.au_judged_programs.specs.CheckedChecked.{IsChecked}
use Rattle.au_judged_programs.specs.StandingConstantsStanding.{ConstantsOfProgramsStand}
use Rattle.au_judged_programs.proofs.DefinedLemmas.{defined_fits, none_promised}
use Rattle.au_judged_programs.proofs.DefinedLemmas.{type_written}
use Rattle.au_judged_programs.proofs.GoodDeclarationLemmas.{good_of_body}
use Rattle.au_judged_programs.proofs.LiteralLemmas.{Fits, simple_runs, simple_whole}

-- what is found has a place
placed : {A : Type 0} (p : A → Bool) (xs : List A) (x : A) → find p xs ≡ Some x
    → position p xs ≡ Some (position_or_len p xs)
placed p xs x e =
    ap (λ b. cond b (Some (position_or_len p xs)) None)
    (lt-ltb (position_or_len p xs) (length xs)
    (slice_get_within xs (position_or_len p xs) x (sym (find_at p xs) ∙ e)))

-- what defines a promised constant has a written type that means the same
typed_alike : (sight : Sight) (w : WrittenType) (e : PlainDeclaration) → OfType sight w e
    → (u : WrittenType) × (type_written e ≡ Some u) × SameType sight [] [] w u
typed_alike sight w (constant_body at n u v) agrees = (u, refl, agrees)
typed_alike sight w (constant at n t) agrees = absurd agrees
typed_alike sight w (opaque_type at n ps u) agrees = absurd agrees
typed_alike sight w (record_type at n ps u fields) agrees = absurd agrees
typed_alike sight w (union_type at n ps u cases) agrees = absurd agrees
typed_alike sight w (function at gs h) agrees = absurd agrees
typed_alike sight w (class at n p hs) agrees = absurd agrees
typed_alike sight w (instance at gs n t) agrees = absurd agrees
typed_alike sight w (function_body at gs h b stop) agrees = absurd agrees
typed_alike sight w (instance_body at gs n t ms) agrees = absurd agrees

module _ (program : List ModuleParts) (noted : List NotedParts) (checked : IsChecked program noted) where
  -- what a written type means in a part of the module at a place
  abbrev meant_there : ℕ → Part → WrittenType → Option Meaning
  meant_there place part w = meant [] [] (types_at program place part) (heads_of program) w

  seen_same : (place : ℕ) (m : ModuleParts) (part : Part) → slice_get program place ≡ Some m
      → types_at program place part ≡ declared_by (seen_in Types program place part (Some m))
  seen_same place m part is = ap (λ o. declared_by (seen_in Types program place part o)) is

  -- ---- definitions

  -- a definition of a constant in the body of a module has a literal of its type
  from_body : (place index : ℕ) (m : ModuleParts) (says : PlainDeclaration) (w : WrittenType) (t : Meaning)
      → slice_get program place ≡ Some m → slice_get (declarations_in m.body) index ≡ Some says
      → type_written says ≡ Some w → meant_there place Body w ≡ Some t
      → Fits (option_and_then value_in (noted_at noted place (Some index))) t
  from_body place index m says w t is e written means =
      let its = noted_there program noted checked.derives.erased place index m says is e in
      subst (λ o. Fits (option_and_then value_in o) t) (sym its.1)
      (defined_fits (outside_of program place Body) its.0 w t
      (good_of_body (outside_of program) noted checked.derives.good place index its.0 its.1)
      (ap type_written its.2 ∙ written) means)

  module _ (at : DeclAt) (d : Standing) (found : standing_at program at ≡ Some d) (t : Meaning) where
    abbrev HasLiteral : Type 0
    HasLiteral = Fits (value_standing program noted (Some d)) t

    -- one that stands in a body
    here : (m : ModuleParts) → slice_get program d.place ≡ Some m → d.part ≡ Body
        → slice_get (declarations_in m.body) d.index ≡ Some d.says
        → (w : WrittenType) → type_written d.says ≡ Some w → meant_there d.place d.part w ≡ Some t
        → HasLiteral
    here m is part e w written means =
        subst (λ o. Fits (option_and_then value_in (noted_at noted d.place o)) t)
        (sym (ap (defining_index program d) part))
        (from_body d.place d.index m d.says w t is e written
        (subst (λ p. meant_there d.place p w ≡ Some t) part means))

    -- one that is promised, in a module that has a body
    promised : (m : ModuleParts) (interface body : Entry) → slice_get program d.place ≡ Some m
        → m.interface ≡ Some interface → m.body ≡ Some body → d.part ≡ Interface
        → slice_get (declarations_in m.interface) d.index ≡ Some d.says
        → (place : Pos) (n : Placed Bytes) (w : WrittenType) → d.says ≡ constant place n w
        → meant_there d.place d.part w ≡ Some t → HasLiteral
    promised m interface body is of_interface of_body part e place n w says means =
        let promise : PlainDeclaration = constant place n w in
        let sight : Sight = sight_of program d.place m in
        let listed = listed_at interface.tree.declarations d.index promise
        (sym (ap (λ o. slice_get (declarations_in o) d.index) of_interface) ∙ e ∙ ap Some says) in
        let kept = checked.kept d.place m interface body is of_interface of_body promise n.name listed refl in
        let passes = kept_passes sight promise body.tree.declarations kept in
        let index = position_or_len (defines sight promise) body.tree.declarations in
        let defined : defining_index program d d.part ≡ Some index =
        ap (defining_index program d) part
        ∙ ap (λ o. defining_in program d.place o d.says) is
        ∙ ap (defining_in program d.place (Some m)) says
        ∙ ap (λ o. position (defines sight promise)
        (declarations_seen (option_map (λ (x : Entry). x.tree) o))) of_body
        ∙ placed (defines sight promise) body.tree.declarations passes.0 passes.1 in
        let there : slice_get (declarations_in m.body) index ≡ Some passes.0 =
        ap (λ o. slice_get (declarations_in o) index) of_body
        ∙ sym (find_at (defines sight promise) body.tree.declarations) ∙ passes.1 in
        let its = typed_alike sight w passes.0 ((keeps_decides sight promise passes.0).0 passes.2) in
        let its_means : meant_there d.place Body its.0 ≡ Some t =
        ap (λ names. meant [] [] names (heads_of program) its.0) (seen_same d.place m Body is)
        ∙ sym its.2
        ∙ ap (λ names. meant [] [] names (heads_of program) w) (sym (seen_same d.place m Interface is))
        ∙ subst (λ p. meant_there d.place p w ≡ Some t) part means in
        subst (λ o. Fits (option_and_then value_in (noted_at noted d.place o)) t) (sym defined)
        (from_body d.place index m passes.0 its.0 t is there its.1 its_means)

    -- in a module whatever it has
    in_interface : (m : ModuleParts) → slice_get program at.«module» ≡ Some m → d.place ≡ at.«module»
        → d.part ≡ Interface → slice_get (declarations_in m.interface) d.index ≡ Some d.says
        → (place : Pos) (n : Placed Bytes) (w : WrittenType) → d.says ≡ constant place n w
        → meant_there d.place d.part w ≡ Some t → HasLiteral
    in_interface m is same part e place n w says means = by m.interface refl m.body refl
      where
        by : (interface : Option Entry) → m.interface ≡ interface → (body : Option Entry) → m.body ≡ body
            → HasLiteral
        by None none other its =
            absurd (none-some d.says (sym (ap (λ o. slice_get (declarations_in o) d.index) none) ∙ e))
        by (Some interface) of_interface None none =
            absurd (none_promised program checked.gathered m at.«module» is none d.index place n w
            (e ∙ ap Some says))
        by (Some interface) of_interface (Some body) of_body =
            promised m interface body (ap (slice_get program) same ∙ is) of_interface of_body part e place n w
            says means

    abbrev Stands : Type 0
    Stands = (m : ModuleParts) × (slice_get program at.«module» ≡ Some m)
        × (IsThere at.«module» Interface (declarations_in m.interface) d
        ⊎ IsThere at.«module» Body (declarations_in m.body) d)

    -- no declaration stands in the other part
    not_there : (part : Part) → d.part ≡ part → (says : PlainDeclaration) → d.says ≡ says
        → formed_declaration part says ≡ false → ⊥
    not_there part is says same isnt =
        true≢false (sym (parts_hold program checked.gathered at d found)
        ∙ ap (λ p. formed_declaration p d.says) is ∙ ap (formed_declaration part) same ∙ isnt)

    -- a constant has a literal of its type
    declared_fits : (says : PlainDeclaration) → d.says ≡ says → constant_declared program d says ≡ Some t
        → Stands → HasLiteral
    declared_fits (constant place n w) same means (m, is, inl its) =
        in_interface m is its.0 its.1 its.2 place n w same means
    declared_fits (constant place n w) same means (m, is, inr its) =
        absurd (not_there Body its.1 (constant place n w) same refl)
    declared_fits (constant_body place n w v) same means (m, is, inl its) =
        absurd (not_there Interface its.1 (constant_body place n w v) same refl)
    declared_fits (constant_body place n w v) same means (m, is, inr its) =
        here m (ap (slice_get program) its.0 ∙ is) its.1 its.2 w (ap type_written same) means
    declared_fits (opaque_type place n ps u) same means stands = absurd (none-some t means)
    declared_fits (record_type place n ps u fields) same means stands = absurd (none-some t means)
    declared_fits (union_type place n ps u cases) same means stands = absurd (none-some t means)
    declared_fits (function place gs h) same means stands = absurd (none-some t means)
    declared_fits (class place n p hs) same means stands = absurd (none-some t means)
    declared_fits (instance place gs n w) same means stands = absurd (none-some t means)
    declared_fits (function_body place gs h b stop) same means stands = absurd (none-some t means)
    declared_fits (instance_body place gs n w ms) same means stands = absurd (none-some t means)

  -- ---- names

  -- a name is a constant that is declared, with a literal of this type
  record IsSeen (place : ℕ) (name : Bytes) (t : Meaning) : Type 0 where
    pub at : DeclAt
    pub seen : constant_seen program place name ≡ Some at
    pub fits : Fits (value_of program noted at) t

  seen_fits : (place : ℕ) (name : Bytes) (t : Meaning)
      → (outside_of program place Body).constant name ≡ Some t → IsSeen place name t
  seen_fits place name t e = by (tables.find name (seen_at Values program place Body)) refl e
    where
      found_by : (target : Target) → tables.find name (seen_at Values program place Body) ≡ Some target
          → (o : Option Standing) → standing_at program target.at ≡ o → constant_standing program o ≡ Some t
          → IsSeen place name t
      found_by target is None found e = absurd (none-some t e)
      found_by target is (Some d) found e = record {
        at = target.at;
        seen = find_declared name (seen_at Values program place Body)
            ∙ ap (option_map (λ (x : Target). x.at)) is;
        fits = subst (λ o. Fits (value_standing program noted o) t) (sym found)
            (declared_fits target.at d found t d.says refl e (stands_in program target.at d found));
      }

      by : (o : Option Target) → tables.find name (seen_at Values program place Body) ≡ o
          → constant_at program o ≡ Some t → IsSeen place name t
      by None is e = absurd (none-some t e)
      by (Some target) is e = found_by target is (standing_at program target.at) refl e

pub constants_of_programs_stand : ConstantsOfProgramsStand
constants_of_programs_stand program noted checked place generics given = record {
  values = λ s z name t n e.
      let its = seen_fits program noted checked place name t e in (
        literal_value its.fits.literal,
        ap (constant_of program noted) its.seen ∙ ap (option_map literal_value) its.fits.there,
        subst (IsPlain (literal_value its.fits.literal)) (sym (simple_runs s z t its.fits.simple))
            its.fits.plain,
      );
  wholes = λ name t e.
      simple_whole program place t (seen_fits program noted checked place name t e).fits.simple;
}
