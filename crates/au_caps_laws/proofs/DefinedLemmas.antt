-- What defines a declaration, with its notes: itself where it stands in a body, and else what it is promised to be.
use Rattle.std.proofs.Common.{◌≡◌, ◌⊎◌, inl, inr, ℕ, Bool, true, true≢false, List, []}
use Rattle.std.proofs.Common.{find, Option, None, Some, refl, sym, ap, ◌∙◌, subst, arith}
use Rattle.std.specs.Prelude.{slice_get}
use Rattle.std.specs.List.{position}
use Rattle.std.specs.Option.{option_map}
use Rattle.std.proofs.lemmas.List.Folds.{find_at}
use Rattle.std.proofs.lemmas.List.Quantifiers.{position-Some}
use Rattle.std.proofs.lemmas.List.Sums.{position_or_len_is}
use Rattle.std.proofs.lemmas.Option.{none-some, same_Some}
use Rattle.std.proofs.lemmas.Slice.Eq.{bytes_eq-Decides}
use Rattle.au_syntax.specs.declared.modules.Part.{Part}
use Rattle.au_syntax.specs.declared.modules.Part.TheVariants.{Interface, Body}
use Rattle.au_syntax.specs.Modules.{constant, opaque_type, record_type, union_type, function}
use Rattle.au_syntax.specs.Modules.{class, instance, constant_body, function_body, instance_body}
use Rattle.au_syntax.specs.Plain.{Bytes, PlainDeclaration}
use Rattle.au_modules.specs.Programs.{Entry, ModuleParts}
use Rattle.au_names.specs.declared.targets.Target.{Target}
use Rattle.au_names.specs.Exporting.{declarations_seen}
use Rattle.au_names.specs.Owned.{declarations_in}
use Rattle.au_names.specs.Standing.{Standing, standing_at}
use Rattle.au_names.proofs.AmongLemmas.{Among}
use Rattle.au_promises.specs.Agreeing.{sight_of}
use Rattle.au_promises.specs.Promises.{defines, function_defined, is_name}
use Rattle.au_typing.specs.Trees.{NotedDeclaration, NotedParts, erase_declaration, erase_program}
use Rattle.au_classes.proofs.ListLemmas.{found_passes}
use Rattle.au_closing.specs.Bodies.{defining_in, defining_index, noted_at}
use Rattle.au_closing_laws.proofs.DefinitionLemmas.{IsThere, stands_in}
use Rattle.au_closing_laws.proofs.GenericsLemmas.{erased_there}
use Rattle.au_judged_programs.specs.CalledBodiesBodies.{is_function}
use Rattle.au_caps_lists.specs.Bodies.{Bodied, bodied_in}
use Rattle.au_caps.specs.Calls.{a_function}
use Rattle.au_caps.specs.Making as making
use Rattle.au_caps.specs.Making.{StandsFor}
use Rattle.au_caps_laws.proofs.RunForLemmas.{IsRunAt}

-- ---- lists

-- what stands at the place that is found is found
position_found : {A : Type 0} (p : A → Bool) (xs : List A) (i : ℕ) (x : A) → position p xs ≡ Some i
    → slice_get xs i ≡ Some x → find p xs ≡ Some x
position_found p xs i x e there =
    let its = position-Some p xs i x e in
    find_at p xs
    ∙ ap (slice_get xs) (position_or_len_is p xs i x (omega (arith, its.0)) its.2 (λ less. its.1))
    ∙ there

-- ---- where a declaration with notes stands

module _ (program : List ModuleParts) (noted : List NotedParts) (erased : erase_program noted ≡ program) where
  -- what defines a declaration stands in the body of its module: it is the declaration itself, or it is what it is
  -- promised to be
  pub record IsDefinedBy (d : Standing) (x : NotedDeclaration) : Type 0 where
    pub m : ModuleParts
    pub here : slice_get program d.place ≡ Some m
    pub index : ℕ
    pub there : slice_get (declarations_in m.body) index ≡ Some (erase_declaration x)
    pub is : ((d.part ≡ Body) × (d.says ≡ erase_declaration x))
        ⊎ ((d.part ≡ Interface) × (find (defines (sight_of program d.place m) d.says) (declarations_in m.body) ≡ Some
        (erase_declaration x)))

  seen_declarations : (o : Option Entry) → declarations_seen (option_map (λ (e : Entry). e.tree) o) ≡ declarations_in o
  seen_declarations None = refl
  seen_declarations (Some e) = refl

  module _ (target : Target) (d : Standing) (found : standing_at program target.at ≡ Some d) where
    -- it stands in the module of its number
    pub placed_there : d.place ≡ target.at.«module»
    placed_there = by (stands_in program target.at d found)
      where
        by : (m : ModuleParts) × (slice_get program target.at.«module» ≡ Some m)
            × (IsThere target.at.«module» Interface (declarations_in m.interface) d
            ⊎ IsThere target.at.«module» Body (declarations_in m.body) d) → d.place ≡ target.at.«module»
        by (m, is, inl there) = there.0
        by (m, is, inr there) = there.0

    in_body : (m : ModuleParts) → slice_get program d.place ≡ Some m → d.part ≡ Body
        → slice_get (declarations_in m.body) d.index ≡ Some d.says
    in_body m here part = by (stands_in program target.at d found)
      where
        by : (n : ModuleParts) × (slice_get program target.at.«module» ≡ Some n)
            × (IsThere target.at.«module» Interface (declarations_in n.interface) d
            ⊎ IsThere target.at.«module» Body (declarations_in n.body) d)
            → slice_get (declarations_in m.body) d.index ≡ Some d.says
        by (n, is, inl there) = let both : Interface ≡ Body = sym there.1 ∙ part in absurd cc
        by (n, is, inr there) =
            subst (λ (x : ModuleParts). slice_get (declarations_in x.body) d.index ≡ Some d.says)
            (same_Some n m (sym is ∙ ap (slice_get program) (sym there.0) ∙ here)) there.2

    pub defined_by : (x : NotedDeclaration) → noted_at noted d.place (defining_index program d d.part) ≡ Some x
        → IsDefinedBy d x
    defined_by x e = by d.part refl e
      where
        promised : d.part ≡ Interface → (o : Option ℕ) → defining_in program d.place (slice_get program d.place)
            d.says ≡ o
            → noted_at noted d.place o ≡ Some x → IsDefinedBy d x
        promised part None is e = absurd (none-some x e)
        promised part (Some index) is e =
            let its = erased_there program noted erased d.place index x e in
            record {
              m = its.0;
              here = its.1;
              index = index;
              there = its.2;
              is = inr (
                part,
                position_found (defines (sight_of program d.place its.0) d.says) (declarations_in its.0.body) index
                    (erase_declaration x)
                    (ap (position (defines (sight_of program d.place its.0) d.says))
                    (sym (seen_declarations its.0.body))
                    ∙ ap (λ (o : Option ModuleParts). defining_in program d.place o d.says) (sym its.1) ∙ is)
                    its.2,
              );
            }

        by : (part : Part) → d.part ≡ part → noted_at noted d.place (defining_index program d part) ≡ Some x
            → IsDefinedBy d x
        by Interface part e =
            promised part (defining_in program d.place (slice_get program d.place) d.says) refl e
        by Body part e =
            let its = erased_there program noted erased d.place d.index x e in
            record {
              m = its.0;
              here = its.1;
              index = d.index;
              there = its.2;
              is = inl (
                part,
                same_Some d.says (erase_declaration x) (sym (in_body its.0 its.1 part) ∙ its.2),
              );
            }

-- ---- functions

-- what a function's declaration is defined by is a function of its name
defines_name : (name : Bytes) (o : Option Bytes) → is_name name o ≡ true → o ≡ Some name
defines_name name None e = absurd (true≢false (sym e))
defines_name name (Some other) e = ap (λ (x : Bytes). Some x) (sym ((bytes_eq-Decides name other).0 e))

-- the name of a function's declaration
abbrev pub function_name : PlainDeclaration → Option Bytes
function_name (function at gs h) = Some h.name.name
function_name (function_body at gs h block stop) = Some h.name.name
function_name other = None

module _ (program : List ModuleParts) (noted : List NotedParts) (erased : erase_program noted ≡ program) where
  -- the definition of a function has its name
  defined_name : (d : Standing) (x : NotedDeclaration) → IsDefinedBy program noted erased d x → is_function d.says
      ≡ true
      → (function_name d.says ≡ function_defined (erase_declaration x)) ⊎ (bodied_in d.place x ≡ [])
  defined_name d x its function_is = by its.is
    where
      itself : (says : PlainDeclaration) → is_function says ≡ true → says ≡ erase_declaration x
          → (function_name says ≡ function_defined (erase_declaration x)) ⊎ (bodied_in d.place x ≡ [])
      itself says is same = on x same
        where
          on : (y : NotedDeclaration) → says ≡ erase_declaration y
              → (function_name says ≡ function_defined (erase_declaration y)) ⊎ (bodied_in d.place y ≡ [])
          on (function_body at gs h block stop) same = inl (ap function_name same)
          on (instance_body at gs n t ms) same = absurd (true≢false (sym is ∙ ap is_function same))
          on other same = inr refl

      promised : (m : ModuleParts) (says : PlainDeclaration) → is_function says ≡ true
          → defines (sight_of program d.place m) says (erase_declaration x) ≡ true
          → (function_name says ≡ function_defined (erase_declaration x)) ⊎ (bodied_in d.place x ≡ [])
      promised m (function at gs h) is e =
          inl (sym (defines_name h.name.name (function_defined (erase_declaration x)) e))
      promised m (function_body at gs h block stop) is e = absurd (true≢false (sym e))
      promised m (constant at n t) is e = absurd (true≢false (sym is))
      promised m (opaque_type at n ps u) is e = absurd (true≢false (sym is))
      promised m (record_type at n ps u fields) is e = absurd (true≢false (sym is))
      promised m (union_type at n ps u cases) is e = absurd (true≢false (sym is))
      promised m (class at n p hs) is e = absurd (true≢false (sym is))
      promised m (instance at gs n t) is e = absurd (true≢false (sym is))
      promised m (constant_body at n t v) is e = absurd (true≢false (sym is))
      promised m (instance_body at gs n t ms) is e = absurd (true≢false (sym is))

      by : ((d.part ≡ Body) × (d.says ≡ erase_declaration x))
          ⊎ ((d.part ≡ Interface) × (find (defines (sight_of program d.place its.m) d.says) (declarations_in its.m.body)
          ≡ Some (erase_declaration x)))
          → (function_name d.says ≡ function_defined (erase_declaration x)) ⊎ (bodied_in d.place x ≡ [])
      by (inl (part, same)) = itself d.says function_is same
      by (inr (part, e)) =
          promised its.m d.says function_is
          (found_passes (defines (sight_of program d.place its.m) d.says) (declarations_in its.m.body)
          (erase_declaration x) e).1

  -- a function's body of this name stands for the function
  stands_named : (place : ℕ) (name : Bytes) (x : NotedDeclaration) (b : Bodied) → Among b (bodied_in place x)
      → function_defined (erase_declaration x) ≡ Some name → StandsFor program (a_function place name) b
  stands_named place name (function_body at gs h block stop) b (inl is) e =
      subst (λ (y : Bodied). StandsFor program (a_function place name) y) is
      (subst (λ (n : Bytes). StandsFor program (a_function place n) its) (same_Some h.name.name name e)
      (making.the_function its refl))
    where
      its : Bodied
      its = record { place = place; home = None; generics = gs; header = h; block = block }
  stands_named place name (function_body at gs h block stop) b (inr later) e = absurd later
  stands_named place name (instance_body at gs n t ms) b m e = absurd (none-some name e)
  stands_named place name (constant at n t) b m e = absurd m
  stands_named place name (opaque_type at n ps u) b m e = absurd m
  stands_named place name (record_type at n ps u fields) b m e = absurd m
  stands_named place name (union_type at n ps u cases) b m e = absurd m
  stands_named place name (function at gs h) b m e = absurd m
  stands_named place name (class at n p hs) b m e = absurd m
  stands_named place name (instance at gs n t) b m e = absurd m
  stands_named place name (constant_body at n t v) b m e = absurd m

  -- a function that is called stands for the body that is run for it
  pub function_stands : (target : Target) (d : Standing) → standing_at program target.at ≡ Some d
      → function_name d.says ≡ Some target.name → is_function d.says ≡ true → (b : Bodied)
      → IsRunAt program noted target b → StandsFor program (a_function target.at.«module» target.name) b
  function_stands target d found named is b run = by (defined_name d run.noted_as its is)
    where
      same : run.declared ≡ d
      same = same_Some run.declared d (sym run.found ∙ found)

      its : IsDefinedBy program noted erased d run.noted_as
      its = subst (λ (x : Standing). IsDefinedBy program noted erased x run.noted_as) same
          (defined_by program noted erased target run.declared run.found run.noted_as run.defines)

      there : Among b (bodied_in d.place run.noted_as)
      there = subst (λ (x : Standing). Among b (bodied_in x.place run.noted_as)) same run.among

      by : (function_name d.says ≡ function_defined (erase_declaration run.noted_as))
          ⊎ (bodied_in d.place run.noted_as ≡ [])
          → StandsFor program (a_function target.at.«module» target.name) b
      by (inl e) =
          subst (λ (n : ℕ). StandsFor program (a_function n target.name) b)
          (placed_there program noted erased target d found)
          (stands_named d.place target.name run.noted_as b there (sym e ∙ named))
      by (inr none) = absurd (subst (Among b) none there)
