-- The type of a record or union, with its type parameters as arguments, stands over these.
use Rattle.std.proofs.Common.{◌≡◌, ◌⊎◌, inl, inr, ℕ, zero, suc, ◌+◌, ◌<◌, Bool, true, false, cond, List}
use Rattle.std.proofs.Common.{[], ◌∷◌, ◌++◌, length, map, find, Option, None, Some, refl, sym, ap, ◌∙◌, subst}
use Rattle.std.proofs.Common.{append_assoc, arith}
use Rattle.std.specs.Prelude.{is_some, slice_get}
use Rattle.std.specs.List.{flat_map}
use Rattle.std.specs.Map.{lookup}
use Rattle.std.specs.Option.{option_map}
use Rattle.std.specs.Str.{bytes_eq}
use Rattle.std.proofs.lemmas.Option.{none-some, same_Some}
use Rattle.std.proofs.lemmas.Slice.Eq.{bytes_eq-Decides}
use Rattle.std.proofs.lemmas.Bool.{and_from}
use Rattle.au_base.proofs.OptionLemmas.{map_some}
use Rattle.au_base.proofs.ListLemmas.{in_either, get_right}
use Rattle.au_syntax.specs.declared.declarations.Universe.{Universe}
use Rattle.au_syntax.specs.declared.declarations.Universe.TheVariants as universes
use Rattle.au_syntax.specs.declared.modules.Part.{Part}
use Rattle.au_syntax.specs.declared.modules.Part.TheVariants.{Interface, Body}
use Rattle.au_syntax.specs.Modules.{InUniverse, opaque_type, record_type, union_type}
use Rattle.au_syntax.specs.Plain.{Bytes, PlainDeclaration}
use Rattle.au_types.specs.DeclaredNames.{given, names_in, type_names}
use Rattle.au_types.specs.declared.spaces.Space.TheVariants.{Types}
use Rattle.au_types.specs.Tables as tables
use Rattle.au_types.specs.Tables.{firsts}
use Rattle.au_types.proofs.TableLemmas.{find-firsts}
use Rattle.au_types.specs.declared.headings.Head.{Head}
use Rattle.au_types.specs.declared.parameters.Parameter.{Parameter}
use Rattle.au_types.specs.declared.types.DeclAt.{DeclAt}
use Rattle.au_types.specs.Rows.{head_of, same_place}
use Rattle.au_types.specs.Types.{Meaning, named}
use Rattle.au_types.specs.Universes.{universe_in}
use Rattle.au_types.proofs.SameLemmas.{place_self}
use Rattle.au_matching.specs.Forming.{StandsOver, all_fit, all_formed, argument_formed, fit_row, fits_in_kind}
use Rattle.au_matching.specs.Forming.{is_formed}
use Rattle.au_matching.specs.Universes.{of_parameter}
use Rattle.au_judged_types.specs.Meanings.{parameter}
use Rattle.au_modules.specs.Programs.{ModuleParts}
use Rattle.au_names.specs.declared.targets.Target.{Target}
use Rattle.au_names.specs.DeclaredTypes.{DeclaredType, a_type, type_declared}
use Rattle.au_names.specs.HeadsOf.{counting, head_for, heads_of, row_of, row_under, rows_at, rows_from, under_names}
use Rattle.au_names.specs.Owned.{declarations_in, declarations_of, target, targets}
use Rattle.au_names.specs.Standing.{Standing, body_at, body_standing, defined_by, definition_for}
use Rattle.au_names.specs.Standing.{definition_of, is_named, is_whole, module_standing, opaque_name}
use Rattle.au_names.specs.Standing.{standing_at, standing_from, standing_in, whole_name}
use Rattle.au_names.proofs.AmongLemmas.{Among, among-append_left, among-append_right, among-flat_map}
use Rattle.au_names.proofs.AmongLemmas.{among-flat_map_from}
use Rattle.au_names.proofs.DefinitionLemmas.{named as whole_is}
use Rattle.au_rules.specs.Once.{AllNamesAreOnce, AreNew}
use Rattle.au_rules.specs.declared.marks.Role.TheVariants.{Promise, Definition}
use Rattle.au_imports.specs.Good.{IsGood}
use Rattle.au_typing.specs.Called.{as_argument, as_arguments, owned, type_itself, type_number}
use Rattle.au_closing_laws.specs.Premises.{AreOfParts}
use Rattle.au_closing_laws.specs.Standing.{OwnTypesStand}
use Rattle.au_closing_laws.proofs.DefinitionLemmas.{IsThere, stands_in}
use Rattle.au_closing_laws.proofs.FieldLemmas.{params_agree}
use Rattle.au_closing_laws.proofs.GatheredLemmas.{among_map}
use Rattle.au_closing_laws.proofs.HeadLemmas.{numbered_among, standing_numbered}
use Rattle.au_closing_laws.proofs.OnceLemmas.{AreApart, module_new, nothing, parameters_apart}
use Rattle.au_closing_laws.proofs.OnceLemmas.{role_of, said, two_types}

pub ordered : (i j : ℕ) → (i < j) ⊎ ((i ≡ j) ⊎ (j < i))
ordered zero zero = inr (inl refl)
ordered zero (suc j) = inl (omega arith)
ordered (suc i) zero = inr (inr (omega arith))
ordered (suc i) (suc j) = by (ordered i j)
  where
    by : (i < j) ⊎ ((i ≡ j) ⊎ (j < i)) → (suc i < suc j) ⊎ ((suc i ≡ suc j) ⊎ (suc j < suc i))
    by (inl less) = inl (omega (arith, less))
    by (inr (inl same)) = inr (inl (ap suc same))
    by (inr (inr more)) = inr (inr (omega (arith, more)))

-- ---- type parameters as arguments for themselves

pub universe_at : (qs : List (InUniverse Bytes)) (q : InUniverse Bytes) (rest : List (InUniverse Bytes)) →
    universe_in (map parameter qs) q.name.name ≡ None
    → universe_in (map parameter (qs ++ q ∷ rest)) q.name.name ≡ Some q.universe
universe_at [] q rest e = ap (λ b. cond b (Some q.universe) (universe_in (map parameter rest) q.name.name))
    ((bytes_eq-Decides q.name.name q.name.name).1 refl)
universe_at (p ∷ qs) q rest e = by (bytes_eq p.name.name q.name.name) e (universe_at qs q rest)
  where
    by : (b : Bool) → cond b (Some p.universe) (universe_in (map parameter qs) q.name.name) ≡ None
        → (universe_in (map parameter qs) q.name.name ≡ None → universe_in (map parameter (qs ++ q ∷ rest))
        q.name.name ≡ Some q.universe)
        → cond b (Some p.universe) (universe_in (map parameter (qs ++ q ∷ rest)) q.name.name) ≡ Some q.universe
    by true e later = absurd (none-some p.universe (sym e))
    by false e later = later e

fits_itself : (name : Bytes) (u : Universe) → fits_in_kind u (as_argument (record { name = name; universe = u })) ≡ true
fits_itself name universes.Free = refl
fits_itself name universes.Linear = refl
fits_itself name universes.AnyType = refl
fits_itself name universes.Region = refl

all_fit_themselves : (ps : List (InUniverse Bytes)) → all_fit fits_in_kind (map parameter ps)
    (as_arguments (map parameter ps)) ≡ true
all_fit_themselves [] = refl
all_fit_themselves (p ∷ ps) =
    and_from (fits_in_kind p.universe (as_argument (parameter p)))
    (all_fit fits_in_kind (map parameter ps) (as_arguments (map parameter ps)))
    (fits_itself p.name.name p.universe) (all_fit_themselves ps)

module _ (heads : List (DeclAt × Head)) where
  formed_itself : (whole : List Parameter) (name : Bytes) (u : Universe) → universe_in whole name ≡ Some u
      → argument_formed fits_in_kind heads whole (as_argument (record { name = name; universe = u })) ≡ true
  unfolding argument_formed is_formed
  formed_itself whole name universes.Free e = ap (λ o. is_some (of_parameter o)) e
  formed_itself whole name universes.Linear e = ap (λ o. is_some (of_parameter o)) e
  formed_itself whole name universes.AnyType e = ap (λ o. is_some (of_parameter o)) e
  formed_itself whole name universes.Region e = refl

  all_formed_themselves : (ps : List (InUniverse Bytes)) → AreApart ps → (qs rest : List (InUniverse Bytes)) →
      ps ≡ qs ++ rest
      → all_formed fits_in_kind heads (map parameter ps) (as_arguments (map parameter rest)) ≡ true
  unfolding all_formed
  all_formed_themselves ps apart qs [] e = refl
  all_formed_themselves ps apart qs (q ∷ rest) e =
      and_from (argument_formed fits_in_kind heads (map parameter ps) (as_argument (parameter q)))
      (all_formed fits_in_kind heads (map parameter ps) (as_arguments (map parameter rest)))
      (formed_itself (map parameter ps) q.name.name q.universe
      (ap (λ l. universe_in (map parameter l) q.name.name) e ∙ universe_at qs q rest (apart qs q rest e)))
      (all_formed_themselves ps apart (qs ++ q ∷ []) rest (e ∙ sym (append_assoc qs (q ∷ []) rest)))

  -- a type with a row that has these type parameters stands over them
  itself_stands : (at : DeclAt) (head : Head) (ps : List (InUniverse Bytes)) → head_of heads at ≡ Some head →
      head.params ≡ map parameter ps → AreApart ps
      → StandsOver heads (map parameter ps) (named at (as_arguments (map parameter ps)))
  unfolding is_formed
  itself_stands at head ps has same apart =
      and_from (fit_row fits_in_kind (head_of heads at) (as_arguments (map parameter ps)))
      (all_formed fits_in_kind heads (map parameter ps) (as_arguments (map parameter ps)))
      (ap (λ o. fit_row fits_in_kind o (as_arguments (map parameter ps))) has
      ∙ ap (λ qs. all_fit fits_in_kind qs (as_arguments (map parameter ps))) same ∙ all_fit_themselves ps)
      (all_formed_themselves ps apart [] ps refl)

-- ---- the row of a name

-- the number of a name's type is that of its first declaration
pub found_row : (place : ℕ) (ds : List (ℕ × PlainDeclaration)) (name : Bytes) (t : Target) →
    tables.find name (targets place (names_in Types ds)) ≡ Some t
    → (d : ℕ × PlainDeclaration) × (tables.find name (flat_map under_names ds) ≡ Some d)
    × (t.at ≡ record { «module» = place; decl = d.0 })
unfolding names_in
found_row place [] name t e = absurd (none-some t e)
found_row place (d ∷ ds) name t e = by (type_names d.1) e (found_row place ds name t)
  where
    Row : List (Bytes × (ℕ × PlainDeclaration)) → Type 0
    Row rows = (x : ℕ × PlainDeclaration) × (tables.find name rows ≡ Some x)
        × (t.at ≡ record { «module» = place; decl = x.0 })

    on : (b : Bool) (x : Bytes) (others : List (Bytes × Target))
        (rows : List (Bytes × (ℕ × PlainDeclaration))) →
        cond b (Some (target place x d.0)) (tables.find name others) ≡ Some t
        → (tables.find name others ≡ Some t → (y : ℕ × PlainDeclaration) × (tables.find name rows ≡ Some y)
        × (t.at ≡ record { «module» = place; decl = y.0 }))
        → (y : ℕ × PlainDeclaration) × (cond b (Some d) (tables.find name rows) ≡ Some y)
        × (t.at ≡ record { «module» = place; decl = y.0 })
    on true x others rows e later = (d, refl, sym (ap (λ (y : Target). y.at) (same_Some (target place x d.0) t e)))
    on false x others rows e later = later e

    by : (names : List Bytes) → tables.find name (targets place (given d.0 names ++ names_in Types ds)) ≡ Some t
        → (tables.find name (targets place (names_in Types ds)) ≡ Some t → (y : ℕ × PlainDeclaration)
        × (tables.find name (flat_map under_names ds) ≡ Some y)
        × (t.at ≡ record { «module» = place; decl = y.0 }))
        → (y : ℕ × PlainDeclaration) × (tables.find name (map (λ n. (n, d)) names ++ flat_map under_names ds)
        ≡ Some y) × (t.at ≡ record { «module» = place; decl = y.0 })
    by [] e later = later e
    by (x ∷ names) e later =
        on (bytes_eq name x) x (targets place (given d.0 names ++ names_in Types ds))
        (map (λ n. (n, d)) names ++ flat_map under_names ds) e (λ k. by names k later)

found_among : {V : Type 0} (name : Bytes) (ps : List (Bytes × V)) (v : V) → tables.find name ps ≡ Some v →
    Among (name, v) ps
found_among name [] v e = absurd (none-some v e)
found_among {V} name (p ∷ ps) v e = by (bytes_eq name p.0) refl e (found_among name ps v)
  where
    by : (b : Bool) → bytes_eq name p.0 ≡ b → cond b (Some p.1) (tables.find name ps) ≡ Some v →
        (tables.find name ps ≡ Some v → Among (name, v) ps) → Among (name, v) (p ∷ ps)
    by true same e later = inl (ap (λ n. (n, p.1)) (sym ((bytes_eq-Decides name p.0).0 same))
        ∙ ap (λ x. (name, x)) (same_Some p.1 v e))
    by false same e later = inr (later e)

looked_up : (rows : List (DeclAt × Head)) (at : DeclAt) (head : Head) → Among (at, head) rows → (h : Head)
    × (lookup (same_place at) rows ≡ Some h)
looked_up [] at head m = absurd m
looked_up (row ∷ rows) at head m = by (same_place at row.0) refl m (looked_up rows at head)
  where
    by : (b : Bool) → same_place at row.0 ≡ b → Among (at, head) (row ∷ rows) →
        (Among (at, head) rows → (h : Head) × (lookup (same_place at) rows ≡ Some h)) → (h : Head)
        × (cond b (Some row.1) (lookup (same_place at) rows) ≡ Some h)
    by true is m later = (row.1, refl)
    by false is (inl here) later = let not_so : false ≡ true = sym is
        ∙ ap (λ (r : DeclAt × Head). same_place at r.0) here ∙ place_self at in absurd cc
    by false is (inr behind) later = later behind

rows_among : (first : ℕ) (ms : List ModuleParts) (k : ℕ) (m : ModuleParts) (x : DeclAt × Head) →
    slice_get ms k ≡ Some m → Among x (rows_at (first + k) (Some m)) → Among x (rows_from first ms)
unfolding rows_from
rows_among first [] k m x e among = absurd (none-some m e)
rows_among first (one ∷ ms) zero m x e among =
    among-append_left (rows_at first (Some one)) (rows_from (first + 1) ms) x
    (subst (λ n. Among x (rows_at n (Some one))) (at_zero first)
    (subst (λ o. Among x (rows_at (first + 0) o)) (sym e) among))
  where
    at_zero : (n : ℕ) → n + 0 ≡ n
    at_zero n = omega arith
rows_among first (one ∷ ms) (suc k) m x e among =
    among-append_right (rows_at first (Some one)) (rows_from (first + 1) ms) x
    (rows_among (first + 1) ms k m x e (subst (λ n. Among x (rows_at n (Some m))) (shifted first k) among))
  where
    shifted : (n k : ℕ) → n + suc k ≡ (n + 1) + k
    shifted n k = omega arith

counted_among : (name : Bytes) (ds : List (ℕ × PlainDeclaration)) (d : ℕ × PlainDeclaration) →
    tables.find name (flat_map under_names ds) ≡ Some d → Among d (counting ds)
counted_among name ds d e = by (firsts (flat_map under_names ds))
    (found_among name (firsts (flat_map under_names ds)) d (find-firsts name (flat_map under_names ds) ∙ e))
  where
    by : (ps : List (Bytes × (ℕ × PlainDeclaration))) → Among (name, d) ps → Among d (map (λ p. p.1) ps)
    by [] m = absurd m
    by (p ∷ ps) (inl here) = inl (ap (λ (x : Bytes × (ℕ × PlainDeclaration)). x.1) here)
    by (p ∷ ps) (inr later) = inr (by ps later)

-- the first declaration of a name has a row, if it declares a type
row_there : (program : List ModuleParts) (place : ℕ) (m : ModuleParts) (name : Bytes)
    (d : ℕ × PlainDeclaration) (one : DeclaredType) → slice_get program place ≡ Some m
    → tables.find name (flat_map under_names (declarations_of m)) ≡ Some d → type_declared d.1 ≡ Some one →
    (h : Head) × (head_of (heads_of program) (record { «module» = place; decl = d.0 }) ≡ Some h)
row_there program place m name d one here found declared =
    looked_up (heads_of program) at (head_for m.name one)
    (rows_among 0 program place m (at, head_for m.name one) here
    (subst (λ n. Among (at, head_for m.name one) (rows_at n (Some m))) (zero_first place)
    (among-flat_map_from (row_of place m.name) (counting (declarations_of m)) d (at, head_for m.name one)
    (counted_among name (declarations_of m) d found)
    (subst (λ o. Among (at, head_for m.name one) (row_under at (option_map (head_for m.name) o)))
    (sym declared) (inl refl)))))
  where
    at : DeclAt
    at = record { «module» = place; decl = d.0 }

    zero_first : (n : ℕ) → n ≡ 0 + n
    zero_first n = omega arith

-- ---- records and unions, and what they define

whole_named : (says : PlainDeclaration) (name : Bytes) → whole_name says ≡ Some name → Among name (type_names says)
whole_named (record_type at n ps u fields) name e = inl (same_Some n.name name e)
whole_named (union_type at n ps u cases) name e = inl (same_Some n.name name e)
whole_named other name e = absurd (none-some name e)

whole_is_no_promise : (part : Part) (says : PlainDeclaration) (name : Bytes) → whole_name says ≡ Some name →
    role_of part says ≡ Promise → ⊥
whole_is_no_promise Interface (record_type at n ps u fields) name e is = absurd cc
whole_is_no_promise Body (record_type at n ps u fields) name e is = absurd cc
whole_is_no_promise Interface (union_type at n ps u cases) name e is = absurd cc
whole_is_no_promise Body (union_type at n ps u cases) name e is = absurd cc
whole_is_no_promise part other name e is = absurd (none-some name e)

whole_is_not_opaque : (says : PlainDeclaration) (name : Bytes) → whole_name says ≡ Some name → opaque_name says ≡ None
whole_is_not_opaque (record_type at n ps u fields) name e = refl
whole_is_not_opaque (union_type at n ps u cases) name e = refl
whole_is_not_opaque other name e = absurd (none-some name e)

promise_is_opaque : (part : Part) (says : PlainDeclaration) (name : Bytes) → role_of part says ≡ Promise →
    Among name (type_names says)
    → (opaque_name says ≡ Some name) × ((one : DeclaredType) × (type_declared says ≡ Some one))
promise_is_opaque part (opaque_type at n ps u) name is (inl here) =
    (ap (λ x. Some x) here, (a_type true n.name ps u, refl))
promise_is_opaque part (opaque_type at n ps u) name is (inr later) = absurd later
promise_is_opaque Interface (record_type at n ps u fields) name is m = absurd cc
promise_is_opaque Body (record_type at n ps u fields) name is m = absurd cc
promise_is_opaque Interface (union_type at n ps u cases) name is m = absurd cc
promise_is_opaque Body (union_type at n ps u cases) name is m = absurd cc
promise_is_opaque part other name is m = absurd cc

definition_in_body : (part : Part) (says : PlainDeclaration) → role_of part says ≡ Definition → part ≡ Body
definition_in_body Body says is = refl
definition_in_body Interface (opaque_type at n ps u) is = absurd cc
definition_in_body Interface (record_type at n ps u fields) is = absurd cc
definition_in_body Interface (union_type at n ps u cases) is = absurd cc
definition_in_body Interface other is = absurd cc

of_part : (place first : ℕ) (part : Part) (ds : List PlainDeclaration) (k : ℕ) (d : Standing) →
    slice_get (standing_from place part first ds) k ≡ Some d → d.part ≡ part
unfolding standing_from
of_part place first part [] k d e = absurd (none-some d e)
of_part place first part (x ∷ ds) zero d e =
    sym (ap (λ (s : Standing). s.part)
    (same_Some (record { place = place; part = part; index = first; says = x }) d e))
of_part place first part (x ∷ ds) (suc k) d e = of_part place (first + 1) part ds k d e

find_first : {A : Type 0} (p : A → Bool) (xs : List A) (k : ℕ) (x : A) → slice_get xs k ≡ Some x →
    p x ≡ true → ((i : ℕ) (y : A) → i < k → slice_get xs i ≡ Some y → p y ≡ true → ⊥) → find p xs ≡ Some x
find_first p [] k x e is before = absurd (none-some x e)
find_first p (z ∷ xs) zero x e is before =
    ap (λ b. cond b (Some z) (find p xs)) (ap p (same_Some z x e) ∙ is) ∙ e
find_first {A} p (z ∷ xs) (suc k) x e is before = by (p z) refl (λ later. find_first p xs k x e is later)
  where
    by : (b : Bool) → p z ≡ b → (((i : ℕ) (y : A) → i < k → slice_get xs i ≡ Some y → p y ≡ true → ⊥) →
        find p xs ≡ Some x) → cond b (Some z) (find p xs) ≡ Some x
    by true passes later = absurd (before 0 z (omega arith) refl passes)
    by false passes later = later (λ i y less there. before (suc i) y (omega (arith, less)) there)

module _ (program : List ModuleParts) (at : DeclAt) (d : Standing) (name : Bytes)
    (found : standing_at program at ≡ Some d) (whole : whole_name d.says ≡ Some name)
    (m : ModuleParts) (here : slice_get program at.«module» ≡ Some m)
    (new : AreNew nothing [] (flat_map said (module_standing at.«module» m))) where
  abbrev pub all : List Standing
  all = module_standing at.«module» m

  listed : slice_get all at.decl ≡ Some d
  listed = sym (ap (standing_in at.«module» at.decl) here) ∙ found

  -- it is the first of its name in a body
  first_in_body : d.part ≡ Body → find (is_whole name) (body_standing at.«module» m) ≡ Some d
  first_in_body in_body = by (in_either (standing_from at.«module» Interface 0 (declarations_in m.interface))
      (body_standing at.«module» m) at.decl d listed)
    where
      before : (j : ℕ) → at.decl ≡ length
          (standing_from at.«module» Interface 0 (declarations_in m.interface)) + j → (i : ℕ) (y : Standing) →
          i < j → slice_get (body_standing at.«module» m) i ≡ Some y
          → is_whole name y ≡ true → ⊥
      before j numbered_so i y less at_i passes =
          let its = whole_is name (whole_name y.says) passes in
          let above : length (standing_from at.«module» Interface 0 (declarations_in m.interface)) + i
          < at.decl = omega (arith, less, numbered_so) in
          let there = get_right (standing_from at.«module» Interface 0 (declarations_in m.interface))
          (body_standing at.«module» m) i ∙ at_i in
          whole_is_no_promise y.part y.says name its
          (two_types all new (length (standing_from at.«module» Interface 0 (declarations_in m.interface)) +
          i) at.decl y d name above there listed (whole_named y.says name its)
          (whole_named d.says name whole)).0

      by : (slice_get (standing_from at.«module» Interface 0 (declarations_in m.interface)) at.decl ≡ Some d)
          ⊎ ((j : ℕ) × (at.decl ≡ length (standing_from at.«module» Interface 0 (declarations_in m.interface))
          + j) × (slice_get (body_standing at.«module» m) j ≡ Some d))
          → find (is_whole name) (body_standing at.«module» m) ≡ Some d
      by (inl above) =
          let other : Interface ≡ Body =
          sym (of_part at.«module» 0 Interface (declarations_in m.interface) at.decl d above) ∙ in_body in
          absurd cc
      by (inr (j, numbered_so, there)) =
          find_first (is_whole name) (body_standing at.«module» m) j d there
          (ap (is_named name) whole ∙ (bytes_eq-Decides name name).1 refl) (before j numbered_so)

  -- what declares a type of its name is itself, or is what it defines
  pub leads_here : (one : DeclaredType) → type_declared d.says ≡ Some one → (k : ℕ) (s : Standing) →
      slice_get all k ≡ Some s → Among name (type_names s.says)
      → (definition_of program (record { «module» = at.«module»; decl = k }) ≡ Some d)
      × ((other : DeclaredType) × (type_declared s.says ≡ Some other))
  leads_here one declared k s there its_name = by (ordered k at.decl)
    where
      stands : standing_at program (record { «module» = at.«module»; decl = k }) ≡ Some s
      stands = ap (standing_in at.«module» k) here ∙ there

      its_place : s.place ≡ at.«module»
      its_place = placed (stands_in program (record { «module» = at.«module»; decl = k }) s stands)
        where
          placed : (x : ModuleParts) × (slice_get program at.«module» ≡ Some x)
              × (IsThere at.«module» Interface (declarations_in x.interface) s
              ⊎ IsThere at.«module» Body (declarations_in x.body) s) → s.place ≡ at.«module»
          placed (x, is, inl above) = above.0
          placed (x, is, inr below) = below.0

      defined : (o : Option Bytes) → opaque_name s.says ≡ o →
          definition_of program (record { «module» = at.«module»; decl = k })
          ≡ defined_by (body_standing at.«module» m) s o
      defined o opaque =
          ap (definition_for program) stands
          ∙ ap (λ n. defined_by (body_at n (slice_get program n)) s (opaque_name s.says)) its_place
          ∙ ap (λ x. defined_by (body_at at.«module» x) s (opaque_name s.says)) here
          ∙ ap (defined_by (body_standing at.«module» m) s) opaque

      by : (k < at.decl) ⊎ ((k ≡ at.decl) ⊎ (at.decl < k)) →
          (definition_of program (record { «module» = at.«module»; decl = k }) ≡ Some d)
          × ((other : DeclaredType) × (type_declared s.says ≡ Some other))
      by (inl before) =
          let roles = two_types all new k at.decl s d name before there listed its_name
          (whole_named d.says name whole) in
          let opaque = promise_is_opaque s.part s.says name roles.0 its_name in
          (defined (Some name) opaque.0 ∙ first_in_body (definition_in_body d.part d.says roles.1), opaque.1)
      by (inr (inl same)) =
          let is : s ≡ d = same_Some s d (sym there ∙ ap (slice_get all) same ∙ listed) in (
            defined None (ap (λ (x : Standing). opaque_name x.says) is ∙ whole_is_not_opaque d.says name whole)
                ∙ ap (λ x. Some x) is,
            (one, ap (λ (x : Standing). type_declared x.says) is ∙ declared),
          )
      by (inr (inr after)) =
          absurd (whole_is_no_promise d.part d.says name whole
          (two_types all new at.decl k d s name after listed there (whole_named d.says name whole)
          its_name).0)

  -- a declaration that has a name first stands at its number
  abbrev pub Numbered : ℕ × PlainDeclaration → Type 0
  Numbered row = (s : Standing) × (slice_get all row.0 ≡ Some s) × (s.says ≡ row.1) × Among name (type_names row.1)

  at_number : (row : ℕ × PlainDeclaration) (k : ℕ) → row.0 ≡ 0 + k →
      slice_get (declarations_in m.interface ++ declarations_in m.body) k ≡ Some row.1 →
      Among name (type_names row.1) → Numbered row
  at_number row k is there its = on (standing_numbered program at.«module» m k row.1 here there)
    where
      zero_before : (n : ℕ) → 0 + n ≡ n
      zero_before n = omega arith

      on : (s : Standing) × (standing_at program (record { «module» = at.«module»; decl = k }) ≡ Some s)
          × (s.says ≡ row.1) → Numbered row
      on (s, stands, says) = (
        s,
        ap (slice_get all) (is ∙ zero_before k)
            ∙ sym (ap (standing_in at.«module» k) here) ∙ stands,
        says,
        its,
      )

  pub numbered_here : (row : ℕ × PlainDeclaration) → tables.find name (flat_map under_names (declarations_of m))
      ≡ Some row → Numbered row
  numbered_here row e = on (among-flat_map under_names (declarations_of m) (name, row)
      (found_among name (flat_map under_names (declarations_of m)) row e))
    where
      from_number : (k : ℕ) × (row.0 ≡ 0 + k)
          × (slice_get (declarations_in m.interface ++ declarations_in m.body) k ≡ Some row.1) →
          Among name (type_names row.1) → Numbered row
      from_number (k, is, there) its = at_number row k is there its

      to : (x : ℕ × PlainDeclaration) → Among x (declarations_of m) → (n : Bytes) × Among n (type_names x.1)
          × ◌≡◌ {A = Bytes × (ℕ × PlainDeclaration)} (name, row) (n, x) → Numbered row
      to x there (n, its, is) =
          from_number (numbered_among 0 (declarations_in m.interface ++ declarations_in m.body) row
          (subst (λ y. Among y (declarations_of m))
          (sym (ap (λ (p : Bytes × (ℕ × PlainDeclaration)). p.1) is)) there))
          (subst (λ (p : Bytes × (ℕ × PlainDeclaration)). Among p.0 (type_names p.1.1)) (sym is) its)

      on : (x : ℕ × PlainDeclaration) × Among x (declarations_of m) × Among (name, row) (under_names x) → Numbered row
      on (x, there, its) = to x there (among_map (λ n. (n, x)) (name, row) (type_names x.1) its)

-- A type is that of a declaration with these type parameters, which are its arguments: its row has them.
pub record IsItself (heads : List (DeclAt × Head)) (ps : List (InUniverse Bytes)) (t : Meaning) : Type 0 where
  pub at : DeclAt
  pub head : Head
  pub is : named at (as_arguments (map parameter ps)) ≡ t
  pub has : head_of heads at ≡ Some head
  pub same : head.params ≡ map parameter ps
  pub apart : AreApart ps

module _ (program : List ModuleParts) (parts : AreOfParts program) (good : IsGood program)
    (once : AllNamesAreOnce program) where
  module _ (at : DeclAt) (d : Standing) (name : Bytes) (one : DeclaredType)
      (found : standing_at program at ≡ Some d) (whole : whole_name d.says ≡ Some name)
      (declared : type_declared d.says ≡ Some one)
      (m : ModuleParts) (here : slice_get program at.«module» ≡ Some m) where
    new : AreNew nothing [] (flat_map said (module_standing at.«module» m))
    new = module_new program at.«module» m (once at.«module» m here)

    abbrev Stands : Meaning → Type 0
    Stands t = IsItself (heads_of program) one.parameters t

    stands_as : (row : ℕ × PlainDeclaration) → tables.find name (flat_map under_names (declarations_of m)) ≡ Some row
        → Stands (named (record { «module» = at.«module»; decl = row.0 }) (as_arguments (map parameter one.parameters)))
    stands_as row e = on (numbered_here program at d name found whole m here new row e)
      where
        finish : (head : Head) × (head_of (heads_of program) (record { «module» = at.«module»; decl = row.0 })
            ≡ Some head) → definition_of program (record { «module» = at.«module»; decl = row.0 }) ≡ Some d
            → Stands (named (record { «module» = at.«module»; decl = row.0 })
            (as_arguments (map parameter one.parameters)))
        finish (head, has) defined = record {
          at = record { «module» = at.«module»; decl = row.0 };
          head = head;
          is = refl;
          has = has;
          same = params_agree program parts good (record { «module» = at.«module»; decl = row.0 }) d defined head
              has one declared;
          apart = parameters_apart (module_standing at.«module» m) new at.decl d one
              (sym (ap (standing_in at.«module» at.decl) here) ∙ found) declared;
        }

        reach : (s : Standing) → s.says ≡ row.1 →
            (definition_of program (record { «module» = at.«module»; decl = row.0 }) ≡ Some d)
            × ((other : DeclaredType) × (type_declared s.says ≡ Some other))
            → Stands (named (record { «module» = at.«module»; decl = row.0 })
            (as_arguments (map parameter one.parameters)))
        reach s says (defined, (other, its)) =
            finish (row_there program at.«module» m name row other here e (sym (ap type_declared says) ∙ its))
            defined

        on : (s : Standing) × (slice_get (module_standing at.«module» m) row.0 ≡ Some s) × (s.says ≡ row.1)
            × Among name (type_names row.1)
            → Stands (named (record { «module» = at.«module»; decl = row.0 })
            (as_arguments (map parameter one.parameters)))
        on (s, there, says, its) = reach s says
            (leads_here program at d name found whole m here new one declared row.0 s there
            (subst (λ x. Among name (type_names x)) (sym says) its))

    own_here : (t : Meaning) → d.place ≡ at.«module» →
        type_itself program d.place name (map parameter one.parameters) ≡ Some t → Stands t
    own_here t place itself = on (map_some (λ x. named x (as_arguments (map parameter one.parameters)))
        (type_number program d.place name) t itself)
      where
        last : (x : DeclAt) → named x (as_arguments (map parameter one.parameters)) ≡ t → (meant : Target) →
            meant.at ≡ x
            → (row : ℕ × PlainDeclaration)
            × (tables.find name (flat_map under_names (declarations_of m)) ≡ Some row)
            × (meant.at ≡ record { «module» = at.«module»; decl = row.0 }) → Stands t
        last x is meant at_x (row, e, its) =
            subst (λ y. Stands y) (ap (λ y. named y (as_arguments (map parameter one.parameters)))
            (sym its ∙ at_x) ∙ is) (stands_as row e)

        to : (x : DeclAt) → named x (as_arguments (map parameter one.parameters)) ≡ t
            → (meant : Target) × (tables.find name (owned Types d.place (slice_get program d.place))
            ≡ Some meant) × (meant.at ≡ x) → Stands t
        to x is (meant, means, at_x) =
            last x is meant at_x
            (found_row at.«module» (declarations_of m) name meant
            (sym (ap (λ o. tables.find name (owned Types at.«module» o)) here)
            ∙ sym (ap (λ n. tables.find name (owned Types n (slice_get program n))) place) ∙ means))

        on : (x : DeclAt) × (type_number program d.place name ≡ Some x)
            × (named x (as_arguments (map parameter one.parameters)) ≡ t) → Stands t
        on (x, number, is) = to x is (map_some (λ (y : Target). y.at)
            (tables.find name (owned Types d.place (slice_get program d.place))) x number)

  pub own_types_are : (at : DeclAt) (d : Standing) (name : Bytes) (one : DeclaredType) (t : Meaning)
      → standing_at program at ≡ Some d → whole_name d.says ≡ Some name → type_declared d.says ≡ Some one
      → type_itself program d.place name (map parameter one.parameters) ≡ Some t
      → IsItself (heads_of program) one.parameters t
  own_types_are at d name one t found whole declared itself = by (stands_in program at d found)
    where
      placed : (m : ModuleParts) → IsThere at.«module» Interface (declarations_in m.interface) d
          ⊎ IsThere at.«module» Body (declarations_in m.body) d → d.place ≡ at.«module»
      placed m (inl above) = above.0
      placed m (inr below) = below.0

      by : (m : ModuleParts) × (slice_get program at.«module» ≡ Some m)
          × (IsThere at.«module» Interface (declarations_in m.interface) d
          ⊎ IsThere at.«module» Body (declarations_in m.body) d)
          → IsItself (heads_of program) one.parameters t
      by (m, here, its_part) = own_here at d name one found whole declared m here t (placed m its_part) itself

  pub own_types_hold : OwnTypesStand program
  own_types_hold at d name one t found whole declared itself =
      let its = own_types_are at d name one t found whole declared itself in
      subst (StandsOver (heads_of program) (map parameter one.parameters)) its.is
      (itself_stands (heads_of program) its.at its.head one.parameters its.has its.same its.apart)
