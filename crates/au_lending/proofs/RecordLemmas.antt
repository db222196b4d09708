-- Values of records and unions are made of values under way, and taken apart.
use Rattle.std.proofs.Common.{◌≡◌, ℕ, ◌+◌, ◌≤◌, ◌==◌, Bool, true, false, List, [], ◌∷◌, refl, sym, ap, subst, ◌∙◌, arith}
use Rattle.std.specs.Prelude.{Option, Some, None, is_some, not}
use Rattle.std.proofs.lemmas.Bool.{eqb-true}
use Rattle.au_effects.specs.Values.{Fields, no_fields, field_then, made}
use Rattle.au_places.specs.Memories.{Memory}
use Rattle.au_places.specs.Places.{Id, birth, cell, writer, one_if}
use Rattle.au_types.specs.Types.{Meaning}
use Rattle.au_memory.specs.Trees.{Value, Tree, Trees, a_made, no_trees, tree_then, in_birth, in_tree, in_trees}
use Rattle.au_memory.specs.Loans.{Types, Table}
use Rattle.au_memory.specs.Shown.{Shows, ShowsAll, Has, HasAll, AreDeclared}
use Rattle.au_memory.specs.Forests.{Holds, Made, Core, AreShown, in_forest, in_list}
use Rattle.au_lending.specs.Parting.{CasesAreAlone}
use Rattle.au_lending.specs.Records.{RecordMade, RecordOpened, fields_made, onto, types_made}
use Rattle.au_lending.proofs.CaseLemmas.{IsMade, made_form}
use Rattle.au_lending.proofs.FillLemmas.{first_shown}
use Rattle.au_lending.proofs.RemadeLemmas.{remade}

-- trees of values that came under way so
abbrev trees_onto : Trees → List Tree → List Tree
trees_onto no_trees rest = rest
trees_onto (tree_then one more) rest = trees_onto more (one ∷ rest)

count_onto : (id : Id) (all : Trees) (rest : List Tree)
    → in_list id (trees_onto all rest) ≡ in_trees id all + in_list id rest
count_onto id no_trees rest = omega arith
count_onto id (tree_then one more) rest = let ih = count_onto id more (one ∷ rest) in omega arith

module _ (types : Types) (s : Table) (m : Memory (List ℕ)) where
  -- the trees of values that came under way, and of those that were there
  record Split (vs under : Made) (trees : List Tree) : Type 0 where
    all : Trees
    rest : List Tree
    is : trees ≡ trees_onto all rest
    shown : ShowsAll types s m (fields_made vs) all
    typed : HasAll types s all (types_made vs)
    others : AreShown types s m under rest

  split_shown : (vs under : Made) (trees : List Tree) → AreShown types s m (onto vs under) trees → Split vs under trees
  split_shown [] under trees h =
      record { all = no_trees; rest = trees; is = refl; shown = tt; typed = tt; others = h }
  split_shown (v ∷ vs) under trees h =
      let later = split_shown vs (v ∷ under) trees h in
      let first = first_shown types s m v.0 v.1 under later.rest later.others in
      record {
        all = tree_then first.0 later.all;
        rest = first.1;
        is = later.is ∙ ap (trees_onto later.all) first.2;
        shown = (first.3, later.shown);
        typed = (first.4, later.typed);
        others = first.5;
      }

  join_shown : (vs under : Made) (all : Trees) (rest : List Tree) → ShowsAll types s m (fields_made vs) all
      → HasAll types s all (types_made vs) → AreShown types s m under rest
      → AreShown types s m (onto vs under) (trees_onto all rest)
  join_shown [] under no_trees rest sh h others = others
  join_shown [] under (tree_then one more) rest sh h others = absurd sh
  join_shown (v ∷ vs) under no_trees rest sh h others = absurd sh
  join_shown (v ∷ vs) under (tree_then one more) rest sh h others =
      join_shown vs (v ∷ under) more (one ∷ rest) sh.1 h.1 (sh.0, h.0, others)

  -- fields with their types, as values
  record Paired (parts : Fields (List ℕ)) (of : List Meaning) : Type 0 where
    vs : Made
    fields_are : fields_made vs ≡ parts
    types_are : types_made vs ≡ of

  pair_up : (parts : Fields (List ℕ)) (of : List Meaning) (all : Trees) → ShowsAll types s m parts all
      → HasAll types s all of → Paired parts of
  pair_up no_fields [] no_trees sh h = record { vs = []; fields_are = refl; types_are = refl }
  pair_up no_fields (t ∷ ts) no_trees sh h = absurd h
  pair_up no_fields of (tree_then one more) sh h = absurd sh
  pair_up (field_then v others) of no_trees sh h = absurd sh
  pair_up (field_then v others) [] (tree_then one more) sh h = absurd h
  pair_up (field_then v others) (t ∷ ts) (tree_then one more) sh h =
      let later = pair_up others ts more sh.1 h.1 in
      record {
        vs = (v, t) ∷ later.vs;
        fields_are = ap (field_then v) later.fields_are;
        types_are = ap (λ us. t ∷ us) later.types_are;
      }

-- ---- made

module _ (types : Types) (clock : ℕ) (scope act : ℕ → Bool) (hold : Holds) (type : ℕ → ℕ → Meaning)
    (vs under : Made) (s : Table) (m : Memory (List ℕ))
    (core : Core types clock scope act hold type (onto vs under) s m) (t : Meaning) (tag : ℕ) (born : Option ℕ)
    (fields : types.fields t tag ≡ Some (types_made vs)) (births : is_some born ≡ not (types.is_free t))
    (unborn : (i : ℕ) → born ≡ Some i → in_forest (birth i) core.top core.forest + in_list (birth i) core.trees ≡ 0)
  where
    given : Split types s m vs under core.trees
    given = split_shown types s m vs under core.trees core.shown

    lists : (id : Id) → in_list id core.trees ≡ in_trees id given.all + in_list id given.rest
    lists id = let e = ap (in_list id) given.is in let c = count_onto id given.all given.rest in omega arith

    -- a birth that isn't this one counts for nothing
    birth_once : (id : Id) → in_forest id core.top core.forest
        + ((in_birth id born + in_trees id given.all) + in_list id given.rest) ≤ 1
    birth_once id = by id born refl
      where
        by : (id : Id) (o : Option ℕ) → born ≡ o → in_forest id core.top core.forest
            + ((in_birth id o + in_trees id given.all) + in_list id given.rest) ≤ 1
        by (cell base path) o e =
            let all = lists (cell base path) in let old = core.once (cell base path) in omega arith
        by (writer g) o e = let all = lists (writer g) in let old = core.once (writer g) in omega arith
        by (birth j) None e = let all = lists (birth j) in let old = core.once (birth j) in omega arith
        by (birth j) (Some i) e = by_same (i == j) refl
          where
            by_same : (b : Bool) → (i == j) ≡ b → in_forest (birth j) core.top core.forest
                + ((in_birth (birth j) (Some i) + in_trees (birth j) given.all) + in_list (birth j) given.rest) ≤ 1
            by_same true eq =
                let same = eqb-true i j eq in
                let none : in_forest (birth j) core.top core.forest + in_list (birth j) core.trees ≡ 0 =
                subst (λ c. in_forest (birth c) core.top core.forest + in_list (birth c) core.trees ≡ 0) same
                (unborn i e) in
                let one : in_birth (birth j) (Some i) ≡ 1 = ap one_if eq in
                let all = lists (birth j) in
                omega arith
            by_same false eq =
                let nought : in_birth (birth j) (Some i) ≡ 0 = ap one_if eq in
                let all = lists (birth j) in
                let old = core.once (birth j) in
                omega arith

    made_core : Core types clock scope act hold type ((made tag born (fields_made vs), t) ∷ under) s m
    made_core = remade types clock scope act hold type (onto vs under) s m core m
        ((made tag born (fields_made vs), t) ∷ under) (a_made tag born given.all ∷ given.rest)
        ((fields_made vs, refl, given.shown), (types_made vs, fields, births, given.typed), given.others)
        birth_once (λ k h count to e at. refl) (λ k to tree v e sh. sh)
        (λ k to tag' born' g count rest parts e sh. sh) (λ a y. refl)
        (λ k. let all = lists (writer k) in omega arith)

    made_counts : (id : Id) → in_forest id core.top core.forest + in_list id (a_made tag born given.all ∷ given.rest)
        ≡ (in_forest id core.top core.forest + in_list id core.trees) + in_birth id born
    made_counts id = let all = lists id in omega arith

    pub record_made : RecordMade types clock scope act hold type vs under s m core t tag born
    unfolding made_core remade
    record_made = record {
      after = made_core;
      counts = λ id. made_counts id;
    }

-- ---- taken apart

module _ (types : Types) (forms : AreDeclared types) (cases : CasesAreAlone types) (clock : ℕ) (scope act : ℕ → Bool)
    (hold : Holds) (type : ℕ → ℕ → Meaning) (v : Value) (t : Meaning) (under : Made) (s : Table) (m : Memory (List ℕ))
    (core : Core types clock scope act hold type ((v, t) ∷ under) s m) (some_tag : ℕ) (of : List Meaning)
    (has_case : types.fields t some_tag ≡ Some of) where
  newest : (tree : Tree) × (rest : List Tree) × (core.trees ≡ tree ∷ rest) × Shows types s m v tree × Has types s tree t
      × AreShown types s m under rest
  newest = first_shown types s m v t under core.trees core.shown

  form : IsMade types s newest.0 t
  form = made_form types forms cases s newest.0 t some_tag of has_case newest.4

  shown : Shows types s m v (a_made form.tag form.born form.all)
  shown = subst (λ tree. Shows types s m v tree) form.is newest.3

  pairs : Paired types s m shown.0 form.of
  pairs = pair_up types s m shown.0 form.of form.all shown.2 form.typed

  opened_lists : (id : Id) → in_list id core.trees ≡ (in_birth id form.born + in_trees id form.all) + in_list id newest.1
  opened_lists id =
      let a = ap (in_list id) newest.2 in
      let b = ap (in_tree id) form.is in
      omega arith

  now_lists : (id : Id) → in_list id (trees_onto form.all newest.1) ≡ in_trees id form.all + in_list id newest.1
  now_lists id = count_onto id form.all newest.1

  opened_core : Core types clock scope act hold type (onto pairs.vs under) s m
  opened_core = remade types clock scope act hold type ((v, t) ∷ under) s m core m (onto pairs.vs under)
      (trees_onto form.all newest.1)
      (join_shown types s m pairs.vs under form.all newest.1
      (subst (λ fs. ShowsAll types s m fs form.all) (sym pairs.fields_are) shown.2)
      (subst (λ us. HasAll types s form.all us) (sym pairs.types_are) form.typed) newest.5)
      (λ id.
      let all = opened_lists id in
      let now = now_lists id in
      let once = core.once id in
      omega arith)
      (λ k h count to e at. refl) (λ k to tree w e sh. sh)
      (λ k to tag' born' g count rest parts e sh. sh) (λ a y. refl)
      (λ k.
      let all = opened_lists (writer k) in
      let now = now_lists (writer k) in
      omega arith)

  opened_counts : (id : Id)
      → (in_forest id core.top core.forest + in_list id (trees_onto form.all newest.1)) + in_birth id form.born
      ≡ in_forest id core.top core.forest + in_list id core.trees
  opened_counts id =
      let all = opened_lists id in
      let now = now_lists id in
      omega arith

  pub record_opened : RecordOpened types clock scope act hold type v t under s m core
  unfolding opened_core remade
  record_opened = record {
    tag = form.tag;
    born = form.born;
    parts = pairs.vs;
    is_made = shown.1 ∙ ap (made form.tag form.born) (sym pairs.fields_are);
    fields = form.fields ∙ ap Some (sym pairs.types_are);
    births = form.births;
    after = opened_core;
    counts = λ id. opened_counts id;
  }
