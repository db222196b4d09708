-- A part at the end of a path of fields is replaced: in a tree, and by places.
use Rattle.std.proofs.Common.{◌≡◌, ℕ, zero, suc, ◌+◌, ◌≤◌, ◌==◌, Bool, true, false, List, [], ◌∷◌, ◌++◌}
use Rattle.std.proofs.Common.{if◌then◌else◌, refl, sym, ap, subst, ◌∙◌, arith}
use Rattle.std.specs.Prelude.{Option, Some, None, option_map, slice_get}
use Rattle.std.proofs.lemmas.Bool.{eq-eqb}
use Rattle.au_effects.specs.Parts.{along, field, nth_field, part, with_field, with_nth, with_part}
use Rattle.au_effects.specs.References.{place_along}
use Rattle.au_effects.specs.Values.{Fields, Place, no_fields, field_then}
use Rattle.au_effects.proofs.PartLemmas.{field_changed}
use Rattle.au_places.specs.Memories.{Memory, held_at, written}
use Rattle.au_places.specs.Places.{Id, cell_of, covers, in_place, same_base}
use Rattle.au_places.proofs.MemoryLemmas.{base_self}
use Rattle.au_places.proofs.PartLemmas.{part_append}
use Rattle.au_places.proofs.PlaceLemmas.{covers_most, self_base}
use Rattle.au_types.specs.Types.{Meaning}
use Rattle.au_memory.specs.Trees.{Value, Tree, Trees, a_made, no_trees, tree_then, in_tree, in_trees}
use Rattle.au_memory.specs.Loans.{Types, Table}
use Rattle.au_memory.specs.Shown.{Shows, ShowsAll, Has, HasAll, AreDeclared}
use Rattle.au_memory.proofs.CountLemmas.{none_left}
use Rattle.au_lending.specs.Parting.{CasesAreAlone}
use Rattle.au_lending.specs.Seeing.{LeadsOn}
use Rattle.au_lending.proofs.CaseLemmas.{made_form}

-- ---- places

-- a place covers what lies along a path from it
covers_below : (q p : List ℕ) → covers 0 q (q ++ p) ≡ 1
covers_below [] p = none_left p
covers_below (i ∷ q) p = rw (eq-eqb i i refl) (covers_below q p)

pub place_below : (to : Place) (path : List ℕ) → in_place (cell_of (place_along to path)) to ≡ 1
place_below to path = rw (self_base to.base) (covers_below to.path path)

if_less : (b : Bool) (x y : ℕ) → x ≤ y → (if b then x else 0) ≤ (if b then y else 0)
if_less true x y h = h
if_less false x y h = omega arith

-- and covers no more from there
covers_less : (q p r : List ℕ) → covers 0 (q ++ p) r ≤ covers 0 q r
covers_less [] p r = let most = covers_most 0 p r in let all = none_left r in omega arith
covers_less (i ∷ q) p [] = omega arith
covers_less (i ∷ q) p (j ∷ r) = if_less (i == j) (covers 0 (q ++ p) r) (covers 0 q r) (covers_less q p r)

pub place_less : (to at : Place) (path : List ℕ) → in_place (cell_of at) (place_along to path) ≤ in_place (cell_of at) to
place_less to at path =
    if_less (same_base to.base at.base) (covers 0 (to.path ++ path) at.path) (covers 0 to.path at.path)
    (covers_less to.path path at.path)

-- ---- what stands at places

put_step : (i : ℕ) (q path : List ℕ) (new b was : Value) (o : Option Value) → field i b ≡ o
    → along o (part q) ≡ Some was
    → ((c : Value) → part q c ≡ Some was → part q (with_part (q ++ path) new c) ≡ Some (with_part path new was))
    → along (field i (with_field i (with_part (q ++ path) new) b)) (part q) ≡ Some (with_part path new was)
put_step i q path new b was None e there more = absurd cc
put_step i q path new b was (Some c) e there more =
    ap (λ o. along o (part q)) (field_changed i (with_part (q ++ path) new) b c e) ∙ more c there

-- a part of a part is written
put_below : (q path : List ℕ) (new b was : Value) → part q b ≡ Some was
    → part q (with_part (q ++ path) new b) ≡ Some (with_part path new was)
put_below [] path new b was h = let same : b ≡ was = cc in ap (λ w. Some (with_part path new w)) same
put_below (i ∷ q) path new b was h =
    put_step i q path new b was (field i b) refl h (λ c there. put_below q path new c was there)

-- so of what stands at a place a part is another
pub put_stands : (m : Memory (List ℕ)) (to : Place) (path : List ℕ) (new was : Value) → held_at m to ≡ Some was
    → held_at (written (place_along to path) new m) to ≡ Some (with_part path new was)
put_stands m to path new was h =
    ap (λ o. along o (part to.path))
    (base_self m to.base (option_map (with_part (to.path ++ path) new) (m.at to.base)))
    ∙ by (m.at to.base) h
  where
    by : (o : Option Value) → along o (part to.path) ≡ Some was
        → along (option_map (with_part (to.path ++ path) new) o) (part to.path) ≡ Some (with_part path new was)
    by None there = absurd cc
    by (Some b) there = put_below to.path path new b was there

-- a part of what stands at a place stands at the end of the path
pub part_there : (m : Memory (List ℕ)) (to : Place) (path : List ℕ) (was value : Value) → held_at m to ≡ Some was
    → part path was ≡ Some value → held_at m (place_along to path) ≡ Some value
part_there m to path was value h is = by (m.at to.base) h
  where
    by : (o : Option Value) → along o (part to.path) ≡ Some was → along o (part (to.path ++ path)) ≡ Some value
    by None there = absurd cc
    by (Some b) there = part_append to.path path b ∙ ap (λ o. along o (part path)) there ∙ is

-- ---- trees of which one is replaced

abbrev pub trees_put : ℕ → Tree → Trees → Trees
trees_put i new no_trees = no_trees
trees_put zero new (tree_then one rest) = tree_then new rest
trees_put (suc i) new (tree_then one rest) = tree_then one (trees_put i new rest)

-- one part of several, with its type and its value
record OneOf (types : Types) (s : Table) (m : Memory (List ℕ)) (i : ℕ) (all : Trees) (parts : Fields (List ℕ)) (u : Meaning)
    : Type 0 where
  tree : Tree
  value : Value
  is : nth_field i parts ≡ Some value
  shown : Shows types s m value tree
  typed : Has types s tree u
  counts : (id : Id) (new : Tree) → in_trees id (trees_put i new all) + in_tree id tree
      ≡ in_trees id all + in_tree id new

module _ (types : Types) (s : Table) (m : Memory (List ℕ)) where
  one_of : (i : ℕ) (all : Trees) (parts : Fields (List ℕ)) (of : List Meaning) (u : Meaning)
      → ShowsAll types s m parts all → HasAll types s all of → slice_get of i ≡ Some u → OneOf types s m i all parts u
  one_of i no_trees parts [] u shown has is = absurd cc
  one_of i no_trees parts (w ∷ others) u shown has is = absurd has
  one_of i (tree_then t rest) no_fields of u shown has is = absurd shown
  one_of i (tree_then t rest) (field_then v more) [] u shown has is = absurd has
  one_of zero (tree_then t rest) (field_then v more) (w ∷ others) u shown has is =
      let alike : w ≡ u = cc in
      record {
        tree = t;
        value = v;
        is = refl;
        shown = shown.0;
        typed = subst (λ x. Has types s t x) alike has.0;
        counts = λ id new. omega arith;
      }
  one_of (suc i) (tree_then t rest) (field_then v more) (w ∷ others) u shown has is =
      let later = one_of i rest more others u shown.1 has.1 is in
      record {
        tree = later.tree;
        value = later.value;
        is = later.is;
        shown = later.shown;
        typed = later.typed;
        counts = λ id new. let all = later.counts id new in omega arith;
      }

  put_typed : (i : ℕ) (all : Trees) (of : List Meaning) (u : Meaning) (new : Tree) → HasAll types s all of
      → slice_get of i ≡ Some u → Has types s new u → HasAll types s (trees_put i new all) of
  put_typed i no_trees of u new has is own = has
  put_typed i (tree_then t rest) [] u new has is own = absurd has
  put_typed zero (tree_then t rest) (w ∷ others) u new has is own =
      let alike : w ≡ u = cc in (subst (λ x. Has types s new x) (sym alike) own, has.1)
  put_typed (suc i) (tree_then t rest) (w ∷ others) u new has is own =
      (has.0, put_typed i rest others u new has.1 is own)

  put_shown : (i : ℕ) (all : Trees) (parts : Fields (List ℕ)) (old : Value) (change : Value → Value) (new : Tree)
      → ShowsAll types s m parts all → nth_field i parts ≡ Some old → Shows types s m (change old) new
      → ShowsAll types s m (with_nth i change parts) (trees_put i new all)
  put_shown i no_trees no_fields old change new shown is own = shown
  put_shown i no_trees (field_then v more) old change new shown is own = absurd shown
  put_shown i (tree_then t rest) no_fields old change new shown is own = absurd shown
  put_shown zero (tree_then t rest) (field_then v more) old change new shown is own =
      let alike : v ≡ old = cc in (subst (λ w. Shows types s m (change w) new) (sym alike) own, shown.1)
  put_shown (suc i) (tree_then t rest) (field_then v more) old change new shown is own =
      (shown.0, put_shown i rest more old change new shown.1 is own)

  -- ---- a part of a tree is replaced

  -- The part at the end of a path is there, and another is put in its place.
  pub record PartPut (path : List ℕ) (tree : Tree) (v : Value) (t u : Meaning) (new : Tree) (w : Value) : Type 0 where
    pub old : Tree
    pub value : Value
    pub was : part path v ≡ Some value
    pub old_typed : Has types s old u
    pub after : Tree
    pub typed : Has types s after t
    pub shown : Shows types s m (with_part path w v) after
    pub counts : (id : Id) → in_tree id after + in_tree id old ≡ in_tree id tree + in_tree id new

  pub part_put_in : (forms : AreDeclared types) (cases : CasesAreAlone types) (path : List ℕ) (tree : Tree) (v : Value)
      (t u : Meaning) (new : Tree) (w : Value) → Shows types s m v tree → Has types s tree t → LeadsOn types t path u
      → Shows types s m w new → Has types s new u → PartPut path tree v t u new w
  part_put_in forms cases [] tree v t u new w shown has leads own_shown own = record {
    old = tree;
    value = v;
    was = refl;
    old_typed = subst (λ x. Has types s tree x) leads has;
    after = new;
    typed = subst (λ x. Has types s new x) (sym leads) own;
    shown = own_shown;
    counts = λ id. omega arith;
  }
  part_put_in forms cases (i ∷ path) tree v t u new w shown has leads own_shown own =
      let form = made_form types forms cases s tree t 0 leads.0 leads.2 has in
      let first : form.tag ≡ 0 = leads.3 form.tag form.of form.fields in
      let mine : types.fields t 0 ≡ Some form.of =
      subst (λ n. types.fields t n ≡ Some form.of) first form.fields in
      let given : types.fields t 0 ≡ Some leads.0 = leads.2 in
      let same : form.of ≡ leads.0 = cc in
      let next_is : slice_get form.of i ≡ Some leads.1 = subst (λ of. slice_get of i ≡ Some leads.1) (sym same) leads.4 in
      let is_shown = subst (λ x. Shows types s m v x) form.is shown in
      let one = one_of i form.all is_shown.0 form.of leads.1 is_shown.2 form.typed next_is in
      let rest = part_put_in forms cases path one.tree one.value leads.1 u new w one.shown one.typed leads.5
      own_shown own in
      record {
        old = rest.old;
        value = rest.value;
        was = ap (λ x. along (field i x) (part path)) is_shown.1 ∙ ap (λ o. along o (part path)) one.is ∙ rest.was;
        old_typed = rest.old_typed;
        after = a_made form.tag form.born (trees_put i rest.after form.all);
        typed = (
          form.of,
          form.fields,
          form.births,
          put_typed i form.all form.of leads.1 rest.after form.typed next_is rest.typed,
        );
        shown = (
          with_nth i (with_part path w) is_shown.0,
          ap (with_field i (with_part path w)) is_shown.1,
          put_shown i form.all is_shown.0 one.value (with_part path w) rest.after is_shown.2 one.is rest.shown,
        );
        counts = λ id.
            let inner = rest.counts id in
            let outer = one.counts id rest.after in
            let is = ap (in_tree id) form.is in
            omega arith;
      }
