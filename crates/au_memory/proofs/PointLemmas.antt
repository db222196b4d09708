-- What read borrows see stands in memory, as long as the tree does that was lent.
use Rattle.std.proofs.Common.{◌≡◌, ℕ, zero, suc, List, [], ◌∷◌, ◌++◌, refl, ap, subst, ◌∙◌}
use Rattle.std.specs.Prelude.{Option, Some, None, slice_get}
use Rattle.au_effects.specs.Parts.{along, nth_field, field, part}
use Rattle.au_effects.specs.Values.{Fields, Place, content_of, no_fields, field_then}
use Rattle.au_places.specs.Memories.{Memory, held_at}
use Rattle.au_places.specs.Places.{content_place, part_at}
use Rattle.au_places.proofs.MemoryLemmas.{all_held}
use Rattle.au_places.proofs.PartLemmas.{part_append}
use Rattle.au_types.specs.Types.{Meaning}
use Rattle.au_memory.specs.Trees as trees
use Rattle.au_memory.specs.Trees.{Value, Step, inside, Tree, Trees, a_plain, a_made, a_box, a_buffer, a_terminal}
use Rattle.au_memory.specs.Trees.{a_root, a_writer, a_reader, no_trees, tree_then, nth_tree}
use Rattle.au_memory.specs.Loans.{Types, Table, Point, field_point, inner_point, step_point, point_at}
use Rattle.au_memory.specs.Shown.{Shows, ShowsAll, Has, HasAll, Stands}

-- ---- parts of places

part_held : (m : Memory (List ℕ)) (to : Place) (i : ℕ) (o : Option Value)
    → along o (part (to.path ++ i ∷ [])) ≡ along (along o (part to.path)) (field i)
part_held m to i None = refl
part_held m to i (Some v) = part_append to.path (i ∷ []) v ∙ last (part to.path v)
  where
    ended : (o : Option Value) → along o (part []) ≡ o
    ended None = refl
    ended (Some w) = refl

    last : (o : Option Value) → along o (part (i ∷ [])) ≡ along o (field i)
    last None = refl
    last (Some w) = ended (field i w)

-- a field of what stands at a place stands at the part there
pub part_stands : (m : Memory (List ℕ)) (to : Place) (i : ℕ) (v : Value) → held_at m to ≡ Some v
    → held_at m (part_at i to) ≡ field i v
part_stands m to i v h = part_held m to i (m.at to.base) ∙ ap (λ o. along o (field i)) h

module _ (types : Types) (s : Table) (m : Memory (List ℕ)) where
  -- ---- one part of several

  pub nth_shown : (i : ℕ) (all : Trees) (parts : Fields (List ℕ)) (one : Tree) → ShowsAll types s m parts all
      → nth_tree i all ≡ Some one → (v : Value) × (nth_field i parts ≡ Some v) × Shows types s m v one
  nth_shown i no_trees parts one h is = absurd cc
  nth_shown i (tree_then t rest) no_fields one h is = absurd h
  nth_shown zero (tree_then t rest) (field_then v others) one h is =
      let same : t ≡ one = cc in (v, refl, subst (λ u. Shows types s m v u) same h.0)
  nth_shown (suc i) (tree_then t rest) (field_then v others) one h is = nth_shown i rest others one h.1 is

  pub nth_typed : (i : ℕ) (all : Trees) (of : List Meaning) (one : Tree) (u : Meaning) → HasAll types s all of
      → nth_tree i all ≡ Some one → slice_get of i ≡ Some u → Has types s one u
  nth_typed i no_trees of one u h is typed = absurd cc
  nth_typed i (tree_then t rest) [] one u h is typed = absurd h
  nth_typed zero (tree_then t rest) (w ∷ others) one u h is typed =
      let same : t ≡ one = cc in
      let alike : w ≡ u = cc in
      subst (λ x. Has types s one x) alike (subst (λ x. Has types s x w) same h.0)
  nth_typed (suc i) (tree_then t rest) (w ∷ others) one u h is typed = nth_typed i rest others one u h.1 is typed

  -- ---- points

  -- what is taken apart into some of an option
  some_of : {A B : Type 0} (o : Option A) (go : A → Option B) (b : B) → along o go ≡ Some b
      → (a : A) × (o ≡ Some a) × (go a ≡ Some b)
  some_of None go b h = absurd cc
  some_of (Some a) go b h = (a, refl, h)

  field_stands : (i : ℕ) (one two : Point) (tag : ℕ) (born : Option ℕ) (all : Trees) → one.tree ≡ a_made tag born all
      → Stands types s m one → field_point types i one (a_made tag born all) ≡ Some two → Stands types s m two
  field_stands i one two tag born all tree stands h =
      let shown = subst (λ t. Shows types s m stands.value t) tree stands.shown in
      let typed = subst (λ t. Has types s t one.type) tree stands.typed in
      let of = some_of (types.fields one.type tag) _ two h in
      let u = some_of (slice_get of.0 i) _ two of.2 in
      let t = some_of (nth_tree i all) _ two u.2 in
      let is : record { tree = t.0; type = u.0; to = part_at i one.to } ≡ two = cc in
      let alike : typed.0 ≡ of.0 = cc in
      let part = nth_shown i all shown.0 t.0 shown.2 t.1 in
      let has = nth_typed i all of.0 t.0 u.0 (subst (λ l. HasAll types s all l) alike typed.3) t.1 u.1 in
      subst (Stands types s m) is (record {
        value = part.0;
        there = part_stands m one.to i stands.value stands.there ∙ ap (field i) shown.1 ∙ part.1;
        shown = part.2;
        typed = has;
      })

  inner_stands : (one two : Point) (born : ℕ) (content : Tree) → one.tree ≡ a_box born content → Stands types s m one
      → inner_point types one (a_box born content) ≡ Some two → Stands types s m two
  inner_stands one two born content tree stands h =
      let shown = subst (λ t. Shows types s m stands.value t) tree stands.shown in
      let typed = subst (λ t. Has types s t one.type) tree stands.typed in
      let u = some_of (types.boxed one.type) _ two h in
      let is : record { tree = content; type = u.0; to = content_place born } ≡ two = cc in
      let alike : typed.0 ≡ u.0 = cc in
      subst (Stands types s m) is (record {
        value = shown.0;
        there = all_held m (content_of born) ∙ shown.2;
        shown = shown.3;
        typed = subst (λ w. Has types s content w) alike typed.2;
      })

  by_field : (i : ℕ) (one two : Point) (t : Tree) → one.tree ≡ t → Stands types s m one → field_point types i one t ≡ Some two
      → Stands types s m two
  by_field i one two (a_made tag born all) tree stands h = field_stands i one two tag born all tree stands h
  by_field i one two other tree stands h = absurd cc

  by_inner : (one two : Point) (t : Tree) → one.tree ≡ t → Stands types s m one
      → inner_point types one t ≡ Some two → Stands types s m two
  by_inner one two (a_box born content) tree stands h = inner_stands one two born content tree stands h
  by_inner one two other tree stands h = absurd cc

  step_stands : (step : Step) (one two : Point) → Stands types s m one
      → step_point types step one ≡ Some two → Stands types s m two
  step_stands (trees.field i) one two stands h = by_field i one two one.tree refl stands h
  step_stands inside one two stands h = by_inner one two one.tree refl stands h

  -- steps from a point that stands lead to one that does
  pub point_stands : (steps : List Step) (one two : Point) → Stands types s m one → point_at types steps one ≡ Some two
      → Stands types s m two
  point_stands [] one two stands h = let is : one ≡ two = cc in subst (Stands types s m) is stands
  point_stands (step ∷ steps) one two stands h =
      let next = some_of (step_point types step one) (point_at types steps) two h in
      point_stands steps next.0 two (step_stands step one next.0 stands next.1) next.2
