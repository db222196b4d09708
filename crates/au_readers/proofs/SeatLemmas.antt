-- Where what is held stands in the forest: in the tree of a root, or as what a root has lent in parts.
use Rattle.std.proofs.Common.{◌≡◌, inr, ℕ, zero, suc, ◌+◌, List, [], ◌∷◌, ◌++◌, refl, sym, ap, ◌∙◌}
use Rattle.std.proofs.Common.{subst, append_assoc, append-nil, arith}
use Rattle.std.specs.Prelude.{Option, Some, None, slice_get}
use Rattle.au_effects.specs.Parts.{along, field, nth_field, part}
use Rattle.au_effects.specs.References.{place_along}
use Rattle.au_effects.specs.Values.{Base, Fields, Place, box, buffer, content_of, field_then, made, name_of, no_fields, number}
use Rattle.au_effects.specs.Values.{reference, root, terminal, text, truth, unit}
use Rattle.au_places.specs.Memories.{Memory, held_at, later}
use Rattle.au_places.proofs.PartLemmas.{part_append}
use Rattle.au_types.specs.Types.{Meaning}
use Rattle.au_memory.specs.Loans.{Table, Types}
use Rattle.au_memory.specs.Shown.{Has, HasAll, HasEach, IsPlain, Shows, ShowsAll, ShowsEach}
use Rattle.au_memory.specs.Trees.{Tree, Trees, Value, a_plain, a_made, a_box, a_buffer, a_terminal, a_root, a_writer}
use Rattle.au_memory.specs.Trees.{a_reader, no_trees, nth_tree, tree_then}
use Rattle.au_readers.specs.Exclusive.{Holder, Spot, all_of, field_spot, in_box, in_buffer, in_name}
use Rattle.au_readers.proofs.SubtreeLemmas.{Among, Within, nth_among, within_on, within_self}

-- ---- places as spots

abbrev pub holder_of : Base → Holder
holder_of (name_of frame x) = in_name frame x
holder_of (content_of i) = in_box i

abbrev pub spot_of : Place → Spot
spot_of to = record { holder = holder_of to.base; path = to.path }

abbrev pub spot_along : Spot → List ℕ → Spot
spot_along at path = record { holder = at.holder; path = at.path ++ path }

pub held_along : (m : Memory (List ℕ)) (to : Place) (path : List ℕ) (v : Value) → held_at m to ≡ Some v
    → held_at m (place_along to path) ≡ part path v
held_along m to path v h = on (m.at to.base) ∙ ap (λ o. along o (part path)) h
  where
    on : (o : Option Value) → along o (part (to.path ++ path)) ≡ along (along o (part to.path)) (part path)
    on None = refl
    on (Some w) = part_append to.path path w

-- ---- a part of what a tree shows

pub later_nth : (n j : ℕ) (parts : Fields (List ℕ)) → nth_field (n + j) parts ≡ nth_field j (later n parts)
later_nth zero j parts = ap (λ k. nth_field k parts) (omega arith)
later_nth (suc n) j no_fields = refl
later_nth (suc n) j (field_then v rest) = ap (λ k. nth_field k (field_then v rest)) next ∙ later_nth n j rest
  where
    next : suc n + j ≡ suc (n + j)
    next = omega arith

module _ (types : Types) (s : Table) (m : Memory (List ℕ)) where
  -- a value is shown by a tree within another
  abbrev pub Seen : Tree → Spot → Spot → Value → Type 0
  Seen tree at spot v = (one : Tree) × (t : Meaning) × Within tree at one spot × Shows types s m v one × Has types s one t

  abbrev pub SeenAmong : Trees → ℕ → (ℕ → Spot) → Spot → Value → Type 0
  SeenAmong all n spots spot v =
      (one : Tree) × (t : Meaning) × Among all n spots one spot × Shows types s m v one × Has types s one t

  -- the tree of a field
  abbrev pub OneOf : Trees → ℕ → Value → Type 0
  OneOf all i v = (one : Tree) × (t : Meaning) × (nth_tree i all ≡ Some one) × Shows types s m v one × Has types s one t

  pub one_of : (parts : Fields (List ℕ)) (all : Trees) (of : List Meaning) (i : ℕ) (v : Value) → ShowsAll types s m parts all
      → HasAll types s all of → nth_field i parts ≡ Some v → OneOf all i v
  one_of no_fields all of i v shows has e = absurd cc
  one_of (field_then w rest) no_trees of i v shows has e = absurd shows
  one_of (field_then w rest) (tree_then one others) [] i v shows has e = absurd has
  one_of (field_then w rest) (tree_then one others) (t ∷ ts) zero v shows has e =
      let same : w ≡ v = cc in (one, t, refl, subst (λ x. Shows types s m x one) same shows.0, has.0)
  one_of (field_then w rest) (tree_then one others) (t ∷ ts) (suc i) v shows has e =
      one_of rest others ts i v shows.1 has.1 e

  item_of : (items : List Value) (all : Trees) (t : Meaning) (i : ℕ) (v : Value) → ShowsEach types s m items all
      → HasEach types s all t → slice_get items i ≡ Some v → OneOf all i v
  item_of [] all t i v shows has e = absurd cc
  item_of (w ∷ rest) no_trees t i v shows has e = absurd shows
  item_of (w ∷ rest) (tree_then one others) t zero v shows has e =
      let same : w ≡ v = cc in (one, t, refl, subst (λ x. Shows types s m x one) same shows.0, has.0)
  item_of (w ∷ rest) (tree_then one others) t (suc i) v shows has e = item_of rest others t i v shows.1 has.1 e

  -- the field of a value that a tree shows
  abbrev Child : Tree → (Spot → Spot) → Value → Type 0
  Child tree down v =
      (one : Tree) × (t : Meaning) × ((at : Spot) → Within tree at one (down at)) × Shows types s m v one × Has types s one t

  pub field_child : (tree : Tree) (t : Meaning) (tag : ℕ) (born : Option ℕ) (parts : Fields (List ℕ)) (i : ℕ) (v : Value)
      → Shows types s m (made tag born parts) tree → Has types s tree t → nth_field i parts ≡ Some v
      → Child tree (λ at. field_spot at i) v
  field_child (a_made other its all) t tag born parts i v shows has e =
      let same : parts ≡ shows.0 = let is = shows.1 in cc in
      let one = one_of shows.0 all has.0 i v shows.2 has.3 (subst (λ fs. nth_field i fs ≡ Some v) same e) in (
        one.0,
        one.1,
        λ at. inr (nth_among i 0 all (field_spot at) one.0 one.0 (field_spot at i) one.2
            (subst (λ k. Within one.0 (field_spot at k) one.0 (field_spot at i)) (zero_before i)
            (within_self one.0 (field_spot at i)))),
        one.3,
        one.4,
      )
    where
      zero_before : (n : ℕ) → n ≡ 0 + n
      zero_before n = omega arith
  field_child (a_plain w) t tag born parts i v shows has e =
      absurd (subst (λ x. IsPlain x t) (sym shows) has)
  field_child (a_box its content) t tag born parts i v shows has e = let no = shows.1 in absurd cc
  field_child (a_buffer its all) t tag born parts i v shows has e = let no = shows.1 in absurd cc
  field_child (a_terminal its) t tag born parts i v shows has e = absurd cc
  field_child (a_root its) t tag born parts i v shows has e = absurd cc
  field_child (a_writer g) t tag born parts i v shows has e = let no = shows.2 in absurd cc
  field_child (a_reader g steps) t tag born parts i v shows has e = let no = shows.3 in absurd cc

  -- what lies in a box that a tree shows
  pub box_tree : (tree : Tree) (t : Meaning) (i : ℕ) (v : Value) → Shows types s m (box i) tree → Has types s tree t
      → m.at (content_of i) ≡ Some v
      → (content : Tree) × (w : Meaning) × (tree ≡ a_box i content) × Shows types s m v content × Has types s content w
  box_tree (a_box its content) t i v shows has e =
      let same : its ≡ i = let is = shows.1 in cc in
      let there = subst (λ k. m.at (content_of k) ≡ Some shows.0) same shows.2 in
      let value : shows.0 ≡ v = cc in
      (content, has.0, ap (λ k. a_box k content) same, subst (λ x. Shows types s m x content) value shows.3, has.2)
  box_tree (a_plain w) t i v shows has e = absurd (subst (λ x. IsPlain x t) (sym shows) has)
  box_tree (a_made tag its all) t i v shows has e = let no = shows.1 in absurd cc
  box_tree (a_buffer its all) t i v shows has e = let no = shows.1 in absurd cc
  box_tree (a_terminal its) t i v shows has e = absurd cc
  box_tree (a_root its) t i v shows has e = absurd cc
  box_tree (a_writer g) t i v shows has e = let no = shows.2 in absurd cc
  box_tree (a_reader g steps) t i v shows has e = let no = shows.3 in absurd cc

  pub box_child : (tree : Tree) (t : Meaning) (i : ℕ) (v : Value) → Shows types s m (box i) tree → Has types s tree t
      → m.at (content_of i) ≡ Some v → Child tree (λ at. all_of (in_box i)) v
  box_child tree t i v shows has e =
      let its = box_tree tree t i v shows has e in (
        its.0,
        its.1,
        λ at. subst (λ u. Within u at its.0 (all_of (in_box i))) (sym its.2) (inr (within_self its.0 (all_of (in_box i)))),
        its.3,
        its.4,
      )

  -- an element of a buffer that a tree shows
  pub item_child : (tree : Tree) (t : Meaning) (b : ℕ) (items : List Value) (i : ℕ) (v : Value)
      → Shows types s m (buffer b) tree → Has types s tree t → m.elements b ≡ Some items → slice_get items i ≡ Some v
      → Child tree (λ at. all_of (in_buffer b i)) v
  item_child (a_buffer its all) t b items i v shows has e at_i =
      let same : its ≡ b = let is = shows.1 in cc in
      let there = subst (λ k. m.elements k ≡ Some shows.0) same shows.2 in
      let alike : items ≡ shows.0 = cc in
      let one = item_of shows.0 all has.0 i v shows.3 has.2 (subst (λ xs. slice_get xs i ≡ Some v) alike at_i) in (
        one.0,
        one.1,
        λ at. inr (nth_among i 0 all (λ k. all_of (in_buffer its k)) one.0 one.0 (all_of (in_buffer b i)) one.2
            (subst (λ k. Within one.0 (all_of (in_buffer k (0 + i))) one.0 (all_of (in_buffer b i))) (sym same)
            (subst (λ k. Within one.0 (all_of (in_buffer b k)) one.0 (all_of (in_buffer b i))) (zero_before i)
            (within_self one.0 (all_of (in_buffer b i)))))),
        one.3,
        one.4,
      )
    where
      zero_before : (n : ℕ) → n ≡ 0 + n
      zero_before n = omega arith
  item_child (a_plain w) t b items i v shows has e at_i = absurd (subst (λ x. IsPlain x t) (sym shows) has)
  item_child (a_made tag its all) t b items i v shows has e at_i = let no = shows.1 in absurd cc
  item_child (a_box its content) t b items i v shows has e at_i = let no = shows.1 in absurd cc
  item_child (a_terminal its) t b items i v shows has e at_i = absurd cc
  item_child (a_root its) t b items i v shows has e at_i = absurd cc
  item_child (a_writer g) t b items i v shows has e at_i = let no = shows.2 in absurd cc
  item_child (a_reader g steps) t b items i v shows has e at_i = let no = shows.3 in absurd cc

  -- what stands at the end of a path
  pub part_seen : (path : List ℕ) (tree : Tree) (t : Meaning) (at : Spot) (v w : Value) → Shows types s m v tree
      → Has types s tree t → part path v ≡ Some w → Seen tree at (spot_along at path) w
  part_seen [] tree t at v w shows has e =
      let same : v ≡ w = cc in (
        tree,
        t,
        subst (λ p. Within tree at tree (record { holder = at.holder; path = p })) (sym (append-nil at.path))
            (within_self tree at),
        subst (λ x. Shows types s m x tree) same shows,
        has,
      )
  part_seen (i ∷ path) tree t at v w shows has e =
      by v shows e (λ one u x its typed more. part_seen path one u (field_spot at i) x w its typed more)
    where
      Later : Type 0
      Later =
          (one : Tree) (u : Meaning) (x : Value) → Shows types s m x one → Has types s one u → part path x ≡ Some w
          → Seen one (field_spot at i) (spot_along (field_spot at i) path) w

      found : (o : Option Value) → along o (part path) ≡ Some w → (x : Value) × (o ≡ Some x) × (part path x ≡ Some w)
      found None e = absurd cc
      found (Some x) e = (x, refl, e)

      by : (y : Value) → Shows types s m y tree → along (field i y) (part path) ≡ Some w → Later
          → Seen tree at (spot_along at (i ∷ path)) w
      by (made tag born parts) shown e later =
          let there = found (nth_field i parts) e in
          let child = field_child tree t tag born parts i there.0 shown has there.1 in
          let its = later child.0 child.1 there.0 child.3 child.4 there.2 in (
            its.0,
            its.1,
            subst (λ p. Within tree at its.0 (record { holder = at.holder; path = p }))
                (append_assoc at.path (i ∷ []) path)
                (within_on tree at child.0 (field_spot at i) its.0 (spot_along (field_spot at i) path) (child.2 at) its.2),
            its.3,
            its.4,
          )
      by unit shown e later = absurd cc
      by (truth b) shown e later = absurd cc
      by (number kind z) shown e later = absurd cc
      by (text x) shown e later = absurd cc
      by (reference b p) shown e later = absurd cc
      by (box b) shown e later = absurd cc
      by (buffer b) shown e later = absurd cc
      by (terminal b) shown e later = absurd cc
      by (root b) shown e later = absurd cc
