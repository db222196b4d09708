-- Trees and where what they hold is held.
use Rattle.std.proofs.Common.{◌≡◌, ◌⊎◌, inl, inr, ℕ, zero, suc, ◌+◌, ◌≤◌, refl, sym, ap, ◌∙◌, subst, arith}
use Rattle.std.specs.Prelude.{Some}
use Rattle.au_places.specs.Places.{Id, writer}
use Rattle.au_memory.specs.Trees.{Tree, Trees, a_plain, a_made, a_box, a_buffer, a_terminal, a_root, a_writer}
use Rattle.au_memory.specs.Trees.{a_reader, no_trees, tree_then, in_tree, in_trees, nth_tree}
use Rattle.au_memory.proofs.CountLemmas.{writer_in}
use Rattle.au_readers.specs.Exclusive.{Spot, all_of, field_spot, in_box, in_buffer}

-- ---- a tree within another, each at its spot

abbrev pub Same : Tree → Spot → Tree → Spot → Type 0
Same tree at other spot = (tree ≡ other) × (at ≡ spot)

abbrev mutual
  pub Within : Tree → Spot → Tree → Spot → Type 0
  Within (a_made tag born all) at other spot =
      Same (a_made tag born all) at other spot ⊎ Among all 0 (field_spot at) other spot
  Within (a_box born content) at other spot =
      Same (a_box born content) at other spot ⊎ Within content (all_of (in_box born)) other spot
  Within (a_buffer born all) at other spot =
      Same (a_buffer born all) at other spot ⊎ Among all 0 (λ i. all_of (in_buffer born i)) other spot
  Within (a_plain v) at other spot = Same (a_plain v) at other spot
  Within (a_terminal born) at other spot = Same (a_terminal born) at other spot
  Within (a_root born) at other spot = Same (a_root born) at other spot
  Within (a_writer g) at other spot = Same (a_writer g) at other spot
  Within (a_reader g steps) at other spot = Same (a_reader g steps) at other spot

  -- in one of several, of which the first has a number
  pub Among : Trees → ℕ → (ℕ → Spot) → Tree → Spot → Type 0
  Among no_trees n spots other spot = ⊥
  Among (tree_then one rest) n spots other spot =
      Within one (spots n) other spot ⊎ Among rest (suc n) spots other spot

pub within_self : (tree : Tree) (at : Spot) → Within tree at tree at
within_self (a_made tag born all) at = inl (refl, refl)
within_self (a_box born content) at = inl (refl, refl)
within_self (a_buffer born all) at = inl (refl, refl)
within_self (a_plain v) at = (refl, refl)
within_self (a_terminal born) at = (refl, refl)
within_self (a_root born) at = (refl, refl)
within_self (a_writer g) at = (refl, refl)
within_self (a_reader g steps) at = (refl, refl)

pub nth_among : (i n : ℕ) (all : Trees) (spots : ℕ → Spot) (one other : Tree) (spot : Spot) → nth_tree i all ≡ Some one
    → Within one (spots (n + i)) other spot → Among all n spots other spot
nth_among i n no_trees spots one other spot is within = absurd cc
nth_among zero n (tree_then t rest) spots one other spot is within =
    let same : t ≡ one = cc in
    inl (subst (λ (u : Tree). Within u (spots n) other spot) (sym same)
    (subst (λ k. Within one (spots k) other spot) (omega arith) within))
nth_among (suc i) n (tree_then t rest) spots one other spot is within =
    inr (nth_among i (suc n) rest spots one other spot is
    (subst (λ k. Within one (spots k) other spot) (omega arith) within))

from_same : (tree : Tree) (at : Spot) (one : Tree) (spot : Spot) (other : Tree) (to : Spot) → Same tree at one spot
    → Within one spot other to → Within tree at other to
from_same tree at one spot other to same next =
    subst (λ (u : Tree). Within u at other to) (sym same.0)
    (subst (λ (x : Spot). Within one x other to) (sym same.1) next)

-- what is within what is within is within
mutual
  pub within_on : (tree : Tree) (at : Spot) (one : Tree) (spot : Spot) (other : Tree) (to : Spot) → Within tree at one spot
      → Within one spot other to → Within tree at other to
  within_on (a_made tag born all) at one spot other to (inl same) next = from_same (a_made tag born all) at one spot other to same next
  within_on (a_made tag born all) at one spot other to (inr below) next =
      inr (among_on all 0 (field_spot at) one spot other to below next)
  within_on (a_box born content) at one spot other to (inl same) next = from_same (a_box born content) at one spot other to same next
  within_on (a_box born content) at one spot other to (inr below) next =
      inr (within_on content (all_of (in_box born)) one spot other to below next)
  within_on (a_buffer born all) at one spot other to (inl same) next = from_same (a_buffer born all) at one spot other to same next
  within_on (a_buffer born all) at one spot other to (inr below) next =
      inr (among_on all 0 (λ i. all_of (in_buffer born i)) one spot other to below next)
  within_on (a_plain v) at one spot other to same next = from_same (a_plain v) at one spot other to same next
  within_on (a_terminal born) at one spot other to same next = from_same (a_terminal born) at one spot other to same next
  within_on (a_root born) at one spot other to same next = from_same (a_root born) at one spot other to same next
  within_on (a_writer g) at one spot other to same next = from_same (a_writer g) at one spot other to same next
  within_on (a_reader g steps) at one spot other to same next = from_same (a_reader g steps) at one spot other to same next

  pub among_on : (all : Trees) (n : ℕ) (spots : ℕ → Spot) (one : Tree) (spot : Spot) (other : Tree) (to : Spot)
      → Among all n spots one spot → Within one spot other to → Among all n spots other to
  among_on no_trees n spots one spot other to below next = absurd below
  among_on (tree_then t rest) n spots one spot other to (inl here) next =
      inl (within_on t (spots n) one spot other to here next)
  among_on (tree_then t rest) n spots one spot other to (inr later) next =
      inr (among_on rest (suc n) spots one spot other to later next)

-- ---- how often what is within counts

same_count : (id : Id) (tree : Tree) (at : Spot) (other : Tree) (spot : Spot) → Same tree at other spot
    → in_tree id other ≤ in_tree id tree
same_count id tree at other spot same = let count = ap (in_tree id) same.0 in omega arith

mutual
  pub within_count : (id : Id) (tree : Tree) (at : Spot) (other : Tree) (spot : Spot) → Within tree at other spot
      → in_tree id other ≤ in_tree id tree
  within_count id (a_made tag born all) at other spot (inl same) = same_count id (a_made tag born all) at other spot same
  within_count id (a_made tag born all) at other spot (inr below) =
      let less = among_count id all 0 (field_spot at) other spot below in omega arith
  within_count id (a_box born content) at other spot (inl same) = same_count id (a_box born content) at other spot same
  within_count id (a_box born content) at other spot (inr below) =
      let less = within_count id content (all_of (in_box born)) other spot below in omega arith
  within_count id (a_buffer born all) at other spot (inl same) = same_count id (a_buffer born all) at other spot same
  within_count id (a_buffer born all) at other spot (inr below) =
      let less = among_count id all 0 (λ i. all_of (in_buffer born i)) other spot below in omega arith
  within_count id (a_plain v) at other spot same = same_count id (a_plain v) at other spot same
  within_count id (a_terminal born) at other spot same = same_count id (a_terminal born) at other spot same
  within_count id (a_root born) at other spot same = same_count id (a_root born) at other spot same
  within_count id (a_writer g) at other spot same = same_count id (a_writer g) at other spot same
  within_count id (a_reader g steps) at other spot same = same_count id (a_reader g steps) at other spot same

  pub among_count : (id : Id) (all : Trees) (n : ℕ) (spots : ℕ → Spot) (other : Tree) (spot : Spot)
      → Among all n spots other spot → in_tree id other ≤ in_trees id all
  among_count id no_trees n spots other spot below = absurd below
  among_count id (tree_then t rest) n spots other spot (inl here) =
      let less = within_count id t (spots n) other spot here in omega arith
  among_count id (tree_then t rest) n spots other spot (inr later) =
      let less = among_count id rest (suc n) spots other spot later in omega arith

-- ---- a write reference stands at one spot

mutual
  pub one_spot : (g : ℕ) (tree : Tree) (at one two : Spot) → in_tree (writer g) tree ≤ 1
      → Within tree at (a_writer g) one → Within tree at (a_writer g) two → one ≡ two
  one_spot g (a_made tag born all) at one two most (inl same) other = let no = same.0 in absurd cc
  one_spot g (a_made tag born all) at one two most (inr below) (inl same) = let no = same.0 in absurd cc
  one_spot g (a_made tag born all) at one two most (inr below) (inr other) =
      one_among g all 0 (field_spot at) one two (omega (arith, most)) below other
  one_spot g (a_box born content) at one two most (inl same) other = let no = same.0 in absurd cc
  one_spot g (a_box born content) at one two most (inr below) (inl same) = let no = same.0 in absurd cc
  one_spot g (a_box born content) at one two most (inr below) (inr other) =
      one_spot g content (all_of (in_box born)) one two (omega (arith, most)) below other
  one_spot g (a_buffer born all) at one two most (inl same) other = let no = same.0 in absurd cc
  one_spot g (a_buffer born all) at one two most (inr below) (inl same) = let no = same.0 in absurd cc
  one_spot g (a_buffer born all) at one two most (inr below) (inr other) =
      one_among g all 0 (λ i. all_of (in_buffer born i)) one two (omega (arith, most)) below other
  one_spot g (a_plain v) at one two most same other = sym same.1 ∙ other.1
  one_spot g (a_terminal born) at one two most same other = sym same.1 ∙ other.1
  one_spot g (a_root born) at one two most same other = sym same.1 ∙ other.1
  one_spot g (a_writer h) at one two most same other = sym same.1 ∙ other.1
  one_spot g (a_reader h steps) at one two most same other = sym same.1 ∙ other.1

  pub one_among : (g : ℕ) (all : Trees) (n : ℕ) (spots : ℕ → Spot) (one two : Spot) → in_trees (writer g) all ≤ 1
      → Among all n spots (a_writer g) one → Among all n spots (a_writer g) two → one ≡ two
  one_among g no_trees n spots one two most below other = absurd below
  one_among g (tree_then t rest) n spots one two most (inl here) (inl other) =
      one_spot g t (spots n) one two (omega (arith, most)) here other
  one_among g (tree_then t rest) n spots one two most (inr later) (inr other) =
      one_among g rest (suc n) spots one two (omega (arith, most)) later other
  one_among g (tree_then t rest) n spots one two most (inl here) (inr other) =
      let first = within_count (writer g) t (spots n) (a_writer g) one here in
      let second = among_count (writer g) rest (suc n) spots (a_writer g) two other in
      let own = writer_in g in
      absurd (omega (arith, most, first, second, own))
  one_among g (tree_then t rest) n spots one two most (inr later) (inl other) =
      let first = within_count (writer g) t (spots n) (a_writer g) two other in
      let second = among_count (writer g) rest (suc n) spots (a_writer g) one later in
      let own = writer_in g in
      absurd (omega (arith, most, first, second, own))
