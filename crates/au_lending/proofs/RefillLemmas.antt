-- The buffer that a loan leads to, which may be used, gets other elements.
use Rattle.std.proofs.Common.{◌≡◌, ℕ, ◌+◌, ◌<◌, Bool, List, [], ◌∷◌, refl, sym, ap, subst}
use Rattle.std.proofs.Common.{◌∙◌, arith}
use Rattle.std.specs.Prelude.{Option, Some}
use Rattle.std.proofs.lemmas.Bool.{eq-eqb}
use Rattle.au_effects.specs.Values.{buffer}
use Rattle.au_places.specs.Memories.{Memory, held_at, with_items}
use Rattle.au_places.specs.Places.{Id, birth, writer, one_if}
use Rattle.au_types.specs.Types.{Meaning}
use Rattle.au_memory.specs.Trees.{Value, Tree, Trees, a_plain, a_made, a_box, a_buffer, a_terminal, a_root, a_writer}
use Rattle.au_memory.specs.Trees.{a_reader, in_birth, in_tree, in_trees}
use Rattle.au_memory.specs.Loans.{Types, Loan, Table, IsWriter}
use Rattle.au_memory.specs.Shown.{Shows, ShowsEach, Has, HasEach, IsDeclared, AreDeclared}
use Rattle.au_memory.specs.Forests.{Held, Holds, Made, Core, AreShown, Usable, whole, parts_lent}
use Rattle.au_memory.specs.Forests.{with_root, in_root, in_forest, in_list, in_held, IsFull, IsNameRow}
use Rattle.au_memory.proofs.FrameLemmas.{agree_items, shows_all_frame, shows_each_frame, shows_items}
use Rattle.au_memory.proofs.TotalLemmas.{total_has, total_put, total_two}
use Rattle.au_memory.proofs.UsableLemmas.{root_below, writer_is_loan}
use Rattle.au_lending.specs.Buffers.{BuffersAreAlone}
use Rattle.au_lending.proofs.ChangeLemmas.{Change, changed_core}
use Rattle.au_lending.proofs.RemadeLemmas.{no_plain}
use Rattle.au_lending.proofs.RowLemmas.{no_loan, row_of, watched_full}

-- a tree of a buffer's type is a buffer
pub record IsBuffer (types : Types) (s : Table) (tree : Tree) (of : Meaning) : Type 0 where
  pub born : ℕ
  pub all : Trees
  pub is : tree ≡ a_buffer born all
  pub typed : HasEach types s all of

pub buffer_form : (types : Types) → AreDeclared types → BuffersAreAlone types → (s : Table) (tree : Tree) (t of : Meaning)
    → types.buffered t ≡ Some of → Has types s tree t → IsBuffer types s tree of
buffer_form types forms buffers s (a_plain v) t of is h = absurd (no_plain v t (forms.buffers t of is) h)
buffer_form types forms buffers s (a_made tag born all) t of is h = absurd (buffers.fields t of tag h.0 is h.1)
buffer_form types forms buffers s (a_box born content) t of is h = absurd (buffers.boxes t of h.0 is h.1)
buffer_form types forms buffers s (a_buffer born all) t of is h =
    let there : types.buffered t ≡ Some h.0 = h.1 in
    let same : h.0 ≡ of = cc in
    record { born = born; all = all; is = refl; typed = subst (λ u. HasEach types s all u) same h.2 }
buffer_form types forms buffers s (a_terminal born) t of is h = absurd (buffers.terminals t of is h)
buffer_form types forms buffers s (a_root born) t of is h = absurd (buffers.roots t of is h)
buffer_form types forms buffers s (a_writer g) t of is h = absurd (subst IsDeclared h.3 (forms.buffers t of is))
buffer_form types forms buffers s (a_reader g steps) t of is h = absurd (subst IsDeclared h.3 (forms.buffers t of is))

-- the elements of a buffer that were put there
pub items_self : (m : Memory (List ℕ)) (i : ℕ) (o : Option (List Value)) → (with_items i o m).elements i ≡ o
items_self m i o = rw (eq-eqb i i refl)

-- values under way in which a buffer doesn't count
pub shown_items : (types : Types) (s : Table) (m : Memory (List ℕ)) (i : ℕ) (o : Option (List Value)) (vs : Made)
    (ts : List Tree) → in_list (birth i) ts ≡ 0 → AreShown types s m vs ts
    → AreShown types s (with_items i o m) vs ts
shown_items types s m i o [] [] none h = h
shown_items types s m i o [] (t ∷ ts) none h = h
shown_items types s m i o (v ∷ vs) [] none h = h
shown_items types s m i o (v ∷ vs) (t ∷ ts) none h =
    (shows_items types s m i o t v.0 (omega arith) h.0, h.1, shown_items types s m i o vs ts (omega arith) h.2)

module _ (types : Types) (clock : ℕ) (scope act : ℕ → Bool) (hold : Holds) (type : ℕ → ℕ → Meaning) (under : Made)
    (s : Table) (m : Memory (List ℕ)) (core : Core types clock scope act hold type under s m) (g : ℕ) (l : Loan)
    (has : s g ≡ Some l) (writes : IsWriter l.via) (can : Usable types s core.forest m g l) (of : Meaning)
    (is : types.buffered l.type ≡ Some of) (row : IsBuffer types s can.tree of) where
  abbrev i : ℕ
  i = row.born

  pub buffer_shown : Shows types s m can.value (a_buffer i row.all)
  buffer_shown = subst (λ tree. Shows types s m can.value tree) row.is can.shown

  pub buffer_there : held_at m l.to ≡ Some (buffer i)
  buffer_there = can.there ∙ ap Some buffer_shown.1

  below : g < core.top
  below = root_below types clock scope act hold type under s m core g (whole l.to can.tree) can.here

  -- ---- the buffer counts here alone

  own_birth : in_birth (birth i) (Some i) ≡ 1
  own_birth = ap one_if (eq-eqb i i refl)

  pub alone : (in_trees (birth i) row.all ≡ 0) × (in_list (birth i) core.trees ≡ 0)
  alone =
      let has' = total_has (birth i) core.top g core.forest below in
      let was = ap (in_root (birth i)) can.here in
      let tree = ap (in_tree (birth i)) row.is in
      let own = own_birth in
      let once = core.once (birth i) in
      (omega arith, omega arith)

  elsewhere : (k : ℕ) (h : Held) → (g ≡ k → ⊥) → core.forest k ≡ Some h → in_held (birth i) h ≡ 0
  elsewhere k h differ e =
      let both = total_two (birth i) core.top k g core.forest differ
      (root_below types clock scope act hold type under s m core k h e) below in
      let first = ap (in_root (birth i)) e in
      let was = ap (in_root (birth i)) can.here in
      let tree = ap (in_tree (birth i)) row.is in
      let own = own_birth in
      let once = core.once (birth i) in
      omega arith

  no_root : (a y : ℕ) → IsFull (hold a y) → g ≡ core.root a y → ⊥
  no_root a y there same =
      no_loan s g a y (type a y) l
      (subst (λ j. IsNameRow s j a y (type a y)) (sym same)
      (row_of types clock scope act hold type under s m core a y there)) has (writer_is_loan l.via writes)

  -- what elements show stays while others are put there
  pub each_stays : (fresh xs : List Value) (ts : Trees) → in_trees (birth i) ts ≡ 0 → ShowsEach types s m xs ts
      → ShowsEach types s (with_items i (Some fresh) m) xs ts
  each_stays fresh xs ts none sh =
      shows_each_frame types s m (with_items i (Some fresh) m) ts xs
      (agree_items m (λ id. in_trees id ts) i (Some fresh) none) sh

  -- ---- other elements

  -- Other elements stand in the buffer, with these trees, and other values are under way; so much counts less.
  pub record Fills (fresh : List Value) (all : Trees) (now : Made) (trees : List Tree) (less : Id → ℕ) : Type 0 where
    pub each : ShowsEach types s (with_items i (Some fresh) m) fresh all
    pub kinds : HasEach types s all of
    pub others : AreShown types s (with_items i (Some fresh) m) now trees
    pub counted : (id : Id) → in_trees id all + (in_list id trees + less id)
        ≡ in_trees id row.all + in_list id core.trees

  module _ (fresh : List Value) (all : Trees) (now : Made) (trees : List Tree) (less : Id → ℕ)
      (fills : Fills fresh all now trees less) where
    moved : (id : Id) → (in_forest id core.top (with_root g (Some (whole l.to (a_buffer i all))) core.forest)
        + in_list id trees) + less id
        ≡ in_forest id core.top core.forest + in_list id core.trees
    moved id =
        let put = total_put id core.top g (Some (whole l.to (a_buffer i all))) core.forest below in
        let was = ap (in_root id) can.here in
        let tree = ap (in_tree id) row.is in
        let count = fills.counted id in
        omega arith

    change : Change types clock scope act hold type under s m core g l can.tree (a_buffer i all)
        (with_items i (Some fresh) m) now trees
    change = record {
      row = has;
      here = can.here;
      unshut = λ j y whose same.
          no_root whose.frame whose.name (subst IsFull (sym whose.holds) tt) (same ∙ sym whose.is);
      unseen = λ j y whose same.
          no_root whose.frame whose.name (watched_full (hold whose.frame whose.name) y whose.holds)
          (same ∙ sym whose.is);
      value = buffer i;
      there = buffer_there;
      typed = (of, is, fills.kinds);
      shows = (fresh, refl, items_self m i (Some fresh), fills.each);
      shown = fills.others;
      once = λ id. let sum = moved id in let once = core.once id in omega arith;
      writers = λ j. let sum = moved (writer j) in omega arith;
      stay_at = λ j h to differ e at. refl;
      parted = λ j h q count differ e at tag born parts there.
          record { others = parts; there = there; same = refl };
      trees_stay = λ j to tree w differ e sh.
          let none = elsewhere j (whole to tree) differ e in
          shows_items types s m i (Some fresh) tree w (omega arith) sh;
      rest_stays = λ j to tag born k count rest parts differ e sh.
          let none = elsewhere j (parts_lent to tag born k count rest) differ e in
          shows_all_frame types s m (with_items i (Some fresh) m) rest parts
          (agree_items m (λ id. in_trees id rest) i (Some fresh) (omega arith)) sh;
      no_names = λ a y none. refl;
    }

    -- So memory is afterwards.
    pub record Filled : Type 0 where
      pub after : Core types clock scope act hold type now s (with_items i (Some fresh) m)
      pub counts : (id : Id)
          → (in_forest id after.top after.forest + in_list id after.trees) + less id
          ≡ in_forest id core.top core.forest + in_list id core.trees

    pub filled : Filled
    unfolding changed_core
    filled = record {
      after = changed_core types clock scope act hold type under s m core g l can.tree (a_buffer i all)
          (with_items i (Some fresh) m) now trees change;
      counts = λ id. moved id;
    }
