-- Values under way are made anew, with memory that no root has: boxes are made and opened.
use Rattle.std.proofs.Common.{◌≡◌, ℕ, ◌+◌, ◌≤◌, ◌==◌, Bool, true, false, List, [], ◌∷◌}
use Rattle.std.proofs.Common.{refl, sym, ap, subst, ◌∙◌, arith, if◌then◌else◌}
use Rattle.std.specs.Prelude.{Option, Some, None}
use Rattle.std.proofs.lemmas.Bool.{eqb-true}
use Rattle.au_effects.specs.Parts.{along, part}
use Rattle.au_effects.specs.Values.{Fields, Place, unit, truth, number, text, made, reference, box, buffer}
use Rattle.au_effects.specs.Values.{terminal, root, name_of, content_of}
use Rattle.au_places.specs.Memories.{Memory, held_at, later, with_base}
use Rattle.au_places.specs.Places.{Id, birth, cell, writer, cell_of, covers, in_node, in_place, one_if, same_base}
use Rattle.au_places.specs.Places.{content_place}
use Rattle.au_places.proofs.MemoryLemmas.{base_other, base_self}
use Rattle.au_places.proofs.PlaceLemmas.{base_is, node_most, node_self, self_base}
use Rattle.au_types.specs.Types as meaning
use Rattle.au_types.specs.Types.{Arguments, Meaning}
use Rattle.au_types.specs.declared.types.DeclAt.{DeclAt}
use Rattle.au_memory.specs.Trees.{Value, Tree, Trees, a_plain, a_made, a_box, a_buffer, a_terminal, a_root, a_writer}
use Rattle.au_memory.specs.Trees.{a_reader, in_birth, in_tree}
use Rattle.au_memory.specs.Loans.{Types, Loan, Table}
use Rattle.au_memory.specs.Shown.{Shows, ShowsAll, Has, IsPlain, IsDeclared, AreDeclared}
use Rattle.au_memory.specs.Forests.{Held, Holds, Made, Core, AreShown, whole, all_lent, box_lent, parts_lent, watching}
use Rattle.au_memory.specs.Forests.{in_root, in_forest, in_list, in_held, IsRooted}
use Rattle.au_memory.proofs.CountLemmas.{any_path, none_left}
use Rattle.au_memory.proofs.FrameLemmas.{shows_all_base, shows_base}
use Rattle.au_memory.proofs.FreeLemmas.{no_content}
use Rattle.au_memory.proofs.GrowthLemmas.{grows_self}
use Rattle.au_memory.proofs.TotalLemmas.{total_has}
use Rattle.au_memory.proofs.UsableLemmas.{root_below}
use Rattle.au_lending.specs.Laws.{Boxed, Unboxed, BoxesAreAlone}
use Rattle.au_lending.proofs.FillLemmas.{first_shown, total_none}
use Rattle.au_lending.proofs.MoveLemmas.{name_moves, node_counts, node_of, root_goes}
use Rattle.au_lending.proofs.ValueLemmas.{lent_counts}

module _ (types : Types) (clock : ℕ) (scope act : ℕ → Bool) (hold : Holds) (type : ℕ → ℕ → Meaning)
    (under : Made) (s : Table) (m : Memory (List ℕ)) (core : Core types clock scope act hold type under s m) where
  -- Other values are under way, over another memory, in which the places of all roots stand as they did, what roots
  -- hold shows what it did, and names hold what they did.
  unfoldable pub remade : (n : Memory (List ℕ)) (now : Made) (trees : List Tree) → AreShown types s n now trees
      → ((id : Id) → in_forest id core.top core.forest + in_list id trees ≤ 1)
      → ((k : ℕ) (h : Held) (count : ℕ) (to : Place) → core.forest k ≡ Some h → node_of h ≡ Some (count, to)
      → held_at n to ≡ held_at m to)
      → ((k : ℕ) (to : Place) (tree : Tree) (v : Value) → core.forest k ≡ Some (whole to tree)
      → Shows types s m v tree → Shows types s n v tree)
      → ((k : ℕ) (to : Place) (tag : ℕ) (born : Option ℕ) (g count : ℕ) (rest : Trees) (parts : Fields (List ℕ))
      → core.forest k ≡ Some (parts_lent to tag born g count rest) → ShowsAll types s m parts rest
      → ShowsAll types s n parts rest)
      → ((a y : ℕ) → n.at (name_of a y) ≡ m.at (name_of a y))
      → ((k : ℕ) → in_list (writer k) trees ≤ in_list (writer k) core.trees)
      → Core types clock scope act hold type now s n
  remade n now trees shown once places whole_shown rest_shown names fewer = record {
    forest = core.forest;
    top = core.top;
    root = core.root;
    trees = trees;
    shown = shown;
    once = once;
    rooted = λ k h e.
        let r = core.rooted k h e in (
          r.0,
          r.1,
          root_goes types s s core.forest core.forest m n (grows_self s) k r.0 h
              (λ g l has from here. here)
              (λ at. places k h 0 r.0.to e at)
              (λ count at tag born parts there. record {
                others = parts;
                there = places k h count r.0.to e at ∙ there;
                same = refl;
              })
              (λ to tree v eq sh. whole_shown k to tree v (e ∙ ap Some eq) sh)
              (λ to tag born g count rest parts eq sh. rest_shown k to tag born g count rest parts (e ∙ ap Some eq) sh) r.2,
        );
    names = λ a y.
        name_moves types s s core.forest core.forest m n (grows_self s) core.root core.root a y (type a y) (hold a y)
        (λ g l has shuts here. here) refl (λ none. names a y) (λ row w. w) (core.names a y);
    lent = λ g l row here. lent_counts core.forest hold core.root
        (λ id. in_forest id core.top core.forest + in_list id core.trees)
        (λ id. in_forest id core.top core.forest + in_list id trees)
        (λ k. let less = fewer k in omega arith) g l.token l.via (core.lent g l row here);
    live = core.live;
    active = core.active;
    known = core.known;
    older = core.older;
    order = core.order;
    ticked = core.ticked;
    acted = core.acted;
    scoped = core.scoped;
  }

  -- The same where only the content of a box changes, which counts in no root.
  module _ (i : ℕ) (o : Option Value) (now : Made) (trees : List Tree)
      (free : (p : List ℕ) → in_forest (cell (content_of i) p) core.top core.forest ≡ 0) where
    abbrev after : Memory (List ℕ)
    after = with_base (content_of i) o m

    pub in_any : (k : ℕ) (h : Held) (p : List ℕ) → core.forest k ≡ Some h → in_held (cell (content_of i) p) h ≡ 0
    in_any k h p e =
        let has = total_has (cell (content_of i) p) core.top k core.forest
        (root_below types clock scope act hold type under s m core k h e) in
        let own = ap (in_root (cell (content_of i) p)) e in
        let none = free p in
        omega arith

    pub other_place : (k : ℕ) (h : Held) (count : ℕ) (to : Place) → core.forest k ≡ Some h → node_of h ≡ Some (count, to)
        → held_at after to ≡ held_at m to
    other_place k h count to e at = by (same_base (content_of i) to.base) refl
      where
        by : (t : Bool) → same_base (content_of i) to.base ≡ t → held_at after to ≡ held_at m to
        by true eq =
            let most = node_counts (cell_of to) h count to at in
            let self = node_self to count in
            let none : in_held (cell_of to) h ≡ 0 =
            subst (λ b. in_held (cell b to.path) h ≡ 0) (base_is (content_of i) to.base eq) (in_any k h to.path e) in
            absurd (omega arith)
        by false eq = ap (λ v. along v (part to.path)) (base_other m (content_of i) to.base o eq)

    unfoldable pub content_remade : AreShown types s after now trees
        → ((id : Id) → in_forest id core.top core.forest + in_list id trees ≤ 1)
        → ((k : ℕ) → in_list (writer k) trees ≤ in_list (writer k) core.trees)
        → Core types clock scope act hold type now s after
    content_remade shown once fewer =
        remade after now trees shown once other_place
        (λ k to tree v e sh.
        let none = in_any k (whole to tree) [] e in
        shows_base types s m (content_of i) o tree v (omega arith) sh)
        (λ k to tag born g count rest parts e sh.
        let none = in_any k (parts_lent to tag born g count rest) [] e in
        shows_all_base types s m (content_of i) o rest parts (omega arith) sh)
        (λ a y. base_other m (content_of i) (name_of a y) o refl)
        fewer

-- values under way in which the content of a box doesn't count
shown_base : (types : Types) (s : Table) (m : Memory (List ℕ)) (i : ℕ) (o : Option Value) (vs : Made) (ts : List Tree)
    → in_list (cell (content_of i) []) ts ≡ 0 → AreShown types s m vs ts
    → AreShown types s (with_base (content_of i) o m) vs ts
shown_base types s m i o [] [] none h = h
shown_base types s m i o [] (t ∷ ts) none h = h
shown_base types s m i o (v ∷ vs) [] none h = h
shown_base types s m i o (v ∷ vs) (t ∷ ts) none h = (
  shows_base types s m (content_of i) o t v.0 (omega arith) h.0,
  h.1,
  shown_base types s m i o vs ts (omega arith) h.2,
)

-- ---- boxes are opened

no_named : (v : Value) (at : DeclAt) (args : Arguments) → IsPlain v (meaning.named at args) → ⊥
no_named unit at args h = h
no_named (truth b) at args h = h
no_named (number kind z) at args h = h
no_named (text one) at args h = h
no_named (made tag born parts) at args h = h
no_named (reference b to) at args h = h
no_named (box i) at args h = h
no_named (buffer i) at args h = h
no_named (terminal i) at args h = h
no_named (root i) at args h = h

pub no_plain : (v : Value) (t : Meaning) → IsDeclared t → IsPlain v t → ⊥
no_plain v (meaning.named at args) declared h = no_named v at args h
no_plain v meaning.unit declared h = declared
no_plain v meaning.truth declared h = declared
no_plain v (meaning.integer kind) declared h = declared
no_plain v meaning.text declared h = declared
no_plain v (meaning.parameter name) declared h = declared
no_plain v (meaning.reads t region) declared h = declared
no_plain v (meaning.writes t region) declared h = declared

-- a tree of a box's type is a box
pub record IsBox (types : Types) (s : Table) (tree : Tree) (of : Meaning) : Type 0 where
  pub born : ℕ
  pub content : Tree
  pub is : tree ≡ a_box born content
  pub typed : Has types s content of

pub box_form : (types : Types) → AreDeclared types → BoxesAreAlone types → (s : Table) (tree : Tree) (t of : Meaning)
    → types.boxed t ≡ Some of → Has types s tree t → IsBox types s tree of
box_form types forms boxes s (a_plain v) t of is h = absurd (no_plain v t (forms.boxes t of is) h)
box_form types forms boxes s (a_made tag born all) t of is h = absurd (boxes.fields t of tag h.0 is h.1)
box_form types forms boxes s (a_box born content) t of is h =
    let there : types.boxed t ≡ Some h.0 = h.1 in
    let same : h.0 ≡ of = cc in
    record { born = born; content = content; is = refl; typed = subst (λ u. Has types s content u) same h.2 }
box_form types forms boxes s (a_buffer born all) t of is h = absurd (boxes.buffers t of h.0 is h.1)
box_form types forms boxes s (a_terminal born) t of is h = absurd (boxes.terminals t of is h)
box_form types forms boxes s (a_root born) t of is h = absurd (boxes.roots t of is h)
box_form types forms boxes s (a_writer g) t of is h = absurd (subst IsDeclared h.3 (forms.boxes t of is))
box_form types forms boxes s (a_reader g steps) t of is h = absurd (subst IsDeclared h.3 (forms.boxes t of is))

-- the content of a box counts at all paths
content_all : (i : ℕ) (p : List ℕ) → in_place (cell (content_of i) p) (content_place i) ≡ 1
content_all i p = rw (self_base (content_of i)) (none_left p)

module _ (types : Types) (forms : AreDeclared types) (boxes : BoxesAreAlone types) (clock : ℕ) (scope act : ℕ → Bool)
    (hold : Holds) (type : ℕ → ℕ → Meaning) (v : Value) (t of : Meaning) (under : Made) (s : Table)
    (m : Memory (List ℕ)) (core : Core types clock scope act hold type ((v, t) ∷ under) s m)
    (is : types.boxed t ≡ Some of) where
  first : (tree : Tree) × (rest : List Tree) × (core.trees ≡ tree ∷ rest) × Shows types s m v tree × Has types s tree t
      × AreShown types s m under rest
  first = first_shown types s m v t under core.trees core.shown

  form : IsBox types s first.0 of
  form = box_form types forms boxes s first.0 t of is first.4

  shown : Shows types s m v (a_box form.born form.content)
  shown = subst (λ tree. Shows types s m v tree) form.is first.3

  lists : (id : Id) → in_list id core.trees
      ≡ (in_birth id (Some form.born) + (in_place id (content_place form.born) + in_tree id form.content))
      + in_list id first.1
  lists id =
      let all = ap (in_list id) first.2 in
      let own = ap (in_tree id) form.is in
      omega arith

  free : (p : List ℕ) → in_forest (cell (content_of form.born) p) core.top core.forest ≡ 0
  free p =
      let all = lists (cell (content_of form.born) p) in
      let one = content_all form.born p in
      let once = core.once (cell (content_of form.born) p) in
      omega arith

  in_content : in_tree (cell (content_of form.born) []) form.content ≡ 0
  in_content =
      let all = lists (cell (content_of form.born) []) in
      let one = content_all form.born [] in
      let once = core.once (cell (content_of form.born) []) in
      omega arith

  in_rest : in_list (cell (content_of form.born) []) first.1 ≡ 0
  in_rest =
      let all = lists (cell (content_of form.born) []) in
      let one = content_all form.born [] in
      let once = core.once (cell (content_of form.born) []) in
      omega arith

  unboxed_counts : (id : Id) → (in_forest id core.top core.forest + in_list id (form.content ∷ first.1))
      + (in_birth id (Some form.born) + in_place id (content_place form.born))
      ≡ in_forest id core.top core.forest + in_list id core.trees
  unboxed_counts id = let all = lists id in omega arith

  pub unboxed : Unboxed types clock scope act hold type v t of under s m core
  unfolding content_remade remade
  unboxed = record {
    born = form.born;
    value = shown.0;
    is_box = shown.1;
    there = shown.2;
    after = content_remade types clock scope act hold type ((v, t) ∷ under) s m core form.born None
        ((shown.0, of) ∷ under) (form.content ∷ first.1) free (
          shows_base types s m (content_of form.born) None form.content shown.0 in_content shown.3,
          form.typed,
          shown_base types s m form.born None under first.1 in_rest first.5,
        )
        (λ id. let all = lists id in let once = core.once id in omega arith)
        (λ k. let all = lists (writer k) in omega arith);
    counts = λ id. unboxed_counts id;
  }

-- ---- boxes are made

module _ (types : Types) (clock : ℕ) (scope act : ℕ → Bool) (hold : Holds) (type : ℕ → ℕ → Meaning)
    (v : Value) (of : Meaning) (under : Made) (s : Table) (m : Memory (List ℕ))
    (core : Core types clock scope act hold type ((v, of) ∷ under) s m) (t : Meaning) (is : types.boxed t ≡ Some of)
    (i : ℕ) (none : m.at (content_of i) ≡ None)
    (unborn : in_forest (birth i) core.top core.forest + in_list (birth i) core.trees ≡ 0) where
  given : (tree : Tree) × (rest : List Tree) × (core.trees ≡ tree ∷ rest) × Shows types s m v tree × Has types s tree of
      × AreShown types s m under rest
  given = first_shown types s m v of under core.trees core.shown

  -- what is shown doesn't have the new box in it
  no_tree : (tree : Tree) (w : Value) (p : List ℕ) → Shows types s m w tree → in_tree (cell (content_of i) p) tree ≡ 0
  no_tree tree w p sh = any_path (content_of i) p [] tree ∙ no_content types s m i none tree w sh

  no_place : (to : Place) (n : ℕ) (p : List ℕ) (w : Value) → held_at m to ≡ Some w
      → in_node n (cell (content_of i) p) to ≡ 0
  no_place to n p w there = by (same_base to.base (content_of i)) refl
    where
      by : (b : Bool) → same_base to.base (content_of i) ≡ b → (if b then covers n to.path p else 0) ≡ 0
      by true e =
          let gone : m.at to.base ≡ None = subst (λ c. m.at c ≡ None) (sym (base_is to.base (content_of i) e)) none in
          let wrong : along None (part to.path) ≡ Some w = subst (λ o. along o (part to.path) ≡ Some w) gone there in
          absurd cc
      by false e = refl

  no_root : (k : ℕ) (l : Loan) (h : Held) (p : List ℕ) → IsRooted types s core.forest m k l h
      → in_held (cell (content_of i) p) h ≡ 0
  no_root k l (whole to tree) p r =
      let place = no_place to 0 p r.0 r.3 in
      let tree' = no_tree tree r.0 p r.4 in
      omega arith
  no_root k l (all_lent g) p r = refl
  no_root k l (box_lent to born g) p r = let place = no_place to 0 p (box born) r.3 in omega arith
  no_root k l (parts_lent to tag born g n rest) p r =
      let place = no_place to n p (made tag born r.1) r.9 in
      let all = no_tree (a_made 0 None rest) (made 0 None (later n r.1)) p (later n r.1, refl, r.8) in
      omega arith
  no_root k l watching p r = refl

  no_held : (p : List ℕ) (k : ℕ) (o : Option Held) → core.forest k ≡ o → in_root (cell (content_of i) p) o ≡ 0
  no_held p k None e = refl
  no_held p k (Some h) e = let r = core.rooted k h e in no_root k r.0 h p r.2

  no_list : (p : List ℕ) (vs : Made) (ts : List Tree) → AreShown types s m vs ts
      → in_list (cell (content_of i) p) ts ≡ 0
  no_list p vs [] h = refl
  no_list p [] (one ∷ ts) h = absurd h
  no_list p (w ∷ vs) (one ∷ ts) h =
      let own = no_tree one w.0 p h.0 in
      let rest = no_list p vs ts h.2 in
      omega arith

  unused : (p : List ℕ) → (in_forest (cell (content_of i) p) core.top core.forest ≡ 0)
      × (in_list (cell (content_of i) p) core.trees ≡ 0)
  unused p = (
    total_none (cell (content_of i) p) core.top core.forest (λ k below. no_held p k (core.forest k) refl),
    no_list p ((v, of) ∷ under) core.trees core.shown,
  )

  made_lists : (id : Id) → in_list id core.trees ≡ in_tree id given.0 + in_list id given.1
  made_lists id = ap (in_list id) given.2

  once : (id : Id) → in_forest id core.top core.forest
      + ((in_birth id (Some i) + (in_place id (content_place i) + in_tree id given.0)) + in_list id given.1) ≤ 1
  once (writer g) = let all = made_lists (writer g) in let old = core.once (writer g) in omega arith
  once (birth j) = by (i == j) refl
    where
      by : (b : Bool) → (i == j) ≡ b → in_forest (birth j) core.top core.forest
          + ((in_birth (birth j) (Some i) + (in_place (birth j) (content_place i) + in_tree (birth j) given.0))
          + in_list (birth j) given.1) ≤ 1
      by true e =
          let same = eqb-true i j e in
          let fresh : in_forest (birth j) core.top core.forest + in_list (birth j) core.trees ≡ 0 =
          subst (λ c. in_forest (birth c) core.top core.forest + in_list (birth c) core.trees ≡ 0) same unborn in
          let all = made_lists (birth j) in
          let one : in_birth (birth j) (Some i) ≡ 1 = ap one_if e in
          omega arith
      by false e =
          let all = made_lists (birth j) in
          let nought : in_birth (birth j) (Some i) ≡ 0 = ap one_if e in
          let old = core.once (birth j) in
          omega arith
  once (cell base p) = by (same_base (content_of i) base) refl
    where
      by : (b : Bool) → same_base (content_of i) base ≡ b → in_forest (cell base p) core.top core.forest
          + ((in_birth (cell base p) (Some i) + (in_place (cell base p) (content_place i) + in_tree (cell base p) given.0))
          + in_list (cell base p) given.1) ≤ 1
      by true e =
          let at = base_is (content_of i) base e in
          let none' : (in_forest (cell base p) core.top core.forest ≡ 0) × (in_list (cell base p) core.trees ≡ 0) =
          subst (λ c. (in_forest (cell c p) core.top core.forest ≡ 0) × (in_list (cell c p) core.trees ≡ 0)) at
          (unused p) in
          let all = made_lists (cell base p) in
          let most = node_most (cell base p) (content_place i) 0 in
          omega arith
      by false e =
          let all = made_lists (cell base p) in
          let nought : in_place (cell base p) (content_place i) ≡ 0 = rw e in
          let old = core.once (cell base p) in
          omega arith

  boxed_counts : (id : Id) → in_forest id core.top core.forest + in_list id (a_box i given.0 ∷ given.1)
      ≡ (in_forest id core.top core.forest + in_list id core.trees)
      + (in_birth id (Some i) + in_place id (content_place i))
  boxed_counts id = let all = made_lists id in omega arith

  pub boxed : Boxed types clock scope act hold type v of under s m core t i
  unfolding content_remade remade
  boxed = record {
    after = content_remade types clock scope act hold type ((v, of) ∷ under) s m core i (Some v)
        ((box i, t) ∷ under) (a_box i given.0 ∷ given.1) (λ p. (unused p).0) (
          (
            v,
            refl,
            base_self m (content_of i) (Some v),
            shows_base types s m (content_of i) (Some v) given.0 v (no_tree given.0 v [] given.3) given.3,
          ),
          (of, is, given.4),
          shown_base types s m i (Some v) under given.1 (no_list [] under given.1 given.5) given.5,
        )
        once
        (λ k. let all = made_lists (writer k) in omega arith);
    counts = λ id. boxed_counts id;
  }
