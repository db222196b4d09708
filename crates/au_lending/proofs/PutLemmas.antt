-- A part of Free type gives way to another value: of what a name holds, or of what a reference in it leads to.
use Rattle.std.proofs.Common.{◌≡◌, ℕ, ◌+◌, ◌<◌, Bool, true, false, List, ◌∷◌, refl, sym, ap}
use Rattle.std.proofs.Common.{subst, ◌∙◌, arith}
use Rattle.std.specs.Prelude.{Some, None, option_map}
use Rattle.au_effects.specs.Parts.{along, part, with_part}
use Rattle.au_effects.specs.References.{name_along, place_along}
use Rattle.au_effects.specs.Values.{Place, name_of, reference}
use Rattle.au_places.specs.Memories.{Memory, held_at, written}
use Rattle.au_places.specs.Places.{Id, writer, cell_of, in_place, same_base}
use Rattle.au_places.proofs.MemoryLemmas.{base_other, write_above, write_apart}
use Rattle.au_places.proofs.PlaceLemmas.{base_is, node_self}
use Rattle.au_running_types.specs.Running.{token}
use Rattle.au_types.specs.Types as meaning
use Rattle.au_types.specs.Types.{Meaning}
use Rattle.au_memory.specs.Trees.{Value, Tree, in_tree}
use Rattle.au_memory.specs.Loans.{Types, Loan, Table}
use Rattle.au_memory.specs.Shown.{Shows, Has, AreDeclared, AreLawful}
use Rattle.au_memory.specs.Forests.{Held, Holds, Made, Names, Core, AreShown, whole, parts_lent, ready, shut}
use Rattle.au_memory.specs.Forests.{with_root, in_root, in_forest, in_list, in_held, IsFull, IsNameRow, IsWatched}
use Rattle.au_memory.specs.Forests.{IsWhole, NameStands}
use Rattle.au_memory.proofs.FrameLemmas.{shows_all_written, shows_written}
use Rattle.au_memory.proofs.FreeLemmas.{free_in}
use Rattle.au_memory.proofs.TotalLemmas.{total_has, total_put, total_two}
use Rattle.au_memory.proofs.UsableLemmas.{root_below, writer_is_loan}
use Rattle.au_lending.specs.Laws.{IsReadable}
use Rattle.au_lending.specs.Parting.{CasesAreAlone}
use Rattle.au_lending.specs.Putting.{Put}
use Rattle.au_lending.specs.Seeing.{LeadsOn}
use Rattle.au_lending.proofs.ChangeLemmas.{Change, changed_core}
use Rattle.au_lending.proofs.FillLemmas.{first_shown}
use Rattle.au_lending.proofs.MoveLemmas.{node_counts, node_of}
use Rattle.au_lending.proofs.PathLemmas.{PartPut, part_put_in, part_there, place_below, place_less, put_stands}
use Rattle.au_lending.proofs.RebornLemmas.{NameHolds, name_holds}
use Rattle.au_lending.proofs.RowLemmas.{find, no_loan, one_root, row_of, same_names, watched_full}
use Rattle.au_lending.proofs.SwapLemmas.{shown_written}

module _ (types : Types) (forms : AreDeclared types) (cases : CasesAreAlone types) (lawful : AreLawful types)
    (clock : ℕ) (scope act : ℕ → Bool) (hold : Holds) (type : ℕ → ℕ → Meaning) (v : Value) (u : Meaning)
    (under : Made) (s : Table) (m : Memory (List ℕ)) (core : Core types clock scope act hold type ((v, u) ∷ under) s m)
    (free : types.is_free u ≡ true) where
  abbrev Under : Made
  Under = (v, u) ∷ under

  given : (tree : Tree) × (rest : List Tree) × (core.trees ≡ tree ∷ rest) × Shows types s m v tree × Has types s tree u
      × AreShown types s m under rest
  given = first_shown types s m v u under core.trees core.shown

  lists : (id : Id) → in_list id core.trees ≡ in_tree id given.0 + in_list id given.1
  lists id = ap (in_list id) given.2

  -- a root that holds a tree whole, and from which no name that is shut or watched has lent
  record Root (k : ℕ) (l : Loan) : Type 0 where
    row : s k ≡ Some l
    tree : Tree
    value : Value
    here : core.forest k ≡ Some (whole l.to tree)
    typed : Has types s tree l.type
    there : held_at m l.to ≡ Some value
    shown : Shows types s m value tree
    unshut : (j z : ℕ) → Names hold core.root j (λ h. h ≡ shut z) → k ≡ j → ⊥
    unseen : (j z : ℕ) → Names hold core.root j (IsWatched z) → k ≡ j → ⊥

  module _ (k : ℕ) (l : Loan) (r : Root k l) (path : List ℕ) (leads : LeadsOn types l.type path u) where
    abbrev p : Place
    p = place_along l.to path

    abbrev after : Memory (List ℕ)
    after = written p v m

    below : k < core.top
    below = root_below types clock scope act hold type Under s m core k (whole l.to r.tree) r.here

    -- the place counts in this root alone, and not in its tree
    alone : (in_tree (cell_of p) r.tree ≡ 0) × (in_list (cell_of p) core.trees ≡ 0)
    alone =
        let has = total_has (cell_of p) core.top k core.forest below in
        let was = ap (in_root (cell_of p)) r.here in
        let self = place_below l.to path in
        let once = core.once (cell_of p) in
        (omega arith, omega arith)

    in_new : in_tree (cell_of p) given.0 ≡ 0
    in_new = let none = alone.1 in let all = lists (cell_of p) in omega arith

    in_rest : in_list (cell_of p) given.1 ≡ 0
    in_rest = let none = alone.1 in let all = lists (cell_of p) in omega arith

    elsewhere : (j : ℕ) (h : Held) → (k ≡ j → ⊥) → core.forest j ≡ Some h → in_held (cell_of p) h ≡ 0
    elsewhere j h differ e =
        let both = total_two (cell_of p) core.top j k core.forest differ
        (root_below types clock scope act hold type Under s m core j h e) below in
        let first = ap (in_root (cell_of p)) e in
        let was = ap (in_root (cell_of p)) r.here in
        let self = place_below l.to path in
        let once = core.once (cell_of p) in
        omega arith

    -- and the place of another root isn't below it
    not_below : (j : ℕ) (h : Held) (to : Place) (count : ℕ) → (k ≡ j → ⊥) → core.forest j ≡ Some h
        → node_of h ≡ Some (count, to) → in_place (cell_of to) p ≡ 0
    not_below j h to count differ e at =
        let both = total_two (cell_of to) core.top j k core.forest differ
        (root_below types clock scope act hold type Under s m core j h e) below in
        let first = ap (in_root (cell_of to)) e in
        let was = ap (in_root (cell_of to)) r.here in
        let node = node_counts (cell_of to) h count to at in
        let self = node_self to count in
        let once = core.once (cell_of to) in
        let less = place_less l.to to path in
        omega arith

    put : PartPut types s after path r.tree r.value l.type u given.0 v
    put = part_put_in types s after forms cases path r.tree r.value l.type u given.0 v
        (shows_written types s m p v r.tree r.value alone.0 r.shown) r.typed leads
        (shows_written types s m p v given.0 v in_new given.3) given.4

    moved : (id : Id) → in_forest id core.top (with_root k (Some (whole l.to put.after)) core.forest) + in_list id given.1
        ≡ in_forest id core.top core.forest + in_list id core.trees
    moved id =
        let all = total_put id core.top k (Some (whole l.to put.after)) core.forest below in
        let was = ap (in_root id) r.here in
        let rest = lists id in
        let tree = put.counts id in
        let old = free_in types lawful s id put.old u free put.old_typed in
        let new = free_in types lawful s id given.0 u free given.4 in
        omega arith

    other_base : (a y : ℕ) → m.at (name_of a y) ≡ None → after.at (name_of a y) ≡ m.at (name_of a y)
    other_base a y none = by (same_base l.to.base (name_of a y)) refl
      where
        by : (b : Bool) → same_base l.to.base (name_of a y) ≡ b → after.at (name_of a y) ≡ m.at (name_of a y)
        by true e =
            let gone : m.at l.to.base ≡ None =
            subst (λ c. m.at c ≡ None) (sym (base_is l.to.base (name_of a y) e)) none in
            let wrong : along None (part l.to.path) ≡ Some r.value =
            subst (λ o. along o (part l.to.path) ≡ Some r.value) gone r.there in
            absurd cc
        by false e =
            base_other m l.to.base (name_of a y) (option_map (with_part p.path v) (m.at l.to.base)) e

    change : Change types clock scope act hold type Under s m core k l r.tree put.after after under given.1
    change = record {
      row = r.row;
      here = r.here;
      unshut = r.unshut;
      unseen = r.unseen;
      value = with_part path v r.value;
      there = put_stands m l.to path v r.value r.there;
      typed = put.typed;
      shows = put.shown;
      shown = shown_written types s m p v under given.1 in_rest given.5;
      once = λ id. let all = moved id in let once = core.once id in omega arith;
      writers = λ j. let all = moved (writer j) in omega arith;
      stay_at = λ j h to differ e at.
          let none = elsewhere j h differ e in
          let count = node_counts (cell_of p) h 0 to at in
          write_apart m p to v (omega arith) (not_below j h to 0 differ e at);
      parted = λ j h q count differ e at tag born parts there.
          let none = elsewhere j h differ e in
          let most = node_counts (cell_of p) h count q.to at in
          let above = write_above m p q.to count v tag born parts (omega arith)
          (not_below j h q.to count differ e at) there in
          record { others = above.others; there = above.there; same = above.same };
      trees_stay = λ j to tree w differ e shown.
          let none = elsewhere j (whole to tree) differ e in
          shows_written types s m p v tree w (omega arith) shown;
      rest_stays = λ j to tag born i count rest parts differ e shown.
          let none = elsewhere j (parts_lent to tag born i count rest) differ e in
          shows_all_written types s m p v rest parts (omega arith) shown;
      no_names = other_base;
    }

    part_put : Put types clock scope act hold type v u under s m core p
    unfolding changed_core
    part_put = record {
      old = put.value;
      there = part_there m l.to path r.value put.value r.there
          (put.was);
      after = changed_core types clock scope act hold type Under s m core k l r.tree put.after after under given.1 change;
      counts = λ id. moved id;
    }

  -- ---- the root of a name

  module _ (frame x : ℕ) (is : hold frame x ≡ ready) where
    full : IsFull (hold frame x)
    full = subst IsFull (sym is) tt

    -- another name with its root is ready as well
    also_ready : (a y : ℕ) → IsFull (hold a y) → core.root frame x ≡ core.root a y → hold a y ≡ ready
    also_ready a y there same =
        let both = same_names frame x a y
        (one_root types clock scope act hold type Under s m core frame x a y full there same) in
        subst (λ b. hold b y ≡ ready) both.0 (subst (λ w. hold frame w ≡ ready) both.1 is)

    name_root : (own : IsNameRow s (core.root frame x) frame x (type frame x)) → IsWhole (core.forest (core.root frame x))
        → Root (core.root frame x) own.row
    name_root own w =
        let found = find types clock scope act hold type Under s m core frame x own w in
        let here : core.forest (core.root frame x) ≡ Some (whole own.row.to found.tree) =
        found.here ∙ ap (λ to. Some (whole to found.tree)) (sym own.at) in
        let r = core.rooted (core.root frame x) (whole own.row.to found.tree) here in
        record {
          row = own.has;
          tree = found.tree;
          value = r.2.0;
          here = here;
          typed = subst (λ t. Has types s found.tree t) (sym own.typed) found.typed;
          there = r.2.3;
          shown = r.2.4;
          unshut = λ j z whose same.
              let there : IsFull (hold whose.frame whose.name) = subst IsFull (sym whose.holds) tt in
              let ready' = also_ready whose.frame whose.name there (same ∙ sym whose.is) in
              let wrong : shut z ≡ ready = sym whose.holds ∙ ready' in
              absurd cc;
          unseen = λ j z whose same.
              let there = watched_full (hold whose.frame whose.name) z whose.holds in
              let ready' = also_ready whose.frame whose.name there (same ∙ sym whose.is) in
              subst (IsWatched z) ready' whose.holds;
        }

    pub put_in_name : (path : List ℕ) → LeadsOn types (type frame x) path u
        → Put types clock scope act hold type v u under s m core (name_along frame x path)
    put_in_name path leads =
        let stands = subst (λ h. NameStands types s core.forest m core.root frame x (type frame x) h) is
        (core.names frame x) in
        let own = stands.0 in
        subst (λ (to : Place). Put types clock scope act hold type v u under s m core (place_along to path)) own.at
        (part_put (core.root frame x) own.row (name_root own stands.1) path
        (subst (λ t. LeadsOn types t path u) (sym own.typed) leads))

  -- ---- the root of a loan

  module _ (frame x : ℕ) (looks : IsReadable (hold frame x)) (t : Meaning) (z : ℕ)
      (typed : type frame x ≡ meaning.writes t (token z)) (scoped : scope z ≡ true) where
    holds : NameHolds types forms clock scope act hold type Under s m core frame x t z looks typed scoped
    holds = name_holds types forms clock scope act hold type Under s m core frame x t z looks typed scoped

    no_root : (a y : ℕ) → IsFull (hold a y) → holds.loan ≡ core.root a y → ⊥
    no_root a y there same =
        no_loan s holds.loan a y (type a y) holds.row
        (subst (λ i. IsNameRow s i a y (type a y)) (sym same)
        (row_of types clock scope act hold type Under s m core a y there)) holds.has
        (writer_is_loan holds.row.via holds.writes)

    loan_root : Root holds.loan holds.row
    loan_root = record {
      row = holds.has;
      tree = holds.usable.tree;
      value = holds.usable.value;
      here = holds.usable.here;
      typed = holds.usable.typed;
      there = holds.usable.there;
      shown = holds.usable.shown;
      unshut = λ j y whose same.
          no_root whose.frame whose.name (subst IsFull (sym whose.holds) tt) (same ∙ sym whose.is);
      unseen = λ j y whose same.
          no_root whose.frame whose.name (watched_full (hold whose.frame whose.name) y whose.holds)
          (same ∙ sym whose.is);
    }

    pub put_behind_name : (path : List ℕ) → LeadsOn types t path u
        → (borrow : ℕ) × (to : Place) × (m.at (name_of frame x) ≡ Some (reference borrow to))
        × Put types clock scope act hold type v u under s m core (place_along to path)
    put_behind_name path leads = (
      holds.row.borrow,
      holds.row.to,
      holds.there,
      part_put holds.loan holds.row loan_root path (subst (λ w. LeadsOn types w path u) (sym holds.its_type) leads),
    )
