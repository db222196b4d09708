-- What a root holds whole gives way to another tree, over another memory.
use Rattle.std.proofs.Common.{◌≡◌, ◌⊎◌, inl, inr, ℕ, ◌+◌, ◌≤◌, Bool, List, refl, sym, ap, subst}
use Rattle.std.proofs.Common.{◌∙◌}
use Rattle.std.specs.Prelude.{Option, Some, None}
use Rattle.std.proofs.lemmas.Bool.{cases_eq}
use Rattle.au_effects.specs.Values.{Fields, Place, made, name_of}
use Rattle.au_places.specs.Memories.{Memory, held_at}
use Rattle.au_places.specs.Places.{Id, writer}
use Rattle.au_types.specs.Types.{Meaning}
use Rattle.au_memory.specs.Trees.{Value, Tree, Trees}
use Rattle.au_memory.specs.Loans.{Types, Loan, Table}
use Rattle.au_memory.specs.Shown.{Shows, ShowsAll, Has}
use Rattle.au_memory.specs.Forests.{Held, Forest, Holds, Made, Names, Core, AreShown, whole, all_lent, box_lent}
use Rattle.au_memory.specs.Forests.{parts_lent, watching, shut, with_root, in_forest, in_list, IsHere}
use Rattle.au_memory.specs.Forests.{IsPartLent, IsRooted, IsWatched, IsWhole, NameStands}
use Rattle.au_memory.proofs.GrowthLemmas.{grows_self}
use Rattle.au_memory.proofs.TotalLemmas.{root_other, root_self}
use Rattle.au_lending.proofs.MoveLemmas.{Keeps, Parted, lent_moves, name_moves, node_of, part_stays}
use Rattle.au_lending.proofs.MoveLemmas.{root_goes}

module _ (types : Types) (clock : ℕ) (scope act : ℕ → Bool) (hold : Holds) (type : ℕ → ℕ → Meaning)
    (under : Made) (s : Table) (m : Memory (List ℕ)) (core : Core types clock scope act hold type under s m)
    (k : ℕ) (l : Loan) (old new : Tree) where
  abbrev pub changed_forest : Forest
  changed_forest = with_root k (Some (whole l.to new)) core.forest

  -- What has to hold: no name that is lent from has this root; the new tree stands there and is of the type; and what
  -- other roots hold stands as it did.
  pub record Change (n : Memory (List ℕ)) (now : Made) (trees : List Tree) : Type 0 where
    pub row : s k ≡ Some l
    pub here : core.forest k ≡ Some (whole l.to old)
    pub unshut : (j z : ℕ) → Names hold core.root j (λ h. h ≡ shut z) → k ≡ j → ⊥
    pub unseen : (j z : ℕ) → Names hold core.root j (IsWatched z) → k ≡ j → ⊥
    pub value : Value
    pub there : held_at n l.to ≡ Some value
    pub typed : Has types s new l.type
    pub shows : Shows types s n value new
    pub shown : AreShown types s n now trees
    pub once : (id : Id) → in_forest id core.top changed_forest + in_list id trees ≤ 1
    pub writers : (j : ℕ) → in_forest (writer j) core.top changed_forest + in_list (writer j) trees
        ≤ in_forest (writer j) core.top core.forest + in_list (writer j) core.trees
    pub stay_at : (j : ℕ) (h : Held) (to : Place) → (k ≡ j → ⊥) → core.forest j ≡ Some h → node_of h ≡ Some (0, to)
        → held_at n to ≡ held_at m to
    pub parted : (j : ℕ) (h : Held) (r : Loan) (count : ℕ) → (k ≡ j → ⊥) → core.forest j ≡ Some h
        → node_of h ≡ Some (count, r.to) → (tag : ℕ) (born : Option ℕ) (parts : Fields (List ℕ))
        → held_at m r.to ≡ Some (made tag born parts)
        → Parted types s s core.forest changed_forest m n (grows_self s) r count tag born parts
    pub trees_stay : (j : ℕ) (to : Place) (tree : Tree) (v : Value) → (k ≡ j → ⊥)
        → core.forest j ≡ Some (whole to tree) → Shows types s m v tree → Shows types s n v tree
    pub rest_stays : (j : ℕ) (to : Place) (tag : ℕ) (born : Option ℕ) (g count : ℕ) (rest : Trees)
        (parts : Fields (List ℕ)) → (k ≡ j → ⊥) → core.forest j ≡ Some (parts_lent to tag born g count rest)
        → ShowsAll types s m parts rest → ShowsAll types s n parts rest
    pub no_names : (a y : ℕ) → m.at (name_of a y) ≡ None → n.at (name_of a y) ≡ m.at (name_of a y)

  module _ (n : Memory (List ℕ)) (now : Made) (trees : List Tree) (change : Change n now trees) where
    abbrev own : Held
    own = whole l.to new

    at_own : changed_forest k ≡ Some own
    at_own = root_self k (Some own) core.forest

    as_was : (j : ℕ) → (k ≡ j → ⊥) → changed_forest j ≡ core.forest j
    as_was j differ = root_other k j (Some own) core.forest differ

    pub stay : (j : ℕ) → IsHere (core.forest j) → IsHere (changed_forest j)
    stay j there = by (cases_eq k j)
      where
        by : (k ≡ j) ⊎ (k ≡ j → ⊥) → IsHere (changed_forest j)
        by (inl same) = subst (λ i. IsHere (changed_forest i)) same (subst IsHere (sym at_own) tt)
        by (inr differ) = subst IsHere (sym (as_was j differ)) there

    pub before : (j : ℕ) → IsHere (changed_forest j) → IsHere (core.forest j)
    before j there = by (cases_eq k j)
      where
        by : (k ≡ j) ⊎ (k ≡ j → ⊥) → IsHere (core.forest j)
        by (inl same) = subst (λ i. IsHere (core.forest i)) same (subst IsHere (sym change.here) tt)
        by (inr differ) = subst IsHere (as_was j differ) there

    pub rooted : (j : ℕ) (h : Held) → changed_forest j ≡ Some h
        → (r : Loan) × (s j ≡ Some r) × IsRooted types s changed_forest n j r h
    rooted j h e = by (cases_eq k j)
      where
        by : (k ≡ j) ⊎ (k ≡ j → ⊥) → (r : Loan) × (s j ≡ Some r) × IsRooted types s changed_forest n j r h
        by (inl same) =
            let there : changed_forest j ≡ Some own = subst (λ i. changed_forest i ≡ Some own) same at_own in
            let alike : own ≡ h = cc in
            subst (λ i. (r : Loan) × (s i ≡ Some r) × IsRooted types s changed_forest n i r h) same
            (subst (λ d. (r : Loan) × (s k ≡ Some r) × IsRooted types s changed_forest n k r d) alike
            (l, change.row, (change.value, refl, change.typed, change.there, change.shows)))
        by (inr differ) =
            let was : core.forest j ≡ Some h = sym (as_was j differ) ∙ e in
            let r = core.rooted j h was in (
              r.0,
              r.1,
              root_goes types s s core.forest changed_forest m n (grows_self s) j r.0 h
                  (λ i q has from there. stay i there)
                  (λ at. change.stay_at j h r.0.to differ was at)
                  (λ count at tag born parts there. change.parted j h r.0 count differ was at tag born parts there)
                  (λ to tree v eq shown. change.trees_stay j to tree v differ (was ∙ ap Some eq) shown)
                  (λ to tag born i count rest parts eq shown.
                  change.rest_stays j to tag born i count rest parts differ (was ∙ ap Some eq) shown) r.2,
            )

    still_whole : (r : ℕ) → IsWhole (core.forest r) → IsWhole (changed_forest r)
    still_whole r w = by (cases_eq k r)
      where
        by : (k ≡ r) ⊎ (k ≡ r → ⊥) → IsWhole (changed_forest r)
        by (inl same) = (l.to, new, subst (λ i. changed_forest i ≡ Some own) same at_own)
        by (inr differ) = (w.0, w.1, as_was r differ ∙ w.2)

    pub names : (a y : ℕ) → NameStands types s changed_forest n core.root a y (type a y) (hold a y)
    names a y =
        name_moves types s s core.forest changed_forest m n (grows_self s) core.root core.root a y (type a y) (hold a y)
        (λ i q has shuts there. stay i there) refl
        (λ none. change.no_names a y
        (subst (λ h. NameStands types s core.forest m core.root a y (type a y) h) none (core.names a y)))
        (λ row w. still_whole (core.root a y) w)
        (core.names a y)

    -- a root that holds something else than a tree is another
    other_held : (j : ℕ) (h : Held) → core.forest j ≡ Some h → (whole l.to old ≡ h → ⊥) → k ≡ j → ⊥
    other_held j h e differ same =
        let there : core.forest j ≡ Some (whole l.to old) =
        subst (λ i. core.forest i ≡ Some (whole l.to old)) same change.here in
        let alike : whole l.to old ≡ h = cc in
        differ alike

    pub keeps : (g : ℕ) → Keeps core.forest changed_forest hold hold core.root core.root
        (λ id. in_forest id core.top core.forest + in_list id core.trees)
        (λ id. in_forest id core.top changed_forest + in_list id trees) g
    keeps g = record {
      shuts = λ a y y2 e. (e, refl);
      watches = λ a y y2 w. (w, refl);
      fulls = λ a y at there. (there, refl);
      lents = λ j i e. as_was j (other_held j (all_lent i) e (λ alike. cc));
      parts = λ j h. part_stays g (core.forest j) (changed_forest j) (as_was j (part_old j (core.forest j) refl h)) h;
      holders = λ j y2 whose. as_was j (change.unshut j y2 whose);
      seen = λ j y2 whose. as_was j (change.unseen j y2 whose);
      own = λ e. as_was g (other_held g watching e (λ alike. cc));
      counts = λ j h. change.writers j;
    }
      where
        part_old : (j : ℕ) (o : Option Held) → core.forest j ≡ o → IsPartLent g o → k ≡ j → ⊥
        part_old j None e h = absurd h
        part_old j (Some (whole at tree)) e h = absurd h
        part_old j (Some (all_lent i)) e h = absurd h
        part_old j (Some (box_lent at born i)) e h = other_held j (box_lent at born i) e (λ alike. cc)
        part_old j (Some (parts_lent at tag born i q rest)) e h =
            other_held j (parts_lent at tag born i q rest) e (λ alike. cc)
        part_old j (Some watching) e h = absurd h

    unfoldable pub changed_core : Core types clock scope act hold type now s n
    changed_core = record {
      forest = changed_forest;
      top = core.top;
      root = core.root;
      trees = trees;
      shown = change.shown;
      once = change.once;
      rooted = rooted;
      names = names;
      lent = λ g r row here. lent_moves core.forest changed_forest hold hold core.root core.root
          (λ id. in_forest id core.top core.forest + in_list id core.trees)
          (λ id. in_forest id core.top changed_forest + in_list id trees) g (keeps g) r.token r.via
          (core.lent g r row (before g here));
      live = λ g r row loan open'. stay g (core.live g r row loan open');
      active = λ g r row loan here. core.active g r row loan (before g here);
      known = core.known;
      older = core.older;
      order = core.order;
      ticked = core.ticked;
      acted = core.acted;
      scoped = core.scoped;
    }
