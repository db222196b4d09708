-- A consuming mention: what a name holds is moved out of it.
use Rattle.std.proofs.Common.{◌≡◌, ◌⊎◌, inl, inr, ℕ, ◌+◌, ◌≤◌, ◌<◌, Bool, true, false, List, [], ◌∷◌}
use Rattle.std.proofs.Common.{refl, sym, ap, subst, ◌∙◌, arith, if◌then◌else◌}
use Rattle.std.specs.Prelude.{Option, Some, None}
use Rattle.std.proofs.lemmas.Bool.{cases_eq}
use Rattle.au_effects.specs.Parts.{along, part}
use Rattle.au_effects.specs.References.{name_along}
use Rattle.au_effects.specs.Values.{Place, name_of}
use Rattle.au_places.specs.Memories.{Memory, held_at, with_base}
use Rattle.au_places.specs.Places.{Id, cell_of, in_place, same_base, writer}
use Rattle.au_places.proofs.MemoryLemmas.{base_other, base_self}
use Rattle.au_places.proofs.PlaceLemmas.{base_is}
use Rattle.au_types.specs.Types.{Meaning}
use Rattle.au_memory.specs.Trees.{Value, Tree, in_tree}
use Rattle.au_memory.specs.Loans.{Types, Loan, Table, IsLoan}
use Rattle.au_memory.specs.Forests.{Held, Forest, Holds, Made, Core, AreShown, whole, empty}
use Rattle.au_memory.specs.Forests.{ready, shut, with_root, in_root, in_forest, in_list, in_held, IsFull, IsHere}
use Rattle.au_memory.specs.Forests.{IsLent, IsNameRow, IsPartLent, IsRooted, IsWatched, IsWhole, NameStands}
use Rattle.au_memory.proofs.CountLemmas.{no_name, no_names}
use Rattle.au_memory.proofs.FrameLemmas.{shows_all_base, shows_base}
use Rattle.au_memory.proofs.GrowthLemmas.{grows_self}
use Rattle.au_memory.proofs.TotalLemmas.{root_other, root_self, total_put, total_two}
use Rattle.au_memory.proofs.UsableLemmas.{root_below}
use Rattle.au_lending.specs.Holding.{with_hold}
use Rattle.au_lending.specs.Laws.{Mentioned}
use Rattle.au_lending.proofs.MoveLemmas.{Keeps, lent_moves, name_moves, parent_loan, root_moves, shuts_loan}
use Rattle.au_lending.proofs.MoveLemmas.{part_stays}
use Rattle.au_lending.proofs.RowLemmas.{Found, find, name_apart, no_loan, one_name, one_root, same_names, watched_full}

-- values under way don't rest on names
pub shown_without : (types : Types) (s : Table) (m : Memory (List ℕ)) (frame x : ℕ) (o : Option Value) (vs : Made)
    (ts : List Tree) → AreShown types s m vs ts → AreShown types s (with_base (name_of frame x) o m) vs ts
shown_without types s m frame x o [] [] h = h
shown_without types s m frame x o [] (t ∷ ts) h = h
shown_without types s m frame x o (v ∷ vs) [] h = h
shown_without types s m frame x o (v ∷ vs) (t ∷ ts) h = (
  shows_base types s m (name_of frame x) o t v.0 (no_name frame x [] t) h.0,
  h.1,
  shown_without types s m frame x o vs ts h.2,
)

module _ (types : Types) (clock : ℕ) (scope act : ℕ → Bool) (hold : Holds) (type : ℕ → ℕ → Meaning)
    (under : Made) (s : Table) (m : Memory (List ℕ)) (core : Core types clock scope act hold type under s m)
    (frame x : ℕ) (is : hold frame x ≡ ready) where
  full : IsFull (hold frame x)
  full = subst IsFull (sym is) tt

  stands : IsNameRow s (core.root frame x) frame x (type frame x) × IsWhole (core.forest (core.root frame x))
  stands = subst (λ h. NameStands types s core.forest m core.root frame x (type frame x) h) is (core.names frame x)

  pub found : Found types clock scope act hold type under s m core frame x
  found = find types clock scope act hold type under s m core frame x stands.0 stands.1

  abbrev without : Forest
  without = with_root (core.root frame x) None core.forest

  abbrev after : Memory (List ℕ)
  after = with_base (name_of frame x) None m

  abbrev held : Holds
  held = with_hold frame x empty hold

  below : core.root frame x < core.top
  below = root_below types clock scope act hold type under s m core (core.root frame x)
      (whole (name_along frame x []) found.tree) found.here

  -- ---- counts

  moved : (id : Id) → (in_forest id core.top without + (in_tree id found.tree + in_list id core.trees))
      + in_place id (name_along frame x []) ≡ in_forest id core.top core.forest + in_list id core.trees
  moved id =
      let put = total_put id core.top (core.root frame x) None core.forest below in
      let own = ap (in_root id) found.here in
      omega arith

  -- ---- roots

  not_own : (k : ℕ) (h : Held) → without k ≡ Some h → core.root frame x ≡ k → ⊥
  not_own k h e same =
      let none : without k ≡ None = subst (λ j. without j ≡ None) same (root_self (core.root frame x) None core.forest) in
      cc

  stay : (g : ℕ) (l : Loan) → s g ≡ Some l → IsLoan l.via → IsHere (core.forest g) → IsHere (without g)
  stay g l row loan here =
      subst IsHere (sym (root_other (core.root frame x) g None core.forest
      (λ same. no_loan s g frame x (type frame x) l (subst (λ j. IsNameRow s j frame x (type frame x)) same stands.0)
      row loan))) here

  same_place : (k : ℕ) (h : Held) (to : Place) → (core.root frame x ≡ k → ⊥) → core.forest k ≡ Some h
      → 1 ≤ in_held (cell_of to) h → held_at after to ≡ held_at m to
  same_place k h to differ e some =
      let two = total_two (cell_of to) core.top k (core.root frame x) core.forest differ
      (root_below types clock scope act hold type under s m core k h e) below in
      let first = ap (in_root (cell_of to)) e in
      let second = ap (in_root (cell_of to)) found.here in
      let once = core.once (cell_of to) in
      let none : in_place (cell_of to) (name_along frame x []) ≡ 0 = omega arith in
      ap (λ o. along o (part to.path)) (base_other m (name_of frame x) to.base None (name_apart frame x to none))

  rooted : (k : ℕ) (h : Held) → without k ≡ Some h → (l : Loan) × (s k ≡ Some l) × IsRooted types s without after k l h
  rooted k h e =
      let differ = not_own k h e in
      let old : core.forest k ≡ Some h = sym (root_other (core.root frame x) k None core.forest differ) ∙ e in
      let r = core.rooted k h old in (
        r.0,
        r.1,
        root_moves types s s core.forest without m after (grows_self s) k r.0 h
            (λ g l has from here. stay g l has (parent_loan l.via k from) here)
            (same_place k h r.0.to differ old)
            (λ to tree v eq shown. shows_base types s m (name_of frame x) None tree v (no_name frame x [] tree) shown)
            (λ to tag born g count rest parts eq shown.
            shows_all_base types s m (name_of frame x) None rest parts (no_names frame x [] rest) shown) r.2,
      )

  -- ---- names

  names : (a y : ℕ) → NameStands types s without after core.root a y (type a y) (held a y)
  names a y = by (same_base (name_of frame x) (name_of a y)) refl
    where
      by : (t : Bool) → same_base (name_of frame x) (name_of a y) ≡ t
          → NameStands types s without after core.root a y (type a y) (if t then empty else hold a y)
      by true e =
          subst (λ b. after.at b ≡ None) (base_is (name_of frame x) (name_of a y) e) (base_self m (name_of frame x) None)
      by false e =
          name_moves types s s core.forest without m after (grows_self s) core.root core.root a y (type a y)
          (hold a y) (λ g l has shuts here. stay g l has (shuts_loan l.via (core.root a y) shuts) here) refl
          (λ gone. base_other m (name_of frame x) (name_of a y) None e)
          (λ row w. (
            w.0,
            w.1,
            root_other (core.root frame x) (core.root a y) None core.forest
                (λ same. other row same e) ∙ w.2,
          )) (core.names a y)
        where
          other : IsNameRow s (core.root a y) a y (type a y) → core.root frame x ≡ core.root a y
              → same_base (name_of frame x) (name_of a y) ≡ false → ⊥
          other row same e =
              let one = one_name s (core.root a y) frame x a y (type frame x) (type a y)
              (subst (λ j. IsNameRow s j frame x (type frame x)) same stands.0) row in
              cc

  -- ---- loans

  -- a name that isn't ready is another one
  abbrev Another : ℕ → ℕ → Type 0
  Another a y = same_base (name_of frame x) (name_of a y) ≡ false

  another : (a y : ℕ) → (hold a y ≡ ready → ⊥) → Another a y
  another a y differ = by (same_base (name_of frame x) (name_of a y)) refl
    where
      by : (t : Bool) → same_base (name_of frame x) (name_of a y) ≡ t → t ≡ false
      by true e =
          let both = same_names frame x a y e in
          absurd (differ (subst (λ b. hold b y ≡ ready) both.0 (subst (λ z. hold frame z ≡ ready) both.1 is)))
      by false e = refl

  stays : (a y : ℕ) → Another a y → held a y ≡ hold a y
  stays a y e = rw e

  shut_stays : (a y z : ℕ) → hold a y ≡ shut z → held a y ≡ shut z
  shut_stays a y z e = stays a y (another a y (λ r. let wrong : shut z ≡ ready = sym e ∙ r in cc)) ∙ e

  watched_stays : (a y z : ℕ) → IsWatched z (hold a y) → Another a y
  watched_stays a y z w = another a y (λ r. subst (IsWatched z) r w)

  -- a root whose name is another one is another root
  elsewhere : (a y k : ℕ) → IsFull (hold a y) → Another a y → core.root a y ≡ k → core.root frame x ≡ k → ⊥
  elsewhere a y k here e at same =
      let one = one_root types clock scope act hold type under s m core frame x a y full here (same ∙ sym at) in
      cc

  keeps : (g : ℕ) → (core.root frame x ≡ g → ⊥)
      → Keeps core.forest without hold held core.root core.root
      (λ id. in_forest id core.top core.forest + in_list id core.trees)
      (λ id. in_forest id core.top without + (in_tree id found.tree + in_list id core.trees)) g
  keeps g differ = record {
    shuts = λ a y z e. (shut_stays a y z e, refl);
    watches = λ a y z w. (subst (IsWatched z) (sym (stays a y (watched_stays a y z w))) w, refl);
    fulls = λ a y at here. (
      subst IsFull (sym (stays a y (by_root a y at))) here,
      refl,
    );
    lents = λ k j e. root_other (core.root frame x) k None core.forest (λ same.
        let own : core.forest k ≡ Some (whole (name_along frame x []) found.tree) =
        subst (λ i. core.forest i ≡ Some (whole (name_along frame x []) found.tree)) same found.here in
        cc);
    parts = λ k h. part_stays g (core.forest k) (without k) (root_other (core.root frame x) k None core.forest (λ same.
        subst (IsPartLent g)
        (subst (λ i. core.forest i ≡ Some (whole (name_along frame x []) found.tree)) same found.here) h)) h;
    holders = λ k z whose. root_other (core.root frame x) k None core.forest
        (elsewhere whose.frame whose.name k (subst IsFull (sym whose.holds) tt)
        (another whose.frame whose.name (λ r. let wrong : shut z ≡ ready = sym whose.holds ∙ r in cc)) whose.is);
    seen = λ k z whose. root_other (core.root frame x) k None core.forest
        (elsewhere whose.frame whose.name k (watched_full (hold whose.frame whose.name) z whose.holds)
        (watched_stays whose.frame whose.name z whose.holds) whose.is);
    own = λ seen. root_other (core.root frame x) g None core.forest differ;
    counts = λ k part. let all = moved (writer k) in omega arith;
  }
    where
      by_root : (a y : ℕ) → core.root a y ≡ g → Another a y
      by_root a y at = by (same_base (name_of frame x) (name_of a y)) refl
        where
          by : (t : Bool) → same_base (name_of frame x) (name_of a y) ≡ t → t ≡ false
          by true e =
              let both = same_names frame x a y e in
              absurd (differ (ap (λ b. core.root b x) both.0 ∙ ap (core.root a) both.1 ∙ at))
          by false e = refl

  here_before : (g : ℕ) → IsHere (without g) → (core.root frame x ≡ g → ⊥) × IsHere (core.forest g)
  here_before g here = by (cases_eq (core.root frame x) g)
    where
      by : (core.root frame x ≡ g) ⊎ (core.root frame x ≡ g → ⊥)
          → (core.root frame x ≡ g → ⊥) × IsHere (core.forest g)
      by (inl same) =
          absurd (subst IsHere (subst (λ j. without j ≡ None) same (root_self (core.root frame x) None core.forest)) here)
      by (inr differ) = (differ, subst IsHere (root_other (core.root frame x) g None core.forest differ) here)

  lent : (g : ℕ) (l : Loan) → s g ≡ Some l → IsHere (without g)
      → IsLent without held core.root
      (λ id. in_forest id core.top without + (in_tree id found.tree + in_list id core.trees)) g l.token l.via
  lent g l row here =
      let before = here_before g here in
      lent_moves core.forest without hold held core.root core.root
      (λ id. in_forest id core.top core.forest + in_list id core.trees)
      (λ id. in_forest id core.top without + (in_tree id found.tree + in_list id core.trees)) g (keeps g before.0)
      l.token l.via (core.lent g l row before.1)

  -- ---- all together

  emptied : Core types clock scope act held type ((found.value, type frame x) ∷ under) s after
  emptied = record {
    forest = without;
    top = core.top;
    root = core.root;
    trees = found.tree ∷ core.trees;
    shown = (
      shows_base types s m (name_of frame x) None found.tree found.value (no_name frame x [] found.tree) found.shown,
      found.typed,
      shown_without types s m frame x None under core.trees core.shown,
    );
    once = λ id. let all = moved id in let once = core.once id in omega arith;
    rooted = rooted;
    names = names;
    lent = lent;
    live = λ g l row loan scoped. stay g l row loan (core.live g l row loan scoped);
    active = λ g l row loan here. core.active g l row loan (here_before g here).1;
    known = core.known;
    older = core.older;
    order = core.order;
    ticked = core.ticked;
    acted = core.acted;
    scoped = core.scoped;
  }

  pub mentioned : Mentioned types clock scope act hold type under s m core frame x
  unfolding emptied found
  mentioned = record {
    value = found.value;
    there = found.there;
    after = emptied;
    counts = λ id. moved id;
  }
