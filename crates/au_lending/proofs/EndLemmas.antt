-- A loan of all that a root held ends: its tree goes back, and the name that it was lent from may be used again.
use Rattle.std.proofs.Common.{◌≡◌, ◌⊎◌, inl, inr, ℕ, ◌+◌, ◌<◌, Bool, true, false, List}
use Rattle.std.proofs.Common.{refl, sym, ap, subst, ◌∙◌, arith, if◌then◌else◌}
use Rattle.std.specs.Prelude.{Option, Some, None}
use Rattle.std.proofs.lemmas.Bool.{cases_eq}
use Rattle.au_effects.specs.Values.{Place, name_of}
use Rattle.au_places.specs.Memories.{Memory}
use Rattle.au_places.specs.Places.{Id, writer, same_base}
use Rattle.au_types.specs.Types.{Meaning}
use Rattle.au_memory.specs.Trees.{Tree, a_writer}
use Rattle.au_memory.specs.Loans.{Types, Loan, Table, Via, named, lent_of, lent_through, part_of, reading, IsLoan}
use Rattle.au_memory.specs.Loans.{parent_of}
use Rattle.au_memory.specs.Shown.{Has}
use Rattle.au_memory.specs.Forests.{Held, Forest, Hold, Holds, Made, Names, Core, whole, all_lent, box_lent, parts_lent}
use Rattle.au_memory.specs.Forests.{watching, empty, ready, shut, watched, with_root, in_root, in_forest, in_list}
use Rattle.au_memory.specs.Forests.{IsFull, IsHere, IsLent, IsNameRow, IsPartLent, IsRooted, IsWatched, IsWhole}
use Rattle.au_memory.specs.Forests.{LendsAll, NameStands, Shuts}
use Rattle.au_memory.proofs.GrowthLemmas.{grows_self}
use Rattle.au_memory.proofs.TotalLemmas.{root_other, root_self, total_put}
use Rattle.au_memory.proofs.UsableLemmas.{root_below}
use Rattle.au_lending.specs.Holding.{with_hold}
use Rattle.au_lending.specs.Laws.{Ended}
use Rattle.au_lending.proofs.MoveLemmas.{lends_loan, lends_parent, name_moves, root_moves}
use Rattle.au_lending.proofs.RowLemmas.{no_loan, one_root, row_of, same_names, watched_full}

-- a loan shuts one name's root alone
pub one_shut : (via : Via) (r q : ℕ) → Shuts via r → Shuts via q → r ≡ q
one_shut named r q a b = absurd a
one_shut (lent_of k) r q a b = sym a ∙ b
one_shut (lent_through holder k) r q a b = sym a ∙ b
one_shut (part_of k) r q a b = absurd a
one_shut (reading k tree) r q a b = absurd a

module _ (types : Types) (clock : ℕ) (scope act : ℕ → Bool) (hold : Holds) (type : ℕ → ℕ → Meaning)
    (under : Made) (s : Table) (m : Memory (List ℕ)) (core : Core types clock scope act hold type under s m)
    (g : ℕ) (l : Loan) (row : s g ≡ Some l) (tree : Tree) (here : core.forest g ≡ Some (whole l.to tree))
    (k : ℕ) (lends : LendsAll l.via k) (closed : scope l.token ≡ false) where
  abbrev own : Held
  own = whole l.to tree

  loan : IsLoan l.via
  loan = lends_loan l.via k lends

  abbrev count : Id → ℕ
  count id = in_forest id core.top core.forest + in_list id core.trees

  -- ---- what it was lent from

  -- the root and the name that it shuts, and what the root holds where it isn't the one that is lent
  record Source : Type 0 where
    at_parent : core.forest k ≡ Some (all_lent g)
    root : ℕ
    shuts : Shuts l.via root
    whose : Names hold core.root root (λ h. h ≡ shut l.token)
    holds : (root ≡ k) ⊎ ((to : Place) × (core.forest root ≡ Some (whole to (a_writer k))))

  source : Source
  source = by lends (core.lent g l row (subst IsHere (sym here) tt))
    where
      by : LendsAll l.via k → IsLent core.forest hold core.root count g l.token l.via → Source
      by (inl e) lent =
          let from = subst (λ v. IsLent core.forest hold core.root count g l.token v) e lent in
          record {
            at_parent = from.0;
            root = k;
            shuts = subst (λ v. Shuts v k) (sym e) refl;
            whose = from.1;
            holds = inl refl;
          }
      by (inr pair) lent =
          let from = subst (λ v. IsLent core.forest hold core.root count g l.token v) pair.1 lent in
          record {
            at_parent = from.2;
            root = pair.0;
            shuts = subst (λ v. Shuts v pair.0) (sym pair.1) refl;
            whose = from.3;
            holds = inr (from.0, from.1);
          }

  abbrev frame : ℕ
  frame = source.whose.frame

  abbrev x : ℕ
  x = source.whose.name

  full : IsFull (hold frame x)
  full = subst IsFull (sym source.whose.holds) tt

  -- ---- roots as they were

  abbrev given : Forest
  given = with_root k (Some own) core.forest

  abbrev forest : Forest
  forest = with_root g None given

  abbrev held : Holds
  held = with_hold frame x ready hold

  apart : g ≡ k → ⊥
  apart same = let less = core.older g l k row (lends_parent l.via k lends) in omega arith

  as_was : (j : ℕ) → (g ≡ j → ⊥) → (k ≡ j → ⊥) → forest j ≡ core.forest j
  as_was j one two = root_other g j None given one ∙ root_other k j (Some own) core.forest two

  gone : forest g ≡ None
  gone = root_self g None given

  back : forest k ≡ Some own
  back = root_other g k None given apart ∙ root_self k (Some own) core.forest

  -- a root that holds something else is neither
  no_own : (j : ℕ) (h : Held) → core.forest j ≡ Some h → (own ≡ h → ⊥) → g ≡ j → ⊥
  no_own j h e differ same =
      let there : core.forest j ≡ Some own = subst (λ i. core.forest i ≡ Some own) same here in
      let alike : own ≡ h = cc in
      differ alike

  no_parent : (j : ℕ) (h : Held) → core.forest j ≡ Some h → (all_lent g ≡ h → ⊥) → k ≡ j → ⊥
  no_parent j h e differ same =
      let there : core.forest j ≡ Some (all_lent g) =
      subst (λ i. core.forest i ≡ Some (all_lent g)) same source.at_parent in
      let alike : all_lent g ≡ h = cc in
      differ alike

  no_name : (a y : ℕ) → IsFull (hold a y) → g ≡ core.root a y → ⊥
  no_name a y there same =
      no_loan s g a y (type a y) l
      (subst (λ i. IsNameRow s i a y (type a y)) (sym same)
      (row_of types clock scope act hold type under s m core a y there)) row loan

  stay : (j : ℕ) → (g ≡ j → ⊥) → IsHere (core.forest j) → IsHere (forest j)
  stay j differ there = by (cases_eq k j)
    where
      by : (k ≡ j) ⊎ (k ≡ j → ⊥) → IsHere (forest j)
      by (inl same) = subst (λ i. IsHere (forest i)) same (subst IsHere (sym back) tt)
      by (inr other) = subst IsHere (sym (as_was j differ other)) there

  before : (j : ℕ) → IsHere (forest j) → (g ≡ j → ⊥) × IsHere (core.forest j)
  before j there = by (cases_eq g j) (cases_eq k j)
    where
      by : (g ≡ j) ⊎ (g ≡ j → ⊥) → (k ≡ j) ⊎ (k ≡ j → ⊥) → (g ≡ j → ⊥) × IsHere (core.forest j)
      by (inl same) c = absurd (subst IsHere (subst (λ i. forest i ≡ None) same gone) there)
      by (inr differ) (inl same) =
          (differ, subst (λ i. IsHere (core.forest i)) same (subst IsHere (sym source.at_parent) tt))
      by (inr differ) (inr other) = (differ, subst IsHere (as_was j differ other) there)

  -- ---- counts

  below : g < core.top
  below = root_below types clock scope act hold type under s m core g own here

  moved : (id : Id) → in_forest id core.top forest + in_list id core.trees ≡ count id
  moved id =
      let less = core.older g l k row (lends_parent l.via k lends) in
      let one = total_put id core.top g None given below in
      let two = total_put id core.top k (Some own) core.forest (let b = below in omega arith) in
      let mine = ap (in_root id) (root_other k g (Some own) core.forest (λ same. apart (sym same)) ∙ here) in
      let parent = ap (in_root id) source.at_parent in
      omega arith

  -- ---- what each root is

  rooted : (j : ℕ) (h : Held) → forest j ≡ Some h → (n : Loan) × (s j ≡ Some n) × IsRooted types s forest m j n h
  rooted j h e = by (cases_eq g j) (cases_eq k j)
    where
      lent : (n : Loan) × (s k ≡ Some n) × IsRooted types s core.forest m k n (all_lent g)
      lent = core.rooted k (all_lent g) source.at_parent

      mine : (n : Loan) × (s g ≡ Some n) × IsRooted types s core.forest m g n own
      mine = core.rooted g own here

      at_k : (n : Loan) × (s k ≡ Some n) × IsRooted types s forest m k n own
      at_k =
          let has : s g ≡ Some mine.0 = mine.1 in
          let same : mine.0 ≡ l = cc in
          let has2 : s g ≡ Some lent.2.0 = lent.2.1 in
          let alike : lent.2.0 ≡ l = cc in
          let r = subst (λ (n : Loan). IsRooted types s core.forest m g n own) same mine.2 in
          let to : l.to ≡ lent.0.to = ap (λ (n : Loan). n.to) (sym alike) ∙ lent.2.2 in
          let of : l.type ≡ lent.0.type = ap (λ (n : Loan). n.type) (sym alike) ∙ lent.2.3 in
          (lent.0, lent.1, (r.0, to, subst (λ u. Has types s tree u) of r.2, r.3, r.4))

      by : (g ≡ j) ⊎ (g ≡ j → ⊥) → (k ≡ j) ⊎ (k ≡ j → ⊥)
          → (n : Loan) × (s j ≡ Some n) × IsRooted types s forest m j n h
      by (inl same) c =
          let none : forest j ≡ None = subst (λ i. forest i ≡ None) same gone in
          let wrong : None ≡ Some h = sym none ∙ e in
          absurd cc
      by (inr differ) (inl same) =
          let there : forest j ≡ Some own = subst (λ i. forest i ≡ Some own) same back in
          let alike : own ≡ h = cc in
          subst (λ i. (n : Loan) × (s i ≡ Some n) × IsRooted types s forest m i n h) same
          (subst (λ d. (n : Loan) × (s k ≡ Some n) × IsRooted types s forest m k n d) alike at_k)
      by (inr differ) (inr other) =
          let old : core.forest j ≡ Some h = sym (as_was j differ other) ∙ e in
          let r = core.rooted j h old in (
            r.0,
            r.1,
            root_moves types s s core.forest forest m m (grows_self s) j r.0 h
                (λ i n has from there. stay i (child i n has from) there)
                (λ some. refl) (λ at t v eq shown. shown) (λ at tag born i n rest parts eq shown. shown) r.2,
          )
        where
          child : (i : ℕ) (n : Loan) → s i ≡ Some n → parent_of n.via ≡ Some j → g ≡ i → ⊥
          child i n has from same =
              let mine' : s i ≡ Some l = subst (λ c. s c ≡ Some l) same row in
              let alike : n ≡ l = cc in
              let one : parent_of l.via ≡ Some j = subst (λ (o : Loan). parent_of o.via ≡ Some j) alike from in
              let two = lends_parent l.via k lends in
              let three : Some k ≡ Some j = sym two ∙ one in
              let four : k ≡ j = cc in
              other four

  -- ---- names

  abbrev Another : ℕ → ℕ → Type 0
  Another a y = same_base (name_of frame x) (name_of a y) ≡ false

  -- only one name waits for the loan
  waits : (a y : ℕ) → IsFull (hold a y) → Another a y → (i : ℕ) (n : Loan) → s i ≡ Some n → Shuts n.via (core.root a y)
      → IsHere (core.forest i) → IsHere (forest i)
  waits a y there other i n has shuts now = stay i (λ same.
      let mine : s i ≡ Some l = subst (λ c. s c ≡ Some l) same row in
      let alike : n ≡ l = cc in
      let at = one_shut l.via source.root (core.root a y) source.shuts
      (subst (λ (o : Loan). Shuts o.via (core.root a y)) alike shuts) in
      let one = one_root types clock scope act hold type under s m core frame x a y full there
      (source.whose.is ∙ at) in
      let wrong : true ≡ false = sym one ∙ other in
      cc) now

  keeps_whole : (a y : ℕ) → IsFull (hold a y) → IsWhole (core.forest (core.root a y)) → IsWhole (forest (core.root a y))
  keeps_whole a y there w = (
    w.0,
    w.1,
    as_was (core.root a y) (no_name a y there)
        (no_parent (core.root a y) (whole w.0 w.1) w.2 (λ alike. cc)) ∙ w.2,
  )

  other_name : (a y : ℕ) (h : Hold) → hold a y ≡ h → Another a y
      → NameStands types s core.forest m core.root a y (type a y) h
      → NameStands types s forest m core.root a y (type a y) h
  other_name a y empty e other stands = stands
  other_name a y ready e other stands =
      let there : IsFull (hold a y) = subst IsFull (sym e) tt in
      name_moves types s s core.forest forest m m (grows_self s) core.root core.root a y (type a y) ready
      (waits a y there other) refl (λ none. refl) (λ own' w. keeps_whole a y there w) stands
  other_name a y (shut z) e other stands =
      let there : IsFull (hold a y) = subst IsFull (sym e) tt in
      name_moves types s s core.forest forest m m (grows_self s) core.root core.root a y (type a y) (shut z)
      (waits a y there other) refl (λ none. refl) (λ own' w. keeps_whole a y there w) stands
  other_name a y (watched zs) e other stands =
      let there : IsFull (hold a y) = subst IsFull (sym e) tt in
      name_moves types s s core.forest forest m m (grows_self s) core.root core.root a y (type a y) (watched zs)
      (waits a y there other) refl (λ none. refl) (λ own' w. keeps_whole a y there w) stands

  -- what the name holds is whole again
  root_whole : IsWhole (forest source.root)
  root_whole = by source.holds
    where
      by : (source.root ≡ k) ⊎ ((to : Place) × (core.forest source.root ≡ Some (whole to (a_writer k))))
          → IsWhole (forest source.root)
      by (inl same) = (l.to, tree, subst (λ i. forest i ≡ Some own) (sym same) back)
      by (inr pair) = (
        pair.0,
        a_writer k,
        as_was source.root
            (λ same. no_name frame x full (same ∙ sym source.whose.is))
            (no_parent source.root (whole pair.0 (a_writer k)) pair.1 (λ alike. cc)) ∙ pair.1,
      )

  own_name : NameStands types s forest m core.root frame x (type frame x) ready
  own_name = (
    row_of types clock scope act hold type under s m core frame x full,
    subst (λ i. IsWhole (forest i)) (sym source.whose.is) root_whole,
  )

  names : (a y : ℕ) → NameStands types s forest m core.root a y (type a y) (held a y)
  names a y = by (same_base (name_of frame x) (name_of a y)) refl
    where
      by : (t : Bool) → same_base (name_of frame x) (name_of a y) ≡ t
          → NameStands types s forest m core.root a y (type a y) (if t then ready else hold a y)
      by true e =
          let both = same_names frame x a y e in
          subst (λ c. NameStands types s forest m core.root c y (type c y) ready) both.0
          (subst (λ w. NameStands types s forest m core.root frame w (type frame w) ready) both.1 own_name)
      by false e = other_name a y (hold a y) refl e (core.names a y)

  -- ---- loans

  -- a name with another root is another name
  another : (a y j : ℕ) → core.root a y ≡ j → (source.root ≡ j → ⊥) → Another a y
  another a y j at differ = by (same_base (name_of frame x) (name_of a y)) refl
    where
      by : (t : Bool) → same_base (name_of frame x) (name_of a y) ≡ t → t ≡ false
      by true e =
          let both = same_names frame x a y e in
          absurd (differ (sym source.whose.is ∙ ap (λ b. core.root b x) both.0 ∙ ap (core.root a) both.1 ∙ at))
      by false e = refl

  stays : (a y : ℕ) → Another a y → held a y ≡ hold a y
  stays a y e = rw e

  shut_name : (j z : ℕ) → (source.root ≡ j → ⊥) → Names hold core.root j (λ h. h ≡ shut z)
      → Names held core.root j (λ h. h ≡ shut z)
  shut_name j z differ whose = record {
    frame = whose.frame;
    name = whose.name;
    is = whose.is;
    holds = stays whose.frame whose.name (another whose.frame whose.name j whose.is differ) ∙ whose.holds;
  }

  watched_name : (j z : ℕ) → Names hold core.root j (IsWatched z) → Names held core.root j (IsWatched z)
  watched_name j z whose = record {
    frame = whose.frame;
    name = whose.name;
    is = whose.is;
    holds = subst (IsWatched z) (sym (stays whose.frame whose.name (differs whose.frame whose.name z whose.holds)))
        whose.holds;
  }
    where
      differs : (a y z : ℕ) → IsWatched z (hold a y) → Another a y
      differs a y z w = by (same_base (name_of frame x) (name_of a y)) refl
        where
          by : (t : Bool) → same_base (name_of frame x) (name_of a y) ≡ t → t ≡ false
          by true e =
              let both = same_names frame x a y e in
              let is : hold a y ≡ shut l.token =
              subst (λ b. hold b y ≡ shut l.token) both.0
              (subst (λ c. hold frame c ≡ shut l.token) both.1 source.whose.holds) in
              absurd (subst (IsWatched z) is w)
          by false e = refl

  full_name : (j : ℕ) → Names hold core.root j IsFull → Names held core.root j IsFull
  full_name j whose = record {
    frame = whose.frame;
    name = whose.name;
    is = whose.is;
    holds = by (same_base (name_of frame x) (name_of whose.frame whose.name)) refl;
  }
    where
      by : (t : Bool) → same_base (name_of frame x) (name_of whose.frame whose.name) ≡ t
          → IsFull (if t then ready else hold whose.frame whose.name)
      by true e = tt
      by false e = whose.holds

  -- a root that is lent to another loan isn't the one from which this came
  not_source : (i j : ℕ) → (g ≡ j → ⊥) → core.forest i ≡ Some (all_lent j) → source.root ≡ i → ⊥
  not_source i j differ e same = by source.holds
    where
      by : (source.root ≡ k) ⊎ ((to : Place) × (core.forest source.root ≡ Some (whole to (a_writer k)))) → ⊥
      by (inl at) = no_parent i (all_lent j) e (λ alike. differ cc) (sym at ∙ same)
      by (inr pair) =
          let there : core.forest i ≡ Some (whole pair.0 (a_writer k)) =
          subst (λ c. core.forest c ≡ Some (whole pair.0 (a_writer k))) same pair.1 in
          cc

  -- nor one that holds the reference to another parent
  not_holder : (i n : ℕ) (to : Place) → (k ≡ n → ⊥) → core.forest i ≡ Some (whole to (a_writer n)) → source.root ≡ i → ⊥
  not_holder i n to differ e same = by source.holds
    where
      by : (source.root ≡ k) ⊎ ((at : Place) × (core.forest source.root ≡ Some (whole at (a_writer k)))) → ⊥
      by (inl at) = no_parent i (whole to (a_writer n)) e (λ alike. cc) (sym at ∙ same)
      by (inr pair) =
          let there : core.forest i ≡ Some (whole pair.0 (a_writer k)) =
          subst (λ c. core.forest c ≡ Some (whole pair.0 (a_writer k))) same pair.1 in
          let alike : a_writer k ≡ a_writer n = cc in
          differ cc

  abbrev after : Id → ℕ
  after id = in_forest id core.top forest + in_list id core.trees

  lent_moves : (j : ℕ) → (g ≡ j → ⊥) → (z : ℕ) (via : Via) → IsLent core.forest hold core.root count j z via
      → IsLent forest held core.root after j z via
  lent_moves j differ z named h = full_name j h
  lent_moves j differ z (lent_of i) h = (
    as_was i (no_own i (all_lent j) h.0 (λ alike. cc)) (no_parent i (all_lent j) h.0 (λ alike. differ cc)) ∙ h.0,
    shut_name i z (not_source i j differ h.0) h.1,
  )
  lent_moves j differ z (lent_through holder i) h =
      let other : k ≡ i → ⊥ = no_parent i (all_lent j) h.2 (λ alike. differ cc) in (
        h.0,
        as_was holder
            (λ same. no_name h.3.frame h.3.name (subst IsFull (sym h.3.holds) tt) (same ∙ sym h.3.is))
            (no_parent holder (whole h.0 (a_writer i)) h.1 (λ alike. cc)) ∙ h.1,
        as_was i (no_own i (all_lent j) h.2 (λ alike. cc)) other ∙ h.2,
        shut_name holder z (not_holder holder i h.0 other h.1) h.3,
      )
  lent_moves j differ z (part_of i) h =
      let same = moved (writer i) in
      let none = h.1 in
      (subst (λ o. IsPartLent j o) (sym (by (core.forest i) refl h.0)) h.0, omega arith)
    where
      by : (o : Option Held) → core.forest i ≡ o → IsPartLent j o → forest i ≡ core.forest i
      by None e p = absurd p
      by (Some (whole at t)) e p = absurd p
      by (Some (all_lent n)) e p = absurd p
      by (Some (box_lent at born n)) e p =
          as_was i (no_own i (box_lent at born n) e (λ alike. cc)) (no_parent i (box_lent at born n) e (λ alike. cc))
      by (Some (parts_lent at tag born n c rest)) e p =
          as_was i (no_own i (parts_lent at tag born n c rest) e (λ alike. cc))
          (no_parent i (parts_lent at tag born n c rest) e (λ alike. cc))
      by (Some watching) e p = absurd p
  lent_moves j differ z (reading i t) h = (
    h.0,
    as_was i
        (λ same. no_name h.3.frame h.3.name (watched_full (hold h.3.frame h.3.name) z h.3.holds) (same ∙ sym h.3.is))
        (no_parent i (whole h.0 t) h.1 (λ alike. cc)) ∙ h.1,
    as_was j differ (no_parent j watching h.2 (λ alike. cc)) ∙ h.2,
    watched_name i z h.3,
  )

  ended_core : Core types clock scope act held type under s m
  ended_core = record {
    forest = forest;
    top = core.top;
    root = core.root;
    trees = core.trees;
    shown = core.shown;
    once = λ id. let same = moved id in let once = core.once id in omega arith;
    rooted = rooted;
    names = names;
    lent = λ j n has there. let was = before j there in
        lent_moves j was.0 n.token n.via (core.lent j n has was.1);
    live = λ j n has loan' on. stay j (λ same.
        let mine : s j ≡ Some l = subst (λ i. s i ≡ Some l) same row in
        let alike : n ≡ l = cc in
        let off : scope n.token ≡ false = subst (λ (o : Loan). scope o.token ≡ false) (sym alike) closed in
        let wrong : true ≡ false = sym on ∙ off in
        cc) (core.live j n has loan' on);
    active = λ j n has loan' there. core.active j n has loan' (before j there).1;
    known = core.known;
    older = core.older;
    order = core.order;
    ticked = core.ticked;
    acted = core.acted;
    scoped = core.scoped;
  }

  pub ended : Ended types clock scope act hold type under s m core g l.token
  unfolding ended_core
  ended = record {
    frame = frame;
    name = x;
    was = source.whose.holds;
    after = ended_core;
    were = before;
    counts = λ id. moved id;
  }
