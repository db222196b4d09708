-- A name that is empty takes the newest value under way.
use Rattle.std.proofs.Common.{◌≡◌, ◌⊎◌, inl, inr, ℕ, zero, suc, ◌+◌, ◌≤◌, ◌<◌, Bool, true, false, List, []}
use Rattle.std.proofs.Common.{◌∷◌, refl, sym, ap, subst, ◌∙◌, arith, if◌then◌else◌}
use Rattle.std.specs.Prelude.{Option, Some, None}
use Rattle.std.proofs.lemmas.Bool.{cases_eq, eq-eqb, ne_eqb}
use Rattle.au_effects.specs.Parts.{along, part}
use Rattle.au_effects.specs.References.{name_along}
use Rattle.au_effects.specs.Values.{Base, Place, box, made, name_of}
use Rattle.au_places.specs.Memories.{Memory, held_at, with_base}
use Rattle.au_places.specs.Places.{Id, birth, cell, writer, cell_of, covers, in_node, in_place, same_base}
use Rattle.au_places.proofs.MemoryLemmas.{all_held, base_other, base_self}
use Rattle.au_places.proofs.PlaceLemmas.{base_is, node_most, self_base}
use Rattle.au_types.specs.Types.{Meaning}
use Rattle.au_memory.specs.Trees.{Value, Tree}
use Rattle.au_memory.specs.Loans.{Types, Loan, Table, Grows, IsLoan}
use Rattle.au_memory.specs.Shown.{Shows, Has}
use Rattle.au_memory.specs.Forests.{Held, Forest, Holds, Made, Names, Roots, Core, AreShown, whole, all_lent}
use Rattle.au_memory.specs.Forests.{box_lent, parts_lent, watching, empty, ready, with_root, in_root, in_forest}
use Rattle.au_memory.specs.Forests.{in_list, in_held, IsFull, IsHere, IsLent, IsNameRow, IsPartLent, IsRooted, IsWatched}
use Rattle.au_memory.specs.Forests.{IsWhole, NameStands}
use Rattle.au_memory.proofs.CountLemmas.{no_name, no_names}
use Rattle.au_memory.proofs.FrameLemmas.{shows_all_base, shows_base}
use Rattle.au_memory.proofs.GrowthLemmas.{has_grows, shows_grows}
use Rattle.au_memory.proofs.TotalLemmas.{root_other, root_self, total_out}
use Rattle.au_memory.proofs.UsableLemmas.{root_below}
use Rattle.au_lending.specs.Holding.{name_row, with_hold, with_name, with_row}
use Rattle.au_lending.specs.Laws.{Filled}
use Rattle.au_lending.proofs.MentionLemmas.{shown_without}
use Rattle.au_lending.proofs.MoveLemmas.{Keeps, lent_moves, name_moves, parent_loan, root_moves, shuts_loan}
use Rattle.au_lending.proofs.MoveLemmas.{part_stays}
use Rattle.au_lending.proofs.RowLemmas.{row_of, same_names, watched_full}

-- ---- tables with one more row

pub row_self : (g : ℕ) (l : Loan) (s : Table) → with_row g l s g ≡ Some l
row_self g l s = rw (eq-eqb g g refl)

pub row_other : (g k : ℕ) (l : Loan) (s : Table) → (g ≡ k → ⊥) → with_row g l s k ≡ s k
row_other g k l s differ = rw (ne_eqb g k differ)

pub row_grows : (g : ℕ) (l : Loan) (s : Table) → s g ≡ None → Grows s (with_row g l s)
row_grows g l s none = record {
  row = λ k n has. row_other g k l s (λ same.
      let there : s g ≡ Some n = subst (λ j. s j ≡ Some n) (sym same) has in
      let wrong : None ≡ Some n = sym none ∙ there in
      cc) ∙ has;
}

pub shown_grows : (types : Types) (s q : Table) (grows : Grows s q) (m : Memory (List ℕ)) (vs : Made) (ts : List Tree)
    → AreShown types s m vs ts → AreShown types q m vs ts
shown_grows types s q grows m [] [] h = h
shown_grows types s q grows m [] (t ∷ ts) h = h
shown_grows types s q grows m (v ∷ vs) [] h = h
shown_grows types s q grows m (v ∷ vs) (t ∷ ts) h = (
  shows_grows types s q grows m t v.0 h.0,
  has_grows types s q grows t v.1 h.1,
  shown_grows types s q grows m vs ts h.2,
)

-- ---- roots that count nothing

pub total_none : (id : Id) (n : ℕ) (f : Forest) → ((k : ℕ) → k < n → in_root id (f k) ≡ 0) → in_forest id n f ≡ 0
total_none id zero f h = refl
total_none id (suc n) f h =
    let own = h n (omega arith) in
    let rest = total_none id n f (λ k below. h k (omega arith)) in
    omega arith

-- values under way, taken apart
pub first_shown : (types : Types) (s : Table) (m : Memory (List ℕ)) (v : Value) (t : Meaning) (vs : Made) (ts : List Tree)
    → AreShown types s m ((v, t) ∷ vs) ts
    → (tree : Tree) × (rest : List Tree) × (ts ≡ tree ∷ rest) × Shows types s m v tree × Has types s tree t
    × AreShown types s m vs rest
first_shown types s m v t vs [] h = absurd h
first_shown types s m v t vs (tree ∷ rest) h = (tree, rest, refl, h.0, h.1, h.2)

module _ (types : Types) (clock : ℕ) (scope act : ℕ → Bool) (hold : Holds) (type : ℕ → ℕ → Meaning)
    (v : Value) (t : Meaning) (under : Made) (s : Table) (m : Memory (List ℕ))
    (core : Core types clock scope act hold type ((v, t) ∷ under) s m) (frame x : ℕ) (is : hold frame x ≡ empty) where
  nothing : m.at (name_of frame x) ≡ None
  nothing = subst (λ h. NameStands types s core.forest m core.root frame x (type frame x) h) is (core.names frame x)

  first : (tree : Tree) × (rest : List Tree) × (core.trees ≡ tree ∷ rest) × Shows types s m v tree × Has types s tree t
      × AreShown types s m under rest
  first = first_shown types s m v t under core.trees core.shown

  abbrev own : Held
  own = whole (name_along frame x []) first.0

  abbrev forest : Forest
  forest = with_root core.top (Some own) core.forest

  abbrev table : Table
  table = with_row core.top (name_row frame x t) s

  abbrev after : Memory (List ℕ)
  after = with_base (name_of frame x) (Some v) m

  abbrev held : Holds
  held = with_hold frame x ready hold

  abbrev root : Roots
  root = with_name frame x core.top core.root

  abbrev of : ℕ → ℕ → Meaning
  of = with_name frame x t type

  grows : Grows s table
  grows = row_grows core.top (name_row frame x t) s (core.known core.top (omega arith))

  old_root : (k : ℕ) (h : Held) → core.forest k ≡ Some h → core.top ≡ k → ⊥
  old_root k h e same =
      let below = root_below types clock scope act hold type ((v, t) ∷ under) s m core k h e in omega arith

  -- a row is that of the name, or an old one
  row_cases : (k : ℕ) (l : Loan) → table k ≡ Some l
      → ((core.top ≡ k) × (name_row frame x t ≡ l)) ⊎ ((core.top ≡ k → ⊥) × (s k ≡ Some l))
  row_cases k l row = by (cases_eq core.top k)
    where
      by : (core.top ≡ k) ⊎ (core.top ≡ k → ⊥)
          → ((core.top ≡ k) × (name_row frame x t ≡ l)) ⊎ ((core.top ≡ k → ⊥) × (s k ≡ Some l))
      by (inl same) =
          let there : table k ≡ Some (name_row frame x t) =
          subst (λ j. table j ≡ Some (name_row frame x t)) same (row_self core.top (name_row frame x t) s) in
          let alike : name_row frame x t ≡ l = cc in
          inl (same, alike)
      by (inr differ) = inr (differ, sym (row_other core.top k (name_row frame x t) s differ) ∙ row)

  old_row : (k : ℕ) (l : Loan) → table k ≡ Some l → IsLoan l.via → (core.top ≡ k → ⊥) × (s k ≡ Some l)
  old_row k l row loan = by (row_cases k l row)
    where
      by : ((core.top ≡ k) × (name_row frame x t ≡ l)) ⊎ ((core.top ≡ k → ⊥) × (s k ≡ Some l))
          → (core.top ≡ k → ⊥) × (s k ≡ Some l)
      by (inl both) = absurd (subst (λ (n : Loan). IsLoan n.via) (sym both.1) loan)
      by (inr both) = both

  -- ---- no place is the name's

  gone : (to : Place) (w : Value) → same_base (name_of frame x) to.base ≡ true → held_at m to ≡ Some w → ⊥
  gone to w e there =
      let none : m.at to.base ≡ None = subst (λ b. m.at b ≡ None) (base_is (name_of frame x) to.base e) nothing in
      let wrong : along None (part to.path) ≡ Some w = subst (λ o. along o (part to.path) ≡ Some w) none there in
      cc

  no_place : (to : Place) (n : ℕ) (p : List ℕ) (w : Value) → held_at m to ≡ Some w → in_node n (cell (name_of frame x) p) to ≡ 0
  no_place to n p w there = by (same_base to.base (name_of frame x)) refl
    where
      by : (b : Bool) → same_base to.base (name_of frame x) ≡ b → (if b then covers n to.path p else 0) ≡ 0
      by true e =
          absurd (gone to w (subst (λ (c : Base). same_base (name_of frame x) c ≡ true)
          (sym (base_is to.base (name_of frame x) e)) (self_base (name_of frame x))) there)
      by false e = refl

  no_root : (k : ℕ) (l : Loan) (h : Held) (p : List ℕ) → IsRooted types s core.forest m k l h
      → in_held (cell (name_of frame x) p) h ≡ 0
  no_root k l (whole to tree) p r =
      let place = no_place to 0 p r.0 r.3 in
      let none = no_name frame x p tree in
      omega arith
  no_root k l (all_lent g) p r = refl
  no_root k l (box_lent to born g) p r = let place = no_place to 0 p (box born) r.3 in omega arith
  no_root k l (parts_lent to tag born g n rest) p r =
      let place = no_place to n p (made tag born r.1) r.9 in
      let none = no_names frame x p rest in
      omega arith
  no_root k l watching p r = refl

  no_held : (p : List ℕ) (k : ℕ) (o : Option Held) → core.forest k ≡ o → in_root (cell (name_of frame x) p) o ≡ 0
  no_held p k None e = refl
  no_held p k (Some h) e = let r = core.rooted k h e in no_root k r.0 h p r.2

  no_tree : (p : List ℕ) (ts : List Tree) → in_list (cell (name_of frame x) p) ts ≡ 0
  no_tree p [] = refl
  no_tree p (one ∷ ts) = let none = no_name frame x p one in let rest = no_tree p ts in omega arith

  unused : (p : List ℕ) → in_forest (cell (name_of frame x) p) core.top core.forest
      + in_list (cell (name_of frame x) p) core.trees ≡ 0
  unused p =
      let roots = total_none (cell (name_of frame x) p) core.top core.forest
      (λ k below. no_held p k (core.forest k) refl) in
      let ts = no_tree p core.trees in
      omega arith

  -- ---- counts

  moved : (id : Id) → in_forest id (suc core.top) forest + in_list id first.1
      ≡ (in_forest id core.top core.forest + in_list id core.trees) + in_place id (name_along frame x [])
  moved id =
      let out = total_out id core.top core.top (Some own) core.forest (omega arith) in
      let self = ap (in_root id) (root_self core.top (Some own) core.forest) in
      let ts = ap (in_list id) first.2 in
      omega arith

  once : (id : Id) → in_forest id (suc core.top) forest + in_list id first.1 ≤ 1
  once (birth i) = let all = moved (birth i) in let old = core.once (birth i) in omega arith
  once (writer g) = let all = moved (writer g) in let old = core.once (writer g) in omega arith
  once (cell base p) = by (same_base (name_of frame x) base) refl
    where
      by : (b : Bool) → same_base (name_of frame x) base ≡ b
          → in_forest (cell base p) (suc core.top) forest + in_list (cell base p) first.1 ≤ 1
      by true e =
          let all = moved (cell base p) in
          let most = node_most (cell base p) (name_along frame x []) 0 in
          let none : in_forest (cell base p) core.top core.forest + in_list (cell base p) core.trees ≡ 0 =
          subst (λ b. in_forest (cell b p) core.top core.forest + in_list (cell b p) core.trees ≡ 0)
          (base_is (name_of frame x) base e) (unused p) in
          omega arith
      by false e =
          let all = moved (cell base p) in
          let none : in_place (cell base p) (name_along frame x []) ≡ 0 = rw e in
          let old = core.once (cell base p) in
          omega arith

  -- ---- roots

  stay : (g : ℕ) (l : Loan) → s g ≡ Some l → IsLoan l.via → IsHere (core.forest g) → IsHere (forest g)
  stay g l row loan here =
      subst IsHere (sym (root_other core.top g (Some own) core.forest (λ same.
      let none = core.known g (omega arith) in
      let wrong : None ≡ Some l = sym none ∙ row in
      cc))) here

  there_of : (k : ℕ) (l : Loan) (h : Held) → IsRooted types s core.forest m k l h → 1 ≤ in_held (cell_of l.to) h
      → (w : Value) × (held_at m l.to ≡ Some w)
  there_of k l (whole to tree) r some = (r.0, subst (λ p. held_at m p ≡ Some r.0) r.1 r.3)
  there_of k l (all_lent g) r some = absurd (omega arith)
  there_of k l (box_lent to born g) r some = (box born, subst (λ p. held_at m p ≡ Some (box born)) r.1 r.3)
  there_of k l (parts_lent to tag born g n rest) r some =
      (made tag born r.1, subst (λ p. held_at m p ≡ Some (made tag born r.1)) r.2 r.9)
  there_of k l watching r some = absurd (omega arith)

  apart : (to : Place) (w : Value) → held_at m to ≡ Some w → same_base (name_of frame x) to.base ≡ false
  apart to w there = by (same_base (name_of frame x) to.base) refl
    where
      by : (b : Bool) → same_base (name_of frame x) to.base ≡ b → b ≡ false
      by true e = absurd (gone to w e there)
      by false e = refl

  same_place : (k : ℕ) (l : Loan) (h : Held) → IsRooted types s core.forest m k l h → 1 ≤ in_held (cell_of l.to) h
      → held_at after l.to ≡ held_at m l.to
  same_place k l h r some =
      let there = there_of k l h r some in
      ap (λ o. along o (part l.to.path))
      (base_other m (name_of frame x) l.to.base (Some v) (apart l.to there.0 there.1))

  new_root : (l : Loan) × (table core.top ≡ Some l) × IsRooted types table forest after core.top l own
  new_root = (
    name_row frame x t,
    row_self core.top (name_row frame x t) s,
    (
      v,
      refl,
      has_grows types s table grows first.0 t first.4,
      all_held after (name_of frame x) ∙ base_self m (name_of frame x) (Some v),
      shows_grows types s table grows after first.0 v
          (shows_base types s m (name_of frame x) (Some v) first.0 v (no_name frame x [] first.0) first.3),
    ),
  )

  rooted : (k : ℕ) (h : Held) → forest k ≡ Some h → (l : Loan) × (table k ≡ Some l) × IsRooted types table forest after k l h
  rooted k h e = by (cases_eq core.top k)
    where
      by : (core.top ≡ k) ⊎ (core.top ≡ k → ⊥) → (l : Loan) × (table k ≡ Some l) × IsRooted types table forest after k l h
      by (inl same) =
          let there : forest k ≡ Some own = subst (λ j. forest j ≡ Some own) same (root_self core.top (Some own) core.forest) in
          let alike : own ≡ h = cc in
          subst (λ j. (l : Loan) × (table j ≡ Some l) × IsRooted types table forest after j l h) same
          (subst (λ g. (l : Loan) × (table core.top ≡ Some l) × IsRooted types table forest after core.top l g) alike new_root)
      by (inr differ) =
          let old : core.forest k ≡ Some h = sym (root_other core.top k (Some own) core.forest differ) ∙ e in
          let r = core.rooted k h old in (
            r.0,
            grows.row k r.0 r.1,
            root_moves types s table core.forest forest m after grows k r.0 h
                (λ g l has from here. stay g l has (parent_loan l.via k from) here)
                (λ some. same_place k r.0 h r.2 some)
                (λ to tree w eq shown. shows_base types s m (name_of frame x) (Some v) tree w (no_name frame x [] tree) shown)
                (λ to tag born g count rest parts eq shown.
                shows_all_base types s m (name_of frame x) (Some v) rest parts (no_names frame x [] rest) shown)
                r.2,
          )

  -- ---- names

  fresh : (a y : ℕ) → IsNameRow s (core.root a y) a y (type a y) → core.top ≡ core.root a y → ⊥
  fresh a y row same =
      let none = core.known (core.root a y) (omega arith) in
      let wrong : None ≡ Some row.row = sym none ∙ row.has in
      cc

  own_name : IsNameRow table core.top frame x t
  own_name = record {
    row = name_row frame x t;
    has = row_self core.top (name_row frame x t) s;
    is_named = refl;
    at = refl;
    typed = refl;
  }

  names : (a y : ℕ) → NameStands types table forest after root a y (of a y) (held a y)
  names a y = by (same_base (name_of frame x) (name_of a y)) refl
    where
      by : (b : Bool) → (e : same_base (name_of frame x) (name_of a y) ≡ b)
          → NameStands types table forest after root a y (of a y) (if b then ready else hold a y)
      by true e =
          let both = same_names frame x a y e in
          let at : root a y ≡ core.top = rw e in
          let typed : of a y ≡ t = rw e in
          let row : IsNameRow table core.top a y t =
          subst (λ b. IsNameRow table core.top b y t) both.0
          (subst (λ z. IsNameRow table core.top frame z t) both.1 own_name) in
          subst (λ g. IsNameRow table g a y (of a y) × IsWhole (forest g)) (sym at) (
            subst (λ u. IsNameRow table core.top a y u) (sym typed) row,
            (name_along frame x [], first.0, root_self core.top (Some own) core.forest),
          )
      by false e =
          let at : root a y ≡ core.root a y = rw e in
          let typed : of a y ≡ type a y = rw e in
          subst (λ u. NameStands types table forest after root a y u (hold a y)) (sym typed)
          (name_moves types s table core.forest forest m after grows core.root root a y (type a y) (hold a y)
          (λ g l has shuts here. stay g l has (shuts_loan l.via (core.root a y) shuts) here) at
          (λ none. base_other m (name_of frame x) (name_of a y) (Some v) e)
          (λ row w. (w.0, w.1, root_other core.top (core.root a y) (Some own) core.forest (fresh a y row) ∙ w.2))
          (core.names a y))

  -- ---- loans

  another : (a y : ℕ) → IsFull (hold a y) → same_base (name_of frame x) (name_of a y) ≡ false
  another a y full = by (same_base (name_of frame x) (name_of a y)) refl
    where
      by : (b : Bool) → same_base (name_of frame x) (name_of a y) ≡ b → b ≡ false
      by true e =
          let both = same_names frame x a y e in
          let none : hold a y ≡ empty =
          subst (λ b. hold b y ≡ empty) both.0 (subst (λ z. hold frame z ≡ empty) both.1 is) in
          absurd (subst IsFull none full)
      by false e = refl

  stays : (a y : ℕ) → IsFull (hold a y) → (held a y ≡ hold a y) × (root a y ≡ core.root a y)
  stays a y full = let e = another a y full in (rw e, rw e)

  keeps : (g : ℕ) → (core.top ≡ g → ⊥)
      → Keeps core.forest forest hold held core.root root
      (λ id. in_forest id core.top core.forest + in_list id core.trees)
      (λ id. in_forest id (suc core.top) forest + in_list id first.1) g
  keeps g differ = record {
    shuts = λ a y z e. let both = stays a y (subst IsFull (sym e) tt) in (both.0 ∙ e, both.1);
    watches = λ a y z w.
        let both = stays a y (watched_full (hold a y) z w) in (subst (IsWatched z) (sym both.0) w, both.1);
    fulls = λ a y at full. let both = stays a y full in (subst IsFull (sym both.0) full, both.1);
    lents = λ k j e. root_other core.top k (Some own) core.forest (old_root k (all_lent j) e);
    parts = λ k h.
        part_stays g (core.forest k) (forest k) (root_other core.top k (Some own) core.forest (λ same. no_part k h same)) h;
    holders = λ k z whose. root_other core.top k (Some own) core.forest (λ same.
        fresh whose.frame whose.name
        (row_of types clock scope act hold type ((v, t) ∷ under) s m core whose.frame whose.name
        (subst IsFull (sym whose.holds) tt)) (same ∙ sym whose.is));
    seen = λ k z whose. root_other core.top k (Some own) core.forest (λ same.
        fresh whose.frame whose.name
        (row_of types clock scope act hold type ((v, t) ∷ under) s m core whose.frame whose.name
        (watched_full (hold whose.frame whose.name) z whose.holds)) (same ∙ sym whose.is));
    own = λ seen. root_other core.top g (Some own) core.forest differ;
    counts = λ k part. let all = moved (writer k) in omega arith;
  }
    where
      no_part : (k : ℕ) → IsPartLent g (core.forest k) → core.top ≡ k → ⊥
      no_part k h same = by (core.forest k) refl h
        where
          by : (o : Option Held) → core.forest k ≡ o → IsPartLent g o → ⊥
          by None e h = h
          by (Some one) e h = old_root k one e same

  -- a root that is here and isn't the name's was here before
  here_before : (g : ℕ) → (core.top ≡ g → ⊥) → IsHere (forest g) → IsHere (core.forest g)
  here_before g differ here = subst IsHere (root_other core.top g (Some own) core.forest differ) here

  own_lent : Names held root core.top IsFull
  own_lent = record {
    frame = frame;
    name = x;
    is = rw (self_base (name_of frame x));
    holds = subst IsFull (let e : held frame x ≡ ready = rw (self_base (name_of frame x)) in sym e) tt;
  }

  lent : (g : ℕ) (l : Loan) → table g ≡ Some l → IsHere (forest g)
      → IsLent forest held root (λ id. in_forest id (suc core.top) forest + in_list id first.1) g l.token l.via
  lent g l row here = by (row_cases g l row)
    where
      by : ((core.top ≡ g) × (name_row frame x t ≡ l)) ⊎ ((core.top ≡ g → ⊥) × (s g ≡ Some l))
          → IsLent forest held root (λ id. in_forest id (suc core.top) forest + in_list id first.1) g l.token l.via
      by (inl both) =
          subst (λ (n : Loan). IsLent forest held root
          (λ id. in_forest id (suc core.top) forest + in_list id first.1) g n.token n.via) both.1
          (subst (λ j. Names held root j IsFull) both.0 own_lent)
      by (inr both) =
          lent_moves core.forest forest hold held core.root root
          (λ id. in_forest id core.top core.forest + in_list id core.trees)
          (λ id. in_forest id (suc core.top) forest + in_list id first.1) g (keeps g both.0) l.token l.via
          (core.lent g l both.1 (here_before g both.0 here))

  ticked : (g : ℕ) (l : Loan) → table g ≡ Some l → l.token ≤ clock
  ticked g l row = by (row_cases g l row)
    where
      by : ((core.top ≡ g) × (name_row frame x t ≡ l)) ⊎ ((core.top ≡ g → ⊥) × (s g ≡ Some l)) → l.token ≤ clock
      by (inl both) = subst (λ (n : Loan). n.token ≤ clock) both.1 (omega arith)
      by (inr both) = core.ticked g l both.1

  filled_core : Core types clock scope act held of under table after
  filled_core = record {
    forest = forest;
    top = suc core.top;
    root = root;
    trees = first.1;
    shown = shown_grows types s table grows after under first.1 (shown_without types s m frame x (Some v) under first.1 first.5);
    once = once;
    rooted = rooted;
    names = names;
    lent = lent;
    live = λ g l row loan scoped. let old = old_row g l row loan in stay g l old.1 loan (core.live g l old.1 loan scoped);
    active = λ g l row loan here.
        let old = old_row g l row loan in core.active g l old.1 loan (here_before g old.0 here);
    known = λ k above. row_other core.top k (name_row frame x t) s (λ same. omega arith) ∙ core.known k (omega arith);
    older = λ g l k row from.
        let old = old_row g l row (parent_loan l.via k from) in core.older g l k old.1 from;
    order = λ g l k n row from has loan.
        let old = old_row g l row (parent_loan l.via k from) in
        let parent = old_row k n has loan in
        core.order g l k n old.1 from parent.1 loan;
    ticked = ticked;
    acted = core.acted;
    scoped = core.scoped;
  }

  pub filled : Filled types clock scope act hold type v t under s m core frame x
  unfolding filled_core first
  filled = record { after = filled_core; counts = λ id. moved id }
