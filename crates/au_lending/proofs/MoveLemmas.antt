-- What is said of a root, of a loan and of a name goes over to another forest and another memory, where what it
-- speaks of is as it was.
use Rattle.std.proofs.Common.{◌≡◌, inl, inr, ℕ, ◌+◌, ◌≤◌, List, refl, sym, ap, subst, ◌∙◌, arith}
use Rattle.std.specs.Prelude.{Option, Some, None, drop}
use Rattle.au_effects.specs.Values.{Fields, Place, name_of, box, made}
use Rattle.au_places.specs.Memories.{Memory, held_at, later}
use Rattle.au_places.specs.Places.{Id, writer, cell_of, content_place, in_node, part_at}
use Rattle.au_types.specs.Types.{Meaning}
use Rattle.au_memory.specs.Trees.{Value, Tree, Trees}
use Rattle.au_memory.specs.Loans.{Types, Loan, Table, Grows, Via, named, lent_of, lent_through, part_of, reading}
use Rattle.au_memory.specs.Loans.{IsLoan, parent_of}
use Rattle.au_memory.specs.Shown.{Shows, ShowsAll}
use Rattle.au_memory.specs.Forests.{Held, Forest, Hold, Holds, Roots, Names, whole, all_lent, box_lent, parts_lent}
use Rattle.au_memory.specs.Forests.{watching, empty, ready, shut, watched, IsHere, IsPart, IsRooted, IsLent, IsFull}
use Rattle.au_memory.specs.Forests.{IsPartLent, IsWatched, IsWhole, IsNameRow, LendsAll, NameStands, Shuts, in_held}
use Rattle.au_memory.proofs.GrowthLemmas.{has_all_grows, has_grows, shows_all_grows, shows_grows}
use Rattle.au_places.proofs.PlaceLemmas.{node_self}

-- ---- places

-- the place of what a root holds itself, with how many of its first parts are lent
abbrev pub node_of : Held → Option (ℕ × Place)
node_of (whole to tree) = Some (0, to)
node_of (all_lent g) = None
node_of (box_lent to born g) = Some (0, to)
node_of (parts_lent to tag born g count rest) = Some (count, to)
node_of watching = None

pairs_same : {A B : Type 0} (a c : A) (b d : B) → ◌≡◌ {A = Option (A × B)} (Some (a, b)) (Some (c, d))
    → (a ≡ c) × (b ≡ d)
pairs_same {A} {B} a c b d e =
    let both : ◌≡◌ {A = A × B} (a, b) (c, d) = cc in (ap (λ q. q.0) both, ap (λ q. q.1) both)

pub node_counts : (id : Id) (h : Held) (count : ℕ) (to : Place) → node_of h ≡ Some (count, to)
    → in_node count id to ≤ in_held id h
node_counts id (whole at tree) count to e =
    let parts = pairs_same 0 count at to e in
    let same : count ≡ 0 = sym parts.0 in
    let there : at ≡ to = parts.1 in
    subst (λ n. in_node n id to ≤ in_held id (whole at tree)) (sym same)
    (subst (λ p. in_node 0 id p ≤ in_held id (whole at tree)) there (omega arith))
node_counts id (all_lent g) count to e = absurd cc
node_counts id (box_lent at born g) count to e =
    let parts = pairs_same 0 count at to e in
    let same : count ≡ 0 = sym parts.0 in
    let there : at ≡ to = parts.1 in
    subst (λ n. in_node n id to ≤ in_held id (box_lent at born g)) (sym same)
    (subst (λ p. in_node 0 id p ≤ in_held id (box_lent at born g)) there (omega arith))
node_counts id (parts_lent at tag born g n rest) count to e =
    let parts = pairs_same n count at to e in
    let same : n ≡ count = parts.0 in
    let there : at ≡ to = parts.1 in
    subst (λ c. in_node c id to ≤ in_held id (parts_lent at tag born g n rest)) same
    (subst (λ p. in_node n id p ≤ in_held id (parts_lent at tag born g n rest)) there (omega arith))
node_counts id watching count to e = absurd cc

-- ---- loans

pub lends_loan : (via : Via) (k : ℕ) → LendsAll via k → IsLoan via
lends_loan via k (inl e) = subst IsLoan (sym e) tt
lends_loan via k (inr pair) = subst IsLoan (sym pair.1) tt

-- what lends all of a root has it as its parent, and what has a parent is a loan
pub lends_parent : (via : Via) (k : ℕ) → LendsAll via k → parent_of via ≡ Some k
lends_parent via k (inl e) = ap parent_of e
lends_parent via k (inr pair) = ap parent_of pair.1

pub parent_loan : (via : Via) (k : ℕ) → parent_of via ≡ Some k → IsLoan via
parent_loan named k e = absurd cc
parent_loan (lent_of from) k e = tt
parent_loan (lent_through holder from) k e = tt
parent_loan (part_of from) k e = tt
parent_loan (reading from tree) k e = tt

pub shuts_loan : (via : Via) (r : ℕ) → Shuts via r → IsLoan via
shuts_loan named r h = absurd h
shuts_loan (lent_of k) r h = tt
shuts_loan (lent_through holder k) r h = tt
shuts_loan (part_of k) r h = tt
shuts_loan (reading k tree) r h = tt

module _ (types : Types) (s q : Table) (f e : Forest) (m n : Memory (List ℕ)) (grows : Grows s q) where
  -- the loans that came from a root, and those for which a name with a root waits, are here as they were
  abbrev pub Stays : ℕ → Type 0
  Stays k = (g : ℕ) (l : Loan) → s g ≡ Some l → parent_of l.via ≡ Some k → IsHere (f g) → IsHere (e g)

  abbrev pub Waits : ℕ → Type 0
  Waits r = (g : ℕ) (l : Loan) → s g ≡ Some l → Shuts l.via r → IsHere (f g) → IsHere (e g)

  -- ---- roots

  pub part_moves : (k y g : ℕ) (to : Place) (t : Meaning) → Stays k → IsPart types s f m k y g to t
      → IsPart types q e n k y g to t
  part_moves k y g to t stay part = record {
    row = part.row;
    has = grows.row g part.row part.has;
    of_token = part.of_token;
    at = part.at;
    typed = part.typed;
    from = part.from;
    is_open = stay g part.row part.has (ap parent_of part.from) part.is_open;
  }

  -- What stands at the place of a root that holds something itself stands there afterwards: the same, or a value of
  -- the same case, with the same fields but for those that are lent.
  pub record Parted (l : Loan) (count tag : ℕ) (born : Option ℕ) (parts : Fields (List ℕ)) : Type 0 where
    pub others : Fields (List ℕ)
    pub there : held_at n l.to ≡ Some (made tag born others)
    pub same : later count others ≡ later count parts

  pub root_goes : (k : ℕ) (l : Loan) (h : Held) → Stays k
      → (node_of h ≡ Some (0, l.to) → held_at n l.to ≡ held_at m l.to)
      → ((count : ℕ) → node_of h ≡ Some (count, l.to) → (tag : ℕ) (born : Option ℕ) (parts : Fields (List ℕ))
      → held_at m l.to ≡ Some (made tag born parts) → Parted l count tag born parts)
      → ((to : Place) (tree : Tree) (v : Value) → h ≡ whole to tree → Shows types s m v tree → Shows types s n v tree)
      → ((to : Place) (tag : ℕ) (born : Option ℕ) (g count : ℕ) (rest : Trees) (parts : Fields (List ℕ))
      → h ≡ parts_lent to tag born g count rest → ShowsAll types s m parts rest → ShowsAll types s n parts rest)
      → IsRooted types s f m k l h → IsRooted types q e n k l h
  root_goes k l (whole to tree) stay same parted shows others r =
      let at : node_of (whole to tree) ≡ Some (0, l.to) = ap (λ p. Some (0, p)) r.1 in
      let there = subst (λ p. held_at m p ≡ Some r.0) r.1 r.3 in (
        r.0,
        r.1,
        has_grows types s q grows tree l.type r.2,
        subst (λ p. held_at n p ≡ Some r.0) (sym r.1) (same at ∙ there),
        shows_grows types s q grows n tree r.0 (shows to tree r.0 refl r.4),
      )
  root_goes k l (all_lent g) stay same parted shows others r =
      (r.0, grows.row g r.0 r.1, r.2, r.3, r.4, stay g r.0 r.1 (lends_parent r.0.via k r.4) r.5)
  root_goes k l (box_lent to born g) stay same parted shows others r =
      let at : node_of (box_lent to born g) ≡ Some (0, l.to) = ap (λ p. Some (0, p)) r.1 in
      let there = subst (λ p. held_at m p ≡ Some (box born)) r.1 r.3 in (
        r.0,
        r.1,
        r.2,
        subst (λ p. held_at n p ≡ Some (box born)) (sym r.1) (same at ∙ there),
        part_moves k l.token g (content_place born) r.0 stay r.4,
      )
  root_goes k l (parts_lent to tag born g count rest) stay same parted shows others r =
      let at : node_of (parts_lent to tag born g count rest) ≡ Some (count, l.to) = ap (λ p. Some (count, p)) r.2 in
      let there = subst (λ p. held_at m p ≡ Some (made tag born r.1)) r.2 r.9 in
      let after = parted count at tag born r.1 there in
      let shown = others to tag born g count rest (later count r.1) refl r.8 in (
        r.0,
        after.others,
        r.2,
        r.3,
        r.4,
        r.5,
        r.6,
        has_all_grows types s q grows rest (drop count r.0) r.7,
        subst (λ fs. ShowsAll types q n fs rest) (sym after.same)
            (shows_all_grows types s q grows n rest (later count r.1) shown),
        subst (λ p. held_at n p ≡ Some (made tag born after.others)) (sym r.2) after.there,
        λ j t less at2. part_moves k l.token (g + j) (part_at j to) t stay (r.10 j t less at2),
      )
  root_goes k l watching stay same parted shows others r =
      (r.0, r.1, r.2, has_grows types s q grows r.1 l.type r.3, (r.4.0, grows.row r.0 r.4.0 r.4.1, r.4.2))

  -- the same where the place stands as it did
  pub root_moves : (k : ℕ) (l : Loan) (h : Held) → Stays k → (1 ≤ in_held (cell_of l.to) h → held_at n l.to ≡ held_at m l.to)
      → ((to : Place) (tree : Tree) (v : Value) → h ≡ whole to tree → Shows types s m v tree → Shows types s n v tree)
      → ((to : Place) (tag : ℕ) (born : Option ℕ) (g count : ℕ) (rest : Trees) (parts : Fields (List ℕ))
      → h ≡ parts_lent to tag born g count rest → ShowsAll types s m parts rest → ShowsAll types s n parts rest)
      → IsRooted types s f m k l h → IsRooted types q e n k l h
  root_moves k l h stay same shows others r =
      root_goes k l h stay (λ at. same (node_some 0 at))
      (λ count at tag born parts there. record {
        others = parts;
        there = same (node_some count at) ∙ there;
        same = refl;
      }) shows others r
    where
      node_some : (count : ℕ) → node_of h ≡ Some (count, l.to) → 1 ≤ in_held (cell_of l.to) h
      node_some count at =
          let most = node_counts (cell_of l.to) h count l.to at in
          let own = node_self l.to count in
          omega arith

  -- ---- names

  row_moves : (g frame x : ℕ) (t : Meaning) → IsNameRow s g frame x t → IsNameRow q g frame x t
  row_moves g frame x t row = record {
    row = row.row;
    has = grows.row g row.row row.has;
    is_named = row.is_named;
    at = row.at;
    typed = row.typed;
  }

  pub name_moves : (root other : Roots) (frame x : ℕ) (t : Meaning) (h : Hold) → Waits (root frame x)
      → other frame x ≡ root frame x
      → (h ≡ empty → n.at (name_of frame x) ≡ m.at (name_of frame x))
      → (IsNameRow s (root frame x) frame x t → IsWhole (f (root frame x)) → IsWhole (e (root frame x)))
      → NameStands types s f m root frame x t h → NameStands types q e n other frame x t h
  name_moves root other frame x t empty waits is same keeps stands = same refl ∙ stands
  name_moves root other frame x t ready waits is same keeps stands =
      subst (λ g. IsNameRow q g frame x t × IsWhole (e g)) (sym is)
      (row_moves (root frame x) frame x t stands.0, keeps stands.0 stands.1)
  name_moves root other frame x t (shut z) waits is same keeps stands =
      let w = stands.1 in
      subst
      (λ r. IsNameRow q r frame x t
      × ((g : ℕ) × (l : Loan) × (q g ≡ Some l) × (l.token ≡ z) × IsHere (e g) × Shuts l.via r))
      (sym is) (
        row_moves (root frame x) frame x t stands.0,
        (w.0, w.1, grows.row w.0 w.1 w.2, w.3, waits w.0 w.1 w.2 w.5 w.4, w.5),
      )
  name_moves root other frame x t (watched tokens) waits is same keeps stands =
      subst (λ g. IsNameRow q g frame x t × IsWhole (e g)) (sym is)
      (row_moves (root frame x) frame x t stands.0, keeps stands.0 stands.1)

-- ---- loans that are here

-- a part is lent where its parent's root is as it was
pub part_stays : (g : ℕ) (o p : Option Held) → p ≡ o → IsPartLent g o → IsPartLent g p
part_stays g o p same h = subst (IsPartLent g) (sym same) h

module _ (f e : Forest) (hold held : Holds) (root other : Roots) (count after : Id → ℕ) where
  -- what is said of a loan rests on these: of names, that each that is shut, watched, or full with this root stays so;
  -- of roots, that what is lent stays lent, and what is seen, or holds the reference that is lent through, stays
  pub record Keeps (g : ℕ) : Type 0 where
    pub shuts : (frame x z : ℕ) → hold frame x ≡ shut z → (held frame x ≡ shut z) × (other frame x ≡ root frame x)
    pub watches : (frame x z : ℕ) → IsWatched z (hold frame x)
        → IsWatched z (held frame x) × (other frame x ≡ root frame x)
    pub fulls : (frame x : ℕ) → root frame x ≡ g → IsFull (hold frame x)
        → IsFull (held frame x) × (other frame x ≡ root frame x)
    pub lents : (k j : ℕ) → f k ≡ Some (all_lent j) → e k ≡ f k
    pub parts : (k : ℕ) → IsPartLent g (f k) → IsPartLent g (e k)
    pub holders : (k z : ℕ) → Names hold root k (λ h. h ≡ shut z) → e k ≡ f k
    pub seen : (k z : ℕ) → Names hold root k (IsWatched z) → e k ≡ f k
    pub own : f g ≡ Some watching → e g ≡ f g
    pub counts : (k : ℕ) → IsPartLent g (f k) → after (writer k) ≤ count (writer k)

  module _ (g : ℕ) (keeps : Keeps g) where
    shut_name : (k z : ℕ) → Names hold root k (λ h. h ≡ shut z) → Names held other k (λ h. h ≡ shut z)
    shut_name k z whose =
        let both = keeps.shuts whose.frame whose.name z whose.holds in
        record { frame = whose.frame; name = whose.name; is = both.1 ∙ whose.is; holds = both.0 }

    watched_name : (k z : ℕ) → Names hold root k (IsWatched z) → Names held other k (IsWatched z)
    watched_name k z whose =
        let both = keeps.watches whose.frame whose.name z whose.holds in
        record { frame = whose.frame; name = whose.name; is = both.1 ∙ whose.is; holds = both.0 }

    full_name : Names hold root g IsFull → Names held other g IsFull
    full_name whose =
        let both = keeps.fulls whose.frame whose.name whose.is whose.holds in
        record { frame = whose.frame; name = whose.name; is = both.1 ∙ whose.is; holds = both.0 }

    pub lent_moves : (z : ℕ) (via : Via) → IsLent f hold root count g z via → IsLent e held other after g z via
    lent_moves z named h = full_name h
    lent_moves z (lent_of k) h = (keeps.lents k g h.0 ∙ h.0, shut_name k z h.1)
    lent_moves z (lent_through holder k) h =
        (h.0, keeps.holders holder z h.3 ∙ h.1, keeps.lents k g h.2 ∙ h.2, shut_name holder z h.3)
    lent_moves z (part_of k) h =
        let fewer = keeps.counts k h.0 in
        let none = h.1 in
        (keeps.parts k h.0, omega arith)
    lent_moves z (reading k tree) h =
        (h.0, keeps.seen k z h.3 ∙ h.1, keeps.own h.2 ∙ h.2, watched_name k z h.3)
