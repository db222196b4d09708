-- The reference to a loan that lies in a name is used, and lent again.
use Rattle.std.proofs.Common.{◌≡◌, ◌⊎◌, inl, inr, ℕ, ◌≤◌, ◌<◌, Bool, true, List, []}
use Rattle.std.proofs.Common.{refl, sym, ap, subst, ◌∙◌, arith}
use Rattle.std.specs.Prelude.{Some}
use Rattle.std.proofs.lemmas.Bool.{cases_eq}
use Rattle.au_effects.specs.References.{name_along}
use Rattle.au_effects.specs.Values.{Place, name_of, reference}
use Rattle.au_places.specs.Memories.{Memory}
use Rattle.au_places.specs.Places.{writer}
use Rattle.au_running_types.specs.Running.{token}
use Rattle.au_types.specs.Types as meaning
use Rattle.au_types.specs.Types.{Meaning}
use Rattle.au_memory.specs.Trees.{a_writer}
use Rattle.au_memory.specs.Loans.{Types, Loan, Table, lent_through, IsWriter}
use Rattle.au_memory.specs.Shown.{Shows, Has, AreDeclared}
use Rattle.au_memory.specs.Forests.{Holds, Made, Names, Core, whole, ready, shut, in_root}
use Rattle.au_memory.specs.Forests.{IsFull, IsNameRow, IsWhole, Usable}
use Rattle.au_memory.proofs.CountLemmas.{writer_in}
use Rattle.au_memory.proofs.FormLemmas.{IsWriterOf, writer_form}
use Rattle.au_memory.proofs.TotalLemmas.{total_has, total_two}
use Rattle.au_memory.proofs.UsableLemmas.{root_below, usable_if, writer_is_loan}
use Rattle.au_lending.specs.Laws.{IsReadable, LendsAgain}
use Rattle.au_lending.proofs.LendLemmas.{lent_all}
use Rattle.au_lending.proofs.LookLemmas.{readable_full, readable_stands}
use Rattle.au_lending.proofs.RowLemmas.{Found, find, no_loan, one_root, row_of, same_names}

module _ (types : Types) (forms : AreDeclared types) (clock : ℕ) (scope act : ℕ → Bool) (hold : Holds)
    (type : ℕ → ℕ → Meaning) (under : Made) (s : Table) (m : Memory (List ℕ))
    (core : Core types clock scope act hold type under s m) (frame x : ℕ) (t : Meaning) (y : ℕ)
    (looks : IsReadable (hold frame x)) (typed : type frame x ≡ meaning.writes t (token y)) (scoped : scope y ≡ true)
  where
    full : IsFull (hold frame x)
    full = readable_full (hold frame x) looks

    stands : IsNameRow s (core.root frame x) frame x (type frame x) × IsWhole (core.forest (core.root frame x))
    stands = readable_stands types s core.forest m core.root frame x (type frame x) (hold frame x) looks
        (core.names frame x)

    found : Found types clock scope act hold type under s m core frame x
    found = find types clock scope act hold type under s m core frame x stands.0 stands.1

    form : IsWriterOf types forms s found.tree t (token y)
    form = writer_form types forms s found.tree t (token y) (subst (λ u. Has types s found.tree u) typed found.typed)

    abbrev k : ℕ
    k = form.loan

    abbrev lk : Loan
    lk = form.row

    of_token : y ≡ lk.token
    of_token = let e = form.typed in cc

    of_type : lk.type ≡ t
    of_type = let e = form.typed in cc

    holder : core.forest (core.root frame x) ≡ Some (whole (name_along frame x []) (a_writer k))
    holder = found.here ∙ ap (λ tree. Some (whole (name_along frame x []) tree)) form.is

    below : core.root frame x < core.top
    below = root_below types clock scope act hold type under s m core (core.root frame x)
        (whole (name_along frame x []) (a_writer k)) holder

    -- the root of a name isn't that of the loan
    other_root : (a w : ℕ) → IsFull (hold a w) → core.root a w ≡ k → ⊥
    other_root a w there same =
        no_loan s k a w (type a w) lk
        (subst (λ g. IsNameRow s g a w (type a w)) same
        (row_of types clock scope act hold type under s m core a w there)) form.has (writer_is_loan lk.via form.writes)

    -- the reference lies in no name that is shut
    open_held : (j y2 : ℕ) (to : Place) → core.forest j ≡ Some (whole to (a_writer k))
        → Names hold core.root j (λ h. h ≡ shut y2) → ⊥
    open_held j y2 to e whose = by (cases_eq j (core.root frame x))
      where
        by : (j ≡ core.root frame x) ⊎ (j ≡ core.root frame x → ⊥) → ⊥
        by (inl same) =
            let there : IsFull (hold whose.frame whose.name) = subst IsFull (sym whose.holds) tt in
            let one = one_root types clock scope act hold type under s m core frame x whose.frame whose.name full there
            (sym (whose.is ∙ same)) in
            let both = same_names frame x whose.frame whose.name one in
            let still : IsReadable (hold whose.frame whose.name) =
            subst (λ a. IsReadable (hold a whose.name)) both.0
            (subst (λ w. IsReadable (hold frame w)) both.1 looks) in
            subst IsReadable whose.holds still
        by (inr differ) =
            let two = total_two (writer k) core.top (core.root frame x) j core.forest differ below
            (root_below types clock scope act hold type under s m core j (whole to (a_writer k)) e) in
            let first = ap (in_root (writer k)) holder in
            let second = ap (in_root (writer k)) e in
            let own = writer_in k in
            let once = core.once (writer k) in
            omega arith

    can : Usable types s core.forest m k lk
    can =
        let has = total_has (writer k) core.top (core.root frame x) core.forest below in
        let there = ap (in_root (writer k)) holder in
        let own = writer_in k in
        usable_if types clock scope act hold type under s m core k lk form.has form.writes (omega arith) open_held
        (subst (λ c. scope c ≡ true) of_token scoped)

    leads : found.value ≡ reference lk.borrow lk.to
    leads =
        let shown = subst (λ tree. Shows types s m found.value tree) form.is found.shown in
        let has : s k ≡ Some shown.0 = shown.1 in
        let mine : s k ≡ Some lk = form.has in
        let same : shown.0 ≡ lk = cc in
        shown.2 ∙ ap (λ (n : Loan). reference n.borrow n.to) same

    -- The reference in a name that is ready, or lent to read, leads to a loan that may be used.
    pub record NameHolds : Type 0 where
      pub loan : ℕ
      pub row : Loan
      pub has : s loan ≡ Some row
      pub writes : IsWriter row.via
      pub its_type : row.type ≡ t
      pub its_token : row.token ≡ y
      pub there : m.at (name_of frame x) ≡ Some (reference row.borrow row.to)
      pub usable : Usable types s core.forest m loan row

    pub name_holds : NameHolds
    name_holds = record {
      loan = k;
      row = lk;
      has = form.has;
      writes = form.writes;
      its_type = of_type;
      its_token = sym of_token;
      there = found.there ∙ ap Some leads;
      usable = can;
    }

    -- where the name is ready it may be lent again
    module _ (is : hold frame x ≡ ready) (b z : ℕ) (active : act z ≡ true) (before : y ≤ z) where
      pub lends_again : LendsAgain types clock scope act hold type under s m core frame x b z t y
      lends_again = record {
        loan = k;
        row = lk;
        has = form.has;
        typed = of_type;
        of_token = sym of_token;
        there = found.there ∙ ap Some leads;
        lent = lent_all types clock scope act hold type under s m core frame x is b z active k lk form.has lk.to can.tree
            can.here (lent_through (core.root frame x) k) (inr (core.root frame x, refl)) refl
            (λ loan. subst (λ c. c ≤ z) of_token before)
            (λ a w other there same. other_root a w there same)
            (λ j e.
            let same : core.root frame x ≡ j = cc in (
              name_along frame x [],
              subst (λ i. core.forest i ≡ Some (whole (name_along frame x []) (a_writer k))) same holder,
              λ alike. other_root frame x full (same ∙ sym alike),
            ));
      }
