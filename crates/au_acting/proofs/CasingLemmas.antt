-- What is seen behind references.
use Rattle.std.proofs.Common.{◌≡◌, ℕ, zero, suc, ◌+◌, ◌≤◌, Bool, true, List, [], ◌∷◌, ◌++◌, length, Option, Some, refl}
use Rattle.std.proofs.Common.{sym, ap, subst, ◌∙◌, slice_get, arith}
use Rattle.au_effects.specs.Parts.{along}
use Rattle.au_effects.specs.Values.{Fields, Place, field_then, listed, made, no_fields, reference}
use Rattle.au_places.specs.Memories.{Memory, held_at}
use Rattle.au_places.specs.Places.{Id, birth, part_at, writer}
use Rattle.au_running_types.specs.Running.{token}
use Rattle.au_types.specs.Types as meaning
use Rattle.au_types.specs.Types.{Meaning}
use Rattle.au_memory.specs.Forests.{Core, Holds, Made, Usable, in_forest, in_list}
use Rattle.au_memory.specs.Loans.{Types, Loan, LeadsTo, Point, Table, field_point, point_at, start_of, step_point}
use Rattle.au_memory.specs.Shown.{Shows, ShowsAll, Has, HasAll, AreDeclared}
use Rattle.au_memory.specs.Trees.{Value, Step, Tree, Trees, a_made, a_reader, field, in_tree, no_trees, tree_count}
use Rattle.au_memory.specs.Trees.{tree_then}
use Rattle.au_memory.proofs.CountLemmas.{writer_in}
use Rattle.au_memory.proofs.FormLemmas.{reader_form, writer_form}
use Rattle.au_memory.proofs.UsableLemmas.{usable}
use Rattle.au_lending.specs.Parting.{CasesAreAlone}
use Rattle.au_lending.proofs.BufferSeenLemmas.{items_seen}
use Rattle.au_lending.proofs.CaseLemmas.{made_form}
use Rattle.au_lending.proofs.FillLemmas.{first_shown}
use Rattle.au_lending.proofs.SeenLemmas as seen
use Rattle.au_lending.proofs.SeenLemmas.{field_leads, nth_there, point_more, sees}
use Rattle.au_lending.proofs.ValueLemmas.{dropped, pushed}
use Rattle.au_borrows.specs.Orders.{Act, is_active}
use Rattle.au_borrows.specs.Told.{Told, with_use}
use Rattle.au_borrows.proofs.InvariantLemmas.{keeps_on}
use Rattle.au_acting.specs.Casing.{DropsReaders, HasParts, SeesItems, SeesParts, with_parts_seen}
use Rattle.au_acting.specs.Safe.{IsSafe}
use Rattle.au_acting.proofs.ReferLemmas.{newest_reads, same_borrow, used_first}
use Rattle.au_acting.proofs.RowLemmas.{parts_same}

-- ---- how many parts

shows_count : (types : Types) (s : Table) (m : Memory (List ℕ)) (parts : Fields (List ℕ)) (all : Trees)
    → ShowsAll types s m parts all → length (listed parts) ≡ tree_count all
shows_count types s m no_fields no_trees h = refl
shows_count types s m no_fields (tree_then one rest) h = absurd h
shows_count types s m (field_then v others) no_trees h = absurd h
shows_count types s m (field_then v others) (tree_then one rest) h = ap suc (shows_count types s m others rest h.1)

has_count : (types : Types) (s : Table) (all : Trees) (of : List Meaning) → HasAll types s all of
    → tree_count all ≡ length of
has_count types s no_trees [] h = refl
has_count types s no_trees (t ∷ others) h = absurd h
has_count types s (tree_then one rest) [] h = absurd h
has_count types s (tree_then one rest) (t ∷ others) h = ap suc (has_count types s rest others h.1)

-- ---- references to parts

module _ (types : Types) (s : Table) (m : Memory (List ℕ)) (g : ℕ) (row : Loan) (steps : List Step) (one : Point)
    (leads : LeadsTo types s g steps row one) (tag : ℕ) (born : Option ℕ) (all : Trees) (kinds : List Meaning)
    (is : one.tree ≡ a_made tag born all) (fields : types.fields one.type tag ≡ Some kinds)
    (typed : HasAll types s all kinds) where
  -- a part of the point is a point
  part_leads : (i : ℕ) (u : Meaning) → slice_get kinds i ≡ Some u
      → (two : Point) × LeadsTo types s g (steps ++ field i ∷ []) row two × (two.type ≡ u)
      × (two.to ≡ part_at i one.to)
  part_leads i u at =
      let part' = nth_there types s i all kinds u typed at in
      let two : Point = record { tree = part'.0; type = u; to = part_at i one.to } in
      let step : step_point types (field i) one ≡ Some two =
      ap (λ t. field_point types i one t) is
      ∙ field_leads types i one tag born all kinds u part'.0 fields at part'.1 in (
        two,
        record {
          row = leads.row;
          from = leads.from;
          tree = leads.tree;
          via = leads.via;
          there = point_more types steps (field i ∷ []) (start_of types row leads.tree) one two leads.there
              (ap (λ o. along o (point_at types [])) step);
        },
        refl,
        refl,
      )

  module _ (clock : ℕ) (scope act : ℕ → Bool) (hold : Holds) (type : ℕ → ℕ → Meaning) where
    -- memory with other values under way, in which everything counts as it did
    record Sown (under now : Made) (core : Core types clock scope act hold type under s m) : Type 0 where
      after : Core types clock scope act hold type now s m
      counts : (id : Id) → in_forest id after.top after.forest + in_list id after.trees
          ≡ in_forest id core.top core.forest + in_list id core.trees

    sown : (ts : List Meaning) (i : ℕ) (under : Made) (core : Core types clock scope act hold type under s m)
        → ((j : ℕ) (u : Meaning) → slice_get ts j ≡ Some u → slice_get kinds (i + j) ≡ Some u)
        → Sown under (with_parts_seen row.borrow one.to row.token i ts under) core
    sown [] i under core at = record { after = core; counts = λ id. refl }
    sown (t ∷ ts) i under core at =
        let here : i + 0 ≡ i = omega arith in
        let own = part_leads i t (subst (λ k. slice_get kinds k ≡ Some t) here (at 0 t refl)) in
        let more = pushed types clock scope act hold type under s m core (reference row.borrow (part_at i one.to))
        (meaning.reads t (token row.token)) (a_reader g (steps ++ field i ∷ []))
        (row, own.0, own.1, ap (λ p. reference row.borrow p) (sym own.3))
        (row, own.0, own.1, ap (λ u. meaning.reads u (token row.token)) (sym own.2)) (λ id. refl) in
        let rest = sown ts (suc i)
        ((reference row.borrow (part_at i one.to), meaning.reads t (token row.token)) ∷ under) more.after
        (λ j u h. let next : i + suc j ≡ suc i + j = omega arith in
        subst (λ k. slice_get kinds k ≡ Some u) next (at (suc j) u h)) in
        record { after = rest.after; counts = λ id. rest.counts id ∙ more.counts id }

module _ (B : Type 0) (types : Types) (owner : B → Option (List ℕ)) (acts : List Act) (hold : Holds)
    (type : ℕ → ℕ → Meaning) (under : Made) (m : Memory (List ℕ)) (w : Told B) where
  pub sees_parts : SeesParts B types owner acts hold type under m w
  sees_parts forms cases r t z tag of is on state =
      let s = state.rows in
      let refers = newest_reads types forms state.inv.clock (is_active acts) (is_active acts) hold type r t z under s m
      state.inv.core in
      let b = refers.row.borrow in
      let inv = used_first B types owner acts hold type ((r, meaning.reads t (token z)) ∷ under) s m w state.inv r z
      refers on in
      let see = sees types forms inv.clock (is_active acts) (is_active acts) hold type r t z under s m inv.core on in
      let gone = seen.gone types forms inv.clock (is_active acts) (is_active acts) hold type r t z under s m inv.core in
      let less = seen.gone_counts types forms inv.clock (is_active acts) (is_active acts) hold type r t z under s m
      inv.core in
      let form = made_form types forms cases s see.one.tree see.one.type tag of
      (subst (λ u. types.fields u tag ≡ Some of) see.typed is) see.stands.typed in
      let shown = subst (λ tree. Shows types s m see.stands.value tree) form.is see.stands.shown in
      let done = sown types s m see.loan see.row see.steps see.one see.leads form.tag form.born form.all form.of form.is
      form.fields form.typed inv.clock (is_active acts) (is_active acts) hold type form.of 0 under gone.after
      (λ j u h. let same : j ≡ 0 + j = omega arith in subst (λ k. slice_get form.of k ≡ Some u) same h) in
      let same = same_borrow r b see.row.borrow refers.to see.one.to refers.is see.is in
      let now : IsSafe types owner acts hold type
      (with_parts_seen see.row.borrow see.one.to see.row.token 0 form.of under) m (with_use b w) = record {
        rows = s;
        inv = keeps_on B types owner acts hold type ((r, meaning.reads t (token z)) ∷ under) s m (with_use b w) inv
            inv.clock hold type (with_parts_seen see.row.borrow see.one.to see.row.token 0 form.of under) s m done.after
            (λ i. done.counts (birth i) ∙ less (birth i)) (parts_same s);
      } in (
        see.row.borrow,
        see.one.to,
        form.tag,
        form.born,
        form.of,
        shown.0,
        see.is,
        see.stands.there ∙ ap Some shown.1,
        subst (λ u. types.fields u form.tag ≡ Some form.of) (sym see.typed) form.fields,
        shows_count types s m shown.0 form.all shown.2 ∙ has_count types s form.all form.of form.typed,
        subst (λ y. IsSafe types owner acts hold type (with_parts_seen see.row.borrow see.one.to y 0 form.of under) m
            (with_use see.row.borrow w)) (sym see.of_token)
            (subst (λ c. IsSafe types owner acts hold type
            (with_parts_seen see.row.borrow see.one.to see.row.token 0 form.of under) m (with_use c w)) same now),
      )

  pub drops_readers : DropsReaders B types owner acts hold type under m w
  drops_readers forms r t z state =
      let s = state.rows in
      let inv = state.inv in
      let gone = seen.gone types forms inv.clock (is_active acts) (is_active acts) hold type r t z under s m inv.core in
      let less = seen.gone_counts types forms inv.clock (is_active acts) (is_active acts) hold type r t z under s m
      inv.core in
      record {
        rows = s;
        inv = keeps_on B types owner acts hold type ((r, meaning.reads t (token z)) ∷ under) s m w inv inv.clock hold type
            under s m gone.after (λ i. less (birth i)) (parts_same s);
      }

module _ (B : Type 0) (types : Types) (owner : B → Option (List ℕ)) (acts : List Act) (hold : Holds)
    (type : ℕ → ℕ → Meaning) (under : Made) (m : Memory (List ℕ)) (w : Told B) where
  pub sees_items : SeesItems B types owner acts hold type under m w
  sees_items forms buffers r t of z is on state =
      let s = state.rows in
      let refers = newest_reads types forms state.inv.clock (is_active acts) (is_active acts) hold type r t z under s m
      state.inv.core in
      let b = refers.row.borrow in
      let inv = used_first B types owner acts hold type ((r, meaning.reads t (token z)) ∷ under) s m w state.inv r z
      refers on in
      let done = items_seen types forms buffers inv.clock (is_active acts) (is_active acts) hold type r t z under s m
      inv.core of is on in
      let same = same_borrow r b done.leads.borrow refers.to done.leads.to refers.is done.leads.is in (
        done.leads.borrow,
        done.leads.to,
        done.born,
        done.items,
        done.leads.is,
        done.leads.there,
        done.leads.holds,
        subst (λ c. IsSafe types owner acts hold type under m (with_use c w)) same
            (drops_readers B types owner acts hold type under m (with_use b w) forms r t z
            (record { rows = s; inv = inv })),
      )

  pub has_parts : HasParts B types owner acts hold type under m w
  has_parts forms cases r t z tag of is on state borrow to tagged born parts kinds leads there fields =
      let s = state.rows in
      let core = state.inv.core in
      let first = first_shown types s m r (meaning.writes t (token z)) under core.trees core.shown in
      let form = writer_form types forms s first.0 t (token z) first.4 in
      let e = form.typed in
      let of_token : z ≡ form.row.token = cc in
      let of_type : t ≡ form.row.type = cc in
      let shown = subst (λ tree. Shows types s m r tree) form.is first.3 in
      let other : s form.loan ≡ Some shown.0 = shown.1 in
      let mine : s form.loan ≡ Some form.row = form.has in
      let same : shown.0 ≡ form.row = cc in
      let all = ap (in_list (writer form.loan)) first.2 in
      let head = ap (in_tree (writer form.loan)) form.is in
      let own = writer_in form.loan in
      let can : Usable types s core.forest m form.loan form.row =
      usable types state.inv.clock (is_active acts) (is_active acts) hold type ((r, meaning.writes t (token z)) ∷ under) s
      m core form.loan form.row form.has form.writes (omega arith)
      (subst (λ y. is_active acts y ≡ true) of_token on) in
      let made_is = made_form types forms cases s can.tree t tag of is
      (subst (λ u. Has types s can.tree u) (sym of_type) can.typed) in
      let value = subst (λ tree. Shows types s m can.value tree) made_is.is can.shown in
      let is_row : r ≡ reference form.row.borrow form.row.to =
      shown.2 ∙ ap (λ (n : Loan). reference n.borrow n.to) same in
      let place : form.row.to ≡ to = cc in
      let stands : held_at m to ≡ Some (made made_is.tag made_is.born value.0) =
      subst (λ p. held_at m p ≡ Some can.value) place can.there ∙ ap Some value.1 in
      let alike : made tagged born parts ≡ made made_is.tag made_is.born value.0 = cc in
      let tags : made_is.tag ≡ tagged = cc in
      let fields_are : parts ≡ value.0 = cc in
      let known : types.fields t tagged ≡ Some made_is.of =
      subst (λ k. types.fields t k ≡ Some made_is.of) tags made_is.fields in
      let kinds_are : made_is.of ≡ kinds = cc in
      ap (λ fs. length (listed fs)) fields_are ∙ shows_count types s m value.0 made_is.all value.2
      ∙ has_count types s made_is.all made_is.of made_is.typed ∙ ap length kinds_are
