-- A value of a case behind a write reference is taken apart: its parts are lent, one by one.
use Rattle.std.proofs.Common.{◌≡◌, ℕ, zero, suc, ◌+◌, ◌≤◌, ◌<◌, Bool, true, List, [], ◌∷◌, refl, sym, ap, subst, ◌∙◌}
use Rattle.std.proofs.Common.{arith, ◌⊎◌, inl, inr}
use Rattle.std.specs.Prelude.{Option, Some, drop, is_some, length, not, slice_get}
use Rattle.std.proofs.lemmas.Bool.{cases_lt}
use Rattle.au_effects.specs.Parts.{nth_field}
use Rattle.au_effects.specs.Values.{Fields, no_fields, field_then, made, reference}
use Rattle.au_places.specs.Memories.{Memory, held_at, later}
use Rattle.au_places.specs.Places.{Id, birth, writer, in_node, in_place, part_at}
use Rattle.au_places.proofs.PlaceLemmas.{split_place}
use Rattle.au_running_types.specs.Running.{token}
use Rattle.au_types.specs.Types as meaning
use Rattle.au_types.specs.Types.{Meaning}
use Rattle.au_memory.specs.Trees.{Value, Tree, Trees, a_made, no_trees, tree_then, in_birth, in_tree, in_trees, in_writer}
use Rattle.au_memory.specs.Loans.{Types, Loan, Table, IsWriter}
use Rattle.au_memory.specs.Trees.{a_plain, a_box, a_buffer, a_terminal, a_root, a_writer, a_reader}
use Rattle.au_memory.specs.Shown.{Shows, ShowsAll, Has, HasAll, AreDeclared, IsDeclared}
use Rattle.au_memory.specs.Forests.{Held, Holds, Made, Core, AreShown, Usable, whole, all_lent, parts_lent, watching}
use Rattle.au_memory.specs.Forests.{in_forest, in_list, in_held, IsHere, IsPart, IsPartLent, IsRooted}
use Rattle.au_memory.proofs.CountLemmas.{writer_in}
use Rattle.au_memory.proofs.FormLemmas.{IsWriterOf, writer_form}
use Rattle.au_memory.proofs.GrowthLemmas.{has_all_grows, shows_all_grows}
use Rattle.au_memory.proofs.PointLemmas.{part_stands}
use Rattle.au_memory.proofs.UsableLemmas.{usable}
use Rattle.au_lending.specs.Laws.{Dropped, part_row}
use Rattle.au_lending.specs.Parting.{CasesAreAlone, PartsLent, with_parts, with_part_rows}
use Rattle.au_lending.proofs.FillLemmas.{first_shown, row_self}
use Rattle.au_lending.proofs.PartLemmas.{Parting, at_parent, at_top, part_core, part_forest, part_gone, part_grows}
use Rattle.au_lending.proofs.PartLemmas.{part_moved, part_stay, part_table}
use Rattle.au_lending.proofs.RemadeLemmas.{no_plain}
use Rattle.au_lending.proofs.ValueLemmas.{dropped}

-- ---- one of several

drop_length : (i : ℕ) (of : List Meaning) (t : Meaning) (ts : List Meaning) → drop i of ≡ t ∷ ts → suc i ≤ length of
drop_length zero [] t ts e = absurd cc
drop_length zero (u ∷ us) t ts e = omega arith
drop_length (suc i) [] t ts e = absurd cc
drop_length (suc i) (u ∷ us) t ts e = let less = drop_length i us t ts e in omega arith

drop_first : (i : ℕ) (of : List Meaning) (t : Meaning) (ts : List Meaning) → drop i of ≡ t ∷ ts
    → slice_get of i ≡ Some t
drop_first zero [] t ts e = absurd cc
drop_first zero (u ∷ us) t ts e = cc
drop_first (suc i) [] t ts e = absurd cc
drop_first (suc i) (u ∷ us) t ts e = drop_first i us t ts e

drop_next : (i : ℕ) (of : List Meaning) (t : Meaning) (ts : List Meaning) → drop i of ≡ t ∷ ts → drop (suc i) of ≡ ts
drop_next zero [] t ts e = absurd cc
drop_next zero (u ∷ us) t ts e = cc
drop_next (suc i) [] t ts e = absurd cc
drop_next (suc i) (u ∷ us) t ts e = drop_next i us t ts e

module _ (types : Types) (s : Table) (m : Memory (List ℕ)) where
  -- the first of the later fields, which a tree shows
  later_first : (i : ℕ) (parts : Fields (List ℕ)) (one : Tree) (others : Trees)
      → ShowsAll types s m (later i parts) (tree_then one others)
      → (v : Value) × (nth_field i parts ≡ Some v) × Shows types s m v one
      × ShowsAll types s m (later (suc i) parts) others
  later_first zero no_fields one others h = absurd h
  later_first zero (field_then v more) one others h = (v, refl, h.0, h.1)
  later_first (suc i) no_fields one others h = absurd h
  later_first (suc i) (field_then v more) one others h = later_first i more one others h

-- ---- the next part

module _ (types : Types) (clock : ℕ) (scope act : ℕ → Bool) (hold : Holds) (type : ℕ → ℕ → Meaning)
    (under : Made) (s : Table) (m : Memory (List ℕ)) (core : Core types clock scope act hold type under s m) where
  -- What is asked of a loan of which some parts are lent, or none, so that its next part may be.
  record Next : Type 0 where
    g : ℕ
    l : Loan
    row : s g ≡ Some l
    writes : IsWriter l.via
    was : Held
    here : core.forest g ≡ Some was
    not_lent : (j : ℕ) → was ≡ all_lent j → ⊥
    not_watching : was ≡ watching → ⊥
    now : Made
    rest : List Tree
    rest_shown : AreShown types s m now rest
    less_trees : (id : Id) → in_list id rest ≤ in_list id core.trees
    gone : in_forest (writer g) core.top core.forest + in_list (writer g) rest ≡ 0
    tag : ℕ
    born : Option ℕ
    first : ℕ
    i : ℕ
    one : Tree
    others : Trees
    next : first + i ≡ core.top
    counts : (id : Id)
        → in_held id was ≡ in_node i id l.to + (in_birth id born + (in_tree id one + in_trees id others))
    parts_were : (j : ℕ) → IsPartLent j (Some was) → (k : ℕ) × (k < i) × (j ≡ first + k)
    of : List Meaning
    parts : Fields (List ℕ)
    fields : types.fields l.type tag ≡ Some of
    births : is_some born ≡ not (types.is_free l.type)
    t : Meaning
    ts : List Meaning
    of_rest : drop i of ≡ t ∷ ts
    typed : Has types s one t
    others_typed : HasAll types s others ts
    shown : ShowsAll types s m (later i parts) (tree_then one others)
    there : held_at m l.to ≡ Some (made tag born parts)
    lent : (j : ℕ) (u : Meaning) → j < i → slice_get of j ≡ Some u
        → IsPart types s core.forest m g l.token (first + j) (part_at j l.to) u

module _ (types : Types) (clock : ℕ) (scope act : ℕ → Bool) (hold : Holds) (type : ℕ → ℕ → Meaning)
    (under : Made) (s : Table) (m : Memory (List ℕ)) (core : Core types clock scope act hold type under s m)
    (n : Next types clock scope act hold type under s m core) where
  abbrev kept : Held
  kept = parts_lent n.l.to n.tag n.born n.first (suc n.i) n.others

  part : (v : Value) × (nth_field n.i n.parts ≡ Some v) × Shows types s m v n.one
      × ShowsAll types s m (later (suc n.i) n.parts) n.others
  part = later_first types s m n.i n.parts n.one n.others n.shown

  splits : (id : Id) → in_held id n.was ≡ in_held id kept + (in_place id (part_at n.i n.l.to) + in_tree id n.one)
  splits id =
      let all = n.counts id in
      let split = split_place id n.l.to n.i in
      omega arith

  others_lent : (j : ℕ) → IsPartLent j (Some n.was) → IsPartLent j (Some kept)
  others_lent j h = let k = n.parts_were j h in let less = k.1 in (k.0, omega arith, k.2)

  next_less : n.i < suc n.i
  next_less = omega arith

  abbrev parting : Parting types clock scope act hold type under s m core
  parting = record {
    g = n.g;
    l = n.l;
    row = n.row;
    writes = n.writes;
    was = n.was;
    kept = kept;
    here = n.here;
    at = part_at n.i n.l.to;
    tree = n.one;
    of = n.t;
    v = part.0;
    typed = n.typed;
    there = part_stands m n.l.to n.i (made n.tag n.born n.parts) n.there ∙ part.1;
    shown = part.2;
    splits = splits;
    is_part = (n.i, next_less, sym n.next);
    others = others_lent;
    not_lent = n.not_lent;
    not_watching = n.not_watching;
    now = n.now;
    rest = n.rest;
    rest_shown = n.rest_shown;
    less_trees = n.less_trees;
    gone = n.gone;
  }

  abbrev table : Table
  table = part_table types clock scope act hold type under s m core parting

  abbrev forest : ℕ → Option Held
  forest = part_forest types clock scope act hold type under s m core parting

  -- each part up to this one is lent
  all_parts : (j : ℕ) (u : Meaning) → j < suc n.i → slice_get n.of j ≡ Some u
      → IsPart types table forest m n.g n.l.token (n.first + j) (part_at j n.l.to) u
  all_parts j u less is = by (cases_lt j n.i)
    where
      by : (j < n.i) ⊎ (n.i ≤ j) → IsPart types table forest m n.g n.l.token (n.first + j) (part_at j n.l.to) u
      by (inl below) =
          let old = n.lent j u below is in
          record {
            row = old.row;
            has = (part_grows types clock scope act hold type under s m core parting).row (n.first + j) old.row old.has;
            of_token = old.of_token;
            at = old.at;
            typed = old.typed;
            from = old.from;
            is_open = part_stay types clock scope act hold type under s m core parting (n.first + j) old.is_open;
          }
      by (inr above) =
          let same : n.i ≡ j = omega arith in
          let has = drop_first n.i n.of n.t n.ts n.of_rest in
          let is' : slice_get n.of n.i ≡ Some u = subst (λ k. slice_get n.of k ≡ Some u) (sym same) is in
          let alike : n.t ≡ u = cc in
          subst (λ k. IsPart types table forest m n.g n.l.token (n.first + k) (part_at k n.l.to) u) same
          (subst (λ w. IsPart types table forest m n.g n.l.token (n.first + n.i) (part_at n.i n.l.to) w) alike
          (subst (λ k. IsPart types table forest m n.g n.l.token k (part_at n.i n.l.to) n.t) (sym n.next) own))
        where
          own : IsPart types table forest m n.g n.l.token core.top (part_at n.i n.l.to) n.t
          own = record {
            row = part_row n.g n.l (part_at n.i n.l.to) n.t;
            has = row_self core.top (part_row n.g n.l (part_at n.i n.l.to) n.t) s;
            of_token = refl;
            at = refl;
            typed = refl;
            from = refl;
            is_open = subst IsHere (sym (at_top types clock scope act hold type under s m core parting)) tt;
          }

  root_kept : IsRooted types table forest m n.g n.l kept
  root_kept = (
    n.of,
    n.parts,
    refl,
    n.fields,
    n.births,
    omega arith,
    drop_length n.i n.of n.t n.ts n.of_rest,
    subst (λ us. HasAll types table n.others us) (sym (drop_next n.i n.of n.t n.ts n.of_rest))
        (has_all_grows types s table (part_grows types clock scope act hold type under s m core parting)
        n.others n.ts n.others_typed),
    shows_all_grows types s table (part_grows types clock scope act hold type under s m core parting)
        m n.others (later (suc n.i) n.parts) part.3,
    n.there,
    all_parts,
  )

  next_core : Core types clock scope act hold type
      ((reference n.l.borrow (part_at n.i n.l.to), meaning.writes n.t (token n.l.token)) ∷ n.now) table m
  next_core = part_core types clock scope act hold type under s m core parting root_kept

  next_here : next_core.forest n.g ≡ Some kept
  unfolding next_core part_core
  next_here = at_parent types clock scope act hold type under s m core parting

  next_gone : in_forest (writer n.g) next_core.top next_core.forest + in_list (writer n.g) next_core.trees ≡ 0
  unfolding next_core part_core
  next_gone = part_gone types clock scope act hold type under s m core parting

  births_now : (j : ℕ) → in_forest (birth j) (suc core.top) forest + in_list (birth j) (a_writer core.top ∷ n.rest)
      ≡ in_forest (birth j) core.top core.forest + in_list (birth j) n.rest
  births_now j =
      let moved = part_moved types clock scope act hold type under s m core parting (birth j) in
      omega arith

  next_births : (j : ℕ) → in_forest (birth j) next_core.top next_core.forest + in_list (birth j) next_core.trees
      ≡ in_forest (birth j) core.top core.forest + in_list (birth j) n.rest
  unfolding next_core part_core
  next_births j = births_now j

  next_top : n.first + suc n.i ≡ suc core.top
  next_top = let e = n.next in omega arith

-- ---- the other parts

module _ (types : Types) (clock : ℕ) (scope act : ℕ → Bool) (hold : Holds) (type : ℕ → ℕ → Meaning)
    (m : Memory (List ℕ)) (g : ℕ) (l : Loan) (writes : IsWriter l.via) (tag : ℕ) (born : Option ℕ) (first : ℕ)
    (of : List Meaning) (parts : Fields (List ℕ)) where
  record Lends (i : ℕ) (ts : List Meaning) (under : Made) (s : Table)
      (core : Core types clock scope act hold type under s m) : Type 0 where
    after : Core types clock scope act hold type (with_parts l.borrow l.to l.token i ts under)
        (with_part_rows core.top g l i ts s) m
    births : (j : ℕ) → in_forest (birth j) after.top after.forest + in_list (birth j) after.trees
        ≡ in_forest (birth j) core.top core.forest + in_list (birth j) core.trees

  module _ (i : ℕ) (under : Made) (s : Table) (core : Core types clock scope act hold type under s m)
      (row : s g ≡ Some l) (one : Tree) (others : Trees)
      (here : core.forest g ≡ Some (parts_lent l.to tag born first i (tree_then one others)))
      (next : first + i ≡ core.top)
      (gone : in_forest (writer g) core.top core.forest + in_list (writer g) core.trees ≡ 0)
      (r : IsRooted types s core.forest m g l (parts_lent l.to tag born first i (tree_then one others)))
      (of_is : r.0 ≡ of) (parts_are : r.1 ≡ parts)
      (t : Meaning) (ts : List Meaning) (of_rest : drop i of ≡ t ∷ ts) where
    typed : Has types s one t × HasAll types s others ts
    typed =
        subst (λ us. HasAll types s (tree_then one others) us) (ap (drop i) of_is ∙ of_rest) r.7

    parts_counts : (id : Id) → in_held id (parts_lent l.to tag born first i (tree_then one others))
        ≡ in_node i id l.to + (in_birth id born + (in_tree id one + in_trees id others))
    parts_counts id = omega arith

    parts_not_lent : (j : ℕ) → parts_lent l.to tag born first i (tree_then one others) ≡ all_lent j → ⊥
    parts_not_lent j e = cc

    parts_not_watching : parts_lent l.to tag born first i (tree_then one others) ≡ watching → ⊥
    parts_not_watching e = cc

    same_trees : (id : Id) → in_list id core.trees ≤ in_list id core.trees
    same_trees id = omega arith

    abbrev step : Next types clock scope act hold type under s m core
    step = record {
      g = g;
      l = l;
      row = row;
      writes = writes;
      was = parts_lent l.to tag born first i (tree_then one others);
      here = here;
      not_lent = parts_not_lent;
      not_watching = parts_not_watching;
      now = under;
      rest = core.trees;
      rest_shown = core.shown;
      less_trees = same_trees;
      gone = gone;
      tag = tag;
      born = born;
      first = first;
      i = i;
      one = one;
      others = others;
      next = next;
      counts = parts_counts;
      parts_were = λ j h. h;
      of = of;
      parts = parts;
      fields = r.3 ∙ ap Some of_is;
      births = r.4;
      t = t;
      ts = ts;
      of_rest = of_rest;
      typed = typed.0;
      others_typed = typed.1;
      shown = subst (λ fs. ShowsAll types s m (later i fs) (tree_then one others)) parts_are r.8;
      there = r.9 ∙ ap (λ fs. Some (made tag born fs)) parts_are;
      lent = λ j u less is. r.10 j u less (ap (λ us. slice_get us j) of_is ∙ is);
    }

  lend_more : (ts : List Meaning) (i : ℕ) (rest : Trees) (under : Made) (s : Table)
      (core : Core types clock scope act hold type under s m) → s g ≡ Some l
      → core.forest g ≡ Some (parts_lent l.to tag born first i rest) → first + i ≡ core.top
      → in_forest (writer g) core.top core.forest + in_list (writer g) core.trees ≡ 0
      → (r : IsRooted types s core.forest m g l (parts_lent l.to tag born first i rest))
      → r.0 ≡ of → r.1 ≡ parts → drop i of ≡ ts → Lends i ts under s core
  unfolding next_core part_core root_kept
  lend_more [] i rest under s core row here next gone r of_is parts_are of_rest =
      record { after = core; births = λ j. refl }
  lend_more (t ∷ ts) i no_trees under s core row here next gone r of_is parts_are of_rest =
      absurd (subst (λ us. HasAll types s no_trees us) (ap (drop i) of_is ∙ of_rest) r.7)
  lend_more (t ∷ ts) i (tree_then one others) under s core row here next gone r of_is parts_are of_rest =
      let n = step i under s core row one others here next gone r of_is parts_are t ts of_rest in
      let core2 = next_core types clock scope act hold type under s m core n in
      let more = lend_more ts (suc i) others
      ((reference l.borrow (part_at i l.to), meaning.writes t (token l.token)) ∷ under)
      (table types clock scope act hold type under s m core n) core2
      ((part_grows types clock scope act hold type under s m core
      (parting types clock scope act hold type under s m core n)).row g l row)
      (next_here types clock scope act hold type under s m core n)
      (next_top types clock scope act hold type under s m core n)
      (next_gone types clock scope act hold type under s m core n)
      (root_kept types clock scope act hold type under s m core n) refl refl
      (drop_next i of t ts of_rest) in
      record {
        after = more.after;
        births = λ j. more.births j ∙ next_births types clock scope act hold type under s m core n j;
      }

-- ---- the form of what is taken apart

-- a tree of a type that has cases is a value of one
pub record IsMade (types : Types) (s : Table) (tree : Tree) (t : Meaning) : Type 0 where
  pub tag : ℕ
  pub born : Option ℕ
  pub all : Trees
  pub of : List Meaning
  pub is : tree ≡ a_made tag born all
  pub fields : types.fields t tag ≡ Some of
  pub births : is_some born ≡ not (types.is_free t)
  pub typed : HasAll types s all of

pub made_form : (types : Types) → AreDeclared types → CasesAreAlone types → (s : Table) (tree : Tree) (t : Meaning) (tag : ℕ)
    (of : List Meaning) → types.fields t tag ≡ Some of → Has types s tree t → IsMade types s tree t
made_form types forms cases s (a_plain v) t tag of is h = absurd (no_plain v t (forms.fields t tag of is) h)
made_form types forms cases s (a_made other born all) t tag of is h = record {
  tag = other;
  born = born;
  all = all;
  of = h.0;
  is = refl;
  fields = h.1;
  births = h.2;
  typed = h.3;
}
made_form types forms cases s (a_box born content) t tag of is h = absurd (cases.boxes t h.0 tag of is h.1)
made_form types forms cases s (a_buffer born all) t tag of is h = absurd (cases.buffers t h.0 tag of is h.1)
made_form types forms cases s (a_terminal born) t tag of is h = absurd (cases.terminals t tag of is h)
made_form types forms cases s (a_root born) t tag of is h = absurd (cases.roots t tag of is h)
made_form types forms cases s (a_writer g) t tag of is h =
    absurd (subst IsDeclared h.3 (forms.fields t tag of is))
made_form types forms cases s (a_reader g steps) t tag of is h =
    absurd (subst IsDeclared h.3 (forms.fields t tag of is))

-- ---- all parts

module _ (types : Types) (forms : AreDeclared types) (cases : CasesAreAlone types) (clock : ℕ) (scope act : ℕ → Bool)
    (hold : Holds) (type : ℕ → ℕ → Meaning) (r : Value) (t : Meaning) (z : ℕ) (under : Made) (s : Table)
    (m : Memory (List ℕ)) (core : Core types clock scope act hold type ((r, meaning.writes t (token z)) ∷ under) s m)
    (some_tag : ℕ) (some_of : List Meaning) (has_case : types.fields t some_tag ≡ Some some_of) (scoped : scope z ≡ true)
  where
    abbrev Under : Made
    Under = (r, meaning.writes t (token z)) ∷ under

    given : (tree : Tree) × (rest : List Tree) × (core.trees ≡ tree ∷ rest) × Shows types s m r tree
        × Has types s tree (meaning.writes t (token z)) × AreShown types s m under rest
    given = first_shown types s m r (meaning.writes t (token z)) under core.trees core.shown

    form : IsWriterOf types forms s given.0 t (token z)
    form = writer_form types forms s given.0 t (token z) given.4

    abbrev loan : ℕ
    loan = form.loan

    abbrev row : Loan
    row = form.row

    of_type : t ≡ row.type
    of_type = let e = form.typed in cc

    of_token : z ≡ row.token
    of_token = let e = form.typed in cc

    lists : (id : Id) → in_list id core.trees ≡ in_writer id loan + in_list id given.1
    lists id =
        let a = ap (in_list id) given.2 in
        let c = ap (in_tree id) form.is in
        omega arith

    can : Usable types s core.forest m loan row
    can =
        let all = lists (writer loan) in
        let own = writer_in loan in
        usable types clock scope act hold type Under s m core loan row form.has form.writes (omega arith)
        (subst (λ y. scope y ≡ true) of_token scoped)

    leads : r ≡ reference row.borrow row.to
    leads =
        let shown = subst (λ tree. Shows types s m r tree) form.is given.3 in
        let has : s loan ≡ Some shown.0 = shown.1 in
        let mine : s loan ≡ Some row = form.has in
        let same : shown.0 ≡ row = cc in
        shown.2 ∙ ap (λ (n : Loan). reference n.borrow n.to) same

    made_is : IsMade types s can.tree row.type
    made_is = made_form types forms cases s can.tree row.type some_tag some_of
        (subst (λ u. types.fields u some_tag ≡ Some some_of) of_type has_case) can.typed

    less : (id : Id) → in_list id given.1 ≤ in_list id core.trees
    less id = let all = lists id in omega arith

    gone : in_forest (writer loan) core.top core.forest + in_list (writer loan) given.1 ≡ 0
    gone =
        let all = lists (writer loan) in
        let own = writer_in loan in
        let once = core.once (writer loan) in
        omega arith

    -- where there are no parts the reference is there no more
    module _ (shown : Shows types s m can.value (a_made made_is.tag made_is.born no_trees))
        (fields : types.fields row.type made_is.tag ≡ Some []) where
      none_lent : PartsLent types clock scope act hold type r t z under s m core
      none_lent =
          let gone_one : Dropped types clock scope act hold type r (meaning.writes t (token z)) under s m core =
          dropped types clock scope act hold type r (meaning.writes t (token z)) under s m core in
          record {
            loan = loan;
            row = row;
            has = form.has;
            writer = form.writes;
            typed = of_type;
            of_token = of_token;
            leads = leads;
            tag = made_is.tag;
            born = made_is.born;
            of = [];
            parts = shown.0;
            there = can.there ∙ ap Some shown.1;
            fields = fields;
            after = gone_one.after;
            births = λ j.
                let all = gone_one.counts (birth j) in
                let again = writer_form types forms s gone_one.tree t (token z) gone_one.typed in
                let none : in_tree (birth j) gone_one.tree ≡ 0 = ap (in_tree (birth j)) again.is in
                omega arith;
          }

    module _ (one : Tree) (others : Trees) (u : Meaning) (us : List Meaning)
        (is : can.tree ≡ a_made made_is.tag made_is.born (tree_then one others))
        (shown : Shows types s m can.value (a_made made_is.tag made_is.born (tree_then one others)))
        (fields : types.fields row.type made_is.tag ≡ Some (u ∷ us))
        (has : HasAll types s (tree_then one others) (u ∷ us)) where
      whole_counts : (id : Id) → in_held id (whole row.to (a_made made_is.tag made_is.born (tree_then one others)))
          ≡ in_node 0 id row.to + (in_birth id made_is.born + (in_tree id one + in_trees id others))
      whole_counts id = omega arith

      whole_not_lent : (j : ℕ) → whole row.to (a_made made_is.tag made_is.born (tree_then one others)) ≡ all_lent j → ⊥
      whole_not_lent j e = cc

      whole_not_watching : whole row.to (a_made made_is.tag made_is.born (tree_then one others)) ≡ watching → ⊥
      whole_not_watching e = cc

      at_first : core.top + 0 ≡ core.top
      at_first = omega arith

      none_before : (j : ℕ) (w : Meaning) → j < 0 → slice_get (u ∷ us) j ≡ Some w
          → IsPart types s core.forest m loan row.token (core.top + j) (part_at j row.to) w
      none_before j w below at = absurd (omega arith)

      abbrev start : Next types clock scope act hold type Under s m core
      start = record {
        g = loan;
        l = row;
        row = form.has;
        writes = form.writes;
        was = whole row.to (a_made made_is.tag made_is.born (tree_then one others));
        here = can.here ∙ ap (λ tree. Some (whole row.to tree)) is;
        not_lent = whole_not_lent;
        not_watching = whole_not_watching;
        now = under;
        rest = given.1;
        rest_shown = given.5;
        less_trees = less;
        gone = gone;
        tag = made_is.tag;
        born = made_is.born;
        first = core.top;
        i = 0;
        one = one;
        others = others;
        next = at_first;
        counts = whole_counts;
        parts_were = λ j h. absurd h;
        of = u ∷ us;
        parts = shown.0;
        fields = fields;
        births = made_is.births;
        t = u;
        ts = us;
        of_rest = refl;
        typed = has.0;
        others_typed = has.1;
        shown = shown.2;
        there = can.there ∙ ap Some shown.1;
        lent = none_before;
      }

      births_same : (j : ℕ) → in_forest (birth j) core.top core.forest + in_list (birth j) given.1
          ≡ in_forest (birth j) core.top core.forest + in_list (birth j) core.trees
      births_same j = let all = lists (birth j) in omega arith

      some_lent : PartsLent types clock scope act hold type r t z under s m core
      unfolding next_core part_core root_kept
      some_lent =
          let core2 = next_core types clock scope act hold type Under s m core start in
          let more = lend_more types clock scope act hold type m loan row form.writes made_is.tag made_is.born core.top
          (u ∷ us) shown.0 us 1 others
          ((reference row.borrow (part_at 0 row.to), meaning.writes u (token row.token)) ∷ under)
          (table types clock scope act hold type Under s m core start) core2
          ((part_grows types clock scope act hold type Under s m core
          (parting types clock scope act hold type Under s m core start)).row loan row form.has)
          (next_here types clock scope act hold type Under s m core start)
          (next_top types clock scope act hold type Under s m core start)
          (next_gone types clock scope act hold type Under s m core start)
          (root_kept types clock scope act hold type Under s m core start) refl refl refl in
          record {
            loan = loan;
            row = row;
            has = form.has;
            writer = form.writes;
            typed = of_type;
            of_token = of_token;
            leads = leads;
            tag = made_is.tag;
            born = made_is.born;
            of = u ∷ us;
            parts = shown.0;
            there = can.there ∙ ap Some shown.1;
            fields = fields;
            after = more.after;
            births = λ j.
                more.births j ∙ next_births types clock scope act hold type Under s m core start j ∙ births_same j;
          }

    by_parts : (all : Trees) (of : List Meaning) → can.tree ≡ a_made made_is.tag made_is.born all
        → types.fields row.type made_is.tag ≡ Some of → HasAll types s all of
        → PartsLent types clock scope act hold type r t z under s m core
    by_parts no_trees [] is fields has = none_lent (subst (λ tree. Shows types s m can.value tree) is can.shown) fields
    by_parts no_trees (u ∷ us) is fields has = absurd has
    by_parts (tree_then one others) [] is fields has = absurd has
    by_parts (tree_then one others) (u ∷ us) is fields has =
        some_lent one others u us is (subst (λ tree. Shows types s m can.value tree) is can.shown) fields has

    pub parts_go : PartsLent types clock scope act hold type r t z under s m core
    parts_go = by_parts made_is.all made_is.of made_is.is made_is.fields made_is.typed
