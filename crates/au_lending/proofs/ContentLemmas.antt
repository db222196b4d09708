-- The content of a box behind a write reference is lent.
use Rattle.std.proofs.Common.{◌≡◌, ℕ, suc, ◌+◌, ◌≤◌, Bool, true, List, ◌∷◌, refl, sym, ap, subst, ◌∙◌, arith}
use Rattle.std.specs.Prelude.{Some}
use Rattle.au_effects.specs.Values.{box, content_of, reference}
use Rattle.au_places.specs.Memories.{Memory, held_at}
use Rattle.au_places.specs.Places.{Id, writer, content_place, in_place}
use Rattle.au_places.proofs.MemoryLemmas.{all_held}
use Rattle.au_running_types.specs.Running.{token}
use Rattle.au_types.specs.Types as meaning
use Rattle.au_types.specs.Types.{Meaning}
use Rattle.au_memory.specs.Trees.{Value, Tree, a_box, a_writer, in_tree, in_writer}
use Rattle.au_memory.specs.Loans.{Types, Loan, Table}
use Rattle.au_memory.specs.Shown.{Shows, Has, AreDeclared}
use Rattle.au_memory.specs.Forests.{Held, Holds, Made, Core, AreShown, Usable, whole, box_lent, in_forest, in_list, in_held}
use Rattle.au_memory.specs.Forests.{all_lent, watching}
use Rattle.au_memory.specs.Forests.{IsHere, IsRooted}
use Rattle.au_memory.proofs.CountLemmas.{writer_in}
use Rattle.au_memory.proofs.FormLemmas.{IsWriterOf, writer_form}
use Rattle.au_memory.proofs.UsableLemmas.{usable}
use Rattle.au_lending.specs.Laws.{BoxesAreAlone, ContentLent, part_row}
use Rattle.au_lending.proofs.FillLemmas.{first_shown, row_self}
use Rattle.au_lending.proofs.PartLemmas.{Parting, at_top, part_core, part_forest, part_moved, part_table}
use Rattle.au_lending.proofs.RemadeLemmas.{IsBox, box_form}

module _ (types : Types) (forms : AreDeclared types) (boxes : BoxesAreAlone types) (clock : ℕ) (scope act : ℕ → Bool)
    (hold : Holds) (type : ℕ → ℕ → Meaning) (r : Value) (t of : Meaning) (z : ℕ) (under : Made) (s : Table)
    (m : Memory (List ℕ)) (core : Core types clock scope act hold type ((r, meaning.writes t (token z)) ∷ under) s m)
    (boxed : types.boxed t ≡ Some of) (scoped : scope z ≡ true) where
  abbrev Under : Made
  Under = (r, meaning.writes t (token z)) ∷ under

  first : (tree : Tree) × (rest : List Tree) × (core.trees ≡ tree ∷ rest) × Shows types s m r tree
      × Has types s tree (meaning.writes t (token z)) × AreShown types s m under rest
  first = first_shown types s m r (meaning.writes t (token z)) under core.trees core.shown

  form : IsWriterOf types forms s first.0 t (token z)
  form = writer_form types forms s first.0 t (token z) first.4

  abbrev g : ℕ
  g = form.loan

  abbrev l : Loan
  l = form.row

  of_type : t ≡ l.type
  of_type = let e = form.typed in cc

  of_token : z ≡ l.token
  of_token = let e = form.typed in cc

  lists : (id : Id) → in_list id core.trees ≡ in_writer id g + in_list id first.1
  lists id =
      let a = ap (in_list id) first.2 in
      let c = ap (in_tree id) form.is in
      omega arith

  can : Usable types s core.forest m g l
  can =
      let all = lists (writer g) in
      let own = writer_in g in
      usable types clock scope act hold type Under s m core g l form.has form.writes (omega arith)
      (subst (λ y. scope y ≡ true) of_token scoped)

  leads : r ≡ reference l.borrow l.to
  leads =
      let shown = subst (λ tree. Shows types s m r tree) form.is first.3 in
      let has : s g ≡ Some shown.0 = shown.1 in
      let mine : s g ≡ Some l = form.has in
      let same : shown.0 ≡ l = cc in
      shown.2 ∙ ap (λ (n : Loan). reference n.borrow n.to) same

  -- what stands there is a box
  of_box : types.boxed l.type ≡ Some of
  of_box = subst (λ u. types.boxed u ≡ Some of) of_type boxed

  inner : IsBox types s can.tree of
  inner = box_form types forms boxes s can.tree l.type of of_box can.typed

  shown : Shows types s m can.value (a_box inner.born inner.content)
  shown = subst (λ tree. Shows types s m can.value tree) inner.is can.shown

  abbrev was : Held
  was = whole l.to (a_box inner.born inner.content)

  abbrev kept : Held
  kept = box_lent l.to inner.born core.top

  here : core.forest g ≡ Some was
  here = can.here ∙ ap (λ tree. Some (whole l.to tree)) inner.is

  box_there : held_at m l.to ≡ Some (box inner.born)
  box_there = can.there ∙ ap Some shown.1

  splits : (id : Id) → in_held id was
      ≡ in_held id kept + (in_place id (content_place inner.born) + in_tree id inner.content)
  splits id = omega arith

  gone : in_forest (writer g) core.top core.forest + in_list (writer g) first.1 ≡ 0
  gone =
      let all = lists (writer g) in
      let own = writer_in g in
      let once = core.once (writer g) in
      omega arith

  less : (id : Id) → in_list id first.1 ≤ in_list id core.trees
  less id = let all = lists id in omega arith

  not_lent : (j : ℕ) → was ≡ all_lent j → ⊥
  not_lent j e = cc

  not_watching : was ≡ watching → ⊥
  not_watching e = cc

  abbrev parting : Parting types clock scope act hold type Under s m core
  parting = record {
    g = g;
    l = l;
    row = form.has;
    writes = form.writes;
    was = was;
    kept = kept;
    here = here;
    at = content_place inner.born;
    tree = inner.content;
    of = of;
    v = shown.0;
    typed = inner.typed;
    there = all_held m (content_of inner.born) ∙ shown.2;
    shown = shown.3;
    splits = splits;
    is_part = refl;
    others = λ j h. absurd h;
    not_lent = not_lent;
    not_watching = not_watching;
    now = under;
    rest = first.1;
    rest_shown = first.5;
    less_trees = less;
    gone = gone;
  }

  root_kept : IsRooted types (part_table types clock scope act hold type Under s m core parting)
      (part_forest types clock scope act hold type Under s m core parting) m g l kept
  root_kept = (
    of,
    refl,
    of_box,
    box_there,
    record {
      row = part_row g l (content_place inner.born) of;
      has = row_self core.top (part_row g l (content_place inner.born) of) s;
      of_token = refl;
      at = refl;
      typed = refl;
      from = refl;
      is_open = subst IsHere (sym (at_top types clock scope act hold type Under s m core parting)) tt;
    },
  )

  content_counts : (id : Id)
      → (in_forest id (suc core.top) (part_forest types clock scope act hold type Under s m core parting)
      + in_list id (a_writer core.top ∷ first.1)) + in_writer id g
      ≡ (in_forest id core.top core.forest + in_list id core.trees) + in_writer id core.top
  content_counts id =
      let moved = part_moved types clock scope act hold type Under s m core parting id in
      let all = lists id in
      omega arith

  pub content_lent : ContentLent types clock scope act hold type r t of z under s m core
  unfolding part_core
  content_lent = record {
    loan = g;
    row = l;
    born = inner.born;
    has = form.has;
    writer = form.writes;
    typed = of_type;
    of_token = of_token;
    leads = leads;
    there = box_there;
    after = part_core types clock scope act hold type Under s m core parting root_kept;
    counts = λ id. content_counts id;
  }
