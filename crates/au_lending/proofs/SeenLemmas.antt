-- What read references see, and copies of what is Free.
use Rattle.std.proofs.Common.{◌≡◌, ℕ, zero, suc, ◌+◌, Bool, true, List, [], ◌∷◌, ◌++◌, refl, sym, ap, subst}
use Rattle.std.proofs.Common.{◌∙◌, append_assoc, append-nil, arith}
use Rattle.std.specs.Prelude.{Option, Some, None, slice_get}
use Rattle.au_effects.specs.Parts.{along, part}
use Rattle.au_effects.specs.References.{name_along, place_along}
use Rattle.au_effects.specs.Values.{Place, name_of, reference}
use Rattle.au_places.specs.Memories.{Memory, held_at}
use Rattle.au_places.specs.Places.{Id, content_place, part_at}
use Rattle.au_running_types.specs.Running.{token}
use Rattle.au_types.specs.Types as meaning
use Rattle.au_types.specs.Types.{Meaning}
use Rattle.au_memory.specs.Trees as trees
use Rattle.au_memory.specs.Trees.{Value, Step, inside, Tree, Trees, a_made, a_box, a_reader, no_trees, tree_then}
use Rattle.au_memory.specs.Trees.{nth_tree, in_tree}
use Rattle.au_memory.specs.Loans.{Types, Loan, Table, Point, LeadsTo, IsLoan, reading, field_point, inner_point}
use Rattle.au_memory.specs.Loans.{point_at, start_of, step_point}
use Rattle.au_memory.specs.Shown.{Shows, Has, HasAll, AreDeclared, AreLawful, Stands}
use Rattle.au_memory.specs.Forests.{Holds, Made, Core, AreShown, whole, watching}
use Rattle.au_memory.specs.Forests.{in_forest, in_list, IsLent, IsRooted}
use Rattle.au_memory.proofs.FormLemmas.{reader_form}
use Rattle.au_memory.proofs.FreeLemmas.{free_in}
use Rattle.au_memory.proofs.PointLemmas.{point_stands}
use Rattle.au_lending.specs.Laws.{BoxesAreAlone, Dropped, IsReadable, Pushed}
use Rattle.au_lending.specs.Parting.{CasesAreAlone}
use Rattle.au_lending.specs.Seeing.{ContentSeen, Copied, LeadsOn, Looked, Moved, Sees, field_steps}
use Rattle.au_lending.proofs.CaseLemmas.{made_form}
use Rattle.au_lending.proofs.FillLemmas.{first_shown}
use Rattle.au_lending.proofs.LookLemmas.{readable_stands}
use Rattle.au_lending.proofs.RebornLemmas.{name_holds}
use Rattle.au_lending.proofs.RemadeLemmas.{box_form}
use Rattle.au_lending.proofs.RowLemmas.{find}
use Rattle.au_lending.proofs.ValueLemmas.{dropped, pushed}

-- ---- steps

abbrev point_of : Tree → Meaning → Place → Point
point_of tree type to = record { tree = tree; type = type; to = to }

module _ (types : Types) where
  pub field_leads : (i : ℕ) (one : Point) (tag : ℕ) (born : Option ℕ) (all : Trees) (of : List Meaning) (next : Meaning)
      (tree : Tree) → types.fields one.type tag ≡ Some of → slice_get of i ≡ Some next → nth_tree i all ≡ Some tree
      → field_point types i one (a_made tag born all) ≡ Some (point_of tree next (part_at i one.to))
  field_leads i one tag born all of next tree a b c =
      ap (λ o. along o (λ (fs : List Meaning). along (slice_get fs i) (λ (t : Meaning). along (nth_tree i all)
      (λ (p : Tree). Some (point_of p t (part_at i one.to)))))) a
      ∙ ap (λ o. along o (λ (t : Meaning). along (nth_tree i all)
      (λ (p : Tree). Some (point_of p t (part_at i one.to))))) b
      ∙ ap (λ o. along o (λ (p : Tree). Some (point_of p next (part_at i one.to)))) c

  inner_leads : (one : Point) (born : ℕ) (content : Tree) (of : Meaning) → types.boxed one.type ≡ Some of
      → inner_point types one (a_box born content) ≡ Some (point_of content of (content_place born))
  inner_leads one born content of a =
      ap (λ o. along o (λ (t : Meaning). Some (point_of content t (content_place born)))) a

  -- steps, and more of them
  more_by : (step : Step) (steps more : List Step) (one two three : Point) (o : Option Point)
      → step_point types step one ≡ o → along o (point_at types steps) ≡ Some two
      → ((next : Point) → point_at types steps next ≡ Some two → point_at types (steps ++ more) next ≡ Some three)
      → along (step_point types step one) (point_at types (steps ++ more)) ≡ Some three
  more_by step steps more one two three None e there go = absurd cc
  more_by step steps more one two three (Some next) e there go =
      ap (λ o. along o (point_at types (steps ++ more))) e ∙ go next there

  pub point_more : (steps more : List Step) (one two three : Point) → point_at types steps one ≡ Some two
      → point_at types more two ≡ Some three → point_at types (steps ++ more) one ≡ Some three
  point_more [] more one two three h k =
      let same : one ≡ two = cc in subst (λ p. point_at types more p ≡ Some three) (sym same) k
  point_more (step ∷ steps) more one two three h k =
      more_by step steps more one two three (step_point types step one) refl h
      (λ next there. point_more steps more next two three there k)

  -- a reference of a read borrow leads to one point
  leads_once : (s : Table) (g : ℕ) (steps : List Step) (l n : Loan) (one two : Point) → LeadsTo types s g steps l one
      → LeadsTo types s g steps n two → (l ≡ n) × (one ≡ two)
  leads_once s g steps l n one two a b =
      let first : s g ≡ Some l = a.row in
      let second : s g ≡ Some n = b.row in
      let same : l ≡ n = cc in
      let via : n.via ≡ reading a.from a.tree = subst (λ (o : Loan). o.via ≡ reading a.from a.tree) same a.via in
      let both : reading a.from a.tree ≡ reading b.from b.tree = sym via ∙ b.via in
      let alike : a.tree ≡ b.tree = cc in
      let there : point_at types steps (start_of types n b.tree) ≡ Some one =
      subst (λ t. point_at types steps (start_of types n t) ≡ Some one) alike
      (subst (λ (o : Loan). point_at types steps (start_of types o a.tree) ≡ Some one) same a.there) in
      let all : Some one ≡ Some two = sym there ∙ b.there in
      let points : one ≡ two = cc in
      (same, points)

  pub nth_there : (s : Table) (i : ℕ) (all : Trees) (of : List Meaning) (u : Meaning) → HasAll types s all of
      → slice_get of i ≡ Some u → (t : Tree) × (nth_tree i all ≡ Some t) × Has types s t u
  nth_there s i no_trees [] u h is = absurd cc
  nth_there s i no_trees (w ∷ others) u h is = absurd h
  nth_there s i (tree_then t rest) [] u h is = absurd h
  nth_there s zero (tree_then t rest) (w ∷ others) u h is =
      let alike : w ≡ u = cc in (t, refl, subst (λ x. Has types s t x) alike h.0)
  nth_there s (suc i) (tree_then t rest) (w ∷ others) u h is = nth_there s i rest others u h.1 is

  -- A path of fields leads to a point.
  pub record PathLeads (one : Point) (path : List ℕ) (u : Meaning) : Type 0 where
    pub two : Point
    pub there : point_at types (field_steps path) one ≡ Some two
    pub typed : two.type ≡ u
    pub base : two.to.base ≡ one.to.base
    pub path_is : two.to.path ≡ one.to.path ++ path

  pub path_leads : (forms : AreDeclared types) (cases : CasesAreAlone types) (s : Table) (path : List ℕ) (one : Point)
      (u : Meaning) → Has types s one.tree one.type → LeadsOn types one.type path u → PathLeads one path u
  path_leads forms cases s [] one u has leads = record {
    two = one;
    there = refl;
    typed = leads;
    base = refl;
    path_is = sym (append-nil one.to.path);
  }
  path_leads forms cases s (i ∷ path) one u has leads =
      let form = made_form types forms cases s one.tree one.type 0 leads.0 leads.2 has in
      let first : form.tag ≡ 0 = leads.3 form.tag form.of form.fields in
      let mine : types.fields one.type 0 ≡ Some form.of =
      subst (λ n. types.fields one.type n ≡ Some form.of) first form.fields in
      let given : types.fields one.type 0 ≡ Some leads.0 = leads.2 in
      let same : form.of ≡ leads.0 = cc in
      let typed' : HasAll types s form.all leads.0 = subst (λ of. HasAll types s form.all of) same form.typed in
      let part' = nth_there s i form.all leads.0 leads.1 typed' leads.4 in
      let rest = path_leads forms cases s path (point_of part'.0 leads.1 (part_at i one.to)) u part'.2 leads.5 in
      let step : step_point types (trees.field i) one ≡ Some (point_of part'.0 leads.1 (part_at i one.to)) =
      ap (λ t. field_point types i one t) form.is
      ∙ field_leads i one form.tag form.born form.all form.of leads.1 part'.0 form.fields
      (subst (λ of. slice_get of i ≡ Some leads.1) (sym same) leads.4) part'.1 in
      record {
        two = rest.two;
        there = ap (λ o. along o (point_at types (field_steps path))) step ∙ rest.there;
        typed = rest.typed;
        base = rest.base;
        path_is = rest.path_is ∙ append_assoc one.to.path (i ∷ []) path;
      }

-- what stands at a point stands at the end of the path that leads there
place_stands : (m : Memory (List ℕ)) (to at : Place) (path : List ℕ) (v : Value) → at.base ≡ to.base
    → at.path ≡ to.path ++ path → held_at m at ≡ Some v → held_at m (place_along to path) ≡ Some v
place_stands m to at path v base is there =
    subst (λ b. along (m.at b) (part (to.path ++ path)) ≡ Some v) base
    (subst (λ p. along (m.at at.base) (part p) ≡ Some v) is there)

-- ---- what stands comes under way

module _ (types : Types) (clock : ℕ) (scope act : ℕ → Bool) (hold : Holds) (type : ℕ → ℕ → Meaning)
    (under : Made) (s : Table) (m : Memory (List ℕ)) (core : Core types clock scope act hold type under s m) where
  -- A copy of a part of what stands at a point comes under way.
  pub record PartPushed (one : Point) (path : List ℕ) (u : Meaning) : Type 0 where
    pub value : Value
    pub there : held_at m (place_along one.to path) ≡ Some value
    pub more : Pushed types clock scope act hold type under s m core value u

  pub part_pushed : (forms : AreDeclared types) (cases : CasesAreAlone types) (lawful : AreLawful types) (one : Point)
      → Stands types s m one → (path : List ℕ) (u : Meaning) → LeadsOn types one.type path u → types.is_free u ≡ true
      → PartPushed one path u
  part_pushed forms cases lawful one stands path u leads free =
      let end = path_leads types forms cases s path one u stands.typed leads in
      let now = point_stands types s m (field_steps path) one end.two stands end.there in
      let has : Has types s end.two.tree u = subst (λ w. Has types s end.two.tree w) end.typed now.typed in
      record {
        value = now.value;
        there = place_stands m one.to end.two.to path now.value end.base end.path_is now.there;
        more = pushed types clock scope act hold type under s m core now.value u end.two.tree now.shown has
            (λ id. free_in types lawful s id end.two.tree u free has);
      }

  -- ---- read borrows

  -- A read borrow whose token is in scope sees what it was lent: the root that it was lent from holds that tree.
  pub start_stands : (g : ℕ) (l : Loan) (from : ℕ) (tree : Tree) → s g ≡ Some l → l.via ≡ reading from tree
      → scope l.token ≡ true → Stands types s m (start_of types l tree)
  start_stands g l from tree row via scoped =
      let here = core.live g l row (subst IsLoan (sym via) tt) scoped in
      let lent = subst (λ v. IsLent core.forest hold core.root
      (λ id. in_forest id core.top core.forest + in_list id core.trees) g l.token v) via
      (core.lent g l row here) in
      let own = core.rooted g watching lent.2 in
      let its : s g ≡ Some own.0 = own.1 in
      let mine : own.0 ≡ l = cc in
      let seen = subst (λ (n : Loan). IsRooted types s core.forest m g n watching) mine own.2 in
      let both : reading seen.0 seen.1 ≡ reading from tree = sym seen.2 ∙ via in
      let from_is : seen.0 ≡ from = cc in
      let tree_is : seen.1 ≡ tree = cc in
      let parent = core.rooted from (whole lent.0 tree) lent.1 in
      let first : s from ≡ Some parent.0 = parent.1 in
      let second : s from ≡ Some seen.4.0 = subst (λ i. s i ≡ Some seen.4.0) from_is seen.4.1 in
      let rows : parent.0 ≡ seen.4.0 = cc in
      let at : lent.0 ≡ l.to = parent.2.1 ∙ ap (λ (n : Loan). n.to) rows ∙ seen.4.2 in
      record {
        value = parent.2.0;
        there = subst (λ p. held_at m p ≡ Some parent.2.0) at parent.2.3;
        shown = parent.2.4;
        typed = subst (λ t. Has types s t l.type) tree_is seen.3;
      }

module _ (types : Types) (forms : AreDeclared types) (clock : ℕ) (scope act : ℕ → Bool) (hold : Holds)
    (type : ℕ → ℕ → Meaning) (r : Value) (t : Meaning) (z : ℕ) (under : Made) (s : Table) (m : Memory (List ℕ))
    (core : Core types clock scope act hold type ((r, meaning.reads t (token z)) ∷ under) s m) where
  abbrev Under : Made
  Under = (r, meaning.reads t (token z)) ∷ under

  first : (tree : Tree) × (rest : List Tree) × (core.trees ≡ tree ∷ rest) × Shows types s m r tree
      × Has types s tree (meaning.reads t (token z)) × AreShown types s m under rest
  first = first_shown types s m r (meaning.reads t (token z)) under core.trees core.shown

  pub sees : scope z ≡ true → Sees types clock scope act hold type r t z under s m core
  sees scoped =
      let form = reader_form types forms s first.0 t (token z) first.4 in
      let e = form.typed in
      let of_token : z ≡ form.row.token = cc in
      let of_type : t ≡ form.point.type = cc in
      let shown = subst (λ tree. Shows types s m r tree) form.is first.3 in
      let once = leads_once types s form.loan form.steps shown.0 form.row shown.1 form.point shown.2 form.leads in
      record {
        loan = form.loan;
        steps = form.steps;
        row = form.row;
        one = form.point;
        leads = form.leads;
        of_token = of_token;
        typed = of_type;
        is = shown.3 ∙ ap (λ (n : Loan). reference n.borrow shown.1.to) once.0
            ∙ ap (λ (p : Point). reference form.row.borrow p.to) once.1;
        stands = point_stands types s m form.steps (start_of types form.row form.leads.tree) form.point
            (start_stands types clock scope act hold type Under s m core form.loan form.row form.leads.from
            form.leads.tree form.leads.row form.leads.via (subst (λ y. scope y ≡ true) of_token scoped))
            form.leads.there;
      }

  pub gone : Dropped types clock scope act hold type r (meaning.reads t (token z)) under s m core
  gone = dropped types clock scope act hold type r (meaning.reads t (token z)) under s m core

  -- the reference counts for nothing
  pub gone_counts : (id : Id) → in_forest id gone.after.top gone.after.forest + in_list id gone.after.trees
      ≡ in_forest id core.top core.forest + in_list id core.trees
  gone_counts id =
      let form = reader_form types forms s gone.tree t (token z) gone.typed in
      let none = ap (in_tree id) form.is in
      let all = gone.counts id in
      omega arith

  pub moves : (see : Sees types clock scope act hold type r t z under s m core) (more : List Step) (two : Point)
      → point_at types more see.one ≡ Some two
      → Moved types clock scope act hold type r t z under s m core see.row.borrow two.to two.type
  moves see more two there =
      let leads : LeadsTo types s see.loan (see.steps ++ more) see.row two = record {
        row = see.leads.row;
        from = see.leads.from;
        tree = see.leads.tree;
        via = see.leads.via;
        there = point_more types see.steps more (start_of types see.row see.leads.tree) see.one two see.leads.there there;
      } in
      let now = pushed types clock scope act hold type under s m gone.after (reference see.row.borrow two.to)
      (meaning.reads two.type (token z)) (a_reader see.loan (see.steps ++ more)) (see.row, two, leads, refl)
      (see.row, two, leads, ap (λ y. meaning.reads two.type (token y)) see.of_token) (λ id. refl) in
      record { after = now.after; counts = λ id. now.counts id ∙ gone_counts id }

  pub content_seen : (boxes : BoxesAreAlone types) (of : Meaning) → types.boxed t ≡ Some of → scope z ≡ true
      → ContentSeen types clock scope act hold type r t z under s m core of
  content_seen boxes of is scoped =
      let see = sees scoped in
      let typed' : Has types s see.one.tree t = subst (λ u. Has types s see.one.tree u) (sym see.typed) see.stands.typed in
      let form = box_form types forms boxes s see.one.tree t of is typed' in
      let shown = subst (λ tree. Shows types s m see.stands.value tree) form.is see.stands.shown in
      let step : step_point types inside see.one ≡ Some (point_of form.content of (content_place form.born)) =
      ap (λ tree. inner_point types see.one tree) form.is
      ∙ inner_leads types see.one form.born form.content of
      (subst (λ u. types.boxed u ≡ Some of) see.typed is) in
      record {
        borrow = see.row.borrow;
        to = see.one.to;
        born = form.born;
        is = see.is;
        there = see.stands.there ∙ ap Some shown.1;
        moved = moves see (inside ∷ []) (point_of form.content of (content_place form.born))
            (ap (λ o. along o (point_at types [])) step);
      }

  pub copied : (cases : CasesAreAlone types) (lawful : AreLawful types) (path : List ℕ) (u : Meaning)
      → LeadsOn types t path u → types.is_free u ≡ true → scope z ≡ true
      → Copied types clock scope act hold type r t z under s m core path u
  copied cases lawful path u leads free scoped =
      let see = sees scoped in
      let now = part_pushed types clock scope act hold type under s m gone.after forms cases lawful see.one see.stands
      path u (subst (λ w. LeadsOn types w path u) see.typed leads) free in
      record {
        borrow = see.row.borrow;
        to = see.one.to;
        value = now.value;
        is = see.is;
        there = now.there;
        after = now.more.after;
        counts = λ id. now.more.counts id ∙ gone_counts id;
      }

-- ---- in names

module _ (types : Types) (forms : AreDeclared types) (cases : CasesAreAlone types) (lawful : AreLawful types)
    (clock : ℕ) (scope act : ℕ → Bool) (hold : Holds) (type : ℕ → ℕ → Meaning) (under : Made) (s : Table)
    (m : Memory (List ℕ)) (core : Core types clock scope act hold type under s m) (frame x : ℕ) where
  pub looked : IsReadable (hold frame x) → (path : List ℕ) (u : Meaning) → LeadsOn types (type frame x) path u
      → types.is_free u ≡ true
      → Looked types clock scope act hold type under s m core frame x (name_along frame x path) u
  looked is path u leads free =
      let own = readable_stands types s core.forest m core.root frame x (type frame x) (hold frame x) is
      (core.names frame x) in
      let found = find types clock scope act hold type under s m core frame x own.0 own.1 in
      let row = core.rooted (core.root frame x) (whole (name_along frame x []) found.tree) found.here in
      let stands : Stands types s m (point_of found.tree (type frame x) (name_along frame x [])) = record {
        value = row.2.0;
        there = row.2.3;
        shown = row.2.4;
        typed = found.typed;
      } in
      let now = part_pushed types clock scope act hold type under s m core forms cases lawful
      (point_of found.tree (type frame x) (name_along frame x [])) stands path u leads free in
      record { value = now.value; there = now.there; after = now.more.after; counts = λ id. now.more.counts id }

  pub looked_behind : IsReadable (hold frame x) → (t : Meaning) (z : ℕ) → type frame x ≡ meaning.writes t (token z)
      → scope z ≡ true → (path : List ℕ) (u : Meaning) → LeadsOn types t path u → types.is_free u ≡ true
      → (borrow : ℕ) × (to : Place) × (m.at (name_of frame x) ≡ Some (reference borrow to))
      × Looked types clock scope act hold type under s m core frame x (place_along to path) u
  looked_behind is t z typed scoped path u leads free =
      let holds = name_holds types forms clock scope act hold type under s m core frame x t z is typed scoped in
      let stands : Stands types s m (point_of holds.usable.tree t holds.row.to) = record {
        value = holds.usable.value;
        there = holds.usable.there;
        shown = holds.usable.shown;
        typed = subst (λ w. Has types s holds.usable.tree w) holds.its_type holds.usable.typed;
      } in
      let now = part_pushed types clock scope act hold type under s m core forms cases lawful
      (point_of holds.usable.tree t holds.row.to) stands path u leads free in (
        holds.row.borrow,
        holds.row.to,
        holds.there,
        record { value = now.value; there = now.there; after = now.more.after; counts = λ id. now.more.counts id },
      )
