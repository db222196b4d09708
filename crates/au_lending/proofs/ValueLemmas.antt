-- Values under way that come and go, and rest on nothing.
use Rattle.std.proofs.Common.{◌≡◌, ℕ, ◌+◌, ◌≤◌, Bool, List, ◌∷◌, ap, arith}
use Rattle.au_places.specs.Memories.{Memory}
use Rattle.au_places.specs.Places.{Id, writer}
use Rattle.au_types.specs.Types.{Meaning}
use Rattle.au_memory.specs.Trees.{Value, Tree, in_tree}
use Rattle.au_memory.specs.Loans.{Types, Table, Via, named, lent_of, lent_through, part_of, reading}
use Rattle.au_memory.specs.Shown.{Shows, Has}
use Rattle.au_memory.specs.Forests.{Forest, Holds, Made, Roots, Core, IsLent, in_forest, in_list}
use Rattle.au_lending.specs.Laws.{Dropped, Pushed}
use Rattle.au_lending.proofs.FillLemmas.{first_shown}

-- what is said of a loan stays where write references count no more than before
pub lent_counts : (f : Forest) (hold : Holds) (root : Roots) (count after : Id → ℕ)
    → ((k : ℕ) → after (writer k) ≤ count (writer k)) → (g z : ℕ) (via : Via)
    → IsLent f hold root count g z via → IsLent f hold root after g z via
lent_counts f hold root count after fewer g z named h = h
lent_counts f hold root count after fewer g z (lent_of k) h = h
lent_counts f hold root count after fewer g z (lent_through holder k) h = h
lent_counts f hold root count after fewer g z (part_of k) h =
    let less = fewer k in
    let none = h.1 in
    (h.0, omega arith)
lent_counts f hold root count after fewer g z (reading k tree) h = h

module _ (types : Types) (clock : ℕ) (scope act : ℕ → Bool) (hold : Holds) (type : ℕ → ℕ → Meaning)
    (under : Made) (s : Table) (m : Memory (List ℕ)) (core : Core types clock scope act hold type under s m) where
  -- a value whose tree counts for nothing comes under way: a literal, a copy, what an operation gives
  pub pushed : (v : Value) (t : Meaning) (tree : Tree) → Shows types s m v tree → Has types s tree t
      → ((id : Id) → in_tree id tree ≡ 0) → Pushed types clock scope act hold type under s m core v t
  pushed v t tree shown has none = record {
    after = record {
      forest = core.forest;
      top = core.top;
      root = core.root;
      trees = tree ∷ core.trees;
      shown = (shown, has, core.shown);
      once = λ id. let own = none id in let once = core.once id in omega arith;
      rooted = core.rooted;
      names = core.names;
      lent = λ g l row here. lent_counts core.forest hold core.root
          (λ id. in_forest id core.top core.forest + in_list id core.trees)
          (λ id. in_forest id core.top core.forest + (in_tree id tree + in_list id core.trees))
          (λ k. let own = none (writer k) in omega arith) g l.token l.via (core.lent g l row here);
      live = core.live;
      active = core.active;
      known = core.known;
      older = core.older;
      order = core.order;
      ticked = core.ticked;
      acted = core.acted;
      scoped = core.scoped;
    };
    counts = λ id. let own = none id in omega arith;
  }

module _ (types : Types) (clock : ℕ) (scope act : ℕ → Bool) (hold : Holds) (type : ℕ → ℕ → Meaning)
    (v : Value) (t : Meaning) (under : Made) (s : Table) (m : Memory (List ℕ))
    (core : Core types clock scope act hold type ((v, t) ∷ under) s m) where
  -- the newest value under way is dropped
  pub dropped : Dropped types clock scope act hold type v t under s m core
  dropped =
      let first = first_shown types s m v t under core.trees core.shown in
      let same = λ (id : Id). ap (in_list id) first.2 in
      record {
        tree = first.0;
        shown = first.3;
        typed = first.4;
        after = record {
          forest = core.forest;
          top = core.top;
          root = core.root;
          trees = first.1;
          shown = first.5;
          once = λ id. let all = same id in let once = core.once id in omega arith;
          rooted = core.rooted;
          names = core.names;
          lent = λ g l row here. lent_counts core.forest hold core.root
              (λ id. in_forest id core.top core.forest + in_list id core.trees)
              (λ id. in_forest id core.top core.forest + in_list id first.1)
              (λ k. let all = same (writer k) in omega arith) g l.token l.via (core.lent g l row here);
          live = core.live;
          active = core.active;
          known = core.known;
          older = core.older;
          order = core.order;
          ticked = core.ticked;
          acted = core.acted;
          scoped = core.scoped;
        };
        counts = λ id. let all = same id in omega arith;
      }
