-- How a run starts, and states that are one.
use Rattle.std.proofs.Common.{◌≡◌, ◌⊎◌, inl, inr, ℕ, List, [], ◌∷◌, ◌++◌, Option, refl, sym, ap, subst, arith}
use Rattle.std.specs.Prelude.{None, nat_lt}
use Rattle.std.proofs.lemmas.Bool.{le-ltb}
use Rattle.au_events.specs.Counts.{one_if}
use Rattle.au_places.specs.Memories.{Memory}
use Rattle.au_types.specs.Types.{Meaning}
use Rattle.au_memory.specs.Forests.{Forest, Hold, Holds, Made, NameStands, Roots, empty}
use Rattle.au_memory.specs.Loans.{Types, Table}
use Rattle.au_borrows.specs.Orders.{Act}
use Rattle.au_borrows.specs.Told.{Fits, Told}
use Rattle.au_acting.specs.Safe.{IsSafe}
use Rattle.au_acting.specs.Starting.{Agrees, Starts, nothing_told}

-- ---- the start

-- no list with something in it is empty
not_empty : {A : Type 0} (before after : List A) (x : A) → [] ≡ before ++ x ∷ after → ⊥
not_empty [] after x e = absurd cc
not_empty (y ∷ before) after x e = absurd cc

none_below : (i : ℕ) → 0 ≡ one_if (nat_lt i 0)
none_below i = let c = ap one_if (le-ltb i 0 (omega arith)) in omega arith

fits_none : {B : Type 0} (owner : B → Option (List ℕ)) → Fits owner (λ i. 0) (nothing_told {B = B})
fits_none owner = record {
  even = λ i. omega arith;
  fresh = none_below;
  lives = record { born = λ id told. absurd (omega arith); consumed = λ id. omega arith };
  inside = record {
    uses = λ b before after e. absurd (not_empty before after _ e);
    opened = λ b. omega arith;
    closed = λ b. omega arith;
  };
  homes = λ id of home before after e own is. absurd (not_empty before after _ e);
  begun = none_below;
  open_now = λ b. omega arith;
}

pub starts : (B : Type 0) (types : Types) (owner : B → Option (List ℕ)) → Starts B types owner
starts B types owner type = record {
  rows = λ g. None;
  inv = record {
    clock = 0;
    core = record {
      forest = λ k. None;
      top = 0;
      root = λ frame x. 0;
      trees = [];
      shown = tt;
      once = λ id. omega arith;
      rooted = λ k h e. absurd cc;
      names = λ frame x. refl;
      lent = λ g l row here. absurd cc;
      live = λ g l row loan on. absurd cc;
      active = λ g l row loan here. absurd cc;
      known = λ k above. refl;
      older = λ g l k row parent. absurd cc;
      order = λ g l k n row parent other loan. absurd cc;
      ticked = λ g l row. absurd cc;
      acted = λ z on. absurd cc;
      scoped = λ z on. on;
    };
    fits = fits_none owner;
    stacked = tt;
    sorted = tt;
    owned = λ g l row loan on. absurd cc;
    linked = record {
      opened = λ g l row loan. absurd cc;
      alive = λ g l row loan some. absurd cc;
      kind = λ g l one row loan is number. absurd cc;
      ordered = λ g l k n row parent row_k loan_n. absurd cc;
      seen = λ one is. absurd is;
    };
  };
}

-- ---- states that are one

-- a name that is empty may have any type
typed_so : (types : Types) (s : Table) (f : Forest) (m : Memory (List ℕ)) (root : Roots) (a y : ℕ) (t u : Meaning)
    (h : Hold) → (h ≡ empty) ⊎ (t ≡ u) → NameStands types s f m root a y t h → NameStands types s f m root a y u h
typed_so types s f m root a y t u h (inl none) stands =
    subst (λ other. NameStands types s f m root a y u other) (sym none)
    (subst (λ other. NameStands types s f m root a y t other) none stands)
typed_so types s f m root a y t u h (inr same) stands =
    subst (λ other. NameStands types s f m root a y other h) same stands

module _ (B : Type 0) (types : Types) (owner : B → Option (List ℕ)) (acts : List Act) (hold : Holds)
    (type : ℕ → ℕ → Meaning) (under : Made) (m : Memory (List ℕ)) (w : Told B) where
  retyped : (kinds : ℕ → ℕ → Meaning) → ((frame x : ℕ) → (hold frame x ≡ empty) ⊎ (type frame x ≡ kinds frame x))
      → IsSafe types owner acts hold type under m w → IsSafe types owner acts hold kinds under m w
  retyped kinds same state =
      let inv = state.inv in
      let core = inv.core in
      record {
        rows = state.rows;
        inv = record {
          clock = inv.clock;
          core = record {
            forest = core.forest;
            top = core.top;
            root = core.root;
            trees = core.trees;
            shown = core.shown;
            once = core.once;
            rooted = core.rooted;
            names = λ frame x. typed_so types state.rows core.forest m core.root frame x (type frame x) (kinds frame x)
                (hold frame x) (same frame x) (core.names frame x);
            lent = core.lent;
            live = core.live;
            active = core.active;
            known = core.known;
            older = core.older;
            order = core.order;
            ticked = core.ticked;
            acted = core.acted;
            scoped = core.scoped;
          };
          fits = inv.fits;
          stacked = inv.stacked;
          sorted = inv.sorted;
          owned = inv.owned;
          linked = inv.linked;
        };
      }

  pub agrees : Agrees B types owner acts hold type under m w
  agrees others kinds n holds typed at items state =
      let names : hold ≡ others = λ i frame x. holds frame x i in
      let memory : m ≡ n = λ i. record { at = λ base. at base i; elements = λ j. items j i } in
      subst (λ h. IsSafe types owner acts h kinds under n w) names
      (subst (λ o. IsSafe types owner acts hold kinds under o w) memory (retyped kinds typed state))
