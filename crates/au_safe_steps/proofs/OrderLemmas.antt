-- Values under way in another order.
use Rattle.std.proofs.Common.{◌≡◌, ℕ, ◌+◌, Bool, List, [], ◌∷◌, ◌++◌, Option, refl, sym, ap, subst, ◌∙◌, arith}
use Rattle.au_places.specs.Memories.{Memory}
use Rattle.au_places.specs.Places.{Id, birth, writer}
use Rattle.au_types.specs.Types.{Meaning}
use Rattle.au_memory.specs.Forests.{AreShown, Core, Holds, Made, in_forest, in_list}
use Rattle.au_memory.specs.Loans.{Types, Table}
use Rattle.au_memory.specs.Trees.{Value, Tree}
use Rattle.au_lending.specs.Records.{onto}
use Rattle.au_lending.proofs.ValueLemmas.{lent_counts}
use Rattle.au_safe_acts.specs.Orders.{Act, is_active}
use Rattle.au_safe_acts.specs.Told.{Told}
use Rattle.au_safe_acts.proofs.InvariantLemmas.{keeps_on}
use Rattle.au_acting.specs.Safe.{IsSafe}
use Rattle.au_acting.proofs.RowLemmas.{parts_same}
use Rattle.au_safe_steps.specs.Orders.{IsReordered}

module _ (types : Types) (s : Table) (m : Memory (List ℕ)) where
  -- trees that show these values show those too, in another order
  abbrev pub Alike : Made → Made → Type 0
  Alike vs ws =
      (trees : List Tree) → AreShown types s m vs trees
      → (others : List Tree) × AreShown types s m ws others × ((id : Id) → in_list id others ≡ in_list id trees)

  alike_same : (vs : Made) → Alike vs vs
  alike_same vs trees h = (trees, h, λ id. refl)

  alike_then : (a b c : Made) → Alike a b → Alike b c → Alike a c
  alike_then a b c one two trees h =
      let first = one trees h in
      let second = two first.0 first.1 in
      (second.0, second.1, λ id. second.2 id ∙ first.2 id)

  alike_more : (v : Value × Meaning) (a b : Made) → Alike a b → Alike (v ∷ a) (v ∷ b)
  alike_more v a b one [] h = absurd h
  alike_more v a b one (t ∷ ts) h =
      let rest = one ts h.2 in
      (t ∷ rest.0, (h.0, h.1, rest.1), λ id. let e = rest.2 id in omega arith)

  alike_turn : (v u : Value × Meaning) (a : Made) → Alike (v ∷ u ∷ a) (u ∷ v ∷ a)
  alike_turn v u a [] h = absurd h
  alike_turn v u a (t ∷ []) h = absurd h.2
  alike_turn v u a (t ∷ r ∷ ts) h =
      let rest = h.2 in
      (r ∷ t ∷ ts, (rest.0, rest.1, (h.0, h.1, rest.2)), λ id. omega arith)

  alike_onto : (vs a b : Made) → Alike a b → Alike (onto vs a) (onto vs b)
  alike_onto [] a b one = one
  alike_onto (v ∷ vs) a b one = alike_onto vs (v ∷ a) (v ∷ b) (alike_more v a b one)

  -- a value goes to the top, and back below others
  pub alike_up : (vs : Made) (v : Value × Meaning) (a : Made) → Alike (onto vs (v ∷ a)) (v ∷ onto vs a)
  alike_up [] v a = alike_same (v ∷ a)
  alike_up (u ∷ vs) v a =
      alike_then (onto vs (u ∷ v ∷ a)) (onto vs (v ∷ u ∷ a)) (v ∷ onto vs (u ∷ a))
      (alike_onto vs (u ∷ v ∷ a) (v ∷ u ∷ a) (alike_turn u v a)) (alike_up vs v (u ∷ a))

  alike_down : (vs : Made) (v : Value × Meaning) (a : Made) → Alike (v ∷ onto vs a) (onto vs (v ∷ a))
  alike_down [] v a = alike_same (v ∷ a)
  alike_down (u ∷ vs) v a =
      alike_then (v ∷ onto vs (u ∷ a)) (onto vs (v ∷ u ∷ a)) (onto vs (u ∷ v ∷ a)) (alike_down vs v (u ∷ a))
      (alike_onto vs (v ∷ u ∷ a) (u ∷ v ∷ a) (alike_turn v u a))

  onto_both : (xs ys a : Made) → onto (xs ++ ys) a ≡ onto ys (onto xs a)
  onto_both [] ys a = refl
  onto_both (x ∷ xs) ys a = onto_both xs ys (x ∷ a)

  pub alike_order : (ws vs a : Made) → IsReordered ws vs → Alike (onto vs a) (onto ws a)
  alike_order [] vs a h = subst (λ (xs : Made). Alike (onto xs a) a) (sym h) (alike_same a)
  alike_order (w ∷ ws) vs a h =
      let front = h.0 in
      let back = h.1 in
      let all : onto vs a ≡ onto back (w ∷ onto front a) =
      ap (λ (xs : Made). onto xs a) h.2 ∙ onto_both front (w ∷ back) a in
      let left : onto back (onto front a) ≡ onto (front ++ back) a = sym (onto_both front back a) in
      let up : Alike (onto vs a) (w ∷ onto (front ++ back) a) =
      subst (λ (xs : Made). Alike xs (w ∷ onto (front ++ back) a)) (sym all)
      (subst (λ (xs : Made). Alike (onto back (w ∷ onto front a)) (w ∷ xs)) left (alike_up back w (onto front a))) in
      alike_then (onto vs a) (w ∷ onto (front ++ back) a) (onto ws (w ∷ a)) up
      (alike_then (w ∷ onto (front ++ back) a) (w ∷ onto ws a) (onto ws (w ∷ a))
      (alike_more w (onto (front ++ back) a) (onto ws a) (alike_order ws (front ++ back) a h.3)) (alike_down ws w a))

module _ (types : Types) (clock : ℕ) (scope act : ℕ → Bool) (hold : Holds) (type : ℕ → ℕ → Meaning) (vs ws : Made)
    (s : Table) (m : Memory (List ℕ)) (core : Core types clock scope act hold type vs s m)
    (alike : Alike types s m vs ws) where
  others : (trees : List Tree) × AreShown types s m ws trees
      × ((id : Id) → in_list id trees ≡ in_list id core.trees)
  others = alike core.trees core.shown

  record Ordered : Type 0 where
    after : Core types clock scope act hold type ws s m
    counts : (id : Id) → in_forest id after.top after.forest + in_list id after.trees
        ≡ in_forest id core.top core.forest + in_list id core.trees

  ordered : Ordered
  ordered = record {
    after = record {
      forest = core.forest;
      top = core.top;
      root = core.root;
      trees = others.0;
      shown = others.1;
      once = λ id. let all = others.2 id in let once = core.once id in omega arith;
      rooted = core.rooted;
      names = core.names;
      lent = λ g l row here. lent_counts core.forest hold core.root
          (λ id. in_forest id core.top core.forest + in_list id core.trees)
          (λ id. in_forest id core.top core.forest + in_list id others.0)
          (λ j. let all = others.2 (writer j) in omega arith) g l.token l.via (core.lent g l row here);
      live = core.live;
      active = core.active;
      known = core.known;
      older = core.older;
      order = core.order;
      ticked = core.ticked;
      acted = core.acted;
      scoped = core.scoped;
    };
    counts = λ id. let all = others.2 id in omega arith;
  }

module _ (B : Type 0) (types : Types) (owner : B → Option (List ℕ)) (acts : List Act) (hold : Holds)
    (type : ℕ → ℕ → Meaning) (m : Memory (List ℕ)) (w : Told B) where
  pub alike_safe : (vs ws : Made) → ((s : Table) → Alike types s m vs ws)
      → IsSafe types owner acts hold type vs m w → IsSafe types owner acts hold type ws m w
  alike_safe vs ws alike state =
      let s = state.rows in
      let inv = state.inv in
      let done = ordered types inv.clock (is_active acts) (is_active acts) hold type vs ws s m inv.core (alike s) in
      record {
        rows = s;
        inv = keeps_on B types owner acts hold type vs s m w inv inv.clock hold type ws s m done.after
            (λ i. done.counts (birth i)) (parts_same s);
      }
