-- Tokens begin, and states that are the same at each name are one.
use Rattle.std.proofs.Common.{◌≡◌, ℕ, suc, ◌≤◌, ◌==◌, Bool, true, false, List, if◌then◌else◌, refl, sym}
use Rattle.std.proofs.Common.{◌∙◌, arith}
use Rattle.std.proofs.lemmas.Bool.{eqb-true, ne_eqb}
use Rattle.au_places.specs.Memories.{Memory}
use Rattle.au_types.specs.Types.{Meaning}
use Rattle.au_memory.specs.Loans.{Types, Table}
use Rattle.au_memory.specs.Forests.{Holds, Made, Core}
use Rattle.au_lending.specs.Holding.{with_token}
use Rattle.au_lending.specs.Laws.{Begun}

module _ (types : Types) (clock : ℕ) (scope act : ℕ → Bool) (hold : Holds) (type : ℕ → ℕ → Meaning)
    (under : Made) (s : Table) (m : Memory (List ℕ)) (core : Core types clock scope act hold type under s m) where
  -- tokens that were there are in scope as they were
  as_was : (flags : ℕ → Bool) (y : ℕ) → y ≤ clock → with_token (suc clock) flags y ≡ flags y
  as_was flags y old = rw (ne_eqb (suc clock) y (λ same. omega arith))

  at_most : (y : ℕ) → with_token (suc clock) act y ≡ true → y ≤ suc clock
  at_most y on = by (suc clock == y) refl on
    where
      by : (t : Bool) → (suc clock == y) ≡ t → (if t then true else act y) ≡ true → y ≤ suc clock
      by true e h = let same = eqb-true (suc clock) y e in omega arith
      by false e h = let old = core.acted y h in omega arith

  in_both : (y : ℕ) → with_token (suc clock) scope y ≡ true → with_token (suc clock) act y ≡ true
  in_both y on = by (suc clock == y) refl on
    where
      by : (t : Bool) → (suc clock == y) ≡ t → (if t then true else scope y) ≡ true
          → (if suc clock == y then true else act y) ≡ true
      by true e h = rw e
      by false e h = rw e (core.scoped y h)

  -- A token begins, the newest, and is in scope: no loan is of it yet.
  pub begun : Begun types clock scope act hold type under s m core
  begun = record {
    after = record {
      forest = core.forest;
      top = core.top;
      root = core.root;
      trees = core.trees;
      shown = core.shown;
      once = core.once;
      rooted = core.rooted;
      names = core.names;
      lent = core.lent;
      live = λ g l row loan on. core.live g l row loan (sym (as_was scope l.token (core.ticked g l row)) ∙ on);
      active = λ g l row loan here. as_was act l.token (core.ticked g l row) ∙ core.active g l row loan here;
      known = core.known;
      older = core.older;
      order = core.order;
      ticked = λ g l row. let old = core.ticked g l row in omega arith;
      acted = at_most;
      scoped = in_both;
    };
    counts = λ id. refl;
  }
