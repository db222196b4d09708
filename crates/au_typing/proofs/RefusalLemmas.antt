-- A block that has no good notes is refused at its first statement that has none.
use Rattle.std.proofs.Common.{◌≡◌, Bool, true, false, not, ◌||◌, ◌⊎◌, inl, inr, refl, sym, ap, subst, ◌∙◌}
use Rattle.std.specs.Prelude.{Ok, Err}
use Rattle.au_syntax.specs.Plain.{PlainStatement, PlainStatements}
use Rattle.au_syntax.specs.Statements.{no_statements, statements}
use Rattle.au_typing.specs.Scopes.{Scope}
use Rattle.au_typing.specs.Faults.{after_return}
use Rattle.au_typing.specs.DerivationFaults.{Judged, ◌then◌, StatementFault, refused}
use Rattle.au_typing.specs.InScope.{after}
use Rattle.au_typing.specs.Refusals.{IsRefused, after_all, statements_behind}
use Rattle.au_typing.specs.Returns.{block_returns, may_follow, returns}
use Rattle.au_typing.specs.DerivationSearch.{judge_next, note_block, note_statement, place_of}
use Rattle.au_typing.specs.Statements.{GoodBlock, GoodStatement}
use Rattle.au_typing.specs.Trees.{NotedStatement, NotedStatements, erase_block, erase_statement}
use Rattle.au_typing.proofs.FoundLemmas.{after_erased, returns_erased}
use Rattle.au_typing.proofs.SoundLemmas.{statement_sound}

-- ---- steps that failed

pub fault_is : {A : Type 0} (f g : StatementFault) → ◌≡◌ {A = Judged A} (Err f) (Err g) → f ≡ g
fault_is f g e = cc

pub then_failed : {A B : Type 0} (r : Judged A) (next : A → Judged B) (f : StatementFault) →
    (r then next) ≡ Err f
    → (r ≡ Err f) ⊎ ((x : A) × (r ≡ Ok x) × (next x ≡ Err f))
then_failed (Ok x) next f e = inr (x, refl, e)
then_failed (Err g) next f e = inl (ap Err (fault_is g f e))

pub next_failed : (b : Bool) (rest : PlainStatements) (f : StatementFault) → judge_next b rest ≡ Err f
    → (first : PlainStatement) × (more : PlainStatements) × (rest ≡ statements first more) × (b ≡ true)
    × (f ≡ refused (place_of first) after_return)
next_failed true (statements first more) f e =
    (first, more, refl, refl, sym (fault_is (refused (place_of first) after_return) f e))
next_failed true no_statements f e = absurd cc
next_failed false rest f e = absurd cc

-- ---- what stands in front

not_returned : (b : Bool) (x : PlainStatements) (y : PlainStatement) (z : PlainStatements) (u : Unit {0})
    → judge_next b (statements_behind x (statements y z)) ≡ Ok u → b ≡ false
not_returned false x y z u e = refl
not_returned true no_statements y z u e = absurd cc
not_returned true (statements s t) y z u e = absurd cc

may_from : (b : Bool) (rest : NotedStatements) → b ≡ false → may_follow b rest ≡ true
may_from b no_statements e = refl
may_from b (statements s rest) e = ap not e

-- a statement that is noted before a block that is refused
before_refused : (s : PlainStatement) (rest : PlainStatements) (sc : Scope) (f : StatementFault)
    (a : NotedStatement) (u : Unit {0}) → note_statement s sc ≡ Ok a → judge_next (returns s) rest ≡ Ok u
    → IsRefused rest (after s sc) f → IsRefused (statements s rest) sc f
before_refused s rest sc f a u noted next r =
    record {
      front = statements a r.front;
      first = r.first;
      rest = r.rest;
      splits = λ i. statements ((sym good.1) i) (r.splits i);
      good = (good.0, may_from (returns a) r.front goes_on, subst (GoodBlock r.front) scope r.good);
      cause = cause_of r.cause;
    }
  where
    good : GoodStatement a sc × (erase_statement a ≡ s)
    good = statement_sound s sc a noted

    scope : after s sc ≡ after a sc
    scope = ap (λ t. after t sc) (sym good.1) ∙ after_erased a sc

    goes_on : returns a ≡ false
    goes_on =
        sym (returns_erased a) ∙ (ap returns good.1
        ∙ not_returned (returns s) (erase_block r.front) r.first r.rest u
        (subst (λ t. judge_next (returns s) t ≡ Ok u) r.splits next))

    cause_of : ((block_returns r.front ≡ true) × (f ≡ refused (place_of r.first) after_return))
        ⊎ ((block_returns r.front ≡ false) × (note_statement r.first (after_all r.front
        (after s sc)) ≡ Err f))
        → ((returns a || block_returns r.front ≡ true) × (f ≡ refused (place_of r.first) after_return))
        ⊎ ((returns a || block_returns r.front ≡ false)
        × (note_statement r.first (after_all r.front (after a sc)) ≡ Err f))
    cause_of (inl h) = inl (ap (λ b. b || block_returns r.front) goes_on ∙ h.0, h.1)
    cause_of (inr h) =
        inr (
          ap (λ b. b || block_returns r.front) goes_on ∙ h.0,
          subst (λ c. note_statement r.first (after_all r.front c) ≡ Err f) scope h.1,
        )

-- a statement that is noted and returns on every path, before another one
before_another : (s : PlainStatement) (rest : PlainStatements) (sc : Scope) (f : StatementFault)
    (a : NotedStatement) → note_statement s sc ≡ Ok a → judge_next (returns s) rest ≡ Err f
    → IsRefused (statements s rest) sc f
before_another s rest sc f a noted failed =
    let good = statement_sound s sc a noted in
    let next = next_failed (returns s) rest f failed in
    let returned : returns a ≡ true = sym (returns_erased a) ∙ (ap returns good.1 ∙ next.3) in
    record {
      front = statements a no_statements;
      first = next.0;
      rest = next.1;
      splits = λ i. statements ((sym good.1) i) (next.2 i);
      good = (good.0, refl, tt);
      cause = inl (ap (λ b. b || false) returned, next.4);
    }

behind_first : (s : PlainStatement) (rest : PlainStatements) (sc : Scope) (f : StatementFault)
    (a : NotedStatement) → note_statement s sc ≡ Ok a
    → (note_block rest (after s sc) ≡ Err f → IsRefused rest (after s sc) f)
    → (judge_next (returns s) rest
    then λ may. note_block rest (after s sc) then λ all. Ok (statements a all)) ≡ Err f
    → IsRefused (statements s rest) sc f
behind_first s rest sc f a noted others e =
    by (then_failed (judge_next (returns s) rest)
    (λ may. note_block rest (after s sc) then λ all. Ok (statements a all)) f e)
  where
    no_fault : (all : NotedStatements) → ◌≡◌ {A = Judged NotedStatements} (Ok (statements a all)) (Err f) → ⊥
    no_fault all h = cc

    of_rest : (note_block rest (after s sc) ≡ Err f)
        ⊎ ((all : NotedStatements) × (note_block rest (after s sc) ≡ Ok all)
        × (◌≡◌ {A = Judged NotedStatements} (Ok (statements a all)) (Err f)))
        → IsRefused rest (after s sc) f
    of_rest (inl h) = others h
    of_rest (inr h) = absurd (no_fault h.0 h.2)

    by : (judge_next (returns s) rest ≡ Err f)
        ⊎ ((u : Unit {0}) × (judge_next (returns s) rest ≡ Ok u)
        × ((note_block rest (after s sc) then λ all. Ok (statements a all)) ≡ Err f))
        → IsRefused (statements s rest) sc f
    by (inl h) = before_another s rest sc f a noted h
    by (inr h) =
        before_refused s rest sc f a h.0 noted h.1
        (of_rest (then_failed (note_block rest (after s sc)) (λ all. Ok (statements a all)) f h.2))

-- ---- blocks

from_first : (s : PlainStatement) (rest : PlainStatements) (sc : Scope) (f : StatementFault)
    → (note_block rest (after s sc) ≡ Err f → IsRefused rest (after s sc) f)
    → (note_statement s sc ≡ Err f)
    ⊎ ((a : NotedStatement) × (note_statement s sc ≡ Ok a)
    × ((judge_next (returns s) rest
    then λ may. note_block rest (after s sc) then λ all. Ok (statements a all)) ≡ Err f))
    → IsRefused (statements s rest) sc f
from_first s rest sc f others (inl h) =
    record {
      front = no_statements;
      first = s;
      rest = rest;
      splits = refl;
      good = tt;
      cause = inr (refl, h);
    }
from_first s rest sc f others (inr h) = behind_first s rest sc f h.0 h.1 others h.2

pub where_refused : (ss : PlainStatements) (sc : Scope) (f : StatementFault) → note_block ss sc ≡ Err f
    → IsRefused ss sc f
where_refused no_statements sc f e = absurd cc
where_refused (statements s rest) sc f e =
    from_first s rest sc f (where_refused rest (after s sc) f)
    (then_failed (note_statement s sc)
    (λ a. judge_next (returns s) rest
    then λ may. note_block rest (after s sc) then λ all. Ok (statements a all)) f e)
