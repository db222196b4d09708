-- Marks that are set.
use Rattle.std.proofs.Common.{◌≡◌, ℕ, zero, suc, ◌+◌, ◌<◌, ◌≤◌, Bool, true, false, List, [], ◌∷◌, length}
use Rattle.std.proofs.Common.{get_or, cond, set, replicate, refl, sym, ap, ◌∙◌, subst, inl, inr, ⊎_elim}
use Rattle.std.proofs.Common.{arith}
use Rattle.std.specs.Prelude.{◌⊎◌, not}
use Rattle.std.proofs.lemmas.Bool.{cases_eq, cases_lt, both_ways}
use Rattle.std.proofs.lemmas.List.{get_or_past, get_or-set_other, get_or-replicate}
use Rattle.std.proofs.lemmas.List.Sums.{sum_by-set}
use Rattle.au_graphs.specs.Cycles.{Names, Leads, IsOnCycle, directly, onward}
use Rattle.au_graphs.specs.Marks.{IsMarked, IsClosed, IsPeeled, unmarked}
use Rattle.au_graphs.proofs.CycleLemmas.{past_names, past_leads, closed_leads}

pub set_here : (marks : List Bool) (a : ℕ) → IsMarked (set marks a true) a
set_here [] a = refl
set_here (mark ∷ marks) zero = refl
set_here (mark ∷ marks) (suc a) = set_here marks a

pub set_stays : (marks : List Bool) (a b : ℕ) → IsMarked marks b → IsMarked (set marks a true) b
set_stays [] a b marked = marked
set_stays (mark ∷ marks) zero zero marked = refl
set_stays (mark ∷ marks) zero (suc b) marked = marked
set_stays (mark ∷ marks) (suc a) zero marked = marked
set_stays (mark ∷ marks) (suc a) (suc b) marked = set_stays marks a b marked

pub set_only : (marks : List Bool) (a b : ℕ) → IsMarked (set marks a true) b → (b ≡ a) ⊎ IsMarked marks b
set_only marks a b marked =
    ⊎_elim (λ same. inl same) (λ other. inr (sym (get_or-set_other marks a b true true other) ∙ marked)) (cases_eq b a)

-- what isn't marked is a node
pub within : (marks : List Bool) (a : ℕ) → get_or marks a true ≡ false → a < length marks
within marks a off =
    ⊎_elim (λ below. below) (λ past. absurd
    (both_ways (get_or marks a true) off (get_or_past marks a true past))) (cases_lt a (length marks))

-- one less is left
pub set_left : (marks : List Bool) (a : ℕ) → get_or marks a true ≡ false → unmarked (set marks a true) + 1
    ≡ unmarked marks
set_left marks a off =
    let f : Bool → ℕ = λ x. cond (not x) 1 0 in
    let now = sum_by-set f marks a true true (within marks a off) in
    let one : f (get_or marks a true) ≡ 1 = ap f off in
    omega (arith, now, one)

-- without a mark, the numbers that no node has are all that is marked
pub peeled_none : (graph : List (List ℕ)) (n : ℕ) → n ≡ length graph → IsPeeled graph (replicate n false)
peeled_none graph n size =
    let past : (a : ℕ) → IsMarked (replicate n false) a → length graph ≤ a =
    λ a marked. ⊎_elim (λ below. absurd
    (both_ways (get_or (replicate n false) a true) (get_or-replicate n a false true below) marked))
    (λ above. omega arith) (cases_lt a n) in
    record {
      closed = λ a b marked names. absurd (past_names graph a b (past a marked) names);
      free = λ a marked leads. past_leads graph a a (past a marked) leads;
    }

-- where all successors of a node are marked, a path from it leads to a marked node
pub led_to : (graph : List (List ℕ)) (marks : List Bool) (a c : ℕ) → IsClosed graph marks →
    ((b : ℕ) → Names graph a b → IsMarked marks b) → Leads graph a c → IsMarked marks c
led_to graph marks a c closed named (directly x y names) = named y names
led_to graph marks a c closed named (onward x b y names rest) = closed_leads graph marks b y closed rest (named b names)

-- such a node is peeled
pub peeled_more : (graph : List (List ℕ)) (marks : List Bool) (a : ℕ) → IsPeeled graph marks →
    ((b : ℕ) → Names graph a b → IsMarked marks b) → IsPeeled graph (set marks a true)
peeled_more graph marks a peeled named =
    let free : IsOnCycle graph a → ⊥ =
    λ leads. peeled.free a (led_to graph marks a a peeled.closed named leads) leads in
    record {
      closed = λ x b marked names.
          set_stays marks a b
          (⊎_elim
          (λ same. named b (subst (λ y. Names graph y b) same names))
          (λ before. peeled.closed x b before names)
          (set_only marks a x marked));
      free = λ x marked leads.
          ⊎_elim
          (λ same. free (subst (λ y. Leads graph y y) same leads))
          (λ before. peeled.free x before leads)
          (set_only marks a x marked);
    }
