-- What leads where.
use Rattle.std.proofs.Common.{◌≡◌, ℕ, ◌<◌, ◌≤◌, List, [], Some, None, length, refl, subst, arith}
use Rattle.std.proofs.lemmas.List.{get_or_past}
use Rattle.std.specs.Prelude.{Bool, Option, ◌↔◌}
use Rattle.au_graphs.specs.Cycles.{Names, Leads, directly, onward, IsFirstOnCycle, HasNoCycle}
use Rattle.au_graphs.specs.Marks.{IsMarked, IsClosed}

-- a number that no node has names nothing
pub past_names : (graph : List (List ℕ)) (a b : ℕ) → length graph ≤ a → Names graph a b → ⊥
past_names graph a b past names =
    let none = get_or_past graph a [] past in
    let within = subst (λ (xs : List ℕ). names.0 < length xs) none names.1 in
    omega arith

-- so it leads nowhere
pub past_leads : (graph : List (List ℕ)) (a c : ℕ) → length graph ≤ a → Leads graph a c → ⊥
past_leads graph a c past (directly x y names) = past_names graph x y past names
past_leads graph a c past (onward x b y names rest) = past_names graph x b past names

-- where marked nodes lead to marked nodes alone, so do paths from them
pub closed_leads : (graph : List (List ℕ)) (marks : List Bool) (a c : ℕ) → IsClosed graph marks →
    Leads graph a c → IsMarked marks a → IsMarked marks c
closed_leads graph marks a c closed (directly x y names) marked = closed x y marked names
closed_leads graph marks a c closed (onward x b y names rest) marked =
    closed_leads graph marks b y closed rest (closed x b marked names)

-- a path that goes on along one more edge
pub one_more : (graph : List (List ℕ)) (a b c : ℕ) → Leads graph a b → Names graph b c → Leads graph a c
one_more graph a b c (directly x y names) last = onward x y c names (directly y c last)
one_more graph a b c (onward x m y names rest) last = onward x m c names (one_more graph m y c rest last)

-- what is answered where no node lies on a cycle
pub none_not_some : (graph : List (List ℕ)) → HasNoCycle graph → (j : ℕ) →
    (◌≡◌ {A = Option ℕ} None (Some j)) ↔ IsFirstOnCycle graph j
none_not_some graph free j = (λ is. absurd (cc), λ first. absurd (free j first.0))

pub none_none : (graph : List (List ℕ)) → HasNoCycle graph → (◌≡◌ {A = Option ℕ} None None) ↔ HasNoCycle graph
none_none graph free = (λ is. free, λ is. refl)
