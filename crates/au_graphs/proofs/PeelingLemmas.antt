-- The steps of a walk that peels a graph.
use Rattle.std.proofs.Common.{◌≡◌, ℕ, ◌<◌, ◌≤◌, Bool, List, [], ◌∷◌, length, take, sym, subst}
use Rattle.std.specs.List.{All}
use Rattle.std.specs.Prelude.{Contains}
use Rattle.std.proofs.lemmas.List.{take_all, take-take}
use Rattle.std.proofs.lemmas.List.Elements.{All-contains, All-nil, All-push, All-take}
use Rattle.au_graphs.specs.Cycles.{successors}
use Rattle.au_graphs.specs.Marks.{IsMarked}
use Rattle.au_graphs.specs.Peeling.{IsVisit}
use Rattle.au_graphs.specs.declared.peeling.Visit.{Visit}

-- the front of a front
pub less_passed : {X : Type 0} (P : X → Type 0) (n m : ℕ) (xs : List X) → n ≤ m → All P (take m xs) → All P (take n xs)
less_passed P n m xs less all = subst (All P) (take-take n m xs less) (All-take P n (take m xs) all)

-- a front that is all
pub all_passed : (marks : List Bool) (n : ℕ) (nodes : List ℕ) → length nodes ≤ n →
    All (IsMarked marks) (take n nodes) → (b : ℕ) → Contains nodes b → IsMarked marks b
all_passed marks n nodes whole all b is = All-contains (IsMarked marks) nodes b
    (subst (All (IsMarked marks)) (take_all n nodes whole) all) is

-- a walk begins
pub path_begun : (graph : List (List ℕ)) (done : List Bool) (path : List Visit) (first : Visit) →
    path ≡ first ∷ [] → first.node < length graph → first.passed ≡ 0 → All (IsVisit graph done) path
path_begun graph done path first only node none =
    let nodes = successors graph first.node in
    let begun : All (IsMarked done) (take first.passed nodes) =
    subst (λ n. All (IsMarked done) (take n nodes)) (sym none) (All-nil (IsMarked done)) in
    subst (All (IsVisit graph done)) (sym only)
    (All-push (IsVisit graph done) [] first (All-nil (IsVisit graph done)) (node, begun))
