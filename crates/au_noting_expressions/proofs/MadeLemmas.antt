-- What is made where each step of a clause gives something.
use Rattle.std.proofs.Common.{◌≡◌, List, [], ◌∷◌, true, Ok, refl, ap, subst}
use Rattle.au_sights.specs.contracts.noted.NotedPhase.TheImpl.{ghosts as noted}
use Rattle.au_syntax.specs.Expressions.{Node, expressions}
use Rattle.au_syntax.specs.Views.{expression, expression_all}
use Rattle.au_types.specs.Same.{same}
use Rattle.au_types.specs.Types.{Meaning}
use Rattle.au_typing.specs.Faults.{Noting, ◌>>=◌}
use Rattle.au_typing.specs.Notes.{Note, NotedExpression, noted_at, type_of}
use Rattle.au_typing.specs.Operands.{of_one_type}
use Rattle.au_typing.specs.Search.{listed}
use Rattle.au_noting_expressions.specs.Said.{NotedCode, all_said}

-- a tree with a note at a place
pub made_with : (noting : Noting Note) (n : Note) (u : Node (Unit {0})) (form : Node Note → NotedExpression)
    (at : Node Note) (made : NotedExpression) →
    noting ≡ Ok n → at ≡ noted_at u n → made ≡ form at → (noting >>= λ m. Ok (form (noted_at u m))) ≡ Ok made
made_with noting n u form at made has is says = rw (has, says, is) refl

-- the same where the note is that of an equal value
pub made_of : {A : Type 0} (noting : A → Noting Note) (t of : A) (n : Note) (u : Node (Unit {0}))
    (form : Node Note → NotedExpression) (at : Node Note) (made : NotedExpression) →
    noting t ≡ Ok n → t ≡ of → at ≡ noted_at u n → made ≡ form at →
    (noting of >>= λ m. Ok (form (noted_at u m))) ≡ Ok made
made_of noting t of n u form at made has same is says =
    subst (λ x. (noting x >>= λ m. Ok (form (noted_at u m))) ≡ Ok made) same
    (made_with (noting t) n u form at made has is says)

-- the same behind a step that gives the type
pub made_behind : {A : Type 0} (found : Noting A) (x : A) (noting : A → Noting Note) (n : Note)
    (u : Node (Unit {0})) (form : Node Note → NotedExpression) (at : Node Note)
    (made : NotedExpression) →
    found ≡ Ok x → noting x ≡ Ok n → at ≡ noted_at u n → made ≡ form at →
    (found >>= λ y. noting y >>= λ m. Ok (form (noted_at u m))) ≡ Ok made
made_behind found x noting n u form at made gives has is says =
    rw gives (made_with (noting x) n u form at made has is says)

-- the same of two operands that have one type
pub made_of_two : (a b : NotedExpression) (t v : Meaning) (noting : Meaning → Noting Note) (n : Note)
    (u : Node (Unit {0})) (form : Node Note → NotedExpression) (at : Node Note)
    (made : NotedExpression) →
    same t v ≡ true → t ≡ type_of a → v ≡ type_of b → noting t ≡ Ok n → at ≡ noted_at u n → made ≡ form at →
    (of_one_type a b (noting (type_of a)) >>= λ m. Ok (form (noted_at u m))) ≡ Ok made
made_of_two a b t v noting n u form at made alike left right has is says =
    let test : same (type_of a) (type_of b) ≡ true = subst (λ y. same (type_of a) y ≡ true) right
    (subst (λ x. same x v ≡ true) left alike) in
    rw test (made_of noting t (type_of a) n u form at made has left is says)

-- noted expressions in order
pub listed_said : (es : List NotedCode) → listed (all_said es) ≡ expression_all noted es
listed_said [] = refl
listed_said (e ∷ es) = ap (expressions (expression noted e)) (listed_said es)
