-- The declarations of good modules are good.
use Rattle.std.proofs.Common.{◌≡◌, ℕ, zero, suc, ◌+◌, List, [], ◌∷◌, Option, None, Some, refl}
use Rattle.std.proofs.Common.{subst, arith, zero-add}
use Rattle.std.specs.Prelude.{slice_get}
use Rattle.std.proofs.lemmas.Option.{none-some, same_Some}
use Rattle.au_syntax.specs.declared.modules.Part.{Part}
use Rattle.au_syntax.specs.declared.modules.Part.TheVariants.{Body}
use Rattle.au_judged_bodies.specs.Derivations.{GoodDeclaration, GoodDeclarations, GoodModules, GoodPart}
use Rattle.au_judged_bodies.specs.Scopes.{Outside}
use Rattle.au_judged_bodies.specs.Trees.{NotedDeclaration, NotedEntry, NotedParts}
use Rattle.au_judged_bodies.specs.Bodies.{body_at, body_of_parts, declared_in}

good_at : (outside : ℕ → Part → Outside) (place k : ℕ) (noted : List NotedParts) (m : NotedParts)
    → GoodModules outside place noted → slice_get noted k ≡ Some m → GoodPart (outside (place + k) Body) m.body
good_at outside place k [] m good e = absurd (none-some m e)
good_at outside place zero (first ∷ rest) m good e =
    let here : GoodPart (outside place Body) first.body = good.1 in
    subst (λ n. GoodPart (outside n Body) m.body) (omega arith)
    (subst (λ (x : NotedParts). GoodPart (outside place Body) x.body) (same_Some first m e) here)
good_at outside place (suc k) (first ∷ rest) m good e =
    let there = good_at outside (place + 1) k rest m good.2 e in
    subst (λ n. GoodPart (outside n Body) m.body) (omega arith) there

good_among : (outside : Outside) (ds : List NotedDeclaration) (index : ℕ) (d : NotedDeclaration)
    → GoodDeclarations outside ds → slice_get ds index ≡ Some d → GoodDeclaration outside d
good_among outside [] index d good e = absurd (none-some d e)
good_among outside (first ∷ rest) zero d good e = subst (GoodDeclaration outside) (same_Some first d e) good.0
good_among outside (first ∷ rest) (suc index) d good e = good_among outside rest index d good.1 e

-- a declaration with notes of the body of a module is good by what the body sees
pub good_of_body : (outside : ℕ → Part → Outside) (noted : List NotedParts) → GoodModules outside 0 noted
    → (place index : ℕ) (d : NotedDeclaration) → slice_get (body_at noted place) index ≡ Some d
    → GoodDeclaration (outside place Body) d
good_of_body outside noted good place index d e = by (slice_get noted place) refl e
  where
    within : (m : NotedParts) (o : Option NotedEntry) → GoodPart (outside place Body) o
        → slice_get (declared_in o) index ≡ Some d → GoodDeclaration (outside place Body) d
    within m None good e = absurd (none-some d e)
    within m (Some entry) good e = good_among (outside place Body) entry.tree.declarations index d good e

    by : (o : Option NotedParts) → slice_get noted place ≡ o → slice_get (body_of_parts o) index ≡ Some d
        → GoodDeclaration (outside place Body) d
    by None is e = absurd (none-some d e)
    by (Some m) is e = within m m.body
        (subst (λ n. GoodPart (outside n Body) m.body) (zero-add place)
        (good_at outside 0 place noted m good is)) e
