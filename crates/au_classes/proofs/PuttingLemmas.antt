-- What one name makes of an empty substitution.
use Rattle.std.proofs.Common.{◌≡◌, ℕ, List, [], ◌∷◌, ap, ◌∙◌}
use Rattle.au_types.specs.Types as mean
use Rattle.au_types.specs.Types.{Meaning, Argument}
use Rattle.au_matching.specs.Bindings.{Bindings, with_pair}

-- one name put alone
pub put_alone : (made before : Bindings) (name own : List ℕ) (value : Argument) (head : Meaning) →
    made ≡ with_pair name value before → before ≡ [] → name ≡ own → value ≡ mean.of_type head
    → made ≡ (own, mean.of_type head) ∷ []
put_alone made before name own value head is none same of =
    is
    ∙ ap (with_pair name value) none
    ∙ ap (λ n. with_pair n value []) same
    ∙ ap (λ v. with_pair own v []) of
