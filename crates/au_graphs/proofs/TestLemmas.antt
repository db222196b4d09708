-- Two tests of sameness are one.
use Rattle.std.proofs.Common.{◌≡◌, Bool, true, subst}
use Rattle.au_base.proofs.BoolLemmas.{same_truth}
use Rattle.au_graphs.specs.Reached.{TellsSame}

pub same_tests : {A : Type 0} (one other : A → A → Bool) → TellsSame one → TellsSame other → one ≡ other
same_tests one other these those = λ i x y.
    same_truth (one x y) (other x y)
    (λ is. subst (λ z. other x z ≡ true) (these.agrees x y is) (those.itself x))
    (λ is. subst (λ z. one x z ≡ true) (those.agrees x y is) (these.itself x)) i
