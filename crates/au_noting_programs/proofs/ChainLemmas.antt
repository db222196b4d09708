-- Lists that are judged item by item, in order.
use Rattle.std.proofs.Common.{◌≡◌, ℕ, ◌+◌, ◌<◌, List, [], ◌∷◌, ◌++◌, length, map, drop, get_or, Result, Ok}
use Rattle.std.proofs.Common.{Err, refl, sym, ap, subst, ◌∙◌}
use Rattle.std.proofs.lemmas.List.{append_assoc, map-append}
use Rattle.au_base.proofs.ListLemmas.{next_item}
use Rattle.au_typing.specs.DerivationFaults.{Judged, StatementFault, ◌then◌, refused, too_large}
use Rattle.au_judgements.specs.declared.refusals.Refused.{Refused}
use Rattle.au_judgements.specs.declared.refusals.Refused.TheVariants as told
use Rattle.au_judgements.specs.Refusing.{Judges, Refuses}
use Rattle.au_noting.specs.declared.faults.Fault.{Fault}
use Rattle.au_noting.specs.Giving.{Gives, Stops, cause_said}
use Rattle.au_typing.specs.Faults.{Noting}

-- what is judged first, in front of the others
abbrev pub followed : {B : Type 0} → Judged B → Judged (List B) → Judged (List B)
followed first rest = first then λ y. rest then λ all. Ok (y ∷ all)

-- each item of a list
abbrev pub each : {A B : Type 0} → (A → Judged B) → List A → Judged (List B)
each f [] = Ok []
each f (x ∷ rest) = followed (f x) (each f rest)

-- what is made already, before what the others come to
abbrev pub behind : {B : Type 0} → List B → Judged (List B) → Judged (List B)
behind made rest = rest then λ all. Ok (made ++ all)

module _ {B : Type 0} where
  behind_more : (made : List B) (y : B) (rest : Judged (List B)) → behind made (followed (Ok y) rest)
      ≡ behind (made ++ y ∷ []) rest
  behind_more made y (Ok all) = ap Ok (sym (append_assoc made (y ∷ []) all))
  behind_more made y (Err fault) = refl

  -- one more is made
  pub more : (made : List B) (first : Judged B) (y : B) (rest : Judged (List B)) → first ≡ Ok y →
      behind made (followed first rest) ≡ behind (made ++ y ∷ []) rest
  more made first y rest is = ap (λ r. behind made (followed r rest)) is ∙ behind_more made y rest

  -- the next one stops
  pub stops : (made : List B) (first : Judged B) (fault : StatementFault) (rest : Judged (List B)) →
      first ≡ Err fault → behind made (followed first rest) ≡ Err fault
  stops made first fault rest is = ap (λ r. behind made (followed r rest)) is

  -- nothing is made yet
  pub begins : (rest : Judged (List B)) → rest ≡ behind [] rest
  begins (Ok all) = refl
  begins (Err fault) = refl

-- items of the code, each seen
module _ {A B X Y : Type 0} (f : A → Judged B) (see : X → A) (seen : Y → B) where
  abbrev left : List X → Judged (List B)
  left xs = each f (map see xs)

  module _ (whole : Judged (List B)) (made : List Y) (xs : List X) (i : ℕ) where
    pub loop_more : (x : X) (y : Y) → whole ≡ behind (map seen made) (left (drop i xs)) → i < length xs →
        x ≡ get_or xs i x → f (see x) ≡ Ok (seen y)
        → whole ≡ behind (map seen (made ++ y ∷ [])) (left (drop (i + 1) xs))
    loop_more x y so_far within is judged =
        so_far
        ∙ ap (λ rest. behind (map seen made) (left rest)) (next_item xs i x is within)
        ∙ more (map seen made) (f (see x)) (seen y) (left (drop (i + 1) xs)) judged
        ∙ ap (λ all. behind all (left (drop (i + 1) xs))) (sym (map-append seen made (y ∷ [])))

    pub loop_stops : (x : X) (fault : StatementFault) → whole ≡ behind (map seen made) (left (drop i xs)) →
        i < length xs → x ≡ get_or xs i x → f (see x) ≡ Err fault
        → whole ≡ Err fault
    loop_stops x fault so_far within is judged =
        so_far
        ∙ ap (λ rest. behind (map seen made) (left rest)) (next_item xs i x is within)
        ∙ stops (map seen made) (f (see x)) fault (left (drop (i + 1) xs)) judged

-- What a call is refused for is that for which the search refuses the whole.
pub refuses_whole : {A B : Type 0} (e : Refused) (part : Judged A) (whole : Judged B) →
    ((fault : StatementFault) → part ≡ Err fault → whole ≡ Err fault) → Refuses e part → Refuses e whole
refuses_whole (told.Statement at cause) part whole h r = h (refused at (cause_said cause)) r
refuses_whole (told.Limit passed) part whole h r = h (too_large passed) r
refuses_whole told.Memory part whole h r = tt

-- what a call hands on that it was refused for
pub judged_err : {X A : Type 0} (view : X → A) (r : Result X Refused) (e : Refused) (whole : Judged A) →
    (y : Refused) × (r ≡ Err y) × (y ≡ e) → Refuses e whole → Judges view r whole
judged_err view r e whole p h = subst (λ q. Judges view q whole) (sym p.1) (subst (λ y. Refuses y whole) (sym p.2) h)

-- what a call hands on that stopped it
pub given_err : {X A : Type 0} (view : X → A) (r : Result X Fault) (e : Fault) (whole : Noting A) →
    (y : Fault) × (r ≡ Err y) × (y ≡ e) → Stops e whole → Gives view r whole
given_err view r e whole p h = subst (λ q. Gives view q whole) (sym p.1) (subst (λ y. Stops y whole) (sym p.2) h)
