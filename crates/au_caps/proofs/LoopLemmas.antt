-- Bodies that a loop visits.
use Rattle.std.proofs.Common.{◌≡◌, ℕ, ◌+◌, ◌<◌, List, [], ◌∷◌, ◌++◌, Some, length, take, get_or, sym}
use Rattle.std.proofs.Common.{ap, ◌∙◌, Contains, arith}
use Rattle.std.specs.Option.{option_map}
use Rattle.std.specs.Prelude.{slice_get}
use Rattle.std.proofs.lemmas.List.{length-map, length-take-le}
use Rattle.std.proofs.lemmas.Option.{slice_get-get_or, slice_get-map}
use Rattle.au_names.proofs.AmongLemmas.{contains}
use Rattle.au_caps_lists.specs.declared.bodies.Body as code
use Rattle.au_caps_lists.specs.Views.{bodies_said, body_said}
use Rattle.au_caps_lists.proofs.LoopLemmas.{mapped_more}
use Rattle.au_caps.proofs.WebLemmas.{there_among}

module _ (xs : List code.Body) (i : ℕ) (x : code.Body) (within : i < length xs) (is : x ≡ get_or xs i x) where
  pub said_more : bodies_said (take (i + 1) xs) ≡ bodies_said (take i xs) ++ body_said x ∷ []
  said_more = mapped_more xs i x within is body_said

  -- the body at a place
  pub body_at : slice_get (bodies_said xs) i ≡ Some (body_said x)
  body_at =
      slice_get-map body_said xs i
      ∙ ap (option_map body_said) (slice_get-get_or xs i x within ∙ ap (λ y. Some y) (sym is))

  pub body_listed : Contains (bodies_said xs) (body_said x)
  body_listed = contains (bodies_said xs) (body_said x) (there_among (bodies_said xs) i (body_said x) body_at)

  -- how many there are before it
  pub before_long : length (bodies_said (take i xs)) ≡ i
  before_long = length-map (take i xs) body_said ∙ length-take-le i xs (omega arith)
