-- What a written type means doesn't depend on the places of its names.
use Rattle.std.proofs.Common.{◌≡◌, List, ◌∷◌, refl, ap, ◌∙◌}
use Rattle.au_base.specs.declared.places.Pos.{Pos}
use Rattle.au_syntax.specs.Plain.{Bytes}
use Rattle.au_syntax.specs.Types.{WrittenType, WrittenTypes, named, reference, no_types, types}
use Rattle.au_types.specs.declared.headings.Head.{Head}
use Rattle.au_types.specs.declared.parameters.Parameter.{Parameter}
use Rattle.au_types.specs.declared.types.DeclAt.{DeclAt}
use Rattle.au_types.specs.Senses.{sense_of}
use Rattle.au_types.specs.Meant.{refers, region_of, applied, region_meant, meant, all_given}
use Rattle.au_types.specs.Moved.{moved, all_moved}

module _ (opened : List Bytes) (params : List Parameter) (visible : List (Bytes × DeclAt))
    (heads : List (DeclAt × Head)) where
  region_moved : (at : Pos) (t : WrittenType) → region_meant opened params visible heads (moved at t)
      ≡ region_meant opened params visible heads t
  unfolding moved all_moved
  region_moved at (named name no_types) = refl
  region_moved at (named name (types t rest)) = refl
  region_moved at (reference place kind target region) = refl

  mutual
    unfolding meant all_given moved all_moved

    pub meant_moved : (at : Pos) (t : WrittenType) → meant opened params visible heads (moved at t)
        ≡ meant opened params visible heads t
    meant_moved at (named name args) = ap (applied (sense_of opened params visible heads name.name))
        (given_moved at args)
    meant_moved at (reference place kind target region) =
        ap (λ t. refers kind t (region_of (sense_of opened params visible heads region.name)))
        (meant_moved at target)

    given_moved : (at : Pos) (args : WrittenTypes) → all_given opened params visible heads (all_moved at args)
        ≡ all_given opened params visible heads args
    given_moved at no_types = refl
    given_moved at (types t rest) =
        ap (λ a. record { as_type = a; as_region = region_meant opened params visible heads (moved at t) } ∷
        all_given opened params visible heads (all_moved at rest)) (meant_moved at t)
        ∙ ap (λ r. record { as_type = meant opened params visible heads t; as_region = r } ∷ all_given opened
        params visible heads (all_moved at rest)) (region_moved at t)
        ∙ ap (λ all. record {
          as_type = meant opened params visible heads t;
          as_region =
              region_meant opened params visible heads t;
        } ∷ all) (given_moved at rest)
