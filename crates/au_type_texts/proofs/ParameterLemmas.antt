-- A type closes exactly where no type parameter stands in it.
use Rattle.std.proofs.Common.{◌≡◌, Bool, true, false, not, ◌&&◌, ◌||◌, Option, None, Some, refl, ap, ◌∙◌}
use Rattle.std.specs.Prelude.{is_some}
use Rattle.std.specs.Option.{option_map}
use Rattle.au_types.specs.Types as whole
use Rattle.au_types.specs.Types.{Meaning, Argument, Arguments}
use Rattle.au_type_texts.specs.Closing.{all_closed, argument_closed, closed, in_front}
use Rattle.au_type_texts.specs.Parameters.{argument_has, has_parameter, have_parameter}
use Rattle.au_type_texts.specs.Types.{ClosedType, ClosedTypes, named, reads, writes}

map_some : (f : ClosedType → ClosedType) (o : Option ClosedType) → is_some (option_map f o) ≡ is_some o
map_some f None = refl
map_some f (Some one) = refl

named_some : (f : ClosedTypes → ClosedType) (o : Option ClosedTypes) → is_some (option_map f o) ≡ is_some o
named_some f None = refl
named_some f (Some list) = refl

front_some : (one : Option ClosedType) (rest : Option ClosedTypes) → is_some (in_front one rest)
    ≡ is_some one && is_some rest
front_some None None = refl
front_some None (Some rest) = refl
front_some (Some one) None = refl
front_some (Some one) (Some rest) = refl

not_or : (a b : Bool) → not a && not b ≡ not (a || b)
not_or true b = refl
not_or false b = refl

mutual
  pub closes : (t : Meaning) → is_some (closed t) ≡ not (has_parameter t)
  closes whole.unit = refl
  closes whole.truth = refl
  closes (whole.integer kind) = refl
  closes whole.text = refl
  closes (whole.parameter name) = refl
  closes (whole.named at args) = named_some (named at) (all_closed args) ∙ all_close args
  closes (whole.reads to region) = map_some reads (closed to) ∙ closes to
  closes (whole.writes to region) = map_some writes (closed to) ∙ closes to

  argument_closes : (one : Argument) (rest : Option ClosedTypes) → is_some (argument_closed one rest)
      ≡ not (argument_has one) && is_some rest
  argument_closes (whole.of_type t) rest = front_some (closed t) rest ∙ ap (λ b. b && is_some rest) (closes t)
  argument_closes (whole.in_region region) rest = refl

  all_close : (args : Arguments) → is_some (all_closed args) ≡ not (have_parameter args)
  all_close whole.no_arguments = refl
  all_close (whole.arguments one rest) =
      argument_closes one (all_closed rest) ∙ ap (λ b. not (argument_has one) && b) (all_close rest)
      ∙ not_or (argument_has one) (have_parameter rest)
