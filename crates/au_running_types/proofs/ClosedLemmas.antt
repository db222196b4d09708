-- The closed types of running types.
use Rattle.std.proofs.Common.{◌≡◌, ℕ, Some, refl, ap, ◌∙◌}
use Rattle.std.specs.Option.{option_map}
use Rattle.au_types.specs.Types as whole
use Rattle.au_types.specs.Types.{Meaning, Argument, Arguments, arguments, no_arguments, of_type, in_region}
use Rattle.au_matching.specs.Bindings.{Bindings}
use Rattle.au_matching.specs.Substituted.{substituted, all_substituted}
use Rattle.au_type_texts.specs.Closing.{closed, all_closed, in_front}
use Rattle.au_type_texts.specs.Given.{Given, Closes, closed_under}
use Rattle.au_type_texts.specs.Types.{named, reads, writes}
use Rattle.au_type_texts.proofs.GivenLemmas.{closing_substituted}
use Rattle.au_running_types.specs.Running.{running, all_running}

module _ (s : Bindings) (z : ℕ) where
  mutual
    closes_alike : (t : Meaning) → closed (running s z t) ≡ closed (substituted s t)
    closes_alike whole.unit = refl
    closes_alike whole.truth = refl
    closes_alike (whole.integer kind) = refl
    closes_alike whole.text = refl
    closes_alike (whole.parameter name) = refl
    closes_alike (whole.named at args) = ap (option_map (named at)) (all_close_alike args)
    closes_alike (whole.reads to region) = ap (option_map reads) (closes_alike to)
    closes_alike (whole.writes to region) = ap (option_map writes) (closes_alike to)

    all_close_alike : (args : Arguments) → all_closed (all_running s z args) ≡ all_closed (all_substituted s args)
    all_close_alike no_arguments = refl
    all_close_alike (arguments (of_type t) rest) = λ i. in_front (closes_alike t i) (all_close_alike rest i)
    all_close_alike (arguments (in_region region) rest) = all_close_alike rest

  pub type_closes : (given : Given) (t : Meaning) → Closes given s t
      → closed (running s z t) ≡ Some (closed_under given t)
  type_closes given t each = closes_alike t ∙ closing_substituted given s t each
