-- Types without what their regions tell.
use Rattle.au_types.specs.declared.types.Region.TheVariants.{Static}
use Rattle.au_types.specs.Types.{Meaning, Argument, Arguments, unit, truth, integer, text, parameter, named}
use Rattle.au_types.specs.Types.{reads, writes, of_type, in_region, no_arguments, arguments}

unfoldable mutual
  -- a type with `Static` in the place of every region
  pub erased : Meaning → Meaning
  erased unit = unit
  erased truth = truth
  erased (integer kind) = integer kind
  erased text = text
  erased (parameter name) = parameter name
  erased (named at args) = named at (erased_arguments args)
  erased (reads t region) = reads (erased t) Static
  erased (writes t region) = writes (erased t) Static

  -- an argument
  pub erased_argument : Argument → Argument
  erased_argument (of_type t) = of_type (erased t)
  erased_argument (in_region region) = in_region Static

  -- arguments
  pub erased_arguments : Arguments → Arguments
  erased_arguments no_arguments = no_arguments
  erased_arguments (arguments first rest) = arguments (erased_argument first) (erased_arguments rest)
