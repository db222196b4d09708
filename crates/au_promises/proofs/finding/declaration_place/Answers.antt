use Rattle.std.proofs.Common.{arith}
use Rattle.au_syntax.proofs.DeclarationLemmas.{
  constant_says,
  opaque_says,
  record_says,
  union_says,
  function_says,
  class_says,
  instance_says,
  constant_body_says,
  function_body_says,
  instance_body_says,
}
use Rattle.au_promises.proofs.finding.declaration_place.Goals as goal

pub returns : goal.returns
returns c =
    grind (
      arith,
      constant_says,
      opaque_says,
      record_says,
      union_says,
      function_says,
      class_says,
      instance_says,
      constant_body_says,
      function_body_says,
      instance_body_says,
    )
