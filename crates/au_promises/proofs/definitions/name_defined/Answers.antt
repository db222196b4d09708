use Rattle.std.proofs.Common.{ap, sym, ◌∙◌, arith}
use Rattle.au_syntax.proofs.DeclarationLemmas.{
  record_says,
  union_says,
  constant_body_says,
  function_body_says,
}
use Rattle.au_promises.specs.Defining as defining
use Rattle.au_promises.specs.Written.{declared_of}
use Rattle.au_promises.proofs.FormLemmas.{no_constant, no_type, no_function}
use Rattle.au_promises.proofs.definitions.name_defined.Goals as goal
use Rattle.au_promises.proofs.definitions.name_defined.Goals.{
  in_default-via-in-Constants+in_default,
  in_default-via-in-Types+in_default,
  in_default-via-in-Functions+in_default,
}

pub returns-in-Constants-ConstantBody : goal.returns-in-Constants-ConstantBody
returns-in-Constants-ConstantBody c = grind (arith, constant_body_says)

pub returns-in-Types-Record : goal.returns-in-Types-Record
returns-in-Types-Record c = grind (arith, record_says, union_says)

pub returns-in-Functions-FunctionBody : goal.returns-in-Functions-FunctionBody
returns-in-Functions-FunctionBody c = grind (arith, function_body_says)

pub returns-in_default : goal.returns-in_default
returns-in_default c =
    let d = c.args.decl.now in
    elim c.in_default.branch [
      | in_default-via-in-Constants+in_default w ↦
          let other = w.in_default in
          sym (ap (λ sort. defining.name_defined sort (declared_of d)) other.is-0
          ∙ (no_constant d other.not-ConstantBody-1).0)
      | in_default-via-in-Types+in_default w ↦
          let other = w.in_default in
          sym (ap (λ sort. defining.name_defined sort (declared_of d)) other.is-0
          ∙ (no_type d other.not-Record-1 other.not-Union-1).0)
      | in_default-via-in-Functions+in_default w ↦
          let other = w.in_default in
          sym (ap (λ sort. defining.name_defined sort (declared_of d)) other.is-0
          ∙ (no_function d other.not-FunctionBody-1).0)
    ]
