use Rattle.std.proofs.Common.{sym, ap, ◌∙◌, arith}
use Rattle.au_syntax.specs.Views.{declaration}
use Rattle.au_syntax.proofs.DeclarationLemmas.{
  constant_says,
  opaque_says,
  record_says,
  union_says,
  function_says,
  instance_says,
  constant_body_says,
  function_body_says,
  instance_body_says,
}
use Rattle.au_promises.specs.Promises as spec
use Rattle.au_promises.specs.Written.{declared_of, header_of, sight_in}
use Rattle.au_promises.proofs.FormLemmas.{no_constant, no_type, no_function, no_instance, no_promise}
use Rattle.au_promises.proofs.keeping.keeps.Goals as goal

pub returns-in-Constant-ConstantBody : goal.returns-in-Constant-ConstantBody
returns-in-Constant-ConstantBody c = grind (arith, constant_says, constant_body_says)

pub returns-in-Opaque-Record : goal.returns-in-Opaque-Record
returns-in-Opaque-Record c = grind (arith, opaque_says, record_says, union_says)

pub returns-in-Function-FunctionBody : goal.returns-in-Function-FunctionBody
returns-in-Function-FunctionBody c = grind (arith, function_says, function_body_says)

pub returns-in-Instance-InstanceBody : goal.returns-in-Instance-InstanceBody
returns-in-Instance-InstanceBody c = grind (arith, instance_says, instance_body_says)

-- a constant, defined by what is no constant
pub returns-in_default : goal.returns-in_default
unfolding declaration
returns-in_default c =
    let sight = sight_in c.args.sight.now in
    let d = c.args.decl.now in
    sym (ap (λ p. spec.keeps sight (declared_of p) (declared_of d)) c.in_default.is-0
    ∙ (no_constant d c.in_default.not-ConstantBody-1).1 sight _)

-- an opaque type
pub returns-in_default-2 : goal.returns-in_default-2
unfolding declaration
returns-in_default-2 c =
    let sight = sight_in c.args.sight.now in
    let d = c.args.decl.now in
    sym (ap (λ p. spec.keeps sight (declared_of p) (declared_of d)) c.in_default.is-0
    ∙ (no_type d c.in_default.not-Record-1 c.in_default.not-Union-1).1 _ _)

-- a function
pub returns-in_default-3 : goal.returns-in_default-3
unfolding declaration
returns-in_default-3 c =
    let sight = sight_in c.args.sight.now in
    let d = c.args.decl.now in
    sym (ap (λ p. spec.keeps sight (declared_of p) (declared_of d)) c.in_default.is-0
    ∙ (no_function d c.in_default.not-FunctionBody-1).1 sight _ (header_of c.in_default.field-2-0))

-- an instance
pub returns-in_default-4 : goal.returns-in_default-4
unfolding declaration
returns-in_default-4 c =
    let sight = sight_in c.args.sight.now in
    let d = c.args.decl.now in
    sym (ap (λ p. spec.keeps sight (declared_of p) (declared_of d)) c.in_default.is-0
    ∙ (no_instance d c.in_default.not-InstanceBody-1 sight).1 _)

-- what promises nothing
pub returns-in_default-5 : goal.returns-in_default-5
returns-in_default-5 c =
    let other = c.in_default in
    sym ((no_promise c.args.promise.now other.not-Constant-0 other.not-Opaque-0 other.not-Function-0
    other.not-Instance-0).kept (sight_in c.args.sight.now) (declared_of c.args.decl.now))
