use Rattle.std.proofs.Common.{◌≡◌, IfOk, ap, subst, sym, ◌∙◌}
use Rattle.std.specs.Prelude.{position}
use Rattle.au_syntax.specs.Views.{declaration}
use Rattle.au_types.specs.Tables as tables
use Rattle.au_promises.specs.Promises.{defines}
use Rattle.au_promises.specs.Written.{declared_of, sight_in}
use Rattle.au_closed_programs.proofs.FindingLemmas.{nothing_placed}
use Rattle.au_closed_programs.proofs.defining.index_in.Goals as goal

pub returns-in-Constant : goal.returns-in-Constant
unfolding declaration
returns-in-Constant c all are =
    c.copied.ensures
    ∙ c.get.ensures
    ∙ ap (λ n. tables.find n c.args.definitions.now.names.constants) c.as_bytes.ensures.bytes
    ∙ are.names.constants c.in-Constant.name.name
    ∙ sym (ap (λ d. position (defines (sight_in c.args.sight.now) (declared_of d)) all) c.in-Constant.is)

pub returns-in-Opaque : goal.returns-in-Opaque
unfolding declaration
returns-in-Opaque c all are =
    c.copied-in-Opaque.ensures
    ∙ c.get-in-Opaque.ensures
    ∙ ap (λ n. tables.find n c.args.definitions.now.names.types) c.as_bytes-in-Opaque.ensures.bytes
    ∙ are.names.types c.in-Opaque.name.name
    ∙ sym (ap (λ d. position (defines (sight_in c.args.sight.now) (declared_of d)) all) c.in-Opaque.is)

pub returns-in-Function : goal.returns-in-Function
unfolding declaration
returns-in-Function c all are =
    c.copied-in-Function.ensures
    ∙ c.get-in-Function.ensures
    ∙ ap (λ n. tables.find n c.args.definitions.now.names.functions) c.as_bytes-in-Function.ensures.bytes
    ∙ are.names.functions c.in-Function.one.name.name
    ∙ sym (ap (λ d. position (defines (sight_in c.args.sight.now) (declared_of d)) all) c.in-Function.is)

pub returns-in-Instance : goal.returns-in-Instance
unfolding declaration
returns-in-Instance c all are =
    let sight = sight_in c.args.sight.now in
    subst (λ d. IfOk c.instance_in.result (λ index. index ≡ position (defines sight (declared_of d)) all))
    (sym c.in-Instance.is) (c.instance_in.ensures all are)

pub returns-in-Record : goal.returns-in-Record
unfolding declaration
returns-in-Record c all are =
    sym (ap (λ d. position (defines (sight_in c.args.sight.now) (declared_of d)) all) c.in-Record.is
    ∙ nothing_placed all)

pub returns-in-Union : goal.returns-in-Union
unfolding declaration
returns-in-Union c all are =
    sym (ap (λ d. position (defines (sight_in c.args.sight.now) (declared_of d)) all) c.in-Union.is
    ∙ nothing_placed all)

pub returns-in-Class : goal.returns-in-Class
unfolding declaration
returns-in-Class c all are =
    sym (ap (λ d. position (defines (sight_in c.args.sight.now) (declared_of d)) all) c.in-Class.is
    ∙ nothing_placed all)

pub returns-in-ConstantBody : goal.returns-in-ConstantBody
unfolding declaration
returns-in-ConstantBody c all are =
    sym (ap (λ d. position (defines (sight_in c.args.sight.now) (declared_of d)) all) c.in-ConstantBody.is
    ∙ nothing_placed all)

pub returns-in-FunctionBody : goal.returns-in-FunctionBody
unfolding declaration
returns-in-FunctionBody c all are =
    sym (ap (λ d. position (defines (sight_in c.args.sight.now) (declared_of d)) all) c.in-FunctionBody.is
    ∙ nothing_placed all)

pub returns-in-InstanceBody : goal.returns-in-InstanceBody
unfolding declaration
returns-in-InstanceBody c all are =
    sym (ap (λ d. position (defines (sight_in c.args.sight.now) (declared_of d)) all) c.in-InstanceBody.is
    ∙ nothing_placed all)
