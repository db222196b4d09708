use Rattle.std.proofs.Common.{subst, sym}
use Rattle.std.specs.Prelude.{OnOk}
use Rattle.std.proofs.lemmas.Result.{IfOk-weaker}
use Rattle.au_caps.specs.Views.{Grows, callee_said}
use Rattle.au_caps.specs.Webs.{birth_pairs, call_arcs}
use Rattle.au_caps.proofs.GrowLemmas.{IsCalled, grows_called}
use Rattle.au_caps.proofs.edges.add_callee.Goals as goal

pub returns-in-Birth : goal.returns-in-Birth
returns-in-Birth c =
    subst (λ x. OnOk c.add_birth.result (Grows (call_arcs c.args.own (callee_said x))
    (birth_pairs c.args.reaching.now c.args.own (callee_said x)) c.args.web.now c.add_birth.new.web))
    (sym c.in-Birth.is)
    c.add_birth.ensures

pub returns-in-Function : goal.returns-in-Function
returns-in-Function c =
    IfOk-weaker c.add_call.result _ _
    (λ u g. grows_called c.args.reaching.now c.args.own (callee_said c.args.one.now) _ _
    (subst (λ x. IsCalled (callee_said x)) (sym c.in-Function.is) tt) g) c.add_call.ensures

pub returns-in-Method : goal.returns-in-Method
returns-in-Method c =
    IfOk-weaker c.add_call-in-Method.result _ _
    (λ u g. grows_called c.args.reaching.now c.args.own (callee_said c.args.one.now) _ _
    (subst (λ x. IsCalled (callee_said x)) (sym c.in-Method.is) tt) g) c.add_call-in-Method.ensures

pub returns-in-Instance : goal.returns-in-Instance
returns-in-Instance c =
    IfOk-weaker c.add_call-in-Instance.result _ _
    (λ u g. grows_called c.args.reaching.now c.args.own (callee_said c.args.one.now) _ _
    (subst (λ x. IsCalled (callee_said x)) (sym c.in-Instance.is) tt) g) c.add_call-in-Instance.ensures

pub returns-in-Class : goal.returns-in-Class
returns-in-Class c =
    IfOk-weaker c.add_call-in-Class.result _ _
    (λ u g. grows_called c.args.reaching.now c.args.own (callee_said c.args.one.now) _ _
    (subst (λ x. IsCalled (callee_said x)) (sym c.in-Class.is) tt) g) c.add_call-in-Class.ensures
