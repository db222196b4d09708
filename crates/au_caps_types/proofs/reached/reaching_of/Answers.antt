use Rattle.std.proofs.lemmas.Result.{IfOk-weaker}
use Rattle.au_modules.specs.Slots as slots
use Rattle.au_caps_types.specs.Views.{IsHeld, IsReaching}
use Rattle.au_caps_types.proofs.ReachLemmas.{is_reaching}
use Rattle.au_caps_types.proofs.reached.reaching_of.Goals as goal

pub returns : goal.returns
returns c =
    let program = slots.modules c.args.program.now in
    let ns = c.in_ok-namings.namings.items in
    let hs = c.in_ok-heads.heads.items in
    IfOk-weaker c.reaching_by.result (IsHeld ns hs) (IsReaching program)
    (λ r held. is_reaching program ns hs c.in_ok-namings.ensures c.in_ok-heads.ensures r held) c.reaching_by.ensures
