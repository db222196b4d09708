use Rattle.std.proofs.Common.{◌≡◌, map, subst}
use Rattle.std.specs.Prelude.{IfOk}
use Rattle.au_sights.specs.contracts.noted.NotedPhase.TheImpl.{ghosts as noted}
use Rattle.au_syntax.specs.declared.modules.Part.TheVariants.{Body}
use Rattle.au_syntax.specs.Views.{block}
use Rattle.au_types.specs.declared.spaces.Space.TheVariants.{Callables}
use Rattle.au_types.specs.Tables.{find}
use Rattle.au_modules.specs.Slots as slots
use Rattle.au_typing.specs.Written.{seen_in}
use Rattle.au_closed_trees.specs.Calls.{calls_in_block}
use Rattle.au_caps.specs.Calls.{target_leads}
use Rattle.au_caps.specs.Views.{callee_said}
use Rattle.au_caps_lists.proofs.KnownLemmas.{known_at}
use Rattle.au_caps.proofs.edges.calls_in.Goals as goal

pub returns : goal.returns
returns c =
    let program = slots.modules c.args.program.now in
    let place = c.args.body.now.place in
    let same = known_at program place c.names-names.result.now.callables
    (seen_in Callables program place Body) c.requires
    c.names-names.ensures.callables in
    subst (λ leads. IfOk c.calls_in_block.result (λ called. map callee_said called.items
    ≡ calls_in_block leads (block noted c.args.body.now.block.now)))
    (λ i note x name. target_leads program note (find name (same i))) c.calls_in_block.ensures
