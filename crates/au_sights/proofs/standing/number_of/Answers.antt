use Rattle.std.proofs.Common.{arith}
use Rattle.std.specs.Prelude.{slice_get}
use Rattle.au_base.specs.Limits.{most_tokens}
use Rattle.au_modules.specs.Slots as slots
use Rattle.au_modules.proofs.PlaceLemmas.{numbers_fit}
use Rattle.au_names.specs.Standing.{standing}
use Rattle.au_sights.proofs.StandingLemmas.{count_few, index_few, within}
use Rattle.au_sights.proofs.standing.number_of.Goals as goal

pub interface_count-requires : goal.interface_count-requires
interface_count-requires c = within (slots.modules c.args.program.now) (standing c.args.found.now) c.requires

pub overflow_cast-result : goal.overflow_cast-result
overflow_cast-result c =
    let few = numbers_fit c.args.program.now c.args.found.now.place in
    omega (arith, index_few (slots.modules c.args.program.now) (standing c.args.found.now) most_tokens c.requires few)

pub overflow_add-result : goal.overflow_add-result
overflow_add-result c =
    let few = numbers_fit c.args.program.now c.args.found.now.place in
    let index = index_few (slots.modules c.args.program.now) (standing c.args.found.now) most_tokens c.requires few in
    let count = count_few (slice_get (slots.modules c.args.program.now) c.args.found.now.place) most_tokens few.0 in
    omega (arith, index, count, c.interface_count.ensures)

pub overflow_cast-result-in-Body : goal.overflow_cast-result-in-Body
overflow_cast-result-in-Body c =
    let few = numbers_fit c.args.program.now c.args.found.now.place in
    let index = index_few (slots.modules c.args.program.now) (standing c.args.found.now) most_tokens c.requires few in
    let count = count_few (slice_get (slots.modules c.args.program.now) c.args.found.now.place) most_tokens few.0 in
    omega (arith, index, count, c.interface_count.ensures)
