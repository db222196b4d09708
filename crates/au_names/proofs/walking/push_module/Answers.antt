use Rattle.std.proofs.Common.{refl, ap, arith}
use Rattle.std.specs.Prelude.{slice_get}
use Rattle.std.proofs.lemmas.Result.{on_ok_weaker}
use Rattle.au_modules.specs.Seen.{tree_seen}
use Rattle.au_modules.specs.Slots.{modules}
use Rattle.au_names.specs.Exporting.{declarations_seen}
use Rattle.au_names.specs.declared.walking.Walk.{Walk}
use Rattle.au_modules.proofs.PlaceLemmas.{numbers_fit}
use Rattle.au_names.proofs.ExportLemmas.{few_seen}
use Rattle.au_names.proofs.RowLemmas.{free_behind}
use Rattle.au_names.proofs.WalkLemmas.{module_done, number_over, on_ok_both, place_done}
use Rattle.au_names.proofs.walking.push_module.Goals as goal

pub returns-clause-rows : goal.returns-clause-rows
returns-clause-rows c =
    let found = slice_get (modules c.args.program.now) c.args.place in
    on_ok_weaker c.pass_part-2.result
    (module_done c.args.place c.args.place c.new.result found c.name-owner.result.now
    (tree_seen c.interface.result) (tree_seen c.body.result)
    c.args.heads.now c.pass_part.new.heads c.pass_part-2.new.heads c.pass_part.new.walk refl c.new.ensures
    c.name-owner.ensures
    c.interface.ensures c.body.ensures c.in_ok-pass_part.ensures.rows c.in_ok-pass_part.ensures.walk)
    c.pass_part-2.ensures.rows

pub returns-clause-free : goal.returns-clause-free
returns-clause-free c =
    let w = c.pass_part-2.new.walk in
    on_ok_both c.pass_part-2.result
    (λ walk free. free_behind c.args.place w.place w.number c.pass_part-2.new.heads
    (place_done c.args.place c.args.place c.new.result (declarations_seen (tree_seen c.interface.result))
    (declarations_seen (tree_seen c.body.result))
    c.pass_part.new.walk w refl c.in_ok-pass_part.ensures.walk walk)
    free)
    c.pass_part-2.ensures.walk c.pass_part-2.ensures.free

pub pass_part-requires-clause-fits : goal.pass_part-requires-clause-fits
pass_part-requires-clause-fits c =
    omega (
      arith,
      few_seen (tree_seen c.interface.result) _ c.interface.ensures
          (numbers_fit c.args.program.now c.args.place).0,
    )

pub pass_part-requires-2-clause-fits : goal.pass_part-requires-2-clause-fits
pass_part-requires-2-clause-fits c =
    let few = numbers_fit c.args.program.now c.args.place in
    let first = few_seen (tree_seen c.interface.result) _ c.interface.ensures few.0 in
    let second = few_seen (tree_seen c.body.result) _ c.body.ensures few.1 in
    let from : Walk = record { place = c.args.place; number = 0; seen = c.new.result } in
    let here = ap (λ (w : Walk). w.number) c.in_ok-pass_part.ensures.walk in
    omega (arith, first, second, here, number_over from (declarations_seen (tree_seen c.interface.result)))
