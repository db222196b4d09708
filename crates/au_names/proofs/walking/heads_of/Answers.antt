use Rattle.std.proofs.Common.{◌<◌, ◌≤◌, length, arith}
use Rattle.au_modules.specs.Slots.{modules}
use Rattle.au_names.specs.HeadsOf.{rows_from}
use Rattle.au_names.proofs.WalkLemmas.{from_next, from_end}
use Rattle.au_names.proofs.walking.heads_of.Goals as goal

pub loop-place-preserved : goal.loop-place-preserved
loop-place-preserved c =
    let program = modules c.args.program.now in
    let within : c.loop-place.place < length program = omega arith in
    record {
      rows =
          from_next program c.loop-place.place c.loop-place.heads c.push_module.new.heads
          (rows_from 0 program)
          within c.loop-place.invariant.rows c.in_ok-push_module.ensures.rows;
      free = c.in_ok-push_module.ensures.free;
    }

pub returns : goal.returns
returns c =
    let program = modules c.args.program.now in
    let past : length program ≤ c.loop-place.place = omega arith in
    from_end program c.loop-place.place c.loop-place.heads (rows_from 0 program) past
    c.loop-place.invariant.rows
