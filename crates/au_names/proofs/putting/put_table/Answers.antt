use Rattle.std.proofs.Common.{◌∷◌, [], refl, sym, ◌∙◌, arith}
use Rattle.au_types.specs.Tables.{with_all}
use Rattle.au_types.proofs.TableLemmas.{with_all-one}
use Rattle.au_names.specs.Owned.{target, targets}
use Rattle.au_names.proofs.PutLemmas.{put_step, put_end}
use Rattle.au_names.proofs.putting.put_table.Goals as goal

pub loop-index-preserved : goal.loop-index-preserved
loop-index-preserved c =
    let place = c.args.place in
    put_step (targets place) (λ p. (p.0, target place p.0 p.1) ∷ []) (λ x xs. refl) c.loop-index.table
    c.put_target.new.table
    (with_all c.args.table.now (targets place c.args.names.now)) c.args.names.now c.loop-index.index
    (c.at.result.0.now, c.at.result.1.now) c.at.ensures.pair c.loop-index.invariant
    (c.in_ok-put_target.ensures
    ∙ sym
    (with_all-one c.loop-index.table c.at.result.0.now
    (target place c.at.result.0.now c.at.result.1.now)))

pub returns : goal.returns
returns c =
    put_end (targets c.args.place) refl c.loop-index.table
    (with_all c.args.table.now (targets c.args.place c.args.names.now)) c.args.names.now c.loop-index.index
    (omega (arith, c.len-index-end.ensures, c.loop-index-test.false)) c.loop-index.invariant
