use Rattle.std.proofs.Common.{◌∷◌, [], refl, sym, ◌∙◌, arith}
use Rattle.au_types.specs.Tables.{with_all}
use Rattle.au_types.proofs.TableLemmas.{with_all-one}
use Rattle.au_names.specs.Meanings.{declared_by}
use Rattle.au_names.proofs.PutLemmas.{put_step, put_end}
use Rattle.au_names.proofs.part_names.declarations.Goals as goal

pub loop-index-preserved : goal.loop-index-preserved
loop-index-preserved c =
    put_step declared_by (λ p. (p.0, p.1.at) ∷ []) (λ x xs. refl) c.loop-index.places c.put.new.self
    (with_all [] (declared_by c.args.table.now)) c.args.table.now c.loop-index.index
    (c.at.result.0.now, c.at.result.1.now) c.at.ensures.pair c.loop-index.invariant
    (c.in_ok-put.ensures.pairs
    ∙ sym (with_all-one c.loop-index.places c.at.result.0.now c.at.result.1.now.at))

pub returns : goal.returns
returns c =
    put_end declared_by refl c.loop-index.places (with_all [] (declared_by c.args.table.now)) c.args.table.now
    c.loop-index.index
    (omega (arith, c.len-index-end.ensures, c.loop-index-test.false)) c.loop-index.invariant
