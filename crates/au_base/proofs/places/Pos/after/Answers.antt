-- Each byte moves the place on, and in the end all bytes have.
use Rattle.std.proofs.Common.{ap, ◌∙◌, ◌++◌, sym, arith, take}
use Rattle.std.proofs.lemmas.List.{take_all}
use Rattle.au_base.specs.Places.{place_after}
use Rattle.au_base.proofs.PlaceLemmas.{front_more}
use Rattle.au_base.proofs.places.Pos.after.Goals as goal

pub loop-byte-preserved : goal.loop-byte-preserved
loop-byte-preserved c =
    let bytes = c.args.bytes.now in
    let i = c.loop-byte.byte-index in
    record {
      file = c.past-at.ensures.file ∙ c.loop-byte.invariant.file;
      line = omega arith;
      column = omega arith;
      place = λ file front e. c.past-at.ensures.place file (front ++ take i bytes)
          (c.loop-byte.invariant.place file front e)
          ∙ ap (place_after file) (sym (front_more front bytes i c.loop-byte-test.true));
    }

pub returns-clause-place : goal.returns-clause-place
returns-clause-place c = λ file front e. c.loop-byte.invariant.place file front e
    ∙ ap (λ x. place_after file (front ++ x)) (take_all _ _ (omega arith))
