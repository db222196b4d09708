-- The bytes that one more call took stand behind those so far.
use Rattle.std.proofs.Common.{◌≤◌, ◌+◌, ◌-◌, ◌∙◌, length, take, drop, subst, arith}
use Rattle.au_base.specs.Outside.{Adds}
use Rattle.au_base.proofs.OutsideLemmas.{adds_both, take_on, length_rest}
use Rattle.au_base.proofs.writing.put_all.Goals as goal

pub loop-done-preserved : goal.loop-done-preserved
loop-done-preserved g c =
    let bytes = c.args.bytes.now in
    let i = c.loop-done.done in
    let n = c.in-Took.size in
    let old = g.O.Sink.written c.args.sink.now in
    let between = g.O.Sink.written c.loop-done.sink in
    let new = g.O.Sink.written c.put.new.self in
    let both = adds_both old between new (take i bytes) (take n (take (length bytes - i) (drop i bytes)))
    c.loop-done.invariant.written c.in-Took.ensures.written in
    let fits : i + n ≤ length bytes = omega (arith, c.in-Took.ensures.part.0, length_rest i bytes) in
    record {
      within = fits;
      quiet = c.in-Took.ensures.faults.1 ∙ c.loop-done.invariant.quiet;
      written = subst (Adds old new) (take_on i n bytes c.loop-done.invariant.within (omega arith)) both;
      nothing = λ none. absurd (omega arith);
    }
