use Rattle.std.proofs.Common.{◌++◌, ◌+◌, length, ap, ◌∙◌, drop, arith}
use Rattle.std.proofs.lemmas.List.{drop_all}
use Rattle.au_base.proofs.ListLemmas.{seen_left}
use Rattle.au_syntax.specs.contracts.parsed.ParsedPhase.TheImpl.{ghosts as parsed}
use Rattle.au_syntax.specs.Plain.{plain_declaration}
use Rattle.au_syntax.specs.Views.{declaration}
use Rattle.au_names.specs.Walks.{rows_on, walk_over, written, written_all}
use Rattle.au_names.proofs.WalkLemmas as lemmas
use Rattle.au_names.proofs.walking.pass_all.Goals as goal

pub pass-requires : goal.pass-requires
pass-requires c =
    let same = ap length c.deref-one-items.ensures.value in
    let within = c.loop-one-test.true in
    record {
      free = c.loop-one.invariant.free;
      fits = omega (arith, c.requires.fits, same, within, c.loop-one.invariant.number);
    }

pub loop-one-preserved : goal.loop-one-preserved
loop-one-preserved c =
    let items = c.deref-one-items.result.now in
    let i = c.loop-one.one-index in
    let w = c.loop-one.walk in
    let next = c.pass.new.walk in
    let d = written c.one-item.result in
    let split =
    seen_left (plain_declaration parsed.name_bytes) (declaration parsed) items i c.one-item.result
    c.loop-one-test.true c.one-item.is in
    record {
      rows =
          lemmas.rows_next w next c.args.owner.now d c.loop-one.heads c.pass.new.heads
          (c.args.heads.now ++ rows_on c.args.walk.now c.args.owner.now (written_all items))
          (written_all (drop i items)) (written_all (drop (i + 1) items)) split c.loop-one.invariant.rows
          c.in_ok-pass.ensures.rows c.in_ok-pass.ensures.walk;
      walk =
          lemmas.walk_next w next (walk_over c.args.walk.now (written_all items)) d
          (written_all (drop i items))
          (written_all (drop (i + 1) items)) split c.loop-one.invariant.walk c.in_ok-pass.ensures.walk;
      free = c.in_ok-pass.ensures.free;
      number = omega (arith, c.loop-one.invariant.number, ap (λ v. v.number) c.in_ok-pass.ensures.walk);
    }

pub returns-clause-rows : goal.returns-clause-rows
returns-clause-rows c =
    let items = c.deref-one-items.result.now in
    let i = c.loop-one.one-index in
    let none = ap written_all (drop_all i items c.loop-one-test.false) in
    lemmas.rows_end c.loop-one.walk c.args.owner.now c.loop-one.heads
    (c.args.heads.now ++ rows_on c.args.walk.now c.args.owner.now (written_all items))
    (written_all (drop i items)) none c.loop-one.invariant.rows
    ∙ ap (λ r. c.args.heads.now ++ rows_on c.args.walk.now c.args.owner.now (written_all r))
    c.deref-one-items.ensures.value

pub returns-clause-walk : goal.returns-clause-walk
returns-clause-walk c =
    let items = c.deref-one-items.result.now in
    let i = c.loop-one.one-index in
    let none = ap written_all (drop_all i items c.loop-one-test.false) in
    lemmas.walk_end c.loop-one.walk (walk_over c.args.walk.now (written_all items))
    (written_all (drop i items)) none c.loop-one.invariant.walk
    ∙ ap (λ r. walk_over c.args.walk.now (written_all r)) c.deref-one-items.ensures.value
