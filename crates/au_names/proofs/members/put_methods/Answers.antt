use Rattle.std.proofs.Common.{◌∷◌, [], map, refl, ap, ◌∙◌}
use Rattle.au_syntax.specs.Plain.{plain_header}
use Rattle.au_syntax.specs.Views.{header}
use Rattle.au_syntax.specs.contracts.parsed.ParsedPhase.TheImpl.{ghosts as parsed}
use Rattle.au_types.specs.DeclaredNames.{given}
use Rattle.au_types.specs.Tables.{with_all}
use Rattle.au_names.specs.Owned.{target, targets}
use Rattle.au_names.proofs.PutLemmas.{put_step, put_end, read_at, target_put}
use Rattle.au_names.proofs.members.put_methods.Goals as goal

pub loop-one-preserved : goal.loop-one-preserved
loop-one-preserved c =
    let place = c.args.at.«module» in
    let number = c.args.at.decl in
    let before = c.loop-one.table in
    let item = c.one-item.result in
    put_step
    (λ xs.
    targets place
    (given number
    (map (λ one. one.name.name)
    (map (plain_header parsed.name_bytes) (map (header parsed) xs)))))
    (λ x. (
      (plain_header parsed.name_bytes (header parsed x)).name.name,
      target place (plain_header parsed.name_bytes (header parsed x)).name.name number,
    )
    ∷ [])
    (λ x xs. refl) before c.put_target.new.table
    (with_all c.args.table.now
    (targets place
    (given number
    (map (λ one. one.name.name)
    (map (plain_header parsed.name_bytes)
    (map (header parsed) c.deref-one-items.result.now))))))
    c.deref-one-items.result.now c.loop-one.one-index item
    (read_at c.deref-one-items.result.now c.loop-one.one-index item c.loop-one-test.true c.one-item.is)
    c.loop-one.invariant
    (target_put before c.put_target.new.table c.as_bytes-name.result.now
    (plain_header parsed.name_bytes (header parsed item)).name.name place number
    c.as_bytes-name.ensures.bytes c.in_ok-put_target.ensures)

pub returns : goal.returns
returns c =
    put_end
    (λ xs.
    targets c.args.at.«module»
    (given c.args.at.decl
    (map (λ one. one.name.name)
    (map (plain_header parsed.name_bytes) (map (header parsed) xs)))))
    refl c.loop-one.table
    (with_all c.args.table.now
    (targets c.args.at.«module»
    (given c.args.at.decl
    (map (λ one. one.name.name)
    (map (plain_header parsed.name_bytes)
    (map (header parsed) c.deref-one-items.result.now))))))
    c.deref-one-items.result.now c.loop-one.one-index c.loop-one-test.false c.loop-one.invariant
    ∙ ap
    (λ xs.
    with_all c.args.table.now
    (targets c.args.at.«module»
    (given c.args.at.decl
    (map (λ one. one.name.name)
    (map (plain_header parsed.name_bytes) (map (header parsed) xs))))))
    c.deref-one-items.ensures.value
