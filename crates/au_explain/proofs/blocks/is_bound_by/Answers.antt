use Rattle.std.proofs.Common.{ap, refl, sym, ◌∙◌}
use Rattle.std.specs.Str.{bytes_eq}
use Rattle.au_explain.specs.Mentions.{is_bound_by}
use Rattle.au_explain.specs.Said.{bind_said, binds_said}
use Rattle.au_explain.proofs.PutLemmas as puts
use Rattle.au_lives.specs.Paths.{bound_name}
use Rattle.au_syntax.specs.Names.{Placed}
use Rattle.au_syntax.specs.Plain.{Bytes}
use Rattle.au_explain.proofs.blocks.is_bound_by.Goals as goal

pub returns-then-is_named : goal.returns-then-is_named
returns-then-is_named c =
    puts.found_here (λ b. bytes_eq (bound_name (bind_said b)).name c.args.x.now)
    (λ bs. is_bound_by c.args.x.now (binds_said bs)) (λ b rest. refl)
    c.deref-one-items.result.now c.loop-one.one-index c.one-item.result c.one-item.is c.loop-one-test.true _
    (sym c.if-is_named.true ∙ c.is_named.ensures ∙ ap (λ (n : Placed Bytes). bytes_eq n.name c.args.x.now)
    c.bound_name.ensures)
    c.loop-one.invariant
    ∙ ap (λ bs. is_bound_by c.args.x.now (binds_said bs)) c.deref-one-items.ensures.value

pub loop-one-preserved : goal.loop-one-preserved
loop-one-preserved c =
    puts.not_here (λ b. bytes_eq (bound_name (bind_said b)).name c.args.x.now)
    (λ bs. is_bound_by c.args.x.now (binds_said bs)) (λ b rest. refl)
    c.deref-one-items.result.now c.loop-one.one-index c.one-item.result c.one-item.is c.loop-one-test.true _
    (sym c.if-is_named.false ∙ c.is_named.ensures ∙ ap (λ (n : Placed Bytes). bytes_eq n.name c.args.x.now)
    c.bound_name.ensures)
    c.loop-one.invariant
