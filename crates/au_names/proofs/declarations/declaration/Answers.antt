-- Those of the interface are counted first.
use Rattle.std.proofs.Common.{◌<◌, ◌≤◌, ◌-◌, length, ap, arith, ◌∙◌}
use Rattle.std.specs.Prelude.{slice_get}
use Rattle.au_modules.specs.Seen.{tree_seen}
use Rattle.au_modules.specs.Slots as slots
use Rattle.au_names.specs.Exporting.{declarations_seen}
use Rattle.au_syntax.specs.declared.modules.Part.TheVariants.{Body}
use Rattle.au_names.specs.Standing.{standing_from}
use Rattle.au_names.proofs.StandingLemmas.{body_found, interface_found}
use Rattle.au_names.proofs.declarations.declaration.Goals as goal

pub returns-then-number-first : goal.returns-then-number-first
returns-then-number-first c =
    let seen = tree_seen c.interface_at-interface.result in
    let less : c.args.at.decl < length (declarations_seen seen) =
    omega (arith, c.count_in-first.ensures, c.if-number-first.true) in
    c.declared_in.ensures
    ∙ interface_found c.args.at.«module» c.args.at.decl
    (slice_get (slots.modules c.args.modules.now) c.args.at.«module») seen c.interface_at-interface.ensures
    less

pub returns-else-number-first : goal.returns-else-number-first
returns-else-number-first c =
    let seen = tree_seen c.interface_at-interface.result in
    let body = tree_seen c.body_at-body.result in
    let past : length (declarations_seen seen) ≤ c.args.at.decl =
    omega (arith, c.count_in-first.ensures, c.if-number-first.false) in
    c.declared_in-else-number-first.ensures
    ∙ ap
    (λ n. slice_get (standing_from c.args.at.«module» Body 0 (declarations_seen body)) (c.args.at.decl - n))
    c.count_in-first.ensures
    ∙ body_found c.args.at.«module» c.args.at.decl
    (slice_get (slots.modules c.args.modules.now) c.args.at.«module») seen body
    c.interface_at-interface.ensures c.body_at-body.ensures past
