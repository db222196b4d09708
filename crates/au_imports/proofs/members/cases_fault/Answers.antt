use Rattle.std.proofs.Common.{ℕ, List, ap, ◌∙◌}
use Rattle.au_syntax.specs.contracts.parsed.ParsedPhase.TheImpl.{ghosts as parsed}
use Rattle.au_syntax.specs.declared.declarations.UnionCase.{UnionCase}
use Rattle.au_syntax.specs.declared.parsed.Parsed.{Parsed}
use Rattle.au_syntax.specs.Plain.{Bytes, plain_variant}
use Rattle.au_syntax.specs.Views.{variant}
use Rattle.au_types.specs.DeclaredNames.{given}
use Rattle.au_names.specs.declared.targets.Target.{Target}
use Rattle.au_names.specs.Owned.{target, targets}
use Rattle.au_imports.specs.Choices.{first_of}
use Rattle.au_imports.specs.Importers.{fault_in}
use Rattle.au_imports.specs.Written.{cases_of}
use Rattle.au_imports.proofs.DeclaringLemmas.{first_more, first_none, found_here, not_here, nowhere}
use Rattle.au_imports.proofs.members.cases_fault.Goals as goal

-- what comes along by a case, and by several
abbrev come : ℕ → ℕ → UnionCase Parsed (List ℕ) (Unit {0}) (Unit {0}) → Bytes × Target
come place number one =
    let name = (plain_variant parsed.name_bytes (variant parsed one)).name.name in
    (name, target place name number)

abbrev all_come : ℕ → ℕ → List (UnionCase Parsed (List ℕ) (Unit {0}) (Unit {0})) → List (Bytes × Target)
all_come place number all = targets place (given number (cases_of all))

pub returns-in-Some : goal.returns-in-Some
returns-in-Some c = λ m other this.
    let f = fault_in c.args.importer.now m c.args.at.«module» other c.args.stands in
    let one = come c.args.at.«module» c.args.at.decl in
    let all = all_come c.args.at.«module» c.args.at.decl in
    let items = c.deref-one-items.result.now in
    found_here (λ xs. first_of f (all xs)) (λ x. f (one x)) (λ x xs. first_more f (one x) (all xs))
    items c.loop-one.one-index c.one-item.result _ c.in-Some.fault (first_of f (all items))
    c.loop-one-test.true c.one-item.is (c.loop-one.invariant m other this)
    (c.in_ok-fault.ensures m other this) c.in-Some.is
    ∙ ap (λ xs. first_of f (all xs)) c.deref-one-items.ensures.value

pub loop-one-preserved : goal.loop-one-preserved
loop-one-preserved c = λ m other this.
    let f = fault_in c.args.importer.now m c.args.at.«module» other c.args.stands in
    let one = come c.args.at.«module» c.args.at.decl in
    let all = all_come c.args.at.«module» c.args.at.decl in
    let items = c.deref-one-items.result.now in
    not_here (λ xs. first_of f (all xs)) (λ x. f (one x)) (λ x xs. first_more f (one x) (all xs))
    items c.loop-one.one-index c.one-item.result _ (first_of f (all items))
    c.loop-one-test.true c.one-item.is (c.loop-one.invariant m other this)
    (c.in_ok-fault.ensures m other this) c.in_default.is

pub returns : goal.returns
returns c = λ m other this.
    let f = fault_in c.args.importer.now m c.args.at.«module» other c.args.stands in
    let all = all_come c.args.at.«module» c.args.at.decl in
    let items = c.deref-one-items.result.now in
    nowhere (λ xs. first_of f (all xs)) (first_none f) items c.loop-one.one-index (first_of f (all items))
    c.loop-one-test.false (c.loop-one.invariant m other this)
    ∙ ap (λ xs. first_of f (all xs)) c.deref-one-items.ensures.value
