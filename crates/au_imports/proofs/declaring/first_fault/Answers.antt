use Rattle.std.proofs.Common.{List, map, ap, ◌∙◌}
use Rattle.au_syntax.specs.declared.parsed.Parsed.{Parsed}
use Rattle.au_syntax.specs.declared.declarations.Decl.{Decl}
use Rattle.au_syntax.specs.contracts.parsed.ParsedPhase.TheImpl.{ghosts as parsed}
use Rattle.au_syntax.specs.Plain.{Bytes, PlainDeclaration, plain_declaration}
use Rattle.au_syntax.specs.Views.{declaration}
use Rattle.au_imports.specs.Choices.{first_of}
use Rattle.au_imports.specs.Declaring.{declaration_fault_at}
use Rattle.au_imports.proofs.DeclaringLemmas.{first_more, first_none, found_here, not_here, nowhere}
use Rattle.au_imports.proofs.declaring.first_fault.Goals as goal

-- what a declaration of the code says, and what several say
abbrev said : Decl Parsed Bytes (Unit {0}) (Unit {0}) → PlainDeclaration
said d = plain_declaration parsed.name_bytes (declaration parsed d)

abbrev all_said : List (Decl Parsed Bytes (Unit {0}) (Unit {0})) → List PlainDeclaration
all_said ds = map (plain_declaration parsed.name_bytes) (map (declaration parsed) ds)

pub returns-in-Some : goal.returns-in-Some
returns-in-Some c =
    let f = declaration_fault_at c.args.site.now in
    let items = c.deref-one-items.result.now in
    found_here (λ ds. first_of f (all_said ds)) (λ d. f (said d))
    (λ d ds. first_more f (said d) (all_said ds)) items c.loop-one.one-index c.one-item.result
    c.in_ok-fault.field-0 c.in-Some.fault (first_of f (all_said items))
    c.loop-one-test.true c.one-item.is c.loop-one.invariant c.in_ok-fault.ensures c.in-Some.is
    ∙ ap (λ ds. first_of f (all_said ds)) c.deref-one-items.ensures.value

pub loop-one-preserved : goal.loop-one-preserved
loop-one-preserved c =
    let f = declaration_fault_at c.args.site.now in
    let items = c.deref-one-items.result.now in
    not_here (λ ds. first_of f (all_said ds)) (λ d. f (said d))
    (λ d ds. first_more f (said d) (all_said ds)) items c.loop-one.one-index c.one-item.result
    c.in_ok-fault.field-0 (first_of f (all_said items))
    c.loop-one-test.true c.one-item.is c.loop-one.invariant c.in_ok-fault.ensures c.in-None.is

pub returns : goal.returns
returns c =
    let f = declaration_fault_at c.args.site.now in
    let items = c.deref-one-items.result.now in
    nowhere (λ ds. first_of f (all_said ds)) (first_none f) items c.loop-one.one-index
    (first_of f (all_said items)) c.loop-one-test.false c.loop-one.invariant
    ∙ ap (λ ds. first_of f (all_said ds)) c.deref-one-items.ensures.value
