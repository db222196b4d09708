use Rattle.std.proofs.Common.{ap, sym, ◌∙◌}
use Rattle.std.specs.Prelude.{slice_get}
use Rattle.au_syntax.specs.contracts.parsed.ParsedPhase.TheImpl.{ghosts as parsed}
use Rattle.au_syntax.specs.Plain.{plain_method}
use Rattle.au_syntax.specs.Views.{method_body}
use Rattle.au_types.specs.Tables as tables
use Rattle.au_promises.proofs.DefinitionLemmas.{seen_got}
use Rattle.au_classes.specs.InstanceViews.{methods_of}
use Rattle.au_classes.proofs.MethodLemmas.{method_found, method_missing}
use Rattle.au_classes.proofs.methods.method_named.Goals as goal

pub returns-in-None : goal.returns-in-None
returns-in-None c =
    sym (method_missing (methods_of c.args.methods.now.items) c.args.by_name.now c.args.name.now c.requires
    (sym (c.in-None.ensures ∙ ap (λ n. tables.find n c.args.by_name.now) c.as_bytes.ensures.bytes)))

pub returns-in-Some : goal.returns-in-Some
returns-in-Some c =
    seen_got (plain_method parsed.name_bytes) (method_body parsed) c.deref.result.now c.in-Some.index.now
    c.get-in-Some.result c.get-in-Some.ensures.lookup.0 c.get-in-Some.ensures.lookup.1
    ∙ ap (λ r. slice_get (methods_of r) c.in-Some.index.now) c.deref.ensures.value
    ∙ method_found (methods_of c.args.methods.now.items) c.args.by_name.now c.args.name.now
    c.in-Some.index.now c.requires
    (sym (c.in-Some.ensures ∙ ap (λ n. tables.find n c.args.by_name.now) c.as_bytes.ensures.bytes))
