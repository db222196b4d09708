use Rattle.std.proofs.Common.{◌∷◌, ◌++◌, [], Ok, Err, List, ap, map, ◌∙◌}
use Rattle.std.specs.Prelude.{Result}
use Rattle.au_graphs.specs.declared.faults.WalkFault.{WalkFault}
use Rattle.au_closing.specs.Instances.{Instance}
use Rattle.au_closing.specs.ClosingViews.{instance_said}
use Rattle.au_graphs.specs.Finding.{Finds_all, Refuses, found_in}
use Rattle.au_graphs.specs.Reached.{Lists}
use Rattle.au_graphs.specs.Walks.{IsWithin}
use Rattle.au_closing.specs.Told.{instance_told, most_instances, too_many}
use Rattle.au_closing.specs.WalkViews.{itself}
use Rattle.au_closing.proofs.WalkLemmas.{carried}
use Rattle.au_closing.proofs.reached.reached_instances.Goals as goal

pub returns-in-Ok-clause-lists : goal.returns-in-Ok-clause-lists
returns-in-Ok-clause-lists g c =
    let starts = ap (map instance_said)
    (c.in_ok-push.ensures.items ∙ ap (λ l. l ++ c.args.entry ∷ []) c.new-starts.ensures.items) in
    carried (λ test these. Lists test (g.C.Calls.calls_of c.args.calls.now) these
    (found_in instance_said c.in-Ok.finds))
    (map instance_said c.push.new.self.items) (instance_said c.args.entry ∷ []) starts c.in-Ok.ensures.lists

pub returns-in-Ok-clause-within : goal.returns-in-Ok-clause-within
returns-in-Ok-clause-within g c =
    let starts = ap (map instance_said)
    (c.in_ok-push.ensures.items ∙ ap (λ l. l ++ c.args.entry ∷ []) c.new-starts.ensures.items) in
    carried (λ test these. IsWithin test instance_told most_instances (found_in instance_said c.in-Ok.finds))
    (map instance_said c.push.new.self.items) (instance_said c.args.entry ∷ []) starts c.in-Ok.ensures.within

pub returns-in-Ok-clause-finds : goal.returns-in-Ok-clause-finds
returns-in-Ok-clause-finds g c =
    let starts = ap (map instance_said)
    (c.in_ok-push.ensures.items ∙ ap (λ l. l ++ c.args.entry ∷ []) c.new-starts.ensures.items) in
    carried (λ test these. Finds_all itself (Ok (found_in instance_said c.in-Ok.finds)) test instance_told
    most_instances
    (g.C.Calls.calls_of c.args.calls.now) these)
    (map instance_said c.push.new.self.items) (instance_said c.args.entry ∷ []) starts c.in-Ok.ensures.finds

pub returns-in-Err-clause-finds : goal.returns-in-Err-clause-finds
returns-in-Err-clause-finds g c =
    let starts = ap (map instance_said)
    (c.in_ok-push.ensures.items ∙ ap (λ l. l ++ c.args.entry ∷ []) c.new-starts.ensures.items) in
    carried (λ test these. Finds_all itself (Err c.in-Err.fault) test instance_told most_instances
    (g.C.Calls.calls_of c.args.calls.now) these)
    (map instance_said c.push.new.self.items) (instance_said c.args.entry ∷ []) starts c.in-Err.ensures.finds

pub returns-in-Err-clause-refuses : goal.returns-in-Err-clause-refuses
returns-in-Err-clause-refuses g c =
    let starts = ap (map instance_said)
    (c.in_ok-push.ensures.items ∙ ap (λ l. l ++ c.args.entry ∷ []) c.new-starts.ensures.items) in
    let result : Result (List Instance) WalkFault = Err c.in-Err.fault in
    carried (λ test these. Refuses result test instance_told too_many most_instances
    (g.C.Calls.calls_of c.args.calls.now) these)
    (map instance_said c.push.new.self.items) (instance_said c.args.entry ∷ []) starts c.in-Err.ensures.refuses
