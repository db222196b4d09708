use Rattle.std.proofs.Common.{◌<◌, ◌∙◌, Bool, true, List, Some, length, refl, subst}
use Rattle.std.proofs.lemmas.List.{length-set}
use Rattle.std.proofs.lemmas.List.Elements.{All-pop}
use Rattle.au_graphs.specs.Peeling.{IsVisit}
use Rattle.au_graphs.specs.declared.peeling.Visit.{Visit}
use Rattle.au_graphs.proofs.PeelingLemmas.{path_begun}
use Rattle.au_graphs.proofs.peeling.peel_from.Goals as goal

pub loop-visit-init : goal.loop-visit-init
loop-visit-init c =
    let graph = c.args.graph.now in
    let start = c.args.start in
    let first : Visit = record { node = start; passed = 0 } in
    let below = subst (λ (marks : List Bool). start < length marks) c.deref.ensures.value
    (c.is_marked.ensures.within c.if-is_marked.false) in
    record {
      sized = (length-set c.args.seen.now.items start true ∙ c.requires.sized.0, c.requires.sized.1);
      peeled = c.requires.peeled;
      path = path_begun graph c.args.done.now.items c.in_ok-path.path.items first c.in_ok-path.ensures.items
          (subst (λ n. start < n) c.requires.sized.0 below) refl;
    }

pub go_on-requires-clause-visit : goal.go_on-requires-clause-visit
go_on-requires-clause-visit c =
    (All-pop (IsVisit c.args.graph.now c.loop-visit.done.items) c.loop-visit.path.items c.pop.new.self.items
    (Some c.in-Some.visit) c.in-Some.ensures.items c.loop-visit.invariant.path).1

pub loop-visit-preserved : goal.loop-visit-preserved
loop-visit-preserved c = record {
  sized = c.in_ok-go_on.ensures.sized;
  peeled = c.in_ok-go_on.ensures.peeled;
  path = c.in_ok-go_on.ensures.path;
}

pub returns : goal.returns
returns c = record { sized = c.loop-visit.invariant.sized; peeled = c.loop-visit.invariant.peeled }
