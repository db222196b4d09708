use Rattle.std.proofs.Common.{ap, length, map, sym, ◌∙◌, unwrap_or}
use Rattle.std.proofs.lemmas.List.{length-map}
use Rattle.au_closing.specs.Instances.{place_in}
use Rattle.au_closing.specs.ClosingViews.{instance_said}
use Rattle.au_graphs.specs.Finding.{found_in, numbers}
use Rattle.au_closing.proofs.WalkLemmas.{number_is}
use Rattle.au_closing.proofs.reached.Reached.number.Goals as goal

pub returns : goal.returns
returns c =
    let finds = c.self.inside.finds in
    let one = instance_said c.args.one.now in
    let count = length c.list-count.result.now in
    c.unwrap_or.ensures
    ∙ ap (λ o. unwrap_or o count) c.place.ensures
    ∙ number_is one (found_in instance_said finds) (map numbers finds.keys.keys) c.in_ok-key.key.items count
    c.self.invariant c.in_ok-key.ensures
    (ap length c.list-count.ensures ∙ sym (length-map finds.list.items instance_said))
    ∙ ap (place_in one) c.self.view_is
