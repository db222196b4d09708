use Rattle.au_places.proofs.PlaceLemmas.{node_most, node_self, split_place}
use Rattle.au_places.proofs.laws.places_count.Goals as goal

pub returns-clause-counts : goal.returns-clause-counts
returns-clause-counts c = (λ to n. node_self to n, λ id to n. node_most id to n)

pub returns-clause-splits : goal.returns-clause-splits
returns-clause-splits c = λ id to n. split_place id to n
