use Rattle.au_owners.proofs.OwnerLemmas.{parts_are_own}
use Rattle.au_owners.proofs.laws.opaque_parts_are_own.Goals as goal

pub returns : goal.returns
returns c = λ program place m part name target d here means stands defines.
    parts_are_own program place m part name target d here means stands defines
