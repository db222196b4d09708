use Rattle.std.proofs.Common.{[], ◌∷◌, subst}
use Rattle.au_lives.specs.Lives.{held_from}
use Rattle.au_lives.specs.Paths.{declared}
use Rattle.au_clearing.specs.Deals.{seen_at, Sums}
use Rattle.au_clearing.proofs.declaring.forget_name.Goals as goal

pub returns : goal.returns
returns g c =
    subst
    (λ n. Sums c.forget.new.deals
    (λ x free h. seen_at c.args.deals.now x free (held_from x (declared n ∷ []) h)) c.args.deals.now.returns)
    c.bytes_of-bytes.ensures.bytes c.forget.ensures
