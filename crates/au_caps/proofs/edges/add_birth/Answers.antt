use Rattle.std.proofs.Common.{[], ap, refl, subst}
use Rattle.std.specs.Option.{option_map}
use Rattle.std.specs.Prelude.{OnOk, option_to_list}
use Rattle.au_caps.specs.Views.{Grows}
use Rattle.au_caps.proofs.GrowLemmas.{grows_as, grows_none}
use Rattle.au_caps.proofs.edges.add_birth.Goals as goal

pub returns-in-None : goal.returns-in-None
returns-in-None c =
    grows_as [] [] [] _ _ _ refl (ap (λ o. option_to_list (option_map (λ l. (l, c.args.own)) o))
    c.in-None.ensures)
    (grows_none c.args.web.now)

pub returns-in-Some : goal.returns-in-Some
returns-in-Some c =
    subst (λ o. OnOk c.bear.result (Grows [] (option_to_list (option_map (λ l. (l, c.args.own)) o))
    c.args.web.now
    c.bear.new.self)) c.in-Some.ensures c.bear.ensures
