use Rattle.std.proofs.Common.{◌≡◌, Some, refl, subst, sym, map}
use Rattle.std.specs.List.{list_any}
use Rattle.std.specs.Prelude.{slice_get}
use Rattle.au_graphs.specs.Finding.{numbers}
use Rattle.au_caps.proofs.GrowLemmas.{grows_keys}
use Rattle.au_caps.proofs.SetLemmas.{are_once, keys_stay, same_key, stored_key}
use Rattle.au_caps.proofs.webs.Web.number.Goals as goal

pub returns-in-Some : goal.returns-in-Some
returns-in-Some c =
    let old = c.args.self.now in
    let stored = c.in_ok-stored.ensures in
    record {
      grows =
          grows_keys old _ refl refl refl
          (λ i key is. subst (λ ks. slice_get (map numbers ks) i ≡ Some key) (sym stored.keys)
          (keys_stay (list_any (same_key c.args.key) old.keys.keys) old.keys.keys c.args.key i key is))
          (are_once _ stored.unique);
      number = λ callee same. (
        c.in_ok-stored.stored.0,
        c.in-Some.ensures.1,
        stored_key _ c.in_ok-stored.stored.0 c.args.key _ same stored.stored,
      );
    }
