use Rattle.std.proofs.Common.{ap, find, sym, ◌∙◌}
use Rattle.std.specs.Option.{option_map}
use Rattle.au_classes.specs.Faults.{is_like, place_of}
use Rattle.au_classes.specs.ClassViews.{known_rows}
use Rattle.au_classes.proofs.KnownLemmas.{like_none}
use Rattle.au_classes.proofs.known.Known.place_like.Goals as goal

pub returns-in-None : goal.returns-in-None
returns-in-None c =
    let known = known_rows c.args.self.now.places.items c.args.self.now.rows in
    let class = c.args.row.now.class in
    sym
    (ap (λ o. option_map place_of (find (is_like class o) known)) (sym c.in-None.ensures)
    ∙ ap (option_map place_of) (like_none class known))
