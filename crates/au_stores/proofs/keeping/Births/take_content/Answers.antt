use Rattle.std.proofs.Common.{◌≡◌, ℕ, List, Option, None, Some, map, slice_set, nat_eq, ap, sym, ◌∙◌}
use Rattle.std.specs.Option.{option_map}
use Rattle.indexmap.specs.IndexMap.{get}
use Rattle.au_base.proofs.ListLemmas.{set_twice}
use Rattle.au_effects.specs.Worlds as effect
use Rattle.au_effects.specs.Places.{content_in}
use Rattle.au_cells.specs.Cells.{low}
use Rattle.au_stores.specs.declared.worlds.Held.{Held}
use Rattle.au_stores.specs.declared.worlds.Held.TheVariants.{Nothing}
use Rattle.au_stores.specs.Stores.{held_of}
use Rattle.au_stores.proofs.StoreLemmas.{not_content}
use Rattle.au_stores.proofs.BirthLemmas.{content_there, held_with, held_same, kept_twice, kept_back}
use Rattle.au_stores.proofs.keeping.Births.take_content.Goals as goal

pub returns-in_err-other-clause-content : goal.returns-in_err-other-clause-content
returns-in_err-other-clause-content c =
    ap (option_map low) c.from_residual.ensures
    ∙ sym (content_there c.self.inside.count c.args.id (get nat_eq c.self.inside.kept) c.args.self.now
    c.self.view_is c.self.invariant None c.in_err-other.ensures.old)

pub returns-in-Content-clause-content : goal.returns-in-Content-clause-content
returns-in-Content-clause-content c =
    sym (content_there c.self.inside.count c.args.id (get nat_eq c.self.inside.kept) c.args.self.now
    c.self.view_is c.self.invariant (Some c.in_ok-other.other) c.in_ok-other.ensures.old
    ∙ ap (λ (one : Held). content_in (held_of one)) c.in-Content.is)

pub returns-in-Content-clause-births : goal.returns-in-Content-clause-births
returns-in-Content-clause-births c =
    c.end.ensures
    ∙ ap (λ (ones : List (effect.Held ℕ)). slice_set ones c.args.id effect.nothing)
    (held_with c.self.inside.count c.args.id (Some Nothing) (get nat_eq c.self.inside.kept)
    (get nat_eq c.exchange.new.kept) c.args.self.now c.self.view_is c.in_ok-other.ensures.new)
    ∙ set_twice (map held_of c.args.self.now) c.args.id effect.nothing effect.nothing

pub returns-in_default : goal.returns-in_default
returns-in_default c =
    let kept = get nat_eq c.self.inside.kept in
    let other = c.in_ok-other.other in
    record {
      content = sym (content_there c.self.inside.count c.args.id kept c.args.self.now
          c.self.view_is c.self.invariant (Some other) c.in_ok-other.ensures.old
          ∙ not_content other c.in_default.not-Content);
      births = held_same c.self.inside.count kept (get nat_eq c.exchange-in_default.new.kept) c.args.self.now
          c.self.view_is (kept_back c.args.id other kept (get nat_eq c.exchange-in_default.new.kept)
          c.in_ok-other.ensures.old (kept_twice c.args.id Nothing other kept (get nat_eq c.exchange.new.kept)
          (get nat_eq c.exchange-in_default.new.kept) c.exchange-in_default.result c.in_ok-other.ensures.new
          c.exchange-in_default.ensures.old c.exchange-in_default.ensures.new));
    }
