use Rattle.std.proofs.Common.{◌≡◌, ℕ, Option, None, Some, nat_eq, ap, sym, ◌∙◌}
use Rattle.std.specs.Option.{option_map}
use Rattle.indexmap.specs.IndexMap.{get}
use Rattle.au_effects.specs.Calls.{elements_in}
use Rattle.au_stores.specs.declared.worlds.Held.{Held}
use Rattle.au_stores.specs.declared.worlds.Held.TheVariants.{Nothing}
use Rattle.au_stores.specs.Stores.{held_of, cells_of}
use Rattle.au_stores.proofs.StoreLemmas.{not_elements}
use Rattle.au_stores.proofs.BirthLemmas.{elements_there, held_with, held_same, kept_twice, kept_back}
use Rattle.au_stores.proofs.keeping.Births.take_elements.Goals as goal

pub returns-in_err-other-clause-elements : goal.returns-in_err-other-clause-elements
returns-in_err-other-clause-elements c =
    ap (option_map cells_of) c.from_residual.ensures
    ∙ sym (elements_there c.self.inside.count c.args.id (get nat_eq c.self.inside.kept) c.args.self.now
    c.self.view_is c.self.invariant None c.in_err-other.ensures.old)

pub returns-in-Elements-clause-elements : goal.returns-in-Elements-clause-elements
returns-in-Elements-clause-elements c =
    sym (elements_there c.self.inside.count c.args.id (get nat_eq c.self.inside.kept) c.args.self.now
    c.self.view_is c.self.invariant (Some c.in_ok-other.other) c.in_ok-other.ensures.old
    ∙ ap (λ (one : Held). elements_in (held_of one)) c.in-Elements.is)

pub returns-in-Elements-clause-births : goal.returns-in-Elements-clause-births
returns-in-Elements-clause-births c =
    held_with c.self.inside.count c.args.id (Some Nothing) (get nat_eq c.self.inside.kept)
    (get nat_eq c.exchange.new.kept) c.args.self.now c.self.view_is c.in_ok-other.ensures.new

pub returns-in_default : goal.returns-in_default
returns-in_default c =
    let kept = get nat_eq c.self.inside.kept in
    let other = c.in_ok-other.other in
    record {
      elements = sym (elements_there c.self.inside.count c.args.id kept c.args.self.now
          c.self.view_is c.self.invariant (Some other) c.in_ok-other.ensures.old
          ∙ not_elements other c.in_default.not-Elements);
      births = held_same c.self.inside.count kept (get nat_eq c.exchange-in_default.new.kept) c.args.self.now
          c.self.view_is (kept_back c.args.id other kept (get nat_eq c.exchange-in_default.new.kept)
          c.in_ok-other.ensures.old (kept_twice c.args.id Nothing other kept (get nat_eq c.exchange.new.kept)
          (get nat_eq c.exchange-in_default.new.kept) c.exchange-in_default.result c.in_ok-other.ensures.new
          c.exchange-in_default.ensures.old c.exchange-in_default.ensures.new));
    }
