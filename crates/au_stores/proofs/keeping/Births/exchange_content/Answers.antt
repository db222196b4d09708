use Rattle.std.proofs.Common.{◌≡◌, ℕ, List, Option, None, Some, map, slice_set, nat_eq, ap, sym, ◌∙◌}
use Rattle.std.specs.Option.{option_map}
use Rattle.indexmap.specs.IndexMap.{get}
use Rattle.au_effects.specs.Parts.{along, part}
use Rattle.au_effects.specs.Worlds as effect
use Rattle.au_effects.specs.Places.{content_in}
use Rattle.au_low.specs.Machines.{Low}
use Rattle.au_cells.specs.Cells.{low}
use Rattle.au_stores.specs.declared.worlds.Held.{Held}
use Rattle.au_stores.specs.declared.worlds.Held.TheVariants.{Nothing, Content}
use Rattle.au_stores.specs.Stores.{held_of, with_content_part}
use Rattle.au_stores.proofs.StoreLemmas.{not_content}
use Rattle.au_stores.proofs.BirthLemmas.{content_there, held_with, held_same, kept_none, kept_twice, kept_back}
use Rattle.au_stores.proofs.keeping.Births.exchange_content.Goals as goal
use Rattle.au_stores.proofs.keeping.Births.exchange_content.Goals.{in-Made-2, in-Reference-2, in-Unit-2}

pub returns-in_err-other-clause-old : goal.returns-in_err-other-clause-old
returns-in_err-other-clause-old c =
    ap (option_map low) c.from_residual.ensures
    ∙ sym (ap (λ (one : Option Low). along one (part c.args.path.now))
    (content_there c.self.inside.count c.args.id (get nat_eq c.self.inside.kept) c.args.self.now
    c.self.view_is c.self.invariant None c.in_err-other.ensures.old))

pub returns-in_err-other-clause-births : goal.returns-in_err-other-clause-births
returns-in_err-other-clause-births c =
    let kept = get nat_eq c.self.inside.kept in
    held_same c.self.inside.count kept (get nat_eq c.exchange.new.kept) c.args.self.now c.self.view_is
    (kept_none c.args.id kept (get nat_eq c.exchange.new.kept) c.in_err-other.ensures.old c.in_err-other.ensures.new)
    ∙ sym (ap (λ (one : Option Low). with_content_part c.args.id c.args.path.now (low c.args.new) one
    (map held_of c.args.self.now))
    (content_there c.self.inside.count c.args.id kept c.args.self.now
    c.self.view_is c.self.invariant None c.in_err-other.ensures.old))

pub returns-in-Content-clause-old : goal.returns-in-Content-clause-old
returns-in-Content-clause-old c =
    c.replace-old.ensures.old
    ∙ sym (ap (λ (one : Option Low). along one (part c.args.path.now))
    (content_there c.self.inside.count c.args.id (get nat_eq c.self.inside.kept) c.args.self.now
    c.self.view_is c.self.invariant (Some c.in_ok-other.other) c.in_ok-other.ensures.old
    ∙ ap (λ (one : Held). content_in (held_of one)) c.in-Content.is))

pub returns-in-Content-clause-births : goal.returns-in-Content-clause-births
returns-in-Content-clause-births c =
    let kept = get nat_eq c.self.inside.kept in
    let births = map held_of c.args.self.now in
    held_with c.self.inside.count c.args.id (Some (Content c.replace-old.new.cell)) kept
    (get nat_eq c.exchange-in-Content.new.kept) c.args.self.now c.self.view_is
    (kept_twice c.args.id Nothing (Content c.replace-old.new.cell) kept (get nat_eq c.exchange.new.kept)
    (get nat_eq c.exchange-in-Content.new.kept) c.exchange-in-Content.result c.in_ok-other.ensures.new
    c.exchange-in-Content.ensures.old c.exchange-in-Content.ensures.new)
    ∙ ap (λ (one : Low). slice_set births c.args.id (effect.content one)) c.replace-old.ensures.whole
    ∙ sym (ap (λ (one : Option Low). with_content_part c.args.id c.args.path.now (low c.args.new) one births)
    (content_there c.self.inside.count c.args.id kept c.args.self.now
    c.self.view_is c.self.invariant (Some c.in_ok-other.other) c.in_ok-other.ensures.old
    ∙ ap (λ (one : Held). content_in (held_of one)) c.in-Content.is))

pub returns-in_default : goal.returns-in_default
returns-in_default c =
    let kept = get nat_eq c.self.inside.kept in
    let other = c.in_ok-other.other in
    let births = map held_of c.args.self.now in
    let none = content_there c.self.inside.count c.args.id kept c.args.self.now
    c.self.view_is c.self.invariant (Some other) c.in_ok-other.ensures.old
    ∙ not_content other c.in_default.not-Content in
    let same = held_same c.self.inside.count kept (get nat_eq c.exchange-in_default.new.kept) c.args.self.now
    c.self.view_is (kept_back c.args.id other kept (get nat_eq c.exchange-in_default.new.kept)
    c.in_ok-other.ensures.old (kept_twice c.args.id Nothing other kept (get nat_eq c.exchange.new.kept)
    (get nat_eq c.exchange-in_default.new.kept) c.exchange-in_default.result c.in_ok-other.ensures.new
    c.exchange-in_default.ensures.old c.exchange-in_default.ensures.new))
    ∙ sym (ap (λ (one : Option Low). with_content_part c.args.id c.args.path.now (low c.args.new) one births) none) in
    record {
      old = sym (ap (λ (one : Option Low). along one (part c.args.path.now)) none);
      births = elim c.match-new-2.branch [
        | in-Made-2 w ↦ ap (map held_of) w.self-is ∙ same
        | in-Reference-2 w ↦ ap (map held_of) w.self-is ∙ same
        | in-Unit-2 w ↦ ap (map held_of) w.self-is ∙ same
      ];
    }
