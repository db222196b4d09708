use Rattle.std.proofs.Common.{arith, ap, sym, ◌∙◌}
use Rattle.au_lowering_expressions.specs.Views.{scope_said}
use Rattle.au_meaning.specs.Names.{variable_of}
use Rattle.au_typing.specs.Places.{place_in}
use Rattle.au_lowering_expressions.proofs.InnermostLemmas.{got, got_none, within_list}
use Rattle.au_lowering_expressions.proofs.locals.Locals.find.Goals as goal

pub index-requires : goal.index-requires
index-requires c = grind (
  arith,
  within_list c.args.name.now c.self.inside.list.items c.self.inside.places c.in-Some.place c.self.invariant
      (sym c.in-Some.is ∙ c.get.ensures ∙ ap (λ n. place_in n c.self.inside.places) c.as_bytes.ensures.bytes),
)

pub returns-in-Some : goal.returns-in-Some
returns-in-Some c =
    got c.args.name.now c.self.inside.list.items c.self.inside.places c.in-Some.place c.index.result.now
    c.self.invariant
    (sym c.in-Some.is ∙ c.get.ensures ∙ ap (λ n. place_in n c.self.inside.places) c.as_bytes.ensures.bytes)
    c.index.ensures
    ∙ ap (λ l. variable_of (scope_said l) c.args.name.now) c.self.view_is

pub returns-in-None : goal.returns-in-None
returns-in-None c =
    got_none c.args.name.now c.self.inside.list.items c.self.inside.places c.self.invariant
    (sym c.in-None.is ∙ c.get.ensures ∙ ap (λ n. place_in n c.self.inside.places) c.as_bytes.ensures.bytes)
    ∙ ap (λ l. variable_of (scope_said l) c.args.name.now) c.self.view_is
