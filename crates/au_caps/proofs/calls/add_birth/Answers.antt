use Rattle.std.proofs.Common.{◌≡◌, List, [], ◌++◌, map, sym, ap, subst, ◌∙◌}
use Rattle.std.specs.Prelude.{OnOk}
use Rattle.std.proofs.lemmas.List.{append-nil}
use Rattle.au_types.specs.Views.{meaning}
use Rattle.au_types.proofs.TypeLemmas.{integer_means, named_means, parameter_means, reads_means, text_means}
use Rattle.au_types.proofs.TypeLemmas.{truth_means, unit_means, writes_means}
use Rattle.au_caps.specs.Calls.{Callee, birth_of}
use Rattle.au_caps.specs.Views.{callee_said}
use Rattle.au_caps.proofs.calls.add_birth.Goals as goal

-- nothing is born
none_born : (start all : List Callee) → all ≡ [] → start ≡ start ++ all
none_born start all is = sym (ap (λ r. start ++ r) is ∙ append-nil start)

pub returns-in-Unit : goal.returns-in-Unit
returns-in-Unit c = none_born _ _ (ap (λ x. birth_of (meaning x)) c.in-Unit.is ∙ ap birth_of unit_means)

pub returns-in-Bool : goal.returns-in-Bool
returns-in-Bool c = none_born _ _ (ap (λ x. birth_of (meaning x)) c.in-Bool.is ∙ ap birth_of truth_means)

pub returns-in-Int : goal.returns-in-Int
returns-in-Int c = none_born _ _ (ap (λ x. birth_of (meaning x)) c.in-Int.is ∙ ap birth_of
    (integer_means c.in-Int.field-0))

pub returns-in-Text : goal.returns-in-Text
returns-in-Text c = none_born _ _ (ap (λ x. birth_of (meaning x)) c.in-Text.is ∙ ap birth_of text_means)

pub returns-in-Param : goal.returns-in-Param
returns-in-Param c = none_born _ _ (ap (λ x. birth_of (meaning x)) c.in-Param.is ∙ ap birth_of
    (parameter_means c.in-Param.field-0))

pub returns-in-Read : goal.returns-in-Read
returns-in-Read c = none_born _ _ (ap (λ x. birth_of (meaning x)) c.in-Read.is ∙ ap birth_of
    (reads_means c.in-Read.to c.in-Read.region))

pub returns-in-Write : goal.returns-in-Write
returns-in-Write c = none_born _ _ (ap (λ x. birth_of (meaning x)) c.in-Write.is ∙ ap birth_of
    (writes_means c.in-Write.to c.in-Write.region))

pub returns-in-Named : goal.returns-in-Named
returns-in-Named c =
    subst (λ l. OnOk c.add_born.result
    (map callee_said c.add_born.new.found.items ≡ map callee_said c.args.found.now.items ++ l))
    (sym (ap (λ x. birth_of (meaning x)) c.in-Named.is ∙ ap birth_of
    (named_means c.in-Named.of c.in-Named.args)))
    c.add_born.ensures
