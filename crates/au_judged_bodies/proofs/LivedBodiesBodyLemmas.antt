-- What the rules give of a body is put together.
use Rattle.std.proofs.Common.{ℕ, ◌+◌, List, [], ◌∷◌, length, Some}
use Rattle.au_lives.specs.declared.lives.Sort.{Sort}
use Rattle.au_meaning.specs.Meanings.{scope_of}
use Rattle.au_meaning.specs.Names.{Scope, with_name}
use Rattle.au_meaning.specs.Views.{Field, Function, View}
use Rattle.au_typing.specs.Notes.{Note, NotedExpression}
use Rattle.au_typing.specs.Trees.{NotedStatements}
use Rattle.au_judged_bodies.proofs.KeptPartsBodyLemmas.{parts_kept}
use Rattle.au_judged_bodies.specs.LivedBodiesBodies.{BodiesAreAhead, sorts_in}
use Rattle.au_judged_bodies.specs.Lived.{IsLived, Lives, SaysSorts}
use Rattle.au_judged_bodies.specs.Parts.{EachParameter}
use Rattle.au_judged_bodies.proofs.LivedLemmas.{lives_ahead}
use Rattle.au_judged_bodies.proofs.NamesAheadPartLemmas.{both_in}
use Rattle.au_judged_bodies.specs.New.{IsNewIn}
use Rattle.au_judged_bodies.proofs.NewLemmas.{names_new}
use Rattle.au_judged_bodies.specs.Sorts.{IsGoodOver}
use Rattle.au_judged_bodies.proofs.NumberLemmas.{lives_numbered}
use Rattle.au_judged_bodies.specs.Said.{types_of}
use Rattle.au_judged_bodies.proofs.SaidLemmas.{sorts_said}
use Rattle.au_typing.specs.Bodies.{generics_in, outer_scope}

module _ {I : Type 0} (see : View I Note (Unit {0})) (sorts : ℕ → Sort) where
  abbrev Nothing : Scope → NotedExpression → Type 0
  Nothing scope e = Unit {0}

  -- parameters are new, and have good lives
  parameters : (number : ℕ) (scope : Scope) (given : List Field) (body : NotedStatements)
      → EachParameter see Nothing (λ n s x b. IsNewIn n s x b) number scope given body
      → EachParameter see Nothing (λ n s x b. IsGoodOver sorts n s x b) number scope given body
      → EachParameter see (SaysSorts sorts see) (Lives sorts see) number scope given body
  parameters number scope [] body new good = tt
  parameters number scope (p ∷ rest) body new good = (
    (new.0, good.0),
    parameters (number + 1) (with_name p.name number
        (Some p.of) scope) rest body new.1 good.1,
  )

pub bodies_ahead : {I : Type 0} (f : Function I Note (Unit {0})) → BodiesAreAhead f
bodies_ahead f outside generics header is =
    let outer = outer_scope outside (generics_in outside generics) in
    let sorts = λ (k : ℕ). sorts_in f outside generics header k in
    let new = names_new f is.foreign is.before header.parameters is.parameters is.new in
    let good = lives_numbered f header.parameters (types_of outer) is.parameters is.lives in
    let says = sorts_said f outside generics header is.body is.parameters is.tells in
    let number = f.first + length f.parameters in
    let declared = both_in f.view (λ scope e. Unit {0}) (λ scope e. Unit {0}) (λ scope e. Unit {0})
    (λ n s x b. IsNewIn n s x b) (λ n s x b. IsGoodOver sorts n s x b) (λ n s x b. Lives sorts f.view n s x b)
    (λ scope e a b. tt) (λ n s x b a c. (a, c)) number (scope_of f) f.body new.1 good.1 in
    let body = both_in f.view (λ scope e. SaysSorts sorts f.view scope e) (λ scope e. Unit {0})
    (λ scope e. SaysSorts sorts f.view scope e) (λ n s x b. Unit {0}) (λ n s x b. Lives sorts f.view n s x b)
    (λ n s x b. Lives sorts f.view n s x b) (λ scope e a b. a) (λ n s x b a c. c) number
    (scope_of f) f.body says declared in
    let lived : IsLived sorts f =
    record { parameters = parameters f.view sorts f.first [] f.parameters f.body new.0 good.0; body = body }
    in
    (lived, lives_ahead sorts f lived is.body.returned, parts_kept sorts f lived)
