-- A body that is good by the rules, and what its names get through.
use Rattle.std.specs.Prelude.{◌≡◌, ℕ, ◌+◌, Bool, List, [], ◌++◌, length, map}
use Rattle.au_lives.specs.declared.lives.Sort.{Sort}
use Rattle.au_lives.specs.Refusals.{GoodLives}
use Rattle.au_memory.specs.Forests.{empty, ready}
use Rattle.au_meaning.specs.Meanings.{scope_of}
use Rattle.au_meaning.specs.Views.{Field, Function}
use Rattle.au_program_lives.specs.Variables.{variables_of}
use Rattle.au_rules.specs.declared.marks.Kind.{Kind}
use Rattle.au_rules.specs.declared.marks.Kind.TheVariants.{Values}
use Rattle.au_rules.specs.declared.marks.Mark.{Mark}
use Rattle.au_rules.specs.Marks.{block_marks, labelled_mark}
use Rattle.au_rules.specs.Once.{AreNew}
use Rattle.au_syntax.specs.Modules.{Constrained, Header}
use Rattle.au_syntax.specs.Plain.{Bytes, plain_statements}
use Rattle.au_syntax.specs.Types.{Labelled}
use Rattle.au_typing.specs.Bodies.{GoodBody, generics_in, outer_scope}
use Rattle.au_typing.specs.Notes.{Note}
use Rattle.au_typing.specs.Scopes.{Outside}
use Rattle.au_running_lives.specs.Lives.{AheadAll, put_each}
use Rattle.au_judged_bodies.specs.Kept.{Keeps}
use Rattle.au_judged_bodies.specs.Lived.{IsLived, loose_by}
use Rattle.au_judged_bodies.specs.Parts.{EachIn}
use Rattle.au_judged_bodies.specs.Sorts.{sorts_of}
use Rattle.au_judged_bodies.specs.Said.{TellsFree, types_of}

-- A function has a body that is good by the rules of typing, over what is outside of it, its type parameters
-- and its header; what is seen of its notes says what is Free; each of its variables has a good life; and no
-- name is declared again in its text.
pub record IsGoodFunction {I : Type 0} (f : Function I Note (Unit {0})) (outside : Outside)
    (generics : List (Constrained Bytes)) (header : Header Bytes) : Type 0 where
  pub body : GoodBody outside generics header f.body
  pub parameters : map (λ (p : Labelled Bytes). p.name.name) header.parameters
      ≡ map (λ (p : Field). p.name) f.parameters
  pub tells : TellsFree f.view (outer_scope outside (generics_in outside generics))
  pub lives : GoodLives (variables_of header.parameters (plain_statements (λ (b : Bytes). b) f.body)
      (types_of (outer_scope outside (generics_in outside generics))))
  pub foreign : Kind → Bytes → Bool
  pub before : List Mark
  pub new : AreNew foreign before
      (map (labelled_mark Values) header.parameters
      ++ block_marks (plain_statements (λ (b : Bytes). b) f.body))

-- what its variables ask, by number
abbrev pub sorts_in : {I : Type 0} → Function I Note (Unit {0}) → Outside → List (Constrained Bytes)
    → Header Bytes → ℕ → Sort
sorts_in f outside generics header =
    sorts_of f header.parameters (types_of (outer_scope outside (generics_in outside generics)))

-- Then each name that it declares is new and has a good life, by its number; all names get through what lies
-- ahead of them; and nothing is consumed where an expression may leave out to look.
abbrev pub BodiesAreAhead : {I : Type 0} → Function I Note (Unit {0}) → Type 0
BodiesAreAhead f =
    (outside : Outside) (generics : List (Constrained Bytes)) (header : Header Bytes)
    → IsGoodFunction f outside generics header
    → IsLived (sorts_in f outside generics header) f
    × AheadAll f.view (loose_by (sorts_in f outside generics header)) (f.first + length f.parameters)
    (scope_of f) [] f.body (λ h. ⊥) (put_each f.first (length f.parameters) ready (λ k. empty))
    × EachIn f.view (λ scope e. Keeps f.view scope e) (λ number scope x block. Unit {0})
    (f.first + length f.parameters) (scope_of f) f.body
