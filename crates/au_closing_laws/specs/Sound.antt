-- What then holds of reached instances and of their calls.
use Rattle.std.specs.Prelude.{◌≡◌, List, Option, None, Some, IsTrue}
use Rattle.au_syntax.specs.declared.declarations.Universe.{Universe}
use Rattle.au_syntax.specs.Plain.{Bytes}
use Rattle.au_modules.specs.Programs.{ModuleParts}
use Rattle.au_names.specs.HeadsOf.{heads_of}
use Rattle.au_instances.specs.ClosedInstances.{closed_stands, part_of}
use Rattle.au_classes.specs.Rows.{rows_of}
use Rattle.au_typing.specs.Trees.{NotedParts}
use Rattle.au_closed_trees.specs.ClosedNotes.{Callee, constructor, instance, shipped}
use Rattle.au_type_texts.specs.Given.{given_for}
use Rattle.au_closing.specs.Bodies.{BodyOf, body_of}
use Rattle.au_closing.specs.Instances.{Instance}
use Rattle.au_closing_laws.specs.Targets.{IsTypeOf, bounds_of, scope_of}

module _ (program : List ModuleParts) (noted : List NotedParts) where
  -- An instance is sound: its body is there, and the closed type that is given for each of its type
  -- parameters has the universe that the parameter takes, and an instance of each class that constrains it.
  pub record IsSound (one : Instance) : Type 0 where
    pub body : BodyOf
    pub there : body_of program noted one.of ≡ Some body
    pub suits : (name : Bytes) (universe : Universe) → IsTypeOf (scope_of program body) name universe
        → IsTrue (closed_stands (heads_of program) (bounds_of program body) (Some name)
        (part_of (rows_of program) (heads_of program) (given_for one.given name)))

  -- what a call leads to is something: a sound instance, a constructor or a shipped call
  abbrev pub IsSomewhere : Callee (Option Instance) → Type 0
  IsSomewhere (instance None) = ⊥
  IsSomewhere (instance (Some one)) = IsSound one
  IsSomewhere (constructor t tag) = Unit {0}
  IsSomewhere (shipped call) = Unit {0}
