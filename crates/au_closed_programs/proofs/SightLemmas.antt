-- What is seen in a body is what its module sees.
use Rattle.std.proofs.Common.{◌≡◌, ℕ, List}
use Rattle.std.specs.Prelude.{Option}
use Rattle.au_syntax.specs.declared.modules.Part.TheVariants.{Body}
use Rattle.au_types.specs.declared.spaces.Space.TheVariants.{Callables, Values}
use Rattle.au_types.specs.Tables as tables
use Rattle.au_types.specs.declared.parameters.Parameter.{Parameter}
use Rattle.au_types.specs.declared.types.DeclAt.{DeclAt}
use Rattle.au_modules.specs.Programs.{ModuleParts}
use Rattle.au_modules.specs.Slots as slots
use Rattle.au_names.specs.HeadsOf.{heads_of}
use Rattle.au_names.specs.Meanings.{declared_by}
use Rattle.au_classes.specs.Rows.{rows_of}
use Rattle.au_typing.specs.Written.{seen_at}
use Rattle.au_type_texts.specs.Given.{Given}
use Rattle.au_closed_trees.specs.declared.notes.Literal.{Literal}
use Rattle.au_closing.specs.declared.leading.Sight.{Sight}
use Rattle.au_closing.specs.Bodies.{constant_seen}
use Rattle.au_closing.specs.Closes.{change_by}
use Rattle.au_closing.specs.Instances.{Instance, instance_of}
use Rattle.au_closing.specs.Leading.{call_leads, case_name, declared_name, target_leads}
use Rattle.au_closing.specs.ClosingViews.{change_seen, leads_of}

module _ (sight : Sight) (program : List ModuleParts) (place : ℕ) (given : Given)
    (modules : slots.modules sight.program.now ≡ program)
    (rows : sight.instances.now ≡ rows_of program)
    (callables : sight.names.now.callables ≡ seen_at Callables program place Body) where
  -- what calls lead to
  pub leads_same : leads_of sight given ≡ (λ note x name. instance_of (call_leads program place given note name))
  leads_same =
      λ i note x name. instance_of (target_leads (modules i) (rows i) given note (tables.find name (callables i)))

  -- what becomes of notes
  pub change_same : sight.names.now.values ≡ declared_by (seen_at Values program place Body)
      → (all : List Instance) (literal_of : DeclAt → Option Literal) (params : List Parameter)
      → change_seen sight all literal_of params given
      ≡ change_by (heads_of program) literal_of all (constant_seen program place)
      (λ note x name. call_leads program place given note name) (case_name program place) params given
  change_same values all literal_of params =
      λ i. change_by (heads_of (modules i)) literal_of all (λ name. tables.find name (values i))
      (λ note x name. target_leads (modules i) (rows i) given note (tables.find name (callables i)))
      (λ name. declared_name name (tables.find name (callables i))) params given
