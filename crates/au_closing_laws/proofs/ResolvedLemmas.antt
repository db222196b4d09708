-- A method of a class leads to that of the one instance of the class at the type.
use Rattle.std.proofs.Common.{◌≡◌, inl, inr, ℕ, List, [], Option, None, Some, refl, sym, ap, ◌∙◌}
use Rattle.std.specs.Prelude.{unwrap_or}
use Rattle.std.proofs.lemmas.Option.{none-some, same_Some}
use Rattle.au_syntax.specs.declared.modules.Part.TheVariants.{Body}
use Rattle.au_syntax.specs.Plain.{Bytes}
use Rattle.au_types.specs.declared.spaces.Space.TheVariants.{Callables}
use Rattle.au_types.specs.Tables as tables
use Rattle.au_types.specs.declared.types.DeclAt.{DeclAt}
use Rattle.au_types.specs.Types.{parameter}
use Rattle.au_matching.specs.Substituted.{substituted}
use Rattle.au_type_texts.specs.Types.{ClosedType}
use Rattle.au_modules.specs.Programs.{ModuleParts}
use Rattle.au_names.specs.declared.targets.Target.{Target}
use Rattle.au_names.specs.HeadsOf.{heads_of}
use Rattle.au_names.specs.Standing.{standing_at}
use Rattle.au_instances.specs.ClosedInstances.{closed_row}
use Rattle.au_instances.specs.Rows.{Row}
use Rattle.au_instances.specs.Tables.{IsTable}
use Rattle.au_instances.proofs.ClosedLemmas.{closed_row_gave, closed_row_there}
use Rattle.au_classes.specs.Rows.{rows_of}
use Rattle.au_typing.specs.Written.{seen_at}
use Rattle.au_typing.specs.Notes.{Note}
use Rattle.au_type_texts.specs.Given.{Given, closed_under}
use Rattle.au_closing.specs.Leading.{a_method, call_leads, called_leads, called_standing, class_leads}
use Rattle.au_closing.specs.Leading.{method_by_row, method_leads, target_leads}
use Rattle.au_closing_laws.specs.Resolved.{Gives, IsTheInstance, Resolves}

module _ (program : List ModuleParts) (table : IsTable (rows_of program)) (at : DeclAt) (name : Bytes)
    (t : ClosedType) where
  -- the row that is found is the only one
  only : (row other : Row) → closed_row (rows_of program) (heads_of program) t at ≡ Some row →
      Gives program at t other → other ≡ row
  only row other is gives =
      same_Some other row (sym (closed_row_there (rows_of program) (heads_of program) table at t other gives) ∙ is)

  pub class_resolves : Resolves program at name t
  class_resolves = by (closed_row (rows_of program) (heads_of program) t at) refl
    where
      by : (o : Option Row) → closed_row (rows_of program) (heads_of program) t at ≡ o → Resolves program at name t
      by None is =
          inr (
            λ row gives. none-some row
                (sym is ∙ closed_row_there (rows_of program) (heads_of program) table at t row gives),
            ap (method_leads program (rows_of program) name t) is,
          )
      by (Some row) is =
          inl (
            row,
            record {
              gives = closed_row_gave (rows_of program) (heads_of program) table at t row is;
              alone = λ other gives. only row other is gives;
            },
            ap (method_leads program (rows_of program) name t) is,
          )

  pub leads_there : (row : Row) → Gives program at t row → class_leads program (rows_of program) at name t
      ≡ method_by_row program name t row
  leads_there row gives =
      ap (method_leads program (rows_of program) name t)
      (closed_row_there (rows_of program) (heads_of program) table at t row gives)

-- a call of a method leads to that of the one instance
pub call_resolves : (program : List ModuleParts) → IsTable (rows_of program) →
    (place : ℕ) (given : Given) (note : Note) (name method param : Bytes) (target : Target)
    → tables.find name (seen_at Callables program place Body) ≡ Some target
    → called_standing target.name (standing_at program target.at) ≡ Some (a_method method param)
    → (row : Row) → IsTheInstance program target.at
    (closed_under given (substituted (unwrap_or note.call []) (parameter param))) row
    → call_leads program place given note name ≡ method_by_row program method
    (closed_under given (substituted (unwrap_or note.call []) (parameter param))) row
call_resolves program table place given note name method param target means has row is =
    ap (target_leads program (rows_of program) given note) means
    ∙ ap (called_leads program (rows_of program) given note target) has
    ∙ leads_there program table target.at method
    (closed_under given (substituted (unwrap_or note.call []) (parameter param))) row is.gives
