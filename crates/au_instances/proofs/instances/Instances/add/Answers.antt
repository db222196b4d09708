use Rattle.std.proofs.Common.{◌≡◌, ◌++◌, ◌∷◌, [], List, None, Some, ap, subst, sym, ◌∙◌}
use Rattle.au_types.specs.Views.{meaning}
use Rattle.au_instances.specs.declared.rows.Row.{Row as RowGiven}
use Rattle.au_instances.specs.Constructors.{constructor_of}
use Rattle.au_instances.specs.Rows.{Row, row_said, rows_said}
use Rattle.au_instances.specs.Tables.{IsTable, row_of, row_with}
use Rattle.au_instances.proofs.KeyLemmas.{keys_more, rows_more, table_more}
use Rattle.au_instances.proofs.instances.Instances.add.Goals as goal

pub invariant_of-self-2 : goal.invariant_of-self-2
invariant_of-self-2 c =
    let given = c.self.inside.rows.items in
    let row = c.args.row in
    let pushed : c.push_reserved.new.self.items ≡ given ++ row ∷ [] = c.push_reserved.ensures.items
    ∙ ap (λ (items : List RowGiven). items ++ row ∷ []) c.reserve.ensures.items in
    let constructed : constructor_of (meaning row.head) ≡ Some c.in-Some.constructor =
    sym c.constructor_of.ensures ∙ c.in-Some.is in
    let apart : row_with (rows_said given) row.class (constructor_of (meaning row.head)) ≡ None =
    ap (λ (rows : List Row). row_with rows row.class (constructor_of (meaning row.head))) c.self.view_is
    ∙ c.requires.apart in
    let none : row_of (rows_said given) row.class c.in-Some.constructor ≡ None =
    sym (ap (row_with (rows_said given) row.class) constructed) ∙ apart in (
      keys_more c.self.inside.keys.keys c.insert.new.self.keys given c.push_reserved.new.self.items
          (record { class = row.class; constructor = c.in-Some.constructor }) row
          c.self.invariant.0 (ap (λ o. (row.class, o)) (sym constructed)) c.in_ok-insert.ensures.keys pushed none,
      subst IsTable (sym (rows_more given c.push_reserved.new.self.items row pushed))
          (table_more (rows_said given) (row_said row) c.self.invariant.1 c.requires.form apart),
    )
