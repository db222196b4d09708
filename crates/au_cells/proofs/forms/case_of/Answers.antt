use Rattle.std.proofs.Common.{◌≡◌, ℕ, Some, length, sym, ap, ◌∙◌, arith}
use Rattle.std.specs.Option.{option_map}
use Rattle.au_cells.specs.declared.cells.Cell.{Cell}
use Rattle.au_cells.specs.Cells.{low, taken_apart, case_counted}
use Rattle.au_cells.proofs.FormLemmas.{not_made, made_counted}
use Rattle.au_cells.proofs.forms.case_of.Goals as goal

pub returns-in-Made : goal.returns-in-Made
returns-in-Made c =
    let parts = c.in-Made.parts.value in
    let tag : c.deref.result.now.tag ≡ parts.tag = grind arith in
    let count : c.len.result ≡ length parts.fields.items = grind arith in
    ap (λ (n : ℕ). Some (n, c.len.result)) tag
    ∙ ap (λ (n : ℕ). Some (parts.tag, n)) count
    ∙ sym (ap (λ (one : Cell). option_map case_counted (taken_apart (low one))) c.in-Made.is
    ∙ made_counted c.in-Made.parts)

pub returns-in_default : goal.returns-in_default
returns-in_default c = sym (ap (option_map case_counted) (not_made c.args.cell.now c.in_default.not-Made))
