-- A value that isn't of a variant's form is no value of that form; and the parts of one that is.
use Rattle.std.proofs.Common.{◌≡◌, ℕ, Bool, List, length, Some, None, ap, ◌∙◌, sym, refl}
use Rattle.std.proofs.lemmas.List.{length-map}
use Rattle.std.specs.Global.{Global}
use Rattle.std.specs.Option.{option_map}
use Rattle.std.specs.declared.boxed.Box.{Box}
use Rattle.au_effects.specs.Numbers.{truth_in, text_in}
use Rattle.au_effects.specs.Calls.{root_in, box_in, buffer_in, terminal_in}
use Rattle.au_effects.specs.References.{reference_in}
use Rattle.au_effects.proofs.PartLemmas.{listed_fields}
use Rattle.au_cells.specs.declared.cells.Borrowed.{Borrowed}
use Rattle.au_cells.specs.declared.cells.Parts.{Parts}
use Rattle.au_cells.specs.declared.cells.Cell.{Cell}
use Rattle.au_cells.specs.declared.cells.Cell.TheBlock.{shown-the_row-Cell-0, backs-Cell}
use Rattle.au_cells.specs.declared.cells.Cell as cell
use Rattle.au_cells.specs.Cells.{Low, low, lows, taken_apart, apart_of, case_counted}
use Rattle.au_cells.proofs.CellLemmas.{made_is}

pub not_truth : (c : Cell) → ((x : Bool) → c ≡ cell.Truth x → ⊥) → truth_in (low c) ≡ None
unfolding low
not_truth (cell.Truth x) differs = absurd (differs x refl)
not_truth c differs = refl

pub not_text : (c : Cell) → ((x : ℕ) → c ≡ cell.Text x → ⊥) → text_in (low c) ≡ None
unfolding low
not_text (cell.Text x) differs = absurd (differs x refl)
not_text c differs = refl

pub not_box : (c : Cell) → ((x : ℕ) → c ≡ cell.BoxOf x → ⊥) → box_in (low c) ≡ None
unfolding low
not_box (cell.BoxOf x) differs = absurd (differs x refl)
not_box c differs = refl

pub not_buffer : (c : Cell) → ((x : ℕ) → c ≡ cell.BufferOf x → ⊥) → buffer_in (low c) ≡ None
unfolding low
not_buffer (cell.BufferOf x) differs = absurd (differs x refl)
not_buffer c differs = refl

pub not_terminal : (c : Cell) → ((x : ℕ) → c ≡ cell.Terminal x → ⊥) → terminal_in (low c) ≡ None
unfolding low
not_terminal (cell.Terminal x) differs = absurd (differs x refl)
not_terminal c differs = refl

pub not_root : (c : Cell) → ((x : ℕ) → c ≡ cell.Root x → ⊥) → root_in (low c) ≡ None
unfolding low
not_root (cell.Root x) differs = absurd (differs x refl)
not_root c differs = refl

pub not_reference : (c : Cell) → ((x : Box Borrowed Global) → c ≡ cell.Reference x → ⊥)
    → reference_in (low c) ≡ None
unfolding low
not_reference (cell.Reference x) differs = absurd (differs x refl)
not_reference c differs = refl

-- a value is made of parts, or it can't be taken apart
pub not_made : (c : Cell) → ((x : Box Parts Global) → c ≡ cell.Made x → ⊥) → taken_apart (low c) ≡ None
unfolding low
not_made (cell.Made' p tag birth shape row) differs =
    absurd (differs
    (record {
      ptr = p.ptr;
      alloc = p.alloc;
      value = record {
        tag = tag;
        birth = birth;
        fields = shown-the_row-Cell-0 shape row;
      };
    })
    (sym (backs-Cell (cell.Made' p tag birth shape row))))
not_made c differs = refl

-- a value that is made of these parts
pub made_apart : (parts : Box Parts Global)
    → taken_apart (low (cell.Made parts)) ≡ Some (apart_of parts.value)
made_apart parts =
    ap taken_apart (made_is parts)
    ∙ ap (λ (values : List Low). Some
    (record { tag = parts.value.tag; birth = parts.value.birth; fields = values })) (listed_fields
    (lows parts.value.fields.items))

pub made_counted : (parts : Box Parts Global)
    → option_map case_counted (taken_apart (low (cell.Made parts)))
    ≡ Some (parts.value.tag, length parts.value.fields.items)
made_counted parts =
    ap (option_map case_counted) (made_apart parts)
    ∙ ap (λ n. Some (parts.value.tag, n)) (length-map parts.value.fields.items low)
