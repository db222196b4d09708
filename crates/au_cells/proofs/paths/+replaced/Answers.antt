use Rattle.std.proofs.Common.{◌≡◌, ◌≤◌, ◌<◌, ◌-◌, length, take, drop, get_or, arith, sym, ap, ◌∙◌}
use Rattle.au_effects.specs.Values.{fields_of}
use Rattle.au_effects.specs.Parts as effect
use Rattle.au_cells.specs.declared.cells.Parts.{Parts}
use Rattle.au_cells.specs.Cells.{low, lows}
use Rattle.au_cells.proofs.FormLemmas.{not_made}
use Rattle.au_cells.proofs.PartLemmas.{past_whole, past_old, found_whole, found_old, path_begins, made_whole}
use Rattle.au_cells.proofs.PartLemmas.{made_old, unchanged, no_part}
use Rattle.au_cells.proofs.paths.+replaced.Goals as goal

pub replace_field-returns-then-index-len-clause-whole : goal.replace_field-returns-then-index-len-clause-whole
replace_field-returns-then-index-len-clause-whole t c =
    let fields = c.args.fields.now in
    let past : length fields.items ≤ c.args.index = omega
    (arith, fields.ok.0, c.len.ensures, c.if-index-len.true) in
    past_whole (effect.with_part c.args.rest.now (low c.args.new)) fields.items c.args.index past

pub replace_field-returns-then-index-len-clause-old : goal.replace_field-returns-then-index-len-clause-old
replace_field-returns-then-index-len-clause-old t c =
    let fields = c.args.fields.now in
    let past : length fields.items ≤ c.args.index = omega
    (arith, fields.ok.0, c.len.ensures, c.if-index-len.true) in
    past_old c.args.rest.now fields.items c.args.index past

pub replace_field-returns-clause-whole : goal.replace_field-returns-clause-whole
replace_field-returns-clause-whole t c =
    let fields = c.args.fields.now in
    let held = c.replace-held.result in
    let within : c.args.index < length fields.items = omega
    (arith, fields.ok.0, c.len.ensures, c.if-index-len.false) in
    let is : held ≡ get_or fields.items c.args.index held =
    c.replace-held.ensures.value ∙ c.index_mut.ensures.value
    ∙ ap (get_or fields.items c.args.index) (sym c.replace-held.ensures.value) in
    found_whole (effect.with_part c.args.rest.now
    (low c.args.new)) fields.items c.args.index held c.replace-held.new.dest
    c.replaced-whole.result.whole within is c.replaced-whole.ensures.whole

pub replace_field-returns-clause-old : goal.replace_field-returns-clause-old
replace_field-returns-clause-old t c =
    let fields = c.args.fields.now in
    let held = c.replace-held.result in
    let within : c.args.index < length fields.items = omega
    (arith, fields.ok.0, c.len.ensures, c.if-index-len.false) in
    let is : held ≡ get_or fields.items c.args.index held =
    c.replace-held.ensures.value ∙ c.index_mut.ensures.value
    ∙ ap (get_or fields.items c.args.index) (sym c.replace-held.ensures.value) in
    c.replaced-whole.ensures.old ∙ found_old c.args.rest.now fields.items c.args.index held within is

pub replaced-returns-in-Made-clause-whole : goal.replaced-returns-in-Made-clause-whole
replaced-returns-in-Made-clause-whole t c =
    let path = c.args.path.now in
    let index = get_or path 0 0 in
    let rest = take (length path - 1) (drop 1 path) in
    let begins = path_begins path (sym c.is_empty.ensures ∙ c.if-is_empty.false) in
    let d = c.deref_mut.ensures.value in
    made_whole c.args.cell c.in-Made.parts _ path rest index (low c.args.new) c.in-Made.is begins
    (ap (λ (parts : Parts). parts.tag) d) (ap (λ (parts : Parts). parts.birth) d)
    (c.replace_field-old.ensures.whole
    ∙ ap (λ (parts : Parts). effect.with_nth index (effect.with_part rest (low c.args.new))
    (fields_of (lows parts.fields.items))) d)

pub replaced-returns-in-Made-clause-old : goal.replaced-returns-in-Made-clause-old
replaced-returns-in-Made-clause-old t c =
    let path = c.args.path.now in
    let index = get_or path 0 0 in
    let rest = take (length path - 1) (drop 1 path) in
    let begins = path_begins path (sym c.is_empty.ensures ∙ c.if-is_empty.false) in
    made_old c.args.cell c.in-Made.parts path rest index _ c.in-Made.is begins
    (c.replace_field-old.ensures.old
    ∙ ap (λ (parts : Parts). effect.along (effect.nth_field index (fields_of
    (lows parts.fields.items))) (effect.part rest)) c.deref_mut.ensures.value)

pub replaced-returns-in_default : goal.replaced-returns-in_default
replaced-returns-in_default t c =
    let path = c.args.path.now in
    let index = get_or path 0 0 in
    let rest = take (length path - 1) (drop 1 path) in
    let begins = path_begins path (sym c.is_empty.ensures ∙ c.if-is_empty.false) in
    let apart = not_made c.args.cell c.in_default.not-Made in
    record {
      whole = sym (ap (λ p. effect.with_part p (low c.args.new) (low c.args.cell)) begins
          ∙ unchanged (low c.args.cell) (low c.args.new) index rest apart);
      old = sym (ap (λ p. effect.part p (low c.args.cell)) begins
          ∙ no_part (low c.args.cell) index rest apart);
    }
