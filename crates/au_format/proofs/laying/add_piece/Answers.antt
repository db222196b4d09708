-- Each piece lays the file out further.
use Rattle.std.proofs.Common.{◌++◌, ◌-◌, ◌<◌, ◌≤◌, ℕ, List, length, take, drop, ap, ◌∙◌, sym, subst, arith}
use Rattle.std.proofs.Common.{length-drop}
use Rattle.std.specs.Prelude.{slice_index}
use Rattle.std.proofs.lemmas.List.{take_rest, length-take-le}
use Rattle.std.proofs.lemmas.Result.{IfOk-weaker}
use Rattle.au_format.specs.Fronts.{front_at}
use Rattle.au_format.specs.Gaps.{remark_gap}
use Rattle.au_format.specs.Layout.{trimmed}
use Rattle.au_format.specs.Places.{AddsToken, HasLaid, behind_blank, first_size}
use Rattle.au_format.proofs.LayingLemmas.{blank_laid, comment_laid, comment_within, docstring_laid, docstring_within}
use Rattle.au_format.proofs.LayingLemmas.{levels_done, choices_done, token_fits, token_laid}
use Rattle.au_format.proofs.laying.add_piece.Goals as goal

pub add_remark-requires : goal.add_remark-requires
add_remark-requires c =
    omega (
      arith,
      levels_done c.args.bytes.now c.args.tokens.now c.args.text.now.items c.args.place c.requires.laid,
      c.requires.more,
      c.requires.short,
    )

pub add_remark-requires-in-Docstring : goal.add_remark-requires-in-Docstring
add_remark-requires-in-Docstring c =
    omega (
      arith,
      levels_done c.args.bytes.now c.args.tokens.now c.args.text.now.items c.args.place c.requires.laid,
      c.requires.more,
      c.requires.short,
    )

pub add_next_token-requires-clause-levels : goal.add_next_token-requires-clause-levels
add_next_token-requires-clause-levels c =
    omega (
      arith,
      levels_done c.args.bytes.now c.args.tokens.now c.args.text.now.items c.args.place c.requires.laid,
      c.requires.more,
      c.requires.short,
    )

pub add_next_token-requires-clause-choices : goal.add_next_token-requires-clause-choices
add_next_token-requires-clause-choices c =
    omega (
      arith,
      choices_done c.args.bytes.now c.args.tokens.now c.args.text.now.items c.args.place c.requires.laid,
      c.requires.more,
      c.requires.short,
    )

pub behind_remark-requires : goal.behind_remark-requires
behind_remark-requires c =
    let bytes = c.args.bytes.now in
    let done = c.args.place.done in
    let fits = comment_within bytes c.args.tokens.now c.args.text.now.items c.args.place c.requires.laid
    c.requires.more c.in-Comment.size
    (ap front_at (sym (take_rest bytes done)) ∙ sym c.front_at.ensures ∙ c.in-Comment.is) in
    omega (arith, fits, length-drop done bytes, c.requires.more, c.requires.short)

pub behind_remark-requires-in-Docstring : goal.behind_remark-requires-in-Docstring
behind_remark-requires-in-Docstring c =
    let bytes = c.args.bytes.now in
    let done = c.args.place.done in
    let fits = docstring_within bytes c.args.tokens.now c.args.text.now.items c.args.place c.requires.laid
    c.requires.more c.in-Docstring.size
    (ap front_at (sym (take_rest bytes done)) ∙ sym c.front_at.ensures ∙ c.in-Docstring.is) in
    omega (arith, fits, length-drop done bytes, c.requires.more, c.requires.short)

pub slice_bounds-add_remark-end : goal.slice_bounds-add_remark-end
slice_bounds-add_remark-end c =
    let bytes = c.args.bytes.now in
    let done = c.args.place.done in
    let size = c.in-Docstring.size in
    let fits = docstring_within bytes c.args.tokens.now c.args.text.now.items c.args.place c.requires.laid
    c.requires.more size
    (ap front_at (sym (take_rest bytes done)) ∙ sym c.front_at.ensures ∙ c.in-Docstring.is) in
    sym (length-take-le size (take (length bytes - done) (drop done bytes))
    (subst (λ (r : List ℕ). size ≤ length r) (sym (take_rest bytes done)) fits))

pub returns-in-Blank-clause-laid : goal.returns-in-Blank-clause-laid
returns-in-Blank-clause-laid c =
    let bytes = c.args.bytes.now in
    let done = c.args.place.done in
    let rest = take_rest bytes done in
    subst (HasLaid bytes c.args.tokens.now c.args.text.now.items)
    (sym (c.behind_blank.ensures ∙ ap (λ (r : List ℕ). behind_blank c.args.place (slice_index r 0)) rest))
    (blank_laid bytes c.args.tokens.now c.args.text.now.items c.args.place c.requires.laid c.requires.more
    (ap front_at (sym rest) ∙ sym c.front_at.ensures ∙ c.in-Blank.is))

pub returns-in_ok-add_remark-in-Comment-clause-laid : goal.returns-in_ok-add_remark-in-Comment-clause-laid
returns-in_ok-add_remark-in-Comment-clause-laid c =
    let bytes = c.args.bytes.now in
    let p = c.args.place in
    let text = c.args.text.now.items in
    let size = c.in-Comment.size in
    let rest = take_rest bytes p.done in
    let new = c.add_remark.new.text.items in
    subst (HasLaid bytes c.args.tokens.now new) (sym c.behind_remark.ensures)
    (comment_laid bytes c.args.tokens.now text p c.requires.laid c.requires.more new size
    (ap front_at (sym rest) ∙ sym c.front_at.ensures ∙ c.in-Comment.is)
    (c.in_ok-add_remark-in-Comment.ensures
    ∙ ap (λ (t : List ℕ). text ++ (remark_gap p.standing p.last p.lines ++ t))
    (c.trimmed.ensures ∙ ap (λ (r : List ℕ). trimmed (take size r)) rest)))

pub returns-in_ok-add_remark-in-Docstring-clause-laid : goal.returns-in_ok-add_remark-in-Docstring-clause-laid
returns-in_ok-add_remark-in-Docstring-clause-laid c =
    let bytes = c.args.bytes.now in
    let p = c.args.place in
    let text = c.args.text.now.items in
    let size = c.in-Docstring.size in
    let rest = take_rest bytes p.done in
    let new = c.add_remark-in-Docstring.new.text.items in
    subst (HasLaid bytes c.args.tokens.now new) (sym c.behind_remark-in-Docstring.ensures)
    (docstring_laid bytes c.args.tokens.now text p c.requires.laid c.requires.more new size
    (ap front_at (sym rest) ∙ sym c.front_at.ensures ∙ c.in-Docstring.is)
    (c.in_ok-add_remark-in-Docstring.ensures
    ∙ ap (λ (r : List ℕ). text ++ (remark_gap p.standing p.last p.lines ++ take size r)) rest))

pub add_next_token-requires-clause-some : goal.add_next_token-requires-clause-some
add_next_token-requires-clause-some c =
    let bytes = c.args.bytes.now in
    let tokens = c.args.tokens.now in
    let p = c.args.place in
    let fits = token_fits bytes tokens c.args.text.now.items p c.requires.laid c.requires.more
    (ap front_at (sym (take_rest bytes p.done)) ∙ sym c.front_at.ensures ∙ c.in-Token.is) in
    subst (λ t. 0 < length t) (sym (take_rest tokens p.tokens)) fits.0

pub add_next_token-requires-clause-size : goal.add_next_token-requires-clause-size
add_next_token-requires-clause-size c =
    let bytes = c.args.bytes.now in
    let tokens = c.args.tokens.now in
    let p = c.args.place in
    let fits = token_fits bytes tokens c.args.text.now.items p c.requires.laid c.requires.more
    (ap front_at (sym (take_rest bytes p.done)) ∙ sym c.front_at.ensures ∙ c.in-Token.is) in
    subst (λ t. first_size t ≤ length (take (length bytes - p.done) (drop p.done bytes)))
    (sym (take_rest tokens p.tokens))
    (subst (λ (r : List ℕ). first_size (drop p.tokens tokens) ≤ length r) (sym (take_rest bytes p.done)) fits.1)

pub returns-in-Token-clause-laid : goal.returns-in-Token-clause-laid
returns-in-Token-clause-laid c =
    let bytes = c.args.bytes.now in
    let tokens = c.args.tokens.now in
    let p = c.args.place in
    let text = c.args.text.now.items in
    let new = c.add_next_token.new.text.items in
    let rest = take_rest bytes p.done in
    IfOk-weaker c.add_next_token.result _ _ (λ after adds.
    (token_laid bytes tokens text p c.requires.laid c.requires.more new after
    (ap front_at (sym rest) ∙ sym c.front_at.ensures ∙ c.in-Token.is)
    (subst (λ (r : List ℕ). AddsToken text new p after r (drop p.tokens tokens)) rest
    (subst (λ t. AddsToken text new p after (take (length bytes - p.done) (drop p.done bytes)) t)
    (take_rest tokens p.tokens) adds))).0) c.add_next_token.ensures

pub returns-in-Token-clause-further : goal.returns-in-Token-clause-further
returns-in-Token-clause-further c =
    let bytes = c.args.bytes.now in
    let tokens = c.args.tokens.now in
    let p = c.args.place in
    let text = c.args.text.now.items in
    let new = c.add_next_token.new.text.items in
    let rest = take_rest bytes p.done in
    IfOk-weaker c.add_next_token.result _ _ (λ after adds.
    (token_laid bytes tokens text p c.requires.laid c.requires.more new after
    (ap front_at (sym rest) ∙ sym c.front_at.ensures ∙ c.in-Token.is)
    (subst (λ (r : List ℕ). AddsToken text new p after r (drop p.tokens tokens)) rest
    (subst (λ t. AddsToken text new p after (take (length bytes - p.done) (drop p.done bytes)) t)
    (take_rest tokens p.tokens) adds))).1) c.add_next_token.ensures
