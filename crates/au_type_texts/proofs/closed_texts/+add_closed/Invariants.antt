use Rattle.std.proofs.Common.{◌≡◌, ◌++◌, drop}
use Rattle.au_type_texts.specs.ClosedTexts.{list_text}
use Rattle.au_type_texts.specs.Views.{closed_meanings}
use Rattle.au_type_texts.proofs.ClosedTextLemmas.{left_text}
use Rattle.au_type_texts.proofs.closed_texts.+add_closed.Given as goal

-- the text so far and what is left
abbrev pub invariant-add_list-loop-one : goal.invariant-add_list-loop-one
invariant-add_list-loop-one l =
    l.text ++ left_text l.heads l.mark (closed_meanings (drop l.one-index l.one-items))
    ≡ l.fn.text ++ list_text l.heads (closed_meanings l.one-items)
