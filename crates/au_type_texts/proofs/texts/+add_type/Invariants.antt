use Rattle.std.proofs.Common.{◌≡◌, ◌++◌, drop}
use Rattle.au_types.specs.Views.{argument_all}
use Rattle.au_type_texts.specs.Texts as texts
use Rattle.au_type_texts.proofs.TextLemmas.{left_text}
use Rattle.au_type_texts.proofs.texts.+add_type.Given as goal

-- the text so far and what is left
abbrev pub invariant-add_arguments-loop-one : goal.invariant-add_arguments-loop-one
invariant-add_arguments-loop-one l =
    l.text ++ left_text l.heads l.mark (argument_all (drop l.one-index l.one-items))
    ≡ l.fn.text ++ texts.arguments_text l.heads (argument_all l.one-items)
