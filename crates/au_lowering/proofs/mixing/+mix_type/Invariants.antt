use Rattle.std.proofs.Common.{◌≡◌, drop, fold}
use Rattle.au_type_texts.specs.Views.{closed_meanings}
use Rattle.au_type_texts.specs.Keys.{list_key}
use Rattle.au_lowering.specs.Mixing.{mix}
use Rattle.au_lowering.proofs.mixing.+mix_type.Given as goal

-- the state so far and what is left
abbrev pub invariant-mix_list-loop-one : goal.invariant-mix_list-loop-one
invariant-mix_list-loop-one l =
    fold mix l.made (list_key (closed_meanings (drop l.one-index l.one-items)))
    ≡ fold mix l.fn.state (list_key (closed_meanings l.one-items))
