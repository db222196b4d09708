use Rattle.std.proofs.Common.{◌≡◌, drop, length}
use Rattle.au_type_texts.specs.Same.{same_all}
use Rattle.au_type_texts.specs.Views.{closed_meanings}
use Rattle.au_type_texts.proofs.comparing.+same_closed.Given as goal

-- the types so far are the same, so those that are left decide
abbrev pub invariant-same_lists-loop-index : goal.invariant-same_lists-loop-index
invariant-same_lists-loop-index l = record {
  lengths : length l.list.items ≡ length l.others.items;
  rest : same_all (closed_meanings l.list.items) (closed_meanings l.others.items)
      ≡ same_all (closed_meanings (drop l.index l.list.items)) (closed_meanings (drop l.index l.others.items));
}
