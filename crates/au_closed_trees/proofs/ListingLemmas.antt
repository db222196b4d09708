-- Comparing keys is comparing closed types.
use Rattle.std.proofs.Common.{◌≡◌}
use Rattle.au_type_texts.specs.Same.{same}
use Rattle.au_type_texts.proofs.SameLemmas.{same_is, same_self}
use Rattle.au_type_texts.specs.Keys.{key_of}
use Rattle.au_closed_trees.specs.Telling.{type_one}
use Rattle.au_graphs.specs.Finding.{by_key}
use Rattle.au_graphs.proofs.KeyLemmas.{keys_tell}
use Rattle.au_graphs.proofs.TestLemmas.{same_tests}

pub by_keys : by_key key_of ≡ same
by_keys =
    same_tests (by_key key_of) same (keys_tell key_of type_one) (record { agrees = same_is; itself = same_self })
