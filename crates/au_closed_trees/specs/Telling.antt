-- Keys tell closed types: the proof of the law that the walk asks for.
use Rattle.std.proofs.Common.{◌≡◌, [], ◌∙◌, sym}
use Rattle.std.proofs.lemmas.List.{append-nil}
use Rattle.std.specs.Coded.{Coded, coded_list, coded_ℕ}
use Rattle.au_type_texts.specs.Types.{ClosedType}
use Rattle.au_type_texts.specs.Keys.{key_of}
use Rattle.au_type_texts.proofs.KeyTellLemmas.{key_one}

pub type_one : (a b : ClosedType) → key_of a ≡ key_of b → a ≡ b
type_one a b is = (key_one a b [] [] (append-nil (key_of a) ∙ is ∙ sym (append-nil (key_of b)))).0

-- the code of a closed type: that of its key
abbrev pub type_coded : Coded ClosedType
type_coded = record {
  code = λ one. (coded_list coded_ℕ).code (key_of one);
  inj = λ a b e. type_one a b ((coded_list coded_ℕ).inj (key_of a) (key_of b) e);
}
