-- What is told of the readers of parts of statements.
use Rattle.std.proofs.Common.{◌≡◌, ℕ, true, [], ◌∷◌, ◌++◌, Option, Some, None, refl, subst}
use Rattle.au_base.specs.declared.tokens.Keyword.TheVariants.{KwAs, KwEnd}
use Rattle.au_base.specs.declared.tokens.Sign.TheVariants.{Colon, ReadBorrow, WriteBorrow, Reborrow}
use Rattle.au_base.specs.declared.tokens.Token.{Token}
use Rattle.au_base.specs.declared.tokens.What.{What}
use Rattle.au_base.specs.declared.tokens.What.TheVariants.{Word, Sign}
use Rattle.au_base.specs.declared.places.Pos.{Pos}
use Rattle.au_syntax.specs.declared.expressions.BorrowMode.{BorrowMode}
use Rattle.au_syntax.specs.declared.expressions.BorrowMode.TheVariants as mode
use Rattle.au_syntax.specs.Names.{Placed, Renaming}
use Rattle.au_syntax.specs.Plain.{Bytes}
use Rattle.au_syntax.specs.Types.{Bound}
use Rattle.au_syntax.specs.Words.{name_words, renaming_words, end_at, mark, mode_sign}
use Rattle.au_parser.specs.Measures.{plains, bound_measures}
use Rattle.au_read_expressions.specs.Bounds.{Bounds}
use Rattle.au_read_expressions.specs.Reading.{name_at, exactly, behind_tokens, pair, optional}
use Rattle.au_read_expressions.specs.TypeReading.{type_at}
use Rattle.au_read_statements.specs.StatementReading.{renaming_of, renaming_at, bound_of, bound_at}
use Rattle.au_read_statements.specs.StatementReading.{place_alone, end_place, mode_of, mode_at}
use Rattle.au_parser.proofs.Told.{Passing, Kind, Is, Example, Honest, token_of}
use Rattle.au_parser.proofs.Ways.{light, light_keeps, behind_kind, pair_kind, pair_honest}
use Rattle.au_parser.proofs.Ways.{shaped_honest, built_honest, value_honest}
use Rattle.au_parser.proofs.Lists.{optional_kind, optional_honest}
use Rattle.au_parser.proofs.Single.{name_kind, name_honest, exactly_kind, exactly_honest}
use Rattle.au_parser.proofs.TypeReaders.{type_kind, type_honest}
use Rattle.au_parser.proofs.Levels.{passing}
use Rattle.au_parser.proofs.Rows.{pair_behind}

-- ---- a name and the name after its `as`

abbrev pub renaming_kind : Kind (Renaming Bytes)
renaming_kind = light renaming_words

abbrev alias_kind : Kind (Option (Placed Bytes))
alias_kind = optional_kind name_kind (Word KwAs)

alias_line : (name : Placed Bytes) (x : Option (Placed Bytes)) → plains (renaming_words (renaming_of (name, x)))
    ≡ plains (name_words name) ++ alias_kind.words x
alias_line name None = refl
alias_line name (Some alias) = refl

pub renaming_honest : (P : Passing) → Honest P renaming_kind renaming_at
renaming_honest P =
    shaped_honest P (pair_kind name_kind alias_kind) renaming_kind (pair name_at (optional (Word KwAs) name_at))
    (pair_honest P name_kind alias_kind name_at (name_honest P) (optional (Word KwAs) name_at)
    (optional_honest P name_kind name_at (name_honest P) (Word KwAs))) renaming_of
    (record { words = λ x g. alias_line x.0 x.1; good = λ x g. refl })

-- ---- a field that is bound

abbrev pub bound_kind : Kind (Bound Bytes)
bound_kind = record { words = bound_measures; good = λ x. true }

pub bound_honest : (b : Bounds) (n : ℕ) → Honest (passing b n) bound_kind (bound_at b)
bound_honest b n =
    shaped_honest (passing b n) (pair_kind renaming_kind (behind_kind type_kind (Sign Colon ∷ []))) bound_kind
    (pair renaming_at (behind_tokens (Sign Colon ∷ []) (type_at b)))
    (pair_behind (passing b n) renaming_kind type_kind renaming_at (renaming_honest (passing b n)) (type_at b)
    (type_honest b n) (Sign Colon ∷ [])) bound_of
    (record { words = λ x g. refl; good = λ x g. refl })

-- ---- an `end` that has a place

abbrev pub end_kind : Kind Pos
end_kind = light end_at

pub end_honest : (P : Passing) → Honest P end_kind end_place
end_honest P = built_honest P (exactly_kind (Word KwEnd ∷ [])) end_kind (exactly (Word KwEnd ∷ []))
    (exactly_honest P (Word KwEnd ∷ [])) place_alone (record { words = λ at x. refl; good = λ at x g. refl })

-- ---- how a variable is borrowed

abbrev pub mode_kind : Kind BorrowMode
mode_kind = light (λ m. mark (mode_sign m))

mode_is : (t : Token) (m x : BorrowMode) → m ≡ x → t.what ≡ Sign (mode_sign m) → Is mode_kind x (t ∷ [])
mode_is t m x same is = subst (λ y. Is mode_kind y (t ∷ [])) same (record { words = ((is, tt), tt); good = refl })

mode_means : (w : What) (t : Token) (x : BorrowMode) → t.what ≡ w → mode_of w ≡ Some x → Is mode_kind x (t ∷ [])
mode_means (Sign ReadBorrow) t x is e = mode_is t mode.Read x (let same : mode.Read ≡ x = cc in same) is
mode_means (Sign WriteBorrow) t x is e = mode_is t mode.Write x (let same : mode.Write ≡ x = cc in same) is
mode_means (Sign Reborrow) t x is e = mode_is t mode.Reborrow x (let same : mode.Reborrow ≡ x = cc in same) is
mode_means other t x is e = absurd cc

mode_example : Example mode_kind
mode_example = record {
  tree = mode.Read;
  tokens = token_of (Sign ReadBorrow) ∷ [];
  is = record { words = ((refl, tt), tt); good = refl };
}

pub mode_honest : (P : Passing) → Honest P mode_kind mode_at
mode_honest P = value_honest P mode_kind mode_example (λ token. mode_of token.what)
    (λ t x e. mode_means t.what t x refl e) (light_keeps P (λ (m : BorrowMode). mark (mode_sign m)))
